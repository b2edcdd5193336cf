use Rattle.std.proofs.Common.{ap, ◌∙◌, option_map, sym}
use Rattle.serde_json.specs.Written.{outline}
use Rattle.comm_json.proofs.LookUp.{get_outline, two_maps}
use Rattle.serde_json.specs.View.{view}
use Rattle.serde_json.proofs.Views.{view_of_ref, view-lookup}
use Rattle.comm_json.proofs.json_ref.ObjectRef.get.Goals as goal

pub returns-in-Some : goal.returns-in-Some
returns-in-Some c = rw c.in-Owned.is (ap (option_map (λ x. outline (view x.now))) (sym c.in-Some.is) ∙ two_maps c.get.result ∙ ap (option_map outline) (view_of_ref c.get.result ∙ ap (option_map view) c.get.ensures.value ∙ view-lookup c.args.key.now c.in-Owned.map.now.entries) ∙ get_outline c.args.key.now _)

pub returns-in-None : goal.returns-in-None
returns-in-None c = rw c.in-Owned.is (ap (option_map (λ x. outline (view x.now))) (sym c.in-None.is) ∙ two_maps c.get.result ∙ ap (option_map outline) (view_of_ref c.get.result ∙ ap (option_map view) c.get.ensures.value ∙ view-lookup c.args.key.now c.in-Owned.map.now.entries) ∙ get_outline c.args.key.now _)
