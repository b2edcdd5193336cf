use Rattle.std.proofs.Common.{◌≡◌, ◌∙◌, ap, refl}
use Rattle.comm_versions.specs.Known.{Known}
use Rattle.comm_shared.specs.SharedView.{newcomer}
use Rattle.comm_c.specs.ClientState.{ClientState}
use Rattle.comm_c.proofs.client.Client.join_in.Goals as goal

pub returns : goal.returns
returns c = record {
  history = c.in-Some.desk.value;
  seat = c.args.seat;
  origin_is = c.in-Some.ensures;
  view_is = c.in-Ok.ensures ∙ ap (λ (h : Known). newcomer h c.args.seat) c.deref.ensures;
  number_is = refl;
  result_is = refl;
  numbers_are = ap (λ (k : ClientState). k.numbers) c.self.view_is;
}
