use Rattle.std.proofs.Common.{rules, ◌≡◌, refl, sym, ap, ◌∙◌, Some, [], ◌∷◌}
use Rattle.json.specs.Json.{Json, object, no_members, value}
use Rattle.json.specs.Lex.{lex, punctuate}
use Rattle.comm_json.specs.Behind.{tidy, text_value}
use Rattle.comm_json.proofs.reading.read_text.Goals as goal

of_none : text_value (123 ∷ 125 ∷ []) ≡ Some (object no_members)
unfolding value punctuate lex
of_none = refl

pub returns-then-eq-clause-value : goal.returns-then-eq-clause-value
returns-then-eq-clause-value c =
    let empty : c.args.text.now ≡ 123 ∷ 125 ∷ [] = search (rules) in
    ap text_value empty ∙ of_none ∙ ap (λ (j : Json). Some (tidy j)) (sym c.no_members.ensures)
