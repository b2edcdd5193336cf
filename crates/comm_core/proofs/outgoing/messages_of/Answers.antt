use Rattle.std.proofs.Common.{◌≡◌, List, [], ◌∷◌, ◌++◌, map, reverse, ap, sym, ◌∙◌, append_assoc}
use Rattle.std.proofs.lemmas.List.{reverse-append, map-append}
use Rattle.comm_messages.specs.Content.{Content}
use Rattle.comm_messages.specs.declared.outgoing.Outgoing.{Outgoing}
use Rattle.comm_messages.specs.declared.outgoing.Outgoing.TheVariants as out
use Rattle.comm_core.specs.Machine.{Name}
use Rattle.comm_core.specs.Step.{messages_of}
use Rattle.comm_core.proofs.outgoing.messages_of.Goals as goal

-- one more is taken from the end
moved : (id : Name) (rest left : List Content) (all more : List Outgoing) (body : Content) (whole : List Outgoing) → rest ≡ left ++ body ∷ [] → more ≡ all ++ out.Msg id body ∷ []
    → messages_of id rest ++ reverse all ≡ whole → messages_of id left ++ reverse more ≡ whole
moved id rest left all more body whole e pushed h =
    let f : Content → Outgoing = λ b. out.Msg id b in
    ap (λ l. map f left ++ reverse l) pushed ∙ ap (λ l. map f left ++ l) (reverse-append all (f body ∷ [])) ∙ sym (append_assoc (map f left) (f body ∷ []) (reverse all))
    ∙ ap (λ l. l ++ reverse all) (sym (map-append f left (body ∷ []))) ∙ ap (λ l. map f l ++ reverse all) (sym e) ∙ h

pub loop-body-preserved : goal.loop-body-preserved
loop-body-preserved c =
    moved _ _ _ _ _ _ _ c.in-Some.ensures.items (c.in_ok-push.ensures.items ∙ ap (λ i. c.loop-body.all.items ++ out.Msg i c.in-Some.body ∷ []) c.in_ok-id.ensures) c.loop-body.invariant
