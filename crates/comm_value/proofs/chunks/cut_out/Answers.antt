use Rattle.std.proofs.Common.{◌≡◌, ◌+◌, ◌++◌, [], ◌∷◌, take, drop, refl, ◌∙◌}
use Rattle.comm_value.specs.View.{flat}
use Rattle.comm_value.proofs.Lists.{if_both_ok}
use Rattle.comm_value.proofs.Flat.{three_flat, slice_end}
use Rattle.comm_value.proofs.chunks.cut_out.Goals as goal

pub returns-clause-flat : goal.returns-clause-flat
returns-clause-flat c =
    let ps = c.args.chunks.items in
    let i = c.args.place in
    let two = c.in_ok-all-2.all.items in
    if_both_ok (λ all. take i all.items ≡ take i two) (λ all. flat (drop i all.items) ≡ c.in_ok-before.before.items ++ flat (drop i two))
    (λ all. flat all.items ≡ flat (take i ps) ++ ((take c.args.i c.args.members.now ++ c.args.member ∷ drop (c.args.i + 1) c.args.members.now) ++ flat (drop i ps))) c.insert_chunk-2.result
    (λ all b d. three_flat ps c.in_ok-all.all.items two all.items i c.in_ok-before.before.items _ c.in_ok-behind.behind.items _ c.args.member (c.args.member ∷ []) c.in_ok-before.ensures (c.in_ok-behind.ensures ∙ slice_end c.args.members.now (c.args.i + 1))
    c.in_ok-all.ensures.before c.in_ok-all.ensures.behind c.in_ok-all-2.ensures.before c.in_ok-all-2.ensures.behind refl b d)
    c.insert_chunk-2.ensures.before c.insert_chunk-2.ensures.behind
