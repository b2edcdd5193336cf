use Rattle.std.proofs.Common.{◌≡◌, ℕ, zero, suc, ◌<◌, ◌+◌, ◌++◌, List, [], ◌∷◌, length, take, drop, refl, sym, ap, ◌∙◌, arith}
use Rattle.comm_value.specs.declared.val.Member.{Member}
use Rattle.comm_value.specs.Put.{insert}
use Rattle.comm_value.specs.View.{tree, members_of, flat}
use Rattle.comm_value.proofs.Lists.{if_ok, if_both_ok}
use Rattle.comm_value.proofs.Flat.{let_in_flat}
use Rattle.comm_value.proofs.SearchLemmas.{put_between_at, put_absent_at}
use Rattle.comm_value.proofs.chunks.put_shared.Goals as goal

alone : (ms : List Member) (i : ℕ) (m : Member) → length ms ≡ 1 → i < length ms → take i ms ++ m ∷ drop (i + 1) ms ≡ m ∷ []
alone [] i m one within = absurd (omega (arith, within))
alone (x ∷ []) zero m one within = refl
alone (x ∷ []) (suc i) m one within = absurd (omega (arith, within))
alone (x ∷ y ∷ ms) i m one within = absurd (omega (arith, one))

pub returns-then-members-eq1-clause-put : goal.returns-then-members-eq1-clause-put
returns-then-members-eq1-clause-put c =
    let ms = c.args.members.now in
    let ps = c.args.chunks.items in
    let i = c.args.place in
    let m = c.args.member in
    if_both_ok (λ all. take i all.items ≡ take i ps) (λ all. flat (drop i all.items) ≡ m ∷ flat (drop i ps))
    (λ all. (x : List Member) × (flat all.items ≡ flat (take i ps) ++ (x ++ flat (drop i ps))) × (members_of x ≡ insert m.key (tree m.value) (members_of ms))) c.insert_one.result
    (λ all b d. (
      m ∷ [],
      let_in_flat ps all.items i (m ∷ []) b d,
      ap members_of (sym (alone ms c.in-Ok.i m (omega (arith, c.if-members-eq1.true)) c.in-Ok.ensures.found.0)) ∙ put_between_at ms c.in-Ok.i m c.as_str.result.now c.as_str.ensures c.in-Ok.ensures.found,
    ))
    c.insert_one.ensures.before c.insert_one.ensures.behind

pub returns-then-gets_own_chunk-clause-put : goal.returns-then-gets_own_chunk-clause-put
returns-then-gets_own_chunk-clause-put c =
    let ms = c.args.members.now in
    let ps = c.args.chunks.items in
    let i = c.args.place in
    let changed = take c.in-Ok.i ms ++ c.args.member ∷ drop (c.in-Ok.i + 1) ms in
    if_ok (λ all. flat all.items ≡ flat (take i ps) ++ (changed ++ flat (drop i ps)))
    (λ all. (x : List Member) × (flat all.items ≡ flat (take i ps) ++ (x ++ flat (drop i ps))) × (members_of x ≡ insert c.args.member.key (tree c.args.member.value) (members_of ms))) c.cut_out.result
    (λ all h. (changed, h, put_between_at ms c.in-Ok.i c.args.member c.as_str.result.now c.as_str.ensures c.in-Ok.ensures.found)) c.cut_out.ensures.flat

pub returns-in_ok-changed-in-Ok-clause-put : goal.returns-in_ok-changed-in-Ok-clause-put
returns-in_ok-changed-in-Ok-clause-put c =
    let ms = c.args.members.now in
    let ps = c.args.chunks.items in
    let i = c.args.place in
    let changed = c.in_ok-changed-in-Ok.changed.items in
    if_both_ok (λ all. take i all.items ≡ take i ps) (λ all. flat (drop i all.items) ≡ changed ++ flat (drop i ps))
    (λ all. (x : List Member) × (flat all.items ≡ flat (take i ps) ++ (x ++ flat (drop i ps))) × (members_of x ≡ insert c.args.member.key (tree c.args.member.value) (members_of ms))) c.insert_chunk.result
    (λ all b d. (changed, let_in_flat ps all.items i changed b d, ap members_of c.in_ok-changed-in-Ok.ensures ∙ put_between_at ms c.in-Ok.i c.args.member c.as_str.result.now c.as_str.ensures c.in-Ok.ensures.found))
    c.insert_chunk.ensures.before c.insert_chunk.ensures.behind

pub returns-in_ok-changed-in-Err-clause-put : goal.returns-in_ok-changed-in-Err-clause-put
returns-in_ok-changed-in-Err-clause-put c =
    let ms = c.args.members.now in
    let ps = c.args.chunks.items in
    let i = c.args.place in
    let changed = c.in_ok-changed-in-Err.changed.items in
    if_both_ok (λ all. take i all.items ≡ take i ps) (λ all. flat (drop i all.items) ≡ changed ++ flat (drop i ps))
    (λ all. (x : List Member) × (flat all.items ≡ flat (take i ps) ++ (x ++ flat (drop i ps))) × (members_of x ≡ insert c.args.member.key (tree c.args.member.value) (members_of ms))) c.insert_chunk-in-Err.result
    (λ all b d. (changed, let_in_flat ps all.items i changed b d, ap members_of c.in_ok-changed-in-Err.ensures ∙ put_absent_at ms ms c.in-Err.i c.args.member c.as_str.result.now refl c.as_str.ensures c.in-Err.ensures.absent))
    c.insert_chunk-in-Err.ensures.before c.insert_chunk-in-Err.ensures.behind
