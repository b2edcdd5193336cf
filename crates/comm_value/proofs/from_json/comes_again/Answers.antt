use Rattle.std.proofs.Common.{◌≡◌, ℕ, zero, suc, ◌<◌, List, [], ◌∷◌, ◌++◌, length, take, get_or, Option, Some, Bor, Bool, true, false, true≢false, Ordering, Less, Equal, Greater, is_eq, bytes_eq, refl, sym, ap, ◌∙◌, arith}
use Rattle.std.proofs.lemmas.Cmp.{nat_list_cmp_total, tied_itself}
use Rattle.std.proofs.lemmas.List.{take_more, take_all}
use Rattle.std.proofs.lemmas.Map.Text.{is_eq-slice_cmp}
use Rattle.std.proofs.lemmas.Slice.Eq.{bytes_eq-Decides}
use Rattle.std.specs.Ordering.{match_ordering}
use Rattle.json.specs.Json.{Json, Members, no_members, member}
use Rattle.json.specs.Value.{value_view, members_view}
use Rattle.json.specs.declared.value.Value.{Value}
use Rattle.comm_json.specs.Behind.{put, tidy, tidy_members, get_member}
use Rattle.comm_json.proofs.MemberOrder.{put_last}
use Rattle.comm_value.specs.Order.{key_cmp}
use Rattle.comm_value.proofs.Keys.{flip_less, flip_greater, key_trans, key_same}
use Rattle.comm_value.proofs.from_json.comes_again.Goals as goal

abbrev InLine : Type 0 → Type 0
InLine A = Bor (List ℕ) × Value A

same_text : (s : List ℕ) → key_cmp s s ≡ Equal
same_text s = tied_itself nat_list_cmp_total s

same_key : (k l : List ℕ) → key_cmp k l ≡ Equal → k ≡ l
same_key k l is = (bytes_eq-Decides k l).0 (sym (is_eq-slice_cmp k l) ∙ ap is_eq is)

-- ---- what was put last at a key stands

put_put_at : (o : Ordering) (k l : List ℕ) (i j u : Json) (ms : Members) → key_cmp k l ≡ o → put k i (put k j ms) ≡ put k i ms
    → put k i (match_ordering o (member k j (member l u ms)) (member l j ms) (member l u (put k j ms))) ≡ put k i (member l u ms)
put_put_at Less k l i j u ms is later = rw (same_text k, is) refl
put_put_at Equal k l i j u ms is later = rw is refl
put_put_at Greater k l i j u ms is later = rw is (ap (member l u) later)

put_put : (k : List ℕ) (i j : Json) (ms : Members) → put k i (put k j ms) ≡ put k i ms
put_put k i j no_members = rw (same_text k) refl
put_put k i j (member l u ms) = put_put_at _ k l i j u ms refl (put_put k i j ms)

below_at : (o : Ordering) (k l m : List ℕ) (j i u : Json) (ms : Members) → key_cmp k l ≡ Less → key_cmp k m ≡ Less
    → put k j (match_ordering o (member l i (member m u ms)) (member m i ms) (member m u (put l i ms))) ≡ member k j (match_ordering o (member l i (member m u ms)) (member m i ms) (member m u (put l i ms)))
below_at Less k l m j i u ms kl km = rw kl refl
below_at Equal k l m j i u ms kl km = rw km refl
below_at Greater k l m j i u ms kl km = rw km refl

crossed_at : (o : Ordering) (k l m : List ℕ) (j i u : Json) (ms : Members) → key_cmp k l ≡ Less → key_cmp k m ≡ o → put l i (put k j ms) ≡ put k j (put l i ms)
    → put l i (match_ordering o (member k j (member m u ms)) (member m j ms) (member m u (put k j ms))) ≡ put k j (put l i (member m u ms))
crossed_at Less k l m j i u ms kl km later = rw (flip_less k l kl) (sym (below_at (key_cmp l m) k l m j i u ms kl km))
crossed_at Equal k l m j i u ms kl km later =
    let lm : key_cmp l m ≡ Greater = flip_less m l (sym (key_same k m l km) ∙ kl) in
    rw lm (rw km refl)
crossed_at Greater k l m j i u ms kl km later =
    let lm : key_cmp l m ≡ Greater = flip_less m l (key_trans m k l (flip_greater k m km) kl) in
    rw lm (rw km (ap (member m u) later))

crossed : (k l : List ℕ) (j i : Json) (ms : Members) → key_cmp k l ≡ Less → put l i (put k j ms) ≡ put k j (put l i ms)
crossed k l j i no_members kl = rw (flip_less k l kl, kl) refl
crossed k l j i (member m u ms) kl = crossed_at _ k l m j i u ms kl refl (crossed k l j i ms kl)

later_at : {A : Type 0} → (o : Ordering) (ms : List (InLine A)) (k l : List ℕ) (j i : Json) (found : Members) → key_cmp k l ≡ o
    → ((j : Json) (found : Members) → tidy_members (members_view ms) (put k j found) ≡ tidy_members (members_view ms) found)
    → tidy_members (members_view ms) (put l i (put k j found)) ≡ tidy_members (members_view ms) (put l i found)
later_at Less ms k l j i found is again = ap (tidy_members (members_view ms)) (crossed k l j i found is) ∙ again j (put l i found)
later_at Equal ms k l j i found is again = ap (λ x. tidy_members (members_view ms) (put l i (put x j found))) (same_key k l is) ∙ ap (tidy_members (members_view ms)) (put_put l i j found)
later_at Greater ms k l j i found is again = ap (tidy_members (members_view ms)) (sym (crossed l k i j found (flip_greater k l is))) ∙ again j (put l i found)

-- a member with the key comes
overridden : {A : Type 0} → (ms : List (InLine A)) (n : ℕ) (m : InLine A) (k : List ℕ) → n < length ms → m ≡ get_or ms n m → m.0.now ≡ k
    → (j : Json) (found : Members) → tidy_members (members_view ms) (put k j found) ≡ tidy_members (members_view ms) found
overridden [] n m k within at same j found = absurd (omega arith)
overridden (x ∷ ms) zero m k within at same j found =
    let here : x.0.now ≡ k = ap (λ y. y.0.now) (sym at) ∙ same in
    ap (λ l. tidy_members (members_view ms) (put x.0.now (tidy (value_view x.1)) (put l j found))) (sym here) ∙ ap (tidy_members (members_view ms)) (put_put x.0.now (tidy (value_view x.1)) j found)
overridden (x ∷ ms) (suc n) m k within at same j found =
    later_at (key_cmp k x.0.now) ms k x.0.now j (tidy (value_view x.1)) found refl (overridden ms n m k (omega arith) at same)

-- ---- no member with the key comes

get_put_at : (o : Ordering) (k l : List ℕ) (j i : Json) (ms : Members) → key_cmp k l ≡ o → get_member k (put k j ms) ≡ Some j
    → get_member k (match_ordering o (member k j (member l i ms)) (member l j ms) (member l i (put k j ms))) ≡ Some j
get_put_at Less k l j i ms is later = rw (same_text k) refl
get_put_at Equal k l j i ms is later = rw is refl
get_put_at Greater k l j i ms is later = rw is later

get_put : (k : List ℕ) (j : Json) (ms : Members) → get_member k (put k j ms) ≡ Some j
get_put k j no_members = rw (same_text k) refl
get_put k j (member l i ms) = get_put_at _ k l j i ms refl (get_put k j ms)

either : (o : Ordering) (a b : Option Json) → is_eq o ≡ false → match_ordering o a b a ≡ a
either Less a b e = refl
either Equal a b e = absurd (true≢false e)
either Greater a b e = refl

differ : (xs ys : List ℕ) (b : Bool) → bytes_eq xs ys ≡ b → (xs ≡ ys → ⊥) → b ≡ false
differ xs ys true e other = absurd (other ((bytes_eq-Decides xs ys).0 e))
differ xs ys false e other = refl

skips : (q k : List ℕ) (j : Json) (ms : Members) → (q ≡ k → ⊥) → get_member q (member k j ms) ≡ get_member q ms
skips q k j ms other = either (key_cmp q k) _ _ (is_eq-slice_cmp q k ∙ differ q k _ refl other)

get_other_at : (o : Ordering) (q k l : List ℕ) (j i : Json) (ms : Members) → key_cmp k l ≡ o → (q ≡ k → ⊥) → get_member q (put k j ms) ≡ get_member q ms
    → get_member q (match_ordering o (member k j (member l i ms)) (member l j ms) (member l i (put k j ms))) ≡ get_member q (member l i ms)
get_other_at Less q k l j i ms is other later = skips q k j (member l i ms) other
get_other_at Equal q k l j i ms is other later =
    let apart = λ (h : q ≡ l). other (h ∙ sym (same_key k l is)) in
    skips q l j ms apart ∙ sym (skips q l i ms apart)
get_other_at Greater q k l j i ms is other later = ap (λ r. match_ordering (key_cmp q l) r (Some i) r) later

get_other : (q k : List ℕ) (j : Json) (ms : Members) → (q ≡ k → ⊥) → get_member q (put k j ms) ≡ get_member q ms
get_other q k j no_members other = skips q k j no_members other
get_other q k j (member l i ms) other = get_other_at _ q k l j i ms refl other (get_other q k j ms other)

-- ---- the goals

pub loop-member-init : goal.loop-member-init
loop-member-init c = λ j found. get_put c.args.key.now j found

pub loop-member-preserved : goal.loop-member-preserved
loop-member-preserved c = λ j found. ap (λ l. get_member c.args.key.now (tidy_members (members_view l) (put c.args.key.now j found))) (take_more c.args.later.now c.loop-member.member-index c.member-item.result c.loop-member-test.true ∙ ap (λ n. take c.loop-member.member-index c.args.later.now ++ n ∷ []) (sym c.member-item.is))
    ∙ (ap (get_member c.args.key.now) (put_last (take c.loop-member.member-index c.args.later.now) c.member-item.result (put c.args.key.now j found))
    ∙ (get_other c.args.key.now c.member-item.result.0.now (tidy (value_view c.member-item.result.1)) _ (λ same. true≢false (sym ((bytes_eq-Decides c.member-item.result.0.now c.args.key.now).1 (sym same)) ∙ sym c.if-eq.ensures)) ∙ c.loop-member.invariant j found))

pub returns-then-eq-clause-again : goal.returns-then-eq-clause-again
returns-then-eq-clause-again c = λ yes. overridden c.args.later.now c.loop-member.member-index c.member-item.result c.args.key.now c.loop-member-test.true c.member-item.is ((bytes_eq-Decides c.member-item.result.0.now c.args.key.now).0 (sym c.if-eq.ensures))

pub returns-clause-stands : goal.returns-clause-stands
returns-clause-stands c = λ no j found. ap (λ l. get_member c.args.key.now (tidy_members (members_view l) (put c.args.key.now j found))) (sym (take_all c.loop-member.member-index c.args.later.now c.loop-member-test.false)) ∙ c.loop-member.invariant j found
