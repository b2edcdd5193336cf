-- Values without decimals stay so: where members are put in, merged, or given buffers.
use Rattle.std.proofs.Common.{◌≡◌, ℕ, zero, suc, true, false, cond, List, [], ◌∷◌, Option, None, Some, Ok, Err, Less, Equal, Greater, option_map, option_and_then, map, refl, subst}
use Rattle.std.specs.Prelude.{Result}
use Rattle.std.specs.Ordering.{is_eq, match_ordering}
use Rattle.comm_value.specs.Order.{key_cmp}
use Rattle.comm_value.specs.Tree.{Tree, null, boolean, whole, decimal, text, bytes, list, dict, Items, no_items, item, Members, no_members, member}
use Rattle.comm_value.specs.Node.{Path, get, get_item, child}
use Rattle.comm_value.specs.Places.{plain, plain_items, plain_members}
use Rattle.comm_value.specs.Put.{insert, replace, with_child, put, placed_next, placed_from, placed, members_in, placed_in}
use Rattle.comm_value.specs.Merge.{merged}
use Rattle.comm_value.specs.Paths.{items_from, step_tree, path_tree}
use Rattle.comm_value.specs.Decimals.{HasNoDecimal, ItemsHaveNoDecimal, MembersHaveNoDecimal}
use Rattle.comm_value.specs.declared.path.Step.{Step}
use Rattle.comm_value.specs.declared.path.Step.TheVariants.{Key, Index}
use Rattle.comm_value.specs.declared.fault.ValueFault.{ValueFault}

some_tree : (x y : Tree) → Some x ≡ Some y → x ≡ y
some_tree x y e = cc

some_items : (x y : Items) → Some x ≡ Some y → x ≡ y
some_items x y e = cc

no_tree : (t : Tree) {P : Type 0} → ◌≡◌ {A = Option Tree} None (Some t) → P
no_tree t e = cc

-- ---- parts

pub got : (k : List ℕ) (ms : Members) (t : Tree) → MembersHaveNoDecimal ms → get k ms ≡ Some t → HasNoDecimal t
got k no_members t h is = no_tree t is
got k (member l u ms) t h is =
    let more = got k ms t h.1 in
    (elim (is_eq (key_cmp k l)) as (λ b. cond {A = Option Tree} b (Some u) (get k ms) ≡ Some t → HasNoDecimal t) [
      | true ↦ λ l. subst HasNoDecimal (some_tree u t l) h.0
      | false ↦ λ l. more l
    ]) is

got_item : (n : ℕ) (ts : Items) (t : Tree) → ItemsHaveNoDecimal ts → get_item n ts ≡ Some t → HasNoDecimal t
got_item n no_items t h is = no_tree t is
got_item zero (item u ts) t h is = subst HasNoDecimal (some_tree u t is) h.0
got_item (suc n) (item u ts) t h is = got_item n ts t h.1 is

child_of : (s : Step) (t u : Tree) → HasNoDecimal t → child s t ≡ Some u → HasNoDecimal u
child_of (Key k) (dict ms) u h is = got k ms u h is
child_of (Index n) (list ts) u h is = got_item n ts u h is
child_of s t u h is = no_tree u is

-- ---- changes

pub inserted : (k : List ℕ) (t : Tree) (ms : Members) → HasNoDecimal t → MembersHaveNoDecimal ms → MembersHaveNoDecimal (insert k t ms)
inserted k t no_members h hs = (h, tt)
inserted k t (member l u ms) h hs =
    elim (key_cmp k l) as (λ o. MembersHaveNoDecimal (match_ordering o (member k t (member l u ms)) (member k t ms) (member l u (insert k t ms)))) [
      | Less ↦ (h, hs)
      | Equal ↦ (h, hs.1)
      | Greater ↦ (hs.0, inserted k t ms h hs.1)
    ]

pub merged_so : (s u : Members) → MembersHaveNoDecimal s → MembersHaveNoDecimal u → MembersHaveNoDecimal (merged s u)
merged_so s no_members h hs = h
merged_so s (member k t u) h hs = merged_so (insert k t s) u (inserted k t s hs.0 h) hs.1

replaced : (n : ℕ) (t : Tree) (ts us : Items) → HasNoDecimal t → ItemsHaveNoDecimal ts → replace n t ts ≡ Some us → ItemsHaveNoDecimal us
replaced n t no_items us h hs is = cc
replaced zero t (item u ts) us h hs is = subst ItemsHaveNoDecimal (some_items _ us is) (h, hs.1)
replaced (suc n) t (item u ts) us h hs is =
    let more = replaced n t ts in
    (elim (replace n t ts) as (λ o. replace n t ts ≡ o → option_map (item u) o ≡ Some us → ItemsHaveNoDecimal us) [
      | None ↦ λ _ l. cc
      | Some vs ↦ λ found l. subst ItemsHaveNoDecimal (some_items _ us l) (hs.0, more vs h hs.1 found)
    ]) refl is

with_child_so : (s : Step) (w t u : Tree) → HasNoDecimal w → HasNoDecimal t → with_child s w t ≡ Some u → HasNoDecimal u
with_child_so (Key k) w (dict ms) u h hs is = subst HasNoDecimal (some_tree _ u is) (inserted k w ms h hs)
with_child_so (Index n) w (list ts) u h hs is =
    (elim (replace n w ts) as (λ o. replace n w ts ≡ o → option_map list o ≡ Some u → HasNoDecimal u) [
      | None ↦ λ _ l. no_tree u l
      | Some vs ↦ λ found l. subst HasNoDecimal (some_tree _ u l) (replaced n w ts vs h hs found)
    ]) refl is
with_child_so s w t u h hs is = no_tree u is

put_so : (p : Path) (b : List ℕ) (t u : Tree) → HasNoDecimal t → put p b t ≡ Some u → HasNoDecimal u
put_so [] b t u h is = no_tree u is
put_so (s ∷ []) b t u h is = with_child_so s (bytes b) t u tt h is
put_so (s ∷ r ∷ p) b t u h is =
    let more = put_so (r ∷ p) b in
    (elim (child s t) as (λ c. child s t ≡ c → option_and_then (λ v. option_and_then (λ w. with_child s w t) (put (r ∷ p) b v)) c ≡ Some u → HasNoDecimal u) [
      | None ↦ λ _ l. no_tree u l
      | Some v ↦ λ at l.
          (elim (put (r ∷ p) b v) as (λ o. put (r ∷ p) b v ≡ o → option_and_then (λ w. with_child s w t) o ≡ Some u → HasNoDecimal u) [
            | None ↦ λ _ k. no_tree u k
            | Some w ↦ λ done k. with_child_so s w t u (more v w (child_of s t v h at) done) h k
          ]) refl l
    ]) refl is

-- ---- buffers placed

abbrev Placed : Type 0
Placed = Result Tree ValueFault

ok_tree : (t u : Tree) → ◌≡◌ {A = Placed} (Ok t) (Ok u) → t ≡ u
ok_tree t u e = cc

bad_tree : (f : ValueFault) (u : Tree) {P : Type 0} → ◌≡◌ {A = Placed} (Err f) (Ok u) → P
bad_tree f u e = cc

placed_from_so : (n : ℕ) (ps : List Path) (bs : List (List ℕ)) (t u : Tree) → HasNoDecimal t → placed_from n ps bs t ≡ Ok u → HasNoDecimal u
placed_from_so n [] bs t u h is = subst HasNoDecimal (ok_tree t u is) h
placed_from_so n (p ∷ ps) [] t u h is = bad_tree _ u is
placed_from_so n (p ∷ ps) (b ∷ bs) t u h is =
    let more = placed_from_so (suc n) ps bs in
    (elim (put p b t) as (λ o. put p b t ≡ o → placed_next o n (λ v. placed_from (suc n) ps bs v) ≡ Ok u → HasNoDecimal u) [
      | None ↦ λ _ l. bad_tree _ u l
      | Some v ↦ λ done l. more v u (put_so p b t v h done) l
    ]) refl is

abbrev GivesMembers : Type 0
GivesMembers = Result Members ValueFault

ok_members : (s u : Members) → ◌≡◌ {A = GivesMembers} (Ok s) (Ok u) → s ≡ u
ok_members s u e = cc

bad_members : (f : ValueFault) (u : Members) {P : Type 0} → ◌≡◌ {A = GivesMembers} (Err f) (Ok u) → P
bad_members f u e = cc

members_so : (r : Placed) (s : Members) → ((t : Tree) → r ≡ Ok t → HasNoDecimal t) → members_in r ≡ Ok s → MembersHaveNoDecimal s
members_so (Ok (dict ms)) s h is = subst MembersHaveNoDecimal (ok_members ms s is) (h (dict ms) refl)
members_so (Ok t) s h is = bad_members _ s is
members_so (Err f) s h is = bad_members f s is

pub placed_in_so : (ps : List Path) (bs : List (List ℕ)) (ms s : Members) → MembersHaveNoDecimal ms → placed_in ps bs ms ≡ Ok s → MembersHaveNoDecimal s
placed_in_so ps bs ms s h is = members_so (placed ps bs (dict ms)) s (λ t done. placed_from_so 0 ps bs (dict ms) t h done) is

-- ---- what is sent of a state

mutual
  plain_so : (t : Tree) → HasNoDecimal t → HasNoDecimal (plain t)
  plain_so null h = tt
  plain_so (boolean b) h = tt
  plain_so (whole z) h = tt
  plain_so (decimal s) h = h
  plain_so (text s) h = tt
  plain_so (bytes b) h = tt
  plain_so (list ts) h = plain_items_so ts h
  plain_so (dict ms) h = plain_members_so ms h

  plain_items_so : (ts : Items) → ItemsHaveNoDecimal ts → ItemsHaveNoDecimal (plain_items ts)
  plain_items_so no_items h = tt
  plain_items_so (item null ts) h = (tt, plain_items_so ts h.1)
  plain_items_so (item (boolean b) ts) h = (tt, plain_items_so ts h.1)
  plain_items_so (item (whole z) ts) h = (tt, plain_items_so ts h.1)
  plain_items_so (item (decimal s) ts) h = absurd h.0
  plain_items_so (item (text s) ts) h = (tt, plain_items_so ts h.1)
  plain_items_so (item (bytes b) ts) h = (tt, plain_items_so ts h.1)
  plain_items_so (item (list us) ts) h = (plain_items_so us h.0, plain_items_so ts h.1)
  plain_items_so (item (dict ms) ts) h = (plain_members_so ms h.0, plain_items_so ts h.1)

  pub plain_members_so : (ms : Members) → MembersHaveNoDecimal ms → MembersHaveNoDecimal (plain_members ms)
  plain_members_so no_members h = tt
  plain_members_so (member k null ms) h = (tt, plain_members_so ms h.1)
  plain_members_so (member k (boolean b) ms) h = (tt, plain_members_so ms h.1)
  plain_members_so (member k (whole z) ms) h = (tt, plain_members_so ms h.1)
  plain_members_so (member k (decimal s) ms) h = absurd h.0
  plain_members_so (member k (text s) ms) h = (tt, plain_members_so ms h.1)
  plain_members_so (member k (bytes b) ms) h = plain_members_so ms h.1
  plain_members_so (member k (list ts) ms) h = (plain_items_so ts h.0, plain_members_so ms h.1)
  plain_members_so (member k (dict us) ms) h = (plain_members_so us h.0, plain_members_so ms h.1)

steps_so : (p : Path) → ItemsHaveNoDecimal (items_from (map step_tree p))
steps_so [] = tt
steps_so (Key k ∷ p) = (tt, steps_so p)
steps_so (Index n ∷ p) = (tt, steps_so p)

pub paths_so : (ps : List Path) → ItemsHaveNoDecimal (items_from (map path_tree ps))
paths_so [] = tt
paths_so (p ∷ ps) = (steps_so p, paths_so ps)
