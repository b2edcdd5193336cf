-- A key sought among a few members, one after another.
use Rattle.std.proofs.Common.{◌≡◌, ◌↔◌, ℕ, ◌<◌, ◌≤◌, ◌+◌, List, length, get_or, drop, ◌∷◌, Option, Some, None, Bool, IsTrue, true, false, is_eq, bytes_eq, refl, sym, ap, ◌∙◌, Bor}
use Rattle.std.specs.Prelude.{if◌then◌else◌, IfSome, option_map}
use Rattle.std.proofs.lemmas.Cmp.{nat_list_cmp_total, tied_itself}
use Rattle.std.proofs.lemmas.List.{drop_all}
use Rattle.std.proofs.lemmas.Map.Text.{is_eq-slice_cmp}
use Rattle.std.proofs.lemmas.Slice.Eq.{bytes_eq-Decides}
use Rattle.comm_value.specs.declared.val.Member.{Member}
use Rattle.comm_value.specs.declared.val.Val.{Val}
use Rattle.comm_value.specs.Tree.{Members}
use Rattle.comm_value.specs.View.{tree, members_of}
use Rattle.comm_value.specs.Order.{key_cmp}
use Rattle.comm_value.specs.Node.{get}
use Rattle.comm_value.specs.Places.{has_bytes, members_have_bytes}
use Rattle.comm_value.proofs.Lists.{first_is}
use Rattle.comm_value.proofs.NoBytes.{get_free}

differ : (xs ys : List ℕ) (b : Bool) → bytes_eq xs ys ≡ b → (xs ≡ ys → ⊥) → b ≡ false
differ xs ys true e other = absurd (other ((bytes_eq-Decides xs ys).0 e))
differ xs ys false e other = refl

refuted : {A : Type 0} → (b : Bool) → IsTrue b ↔ A → b ≡ false → A → ⊥
refuted {A} b is none a = let so_is = is.1 a in cc

passed : (k : List ℕ) (x : Member) (ms : List Member) → (x.key ≡ k → ⊥) → get k (members_of (x ∷ ms)) ≡ get k (members_of ms)
passed k x ms other = ap (λ b. if b then Some (tree x.value) else get k (members_of ms)) (is_eq-slice_cmp k x.key ∙ differ k x.key _ refl (λ same. other (sym same)))

met : (k : List ℕ) (x : Member) (ms : List Member) → x.key ≡ k → get k (members_of (x ∷ ms)) ≡ Some (tree x.value)
met k x ms same = ap (λ b. if b then Some (tree x.value) else get k (members_of ms)) (ap is_eq (ap (key_cmp k) same ∙ tied_itself nat_list_cmp_total k))

pub passed_at : (k : List ℕ) (ms : List Member) (i : ℕ) (x : Member) (b : Bool) → i < length ms → x ≡ get_or ms i x → IsTrue b ↔ (x.key ≡ k) → b ≡ false → get k (members_of (drop i ms)) ≡ get k (members_of ms)
    → get k (members_of (drop (i + 1) ms)) ≡ get k (members_of ms)
passed_at k ms i x b h is same none so =
    sym (ap (λ l. get k (members_of l)) (first_is ms i x h is) ∙ passed k x (drop (i + 1) ms) (refuted b same none)) ∙ so

pub met_at : (k : List ℕ) (ms : List Member) (i : ℕ) (x : Member) (b : Bool) → i < length ms → x ≡ get_or ms i x → IsTrue b ↔ (x.key ≡ k) → b ≡ true → get k (members_of (drop i ms)) ≡ get k (members_of ms)
    → Some (tree x.value) ≡ get k (members_of ms)
met_at k ms i x b h is same so_is so = sym (ap (λ l. get k (members_of l)) (first_is ms i x h is) ∙ met k x (drop (i + 1) ms) (same.0 so_is)) ∙ so

pub none_met : (k : List ℕ) (ms : List Member) (i : ℕ) → length ms ≤ i → get k (members_of (drop i ms)) ≡ get k (members_of ms) → None ≡ get k (members_of ms)
none_met k ms i over so = sym (ap (λ l. get k (members_of l)) (drop_all i ms over)) ∙ so

pub free_value : (r : Option (Bor Val)) (k : List ℕ) (all : Members) → option_map (λ v. tree v.now) r ≡ get k all → members_have_bytes all ≡ false → IfSome r (λ v. has_bytes (tree v.now) ≡ false)
free_value None k all is free = tt
free_value (Some v) k all is free = get_free k all (tree v.now) free (sym is)
