-- What stands in a dict is smaller than it.
use Rattle.std.proofs.Common.{◌≡◌, ℕ, zero, suc, ◌<◌, ◌+◌, ◌≤◌, List, [], ◌∷◌, ◌++◌, length, get_or, take, drop, ap, ◌∙◌, arith}
use Rattle.std.specs.Arc.{arc_value}
use Rattle.comm_value.specs.declared.val.Val.{Val}
use Rattle.comm_value.specs.declared.val.Member.{Member}
use Rattle.comm_value.specs.declared.val.Dict.TheDeep.{deep-Val, deep-Member}
use Rattle.comm_value.specs.Tree.{Items, items_size, Members, members_size}
use Rattle.comm_value.specs.declared.val.Group.{Group}
use Rattle.comm_value.specs.View.{items_of, members_of, Chunk, grouped, flat}
use Rattle.comm_value.specs.Falls.{value_falls, member_falls, size_append}
use Rattle.comm_value.proofs.Flat.{opened, flat_cut}

item_in : (vs : List Val) (j : ℕ) (d : Val) → j < length vs → deep-Val (get_or vs j d) < items_size (items_of vs)
item_in [] j d h = absurd (omega arith)
item_in (v ∷ vs) zero d h = omega (arith, value_falls v)
item_in (v ∷ vs) (suc j) d h = omega (arith, item_in vs j d (omega arith))

-- the value at j in a list
pub item_smaller : (vs : List Val) (j : ℕ) (x : Val) (all : Items) → j < length vs → x ≡ get_or vs j x → items_of vs ≡ all → deep-Val x < items_size all
item_smaller vs j x all h is view = omega (arith, item_in vs j x h, ap (λ (v : Val). deep-Val v) is, ap items_size view)

value_in : (ms : List Member) (j : ℕ) (d : Member) → j < length ms → deep-Val (get_or ms j d).value < members_size (members_of ms)
value_in [] j d h = absurd (omega arith)
value_in (m ∷ ms) zero d h = omega (arith, value_falls m.value)
value_in (m ∷ ms) (suc j) d h = omega (arith, value_in ms j d (omega arith))

member_in : (ms : List Member) (j : ℕ) (d : Member) → j < length ms → deep-Member (get_or ms j d) < members_size (members_of ms)
member_in [] j d h = absurd (omega arith)
member_in (m ∷ ms) zero d h = omega (arith, member_falls m)
member_in (m ∷ ms) (suc j) d h = omega (arith, member_in ms j d (omega arith))

chunk_in : (ps : List Chunk) (i : ℕ) (xs : List Member) → flat (drop i ps) ≡ xs ++ flat (drop (i + 1) ps) → members_size (members_of xs) ≤ members_size (members_of (flat ps))
chunk_in ps i xs here =
    let cut : members_size (members_of (flat ps)) ≡ members_size (members_of (flat (take i ps))) + members_size (members_of (flat (drop i ps))) =
    ap (λ l. members_size (members_of l)) (flat_cut ps i) ∙ size_append (flat (take i ps)) (flat (drop i ps)) in
    let rest : members_size (members_of (flat (drop i ps))) ≡ members_size (members_of xs) + members_size (members_of (flat (drop (i + 1) ps))) =
    ap (λ l. members_size (members_of l)) here ∙ size_append xs (flat (drop (i + 1) ps)) in
    omega (arith, cut, rest)

-- the value of the member at j in the chunk at i
pub value_smaller : (ps : List Chunk) (i : ℕ) (p : Chunk) (v : Group) (xs : List Member) (j : ℕ) (x : Member) (all : Members) → i < length ps → p ≡ get_or ps i p → v ≡ arc_value p → xs ≡ grouped v
    → j < length xs → x ≡ get_or xs j x → members_of (flat ps) ≡ all → deep-Val x.value < members_size all
value_smaller ps i p v xs j x all h is deref items within here view =
    omega (arith, value_in xs j x within, chunk_in ps i xs (opened ps i p v xs h is deref items), ap (λ (m : Member). deep-Val m.value) here, ap members_size view)

-- and that member
pub member_smaller : (ps : List Chunk) (i : ℕ) (p : Chunk) (v : Group) (xs : List Member) (j : ℕ) (x : Member) (all : Members) → i < length ps → p ≡ get_or ps i p → v ≡ arc_value p → xs ≡ grouped v
    → j < length xs → x ≡ get_or xs j x → members_of (flat ps) ≡ all → deep-Member x < members_size all
member_smaller ps i p v xs j x all h is deref items within here view =
    omega (arith, member_in xs j x within, chunk_in ps i xs (opened ps i p v xs h is deref items), ap (λ (m : Member). deep-Member m) here, ap members_size view)
