-- A stock that has enough new targets of each kind for the registers to come.
use Rattle.std.proofs.Common.{◌≡◌, ℕ, zero, suc, ◌+◌, ◌*◌, ◌<◌, ◌≤◌, List, [], ◌∷◌, ◌++◌, replicate, Bool, true, false, Some, refl, sym, ap, subst, ◌∙◌, arith}
use Rattle.comm_core.specs.Machine.{Registered}
use Rattle.comm_targets.specs.declared.kind.Kind.{Kind}
use Rattle.comm_targets.specs.declared.kind.Kind.TheVariants as kind
use Rattle.comm_script.specs.Stock.{has_kind, first_of, rest_of}
use Rattle.comm_script.specs.declared.stock.StockKind.{StockKind}
use Rattle.comm_script.specs.declared.stock.StockKind.TheVariants.{Echo, Counter, Widget, WidgetEcho}
use Rattle.comm_c.specs.Handles.{target_kind}
use Rattle.comm_c.specs.Scripts.{AreFresh, HasEnough, count_in, fresh, one_if, stock_of}

kind_is : (w : StockKind) (k : Kind) → has_kind w k ≡ true → k ≡ target_kind w
kind_is Echo kind.Echo h = refl
kind_is Echo kind.Counter h = cc
kind_is Echo kind.Widget h = cc
kind_is Echo kind.WidgetEcho h = cc
kind_is Echo kind.Plain h = cc
kind_is Echo kind.Opaque h = cc
kind_is Echo kind.Free h = cc
kind_is Counter kind.Echo h = cc
kind_is Counter kind.Counter h = refl
kind_is Counter kind.Widget h = cc
kind_is Counter kind.WidgetEcho h = cc
kind_is Counter kind.Plain h = cc
kind_is Counter kind.Opaque h = cc
kind_is Counter kind.Free h = cc
kind_is Widget kind.Echo h = cc
kind_is Widget kind.Counter h = cc
kind_is Widget kind.Widget h = refl
kind_is Widget kind.WidgetEcho h = cc
kind_is Widget kind.Plain h = cc
kind_is Widget kind.Opaque h = cc
kind_is Widget kind.Free h = cc
kind_is WidgetEcho kind.Echo h = cc
kind_is WidgetEcho kind.Counter h = cc
kind_is WidgetEcho kind.Widget h = cc
kind_is WidgetEcho kind.WidgetEcho h = refl
kind_is WidgetEcho kind.Plain h = cc
kind_is WidgetEcho kind.Opaque h = cc
kind_is WidgetEcho kind.Free h = cc

own_kind : (w : StockKind) → one_if (has_kind w (target_kind w)) ≡ 1
own_kind Echo = refl
own_kind Counter = refl
own_kind Widget = refl
own_kind WidgetEcho = refl

pub at_most_sum : (m n : ℕ) → n ≤ m + n
at_most_sum m n = omega arith

-- enough for more is enough for less
pub less : (rs : List Registered) (wanted fewer : StockKind → ℕ) → ((w : StockKind) → fewer w ≤ wanted w) → HasEnough rs wanted
    → HasEnough rs fewer
less rs wanted fewer le has = record {
  are_fresh = has.are_fresh;
  enough = λ w. let a : fewer w ≤ wanted w = le w in let b : wanted w ≤ count_in w rs = has.enough w in omega (arith, a, b);
}

-- ---- the first of a kind

some_case : (w : StockKind) (r : Registered) (rs : List Registered) → r.notes ≡ 0
    → (0 < count_in w rs → first_of w rs ≡ Some (fresh (target_kind w))) → (b : Bool) → has_kind w r.kind ≡ b → 0 < one_if b + count_in w rs
    → first_of w (r ∷ rs) ≡ Some (fresh (target_kind w))
some_case w r rs new more true h e =
    let k : r.kind ≡ target_kind w = kind_is w r.kind h in
    rw h (ap (λ n. Some (record { kind = r.kind; notes = n })) new ∙ ap (λ k. Some (fresh k)) k)
some_case w r rs new more false h e = rw h (more (omega (arith, e)))

some_first : (w : StockKind) (rs : List Registered) → AreFresh rs → 0 < count_in w rs → first_of w rs ≡ Some (fresh (target_kind w))
some_first w [] new e = absurd (omega (arith, e))
some_first w (r ∷ rs) new e = some_case w r rs new.0 (some_first w rs new.1) (has_kind w r.kind) refl e

-- ---- the others

count_rest_case : (v w : StockKind) (r : Registered) (rs : List Registered)
    → (0 < count_in w rs → count_in v rs ≡ one_if (has_kind v (target_kind w)) + count_in v (rest_of w rs)) → (b : Bool) → has_kind w r.kind ≡ b
    → 0 < one_if b + count_in w rs → count_in v (r ∷ rs) ≡ one_if (has_kind v (target_kind w)) + count_in v (rest_of w (r ∷ rs))
count_rest_case v w r rs more true h e =
    let k : r.kind ≡ target_kind w = kind_is w r.kind h in rw h (ap (λ k. one_if (has_kind v k) + count_in v rs) k)
count_rest_case v w r rs more false h e =
    let m : count_in v rs ≡ one_if (has_kind v (target_kind w)) + count_in v (rest_of w rs) = more (omega (arith, e)) in
    rw h (omega (arith, m))

count_rest : (v w : StockKind) (rs : List Registered) → 0 < count_in w rs
    → count_in v rs ≡ one_if (has_kind v (target_kind w)) + count_in v (rest_of w rs)
count_rest v w [] e = absurd (omega (arith, e))
count_rest v w (r ∷ rs) e = count_rest_case v w r rs (count_rest v w rs) (has_kind w r.kind) refl e

fresh_rest_case : (w : StockKind) (r : Registered) (rs : List Registered) → r.notes ≡ 0 → AreFresh rs → AreFresh (rest_of w rs) → (b : Bool)
    → has_kind w r.kind ≡ b → AreFresh (rest_of w (r ∷ rs))
fresh_rest_case w r rs new all rest true h = rw h all
fresh_rest_case w r rs new all rest false h = rw h (new, rest)

fresh_rest : (w : StockKind) (rs : List Registered) → AreFresh rs → AreFresh (rest_of w rs)
fresh_rest w [] new = tt
fresh_rest w (r ∷ rs) new = fresh_rest_case w r rs new.0 new.1 (fresh_rest w rs new.1) (has_kind w r.kind) refl

-- ---- one is registered, and there is enough for the rest

is_there : (w : StockKind) (rs : List Registered) (more : StockKind → ℕ) → HasEnough rs (λ v. one_if (has_kind v (target_kind w)) + more v) → 0 < count_in w rs
is_there w rs more has =
    let own : one_if (has_kind w (target_kind w)) ≡ 1 = own_kind w in
    let enough : one_if (has_kind w (target_kind w)) + more w ≤ count_in w rs = has.enough w in
    omega (arith, own, enough)

pub first_is_fresh : (w : StockKind) (rs : List Registered) (more : StockKind → ℕ) → HasEnough rs (λ v. one_if (has_kind v (target_kind w)) + more v)
    → first_of w rs ≡ Some (fresh (target_kind w))
first_is_fresh w rs more has = some_first w rs has.are_fresh (is_there w rs more has)

pub rest_has_enough : (w : StockKind) (rs : List Registered) (more : StockKind → ℕ) → HasEnough rs (λ v. one_if (has_kind v (target_kind w)) + more v) → HasEnough (rest_of w rs) more
rest_has_enough w rs more has = record {
  are_fresh = fresh_rest w rs has.are_fresh;
  enough = λ v.
      let rest : count_in v rs ≡ one_if (has_kind v (target_kind w)) + count_in v (rest_of w rs) = count_rest v w rs (is_there w rs more has) in
      let enough : one_if (has_kind v (target_kind w)) + more v ≤ count_in v rs = has.enough v in
      omega (arith, rest, enough);
}

-- ---- a stock of just so many

count_append : (v : StockKind) (rs ts : List Registered) → count_in v (rs ++ ts) ≡ count_in v rs + count_in v ts
count_append v [] ts = omega arith
count_append v (r ∷ rs) ts =
    let m : count_in v (rs ++ ts) ≡ count_in v rs + count_in v ts = count_append v rs ts in omega (arith, m)

fresh_append : (rs ts : List Registered) → AreFresh rs → AreFresh ts → AreFresh (rs ++ ts)
fresh_append [] ts new more = more
fresh_append (r ∷ rs) ts new more = (new.0, fresh_append rs ts new.1 more)

-- so many new ones of a kind
abbrev copies : StockKind → ℕ → List Registered
copies w n = replicate n (fresh (target_kind w))

count_copies : (v w : StockKind) (n : ℕ) → count_in v (copies w n) ≡ n * one_if (has_kind v (target_kind w))
count_copies v w zero = omega arith
count_copies v w (suc n) =
    let m : count_in v (copies w n) ≡ n * one_if (has_kind v (target_kind w)) = count_copies v w n in omega (arith, m)

fresh_copies : (w : StockKind) (n : ℕ) → AreFresh (copies w n)
fresh_copies w zero = tt
fresh_copies w (suc n) = (refl, fresh_copies w n)

module _ (wanted : StockKind → ℕ) where
  abbrev echoes : List Registered
  echoes = copies Echo (wanted Echo)

  abbrev counters : List Registered
  counters = copies Counter (wanted Counter)

  abbrev widgets : List Registered
  widgets = copies Widget (wanted Widget)

  abbrev echoing : List Registered
  echoing = copies WidgetEcho (wanted WidgetEcho)

  parts : (v : StockKind) → count_in v echoes + (count_in v counters + (count_in v widgets + count_in v echoing)) ≡ wanted v
  parts Echo = omega (
    arith,
    count_copies Echo Echo (wanted Echo),
    count_copies Echo Counter (wanted Counter),
    count_copies Echo Widget (wanted Widget),
    count_copies Echo WidgetEcho (wanted WidgetEcho),
  )
  parts Counter = omega (
    arith,
    count_copies Counter Echo (wanted Echo),
    count_copies Counter Counter (wanted Counter),
    count_copies Counter Widget (wanted Widget),
    count_copies Counter WidgetEcho (wanted WidgetEcho),
  )
  parts Widget = omega (
    arith,
    count_copies Widget Echo (wanted Echo),
    count_copies Widget Counter (wanted Counter),
    count_copies Widget Widget (wanted Widget),
    count_copies Widget WidgetEcho (wanted WidgetEcho),
  )
  parts WidgetEcho = omega (
    arith,
    count_copies WidgetEcho Echo (wanted Echo),
    count_copies WidgetEcho Counter (wanted Counter),
    count_copies WidgetEcho Widget (wanted Widget),
    count_copies WidgetEcho WidgetEcho (wanted WidgetEcho),
  )

  count_is : (v : StockKind) → count_in v (stock_of wanted) ≡ wanted v
  count_is v =
      count_append v echoes (counters ++ (widgets ++ echoing))
      ∙ ap (λ n. count_in v echoes + n) (count_append v counters (widgets ++ echoing) ∙ ap (λ n. count_in v counters + n) (count_append v widgets echoing))
      ∙ parts v

  pub stock_has_enough : HasEnough (stock_of wanted) wanted
  stock_has_enough = record {
    are_fresh = fresh_append echoes _ (fresh_copies Echo (wanted Echo))
        (fresh_append counters _ (fresh_copies Counter (wanted Counter))
        (fresh_append widgets echoing (fresh_copies Widget (wanted Widget)) (fresh_copies WidgetEcho (wanted WidgetEcho))));
    enough = λ v. subst (λ (n : ℕ). wanted v ≤ n) (sym (count_is v)) (omega arith);
  }
