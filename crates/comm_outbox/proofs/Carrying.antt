-- Each step keeps the rule of the queue.
use Rattle.std.proofs.Common.{◌≡◌, ◌≢◌, ℕ, zero, suc, ◌<◌, ◌^◌, true, false, true≢false, List, [], ◌∷◌, ◌++◌, length, set, sym, refl, ap, ◌∙◌, subst, ⊎_elim, append_assoc, length-append, arith}
use mathlib.Core.Option.{some, some-ne-none}
use lib.ListN.{get_elem?}
use Rattle.std.specs.Arc.{arc_value}
use Rattle.crossbeam_queue.specs.Fifo.{Pushes, Pops, Forks, Merges, Learns}
use Rattle.crossbeam_queue.proofs.Lists.{at_set, at_snoc}
use Rattle.comm_core.specs.History.{IsLegal}
use Rattle.comm_core.specs.declared.entry.Entry.{Entry}
use Rattle.comm_outbox.specs.declared.entry_queue.Bounds.{Bounds}
use Rattle.comm_outbox.specs.declared.entry_queue.PassView.{PassView}
use Rattle.comm_outbox.specs.Sides.{entries_of}
use Rattle.comm_outbox.specs.Order.{bounds, pass_view, Item, Fits, KeepsOrder, HasPut, HasTaken, HasDrained, Leaves, Divides}

pub entries_of-snoc : (items : List Item) (x : Item) → entries_of (items ++ x ∷ []) ≡ entries_of items ++ arc_value x ∷ []
entries_of-snoc [] x = refl
entries_of-snoc (y ∷ items) x = ap (λ es. arc_value y ∷ es) (entries_of-snoc items x)

at_end : (l : List PassView) (a b : PassView) (j : ℕ) → get_elem? l j ≢ some b → get_elem? (l ++ a ∷ []) j ≡ some b → j ≡ length l
at_end [] a b zero n e = refl
at_end [] a b (suc j) n e = absurd (some-ne-none b (sym e))
at_end (x ∷ xs) a b zero n e = absurd (n e)
at_end (x ∷ xs) a b (suc j) n e = ap suc (at_end xs a b j n e)

abbrev Each : (ℕ → PassView → Type 0) → List PassView → Type 0
Each F views = (port : ℕ) (v : PassView) → get_elem? views port ≡ some v → F port v

each_set : (F : ℕ → PassView → Type 0) (views : List PassView) (port : ℕ) (w : PassView) → F port w → ((j : ℕ) (u : PassView) → j ≢ port → get_elem? views j ≡ some u → F j u) → Each F (set views port w)
each_set F views port w mine others j u e = ⊎_elim (λ (x : (j ≡ port) × (w ≡ u)). subst (λ (y : ℕ × PassView). F y.0 y.1) (λ i. (sym x.0 i, x.1 i)) mine)
    (λ (x : (j ≢ port) × (get_elem? views j ≡ some u)). others j u x.0 x.1) (at_set views port j w u e)

abbrev unset : Bounds
unset = bounds 0 0

abbrev none : PassView
none = pass_view false false unset [] []

abbrev whole : PassView
whole = pass_view true true unset [] []

pub begins : KeepsOrder [] (whole ∷ [])
begins = record {
  writer = 0;
  reader = 0;
  by = unset;
  sent = [];
  got = [];
  divided = refl;
  legal = tt;
  few = omega arith;
  fits = each_set (Fits 0 0 unset [] []) (whole ∷ []) 0 whole ((λ _. (refl, refl, refl)), λ _. (refl, refl, refl)) (λ j u other e. absurd (other (at_end [] whole u j (λ x. some-ne-none u (sym x)) e)));
}

pub sends : (n port : ℕ) (v : PassView) (x : Item) → v.puts ≡ true → length v.sent < 2 ^ 62 → IsLegal v.bounds.clients v.bounds.comms (v.sent ++ arc_value x ∷ []) → Pushes KeepsOrder n port v x (λ w. HasPut v x w)
sends n port v x may room legal items views _ h at =
    let e = arc_value x in
    let w : PassView = pass_view v.puts v.takes v.bounds (v.sent ++ e ∷ []) v.got in
    let mine = h.fits port v at in
    let sent = h.sent ++ e ∷ [] in
    let same : v.sent ≡ h.sent = (mine.0 may).2 in
    let by : v.bounds ≡ h.by = (mine.0 may).1 in (
      w,
      record {
        writer = h.writer;
        reader = h.reader;
        by = h.by;
        sent = sent;
        got = h.got;
        divided = ap (λ l. l ++ e ∷ []) h.divided ∙ (append_assoc h.got (entries_of items) (e ∷ []) ∙ ap (λ l. h.got ++ l) (sym (entries_of-snoc items x)));
        legal = subst (λ (y : Bounds × List Entry). IsLegal y.0.clients y.0.comms (y.1 ++ e ∷ [])) (λ i. (by i, same i)) legal;
        few = let l = ap length same in omega (arith, length-append h.sent (e ∷ []));
        fits = each_set (Fits h.writer h.reader h.by sent h.got) views port w ((λ _. ((mine.0 may).0, by, ap (λ l. l ++ e ∷ []) same)), mine.1)
            (λ j u other at'. ((λ p. absurd (other (((h.fits j u at').0 p).0 ∙ sym (mine.0 may).0))), (h.fits j u at').1));
      },
      refl,
    )

-- what the rule says of the pass that takes, once the first entry is gone
taken_next : (port : ℕ) (v : PassView) → v.takes ≡ true → (x : Item) (items : List Item) (views : List PassView) → (h : KeepsOrder (x ∷ items) views) → get_elem? views port ≡ some v
    → KeepsOrder items (set views port (pass_view v.puts v.takes v.bounds v.sent (v.got ++ arc_value x ∷ []))) × (h.sent ≡ (v.got ++ arc_value x ∷ []) ++ entries_of items) × (v.bounds ≡ h.by)
taken_next port v may x items views h at =
    let e = arc_value x in
    let w : PassView = pass_view v.puts v.takes v.bounds v.sent (v.got ++ e ∷ []) in
    let mine = h.fits port v at in
    let got = h.got ++ e ∷ [] in
    let by : v.bounds ≡ h.by = (mine.1 may).1 in
    let more : v.got ++ e ∷ [] ≡ got = ap (λ l. l ++ e ∷ []) (mine.1 may).2 in
    let is : h.sent ≡ got ++ entries_of items = h.divided ∙ sym (append_assoc h.got (e ∷ []) (entries_of items)) in (
      record {
        writer = h.writer;
        reader = h.reader;
        by = h.by;
        sent = h.sent;
        got = got;
        divided = is;
        legal = h.legal;
        few = h.few;
        fits = each_set (Fits h.writer h.reader h.by h.sent got) views port w (mine.0, λ _. ((mine.1 may).0, by, more))
            (λ j u other at'. ((h.fits j u at').0, λ p. absurd (other (((h.fits j u at').1 p).0 ∙ sym (mine.1 may).0))));
      },
      is ∙ ap (λ l. l ++ entries_of items) (sym more),
      by,
    )

pub gets : (port : ℕ) (v : PassView) → v.takes ≡ true → Pops KeepsOrder port v (λ x w. HasTaken v x w)
gets port v may x items views h at =
    let w : PassView = pass_view v.puts v.takes v.bounds v.sent (v.got ++ arc_value x ∷ []) in
    let next = taken_next port v may x items views h at in (
      w,
      next.0,
      (
        refl,
        record {
          puts = h.sent;
          begins = (entries_of items, sym next.1);
          legal = subst (λ (b : Bounds). IsLegal b.clients b.comms h.sent) (sym next.2) h.legal;
          few = h.few;
        },
      ),
    )

pub drains : (port : ℕ) (v : PassView) → v.puts ≡ true → v.takes ≡ true → Pops KeepsOrder port v (λ x w. HasDrained v x w)
drains port v a b x items views h at =
    let w : PassView = pass_view v.puts v.takes v.bounds v.sent (v.got ++ arc_value x ∷ []) in
    let next = taken_next port v b x items views h at in
    let same : v.sent ≡ h.sent = ((h.fits port v at).0 a).2 in
    (w, next.0, (refl, (entries_of items, sym (same ∙ next.1))))

-- one pass that has put and taken nothing becomes two, which know the limits
pub forks : (by : Bounds) (port : ℕ) (v : PassView) → v ≡ whole → Forks KeepsOrder port v (pass_view true false by v.sent []) (pass_view false true by [] v.got)
forks by port v is items views h at =
    let l : PassView = pass_view true false by v.sent [] in
    let r : PassView = pass_view false true by [] v.got in
    let mine = h.fits port v at in
    let a : v.puts ≡ true = ap (λ (y : PassView). y.puts) is in
    let b : v.takes ≡ true = ap (λ (y : PassView). y.takes) is in
    let empty : h.sent ≡ [] = sym (mine.0 a).2 ∙ ap (λ (y : PassView). y.sent) is in
    let vs : List PassView = set views port l in
    let Old : ℕ → PassView → Type 0 = λ j u. (u.puts ≡ true → (j ≡ h.writer) × (u.bounds ≡ by) × (u.sent ≡ h.sent)) × (u.takes ≢ true) in
    let old : Each Old vs =
    each_set Old views port l ((λ _. ((mine.0 a).0, refl, (mine.0 a).2)), λ p. true≢false (sym p))
    (λ j u other e. ((λ p. absurd (other (((h.fits j u e).0 p).0 ∙ sym (mine.0 a).0))), λ p. other (((h.fits j u e).1 p).0 ∙ sym (mine.1 b).0))) in
    record {
      writer = h.writer;
      reader = length vs;
      by = by;
      sent = h.sent;
      got = h.got;
      divided = h.divided;
      legal = subst (λ (es : List Entry). IsLegal by.clients by.comms es) (sym empty) tt;
      few = h.few;
      fits = λ j u e. ⊎_elim (λ x. ((old j u x).0, λ p. absurd ((old j u x).1 p)))
          (λ (same : r ≡ u). ((λ p. absurd (true≢false (sym (ap (λ (y : PassView). y.puts) same ∙ p)))), λ p. (at_end vs r u j (λ x. (old j u x).1 p) e, sym (ap (λ (y : PassView). y.bounds) same), ap (λ (y : PassView). y.got) (sym same) ∙ (mine.1 b).2)))
          (at_snoc vs r u j e);
    }

pub merges : (port : ℕ) (v : PassView) (other : ℕ) (u : PassView) → v.puts ≡ true → u.takes ≡ true → Merges KeepsOrder port v other u (pass_view true true v.bounds v.sent u.got) none
merges port v other u a b items views h at two at' =
    let both : PassView = pass_view true true v.bounds v.sent u.got in
    let mine = h.fits port v at in
    let vs : List PassView = set views port both in
    let was : get_elem? views other ≡ some u = ⊎_elim (λ x. absurd (two x.0)) (λ x. x.1) (at_set views port other both u at') in
    let theirs = (h.fits other u was).1 b in
    let Now : ℕ → PassView → Type 0 = λ j y. j ≢ other → Fits h.writer port h.by h.sent h.got j y in
    let now : Each Now vs =
    each_set Now views port both (λ _. ((λ _. mine.0 a), λ _. (refl, (mine.0 a).1, theirs.2)))
    (λ j y _ e apart. ((h.fits j y e).0, λ p. absurd (apart (((h.fits j y e).1 p).0 ∙ sym theirs.0)))) in
    record {
      writer = h.writer;
      reader = port;
      by = h.by;
      sent = h.sent;
      got = h.got;
      divided = h.divided;
      legal = h.legal;
      few = h.few;
      fits = each_set (Fits h.writer port h.by h.sent h.got) vs other none ((λ p. absurd (true≢false (sym p))), λ p. absurd (true≢false (sym p))) (λ j y apart e. now j y e apart);
    }

-- what the queue holds was put last
pub leaves : (port : ℕ) (v : PassView) → v.puts ≡ true → Learns KeepsOrder port v (λ items. Leaves v.sent items)
leaves port v may items views h at = (h.got, ((h.fits port v at).0 may).2 ∙ h.divided)

-- and what was taken came before
pub divides : (port : ℕ) (v : PassView) → v.puts ≡ true → v.takes ≡ true → Learns KeepsOrder port v (λ items. Divides v items)
divides port v a b items views h at = let mine = h.fits port v at in (mine.0 a).2 ∙ (h.divided ∙ ap (λ l. l ++ entries_of items) (sym (mine.1 b).2))
