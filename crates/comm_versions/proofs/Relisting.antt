-- Comms that list the same, and lists that were made before.
use Rattle.std.proofs.Common.{◌≡◌, ℕ, ◌<◌, ◌≤◌, ◌+◌, Bool, true, false, cond, List, [], ◌∷◌, ◌++◌, length, map, filter, None, Some, Ordering, Less, Equal, Greater, refl, sym, ap, ◌∙◌, arith, length-append}
use lib.Dec.{leb}
use mathlib.Core.Bool.{not}
use Rattle.std.specs.Prelude.{option_map}
use Rattle.std.proofs.lemmas.Bool.Decides.{nat_tests}
use Rattle.std.specs.List.Sorted.{IsStrictlySortedBy}
use mathlib.Core.List.{IsPrefix}
use Rattle.comm_messages.specs.declared.infos.Info.{Info}
use Rattle.comm_core.specs.History.{replay}
use Rattle.comm_core.specs.Machine.{Name, at}
use Rattle.comm_core.specs.Reads.{info_of, passes}
use Rattle.comm_core.specs.Row.{rows}
use Rattle.comm_core.specs.Tables.{Opens}
use Rattle.comm_core.specs.declared.comm.Comm.{Comm}
use Rattle.comm_core.specs.declared.entry.Entry.{Entry}
use Rattle.comm_versions.specs.Listing.{ListsAlikeSince, ListAlike, listed_infos}
use Rattle.comm_versions.specs.Chunks.{IsInOrder, id_cmp, upsert}
use Rattle.comm_versions.proofs.Fronts.{prefix_shorter, prefix_whole}
use Rattle.comm_versions.proofs.Ids.{at_absent, at_found, differs}

pub was_true : (b : Bool) → not b ≡ false → b ≡ true
was_true true h = refl
was_true false h = absurd (cc (h))

-- ---- a comm that is put

listed_first : (b : Bool) (e : Name × Comm) (xs : Opens) → map info_of (cond b (e ∷ xs) xs) ≡ cond b (info_of e ∷ map info_of xs) (map info_of xs)
listed_first true e xs = refl
listed_first false e xs = refl

-- another comm of the same id and target comes first
swapped : (e : Name × Comm) (c : Comm) (es : Opens) → e.1.target ≡ c.target → ListAlike (e ∷ es) ((e.0, c) ∷ es)
swapped e c es same asked =
    let xs : Opens = filter (λ d. passes asked d.1.target) es in
    listed_first (passes asked e.1.target) e xs
    ∙ ap (λ (t : Name). cond (passes asked t) (record { id = e.0; target = t } ∷ map info_of xs) (map info_of xs)) same
    ∙ sym (listed_first (passes asked c.target) (e.0, c) xs)

-- the same comes first
one_more : (e : Name × Comm) (es fs : Opens) → ListAlike es fs → ListAlike (e ∷ es) (e ∷ fs)
one_more e es fs h asked =
    let p : Name × Comm → Bool = λ d. passes asked d.1.target in
    listed_first (p e) e (filter p es) ∙ ap (λ (l : List Info). cond (p e) (info_of e ∷ l) l) (h asked) ∙ sym (listed_first (p e) e (filter p fs))

put_first : (e : Name × Comm) (es : Opens) (c : Name × Comm) → IsInOrder (e ∷ es) → option_map (λ (d : Comm). d.target) (at (e ∷ es) c.0) ≡ Some c.1.target
    → (IsInOrder es → option_map (λ (d : Comm). d.target) (at es c.0) ≡ Some c.1.target → ListAlike es (upsert es c)) → (o : Ordering) → id_cmp c.0 e.0 ≡ o → ListAlike (e ∷ es) (upsert (e ∷ es) c)
unfolding IsStrictlySortedBy
put_first e es c o h more Less is =
    let none : at (e ∷ es) c.0 ≡ None = at_absent (e ∷ es) 0 c.0 o tt is in absurd (cc (h, none))
put_first e es c o h more Equal is =
    let some : at (e ∷ es) c.0 ≡ Some e.1 = at_found (e ∷ es) 0 c.0 e (omega arith) tt is in
    let same : e.1.target ≡ c.1.target = cc (h, some) in
    rw is (swapped e c.1 es same)
put_first e es c o h more Greater is =
    let next : at (e ∷ es) c.0 ≡ at es c.0 = ap (λ t. cond t (Some e.1) (at es c.0)) (differs c.0 e.0 Greater is refl) in
    rw is (one_more e es (upsert es c) (more o.1 (ap (option_map (λ (d : Comm). d.target)) (sym next) ∙ h)))

-- a comm that is put in place of one of its target is listed as that was
pub put_alike : (es : Opens) (c : Name × Comm) → IsInOrder es → option_map (λ (d : Comm). d.target) (at es c.0) ≡ Some c.1.target → ListAlike es (upsert es c)
put_alike [] c o h = absurd (cc (h))
put_alike (e ∷ es) c o h = put_first e es c o h (put_alike es c) (id_cmp c.0 e.0) refl

-- ---- since when the same comms are listed

module _ (limit listing_since : ℕ) (front next : List Entry) (e : Entry) (is : next ≡ front ++ e ∷ []) where
  -- a prefix is one of those before the last entry, or the whole
  settled_by : ListsAlikeSince limit listing_since front → ListAlike (rows (replay limit front)) (rows (replay limit next)) → (before : List Entry) → IsPrefix before next → listing_since < length before → (b : Bool)
      → leb (length before) (length front) ≡ b → ListAlike (rows (replay limit before)) (rows (replay limit next))
  settled_by settled same before p more true le =
      let short : length before ≤ length front = grind (arith, nat_tests) in
      λ asked. settled before (prefix_shorter before front next p (e ∷ [], sym is) short) more asked ∙ same asked
  settled_by settled same before p more false le =
      let long : length front < length before = grind (arith, nat_tests) in
      let count : length next ≡ length front + 1 = ap length is ∙ length-append front (e ∷ []) in
      let whole : before ≡ next = prefix_whole before next p (omega (arith, long, count)) in
      λ asked. ap (λ (es : List Entry). listed_infos (rows (replay limit es)) asked) whole

  -- one more entry lists the same
  pub settled_next : ListsAlikeSince limit listing_since front → ListAlike (rows (replay limit front)) (rows (replay limit next)) → ListsAlikeSince limit listing_since next
  settled_next settled same before p more = settled_by settled same before p more (leb (length before) (length front)) refl
