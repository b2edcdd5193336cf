-- The comms of a target, one after the other, and a state that is written.
use Rattle.std.proofs.Common.{◌≡◌, true, false, cond, List, [], ◌∷◌, ◌++◌, filter, fold, refl, ap, sym, ◌∙◌}
use Rattle.std.specs.Str.{bytes_eq}
use Rattle.std.specs.Map.{keys_of}
use Rattle.std.specs.BTreeMap.{insert_entry}
use Rattle.std.specs.Ordering.{nat_cmp}
use Rattle.std.specs.Cmp.Lexicographic.{slice_cmp}
use Rattle.std.proofs.lemmas.Slice.Eq.{bytes_eq-Decides}
use Rattle.comm_targets.specs.Meaning.{Meaning, has_id, without, after_close}
use Rattle.comm_core.specs.Machine.{Name, ids_of}
use Rattle.comm_core.specs.Kept.{pairs_of}
use Rattle.comm_core.specs.Reads.{in_order}
use Rattle.comm_core.specs.Runs.{Pair}
use Rattle.comm_core.specs.Tables.{Opens}
use Rattle.comm_core.specs.declared.comm.Comm.{Comm}

pub ids_of-more : (name : Name) (es : Opens) (k : Name) (o : Comm) → ids_of name (es ++ (k, o) ∷ []) ≡ ids_of name es ++ cond (bytes_eq name o.target) (k ∷ []) []
ids_of-more name [] k o = elim (bytes_eq name o.target) as (λ b. keys_of (cond b ((k, o) ∷ []) []) ≡ cond b (k ∷ []) []) [ true ↦ refl | false ↦ refl ]
ids_of-more name (e ∷ es) k o =
    let more = ids_of-more name es k o in
    let F : Opens → Opens = λ l. filter (λ (z : Name × Comm). bytes_eq name z.1.target) l in
    elim (bytes_eq name e.1.target) as (λ b. keys_of (cond b (e ∷ F (es ++ (k, o) ∷ [])) (F (es ++ (k, o) ∷ []))) ≡ keys_of (cond b (e ∷ F es) (F es)) ++ cond (bytes_eq name o.target) (k ∷ []) []) [
      | true ↦ ap (λ l. e.0 ∷ l) more
      | false ↦ more
    ]

pairs_of-more : (es : Opens) (k : Name) (o : Comm) → pairs_of (es ++ (k, o) ∷ []) ≡ pairs_of es ++ (k, o.target) ∷ []
pairs_of-more [] k o = refl
pairs_of-more (e ∷ es) k o = ap (λ (l : List Pair). (e.0, e.1.target) ∷ l) (pairs_of-more es k o)

append-nil : {X : Type 0} (xs : List X) → xs ++ [] ≡ xs
append-nil [] = refl
append-nil (x ∷ xs) = ap (λ l. x ∷ l) (append-nil xs)

fold-more : (xs : List Pair) (x : Pair) (so_far : List Pair) → fold (λ (done : List Pair) (x : Pair). insert_entry (slice_cmp nat_cmp) done x.0 x.1) so_far (xs ++ x ∷ []) ≡ insert_entry (slice_cmp nat_cmp) (fold (λ (done : List Pair) (x : Pair). insert_entry (slice_cmp nat_cmp) done x.0 x.1) so_far xs) x.0 x.1
fold-more [] x so_far = refl
fold-more (y ∷ ys) x so_far = fold-more ys x (insert_entry (slice_cmp nat_cmp) so_far y.0 y.1)

module _ (name : Name) (e : Name × Comm) (before more : Opens) (step : more ≡ before ++ e ∷ []) where
  pub listed_one : (k t : Name) (so_far : List Pair) → so_far ≡ in_order (pairs_of before) → k ≡ e.0 → t ≡ e.1.target
      → insert_entry (slice_cmp nat_cmp) so_far k t ≡ in_order (pairs_of more)
  listed_one k t so_far is_so ek et =
      let whole : pairs_of more ≡ pairs_of before ++ (e.0, e.1.target) ∷ [] = ap pairs_of step ∙ pairs_of-more before e.0 e.1 in
      ap (λ l. insert_entry (slice_cmp nat_cmp) l k t) is_so
      ∙ ap (λ k. insert_entry (slice_cmp nat_cmp) (in_order (pairs_of before)) k t) ek
      ∙ ap (λ t. insert_entry (slice_cmp nat_cmp) (in_order (pairs_of before)) e.0 t) et
      ∙ sym (ap in_order whole ∙ fold-more (pairs_of before) (e.0, e.1.target) [])

  further : ids_of name more ≡ ids_of name before ++ cond (bytes_eq name e.1.target) (e.0 ∷ []) []
  further = ap (ids_of name) step ∙ ids_of-more name before e.0 e.1

  pub one_more : bytes_eq name e.1.target ≡ true → (copy : Name) (so_far : List Name) → so_far ≡ ids_of name before → copy ≡ e.0 → so_far ++ copy ∷ [] ≡ ids_of name more
  one_more its copy so_far is_so same =
      ap (λ l. l ++ copy ∷ []) is_so ∙ ap (λ k. ids_of name before ++ k ∷ []) same
      ∙ sym (further ∙ ap (λ b. ids_of name before ++ cond b (e.0 ∷ []) []) its)

  pub none_more : bytes_eq name e.1.target ≡ false → (so_far : List Name) → so_far ≡ ids_of name before → so_far ≡ ids_of name more
  none_more other so_far is_so = is_so ∙ sym (further ∙ ap (λ b. ids_of name before ++ cond b (e.0 ∷ []) []) other ∙ append-nil (ids_of name before))

module _ (name : Name) (e : Name × Comm) (rest after : Opens) (step : rest ≡ e ∷ after) where
  ahead : ids_of name rest ≡ cond (bytes_eq name e.1.target) (e.0 ∷ ids_of name after) (ids_of name after)
  ahead =
      ap (ids_of name) step
      ∙ (elim (bytes_eq name e.1.target) as (λ b. keys_of (cond b (e ∷ filter (λ (z : Name × Comm). bytes_eq name z.1.target) after) (filter (λ (z : Name × Comm). bytes_eq name z.1.target) after))
      ≡ cond b (e.0 ∷ ids_of name after) (ids_of name after)) [ true ↦ refl | false ↦ refl ])

  module _ (its : bytes_eq name e.1.target ≡ true) where
    ahead-own : ids_of name rest ≡ e.0 ∷ ids_of name after
    ahead-own = ahead ∙ ap (λ b. cond b (e.0 ∷ ids_of name after) (ids_of name after)) its

    pub first_is : (copy : Name) (ids : List Name) → ids ≡ ids_of name rest → copy ≡ e.0 → has_id ids copy ≡ true
    first_is copy ids is_so same = ap (λ l. has_id l copy) (is_so ∙ ahead-own) ∙ ap (λ k. has_id (e.0 ∷ ids_of name after) k) same ∙ rw ((bytes_eq-Decides e.0 e.0).1 refl)

    pub one_less : (copy : Name) (m w : Meaning) → m ≡ record { kind = w.kind; notes = w.notes; ids = ids_of name rest; staged = w.staged } → copy ≡ e.0
        → after_close m copy ≡ record { kind = w.kind; notes = w.notes; ids = ids_of name after; staged = w.staged }
    one_less copy m w is_so same =
        let whole : List Name → Meaning = λ l. record { kind = w.kind; notes = w.notes; ids = l; staged = w.staged } in
        ap (λ k. after_close k copy) (is_so ∙ ap whole ahead-own) ∙ ap (λ k. after_close (whole (e.0 ∷ ids_of name after)) k) same
        ∙ ap (λ b. whole (cond b (ids_of name after) (e.0 ∷ without e.0 (ids_of name after)))) ((bytes_eq-Decides e.0 e.0).1 refl)

  pub none_less : bytes_eq name e.1.target ≡ false → (m w : Meaning) → m ≡ record { kind = w.kind; notes = w.notes; ids = ids_of name rest; staged = w.staged }
      → m ≡ record { kind = w.kind; notes = w.notes; ids = ids_of name after; staged = w.staged }
  none_less other m w is_so =
      let whole : List Name → Meaning = λ l. record { kind = w.kind; notes = w.notes; ids = l; staged = w.staged } in
      is_so ∙ ap whole (ahead ∙ ap (λ b. cond b (e.0 ∷ ids_of name after) (ids_of name after)) other)
