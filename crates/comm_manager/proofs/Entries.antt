-- Entries behind a count of their owners.
use Rattle.std.proofs.Common.{◌≡◌, List, [], ◌∷◌, ◌++◌, length, suc, refl, ap, ◌∙◌}
use Rattle.std.specs.Arc.{arc_value}
use Rattle.std.specs.declared.sync.Arc.{Arc}
use Rattle.comm_core.specs.declared.entry.Entry.{Entry}
use Rattle.comm_outbox.specs.Sides.{entries_of}

pub entries_more : {Z : Type 0} (old items : List (Arc Entry Z)) (x : Arc Entry Z) (e : Entry) → items ≡ old ++ x ∷ [] → arc_value x ≡ e → entries_of items ≡ entries_of old ++ e ∷ []
entries_more [] items x e is same = ap entries_of is ∙ ap (λ k. k ∷ []) same
entries_more (y ∷ old) items x e is same = ap entries_of is ∙ ap (λ l. arc_value y ∷ l) (entries_more old (old ++ x ∷ []) x e refl same)

pub length_entries : {Z : Type 0} (items : List (Arc Entry Z)) → length (entries_of items) ≡ length items
length_entries [] = refl
length_entries (x ∷ items) = ap suc (length_entries items)
