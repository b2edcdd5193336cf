-- The compact text of this crate is that of serde_json, where that has one.
use Rattle.std.proofs.Common.{◌≡◌, Bool, true, false, ◌∷◌, refl, ap}
use Rattle.serde_json.specs.Data.{Data, null, boolean, number, string, array, object, Items, no_items, item, Members, no_members, member}
use Rattle.serde_json.specs.Written.{outline, items_outline, members_outline, comma_if}
use Rattle.serde_json.specs.Written as written
use Rattle.comm_json.specs.Text.{compact_text, items_text, members_text}

mutual
  pub same_text : (d : Data) → compact_text (outline d) ≡ written.compact_text d
  same_text null = refl
  same_text (boolean b) = refl
  same_text (number n) = refl
  same_text (string s) = refl
  same_text (array ds) = ap (λ t. 91 ∷ t) (same_items false ds)
  same_text (object ms) = ap (λ t. 123 ∷ t) (same_members false ms)

  same_items : (later : Bool) (ds : Items) → items_text later (items_outline ds) ≡ written.items_text later ds
  same_items later no_items = refl
  same_items later (item d ds) = rw (same_text d, same_items true ds) refl

  same_members : (later : Bool) (ms : Members) → members_text later (members_outline ms) ≡ written.members_text later ms
  same_members later no_members = refl
  same_members later (member k d ms) = rw (same_text d, same_members true ms) refl
