-- Lines that are read.
use Rattle.std.proofs.Common.{◌≡◌, ℕ, List, Bool, true, false, cond, Some, None, Ok, Err, refl, is_some, IsUtf8, option_and_then}
use Rattle.std.specs.Str.{is_utf8}
use Rattle.std.proofs.lemmas.Str.{IsUtf8-from_is_utf8, is_utf8-from_IsUtf8}
use Rattle.json.specs.Json.{Json, null, boolean, number, string, array, object}
use Rattle.json.specs.Find.{as_object}
use Rattle.comm_json.specs.Behind.{text_value}
use Rattle.comm_value.specs.Gives.{or_fault}
use Rattle.comm_messages.specs.Fields.{object_in, fields_of, members_in}
use Rattle.comm_messages.specs.declared.fault.MessageFault.TheVariants.{NotJson}

object_fields : (d : Json) → is_some (as_object d) ≡ true → or_fault NotJson (members_in d) ≡ Ok (fields_of d)
object_fields null h = cc
object_fields (boolean b) h = cc
object_fields (number n) h = cc
object_fields (string s) h = cc
object_fields (array ds) h = cc
object_fields (object ms) h = refl

no_object : (d : Json) → is_some (as_object d) ≡ false → or_fault NotJson (members_in d) ≡ Err NotJson
no_object null h = refl
no_object (boolean b) h = refl
no_object (number n) h = refl
no_object (string s) h = refl
no_object (array ds) h = refl
no_object (object ms) h = cc

pub object_read : (line : List ℕ) (d : Json) → IsUtf8 line → text_value line ≡ Some d → is_some (as_object d) ≡ true → object_in line ≡ Ok (fields_of d)
object_read line d utf8 is h = rw (is_utf8-from_IsUtf8 line utf8, is) (object_fields d h)

pub other_read : (line : List ℕ) (d : Json) → IsUtf8 line → text_value line ≡ Some d → is_some (as_object d) ≡ false → object_in line ≡ Err NotJson
other_read line d utf8 is h = rw (is_utf8-from_IsUtf8 line utf8, is) (no_object d h)

refused : (line : List ℕ) (b : Bool) → (b ≡ true → text_value line ≡ None) → or_fault NotJson (option_and_then members_in (cond b (text_value line) None)) ≡ Err NotJson
refused line true h = rw (h refl) refl
refused line false h = refl

pub none_read : (line : List ℕ) → (IsUtf8 line → text_value line ≡ None) → object_in line ≡ Err NotJson
none_read line h = refused line (is_utf8 line) (λ e. h (IsUtf8-from_is_utf8 line e))
