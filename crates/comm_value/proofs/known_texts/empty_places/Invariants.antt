use Rattle.std.proofs.Common.{◌≡◌, length}
use Rattle.comm_value.specs.KnownTexts.{AreShort}
use Rattle.comm_value.proofs.known_texts.empty_places.Given as goal

abbrev pub invariant-loop : goal.invariant-loop
invariant-loop l = (length l.places.items ≡ l.counter) × AreShort l.places.items
