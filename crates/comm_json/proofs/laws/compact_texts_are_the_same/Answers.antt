use Rattle.comm_json.proofs.SameTexts.{same_text}
use Rattle.comm_json.proofs.laws.compact_texts_are_the_same.Goals as goal

pub returns : goal.returns
returns c = same_text
