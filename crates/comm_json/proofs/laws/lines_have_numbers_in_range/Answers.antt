use Rattle.comm_json.proofs.LineNumbers.{in_line}
use Rattle.comm_json.proofs.laws.lines_have_numbers_in_range.Goals as goal

pub returns : goal.returns
returns c = in_line
