use Rattle.json.proofs.Printed.Plain.{escape_on_plain}
use Rattle.comm_value.proofs.json_string.is_plain.Goals as goal

pub returns-then-len-le8 : goal.returns-then-len-le8
returns-then-len-le8 c = escape_on_plain c.ends_are_plain.result c.args.bytes.now c.ends_are_plain.ensures

pub returns-then-len-le16 : goal.returns-then-len-le16
returns-then-len-le16 c = escape_on_plain c.ends_are_plain-then-len-le16.result c.args.bytes.now c.ends_are_plain-then-len-le16.ensures

pub returns-then-len-le32 : goal.returns-then-len-le32
returns-then-len-le32 c = escape_on_plain c.ends_are_plain-then-len-le32.result c.args.bytes.now c.ends_are_plain-then-len-le32.ensures

pub returns-then-len-le64 : goal.returns-then-len-le64
returns-then-len-le64 c = escape_on_plain c.ends_are_plain-then-len-le64.result c.args.bytes.now c.ends_are_plain-then-len-le64.ensures

pub returns-else-len-le64 : goal.returns-else-len-le64
returns-else-len-le64 c = escape_on_plain c.many_are_plain.result c.args.bytes.now c.many_are_plain.ensures
