use Rattle.std.proofs.Common.{◌≡◌, [], ◌∷◌, None, refl, ap, ◌∙◌, subst, rules}
use Rattle.json.specs.Json.{no_members}
use Rattle.comm_json.specs.Behind.{line_value}
use Rattle.serde_json.specs.Read.{max_depth}
use Rattle.comm_reader.specs.Reader.{IsVersion, ReadsObject}
use Rattle.comm_reader.proofs.Walking.{whole_value, whole_line, no_members_line}
use Rattle.comm_reader.proofs.parts.version_in.Goals as goal

pub returns : goal.returns
returns c =
    let has = IsVersion c.in_ok-version.version in
    let read = subst (λ ts. ReadsObject max_depth ts has c.read_version.new.reader) c.in_ok-reader.ensures.tokens c.in_ok-version.ensures.reads in
    whole_line c.args.bytes.now has c.in_ok-reader.ensures.utf8 (whole_value c.args.bytes.now c.read_version.new.reader has read c.in_ok-end.ensures)

pub returns-then-eq : goal.returns-then-eq
returns-then-eq c =
    let empty : c.args.bytes.now ≡ 123 ∷ 125 ∷ [] = search rules in
    (no_members, ap line_value empty ∙ no_members_line, refl)
