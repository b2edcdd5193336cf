use Rattle.std.proofs.Common.{◌≡◌, length, Some, None, true, false, refl, ap, ◌∙◌, arith, rules, codes, bytes_eq}
use Rattle.json.specs.Json.{string, no_members, read_key}
use Rattle.json.specs.Value.{value_view}
use Rattle.comm_json.specs.Behind.{put, tidy}
use Rattle.comm_messages.specs.Fields.{text}
use Rattle.comm_reader.specs.Reader.{IsVersion}
use Rattle.comm_reader.proofs.Walking.{nothing_yet, one_more, all_read, put_there, put_elsewhere}
use Rattle.comm_reader.proofs.MessageTests.{text_of}
use Rattle.comm_reader.proofs.heading.version_in.Goals as goal

pub loop-key-init : goal.loop-key-init
loop-key-init c = (no_members, nothing_yet c.args.depth c.args.reader.now, refl)

pub loop-key-preserved-then-is_named : goal.loop-key-preserved-then-is_named
loop-key-preserved-then-is_named c =
    let k = c.in-Some.key.now in
    let was = c.loop-key.invariant in
    let s = c.in_ok-read_string.field-0 in
    let begun : read_key c.loop-key.reader ≡ Some (Some k, c.next_key.new.self) = grind arith in
    let is_key : bytes_eq k (codes "version") ≡ true = search rules in
    let walked = one_more c.args.depth c.args.reader.now was.0 c.loop-key.reader c.next_key.new.self c.read_string.new.reader k (string s.now) was.1 begun (c.in_ok-read_string.ensures.value c.args.depth) refl c.in_ok-read_string.ensures.shorter in
    (put k (string s.now) was.0, walked, put_there (codes "version") k (string s.now) was.0 is_key)

pub loop-key-preserved : goal.loop-key-preserved
loop-key-preserved c =
    let k = c.in-Some.key.now in
    let was = c.loop-key.invariant in
    let j = value_view c.in_ok-read_value.field-0 in
    let begun : read_key c.loop-key.reader ≡ Some (Some k, c.next_key.new.self) = grind arith in
    let other : bytes_eq k (codes "version") ≡ false = search rules in
    let walked = one_more c.args.depth c.args.reader.now was.0 c.loop-key.reader c.next_key.new.self c.read_value.new.reader k j was.1 begun c.in_ok-read_value.ensures.value c.in_ok-read_value.ensures.fits c.in_ok-read_value.ensures.shorter in
    (put k (tidy j) was.0, walked, put_elsewhere (codes "version") k (tidy j) was.0 other ∙ was.2)

pub returns-clause-reads : goal.returns-clause-reads
returns-clause-reads c =
    let was = c.loop-key.invariant in
    let end : read_key c.loop-key.reader ≡ Some (None, c.next_key.new.self) = grind arith in
    all_read c.args.depth c.args.reader.now was.0 c.loop-key.reader c.next_key.new.self (IsVersion c.loop-key.version) was.1 end (ap text was.2 ∙ text_of c.loop-key.version)
