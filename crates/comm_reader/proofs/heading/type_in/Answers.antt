use Rattle.std.proofs.Common.{◌≡◌, ◌<◌, ◌∷◌, ◌++◌, length, [], Some, None, true, false, refl, sym, ap, subst, ◌∙◌, arith, rules, codes, bytes_eq, option_map}
use Rattle.json.specs.Json.{object, string, no_members, read_key}
use Rattle.json.specs.Value.{value_view}
use Rattle.comm_json.specs.Behind.{get_member, put, tidy, tidy_members}
use Rattle.std.specs.Prelude.{IfSome}
use Rattle.comm_reader.specs.Reader.{IsType, ReadsMembers}
use Rattle.comm_reader.proofs.Walking.{nothing_yet, one_more, all_read, put_there, put_elsewhere}
use Rattle.comm_reader.proofs.MessageTests.{named}
use Rattle.comm_reader.proofs.heading.type_in.Goals as goal

pub loop-key-init : goal.loop-key-init
loop-key-init c = (no_members, nothing_yet c.args.depth c.args.reader.now, refl)

pub loop-key-preserved-then-is_named : goal.loop-key-preserved-then-is_named
loop-key-preserved-then-is_named c =
    let k = c.in-Some.key.now in
    let was = c.loop-key.invariant in
    let s = c.in_ok-read_string.field-0 in
    let begun : read_key c.loop-key.reader ≡ Some (Some k, c.next_key.new.self) = grind arith in
    let is_key : bytes_eq k (codes "msg_type") ≡ true = search rules in
    let walked = one_more c.args.depth c.args.reader.now was.0 c.loop-key.reader c.next_key.new.self c.read_string.new.reader k (string s.now) was.1 begun (c.in_ok-read_string.ensures.value c.args.depth) refl c.in_ok-read_string.ensures.shorter in
    (put k (string s.now) was.0, walked, put_there (codes "msg_type") k (string s.now) was.0 is_key)

pub loop-key-preserved : goal.loop-key-preserved
loop-key-preserved c =
    let k = c.in-Some.key.now in
    let was = c.loop-key.invariant in
    let j = value_view c.in_ok-read_value.field-0 in
    let begun : read_key c.loop-key.reader ≡ Some (Some k, c.next_key.new.self) = grind arith in
    let other : bytes_eq k (codes "msg_type") ≡ false = search rules in
    let walked = one_more c.args.depth c.args.reader.now was.0 c.loop-key.reader c.next_key.new.self c.read_value.new.reader k j was.1 begun c.in_ok-read_value.ensures.value c.in_ok-read_value.ensures.fits c.in_ok-read_value.ensures.shorter in
    (put k (tidy j) was.0, walked, put_elsewhere (codes "msg_type") k (tidy j) was.0 other ∙ was.2)

pub returns-clause-reads : goal.returns-clause-reads
returns-clause-reads c =
    let was = c.loop-key.invariant in
    let s = c.in_ok-name.field-0 in
    let end : read_key c.loop-key.reader ≡ Some (None, c.next_key.new.self) = grind arith in
    let is : c.loop-key.name ≡ Some s = search rules in
    named c.type_named.result c.ok-2.result s.now (λ t. ReadsMembers c.args.depth c.args.reader.now (IsType t) c.next_key.new.self) was.0 c.ok-2.ensures.value (was.2 ∙ ap (option_map (λ x. string x.now)) is) c.type_named.ensures
    (λ t h. all_read c.args.depth c.args.reader.now was.0 c.loop-key.reader c.next_key.new.self (IsType t) was.1 end h)
