use Rattle.std.proofs.Common.{◌≡◌, ◌<◌, length, Option, Some, None, true, false, sym, subst, arith, rules, codes, bytes_eq}
use Rattle.std.specs.Prelude.{IfSome}
use Rattle.json.specs.Json.{object, no_members, read_key}
use Rattle.json.proofs.Grammar.{read_key-shorter}
use Rattle.comm_json.specs.Behind.{put, tidy, tidy_members}
use Rattle.comm_value.specs.Places.{members_have_bytes}
use Rattle.comm_reader.specs.Reader.{HasLine}
use Rattle.comm_reader.specs.declared.content.Content.{Content}
use Rattle.comm_reader.specs.declared.line.Line.{Line}
use Rattle.comm_reader.proofs.Walking.{nothing_yet, one_more, all_read, key_read, there}
use Rattle.comm_reader.proofs.Slots.{nothing_of, set_header, set_content}
use Rattle.comm_reader.proofs.line.read_members.Goals as goal

pub loop-key-init : goal.loop-key-init
loop-key-init c =
    let first = nothing_of c.args.absent.now c.args.clients c.args.numbers c.args.line.now c.requires in
    ((no_members, nothing_yet c.args.depth c.args.reader.now, first), rw (c.requires.content) tt, λ some. rw (c.requires.client) some)

pub loop-key-smaller-in-Header : goal.loop-key-smaller-in-Header
loop-key-smaller-in-Header c =
    let begun : read_key c.loop-key.reader ≡ Some (Some c.in-Some.key.now, c.next_key.new.self) = key_read c.next_key.result c.ok.result c.in_ok-key.field-0 c.in-Some.key c.loop-key.reader c.next_key.new.self c.ok.ensures.value (search rules) (search rules) c.next_key.ensures.value in
    let smaller : length c.read_type.new.reader < length c.loop-key.reader = omega (arith, read_key-shorter _ _ _ begun, c.in_ok-read_type-in-Header.ensures.shorter) in
    smaller

pub loop-key-preserved-in-Header : goal.loop-key-preserved-in-Header
loop-key-preserved-in-Header c =
    let k = c.in-Some.key.now in
    let was = c.loop-key.invariant in
    let begun : read_key c.loop-key.reader ≡ Some (Some k, c.next_key.new.self) = key_read c.next_key.result c.ok.result c.in_ok-key.field-0 c.in-Some.key c.loop-key.reader c.next_key.new.self c.ok.ensures.value (search rules) (search rules) c.next_key.ensures.value in
    let other : bytes_eq k c.args.absent.now ≡ false = search rules in
    let is_key : bytes_eq k (codes "header") ≡ true = c.in-Header.ensures in
    let r = c.in_ok-read_type-in-Header.ensures.reads in
    let walked = one_more c.args.depth c.args.reader.now was.0.0 c.loop-key.reader c.next_key.new.self c.read_type.new.reader k (object r.0) was.0.1 begun r.1 r.2 c.in_ok-read_type-in-Header.ensures.shorter in
    ((put k (object (tidy_members r.0 no_members)) was.0.0, walked, set_header c.args.absent.now c.args.clients c.args.numbers was.0.0 c.loop-key.line k was.0.2 other c.in_ok-read_type-in-Header.field-0 (tidy_members r.0 no_members) is_key r.3), was.1, was.2)

pub loop-key-preserved-in_ok-read_content-in-Content : goal.loop-key-preserved-in_ok-read_content-in-Content
loop-key-preserved-in_ok-read_content-in-Content c =
    let k = c.in-Some.key.now in
    let was = c.loop-key.invariant in
    let begun : read_key c.loop-key.reader ≡ Some (Some k, c.next_key.new.self) = grind arith in
    let other : bytes_eq k c.args.absent.now ≡ false = search rules in
    let is_key : bytes_eq k (codes "content") ≡ true = c.in-Content.ensures in
    let put_in = there c.read_content.new.content _ c.in_ok-read_content-in-Content.ensures.reads in
    let r = put_in.2 in
    let walked = one_more c.args.depth c.args.reader.now was.0.0 c.loop-key.reader c.next_key.new.self c.read_content.new.reader k (object r.0) was.0.1 begun r.1 r.2 c.in_ok-read_content-in-Content.ensures.shorter in
    let found = put k (object (tidy_members r.0 no_members)) was.0.0 in
    let has = set_content c.args.absent.now c.args.clients c.args.numbers was.0.0 c.loop-key.line k was.0.2 other put_in.0 (tidy_members r.0 no_members) is_key r.3 in
    let before : Line = c.loop-key.line in
    let line : Option Content → Line = λ o. record { type_ = before.type_; client = before.client; content = o; metadata = before.metadata; buffers = before.buffers } in (
      (found, walked, subst (λ o. HasLine c.args.absent.now c.args.clients c.args.numbers (line o) found) (sym put_in.1) has),
      c.in_ok-read_content-in-Content.ensures.plain,
      was.2,
    )

pub loop-key-preserved : goal.loop-key-preserved
loop-key-preserved c =
    let k = c.in-Some.key.now in
    let was = c.loop-key.invariant in
    let begun : read_key c.loop-key.reader ≡ Some (Some k, c.next_key.new.self) = grind arith in
    let other : bytes_eq k c.args.absent.now ≡ false = search rules in
    let e = c.in_ok-read_rare-in-Rare.ensures in
    let r = e.reads in
    let walked = one_more c.args.depth c.args.reader.now was.0.0 c.loop-key.reader c.next_key.new.self c.read_rare.new.reader k r.0 was.0.1 begun r.1 r.2 e.shorter in
    let plain = subst (λ x. IfSome x (λ (d : Content). members_have_bytes d.dict ≡ false)) (sym e.content) was.1 in
    ((put k (tidy r.0) was.0.0, walked, r.3 c.args.absent.now c.args.numbers k was.0.0 c.in-Rare.ensures other was.0.2), plain, λ some. e.below (was.2 some))

pub returns-clause-reads : goal.returns-clause-reads
returns-clause-reads c =
    let was = c.loop-key.invariant in
    let end : read_key c.loop-key.reader ≡ Some (None, c.next_key.new.self) = grind arith in
    all_read c.args.depth c.args.reader.now was.0.0 c.loop-key.reader c.next_key.new.self (HasLine c.args.absent.now c.args.clients c.args.numbers c.loop-key.line) was.0.1 end was.0.2
