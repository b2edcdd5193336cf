use Rattle.std.proofs.Common.{◌≡◌, ◌<◌, ◌∷◌, ◌++◌, length, [], Some, None, true, false, refl, sym, ap, subst, ◌∙◌, arith, rules, codes, bytes_eq, option_map}
use Rattle.json.specs.Json.{object, string, no_members, read_key}
use Rattle.json.specs.Value.{value_view}
use Rattle.comm_json.specs.Behind.{get_member, put, tidy, tidy_members}
use Rattle.comm_value.specs.Tree as tree
use Rattle.comm_messages.proofs.NoBytes.{no_bytes}
use Rattle.std.specs.Prelude.{IfSome, MatchOption}
use Rattle.comm_value.specs.Places.{members_have_bytes}
use Rattle.comm_reader.specs.Reader.{HasContent, ReadsMembers}
use Rattle.comm_reader.specs.declared.content.Content.{Content}
use Rattle.comm_reader.proofs.Walking.{nothing_yet, one_more, all_read}
use Rattle.comm_reader.proofs.Slots.{set_data, set_comm_id, set_target_name, content_kept}
use Rattle.comm_reader.proofs.content.read_members.Goals as goal

pub loop-dict-init : goal.loop-dict-init
loop-dict-init c =
    let empty : c.new-dict.result ≡ tree.no_members = search rules in
    (no_members, nothing_yet c.args.depth c.args.reader.now, record { dict = (no_members, refl, ap Some (sym empty)); comm_id = refl; target_name = refl })

pub loop-dict-preserved-then-is_named : goal.loop-dict-preserved-then-is_named
loop-dict-preserved-then-is_named c =
    let k = c.in-Some.key.now in
    let was = c.loop-dict.invariant in
    let begun : read_key c.loop-dict.reader ≡ Some (Some k, c.next_key.new.self) = grind arith in
    let is_key : bytes_eq k (codes "data") ≡ true = search rules in
    let r = c.in_ok-dict.ensures.reads in
    let before : Content = record { dict = c.loop-dict.dict; comm_id = c.loop-dict.comm_id; target_name = c.loop-dict.target_name } in
    let walked = one_more c.args.depth c.args.reader.now was.0 c.loop-dict.reader c.next_key.new.self c.read_data.new.reader k (object r.0) was.1 begun r.1 r.2 c.in_ok-dict.ensures.shorter in
    (put k (object (tidy_members r.0 no_members)) was.0, walked, set_data c.args.numbers was.0 before k was.2 c.in_ok-dict.dict (tidy_members r.0 no_members) is_key r.3)

pub loop-dict-preserved-then-is_named-2 : goal.loop-dict-preserved-then-is_named-2
loop-dict-preserved-then-is_named-2 c =
    let k = c.in-Some.key.now in
    let was = c.loop-dict.invariant in
    let s = c.in_ok-read_string.field-0 in
    let begun : read_key c.loop-dict.reader ≡ Some (Some k, c.next_key.new.self) = grind arith in
    let is_key : bytes_eq k (codes "comm_id") ≡ true = search rules in
    let before : Content = record { dict = c.loop-dict.dict; comm_id = c.loop-dict.comm_id; target_name = c.loop-dict.target_name } in
    let walked = one_more c.args.depth c.args.reader.now was.0 c.loop-dict.reader c.next_key.new.self c.read_string.new.reader k (string s.now) was.1 begun (c.in_ok-read_string.ensures.value c.args.depth) refl c.in_ok-read_string.ensures.shorter in
    (put k (string s.now) was.0, walked, set_comm_id c.args.numbers was.0 before k was.2 s is_key)

pub loop-dict-preserved-then-is_named-3 : goal.loop-dict-preserved-then-is_named-3
loop-dict-preserved-then-is_named-3 c =
    let k = c.in-Some.key.now in
    let was = c.loop-dict.invariant in
    let s = c.in_ok-read_string-2.field-0 in
    let begun : read_key c.loop-dict.reader ≡ Some (Some k, c.next_key.new.self) = grind arith in
    let is_key : bytes_eq k (codes "target_name") ≡ true = search rules in
    let before : Content = record { dict = c.loop-dict.dict; comm_id = c.loop-dict.comm_id; target_name = c.loop-dict.target_name } in
    let walked = one_more c.args.depth c.args.reader.now was.0 c.loop-dict.reader c.next_key.new.self c.read_string-then-is_named-3.new.reader k (string s.now) was.1 begun (c.in_ok-read_string-2.ensures.value c.args.depth) refl c.in_ok-read_string-2.ensures.shorter in
    (put k (string s.now) was.0, walked, set_target_name c.args.numbers was.0 before k was.2 s is_key)

pub loop-dict-preserved : goal.loop-dict-preserved
loop-dict-preserved c =
    let k = c.in-Some.key.now in
    let was = c.loop-dict.invariant in
    let j = value_view c.in_ok-read_value.field-0 in
    let begun : read_key c.loop-dict.reader ≡ Some (Some k, c.next_key.new.self) = grind arith in
    let a : bytes_eq k (codes "data") ≡ false = search rules in
    let b : bytes_eq k (codes "comm_id") ≡ false = search rules in
    let d : bytes_eq k (codes "target_name") ≡ false = search rules in
    let before : Content = record { dict = c.loop-dict.dict; comm_id = c.loop-dict.comm_id; target_name = c.loop-dict.target_name } in
    let walked = one_more c.args.depth c.args.reader.now was.0 c.loop-dict.reader c.next_key.new.self c.read_value.new.reader k j was.1 begun c.in_ok-read_value.ensures.value c.in_ok-read_value.ensures.fits c.in_ok-read_value.ensures.shorter in
    (put k (tidy j) was.0, walked, content_kept c.args.numbers was.0 before k was.2 (tidy j) a b d)

pub returns-clause-reads : goal.returns-clause-reads
returns-clause-reads c =
    let was = c.loop-dict.invariant in
    let end : read_key c.loop-dict.reader ≡ Some (None, c.next_key.new.self) = grind arith in
    let content : Content = record { dict = c.loop-dict.dict; comm_id = c.loop-dict.comm_id; target_name = c.loop-dict.target_name } in
    let is : c.set_content.new.at ≡ Some content = c.set_content.ensures in
    subst (λ o. MatchOption o ⊥ (λ d. ReadsMembers c.args.depth c.args.reader.now (HasContent c.args.numbers d) c.next_key.new.self)) (sym is)
    (all_read c.args.depth c.args.reader.now was.0 c.loop-dict.reader c.next_key.new.self (HasContent c.args.numbers content) was.1 end was.2)

pub returns-clause-plain : goal.returns-clause-plain
returns-clause-plain c =
    let has = c.loop-dict.invariant.2.dict in
    let content : Content = record { dict = c.loop-dict.dict; comm_id = c.loop-dict.comm_id; target_name = c.loop-dict.target_name } in
    let is : c.set_content.new.at ≡ Some content = c.set_content.ensures in
    subst (λ o. IfSome o (λ (d : Content). members_have_bytes d.dict ≡ false)) (sym is) (no_bytes c.args.numbers has.0 c.loop-dict.dict has.2)
