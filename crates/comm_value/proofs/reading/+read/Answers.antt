use Rattle.std.proofs.Common.{◌≡◌, ◌++◌, [], ◌∷◌, Some, None, refl, sym, ap, subst, ◌∙◌, arith, rules}
use Rattle.json.specs.Token.{Token}
use Rattle.json.specs.Reads.{token_of}
use Rattle.json.specs.Json.{Json, array, object, parse_map, value, after_end_array}
use Rattle.json.proofs.Grammar.{value_is, value-begin_array, value-begin_object}
use Rattle.std.specs.Prelude.{option_map}
use Rattle.comm_value.specs.Tree.{no_members, text, list, dict}
use Rattle.comm_value.specs.Order.{items_ordered, members_ordered}
use Rattle.comm_value.specs.Put.{insert}
use Rattle.comm_value.specs.Reading.{ReadsItems, ReadsMembers}
use Rattle.comm_value.specs.View.{tree, flat, AllFilled, items_of as items_view, members_of as members_view}
use Rattle.comm_value.proofs.FromJsonLemmas.{items_ordered_push}
use Rattle.comm_value.proofs.Keys.{whole, ordered_insert}
use Rattle.comm_value.proofs.ReadingLemmas.{no_item, one_item_more, all_items, no_member_yet, one_member_more, all_members, more_members, HasMembers, whole_object, some_of_ok, as_member, as_end, ordered_inside, if_some, number_read}
use Rattle.comm_value.proofs.reading.+read.Goals as goal

pub read_members-returns-in_default-clause-reads : goal.read_members-returns-in_default-clause-reads
read_members-returns-in_default-clause-reads t c =
    let end = as_end c.args.numbers c.args.depth c.args.reader.now c.read_member.new.reader c.in_ok-first.field-0 c.in_default.is c.in_ok-first.ensures.reads in
    subst (λ d. ReadsMembers c.args.numbers c.args.depth c.args.reader.now d c.read_member.new.reader) (sym c.new.ensures)
    (whole_object c.args.numbers c.args.depth _ no_members _ (all_members c.args.numbers c.args.depth _ no_members no_members _ _ (no_member_yet c.args.numbers c.args.depth _ no_members) end))

pub read_members-returns-in_default-2-clause-reads : goal.read_members-returns-in_default-2-clause-reads
read_members-returns-in_default-2-clause-reads t c =
    let m = c.in-Some.first in
    let one = as_member c.args.numbers c.args.depth c.args.reader.now c.read_member.new.reader c.in_ok-first.field-0 m c.in-Some.is c.in_ok-first.ensures.reads in
    let end = as_end c.args.numbers c.args.depth c.read_member.new.reader c.read_member-2.new.reader c.in_ok-second.field-0 c.in_default-2.is c.in_ok-second.ensures.reads in
    let has = one_member_more c.args.numbers c.args.depth _ no_members no_members _ _ m.key (tree m.value) (no_member_yet c.args.numbers c.args.depth _ no_members) one c.in_ok-first.ensures.shorter in
    some_of_ok c.of_one.result c.ok.result (members_view (m ∷ [])) (λ d. ReadsMembers c.args.numbers c.args.depth c.args.reader.now d c.read_member-2.new.reader) c.ok.ensures.value c.of_one.ensures
    (whole_object c.args.numbers c.args.depth _ _ _ (all_members c.args.numbers c.args.depth _ no_members _ _ _ has end))

pub read_rest-loop-found-init : goal.read_rest-loop-found-init
read_rest-loop-found-init t c = (no_member_yet c.args.numbers c.args.depth c.args.reader.now (members_view c.args.before.items), c.requires)

pub read_rest-loop-found-preserved : goal.read_rest-loop-found-preserved
read_rest-loop-found-preserved t c =
    let m = c.in-Some.member in
    let one = as_member c.args.numbers c.args.depth c.loop-found.reader c.read_member.new.reader c.in_ok-member.field-0 m c.in-Some.is c.in_ok-member.ensures.reads in
    let ordered = ordered_inside c.in_ok-member.field-0 m c.in-Some.is c.in_ok-member.ensures.ordered in
    let put : members_view c.in_ok-found.found.items ≡ insert m.key (tree m.value) (members_view c.loop-found.found.items) = search rules in (
      subst (λ d. HasMembers c.args.numbers c.args.depth c.args.reader.now (members_view c.args.before.items) d c.read_member.new.reader) (sym put)
          (one_member_more c.args.numbers c.args.depth _ _ _ _ _ m.key (tree m.value) c.loop-found.invariant.0 one c.in_ok-member.ensures.shorter),
      ap members_ordered put ∙ ordered_insert m.key (tree m.value) (members_view c.loop-found.found.items) ordered c.loop-found.invariant.1,
    )

pub read_rest-returns-clause-reads : goal.read_rest-returns-clause-reads
read_rest-returns-clause-reads t c =
    let end = as_end c.args.numbers c.args.depth c.loop-found.reader c.read_member.new.reader c.in_ok-member.field-0 c.in_default.is c.in_ok-member.ensures.reads in
    some_of_ok c.from_members.result c.ok-2.result (members_view c.loop-found.found.items) _ c.ok-2.ensures.value c.from_members.ensures (all_members c.args.numbers c.args.depth _ _ _ _ _ c.loop-found.invariant.0 end)

pub read_members-read_rest-requires : goal.read_members-read_rest-requires
read_members-read_rest-requires t c =
    let m = c.in-Some.first in
    let n = c.in-Some-2.second in
    let first = ordered_inside c.in_ok-first.field-0 m c.in-Some.is c.in_ok-first.ensures.ordered in
    let second = ordered_inside c.in_ok-second.field-0 n c.in-Some-2.is c.in_ok-second.ensures.ordered in
    let put : members_view c.in_ok-both.both.items ≡ insert n.key (tree n.value) (members_view (m ∷ [])) = search rules in
    (omega arith, ap members_ordered put ∙ ordered_insert n.key (tree n.value) (members_view (m ∷ [])) second (whole m.key (tree m.value) no_members refl first refl))

pub read_members-returns-clause-reads : goal.read_members-returns-clause-reads
read_members-returns-clause-reads t c =
    let m = c.in-Some.first in
    let n = c.in-Some-2.second in
    let one = as_member c.args.numbers c.args.depth c.args.reader.now c.read_member.new.reader c.in_ok-first.field-0 m c.in-Some.is c.in_ok-first.ensures.reads in
    let two = as_member c.args.numbers c.args.depth c.read_member.new.reader c.read_member-2.new.reader c.in_ok-second.field-0 n c.in-Some-2.is c.in_ok-second.ensures.reads in
    let put : members_view c.in_ok-both.both.items ≡ insert n.key (tree n.value) (members_view (m ∷ [])) = search rules in
    let has = one_member_more c.args.numbers c.args.depth _ no_members no_members _ _ m.key (tree m.value) (no_member_yet c.args.numbers c.args.depth c.args.reader.now no_members) one c.in_ok-first.ensures.shorter in
    let both = one_member_more c.args.numbers c.args.depth _ no_members _ _ _ n.key (tree n.value) has two c.in_ok-second.ensures.shorter in
    if_some c.read_rest.result _ _ (λ d r. whole_object c.args.numbers c.args.depth _ d _ (more_members c.args.numbers c.args.depth _ no_members _ d _ _
    (subst (λ e. HasMembers c.args.numbers c.args.depth c.args.reader.now no_members e c.read_member-2.new.reader) (sym put) both) r)) c.read_rest.ensures.reads

pub read_val-returns-in-Null-clause-reads : goal.read_val-returns-in-Null-clause-reads
read_val-returns-in-Null-clause-reads t c =
    let first : c.args.reader.now ≡ token_of c.in_ok-next.field-0 ∷ c.next.new.self = grind arith in
    let is : c.args.reader.now ≡ Token.null ∷ c.next.new.self = first ∙ ap (λ k. token_of k ∷ c.next.new.self) c.in-Null.is in
    (Json.null, ap (value c.args.depth) is ∙ value_is c.args.depth _, refl, refl)

pub read_val-returns-in-Bool-clause-reads : goal.read_val-returns-in-Bool-clause-reads
read_val-returns-in-Bool-clause-reads t c =
    let first : c.args.reader.now ≡ token_of c.in_ok-next.field-0 ∷ c.next.new.self = grind arith in
    let is : c.args.reader.now ≡ Token.boolean c.in-Bool.b ∷ c.next.new.self = grind (arith, first) in
    (Json.boolean c.in-Bool.b, ap (value c.args.depth) is ∙ value_is c.args.depth _, refl, refl)

pub read_val-returns-in-Number-clause-reads : goal.read_val-returns-in-Number-clause-reads
read_val-returns-in-Number-clause-reads t c =
    let first : c.args.reader.now ≡ token_of c.in_ok-next.field-0 ∷ c.next.new.self = grind arith in
    let is : c.args.reader.now ≡ Token.number c.in-Number.text.now ∷ c.next.new.self = grind (arith, first) in
    number_read c.args.numbers c.args.depth _ _ c.in-Number.text.now c.read_number.result (ap (value c.args.depth) is ∙ value_is c.args.depth _) c.read_number.ensures.in_range c.read_number.ensures.taken

pub read_val-returns-in_ok-ok-in-String-clause-reads : goal.read_val-returns-in_ok-ok-in-String-clause-reads
read_val-returns-in_ok-ok-in-String-clause-reads t c =
    let first : c.args.reader.now ≡ token_of c.in_ok-next.field-0 ∷ c.next.new.self = grind arith in
    let is : c.args.reader.now ≡ Token.string c.in-String.text.now ∷ c.next.new.self = grind (arith, first) in
    let same : c.in-String.text.now ≡ c.in_ok-ok-in-String.field-0 = search rules in
    (Json.string c.in-String.text.now, ap (value c.args.depth) is ∙ value_is c.args.depth _, refl, ap (λ s. Some (text s)) same)

pub read_items-returns-then-take_end_array-clause-reads : goal.read_items-returns-then-take_end_array-clause-reads
read_items-returns-then-take_end_array-clause-reads t c =
    let end : after_end_array c.args.reader.now ≡ Some c.take_end_array.new.self = grind arith in
    subst (λ is. ReadsItems c.args.numbers c.args.depth c.args.reader.now is c.take_end_array.new.self) (sym c.empty.ensures) (no_item c.args.numbers c.args.depth c.args.reader.now c.take_end_array.new.self end)

pub read_items-new-requires : goal.read_items-new-requires
read_items-new-requires t c =
    let pushed : c.push_item.new.all.items ≡ c.loop-found.found.items ++ c.in_ok-value.value ∷ [] = search rules in
    ap (λ vs. items_ordered (items_view vs)) pushed ∙ items_ordered_push c.loop-found.found.items c.in_ok-value.value c.loop-found.invariant.1 c.in_order.ensures

pub read_items-loop-found-preserved : goal.read_items-loop-found-preserved
read_items-loop-found-preserved t c =
    let pushed : c.push_item.new.all.items ≡ c.loop-found.found.items ++ c.in_ok-value.value ∷ [] = search rules in
    let going : (after_end_array c.take_end_array-in-loop-found.new.self ≡ None) × (c.take_end_array-in-loop-found.new.self ≡ c.read_val.new.reader) = grind arith in (
      rw (pushed, going.1) (one_item_more c.args.numbers c.args.depth c.take_end_array.new.self c.loop-found.found.items c.loop-found.reader c.read_val.new.reader c.in_ok-value.value c.loop-found.invariant.0 c.loop-found.invariant.2
          c.in_ok-value.ensures.reads c.in_ok-value.ensures.shorter),
      ap (λ vs. items_ordered (items_view vs)) pushed ∙ items_ordered_push c.loop-found.found.items c.in_ok-value.value c.loop-found.invariant.1 c.in_order.ensures,
      going.0,
    )

pub read_items-returns-then-take_end_array-2-clause-reads : goal.read_items-returns-then-take_end_array-2-clause-reads
read_items-returns-then-take_end_array-2-clause-reads t c =
    let pushed : c.push_item.new.all.items ≡ c.loop-found.found.items ++ c.in_ok-value.value ∷ [] = search rules in
    let start : c.take_end_array.new.self ≡ c.args.reader.now = grind arith in
    let end : after_end_array c.read_val.new.reader ≡ Some c.take_end_array-in-loop-found.new.self = grind arith in
    let has = one_item_more c.args.numbers c.args.depth c.take_end_array.new.self c.loop-found.found.items c.loop-found.reader c.read_val.new.reader c.in_ok-value.value c.loop-found.invariant.0 c.loop-found.invariant.2
    c.in_ok-value.ensures.reads c.in_ok-value.ensures.shorter in
    some_of_ok c.new.result c.ok-then-take_end_array-2.result (items_view c.push_item.new.all.items) (λ is. ReadsItems c.args.numbers c.args.depth c.args.reader.now is c.take_end_array-in-loop-found.new.self) c.ok-then-take_end_array-2.ensures.value c.new.ensures
    (rw pushed (subst (λ ts. ReadsItems c.args.numbers c.args.depth ts (items_view (c.loop-found.found.items ++ c.in_ok-value.value ∷ [])) c.take_end_array-in-loop-found.new.self) start
    (all_items c.args.numbers c.args.depth c.take_end_array.new.self _ _ _ has end)))

pub read_val-returns-in_ok-items-in-BeginArray-clause-reads : goal.read_val-returns-in_ok-items-in-BeginArray-clause-reads
read_val-returns-in_ok-items-in-BeginArray-clause-reads t c =
    let first : c.args.reader.now ≡ token_of c.in_ok-next.field-0 ∷ c.next.new.self = grind arith in
    let opened = ap (value c.args.depth) (first ∙ ap (λ k. token_of k ∷ c.next.new.self) c.in-BeginArray.is) ∙ value-begin_array c.args.depth c.next.new.self (omega arith) in
    let r = c.in_ok-items-in-BeginArray.ensures.reads in
    (array r.0, opened ∙ ap (parse_map array) r.1, r.2, ap (option_map list) r.3)

pub read_val-returns-in_ok-dict-in-BeginObject-clause-reads : goal.read_val-returns-in_ok-dict-in-BeginObject-clause-reads
read_val-returns-in_ok-dict-in-BeginObject-clause-reads t c =
    let first : c.args.reader.now ≡ token_of c.in_ok-next.field-0 ∷ c.next.new.self = grind arith in
    let opened = ap (value c.args.depth) (first ∙ ap (λ k. token_of k ∷ c.next.new.self) c.in-BeginObject.is) ∙ value-begin_object c.args.depth c.next.new.self (omega arith) in
    let r = c.in_ok-dict-in-BeginObject.ensures.reads in
    (object r.0, opened ∙ ap (parse_map object) r.1, r.2, ap (option_map dict) r.3)

pub read_many-loop-found-init : goal.read_many-loop-found-init
read_many-loop-found-init t c = (no_member_yet c.args.numbers c.args.depth c.args.reader.now (members_view (flat c.args.before.items)), c.requires.ordered, c.requires.filled)

pub read_many-loop-found-preserved : goal.read_many-loop-found-preserved
read_many-loop-found-preserved t c =
    let m = c.in-Some.member in
    let one = as_member c.args.numbers c.args.depth c.loop-found.reader c.read_member.new.reader c.in_ok-member.field-0 m c.in-Some.is c.in_ok-member.ensures.reads in
    let ordered = ordered_inside c.in_ok-member.field-0 m c.in-Some.is c.in_ok-member.ensures.ordered in
    let put : members_view (flat c.in_ok-found.found.items) ≡ insert m.key (tree m.value) (members_view (flat c.loop-found.found.items)) = search rules in
    let filled : AllFilled c.in_ok-found.found.items = search rules in (
      subst (λ d. HasMembers c.args.numbers c.args.depth c.args.reader.now (members_view (flat c.args.before.items)) d c.read_member.new.reader) (sym put)
          (one_member_more c.args.numbers c.args.depth _ _ _ _ _ m.key (tree m.value) c.loop-found.invariant.0 one c.in_ok-member.ensures.shorter),
      ap members_ordered put ∙ ordered_insert m.key (tree m.value) (members_view (flat c.loop-found.found.items)) ordered c.loop-found.invariant.1,
      filled,
    )

pub read_many-returns-clause-reads : goal.read_many-returns-clause-reads
read_many-returns-clause-reads t c =
    let end = as_end c.args.numbers c.args.depth c.loop-found.reader c.read_member.new.reader c.in_ok-member.field-0 c.in_default.is c.in_ok-member.ensures.reads in
    some_of_ok c.from_chunks.result c.ok-2.result (members_view (flat c.loop-found.found.items)) _ c.ok-2.ensures.value c.from_chunks.ensures (all_members c.args.numbers c.args.depth _ _ _ _ _ c.loop-found.invariant.0 end)

pub read_rest-put-requires-clause-ordered : goal.read_rest-put-requires-clause-ordered
read_rest-put-requires-clause-ordered t c =
    let same : flat c.in_ok-chunks.chunks.items ≡ c.loop-found.found.items = search rules in
    ap (λ all. members_ordered (members_view all)) same ∙ c.loop-found.invariant.1

pub read_rest-read_many-requires : goal.read_rest-read_many-requires
read_rest-read_many-requires t c =
    let m = c.in-Some.member in
    let ordered = ordered_inside c.in_ok-member.field-0 m c.in-Some.is c.in_ok-member.ensures.ordered in
    let same : flat c.in_ok-chunks.chunks.items ≡ c.loop-found.found.items = search rules in
    let put : members_view (flat c.in_ok-more.more.items) ≡ insert m.key (tree m.value) (members_view (flat c.in_ok-chunks.chunks.items)) = search rules in
    let all = put ∙ ap (λ ms. insert m.key (tree m.value) (members_view ms)) same in
    let filled : AllFilled c.in_ok-more.more.items = search rules in
    (omega arith, (ap members_ordered all ∙ ordered_insert m.key (tree m.value) (members_view c.loop-found.found.items) ordered c.loop-found.invariant.1, filled))

pub read_rest-returns-then-is_many-clause-reads : goal.read_rest-returns-then-is_many-clause-reads
read_rest-returns-then-is_many-clause-reads t c =
    let m = c.in-Some.member in
    let one = as_member c.args.numbers c.args.depth c.loop-found.reader c.read_member.new.reader c.in_ok-member.field-0 m c.in-Some.is c.in_ok-member.ensures.reads in
    let same : flat c.in_ok-chunks.chunks.items ≡ c.loop-found.found.items = search rules in
    let put : members_view (flat c.in_ok-more.more.items) ≡ insert m.key (tree m.value) (members_view (flat c.in_ok-chunks.chunks.items)) = search rules in
    let all = put ∙ ap (λ ms. insert m.key (tree m.value) (members_view ms)) same in
    let has = one_member_more c.args.numbers c.args.depth c.args.reader.now (members_view c.args.before.items) _ _ _ m.key (tree m.value) c.loop-found.invariant.0 one c.in_ok-member.ensures.shorter in
    if_some c.read_many.result _ _ (λ d r. more_members c.args.numbers c.args.depth c.args.reader.now (members_view c.args.before.items) _ d _ _
    (subst (λ e. HasMembers c.args.numbers c.args.depth c.args.reader.now (members_view c.args.before.items) e c.read_member.new.reader) (sym all) has) r) c.read_many.ensures.reads
