use Rattle.std.proofs.Common.{◌≡◌, ◌-◌, List, ℕ, Ok, true, refl, sym, ap, subst, ◌∙◌, rules, codes, bytes_eq}
use Rattle.std.proofs.lemmas.Slice.Eq.{bytes_eq-Decides}
use Rattle.json.specs.Json.{Members, object, string, no_members}
use Rattle.comm_json.specs.Behind.{put, tidy_members}
use Rattle.serde_json.specs.Read.{max_depth}
use Rattle.comm_messages.proofs.ObjectLemmas.{object_read}
use Rattle.comm_reader.specs.Reader.{push_line}
use Rattle.comm_reader.proofs.Walking.{nothing_yet, one_more, all_read, whole_text}
use Rattle.comm_reader.proofs.push.push_at_once.Goals as goal

pub returns : goal.returns
returns c =
    let depth = max_depth - 1 in
    let t0 = c.enter.new.reader in
    let call = c.in_ok-call.call in
    let id = c.in_ok-id.id in
    let s = c.in_ok-state.ensures.reads in
    let state = tidy_members s.0 no_members in
    let is_push : bytes_eq call.now (codes "push") ≡ true = search rules in
    let s0 = nothing_yet depth t0 in
    let s1 = one_more depth t0 _ t0 c.enter_member.new.reader c.read_string.new.reader (codes "call") (string call.now) s0 c.in_ok-enter_member.ensures (c.in_ok-call.ensures.value depth) refl c.in_ok-call.ensures.shorter in
    let s2 = one_more depth t0 _ c.read_string.new.reader c.enter_member-2.new.reader c.read_string-2.new.reader (codes "id") (string id.now) s1 c.in_ok-enter_member-2.ensures (c.in_ok-id.ensures.value depth) refl c.in_ok-id.ensures.shorter in
    let s3 = one_more depth t0 _ c.read_string-2.new.reader c.enter_member-3.new.reader c.read_data.new.reader (codes "state") (object s.0) s2 c.in_ok-enter_member-3.ensures s.1 s.2 c.in_ok-state.ensures.shorter in
    let is : Members → Type 0 = λ ms. ms ≡ push_line id.now state in
    let line_with : List ℕ → Members = λ k. put (codes "state") (object state) (put (codes "id") (string id.now) (put (codes "call") (string k) no_members)) in
    let found : is (line_with call.now) = ap line_with ((bytes_eq-Decides call.now (codes "push")).0 is_push) in
    let read = all_read depth t0 _ c.read_data.new.reader c.leave.new.reader is s3 c.in_ok-leave.ensures found in
    let whole = whole_text c.args.line.now t0 c.leave.new.reader is (sym c.in_ok-reader.ensures.tokens ∙ c.in_ok-enter.ensures) read c.in_ok-end.ensures in
    let same : id.now ≡ c.in_ok-ok.field-0 = search rules in
    (state, object_read c.args.line.now (object whole.0) c.in_ok-reader.ensures.utf8 whole.1 refl ∙ ap Ok whole.2 ∙ ap (λ i. Ok (push_line i state)) same, s.3)
