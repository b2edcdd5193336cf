use Rattle.std.proofs.Common.{ap, ◌∙◌}
use Rattle.comm_value.specs.View.{members_of}
use Rattle.comm_value.proofs.SearchLemmas.{put_found_at, put_absent_at}
use Rattle.comm_value.proofs.chunks.put_member.Goals as goal
use Rattle.comm_value.proofs.chunks.put_member.Goals.{in-Ok+in-Decimal-1, in-Ok+in-Text-1, in-Ok+in-Bytes-1, in-Ok+in-List+in-Nothing-1, in-Ok+in-List+in-Some-1, in-Ok+in-Dict+in-One-1, in-Ok+in-Dict+in-Many-1, in-Ok+in-Dict+in-Nothing-1, in-Ok+in-Null-1, in-Err+in_ok-insert-in-Err}

-- The arms are the ways in which the member that stood there is let go.
pub returns-clause-put : goal.returns-clause-put
returns-clause-put c = elim c.match-place_of.branch [
  | in-Ok+in-Decimal-1 w ↦ ap (λ v. members_of v.items) w.all-is ∙ put_found_at c.args.members.items _ w.in-Ok.i c.args.member _ c.as_slice.ensures.value c.as_str.ensures w.in-Ok.ensures.found
  | in-Ok+in-Text-1 w ↦ ap (λ v. members_of v.items) w.all-is ∙ put_found_at c.args.members.items _ w.in-Ok.i c.args.member _ c.as_slice.ensures.value c.as_str.ensures w.in-Ok.ensures.found
  | in-Ok+in-Bytes-1 w ↦ ap (λ v. members_of v.items) w.all-is ∙ put_found_at c.args.members.items _ w.in-Ok.i c.args.member _ c.as_slice.ensures.value c.as_str.ensures w.in-Ok.ensures.found
  | in-Ok+in-List+in-Nothing-1 w ↦ ap (λ v. members_of v.items) w.all-is ∙ put_found_at c.args.members.items _ w.in-Ok.i c.args.member _ c.as_slice.ensures.value c.as_str.ensures w.in-Ok.ensures.found
  | in-Ok+in-List+in-Some-1 w ↦ ap (λ v. members_of v.items) w.all-is ∙ put_found_at c.args.members.items _ w.in-Ok.i c.args.member _ c.as_slice.ensures.value c.as_str.ensures w.in-Ok.ensures.found
  | in-Ok+in-Dict+in-One-1 w ↦ ap (λ v. members_of v.items) w.all-is ∙ put_found_at c.args.members.items _ w.in-Ok.i c.args.member _ c.as_slice.ensures.value c.as_str.ensures w.in-Ok.ensures.found
  | in-Ok+in-Dict+in-Many-1 w ↦ ap (λ v. members_of v.items) w.all-is ∙ put_found_at c.args.members.items _ w.in-Ok.i c.args.member _ c.as_slice.ensures.value c.as_str.ensures w.in-Ok.ensures.found
  | in-Ok+in-Dict+in-Nothing-1 w ↦ ap (λ v. members_of v.items) w.all-is ∙ put_found_at c.args.members.items _ w.in-Ok.i c.args.member _ c.as_slice.ensures.value c.as_str.ensures w.in-Ok.ensures.found
  | in-Ok+in-Null-1 w ↦ ap (λ v. members_of v.items) w.all-is ∙ put_found_at c.args.members.items _ w.in-Ok.i c.args.member _ c.as_slice.ensures.value c.as_str.ensures w.in-Ok.ensures.found
  | in-Err+in_ok-insert-in-Err w ↦ ap (λ v. members_of v.items) w.all-is ∙ ap members_of w.in_ok-insert-in-Err.ensures.items ∙ put_absent_at c.args.members.items _ w.in-Err.i c.args.member _ c.as_slice.ensures.value c.as_str.ensures w.in-Err.ensures.absent
]
