use Rattle.std.proofs.Common.{◌≡◌, ℕ, List, [], ◌++◌, ap, arith, sym, refl}
use Rattle.std.proofs.lemmas.Bool.{eqb-true}
use Rattle.std.proofs.lemmas.List.{nil_from_length}
use Rattle.std.specs.Vec.{vec_len}
use Rattle.comm_script.proofs.Playing.{plays_first, plays_next}
use Rattle.comm_script.proofs.stream.play_chunk.Goals as goal

pub loop-line-init : goal.loop-line-init
loop-line-init g c = plays_first _ _ _ _ _ _ _ _ _ c.requires.within c.requires.sound c.requires.one_line

pub loop-line-preserved : goal.loop-line-preserved
loop-line-preserved g c = rw c.in_ok-play_joined.ensures.empty (
    plays_next _ _ _ _ _ _ _ _ _ c.loop-line.backend c.play_joined.new.backend c.loop-line.n c.loop-line.pending.items c.loop-line.rest.now c.in-Some.line.now c.in-Some.more.now c.loop-line.text.items
    c.play_joined.new.text.items (c.loop-line.pending.items ++ c.in-Some.line.now) c.loop-line.invariant c.in-Some.ensures.parts c.in-Some.ensures.first refl c.in_ok-play_joined.ensures.kept
    c.in_ok-play_joined.ensures.count (c.in_ok-play_joined.ensures.text) (c.in_ok-play_joined.ensures.turn))

pub loop-line-preserved-in_ok-play_line : goal.loop-line-preserved-in_ok-play_line
loop-line-preserved-in_ok-play_line g c = rw empty (
    plays_next _ _ _ _ _ _ _ _ _ c.loop-line.backend c.play_line.new.backend c.loop-line.n c.loop-line.pending.items c.loop-line.rest.now c.in-Some.line.now c.in-Some.more.now c.loop-line.text.items
    c.play_line.new.text.items c.in-Some.line.now c.loop-line.invariant c.in-Some.ensures.parts c.in-Some.ensures.first (ap (λ (p : List ℕ). p ++ c.in-Some.line.now) (sym empty)) c.in_ok-play_line.ensures.kept
    c.in_ok-play_line.ensures.count (c.in_ok-play_line.ensures.text) (c.in_ok-play_line.ensures.turn))
  where
    empty : c.loop-line.pending.items ≡ []
    empty = nil_from_length _ (omega (arith, eqb-true (vec_len c.loop-line.pending) 0 (sym c.if-is_empty.ensures)))
