-- The machine values of a `ClientHandle`. Assumes `Logic`.
use Rattle.std.proofs.Common.{◌≡◌, ℕ, List, [], ◌∷◌, ◌++◌, refl, subst}
use seplogic.Ra.Ura.{Ura}
use mir.Syntax.{impl, tnil, dnil}
use mir.Raw.{raw as bare}
use mir.Val.{Val, vstruct, vcons, vnil, of_list}
use base.Logic.{never, via, fst∗, snd∗, guard_i}
use types.Logic.{Logic, sem}
use types.Kit.{Item, Goal, Seq, Step, step, ‵, given, ◌$◌, drop, fsplit, fjoin, fpick, fpack, feq_i, feq_l, use1, learn}
use contract.Monad.{fact_use}
use denote.RattleType.{RattleType, Valss}
use denote.Builtin.{RawPtr}
use denote.Memory.{lone}
use denote.RawPtr.{Ptr, block_ptr, null_ptr, ptr_val, in_a_block, lies_at, Testable}
use base.Fraction.{full_share}
use denote.Steps.{nothing}
use denote.Struct.Struct.{within}
use denote.Struct.Owning.{shape}
use Rattle.core.proofs.alloc.Calls.{Al}
use Rattle.std.specs.declared.alloc.Global.{Global}
use Rattle.std.specs.declared.option.Option.{Option}
use Rattle.std.specs.declared.option.Option.TheVariants.{None, Some}
use Rattle.std.specs.contracts.alloc.Global as heap
use Rattle.std.proofs.alloc.Global.TheLaws as heap_laws
use Rattle.std.specs.contracts.impls.GlobalAllocator.TheImpl.{ghosts}
use Rattle.std.proofs.GlobalToken.{dealloc_token-Testable}
use Rattle.comm_c.specs.Handle.{heap as c_heap}
use Rattle.std_alloc.specs.Box.Ownership.{box_owns}
use Rattle.comm_c.specs.Handle.{handle_owns}
use Rattle.comm_c.specs.ClientState.{ClientState}
use Rattle.comm_c.specs.declared.client_handle.ClientHandle.{ClientHandle}
use Rattle.comm_c.specs.contracts.client.Client as client
use Rattle.comm_c.specs.contracts.client_handle.ClientHandle as handle

abbrev pub R : RattleType
R = client.the_row

abbrev pub boxed : Ptr → ClientState → base.Fml.Fml
boxed p x = box_owns (ghosts.dealloc_token c_heap) R p x

abbrev pub al : Al
al = record { row = heap.the_row; laws = heap_laws.the_row_laws; g = ghosts; d = impl [] tnil dnil; drops = impl [] tnil dnil }

abbrev pub word : Val → Val
word v = vstruct (vcons v vnil)

module _ {M : Type 1} {𝓤 : Ura M} {𝓛 : Logic 𝓤} {K : Type 0} {Γ : List (Item 𝓤)} {G : Goal 𝓤 𝓛.H} where
  pub handle_in : K → (p : Ptr) (x : Option ClientState)
      → Step K 𝓛 (‵ (handle.the_row.own_val (record { at = p; value = x }) (word (ptr_val p) ∷ [])) ∷ Γ) G (‵ (handle_owns R p x) ∷ Γ) G
  handle_in t p x = step (λ s. let v : Val = word (ptr_val p) in
      nothing t $ feq_i t (List Val) (ptr_val p ∷ []) (ptr_val p ∷ []) refl $ fjoin t $ feq_i t (List Val) (v ∷ []) (v ∷ []) refl $ fjoin t $
      fpack t (Valss (RawPtr ∷ [])) (within (shape handle.the_type) (p, tt) (v ∷ [])) (ptr_val p ∷ [], tt) $ fjoin t $ s)

  pub handle_out : K → (d : ClientHandle) (vs : List Val)
      → (vs ≡ word (ptr_val d.at) ∷ [] → Seq K 𝓛 (‵ (handle_owns R d.at d.value) ∷ Γ) G)
      → Seq K 𝓛 (‵ (handle.the_row.own_val d vs) ∷ Γ) G
  handle_out t d vs k =
      fsplit t $ fpick t (λ vss. fsplit t $ feq_l t (λ ev. fsplit t $ feq_l t (λ ep. drop t $
      k (subst (λ (ps : List Val). vs ≡ vstruct (of_list (ps ++ [])) ∷ []) ep ev))))

  -- at null nothing is owned, and else the box
  pub either : K → (a : Global) (p : Ptr) (x : Option ClientState) → (p ≡ null_ptr → x ≡ None → Seq K 𝓛 Γ G)
      → ((b o : ℕ) (y : ClientState) → p ≡ block_ptr b o → x ≡ Some y → Testable (block_ptr b o) → Seq K 𝓛 (‵ (boxed (block_ptr b o) y) ∷ Γ) G)
      → Seq K 𝓛 (‵ (handle_owns R p x) ∷ Γ) G
  either t a p None none one = feq_l t (λ e. none e refl)
  either t a p (Some y) none one =
      in_a_block t p (λ q. boxed q y) (fst∗ 𝓤 (never 𝓤) (sem 𝓛 (ghosts.dealloc_token c_heap (bare (lone R.mir)) null_ptr))) (λ b o e. let q = block_ptr b o in let B = sem 𝓛 (boxed q y) in
      use1 𝓛 (given (Testable q) (‵ (boxed q y)))
      (fact_use 𝓤 (Testable q) (via 𝓤 _ (snd∗ 𝓤 (sem 𝓛 (lies_at R full_share q y)) (sem 𝓛 (ghosts.dealloc_token c_heap (bare (lone R.mir)) q))) (dealloc_token-Testable 𝓛 c_heap (bare (lone R.mir)) q)) (guard_i 𝓤 (Testable q) B)) $
      learn t (λ may. one b o y e refl may))
