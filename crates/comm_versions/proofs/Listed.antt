-- What is listed of comms in chunks.
use Rattle.std.proofs.Common.{◌≡◌, ℕ, ◌<◌, ◌+◌, Bool, true, false, cond, List, [], ◌∷◌, ◌++◌, length, get_or, take, map, filter, Global, Vec, Less, sym, ap, ◌∙◌, append_assoc, subst}
use Rattle.std.specs.Arc.{arc_value}
use Rattle.std.specs.List.{AllByRecursion}
use Rattle.std.specs.List.Sorted.{IsStrictlySortedBy}
use Rattle.std.proofs.lemmas.List.{map-append, take_more}
use Rattle.std.proofs.lemmas.List.Elements.{filter-append}
use Rattle.comm_messages.specs.Listed.{IdsAreInOrder}
use Rattle.comm_messages.specs.declared.infos.Info.{Info}
use Rattle.comm_core.specs.Machine.{Name}
use Rattle.comm_core.specs.Reads.{info_of}
use Rattle.comm_core.specs.Tables.{Opens}
use Rattle.comm_core.specs.declared.comm.Comm.{Comm}
use Rattle.comm_versions.specs.Chunks.{CommChunk, comms_in, IsInOrder, id_cmp}
use Rattle.comm_versions.proofs.Flat.{flat_push}
use Rattle.comm_versions.proofs.Ids.{IsBelow}

module _ (p : Name × Comm → Bool) where
  abbrev pub listed : Opens → List Info
  listed es = map info_of (filter p es)

  listed-append : (xs ys : Opens) → listed (xs ++ ys) ≡ listed xs ++ listed ys
  listed-append xs ys = ap (map info_of) (filter-append p xs ys) ∙ map-append info_of (filter p xs) (filter p ys)

  -- the comms of one more chunk
  pub chunk_listed : (ps : List CommChunk) (i : ℕ) (q : CommChunk) (v : Vec (Name × Comm) Global) (xs : Opens) (start all new : List Info) → i < length ps → q ≡ get_or ps i q → v ≡ arc_value q → xs ≡ v.items
      → all ≡ start ++ listed (comms_in (take i ps)) → new ≡ all ++ listed xs → new ≡ start ++ listed (comms_in (take (i + 1) ps))
  chunk_listed ps i q v xs start all new h is deref items before added =
      let more : comms_in (take (i + 1) ps) ≡ comms_in (take i ps) ++ xs =
      flat_push (take i ps) (take (i + 1) ps) q xs (take_more ps i q h ∙ ap (λ (r : CommChunk). take i ps ++ r ∷ []) (sym is)) (sym (items ∙ ap (λ (w : Vec (Name × Comm) Global). w.items) deref)) in
      added ∙ ap (λ l. l ++ listed xs) before ∙ append_assoc start (listed (comms_in (take i ps))) (listed xs)
      ∙ ap (λ l. start ++ l) (sym (ap listed more ∙ listed-append (comms_in (take i ps)) xs))

  below_listed : (k : Name) (es : Opens) → IsBelow k es → AllByRecursion (λ n. id_cmp k n ≡ Less) (map (λ (i : Info). i.id) (listed es))
  below_listed k [] b = tt
  below_listed k (e ∷ es) b =
      let more = below_listed k es b.1 in
      elim (p e) as (λ t. AllByRecursion (λ n. id_cmp k n ≡ Less) (map (λ (i : Info). i.id) (map info_of (cond t (e ∷ filter p es) (filter p es))))) [ true ↦ (b.0, more) | false ↦ more ]

  ids_in_order : (es : Opens) → IsInOrder es → IdsAreInOrder (listed es)
  unfolding IsStrictlySortedBy
  ids_in_order [] o = tt
  ids_in_order (e ∷ es) o =
      let more = ids_in_order es o.1 in
      elim (p e) as (λ t. IdsAreInOrder (map info_of (cond t (e ∷ filter p es) (filter p es)))) [ true ↦ (below_listed e.0 es o.0, more) | false ↦ more ]

  pub listed_in_order : (start new : List Info) (es : Opens) → start ≡ [] → new ≡ start ++ listed es → IsInOrder es → IdsAreInOrder new
  listed_in_order start new es none is o = subst IdsAreInOrder (sym (is ∙ ap (λ l. l ++ listed es) none)) (ids_in_order es o)
