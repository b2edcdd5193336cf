-- The listing that is kept: that it stays current, and that the part of one target is what is listed of it.
use Rattle.std.proofs.Common.{◌≡◌, Bool, true, false, cond, List, [], ◌∷◌, map, filter, fold, Option, None, Some, Less, Equal, Greater, refl, ap, sym, ◌∙◌}
use Rattle.std.specs.Ordering.{match_ordering}
use Rattle.std.specs.Map.{lookup, set_value}
use Rattle.comm_messages.specs.declared.infos.Info.{Info}
use Rattle.comm_core.specs.Machine.{Name}
use Rattle.comm_core.specs.Tables.{Opens}
use Rattle.comm_core.specs.Reads.{info_of, in_order, passes}
use Rattle.comm_core.specs.Kept.{listing, IsCurrent, pairs_of, shown}
use Rattle.comm_core.specs.Runs.{Pair}
use Rattle.comm_core.specs.declared.comm.Comm.{Comm}
use Rattle.comm_core.proofs.Listing.{order, put, pairs_shown}

-- ---- what is listed is seen of the ids and the names of the targets

put_pairs : (es : Opens) (e : Name × Comm) → pairs_of (put es e) ≡ put (pairs_of es) (e.0, e.1.target)
put_pairs [] e = refl
put_pairs (d ∷ es) e =
    let more = put_pairs es e in
    elim (order e.0 d.0) as (λ o. pairs_of (match_ordering o (e ∷ d ∷ es) ((d.0, e.1) ∷ es) (d ∷ put es e))
    ≡ match_ordering o ((e.0, e.1.target) ∷ (d.0, d.1.target) ∷ pairs_of es) ((d.0, e.1.target) ∷ pairs_of es) ((d.0, d.1.target) ∷ put (pairs_of es) (e.0, e.1.target))) [
      | Less ↦ refl
      | Equal ↦ refl
      | Greater ↦ ap (λ (l : List Pair). (d.0, d.1.target) ∷ l) more
    ]

all_pairs : (es done : Opens) → pairs_of (fold put done es) ≡ fold put (pairs_of done) (pairs_of es)
all_pairs [] done = refl
all_pairs (e ∷ es) done = all_pairs es (put done e) ∙ ap (λ l. fold put l (pairs_of es)) (put_pairs done e)

pub listing_shown : (es : Opens) → listing es ≡ map shown (in_order (pairs_of es))
listing_shown es = pairs_shown (in_order es) ∙ ap (map shown) (all_pairs es [])

-- ---- a state doesn't show

pairs_with_state : (p : Name → Bool) (es : Opens) (c w : Comm) → Some c ≡ lookup p es → w.target ≡ c.target → pairs_of (set_value p es w) ≡ pairs_of es
pairs_with_state p [] c w h t = refl
pairs_with_state p (e ∷ es) c w h t =
    let more = pairs_with_state p es c w in
    (elim (p e.0) as (λ b. Some c ≡ cond b (Some e.1) (lookup p es) → pairs_of (cond b ((e.0, w) ∷ es) (e ∷ set_value p es w)) ≡ (e.0, e.1.target) ∷ pairs_of es) [
      | true ↦ λ l. let s : c ≡ e.1 = cc in ap (λ n. (e.0, n) ∷ pairs_of es) (t ∙ ap (λ (z : Comm). z.target) s)
      | false ↦ λ l. ap (λ ps. (e.0, e.1.target) ∷ ps) (more l t)
    ]) h

pub still_current : (kept : Option (List Info)) (old new : Opens) → IsCurrent kept old → pairs_of new ≡ pairs_of old → IsCurrent kept new
still_current None old new k same = tt
still_current (Some l) old new k same = k ∙ listing_shown old ∙ ap (λ ps. map shown (in_order ps)) (sym same) ∙ sym (listing_shown new)

pub current_with_state : (kept : Option (List Info)) (p : Name → Bool) (old new : Opens) (c w : Comm) → IsCurrent kept old → new ≡ set_value p old w
    → Some c ≡ lookup p old → w.target ≡ c.target → IsCurrent kept new
current_with_state kept p old new c w k is h t = still_current kept old new k (ap pairs_of is ∙ pairs_with_state p old c w h t)

-- ---- the part of one target

part_shown : (f : Info → Bool) (es : Opens) → filter f (map info_of es) ≡ map info_of (filter (λ e. f (info_of e)) es)
part_shown f [] = refl
part_shown f (e ∷ es) =
    let more = part_shown f es in
    elim (f (info_of e)) as (λ b. cond b (info_of e ∷ filter f (map info_of es)) (filter f (map info_of es))
    ≡ map info_of (cond b (e ∷ filter (λ e. f (info_of e)) es) (filter (λ e. f (info_of e)) es))) [
      | true ↦ ap (λ l. info_of e ∷ l) more
      | false ↦ more
    ]

pub part_of_listing : (asked : Option Name) (es : Opens) → filter (λ (i : Info). passes asked i.target) (listing es) ≡ map info_of (filter (λ e. passes asked e.1.target) (in_order es))
part_of_listing asked es = part_shown (λ i. passes asked i.target) (in_order es)

pub all_pass : (is : List Info) → filter (λ (i : Info). passes None i.target) is ≡ is
all_pass [] = refl
all_pass (i ∷ is) = ap (λ l. i ∷ l) (all_pass is)
