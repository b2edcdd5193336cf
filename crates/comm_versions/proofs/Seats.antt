-- The steps that keep the rule over the versions.
use Rattle.std.proofs.Common.{◌≡◌, ℕ, ◌≢◌, true, List, [], ◌∷◌, fold, set, refl, sym, ap, ◌∙◌, subst, ⊎_elim}
use mathlib.Core.List.{IsPrefix}
use mathlib.Core.Option.{some}
use lib.ListN.{get_elem?}
use Rattle.crossbeam_utils.specs.Register.{Admits, TurnsAt, Forks, Merges}
use Rattle.atomic_table.proofs.Lists.{at_set, at_snoc}
use Rattle.comm_versions.specs.declared.version.Version.{Version}
use Rattle.comm_versions.specs.Known.{Known}
use Rattle.comm_versions.specs.Seats.{SeatView, Knows, IsShown, stranger}
use Rattle.comm_versions.specs.Pending.{CanShow, last_front}
use Rattle.comm_versions.proofs.Fronts.{prefix_self, prefix_trans}

abbrev pub holds : Version → List SeatView → Type 0
holds x views = IsShown x.front views

abbrev pub seen : SeatView → Version → Version → SeatView → Type 0
seen v x y w = (w ≡ (true, y.front)) × Knows y.front v

knows_nothing : (x : Known) → Knows x stranger
knows_nothing x t = absurd (cc (t))

pub knows_later : (x y : Known) (v : SeatView) → y.origin ≡ x.origin → IsPrefix x.entries y.entries → Knows x v → Knows y v
knows_later x y v b p k t = let q = k t in (q.0 ∙ sym b, prefix_trans v.1.entries x.entries y.entries q.1 p)

pub admits : Admits holds stranger
admits x views h = λ seat v at. ⊎_elim (h seat v) (λ (e : stranger ≡ v). subst (Knows x.front) e (knows_nothing x.front)) (at_snoc views stranger v seat at)

pub turns : (seat : ℕ) (v : SeatView) (x y : Version) → y.front.origin ≡ x.front.origin → IsPrefix x.front.entries y.front.entries → TurnsAt holds seat v x y seen
turns seat v x y b p views h at = (
  (true, y.front),
  λ j u e.
      ⊎_elim (λ (s : (j ≡ seat) × ((true, y.front) ≡ u)). subst (Knows y.front) s.1 (λ _. (refl, prefix_self y.front.entries)))
      (λ (s : (j ≢ seat) × (get_elem? views j ≡ some u)). knows_later x.front y.front u b p (h j u s.1)) (at_set views seat j (true, y.front) u e),
  (refl, knows_later x.front y.front v b p (h seat v at)),
)

pub reads : (seat : ℕ) (v : SeatView) (x : Version) → TurnsAt holds seat v x x seen
reads seat v x = turns seat v x x refl (prefix_self x.front.entries)

set_knows : (x : Known) (views : List SeatView) (seat : ℕ) (v : SeatView) → ((j : ℕ) (u : SeatView) → get_elem? views j ≡ some u → Knows x u) → Knows x v
    → (j : ℕ) (u : SeatView) → get_elem? (set views seat v) j ≡ some u → Knows x u
set_knows x views seat v h k j u e = ⊎_elim (λ (s : (j ≡ seat) × (v ≡ u)). subst (Knows x) s.1 k) (λ (s : (j ≢ seat) × (get_elem? views j ≡ some u)). h j u s.1) (at_set views seat j v u e)

pub forks : (seat : ℕ) (v : SeatView) → Forks holds seat v v v
forks seat v x views h at = λ j u e.
    ⊎_elim (set_knows x.front views seat v h (h seat v at) j u) (λ (same : v ≡ u). subst (Knows x.front) same (h seat v at)) (at_snoc (set views seat v) v u j e)

pub merges : (seat : ℕ) (v : SeatView) (other : ℕ) (w : SeatView) → Merges holds seat v other w w stranger
merges seat v other w x views h at apart there =
    let k : Knows x.front w = ⊎_elim (λ (t : (other ≡ seat) × (w ≡ w)). absurd (apart t.0)) (λ (t : (other ≢ seat) × (get_elem? views other ≡ some w)). h other w t.1) (at_set views seat other w w there) in
    set_knows x.front (set views seat w) other stranger (set_knows x.front views seat w h k) (knows_nothing x.front)

abbrev pub applied : Known → Version → Known
applied s op = op.front

pub shows : (seat : ℕ) (v : SeatView) (x y : Version) (ops : List Version) → CanShow x.front ops → y.front ≡ fold applied x.front ops → TurnsAt holds seat v x y seen
shows seat v x y ops can is =
    let op = can.op in
    let front : y.front ≡ op.front = subst (λ (l : List Version). y.front ≡ fold applied x.front l) can.alone is in
    turns seat v x y (ap (λ (k : Known). k.origin) front ∙ can.origin) (subst (λ (k : Known). IsPrefix x.front.entries k.entries) (sym front) can.later)

pub last_shown : (ops : List Version) (k : Known) → fold applied k ops ≡ last_front k ops
last_shown [] k = refl
last_shown (op ∷ ops) k = last_shown ops op.front

-- at the start
pub starts : (x : Version) → holds x (stranger ∷ [])
starts x = λ seat v at. ⊎_elim (λ (e : get_elem? {A = SeatView} [] seat ≡ some v). absurd (cc (e))) (λ (e : stranger ≡ v). subst (Knows x.front) e (knows_nothing x.front)) (at_snoc [] stranger v seat at)
