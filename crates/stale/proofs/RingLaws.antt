-- The ring of all stations: what a station's numbers are and hold, over any sequences of numbers of walks by slot and hops, F, and those of
-- its columns, F'. What stays when other places change, what a number more brings, of its own or of another station, and what gathering
-- along the links gives. Assumes nothing.
use Rattle.std.proofs.Common.{◌≡◌, ℕ, zero, suc, ◌+◌, ◌-◌, ◌*◌, ◌/◌, ◌%◌, ◌^◌, ◌<◌, ◌≤◌, cond, eqb, ◌≢◌, ◌⊎◌, List, length, get_or, set, sym, refl, ap, ◌∙◌, inl, inr, ⊎_elim, mod-eq_of_lt, arith, length-set, get_or-set_other, get_or-set_same, le-ltb, lt-ltb, eq-eqb, ne_eqb}
use native.Mathlib.Decide.{dec_le, ℕ_discrete}
use native.Mathlib.Nat.{mul-add-mod_self_right}
use mathlib.Core.Logic.{by_cases}
use lib.Arith.{digits_div}
use Rattle.counting.proofs.Fewest.{plus}
use Rattle.pass.specs.Row.{part_size, row_at}
use Rattle.pass.specs.Column.{Lanes}
use Rattle.pass.proofs.PlaceLaws.{row_inside}
use Rattle.pass.proofs.BestLaws.{best_ext}
use Rattle.stale.specs.Depth.{spread}
use Rattle.stale.specs.Size.{window_size}
use Rattle.stale.specs.Window.{ring_at, mark_at, number_part, number_place, number_mark, head_of, oldest_of, taken_cell, emptied_cell}
use Rattle.stale.specs.Window.{kept_cell, followed_cell, lower_link, next_head, gathered_cell, pushed_entry, pushed_marks, pushed_cell}
use Rattle.stale.specs.Window.{TwoParts, WindowArea}
use Rattle.stale.proofs.SpreadLaws.{picked, picked_early, picked_late, picked_in, spread_cells, spread_last, spread_zero}
use Rattle.stale.proofs.RingPlaces.{Apart, ring_before, ring_first, ring_apart, parts_end, mark_behind, mark_inside, mark_apart}
use Rattle.stale.proofs.RingPlaces.{number_inside, number_place_law, number_apart, area_same, ring_fits, mark_fits, ring_heard}
use Rattle.stale.proofs.WindowCells.{Holds, Alike, OnlyCell, OnlyPart, holds_alike, cell_refl, cell_then, cell_part}
use Rattle.stale.proofs.WindowCells.{cell_alike, part_alike}
use Rattle.stale.proofs.WindowCells.{taken_cell_law, same_holds, emptied_cell_law, emptied_holds}

-- of K appearances that were kept, number k is still there in a ring of q cells
pub record Recent (q K k : ℕ) : Type 0 where
  pub kept : k < K
  pub young : K ≤ k + q

-- the head of a station's numbers below k, where at is the slot of each of its numbers, and 0 for a number of another station
unfoldable pub newest : (ℕ → ℕ) → ℕ → ℕ
newest at zero = 0
newest at (suc k) = cond (eqb (at k) 0) (newest at k) (suc k)

-- By slot c, with K numbers in all: the slots of the numbers of v rise, and no more than B x numbers were kept since one of slot x. The head
-- of v is that of its numbers. The marks of those that are still there have their slots and links, and their cells hold the walks of their
-- slots. Every slot has a number, or no walks.
pub record Ring (lay : Lanes) (n block d c v K : ℕ) (B : ℕ → ℕ) (F : ℕ → ℕ → ℕ) (F' : ℕ → ℕ → ℕ → ℕ) (w : List ℕ) : Type 0 where
  pub at : ℕ → ℕ
  pub ahead : (k : ℕ) → K ≤ k → at k ≡ 0
  pub before : (k : ℕ) → at k ≤ c
  pub rising : (k l : ℕ) → 0 < at k → k < l → 0 < at l → at k < at l
  pub young : (k : ℕ) → 0 < at k → K ≤ k + B (at k)
  pub head : head_of n block d w v ≡ newest at K
  pub marks : (k : ℕ) → Recent (n * d) K k → 0 < at k → get_or w (number_mark n block d k) 0 ≡ newest at k * 256 + at k
  pub holds : (k : ℕ) → Recent (n * d) K k → 0 < at k
      → Holds lay n block w (number_part n block d k) (number_place n d k) (F (at k)) (λ j. F' j (at k))
  pub whole : (x : ℕ) → 0 < x → x ≤ c → ((k : ℕ) × (k < K) × (at k ≡ x)) ⊎ ((i : ℕ) → F x i ≡ 0)

-- ---- heads

newest_least : (at : ℕ → ℕ) (k : ℕ) → newest at k ≤ k
unfolding newest
newest_least at zero = omega arith
newest_least at (suc k) =
    by_cases (ℕ_discrete (at k) 0)
    (λ none. rw (eq-eqb (at k) 0 none) (omega (arith, newest_least at k)))
    (λ some. rw (ne_eqb (at k) 0 some) (omega arith))

newest_skip : (at : ℕ → ℕ) (k : ℕ) → at k ≡ 0 → newest at (suc k) ≡ newest at k
unfolding newest
newest_skip at k none = rw (eq-eqb (at k) 0 none)

newest_here : (at : ℕ → ℕ) (k : ℕ) → at k ≢ 0 → newest at (suc k) ≡ suc k
unfolding newest
newest_here at k some = rw (ne_eqb (at k) 0 some)

newest_same : (at at' : ℕ → ℕ) (k : ℕ) → ((i : ℕ) → i < k → at' i ≡ at i) → newest at' k ≡ newest at k
unfolding newest
newest_same at at' zero e = refl
newest_same at at' (suc k) e =
    rw (e k (omega arith), newest_same at at' k (λ i h. e i (omega arith)))

-- ---- what stays

-- the ring is the same in two lists
pub record SameRing (n block d : ℕ) (old new : List ℕ) : Type 0 where
  pub cells : (i x : ℕ) → i < d → x < n → Alike n block (ring_at n block i) x old new
  pub marks : (i x : ℕ) → i ≤ d → x < n → get_or new (mark_at n block d i x) 0 ≡ get_or old (mark_at n block d i x) 0

pub ring_same : {lay : Lanes} {n block d c v K : ℕ} {B : ℕ → ℕ} {F : ℕ → ℕ → ℕ} {F' : ℕ → ℕ → ℕ → ℕ} {old new : List ℕ} → 0 < n → 0 < d
    → v < n → SameRing n block d old new → Ring lay n block d c v K B F F' old → Ring lay n block d c v K B F F' new
ring_same {n = n} {d = d} {v = v} some deep hv same r =
    record {
      at = r.at;
      ahead = r.ahead;
      before = r.before;
      rising = r.rising;
      young = r.young;
      head = same.marks d v (omega arith) hv ∙ r.head;
      marks = λ k q own.
          same.marks (k % (n * d) / n) (k % (n * d) % n) (let l = number_inside n d some k deep in omega arith) (number_place_law n d some k)
          ∙ r.marks k q own;
      holds = λ k q own.
          holds_alike (same.cells (k % (n * d) / n) (k % (n * d) % n) (number_inside n d some k deep) (number_place_law n d some k))
          (r.holds k q own);
      whole = r.whole;
    }

-- a change of another part leaves it
pub part_ring : {n block d base : ℕ} {old new : List ℕ} → ((i : ℕ) → i < d → Apart n block (ring_at n block i) base)
    → base + part_size n block ≤ (3 + d) * part_size n block → OnlyPart n block base old new
    → SameRing n block d old new
part_ring {n} {block} {d} {base} apart end o =
    record {
      cells = λ i x h hx. part_alike (ring_at n block i) x (apart i h) hx o;
      marks = λ i x h hx. o.other (mark_at n block d i x) (inr (omega (arith, mark_behind n block d i x)));
    }

-- ---- nothing more is heard

pub ring_skip : {lay : Lanes} {n block d c v K : ℕ} {B : ℕ → ℕ} {F : ℕ → ℕ → ℕ} {F' : ℕ → ℕ → ℕ → ℕ} {w : List ℕ}
    → ((i : ℕ) → F (c + 1) i ≡ 0) → Ring lay n block d c v K B F F' w → Ring lay n block d (c + 1) v K B F F' w
ring_skip {c = c} {F = F} none r =
    record {
      at = r.at;
      ahead = r.ahead;
      before = λ k. omega (arith, r.before k);
      rising = r.rising;
      young = r.young;
      head = r.head;
      marks = r.marks;
      holds = r.holds;
      whole = λ x low high. by_cases (ℕ_discrete x (c + 1)) (λ same. inr (rw same none)) (λ d. r.whole x low (omega arith));
    }

-- more may have been kept since a slot
pub ring_wider : {lay : Lanes} {n block d c v K : ℕ} {B B' : ℕ → ℕ} {F : ℕ → ℕ → ℕ} {F' : ℕ → ℕ → ℕ → ℕ} {w : List ℕ}
    → ((x : ℕ) → 0 < x → x ≤ c → B x ≤ B' x) → Ring lay n block d c v K B F F' w → Ring lay n block d c v K B' F F' w
ring_wider wider r =
    record {
      at = r.at;
      ahead = r.ahead;
      before = r.before;
      rising = r.rising;
      young = λ k own. omega (arith, r.young k own, wider (r.at k) own (r.before k));
      head = r.head;
      marks = r.marks;
      holds = r.holds;
      whole = r.whole;
    }

-- ---- a number more

module _ (n block d s : ℕ) (w : List ℕ) (u v K : ℕ) (area : WindowArea n block d w) (hv : v < n) (hs : s < n) (apart : v ≢ s)
    (is : head_of n block d w s ≡ K) where
  part : ℕ
  part = K % (n * d) / n

  place : ℕ
  place = K % (n * d) % n

  low : part < d
  unfolding part
  low = number_inside n d area.some K area.deep

  inside : place < n
  unfolding place
  inside = number_place_law n d area.some K

  bare : List ℕ
  bare = emptied_cell n w (ring_at n block part) place

  taken : List ℕ
  taken = taken_cell n block bare (ring_at n block part) place (part_size n block) v 0

  mark : ℕ
  mark = head_of n block d taken v % 2 ^ 56 * 256 + u % 256

  marked : List ℕ
  marked = set taken (mark_at n block d part place) mark

  headed : List ℕ
  headed = set marked (mark_at n block d d v) ((K + 1) % 2 ^ 64)

  pushed_is : pushed_cell n block d s w u v ≡ set headed (mark_at n block d d s) ((K + 1) % 2 ^ 64)
  unfolding pushed_cell pushed_marks pushed_entry headed marked mark taken bare part place
  pushed_is = rw (ne_eqb v s apart, is)

  away : Apart n block (ring_at n block part) (part_size n block)
  away = inr (ring_first n block part)

  bare_only : OnlyCell n block (ring_at n block part) place w bare
  unfolding bare
  bare_only = emptied_cell_law n block w (ring_at n block part) place inside (ring_fits area part (let l = low in omega arith))

  bare_parts : TwoParts n block (ring_at n block part) (part_size n block) bare
  bare_parts = ring_heard (area_same area bare_only.same) part (let l = low in omega arith)

  cell_only : OnlyCell n block (ring_at n block part) place w taken
  unfolding taken
  cell_only =
      cell_then bare_only
      (taken_cell_law n block bare (ring_at n block part) place (part_size n block) v 0 bare_parts inside hv away)

  -- marks and heads stay until they are written
  mark_stays : (i x : ℕ) → get_or taken (mark_at n block d i x) 0 ≡ get_or w (mark_at n block d i x) 0
  mark_stays i x =
      let l = low in
      (cell_part inside cell_only).other (mark_at n block d i x)
      (inr (let e = parts_end n block d part (omega arith) in omega (arith, mark_behind n block d i x)))

  -- a place outside of the cell, its mark and the heads stays
  kept_place : (q : ℕ) → q ≢ mark_at n block d part place → q ≢ mark_at n block d d v → q ≢ mark_at n block d d s
      → get_or taken q 0 ≡ get_or w q 0 → get_or (pushed_cell n block d s w u v) q 0 ≡ get_or w q 0
  unfolding headed marked
  kept_place q a b c e =
      rw pushed_is
      (get_or-set_other headed (mark_at n block d d s) q _ 0 c ∙ get_or-set_other marked (mark_at n block d d v) q _ 0 b
      ∙ get_or-set_other taken (mark_at n block d part place) q mark 0 a ∙ e)

  marked_length : length marked ≡ length w
  unfolding marked
  marked_length = length-set taken (mark_at n block d part place) mark ∙ cell_only.same

  headed_length : length headed ≡ length w
  unfolding headed
  headed_length = length-set marked (mark_at n block d d v) _ ∙ marked_length

  pub pushed_length : length (pushed_cell n block d s w u v) ≡ length w
  pushed_length = rw pushed_is (length-set headed (mark_at n block d d s) _ ∙ headed_length)

  -- a place of a part is no mark and no head
  inside_part : (q : ℕ) → q < (3 + d) * part_size n block → get_or taken q 0 ≡ get_or w q 0
      → get_or (pushed_cell n block d s w u v) q 0 ≡ get_or w q 0
  inside_part q h e =
      kept_place q (λ x. omega (arith, mark_behind n block d part place)) (λ x. omega (arith, mark_behind n block d d v))
      (λ x. omega (arith, mark_behind n block d d s)) e

  -- so a cell of a part is the same where it is the same before they are written
  part_cell : (base z : ℕ) → z < n → base + part_size n block ≤ (3 + d) * part_size n block → Alike n block base z w taken
      → Alike n block base z w (pushed_cell n block d s w u v)
  part_cell base z hz end a =
      let row = row_inside n block z hz in
      record {
        hops = inside_part (base + z) (omega arith) a.hops;
        count = inside_part (base + z + n) (omega arith) a.count;
        row = λ j q. inside_part (base + row_at n block z + j) (omega arith) (a.row j q);
      }

  -- every cell of a part that is not the ring's
  pub pushed_first : (base z : ℕ) → z < n → base + part_size n block ≤ ring_at n block 0
      → Alike n block base z w (pushed_cell n block d s w u v)
  pushed_first base z hz end =
      part_cell base z hz (let e = parts_end n block d 0 (omega arith) in omega arith)
      (part_alike base z
      (inl (by_cases (ℕ_discrete part 0) (λ same. rw same end)
      (λ other. let b = ring_before n block 0 part (omega arith) in omega arith)))
      hz (cell_part inside cell_only))

  pub pushed_beyond : (q : ℕ) → window_size n d block ≤ q → get_or (pushed_cell n block d s w u v) q 0 ≡ get_or w q 0
  pushed_beyond q far =
      let l = low in
      kept_place q (λ x. omega (arith, mark_inside n block d part place (omega arith) inside))
      (λ x. omega (arith, mark_inside n block d d v (omega arith) hv))
      (λ x. omega (arith, mark_inside n block d d s (omega arith) hs))
      ((cell_part inside cell_only).other q (inr (let e = parts_end n block d part (omega arith) in omega arith)))

  -- another cell of the ring
  other_cell : (i x : ℕ) → i < d → x < n → (i ≢ part) ⊎ (x ≢ place)
      → Alike n block (ring_at n block i) x w (pushed_cell n block d s w u v)
  other_cell i x hi hx differ =
      part_cell (ring_at n block i) x hx (parts_end n block d i (omega arith))
      (by_cases (ℕ_discrete i part)
      (λ same. rw same (cell_alike x (⊎_elim (λ (o : i ≢ part). absurd (o same)) (λ (o : x ≢ place). o) differ) hx inside cell_only))
      (λ other. part_alike (ring_at n block i) x (ring_apart n block i part other) hx (cell_part inside cell_only)))

  other_mark : (i x : ℕ) → i < d → x < n → (i ≢ part) ⊎ (x ≢ place)
      → get_or (pushed_cell n block d s w u v) (mark_at n block d i x) 0 ≡ get_or w (mark_at n block d i x) 0
  other_mark i x hi hx differ =
      kept_place (mark_at n block d i x) (mark_apart n block d i part x place hx inside differ)
      (mark_apart n block d i d x v hx hv (inl (omega arith))) (mark_apart n block d i d x s hx hs (inl (omega arith))) (mark_stays i x)

  other_head : (z : ℕ) → z < n → z ≢ v → z ≢ s → head_of n block d (pushed_cell n block d s w u v) z ≡ head_of n block d w z
  other_head z hz a b =
      let l = low in
      kept_place (mark_at n block d d z) (mark_apart n block d d part z place hz inside (inl (omega arith)))
      (mark_apart n block d d d z v hz hv (inr a)) (mark_apart n block d d d z s hz hs (inr b)) (mark_stays d z)

  new_mark : u < 256 → head_of n block d w v < 2 ^ 56
      → get_or (pushed_cell n block d s w u v) (number_mark n block d K) 0 ≡ head_of n block d w v * 256 + u
  unfolding headed marked mark part place
  new_mark few small =
      let l = low in
      rw pushed_is
      (get_or-set_other headed (mark_at n block d d s) (mark_at n block d part place) _ 0
      (mark_apart n block d part d place s inside hs (inl (omega arith)))
      ∙ get_or-set_other marked (mark_at n block d d v) (mark_at n block d part place) _ 0
      (mark_apart n block d part d place v inside hv (inl (omega arith)))
      ∙ get_or-set_same taken (mark_at n block d part place) mark 0
      (omega (arith, cell_only.same, mark_fits area part place (omega arith) inside))
      ∙ rw (mark_stays d v, mod-eq_of_lt small, mod-eq_of_lt few))

  new_head : K + 1 < 2 ^ 64 → head_of n block d (pushed_cell n block d s w u v) v ≡ K + 1
  unfolding headed
  new_head small =
      rw pushed_is
      (get_or-set_other headed (mark_at n block d d s) (mark_at n block d d v) _ 0 (mark_apart n block d d d v s hv hs (inr apart))
      ∙ get_or-set_same marked (mark_at n block d d v) ((K + 1) % 2 ^ 64) 0
      (omega (arith, marked_length, mark_fits area d v (omega arith) hv))
      ∙ mod-eq_of_lt small)

  pub new_counter : K + 1 < 2 ^ 64 → head_of n block d (pushed_cell n block d s w u v) s ≡ K + 1
  new_counter small =
      rw pushed_is
      (get_or-set_same headed (mark_at n block d d s) ((K + 1) % 2 ^ 64) 0
      (omega (arith, headed_length, mark_fits area d s (omega arith) hs))
      ∙ mod-eq_of_lt small)

  new_holds : {lay : Lanes} {A : ℕ → ℕ} {A' : ℕ → ℕ → ℕ} → ((j i : ℕ) → A' j i ≤ A i) → Holds lay n block w (part_size n block) v A A'
      → Holds lay n block (pushed_cell n block d s w u v) (number_part n block d K) (number_place n d K) A A'
  unfolding plus taken bare marked headed part place
  new_holds {lay} {A} {A'} less heard =
      holds_alike wrote
      (best_ext {N = plus (λ i. 0) A} {M = λ j. plus (λ i. 0) (A' j)} (λ i. omega arith) (λ j i. omega arith)
      (same_holds n block bare (ring_at n block part) place (part_size n block) v bare_parts inside hv away (λ i. 0) A (λ j i. 0) A'
      (λ j i. omega arith) less
      (bare_holds (λ i. refl))
      (holds_alike (part_alike (part_size n block) v (inl (ring_first n block part)) hv (cell_part inside bare_only)) heard)))
    where
      bare_holds : {N : ℕ → ℕ} {M : ℕ → ℕ → ℕ} → ((i : ℕ) → N i ≡ 0) → Holds lay n block bare (ring_at n block part) place N M
      bare_holds none = emptied_holds n block w (ring_at n block part) place inside (ring_fits area part (let l = low in omega arith)) none

      stays : (q : ℕ) → q < (3 + d) * part_size n block → get_or (pushed_cell n block d s w u v) q 0 ≡ get_or taken q 0
      stays q h =
          rw pushed_is
          (get_or-set_other headed (mark_at n block d d s) q _ 0 (λ x. omega (arith, mark_behind n block d d s))
          ∙ get_or-set_other marked (mark_at n block d d v) q _ 0 (λ x. omega (arith, mark_behind n block d d v))
          ∙ get_or-set_other taken (mark_at n block d part place) q mark 0 (λ x. omega (arith, mark_behind n block d part place)))

      wrote : Alike n block (ring_at n block part) place taken (pushed_cell n block d s w u v)
      wrote =
          let l = low in
          let h = inside in
          let row = row_inside n block place inside in
          let end = parts_end n block d part (omega arith) in
          record {
            hops = stays (ring_at n block part + place) (omega arith);
            count = stays (ring_at n block part + place + n) (omega arith);
            row = λ j q. stays (ring_at n block part + row_at n block place + j) (omega arith);
          }

  -- what is there of the numbers before stays, but for the one that is overwritten
  back : (k : ℕ) → Recent (n * d) (K + 1) k → k ≢ K → Recent (n * d) K k
  back k q other = let a = q.kept in let b = q.young in record { kept = omega arith; young = omega arith }

  differs : (k : ℕ) → Recent (n * d) (K + 1) k → k ≢ K → (k % (n * d) / n ≢ part) ⊎ (k % (n * d) % n ≢ place)
  unfolding part place
  differs k q other =
      let a = q.kept in let b = q.young in
      number_apart n d area.some k K (omega arith) (omega arith)

  older_mark : (k : ℕ) → Recent (n * d) (K + 1) k → k ≢ K
      → get_or (pushed_cell n block d s w u v) (number_mark n block d k) 0 ≡ get_or w (number_mark n block d k) 0
  older_mark k q other =
      other_mark (k % (n * d) / n) (k % (n * d) % n) (number_inside n d area.some k area.deep) (number_place_law n d area.some k)
      (differs k q other)

  older_cell : (k : ℕ) → Recent (n * d) (K + 1) k → k ≢ K
      → Alike n block (number_part n block d k) (number_place n d k) w (pushed_cell n block d s w u v)
  older_cell k q other =
      other_cell (k % (n * d) / n) (k % (n * d) % n) (number_inside n d area.some k area.deep) (number_place_law n d area.some k)
      (differs k q other)

  -- the numbers of another station
  pub ring_other : {lay : Lanes} {c z : ℕ} {B B' : ℕ → ℕ} {F : ℕ → ℕ → ℕ} {F' : ℕ → ℕ → ℕ → ℕ} → z < n → z ≢ v → z ≢ s
      → ((x : ℕ) → 0 < x → x ≤ c → B x + 1 ≤ B' x) → Ring lay n block d c z K B F F' w
      → Ring lay n block d c z (K + 1) B' F F' (pushed_cell n block d s w u v)
  ring_other {z = z} hz a b wider r =
      record {
        at = r.at;
        ahead = λ k h. r.ahead k (omega arith);
        before = r.before;
        rising = r.rising;
        young = λ k own. omega (arith, r.young k own, wider (r.at k) own (r.before k));
        head = other_head z hz a b ∙ r.head ∙ sym (ap (newest r.at) one ∙ newest_skip r.at K (r.ahead K (omega arith)));
        marks = λ k q own. older_mark k q (mine k own) ∙ r.marks k (back k q (mine k own)) own;
        holds = λ k q own. holds_alike (older_cell k q (mine k own)) (r.holds k (back k q (mine k own)) own);
        whole = λ x low high. ⊎_elim
            (λ (y : (k : ℕ) × (k < K) × (r.at k ≡ x)). inl (y.0, omega (arith, y.1), y.2)) inr (r.whole x low high);
      }
    where
      one : K + 1 ≡ suc K
      one = omega arith

      mine : (k : ℕ) → 0 < r.at k → k ≢ K
      mine k own same = omega (arith, r.ahead k (omega arith))

  -- and those of its own: in slot c + 1 it has a number more
  pub ring_push : {lay : Lanes} {c : ℕ} {B B' : ℕ → ℕ} {F : ℕ → ℕ → ℕ} {F' : ℕ → ℕ → ℕ → ℕ} → u ≡ c + 1 → u < 256 → K < 2 ^ 56
      → ((x : ℕ) → 0 < x → x ≤ c → B x + 1 ≤ B' x) → 0 < B' u → ((j i : ℕ) → F' j u i ≤ F u i)
      → Holds lay n block w (part_size n block) v (F u) (λ j. F' j u)
      → Ring lay n block d c v K B F F' w → Ring lay n block d u v (K + 1) B' F F' (pushed_cell n block d s w u v)
  ring_push {lay} {c} {B} {B'} {F} {F'} slot few small wider some less heard r =
      record {
        at = next;
        ahead = λ k h. next_other k (omega arith) ∙ r.ahead k (omega arith);
        before = λ k. by_cases (ℕ_discrete k K)
            (λ same. omega (arith, next_own k same)) (λ o. omega (arith, next_other k o, r.before k));
        rising = λ k l own below mine. by_cases (ℕ_discrete l K)
            (λ same. omega (arith, next_own l same, next_other k (omega arith), r.before k))
            (λ o. by_cases (ℕ_discrete k K)
            (λ same. absurd (omega (arith, mine, next_other l o, r.ahead l (omega arith))))
            (λ p. omega (
              arith,
              next_other l o,
              next_other k p,
              r.rising k l (omega (arith, next_other k p, own)) below (omega (arith, next_other l o, mine)),
            )));
        young = λ k own. by_cases (ℕ_discrete k K)
            (λ same. omega (arith, ap B' (next_own k same), same, some))
            (λ o.
            let e = next_other k o in
            let old : 0 < r.at k = omega arith in
            omega (arith, ap B' e, r.young k old, wider (r.at k) old (r.before k)));
        head = new_head (omega arith) ∙ sym (ap (newest next) one ∙ newest_here next K (λ z. omega (arith, next_own K refl)) ∙ sym one);
        marks = λ k q own. by_cases (ℕ_discrete k K)
            (λ same. rw (same, next_own K refl)
            (new_mark few (omega (arith, r.head, newest_least r.at K))
            ∙ ap (λ x. x * 256 + u) (r.head ∙ sym (unchanged K (omega arith)))))
            (λ o. older_mark k q o ∙ r.marks k (back k q o) (older k own o)
            ∙ sym (rw (unchanged k (let h = q.kept in omega arith), next_other k o)));
        holds = λ k q own. by_cases (ℕ_discrete k K)
            (λ same. rw (same, next_own K refl) (new_holds less heard))
            (λ o. rw (next_other k o) (holds_alike (older_cell k q o) (r.holds k (back k q o) (older k own o))));
        whole = λ x low high. by_cases (ℕ_discrete x u)
            (λ same. inl (K, omega arith, next_own K refl ∙ sym same))
            (λ sooner. ⊎_elim
            (λ (y : (k : ℕ) × (k < K) × (r.at k ≡ x)).
            inl (y.0, omega (arith, y.1), next_other y.0 (let b = y.1 in omega arith) ∙ y.2))
            inr (r.whole x low (omega arith)));
      }
    where
      next : ℕ → ℕ
      next k = cond (eqb k K) u (r.at k)

      next_own : (k : ℕ) → k ≡ K → next k ≡ u
      next_own k e = rw (eq-eqb k K e)

      next_other : (k : ℕ) → k ≢ K → next k ≡ r.at k
      next_other k o = rw (ne_eqb k K o)

      one : K + 1 ≡ suc K
      one = omega arith

      unchanged : (k : ℕ) → k ≤ K → newest next k ≡ newest r.at k
      unchanged k h = newest_same r.at next k (λ i below. next_other i (omega arith))

      older : (k : ℕ) → 0 < next k → k ≢ K → 0 < r.at k
      older k own o = omega (arith, next_other k o, own)

-- ---- gathering

module _ (n block d v first end : ℕ) (hv : v < n) where
  module _ (w : List ℕ) (k : ℕ) (area : WindowArea n block d w) where
    cell_parts : TwoParts n block (ring_at n block d) (number_part n block d k) w
    cell_parts =
        let low = number_inside n d area.some k area.deep in
        record {
          some = area.some;
          to_fits = ring_fits area d (omega arith);
          from_fits = ring_fits area (k % (n * d) / n) (omega arith);
        }

    cell_apart : Apart n block (ring_at n block d) (number_part n block d k)
    cell_apart = inr (ring_before n block (k % (n * d) / n) d (number_inside n d area.some k area.deep))

    -- only the window changes
    kept_only : (slot : ℕ) → OnlyCell n block (ring_at n block d) v w (kept_cell n block d w (ring_at n block d) v slot end k)
    unfolding kept_cell
    kept_only slot =
        by_cases (dec_le end slot)
        (λ late. rw (le-ltb slot end late) cell_refl)
        (λ inside. rw (lt-ltb slot end (omega arith))
        (taken_cell_law n block w (ring_at n block d) v (number_part n block d k) (number_place n d k) 0 cell_parts hv
        (number_place_law n d area.some k) cell_apart))

    -- and it holds the cell's walks besides, where their slot is one of the window's
    kept_holds : {lay : Lanes} (F : ℕ → ℕ → ℕ) (F' : ℕ → ℕ → ℕ → ℕ) → ((j x i : ℕ) → F' j x i ≤ F x i)
        → (x : ℕ) (N : ℕ → ℕ) (M : ℕ → ℕ → ℕ) → ((j i : ℕ) → M j i ≤ N i) → first ≤ x
        → Holds lay n block w (ring_at n block d) v N M
        → Holds lay n block w (number_part n block d k) (number_place n d k) (F x) (λ j. F' j x)
        → Holds lay n block (kept_cell n block d w (ring_at n block d) v x end k) (ring_at n block d) v
        (plus N (λ i. picked first end (λ y. F y i) x)) (λ j. plus (M j) (λ i. picked first end (λ y. F' j y i) x))
    unfolding plus kept_cell
    kept_holds F F' less x N M fewer from held came =
        by_cases (dec_le end x)
        (λ late. rw (le-ltb x end late)
        (best_ext (λ i. omega (arith, picked_late (λ y. F y i) first end x from late))
        (λ j i. omega (arith, picked_late (λ y. F' j y i) first end x from late)) held))
        (λ inside. rw (lt-ltb x end (omega arith))
        (best_ext {N = plus N (F x)} {M = λ j. plus (M j) (F' j x)}
        (λ i. omega (arith, picked_in (λ y. F y i) first end x from (omega arith)))
        (λ j i. omega (arith, picked_in (λ y. F' j y i) first end x from (omega arith)))
        (same_holds n block w (ring_at n block d) v (number_part n block d k) (number_place n d k) cell_parts hv
        (number_place_law n d area.some k) cell_apart N (F x) M (λ j. F' j x) fewer (λ j i. less j x i) held came)))

  followed_only : (w : List ℕ) (head : ℕ) → WindowArea n block d w
      → OnlyCell n block (ring_at n block d) v w (followed_cell n block d w (ring_at n block d) v first end head)
  unfolding followed_cell
  followed_only w head area =
      by_cases (dec_le first (get_or w (number_mark n block d (head - 1)) 0 % 256))
      (λ from. rw (le-ltb (get_or w (number_mark n block d (head - 1)) 0 % 256) first from) (kept_only w (head - 1) area _))
      (λ early. rw (lt-ltb (get_or w (number_mark n block d (head - 1)) 0 % 256) first (omega arith)) cell_refl)

  pub gathered_only : (oldest k : ℕ) (w : List ℕ) (head : ℕ) → WindowArea n block d w
      → OnlyCell n block (ring_at n block d) v w (gathered_cell n block d w (ring_at n block d) v oldest first end head k)
  unfolding gathered_cell
  gathered_only oldest zero w head area = cell_refl
  gathered_only oldest (suc k) w head area =
      let one = followed_only w head area in
      let rest = gathered_only oldest k _ (next_head n block d w first head) (area_same area one.same) in
      by_cases (dec_le head oldest)
      (λ gone. rw (le-ltb oldest head gone) cell_refl)
      (λ there. rw (lt-ltb oldest head (omega arith)) (cell_then one rest))

  -- where a head's number is no longer there, nothing is gathered
  gathered_none : (oldest k : ℕ) (w : List ℕ) (head : ℕ) → head ≤ oldest
      → gathered_cell n block d w (ring_at n block d) v oldest first end head k ≡ w
  unfolding gathered_cell
  gathered_none oldest zero w head gone = refl
  gathered_none oldest (suc k) w head gone = rw (le-ltb oldest head gone)

  module _ (oldest k : ℕ) (w : List ℕ) (m link x : ℕ) (there : oldest ≤ m) (few : x < 256)
      (is : get_or w (number_mark n block d m) 0 ≡ link * 256 + x) where
    here : suc m - 1 ≡ m
    here = omega arith

    slot_is : get_or w (number_mark n block d (suc m - 1)) 0 % 256 ≡ x
    slot_is = ap (λ i. get_or w (number_mark n block d i) 0 % 256) here ∙ ap (λ i. i % 256) is ∙ mul-add-mod_self_right link 256 x
        ∙ mod-eq_of_lt few

    link_is : get_or w (number_mark n block d (suc m - 1)) 0 / 256 ≡ link
    link_is = ap (λ i. get_or w (number_mark n block d i) 0 / 256) here ∙ ap (λ i. i / 256) is ∙ digits_div link few

    -- nor where its slot is too old
    gathered_end : x < first → gathered_cell n block d w (ring_at n block d) v oldest first end (suc m) (suc k) ≡ w
    unfolding gathered_cell followed_cell next_head
    gathered_end early =
        rw (lt-ltb oldest (suc m) (omega arith), slot_is, lt-ltb x first early) (gathered_none oldest k w 0 (omega arith))

    -- else its cell, and what its link leads to
    gathered_step : first ≤ x → link ≤ m
        → gathered_cell n block d w (ring_at n block d) v oldest first end (suc m) (suc k)
        ≡ gathered_cell n block d (kept_cell n block d w (ring_at n block d) v x end m) (ring_at n block d) v oldest first end link k
    unfolding gathered_cell followed_cell next_head lower_link
    gathered_step from lower =
        rw (lt-ltb oldest (suc m) (omega arith), slot_is, link_is, le-ltb x first from, lt-ltb link (suc m) (omega arith), here)

  picked_less : (f g : ℕ → ℕ) (x : ℕ) → f x ≤ g x → picked first end f x ≤ picked first end g x
  picked_less f g x h =
      by_cases (dec_le first x)
      (λ from. by_cases (dec_le end x)
      (λ late. omega (arith, picked_late f first end x from late, picked_late g first end x from late))
      (λ inside. omega (arith, picked_in f first end x from (omega arith), picked_in g first end x from (omega arith))))
      (λ early. omega (arith, picked_early f first end x (omega arith), picked_early g first end x (omega arith)))

  -- Along the links: over the numbers below m, those whose slots are in the window.
  module _ (lay : Lanes) (F : ℕ → ℕ → ℕ) (F' : ℕ → ℕ → ℕ → ℕ) (less : (j x i : ℕ) → F' j x i ≤ F x i) (at : ℕ → ℕ) (K oldest : ℕ)
      (low : 0 < first) (is : oldest ≡ K - n * d) (few : (k : ℕ) → at k < 256)
      (rising : (k l : ℕ) → 0 < at k → k < l → 0 < at l → at k < at l)
      (live : (k : ℕ) → k < K → first ≤ at k → K ≤ k + n * d) where
    -- the sum over them
    sums : (ℕ → ℕ) → ℕ → ℕ
    sums f m = spread (λ b. picked first end f (at b)) 0 m

    sums_none : (f : ℕ → ℕ) (m : ℕ) → ((k : ℕ) → k < m → at k < first) → sums f m ≡ 0
    unfolding sums
    sums_none f m old =
        spread_zero (λ b. picked first end f (at b)) m 0 (λ b from to. picked_early f first end (at b) (old b (omega arith)))

    sums_last : (f : ℕ → ℕ) (m : ℕ) → sums f (suc m) ≡ sums f m + picked first end f (at m)
    unfolding sums
    sums_last f m =
        let place : 0 + m ≡ m = omega arith in
        spread_last (λ b. picked first end f (at b)) m 0
        ∙ ap (λ b. spread (λ b. picked first end f (at b)) 0 m + picked first end f (at b)) place

    recent : (k : ℕ) → k < K → oldest ≤ k → Recent (n * d) K k
    recent k h there = record { kept = h; young = omega arith }

    gathered_holds : (m k : ℕ) (w : List ℕ) (N : ℕ → ℕ) (M : ℕ → ℕ → ℕ) → m ≤ K → newest at m ≤ k → WindowArea n block d w
        → ((j i : ℕ) → M j i ≤ N i) → Holds lay n block w (ring_at n block d) v N M
        → ((b : ℕ) → Recent (n * d) K b → 0 < at b → get_or w (number_mark n block d b) 0 ≡ newest at b * 256 + at b)
        → ((b : ℕ) → Recent (n * d) K b → 0 < at b
        → Holds lay n block w (number_part n block d b) (number_place n d b) (F (at b)) (λ j. F' j (at b)))
        → Holds lay n block (gathered_cell n block d w (ring_at n block d) v oldest first end (newest at m) k) (ring_at n block d) v
        (λ i. N i + sums (λ y. F y i) m) (λ j i. M j i + sums (λ y. F' j y i) m)
    unfolding newest plus
    gathered_holds zero k w N M within fuel area fewer held marks cells =
        rw (gathered_none oldest k w 0 (omega arith))
        (best_ext (λ i. omega (arith, sums_none (λ y. F y i) 0 (λ b h. absurd (omega arith))))
        (λ j i. omega (arith, sums_none (λ y. F' j y i) 0 (λ b h. absurd (omega arith)))) held)
    gathered_holds (suc m) k w N M within fuel area fewer held marks cells =
        by_cases (ℕ_discrete (at m) 0)
        (λ none. rw (newest_skip at m none)
        (best_ext (λ i. omega (arith, sums_last (λ y. F y i) m, picked_early (λ y. F y i) first end (at m) (omega arith)))
        (λ j i. omega (arith, sums_last (λ y. F' j y i) m, picked_early (λ y. F' j y i) first end (at m) (omega arith)))
        (gathered_holds m k w N M (omega arith) (rw (newest_skip at m none) at fuel) area fewer held marks cells)))
        (λ own.
        let room : suc m ≤ k = rw (newest_here at m own) at fuel in
        rw (newest_here at m own)
        (by_cases (dec_le oldest m)
        (λ there. by_cases (dec_le first (at m))
        (λ from.
        let some : 0 < at m = omega arith in
        let now = recent m (omega arith) there in
        rw (step room there from (marks m now some))
        (best_ext (λ i. omega (arith, sums_last (λ y. F y i) m)) (λ j i. omega (arith, sums_last (λ y. F' j y i) m))
        (gathered_holds m (k - 1) (kept_cell n block d w (ring_at n block d) v (at m) end m) (more N (λ y i. F y i))
        (λ j. more (M j) (F' j)) (omega arith) (omega (arith, newest_least at m)) (area_same area only.same)
        (λ j i. omega (arith, fewer j i, picked_less (λ y. F' j y i) (λ y. F y i) (at m) (less j (at m) i)))
        (kept_holds w m area F F' less (at m) N M fewer from held (cells m now some))
        (λ b q mine. mark_on b ∙ marks b q mine)
        (λ b q mine. holds_alike (cell_on b) (cells b q mine)))))
        (λ early.
        let some : 0 < at m = omega arith in
        rw (stop room there (omega arith) (marks m (recent m (omega arith) there) some))
        (nothing (λ b h. by_cases (ℕ_discrete (at b) 0) (λ z. omega arith)
        (λ o. by_cases (ℕ_discrete b m) (λ same. rw same (omega arith))
        (λ differ. omega (arith, rising b m (omega arith) (omega arith) some)))))))
        (λ gone.
        rw (gathered_none oldest k w (suc m) (omega arith))
        (nothing (λ b h. by_cases (dec_le first (at b)) (λ from. absurd (omega (arith, live b (omega arith) from))) (λ o. omega arith))))))
      where
        more : (ℕ → ℕ) → (ℕ → ℕ → ℕ) → ℕ → ℕ
        more N F i = N i + picked first end (λ y. F y i) (at m)

        only : OnlyCell n block (ring_at n block d) v w (kept_cell n block d w (ring_at n block d) v (at m) end m)
        only = kept_only w m area (at m)

        mark_on : (b : ℕ) → get_or (kept_cell n block d w (ring_at n block d) v (at m) end m) (number_mark n block d b) 0
            ≡ get_or w (number_mark n block d b) 0
        mark_on b =
            (cell_part hv only).other (number_mark n block d b)
            (inr (omega (arith, parts_end n block d d (omega arith), mark_behind n block d (b % (n * d) / n) (b % (n * d) % n))))

        cell_on : (b : ℕ) → Alike n block (number_part n block d b) (number_place n d b) w
            (kept_cell n block d w (ring_at n block d) v (at m) end m)
        cell_on b =
            part_alike (number_part n block d b) (number_place n d b)
            (inl (ring_before n block (b % (n * d) / n) d (number_inside n d area.some b area.deep)))
            (number_place_law n d area.some b) (cell_part hv only)

        nothing : ((b : ℕ) → b < suc m → at b < first)
            → Holds lay n block w (ring_at n block d) v (λ i. N i + sums (λ y. F y i) (suc m)) (λ j i. M j i + sums (λ y. F' j y i) (suc m))
        nothing old =
            best_ext (λ i. omega (arith, sums_none (λ y. F y i) (suc m) old)) (λ j i. omega (arith, sums_none (λ y. F' j y i) (suc m) old))
            held

        step : suc m ≤ k → oldest ≤ m → first ≤ at m → get_or w (number_mark n block d m) 0 ≡ newest at m * 256 + at m
            → gathered_cell n block d w (ring_at n block d) v oldest first end (suc m) k
            ≡ gathered_cell n block d (kept_cell n block d w (ring_at n block d) v (at m) end m) (ring_at n block d) v oldest first end
            (newest at m) (k - 1)
        step room there from e =
            let one : k ≡ suc (k - 1) = omega arith in
            ap (gathered_cell n block d w (ring_at n block d) v oldest first end (suc m)) one
            ∙ gathered_step oldest (k - 1) w m (newest at m) (at m) there (few m) e from (newest_least at m)

        stop : suc m ≤ k → oldest ≤ m → at m < first → get_or w (number_mark n block d m) 0 ≡ newest at m * 256 + at m
            → gathered_cell n block d w (ring_at n block d) v oldest first end (suc m) k ≡ w
        stop room there early e =
            let one : k ≡ suc (k - 1) = omega arith in
            ap (gathered_cell n block d w (ring_at n block d) v oldest first end (suc m)) one
            ∙ gathered_end oldest (k - 1) w m (newest at m) (at m) there (few m) e early

module _ {lay : Lanes} {n block d c v K : ℕ} {B : ℕ → ℕ} {F : ℕ → ℕ → ℕ} {F' : ℕ → ℕ → ℕ → ℕ} {w : List ℕ}
    (r : Ring lay n block d c v K B F F' w) where
  -- A window that had none, with the numbers of slots that may be followed, holds the walks of those slots. There are no more numbers since
  -- such a slot than cells.
  pub ring_window : (first end s : ℕ) (one : List ℕ) → v < n → ((j x i : ℕ) → F' j x i ≤ F x i) → 0 < first → end ≤ c + 1 → c < 256
      → head_of n block d w s ≡ K → ((x : ℕ) → first ≤ x → x ≤ c → B x ≤ n * d)
      → WindowArea n block d one → SameRing n block d w one
      → Holds lay n block one (ring_at n block d) v (λ i. 0) (λ j i. 0)
      → Holds lay n block (gathered_cell n block d one (ring_at n block d) v (oldest_of n block d s w) first end (head_of n block d w v)
      (head_of n block d w v)) (ring_at n block d) v
      (λ i. spread (λ x. F x i) first (end - first)) (λ j i. spread (λ x. F' j x i) first (end - first))
  unfolding sums
  ring_window first end s one hv less low late few is room area same bare =
      rw r.head
      (best_ext (λ i. all (λ x. F x i) (λ x from to. named x i from to))
      (λ j i. all (λ x. F' j x i) (λ x from to.
      ⊎_elim inl (λ (z : F x i ≡ 0). inr (omega (arith, less j x i))) (named x i from to)))
      (gathered_holds n block d v first end hv lay F F' less r.at K (oldest_of n block d s w) low (ap (λ k. k - n * d) is)
      (λ k. omega (arith, r.before k)) r.rising
      (λ k h from. omega (arith, r.young k (omega arith), room (r.at k) from (r.before k)))
      K (newest r.at K) one (λ i. 0) (λ j i. 0) (omega arith) (omega arith) area (λ j i. omega arith) bare
      (λ b q own.
      same.marks (b % (n * d) / n) (b % (n * d) % n) (let l = number_inside n d area.some b area.deep in omega arith)
      (number_place_law n d area.some b) ∙ r.marks b q own)
      (λ b q own.
      holds_alike (same.cells (b % (n * d) / n) (b % (n * d) % n) (number_inside n d area.some b area.deep)
      (number_place_law n d area.some b)) (r.holds b q own))))
    where
      named : (x i : ℕ) → first ≤ x → x < end → ((k : ℕ) × (k < K) × (r.at k ≡ x)) ⊎ (F x i ≡ 0)
      named x i from to =
          ⊎_elim inl (λ (z : (i : ℕ) → F x i ≡ 0). inr (z i)) (r.whole x (omega arith) (omega arith))

      all : (f : ℕ → ℕ) → ((x : ℕ) → first ≤ x → x < end → ((k : ℕ) × (k < K) × (r.at k ≡ x)) ⊎ (f x ≡ 0))
          → 0 + spread (λ b. picked first end f (r.at b)) 0 K ≡ spread f first (end - first)
      all f given =
          let none : 0 + spread (λ b. picked first end f (r.at b)) 0 K ≡ spread (λ b. picked first end f (r.at b)) 0 K = omega arith in
          none ∙ spread_cells r.at f K (λ a b ha hb other some e. apart a b other some e) first end low given
        where
          apart : (a b : ℕ) → a ≢ b → 0 < r.at b → r.at a ≢ r.at b
          apart a b other some e =
              by_cases (dec_le (suc a) b)
              (λ h. omega (arith, r.rising a b (omega arith) h some))
              (λ h. omega (arith, r.rising b a some (omega arith) (omega arith)))
