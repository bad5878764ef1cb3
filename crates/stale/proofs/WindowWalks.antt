-- The pass where readings go stale: the state of the work area between two slots, and what a window holds once it is gathered.
-- Assumes nothing.
use Rattle.std.proofs.Common.{◌≡◌, ℕ, zero, suc, ◌+◌, ◌-◌, ◌*◌, ◌%◌, ◌^◌, ◌<◌, ◌≤◌, Bool, true, false, cond, eqb, ◌≢◌, List, length, get_or, sym, refl, ap, ◌∙◌, subst, inl, arith, eq-eqb, ne_eqb}
use native.Mathlib.Decide.{ℕ_discrete}
use mathlib.Core.Bool.{and-false}
use mathlib.Core.Logic.{by_cases}
use Rattle.temporal.specs.Plan.{Plan, start, window_first, window_end}
use Rattle.lists.proofs.ListLaws.{not_both}
use Rattle.counting.proofs.Weights.{total, everywhere, cond_less, total_less, total_zero}
use Rattle.counting.proofs.Fewest.{fewest_intro}
use Rattle.counting.proofs.Recurrence.{heard, at_appearance, before, start_here, start_other}
use Rattle.counting.proofs.WindowLaws.{in_slots, before_window}
use Rattle.entries.specs.Entry.{stored}
use Rattle.entries.proofs.CountLaws.{stored_small}
use Rattle.lanes.specs.Lane.{ones}
use Rattle.lanes.proofs.LaneLaws.{packed_ext}
use Rattle.pass.specs.Row.{part_size}
use Rattle.pass.specs.Column.{Lanes}
use Rattle.pass.proofs.BestLaws.{Best, best_ext}
use Rattle.pass.proofs.MaskLaws.{Filled}
use Rattle.pass.proofs.BeginLaws.{ones_held}
use Rattle.pass.proofs.ColumnLaws.{may_leave, source_free}
use Rattle.stale.specs.Depth.{slot_load, spread}
use Rattle.stale.specs.Size.{window_size}
use Rattle.stale.specs.Window.{ring_at, head_of, oldest_of, gathered_cell, emptied_cell, window_cell, WindowArea}
use Rattle.stale.proofs.SpreadLaws.{spread_less, spread_last, spread_more}
use Rattle.stale.proofs.RingPlaces.{area_same, ring_before, ring_fits, parts_end}
use Rattle.stale.proofs.WindowCells.{Holds, ThinAt, OnlyCell, cell_then, cell_part}
use Rattle.stale.proofs.WindowCells.{opened_cell_law, opened_holds, emptied_cell_law, emptied_holds, masked_only, masked_holds, masked_wide}
use Rattle.stale.proofs.RingLaws.{Ring, SameRing, part_ring, gathered_only, ring_window}

-- the walks to v by slot c, and those to the appearance (v, x), by hops, under a permission g
abbrev pub heard_by : Plan → ℕ → (ℕ → Bool) → ℕ → ℕ → ℕ → ℕ
heard_by p s g v c = total p g (start s) (heard v c)

abbrev pub heard_in : Plan → ℕ → (ℕ → Bool) → ℕ → ℕ → ℕ → ℕ
heard_in p s g v x = total p g (start s) (at_appearance v x)

-- what v may send on in slot u
abbrev pub sendable : Plan → ℕ → (ℕ → Bool) → ℕ → ℕ → ℕ → ℕ
sendable p s g v u k = cond (g v) (total p g (start s) (before p v u) k) 0

-- how many appearances at most are kept from slot x on by slot c
unfoldable pub kept_since : List ℕ → ℕ → ℕ → ℕ → ℕ
kept_since bs n c x = spread (slot_load bs n) x (c + 1 - x)

-- The work area by slot c, with the first j records done: part 0 has the walks to the stations by slot c, with counts that fit their lanes;
-- the ring has those to the appearances that may be followed after it, of all stations but the source.
pub record WindowState (bs : List ℕ) (lay : Lanes) (p : Plan) (s : ℕ) (may : ℕ → ℕ → Bool) (n block d c j : ℕ) (old w : List ℕ)
    : Type 0 where
  pub same : length w ≡ length old
  pub beyond : (i : ℕ) → window_size n d block ≤ i → get_or w i 0 ≡ get_or old i 0
  pub totals : (v : ℕ) → v < n → Holds lay n block w 0 v (heard_by p s everywhere v c) (λ i. heard_by p s (may i) v c)
  pub thin : (v : ℕ) → v < n → ThinAt lay n 0 v w
  pub number : ℕ
  pub counter : head_of n block d w s ≡ number
  pub few : number ≤ j
  pub rings : (v : ℕ) → v < n → v ≢ s
      → Ring lay n block d c v number (kept_since bs n c) (heard_in p s everywhere v) (λ i. heard_in p s (may i) v) w

-- nothing waits to be kept
abbrev pub NoneWaits : Lanes → ℕ → ℕ → List ℕ → Type 0
NoneWaits lay n block w = (v : ℕ) → v < n → Holds lay n block w (part_size n block) v (λ k. 0) (λ i k. 0)

-- the window of v holds what v may send on in slot u
abbrev pub WindowHolds : Lanes → Plan → ℕ → (ℕ → ℕ → Bool) → ℕ → ℕ → ℕ → ℕ → List ℕ → ℕ → Type 0
WindowHolds lay p s may n block d u w v =
    Holds lay n block w (ring_at n block d) v (sendable p s everywhere v u) (λ i. sendable p s (may i) v u)

-- ---- how many are kept

module _ (bs : List ℕ) (n : ℕ) where
  -- some of slot c + 1 besides
  pub since_next : (c x q : ℕ) → x ≤ c + 1 → q ≤ slot_load bs n (c + 1) → kept_since bs n c x + q ≤ kept_since bs n (c + 1) x
  unfolding kept_since
  since_next c x q high few =
      let more : c + 1 + 1 - x ≡ suc (c + 1 - x) = omega arith in
      let last : x + (c + 1 - x) ≡ c + 1 = omega arith in
      omega (
        arith,
        ap (spread (slot_load bs n) x) more,
        spread_last (slot_load bs n) (c + 1 - x) x,
        ap (slot_load bs n) last,
      )

  -- in the slots that may be followed there is room for them
  pub since_fits : (c x h d : ℕ) → c < x + h → spread (slot_load bs n) x h ≤ n * d → kept_since bs n c x ≤ n * d
  unfolding kept_since
  since_fits c x h d late room = omega (arith, spread_more (slot_load bs n) (c + 1 - x) h x (omega arith))

-- ---- permissions

pub wider : (g : ℕ → Bool) (v : ℕ) → g v ≡ true → everywhere v ≡ true
unfolding everywhere
wider g v e = refl

module _ (p : Plan) (s : ℕ) (g : ℕ → Bool) where
  pub heard_less : (v c k : ℕ) → heard_by p s g v c k ≤ heard_by p s everywhere v c k
  heard_less v c k = total_less p g everywhere (wider g) (start s) (heard v c) k

  pub in_less : (v x k : ℕ) → heard_in p s g v x k ≤ heard_in p s everywhere v x k
  in_less v x k = total_less p g everywhere (wider g) (start s) (at_appearance v x) k

  pub sendable_less : (v u k : ℕ) → sendable p s g v u k ≤ sendable p s everywhere v u k
  sendable_less v u k =
      cond_less (g v) (everywhere v) (wider g v) (total_less p g everywhere (wider g) (start s) (before p v u) k)

-- ---- a window

-- no walk without a hop ends in a slot after the start
none_without : (p : Plan) (s : ℕ) (g : ℕ → Bool) (v x m : ℕ) → 0 < x → in_slots p s g v x m 0 ≡ 0
unfolding in_slots at_appearance
none_without p s g v x zero low = refl
none_without p s g v x (suc m) low =
    omega (arith, total_zero p g (start s) (at_appearance v x), at_start, none_without p s g v (x + 1) m (omega arith))
  where
    at_start : at_appearance v x (start s) ≡ 0
    at_start = rw (ne_eqb 0 x (omega arith), and-false (eqb s v))

module _ (lay : Lanes) (full : Filled lay) (p : Plan) (s : ℕ) (col : ℕ → ℕ) (n block c : ℕ) (turns : 0 < p.terms.turnaround)
    (some : 0 < p.terms.keeping) where
  -- at the source the empty walk alone counts: no other has as few hops
  at_source : Best lay block 65535 (sendable p s everywhere s (c + 1)) (λ i. sendable p s (may_leave s col i) s (c + 1)) 0 1
      (λ j. ones lay.width lay.lanes)
  unfolding everywhere ones
  at_source =
      record {
        entry = record {
          fewest = fewest_intro (omega arith) (omega (arith, one everywhere)) (λ k g. absurd (omega arith));
          count = sym (ap stored (one everywhere) ∙ stored_small 1 (omega arith));
        };
        row = λ e q g. sym (ap (λ x. x % 2 ^ 64) (packed_ext lay.width lay.lanes (λ l i. free (e * lay.lanes + l)))
            ∙ ones_held lay full);
      }
    where
      one : (g : ℕ → Bool) → total p g (start s) (before p s (c + 1)) 0 ≡ 1
      one g =
          omega (
            arith,
            before_window p s g s (c + 1) turns (omega arith) 0,
            start_here p s g,
            none_without p s g s (window_first p.terms.keeping (c + 1))
                (window_end p.terms.turnaround (c + 1) - window_first p.terms.keeping (c + 1)) (omega arith),
          )

      free : (j : ℕ) → sendable p s (may_leave s col j) s (c + 1) 0 ≡ 1
      free j =
          ap (λ b. cond b (total p (may_leave s col j) (start s) (before p s (c + 1)) 0) 0) (source_free s col j) ∙ one (may_leave s col j)

  -- elsewhere the slots of the window count
  in_slots_law : (g : ℕ → Bool) (v m t k : ℕ) → in_slots p s g v t m k ≡ spread (λ x. heard_in p s g v x k) t m
  unfolding in_slots spread
  in_slots_law g v zero t k = refl
  in_slots_law g v (suc m) t k = ap (λ i. heard_in p s g v t k + i) (in_slots_law g v m (t + 1) k)

  at_other : (g : ℕ → Bool) (v k : ℕ) → v ≢ s
      → spread (λ x. heard_in p s g v x k) (window_first p.terms.keeping (c + 1))
      (window_end p.terms.turnaround (c + 1) - window_first p.terms.keeping (c + 1))
      ≡ total p g (start s) (before p v (c + 1)) k
  at_other g v k other =
      omega (
        arith,
        before_window p s g v (c + 1) turns (omega arith) k,
        start_other p s g v k other,
        in_slots_law g v (window_end p.terms.turnaround (c + 1) - window_first p.terms.keeping (c + 1))
            (window_first p.terms.keeping (c + 1)) k,
      )

  module _ (bs : List ℕ) (d j : ℕ) (old w : List ℕ) (area : WindowArea n block d w)
      (state : WindowState bs lay p s (may_leave s col) n block d c j old w) (v : ℕ) (hv : v < n) where
    room : ring_at n block d + part_size n block ≤ length w
    room = ring_fits area d (omega arith)

    bare : OnlyCell n block (ring_at n block d) v w (emptied_cell n w (ring_at n block d) v)
    bare = emptied_cell_law n block w (ring_at n block d) v hv room

    bare_area : WindowArea n block d (emptied_cell n w (ring_at n block d) v)
    bare_area = area_same area bare.same

    gathered_list : List ℕ
    gathered_list =
        gathered_cell n block d (emptied_cell n w (ring_at n block d) v) (ring_at n block d) v (oldest_of n block d s w)
        (window_first p.terms.keeping (c + 1)) (window_end p.terms.turnaround (c + 1)) (head_of n block d w v) (head_of n block d w v)

    gathered_cell_law : OnlyCell n block (ring_at n block d) v w gathered_list
    unfolding gathered_list
    gathered_cell_law =
        cell_then bare
        (gathered_only n block d v (window_first p.terms.keeping (c + 1)) (window_end p.terms.turnaround (c + 1)) hv
        (oldest_of n block d s w) (head_of n block d w v) _ (head_of n block d w v) bare_area)

    gathered_room : ring_at n block d + part_size n block ≤ length gathered_list
    gathered_room = let e = gathered_cell_law.same in let f = room in omega arith

    bare_ring : SameRing n block d w (emptied_cell n w (ring_at n block d) v)
    bare_ring = part_ring (λ i h. inl (ring_before n block i d h)) (parts_end n block d d (omega arith)) (cell_part hv bare)

    -- only its cell changes
    pub window_cell_law : OnlyCell n block (ring_at n block d) v w (window_cell lay n block d p.terms s col w v (c + 1)).work
    unfolding window_cell gathered_list
    window_cell_law =
        by_cases (ℕ_discrete v s)
        (λ same. rw (eq-eqb v s same) (opened_cell_law n block w (ring_at n block d) v hv room (ones lay.width lay.lanes)))
        (λ other. rw (ne_eqb v s other)
        (cell_then gathered_cell_law (masked_only lay full n block s col gathered_list (ring_at n block d) v other hv gathered_room)))

    -- it holds what v may send on, where the flag is not up: the ring has room for the appearances of the slots that may be followed
    pub window_holds : c < 255 → ((u : ℕ) → spread (slot_load bs n) u p.terms.keeping ≤ n * d)
        → (window_cell lay n block d p.terms s col w v (c + 1)).over ≡ false
        → WindowHolds lay p s (may_leave s col) n block d (c + 1) (window_cell lay n block d p.terms s col w v (c + 1)).work v
    unfolding window_cell gathered_list everywhere
    window_holds most deep =
        by_cases (ℕ_discrete v s)
        (λ same. rw (eq-eqb v s same) (λ f.
        opened_holds n block w (ring_at n block d) v hv room (ones lay.width lay.lanes)
        (subst (λ x. Best lay block 65535 (sendable p s everywhere x (c + 1)) (λ i. sendable p s (may_leave s col i) x (c + 1)) 0 1
        (λ j. ones lay.width lay.lanes))
        (sym same) at_source)))
        (λ other. rw (ne_eqb v s other) (λ f.
        best_ext
        (λ k. at_other everywhere v k other)
        (λ i k. ap (λ x. cond (may_leave s col i v) x 0) (at_other (may_leave s col i) v k other))
        (masked_holds lay full n block s col gathered_list (ring_at n block d) v other hv gathered_room
        (λ i k. spread_less (window_end p.terms.turnaround (c + 1) - window_first p.terms.keeping (c + 1))
        (window_first p.terms.keeping (c + 1)) (λ x. in_less p s (may_leave s col i) v x k))
        (ring_window (state.rings v hv other) (window_first p.terms.keeping (c + 1))
        (window_end p.terms.turnaround (c + 1)) s _ hv
        (λ i x k. in_less p s (may_leave s col i) v x k) (omega arith) (omega arith) (omega arith) state.counter
        (λ x low high. since_fits bs n c x p.terms.keeping d (omega arith) (deep x))
        bare_area bare_ring
        (emptied_holds n block w (ring_at n block d) v hv room (λ k. refl))) f)))

    -- it is up only where an entry has several lanes
    pub window_wide : (window_cell lay n block d p.terms s col w v (c + 1)).over ≡ true → lay.lanes ≢ 1
    unfolding window_cell gathered_list
    window_wide =
        by_cases (ℕ_discrete v s)
        (λ same. rw (eq-eqb v s same) (λ f. absurd (not_both f refl)))
        (λ other. rw (ne_eqb v s other) (masked_wide lay full n block s col gathered_list (ring_at n block d) v other hv gathered_room))
