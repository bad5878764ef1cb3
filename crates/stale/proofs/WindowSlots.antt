-- The pass where readings go stale: a slot. The windows are gathered, what is heard in the slot is folded in record by record, and then
-- taken into the totals and kept: from the state by slot c to the state by slot c + 1. Assumes nothing.
use Rattle.std.proofs.Common.{◌≡◌, ℕ, zero, suc, ◌+◌, ◌*◌, ◌<◌, ◌≤◌, Bool, true, false, ◌&&◌, ◌≢◌, ◌⊎◌, List, length, get_or, sym, refl, ap, ◌∙◌, subst, inl, inr, ⊎_elim, arith, le-ltb, lt-ltb, eq-eqb, ne_eqb}
use native.Mathlib.Decide.{dec_le, ℕ_discrete}
use mathlib.Core.Logic.{by_cases}
use mathlib.Core.Option.{some as present}
use lib.ListN.{get_elem?}
use Rattle.temporal.specs.Plan.{Contact, Plan, may_follow}
use Rattle.temporal.specs.Walk.{is_at}
use Rattle.temporal.specs.Bytes.{contact_at}
use Rattle.lists.proofs.ListLaws.{not_both}
use Rattle.walks.proofs.WalkLaws.{SlotsWithin}
use Rattle.counting.proofs.Weights.{everywhere}
use Rattle.counting.proofs.Fewest.{Fewest, plus, delayed}
use Rattle.counting.proofs.Recurrence.{before, arrivals, arrivals_suc, arrivals_less, inflow_to_hearer, inflow_other_station}
use Rattle.entries.proofs.EntryLaws.{Entry, Large, Small, overflow_large, overflow_small}
use Rattle.entries.proofs.HopLaws.{walks_few}
use Rattle.pass.specs.Row.{part_size}
use Rattle.pass.specs.Column.{Lanes}
use Rattle.pass.specs.Sweep.{Sweep, stops_at}
use Rattle.pass.proofs.BestLaws.{best_ext}
use Rattle.pass.proofs.ColumnLaws.{may_leave}
use Rattle.pass.proofs.MaskLaws.{Thin, Filled}
use Rattle.pass.proofs.SettleLaws.{goes_small, stops_whole, goes_thin}
use Rattle.pass.proofs.PlanWalks.{none_arrived}
use Rattle.stale.specs.Depth.{slot_load, spread}
use Rattle.stale.specs.Size.{window_size}
use Rattle.stale.specs.Window.{ring_at, mark_at, head_of, taken_cell, emptied_cell, window_cell, window_next, windows_of}
use Rattle.stale.specs.Window.{sent_records, pushed_cell, goes_on, kept_one, kept_records, TwoParts, WindowArea}
use Rattle.stale.proofs.SpreadLaws.{raised, raised_own, raised_other, spread_raised, spread_most}
use Rattle.stale.proofs.RingPlaces.{Apart, area_same, ring_before, ring_first, parts_end, mark_behind, heard_fits}
use Rattle.stale.proofs.RingPlaces.{heard_windows, totals_heard}
use Rattle.stale.proofs.WindowSteps.{on_stop, on_rest, records_stop, records_on, pushed_source}
use Rattle.stale.proofs.WindowCells.{Holds, ThinAt, Alike, OnlyCell, OnlyPart, holds_alike, thin_alike, cell_part, cell_alike}
use Rattle.stale.proofs.WindowCells.{part_alike, part_refl, part_then, taken_cell_law, taken_count, same_holds, later_holds}
use Rattle.stale.proofs.WindowCells.{emptied_cell_law, emptied_holds}
use Rattle.stale.proofs.RingLaws.{Ring, SameRing, ring_same, part_ring, ring_skip, ring_push, ring_other}
use Rattle.stale.proofs.RingLaws.{pushed_length, pushed_first, pushed_beyond, new_counter}
use Rattle.stale.proofs.WindowWalks.{heard_by, heard_in, sendable, kept_since, WindowState, NoneWaits, WindowHolds}
use Rattle.stale.proofs.WindowWalks.{heard_less, in_less, sendable_less, window_cell_law, window_holds, window_wide, wider}

-- ---- what stays

-- the state stays where only a part changes that has no totals and no cell of a ring
state_part : {bs : List ℕ} {lay : Lanes} {p : Plan} {s : ℕ} {may : ℕ → ℕ → Bool} {n block d c j : ℕ} {old w w' : List ℕ}
    (base : ℕ) → 0 < n → 0 < d → part_size n block ≤ base → ((i : ℕ) → i < d → Apart n block (ring_at n block i) base)
    → base + part_size n block ≤ (3 + d) * part_size n block → OnlyPart n block base w w'
    → WindowState bs lay p s may n block d c j old w → WindowState bs lay p s may n block d c j old w'
state_part {lay = lay} {s = s} {n = n} {block = block} {d = d} base some deep low apart end o x =
    record {
      same = o.same ∙ x.same;
      beyond = λ i far. o.other i (inr (omega arith)) ∙ x.beyond i far;
      totals = λ v hv. holds_alike (part_alike 0 v (inl (omega arith)) hv o) (x.totals v hv);
      thin = λ v hv. thin_alike lay (part_alike {block = block} 0 v (inl (omega arith)) hv o) (x.thin v hv);
      number = x.number;
      counter = o.other (mark_at n block d d s) (inr (omega (arith, mark_behind n block d d s))) ∙ x.counter;
      few = x.few;
      rings = λ v hv other. ring_same some deep hv (part_ring apart end o) (x.rings v hv other);
    }

-- the windows
pub state_window : {bs : List ℕ} {lay : Lanes} {p : Plan} {s : ℕ} {may : ℕ → ℕ → Bool} {n block d c j : ℕ} {old w w' : List ℕ}
    → WindowArea n block d old → OnlyPart n block (ring_at n block d) w w'
    → WindowState bs lay p s may n block d c j old w → WindowState bs lay p s may n block d c j old w'
state_window {n = n} {block = block} {d = d} area o x =
    state_part (ring_at n block d) area.some area.deep (let f = ring_first n block d in omega arith)
    (λ i h. inl (ring_before n block i d h)) (parts_end n block d d (omega arith)) o x

-- what is heard
state_heard : {bs : List ℕ} {lay : Lanes} {p : Plan} {s : ℕ} {may : ℕ → ℕ → Bool} {n block d c j : ℕ} {old w w' : List ℕ}
    → WindowArea n block d old → OnlyPart n block (part_size n block) w w'
    → WindowState bs lay p s may n block d c j old w → WindowState bs lay p s may n block d c j old w'
state_heard {n = n} {block = block} {d = d} area o x =
    state_part (part_size n block) area.some area.deep (omega arith) (λ i h. inr (ring_first n block i))
    (let f = ring_first n block d in let e = parts_end n block d d (omega arith) in omega arith) o x

-- ---- the windows are gathered

module _ (lay : Lanes) (full : Filled lay) (p : Plan) (s : ℕ) (col : ℕ → ℕ) (n block c : ℕ) (turns : 0 < p.terms.turnaround)
    (some : 0 < p.terms.keeping) (bs : List ℕ) (d j : ℕ) (old : List ℕ) (area : WindowArea n block d old) (most : c < 255)
    (deep : (u : ℕ) → spread (slot_load bs n) u p.terms.keeping ≤ n * d) where
  -- One window more: what is no window stays; so do the other windows, where the flag is not up. It is up only where an entry has several
  -- lanes.
  record Next (w : List ℕ) (y : Sweep) (v : ℕ) : Type 0 where
    only : OnlyPart n block (ring_at n block d) w y.work
    here : y.over ≡ false → WindowHolds lay p s (may_leave s col) n block d (c + 1) y.work v
    kept : y.over ≡ false → (x : ℕ) → x < n → WindowHolds lay p s (may_leave s col) n block d (c + 1) w x
        → WindowHolds lay p s (may_leave s col) n block d (c + 1) y.work x
    wide : y.over ≡ true → lay.lanes ≢ 1

  next : (w : List ℕ) (last v : ℕ) → v < n → WindowState bs lay p s (may_leave s col) n block d c j old w
      → (last < n → WindowHolds lay p s (may_leave s col) n block d (c + 1) w last)
      → Next w (window_next lay n block d p.terms s col w last v (c + 1)) v
  unfolding window_next
  next w last v hv state held =
      by_cases (ℕ_discrete v last)
      (λ same. rw (eq-eqb v last same)
      (record {
        only = part_refl;
        here = λ f. subst (λ x. WindowHolds lay p s (may_leave s col) n block d (c + 1) w x) (sym same) (held (omega arith));
        kept = λ f x hx there. there;
        wide = λ f. absurd (not_both f refl);
      }))
      (λ other. rw (ne_eqb v last other)
      (let full-area = area_same area state.same in
      let only = window_cell_law lay full p s col n block c turns some bs d j old w full-area state v hv in
      let holds = window_holds lay full p s col n block c turns some bs d j old w full-area state v hv most deep in
      record {
        only = cell_part hv only;
        here = holds;
        kept = λ f x hx there. by_cases (ℕ_discrete x v)
            (λ same. subst (λ y. WindowHolds lay p s (may_leave s col) n block d (c + 1)
            (window_cell lay n block d p.terms s col w v (c + 1)).work y) (sym same) (holds f))
            (λ d. holds_alike (cell_alike x d hx hv only) there);
        wide = window_wide lay full p s col n block c turns some bs d j old w full-area state v hv;
      }))

  -- the windows of the senders of k records from position i₀ on
  pub record Gathered (i₀ k : ℕ) (w : List ℕ) (y : Sweep) : Type 0 where
    pub only : OnlyPart n block (ring_at n block d) w y.work
    pub here : y.over ≡ false → (i : ℕ) → i₀ ≤ i → i < i₀ + k
        → WindowHolds lay p s (may_leave s col) n block d (c + 1) y.work (contact_at bs i).sender
    pub kept : y.over ≡ false → (x : ℕ) → x < n → WindowHolds lay p s (may_leave s col) n block d (c + 1) w x
        → WindowHolds lay p s (may_leave s col) n block d (c + 1) y.work x
    pub wide : y.over ≡ true → lay.lanes ≢ 1

  pub windows_gathered : (k : ℕ) (w : List ℕ) (last i₀ : ℕ)
      → WindowState bs lay p s (may_leave s col) n block d c j old w
      → (last < n → WindowHolds lay p s (may_leave s col) n block d (c + 1) w last)
      → ((i : ℕ) → i₀ ≤ i → i < i₀ + k → (contact_at bs i).sender < n)
      → Gathered i₀ k w (windows_of bs lay n block d p.terms s col w (c + 1) last i₀ k)
  unfolding windows_of
  windows_gathered zero w last i₀ state held inside =
      record {
        only = part_refl;
        here = λ f i low high. absurd (omega arith);
        kept = λ f x hx there. there;
        wide = λ f. absurd (not_both f refl);
      }
  windows_gathered (suc k) w last i₀ state held inside =
      go one_window.over refl
      (λ down. windows_gathered k one_window.work (contact_at bs i₀).sender (i₀ + 1)
      (state_window area one.only state) (λ h. one.here down) (λ i low high. inside i (omega arith) (omega arith)))
    where
      one_window : Sweep
      one_window = window_next lay n block d p.terms s col w last (contact_at bs i₀).sender (c + 1)

      hv : (contact_at bs i₀).sender < n
      hv = inside i₀ (omega arith) (omega arith)

      one : Next w one_window (contact_at bs i₀).sender
      one = next w last (contact_at bs i₀).sender hv state held

      others : List ℕ → Sweep
      others y = windows_of bs lay n block d p.terms s col y (c + 1) (contact_at bs i₀).sender (i₀ + 1) k

      go : (b : Bool) → one_window.over ≡ b → (b ≡ false → Gathered (i₀ + 1) k one_window.work (others one_window.work))
          → Gathered i₀ (suc k) w (goes_on one_window others)
      go true e rest =
          rw (on_stop one_window others e)
          (record {
            only = one.only;
            here = λ f. absurd (not_both e f);
            kept = λ f. absurd (not_both e f);
            wide = one.wide;
          })
      go false e rest =
          let more = rest refl in
          rw (on_rest one_window others e)
          (record {
            only = part_then one.only more.only;
            here = λ f i low high. by_cases (ℕ_discrete i i₀)
                (λ same. rw same (more.kept f (contact_at bs i₀).sender hv (one.here e)))
                (λ d. more.here f i (omega arith) (omega arith));
            kept = λ f x hx there. more.kept f x hx (one.kept e x hx there);
            wide = more.wide;
          })

-- ---- what is heard in the slot

-- The records from j to before i are folded in: part 1 has what they bring. The windows of the senders from j to before e are there, and so
-- is the state.
pub record Hearing (bs : List ℕ) (lay : Lanes) (p : Plan) (s : ℕ) (may : ℕ → ℕ → Bool) (n block d c : ℕ) (old : List ℕ)
    (j e i : ℕ) (w : List ℕ) : Type 0 where
  pub state : WindowState bs lay p s may n block d c j old w
  pub windows : (i : ℕ) → j ≤ i → i < e → WindowHolds lay p s may n block d (c + 1) w (contact_at bs i).sender
  pub heard : (v : ℕ) → v < n
      → Holds lay n block w (part_size n block) v (arrivals p s everywhere i v (c + 1)) (λ m. arrivals p s (may m) i v (c + 1))

module _ (bs : List ℕ) (lay : Lanes) (p : Plan) (s : ℕ) (may : ℕ → ℕ → Bool) (n block d c : ℕ) (old : List ℕ)
    (area : WindowArea n block d old) (j e : ℕ) (senders : (i : ℕ) → j ≤ i → i < e → (contact_at bs i).sender < n) where
  -- part 1 lies before the windows
  before_windows : part_size n block + part_size n block ≤ ring_at n block d
  before_windows = ring_first n block d

  -- what does not lie in part 1 stays
  hearing_on : (i i' : ℕ) (w w' : List ℕ) → OnlyPart n block (part_size n block) w w' → Hearing bs lay p s may n block d c old j e i w
      → ((v : ℕ) → v < n
      → Holds lay n block w' (part_size n block) v (arrivals p s everywhere i' v (c + 1)) (λ m. arrivals p s (may m) i' v (c + 1)))
      → Hearing bs lay p s may n block d c old j e i' w'
  hearing_on i i' w w' o x fresh =
      record {
        state = state_heard area o x.state;
        windows = λ k low high.
            holds_alike (part_alike (ring_at n block d) (contact_at bs k).sender (inr before_windows) (senders k low high) o)
            (x.windows k low high);
        heard = fresh;
      }

  -- at first nothing is heard
  pub hearing_none : (w : List ℕ) → WindowState bs lay p s may n block d c j old w → NoneWaits lay n block w
      → ((i : ℕ) → j ≤ i → i < e → WindowHolds lay p s may n block d (c + 1) w (contact_at bs i).sender)
      → ((i : ℕ) (d : Contact) → i < j → get_elem? p.contacts i ≡ present d → d.slot ≢ c + 1)
      → Hearing bs lay p s may n block d c old j e j w
  hearing_none w x waits windows none =
      record {
        state = x;
        windows = windows;
        heard = λ v hv. best_ext (λ k. sym (none_arrived p s everywhere j (c + 1) none v k))
            (λ m k. sym (none_arrived p s (may m) j (c + 1) none v k)) (waits v hv);
      }

  module _ (fits : SlotsWithin p) (few : p.slots ≤ 255) where
    -- what a sender may send on can take one hop more
    one_more : (v h' : ℕ) → Fewest (sendable p s everywhere v (c + 1)) h' → h' < 65535 → h' + 1 < 65535
    unfolding everywhere before
    one_more v h' f g =
        let most = walks_few p fits s h' (λ y. is_at v y && may_follow p y.slot (c + 1)) (f.some g) in
        omega arith

    -- a record brings its hearer what its sender may send on, one hop later
    at_hearer : (g : ℕ → Bool) (i : ℕ) (q : Contact) → get_elem? p.contacts i ≡ present q → q.slot ≡ c + 1 → (k : ℕ)
        → plus (arrivals p s g i q.hearer (c + 1)) (delayed (sendable p s g q.sender (c + 1))) k
        ≡ arrivals p s g (i + 1) q.hearer (c + 1) k
    unfolding plus
    at_hearer g i q there slot k =
        let more : i + 1 ≡ suc i = omega arith in
        sym (ap (λ x. arrivals p s g x q.hearer (c + 1) k) more ∙ arrivals_suc p s g i there q.hearer (c + 1) k
        ∙ ap (λ z. arrivals p s g i q.hearer (c + 1) k + z) (inflow_to_hearer p s g q (c + 1) k slot))

    at_other : (g : ℕ → Bool) (i : ℕ) (q : Contact) → get_elem? p.contacts i ≡ present q → (v k : ℕ) → v ≢ q.hearer
        → arrivals p s g i v (c + 1) k ≡ arrivals p s g (i + 1) v (c + 1) k
    at_other g i q there v k other =
        let more : i + 1 ≡ suc i = omega arith in
        sym (ap (λ x. arrivals p s g x v (c + 1) k) more ∙ arrivals_suc p s g i there v (c + 1) k
        ∙ omega (arith, inflow_other_station p s g q v (c + 1) k other))

    -- a record more
    hearing_more : (i : ℕ) (w : List ℕ) → j ≤ i → i < e → get_elem? p.contacts i ≡ present (contact_at bs i) → (contact_at bs i).slot ≡ c + 1
        → (contact_at bs i).hearer < n
        → Hearing bs lay p s may n block d c old j e i w
        → Hearing bs lay p s may n block d c old j e (i + 1)
        (taken_cell n block w (part_size n block) (contact_at bs i).hearer (ring_at n block d) (contact_at bs i).sender 1)
    hearing_more i w low high there slot hearer x =
        hearing_on i (i + 1) w _ (cell_part hearer only) x (λ v hv.
        by_cases (ℕ_discrete v (contact_at bs i).hearer)
        (λ same. rw same
        (best_ext (at_hearer everywhere i (contact_at bs i) there slot) (λ m. at_hearer (may m) i (contact_at bs i) there slot)
        (later_holds n block w (part_size n block) (contact_at bs i).hearer (ring_at n block d) (contact_at bs i).sender parts hearer
        (senders i low high) (inl before_windows)
        (arrivals p s everywhere i (contact_at bs i).hearer (c + 1)) (sendable p s everywhere (contact_at bs i).sender (c + 1))
        (λ m. arrivals p s (may m) i (contact_at bs i).hearer (c + 1)) (λ m. sendable p s (may m) (contact_at bs i).sender (c + 1))
        (λ m k. arrivals_less p s (may m) everywhere (wider (may m)) i (contact_at bs i).hearer (c + 1) k)
        (λ m k. sendable_less p s (may m) (contact_at bs i).sender (c + 1) k)
        (x.heard (contact_at bs i).hearer hearer) (x.windows i low high)
        (one_more (contact_at bs i).sender _ (x.windows i low high).entry.fewest))))
        (λ other. best_ext (λ k. at_other everywhere i (contact_at bs i) there v k other)
        (λ m k. at_other (may m) i (contact_at bs i) there v k other)
        (holds_alike (cell_alike v other hv hearer only) (x.heard v hv))))
      where
        parts : TwoParts n block (part_size n block) (ring_at n block d) w
        parts = heard_windows (area_same area x.state.same)

        only : OnlyCell n block (part_size n block) (contact_at bs i).hearer w
            (taken_cell n block w (part_size n block) (contact_at bs i).hearer (ring_at n block d) (contact_at bs i).sender 1)
        only =
            taken_cell_law n block w (part_size n block) (contact_at bs i).hearer (ring_at n block d) (contact_at bs i).sender 1 parts hearer
            (senders i low high) (inl before_windows)

    -- all of them
    pub hearing_all : (k i : ℕ) (w : List ℕ) → j ≤ i → i + k ≡ e
        → ((x : ℕ) → j ≤ x → x < e → get_elem? p.contacts x ≡ present (contact_at bs x))
        → ((x : ℕ) → j ≤ x → x < e → (contact_at bs x).slot ≡ c + 1)
        → ((x : ℕ) → j ≤ x → x < e → (contact_at bs x).hearer < n)
        → Hearing bs lay p s may n block d c old j e i w
        → Hearing bs lay p s may n block d c old j e e (sent_records bs n block (ring_at n block d) (part_size n block) w i k)
    unfolding sent_records
    hearing_all zero i w low end there slot hearer x =
        let same : i ≡ e = omega arith in
        subst (λ y. Hearing bs lay p s may n block d c old j e y w) same x
    hearing_all (suc k) i w low end there slot hearer x =
        hearing_all k (i + 1) _ (omega arith) (omega arith) there slot hearer
        (hearing_more i w low (omega arith) (there i low (omega arith)) (slot i low (omega arith)) (hearer i low (omega arith)) x)

    -- to a station that no record of the slot has as hearer nothing comes
    pub none_comes : (v k i : ℕ) → j ≤ i → i + k ≡ e
        → ((x : ℕ) → j ≤ x → x < e → get_elem? p.contacts x ≡ present (contact_at bs x))
        → ((x : ℕ) → j ≤ x → x < e → (contact_at bs x).hearer ≢ v)
        → (m : ℕ) → arrivals p s everywhere i v (c + 1) m ≡ arrivals p s everywhere e v (c + 1) m
    none_comes v zero i low end there none m = let same : i ≡ e = omega arith in rw same
    none_comes v (suc k) i low end there none m =
        at_other everywhere i (contact_at bs i) (there i low (omega arith)) v m (λ q. none i low (omega arith) (sym q))
        ∙ none_comes v k (i + 1) (omega arith) (omega arith) there none m

-- ---- what was heard is taken into the totals and kept

-- a station's sequence is large
pub record LargeHere (n : ℕ) (A : ℕ → ℕ → ℕ) : Type 0 where
  pub station : ℕ
  pub inside : station < n
  pub large : Large (A station)

-- a cell and the ring that are the same in a first and a second list, and there and in a third
alike_then : {n block base v : ℕ} {a b c : List ℕ} → Alike n block base v a b → Alike n block base v b c → Alike n block base v a c
alike_then x y =
    record { hops = y.hops ∙ x.hops; count = y.count ∙ x.count; row = λ j q. y.row j q ∙ x.row j q }

alike_self : {n block base v : ℕ} {w : List ℕ} → Alike n block base v w w
alike_self = record { hops = refl; count = refl; row = λ j q. refl }

ring_then : {n block d : ℕ} {a b c : List ℕ} → SameRing n block d a b → SameRing n block d b c → SameRing n block d a c
ring_then x y =
    record {
      cells = λ i z h hz. alike_then (x.cells i z h hz) (y.cells i z h hz);
      marks = λ i z h hz. y.marks i z h hz ∙ x.marks i z h hz;
    }

-- only station v's cells and the ring change
record OnlyStation (n block d v : ℕ) (old new : List ℕ) : Type 0 where
  same : length new ≡ length old
  beyond : (q : ℕ) → window_size n d block ≤ q → get_or new q 0 ≡ get_or old q 0
  heard : (z : ℕ) → z < n → z ≢ v → Alike n block (part_size n block) z old new
  totals : (z : ℕ) → z < n → z ≢ v → Alike n block 0 z old new

module _ (n block d s u : ℕ) (w : List ℕ) (v : ℕ) where
  -- what is heard is in the total, then in the ring, and then it waits no more
  total : List ℕ
  total = taken_cell n block w 0 v (part_size n block) v 0

  pushed : List ℕ
  pushed = pushed_cell n block d s total u v

  gone : List ℕ
  gone = emptied_cell n pushed (part_size n block) v

  kept_nothing : 65535 ≤ get_or w (part_size n block + v) 0 → kept_one n block d s u w v ≡ w
  unfolding kept_one
  kept_nothing none = rw (le-ltb (get_or w (part_size n block + v) 0) 65535 none)

  kept_something : get_or w (part_size n block + v) 0 < 65535 → kept_one n block d s u w v ≡ gone
  unfolding kept_one total pushed gone
  kept_something some = rw (lt-ltb (get_or w (part_size n block + v) 0) 65535 some)

  module _ (area : WindowArea n block d w) (hv : v < n) (hs : s < n) where
    parts_behind : part_size n block + part_size n block ≤ (3 + d) * part_size n block
    parts_behind = let f = ring_first n block d in let e = parts_end n block d d (omega arith) in omega arith

    total_only : OnlyCell n block 0 v w total
    unfolding total
    total_only = taken_cell_law n block w 0 v (part_size n block) v 0 (totals_heard area) hv hv (inl (omega arith))

    -- where keeping goes on, its count fits a lane
    total_thin : (lay : Lanes) → stops_at lay n (part_size n block) w v ≡ false → get_or w (part_size n block + v) 0 < 65535
        → Thin lay (get_or total (0 + v + n) 0)
    unfolding total
    total_thin lay goes some =
        let place : 0 + v ≡ v = omega arith in
        let hops : get_or w (part_size n block + v) 0 + 0 ≡ get_or w (part_size n block + v) 0 = omega arith in
        rw (taken_count n block w 0 v (part_size n block) v 0 (totals_heard area) hv hv (inl (omega arith)) some)
        (rw (place, hops) (goes_thin lay n (part_size n block) w v goes some))

    total_part : OnlyPart n block 0 w total
    total_part = cell_part hv total_only

    total_ring : SameRing n block d w total
    total_ring = part_ring (λ i h. inr (let f = ring_first n block i in omega arith)) (let e = parts_behind in omega arith) total_part

    total_area : WindowArea n block d total
    total_area = area_same area total_only.same

    -- the source's is not kept
    pushed_none : v ≡ s → pushed ≡ total
    unfolding pushed
    pushed_none same = sym (pushed_source n block d s total u v same)

    pushed_same : length pushed ≡ length total
    unfolding pushed
    pushed_same =
        by_cases (ℕ_discrete v s) (λ same. ap length (pushed_none same))
        (λ other. pushed_length n block d s total u v _ total_area hv hs other refl)

    pushed_area : WindowArea n block d pushed
    pushed_area = area_same total_area pushed_same

    pushed_far : (q : ℕ) → window_size n d block ≤ q → get_or pushed q 0 ≡ get_or total q 0
    unfolding pushed
    pushed_far q far =
        by_cases (ℕ_discrete v s) (λ same. ap (λ y. get_or y q 0) (pushed_none same))
        (λ other. pushed_beyond n block d s total u v _ total_area hv hs other refl q far)

    -- parts 0 and 1
    pushed_alike : (base z : ℕ) → z < n → base ≤ part_size n block → Alike n block base z total pushed
    unfolding pushed
    pushed_alike base z hz low =
        by_cases (ℕ_discrete v s) (λ same. subst (λ y. Alike n block base z total y) (sym (pushed_none same)) alike_self)
        (λ other. pushed_first n block d s total u v _ total_area hv hs other refl base z hz (let f = ring_first n block 0 in omega arith))

    gone_only : OnlyCell n block (part_size n block) v pushed gone
    unfolding gone
    gone_only = emptied_cell_law n block pushed (part_size n block) v hv (heard_fits pushed_area)

    gone_part : OnlyPart n block (part_size n block) pushed gone
    gone_part = cell_part hv gone_only

    gone_ring : SameRing n block d pushed gone
    gone_ring = part_ring (λ i h. inr (ring_first n block i)) parts_behind gone_part

    gone_total : (z : ℕ) → z < n → Alike n block 0 z pushed gone
    gone_total z hz = part_alike 0 z (inl (omega arith)) hz gone_part

    gone_station : OnlyStation n block d v w gone
    gone_station =
        record {
          same = gone_only.same ∙ pushed_same ∙ total_only.same;
          beyond = λ q far. let e = parts_behind in
              gone_part.other q (inr (omega arith)) ∙ pushed_far q far ∙ total_part.other q (inr (omega arith));
          heard = λ z hz other. alike_then (part_alike (part_size n block) z (inr (omega arith)) hz total_part)
              (alike_then (pushed_alike (part_size n block) z hz (omega arith)) (cell_alike z other hz hv gone_only));
          totals = λ z hz other. alike_then (cell_alike z other hz hv total_only)
              (alike_then (pushed_alike 0 z hz (omega arith)) (gone_total z hz));
        }

    -- with the source's walks the ring stays
    gone_source : v ≡ s → SameRing n block d w gone
    gone_source same = ring_then total_ring (subst (λ y. SameRing n block d y gone) (pushed_none same) gone_ring)

    -- with any others it has a number more
    module _ (other : v ≢ s) (K : ℕ) (is : head_of n block d w s ≡ K) where
      total_counter : head_of n block d total s ≡ K
      total_counter = total_ring.marks d s (omega arith) hs ∙ is

      gone_counter : K + 1 < 18446744073709551616 → head_of n block d gone s ≡ K + 1
      unfolding pushed
      gone_counter small =
          gone_ring.marks d s (omega arith) hs ∙ new_counter n block d s total u v K total_area hv hs other total_counter small

      gone_other : {lay : Lanes} {c z : ℕ} {B B' : ℕ → ℕ} {F : ℕ → ℕ → ℕ} {F' : ℕ → ℕ → ℕ → ℕ} → z < n → z ≢ v → z ≢ s
          → ((x : ℕ) → 0 < x → x ≤ c → B x + 1 ≤ B' x) → Ring lay n block d c z K B F F' w → Ring lay n block d c z (K + 1) B' F F' gone
      unfolding pushed
      gone_other hz a b wider r =
          ring_same area.some area.deep hz gone_ring
          (ring_other n block d s total u v K total_area hv hs other total_counter hz a b wider
          (ring_same area.some area.deep hz total_ring r))

      gone_own : {lay : Lanes} {c : ℕ} {B B' : ℕ → ℕ} {F : ℕ → ℕ → ℕ} {F' : ℕ → ℕ → ℕ → ℕ} → u ≡ c + 1 → u < 256
          → K < 72057594037927936 → ((x : ℕ) → 0 < x → x ≤ c → B x + 1 ≤ B' x) → 0 < B' u → ((j i : ℕ) → F' j u i ≤ F u i)
          → Holds lay n block w (part_size n block) v (F u) (λ j. F' j u)
          → Ring lay n block d c v K B F F' w → Ring lay n block d u v (K + 1) B' F F' gone
      unfolding pushed
      gone_own slot few small wider some less heard r =
          ring_same area.some area.deep hv gone_ring
          (ring_push n block d s total u v K total_area hv hs other total_counter slot few small wider some less
          (holds_alike (part_alike (part_size n block) v (inr (omega arith)) hv total_part) heard)
          (ring_same area.some area.deep hv total_ring r))

-- an entry of no walks has no hops
none_hops : {h k : ℕ} → Entry (λ i. 0) h k → 65535 ≤ h
none_hops {h} x = by_cases (dec_le 65535 h) (λ q. q) (λ q. absurd (omega (arith, x.fewest.some (omega arith))))

-- From slot c and position j to slot c + 1 and position e, on a work area that was old.
module _ (bs : List ℕ) (lay : Lanes) (p : Plan) (s : ℕ) (may : ℕ → ℕ → Bool) (n block d c j e : ℕ) (old : List ℕ) where
  -- the numbers of v by a slot, K in all, q of them kept since slot c
  abbrev pub Numbers : ℕ → ℕ → ℕ → ℕ → List ℕ → Type 0
  Numbers by v K q w =
      Ring lay n block d by v K (λ x. kept_since bs n c x + q) (heard_in p s everywhere v) (λ m. heard_in p s (may m) v) w

  -- what is known of a station that no record before i has as hearer: what it heard waits
  pub record Waits (i v K q : ℕ) (w : List ℕ) : Type 0 where
    pub total : Holds lay n block w 0 v (heard_by p s everywhere v c) (λ m. heard_by p s (may m) v c)
    pub ring : v ≢ s → Numbers c v K q w
    pub heard : Holds lay n block w (part_size n block) v (heard_in p s everywhere v (c + 1)) (λ m. heard_in p s (may m) v (c + 1))
    pub thin : ThinAt lay n 0 v w
    pub fresh : (x : ℕ) → j ≤ x → x < i → (contact_at bs x).hearer ≢ v

  -- and of one for which it is done: it is kept, not too many, and its total fits a lane
  pub record Done (v K q : ℕ) (w : List ℕ) : Type 0 where
    pub total : Holds lay n block w 0 v (heard_by p s everywhere v (c + 1)) (λ m. heard_by p s (may m) v (c + 1))
    pub ring : v ≢ s → Numbers (c + 1) v K q w
    pub none : Holds lay n block w (part_size n block) v (λ k. 0) (λ m k. 0)
    pub thin : ThinAt lay n 0 v w
    pub few : Small (heard_in p s everywhere v (c + 1))

  -- The hearers of the records from j to before i are done; of the other stations what they heard waits, or they are done too. No more
  -- appearances of the slot are kept than there are such records, and one at most of each station.
  pub record Midway (i : ℕ) (w : List ℕ) : Type 0 where
    pub same : length w ≡ length old
    pub beyond : (q : ℕ) → window_size n d block ≤ q → get_or w q 0 ≡ get_or old q 0
    pub number : ℕ
    pub kept : ℕ
    pub counter : head_of n block d w s ≡ number
    pub few : number ≤ j + kept
    pub so_far : j + kept ≤ i
    pub ones : ℕ → ℕ
    pub once : (v : ℕ) → ones v ≤ 1
    pub hearers : kept ≤ spread ones 0 n
    pub stations : (v : ℕ) → v < n → Done v number kept w ⊎ ((ones v ≡ 0) × Waits i v number kept w)

  -- the records up to a position are done: all of them, or those before a hearer that has too many or whose total does not fit a lane
  pub record Kept (y : Sweep) : Type 0 where
    pub position : ℕ
    pub midway : Midway position y.work
    pub over : y.over ≡ true → lay.lanes ≡ 1 → LargeHere n (λ v. heard_in p s everywhere v (c + 1))
    pub all : y.over ≡ false → position ≡ e

  -- at most one of each station is kept
  pub midway_most : (i : ℕ) (w : List ℕ) (x : Midway i w) → x.kept ≤ n
  midway_most i w x = omega (arith, x.hearers, spread_most x.ones 1 n 0 x.once)

  -- A station that no record between has as hearer has no walks in the slot.
  module _ (area : WindowArea n block d old) (from : j ≤ e) (hs : s < n) (most : c < 255)
      (sum : (g : ℕ → Bool) (v k : ℕ) → plus (heard_by p s g v c) (heard_in p s g v (c + 1)) k ≡ heard_by p s g v (c + 1) k)
      (unheard : (v : ℕ) → ((x : ℕ) → j ≤ x → x < e → (contact_at bs x).hearer ≢ v) → (m : ℕ) → heard_in p s everywhere v (c + 1) m ≡ 0)
      (small : e < 72057594037927936) where
    waits_on : {i v K q K' q' : ℕ} {w w' : List ℕ} → Alike n block 0 v w w' → Alike n block (part_size n block) v w w'
        → (v ≢ s → Numbers c v K q w → Numbers c v K' q' w') → (contact_at bs i).hearer ≢ v
        → Waits i v K q w → Waits (i + 1) v K' q' w'
    waits_on {i} a b ring other x =
        record {
          total = holds_alike a x.total;
          ring = λ o. ring o (x.ring o);
          heard = holds_alike b x.heard;
          thin = thin_alike lay a x.thin;
          fresh = λ y low high. by_cases (ℕ_discrete y i) (λ same. rw same other) (λ q. x.fresh y low (omega arith));
        }

    done_on : {v K q K' q' : ℕ} {w w' : List ℕ} → Alike n block 0 v w w' → Alike n block (part_size n block) v w w'
        → (v ≢ s → Numbers (c + 1) v K q w → Numbers (c + 1) v K' q' w') → Done v K q w → Done v K' q' w'
    done_on a b ring x =
        record {
          total = holds_alike a x.total;
          ring = λ o. ring o (x.ring o);
          none = holds_alike b x.none;
          thin = thin_alike lay a x.thin;
          few = x.few;
        }

    -- a station that has no walks in the slot is done
    idle_done : (i v K q : ℕ) (w : List ℕ) → ((m : ℕ) → heard_in p s everywhere v (c + 1) m ≡ 0) → Waits i v K q w → Done v K q w
    unfolding plus
    idle_done i v K q w nothing x =
        record {
          total = best_ext (λ k. omega (arith, sum everywhere v k, nothing k))
              (λ m k. omega (arith, sum (may m) v k, nothing k, in_less p s (may m) v (c + 1) k)) x.total;
          ring = λ o. ring_skip nothing (x.ring o);
          none = best_ext nothing (λ m k. omega (arith, nothing k, in_less p s (may m) v (c + 1) k)) x.heard;
          thin = x.thin;
          few = record { small = λ k f. omega (arith, nothing k) };
        }

    -- so is one whose walks are kept
    one_done : (i v K q K' q' : ℕ) (w : List ℕ) (full : WindowArea n block d w) (hv : v < n)
        → stops_at lay n (part_size n block) w v ≡ false → get_or w (part_size n block + v) 0 < 65535
        → (v ≢ s → Numbers c v K q w → Numbers (c + 1) v K' q' (gone n block d s (c + 1) w v))
        → Waits i v K q w → Done v K' q' (gone n block d s (c + 1) w v)
    unfolding total pushed gone
    one_done i v K q K' q' w full hv goes some ring x =
        record {
          total = holds_alike
              (alike_then (pushed_alike n block d s (c + 1) w v full hv hs 0 v hv (omega arith))
              (gone_total n block d s (c + 1) w v full hv hs v hv))
              (best_ext (sum everywhere v) (λ m. sum (may m) v)
              (same_holds n block w 0 v (part_size n block) v (totals_heard full) hv hv (inl (omega arith)) (heard_by p s everywhere v c)
              (heard_in p s everywhere v (c + 1)) (λ m. heard_by p s (may m) v c) (λ m. heard_in p s (may m) v (c + 1))
              (λ m k. heard_less p s (may m) v c k) (λ m k. in_less p s (may m) v (c + 1) k) x.total x.heard));
          ring = λ o. ring o (x.ring o);
          none = emptied_holds n block (pushed n block d s (c + 1) w v) (part_size n block) v hv
              (heard_fits (pushed_area n block d s (c + 1) w v full hv hs)) (λ k. refl);
          thin = thin_alike lay
              (alike_then (pushed_alike n block d s (c + 1) w v full hv hs 0 v hv (omega arith))
              (gone_total n block d s (c + 1) w v full hv hs v hv))
              (λ g. total_thin n block d s (c + 1) w v full hv hs lay goes some);
          few = overflow_small x.heard.entry (goes_small lay n (part_size n block) w v goes);
        }

    -- past the last record all are done
    pub all_done : (i : ℕ) → i ≡ e → (w : List ℕ) (x : Midway i w) → (v : ℕ) → v < n → Done v x.number x.kept w
    all_done i last w x v hv =
        ⊎_elim (λ q. q)
        (λ (q : (x.ones v ≡ 0) × Waits i v x.number x.kept w).
        idle_done i v _ _ w (unheard v (λ y low high. q.1.fresh y low (omega arith))) q.1)
        (x.stations v hv)

    module _ (i : ℕ) (w : List ℕ) (low : j ≤ i) (high : i < e) (hv : (contact_at bs i).hearer < n) (x : Midway i w) where
      full : WindowArea n block d w
      full = area_same area x.same

      -- with one lane to an entry a count over 2^64 - 1 is that of a large sequence
      midway_large : stops_at lay n (part_size n block) w (contact_at bs i).hearer ≡ true → lay.lanes ≡ 1
          → LargeHere n (λ v. heard_in p s everywhere v (c + 1))
      midway_large stops one =
          let over = stops_whole lay n (part_size n block) w (contact_at bs i).hearer one stops in
          ⊎_elim
          (λ (q : Done (contact_at bs i).hearer x.number x.kept w).
          absurd (let l = overflow_large q.none.entry over in omega (arith, l.large)))
          (λ (q : (x.ones (contact_at bs i).hearer ≡ 0) × Waits i (contact_at bs i).hearer x.number x.kept w).
          record { station = (contact_at bs i).hearer; inside = hv; large = overflow_large q.1.heard.entry over })
          (x.stations (contact_at bs i).hearer hv)

      -- a hearer that is done already, or heard nothing
      midway_idle : 65535 ≤ get_or w (part_size n block + (contact_at bs i).hearer) 0 → Midway (i + 1) w
      midway_idle none =
          record {
            same = x.same;
            beyond = x.beyond;
            number = x.number;
            kept = x.kept;
            counter = x.counter;
            few = x.few;
            so_far = omega (arith, x.so_far);
            ones = x.ones;
            once = x.once;
            hearers = x.hearers;
            stations = λ z hz. ⊎_elim inl
                (λ (q : (x.ones z ≡ 0) × Waits i z x.number x.kept w).
                by_cases (ℕ_discrete z (contact_at bs i).hearer)
                (λ same.
                let f = q.1.heard.entry.fewest in
                let at = ap (λ y. get_or w (part_size n block + y) 0) same in
                inl (idle_done i z _ _ w (f.never (let b = f.bound in omega arith)) q.1))
                (λ other. inr (q.0, waits_on alike_self alike_self (λ o r. r) (λ y. other (sym y)) q.1)))
                (x.stations z hz);
          }

      module _ (goes : stops_at lay n (part_size n block) w (contact_at bs i).hearer ≡ false)
          (some : get_or w (part_size n block + (contact_at bs i).hearer) 0 < 65535) where
        only : OnlyStation n block d (contact_at bs i).hearer w (gone n block d s (c + 1) w (contact_at bs i).hearer)
        only = gone_station n block d s (c + 1) w (contact_at bs i).hearer full hv hs

        -- it heard something, so it waited
        waited : (x.ones (contact_at bs i).hearer ≡ 0) × Waits i (contact_at bs i).hearer x.number x.kept w
        waited =
            ⊎_elim
            (λ (q : Done (contact_at bs i).hearer x.number x.kept w). absurd (omega (arith, none_hops q.none.entry)))
            (λ q. q) (x.stations (contact_at bs i).hearer hv)

        -- the others stay what they are
        others : (K q : ℕ) (ones : ℕ → ℕ) → ((z : ℕ) → z ≢ (contact_at bs i).hearer → ones z ≡ x.ones z)
            → ((z by : ℕ) → z < n → z ≢ (contact_at bs i).hearer → z ≢ s → Numbers by z x.number x.kept w
            → Numbers by z K q (gone n block d s (c + 1) w (contact_at bs i).hearer))
            → Done (contact_at bs i).hearer K q (gone n block d s (c + 1) w (contact_at bs i).hearer)
            → (z : ℕ) → z < n
            → Done z K q (gone n block d s (c + 1) w (contact_at bs i).hearer)
            ⊎ ((ones z ≡ 0) × Waits (i + 1) z K q (gone n block d s (c + 1) w (contact_at bs i).hearer))
        others K q ones kept ring here z hz =
            by_cases (ℕ_discrete z (contact_at bs i).hearer)
            (λ same. inl (subst (λ y. Done y K q (gone n block d s (c + 1) w (contact_at bs i).hearer)) (sym same) here))
            (λ other. ⊎_elim
            (λ (q : Done z x.number x.kept w).
            inl (done_on (only.totals z hz other) (only.heard z hz other) (ring z (c + 1) hz other) q))
            (λ (q : (x.ones z ≡ 0) × Waits i z x.number x.kept w).
            inr (
              kept z other ∙ q.0,
              waits_on (only.totals z hz other) (only.heard z hz other) (ring z c hz other) (λ y. other (sym y)) q.1,
            ))
            (x.stations z hz))

        -- the source is not kept
        midway_source : (contact_at bs i).hearer ≡ s → Midway (i + 1) (gone n block d s (c + 1) w (contact_at bs i).hearer)
        midway_source same =
            let ring = gone_source n block d s (c + 1) w (contact_at bs i).hearer full hv hs same in
            record {
              same = only.same ∙ x.same;
              beyond = λ q far. only.beyond q far ∙ x.beyond q far;
              number = x.number;
              kept = x.kept;
              counter = ring.marks d s (omega arith) hs ∙ x.counter;
              few = x.few;
              so_far = omega (arith, x.so_far);
              ones = x.ones;
              once = x.once;
              hearers = x.hearers;
              stations = others x.number x.kept x.ones (λ z other. refl)
                  (λ z by hz other away. ring_same area.some area.deep hz ring)
                  (one_done i (contact_at bs i).hearer _ _ _ _ w full hv goes some (λ o. absurd (o same)) waited.1);
            }

        -- any other is
        midway_kept : (contact_at bs i).hearer ≢ s → Midway (i + 1) (gone n block d s (c + 1) w (contact_at bs i).hearer)
        midway_kept away =
            record {
              same = only.same ∙ x.same;
              beyond = λ q far. only.beyond q far ∙ x.beyond q far;
              number = x.number + 1;
              kept = x.kept + 1;
              counter = gone_counter n block d s (c + 1) w (contact_at bs i).hearer full hv hs away x.number x.counter (omega arith);
              few = omega (arith, x.few);
              so_far = omega (arith, x.so_far);
              ones = raised x.ones (contact_at bs i).hearer;
              once = λ z. by_cases (ℕ_discrete z (contact_at bs i).hearer)
                  (λ same. rw same (omega (arith, raised_own x.ones (contact_at bs i).hearer)))
                  (λ other. omega (arith, raised_other x.ones (contact_at bs i).hearer z other, x.once z));
              hearers = omega (
                arith,
                x.hearers,
                spread_raised x.ones (contact_at bs i).hearer n 0 (omega arith) (omega arith) waited.0,
              );
              stations = others (x.number + 1) (x.kept + 1) (raised x.ones (contact_at bs i).hearer)
                  (raised_other x.ones (contact_at bs i).hearer)
                  (λ z by hz other o.
                  gone_other n block d s (c + 1) w (contact_at bs i).hearer full hv hs away x.number x.counter hz other o
                  (λ y low high. omega arith))
                  (one_done i (contact_at bs i).hearer _ _ _ _ w full hv goes some
                  (λ o. gone_own n block d s (c + 1) w (contact_at bs i).hearer full hv hs away x.number x.counter refl (omega arith)
                  (omega arith) (λ y low high. omega arith) (omega arith)
                  (λ m k. in_less p s (may m) (contact_at bs i).hearer (c + 1) k) waited.1.heard)
                  waited.1);
            }
          where
            bound : x.number ≤ i
            bound = omega (arith, x.few, x.so_far)

      -- a record more; where its hearer is done already, nothing changes
      midway_more : stops_at lay n (part_size n block) w (contact_at bs i).hearer ≡ false
          → Midway (i + 1) (kept_one n block d s (c + 1) w (contact_at bs i).hearer)
      midway_more goes =
          by_cases (dec_le 65535 (get_or w (part_size n block + (contact_at bs i).hearer) 0))
          (λ none. rw (kept_nothing n block d s (c + 1) w (contact_at bs i).hearer none) (midway_idle none))
          (λ some. rw (kept_something n block d s (c + 1) w (contact_at bs i).hearer (omega arith))
          (by_cases (ℕ_discrete (contact_at bs i).hearer s)
          (λ same. midway_source goes (omega arith) same) (λ away. midway_kept goes (omega arith) away)))

    pub kept_all : ((i : ℕ) → j ≤ i → i < e → (contact_at bs i).hearer < n) → (k i : ℕ) (w : List ℕ) → j ≤ i → i + k ≡ e → Midway i w
        → Kept (kept_records bs lay n block d s (c + 1) w i k)
    unfolding kept_records
    kept_all hearers zero i w low end x =
        record {
          position = i;
          midway = x;
          over = λ f. absurd (let z : ◌≡◌ {A = ℕ} 0 1 = cc in omega arith);
          all = λ f. omega arith;
        }
    kept_all hearers (suc k) i w low end x =
        go (stops_at lay n (part_size n block) w (contact_at bs i).hearer) refl
        (λ goes. kept_all hearers k (i + 1) _ (omega arith) (omega arith) (midway_more i w low (omega arith) hv x goes))
      where
        hv : (contact_at bs i).hearer < n
        hv = hearers i low (omega arith)

        go : (b : Bool) → stops_at lay n (part_size n block) w (contact_at bs i).hearer ≡ b
            → (b ≡ false → Kept (kept_records bs lay n block d s (c + 1) (kept_one n block d s (c + 1) w (contact_at bs i).hearer) (i + 1) k))
            → Kept (kept_records bs lay n block d s (c + 1) w i (suc k))
        go true q rest =
            rw (records_stop bs lay n block d s (c + 1) w i k q)
            (record {
              position = i;
              midway = x;
              over = λ f one. midway_large i w low (omega arith) hv x q one;
              all = λ f. absurd (let z : ◌≡◌ {A = ℕ} 0 1 = cc in omega arith);
            })
        go false q rest = rw (records_on bs lay n block d s (c + 1) w i k q) (rest refl)
