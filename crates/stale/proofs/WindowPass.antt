-- The loop of the pass where readings go stale: from slot to slot, the beginning and the end. Assumes nothing.
use Rattle.std.proofs.Common.{◌≡◌, ℕ, ◌+◌, ◌-◌, ◌*◌, ◌%◌, ◌^◌, ◌<◌, ◌≤◌, Bool, true, false, cond, eqb, ltb, ◌≢◌, ◌⊎◌, Result, Ok, Err, List, length, get_or, drop, set, sym, refl, ap, ◌∙◌, subst, inl, inr, pos_of_ne-zero, add-one, arith, get_or-set_other, ltb-false, ltb-true, eqb-true}
use native.Mathlib.Decide.{dec_le, ℕ_discrete}
use mathlib.Core.Logic.{by_cases}
use mathlib.Core.Option.{some as present}
use borrow.Author.Tests.{eqb-false}
use lib.ListN.{get_elem?}
use lib.Pow.{pow-lt}
use Rattle.temporal.specs.Lists.{below, any}
use Rattle.temporal.specs.Plan.{Contact, Plan, Terms}
use Rattle.temporal.specs.Bytes.{contact_at, records, plan_of}
use Rattle.temporal.specs.Cause.{plan_fault, appearance_too_many}
use Rattle.temporal.specs.Shortest.{shortest_walks, count}
use Rattle.temporal.specs.Foremost.{walks_by}
use Rattle.walks.proofs.Accepted.{accepted}
use Rattle.lists.proofs.ListLaws.{any_false, mem_below, not_both}
use Rattle.walks.proofs.ForemostLaws.{arrival_outside}
use Rattle.walks.proofs.WalkLaws.{SlotsWithin}
use Rattle.walks.proofs.PlanLaws.{contact_there, contact_inv, contacts_length, slots_within, slots_sorted}
use Rattle.counting.proofs.Weights.{everywhere}
use Rattle.counting.proofs.Fewest.{plus}
use Rattle.counting.proofs.Recurrence.{arrivals, arrivals_all, arrivals_same, heard_more, start_other, heard_zero}
use Rattle.entries.proofs.EntryLaws.{Entry, Small}
use Rattle.entries.proofs.HopLaws.{few_slots}
use Rattle.lanes.specs.Lane.{ones}
use Rattle.memory.proofs.FillLaws.{filled_length, filled_other, filled_at}
use Rattle.plan.specs.Record.{SlotRecords}
use Rattle.plan.proofs.SlotLaws.{in_slot_inv, in_slot_none}
use Rattle.pass.specs.declared.Stopped.{Stopped}
use Rattle.pass.specs.declared.Stopped.TheVariants as stopped
use Rattle.pass.specs.Row.{part_size, row_at}
use Rattle.pass.specs.Entry.{area_overflows}
use Rattle.pass.specs.Sweep.{Sweep, sweep_of, emptied, emptied_from, begun_area}
use Rattle.pass.specs.PassedColumns.{SettledAt, EndedAs, ColumnsPassed, last_ended, stopped_end}
use Rattle.pass.proofs.PlaceLaws.{row_inside, emptied_length}
use Rattle.pass.specs.Column.{Lanes}
use Rattle.pass.proofs.BestLaws.{in_entry, best_ext, best_same, best_none}
use Rattle.pass.proofs.MaskLaws.{Thin, Filled}
use Rattle.pass.proofs.ColumnLaws.{may_leave, source_free}
use Rattle.pass.proofs.PlanWalks.{kept, walks_at, none_arrived}
use Rattle.pass.proofs.StateLaws.{AreaState}
use Rattle.pass.proofs.BeginLaws.{emptied_hops, emptied_counts, begun_length, begun_state}
use Rattle.pass.proofs.EndLaws.{appearance_small, appearance_large, start_small, too_many_appearance, few_appearances}
use Rattle.pass.proofs.EndLaws.{RowHeld, entries_overflow, entries_counted}
use Rattle.pass.proofs.ReachLaws.{stations_over}
use Rattle.pass.proofs.PassLaws.{drop_same}
use Rattle.stale.specs.Depth.{slot_load, spread}
use Rattle.stale.specs.Size.{window_size}
use Rattle.stale.specs.Window.{ring_at, mark_at, head_of, windows_of, goes_on, sent_records, kept_records, window_slot, begun_window}
use Rattle.stale.specs.Window.{WindowArea, RecordsFit, WindowReady}
use Rattle.stale.proofs.DepthLaws.{slot_run, load_run}
use Rattle.stale.proofs.RingPlaces.{area_same, mark_behind, mark_at_law, mark_inside, heard_fits, first_parts, ring_first, parts_end}
use Rattle.stale.proofs.WindowSteps.{on_stop, on_rest, heads_fit}
use Rattle.stale.proofs.WindowCells.{Holds, ThinAt, holds_alike, part_alike}
use Rattle.stale.proofs.RingLaws.{Ring, newest, ring_wider}
use Rattle.stale.proofs.WindowWalks.{heard_by, heard_in, heard_less, kept_since, since_next, WindowState, NoneWaits}
use Rattle.stale.proofs.WindowSlots.{state_window, Gathered, windows_gathered, Hearing, hearing_none, hearing_all, none_comes}
use Rattle.stale.proofs.WindowSlots.{LargeHere, Done, midway_most, all_done, Kept, kept_all}

-- ---- a slot

-- the records from j to before e are those of slot c + 1 in the plan
pub record SlotOf (bs : List ℕ) (p : Plan) (n c j e : ℕ) : Type 0 where
  pub from : j ≤ e
  pub there : (i : ℕ) → j ≤ i → i < e → get_elem? p.contacts i ≡ present (contact_at bs i)
  pub slot : (i : ℕ) → j ≤ i → i < e → (contact_at bs i).slot ≡ c + 1
  pub sender : (i : ℕ) → j ≤ i → i < e → (contact_at bs i).sender < n
  pub hearer : (i : ℕ) → j ≤ i → i < e → (contact_at bs i).hearer < n
  pub done : (i : ℕ) (d : Contact) → i < j → get_elem? p.contacts i ≡ present d → d.slot ≢ c + 1
  pub past : (i : ℕ) (d : Contact) → e ≤ i → get_elem? p.contacts i ≡ present d → d.slot ≢ c + 1
  pub within : e ≤ length p.contacts

-- What a slot u leaves, with the first e records done: the length and what lies beyond stay; with one lane to an entry the flag says that
-- an appearance in the slot is large; where it is not up, none is, the work area has the state by slot u, and nothing waits.
pub record SlotLeft (bs : List ℕ) (lay : Lanes) (p : Plan) (s : ℕ) (may : ℕ → ℕ → Bool) (n block d u e : ℕ) (old : List ℕ) (y : Sweep)
    : Type 0 where
  pub same : length y.work ≡ length old
  pub beyond : (i : ℕ) → window_size n d block ≤ i → get_or y.work i 0 ≡ get_or old i 0
  pub over : y.over ≡ true → lay.lanes ≡ 1 → LargeHere n (λ v. heard_in p s everywhere v u)
  pub state : y.over ≡ false → WindowState bs lay p s may n block d u e old y.work
  pub none : y.over ≡ false → NoneWaits lay n block y.work
  pub small : y.over ≡ false → (v : ℕ) → v < n → Small (heard_in p s everywhere v u)

module _ (bs : List ℕ) (lay : Lanes) (full : Filled lay) (p : Plan) (s : ℕ) (col : ℕ → ℕ) (n block c : ℕ) (turns : 0 < p.terms.turnaround)
    (some : 0 < p.terms.keeping) (fits : SlotsWithin p) (few : p.slots ≤ 255) (d : ℕ) (old : List ℕ) (area : WindowArea n block d old)
    (j e : ℕ) (slot : SlotOf bs p n c j e) (hs : s < n) (most : c < 255)
    (deep : (u : ℕ) → spread (slot_load bs n) u p.terms.keeping ≤ n * d) (inside : e ≤ records bs) (small : e < 72057594037927936)
    (w : List ℕ)
    (state : WindowState bs lay p s (may_leave s col) n block d c j old w) (none : NoneWaits lay n block w) where
  windows : Sweep
  windows = windows_of bs lay n block d p.terms s col w (c + 1) n j (e - j)

  gathered : Gathered lay full p s col n block c turns some bs d j old area most deep j (e - j) w windows
  unfolding windows
  gathered =
      windows_gathered lay full p s col n block c turns some bs d j old area most deep (e - j) w n j state (λ h. absurd (omega arith))
      (λ i low high. slot.sender i low (let f = slot.from in omega arith))

  -- the state with the windows
  state_here : WindowState bs lay p s (may_leave s col) n block d c j old windows.work
  state_here = state_window area gathered.only state

  sent_list : List ℕ
  sent_list = sent_records bs n block (ring_at n block d) (part_size n block) windows.work j (e - j)

  hearing : windows.over ≡ false → Hearing bs lay p s (may_leave s col) n block d c old j e e sent_list
  unfolding sent_list
  hearing down =
      let f = slot.from in
      hearing_all bs lay p s (may_leave s col) n block d c old area j e slot.sender fits few (e - j) j _ (omega arith)
      (omega arith) slot.there slot.slot slot.hearer
      (hearing_none bs lay p s (may_leave s col) n block d c old area j e slot.sender windows.work
      state_here
      (λ v hv. holds_alike (part_alike (part_size n block) v (inl (ring_first n block d)) hv gathered.only) (none v hv))
      (λ i low high. gathered.here down i low (omega arith)) slot.done)

  -- all that is heard in the slot is folded in
  all_heard : (g : ℕ → Bool) (v k : ℕ) → arrivals p s g e v (c + 1) k ≡ heard_in p s g v (c + 1) k
  all_heard g v k =
      sym (arrivals_all p s g v (c + 1) k (omega arith)
      ∙ sym (arrivals_same p s g v (c + 1) k e (length p.contacts) slot.within (λ i d from h there. slot.past i d from there)))

  heard_here : windows.over ≡ false → (v : ℕ) → v < n
      → Holds lay n block sent_list (part_size n block) v (heard_in p s everywhere v (c + 1)) (λ i. heard_in p s (may_leave s col i) v (c + 1))
  heard_here down v hv = best_ext (all_heard everywhere v) (λ i. all_heard (may_leave s col i) v) ((hearing down).heard v hv)

  by_next : (g : ℕ → Bool) (v k : ℕ) → plus (heard_by p s g v c) (heard_in p s g v (c + 1)) k ≡ heard_by p s g v (c + 1) k
  unfolding plus
  by_next g v k = rw add-one (sym (heard_more p s g v c k))

  -- a station that no record of the slot has as hearer has no walks in it
  unheard : (v : ℕ) → ((x : ℕ) → j ≤ x → x < e → (contact_at bs x).hearer ≢ v) → (m : ℕ) → heard_in p s everywhere v (c + 1) m ≡ 0
  unheard v other m =
      let f = slot.from in
      sym (all_heard everywhere v m)
      ∙ sym (none_comes bs lay p s (may_leave s col) n block d c old area j e slot.sender fits few v (e - j) j
      (omega arith) (omega arith) slot.there other m)
      ∙ none_arrived p s everywhere j (c + 1) slot.done v m

  kept_here : windows.over ≡ false
      → Kept bs lay p s (may_leave s col) n block d c j e old (kept_records bs lay n block d s (c + 1) sent_list j (e - j))
  kept_here down =
      let f = slot.from in
      let here = (hearing down).state in
      kept_all bs lay p s (may_leave s col) n block d c j e old area slot.from hs most by_next unheard small slot.hearer (e - j) j
      sent_list (omega arith) (omega arith)
      (record {
        same = here.same;
        beyond = here.beyond;
        number = here.number;
        kept = 0;
        counter = here.counter;
        few = omega (arith, here.few);
        so_far = omega arith;
        ones = λ v. 0;
        once = λ v. omega arith;
        hearers = omega arith;
        stations = λ v hv. inr (
          refl,
          record {
            total = here.totals v hv;
            ring = λ other. ring_wider (λ x low high. omega arith) (here.rings v hv other);
            heard = heard_here down v hv;
            thin = here.thin v hv;
            fresh = λ x low high. absurd (omega arith);
          },
        );
      })

  -- past the last record every station is done
  all_left : (y : Sweep) → Kept bs lay p s (may_leave s col) n block d c j e old y
      → SlotLeft bs lay p s (may_leave s col) n block d (c + 1) e old y
  all_left y x =
      record {
        same = x.midway.same;
        beyond = x.midway.beyond;
        over = x.over;
        state = λ f. record {
          same = x.midway.same;
          beyond = x.midway.beyond;
          totals = λ v hv. (done f v hv).total;
          thin = λ v hv. (done f v hv).thin;
          number = x.midway.number;
          counter = x.midway.counter;
          few = omega (arith, x.midway.few, x.midway.so_far, x.all f);
          rings = λ v hv other. ring_wider (λ z low high. since_next bs n c z x.midway.kept high (kept_few f)) ((done f v hv).ring other);
        };
        none = λ f v hv. (done f v hv).none;
        small = λ f v hv. (done f v hv).few;
      }
    where
      -- no more are kept than the slot has records and the plan stations
      kept_few : y.over ≡ false → x.midway.kept ≤ slot_load bs n (c + 1)
      kept_few f =
          load_run bs n (c + 1) x.midway.kept
          (midway_most bs lay p s (may_leave s col) n block d c j e old x.position y.work x.midway)
          (omega (arith, slot_run bs (c + 1) j e slot.from inside slot.slot, x.midway.so_far, x.all f))

      done : y.over ≡ false → (v : ℕ) → v < n
          → Done bs lay p s (may_leave s col) n block d c j e old v x.midway.number x.midway.kept y.work
      done f =
          all_done bs lay p s (may_leave s col) n block d c j e old area slot.from hs most by_next unheard small x.position (x.all f)
          y.work x.midway

  pub slot_left : SlotLeft bs lay p s (may_leave s col) n block d (c + 1) e old
      (window_slot bs lay n block d p.terms s col w (c + 1) j e)
  unfolding window_slot windows sent_list
  slot_left = go windows.over refl
    where
      others : List ℕ → Sweep
      others y =
          kept_records bs lay n block d s (c + 1) (sent_records bs n block (ring_at n block d) (part_size n block) y j (e - j)) j (e - j)

      go : (b : Bool) → windows.over ≡ b
          → SlotLeft bs lay p s (may_leave s col) n block d (c + 1) e old (goes_on windows others)
      go true q =
          rw (on_stop windows others q)
          (record {
            same = state_here.same;
            beyond = state_here.beyond;
            over = λ f one. absurd (gathered.wide q one);
            state = λ f. absurd (not_both q f);
            none = λ f. absurd (not_both q f);
            small = λ f. absurd (not_both q f);
          })
      go false q = rw (on_rest windows others q) (all_left _ (kept_here q))

-- ---- the loop

-- The pass is before slot u, at position j: the work area holds the walks by the slot before, nothing waits, and no appearance by that slot
-- has too many.
pub record Windowing (bs : List ℕ) (n t : ℕ) (terms : Terms) (s : ℕ) (lay : Lanes) (col : ℕ → ℕ) (block d : ℕ) (old : List ℕ) (u j : ℕ)
    (w : List ℕ) : Type 0 where
  pub full : Filled lay
  pub from_one : 0 < u
  pub last : u ≤ t + 1
  pub inside : j ≤ records bs
  done : (i : ℕ) → i < j → (contact_at bs i).slot < u
  ahead : (i : ℕ) → j ≤ i → i < records bs → u ≤ (contact_at bs i).slot
  pub state : WindowState bs lay (plan_of bs n t terms) s (may_leave s col) n block d (u - 1) j old w
  none : NoneWaits lay n block w
  small : (v x : ℕ) → v < n → x < u → count (shortest_walks (plan_of bs n t terms) s v x) ≤ 18446744073709551615

-- an area that is ready
pub ready_area : (bs : List ℕ) (n t : ℕ) (terms : Terms) (d s block : ℕ) (w : List ℕ) → WindowReady bs n t terms d s block w
    → WindowArea n block d w
ready_area bs n t terms d s block w r =
    record { some = (accepted bs n t r.accepted).some_station; deep = r.deep.0; fits = r.fits }

module _ (bs : List ℕ) (n t : ℕ) (terms : Terms) (d s : ℕ) (lay : Lanes) (col : ℕ → ℕ) (block : ℕ) (old : List ℕ)
    (ready : WindowReady bs n t terms d s block old) where
  ok : plan_fault bs n t ≡ 0
  ok = ready.accepted

  area : WindowArea n block d old
  area = ready_area bs n t terms d s block old ready

  module _ (u j : ℕ) (w : List ℕ) (x : Windowing bs n t terms s lay col block d old u j w) where
    -- the work area fits
    pub windowing_area : WindowArea n block d w
    windowing_area = area_same area x.state.same

    -- its position lies within the plan
    pub windowing_position : j * 6 ≤ length bs
    windowing_position = let h = x.inside in let whole = (accepted bs n t ok).whole in omega arith

    beyond_same : drop (window_size n d block) w ≡ drop (window_size n d block) old
    beyond_same = drop_same (window_size n d block) w old x.state.same x.state.beyond

    module _ (e : ℕ) (found : SlotRecords bs u j e) where
      -- the records of the slot can be folded in
      pub windowing_records : RecordsFit bs n j e
      windowing_records =
          record {
            inside = λ i low high. let (there, slot) = in_slot_inv bs i u (found.here i low high) in
                let whole = (accepted bs n t ok).whole in omega arith;
            sender_station = λ i low high. let (there, slot) = in_slot_inv bs i u (found.here i low high) in
                ((accepted bs n t ok).contact i there).sender_station;
            hearer_station = λ i low high. let (there, slot) = in_slot_inv bs i u (found.here i low high) in
                ((accepted bs n t ok).contact i there).hearer_station;
          }

      end_inside : e ≤ records bs
      end_inside =
          by_cases (dec_le e j) (λ h. let k = x.inside in omega arith)
          (λ more. let f = found.from in
          let (there, slot) = in_slot_inv bs (e - 1) u (found.here (e - 1) (omega arith) (omega arith)) in omega arith)

      -- those behind them are in later slots
      later : (i : ℕ) → e ≤ i → i < records bs → u < (contact_at bs i).slot
      later i from h =
          let up : e + (i - e) ≡ i = omega arith in
          let rise = rw up at (slots_sorted bs n t terms ok e (i - e) (omega arith)) in
          let f = found.from in
          let here = x.ahead e f (omega arith) in
          let other = in_slot_none bs e u found.past (omega arith) in
          omega arith

      of_slot : SlotOf bs (plan_of bs n t terms) n (u - 1) j e
      of_slot =
          let up = x.from_one in
          record {
            from = found.from;
            there = λ i low high. contact_there bs n t terms i (in_slot_inv bs i u (found.here i low high)).0;
            slot = λ i low high. let (there, slot) = in_slot_inv bs i u (found.here i low high) in omega arith;
            sender = windowing_records.sender_station;
            hearer = windowing_records.hearer_station;
            done = λ i d below there same.
                let (inside, here) = contact_inv bs n t terms i d there in
                let sooner = x.done i below in
                let slot : (contact_at bs i).slot ≡ u - 1 + 1 = ap (λ y. y.slot) here ∙ same in
                omega arith;
            past = λ i d from there same.
                let (inside, here) = contact_inv bs n t terms i d there in
                let after = later i from inside in
                let slot : (contact_at bs i).slot ≡ u - 1 + 1 = ap (λ y. y.slot) here ∙ same in
                omega arith;
            within = let h = end_inside in let same = contacts_length bs n t terms in omega arith;
          }

      module _ (w' : List ℕ) (r : Bool) (within : u ≤ t) (out : sweep_of r w' ≡ window_slot bs lay n block d terms s col w u j e) where
        this_slot : u - 1 + 1 ≡ u
        this_slot = let h = x.from_one in omega arith

        turns : 0 < terms.turnaround
        turns = ready.units.turns

        keeps : 0 < terms.keeping
        keeps = let a = ready.units.turns in let b = ready.units.keeps in omega arith

        most : t ≤ 255
        most = (accepted bs n t ok).slots

        end_small : e < 72057594037927936
        end_small = let a = end_inside in let b = (accepted bs n t ok).few in omega arith

        -- what the slot leaves
        left : SlotLeft bs lay (plan_of bs n t terms) s (may_leave s col) n block d u e old (sweep_of r w')
        unfolding plan_of
        left =
            rw out
            (subst (λ y. SlotLeft bs lay (plan_of bs n t terms) s (may_leave s col) n block d y e old
            (window_slot bs lay n block d terms s col w y j e)) this_slot
            (slot_left bs lay x.full (plan_of bs n t terms) s col n block (u - 1) turns keeps (slots_within bs n t terms ok) most d old
            area j e of_slot ready.source (omega (arith, most, x.from_one)) ready.deep.1 end_inside end_small w x.state x.none))

        module _ (up : r ≡ true) where
          stopped_with : (z : Stopped) → EndedAs bs n t terms s n lay col block w' (Err z)
              → ColumnsPassed bs n t terms s n lay col block (window_size n d block) old w' (Err z)
          stopped_with z ends =
              record { ends = ends; beyond = drop_same (window_size n d block) w' old left.same left.beyond; same_length = left.same }

          -- with one lane to an entry a large sequence is a cause of refusal
          over_whole : lay.lanes ≡ 1 → appearance_too_many (plan_of bs n t terms) s ≡ true
          over_whole one =
              let large = left.over up one in
              too_many_appearance bs n t terms ok s large.station u large.inside within
              (appearance_large (plan_of bs n t terms) (slots_within bs n t terms ok) (few_slots bs n t terms ok) s large.station u
              (λ k. refl) large.large)

          -- the pass stops, and nothing past the area is touched
          pub passed_over : (split : ℕ) → lay.lanes ≡ 2 ^ split → (z : Stopped) → z ≡ stopped_end split
              → ColumnsPassed bs n t terms s n lay col block (window_size n d block) old w' (Err z)
          unfolding stopped_end EndedAs
          passed_over split is z e = rw e (go (eqb split 0) refl)
            where
              go : (b : Bool) → eqb split 0 ≡ b
                  → ColumnsPassed bs n t terms s n lay col block (window_size n d block) old w'
                  (Err (cond b stopped.AppearanceTooMany stopped.TooWide))
              go true f = stopped_with stopped.AppearanceTooMany (over_whole (is ∙ ap (λ k. 2 ^ k) (eqb-true split 0 f)))
              go false f =
                  let several : 1 < 2 ^ split = pow-lt {i = 0} {j = split} (pos_of_ne-zero (eqb-false split 0 f)) in
                  stopped_with stopped.TooWide (λ one. omega (arith, is, several, one))

        -- the pass is one slot further
        pub windowing_next : r ≡ false → Windowing bs n t terms s lay col block d old (u + 1) e w'
        windowing_next h =
            let up : u ≡ u + 1 - 1 = omega arith in
            record {
              full = x.full;
              from_one = omega arith;
              last = omega arith;
              inside = end_inside;
              done = λ i below. by_cases (dec_le j i)
                  (λ from. let (there, slot) = in_slot_inv bs i u (found.here i from below) in omega arith)
                  (λ before. let k = x.done i (omega arith) in omega arith);
              ahead = λ i from inside. let k = later i from inside in omega arith;
              state =
                  subst (λ y. WindowState bs lay (plan_of bs n t terms) s (may_leave s col) n block d y e old w') up
                  (left.state h);
              none = left.none h;
              small = λ v y hv below. by_cases (ℕ_discrete y u)
                  (λ same. rw same (appearance_small (plan_of bs n t terms) (slots_within bs n t terms ok) (few_slots bs n t terms ok) s v u
                  (λ k. refl) (left.small h v hv)))
                  (λ d. x.small v y hv (omega arith));
            }

    -- ---- past the last slot

    module _ (r : Result ℕ Stopped) (past : t < u) (e : r ≡ last_ended n t n (any (area_overflows n w) (below n))) where
      state : WindowState bs lay (plan_of bs n t terms) s (may_leave s col) n block d t j old w
      state =
          let l = x.last in
          let end : u - 1 ≡ t = omega arith in
          subst (λ y. WindowState bs lay (plan_of bs n t terms) s (may_leave s col) n block d y j old w) end x.state

      at : (i k : ℕ) → i ≡ k → get_or w i 0 ≡ get_or w k 0
      at i k q = ap (λ m. get_or w m 0) q

      held : (z : ℕ) → z < n → Entry (kept (plan_of bs n t terms) s everywhere z t) (get_or w z 0) (get_or w (z + n) 0)
      unfolding kept everywhere
      held z h = rw (at z (0 + z) (omega arith), at (z + n) (0 + z + n) (omega arith)) (state.totals z h).entry

      rows : (z : ℕ) → z < n → get_or w z 0 < 65535 → RowHeld bs n t terms ok s lay col block w t z
      unfolding kept everywhere
      rows z h few =
          record {
            counts = λ c. heard_by (plan_of bs n t terms) s (may_leave s col c) z t (get_or w z 0);
            held = λ i q. at (row_at n block z + i) (0 + row_at n block z + i) (omega arith)
                ∙ (state.totals z h).row i q (let q = at z (0 + z) (omega arith) in omega arith)
                ∙ ap (λ y. in_entry lay (λ c. heard_by (plan_of bs n t terms) s (may_leave s col c) z t) y i % 2 ^ 64)
                (at (0 + z) z (omega arith));
            less = λ c. heard_less (plan_of bs n t terms) s (may_leave s col c) z t (get_or w z 0);
            avoiding = λ c free. rw free;
          }

      thin : (z : ℕ) → z < n → get_or w z 0 < 65535 → Thin lay (get_or w (z + n) 0)
      thin z h some =
          let place : 0 + z ≡ z = omega arith in
          rw place at (state.thin z h (rw place some))

      exact : (z : ℕ) → z < n → area_overflows n w z ≡ ltb 18446744073709551615 (count (walks_by (plan_of bs n t terms) s z t))
      exact = entries_overflow bs n t terms ok s lay x.full col block w t held rows thin

      small : (v y : ℕ) → v < n → y ≤ t → count (shortest_walks (plan_of bs n t terms) s v y) ≤ 18446744073709551615
      small v y hv below = x.small v y hv (omega arith)

      settled_last : ((z : ℕ) → z < n → count (walks_by (plan_of bs n t terms) s z t) ≤ 18446744073709551615)
          → SettledAt bs n t terms s n lay col block w t
      settled_last stations =
          record {
            slot = let never = arrival_outside bs n t terms ok s n ready.source (omega arith) in
                let most = (accepted bs n t ok).slots in omega arith;
            appearances = small;
            stations = λ none. stations;
            entries = entries_counted bs n t terms ok s lay x.full col block w t held rows thin;
          }

      -- what the pass promises
      pub passed_end : ColumnsPassed bs n t terms s n lay col block (window_size n d block) old w r
      unfolding last_ended EndedAs
      passed_end =
          record {
            ends = rw e (go (ltb n n) refl (any (area_overflows n w) (below n)) refl);
            beyond = beyond_same;
            same_length = x.state.same;
          }
        where
          go : (b : Bool) → ltb n n ≡ b → (c : Bool) → any (area_overflows n w) (below n) ≡ c
              → EndedAs bs n t terms s n lay col block w (cond b (Ok t) (cond c (Err stopped.StationTooMany) (Ok t)))
          go true q c f = absurd (let less = ltb-true n n q in omega arith)
          go false q true f =
              record {
                waits_for_none = omega arith;
                appearances = few_appearances bs n t terms ok s small;
                station = sym (stations_over bs n t terms ok s (area_overflows n w) exact) ∙ f;
              }
          go false q false f =
              settled_last (λ z hz.
              ltb-false 18446744073709551615 (count (walks_by (plan_of bs n t terms) s z t))
              (sym (exact z hz) ∙ (any_false (area_overflows n w) (below n)).0 f z ((mem_below n).1 hz)))

-- ---- the beginning

-- the beginning keeps the length
begun_length_window : (bs : List ℕ) (n t : ℕ) (terms : Terms) (d s : ℕ) (lay : Lanes) (block : ℕ) (old begins : List ℕ)
    → WindowReady bs n t terms d s block old → begins ≡ begun_window lay n block d old s → length begins ≡ length old
unfolding begun_window
begun_length_window bs n t terms d s lay block old begins ready e =
    rw e (filled_length (begun_area n block 1 old s (ones lay.width lay.lanes)) (mark_at n block d d 0) n 0
    ∙ begun_length n block 1 old s (ones lay.width lay.lanes) (first_parts (ready_area bs n t terms d s block old ready))
    ready.source)

-- the work area at the beginning is as ready as at entry
pub ready_begun : (bs : List ℕ) (n t : ℕ) (terms : Terms) (d s : ℕ) (lay : Lanes) (block : ℕ) (old begins : List ℕ)
    → WindowReady bs n t terms d s block old → begins ≡ begun_window lay n block d old s → WindowReady bs n t terms d s block begins
ready_begun bs n t terms d s lay block old begins ready e =
    let f = ready.fits in
    let same = begun_length_window bs n t terms d s lay block old begins ready e in
    record { accepted = ready.accepted; units = ready.units; deep = ready.deep; source = ready.source; fits = omega arith }

module _ (bs : List ℕ) (n t : ℕ) (terms : Terms) (d s : ℕ) (lay : Lanes) (full : Filled lay) (col : ℕ → ℕ) (block : ℕ) (old begins : List ℕ)
    (ready : WindowReady bs n t terms d s block old) (e : begins ≡ begun_window lay n block d old s) where
  entry_area : WindowArea n block d old
  entry_area = ready_area bs n t terms d s block old ready

  bare : List ℕ
  bare = begun_area n block 1 old s (ones lay.width lay.lanes)

  begun : AreaState false lay n block 1 0 old (walks_at (plan_of bs n t terms) s (may_leave s col) 0 0) bare
  unfolding bare
  begun =
      begun_state false lay full (plan_of bs n t terms) s (may_leave s col) n block 1 old (source_free s col) (first_parts entry_area)
      ready.source

  heads_room : mark_at n block d d 0 + n ≤ length bare
  heads_room = let f = heads_fit entry_area in let same = begun.same in omega arith

  -- before the heads, and behind them, nothing more changes
  begins_other : (i : ℕ) → (i < mark_at n block d d 0) ⊎ (mark_at n block d d 0 + n ≤ i) → get_or begins i 0 ≡ get_or bare i 0
  unfolding begun_window bare
  begins_other i out = rw e (filled_other (begun_area n block 1 old s (ones lay.width lay.lanes)) (mark_at n block d d 0) n 0 i out)

  begins_length : length begins ≡ length old
  begins_length = begun_length_window bs n t terms d s lay block old begins ready e

  -- the heads are 0
  head_zero : (v : ℕ) → v < n → head_of n block d begins v ≡ 0
  unfolding begun_window bare
  head_zero v hv =
      rw (e, ← mark_at_law n block d d v)
      (filled_at (begun_area n block 1 old s (ones lay.width lay.lanes)) (mark_at n block d d 0) n 0 v hv heads_room)

  begins_beyond : (i : ℕ) → window_size n d block ≤ i → get_or begins i 0 ≡ get_or old i 0
  begins_beyond i far =
      let some = entry_area.some in
      let last = mark_inside n block d d (n - 1) (omega arith) (omega arith) in
      let place = mark_at_law n block d d (n - 1) in
      let first = ring_first n block 0 in
      let parts = parts_end n block d 0 (omega arith) in
      begins_other i (inr (omega arith)) ∙ begun.beyond i (omega arith)

  -- by slot 0 the empty walk alone counts, and it may go on from the source
  kept_heard : (g : ℕ → Bool) → g s ≡ true → (v k : ℕ) → kept (plan_of bs n t terms) s g v 0 k ≡ heard_by (plan_of bs n t terms) s g v 0 k
  unfolding kept
  kept_heard g free v k =
      by_cases (ℕ_discrete v s)
      (λ same. rw (same, free))
      (λ d. go (g v) (heard_zero (plan_of bs n t terms) s g v k ∙ start_other (plan_of bs n t terms) s g v k d))
    where
      go : (b : Bool) {x : ℕ} → x ≡ 0 → cond b x 0 ≡ x
      go true z = refl
      go false z = sym z

  -- part 0 is that of the beginning
  total_at : (i k : ℕ) → i ≡ k → k < part_size n block → get_or begins i 0 ≡ get_or bare k 0
  total_at i k is small =
      let first = ring_first n block 0 in
      let parts = parts_end n block d 0 (omega arith) in
      begins_other i (inl (omega (arith, mark_behind n block d d 0))) ∙ ap (λ q. get_or bare q 0) is

  begun_total : (v : ℕ) → v < n
      → Holds lay n block begins 0 v (heard_by (plan_of bs n t terms) s everywhere v 0)
      (λ i. heard_by (plan_of bs n t terms) s (may_leave s col i) v 0)
  unfolding walks_at everywhere
  begun_total v h =
      let row = row_inside n block v h in
      best_ext (kept_heard everywhere refl v) (λ i. kept_heard (may_leave s col i) (source_free s col i) v)
      (best_same (total_at (0 + v) v (omega arith) (omega arith)) (total_at (0 + v + n) (v + n) (omega arith) (omega arith))
      (λ j i g. total_at (0 + row_at n block v + j) (row_at n block v + j) (omega arith) (omega arith)) (begun.settled v h))

  begun_thin : (v : ℕ) → v < n → ThinAt lay n 0 v begins
  begun_thin v h some =
      rw (total_at (0 + v + n) (v + n) (omega arith) (omega arith))
      (begun.thin v h (rw (total_at (0 + v) v (omega arith) (omega arith)) at some))

  -- nothing waits
  begun_none : NoneWaits lay n block begins
  unfolding bare begun_area emptied_from
  begun_none v hv =
      best_same
      (at (part_size n block + v) (0 + part_size n block + v) (omega arith) (omega arith) (omega arith)
      ∙ emptied_hops n (emptied n old 0) (0 + part_size n block) v hv room)
      (at (part_size n block + v + n) (0 + part_size n block + v + n) (omega arith) (omega arith) (omega arith)
      ∙ emptied_counts n (emptied n old 0) (0 + part_size n block) v hv room)
      (λ j i g. refl) (best_none (omega arith) (λ k. refl))
    where
      two : List ℕ
      two = emptied n (emptied n old 0) (0 + part_size n block)

      room : 0 + part_size n block + 2 * n ≤ length (emptied n old 0)
      room = let f = heard_fits entry_area in let same = emptied_length n old 0 in omega arith

      at : (i k : ℕ) → i ≡ k → part_size n block ≤ i → i < part_size n block + part_size n block → get_or begins i 0 ≡ get_or two k 0
      at i k is low high =
          let source = ready.source in
          let row = row_inside n block s source in
          let first = ring_first n block 0 in
          let parts = parts_end n block d 0 (omega arith) in
          begins_other i (inl (omega (arith, mark_behind n block d d 0)))
          ∙ filled_other (set (set two s 0) (s + n) 1) (row_at n block s) block (ones lay.width lay.lanes) i (inr (omega arith))
          ∙ get_or-set_other (set two s 0) (s + n) i 1 0 (omega arith) ∙ get_or-set_other two s i 0 0 (omega arith)
          ∙ ap (λ q. get_or two q 0) is

  -- nothing is kept
  begun_ring : (v : ℕ) → v < n
      → Ring lay n block d 0 v 0 (kept_since bs n 0) (heard_in (plan_of bs n t terms) s everywhere v)
      (λ i. heard_in (plan_of bs n t terms) s (may_leave s col i) v) begins
  unfolding newest
  begun_ring v hv =
      record {
        at = λ k. 0;
        ahead = λ k h. refl;
        before = λ k. omega arith;
        rising = λ k l own less last. absurd (omega arith);
        young = λ k own. absurd (omega arith);
        head = head_zero v hv;
        marks = λ k q own. absurd (omega arith);
        holds = λ k q own. absurd (omega arith);
        whole = λ x low high. absurd (omega arith);
      }

  pub windowing_begun : Windowing bs n t terms s lay col block d begins 1 0 begins
  windowing_begun =
      record {
        full = full;
        from_one = omega arith;
        last = omega arith;
        inside = omega arith;
        done = λ i h. absurd (omega arith);
        ahead = λ i from h. ((accepted bs n t ready.accepted).contact i h).from_one;
        state = record {
          same = refl;
          beyond = λ i h. refl;
          totals = begun_total;
          thin = begun_thin;
          number = 0;
          counter = head_zero s ready.source;
          few = omega arith;
          rings = λ v hv other. begun_ring v hv;
        };
        none = begun_none;
        small = λ v x h below.
            let zero_slot : x ≡ 0 = omega arith in
            rw zero_slot (appearance_small (plan_of bs n t terms) (slots_within bs n t terms ready.accepted)
            (few_slots bs n t terms ready.accepted) s v 0 (λ k. refl) (start_small (plan_of bs n t terms) s v));
      }

  -- what is promised from there on is promised from the entry on
  pub passed_entry : (new : List ℕ) (r : Result ℕ Stopped) → ColumnsPassed bs n t terms s n lay col block (window_size n d block) begins new r
      → ColumnsPassed bs n t terms s n lay col block (window_size n d block) old new r
  passed_entry new r x =
      record {
        ends = x.ends;
        beyond = x.beyond ∙ drop_same (window_size n d block) begins old begins_length begins_beyond;
        same_length = x.same_length ∙ begins_length;
      }
