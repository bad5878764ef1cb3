-- The loop of the pass: what holds whenever its test is reached, and what it makes of the work area. Assumes nothing.
use Rattle.std.proofs.Common.{◌≡◌, ℕ, suc, ◌+◌, ◌-◌, ◌*◌, ◌^◌, ◌<◌, ◌≤◌, Bool, true, false, cond, eqb, ltb, ◌≢◌, Result, Ok, Err, List, length, get_or, drop, sym, refl, ap, ◌∙◌, subst, pos_of_ne-zero, arith, length-drop, get_or-drop, ext_get_or, ltb-false, ltb-true, eqb-true}
use native.Mathlib.Decide.{dec_le, ℕ_discrete}
use mathlib.Core.Logic.{by_cases}
use mathlib.Core.Option.{some as present}
use borrow.Author.Tests.{eqb-false}
use lib.Pow.{pow-lt}
use lib.ListN.{get_elem?}
use Rattle.temporal.specs.Lists.{below, any}
use Rattle.temporal.specs.Plan.{Contact, Terms, start}
use Rattle.temporal.specs.Bytes.{contact_at, records, plan_of}
use Rattle.temporal.specs.Cause.{plan_fault, appearance_too_many}
use Rattle.temporal.specs.Shortest.{shortest_walks, count}
use Rattle.temporal.specs.Foremost.{arrival, walks_by}
use Rattle.lists.proofs.ListLaws.{any_false, mem_below}
use Rattle.walks.proofs.RuleLaws.{Waits, waits_turnaround}
use Rattle.walks.proofs.Accepted.{accepted}
use Rattle.walks.proofs.ForemostLaws.{arrival_after_start}
use Rattle.walks.proofs.PlanLaws.{kept_plan, contact_there, contact_inv, contacts_length, slots_within}
use Rattle.counting.proofs.Weights.{total, everywhere}
use Rattle.counting.proofs.Recurrence.{at_appearance, arrivals}
use Rattle.plan.specs.Record.{in_slot, SlotRecords}
use Rattle.plan.proofs.SlotLaws.{in_slot_inv}
use Rattle.entries.proofs.HopLaws.{few_slots}
use Rattle.pass.specs.declared.Stopped.{Stopped}
use Rattle.pass.specs.declared.Stopped.TheVariants as stopped
use Rattle.pass.specs.Entry.{area_overflows, reached_entry}
use Rattle.lanes.specs.Lane.{ones}
use Rattle.pass.specs.Row.{part_at}
use Rattle.pass.specs.Column.{Lanes}
use Rattle.pass.specs.Sweep.{folded_area, sweep_of, settled_by, hearer_at, begun_area, PartFits, Area, FoldableArea, HearersFit}
use Rattle.pass.specs.Sweep.{SlotSettled}
use Rattle.pass.specs.PassedColumns.{waiting, area_size, ColumnsReady, Spared, SettledAt, EndedAs, ColumnsPassed, last_ended, stopped_end}
use Rattle.pass.proofs.PlaceLaws.{area_kept, part_fits, part_again}
use Rattle.pass.proofs.MoveLaws.{Moving, moving_begun, moving_trail, moving_fold, moving_ahead, moving_end, moving_on, trail_end}
use Rattle.pass.proofs.MoveLaws.{moving_hearers, moving_settle}
use Rattle.pass.proofs.ColumnLaws.{may_leave, source_free}
use Rattle.pass.proofs.MaskLaws.{Filled}
use Rattle.pass.proofs.StateLaws.{AreaState}
use Rattle.pass.proofs.SettleLaws.{Settles, between, Swept, settled_stations}
use Rattle.pass.proofs.PlanWalks.{walks_at, walks_taken, folded_state, none_heard, settles_slot, state_taken, arrived}
use Rattle.pass.proofs.BeginLaws.{begun_length, begun_state}
use Rattle.pass.proofs.EndLaws.{appearance_small, appearance_large, start_small}
use Rattle.pass.proofs.EndLaws.{too_many_appearance, few_appearances, appearances_few, station_overflows, counted}
use Rattle.pass.proofs.ReachLaws.{reached_station, not_yet, now_reached, stations_over}

-- lists that agree from k on
pub drop_same : (k : ℕ) (a b : List ℕ) → length a ≡ length b → ((i : ℕ) → k ≤ i → get_or a i 0 ≡ get_or b i 0)
    → drop k a ≡ drop k b
drop_same k a b e h =
    ext_get_or 0 (drop k a) (drop k b) (length-drop k a ∙ ap (λ l. l - k) e ∙ sym (length-drop k b))
    (λ i q. get_or-drop k a i 0 ∙ h (k + i) (omega arith) ∙ sym (get_or-drop k b i 0))

-- ---- the loop

-- The pass of a call that was ready is in slot u, at position j, and the part of slot u begins at base: the work area holds the walks by
-- the slot q before it, no appearance by that slot has too many, and the station until is not reached by it. The records from i on are
-- past that slot. Past the last slot there are no records.
pub record Passing (bs : List ℕ) (n t : ℕ) (terms : Terms) (s until : ℕ) (known : Bool) (lay : Lanes) (col : ℕ → ℕ) (block q : ℕ) (old : List ℕ)
    (base u j i : ℕ) (w : List ℕ) : Type 0 where
  pub full : Filled lay
  pub ready : ColumnsReady bs n t terms s until block old
  pub spared : Spared known bs n t terms s
  pub parts : q ≡ waiting t terms
  pub moving : Moving bs t q u j i
  pub part : base ≡ part_at n block q u
  pub state : AreaState known lay n block q (u - q) old (walks_at (plan_of bs n t terms) s (may_leave s col) (u - q) j) w
  small : (v x : ℕ) → v < n → x ≤ u - q → count (shortest_walks (plan_of bs n t terms) s v x) ≤ 18446744073709551615
  waits : u - q < arrival (plan_of bs n t terms) s until

-- the terms of a call that is ready let what is heard wait
pub ready_waits : (bs : List ℕ) (n t : ℕ) (terms : Terms) (s until block : ℕ) (w : List ℕ) → ColumnsReady bs n t terms s until block w
    → Waits (plan_of bs n t terms) (waiting t terms)
unfolding plan_of
ready_waits bs n t terms s until block w r =
    waits_turnaround (plan_of bs n t terms) (kept_plan bs n t terms r.units.keeps) (accepted bs n t r.accepted).some_slot
    r.units.turns

-- an area that is ready
pub ready_area : (bs : List ℕ) (n t : ℕ) (terms : Terms) (s until block : ℕ) (w : List ℕ) → ColumnsReady bs n t terms s until block w
    → Area n block (waiting t terms) w
ready_area bs n t terms s until block w r =
    record {
      some = (accepted bs n t r.accepted).some_station;
      parts = (ready_waits bs n t terms s until block w r).some;
      fits = r.fits;
    }

module _ {bs : List ℕ} {n t : ℕ} {terms : Terms} {s until : ℕ} {known : Bool} {lay : Lanes} {col : ℕ → ℕ} {block q : ℕ} {old : List ℕ}
    {base u j i : ℕ} {w : List ℕ}
    (x : Passing bs n t terms s until known lay col block q old base u j i w) where
  ok : plan_fault bs n t ≡ 0
  ok = x.ready.accepted

  area : Area n block q old
  area = rw x.parts (ready_area bs n t terms s until block old x.ready)

  turns : Waits (plan_of bs n t terms) q
  turns = rw x.parts (ready_waits bs n t terms s until block old x.ready)

  some_part : 0 < q
  some_part = area.parts

  -- the work area fits
  pub passing_area : Area n block q w
  passing_area = area_kept area x.state.same

  -- the trailing position lies within the plan
  pub passing_trail : i * 6 ≤ length bs
  passing_trail = moving_trail bs n t terms ok x.moving

  -- a record of the slot can be folded in
  pub passing_foldable : in_slot bs j u ≡ true → FoldableArea bs n block base j w
  passing_foldable e =
      let (there, slot) = in_slot_inv bs j u e in
      let whole = (accepted bs n t ok).whole in
      let c = (accepted bs n t ok).contact j there in
      record {
        inside = omega arith;
        sender_station = c.sender_station;
        hearer_station = c.hearer_station;
        part = rw x.part (part_fits passing_area u);
      }

  -- and then the pass is one position further
  pub passing_fold : in_slot bs j u ≡ true
      → Passing bs n t terms s until known lay col block q old base u (j + 1) i (folded_area known n block base w (contact_at bs j))
  unfolding plan_of
  passing_fold e =
      let (there, slot) = in_slot_inv bs j u e in
      let c = (accepted bs n t ok).contact j there in
      let most = (accepted bs n t ok).slots in
      let last = c.to_last in
      record {
        full = x.full;
        ready = x.ready;
        spared = x.spared;
        parts = x.parts;
        moving = moving_fold bs n t terms ok x.moving e;
        part = x.part;
        state = rw x.part (folded_state (plan_of bs n t terms) q turns (slots_within bs n t terms ok) most s (may_leave s col) known lay n
            block old area u j (contact_at bs j) w (contact_there bs n t terms j there) slot x.moving.from_one (omega arith)
            c.sender_station c.hearer_station x.state);
        small = x.small;
        waits = x.waits;
      }

  module _ (e : in_slot bs j u ≡ false) where
    ahead : (m : ℕ) → j ≤ m → m < records bs → u < (contact_at bs m).slot
    ahead = moving_ahead bs n t terms ok x.moving e

    -- the records from j on are in slots past u
    past : (y : ℕ) → y ≤ u → (m : ℕ) (c : Contact) → j ≤ m → get_elem? (plan_of bs n t terms).contacts m ≡ present c → c.slot ≢ y
    past y low m c from there same =
        let (inside, here) = contact_inv bs n t terms m c there in
        let after = ahead m from inside in
        let slot : (contact_at bs m).slot ≡ y = ap (λ d. d.slot) here ∙ same in
        omega arith

    -- those below j are not
    done : (y : ℕ) → u < y → (m : ℕ) (c : Contact) → m < j → get_elem? (plan_of bs n t terms).contacts m ≡ present c → c.slot ≢ y
    done y high m c below there same =
        let (inside, here) = contact_inv bs n t terms m c there in
        let sooner = x.moving.position.done m below in
        let slot : (contact_at bs m).slot ≡ y = ap (λ d. d.slot) here ∙ same in
        omega arith

    within : j ≤ length (plan_of bs n t terms).contacts
    within = let h = x.moving.position.within in let same = contacts_length bs n t terms in omega arith

    -- where what waits is settled in the next slot, the records that are not settled end where those that are not folded in begin
    pub passing_end : q < u + 1 → q ≡ 1 → SlotRecords bs (u + 1 - q) i j
    passing_end = moving_end bs n t terms ok x.moving e

    -- a slot whose fellow of q slots before is the start: nothing is settled
    pub passing_on : (base' : ℕ) → base' ≡ part_at n block q (u + 1) → u + 1 ≤ q → u < t + q
        → Passing bs n t terms s until known lay col block q old base' (u + 1) j i w
    passing_on base' part early more =
        let same : u + 1 - q ≡ u - q = omega arith in
        record {
          full = x.full;
          ready = x.ready;
          spared = x.spared;
          parts = x.parts;
          moving = moving_on bs n t terms ok x.moving e early more;
          part = part;
          state = rw same x.state;
          small = rw same x.small;
          waits = rw same x.waits;
        }

    -- the slot u + 1 - q is settled, with its records all folded in
    module _ (base' : ℕ) (part : base' ≡ part_at n block q (u + 1)) (late : q < u + 1) (more : u < t + q) where
      slot_before_law : u + 1 - q ≡ suc (u - q)
      slot_before_law = omega arith

      slot_next : suc (u - q) ≡ u - q + 1
      slot_next = omega arith

      -- its part is the one of slot u + 1
      same_part : base' ≡ part_at n block q (suc (u - q))
      same_part =
          let again : suc (u - q) + q ≡ u + 1 = omega arith in
          part ∙ ap (part_at n block q) (sym again) ∙ part_again n block q (suc (u - q))

      low : u - q < suc (u - q)
      low = omega arith

      high : suc (u - q) ≤ u - q + q
      high = let h = some_part in omega arith

      pub settle_part : PartFits n block base' w
      settle_part = rw part (part_fits passing_area (u + 1))

      all_settles : Settles (may_leave s col) (suc (u - q)) (walks_at (plan_of bs n t terms) s (may_leave s col) (u - q) j)
          (walks_taken (plan_of bs n t terms) s (may_leave s col) (u - q) j)
      all_settles =
          settles_slot (plan_of bs n t terms) s (may_leave s col) (u - q) j
          (past (suc (u - q)) (let h = some_part in omega arith)) within

      here_arrived : (v k : ℕ) → total (plan_of bs n t terms) everywhere (start s) (at_appearance v (suc (u - q))) k
          ≡ arrivals (plan_of bs n t terms) s everywhere j v (suc (u - q)) k
      here_arrived =
          arrived (plan_of bs n t terms) s (may_leave s col) (u - q) j
          (past (suc (u - q)) (let h = some_part in omega arith)) within everywhere

      module _ (end : ℕ) (found : SlotRecords bs (u + 1 - q) i end) where
        -- the hearers of its records can be settled
        pub settle_hearers : HearersFit bs n i end
        settle_hearers = moving_hearers bs n t terms ok x.moving e late end found

        -- no walk waits for a station that no record of the slot has as hearer
        unheard : (v : ℕ) → ((m : ℕ) → i ≤ m → m < end → v ≢ hearer_at bs m)
            → (k : ℕ) → (walks_at (plan_of bs n t terms) s (may_leave s col) (u - q) j).waits (suc (u - q)) v k ≡ 0
        unfolding walks_at
        unheard v other k =
            none_heard (plan_of bs n t terms) s everywhere v (suc (u - q)) k j (λ m d below there in-slot same.
            let (inside, here) = contact_inv bs n t terms m d there in
            let slot : (contact_at bs m).slot ≡ suc (u - q) = ap (λ y. y.slot) here ∙ in-slot in
            by_cases (dec_le i m)
            (λ from. by_cases (dec_le end m)
            (λ after. let k = (trail_end bs n t terms ok x.moving e late end found).ahead m after inside in omega arith)
            (λ to. other m from (omega arith) (same ∙ sym (ap (λ y. y.hearer) here))))
            (λ before. let k = x.moving.trail.done m (omega arith) in omega arith))

        module _ (w' : List ℕ) (r : Bool) (done_with : SlotSettled bs known lay n block base' s col i end w r w') where
          out : sweep_of r w' ≡ settled_by done_with.stations known lay n block base' s col w done_with.from done_with.many
          out = done_with.out

          swept : Swept known lay n block q (u - q) old (suc (u - q)) (walks_at (plan_of bs n t terms) s (may_leave s col) (u - q) j)
              (walks_taken (plan_of bs n t terms) s (may_leave s col) (u - q) j)
              (settled_by done_with.stations known lay n block base' s col w done_with.from done_with.many)
          swept =
              rw same_part (settled_stations done_with.stations known lay x.full n block q (u - q) old area s col (suc (u - q)) low high
              (walks_at (plan_of bs n t terms) s (may_leave s col) (u - q) j)
              (walks_taken (plan_of bs n t terms) s (may_leave s col) (u - q) j) all_settles done_with.many done_with.from w
              done_with.chosen.inside (λ v h other. unheard v (done_with.chosen.covers v h other)) x.state)

          -- the work area holds walks, also where settling stopped
          held : AreaState known lay n block q (u - q) old (between swept.test (walks_at (plan_of bs n t terms) s (may_leave s col) (u - q) j)
              (walks_taken (plan_of bs n t terms) s (may_leave s col) (u - q) j)) w'
          held =
              subst (AreaState known lay n block q (u - q) old (between swept.test (walks_at (plan_of bs n t terms) s (may_leave s col) (u - q) j)
              (walks_taken (plan_of bs n t terms) s (may_leave s col) (u - q) j))) (sym (ap (λ z. z.work) out)) swept.state

          pub next_length : length w' ≡ length old
          next_length = held.same

          next_beyond : drop (area_size n q block) w' ≡ drop (area_size n q block) old
          next_beyond = drop_same (area_size n q block) w' old held.same held.beyond

          module _ (over : r ≡ true) where
            stopped_with : (d : Stopped) → EndedAs bs n t terms s until lay col block w' (Err d)
                → ColumnsPassed bs n t terms s until lay col block (area_size n (waiting t terms) block) old w' (Err d)
            stopped_with d ends = record { ends = ends; beyond = rw (← x.parts) next_beyond; same_length = next_length }

            -- with one lane to an entry a large sequence is a cause of refusal
            over_whole : lay.lanes ≡ 1 → appearance_too_many (plan_of bs n t terms) s ≡ true
            unfolding walks_at
            over_whole one =
                let large = swept.over (sym (ap (λ z. z.over) out) ∙ over) one in
                too_many_appearance bs n t terms ok s large.station (suc (u - q)) large.inside (omega arith)
                (appearance_large (plan_of bs n t terms) (slots_within bs n t terms ok) (few_slots bs n t terms ok) s
                large.station (suc (u - q)) (here_arrived large.station) large.large)

            -- the pass stops, and nothing past the area is touched
            pub passed_over : (split : ℕ) → lay.lanes ≡ 2 ^ split → (d : Stopped) → d ≡ stopped_end split
                → ColumnsPassed bs n t terms s until lay col block (area_size n (waiting t terms) block) old w' (Err d)
            unfolding stopped_end EndedAs
            passed_over split is d e = rw e (go (eqb split 0) refl)
              where
                go : (b : Bool) → eqb split 0 ≡ b
                    → ColumnsPassed bs n t terms s until lay col block (area_size n (waiting t terms) block) old w'
                    (Err (cond b stopped.AppearanceTooMany stopped.TooWide))
                go true f = stopped_with stopped.AppearanceTooMany (over_whole (is ∙ ap (λ k. 2 ^ k) (eqb-true split 0 f)))
                go false f =
                    let several : 1 < 2 ^ split = pow-lt {i = 0} {j = split} (pos_of_ne-zero (eqb-false split 0 f)) in
                    stopped_with stopped.TooWide (λ one. omega (arith, is, several, one))

          module _ (few : r ≡ false) where
            none_over : (settled_by done_with.stations known lay n block base' s col w done_with.from done_with.many).over ≡ false
            none_over = sym (ap (λ z. z.over) out) ∙ few

            -- the work area holds the walks by the next slot
            state_next : AreaState known lay n block q (u + 1 - q) old (walks_at (plan_of bs n t terms) s (may_leave s col) (u + 1 - q) j) w'
            state_next =
                rw (slot_before_law, slot_next, ap (λ z. z.work) out)
                (state_taken known lay (plan_of bs n t terms) s (may_leave s col) (u - q) j n block q old _ some_part all_settles.sound_after
                (done (u - q + 1 + q) (omega arith)) (swept.all none_over))

            small_next : (v y : ℕ) → v < n → y ≤ u + 1 - q
                → count (shortest_walks (plan_of bs n t terms) s v y) ≤ 18446744073709551615
            unfolding walks_at
            small_next v y h below =
                by_cases (ℕ_discrete y (suc (u - q)))
                (λ same. rw same (go known refl))
                (λ d. x.small v y h (omega arith))
              where
                go : (o : Bool) → known ≡ o → count (shortest_walks (plan_of bs n t terms) s v (suc (u - q))) ≤ 18446744073709551615
                go true o = appearances_few bs n t terms ok s (x.spared o) v (suc (u - q)) h (omega arith)
                go false o =
                    appearance_small (plan_of bs n t terms) (slots_within bs n t terms ok) (few_slots bs n t terms ok) s v
                    (suc (u - q)) (here_arrived v) (swept.small o none_over v h)

            -- the station until has no settled walk, and the pass is one slot further
            pub passing_settle : reached_entry n w' until ≡ false → Passing bs n t terms s until known lay col block q old base' (u + 1) j end w'
            passing_settle out-of-reach =
                record {
                  full = x.full;
                  ready = x.ready;
                  spared = x.spared;
                  parts = x.parts;
                  moving = moving_settle bs n t terms ok x.moving e late end found more;
                  part = part;
                  state = state_next;
                  small = small_next;
                  waits = not_yet bs n t terms ok s until known lay x.full col block q old w' (u + 1 - q) j (omega arith) x.ready.source state_next
                      out-of-reach;
                }

            -- it has one, and the pass ends
            pub passed_reached : reached_entry n w' until ≡ true
                → ColumnsPassed bs n t terms s until lay col block (area_size n (waiting t terms) block) old w' (Ok (u + 1 - q))
            unfolding EndedAs
            passed_reached in_reach =
                record {
                  ends = record {
                    slot = let first = x.waits in
                        let here = now_reached bs n t terms ok s until known lay x.full col block q old w' (u + 1 - q) j state_next in_reach in
                        omega arith;
                    appearances = small_next;
                    stations = λ none. absurd (let there = reached_station n w' until in_reach in omega arith);
                    entries = counted bs n t terms ok s known lay x.full col block q old w' (u + 1 - q) j state_next;
                  };
                  beyond = rw (← x.parts) next_beyond;
                  same_length = next_length;
                }

  -- past the last slot the stations' counts are looked at, where the pass waits for none
  pub passed_end : (r : Result ℕ Stopped) → t + q ≤ u
      → r ≡ last_ended n t until (any (area_overflows n w) (below n))
      → ColumnsPassed bs n t terms s until lay col block (area_size n (waiting t terms) block) old w r
  unfolding last_ended EndedAs
  passed_end r last e =
      record {
        ends = rw e (go (ltb until n) refl (any (area_overflows n w) (below n)) refl);
        beyond = rw (← x.parts) (drop_same (area_size n q block) w old state.same state.beyond);
        same_length = state.same;
      }
    where
      end : u - q ≡ t
      end = let l = x.moving.last in omega arith

      state : AreaState known lay n block q t old (walks_at (plan_of bs n t terms) s (may_leave s col) t j) w
      state = subst (λ y. AreaState known lay n block q y old (walks_at (plan_of bs n t terms) s (may_leave s col) y j) w) end x.state

      small : (v y : ℕ) → v < n → y ≤ t → count (shortest_walks (plan_of bs n t terms) s v y) ≤ 18446744073709551615
      small v y h below = x.small v y h (let k = end in omega arith)

      exact : (z : ℕ) → z < n → area_overflows n w z ≡ ltb 18446744073709551615 (count (walks_by (plan_of bs n t terms) s z t))
      exact = station_overflows bs n t terms ok s known lay x.full col block q old w t j state

      settled_last : (n ≤ until → (z : ℕ) → z < n → count (walks_by (plan_of bs n t terms) s z t) ≤ 18446744073709551615)
          → SettledAt bs n t terms s until lay col block w t
      settled_last stations =
          record {
            slot = let first = x.waits in let k = end in omega arith;
            appearances = small;
            stations = stations;
            entries = counted bs n t terms ok s known lay x.full col block q old w t j state;
          }

      go : (b : Bool) → ltb until n ≡ b → (c : Bool) → any (area_overflows n w) (below n) ≡ c
          → EndedAs bs n t terms s until lay col block w (cond b (Ok t) (cond c (Err stopped.StationTooMany) (Ok t)))
      go true q c f = settled_last (λ none. absurd (let there = ltb-true until n q in omega arith))
      go false q true f =
          record {
            waits_for_none = ltb-false until n q;
            appearances = few_appearances bs n t terms ok s small;
            station = sym (stations_over bs n t terms ok s (area_overflows n w) exact) ∙ f;
          }
      go false q false f =
          settled_last (λ none z h.
          ltb-false 18446744073709551615 (count (walks_by (plan_of bs n t terms) s z t))
          (sym (exact z h) ∙ (any_false (area_overflows n w) (below n)).0 f z ((mem_below n).1 h)))

-- ---- the beginning is not the work area at entry

-- the work area at the beginning is as ready as at entry
ready_begun : (bs : List ℕ) (n t : ℕ) (terms : Terms) (s until block q one : ℕ) (old begins : List ℕ) → q ≡ waiting t terms
    → ColumnsReady bs n t terms s until block old
    → begins ≡ begun_area n block q old s one
    → ColumnsReady bs n t terms s until block begins
ready_begun bs n t terms s until block q one old begins is ready e =
    let fits = ready.fits in
    let same = begun_length n block q old s one (rw is (ready_area bs n t terms s until block old ready)) ready.source in
    record {
      accepted = ready.accepted;
      units = ready.units;
      source = ready.source;
      other = ready.other;
      fits = rw e (omega arith);
    }

module _ (bs : List ℕ) (n t : ℕ) (terms : Terms) (s until : ℕ) (known : Bool) (lay : Lanes) (full : Filled lay) (col : ℕ → ℕ) (block q : ℕ)
    (old begins : List ℕ) (is : q ≡ waiting t terms) (ready : ColumnsReady bs n t terms s until block old)
    (e : begins ≡ begun_area n block q old s (ones lay.width lay.lanes)) where
  state_begun : AreaState known lay n block q 0 old (walks_at (plan_of bs n t terms) s (may_leave s col) 0 0) begins
  state_begun =
      rw e
      (begun_state known lay full (plan_of bs n t terms) s (may_leave s col) n block q old (source_free s col)
      (rw is (ready_area bs n t terms s until block old ready)) ready.source)

  -- at the beginning the pass is in slot 1, at position 0
  pub passing_begun : Spared known bs n t terms s → (base : ℕ) → base ≡ part_at n block q 1 → Passing bs n t terms s until known lay col block q begins base 1 0 0 begins
  passing_begun spared base part =
      let some = (ready_waits bs n t terms s until block old ready).some in
      let first : 1 - q ≡ 0 = omega arith in
      record {
        full = full;
        ready = ready_begun bs n t terms s until block q (ones lay.width lay.lanes) old begins is ready e;
        spared = spared;
        parts = is;
        moving = moving_begun bs n t terms ready.accepted q (omega arith);
        part = part;
        state = rw first (record {
          same = refl;
          beyond = λ i h. refl;
          settled = state_begun.settled;
          waits = state_begun.waits;
          thin = state_begun.thin;
        });
        small = λ v x h from.
            let zero_slot : x ≡ 0 = omega arith in
            rw zero_slot (appearance_small (plan_of bs n t terms) (slots_within bs n t terms ready.accepted)
            (few_slots bs n t terms ready.accepted) s v 0 (λ k. refl) (start_small (plan_of bs n t terms) s v));
        waits = omega (
          arith,
          arrival_after_start (plan_of bs n t terms) (slots_within bs n t terms ready.accepted) s until
              (few_slots bs n t terms ready.accepted) ready.other,
        );
      }

  -- what is promised from there on is promised from the entry on
  pub passed_entry : (new : List ℕ) (r : Result ℕ Stopped)
      → ColumnsPassed bs n t terms s until lay col block (area_size n (waiting t terms) block) begins new r
      → ColumnsPassed bs n t terms s until lay col block (area_size n (waiting t terms) block) old new r
  passed_entry new r x =
      record {
        ends = x.ends;
        beyond = x.beyond ∙ rw (← is) (drop_same (area_size n q block) begins old state_begun.same state_begun.beyond);
        same_length = x.same_length ∙ state_begun.same;
      }
