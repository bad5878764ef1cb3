-- A turn of the pass keeps its state, and what the loop needs of it. Assumes nothing.
use Prim.Native.Nat.{ℕ, ◌+◌, ◌-◌, ◌<◌, ◌≤◌, min}
use native.Mathlib.Omega.{arith}
use native.Mathlib.Decide.{dec_lt}
use mathlib.Core.Path.{◌≡◌, subst}
use mathlib.Core.Bool.{true, false}
use mathlib.Core.Logic.{by_cases}
use mathlib.Core.List.{List}
use Rattle.temporal.specs.Plan.{Terms, Keeps, Allowed}
use Rattle.walks.proofs.PlanLaws.{kept_plan}
use Rattle.temporal.specs.Bytes.{contact_at, records, plan_of}
use Rattle.temporal.specs.Cause.{plan_fault}
use Rattle.walks.proofs.Accepted.{accepted}
use Rattle.walks.proofs.RuleLaws.{Waits, waits_turnaround}
use Rattle.plan.specs.Record.{in_slot}
use Rattle.plan.proofs.SlotLaws.{in_slot_inv}
use Rattle.reach_entries.specs.Table.{Table, folded_table, FoldableTables}
use Rattle.reach_entries.specs.Pass.{Tables, begun_tables, ReachReady, FilledTables}
use Rattle.reach_lasting.specs.Slot.{Endable, SlotEnded}
use Rattle.reach_entries.proofs.TableLaws.{beyond_refl, beyond_then}
use Rattle.reach_entries.proofs.StateLaws.{TablesState}
use Rattle.reach_entries.proofs.FoldLaws.{fold_state}
use Rattle.reach_lasting.proofs.TrailLaws.{Trail, trail_begin}
use Rattle.reach_lasting.proofs.SettleLaws.{wait_state, trail_settled, settle_state, state_unmarked}
use Rattle.reach_entries.proofs.EndLaws.{begin_state, end_state}

-- what the loop keeps: the plan, the slots of waiting and the source are right, and the tables are in their state
pub record Running (bs : List ℕ) (n t : ℕ) (terms : Terms) (s width q end : ℕ) (old : Tables) (u j i : ℕ) (x : Tables)
    : Type 0 where
  pub accepted : plan_fault bs n t ≡ 0
  pub columns : width ≡ t + 1
  pub last : end ≡ t + q
  pub waits : Waits (plan_of bs n t terms) q
  pub slot : u ≤ end
  pub state : TablesState bs n t terms s q old u j x
  -- the records from i on are not settled
  pub trail : Trail bs (u - q) i

-- (kept) what is heard waits as many slots as the turnaround says, but no more than there are
waits_min :
    (bs : List ℕ) (n t : ℕ) (terms : Terms) → plan_fault bs n t ≡ 0 → Allowed terms → Keeps t terms →
    Waits (plan_of bs n t terms) (min terms.turnaround t)
unfolding plan_of
waits_min bs n t terms ok units keeps =
    waits_turnaround (plan_of bs n t terms) (kept_plan bs n t terms keeps) (accepted bs n t ok).some_slot units.turns

-- the slots of waiting lie within the plan's
waits_most : (bs : List ℕ) (n t : ℕ) (terms : Terms) (q : ℕ) → Waits (plan_of bs n t terms) q → q ≤ t
unfolding plan_of
waits_most bs n t terms q w = w.most

-- (kept) the tables begun run, seen from themselves
pub running_begin :
    (bs : List ℕ) (n t : ℕ) (terms : Terms) (s width q end : ℕ) (old x : Tables) → ReachReady bs n t terms s old → Keeps t terms →
    width ≡ t + 1 → q ≡ min terms.turnaround t → end ≡ t + q → x ≡ begun_tables n width s old →
    Running bs n t terms s width q end x 1 0 0 x
running_begin bs n t terms s width q end old x r keeps e m l b =
    let w : Waits (plan_of bs n t terms) q = rw m (waits_min bs n t terms r.accepted r.units keeps) in
    let st : TablesState bs n t terms s q old 1 0 x =
    rw (b, e) (begin_state bs n t terms s r.accepted r.source old r.fits q w.some) in
    record {
      accepted = r.accepted;
      columns = e;
      last = l;
      waits = w;
      slot = let some = w.some in let slots = (accepted bs n t r.accepted).some_slot in omega arith;
      state = record {
        after_start = st.after_start;
        complete = st.complete;
        pending = st.pending;
        later_hops = st.later_hops;
        later_counts = st.later_counts;
        station = st.station;
        passed = st.passed;
        rest = st.rest;
        within = st.within;
        fits = st.fits;
        appearances_beyond = beyond_refl _ x.appearances;
        stations_beyond = beyond_refl _ x.stations;
      };
      trail = let some = w.some in let none : 0 ≡ 1 - q = omega arith in
          subst (λ c. Trail bs c 0) none (trail_begin bs n t terms r.accepted);
    }

module _ (bs : List ℕ) (n t : ℕ) (terms : Terms) (s width q end : ℕ) (old : Tables) (u j i : ℕ) (x : Tables)
    (r : Running bs n t terms s width q end old u j i x) (more : u < end) where
  -- a record of the slot can be folded in
  pub running_foldable : in_slot bs j u ≡ true → FoldableTables bs n width j x.appearances x.stations
  running_foldable here =
      let e = r.columns in
      let (there, slot) = in_slot_inv bs j u here in
      let a = accepted bs n t r.accepted in
      let c = a.contact j there in
      let whole = a.whole in
      let last = c.to_last in
      record {
        inside = omega arith;
        sender_station = c.sender_station;
        hearer_station = c.hearer_station;
        slot = omega arith;
        fits = rw e r.state.fits;
      }

  -- (kept) a turn that folds
  pub running_fold :
      (y : Table) → in_slot bs j u ≡ true → y ≡ folded_table width x.appearances x.stations (contact_at bs j) →
      Running bs n t terms s width q end old u (j + 1) i (record { appearances = y; stations = x.stations })
  running_fold y here e =
      let w = r.columns in
      record {
        accepted = r.accepted;
        columns = w;
        last = r.last;
        waits = r.waits;
        slot = r.slot;
        state = rw (e, w) (fold_state bs n t terms s r.accepted q r.waits old u j x r.state here);
        trail = r.trail;
      }

  -- the slot can be ended
  pub running_endable : Endable bs n width q u i x
  running_endable =
      let e = r.columns in
      let l = r.last in
      let most = waits_most bs n t terms q r.waits in
      let same : width - 1 ≡ t = omega arith in
      record {
        accepted = rw same r.accepted;
        waits = omega arith;
        slot = omega arith;
        cursor = r.trail.within;
        fits = rw e r.state.fits;
        unmarked = rw e (state_unmarked bs n t terms s q old u j x r.state);
      }

  -- a turn that ends a slot
  pub running_settle :
      (i' : ℕ) (y : Tables) → in_slot bs j u ≡ false → SlotEnded bs n width q u i x i' y →
      Running bs n t terms s width q end old (u + 1) j i' y
  running_settle i' y past ended =
      let w = r.columns in
      let l = r.last in
      let done : SlotEnded bs n (t + 1) q u i x i' y = rw w at ended in
      record {
        accepted = r.accepted;
        columns = w;
        last = l;
        waits = r.waits;
        slot = omega arith;
        state = by_cases (dec_lt u q)
            (λ short. rw (done.short short).1 (wait_state bs n t terms s r.accepted q old u j x r.state past short))
            (λ long.
            settle_state bs n t terms s r.accepted q old u j x r.state past (omega arith) i i' r.trail
            (done.records (omega arith)) r.waits.some (omega arith) y (done.settled (omega arith)));
        trail = by_cases (dec_lt u q)
            (λ short. let same : u - q ≡ u + 1 - q = omega arith in
            rw (done.short short).0 (subst (λ c. Trail bs c i) same r.trail))
            (λ long.
            trail_settled bs n t terms s r.accepted q old u j x r.state past (omega arith) i i' r.trail
            (done.records (omega arith)));
      }

  -- a turn that folds has a record left
  pub running_record : in_slot bs j u ≡ true → j < records bs
  running_record here = (in_slot_inv bs j u here).0

-- (kept) once the last slot is settled the tables are filled, also seen from before they were begun
pub running_end :
    (bs : List ℕ) (n t : ℕ) (terms : Terms) (s width q end : ℕ) (old x : Tables) (u j i : ℕ) (y : Tables) → end ≤ u →
    ReachReady bs n t terms s old → x ≡ begun_tables n width s old → Running bs n t terms s width q end x u j i y →
    FilledTables bs n t terms s old y
running_end bs n t terms s width q end old x u j i y past ready b r =
    let e = r.columns in
    let l = r.last in
    let w = r.slot in
    let all : u ≡ t + q = omega arith in
    let some = r.waits.some in
    let st : TablesState bs n t terms s q old 1 0 x =
    rw (b, e) (begin_state bs n t terms s ready.accepted ready.source old ready.fits q some) in
    let f = end_state bs n t terms s r.accepted q some x y j (subst (λ c. TablesState bs n t terms s q x c j y) all r.state) in
    record {
      appearance = f.appearance;
      station = f.station;
      appearances_beyond = beyond_then _ old.appearances x.appearances y.appearances st.appearances_beyond
          f.appearances_beyond;
      stations_beyond = beyond_then _ old.stations x.stations y.stations st.stations_beyond
          f.stations_beyond;
    }

-- what the loop counts stays small
pub running_few :
    (bs : List ℕ) (n t : ℕ) (terms : Terms) (s width q end : ℕ) (old : Tables) (u j i : ℕ) (x : Tables) →
    Running bs n t terms s width q end old u j i x → (j ≤ 8192) × (u ≤ 510)
running_few bs n t terms s width q end old u j i x r =
    let a = accepted bs n t r.accepted in
    let few = a.few in
    let slots = a.slots in
    let within = r.state.within in
    let slot = r.slot in
    let last = r.last in
    let most = waits_most bs n t terms q r.waits in
    (omega arith, omega arith)
