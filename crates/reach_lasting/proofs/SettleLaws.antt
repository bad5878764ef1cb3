-- The end of a slot keeps the state of the pass, for the next slot. Assumes nothing.
use Prim.Native.Nat.{ℕ, zero, suc, ◌+◌, ◌-◌, ◌*◌, ◌<◌, ◌≤◌}
use native.Mathlib.Omega.{arith}
use native.Mathlib.Decide.{ℕ_discrete}
use mathlib.Core.Path.{◌≡◌, sym, ap, subst, ◌∙◌}
use mathlib.Core.Bool.{false}
use mathlib.Core.Logic.{◌≢◌, ⊎_elim, by_cases}
use mathlib.Core.List.{List}
use lib.ListN.{length, get_or}
use Rattle.temporal.specs.Plan.{Terms}
use Rattle.temporal.specs.Bytes.{contact_at, records, plan_of}
use Rattle.temporal.specs.Cause.{plan_fault}
use Rattle.walks.proofs.PlanLaws.{contact_inv, contacts_length}
use Rattle.counting.proofs.Weights.{everywhere}
use Rattle.counting.proofs.Fewest.{plus}
use Rattle.counting.proofs.Recurrence.{arrivals_zero, arrivals_same, arrivals_all, heard_more, start_here, start_other, start_later}
use Rattle.reach_entries.specs.Table.{Table, TakenIn}
use Rattle.reach_entries.specs.Pass.{Tables, Beyond}
use Rattle.reach_lasting.specs.Slot.{hearer_at, Unmarked, LeftOut, SlotSettled}
use Rattle.plan.specs.Record.{in_slot, SlotRecords}
use Rattle.entries.proofs.CountLaws.{stored_small}
use Rattle.entries.proofs.EntryLaws.{entry_none, entry_ext, plus_none}
use Rattle.reach_entries.proofs.EntryLaws.{EntryAt}
use Rattle.reach_entries.proofs.TableLaws.{entry_kept, entry_taken, beyond_refl, beyond_then}
use Rattle.reach_entries.proofs.StateLaws.{TablesState, reaching, present, arriving, fits_beyond}
use Rattle.reach_lasting.proofs.TrailLaws.{Trail, all_later, trail_next, none_reaching}

module _ (bs : List ℕ) (n t : ℕ) (terms : Terms) (s : ℕ) (ok : plan_fault bs n t ≡ 0) (q : ℕ) (old : Tables) (u j : ℕ) (x : Tables)
    (st : TablesState bs n t terms s q old u j x) (past : in_slot bs j u ≡ false) where
  -- the records from j on lie in later slots
  rest_later : (i : ℕ) → j ≤ i → i < records bs → u + 1 ≤ (contact_at bs i).slot
  rest_later i low last = let later = all_later bs n t terms ok u j st.rest past i low last in omega arith

  -- so slot u has all its walks
  all_arrived : (v k : ℕ) → arriving bs n t terms s u j v k ≡ reaching bs n t terms s v u k
  all_arrived v k =
      arrivals_same (plan_of bs n t terms) s everywhere v u k j (length (plan_of bs n t terms).contacts)
      (let all = contacts_length bs n t terms in let w = st.within in omega arith)
      (λ i c low last there e.
      let (inside, same) = contact_inv bs n t terms i c there in
      let later = rest_later i low inside in
      let slot = ap (λ d. d.slot) same in
      omega arith) ∙
      sym (arrivals_all (plan_of bs n t terms) s everywhere v u k st.after_start)

  -- and the next slot has none yet
  none_yet : (v k : ℕ) → arriving bs n t terms s (u + 1) j v k ≡ 0
  none_yet v k =
      sym (arrivals_same (plan_of bs n t terms) s everywhere v (u + 1) k 0 j (omega arith)
      (λ i c low last there e.
      let (inside, same) = contact_inv bs n t terms i c there in
      let early = st.passed i last in
      let slot = ap (λ d. d.slot) same in
      omega arith)) ∙
      arrivals_zero (plan_of bs n t terms) s everywhere v (u + 1) k

  -- slots up to u are done with
  completed :
      (v r : ℕ) → v < n → r < u + 1 → r < t + 1 → EntryAt (reaching bs n t terms s v r) x.appearances (v * (t + 1) + r)
  completed v r h low last =
      by_cases (ℕ_discrete r u)
      (λ e. subst (λ i. EntryAt (reaching bs n t terms s v i) x.appearances (v * (t + 1) + i)) (sym e)
      (entry_ext (all_arrived v) (st.pending v h (omega arith))))
      (λ ne. st.complete v r h (omega arith) last)

  -- the state of the next slot, where the stations have what they are to have then
  next_state :
      (y : Table) → ((v : ℕ) → v < n → EntryAt (present bs n t terms s v (u + 1 - q)) y v) → Beyond n x.stations y →
      TablesState bs n t terms s q old (u + 1) j (record { appearances = x.appearances; stations = y })
  next_state y there b =
      record {
        after_start = omega arith;
        complete = completed;
        pending = λ v h last.
            rw (st.later_hops v (u + 1) h (omega arith) last, st.later_counts v (u + 1) h (omega arith) last)
            (entry_none (arriving bs n t terms s (u + 1) j v) (none_yet v));
        later_hops = λ v r h low last. st.later_hops v r h (omega arith) last;
        later_counts = λ v r h low last. st.later_counts v r h (omega arith) last;
        station = there;
        passed = λ i h. let early = st.passed i h in omega arith;
        rest = rest_later;
        within = st.within;
        fits = fits_beyond n (t + 1) x (record { appearances = x.appearances; stations = y }) st.fits
            (beyond_refl _ x.appearances) b;
        appearances_beyond = st.appearances_beyond;
        stations_beyond = beyond_then _ old.stations x.stations y st.stations_beyond b;
      }

  -- the end of a slot after which nothing is settled keeps the state
  pub wait_state : u < q → TablesState bs n t terms s q old (u + 1) j x
  wait_state short =
      let same : u - q ≡ u + 1 - q = omega arith in
      next_state x.stations
      (λ v h. subst (λ e. EntryAt (present bs n t terms s v e) x.stations v) same (st.station v h))
      (beyond_refl _ x.stations)

  -- by one slot more a station has the walks of that slot besides
  one_more : q ≤ u → (v k : ℕ) →
      plus (present bs n t terms s v (u - q)) (reaching bs n t terms s v (u + 1 - q)) k ≡ present bs n t terms s v (u + 1 - q) k
  unfolding plus
  one_more long v k =
      let next : u + 1 - q ≡ suc (u - q) = omega arith in
      rw next (sym (heard_more (plan_of bs n t terms) s everywhere v (u - q) k))

  module _ (long : q ≤ u) (i e : ℕ) (trail : Trail bs (u - q) i) (found : SlotRecords bs (u + 1 - q) i e) where
    -- the slot that is settled is the one after those that are
    next_slot : u + 1 - q ≡ u - q + 1
    next_slot = omega arith

    pub trail_settled : Trail bs (u + 1 - q) e
    trail_settled = rw next_slot (trail_next bs n t terms ok (u - q) i e trail (rw next_slot at found))

    -- a station that hears none of its records has by then what it had
    unheard_more :
        (v : ℕ) → ((m : ℕ) → i ≤ m → m < e → v ≢ hearer_at bs m) → (k : ℕ) →
        present bs n t terms s v (u - q) k ≡ present bs n t terms s v (u + 1 - q) k
    unheard_more v unheard k =
        let none : reaching bs n t terms s v (u + 1 - q) k ≡ 0 =
        rw next_slot (none_reaching bs n t terms ok (u - q) i e trail (rw next_slot at found) s v unheard k) in
        plus_none (present bs n t terms s v (u - q)) (reaching bs n t terms s v (u + 1 - q)) k none ∙ one_more long v k

    -- the end of a slot after which a slot is settled keeps the state
    pub settle_state :
        0 < q → u < t + q → (y : Tables) → SlotSettled bs n (t + 1) (u + 1 - q) i e x y → TablesState bs n t terms s q old (u + 1) j y
    settle_state some due y z =
        subst (λ a. TablesState bs n t terms s q old (u + 1) j (record { appearances = a; stations = y.stations })) (sym z.appearances)
        (next_state y.stations
        (λ v h.
        ⊎_elim
        (λ (taken : TakenIn x.appearances x.stations y.stations v (v * (t + 1) + (u + 1 - q))).
        entry_ext (one_more long v)
        (entry_taken x.appearances x.stations y.stations v (v * (t + 1) + (u + 1 - q)) (present bs n t terms s v (u - q))
        (reaching bs n t terms s v (u + 1 - q)) (st.station v h) (completed v (u + 1 - q) h (omega arith) (omega arith)) taken))
        (λ (left : LeftOut bs i e x.stations y.stations v).
        entry_ext (unheard_more v left.unheard) (entry_kept x.stations y.stations v left.hops left.count (st.station v h)))
        (z.station v h))
        z.beyond)

-- no station is marked: slot 0 has the start's walk at the source, and no other
pub state_unmarked :
    (bs : List ℕ) (n t : ℕ) (terms : Terms) (s q : ℕ) (old : Tables) (u j : ℕ) (x : Tables) → TablesState bs n t terms s q old u j x →
    Unmarked n (t + 1) x.appearances.counts
state_unmarked bs n t terms s q old u j x st v h =
    let first = st.complete v 0 h st.after_start (omega arith) in
    let few = at_most_one (get_or x.appearances.hops (v * (t + 1) + 0) 0) in
    let small = stored_small (reaching bs n t terms s v 0 (get_or x.appearances.hops (v * (t + 1) + 0) 0)) (omega arith) in
    let count = first.count in
    let place : v * (t + 1) ≡ v * (t + 1) + 0 = omega arith in
    rw place (omega arith)
  where
    at_most_one : (k : ℕ) → reaching bs n t terms s v 0 k ≤ 1
    at_most_one zero =
        by_cases (ℕ_discrete v s)
        (λ e. rw e (let one = start_here (plan_of bs n t terms) s everywhere in omega arith))
        (λ ne. let none = start_other (plan_of bs n t terms) s everywhere v 0 ne in omega arith)
    at_most_one (suc k) = let none = start_later (plan_of bs n t terms) s everywhere v k in omega arith
