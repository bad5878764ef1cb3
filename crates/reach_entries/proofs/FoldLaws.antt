-- A record folded in keeps the state of the pass. Assumes nothing.
use Prim.Native.Nat.{ℕ, suc, ◌+◌, ◌-◌, ◌*◌, ◌<◌, ◌≤◌}
use native.Mathlib.Omega.{arith}
use native.Mathlib.Numerals.{add-one}
use native.Mathlib.Decide.{ℕ_discrete}
use mathlib.Core.Path.{◌≡◌, sym, ap, subst, ◌∙◌}
use mathlib.Core.Bool.{true}
use mathlib.Core.Logic.{◌≢◌, by_cases}
use mathlib.Core.List.{List}
use lib.ListN.{get_or}
use Rattle.temporal.specs.Plan.{Contact, start, Terms}
use Rattle.temporal.specs.Foremost.{arrives_by}
use Rattle.temporal.specs.Bytes.{contact_at, records, plan_of}
use Rattle.temporal.specs.Cause.{plan_fault}
use Rattle.walks.proofs.Accepted.{accepted}
use Rattle.walks.proofs.PlanLaws.{contact_there, slots_within}
use Rattle.walks.proofs.RuleLaws.{Waits}
use Rattle.counting.proofs.Weights.{total, everywhere}
use Rattle.counting.proofs.Fewest.{Fewest, plus, delayed}
use Rattle.counting.proofs.Recurrence.{before, arrivals_suc, inflow_other_station, inflow_to_hearer, heard_ready}
use Rattle.reach_entries.specs.Table.{Table, folded_table, Fits}
use Rattle.reach_entries.specs.Pass.{Tables, Beyond}
use Rattle.reach_entries.proofs.PlaceLaws.{place_below}
use Rattle.plan.specs.Record.{in_slot}
use Rattle.plan.proofs.SlotLaws.{in_slot_inv}
use Rattle.entries.proofs.EntryLaws.{entry_ext}
use Rattle.entries.proofs.HopLaws.{walks_few}
use Rattle.reach_entries.proofs.EntryLaws.{EntryAt, entry_sent, sent_other_hops, sent_other_counts}
use Rattle.reach_entries.proofs.TableLaws.{
  slots_apart,
  stations_apart,
  entry_kept,
  beyond_refl,
  beyond_sent,
}
use Rattle.reach_entries.proofs.StateLaws.{TablesState, present, arriving, fits_beyond}

-- what is there by a slot has few hops
pub present_few :
    (bs : List ℕ) (n t : ℕ) (terms : Terms) (s v e h : ℕ) → plan_fault bs n t ≡ 0 → Fewest (present bs n t terms s v e) h →
    h < 65535 → h + 1 < 65535
unfolding plan_of
present_few bs n t terms s v e h ok f reached =
    let few = walks_few (plan_of bs n t terms) (slots_within bs n t terms ok) s h (arrives_by v e) (f.some reached) in
    let slots = (accepted bs n t ok).slots in
    omega arith

-- ---- a table with a contact folded in

module _ (x y : Table) (c : Contact) (n width : ℕ) (fits : Fits n width x y) (inside : c.hearer < n) (slot : c.slot < width) where
  -- every place but the hearer's is as it was
  pub folded_other_hops :
      (i : ℕ) → i ≢ c.hearer * width + c.slot → get_or (folded_table width x y c).hops i 0 ≡ get_or x.hops i 0
  unfolding folded_table
  folded_other_hops i other = sent_other_hops x y c.sender (c.hearer * width + c.slot) i other

  pub folded_other_counts :
      (i : ℕ) → i ≢ c.hearer * width + c.slot → get_or (folded_table width x y c).counts i 0 ≡ get_or x.counts i 0
  unfolding folded_table
  folded_other_counts i other = sent_other_counts x y c.sender (c.hearer * width + c.slot) i other

  -- the hearer's appearance has what the sender sends on besides
  pub entry_folded :
      (N M : ℕ → ℕ) → (get_or y.hops c.sender 0 < 65535 → get_or y.hops c.sender 0 + 1 < 65535) →
      EntryAt N x (c.hearer * width + c.slot) → EntryAt M y c.sender →
      EntryAt (plus N (delayed M)) (folded_table width x y c) (c.hearer * width + c.slot)
  unfolding folded_table
  entry_folded N M few e f =
      entry_sent x y c.sender (c.hearer * width + c.slot) N M
      (place_below c.hearer c.slot n width _ inside slot fits.hops)
      (place_below c.hearer c.slot n width _ inside slot fits.counts) few e f

  pub beyond_folded : (z : Table) → Beyond (n * width) z x → Beyond (n * width) z (folded_table width x y c)
  unfolding folded_table
  beyond_folded z b =
      beyond_sent (n * width) z x y c.sender (c.hearer * width + c.slot)
      (place_below c.hearer c.slot n width _ inside slot (omega arith)) b

module _ (bs : List ℕ) (n t : ℕ) (terms : Terms) (s : ℕ) (ok : plan_fault bs n t ≡ 0) where
  -- ---- what one record brings

  -- to a station that is not its hearer: nothing
  pub arrive_other :
      (u j w : ℕ) → j < records bs → w ≢ (contact_at bs j).hearer → (k : ℕ) →
      arriving bs n t terms s u j w k ≡ arriving bs n t terms s u (suc j) w k
  arrive_other u j w there other k =
      let more = arrivals_suc (plan_of bs n t terms) s everywhere j (contact_there bs n t terms j there) w u k in
      let none = inflow_other_station (plan_of bs n t terms) s everywhere (contact_at bs j) w u k other in
      omega arith

  -- walks from s to appearances of v that a contact in slot u may follow, by hops
  abbrev pub ready : ℕ → ℕ → ℕ → ℕ
  ready v u = total (plan_of bs n t terms) everywhere (start s) (before (plan_of bs n t terms) v u)

  -- to its hearer: what its sender may send on, one hop later
  pub arrive_hearer :
      (u j : ℕ) → j < records bs → (contact_at bs j).slot ≡ u → (k : ℕ) →
      plus (arriving bs n t terms s u j (contact_at bs j).hearer) (delayed (ready (contact_at bs j).sender u)) k ≡
      arriving bs n t terms s u (suc j) (contact_at bs j).hearer k
  unfolding plus everywhere
  arrive_hearer u j there slot k =
      let more = arrivals_suc (plan_of bs n t terms) s everywhere j (contact_there bs n t terms j there) (contact_at bs j).hearer u k in
      let brings = inflow_to_hearer (plan_of bs n t terms) s everywhere (contact_at bs j) u k slot in
      omega arith

  -- (kept) in a slot of the plan that may be sent on which is there q slots before
  may_be_sent :
      (q : ℕ) → Waits (plan_of bs n t terms) q → (v u : ℕ) → 0 < u → u ≤ t → (k : ℕ) →
      present bs n t terms s v (u - q) k ≡ ready v u k
  unfolding plan_of
  may_be_sent q w v u low high k = sym (heard_ready (plan_of bs n t terms) s everywhere q w v u k low high)

  -- (kept) a slot's record keeps the state, with one record more folded in
  pub fold_state :
      (q : ℕ) → Waits (plan_of bs n t terms) q → (old : Tables) (u j : ℕ) (x : Tables) → TablesState bs n t terms s q old u j x →
      in_slot bs j u ≡ true →
      TablesState bs n t terms s q old u (j + 1)
      (record { appearances = folded_table (t + 1) x.appearances x.stations (contact_at bs j); stations = x.stations })
  fold_state q w old u j x st here =
      record {
        after_start = st.after_start;
        complete = λ v r h low last.
            entry_kept x.appearances new (v * (t + 1) + r)
            (other_hops v r h last (λ e. omega arith)) (other_counts v r h last (λ e. omega arith)) (st.complete v r h low last);
        pending = λ v h last. arrived v h;
        later_hops = λ v r h low last. other_hops v r h last (λ e. omega arith) ∙ st.later_hops v r h low last;
        later_counts = λ v r h low last. other_counts v r h last (λ e. omega arith) ∙ st.later_counts v r h low last;
        station = st.station;
        passed = λ i h. by_cases (ℕ_discrete i j) (λ e. rw e (omega (arith, at_slot))) (λ e. st.passed i (omega arith));
        rest = λ i low last. st.rest i (omega arith) last;
        within = omega (arith, there);
        fits = fits_beyond n (t + 1) x (record { appearances = new; stations = x.stations }) st.fits
            (beyond_folded x.appearances x.stations c n (t + 1) st.fits inside slot x.appearances
            (beyond_refl _ x.appearances))
            (beyond_refl _ x.stations);
        appearances_beyond =
            beyond_folded x.appearances x.stations c n (t + 1) st.fits inside slot old.appearances
            st.appearances_beyond;
        stations_beyond = st.stations_beyond;
      }
    where
      c : Contact
      c = contact_at bs j

      new : Table
      new = folded_table (t + 1) x.appearances x.stations (contact_at bs j)

      there : j < records bs
      there = (in_slot_inv bs j u here).0

      at_slot : (contact_at bs j).slot ≡ u
      at_slot = (in_slot_inv bs j u here).1

      sender : (contact_at bs j).sender < n
      sender = ((accepted bs n t ok).contact j there).sender_station

      inside : (contact_at bs j).hearer < n
      inside = ((accepted bs n t ok).contact j there).hearer_station

      slot : (contact_at bs j).slot < t + 1
      slot = let last = ((accepted bs n t ok).contact j there).to_last in omega arith

      other_hops :
          (v r : ℕ) → v < n → r < t + 1 → r ≢ u →
          get_or new.hops (v * (t + 1) + r) 0 ≡ get_or x.appearances.hops (v * (t + 1) + r) 0
      other_hops v r h last ne =
          folded_other_hops x.appearances x.stations c n (t + 1) st.fits inside slot (v * (t + 1) + r)
          (slots_apart v r c.hearer c.slot (t + 1) last slot (λ e. ne (e ∙ at_slot)))

      other_counts :
          (v r : ℕ) → v < n → r < t + 1 → r ≢ u →
          get_or new.counts (v * (t + 1) + r) 0 ≡ get_or x.appearances.counts (v * (t + 1) + r) 0
      other_counts v r h last ne =
          folded_other_counts x.appearances x.stations c n (t + 1) st.fits inside slot (v * (t + 1) + r)
          (slots_apart v r c.hearer c.slot (t + 1) last slot (λ e. ne (e ∙ at_slot)))

      slot_below : u < t + 1
      slot_below = omega (arith, at_slot, slot)

      -- the place of slot u is the place of the record's slot
      same_place : (v : ℕ) → v * (t + 1) + (contact_at bs j).slot ≡ v * (t + 1) + u
      same_place v = ap (λ r. v * (t + 1) + r) at_slot

      sends : (v : ℕ) → v < n → EntryAt (ready v u) x.stations v
      sends v h = entry_ext (may_be_sent q w v u st.after_start (omega (arith, slot_below))) (st.station v h)

      few : (v : ℕ) → v < n → get_or x.stations.hops v 0 < 65535 → get_or x.stations.hops v 0 + 1 < 65535
      few v h = present_few bs n t terms s v (u - q) _ ok (st.station v h).fewest

      arrived : (v : ℕ) → v < n → EntryAt (arriving bs n t terms s u (j + 1) v) new (v * (t + 1) + u)
      arrived v h =
          by_cases (ℕ_discrete v c.hearer)
          (λ e. rw (e, add-one j)
          (subst (EntryAt (arriving bs n t terms s u (suc j) c.hearer) new) (same_place c.hearer)
          (entry_ext (arrive_hearer u j there at_slot)
          (entry_folded x.appearances x.stations c n (t + 1) st.fits inside slot _ _
          (few c.sender sender)
          (subst (EntryAt (arriving bs n t terms s u j c.hearer) x.appearances) (sym (same_place c.hearer))
          (st.pending c.hearer inside slot_below))
          (sends c.sender sender)))))
          (λ other. rw (add-one j)
          (entry_ext (arrive_other u j v there other)
          (entry_kept x.appearances new (v * (t + 1) + u)
          (folded_other_hops x.appearances x.stations c n (t + 1) st.fits inside slot _
          (stations_apart v u c.hearer c.slot (t + 1) slot_below slot other))
          (folded_other_counts x.appearances x.stations c n (t + 1) st.fits inside slot _
          (stations_apart v u c.hearer c.slot (t + 1) slot_below slot other))
          (st.pending v h slot_below))))
