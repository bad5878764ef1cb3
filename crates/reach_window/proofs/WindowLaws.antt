-- The pass where readings go stale: its loops, what a gathered entry holds, and the state of the tables, record by record. Assumes nothing.
use Prim.Native.Nat.{ℕ, zero, suc, ◌+◌, ◌-◌, ◌*◌, ◌/◌, ◌<◌, ◌≤◌}
use native.Mathlib.Omega.{arith}
use native.Mathlib.Numerals.{add-one}
use native.Mathlib.Decide.{ℕ_discrete}
use mathlib.Core.Path.{◌≡◌, refl, sym, ap, ap₂, subst, ◌∙◌}
use mathlib.Core.Bool.{◌&&◌}
use mathlib.Core.Logic.{◌≢◌, by_cases}
use mathlib.Core.List.{List, ◌++◌}
use lib.ListN.{length, get_or, drop, replicate, length-set, length-drop, length-append, length-replicate}
use lib.ListN.{get_or-replicate, get_or-append}
use lib.Seq.{get_or-set_same, drop-set-lt, drop_at}
use Rattle.temporal.specs.Plan.{Contact, Terms, may_follow, window_first, window_end}
use Rattle.temporal.specs.Walk.{is_at}
use Rattle.temporal.specs.Bytes.{contact_at, records, plan_of}
use Rattle.temporal.specs.Cause.{plan_fault}
use Rattle.temporal.specs.Outcome.{over}
use Rattle.walks.proofs.Accepted.{accepted}
use Rattle.walks.proofs.PlanLaws.{contact_there, contact_inv, contacts_length, slots_within, slots_sorted}
use Rattle.counting.proofs.Weights.{everywhere}
use Rattle.counting.proofs.Fewest.{Fewest, plus}
use Rattle.counting.proofs.Recurrence.{before, arrivals_suc, arrivals_zero, arrivals_same, arrivals_all, inflow_other_slot}
use Rattle.counting.proofs.WindowLaws.{in_slots, before_window, heard_slots}
use Rattle.entries.proofs.EntryLaws.{entry_none, entry_ext}
use Rattle.entries.proofs.HopLaws.{walks_few}
use Rattle.reach_entries.proofs.EndLaws.{begin_state, holds_appearance, holds_station}
use Rattle.reach_entries.specs.Table.{Table, table_of, merged_table, folded_table, settled_table, Fits, FoldableTables}
use Rattle.reach_entries.specs.Pass.{Tables, begun_tables, Beyond, FilledTables, ReachReady}
use Rattle.reach_window.specs.Window.{gathered, emptied_entry, window_table, window_folded, emptied_stations, settled_slots}
use Rattle.reach_entries.proofs.MergeLaws.{merged_hops_length, merged_counts_length}
use Rattle.reach_entries.proofs.PlaceLaws.{place_below}
use Rattle.reach_entries.proofs.EntryLaws.{EntryAt, entry_merged}
use Rattle.reach_entries.proofs.TableLaws.{slots_apart, stations_apart, entry_kept, beyond_refl, beyond_then, beyond_merged, entry_settled, beyond_settled}
use Rattle.reach_entries.proofs.StateLaws.{reaching, arriving, fits_beyond}
use Rattle.reach_entries.proofs.FoldLaws.{ready, arrive_other, arrive_hearer, folded_other_hops, folded_other_counts, entry_folded, beyond_folded}

-- ---- the loop that gathers

-- the slots before t are gathered
pub record Gathering (width : ℕ) (x : Table) (v from end : ℕ) (old : Table) (t : ℕ) (now : Table) : Type 0 where
  pub hops : length now.hops ≡ length old.hops
  pub counts : length now.counts ≡ length old.counts
  pub rest : gathered width x v now t (end - t) ≡ gathered width x v old from (end - from)

module _ (width : ℕ) (x : Table) (v from end : ℕ) (old : Table) where
  pub gathering_none : Gathering width x v from end old from old
  gathering_none = record { hops = refl; counts = refl; rest = refl }

  pub gathering_more :
      (t : ℕ) (now : Table) → t < end → Gathering width x v from end old t now →
      Gathering width x v from end old (t + 1)
      (merged_table now v (get_or x.hops (v * width + t) 0) (get_or x.counts (v * width + t) 0))
  unfolding gathered
  gathering_more t now h g =
      let more : end - t ≡ suc (end - (t + 1)) = omega arith in
      record {
        hops = merged_hops_length now v _ _ ∙ g.hops;
        counts = merged_counts_length now v _ _ ∙ g.counts;
        rest = sym (ap (gathered width x v now t) more) ∙ g.rest;
      }

  pub gathering_all : (t : ℕ) (now : Table) → end ≤ t → Gathering width x v from end old t now → now ≡ gathered width x v old from (end - from)
  unfolding gathered
  gathering_all t now h g =
      let none : end - t ≡ 0 = omega arith in
      sym (ap (gathered width x v now t) none) ∙ g.rest

-- ---- the loop that settles all slots

pub record SettlingAll (n width : ℕ) (x old : Table) (u : ℕ) (now : Table) : Type 0 where
  pub within : u ≤ width
  pub hops : length now.hops ≡ length old.hops
  pub counts : length now.counts ≡ length old.counts
  pub rest : settled_slots n width x now u (width - u) ≡ settled_slots n width x old 0 width

-- settling a slot keeps the lengths
settled_lengths :
    (width u : ℕ) (x y : Table) (v k : ℕ) →
    (length (settled_table width u x y v k).hops ≡ length y.hops) × (length (settled_table width u x y v k).counts ≡ length y.counts)
unfolding settled_table
settled_lengths width u x y v zero = (refl, refl)
settled_lengths width u x y v (suc k) =
    let (h, c) = settled_lengths width u x (merged_table y v (get_or x.hops (v * width + u) 0) (get_or x.counts (v * width + u) 0)) (v + 1) k in
    (h ∙ merged_hops_length y v _ _, c ∙ merged_counts_length y v _ _)

module _ (n width : ℕ) (x old : Table) where
  pub settling_all_none : SettlingAll n width x old 0 old
  settling_all_none =
      let same : width - 0 ≡ width = omega arith in
      record { within = omega arith; hops = refl; counts = refl; rest = ap (settled_slots n width x old 0) same }

  pub settling_all_more :
      (u : ℕ) (now : Table) → u < width → SettlingAll n width x old u now →
      SettlingAll n width x old (u + 1) (settled_table width u x now 0 n)
  unfolding settled_slots
  settling_all_more u now h g =
      let more : width - u ≡ suc (width - (u + 1)) = omega arith in
      let (a, b) = settled_lengths width u x now 0 n in
      record {
        within = omega arith;
        hops = a ∙ g.hops;
        counts = b ∙ g.counts;
        rest = sym (ap (settled_slots n width x now u) more) ∙ g.rest;
      }

  pub settling_all_done : (u : ℕ) (now : Table) → width ≤ u → SettlingAll n width x old u now → now ≡ settled_slots n width x old 0 width
  unfolding settled_slots
  settling_all_done u now h g =
      let none : width - u ≡ 0 = omega arith in
      sym (ap (settled_slots n width x now u) none) ∙ g.rest

-- ---- what is gathered

module _ (width : ℕ) (x : Table) (v : ℕ) where
  pub gathered_beyond : (m : ℕ) (z y : Table) (t k : ℕ) → v < m → Beyond m z y → Beyond m z (gathered width x v y t k)
  unfolding gathered
  gathered_beyond m z y t zero h b = b
  gathered_beyond m z y t (suc k) h b = gathered_beyond m z (merged_table y v (get_or x.hops (v * width + t) 0) (get_or x.counts (v * width + t) 0)) (t + 1) k h (beyond_merged m z y v _ _ h b)

  -- the entry holds what it held, and the walks of the slots besides
  gathered_entry :
      (bs : List ℕ) (n t' : ℕ) (terms : Terms) (s : ℕ) (M : ℕ → ℕ) (y : Table) (t k : ℕ) →
      v < length y.hops → v < length y.counts → EntryAt M y v →
      ((i : ℕ) → t ≤ i → i < t + k → EntryAt (reaching bs n t' terms s v i) x (v * width + i)) →
      EntryAt (plus M (in_slots (plan_of bs n t' terms) s everywhere v t k)) (gathered width x v y t k) v
  unfolding gathered in_slots plus
  gathered_entry bs n t' terms s M y t zero h c e f = entry_ext {N = M} (λ k. omega arith) e
  gathered_entry bs n t' terms s M y t (suc k) h c e f =
      entry_ext
      {N = plus (plus M (reaching bs n t' terms s v t)) (in_slots (plan_of bs n t' terms) s everywhere v (t + 1) k)}
      (λ i. omega arith)
      (gathered_entry bs n t' terms s (plus M (reaching bs n t' terms s v t)) _ (t + 1) k
      (rw (merged_hops_length y v (get_or x.hops (v * width + t) 0) (get_or x.counts (v * width + t) 0)) h)
      (rw (merged_counts_length y v (get_or x.hops (v * width + t) 0) (get_or x.counts (v * width + t) 0)) c)
      (entry_merged y v _ _ M (reaching bs n t' terms s v t) h c e (f t (omega arith) (omega arith)))
      (λ i low high. f i (omega arith) (omega arith)))

-- an emptied entry has no walks
module _ (y : Table) (v : ℕ) where
  emptied_entry_law : v < length y.hops → v < length y.counts → EntryAt (λ k. 0) (emptied_entry y v) v
  unfolding emptied_entry
  emptied_entry_law h c =
      rw (get_or-set_same y.hops v 65535 0 h, get_or-set_same y.counts v 0 0 c) (entry_none (λ k. 0) (λ k. refl))

  emptied_beyond : (m : ℕ) → v < m → Beyond m y (emptied_entry y v)
  unfolding emptied_entry
  emptied_beyond m h =
      record {
        hops = drop-set-lt m y.hops v 65535 h;
        counts = drop-set-lt m y.counts v 0 h;
        hops_length = length-set y.hops v 65535;
        counts_length = length-set y.counts v 0;
      }

-- the window's entry: what may be sent on
module _ (bs : List ℕ) (n t : ℕ) (terms : Terms) (s : ℕ) (ok : plan_fault bs n t ≡ 0) (x : Table) (y : Table) (v u : ℕ) where
  abbrev pub window : Table
  window = window_table (t + 1) terms.turnaround terms.keeping x v u y

  pub window_beyond : (m : ℕ) → v < m → Beyond m y window
  unfolding window_table
  window_beyond m h =
      gathered_beyond (t + 1) x v m y _ (window_first terms.keeping u) _ h
      (gathered_beyond (t + 1) x v m y _ 0 1 h (emptied_beyond y v m h))

  pub window_entry :
      v < length y.hops → v < length y.counts → 0 < terms.turnaround → 0 < u →
      EntryAt (reaching bs n t terms s v 0) x (v * (t + 1) + 0) →
      ((i : ℕ) → 0 < i → i < u → EntryAt (reaching bs n t terms s v i) x (v * (t + 1) + i)) →
      EntryAt (ready bs n t terms s ok v u) window v
  unfolding window_table plan_of plus in_slots
  window_entry h c turns low start_entry others =
      entry_ext same
      (gathered_entry (t + 1) x v bs n t terms s _ _ (window_first terms.keeping u)
      (window_end terms.turnaround u - window_first terms.keeping u)
      (let e = first_part.hops_length in omega arith) (let e = first_part.counts_length in omega arith)
      (gathered_entry (t + 1) x v bs n t terms s (λ k. 0) (emptied_entry y v) 0 1
      (let e = empty_part.hops_length in omega arith) (let e = empty_part.counts_length in omega arith)
      (emptied_entry_law y v h c)
      (λ i from to. let zero_slot : 0 ≡ i = omega arith in
      subst (λ k. EntryAt (reaching bs n t terms s v k) x (v * (t + 1) + k)) zero_slot start_entry))
      (λ i from to. others i (omega arith) (omega arith)))
    where
      empty_part : Beyond (v + 1) y (emptied_entry y v)
      empty_part = emptied_beyond y v (v + 1) (omega arith)

      first_part : Beyond (v + 1) y (gathered (t + 1) x v (emptied_entry y v) 0 1)
      first_part = gathered_beyond (t + 1) x v (v + 1) y _ 0 1 (omega arith) empty_part

      same :
          (k : ℕ) →
          plus (plus (λ i. 0) (in_slots (plan_of bs n t terms) s everywhere v 0 1))
          (in_slots (plan_of bs n t terms) s everywhere v (window_first terms.keeping u)
          (window_end terms.turnaround u - window_first terms.keeping u)) k ≡
          ready bs n t terms s ok v u k
      same k = omega (arith, before_window (plan_of bs n t terms) s everywhere v u turns low k)

-- two fills empty the stations' entries
pub emptied_by :
    (n : ℕ) (h c h' c' : List ℕ) → h' ≡ over (replicate n 65535) h → c' ≡ over (replicate n 0) c →
    table_of h' c' ≡ emptied_stations n (table_of h c)
unfolding emptied_stations
emptied_by n h c h' c' e f = ap₂ table_of e f

-- from those the loop settles all
pub settled_emptied :
    (n width : ℕ) (x : Table) (h c h' c' : List ℕ) (now : Table) → now ≡ settled_slots n width x (table_of h' c') 0 width →
    h' ≡ over (replicate n 65535) h → c' ≡ over (replicate n 0) c →
    now ≡ settled_slots n width x (emptied_stations n (table_of h c)) 0 width
settled_emptied n width x h c h' c' now e f g = e ∙ ap (λ y. settled_slots n width x y 0 width) (emptied_by n h c h' c' f g)

-- the place of a slot before an end
pub slot_place : {v t n width end : ℕ} → v < n → t < end → end ≤ width → v * width + t < n * width
slot_place {v} {t} {n} {width} h k e = place_below v t n width (n * width) h (omega arith) (omega arith)

-- tables of the same lengths fit too
pub fits_same :
    {n width : ℕ} {x y : Table} (h c : List ℕ) → length h ≡ length y.hops → length c ≡ length y.counts → Fits n width x y →
    Fits n width x (table_of h c)
fits_same h c e f fits =
    record {
      hops = fits.hops;
      counts = fits.counts;
      station_hops_law = let k = fits.station_hops_law in omega arith;
      station_counts_law = let k = fits.station_counts_law in omega arith;
    }

-- the window of a slot of the plan lies within the table
pub window_within : (g u width : ℕ) → 0 < g → u < width → window_end g u ≤ width
window_within g u width some h = omega arith

-- gathering and folding make the tables of a record folded in
pub window_folded_by :
    (bs : List ℕ) (width g h j : ℕ) (x : Tables) (r : Contact) (y out : Table) → r ≡ contact_at bs j →
    y ≡ window_table width g h x.appearances r.sender r.slot x.stations →
    out ≡ folded_table width x.appearances y (contact_at bs j) →
    ◌≡◌ {A = Tables} (record { appearances = out; stations = y }) (window_folded width g h x (contact_at bs j))
unfolding window_folded
window_folded_by bs width g h j x r y out same e f =
    let there : y ≡ window_table width g h x.appearances (contact_at bs j).sender (contact_at bs j).slot x.stations =
    e ∙ ap (λ (c : Contact). window_table width g h x.appearances c.sender c.slot x.stations) same in
    ap₂ (λ a b. record { appearances = a; stations = b }) (f ∙ ap (λ z. folded_table width x.appearances z (contact_at bs j)) there) there

-- ---- the state of the tables, record by record

-- the records below j are folded in
pub record WindowState (bs : List ℕ) (n t : ℕ) (terms : Terms) (s : ℕ) (old : Tables) (j : ℕ) (x : Tables) : Type 0 where
  pub within : j ≤ records bs
  pub started : (v : ℕ) → v < n → EntryAt (reaching bs n t terms s v 0) x.appearances (v * (t + 1) + 0)
  pub arrived : (v r : ℕ) → v < n → 0 < r → r < t + 1 → EntryAt (arriving bs n t terms s r j v) x.appearances (v * (t + 1) + r)
  pub fits : Fits n (t + 1) x.appearances x.stations
  pub appearances_beyond : Beyond (n * (t + 1)) old.appearances x.appearances
  pub stations_beyond : Beyond n old.stations x.stations

-- the tables begun
pub window_begun :
    (bs : List ℕ) (n t : ℕ) (terms : Terms) (s : ℕ) → plan_fault bs n t ≡ 0 → s < n → (old : Tables) →
    Fits n (t + 1) old.appearances old.stations → WindowState bs n t terms s old 0 (begun_tables n (t + 1) s old)
window_begun bs n t terms s ok source old fits =
    let st = begin_state bs n t terms s ok source old fits 1 (omega arith) in
    record {
      within = omega arith;
      started = λ v h. st.complete v 0 h (omega arith) (omega arith);
      arrived = λ v r h low last.
          by_cases (ℕ_discrete r 1)
          (λ e.
          subst (λ i. EntryAt (arriving bs n t terms s i 0 v) (begun_tables n (t + 1) s old).appearances (v * (t + 1) + i)) (sym e)
          (st.pending v h (omega arith)))
          (λ ne.
          rw (st.later_hops v r h (omega arith) last, st.later_counts v r h (omega arith) last)
          (entry_none (arriving bs n t terms s r 0 v) (arrivals_zero (plan_of bs n t terms) s everywhere v r)));
      fits = st.fits;
      appearances_beyond = st.appearances_beyond;
      stations_beyond = st.stations_beyond;
    }

module _ (bs : List ℕ) (n t : ℕ) (terms : Terms) (s : ℕ) (ok : plan_fault bs n t ≡ 0) where
  -- where the records from j on lie in later slots than r, all that arrives in slot r has arrived
  all_there :
      (r j v k : ℕ) → 0 < r → j ≤ records bs → ((i : ℕ) → j ≤ i → i < records bs → r < (contact_at bs i).slot) →
      arriving bs n t terms s r j v k ≡ reaching bs n t terms s v r k
  all_there r j v k low within later =
      arrivals_same (plan_of bs n t terms) s everywhere v r k j (length (plan_of bs n t terms).contacts)
      (let all = contacts_length bs n t terms in omega arith)
      (λ i c from last there e.
      let (inside, same) = contact_inv bs n t terms i c there in
      let past = later i from inside in
      let slot = ap (λ (d : Contact). d.slot) same in
      omega arith) ∙
      sym (arrivals_all (plan_of bs n t terms) s everywhere v r k low)

  -- a record brings nothing to another slot
  arrive_slot :
      (r j v : ℕ) → j < records bs → (contact_at bs j).slot ≢ r → (k : ℕ) →
      arriving bs n t terms s r j v k ≡ arriving bs n t terms s r (suc j) v k
  arrive_slot r j v there other k =
      let more = arrivals_suc (plan_of bs n t terms) s everywhere j (contact_there bs n t terms j there) v r k in
      let none = inflow_other_slot (plan_of bs n t terms) s everywhere (contact_at bs j) v r k other in
      omega arith

  -- what may be sent on has few hops
  ready_few : (v u h : ℕ) → Fewest (ready bs n t terms s ok v u) h → h < 65535 → h + 1 < 65535
  unfolding before plan_of
  ready_few v u h f reached =
      let few = walks_few (plan_of bs n t terms) (slots_within bs n t terms ok) s h
      (λ y. is_at v y && may_follow (plan_of bs n t terms) y.slot u) (f.some reached) in
      let slots = (accepted bs n t ok).slots in
      omega arith

  module _ (turns : 0 < terms.turnaround) (old : Tables) (j : ℕ) (x : Tables) (st : WindowState bs n t terms s old j x)
      (there : j < records bs) where
    sender : (contact_at bs j).sender < n
    sender = ((accepted bs n t ok).contact j there).sender_station

    hearer : (contact_at bs j).hearer < n
    hearer = ((accepted bs n t ok).contact j there).hearer_station

    from_one : 0 < (contact_at bs j).slot
    from_one = ((accepted bs n t ok).contact j there).from_one

    slot : (contact_at bs j).slot < t + 1
    slot = let last = ((accepted bs n t ok).contact j there).to_last in omega arith

    sorted : (i : ℕ) → j ≤ i → i < records bs → (contact_at bs j).slot ≤ (contact_at bs i).slot
    sorted i low last =
        let same : j + (i - j) ≡ i = omega arith in
        rw same at (slots_sorted bs n t terms ok j (i - j) (omega arith))

    y : Table
    y = window bs n t terms s ok x.appearances x.stations (contact_at bs j).sender (contact_at bs j).slot

    sends : EntryAt (ready bs n t terms s ok (contact_at bs j).sender (contact_at bs j).slot) y (contact_at bs j).sender
    unfolding y
    sends =
        window_entry bs n t terms s ok x.appearances x.stations (contact_at bs j).sender (contact_at bs j).slot
        (let f = st.fits.station_hops_law in let a = sender in omega arith)
        (let f = st.fits.station_counts_law in let a = sender in omega arith) turns from_one
        (st.started (contact_at bs j).sender sender)
        (λ i low before-slot.
        entry_ext
        (λ k. all_there i j (contact_at bs j).sender k low st.within
        (λ m from inside. let later = sorted m from inside in omega arith))
        (st.arrived (contact_at bs j).sender i sender low (let last = slot in omega arith)))

    stations_kept : Beyond n x.stations y
    unfolding y
    stations_kept =
        window_beyond bs n t terms s ok x.appearances x.stations (contact_at bs j).sender (contact_at bs j).slot n sender

    fits_now : Fits n (t + 1) x.appearances y
    fits_now =
        fits_beyond n (t + 1) x (record { appearances = x.appearances; stations = y }) st.fits
        (beyond_refl _ x.appearances) stations_kept

    new : Table
    new = folded_table (t + 1) x.appearances y (contact_at bs j)

    -- a place of another station or another slot is as it was
    kept_there :
        {N : ℕ → ℕ} (v r : ℕ) → v * (t + 1) + r ≢ (contact_at bs j).hearer * (t + 1) + (contact_at bs j).slot →
        EntryAt N x.appearances (v * (t + 1) + r) → EntryAt N new (v * (t + 1) + r)
    unfolding new
    kept_there v r apart e =
        entry_kept x.appearances new (v * (t + 1) + r)
        (folded_other_hops x.appearances y (contact_at bs j) n (t + 1) fits_now hearer slot (v * (t + 1) + r) apart)
        (folded_other_counts x.appearances y (contact_at bs j) n (t + 1) fits_now hearer slot (v * (t + 1) + r) apart) e

    arrived_now :
        (v r : ℕ) → v < n → 0 < r → r < t + 1 → EntryAt (arriving bs n t terms s r (suc j) v) new (v * (t + 1) + r)
    unfolding new
    arrived_now v r h low last =
        by_cases (ℕ_discrete (contact_at bs j).slot r)
        (λ here.
        by_cases (ℕ_discrete v (contact_at bs j).hearer)
        (λ e. rw (e, ← here)
        (entry_ext (arrive_hearer bs n t terms s ok (contact_at bs j).slot j there refl)
        (entry_folded x.appearances y (contact_at bs j) n (t + 1) fits_now hearer slot _ _
        (ready_few (contact_at bs j).sender (contact_at bs j).slot _ sends.fewest)
        (st.arrived (contact_at bs j).hearer (contact_at bs j).slot hearer from_one slot) sends)))
        (λ other.
        entry_ext (arrive_other bs n t terms s ok r j v there other)
        (kept_there v r (stations_apart v r (contact_at bs j).hearer (contact_at bs j).slot (t + 1) last slot other)
        (st.arrived v r h low last))))
        (λ other.
        entry_ext (arrive_slot r j v there other)
        (kept_there v r
        (slots_apart v r (contact_at bs j).hearer (contact_at bs j).slot (t + 1) last slot (λ e. other (sym e)))
        (st.arrived v r h low last)))

    -- one record more
    pub window_fold :
        WindowState bs n t terms s old (j + 1) (window_folded (t + 1) terms.turnaround terms.keeping x (contact_at bs j))
    unfolding window_folded new y
    window_fold =
        let beyond = beyond_folded x.appearances y (contact_at bs j) n (t + 1) fits_now hearer slot in
        record {
          within = omega (arith, there);
          started = λ v h.
              kept_there v 0
              (slots_apart v 0 (contact_at bs j).hearer (contact_at bs j).slot (t + 1) (omega arith) slot
              (λ e. let low = from_one in omega arith))
              (st.started v h);
          arrived = λ v r h low last. rw (add-one j) (arrived_now v r h low last);
          fits =
              fits_beyond n (t + 1) (record { appearances = x.appearances; stations = y }) (record { appearances = new; stations = y })
              fits_now (beyond x.appearances (beyond_refl _ x.appearances)) (beyond_refl _ y);
          appearances_beyond = beyond old.appearances st.appearances_beyond;
          stations_beyond = beyond_then _ old.stations x.stations y st.stations_beyond stations_kept;
        }

-- ---- the end

-- the emptied entries of the stations have no walks, and nothing past them is touched
module _ (n : ℕ) (y : Table) where
  filled_at : (k a : ℕ) (l : List ℕ) (v : ℕ) → v < k → get_or (over (replicate k a) l) v 0 ≡ a
  unfolding over
  filled_at k a l v h =
      get_or-append (replicate k a) (drop (length (replicate k a)) l) 0 v (rw (length-replicate k a) h) ∙ get_or-replicate k v a 0 h

  filled_past : (k a : ℕ) (l : List ℕ) → drop k (over (replicate k a) l) ≡ drop k l
  unfolding over
  filled_past k a l =
      ap (λ i. drop k (replicate k a ++ drop i l)) (length-replicate k a) ∙ drop_at (replicate k a) (drop k l) k (length-replicate k a)

  filled_same : (k a : ℕ) (l : List ℕ) → k ≤ length l → length (over (replicate k a) l) ≡ length l
  unfolding over
  filled_same k a l h = simp (length-append, length-drop, length-replicate) (omega arith)

  emptied_station : (v : ℕ) → v < n → EntryAt (λ k. 0) (emptied_stations n y) v
  unfolding emptied_stations
  emptied_station v h =
      rw (filled_at n 65535 y.hops v h, filled_at n 0 y.counts v h) (entry_none (λ k. 0) (λ k. refl))

  emptied_stations_beyond : n ≤ length y.hops → n ≤ length y.counts → Beyond n y (emptied_stations n y)
  unfolding emptied_stations
  emptied_stations_beyond h c =
      record {
        hops = filled_past n 65535 y.hops;
        counts = filled_past n 0 y.counts;
        hops_length = filled_same n 65535 y.hops h;
        counts_length = filled_same n 0 y.counts c;
      }

module _ (bs : List ℕ) (n t : ℕ) (terms : Terms) (s : ℕ) (x : Table) where
  settled_slots_beyond : (z y : Table) (u k : ℕ) → Beyond n z y → Beyond n z (settled_slots n (t + 1) x y u k)
  unfolding settled_slots
  settled_slots_beyond z y u zero b = b
  settled_slots_beyond z y u (suc k) b =
      settled_slots_beyond z (settled_table (t + 1) u x y 0 n) (u + 1) k (beyond_settled (t + 1) u x n z y 0 n (omega arith) b)

  -- a station's entry holds what it held, and the walks of the slots besides
  settled_slots_entry :
      (M : ℕ → ℕ) (y : Table) (v u k : ℕ) → v < n → n ≤ length y.hops → n ≤ length y.counts → EntryAt M y v →
      ((i : ℕ) → u ≤ i → i < u + k → EntryAt (reaching bs n t terms s v i) x (v * (t + 1) + i)) →
      EntryAt (plus M (in_slots (plan_of bs n t terms) s everywhere v u k)) (settled_slots n (t + 1) x y u k) v
  unfolding settled_slots in_slots plus
  settled_slots_entry M y v u zero h a b e f = entry_ext {N = M} (λ k. omega arith) e
  settled_slots_entry M y v u (suc k) h a b e f =
      let (p, q) = settled_lengths (t + 1) u x y 0 n in
      entry_ext
      {N = plus (plus M (reaching bs n t terms s v u)) (in_slots (plan_of bs n t terms) s everywhere v (u + 1) k)}
      (λ i. omega arith)
      (settled_slots_entry (plus M (reaching bs n t terms s v u)) (settled_table (t + 1) u x y 0 n) v (u + 1) k h (rw p a) (rw q b)
      (entry_settled (t + 1) u x M (reaching bs n t terms s v u) y 0 n v (omega arith) (omega arith) (omega arith) (omega arith) e
      (f u (omega arith) (omega arith)))
      (λ i low high. f i (omega arith) (omega arith)))

-- once all records are folded in and all slots are settled the tables are filled
pub window_end_state :
    (bs : List ℕ) (n t : ℕ) (terms : Terms) (s : ℕ) → plan_fault bs n t ≡ 0 → (old : Tables) (j : ℕ) (x : Tables) → records bs ≤ j →
    WindowState bs n t terms s old j x →
    FilledTables bs n t terms s old
    (record {
      appearances = x.appearances;
      stations = settled_slots n (t + 1) x.appearances (emptied_stations n x.stations) 0 (t + 1);
    })
unfolding plus plan_of
window_end_state bs n t terms s ok old j x all st =
    record {
      appearance = λ v u h last. holds_appearance bs n t terms s ok x.appearances _ v u (there v u h last);
      station = λ v h.
          holds_station bs n t terms s ok _ v v
          (entry_ext
          {N = plus (λ k. 0) (in_slots (plan_of bs n t terms) s everywhere v 0 (t + 1))}
          (λ k. omega (arith, heard_slots (plan_of bs n t terms) s everywhere v t k))
          (settled_slots_entry bs n t terms s x.appearances (λ k. 0) (emptied_stations n x.stations) v 0 (t + 1) h
          (let e = empty.hops_length in let f = st.fits.station_hops_law in omega arith)
          (let e = empty.counts_length in let f = st.fits.station_counts_law in omega arith)
          (emptied_station n x.stations v h) (λ i low high. there v i h (omega arith))));
      appearances_beyond = st.appearances_beyond;
      stations_beyond =
          settled_slots_beyond bs n t terms s x.appearances old.stations _ 0 (t + 1)
          (beyond_then n old.stations x.stations _ st.stations_beyond empty);
    }
  where
    empty : Beyond n x.stations (emptied_stations n x.stations)
    empty = emptied_stations_beyond n x.stations st.fits.station_hops_law st.fits.station_counts_law

    there : (v u : ℕ) → v < n → u < t + 1 → EntryAt (reaching bs n t terms s v u) x.appearances (v * (t + 1) + u)
    there v u h last =
        by_cases (ℕ_discrete u 0)
        (λ e. subst (λ i. EntryAt (reaching bs n t terms s v i) x.appearances (v * (t + 1) + i)) (sym e) (st.started v h))
        (λ later.
        entry_ext
        (λ k. all_there bs n t terms s ok u j v k (omega arith) st.within (λ i from inside. absurd (omega arith)))
        (st.arrived v u h (omega arith) last))

-- the record at j of an accepted plan can be folded in
pub window_foldable :
    (bs : List ℕ) (n t : ℕ) (terms : Terms) (s : ℕ) → plan_fault bs n t ≡ 0 → (old : Tables) (j : ℕ) (x : Tables) → j < records bs →
    WindowState bs n t terms s old j x → FoldableTables bs n (t + 1) j x.appearances x.stations
unfolding records
window_foldable bs n t terms s ok old j x there st =
    let c = (accepted bs n t ok).contact j there in
    let last = c.to_last in
    record {
      inside = omega arith;
      sender_station = c.sender_station;
      hearer_station = c.hearer_station;
      slot = omega arith;
      fits = st.fits;
    }

-- ---- the loop over the records

-- the records below j of m are folded in, seen from the tables begun
pub record Windowing (bs : List ℕ) (n t : ℕ) (terms : Terms) (s width m : ℕ) (begun : Tables) (j : ℕ) (x : Tables) : Type 0 where
  pub wide : width ≡ t + 1
  pub all : m ≡ records bs
  pub state : WindowState bs n t terms s begun j x

module _ (bs : List ℕ) (n t : ℕ) (terms : Terms) (s width m : ℕ) (old : Tables) (ready : ReachReady bs n t terms s old) where
  pub windowing_begun :
      (x : Tables) → width ≡ t + 1 → m ≡ length bs / 6 → x ≡ begun_tables n width s old → Windowing bs n t terms s width m x 0 x
  unfolding records
  windowing_begun x wide all e =
      let st = rw (← e ∙ ap (λ w. begun_tables n w s old) wide) at (window_begun bs n t terms s ready.accepted ready.source old ready.fits) in
      record {
        wide = wide;
        all = all;
        state = record {
          within = st.within;
          started = st.started;
          arrived = st.arrived;
          fits = st.fits;
          appearances_beyond = beyond_refl _ x.appearances;
          stations_beyond = beyond_refl _ x.stations;
        };
      }

  module _ (begun : Tables) (j : ℕ) (x : Tables) (w : Windowing bs n t terms s width m begun j x) where
    pub windowing_foldable : j < m → FoldableTables bs n width j x.appearances x.stations
    windowing_foldable h =
        rw w.wide (window_foldable bs n t terms s ready.accepted begun j x (let e = w.all in omega arith) w.state)

    pub windowing_fold :
        (next : Tables) → j < m → next ≡ window_folded width terms.turnaround terms.keeping x (contact_at bs j) →
        Windowing bs n t terms s width m begun (j + 1) next
    windowing_fold next h e =
        record {
          wide = w.wide;
          all = w.all;
          state = rw (e, w.wide)
              (window_fold bs n t terms s ready.accepted ready.units.turns begun j x w.state (let q = w.all in omega arith));
        }

    -- in the end the tables are filled, also seen from before they were begun
    pub windowing_end :
        (y : Table) → m ≤ j → begun ≡ begun_tables n width s old →
        y ≡ settled_slots n width x.appearances (emptied_stations n x.stations) 0 width →
        FilledTables bs n t terms s old (record { appearances = x.appearances; stations = y })
    windowing_end y h b e =
        let filled = window_end_state bs n t terms s ready.accepted begun j x (let q = w.all in omega arith) w.state in
        let first = rw (← b ∙ ap (λ k. begun_tables n k s old) w.wide) at (window_begun bs n t terms s ready.accepted ready.source old ready.fits) in
        rw (e, w.wide)
        (record {
          appearance = filled.appearance;
          station = filled.station;
          appearances_beyond =
              beyond_then _ old.appearances begun.appearances x.appearances first.appearances_beyond filled.appearances_beyond;
          stations_beyond = beyond_then _ old.stations begun.stations _ first.stations_beyond filled.stations_beyond;
        })
