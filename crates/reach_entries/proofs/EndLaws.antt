-- The state of the pass at its begin, and what it gives at its end. Assumes nothing.
use Prim.Native.Nat.{ℕ, ◌+◌, ◌-◌, ◌*◌, ◌<◌, ◌≤◌}
use native.Mathlib.Omega.{arith}
use native.Mathlib.Decide.{ℕ_discrete}
use mathlib.Core.Path.{◌≡◌, sym, ap, subst, ◌∙◌}
use mathlib.Core.Bool.{cond}
use mathlib.Core.Logic.{◌≢◌, by_cases}
use mathlib.Core.List.{List, ◌++◌}
use lib.ListN.{length, get_or, set, drop, replicate, length-replicate, get_or-replicate, get_or-append, length-append}
use lib.ListN.{length-drop, length-set}
use lib.Seq.{get_or-set_same, get_or-set_other, drop-set-lt, drop_at}
use Rattle.temporal.specs.Plan.{start, Terms}
use Rattle.temporal.specs.Walk.{is_at, is_appearance, is_walk}
use Rattle.temporal.specs.Shortest.{shortest_walks, shortest_walks_to}
use Rattle.temporal.specs.Bytes.{plan_of}
use Rattle.temporal.specs.Cause.{plan_fault}
use Rattle.temporal.specs.Outcome.{over}
use Rattle.walks.proofs.Accepted.{accepted}
use Rattle.walks.proofs.Adequacy.{bounded_ends}
use Rattle.walks.proofs.PlanLaws.{slots_within}
use Rattle.counting.proofs.Weights.{total, everywhere}
use Rattle.counting.proofs.Fewest.{fewest_intro, fewest_unique, fewest_shortest, count_shortest}
use Rattle.counting.proofs.Recurrence.{at_appearance, arrivals_zero, start_here, start_other, heard_zero, heard_all}
use Rattle.reach_entries.specs.Table.{Table, Fits}
use Rattle.entries.specs.Entry.{stored}
use Rattle.entries.proofs.CountLaws.{stored_small}
use Rattle.entries.proofs.EntryLaws.{Entry, entry_none, entry_ext}
use Rattle.entries.proofs.HopLaws.{few_slots}
use Rattle.reach_entries.specs.Pass.{Tables, begun_tables, Beyond, EntryHolds, FilledTables}
use Rattle.reach_entries.proofs.EntryLaws.{EntryAt}
use Rattle.reach_entries.proofs.TableLaws.{slots_apart, stations_apart}
use Rattle.reach_entries.proofs.PlaceLaws.{place_below}
use Rattle.reach_entries.proofs.StateLaws.{TablesState, reaching, present, arriving, fits_beyond}

-- ---- a list whose first k entries are x, but y at one of them

module _ (k x y at : ℕ) (old : List ℕ) (inside : at < k) where
  over_length : k ≤ length old → length (over (replicate k x) old) ≡ length old
  unfolding over
  over_length h = simp (length-append, length-drop, length-replicate) (omega arith)

  filled_there : k ≤ length old → get_or (set (over (replicate k x) old) at y) at 0 ≡ y
  filled_there h =
      get_or-set_same (over (replicate k x) old) at y 0 (let same = over_length h in omega arith)

  filled_other : (i : ℕ) → i < k → i ≢ at → get_or (set (over (replicate k x) old) at y) i 0 ≡ x
  unfolding over
  filled_other i h ne =
      get_or-set_other (over (replicate k x) old) at i y 0 ne ∙
      get_or-append (replicate k x) (drop (length (replicate k x)) old) 0 i (rw (length-replicate k x) h) ∙
      get_or-replicate k i x 0 h

  filled_length : k ≤ length old → length (set (over (replicate k x) old) at y) ≡ length old
  filled_length h = length-set (over (replicate k x) old) at y ∙ over_length h

  filled_beyond : drop k (set (over (replicate k x) old) at y) ≡ drop k old
  unfolding over
  filled_beyond =
      drop-set-lt {A = ℕ} k (over (replicate k x) old) at y inside ∙
      ap (λ i. drop k (replicate k x ++ drop i old)) (length-replicate k x) ∙
      drop_at (replicate k x) (drop k old) k (length-replicate k x)

-- ---- the begin

module _ (bs : List ℕ) (n t : ℕ) (terms : Terms) (s : ℕ) where
  -- the entry of the empty walk, at the source's start
  start_entry : Entry (reaching bs n t terms s s 0) 0 1
  start_entry =
      let one = start_here (plan_of bs n t terms) s everywhere in
      record {
        fewest = fewest_intro (omega arith) (omega arith) (λ k h. absurd (omega arith));
        count = sym (ap stored one ∙ stored_small 1 (omega arith));
      }

  -- every other station has none in slot 0
  other_entry : (v : ℕ) → v ≢ s → Entry (reaching bs n t terms s v 0) 65535 0
  other_entry v ne = entry_none (reaching bs n t terms s v 0) (λ k. start_other (plan_of bs n t terms) s everywhere v k ne)

  -- a table that holds these two has the walks of slot 0 at a station
  started :
      (x : Table) (i v : ℕ) → (v ≡ s → (get_or x.hops i 0 ≡ 0) × (get_or x.counts i 0 ≡ 1)) →
      (v ≢ s → (get_or x.hops i 0 ≡ 65535) × (get_or x.counts i 0 ≡ 0)) → EntryAt (reaching bs n t terms s v 0) x i
  started x i v here there =
      by_cases (ℕ_discrete v s)
      (λ e. rw ((here e).0, (here e).1, e) start_entry)
      (λ ne. rw ((there ne).0, (there ne).1) (other_entry v ne))

module _ (bs : List ℕ) (n t : ℕ) (terms : Terms) (s : ℕ) (ok : plan_fault bs n t ≡ 0) (source : s < n) (old : Tables)
    (fits : Fits n (t + 1) old.appearances old.stations) where
  -- the source's place in slot 0
  start_place : s * (t + 1) ≡ s * (t + 1) + 0
  start_place = omega arith

  start_below : s * (t + 1) < n * (t + 1)
  start_below = let spot = place_below s 0 n (t + 1) (n * (t + 1)) source (omega arith) (omega arith) in omega arith

  -- every other place has none
  other_hops : (i : ℕ) → i < n * (t + 1) → i ≢ s * (t + 1) → get_or (begun_tables n (t + 1) s old).appearances.hops i 0 ≡ 65535
  unfolding begun_tables
  other_hops i h ne = filled_other (n * (t + 1)) 65535 0 (s * (t + 1)) old.appearances.hops start_below i h ne

  other_counts : (i : ℕ) → i < n * (t + 1) → i ≢ s * (t + 1) → get_or (begun_tables n (t + 1) s old).appearances.counts i 0 ≡ 0
  unfolding begun_tables
  other_counts i h ne = filled_other (n * (t + 1)) 0 1 (s * (t + 1)) old.appearances.counts start_below i h ne

  begun_appearances : Beyond (n * (t + 1)) old.appearances (begun_tables n (t + 1) s old).appearances
  unfolding begun_tables
  begun_appearances =
      record {
        hops = filled_beyond (n * (t + 1)) 65535 0 (s * (t + 1)) old.appearances.hops start_below;
        counts = filled_beyond (n * (t + 1)) 0 1 (s * (t + 1)) old.appearances.counts start_below;
        hops_length = filled_length (n * (t + 1)) 65535 0 (s * (t + 1)) old.appearances.hops start_below fits.hops;
        counts_length = filled_length (n * (t + 1)) 0 1 (s * (t + 1)) old.appearances.counts start_below fits.counts;
      }

  begun_stations : Beyond n old.stations (begun_tables n (t + 1) s old).stations
  unfolding begun_tables
  begun_stations =
      record {
        hops = filled_beyond n 65535 0 s old.stations.hops source;
        counts = filled_beyond n 0 1 s old.stations.counts source;
        hops_length = filled_length n 65535 0 s old.stations.hops source fits.station_hops_law;
        counts_length = filled_length n 0 1 s old.stations.counts source fits.station_counts_law;
      }

  later_apart : (v r : ℕ) → v < n → 0 < r → r < t + 1 → v * (t + 1) + r ≢ s * (t + 1)
  later_apart v r h low last e =
      slots_apart v r s 0 (t + 1) last (omega arith) (λ e. omega arith) (e ∙ start_place)

  -- slot 0 has its walks
  begun_start :
      (v : ℕ) → v < n → EntryAt (reaching bs n t terms s v 0) (begun_tables n (t + 1) s old).appearances (v * (t + 1) + 0)
  unfolding begun_tables
  begun_start v h =
      started bs n t terms s (begun_tables n (t + 1) s old).appearances (v * (t + 1) + 0) v
      (λ e.
      let same : v * (t + 1) + 0 ≡ s * (t + 1) = rw e (omega arith) in
      rw same (
        filled_there (n * (t + 1)) 65535 0 (s * (t + 1)) old.appearances.hops start_below fits.hops,
        filled_there (n * (t + 1)) 0 1 (s * (t + 1)) old.appearances.counts start_below fits.counts,
      ))
      (λ ne.
      let below = place_below v 0 n (t + 1) (n * (t + 1)) h (omega arith) (omega arith) in
      let away : v * (t + 1) + 0 ≢ s * (t + 1) =
      λ e. stations_apart v 0 s 0 (t + 1) (omega arith) (omega arith) ne (e ∙ start_place) in
      (other_hops (v * (t + 1) + 0) below away, other_counts (v * (t + 1) + 0) below away))

  -- and a station has them too
  begun_station : (v : ℕ) → v < n → EntryAt (present bs n t terms s v 0) (begun_tables n (t + 1) s old).stations v
  unfolding begun_tables
  begun_station v h =
      entry_ext (λ k. sym (heard_zero (plan_of bs n t terms) s everywhere v k))
      (started bs n t terms s (begun_tables n (t + 1) s old).stations v v
      (λ e. rw e (
        filled_there n 65535 0 s old.stations.hops source fits.station_hops_law,
        filled_there n 0 1 s old.stations.counts source fits.station_counts_law,
      ))
      (λ ne. (
        filled_other n 65535 0 s old.stations.hops source v h ne,
        filled_other n 0 1 s old.stations.counts source v h ne,
      )))

  -- the tables begun are in the state before slot 1 is done with
  pub begin_state : (q : ℕ) → 0 < q → TablesState bs n t terms s q old 1 0 (begun_tables n (t + 1) s old)
  begin_state q some =
      record {
        after_start = omega arith;
        complete = λ v r h low last.
            let first : 0 ≡ r = omega arith in
            subst (λ i. EntryAt (reaching bs n t terms s v i) (begun_tables n (t + 1) s old).appearances (v * (t + 1) + i)) first
            (begun_start v h);
        pending = λ v h last.
            rw (later_hops v 1 h (omega arith) last, later_counts v 1 h (omega arith) last)
            (entry_none (arriving bs n t terms s 1 0 v) (arrivals_zero (plan_of bs n t terms) s everywhere v 1));
        later_hops = λ v r h low last. later_hops v r h (omega arith) last;
        later_counts = λ v r h low last. later_counts v r h (omega arith) last;
        station = λ v h.
            let start_only : 0 ≡ 1 - q = omega arith in
            subst (λ e. EntryAt (present bs n t terms s v e) (begun_tables n (t + 1) s old).stations v) start_only
            (begun_station v h);
        passed = λ i h. absurd (omega arith);
        rest = λ i low last. let from_one = ((accepted bs n t ok).contact i last).from_one in omega arith;
        within = omega arith;
        fits = fits_beyond n (t + 1) old (begun_tables n (t + 1) s old) fits begun_appearances begun_stations;
        appearances_beyond = begun_appearances;
        stations_beyond = begun_stations;
      }
    where
      later_hops : (v r : ℕ) → v < n → 0 < r → r < t + 1 → get_or (begun_tables n (t + 1) s old).appearances.hops (v * (t + 1) + r) 0 ≡ 65535
      later_hops v r h low last =
          other_hops (v * (t + 1) + r) (place_below v r n (t + 1) (n * (t + 1)) h last (omega arith)) (later_apart v r h low last)

      later_counts : (v r : ℕ) → v < n → 0 < r → r < t + 1 → get_or (begun_tables n (t + 1) s old).appearances.counts (v * (t + 1) + r) 0 ≡ 0
      later_counts v r h low last =
          other_counts (v * (t + 1) + r) (place_below v r n (t + 1) (n * (t + 1)) h last (omega arith)) (later_apart v r h low last)

-- ---- the end

module _ (bs : List ℕ) (n t : ℕ) (terms : Terms) (s : ℕ) (ok : plan_fault bs n t ≡ 0) where
  -- an entry of walks to an appearance holds its hops and count
  pub holds_appearance :
      (x : Table) (i v u : ℕ) → EntryAt (reaching bs n t terms s v u) x i → EntryHolds x i (shortest_walks (plan_of bs n t terms) s v u)
  unfolding shortest_walks is_walk at_appearance
  holds_appearance x i v u e =
      let b = bounded_ends (plan_of bs n t terms) (slots_within bs n t terms ok) s (is_appearance v u) in
      let same = fewest_unique e.fewest (fewest_shortest (plan_of bs n t terms) (start s) (is_appearance v u) b (few_slots bs n t terms ok)) in
      record {
        hops_there = same;
        count_there = e.count ∙
            ap stored (ap (reaching bs n t terms s v u) same ∙ sym (count_shortest (plan_of bs n t terms) (start s) (is_appearance v u) b));
      }

  -- an entry of all walks to a station holds its hops and count
  pub holds_station :
      (x : Table) (i v : ℕ) → EntryAt (present bs n t terms s v t) x i → EntryHolds x i (shortest_walks_to (plan_of bs n t terms) s v)
  unfolding plan_of shortest_walks_to
  holds_station x i v e =
      let b = bounded_ends (plan_of bs n t terms) (slots_within bs n t terms ok) s (is_at v) in
      let all = entry_ext (λ k. sym (heard_all (plan_of bs n t terms) s everywhere (slots_within bs n t terms ok) v k)) e in
      let same = fewest_unique all.fewest (fewest_shortest (plan_of bs n t terms) (start s) (is_at v) b (few_slots bs n t terms ok)) in
      record {
        hops_there = same;
        count_there = all.count ∙
            ap stored (ap (total (plan_of bs n t terms) everywhere (start s) (λ y. cond (is_at v y) 1 0)) same ∙
            sym (count_shortest (plan_of bs n t terms) (start s) (is_at v) b));
      }

  -- once the last slot is settled the tables are filled
  pub end_state :
      (q : ℕ) → 0 < q → (old x : Tables) (j : ℕ) → TablesState bs n t terms s q old (t + q) j x → FilledTables bs n t terms s old x
  end_state q some old x j st =
      let all : t + q - q ≡ t = omega arith in
      record {
        appearance = λ v u h last. holds_appearance x.appearances _ v u (st.complete v u h (omega arith) last);
        station = λ v h.
            holds_station x.stations v v
            (subst (λ e. EntryAt (present bs n t terms s v e) x.stations v) all (st.station v h));
        appearances_beyond = st.appearances_beyond;
        stations_beyond = st.stations_beyond;
      }
