-- Filled tables are document 01's tables of reach, or give cause 9 and are cleared. Assumes nothing.
use Prim.Native.Nat.{ℕ, ◌+◌, ◌-◌, ◌*◌, ◌/◌, ◌%◌, ◌^◌, ◌<◌}
use native.Mathlib.Omega.{arith}
use native.Mathlib.Nat.{div-add-mod', mod-lt, div-lt_iff_lt-mul}
use mathlib.Core.Path.{◌≡◌, sym, ap₂, subst, ◌∙◌}
use mathlib.Core.Bool.{true, false, ◌||◌}
use mathlib.Core.Logic.{inl, inr, ⊎_elim}
use mathlib.Core.List.{List}
use borrow.Author.Tests.{ltb-false}
use lib.Dec.{ltb}
use Rattle.temporal.specs.Plan.{Terms}
use Rattle.temporal.specs.Lists.{any, below}
use Rattle.temporal.specs.Walk.{is_at, is_appearance, is_walk}
use Rattle.temporal.specs.Shortest.{shortest_walks, shortest_walks_to, hops, count}
use Rattle.temporal.specs.Bytes.{plan_of}
use Rattle.temporal.specs.Cause.{plan_fault, is_too_many}
use Rattle.temporal.specs.Outcome.{Outcome, over, cleared, ReachTables, appearance_table, station_table, reached}
use Rattle.walks.proofs.Accepted.{accepted}
use Rattle.walks.proofs.Adequacy.{bounded_ends}
use Rattle.temporal.proofs.CauseLaws.{or_false_left, or_false_right}
use Rattle.lists.proofs.ListLaws.{any_ext, any_false, mem_below}
use Rattle.walks.proofs.PlanLaws.{slots_within}
use Rattle.walks.proofs.ShortestLaws.{hops_bound}
use Rattle.entries.specs.Entry.{stored}
use Rattle.entries.proofs.CountLaws.{stored_small}
use Rattle.reach_entries.specs.Table.{table_overflows, Fits}
use Rattle.reach_entries.specs.Pass.{Tables, tables_overflow, emptied_tables, EntryHolds, FilledTables}
use Rattle.lists.proofs.BufferLaws.{over_by, fill_beyond, get_d_made_law, length_made}
use Rattle.reach.specs.Answer.{lent_tables}
use Rattle.reach.proofs.OutcomeLaws.{Few, any_places, overflows_exactly}

-- the four lists as document 01's tables
abbrev pub lent_of : Tables → ReachTables
lent_of x = lent_tables x.appearances.hops x.appearances.counts x.stations.hops x.stations.counts

module _ (bs : List ℕ) (n t : ℕ) (terms : Terms) (s : ℕ) (ok : plan_fault bs n t ≡ 0) where
  few_walks : (v u : ℕ) → Few (shortest_walks (plan_of bs n t terms) s v u)
  unfolding shortest_walks is_walk plan_of
  few_walks v u =
      let slots = (accepted bs n t ok).slots in
      ⊎_elim inl (λ h. inr (omega arith))
      (hops_bound (bounded_ends (plan_of bs n t terms) (slots_within bs n t terms ok) s (is_appearance v u)))

  few_station : (v : ℕ) → Few (shortest_walks_to (plan_of bs n t terms) s v)
  unfolding shortest_walks_to plan_of
  few_station v =
      let slots = (accepted bs n t ok).slots in
      ⊎_elim inl (λ h. inr (omega arith)) (hops_bound (bounded_ends (plan_of bs n t terms) (slots_within bs n t terms ok) s (is_at v)))

  module _ (old x : Tables) (f : FilledTables bs n t terms s old x) where
    -- some entry overflows exactly where cause 9 holds
    pub overflow_exactly : tables_overflow n (t + 1) x ≡ is_too_many (plan_of bs n t terms) s
    unfolding tables_overflow is_too_many plan_of
    overflow_exactly =
        ap₂ ◌||◌
        (any_places (table_overflows x.appearances) n (t + 1) (omega arith) ∙
        any_ext (below n) (λ v m.
        any_ext (below (t + 1)) (λ u k.
        overflows_exactly x.appearances (v * (t + 1) + u) _ (few_walks v u)
        (f.appearance v u ((mem_below n).0 m) ((mem_below (t + 1)).0 k)))))
        (any_ext (below n) (λ v m.
        overflows_exactly x.stations v _ (few_station v) (f.station v ((mem_below n).0 m))))

    module _ (none : is_too_many (plan_of bs n t terms) s ≡ false) where
      -- no count is over 2^64 - 1
      small_walks :
          (v u : ℕ) → v < n → u < t + 1 →
          stored (count (shortest_walks (plan_of bs n t terms) s v u)) ≡ count (shortest_walks (plan_of bs n t terms) s v u)
      unfolding is_too_many plan_of
      small_walks v u h k =
          stored_small _ (ltb-false _ _
          ((any_false _ (below (t + 1))).0
          ((any_false _ (below n)).0 (or_false_left _ _ none) v ((mem_below n).1 h)) u ((mem_below (t + 1)).1 k)))

      small_paths :
          (v : ℕ) → v < n → stored (count (shortest_walks_to (plan_of bs n t terms) s v)) ≡ count (shortest_walks_to (plan_of bs n t terms) s v)
      unfolding is_too_many plan_of
      small_paths v h =
          stored_small _ (ltb-false _ _
          ((any_false _ (below n)).0
          (or_false_right
          (any (λ v. any (λ u. ltb (2 ^ 64 - 1) (count (shortest_walks (plan_of bs n t terms) s v u))) (below (t + 1))) (below n))
          _ none) v ((mem_below n).1 h)))

      module _ (fits : Fits n (t + 1) old.appearances old.stations) where
        -- the entry of an appearance, by its place
        placed :
            (i : ℕ) → i < n * (t + 1) → EntryHolds x.appearances i (shortest_walks (plan_of bs n t terms) s (i / (t + 1)) (i % (t + 1)))
        placed i h =
            let width : 0 < t + 1 = omega arith in
            subst (λ k. EntryHolds x.appearances k (shortest_walks (plan_of bs n t terms) s (i / (t + 1)) (i % (t + 1))))
            (div-add-mod' i (t + 1))
            (f.appearance (i / (t + 1)) (i % (t + 1)) ((div-lt_iff_lt-mul width).1 h) (mod-lt i width))

        hops_table_law : x.appearances.hops ≡ over (appearance_table (plan_of bs n t terms) s hops) old.appearances.hops
        unfolding appearance_table plan_of
        hops_table_law =
            over_by (n * (t + 1)) _ _ old.appearances.hops (length_made _ (n * (t + 1)))
            (let e = f.appearances_beyond.hops_length in let g = fits.hops in omega arith)
            (λ i h. (placed i h).hops_there ∙ sym (get_d_made_law _ (n * (t + 1)) i h)) f.appearances_beyond.hops

        count_table_law : x.appearances.counts ≡ over (appearance_table (plan_of bs n t terms) s count) old.appearances.counts
        unfolding appearance_table plan_of
        count_table_law =
            over_by (n * (t + 1)) _ _ old.appearances.counts (length_made _ (n * (t + 1)))
            (let e = f.appearances_beyond.counts_length in let g = fits.counts in omega arith)
            (λ i h.
            let width : 0 < t + 1 = omega arith in
            (placed i h).count_there ∙
            small_walks (i / (t + 1)) (i % (t + 1)) ((div-lt_iff_lt-mul width).1 h) (mod-lt i width) ∙
            sym (get_d_made_law _ (n * (t + 1)) i h))
            f.appearances_beyond.counts

        station_hops_law : x.stations.hops ≡ over (station_table (plan_of bs n t terms) s hops) old.stations.hops
        unfolding station_table plan_of
        station_hops_law =
            over_by n _ _ old.stations.hops (length_made _ n)
            (let e = f.stations_beyond.hops_length in let g = fits.station_hops_law in omega arith)
            (λ v h. (f.station v h).hops_there ∙ sym (get_d_made_law _ n v h)) f.stations_beyond.hops

        station_counts_law : x.stations.counts ≡ over (station_table (plan_of bs n t terms) s count) old.stations.counts
        unfolding station_table plan_of
        station_counts_law =
            over_by n _ _ old.stations.counts (length_made _ n)
            (let e = f.stations_beyond.counts_length in let g = fits.station_counts_law in omega arith)
            (λ v h. (f.station v h).count_there ∙ small_paths v h ∙ sym (get_d_made_law _ n v h)) f.stations_beyond.counts

  -- filled tables without an overflow are the answer
  pub reached_filled :
      (old x : Tables) → Fits n (t + 1) old.appearances old.stations → FilledTables bs n t terms s old x →
      tables_overflow n (t + 1) x ≡ false →
      ◌≡◌ {A = Outcome (Unit {0}) ReachTables} (record { number = 0; values = tt; buffers = lent_of x })
      (reached (plan_of bs n t terms) s (lent_of old))
  unfolding reached
  reached_filled old x fits f e =
      let none = sym (overflow_exactly old x f) ∙ e in
      rw none
      (cc (
        hops_table_law old x f none fits,
        count_table_law old x f none fits,
        station_hops_law old x f none fits,
        station_counts_law old x f none fits,
      ))

  -- with an overflow the tables are cleared
  pub reached_cleared :
      (old x y : Tables) → FilledTables bs n t terms s old x → tables_overflow n (t + 1) x ≡ true → y ≡ emptied_tables n (t + 1) x →
      ◌≡◌ {A = Outcome (Unit {0}) ReachTables} (record { number = 9; values = tt; buffers = lent_of y })
      (reached (plan_of bs n t terms) s (lent_of old))
  unfolding reached emptied_tables cleared plan_of
  reached_cleared old x y f e empty =
      let many = sym (overflow_exactly old x f) ∙ e in
      let a = fill_beyond (n * (t + 1)) 0 x.appearances.hops old.appearances.hops f.appearances_beyond.hops in
      let b = fill_beyond (n * (t + 1)) 0 x.appearances.counts old.appearances.counts f.appearances_beyond.counts in
      let c = fill_beyond n 0 x.stations.hops old.stations.hops f.stations_beyond.hops in
      let d = fill_beyond n 0 x.stations.counts old.stations.counts f.stations_beyond.counts in
      rw (many, empty) (cc (a, b, c, d))
