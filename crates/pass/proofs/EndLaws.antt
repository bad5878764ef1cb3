-- The end of the pass: what the settled entries say of the shortest walks by its last slot, and what large sequences say of
-- cause 9.
-- Assumes nothing.
use Rattle.std.proofs.Common.{◌≡◌, ℕ, zero, suc, ◌+◌, ◌*◌, ◌/◌, ◌%◌, ◌^◌, ◌<◌, ◌≤◌, Bool, true, false, cond, eqb, ltb, ◌≢◌, List, get_or, sym, refl, ap, ◌∙◌, subst, inl, inr, ⊎_elim, mod-eq_of_lt, div-lt_iff_lt-mul, arith, ltb-false, le-ltb, lt-ltb, eqb-true}
use borrow.Author.Tests.{eqb-false}
use Rattle.temporal.specs.Lists.{below}
use Rattle.temporal.specs.Plan.{Plan, Terms, start}
use Rattle.temporal.specs.Walk.{is_appearance, is_walk}
use Rattle.temporal.specs.Shortest.{shortest_walks, hops, count}
use Rattle.temporal.specs.Set.{touched_in}
use Rattle.temporal.specs.Foremost.{arrives_by, walks_by}
use Rattle.temporal.specs.Bytes.{plan_of}
use Rattle.temporal.specs.Cause.{plan_fault, appearance_too_many, station_too_many}
use Rattle.lists.proofs.ListLaws.{any_true, any_false, mem_below}
use Rattle.walks.proofs.ForemostLaws.{shortest_by_last}
use Rattle.walks.proofs.WalkLaws.{SlotsWithin}
use Rattle.walks.proofs.PlanLaws.{slots_within}
use Rattle.walks.proofs.Adequacy.{bounded_ends}
use Rattle.counting.proofs.Weights.{total, everywhere, total_zero}
use Rattle.counting.proofs.Fewest.{Fewest, fewest_ext, fewest_unique, fewest_shortest, count_shortest}
use Rattle.counting.proofs.Recurrence.{at_appearance, start_later}
use Rattle.counting.proofs.Through.{touched_avoiding}
use Rattle.lanes.specs.Lane.{lane, packed, apart}
use Rattle.lanes.proofs.LaneLaws.{lane_mod, station_split, station_lane_below}
use Rattle.pass.specs.Row.{row_at}
use Rattle.pass.specs.Column.{Lanes, columns_in, column_at}
use Rattle.entries.specs.Entry.{stored}
use Rattle.entries.proofs.CountLaws.{stored_small}
use Rattle.entries.proofs.EntryLaws.{Entry, Large, Small, overflow_large, overflow_small}
use Rattle.entries.proofs.HopLaws.{few_slots}
use Rattle.pass.specs.Entry.{area_overflows}
use Rattle.pass.specs.PassedColumns.{CountedBy}
use Rattle.pass.proofs.BestLaws.{Best}
use Rattle.pass.proofs.ColumnLaws.{may_leave, other_free}
use Rattle.pass.proofs.MaskLaws.{Thin, Filled, held_count}
use Rattle.pass.proofs.StateLaws.{AreaState}
use Rattle.pass.proofs.PlanWalks.{kept, kept_less, walks_at}

-- ---- appearances

module _ (p : Plan) (fits : SlotsWithin p) (few : p.slots < 65535) (s v u : ℕ) where
  -- the shortest walks to an appearance are as many as its sequence has at its fewest hops
  appearance_fewest : Fewest (total p everywhere (start s) (at_appearance v u)) (hops (shortest_walks p s v u))
  unfolding shortest_walks is_walk at_appearance
  appearance_fewest =
      fewest_shortest p (start s) (is_appearance v u) (bounded_ends p fits s (is_appearance v u)) few

  appearance_count :
      count (shortest_walks p s v u) ≡ total p everywhere (start s) (at_appearance v u) (hops (shortest_walks p s v u))
  unfolding shortest_walks is_walk at_appearance
  appearance_count = count_shortest p (start s) (is_appearance v u) (bounded_ends p fits s (is_appearance v u))

  -- where that sequence is small, so is the count
  pub appearance_small : {N : ℕ → ℕ} → ((k : ℕ) → total p everywhere (start s) (at_appearance v u) k ≡ N k) → Small N
      → count (shortest_walks p s v u) ≤ 18446744073709551615
  appearance_small e small =
      let h = hops (shortest_walks p s v u) in
      omega (arith, appearance_count, e h, small.small h (fewest_ext e appearance_fewest))

  -- where it is large, so is the count
  pub appearance_large : {N : ℕ → ℕ} → ((k : ℕ) → total p everywhere (start s) (at_appearance v u) k ≡ N k) → Large N
      → 18446744073709551615 < count (shortest_walks p s v u)
  appearance_large {N} e large =
      let h = hops (shortest_walks p s v u) in
      let same : large.hops ≡ h = fewest_unique large.fewest (fewest_ext e appearance_fewest) in
      omega (arith, appearance_count, e h, subst (λ x. 18446744073709551615 < N x) same large.large)

-- in slot 0 no appearance has more than one
pub start_small : (p : Plan) (s v : ℕ) → Small (total p everywhere (start s) (at_appearance v 0))
unfolding at_appearance
start_small p s v = record { small = λ h f. go h }
  where
    one : (b : Bool) → cond b 1 0 ≤ 18446744073709551615
    one true = omega arith
    one false = omega arith

    go : (h : ℕ) → total p everywhere (start s) (at_appearance v 0) h ≤ 18446744073709551615
    go zero = rw (total_zero p everywhere (start s) (at_appearance v 0)) (one (is_appearance v 0 (start s)))
    go (suc k) = rw (start_later p s everywhere v k) (omega arith)

-- one count is packed as itself
packed_one : (b k : ℕ) → k ≡ 1 → (f : ℕ → ℕ) → packed b k f ≡ f 0
unfolding packed
packed_one b k e f = rw e (omega arith)

module _ (bs : List ℕ) (n t : ℕ) (terms : Terms) (ok : plan_fault bs n t ≡ 0) (s : ℕ) where
  -- ---- cause 9

  -- an appearance with too many is a cause of refusal
  pub too_many_appearance : (v u : ℕ) → v < n → u ≤ t
      → 18446744073709551615 < count (shortest_walks (plan_of bs n t terms) s v u)
      → appearance_too_many (plan_of bs n t terms) s ≡ true
  unfolding plan_of
  too_many_appearance v u hv hu big =
      (any_true _ (below n)).1 (
        v,
        (mem_below n).1 hv,
        (any_true (λ t'. ltb 18446744073709551615 (count (shortest_walks (plan_of bs n t terms) s v t'))) (below (t + 1))).1
            (u, (mem_below (t + 1)).1 (omega arith), lt-ltb 18446744073709551615 _ big),
      )

  -- where no appearance has too many there is no such cause
  pub few_appearances :
      ((v u : ℕ) → v < n → u ≤ t → count (shortest_walks (plan_of bs n t terms) s v u) ≤ 18446744073709551615)
      → appearance_too_many (plan_of bs n t terms) s ≡ false
  unfolding plan_of
  few_appearances small =
      (any_false _ (below n)).1 (λ v m. (any_false _ (below (t + 1))).1 (λ u l. le-ltb 18446744073709551615 _
      (small v u ((mem_below n).0 m) (let h = (mem_below (t + 1)).0 l in omega arith))))

  -- where no station has too many by the last slot there is no such cause either
  pub few_stations : ((z : ℕ) → z < n → count (walks_by (plan_of bs n t terms) s z t) ≤ 18446744073709551615)
      → station_too_many (plan_of bs n t terms) s ≡ false
  unfolding plan_of
  few_stations small =
      (any_false _ (below n)).1 (λ v m.
      le-ltb 18446744073709551615 _ (rw (shortest_by_last bs n t terms ok s v) at (small v ((mem_below n).0 m))))

  -- and where there is none, no appearance has too many
  pub appearances_few : appearance_too_many (plan_of bs n t terms) s ≡ false → (v u : ℕ) → v < n → u ≤ t
      → count (shortest_walks (plan_of bs n t terms) s v u) ≤ 18446744073709551615
  unfolding plan_of
  appearances_few none v u hv hu =
      ltb-false 18446744073709551615 (count (shortest_walks (plan_of bs n t terms) s v u))
      ((any_false _ (below (t + 1))).0 ((any_false _ (below n)).0 none v ((mem_below n).1 hv)) u ((mem_below (t + 1)).1 (omega arith)))

  -- ---- stations

  -- what is settled by slot e is all that ends at a station by slot e
  station_all : (z e k : ℕ)
      → kept (plan_of bs n t terms) s everywhere z e k
      ≡ total (plan_of bs n t terms) everywhere (start s) (λ y. cond (arrives_by z e y) 1 0) k
  unfolding kept everywhere
  station_all z e k = refl

  -- and so are those under a permission to go on from there
  station_may : (g : ℕ → Bool) (z e k : ℕ) → g z ≡ true
      → kept (plan_of bs n t terms) s g z e k
      ≡ total (plan_of bs n t terms) g (start s) (λ y. cond (arrives_by z e y) 1 0) k
  unfolding kept
  station_may g z e k q = rw q

  -- so its fewest hops and its number there are those of the shortest walks by slot e
  station_fewest : (z e : ℕ)
      → Fewest (kept (plan_of bs n t terms) s everywhere z e) (hops (walks_by (plan_of bs n t terms) s z e))
  unfolding walks_by
  station_fewest z e =
      fewest_ext (λ k. sym (station_all z e k))
      (fewest_shortest (plan_of bs n t terms) (start s) (arrives_by z e)
      (bounded_ends (plan_of bs n t terms) (slots_within bs n t terms ok) s (arrives_by z e))
      (few_slots bs n t terms ok))

  station_count : (z e : ℕ) → count (walks_by (plan_of bs n t terms) s z e)
      ≡ kept (plan_of bs n t terms) s everywhere z e (hops (walks_by (plan_of bs n t terms) s z e))
  unfolding walks_by
  station_count z e =
      count_shortest (plan_of bs n t terms) (start s) (arrives_by z e)
      (bounded_ends (plan_of bs n t terms) (slots_within bs n t terms ok) s (arrives_by z e))
      ∙ sym (station_all z e _)

  -- what the row of a station holds: counts by column, no more than all walks, and those of the column's permission where one may go on
  -- from the station itself
  pub record RowHeld (lay : Lanes) (col : ℕ → ℕ) (block : ℕ) (w : List ℕ) (e z : ℕ) : Type 0 where
    pub counts : ℕ → ℕ
    pub held : (i : ℕ) → i < block
        → get_or w (row_at n block z + i) 0 ≡ packed lay.width lay.lanes (λ l. counts (i * lay.lanes + l)) % 2 ^ 64
    pub less : (j : ℕ) → counts j ≤ kept (plan_of bs n t terms) s everywhere z e (get_or w z 0)
    pub avoiding : (j : ℕ) → may_leave s col j z ≡ true
        → counts j ≡ kept (plan_of bs n t terms) s (may_leave s col j) z e (get_or w z 0)

  -- entries of the walks by slot e, with their rows
  module _ (lay : Lanes) (full : Filled lay) (col : ℕ → ℕ) (block : ℕ) (w : List ℕ) (e : ℕ)
      (held : (z : ℕ) → z < n → Entry (kept (plan_of bs n t terms) s everywhere z e) (get_or w z 0) (get_or w (z + n) 0))
      (rows : (z : ℕ) → z < n → get_or w z 0 < 65535 → RowHeld lay col block w e z)
      (thin : (z : ℕ) → z < n → get_or w z 0 < 65535 → Thin lay (get_or w (z + n) 0)) where
    -- a station's settled entry overflows just where its count is over 2^64 - 1
    pub entries_overflow : (z : ℕ) → z < n
        → area_overflows n w z ≡ ltb 18446744073709551615 (count (walks_by (plan_of bs n t terms) s z e))
    entries_overflow z q = go (area_overflows n w z) refl
      where
        go : (b : Bool) → area_overflows n w z ≡ b → b ≡ ltb 18446744073709551615 (count (walks_by (plan_of bs n t terms) s z e))
        go true f =
            let large = overflow_large (held z q) f in
            let same = fewest_unique large.fewest (station_fewest z e) in
            let big =
            subst (λ x. 18446744073709551615 < kept (plan_of bs n t terms) s everywhere z e x) same large.large in
            sym (lt-ltb 18446744073709551615 (count (walks_by (plan_of bs n t terms) s z e))
            (omega (arith, station_count z e)))
        go false f =
            let small = (overflow_small (held z q) f).small _ (station_fewest z e) in
            sym (le-ltb 18446744073709551615 (count (walks_by (plan_of bs n t terms) s z e))
            (omega (arith, station_count z e)))

    -- its hops are those of the shortest walks
    pub entries_hops : (z : ℕ) → z < n → get_or w z 0 ≡ hops (walks_by (plan_of bs n t terms) s z e)
    entries_hops z q = fewest_unique (held z q).fewest (station_fewest z e)

    -- column j of a row, where the count is below 2^64
    column_held : (z j : ℕ) (q : z < n) (some : get_or w z 0 < 65535)
        → kept (plan_of bs n t terms) s everywhere z e (get_or w z 0) ≤ 18446744073709551615 → j < columns_in lay block
        → column_at lay w (row_at n block z) j ≡ (rows z q some).counts j
    column_held z j q some few = go (eqb lay.lanes 1) refl
      where
        row : RowHeld lay col block w e z
        row = rows z q some

        whole_row : lay.lanes ≡ 1 → j < block → get_or w (row_at n block z + j) 0 ≡ row.counts j
        whole_row one i =
            let small = row.less j in
            row.held j i
            ∙ ap (λ x. x % 2 ^ 64) (packed_one lay.width lay.lanes one (λ l. row.counts (j * lay.lanes + l))
            ∙ ap row.counts (rw one (omega arith)))
            ∙ mod-eq_of_lt (omega arith)

        lane_row : lay.lanes ≢ 1 → j < block * lay.lanes
            → lane lay.width (get_or w (row_at n block z + j / lay.lanes) 0) (j % lay.lanes) ≡ row.counts j
        lane_row several i =
            let within : j / lay.lanes < block = (div-lt_iff_lt-mul full.some).1 i in
            rw (row.held (j / lay.lanes) within)
            (lane_mod lay.width lay.lanes full.fill (apart (λ l h. fits (j / lay.lanes * lay.lanes + l))) (j % lay.lanes)
            (station_lane_below lay.lanes j full.some) (fits (j / lay.lanes * lay.lanes + j % lay.lanes))
            ∙ ap row.counts (station_split lay.lanes j))
          where
            fits : (i : ℕ) → row.counts i < 2 ^ lay.width
            fits i =
                ⊎_elim (λ (one : lay.lanes ≡ 1). absurd (several one))
                (λ (c : (0 < get_or w (z + n) 0) × (get_or w (z + n) 0 < 2 ^ lay.width)).
                let count = (held z q).count in
                let same = held_count (kept (plan_of bs n t terms) s everywhere z e (get_or w z 0)) (omega (arith, count, c.0)) in
                omega (arith, row.less i, count, same, c.1))
                (thin z q some)

        go : (b : Bool) → eqb lay.lanes 1 ≡ b → j < cond b block (block * lay.lanes)
            → cond b (get_or w (row_at n block z + j) 0) (lane lay.width (get_or w (row_at n block z + j / lay.lanes) 0) (j % lay.lanes))
            ≡ row.counts j
        go true o i = whole_row (eqb-true lay.lanes 1 o) i
        go false o i = lane_row (eqb-false lay.lanes 1 o) i

    -- The entries are hops and counts, and a row says how many walks have no station of a column inside.
    pub entries_counted : CountedBy bs n t terms s e lay col block w
    unfolding may_leave
    entries_counted =
        record {
          station_hops_law = entries_hops;
          station_counts_law = λ z q few.
              let place : n + z ≡ z + n = omega arith in
              rw place ((held z q).count
              ∙ ap (λ h. stored (kept (plan_of bs n t terms) s everywhere z e h)) (entries_hops z q)
              ∙ ap stored (sym (station_count z e))
              ∙ stored_small _ few);
          rows = λ z c q i d few some.
              let h = hops (walks_by (plan_of bs n t terms) s z e) in
              let m = total (plan_of bs n t terms) (may_leave s col c) (start s) (λ y. cond (arrives_by z e y) 1 0) h in
              let parts : touched_in (plan_of bs n t terms) s z (walks_by (plan_of bs n t terms) s z e) (λ v. eqb (col v) c) + m
              ≡ count (walks_by (plan_of bs n t terms) s z e) =
              touched_avoiding bs n t terms ok s z e (λ v. eqb (col v) c) in
              let here = entries_hops z q in
              let there : get_or w z 0 < 65535 = omega arith in
              let all : kept (plan_of bs n t terms) s everywhere z e (get_or w z 0) ≡ count (walks_by (plan_of bs n t terms) s z e) =
              ap (kept (plan_of bs n t terms) s everywhere z e) here ∙ sym (station_count z e) in
              let row : column_at lay w (row_at n block z) c ≡ m =
              column_held z c q there (omega arith) i
              ∙ (rows z q there).avoiding c (other_free s col c z d)
              ∙ ap (kept (plan_of bs n t terms) s (may_leave s col c) z e) here
              ∙ station_may (may_leave s col c) z e h (other_free s col c z d) in
              omega arith;
          thin = λ z q few some.
              let here = entries_hops z q in
              ⊎_elim inl
              (λ (c : (0 < get_or w (z + n) 0) × (get_or w (z + n) 0 < 2 ^ lay.width)).
              let is = (held z q).count ∙ ap (λ h. stored (kept (plan_of bs n t terms) s everywhere z e h)) here
              ∙ ap stored (sym (station_count z e)) ∙ stored_small _ few in
              inr (omega (arith, is, c.1)))
              (thin z q (omega arith));
        }

  -- ---- the state of the pass in which nothing goes stale

  module _ (known : Bool) (lay : Lanes) (full : Filled lay) (col : ℕ → ℕ) (block q : ℕ) (old w : List ℕ) (e j : ℕ)
      (state : AreaState known lay n block q e old (walks_at (plan_of bs n t terms) s (may_leave s col) e j) w) where
    entry : (z : ℕ) → z < n → Best lay block 65535 (kept (plan_of bs n t terms) s everywhere z e)
        (λ c. kept (plan_of bs n t terms) s (may_leave s col c) z e) (get_or w z 0) (get_or w (z + n) 0)
        (λ c. get_or w (row_at n block z + c) 0)
    unfolding walks_at
    entry z h = state.settled z h

    row : (z : ℕ) → z < n → get_or w z 0 < 65535 → RowHeld lay col block w e z
    row z h some =
        record {
          counts = λ c. kept (plan_of bs n t terms) s (may_leave s col c) z e (get_or w z 0);
          held = λ i q. (entry z h).row i q some;
          less = λ c. kept_less (plan_of bs n t terms) s (may_leave s col c) z e (get_or w z 0);
          avoiding = λ c free. refl;
        }

    -- a station's settled entry overflows just where its count is over 2^64 - 1
    pub station_overflows : (z : ℕ) → z < n
        → area_overflows n w z ≡ ltb 18446744073709551615 (count (walks_by (plan_of bs n t terms) s z e))
    station_overflows = entries_overflow lay full col block w e (λ z h. (entry z h).entry) row state.thin

    -- its hops are those of the shortest walks
    pub at_hops : (z : ℕ) → z < n → get_or w z 0 ≡ hops (walks_by (plan_of bs n t terms) s z e)
    at_hops = entries_hops lay full col block w e (λ z h. (entry z h).entry) row state.thin

    -- The settled entries are hops and counts, and a row says how many walks have no station of a column inside.
    pub counted : CountedBy bs n t terms s e lay col block w
    counted = entries_counted lay full col block w e (λ z h. (entry z h).entry) row state.thin
