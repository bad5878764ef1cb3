-- The work area from one step of the tallies to the next.
-- Assumes nothing.
use Prim.Native.Nat.{ℕ, ◌+◌, ◌-◌, ◌*◌, ◌/◌, ◌%◌, ◌^◌, ◌<◌, ◌≤◌}
use mathlib.Core.Path.{◌≡◌, refl, sym, ap, ◌∙◌}
use mathlib.Core.Bool.{Bool, true, false, cond}
use mathlib.Core.List.{List}
use mathlib.Core.Logic.{◌⊎◌, inl, inr, ⊎_elim, ◌≢◌, by_cases}
use native.Mathlib.Omega.{arith}
use native.Mathlib.Decide.{ℕ_discrete, dec_lt}
use native.Mathlib.Nat.{mul-le-mul, mul_assoc, le_refl, add-mul}
use lib.Arith.{digits_lt, digits_div}
use lib.Dec.{eqb}
use lib.ListN.{get_or}
use Rattle.temporal.specs.Plan.{Plan, Terms}
use Rattle.temporal.specs.Bytes.{plan_of}
use Rattle.temporal.specs.Shortest.{shortest_walks_to, hops, count, through}
use Rattle.pass.specs.Row.{part_size}
use Rattle.pass.specs.Column.{lanes_by, columns_in, column_at}
use Rattle.pass.proofs.WidthLaws.{column_entry}
use Rattle.lanes.specs.Lane.{lane, ones, lanes_of, width_of}
use Rattle.tallies.proofs.LaneLaws.{full_column}
use Rattle.forward.specs.Passed.{PackedCounted}
use Rattle.tallies.specs.Progress.{pair_term, load_term, TallyEntry, Kept, Rows, stations_in, Working, added_at, Addable}
use Rattle.tallies.proofs.TermLaws.{Nothing, nothing_self, nothing_through, through_destination, through_none, partly_at_most}
use Rattle.tallies.proofs.TermLaws.{pair_at_most, load_at_most_whole}
use Rattle.tallies.proofs.AddLaws.{Moved, moved_added, entry_nothing, entry_added}

-- a row's entry lies in the pass's part of the work area
pub row_place : (n block z j : ℕ) → z < n → j < block → 2 * n + z * block + j < part_size n block
row_place n block z j h g = omega (arith, digits_lt h g, mul_assoc 2 n block)

-- a column is the same where the pass's part is
column_front : (n block split z j : ℕ) (w x : List ℕ) → z < n → j < columns_in (lanes_by split) block
    → ((i : ℕ) → i < part_size n block → get_or x i 0 ≡ get_or w i 0)
    → column_at (lanes_by split) x (2 * n + z * block) j ≡ column_at (lanes_by split) w (2 * n + z * block) j
column_front n block split z j w x h g same = go (eqb (2 ^ split) 1) g
  where
    go : (b : Bool) → j < cond b block (block * 2 ^ split)
        → cond b (get_or x (2 * n + z * block + j) 0) (lane (64 / 2 ^ split) (get_or x (2 * n + z * block + j / 2 ^ split) 0) (j % 2 ^ split))
        ≡ cond b (get_or w (2 * n + z * block + j) 0) (lane (64 / 2 ^ split) (get_or w (2 * n + z * block + j / 2 ^ split) 0) (j % 2 ^ split))
    go true i = same (2 * n + z * block + j) (row_place n block z j h i)
    go false i =
        ap (λ y. lane (64 / 2 ^ split) y (j % 2 ^ split))
        (same (2 * n + z * block + j / 2 ^ split) (row_place n block z (j / 2 ^ split) h (column_entry split j block i)))

-- the entry that holds a station
entry_of : (split e j : ℕ) → e * 2 ^ split ≤ j → j < (e + 1) * 2 ^ split → j / 2 ^ split ≡ e
entry_of split e j from to =
    let up : e * 2 ^ split + (j - e * 2 ^ split) ≡ j = omega arith in
    let more = add-mul e 1 (2 ^ split) in
    sym (ap (λ x. x / 2 ^ split) up) ∙ digits_div e (omega arith)

-- what the pass left stays where only the tallies change
counted_front : (bs : List ℕ) (n t : ℕ) (terms : Terms) (s low block split base : ℕ) (w x : List ℕ) → part_size n block ≤ base
    → ((i : ℕ) → i < base → get_or x i 0 ≡ get_or w i 0)
    → PackedCounted bs n t terms s low block split w → PackedCounted bs n t terms s low block split x
counted_front bs n t terms s low block split base w x area same c =
    record {
      stations = record {
        station_hops_law = λ z h. same z (omega arith) ∙ c.stations.station_hops_law z h;
        station_counts_law = λ z h. same (n + z) (omega arith) ∙ c.stations.station_counts_law z h;
        rows = λ z j h g. absurd (omega arith);
      };
      rows = λ z j h g within d few.
          rw (column_front n block split z j w x h g (λ i inside. same i (omega arith))) (c.rows z j h g within d few);
      thin = c.thin;
    }

-- the entries of another station stay
entry_moved : (p : Plan) (n base s u v k : ℕ) (w x : List ℕ) → Moved n base v w x → u < n → u ≢ v
    → TallyEntry p n base s u k w → TallyEntry p n base s u k x
entry_moved p n base s u v k w x m h d e =
    record { pairs_there = m.other_pairs u h d ∙ e.pairs_there; load_there = m.other_loads u h d ∙ e.load_there }

pub kept_over : (n base : ℕ) {a b c : List ℕ} → Kept n base a b → Kept n base b c → Kept n base a c
kept_over n base f g =
    record { beyond = g.beyond ∙ f.beyond; same_length = g.same_length ∙ f.same_length }

pub kept_same : (n base : ℕ) (a : List ℕ) → Kept n base a a
kept_same n base a = record { beyond = refl; same_length = refl }

module _ (bs : List ℕ) (n t : ℕ) (terms : Terms) (base s low : ℕ) (rows : Rows) where
  -- from here on the list itself is the one to compare with
  pub working_again : {z j : ℕ} {old w : List ℕ} → Working bs n t terms base s low rows z j old w
      → Working bs n t terms base s low rows z j w w
  working_again {w = w} k =
      record {
        accepted = k.accepted;
        source = k.source;
        inside = k.inside;
        columns = k.columns;
        few = k.few;
        room = k.room;
        counted = k.counted;
        state = k.state;
        kept = kept_same n base w;
      }

  -- two stretches in turn
  pub working_over : {z y i j : ℕ} {old w x : List ℕ} → Working bs n t terms base s low rows z j old w
      → Working bs n t terms base s low rows y i w x → Working bs n t terms base s low rows y i old x
  working_over k m =
      record {
        accepted = m.accepted;
        source = m.source;
        inside = m.inside;
        columns = m.columns;
        few = m.few;
        room = m.room;
        counted = m.counted;
        state = m.state;
        kept = kept_over n base k.kept m.kept;
      }

  -- a destination whose every term is 0 needs no step
  working_skip : (z : ℕ) {old w : List ℕ} → Working bs n t terms base s low rows z 0 old w
      → ((v : ℕ) → Nothing (plan_of bs n t terms) v s z) → Working bs n t terms base s low rows (z + 1) 0 old w
  working_skip z {w = w} k none =
      let p = plan_of bs n t terms in
      record {
        accepted = k.accepted;
        source = k.source;
        inside = k.inside;
        columns = k.columns;
        few = k.few;
        room = k.room;
        counted = k.counted;
        state =
            record {
              done = k.state.done;
              ahead = λ v g h. absurd (omega arith);
              here = λ v g h. entry_nothing p n base s v z w (none v) (k.state.here v g h);
              later = k.state.later;
            };
        kept = k.kept;
      }

  -- the source is no destination
  pub working_self : (z : ℕ) {old w : List ℕ} → Working bs n t terms base s low rows z 0 old w → z ≡ s
      → Working bs n t terms base s low rows (z + 1) 0 old w
  working_self z k e = working_skip z k (λ v. rw e (nothing_self (plan_of bs n t terms) v s))

  -- a destination without a walk adds nothing
  pub working_unreached : (z : ℕ) {old w : List ℕ} → Working bs n t terms base s low rows z 0 old w → z < n
      → 65535 ≤ get_or w z 0 → Working bs n t terms base s low rows (z + 1) 0 old w
  working_unreached z k h far =
      working_skip z k (λ v.
      nothing_through (plan_of bs n t terms) v s z
      (through_none bs n t terms k.accepted s z v (omega (arith, k.counted.stations.station_hops_law z h))))

  -- a row that is done
  pub working_row : (z : ℕ) {j : ℕ} {old w : List ℕ} → Working bs n t terms base s low rows z j old w → rows.stations ≤ j
      → Working bs n t terms base s low rows (z + 1) 0 old w
  working_row z k h =
      record {
        accepted = k.accepted;
        source = k.source;
        inside = k.inside;
        columns = k.columns;
        few = k.few;
        room = k.room;
        counted = k.counted;
        state =
            record {
              done = k.state.done;
              ahead = λ v g l. absurd (omega arith);
              here = λ v g l. k.state.ahead v (omega arith) (omega arith);
              later = k.state.later;
            };
        kept = k.kept;
      }

  module _ (z j : ℕ) {old w : List ℕ} (k : Working bs n t terms base s low rows z j old w) (destination : z < n)
      (in_block : j < rows.stations) (near : hops (shortest_walks_to (plan_of bs n t terms) s z) < 65535) where
    -- the next station can be added to
    pub working_addable : Addable n base low rows.entries rows.split z j w
    working_addable =
        let p = plan_of bs n t terms in
        let e = k.state.here (low + j) (omega arith) (omega arith) in
        let r = k.room in
        let few = k.source in
        let inside = k.inside in
        let sources : s ≤ 256 = omega arith in
        record {
          room = k.room;
          station = omega arith;
          destination = destination;
          few = k.few;
          in_block = let m = k.columns in omega arith;
          row = λ d.
              omega (arith, k.counted.rows z j destination (let m = k.columns in omega arith) (omega arith) d near, k.counted.stations.station_counts_law z destination);
          few_pairs =
              omega (
                arith,
                e.pairs_there,
                partly_at_most (pair_term p (low + j)) n s 1 z (pair_at_most p (low + j)),
                mul-le-mul sources r.stations,
              );
          small_load =
              omega (
                arith,
                e.load_there,
                partly_at_most (load_term p (low + j)) n s (2 ^ 32) z (load_at_most_whole p (low + j)),
                mul-le-mul sources (mul-le-mul r.stations (le_refl (2 ^ 32))),
              );
        }

    -- one station more has destination z
    pub working_add : s ≢ z → Working bs n t terms base s low rows z (j + 1) old (added_at n base low rows.entries rows.split z j w)
    unfolding added_at
    working_add apart =
        let p = plan_of bs n t terms in
        let r = k.room in
        let inside = k.inside in
        let c = get_or w (n + z) 0 in
        let past = column_at (lanes_by rows.split) w (2 * n + z * rows.entries) j in
        let m = moved_added n base w (low + j) (omega arith) r.fits z c past in
        let e = k.state.here (low + j) (omega arith) (omega arith) in
        let counts = k.counted.stations.station_counts_law z destination in
        record {
          accepted = k.accepted;
          source = k.source;
          inside = k.inside;
          columns = k.columns;
          few = k.few;
          room =
              record {
                stations = r.stations;
                area = r.area;
                fits = let l = m.kept.same_length in let f = r.fits in omega arith;
              };
          counted = counted_front bs n t terms s low rows.entries rows.split base w _ r.area m.front k.counted;
          state =
              record {
                done = λ v g. entry_moved p n base s v (low + j) n w _ m (omega arith) (omega arith) (k.state.done v g);
                ahead = λ v g l.
                    by_cases (ℕ_discrete v (low + j))
                    (λ q. rw q
                    (entry_added p n base s (low + j) z c past w (omega arith) r.fits apart counts
                    (λ d. k.counted.rows z j destination (let m = k.columns in omega arith) (omega arith) d near) e))
                    (λ d. entry_moved p n base s v (low + j) (z + 1) w _ m (omega arith) d
                    (k.state.ahead v g (omega arith)));
                here = λ v g l.
                    entry_moved p n base s v (low + j) z w _ m (omega arith) (omega arith)
                    (k.state.here v (omega arith) l);
                later = λ v g l.
                    entry_moved p n base s v (low + j) 0 w _ m (omega arith) (omega arith) (k.state.later v g l);
              };
          kept = kept_over n base k.kept m.kept;
        }

  -- the stations of an entry whose every lane holds the count need no step
  pub working_jump : (z e : ℕ) {old w : List ℕ} → Working bs n t terms base s low rows z (stations_in rows e) old w → z < n
      → hops (shortest_walks_to (plan_of bs n t terms) s z) < 65535
      → get_or w (2 * n + z * rows.entries + e) 0 ≡ get_or w (n + z) 0 * ones (width_of rows.split) (lanes_of rows.split)
      → Working bs n t terms base s low rows z (stations_in rows (e + 1)) old w
  working_jump z e {w = w} k destination near full =
      record {
        accepted = k.accepted;
        source = k.source;
        inside = k.inside;
        columns = k.columns;
        few = k.few;
        room = k.room;
        counted = k.counted;
        state =
            record {
              done = k.state.done;
              ahead = λ v g h. by_cases (dec_lt v (low + stations_in rows e)) (k.state.ahead v g) (λ past. next v g h (omega arith));
              here = λ v g h. k.state.here v (let m = rises in omega arith) h;
              later = k.state.later;
            };
        kept = k.kept;
      }
    where
      p : Plan
      p = plan_of bs n t terms

      rises : stations_in rows e ≤ stations_in rows (e + 1)
      rises = let more = add-mul e 1 (2 ^ rows.split) in omega arith

      counts : get_or w (n + z) 0 ≡ count (shortest_walks_to (plan_of bs n t terms) s z)
      counts = k.counted.stations.station_counts_law z destination

      thin_here : (2 ^ rows.split ≡ 1) ⊎ (count (shortest_walks_to (plan_of bs n t terms) s z) < 2 ^ (64 / 2 ^ rows.split))
          → (2 ^ rows.split ≡ 1) ⊎ (get_or w (n + z) 0 < 2 ^ (64 / 2 ^ rows.split))
      thin_here = ⊎_elim inl (λ (h : count (shortest_walks_to (plan_of bs n t terms) s z) < 2 ^ (64 / 2 ^ rows.split)). inr (omega (arith, counts)))

      -- none of these stations is inside a walk
      none : (j : ℕ) → e * 2 ^ rows.split ≤ j → j < (e + 1) * 2 ^ rows.split → j < rows.stations → through (plan_of bs n t terms) s z (low + j) ≡ 0
      none j from to m =
          by_cases (ℕ_discrete (low + j) z)
          (λ same. ap (through (plan_of bs n t terms) s z) same ∙ through_destination (plan_of bs n t terms) s z)
          (λ other.
          let entry : j / 2 ^ rows.split ≡ e = entry_of rows.split e j from to in
          let column : column_at (lanes_by rows.split) w (2 * n + z * rows.entries) j ≡ get_or w (n + z) 0 =
          full_column rows.split (get_or w (n + z) 0) k.few (thin_here (k.counted.thin z destination near)) (2 * n + z * rows.entries) j w
          (rw entry full) in
          let all = k.counted.rows z j destination (let c = k.columns in omega arith) (let i = k.inside in omega arith) other near in
          omega (arith, all, column, counts))

      next : (v : ℕ) → low ≤ v → v < low + stations_in rows (e + 1) → low + stations_in rows e ≤ v → TallyEntry (plan_of bs n t terms) n base s v (z + 1) w
      next v g h past =
          let j = v - low in
          let is : low + (v - low) ≡ v = omega arith in
          let m : v - low < rows.stations = omega arith in
          let from : e * 2 ^ rows.split ≤ v - low = omega arith in
          let zero = none (v - low) from (omega arith) m in
          entry_nothing (plan_of bs n t terms) n base s v z w (nothing_through (plan_of bs n t terms) v s z (rw is at zero))
          (k.state.here v past (omega arith))
