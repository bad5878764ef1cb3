-- The through counts of a pair, block after block: what one block gives, what the loop keeps, and what it gives at its end.
-- Assumes nothing.
use Prim.Native.Nat.{ℕ, ◌+◌, ◌-◌, ◌*◌, ◌<◌, ◌≤◌, min}
use native.Mathlib.Omega.{arith}
use native.Mathlib.Decide.{dec_lt, ℕ_discrete}
use native.Mathlib.Nat.{mul-le-mul_left}
use mathlib.Core.Path.{◌≡◌, refl, sym, ap, subst, ◌∙◌}
use mathlib.Core.Bool.{Bool, true, false, not, ◌&&◌, and-false, and-eq-true_iff}
use mathlib.Core.Logic.{◌≢◌, ◌⊎◌, inl, inr, ⊎_elim, by_cases}
use mathlib.Core.List.{List, []}
use borrow.Author.Tests.{ltb-true, eq-eqb, eqb-true}
use lib.Dec.{ltb, eqb}
use lib.ListN.{length, get_or, drop}
use Rattle.temporal.specs.Lists.{select}
use Rattle.temporal.specs.Plan.{Plan, Terms, units}
use Rattle.temporal.specs.Walk.{is_interior}
use Rattle.temporal.specs.Shortest.{hops, count, through_in}
use Rattle.temporal.specs.Foremost.{arrival, arrives_by, walks_by}
use Rattle.temporal.specs.Bytes.{plan_of}
use Rattle.temporal.specs.Cause.{is_too_many, plan_fault}
use Rattle.temporal.specs.Outcome.{work_size}
use Rattle.walks.proofs.Accepted.{accepted}
use Rattle.walks.proofs.Adequacy.{bounded_ends}
use Rattle.lists.proofs.BufferLaws.{later_drop}
use Rattle.walks.proofs.ForemostLaws.{foremost_at_most, foremost_by_arrival}
use Rattle.lists.proofs.ListLaws.{select_none}
use Rattle.walks.proofs.PlanLaws.{slots_within}
use Rattle.walks.proofs.ShortestLaws.{hops_empty, hops_bound}
use Rattle.pass.specs.Column.{block_column, whole}
use Rattle.std.specs.Prelude.{Option, Some, None, Ok, Err}
use Rattle.pass.specs.declared.Stopped.{Stopped}
use Rattle.pass.specs.PassedColumns.{SettledAt, EndedAs, ColumnsPassed, slot_of}
use Rattle.stale.specs.Depth.{DepthOf}
use Rattle.forward.specs.Passed.{pass_size, most_columns, Lent, DepthReady, UntilReady}
use Rattle.forward.proofs.SizeLaws.{first_part, some_column, whole_lent, area_fits}
use Rattle.forward.proofs.UseLaws.{block_row, not_settled, whole_few}
use Rattle.pair.specs.Throughs.{through_entry, Storing, StoredBlock, PairReady, last_slot, BlockReady}
use Rattle.pair.specs.Throughs.{PairBy, BlockDone, ThroughsReady, BlocksReady, Throughs}
use Rattle.pair.proofs.ThroughLaws.{entry_itself, entry_no_path, entry_rest}

-- an end is never inside
pub through_destination : (p : Plan) (s z : ℕ) (l : List (List ℕ)) → through_in p s z l z ≡ 0
unfolding is_interior
through_destination p s z l =
    ap length (select_none l (λ w m. rw (eq-eqb z z refl) (and-false (not (eqb z s)))))

-- of no walks, none has a station inside
pub through_no_path : (p : Plan) (s z v : ℕ) (l : List (List ℕ)) → l ≡ [] → through_in p s z l v ≡ 0
unfolding select
through_no_path p s z v l e = rw e

difference : (row through count whole : ℕ) → row + through ≡ count → whole ≡ count → whole - row ≡ through
difference row through count whole e f = omega arith

-- ---- one block

-- the source is not the station that the pass waits for
pub waits_for_another : (n s z until : ℕ) → s < n → s ≢ z → (until ≡ n) ⊎ (until ≡ z) → s ≢ until
waits_for_another n s z until source different asks =
    ⊎_elim (λ none q. omega arith) (λ same q. different (q ∙ same)) asks

module _ (bs : List ℕ) (n t : ℕ) (terms : Terms) (depth s z until low block : ℕ) (table area : List ℕ)
    (ready : BlockReady bs n t terms depth s z until low block table area) where
  ok : plan_fault bs n t ≡ 0
  ok = ready.accepted

  abbrev p : Plan
  p = plan_of bs n t terms

  other : s ≢ until
  other = waits_for_another n s z until ready.source ready.different ready.asks.which

  -- where the blocks before settled cause 9, it does not hold
  pub settled_few : (known : Bool) → known ≡ (ltb 0 low && eqb until n) → known ≡ true → is_too_many p s ≡ false
  settled_few known is e =
      let (later, none) = (and-eq-true_iff (ltb 0 low) (eqb until n)).0 (sym is ∙ e) in
      ready.few (ltb-true 0 low later) (eqb-true until n none)

  -- the pass can be made
  pub block_pass : UntilReady bs n t terms depth s until block area
  block_pass =
      record {
        accepted = ok;
        units = ready.units;
        deep = ready.deep;
        source = ready.source;
        other = other;
        waits = ready.asks.waits;
        fits = ready.fits;
      }

  module _ (area' : List ℕ) where
    -- a count over 2^64 - 1
    pub block_over :
        (f : Stopped) →
        ColumnsPassed bs n t terms s until whole (block_column low block) block (pass_size n t terms depth block) area area' (Err f) →
        BlockDone bs n t terms depth s z until low block table area table area' None
    unfolding slot_of
    block_over f passed =
        record {
          answer = not_settled bs n t terms s until ok other (block_column low block) block area' (Err f) passed.ends refl;
          before = λ v h. refl;
          table_beyond = refl;
          table_length = refl;
          area_beyond = passed.beyond;
          area_length = passed.same_length;
        }

    module _ (e : ℕ)
        (passed : ColumnsPassed bs n t terms s until whole (block_column low block) block (pass_size n t terms depth block) area area' (Ok e)) where
      at_end : SettledAt bs n t terms s until whole (block_column low block) block area' e
      unfolding EndedAs
      at_end = passed.ends

      -- the pair's walks by that slot are no more
      small : count (walks_by p s z e) ≤ 18446744073709551615
      unfolding plan_of
      small = ⊎_elim none_asked destination_asked ready.asks.which
        where
          none_asked : until ≡ n → count (walks_by p s z e) ≤ 18446744073709551615
          none_asked q = at_end.stations (omega arith) z ready.destination

          destination_asked : until ≡ z → count (walks_by p s z e) ≤ 18446744073709551615
          destination_asked q =
              let slot : e ≡ min t (arrival p s z) = at_end.slot ∙ ap (λ v. min t (arrival p s v)) q in
              rw (ap (walks_by p s z) slot ∙ foremost_by_arrival bs n t terms ok s z)
              (foremost_at_most p (slots_within bs n t terms ok) s z 18446744073709551615
              (λ x h. at_end.appearances z x ready.destination (omega arith)))

      -- the walks by that slot are none, or have few hops
      few_hops : (walks_by p s z e ≡ []) ⊎ (hops (walks_by p s z e) < 65535)
      unfolding walks_by plan_of
      few_hops =
          let most = (accepted bs n t ok).slots in
          ⊎_elim inl (λ h. inr (omega arith)) (hops_bound (bounded_ends p (slots_within bs n t terms ok) s (arrives_by z e)))

      here_hops : get_or area' z 0 ≡ hops (walks_by p s z e)
      here_hops = at_end.entries.station_hops_law z ready.destination

      here_count : get_or area' (n + z) 0 ≡ count (walks_by p s z e)
      here_count = at_end.entries.station_counts_law z ready.destination small

      -- hops that are not 65535 are fewer
      with_path : get_or area' z 0 ≢ 65535 → hops (walks_by p s z e) < 65535
      with_path ne = ⊎_elim (λ empty. absurd (ne (here_hops ∙ hops_empty _ empty))) (λ h. h) few_hops

      row :
          (j : ℕ) → j < block → low + j ≢ z → get_or area' z 0 ≢ 65535 →
          get_or area' (2 * n + z * block + j) 0 + through_in p s z (walks_by p s z e) (low + j) ≡
          count (walks_by p s z e)
      row j h ne path =
          block_row low block bs n t terms s e area' ready.stations at_end.entries z j ready.destination h ne small
          (with_path path)

      -- what a stored entry is
      entry_is :
          (j : ℕ) → j < block →
          through_entry area' n z low block j ≡ through_in p s z (walks_by p s z e) (low + j)
      entry_is j h =
          by_cases (ℕ_discrete (low + j) z)
          (λ q. entry_itself area' n z low block j q ∙
          sym (ap (through_in p s z (walks_by p s z e)) q ∙ through_destination p s z (walks_by p s z e)))
          (λ ne. by_cases (ℕ_discrete (get_or area' z 0) 65535)
          (λ q. entry_no_path area' n z low block j ne q ∙ sym (no_path q))
          (λ path. entry_rest area' n z low block j ne path ∙ difference _ _ _ _ (row j h ne path) here_count))
        where
          no_path : get_or area' z 0 ≡ 65535 → through_in p s z (walks_by p s z e) (low + j) ≡ 0
          no_path q =
              ⊎_elim
              (λ empty. through_no_path p s z (low + j) (walks_by p s z e) empty)
              (λ some. let same = here_hops in absurd (omega arith))
              few_hops

      -- the block can be stored
      pub block_store : Storing n z low block table area'
      block_store =
          let size = passed.same_length in
          let room = ready.fits in
          record {
            station = ready.destination;
            few = (accepted bs n t ok).stations;
            stations = ready.stations;
            table = ready.table;
            fits = let first = first_part n t terms depth block in omega arith;
            at_most = λ j h ne path. let both = row j h ne path in let whole = here_count in omega arith;
          }

      -- and then it is done
      pub block_done :
          (table' : List ℕ) → StoredBlock n z low block block area' table table' →
          BlockDone bs n t terms depth s z until low block table area table' area' (Some e)
      block_done table' st =
          record {
            answer = record {
              settled = record {
                slot = at_end.slot;
                few = λ none. whole_few bs n t terms s ok ready.source until none (block_column low block) block area' e at_end;
                pair_hops = here_hops;
                pair_count = here_count;
              };
              here = λ j h. st.here j h ∙ entry_is j h;
            };
            before = st.before;
            table_beyond = st.beyond;
            table_length = st.same_length;
            area_beyond = passed.beyond;
            area_length = passed.same_length;
          }

-- ---- the loop

-- the stations below low have their through counts, and after the first block the work area has the pair's hops and count
pub record Blocks (bs : List ℕ) (n t : ℕ) (terms : Terms) (depth most s z until : ℕ) (table area : List ℕ) (low : ℕ)
    (table' area' : List ℕ) (slot : ℕ) : Type 0 where
  pub blocks : BlocksReady bs n t terms depth most s z until table area
  pub within : low ≤ n
  pub settled : 0 < low → PairBy bs n t terms s z until area' slot
  pub counted : (v : ℕ) → v < low
      → get_or table' v 0 ≡ through_in (plan_of bs n t terms) s z (walks_by (plan_of bs n t terms) s z (last_slot bs n t terms s until)) v
  pub table_beyond : drop n table' ≡ drop n table
  pub table_length : length table' ≡ length table
  pub area_beyond : drop (work_size n t) area' ≡ drop (work_size n t) area
  pub area_length : length area' ≡ length area

pub blocks_none :
    (bs : List ℕ) (n t : ℕ) (terms : Terms) (depth most s z until : ℕ) (table area : List ℕ) (slot : ℕ) →
    BlocksReady bs n t terms depth most s z until table area → Blocks bs n t terms depth most s z until table area 0 table area slot
blocks_none bs n t terms depth most s z until table area slot r =
    record {
      blocks = r;
      within = omega arith;
      settled = λ h. absurd (omega arith);
      counted = λ v h. absurd (omega arith);
      table_beyond = refl;
      table_length = refl;
      area_beyond = refl;
      area_length = refl;
    }

module _ (bs : List ℕ) (n t : ℕ) (terms : Terms) (depth most s z until : ℕ) (table area : List ℕ) (low : ℕ) (table' area' : List ℕ)
    (slot : ℕ) (b : Blocks bs n t terms depth most s z until table area low table' area' slot) (more : low < n) (block : ℕ)
    (k : block ≡ min most (n - low)) where
  ready : PairReady bs n t terms s z table area
  ready = b.blocks.asked.ready

  some_block : 0 < block
  some_block =
      let a = accepted bs n t ready.accepted in
      let lent = whole_lent n t terms depth ready.units a.some_slot a.slots b.blocks.kept in
      let columns = some_column n t terms depth (4 * (t + 1)) lent a.some_station in
      let same = b.blocks.columns in
      omega arith

  few_columns : block ≤ most_columns n t terms depth (4 * (t + 1))
  few_columns = let same = b.blocks.columns in omega arith

  fits : pass_size n t terms depth block ≤ work_size n t
  fits =
      let a = accepted bs n t ready.accepted in
      area_fits n t terms depth ready.units a.some_slot a.slots b.blocks.kept block few_columns

  pub block_within : low + block ≤ n
  block_within = omega arith

  -- the next block can be counted
  pub next_ready : BlockReady bs n t terms depth s z until low block table' area'
  next_ready =
      let size = fits in
      let room = ready.area in
      let same = b.area_length in
      let tables = ready.table in
      let kept = b.table_length in
      record {
        accepted = ready.accepted;
        units = ready.units;
        deep = b.blocks.deep;
        source = ready.source;
        destination = ready.destination;
        different = ready.different;
        asks = b.blocks.asked.asks;
        stations = block_within;
        table = omega arith;
        fits = omega arith;
        few = λ h e. (b.settled h).few e;
      }

  module _ (table'' area'' : List ℕ) where
    same_beyond : (r : Option ℕ) → BlockDone bs n t terms depth s z until low block table' area' table'' area'' r →
        drop (work_size n t) area'' ≡ drop (work_size n t) area
    same_beyond r done =
        later_drop (pass_size n t terms depth block) (work_size n t) area'' area' fits done.area_beyond ∙ b.area_beyond

    -- too many
    pub blocks_refused :
        BlockDone bs n t terms depth s z until low block table' area' table'' area'' None →
        Throughs bs n t terms s z until table area table'' area'' None
    blocks_refused done =
        record {
          answer = done.answer;
          table_beyond = done.table_beyond ∙ b.table_beyond;
          table_length = done.table_length ∙ b.table_length;
          area_beyond = same_beyond None done;
          area_length = done.area_length ∙ b.area_length;
        }

    module _ (e : ℕ) (done : BlockDone bs n t terms depth s z until low block table' area' table'' area'' (Some e)) where
      -- the next block
      pub blocks_more : Blocks bs n t terms depth most s z until table area (low + block) table'' area'' e
      blocks_more =
          record {
            blocks = b.blocks;
            within = block_within;
            settled = λ h. done.answer.settled;
            counted = λ v h.
                by_cases (dec_lt v low)
                (λ early. done.before v early ∙ b.counted v early)
                (λ late.
                let same : low + (v - low) ≡ v = omega arith in
                subst
                (λ i. get_or table'' i 0 ≡
                through_in (plan_of bs n t terms) s z (walks_by (plan_of bs n t terms) s z (last_slot bs n t terms s until)) i)
                same
                (done.answer.here (v - low) (omega arith) ∙
                ap (λ e. through_in (plan_of bs n t terms) s z (walks_by (plan_of bs n t terms) s z e) (low + (v - low)))
                done.answer.settled.slot));
            table_beyond = done.table_beyond ∙ b.table_beyond;
            table_length = done.table_length ∙ b.table_length;
            area_beyond = same_beyond (Some e) done;
            area_length = done.area_length ∙ b.area_length;
          }

      pub block_progress : n - (low + block) < n - low
      block_progress = let some = some_block in omega arith

-- after the last block
pub blocks_end :
    (bs : List ℕ) (n t : ℕ) (terms : Terms) (depth most s z until : ℕ) (table area : List ℕ) (low : ℕ) (table' area' : List ℕ) (slot : ℕ) →
    n ≤ low → Blocks bs n t terms depth most s z until table area low table' area' slot →
    Throughs bs n t terms s z until table area table' area' (Some slot)
blocks_end bs n t terms depth most s z until table area low table' area' slot last b =
    let some = (accepted bs n t b.blocks.asked.ready.accepted).some_station in
    record {
      answer =
          record {
            settled = b.settled (omega arith);
            counted = λ v h.
                b.counted v (omega arith) ∙
                ap (λ e. through_in (plan_of bs n t terms) s z (walks_by (plan_of bs n t terms) s z e) v) (sym (b.settled (omega arith)).slot);
          };
      table_beyond = b.table_beyond;
      table_length = b.table_length;
      area_beyond = b.area_beyond;
      area_length = b.area_length;
    }

-- ---- before the blocks

module _ (bs : List ℕ) (n t g h s z until : ℕ) (table area : List ℕ) (asked : ThroughsReady bs n t (units g h) s z until table area) where
  -- how many appearances are kept can be found
  pub depth_ready : DepthReady bs n t h area
  depth_ready =
      let turns = asked.ready.units.turns in
      let keeps = asked.ready.units.keeps in
      let room = asked.ready.area in
      record {
        accepted = asked.ready.accepted;
        some = omega arith;
        most = asked.ready.units.most;
        fits = let one = mul-le-mul_left {m = 1} {n = t + 1} n (omega arith) in omega arith;
      }

  module _ (area' : List ℕ) (depth : ℕ) (found : DepthOf bs n h area area' depth) where
    -- and how many columns fit
    pub columns_lent : Lent t (units g h) depth (4 * (t + 1))
    columns_lent =
        let a = accepted bs n t asked.ready.accepted in
        whole_lent n t (units g h) depth asked.ready.units a.some_slot a.slots found.most

    pub blocks_ready : (most : ℕ) → most ≡ most_columns n t (units g h) depth (4 * (t + 1))
        → BlocksReady bs n t (units g h) depth most s z until table area'
    blocks_ready most columns =
        let room = asked.ready.area in
        let same = found.same_length in
        record {
          asked = record {
            ready = record {
              accepted = asked.ready.accepted;
              units = asked.ready.units;
              source = asked.ready.source;
              destination = asked.ready.destination;
              different = asked.ready.different;
              table = asked.ready.table;
              area = omega arith;
            };
            asks = asked.asks;
          };
          deep = found.deep;
          kept = found.most;
          columns = columns;
        }

    -- what is counted then is counted from the entry on
    pub throughs_entry : (table'' area'' : List ℕ) (r : Option ℕ) → Throughs bs n t (units g h) s z until table area' table'' area'' r
        → Throughs bs n t (units g h) s z until table area table'' area'' r
    throughs_entry table'' area'' r x =
        record {
          answer = x.answer;
          table_beyond = x.table_beyond;
          table_length = x.table_length;
          area_beyond = x.area_beyond ∙
              later_drop n (work_size n t) area' area (let one = mul-le-mul_left {m = 1} {n = t + 1} n (omega arith) in omega arith)
              found.beyond;
          area_length = x.area_length ∙ found.same_length;
        }
