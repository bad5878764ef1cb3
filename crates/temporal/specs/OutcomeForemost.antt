-- What the operation on the shortest foremost paths of a pair answers (document 02, C-14), and what every lent buffer holds
-- afterwards, for every call. Definitions only.
-- Assumes nothing.
use Rattle.std.specs.Prelude.{ℕ, cond, ◌||◌, List, ◌++◌, map}
use Rattle.temporal.specs.Lists.{below}
use Rattle.temporal.specs.Plan.{Plan, Terms}
use Rattle.temporal.specs.Shortest.{hops, count, through_in}
use Rattle.temporal.specs.Foremost.{arrival, foremost_paths}
use Rattle.temporal.specs.Bytes.{plan_of}
use Rattle.temporal.specs.Cause.{plan_causes, pair_causes, appearance_too_many}
use Rattle.temporal.specs.Outcome.{Outcome, entered, over, cleared, short, work_size}
use Rattle.temporal.specs.OutcomePair.{PairBuffers}

pub record ForemostValues : Type 0 where
  pub slot : ℕ
  pub hops : ℕ
  pub count : ℕ

-- How many shortest foremost paths from s to z have v inside.
unfoldable pub foremost_through : Plan → ℕ → ℕ → ℕ → ℕ
foremost_through p s z v = through_in p s z (foremost_paths p s z) v

-- The operation once 1 to 8 and 12 are excluded. 9 looks at appearances alone, those after the arrival among them: a station's sum
-- over slots is no cause. Where there is no path: slot 65535, 65535 hops, count 0, and all through counts 0.
unfoldable pub foremost_paired : Plan → ℕ → ℕ → PairBuffers → Outcome ForemostValues PairBuffers
foremost_paired p s z old =
    cond (appearance_too_many p s)
    (record {
      number = 9;
      values = record { slot = 0; hops = 0; count = 0 };
      buffers = record {
        through_table = cleared p.stations old.through_table;
        work = cleared (work_size p.stations p.slots) old.work;
      };
    })
    (record {
      number = 0;
      values = record {
        slot = arrival p s z;
        hops = hops (foremost_paths p s z);
        count = count (foremost_paths p s z);
      };
      buffers = record {
        through_table = over (map (foremost_through p s z) (below p.stations)) old.through_table;
        work = cleared (work_size p.stations p.slots) old.work;
      };
    })

-- Arguments, buffers and the causes 1 to 8 and 12 are those of pair. It is asked of units that keep a reading until the plan ends, where 14
-- never holds.
unfoldable pub foremost : List ℕ → ℕ → ℕ → Terms → ℕ → ℕ → PairBuffers → Outcome ForemostValues PairBuffers
foremost bs n t terms s z old =
    entered
    (plan_causes bs n t ++ pair_causes terms n s z (short n old.through_table || short (work_size n t) old.work))
    (record { slot = 0; hops = 0; count = 0 }) old (foremost_paired (plan_of bs n t terms) s z old)
