-- What reach answers, in document 01's numbers. Definitions only.
-- Assumes nothing.
use Rattle.std.specs.Prelude.{ℕ, List, Result}
use Rattle.temporal.specs.Outcome.{Outcome, ReachTables}
use Rattle.plan.specs.Fault.{answer_number}
use Rattle.plan.specs.declared.Fault.{Fault}

-- the four lists as document 01's tables of reach
abbrev pub lent_tables : List ℕ → List ℕ → List ℕ → List ℕ → ReachTables
lent_tables h c sh sc = record { hops_table = h; count_table = c; station_hops = sh; station_counts = sc }

-- the answer with the four tables at exit
abbrev pub reach_outcome : Result (Unit {0}) Fault → ReachTables → Outcome (Unit {0}) ReachTables
reach_outcome r x = record { number = answer_number r; values = tt; buffers = x }
