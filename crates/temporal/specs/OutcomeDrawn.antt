-- What loads for the drawing program answers (document 02, C-24), and what every lent buffer holds afterwards, for every call.
-- Definitions only.
-- Assumes nothing.
use Rattle.std.specs.Prelude.{ℕ, ◌*◌, Bool, cond, ◌||◌}
use mathlib.Core.List.{List, [], ◌∷◌, ◌++◌, flat_map}
use Rattle.temporal.specs.Lists.{below}
use Rattle.temporal.specs.Plan.{Plan, Terms}
use Rattle.temporal.specs.Load.{pairs, load}
use Rattle.temporal.specs.Bytes.{plan_of}
use Rattle.temporal.specs.Cause.{cause, plan_causes, terms_causes, too_many_anywhere}
use Rattle.temporal.specs.Outcome.{Outcome, entered, over, cleared, short, work_size}
use Rattle.temporal.specs.OutcomePair.{LoadBuffers, partly_loaded}
use Rattle.temporal.specs.Drawing.{drawn_record}

-- what loads is lent, and the further buffer of bytes
pub record DrawnBuffers : Type 0 where
  pub tables : LoadBuffers
  pub records : List ℕ

-- the bytes of the records of n stations
abbrev pub records_size : ℕ → ℕ
records_size n = 18 * n

-- a record of each station, in rising order, with nothing before or between them
unfoldable pub drawn_records : Plan → List ℕ
drawn_records p = flat_map (λ v. drawn_record v (load p v) (pairs p v)) (below p.stations)

-- The operation once 1 to 8, 12 and 14 are excluded: number, tables and work area are those of loads. 9 sets the named part of the
-- records to 0 too.
unfoldable pub drawn_loaded : Plan → DrawnBuffers → Outcome (Unit {0}) DrawnBuffers
drawn_loaded p old =
    record {
      number = (partly_loaded p p.stations old.tables).number;
      values = tt;
      buffers = record {
        tables = (partly_loaded p p.stations old.tables).buffers;
        records = cond (too_many_anywhere p) (cleared (records_size p.stations) old.records) (over (drawn_records p) old.records);
      };
    }

-- 8 of loads, or the buffer of records is too short
abbrev pub drawn_short : ℕ → ℕ → DrawnBuffers → Bool
drawn_short n t old =
    short n old.tables.pairs_table ||
    (short n old.tables.load_table || (short (records_size n) old.records || short (work_size n t) old.tables.work))

-- Document 02's loads for the drawing program: the loads call with a further buffer.
unfoldable pub drawn_loads : List ℕ → ℕ → ℕ → Terms → DrawnBuffers → Outcome (Unit {0}) DrawnBuffers
drawn_loads bs n t terms old =
    entered (plan_causes bs n t ++ (terms_causes terms ++ cause 8 (drawn_short n t old) ∷ [])) tt old
    (drawn_loaded (plan_of bs n t terms) old)
