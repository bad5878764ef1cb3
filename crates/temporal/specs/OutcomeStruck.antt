-- What the operation on a contact that is struck out answers (document 02, C-23), and what every lent buffer holds afterwards, for
-- every call. Definitions only.
-- Assumes nothing.
use Rattle.std.specs.Prelude.{ℕ, Bool, cond, ◌||◌, List, [], ◌∷◌, ◌++◌, map, leb, ℤ, pos, length, replicate}
use Rattle.temporal.specs.Lists.{below}
use Rattle.temporal.specs.Plan.{Plan, Terms}
use Rattle.temporal.specs.Bytes.{records, plan_of}
use Rattle.temporal.specs.Cause.{cause, plan_causes, terms_causes, too_many_anywhere}
use Rattle.temporal.specs.Outcome.{Outcome, entered, over, cleared, short, work_size}
use Rattle.temporal.specs.Struck.{struck_out, pairs_using, change}

-- its lent table of changes, entries with a sign, and the work area
pub record StruckBuffers : Type 0 where
  pub change_table : List ℤ
  pub work : List ℕ

-- 9: a source has too many in the plan with the record, or in the plan without it
abbrev pub either_too_many : Plan → ℕ → Bool
either_too_many p i = too_many_anywhere p || too_many_anywhere (struck_out p i)

-- the operation once 1 to 8, 12, 14 and 17 are excluded: the value is the number of pairs
unfoldable pub struck_off : Plan → ℕ → StruckBuffers → Outcome ℕ StruckBuffers
struck_off p i old =
    cond (either_too_many p i)
    (record {
      number = 9;
      values = 0;
      buffers = record {
        change_table = over (replicate p.stations (pos 0)) old.change_table;
        work = cleared (work_size p.stations p.slots) old.work;
      };
    })
    (record {
      number = 0;
      values = length (pairs_using p i);
      buffers = record {
        change_table = over (map (change p i) (below p.stations)) old.change_table;
        work = cleared (work_size p.stations p.slots) old.work;
      };
    })

-- 17: the position is not below the number of records
abbrev pub wrong_position : List ℕ → ℕ → Bool
wrong_position bs i = leb (records bs) i

-- Every station's change of load if the contact at position i is struck out, and how many pairs use it.
unfoldable pub struck : List ℕ → ℕ → ℕ → Terms → ℕ → StruckBuffers → Outcome ℕ StruckBuffers
struck bs n t terms i old =
    entered
    (plan_causes bs n t ++ (terms_causes terms ++
    cause 8 (short n old.change_table || short (work_size n t) old.work) ∷ cause 17 (wrong_position bs i) ∷ []))
    0 old (struck_off (plan_of bs n t terms) i old)
