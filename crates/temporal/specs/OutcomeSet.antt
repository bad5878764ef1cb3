-- What the operation on a pair and a set of stations answers (document 02, C-12), and what the work area holds afterwards, for
-- every call. Definitions only.
-- Assumes nothing.
use Rattle.std.specs.Prelude.{ℕ, Bool, cond, ◌||◌, List, [], ◌∷◌, ◌++◌, ltb, eqb, get_or}
use Rattle.temporal.specs.Lists.{below, any}
use Rattle.temporal.specs.Plan.{Plan, Terms}
use Rattle.temporal.specs.Set.{touched}
use Rattle.temporal.specs.Bytes.{plan_of}
use Rattle.temporal.specs.Cause.{cause, plan_causes, pair_causes, is_too_many}
use Rattle.temporal.specs.Outcome.{Outcome, entered, cleared, short, work_size}

-- whether a station is a member of a set of n bytes: 1 for a member, 0 for not
abbrev pub is_member : List ℕ → ℕ → Bool
is_member set v = eqb (get_or set v 0) 1

-- 11: one of the first n bytes of the set is neither 0 nor 1. The bytes behind them are not looked at.
unfoldable pub wrong_set : ℕ → List ℕ → Bool
wrong_set n set = any (λ v. ltb 1 (get_or set v 0)) (below n)

-- 12, 14, 6, 7, 8 and 11 of a call that names a pair and a set; 8 is for the set and for the work area
unfoldable pub set_causes : ℕ → ℕ → Terms → ℕ → ℕ → List ℕ → List ℕ → List ℕ
set_causes n t terms s z set old =
    pair_causes terms n s z (short n set || short (work_size n t) old) ++ cause 11 (wrong_set n set) ∷ []

-- the operation once 1 to 8, 11, 12 and 14 are excluded; where there is no walk it is 0
unfoldable pub set_counted : Plan → ℕ → ℕ → List ℕ → List ℕ → Outcome ℕ (List ℕ)
set_counted p s z set old =
    cond (is_too_many p s)
    (record { number = 9; values = 0; buffers = cleared (work_size p.stations p.slots) old })
    (record {
      number = 0;
      values = touched p s z (is_member set);
      buffers = cleared (work_size p.stations p.slots) old;
    })

-- How many shortest walks from s to z have at least one member of the set inside. The set is only read; the work area is all
-- that is lent to write to.
unfoldable pub through_set : List ℕ → ℕ → ℕ → Terms → ℕ → ℕ → List ℕ → List ℕ → Outcome ℕ (List ℕ)
through_set bs n t terms s z set old =
    entered (plan_causes bs n t ++ set_causes n t terms s z set old) 0 old (set_counted (plan_of bs n t terms) s z set old)
