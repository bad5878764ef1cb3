-- The terms and the plan of the definitions that a setting stands for. Definitions only.
-- Assumes nothing.
use Rattle.std.specs.Prelude.{ℕ, List}
use Rattle.temporal.specs.Plan.{Plan, Terms, units}
use Rattle.temporal.specs.Bytes.{plan_of}
use Rattle.plan.specs.declared.Setting.{Setting}

-- its units' terms
abbrev pub terms_of : Setting → Terms
terms_of s = units s.turnaround s.keeping

-- the plan whose bytes these are
abbrev pub plan_in : List ℕ → Setting → Plan
plan_in bs s = plan_of bs s.stations s.slots (terms_of s)
