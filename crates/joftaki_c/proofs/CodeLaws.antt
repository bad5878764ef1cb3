-- The numbers of check and of row's sister are at most 10, so they fit 32 bits. Assumes nothing.
use Prim.Native.Nat.{ℕ, ◌≤◌}
use native.Mathlib.Omega.{arith}
use mathlib.Core.Path.{◌≡◌}
use mathlib.Core.List.{List, []}
use Rattle.temporal.specs.Cause.{station_causes}
use Rattle.temporal.specs.Outcome.{row_number}
use Rattle.walks.proofs.NumberLaws.{none_has, cause_has}
use Rattle.plan.specs.Fault.{check_number}
use Rattle.plan.specs.declared.PlanFault.{PlanFault}
use Rattle.std.specs.Prelude.{Result, Ok, Err}
use Rattle.plan.proofs.Answers.{plan-number-small}

pub check_small : (r : Result (Unit {0}) PlanFault) (k : ℕ) → k ≡ check_number r → k ≤ 10
check_small (Ok x) k e = omega arith
check_small (Err f) k e = omega (arith, plan-number-small f)

AtMostTen : ℕ → Type 0
AtMostTen k = k ≤ 10

pub row_small : (n t v : ℕ) (table : List ℕ) (k : ℕ) → k ≡ row_number n t v table → k ≤ 10
unfolding row_number station_causes AtMostTen
row_small n t v table k e =
    rw e
    (cause_has AtMostTen (omega arith) 1 _ _ (omega arith)
    (cause_has AtMostTen (omega arith) 6 _ _ (omega arith)
    (cause_has AtMostTen (omega arith) 8 _ [] (omega arith) (none_has AtMostTen (omega arith)))))
