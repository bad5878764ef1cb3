-- `calls::stations_call` meets its contract: the tests on the way decide the first cause.
-- Assumes nothing.
use native.Mathlib.Omega.{arith}
use mathlib.Core.Path.{sym}
use Rattle.calls.proofs.CallLaws.{call_source, call_destination, call_same, call_short, call_area, call_free}
use Rattle.calls.proofs.stations_call.Goals as goal
use Rattle.calls.proofs.stations_call.Goals.{
  then-n-source-via-then-n-source,
  then-n-source-via-else-n-source+then-n-destination,
  then-lent-named-via-then-lent-named,
  then-lent-named-via-else-lent-named+then-area-n,
}

pub returns-then-n-source : goal.returns-then-n-source
returns-then-n-source c =
    elim c.then-n-source.branch [
      | then-n-source-via-then-n-source w ↦ sym (call_source _ _ _ _ _ _ _ (omega arith))
      | then-n-source-via-else-n-source+then-n-destination w ↦ sym (call_destination _ _ _ _ _ _ _ (omega arith) (omega arith))
    ]

pub returns-then-source-destination : goal.returns-then-source-destination
returns-then-source-destination c = sym (call_same _ _ _ _ _ _ _ (omega arith) (omega arith) (omega arith))

pub returns-then-lent-named : goal.returns-then-lent-named
returns-then-lent-named c =
    elim c.then-lent-named.branch [
      | then-lent-named-via-then-lent-named w ↦
          sym (call_short _ _ _ _ _ _ _ (omega arith) (omega arith) (omega arith) (omega arith))
      | then-lent-named-via-else-lent-named+then-area-n w ↦
          sym (call_area _ _ _ _ _ _ _ (omega arith) (omega arith) (omega arith) (omega arith) (omega arith))
    ]

pub returns : goal.returns
returns c = sym (call_free _ _ _ _ _ _ _ (omega arith) (omega arith) (omega arith) (omega arith) (omega arith))
