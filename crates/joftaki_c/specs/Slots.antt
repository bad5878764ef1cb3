-- What the lent slots of reach, row, pair, loads, busiest, struck_out, through_set, foremost and verdict hold at exit, beside the number
-- given.
-- Definitions only.
-- Assumes nothing.
use Rattle.std.specs.Prelude.{ℕ, ◌+◌, ◌*◌, ◌≡◌, List, take, drop}
use Rattle.std.proofs.Math.Option.{Option, none, some}
use Rattle.temporal.specs.Cause.{unless}
use Rattle.temporal.specs.Outcome.{Outcome, row_number, row}
use Rattle.temporal.specs.OutcomePair.{PairValues, PairBuffers}
use Rattle.temporal.specs.OutcomeForemost.{ForemostValues}
use Rattle.temporal.specs.OutcomeStruck.{StruckBuffers}
use Rattle.temporal.specs.Verdict.{Verdict, complete, beginning, wrong}

-- a number with the lent buffers at exit
abbrev pub answered : {Buffers : Type 0} → ℕ → Buffers → Outcome (Unit {0}) Buffers
answered r b = record { number = r; values = tt; buffers = b }

-- a number with pair's two slots and its lent buffers at exit
abbrev pub pair_given : ℕ → ℕ → ℕ → PairBuffers → Outcome PairValues PairBuffers
pair_given r hops count b = record { number = r; values = record { hops = hops; count = count }; buffers = b }

-- Row's number, and the place and the length of the part in the caller's table: 0 and 0 on refusal.
pub record RowGiven (n t v : ℕ) (table : List ℕ) (r offset size : ℕ) : Type 0 where
  pub number : r ≡ row_number n t v table
  pub place : offset ≡ unless (row_number n t v table) (λ _. 0) (v * (t + 1))
  pub entries : size ≡ unless (row_number n t v table) (λ _. 0) (t + 1)
  pub part : take size (drop offset table) ≡ row n t v table

-- a number with busiest's slot and the work area at exit
abbrev pub busiest_given : ℕ → ℕ → List ℕ → Outcome ℕ (List ℕ)
busiest_given r station work = record { number = r; values = station; buffers = work }

-- a number with struck_out's slot and its lent buffers at exit
abbrev pub struck_given : ℕ → ℕ → StruckBuffers → Outcome ℕ StruckBuffers
struck_given r pairs b = record { number = r; values = pairs; buffers = b }

-- a number with through_set's slot and the work area at exit
abbrev pub set_given : ℕ → ℕ → List ℕ → Outcome ℕ (List ℕ)
set_given r count work = record { number = r; values = count; buffers = work }

-- a number with foremost's three slots and its lent buffers at exit
abbrev pub foremost_given : ℕ → ℕ → ℕ → ℕ → PairBuffers → Outcome ForemostValues PairBuffers
foremost_given r arrival hops count b =
    record { number = r; values = record { slot = arrival; hops = hops; count = count }; buffers = b }

-- the number behind the name of a verdict in the header; 0 where there is none
unfoldable pub verdict_code : Option Verdict → ℕ
verdict_code none = 0
verdict_code (some complete) = 1
verdict_code (some beginning) = 2
verdict_code (some wrong) = 3

-- a number with verdict's slot and the work area at exit
abbrev pub verdict_told : ℕ → ℕ → List ℕ → Outcome ℕ (List ℕ)
verdict_told r told work = record { number = r; values = told; buffers = work }

-- what the operation answers, with the verdict by its number
unfoldable pub verdict_coded : Outcome (Option Verdict) (List ℕ) → Outcome ℕ (List ℕ)
verdict_coded o = record { number = o.number; values = verdict_code o.values; buffers = o.buffers }
