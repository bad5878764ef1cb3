-- What the two load programs print: document 02's lines for doubled plan A, document 01's (P9), and that the program for older units
-- prints what was printed before C-20. Definitions only.
-- Assumes nothing.
use Rattle.std.specs.Prelude.{ℕ, ◌≡◌}
use Prim.Native.String.{String}
use mathlib.Core.List.{List, [], ◌∷◌, ◌++◌, flat_map}
use Rattle.temporal.specs.Plan.{turning}
use Rattle.temporal.specs.Cause.{cause, first, unless, plan_causes, too_many_anywhere}
use Rattle.examples.specs.Questions.{plan_a}
use Rattle.report.specs.Sizes.{input_stations, input_slots}
use Rattle.text.specs.Field.{ascii, line_feed}
use Rattle.report.specs.Report.{loads_text, refusal_text, input_causes, input_plan, printed}

-- the six lines for units that turn round in two slots, as document 02 has them (C-20)
abbrev pub plan_alines_two_slots : List String
plan_alines_two_slots =
    "stations 5 slots 4 contacts 12" ∷
    "0 0 0" ∷
    "1 0 0" ∷
    "2 1 4294967296" ∷
    "3 2 8589934592" ∷
    "4 0 0" ∷ []

-- the six lines for units that turn round in one slot, as document 01's section "Plan A" has them but for the number of records
-- (document 02, C-16)
abbrev pub plan_alines_one_slot : List String
plan_alines_one_slot =
    "stations 5 slots 4 contacts 12" ∷
    "0 0 0" ∷
    "1 2 2863311530" ∷
    "2 2 5726623060" ∷
    "3 4 17179869184" ∷
    "4 0 0" ∷ []

-- lines as they are printed: a line feed after every line
unfoldable pub as_text : List String → List ℕ
as_text lines = flat_map (λ l. ascii l ++ line_feed) lines

-- The load program before C-20, whose units turn round in one slot and which knows neither 12 nor 14: the number of its refusal, and its
-- text.
abbrev pub refusal_before : List ℕ → ℕ
refusal_before bs =
    first
    (input_causes bs ++
    (plan_causes bs (input_stations bs) (input_slots bs) ++ cause 9 (too_many_anywhere (input_plan bs (turning 1))) ∷ []))

abbrev pub printed_before : List ℕ → List ℕ
printed_before bs = unless (refusal_before bs) refusal_text (loads_text (input_plan bs (turning 1)))

pub record LoadText : Type 0 where
  -- what is printed for doubled plan A, whole, is these lines; P9 is the second
  pub plan_a_two_slots : printed plan_a.bytes (turning 2) ≡ as_text plan_alines_two_slots
  pub plan_a_one_slot : printed plan_a.bytes (turning 1) ≡ as_text plan_alines_one_slot
  -- for every input the program for older units prints what was printed before
  pub one_slot_as_before : (bs : List ℕ) → printed bs (turning 1) ≡ printed_before bs
