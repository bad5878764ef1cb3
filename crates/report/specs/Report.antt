-- What the load program prints: document 01's section "Plan A". Definitions only.
-- Assumes nothing.
use Rattle.std.specs.Prelude.{ℕ, ◌≡◌, length}
use mathlib.Core.List.{List, [], ◌∷◌, ◌++◌, flat_map}
use Rattle.temporal.specs.Lists.{below}
use Rattle.temporal.specs.Plan.{Plan, Terms}
use Rattle.temporal.specs.Load.{pairs, load}
use Rattle.temporal.specs.Bytes.{plan_of}
use Rattle.temporal.specs.Cause.{cause, first, unless, plan_causes, terms_causes, too_many_anywhere}
use Rattle.temporal.specs.Outcome.{over}
use Rattle.temporal.specs.OutcomePair.{LoadBuffers, loads}
use Rattle.text.specs.Field.{ascii, space, line_feed, field, fields, labelled}
use Rattle.report.specs.Sizes.{input_stations, input_slots, wrong_input, over_limits}

-- the first line: the numbers of stations, slots and contacts
unfoldable pub heading : ℕ → ℕ → ℕ → List ℕ
heading n t m = labelled (ascii "stations ") n (ascii " slots ") t (ascii " contacts ") m line_feed

-- a station's line: station, pairs, load
unfoldable pub line : ℕ → ℕ → ℕ → List ℕ
line v p l = fields v space p space l line_feed

-- the loads of a plan: the first line, then a line for each station
unfoldable pub loads_text : Plan → List ℕ
loads_text p =
    heading p.stations p.slots (length p.contacts) ++
    flat_map (λ v. line v (pairs p v) (load p v)) (below p.stations)

-- the one line of a refusal
unfoldable pub refusal_text : ℕ → List ℕ
refusal_text k = ascii "refused " ++ field k line_feed

-- the causes that are looked at before the plan is: 2 before n and T are formed, then the program's limits
unfoldable pub input_causes : List ℕ → List ℕ
input_causes bs = cause 2 (wrong_input bs) ∷ cause 1 (over_limits (input_stations bs) (input_slots bs)) ∷ []

-- the plan that the input is, for units with these terms
abbrev pub input_plan : List ℕ → Terms → Plan
input_plan bs terms = plan_of bs (input_stations bs) (input_slots bs) terms

-- the number of the refusal, 0 where the loads are printed: the input's causes, the plan's, 12 and 14, then 9. (14 never holds of units
-- with a turnaround of 1 to 16 that keep a reading until the plan ends.)
unfoldable pub refusal_of : List ℕ → Terms → ℕ
refusal_of bs terms =
    first
    (input_causes bs ++
    (plan_causes bs (input_stations bs) (input_slots bs) ++
    (terms_causes terms ++ cause 9 (too_many_anywhere (input_plan bs terms)) ∷ [])))

-- The whole text that a load program prints for an input, for units with these terms.
unfoldable pub printed : List ℕ → Terms → List ℕ
printed bs terms = unless (refusal_of bs terms) refusal_text (loads_text (input_plan bs terms))

-- the lent tables and the work area afterwards: as they were where the input is refused before the plan is looked at,
-- else as operation 5, loads, leaves them
unfoldable pub lent_after : List ℕ → Terms → LoadBuffers → LoadBuffers
lent_after bs terms old =
    unless (first (input_causes bs)) (λ _. old) (loads bs (input_stations bs) (input_slots bs) terms old).buffers

-- What an output buffer then holds: the text at its beginning, whose length is told; its other bytes stay.
pub record Texted (bs : List ℕ) (terms : Terms) (out : List ℕ) (size : ℕ) (now : List ℕ) : Type 0 where
  pub length_is : size ≡ length (printed bs terms)
  pub text_is : now ≡ over (printed bs terms) out

-- What the report function promises for every input and all terms: the text, and the lent tables afterwards.
pub record Reported (bs : List ℕ) (terms : Terms) (out : List ℕ) (old : LoadBuffers) (size : ℕ) (now : List ℕ) (new : LoadBuffers) : Type 0 where
  pub texted : Texted bs terms out size now
  pub lent_is : new ≡ lent_after bs terms old
