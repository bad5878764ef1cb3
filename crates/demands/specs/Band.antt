-- Document 02's C-22: runs of takings in and takings out on one table. Definitions only.
-- Assumes nothing.
use Rattle.plan.specs.Fault.{answer_number}
use Rattle.plan.specs.declared.Fault.{Fault}
use Rattle.std.specs.Prelude.{Result, Ok, Err}
use Rattle.std.specs.Prelude.{ℕ, ◌+◌, ◌≤◌, ◌<◌, ◌≡◌, cond, ◌↔◌, ◌≢◌, get_or, replicate}
use mathlib.Core.List.{List, [], ◌∷◌, ◌++◌, map, Memᴰ}
use Rattle.temporal.specs.Lists.{sum}
use Rattle.temporal.specs.Cause.{cause, first, plan_causes}
use Rattle.temporal.specs.Outcome.{short}
use Rattle.temporal.specs.Cursor.{same_numbers}
use Rattle.temporal.specs.Band.{records_in, band_slots, take_in, take_out}
use Rattle.band.specs.Answer.{band_outcome}

-- the arguments of a call beside the table; a taking in has the band's channels too
pub record BandCall : Type 0 where
  pub bytes : List ℕ
  pub stations : ℕ
  pub slots : ℕ

-- what happens in a run: a call of one of the two, with its answer and the table after it
pub data BandEvent : Type 0 where
  took_in : BandCall → Result (Unit {0}) Fault → List ℕ → BandEvent
  took_out : BandCall → Result (Unit {0}) Fault → List ℕ → BandEvent

-- ---- "Plans then in": their bytes, one that was taken in twice standing there twice. A refused call changes nothing.

-- a list without the first plan that has these bytes
unfoldable pub without : List ℕ → List (List ℕ) → List (List ℕ)
without bs [] = []
without bs (p ∷ l) = let r = without bs l in cond (same_numbers bs p) l (p ∷ r)

unfoldable pub in_after_in : List ℕ → Result (Unit {0}) Fault → List (List ℕ) → List (List ℕ)
in_after_in bs (Ok x) ins = bs ∷ ins
in_after_in bs (Err f) ins = ins

unfoldable pub in_after_out : List ℕ → Result (Unit {0}) Fault → List (List ℕ) → List (List ℕ)
in_after_out bs (Ok x) ins = without bs ins
in_after_out bs (Err f) ins = ins

-- ---- Runs

-- A run with c channels, from plans that are in and a table: each call meets its operation's ensures on the table that the calls before it
-- left, and taking out is called only for plans then in. A beginning and an end of a run are runs.
unfoldable pub BandRun : ℕ → List (List ℕ) → List ℕ → List BandEvent → Type 0
BandRun c ins table [] = Unit {0}
BandRun c ins table (took_in k r after ∷ es) =
    (band_outcome r after ≡ take_in k.bytes k.stations k.slots c table) ×
    BandRun c (in_after_in k.bytes r ins) after es
BandRun c ins table (took_out k r after ∷ es) =
    Memᴰ k.bytes ins ×
    (band_outcome r after ≡ take_out k.bytes k.stations k.slots table) ×
    BandRun c (in_after_out k.bytes r ins) after es

-- ---- What holds of them

-- the number of records in a slot over some plans
unfoldable pub used_by : List (List ℕ) → ℕ → ℕ
used_by ins u = sum (map (λ bs. records_in bs u) ins)

-- each entry is the number of records in its slot over the plans in, and none is above c
pub record Used (c : ℕ) (ins : List (List ℕ)) (table : List ℕ) : Type 0 where
  pub entry : (j : ℕ) → j < band_slots → get_or table j 0 ≡ used_by ins (j + 1)
  pub at_most : (j : ℕ) → j < band_slots → get_or table j 0 ≤ c

-- a call's first cause before 15 and 16, or 0: 1 to 5, and 8
unfoldable pub earlier : BandCall → List ℕ → ℕ
earlier k table = first (plan_causes k.bytes k.stations k.slots ++ cause 8 (short band_slots table) ∷ [])

-- a plan would bring some slot's records over all plans in above c
abbrev pub Passes : ℕ → List (List ℕ) → List ℕ → Type 0
Passes c ins bs = (j : ℕ) × (j < band_slots) × (c < used_by (bs ∷ ins) (j + 1))

-- Before each call and at the end the table is right; a taking in gives 15 exactly where the plan would pass c and no earlier cause holds;
-- a taking out gives neither 15 nor 16, and a taking in no 16.
unfoldable pub RunHolds : ℕ → List (List ℕ) → List ℕ → List BandEvent → Type 0
RunHolds c ins table [] = Used c ins table
RunHolds c ins table (took_in k r after ∷ es) =
    Used c ins table ×
    ((answer_number r ≡ 15) ↔ ((earlier k table ≡ 0) × Passes c ins k.bytes)) ×
    (answer_number r ≢ 16) ×
    RunHolds c (in_after_in k.bytes r ins) after es
RunHolds c ins table (took_out k r after ∷ es) =
    Used c ins table ×
    (answer_number r ≢ 15) ×
    (answer_number r ≢ 16) ×
    RunHolds c (in_after_out k.bytes r ins) after es

-- Each of the two calls has an answer on every table: a run can go on with any taking in, and with a taking out of any plan then in.
abbrev pub EveryCallAnswered : Type 0
EveryCallAnswered =
    (k : BandCall) (table : List ℕ) →
    ((c : ℕ) → (r : Result (Unit {0}) Fault) × (after : List ℕ) × (band_outcome r after ≡ take_in k.bytes k.stations k.slots c table)) ×
    ((r : Result (Unit {0}) Fault) × (after : List ℕ) × (band_outcome r after ≡ take_out k.bytes k.stations k.slots table))

-- C-22.
pub record BandDemand : Type 0 where
  -- every run from a table of zeros, with no plan in
  pub runs : (c size : ℕ) (es : List BandEvent) → BandRun c [] (replicate size 0) es → RunHolds c [] (replicate size 0) es
  -- there are runs
  pub goes_on : EveryCallAnswered
