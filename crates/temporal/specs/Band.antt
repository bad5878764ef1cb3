-- Document 02's plans that share a band (C-22): what the operations that take a plan in and out answer, and what the lent table holds
-- afterwards, for every call. Definitions only.
-- Assumes nothing.
use Rattle.std.specs.Prelude.{ℕ, ◌+◌, ◌-◌, Bool, List, [], ◌∷◌, ◌++◌, map, ltb, eqb, length, get_or}
use Rattle.temporal.specs.Lists.{below, select, any}
use Rattle.temporal.specs.Bytes.{contact_at, records}
use Rattle.temporal.specs.Cause.{cause, plan_causes}
use Rattle.temporal.specs.Outcome.{Outcome, entered, over, short}

-- a plan's records in a slot: each takes one channel of the band
unfoldable pub records_in : List ℕ → ℕ → ℕ
records_in bs u = length (select (λ i. eqb (contact_at bs i).slot u) (below (records bs)))

-- the entries of the table: slot 1 first, slot 255 last, whatever T is; slot u stands at place u - 1
abbrev pub band_slots : ℕ
band_slots = 255

-- "taking a plan in adds its records per slot"; entries past 255 are untouched
unfoldable pub taken_in : List ℕ → List ℕ → List ℕ
taken_in bs old = over (map (λ j. get_or old j 0 + records_in bs (j + 1)) (below band_slots)) old

-- "taking it out subtracts them"
unfoldable pub taken_out : List ℕ → List ℕ → List ℕ
taken_out bs old = over (map (λ j. get_or old j 0 - records_in bs (j + 1)) (below band_slots)) old

-- 15: after a taking in one of the 255 entries would be above c, also where the plan has no record in its slot
unfoldable pub over_band : List ℕ → ℕ → List ℕ → Bool
over_band bs c old = any (λ j. ltb c (get_or old j 0 + records_in bs (j + 1))) (below band_slots)

-- 16: after a taking out one of the 255 entries would be below 0
unfoldable pub under_band : List ℕ → List ℕ → Bool
under_band bs old = any (λ j. ltb (get_or old j 0) (records_in bs (j + 1))) (below band_slots)

-- Taking a plan into a band of c channels. The table is all that is lent.
unfoldable pub take_in : List ℕ → ℕ → ℕ → ℕ → List ℕ → Outcome (Unit {0}) (List ℕ)
take_in bs n t c old =
    entered (plan_causes bs n t ++ (cause 8 (short band_slots old) ∷ cause 15 (over_band bs c old) ∷ [])) tt old
    (record { number = 0; values = tt; buffers = taken_in bs old })

-- Taking a plan out. The table is all that is lent.
unfoldable pub take_out : List ℕ → ℕ → ℕ → List ℕ → Outcome (Unit {0}) (List ℕ)
take_out bs n t old =
    entered (plan_causes bs n t ++ (cause 8 (short band_slots old) ∷ cause 16 (under_band bs old) ∷ [])) tt old
    (record { number = 0; values = tt; buffers = taken_out bs old })
