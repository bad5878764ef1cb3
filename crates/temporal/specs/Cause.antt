-- The causes of refusal, 1 to 9, in the order of document 01, and document 02's 12, 14 and 13. (10 is about an offered list: Cursor.)
-- Definitions only.
-- Assumes nothing.
use Rattle.std.specs.Prelude.{ℕ, zero, suc, ◌+◌, ◌-◌, ◌%◌, ◌^◌, Bool, not, cond, ◌&&◌, ◌||◌, leb, ltb, eqb, length}
use mathlib.Core.List.{List, [], ◌∷◌, ◌++◌, flat_map}
use Rattle.temporal.specs.Lists.{below, any}
use Rattle.temporal.specs.Plan.{Contact, Plan, Terms}
use Rattle.temporal.specs.Shortest.{shortest_walks, shortest_walks_to, count}
use Rattle.temporal.specs.Bytes.{contact_at, records}

-- the number of a cause where it holds, else 0
unfoldable pub cause : ℕ → Bool → ℕ
cause k holds = cond holds k 0

-- the first number of a list that is not 0; 0 where all are
unfoldable pub first : List ℕ → ℕ
first [] = 0
first (zero ∷ l) = first l
first (suc k ∷ l) = suc k

-- what is done at number 0; at any other number the refusal made of it
unfoldable pub unless : {A : Type 0} → ℕ → (ℕ → A) → A → A
unless zero refusal work = work
unless (suc k) refusal work = refusal (suc k)

-- 1: n outside 1 to 256, or T outside 1 to 255
unfoldable pub outside : ℕ → ℕ → Bool
outside n t = eqb n 0 || ltb 256 n || (eqb t 0 || ltb 255 t)

-- 2: not a multiple of 6 bytes, or over 8,192 records
unfoldable pub wrong_length : List ℕ → Bool
wrong_length bs = not (eqb (length bs % 6) 0) || ltb 8192 (records bs)

-- 3: slot 0 or above T
unfoldable pub wrong_slot : ℕ → Contact → Bool
wrong_slot t c = eqb c.slot 0 || ltb t c.slot

-- 4: a equals b, or either is n or more
unfoldable pub wrong_ends : ℕ → Contact → Bool
wrong_ends n c = eqb c.sender c.hearer || (leb n c.sender || leb n c.hearer)

-- whether d is above c, compared by slot, then a (the sender), then b (the hearer)
unfoldable pub is_above : Contact → Contact → Bool
is_above c d =
    ltb c.slot d.slot ||
    eqb c.slot d.slot && (ltb c.sender d.sender || eqb c.sender d.sender && ltb c.hearer d.hearer)

-- 5: the record at i is not above the one before it; the first has none before it
unfoldable pub wrong_order : List ℕ → ℕ → Bool
wrong_order bs i = ltb 0 i && not (is_above (contact_at bs (i - 1)) (contact_at bs i))

-- the causes of one record, in turn
unfoldable pub record_causes : List ℕ → ℕ → ℕ → ℕ → List ℕ
record_causes bs n t i =
    cause 3 (wrong_slot t (contact_at bs i)) ∷ cause 4 (wrong_ends n (contact_at bs i)) ∷ cause 5 (wrong_order bs i) ∷ []

-- the causes of a plan: 1, 2, then record by record 3, 4, 5
unfoldable pub plan_causes : List ℕ → ℕ → ℕ → List ℕ
plan_causes bs n t = cause 1 (outside n t) ∷ cause 2 (wrong_length bs) ∷ flat_map (record_causes bs n t) (below (records bs))

-- Operation 1, check: the first cause of refusal of a plan, or 0 where it is accepted.
unfoldable pub plan_fault : List ℕ → ℕ → ℕ → ℕ
plan_fault bs n t = first (plan_causes bs n t)

-- 12: the turnaround is outside 1 to 16 (document 02, C-17)
unfoldable pub wrong_turnaround : Terms → Bool
wrong_turnaround terms = eqb terms.turnaround 0 || ltb 16 terms.turnaround

-- 14: a reading is kept for fewer slots than the turnaround, or for over 255 (document 02, C-21)
unfoldable pub wrong_keeping : Terms → Bool
wrong_keeping terms = ltb terms.keeping terms.turnaround || ltb 255 terms.keeping

-- 12 and 14 of a call that says the units' terms
unfoldable pub terms_causes : Terms → List ℕ
terms_causes terms = cause 12 (wrong_turnaround terms) ∷ cause 14 (wrong_keeping terms) ∷ []

-- 13: more sources are to be worked on than there are stations (document 02, C-18)
abbrev pub wrong_sources : ℕ → ℕ → Bool
wrong_sources n k = ltb n k

-- 6, 7 and 8 of a call that names a pair; the Boolean says that something lent is too short
unfoldable pub ends_causes : ℕ → ℕ → ℕ → Bool → List ℕ
ends_causes n s z short = cause 6 (leb n s || leb n z) ∷ cause 7 (eqb s z) ∷ cause 8 short ∷ []

-- 12, 14, 6, 7 and 8 of it
unfoldable pub pair_causes : Terms → ℕ → ℕ → ℕ → Bool → List ℕ
pair_causes terms n s z short = terms_causes terms ++ ends_causes n s z short

-- 6 and 8 of a call that names one station
unfoldable pub station_causes : ℕ → ℕ → Bool → List ℕ
station_causes n v short = cause 6 (leb n v) ∷ cause 8 short ∷ []

-- an appearance has over 2^64 - 1 shortest walks from s; every appearance of the plan is looked at
abbrev pub appearance_too_many : Plan → ℕ → Bool
appearance_too_many p s =
    any (λ v. any (λ t. ltb (2 ^ 64 - 1) (count (shortest_walks p s v t))) (below (p.slots + 1))) (below p.stations)

-- a station has over 2^64 - 1 shortest walks from s; every station is looked at
abbrev pub station_too_many : Plan → ℕ → Bool
station_too_many p s = any (λ v. ltb (2 ^ 64 - 1) (count (shortest_walks_to p s v))) (below p.stations)

-- 9: an appearance, or a station, has over 2^64 - 1 shortest walks from s
unfoldable pub is_too_many : Plan → ℕ → Bool
is_too_many p s = appearance_too_many p s || station_too_many p s

-- 9 of an operation that works on the sources below k, and of one that works on every source
unfoldable pub too_many_below : Plan → ℕ → Bool
too_many_below p k = any (is_too_many p) (below k)

abbrev pub too_many_anywhere : Plan → Bool
too_many_anywhere p = too_many_below p p.stations
