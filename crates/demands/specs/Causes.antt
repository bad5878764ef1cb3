-- For each operation the one list of all its causes of refusal, in document 01's order with document 02's 11 to 17; a cause that does not
-- hold stands in it as 0. (Check's list is plan_causes.) Beside it, what 9 and 10 leave in the lent buffers. Definitions only.
-- Assumes nothing.
use Rattle.std.specs.Prelude.{ℕ, Bool, not, ◌||◌, List, [], ◌∷◌, ◌++◌, pos, length, take, replicate}
use Rattle.temporal.specs.Plan.{Terms}
use Rattle.temporal.specs.Lists.{any}
use Rattle.temporal.specs.Bytes.{plan_of}
use Rattle.temporal.specs.Cause.{cause, outside, terms_causes, wrong_sources, plan_causes, pair_causes, station_causes}
use Rattle.temporal.specs.Cause.{appearance_too_many, is_too_many, too_many_below, too_many_anywhere}
use Rattle.temporal.specs.Outcome.{over, cleared, short, places, work_size, ReachTables}
use Rattle.temporal.specs.OutcomePair.{PairBuffers, LoadBuffers}
use Rattle.temporal.specs.OutcomeSet.{set_causes}
use Rattle.temporal.specs.OutcomeDrawn.{DrawnBuffers, records_size, drawn_short}
use Rattle.temporal.specs.OutcomeStruck.{StruckBuffers, either_too_many, wrong_position}
use Rattle.temporal.specs.Band.{band_slots, over_band, under_band}
use Rattle.temporal.specs.Cursor.{same_numbers}
use Rattle.temporal.specs.FirstNext.{Question, list_of, way_causes, overflow}

-- ---- Operation 2, reach: 1 to 5, 12, 14, 6, 8, 9

unfoldable pub reach_causes : List ℕ → ℕ → ℕ → Terms → ℕ → ReachTables → List ℕ
reach_causes bs n t terms s old =
    plan_causes bs n t ++
    (terms_causes terms ++ station_causes n s
    (short (places n t) old.hops_table || short (places n t) old.count_table ||
    (short n old.station_hops || short n old.station_counts))) ++
    cause 9 (is_too_many (plan_of bs n t terms) s) ∷ []

-- the named parts of all four tables become 0
unfoldable pub reach_emptied : ℕ → ℕ → ReachTables → ReachTables
reach_emptied n t old =
    record {
      hops_table = cleared (places n t) old.hops_table;
      count_table = cleared (places n t) old.count_table;
      station_hops = cleared n old.station_hops;
      station_counts = cleared n old.station_counts;
    }

-- ---- Operation 3, row: 1, 6, 8

unfoldable pub row_causes : ℕ → ℕ → ℕ → List ℕ → List ℕ
row_causes n t v table = cause 1 (outside n t) ∷ station_causes n v (short (places n t) table)

-- ---- Operation 4, pair: 1 to 5, 12, 14, 6 to 9

unfoldable pub pair_all_causes : List ℕ → ℕ → ℕ → Terms → ℕ → ℕ → PairBuffers → List ℕ
pair_all_causes bs n t terms s z old =
    plan_causes bs n t ++
    pair_causes terms n s z (short n old.through_table || short (work_size n t) old.work) ++
    cause 9 (is_too_many (plan_of bs n t terms) s) ∷ []

-- the named parts of the through table and of the work area become 0
unfoldable pub pair_emptied : ℕ → ℕ → PairBuffers → PairBuffers
pair_emptied n t old =
    record { through_table = cleared n old.through_table; work = cleared (work_size n t) old.work }

-- ---- Operation 5, loads, and operation 6, busiest: 1 to 5, 12, 14, 8, 9; they work on every source

unfoldable pub loads_causes : List ℕ → ℕ → ℕ → Terms → LoadBuffers → List ℕ
loads_causes bs n t terms old =
    plan_causes bs n t ++
    (terms_causes terms ++
    cause 8 (short n old.pairs_table || (short n old.load_table || short (work_size n t) old.work)) ∷
    cause 9 (too_many_anywhere (plan_of bs n t terms)) ∷ [])

-- the named parts of both tables and of the work area become 0
unfoldable pub loads_emptied : ℕ → ℕ → LoadBuffers → LoadBuffers
loads_emptied n t old =
    record {
      pairs_table = cleared n old.pairs_table;
      load_table = cleared n old.load_table;
      work = cleared (work_size n t) old.work;
    }

-- ---- Loads for the drawing program (document 02, C-24): those of loads, 8 of the records too

unfoldable pub drawn_causes : List ℕ → ℕ → ℕ → Terms → DrawnBuffers → List ℕ
drawn_causes bs n t terms old =
    plan_causes bs n t ++
    (terms_causes terms ++ cause 8 (drawn_short n t old) ∷ cause 9 (too_many_anywhere (plan_of bs n t terms)) ∷ [])

-- the named part of the records becomes 0 too
unfoldable pub drawn_emptied : ℕ → ℕ → DrawnBuffers → DrawnBuffers
drawn_emptied n t old = record { tables = loads_emptied n t old.tables; records = cleared (records_size n) old.records }

unfoldable pub busiest_causes : List ℕ → ℕ → ℕ → Terms → List ℕ → List ℕ
busiest_causes bs n t terms work =
    plan_causes bs n t ++
    (terms_causes terms ++ cause 8 (short (work_size n t) work) ∷ cause 9 (too_many_anywhere (plan_of bs n t terms)) ∷ [])

-- ---- Partial loads (document 02, C-18): 1 to 5, 12, 14, 13, 8, 9, where 9 looks at the sources below k; the buffers are left as
-- loads leaves them

unfoldable pub partial_loads_causes : List ℕ → ℕ → ℕ → Terms → ℕ → LoadBuffers → List ℕ
partial_loads_causes bs n t terms k old =
    plan_causes bs n t ++
    (terms_causes terms ++ cause 13 (wrong_sources n k) ∷
    cause 8 (short n old.pairs_table || (short n old.load_table || short (work_size n t) old.work)) ∷
    cause 9 (too_many_below (plan_of bs n t terms) k) ∷ [])

-- ---- The operation on a pair and a set (document 02, C-12): 1 to 5, 12, 14, 6 to 8, 11, 9; of what is lent it writes the work area
-- alone

unfoldable pub through_set_causes : List ℕ → ℕ → ℕ → Terms → ℕ → ℕ → List ℕ → List ℕ → List ℕ
through_set_causes bs n t terms s z set old =
    plan_causes bs n t ++ set_causes n t terms s z set old ++ cause 9 (is_too_many (plan_of bs n t terms) s) ∷ []

-- ---- The operation on shortest foremost paths (document 02, C-14): 1 to 5, 12, 6 to 9, where 9 looks at appearances alone; it leaves the
-- buffers as pair does. It is called for units that keep a reading until the plan ends: 14 never holds there.

unfoldable pub foremost_causes : List ℕ → ℕ → ℕ → Terms → ℕ → ℕ → PairBuffers → List ℕ
foremost_causes bs n t terms s z old =
    plan_causes bs n t ++
    pair_causes terms n s z (short n old.through_table || short (work_size n t) old.work) ++
    cause 9 (appearance_too_many (plan_of bs n t terms) s) ∷ []

-- ---- The verdict on a list (document 02, C-19): 1 to 5, 12, 14, 6 to 9; 8 is for the work area alone, and of what is lent it writes
-- that alone

unfoldable pub verdict_causes : List ℕ → ℕ → ℕ → Terms → ℕ → ℕ → List ℕ → List ℕ
verdict_causes bs n t terms s z old =
    plan_causes bs n t ++ pair_causes terms n s z (short (work_size n t) old) ++ cause 9 (is_too_many (plan_of bs n t terms) s) ∷ []

-- ---- A contact struck out (document 02, C-23): 1 to 5, 12, 14, 8, 17, then 9 of the plan with the record and of the plan without it

unfoldable pub struck_causes : List ℕ → ℕ → ℕ → Terms → ℕ → StruckBuffers → List ℕ
struck_causes bs n t terms i old =
    plan_causes bs n t ++
    (terms_causes terms ++
    cause 8 (short n old.change_table || short (work_size n t) old.work) ∷
    cause 17 (wrong_position bs i) ∷ cause 9 (either_too_many (plan_of bs n t terms) i) ∷ [])

-- the named parts of the changes and of the work area become 0
unfoldable pub struck_emptied : ℕ → ℕ → StruckBuffers → StruckBuffers
struck_emptied n t old =
    record { change_table = over (replicate n (pos 0)) old.change_table; work = cleared (work_size n t) old.work }

-- ---- Taking a plan in and taking it out (document 02, C-22): 1 to 5, 8, then 15 of the one and 16 of the other; neither 9 nor 10

unfoldable pub take_in_causes : List ℕ → ℕ → ℕ → ℕ → List ℕ → List ℕ
take_in_causes bs n t c old = plan_causes bs n t ++ (cause 8 (short band_slots old) ∷ cause 15 (over_band bs c old) ∷ [])

unfoldable pub take_out_causes : List ℕ → ℕ → ℕ → List ℕ → List ℕ
take_out_causes bs n t old = plan_causes bs n t ++ (cause 8 (short band_slots old) ∷ cause 16 (under_band bs old) ∷ [])

-- ---- Operation 7, first way: 1 to 5, 12, 14, 6 to 9; operation 8, next way: the same, then 10

-- the two lent buffers of first way and next way
pub record WayBuffers : Type 0 where
  pub way : List ℕ
  pub work : List ℕ

unfoldable pub first_way_causes : Question → WayBuffers → List ℕ
first_way_causes q old = way_causes q (length old.way) (length old.work) ++ overflow q ∷ []

-- 10: the offered positions are no shortest walk of the pair, as many being read as such a walk has hops; or it has none
unfoldable pub offers_none : Question → List ℕ → Bool
offers_none q way = not (any (λ w. same_numbers w (take (length w) way)) (list_of q))

-- the causes of first way, then 10
unfoldable pub next_way_causes : Question → WayBuffers → List ℕ
next_way_causes q old =
    way_causes q (length old.way) (length old.work) ++ overflow q ∷ cause 10 (offers_none q old.way) ∷ []

-- the way buffer stays, the named part of the work area becomes 0: with 9 and with 10
unfoldable pub way_emptied : ℕ → ℕ → WayBuffers → WayBuffers
way_emptied n t old = record { way = old.way; work = cleared (work_size n t) old.work }
