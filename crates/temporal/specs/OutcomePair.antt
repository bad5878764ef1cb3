-- What operations 4 to 6 and document 02's partial loads answer, and what every lent buffer holds afterwards, for every call.
-- Definitions only.
-- Assumes nothing.
use Rattle.std.specs.Prelude.{ℕ, cond, ◌||◌, List, [], ◌∷◌, ◌++◌, map}
use Rattle.temporal.specs.Lists.{below}
use Rattle.temporal.specs.Plan.{Plan, Terms}
use Rattle.temporal.specs.Shortest.{shortest_walks_to, hops, count, through}
use Rattle.temporal.specs.Load.{partial_pairs, partial_load, busiest_of}
use Rattle.temporal.specs.Bytes.{plan_of}
use Rattle.temporal.specs.Cause.{cause, plan_causes, terms_causes, wrong_sources, pair_causes, is_too_many, too_many_below, too_many_anywhere}
use Rattle.temporal.specs.Outcome.{Outcome, entered, over, cleared, short, work_size}

-- ---- Operation 4, pair

pub record PairValues : Type 0 where
  pub hops : ℕ
  pub count : ℕ

pub record PairBuffers : Type 0 where
  pub through_table : List ℕ
  pub work : List ℕ

-- pair once 1 to 8, 12 and 14 are excluded. Where there is no walk: 65535 hops, count 0, and all through counts 0.
unfoldable pub paired : Plan → ℕ → ℕ → PairBuffers → Outcome PairValues PairBuffers
paired p s z old =
    cond (is_too_many p s)
    (record {
      number = 9;
      values = record { hops = 0; count = 0 };
      buffers = record {
        through_table = cleared p.stations old.through_table;
        work = cleared (work_size p.stations p.slots) old.work;
      };
    })
    (record {
      number = 0;
      values = record { hops = hops (shortest_walks_to p s z); count = count (shortest_walks_to p s z) };
      buffers = record {
        through_table = over (map (through p s z) (below p.stations)) old.through_table;
        work = cleared (work_size p.stations p.slots) old.work;
      };
    })

unfoldable pub pair : List ℕ → ℕ → ℕ → Terms → ℕ → ℕ → PairBuffers → Outcome PairValues PairBuffers
pair bs n t terms s z old =
    entered
    (plan_causes bs n t ++ pair_causes terms n s z (short n old.through_table || short (work_size n t) old.work))
    (record { hops = 0; count = 0 }) old (paired (plan_of bs n t terms) s z old)

-- ---- Partial loads, and operation 5, loads

pub record LoadBuffers : Type 0 where
  pub pairs_table : List ℕ
  pub load_table : List ℕ
  pub work : List ℕ

-- partial loads once 1 to 8, 12, 14 and 13 are excluded; the sources below k are worked on
unfoldable pub partly_loaded : Plan → ℕ → LoadBuffers → Outcome (Unit {0}) LoadBuffers
partly_loaded p k old =
    cond (too_many_below p k)
    (record {
      number = 9;
      values = tt;
      buffers = record {
        pairs_table = cleared p.stations old.pairs_table;
        load_table = cleared p.stations old.load_table;
        work = cleared (work_size p.stations p.slots) old.work;
      };
    })
    (record {
      number = 0;
      values = tt;
      buffers = record {
        pairs_table = over (map (partial_pairs p k) (below p.stations)) old.pairs_table;
        load_table = over (map (partial_load p k) (below p.stations)) old.load_table;
        work = cleared (work_size p.stations p.slots) old.work;
      };
    })

-- Document 02's partial loads (C-18): pairs and loads over the ordered pairs whose source is below k.
unfoldable pub partial_loads : List ℕ → ℕ → ℕ → Terms → ℕ → LoadBuffers → Outcome (Unit {0}) LoadBuffers
partial_loads bs n t terms k old =
    entered
    (plan_causes bs n t ++ (terms_causes terms ++ cause 13 (wrong_sources n k) ∷
    cause 8 (short n old.pairs_table || (short n old.load_table || short (work_size n t) old.work)) ∷ []))
    tt old (partly_loaded (plan_of bs n t terms) k old)

-- Operation 5, loads: the case in which every source is worked on. 13 never holds there.
abbrev pub loads : List ℕ → ℕ → ℕ → Terms → LoadBuffers → Outcome (Unit {0}) LoadBuffers
loads bs n t terms old = partial_loads bs n t terms n old

-- ---- Operation 6, busiest

-- busiest once 1 to 8, 12 and 14 are excluded; every source is worked on
unfoldable pub compared : Plan → List ℕ → Outcome ℕ (List ℕ)
compared p old =
    cond (too_many_anywhere p)
    (record { number = 9; values = 0; buffers = cleared (work_size p.stations p.slots) old })
    (record { number = 0; values = busiest_of p; buffers = cleared (work_size p.stations p.slots) old })

-- its value is the station, and the work area is all that is lent
unfoldable pub busiest : List ℕ → ℕ → ℕ → Terms → List ℕ → Outcome ℕ (List ℕ)
busiest bs n t terms old =
    entered (plan_causes bs n t ++ (terms_causes terms ++ cause 8 (short (work_size n t) old) ∷ [])) 0 old
    (compared (plan_of bs n t terms) old)
