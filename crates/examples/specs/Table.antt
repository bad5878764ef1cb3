-- The table itself: P1 to P10 of document 01, restated for doubled plans, and a single record (document 02, C-16); and the test of
-- an entry. Definitions only.
-- Assumes nothing.
use Rattle.std.specs.Prelude.{◌+◌, ◌*◌, Bool, true, ◌&&◌, List, [], ◌∷◌, eqb, get_or}
use Rattle.temporal.specs.Lists.{select}
use Rattle.temporal.specs.Walk.{is_path}
use Rattle.temporal.specs.Shortest.{shortest_walks}
use Rattle.temporal.specs.Bytes.{plan_of}
use Rattle.temporal.specs.Cause.{plan_fault}
use Rattle.temporal.specs.Outcome.{work_size}
use Rattle.temporal.specs.OutcomePair.{pair, loads}
use Rattle.temporal.specs.Cursor.{path, no_path, last_path, refused, same_numbers, first_way, next_way}
use Rattle.temporal.specs.FirstNext.{list_of, way_answer}
use Rattle.examples.specs.Questions.{
  plan_a,
  slow_a,
  empty_plan,
  repeated,
  with_itself,
  same_slot,
  single,
  slowest,
  without,
  too_slow,
  Example,
  checks,
  station,
  appearance,
  walks,
  complete,
  throughs,
  gives,
  loads_of,
  sevens,
  terms_of,
  question_of,
  reached_from,
  same_lists,
  same_reply,
}

-- whether an entry's answer is what the operation's definition gives
unfoldable pub right : Example → Bool
right (checks g k) = eqb (plan_fault g.bytes g.stations g.slots) k
right (station g s v h c) =
    eqb (get_or (reached_from g s).station_hops v 7) h && eqb (get_or (reached_from g s).station_counts v 7) c
right (appearance g s v t h c) =
    eqb (get_or (reached_from g s).hops_table (v * (g.slots + 1) + t) 7) h &&
    eqb (get_or (reached_from g s).count_table (v * (g.slots + 1) + t) 7) c
right (walks g s v t l paths) =
    same_lists (shortest_walks (plan_of g.bytes g.stations g.slots (terms_of g)) s v t) l &&
    same_lists (select (is_path (plan_of g.bytes g.stations g.slots (terms_of g)) s v) l) paths
right (complete g s z l) = same_lists (list_of (question_of g s z)) l
right (throughs g s z l) =
    same_numbers
    (pair g.bytes g.stations g.slots (terms_of g) s z
    (record { through_table = sevens g.stations; work = sevens (work_size g.stations g.slots) })
    ).buffers.through_table l
right (gives o g s z way r after) =
    let m = way_answer o (question_of g s z) way (sevens (work_size g.stations g.slots)) in
    same_reply m.reply r && same_numbers m.way after
right (loads_of g ps ls) =
    let m = loads g.bytes g.stations g.slots (terms_of g)
    (record {
      pairs_table = sevens g.stations;
      load_table = sevens g.stations;
      work = sevens (work_size g.stations g.slots);
    }) in
    same_numbers m.buffers.pairs_table ps && same_numbers m.buffers.load_table ls

-- whether every entry is right
unfoldable pub all_right : List Example → Bool
all_right [] = true
all_right (e ∷ l) = right e && all_right l

-- P1 to P10, in turn; plan A itself is accepted. A single record: it leads from its sender to its hearer, and not back.
-- Last turnarounds: 2 with plan A, the longest, which the first leg does not wait for, and 0 and 17, which are refused before the stations.
abbrev pub table : List Example
table =
    station empty_plan 0 0 0 1 ∷  -- P1
    station plan_a 0 3 2 3 ∷  -- P2
    station plan_a 0 4 3 3 ∷
    appearance plan_a 0 2 3 3 2 ∷  -- P3
    walks plan_a 0 2 3 ((0 ∷ 4 ∷ 9 ∷ []) ∷ (1 ∷ 5 ∷ 9 ∷ []) ∷ []) ((0 ∷ 4 ∷ 9 ∷ []) ∷ []) ∷
    station plan_a 0 2 1 1 ∷
    complete plan_a 0 4 ((0 ∷ 4 ∷ 10 ∷ []) ∷ (1 ∷ 5 ∷ 10 ∷ []) ∷ (1 ∷ 8 ∷ 10 ∷ []) ∷ []) ∷  -- P4
    gives first_way plan_a 0 4 (9 ∷ 9 ∷ 9 ∷ 9 ∷ []) (path 3) (0 ∷ 4 ∷ 10 ∷ 9 ∷ []) ∷
    gives next_way plan_a 0 4 (0 ∷ 4 ∷ 10 ∷ 9 ∷ []) (path 3) (1 ∷ 5 ∷ 10 ∷ 9 ∷ []) ∷
    gives next_way plan_a 0 4 (1 ∷ 5 ∷ 10 ∷ 9 ∷ []) (path 3) (1 ∷ 8 ∷ 10 ∷ 9 ∷ []) ∷
    throughs plan_a 0 4 (0 ∷ 1 ∷ 2 ∷ 3 ∷ 0 ∷ []) ∷  -- P5
    gives first_way plan_a 2 1 (9 ∷ 9 ∷ 9 ∷ 9 ∷ []) no_path (9 ∷ 9 ∷ 9 ∷ 9 ∷ []) ∷  -- P6
    gives next_way plan_a 0 4 (1 ∷ 8 ∷ 10 ∷ 9 ∷ []) last_path (1 ∷ 8 ∷ 10 ∷ 9 ∷ []) ∷  -- P7
    gives next_way plan_a 0 4 (0 ∷ 5 ∷ 10 ∷ 9 ∷ []) (refused 10) (0 ∷ 5 ∷ 10 ∷ 9 ∷ []) ∷
    checks plan_a 0 ∷
    checks repeated 5 ∷  -- P8
    checks with_itself 4 ∷
    loads_of plan_a (0 ∷ 2 ∷ 2 ∷ 4 ∷ 0 ∷ []) (0 ∷ 2863311530 ∷ 5726623060 ∷ 17179869184 ∷ 0 ∷ []) ∷  -- P9, g = 1
    gives first_way same_slot 0 2 (9 ∷ 9 ∷ []) no_path (9 ∷ 9 ∷ []) ∷  -- P10
    gives first_way single 0 1 (9 ∷ []) (path 1) (0 ∷ []) ∷  -- C-16
    gives first_way single 1 0 (9 ∷ []) no_path (9 ∷ []) ∷
    gives first_way slow_a 0 4 (9 ∷ 9 ∷ 9 ∷ 9 ∷ []) no_path (9 ∷ 9 ∷ 9 ∷ 9 ∷ []) ∷  -- C-17
    complete slow_a 0 3 ((1 ∷ 8 ∷ []) ∷ []) ∷
    loads_of slow_a (0 ∷ 0 ∷ 1 ∷ 2 ∷ 0 ∷ []) (0 ∷ 0 ∷ 4294967296 ∷ 8589934592 ∷ 0 ∷ []) ∷  -- C-20, g = 2
    gives first_way slowest 0 1 (9 ∷ []) (path 1) (0 ∷ []) ∷
    gives first_way without 0 9 [] (refused 12) [] ∷
    gives next_way too_slow 0 9 [] (refused 12) [] ∷ []
