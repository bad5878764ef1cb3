-- What operations 2 and 3, reach and row, answer, and what every lent buffer holds afterwards, for every call. Definitions only.
-- Assumes nothing.
use Rattle.std.specs.Prelude.{ℕ, ◌+◌, ◌*◌, ◌/◌, ◌%◌, Bool, cond, ◌||◌, List, [], ◌∷◌, ◌++◌, map, ltb, length, take, drop, replicate}
use Rattle.temporal.specs.Lists.{below}
use Rattle.temporal.specs.Plan.{Plan, Terms}
use Rattle.temporal.specs.Shortest.{shortest_walks, shortest_walks_to, hops, count}
use Rattle.temporal.specs.Bytes.{plan_of}
use Rattle.temporal.specs.Cause.{cause, first, unless, outside, plan_causes, terms_causes, station_causes, is_too_many}

-- the answer's number (0: accepted), the values beside it, and the lent buffers at exit
pub record Outcome (Values Buffers : Type 0) : Type 0 where
  pub number : ℕ
  pub values : Values
  pub buffers : Buffers

-- How an operation begins: refused with the first cause of a list, zeros beside the number and all lent memory as it
-- was; or, where no cause holds, the work.
unfoldable pub entered : {Values Buffers : Type 0} → List ℕ → Values → Buffers → Outcome Values Buffers → Outcome Values Buffers
entered causes zeros old work = unless (first causes) (λ k. record { number = k; values = zeros; buffers = old }) work

-- new entries written to the beginning of a buffer; the entries past them are untouched
unfoldable pub over : {A : Type 0} → List A → List A → List A
over new old = new ++ drop (length new) old

-- a buffer whose first k entries are 0
unfoldable pub cleared : ℕ → List ℕ → List ℕ
cleared k old = over (replicate k 0) old

-- whether a lent buffer has fewer than k entries
abbrev pub short : {A : Type 0} → ℕ → List A → Bool
short k l = ltb (length l) k

-- the entries of a table of appearances, n (T + 1), and of the work area, 4 n (T + 1)
abbrev pub places : ℕ → ℕ → ℕ
places n t = n * (t + 1)

abbrev pub work_size : ℕ → ℕ → ℕ
work_size n t = 4 * places n t

-- ---- Operation 2, reach

-- its four lent tables: hops and counts of appearances, hops and counts of stations
pub record ReachTables : Type 0 where
  pub hops_table : List ℕ
  pub count_table : List ℕ
  pub station_hops : List ℕ
  pub station_counts : List ℕ

-- a table of appearances: the entry of (v, t) stands at place v (T + 1) + t
unfoldable pub appearance_table : Plan → ℕ → (List (List ℕ) → ℕ) → List ℕ
appearance_table p s f =
    map (λ j. f (shortest_walks p s (j / (p.slots + 1)) (j % (p.slots + 1)))) (below (places p.stations p.slots))

-- a table of stations: the entry of v stands at place v
unfoldable pub station_table : Plan → ℕ → (List (List ℕ) → ℕ) → List ℕ
station_table p s f = map (λ v. f (shortest_walks_to p s v)) (below p.stations)

-- reach once 1 to 8, 12 and 14 are excluded
unfoldable pub reached : Plan → ℕ → ReachTables → Outcome (Unit {0}) ReachTables
reached p s old =
    cond (is_too_many p s)
    (record {
      number = 9;
      values = tt;
      buffers = record {
        hops_table = cleared (places p.stations p.slots) old.hops_table;
        count_table = cleared (places p.stations p.slots) old.count_table;
        station_hops = cleared p.stations old.station_hops;
        station_counts = cleared p.stations old.station_counts;
      };
    })
    (record {
      number = 0;
      values = tt;
      buffers = record {
        hops_table = over (appearance_table p s hops) old.hops_table;
        count_table = over (appearance_table p s count) old.count_table;
        station_hops = over (station_table p s hops) old.station_hops;
        station_counts = over (station_table p s count) old.station_counts;
      };
    })

unfoldable pub reach : List ℕ → ℕ → ℕ → Terms → ℕ → ReachTables → Outcome (Unit {0}) ReachTables
reach bs n t terms s old =
    entered
    (plan_causes bs n t ++ (terms_causes terms ++ station_causes n s
    (short (places n t) old.hops_table || short (places n t) old.count_table ||
    (short n old.station_hops || short n old.station_counts))))
    tt old (reached (plan_of bs n t terms) s old)

-- ---- Operation 3, row

-- its sister: row's number of refusal, or 0. It reads no plan.
unfoldable pub row_number : ℕ → ℕ → ℕ → List ℕ → ℕ
row_number n t v table = first (cause 1 (outside n t) ∷ station_causes n v (short (places n t) table))

-- the part of a table of appearances that holds a station's T + 1 entries; empty on refusal
unfoldable pub row : ℕ → ℕ → ℕ → List ℕ → List ℕ
row n t v table = unless (row_number n t v table) (λ _. []) (take (t + 1) (drop (v * (t + 1)) table))
