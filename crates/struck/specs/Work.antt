-- What the inner functions of the operation on a contact that is struck out ask and leave. Definitions only.
-- Assumes nothing.
use Rattle.std.specs.Prelude.{ℕ, ◌+◌, ◌*◌, ◌<◌, ◌≤◌, ◌≡◌, Bool, true, false, not, cond, ◌&&◌, ◌||◌, Option, Some, None, MatchOption, List, map, ◌⊎◌, eqb, ℤ, pos, length, get_or, drop, replicate}
use Rattle.temporal.specs.Lists.{from, below, sum}
use Rattle.temporal.specs.Plan.{Plan, Terms, Allowed}
use Rattle.temporal.specs.Bytes.{plan_of}
use Rattle.temporal.specs.Cause.{plan_fault, is_too_many}
use Rattle.temporal.specs.Load.{load}
use Rattle.temporal.specs.Outcome.{Outcome, over, cleared, work_size}
use Rattle.temporal.specs.Struck.{struck_out, lacking_record, is_user, pairs_using}
use Rattle.temporal.specs.OutcomeStruck.{StruckBuffers, either_too_many}
use Rattle.pass.specs.Row.{part_size}
use Rattle.stale.specs.Depth.{Deep}
use Rattle.forward.specs.Passed.{pass_size, Counted, Known}
use Rattle.tallies.specs.Tally.{block_of, tally_base}
use Rattle.tallies.specs.Progress.{ends, TallyEntry, Kept}
use Rattle.tallies.specs.Sources.{SourceReady}

-- ---- two plans' hops and counts

-- whether hops or count of station z, which a pass leaves at z and n + z, differ from those kept from a place on
unfoldable pub differs_at : ℕ → ℕ → List ℕ → ℕ → Bool
differs_at n at w z = not (eqb (get_or w z 0) (get_or w (at + z) 0) && eqb (get_or w (n + z) 0) (get_or w (at + n + z) 0))

-- 1 where station z is not the source and differs
unfoldable pub differing_at : ℕ → ℕ → List ℕ → ℕ → ℕ → ℕ
differing_at n at w s z = cond (not (eqb s z) && differs_at n at w z) 1 0

-- how many of k stations from z on do
unfoldable pub differing : ℕ → ℕ → List ℕ → ℕ → ℕ → ℕ → ℕ
differing n at w s z k = sum (map (differing_at n at w s) (from z k))

-- both lie within the list, one behind the other
pub record Comparable (n at : ℕ) (w : List ℕ) : Type 0 where
  pub apart : 2 * n ≤ at
  pub fits : at + 2 * n ≤ length w

-- ---- a source

-- how many destinations use the contact at position i from source s
unfoldable pub users_from : Plan → ℕ → ℕ → ℕ
users_from p i s = sum (map (λ z. cond (is_user p i (ends s z)) 1 0) (below p.stations))

-- what comparing asks: an accepted plan, units that no cause refuses, a source, room for the pass before the kept entries, and hops and counts
-- without the record at position i in the work area
pub record CompareReady (bs : List ℕ) (i n t : ℕ) (terms : Terms) (d at s : ℕ) (work : List ℕ) : Type 0 where
  pub accepted : plan_fault bs n t ≡ 0
  pub units : Allowed terms
  pub deep : Deep bs n terms.keeping d
  pub source : s < n
  pub area : pass_size n t terms d 0 ≤ at
  pub room : Comparable n at work
  pub stations : Counted (lacking_record bs i) n t terms s 0 0 work

-- how many destinations use the contact, or that the plan with the record has too many
unfoldable pub ComparedAs : Plan → ℕ → ℕ → Option ℕ → Type 0
ComparedAs p i s (Some k) = (is_too_many p s ≡ false) × (k ≡ users_from p i s)
ComparedAs p i s None = is_too_many p s ≡ true

pub record Compared (bs : List ℕ) (i n t : ℕ) (terms : Terms) (at s : ℕ) (old new : List ℕ) (r : Option ℕ) : Type 0 where
  pub answer : ComparedAs (plan_of bs n t terms) i s r
  pub beyond : drop (at + 2 * n) new ≡ drop (at + 2 * n) old
  pub same_length : length new ≡ length old

-- what a source asks: the tallies' source without the record, and comparing
pub record OneReady (bs : List ℕ) (i n t : ℕ) (terms : Terms) (d base block s : ℕ) (work : List ℕ) : Type 0 where
  pub accepted : plan_fault bs n t ≡ 0
  pub deep : Deep bs n terms.keeping d
  pub area : pass_size n t terms d 0 + 2 * n ≤ base
  pub apart : 4 * n ≤ base
  pub without : SourceReady (lacking_record bs i) n t terms d base block s work

-- how many destinations use the contact, and the source tallied without the record; or that one of the two plans has too many
unfoldable pub StruckAs : Plan → Plan → ℕ → ℕ → ℕ → ℕ → List ℕ → Option ℕ → Type 0
StruckAs p q i n base s new (Some k) =
    ((is_too_many p s || is_too_many q s) ≡ false) × ((k ≡ users_from p i s) × ((v : ℕ) → v < n → TallyEntry q n base (s + 1) v 0 new))
StruckAs p q i n base s new None = (is_too_many p s || is_too_many q s) ≡ true

pub record OneStruck (bs : List ℕ) (i n t : ℕ) (terms : Terms) (base s : ℕ) (old new : List ℕ) (r : Option ℕ) : Type 0 where
  pub answer : StruckAs (plan_of bs n t terms) (plan_of (lacking_record bs i) n t terms) i n base s new r
  pub kept : Kept n base old new

-- ---- every source

pub record AllAsked (bs : List ℕ) (n t : ℕ) (terms : Terms) (work : List ℕ) : Type 0 where
  pub accepted : plan_fault bs n t ≡ 0
  pub units : Allowed terms
  pub fits : work_size n t ≤ length work

pub record AllReady (bs : List ℕ) (n t : ℕ) (terms : Terms) (d base block : ℕ) (work : List ℕ) : Type 0 where
  pub asked : AllAsked bs n t terms work
  pub deep : Deep bs n terms.keeping d
  pub kept : d ≤ terms.keeping
  pub block_there : block ≡ block_of n t terms d
  pub base_there : base ≡ tally_base n t

-- how many pairs use the contact, and every station's load without the record; or that one of the two plans has too many
unfoldable pub AllAs : Plan → Plan → ℕ → ℕ → ℕ → List ℕ → Option ℕ → Type 0
AllAs p q i n t new (Some k) =
    (either_too_many p i ≡ false) ×
    ((k ≡ length (pairs_using p i)) × ((v : ℕ) → v < n → get_or new (tally_base n t + n + v) 0 ≡ load q v))
AllAs p q i n t new None = either_too_many p i ≡ true

pub record AllStruck (bs : List ℕ) (i n t : ℕ) (terms : Terms) (old new : List ℕ) (r : Option ℕ) : Type 0 where
  pub answer : AllAs (plan_of bs n t terms) (struck_out (plan_of bs n t terms) i) i n t new r
  pub beyond : drop (work_size n t) new ≡ drop (work_size n t) old
  pub same_length : length new ≡ length old

-- ---- where both plans' tallies fit behind the pass

-- what tallying a source asks whose tallies are kept at a place behind those that are worked on
pub record ParkReady (bs : List ℕ) (n t : ℕ) (terms : Terms) (d base block park s : ℕ) (work : List ℕ) : Type 0 where
  pub accepted : plan_fault bs n t ≡ 0
  pub source : s < n
  pub units : Allowed terms
  pub deep : Deep bs n terms.keeping d
  pub some_block : 0 < block
  pub area : pass_size n t terms d block ≤ base
  pub part : part_size n block ≤ base
  pub behind : base + 2 * n ≤ park
  pub fits : park + 2 * n ≤ length work
  pub summed : (v : ℕ) → v < n → TallyEntry (plan_of bs n t terms) n park s v 0 work

-- what it promises: whether a count is over 2^64 - 1; where none is, the source done there, and hops and counts of the stations; and that no
-- other entry behind those worked on is touched
pub record ParkDone (bs : List ℕ) (n t : ℕ) (terms : Terms) (base park s : ℕ) (old new : List ℕ) (r : Bool) : Type 0 where
  pub too_many : r ≡ is_too_many (plan_of bs n t terms) s
  pub summed : r ≡ false → (v : ℕ) → v < n → TallyEntry (plan_of bs n t terms) n park (s + 1) v 0 new
  pub stations : r ≡ false → Counted bs n t terms s 0 0 new
  pub others : (i : ℕ) → base + 2 * n ≤ i → (i < park) ⊎ (park + 2 * n ≤ i) → get_or new i 0 ≡ get_or old i 0
  pub same_length : length new ≡ length old

-- where the tallies with the record, those without it, and one source's hops and counts are kept
abbrev pub with_at : ℕ → ℕ → ℕ
with_at n base = base + 2 * n

abbrev pub without_at : ℕ → ℕ → ℕ
without_at n base = base + 4 * n

abbrev pub kept_at : ℕ → ℕ → ℕ
kept_at n base = base + 6 * n

-- the sources before s are tallied in both plans
pub record BothSummed (p q : Plan) (n base s : ℕ) (work : List ℕ) : Type 0 where
  pub with_record : (v : ℕ) → v < n → TallyEntry p n (with_at n base) s v 0 work
  pub without_record : (v : ℕ) → v < n → TallyEntry q n (without_at n base) s v 0 work

-- what the work on every source asks
pub record RoomReady (bs : List ℕ) (n t : ℕ) (terms : Terms) (d base block : ℕ) (work : List ℕ) : Type 0 where
  pub accepted : plan_fault bs n t ≡ 0
  pub units : Allowed terms
  pub deep : Deep bs n terms.keeping d
  pub some_block : 0 < block
  pub area : pass_size n t terms d block ≤ base
  pub part : part_size n block ≤ base
  pub fits : base + 8 * n ≤ length work

-- what a source asks
pub record BothReady (bs : List ℕ) (i n t : ℕ) (terms : Terms) (d base block s : ℕ) (work : List ℕ) : Type 0 where
  pub room : RoomReady bs n t terms d base block work
  pub source : s < n
  pub summed : BothSummed (plan_of bs n t terms) (plan_of (lacking_record bs i) n t terms) n base s work

-- what is known of it in both plans; the whole plan lacks no record
pub record BothKnown (bs : List ℕ) (i n t : ℕ) (terms : Terms) (s whole lacking : ℕ) : Type 0 where
  pub with_record : Known (lacking_record bs (length bs)) n t terms s whole
  pub without_record : Known (lacking_record bs i) n t terms s lacking

-- how many destinations use the contact from source s, and both plans' tallies of it; or that one of them has too many
unfoldable pub BothAs : Plan → Plan → ℕ → ℕ → ℕ → ℕ → List ℕ → Option ℕ → Type 0
BothAs p q i n base s new (Some k) =
    ((is_too_many p s || is_too_many q s) ≡ false) × ((k ≡ users_from p i s) × BothSummed p q n base (s + 1) new)
BothAs p q i n base s new None = (is_too_many p s || is_too_many q s) ≡ true

pub record BothStruck (bs : List ℕ) (i n t : ℕ) (terms : Terms) (base s : ℕ) (old new : List ℕ) (r : Option ℕ) : Type 0 where
  pub answer : BothAs (plan_of bs n t terms) (plan_of (lacking_record bs i) n t terms) i n base s new r
  pub beyond : drop (base + 8 * n) new ≡ drop (base + 8 * n) old
  pub same_length : length new ≡ length old

-- how many pairs use the contact, and every station's load with the record and without it; or that one of the two plans has too many
unfoldable pub RoomAs : Plan → ℕ → ℕ → ℕ → List ℕ → Option ℕ → Type 0
RoomAs p i n base new (Some k) =
    (either_too_many p i ≡ false) ×
    ((k ≡ length (pairs_using p i)) ×
    ((v : ℕ) → v < n →
    (get_or new (with_at n base + n + v) 0 ≡ load p v) × (get_or new (without_at n base + n + v) 0 ≡ load (struck_out p i) v)))
RoomAs p i n base new None = either_too_many p i ≡ true

pub record RoomStruck (bs : List ℕ) (i n t : ℕ) (terms : Terms) (base : ℕ) (old new : List ℕ) (r : Option ℕ) : Type 0 where
  pub answer : RoomAs (plan_of bs n t terms) i n base new r
  pub beyond : drop (base + 8 * n) new ≡ drop (base + 8 * n) old
  pub same_length : length new ≡ length old

-- what finding a block asks with which both plans' tallies fit: one that fits before the tallies of one plan
pub record RoomAsked (n t : ℕ) (terms : Terms) (d base block : ℕ) : Type 0 where
  pub turns : 0 < terms.turnaround
  pub slots : 0 < t
  pub fits : pass_size n t terms d block ≤ base

-- such a block, where one is found; some columns, where the block that is asked with has some
pub record RoomFor (n t : ℕ) (terms : Terms) (d base block : ℕ) (r : Option ℕ) : Type 0 where
  pub fits : MatchOption r (Unit {0}) (λ b. pass_size n t terms d b + 6 * n ≤ base)
  pub some : MatchOption r (Unit {0}) (λ b. 0 < block → 0 < b)

-- ---- the operation once 1 to 8, 12, 14 and 17 are excluded

pub record StruckReady (bs : List ℕ) (n t : ℕ) (terms : Terms) (changes : List ℤ) (work : List ℕ) : Type 0 where
  pub asked : AllAsked bs n t terms work
  pub changes_room : n ≤ length changes

-- what it asks where both plans' tallies fit behind the pass
pub record RoomyReady (bs : List ℕ) (n t : ℕ) (terms : Terms) (d base block : ℕ) (changes : List ℤ) (work : List ℕ) : Type 0 where
  pub room : RoomReady bs n t terms d base block work
  pub inside : base + 8 * n ≤ work_size n t
  pub area : work_size n t ≤ length work
  pub changes_room : n ≤ length changes

-- what clearing both asks
pub record ClearReady (n t : ℕ) (changes : List ℤ) (work : List ℕ) : Type 0 where
  pub stations : n ≤ 256
  pub slots : t ≤ 255
  pub changes_room : n ≤ length changes
  pub area : work_size n t ≤ length work

-- 9: the changes and the work area are cleared
unfoldable pub too_many_struck : ℕ → ℕ → StruckBuffers → Outcome ℕ StruckBuffers
too_many_struck n t old =
    record {
      number = 9;
      values = 0;
      buffers = record {
        change_table = over (replicate n (pos 0)) old.change_table;
        work = cleared (work_size n t) old.work;
      };
    }
