-- Operations 7 and 8, first way and next way, for every call. Definitions only.
-- Assumes nothing.
use Rattle.std.specs.Prelude.{ℕ, ◌≡◌, ◌||◌, List, ◌++◌, ltb, length}
use Rattle.temporal.specs.Plan.{Terms}
use Rattle.temporal.specs.Shortest.{shortest_walks_to}
use Rattle.temporal.specs.Bytes.{plan_of}
use Rattle.temporal.specs.Cause.{cause, first, unless, plan_causes, pair_causes, is_too_many}
use Rattle.temporal.specs.Outcome.{cleared, work_size}
use Rattle.temporal.specs.Cursor.{Reply, refused, Operation, index_in, move}

-- what a call asks about: a plan's bytes, its numbers of stations and slots, its units' terms, a source and a destination
pub record Question : Type 0 where
  pub bytes : List ℕ
  pub stations : ℕ
  pub slots : ℕ
  pub terms : Terms
  pub source : ℕ
  pub destination : ℕ

-- the complete list of the pair asked about
unfoldable pub list_of : Question → List (List ℕ)
list_of q = shortest_walks_to (plan_of q.bytes q.stations q.slots q.terms) q.source q.destination

-- 1 to 5, 12, 14 and 6 to 8 of a call that is lent so many entries of the way buffer and so many of the work area
unfoldable pub way_causes : Question → ℕ → ℕ → List ℕ
way_causes q wayLength work_length =
    plan_causes q.bytes q.stations q.slots ++
    pair_causes q.terms q.stations q.source q.destination
    (ltb wayLength q.slots || ltb work_length (work_size q.stations q.slots))

-- 9 of such a call
unfoldable pub overflow : Question → ℕ
overflow q = cause 9 (is_too_many (plan_of q.bytes q.stations q.slots q.terms) q.source)

-- the answer, the way buffer and the work area at exit
pub record WayOutcome : Type 0 where
  pub reply : Reply
  pub way : List ℕ
  pub work : List ℕ

-- an operation once 1 to 8, 12 and 14 are excluded: the cursor stands on the way with which the buffer begins
unfoldable pub way_work : Operation → Question → List ℕ → List ℕ → WayOutcome
way_work o q way work =
    let m = move o (overflow q) (list_of q) (index_in (list_of q) way) way in
    record { reply = m.reply; way = m.buffer; work = cleared (work_size q.stations q.slots) work }

-- operations 7 and 8, for every call: 1 to 8, 12 and 14 leave the way buffer and the work area as they were
unfoldable pub way_answer : Operation → Question → List ℕ → List ℕ → WayOutcome
way_answer o q way work =
    unless (first (way_causes q (length way) (length work))) (λ k. record { reply = refused k; way = way; work = work })
    (way_work o q way work)

-- the contract of the two operations: the answer and both buffers at exit, from the buffers at entry
abbrev pub WayContract : Operation → Question → List ℕ → List ℕ → Reply → List ℕ → List ℕ → Type 0
WayContract o q way work r wayAfter work_after =
    ◌≡◌ {A = WayOutcome} (record { reply = r; way = wayAfter; work = work_after }) (way_answer o q way work)
