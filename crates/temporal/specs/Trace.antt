-- Document 01's listing, here a trace: calls of first way and next way on one way buffer, and the caller's writes between
-- them; and that it follows the cursor. Definitions only.
-- Assumes nothing.
use Rattle.std.specs.Prelude.{ℕ, ◌≤◌, ◌<◌, ◌≡◌, List, [], ◌∷◌, ◌++◌, ◌≢◌, length, take, drop}
use Rattle.std.proofs.Math.Option.{Option}
use Rattle.temporal.specs.Shortest.{hops}
use Rattle.temporal.specs.Cause.{first, plan_fault}
use Rattle.temporal.specs.Cursor.{Reply, Operation, index_in, move}
use Rattle.temporal.specs.FirstNext.{Question, list_of, way_causes, overflow, WayContract}

-- the arguments of a call; of the way buffer and of the work area only the lengths that are lent
pub record Call : Type 0 where
  pub operation : Operation
  pub question : Question
  pub lent : ℕ
  pub work : ℕ

-- the number of a call's first cause of refusal other than 10, or 0
unfoldable pub cause_of : Call → ℕ
cause_of c = first (way_causes c.question c.lent c.work ++ overflow c.question ∷ [])

-- What happens in a trace: a call with its answer and the whole way buffer after it, or a write of the caller's with the
-- entries behind the pair's hops after it.
pub data Event : Type 0 where
  called : Call → Reply → List ℕ → Event
  wrote : List ℕ → Event

-- how many first entries the caller leaves alone: the pair's hops, none where there is no walk
unfoldable pub kept_of : List (List ℕ) → ℕ
kept_of [] = 0
kept_of (w ∷ l) = hops (w ∷ l)

-- the buffer after such a write
unfoldable pub overwritten : List (List ℕ) → List ℕ → List ℕ → List ℕ
overwritten l behind b = take (kept_of l) b ++ behind

-- A call meets its operation's contract: it is lent a beginning of the buffer, and some work area of the length named;
-- the rest of the buffer is as it was.
pub record Meets (c : Call) (b : List ℕ) (r : Reply) (after : List ℕ) : Type 0 where
  pub within : c.lent ≤ length b
  pub work : List ℕ
  pub work_after : List ℕ
  pub work_length : length work ≡ c.work
  pub contract :
      WayContract c.operation c.question (take c.lent b) work r (take c.lent after) work_after
  pub rest : drop c.lent after ≡ drop c.lent b

-- A trace about q that starts with buffer b: each call meets its contract, and names q unless it has a cause of refusal
-- other than 10; each write keeps the buffer's length. A beginning and an end of a trace are traces.
unfoldable pub Trace : Question → List ℕ → List Event → Type 0
Trace q b [] = Unit {0}
Trace q b (called c r after ∷ es) = Meets c b r after × (cause_of c ≡ 0 → c.question ≡ q) × Trace q after es
Trace q b (wrote behind ∷ es) =
    (length (overwritten (list_of q) behind b) ≡ length b) × Trace q (overwritten (list_of q) behind b) es

-- Each answer, and the whole buffer after each call, are those of a cursor that has a buffer of its own.
unfoldable pub FollowsCursor : List (List ℕ) → Option ℕ → List ℕ → List Event → Type 0
FollowsCursor l at b [] = Unit {0}
FollowsCursor l at b (called c r after ∷ es) =
    let m = move c.operation (cause_of c) l at b in
    (r ≡ m.reply) × (after ≡ m.buffer) × FollowsCursor l m.cursor m.buffer es
FollowsCursor l at b (wrote behind ∷ es) = FollowsCursor l at (overwritten l behind b) es

-- A question that a trace may be about: an accepted plan and two different stations of it.
pub record Asked (q : Question) : Type 0 where
  pub accepted : plan_fault q.bytes q.stations q.slots ≡ 0
  pub source : q.source < q.stations
  pub destination : q.destination < q.stations
  pub different : q.source ≢ q.destination

-- Every trace, from any buffer, follows the cursor that starts on the way with which the buffer begins, or on none.
abbrev pub EveryTraceFollows : Type 0
EveryTraceFollows =
    (q : Question) → Asked q → (b : List ℕ) (es : List Event) → Trace q b es →
    FollowsCursor (list_of q) (index_in (list_of q) b) b es
