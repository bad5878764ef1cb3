-- The ways that a trace gives from one accepted first way until just before the next: the second sentence of demand 3.
-- Definitions only.
-- Assumes nothing.
use Rattle.std.specs.Prelude.{ℕ, ◌+◌, ◌<◌, ◌≡◌, Bool, true, false, ◌&&◌, List, [], ◌∷◌, ◌++◌, eqb, length, take}
use Rattle.temporal.specs.Lists.{any, Rising, NoneTwice}
use Rattle.temporal.specs.Cursor.{path, no_path, last_path, refused, Operation, first_way, next_way}
use Rattle.temporal.specs.FirstNext.{Question, list_of}
use Rattle.temporal.specs.Trace.{cause_of, Event, called, wrote, Trace, Asked}

unfoldable pub is_first_way : Operation → Bool
is_first_way first_way = true
is_first_way next_way = false

-- whether an event is an accepted first way
unfoldable pub starts_over : Event → Bool
starts_over (called c r after) = is_first_way c.operation && eqb (cause_of c) 0
starts_over (wrote behind) = false

-- the ways that events give, in turn: as many first entries of the buffer as the answer says
unfoldable pub given : List Event → List (List ℕ)
given [] = []
given (called c (path h) after ∷ es) = take h after ∷ given es
given (called c no_path after ∷ es) = given es
given (called c last_path after ∷ es) = given es
given (called c (refused k) after ∷ es) = given es
given (wrote behind ∷ es) = given es

-- k ways of l being out before, each call that is not refused says "none" or "last" exactly where all are out
unfoldable pub EndsWhenAllOut : List (List ℕ) → ℕ → List Event → Type 0
EndsWhenAllOut l k [] = Unit {0}
EndsWhenAllOut l k (called c (path h) after ∷ es) = (k < length l) × EndsWhenAllOut l (k + 1) es
EndsWhenAllOut l k (called c no_path after ∷ es) = (k ≡ length l) × EndsWhenAllOut l k es
EndsWhenAllOut l k (called c last_path after ∷ es) = (k ≡ length l) × EndsWhenAllOut l k es
EndsWhenAllOut l k (called c (refused j) after ∷ es) = EndsWhenAllOut l k es
EndsWhenAllOut l k (wrote behind ∷ es) = EndsWhenAllOut l k es

-- A stretch of a trace about q, from an accepted first way on, with no other accepted first way in it: it ends just before the
-- next one, or earlier.
pub record FromFirstWay (q : Question) (e : Event) (es : List Event) : Type 0 where
  pub starts : starts_over e ≡ true
  pub once : any starts_over es ≡ false
  pub buffer : List ℕ
  pub before : List Event
  pub behind : List Event
  pub trace : Trace q buffer (before ++ ((e ∷ es) ++ behind))

-- Such a stretch gives the first ways of the complete list l, in its order, none twice; and "none" or "last" comes exactly
-- where all are out.
pub record GivesFirst (l : List (List ℕ)) (es : List Event) : Type 0 where
  pub first_ones : given es ≡ take (length (given es)) l
  pub rising : Rising (given es)
  pub none_twice : NoneTwice (given es)
  pub ends : EndsWhenAllOut l 0 es

abbrev pub EveryTraceGives : Type 0
EveryTraceGives =
    (q : Question) → Asked q → (e : Event) (es : List Event) → FromFirstWay q e es → GivesFirst (list_of q) (e ∷ es)
