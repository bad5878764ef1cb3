-- From an accepted first way on, with no other after it, a trace gives the first walks of the complete list, none twice, and
-- says "none" or "last" exactly where all are out. It follows from every-trace-follows: with k walks out the cursor is on walk
-- k - 1, so a next way gives walk k while there is one, and then says "last"; where the list is empty the cursor is on none,
-- and every next way is refused. A refusal and a write leave the cursor.
-- Assumes nothing.
use Prim.Native.Nat.{ℕ, zero, suc, ◌+◌, ◌<◌}
use native.Mathlib.Omega.{arith}
use native.Mathlib.Numerals.{add-one}
use mathlib.Core.Path.{◌≡◌, refl, ap}
use mathlib.Core.Bool.{Bool, true, false, cond, ◌&&◌}
use mathlib.Core.List.Memᴰ
use mathlib.Core.List.{List, [], ◌∷◌, ◌++◌}
use mathlib.Core.Option.{Option, none, some}
use borrow.Author.Tests.{ltb-true, ltb-false, ne_eqb}
use lib.Dec.{ltb, eqb}
use lib.ListN.{length, take, drop, get_or, take-append-drop}
use lib.Seq.{drop-cons}
use Rattle.temporal.specs.Lists.{any, Rising}
use Rattle.temporal.specs.Cause.{unless}
use Rattle.temporal.specs.Outcome.{over}
use Rattle.temporal.specs.Cursor.{
  Reply,
  no_path,
  last_path,
  refused,
  index_in,
  Moved,
  stay,
  give,
  go_first,
  go_next,
  Operation,
  first_way,
  next_way,
  go,
  move,
}
use Rattle.temporal.specs.FirstNext.{Question, list_of}
use Rattle.temporal.specs.Trace.{Call, cause_of, Event, called, wrote, overwritten, Trace, FollowsCursor, Asked}
use Rattle.temporal.specs.TraceGiven.{is_first_way, starts_over, given, EndsWhenAllOut, GivesFirst, EveryTraceGives}
use Rattle.temporal.proofs.CauseLaws.{or_false_left, or_false_right}
use Rattle.lists.proofs.ListLaws.{not_both, rising_none_twice}
use Rattle.trace.proofs.CursorLaws.{take_over}
use Rattle.trace.proofs.TraceFollows.{list_of_paths_law, every_trace_follows}
use Rattle.trace.proofs.TraceParts.{trace_stretch}

-- a beginning of a rising list rises
rising_beginning : (a b : List (List ℕ)) → Rising (a ++ b) → Rising a
unfolding Rising
rising_beginning [] b r = tt
rising_beginning (w ∷ a) b r = (λ u m. r.0 u (Memᴰ.append_left b m), rising_beginning a b r.1)

-- ---- what is given with k walks out

-- k walks of l being out, events give the walks from k on, and "none" or "last" comes exactly where all are out
record Gives (l : List (List ℕ)) (k : ℕ) (es : List Event) : Type 0 where
  ways : given es ≡ take (length (given es)) (drop k l)
  ends : EndsWhenAllOut l k es

-- with k walks out the cursor is on walk k - 1, or on none
unfoldable Stands : List (List ℕ) → ℕ → Option ℕ → Type 0
Stands l k none = Unit {0}
Stands l k (some i) = (k ≡ i + 1) × (i < length l)

-- a move with k walks out: a refusal, "last" or "none" where all are out, or walk k is given
data Goes (l : List (List ℕ)) (k : ℕ) (b : List ℕ) : Moved → Type 0 where
  refuses : (n : ℕ) (at : Option ℕ) → Stands l k at → Goes l k b (stay (refused n) at b)
  says_last : (at : Option ℕ) → Stands l k at → k ≡ length l → Goes l k b (stay last_path at b)
  says_none : (at : Option ℕ) → Stands l k at → k ≡ length l → Goes l k b (stay no_path at b)
  gives : k < length l → Goes l k b (give l k b)

-- a call that does not start over makes such a move
move_goes : (l : List (List ℕ)) (k : ℕ) (at : Option ℕ) (b : List ℕ) → Stands l k at → (o : Operation) (n : ℕ)
    → (is_first_way o && eqb n 0) ≡ false
    → Goes l k b (move o n l at b)
unfolding move unless go go_next Stands is_first_way
move_goes l k at b s o (suc n) e = refuses (suc n) at s
move_goes l k at b s first_way zero e = absurd (not_both refl e)
move_goes l k none b s next_way zero e = refuses 10 none s
move_goes l k (some i) b s next_way zero e = rw (← s.0) (pick (ltb k (length l)) refl)
  where
    pick : (c : Bool) → ltb k (length l) ≡ c → Goes l k b (cond c (give l k b) (stay last_path (some i) b))
    pick true t = gives (ltb-true k (length l) t)
    pick false t = says_last (some i) s (omega (arith, ltb-false k (length l) t))

-- an accepted first way makes such a move with no walk out
first_goes : (l : List (List ℕ)) (b : List ℕ) (o : Operation) (n : ℕ) → (is_first_way o && eqb n 0) ≡ true
    → Goes l 0 b (move o n l (index_in l b) b)
unfolding move unless go go_first Stands is_first_way index_in
first_goes l b next_way n e = absurd (not_both e refl)
first_goes l b first_way (suc n) e = absurd (not_both e (ne_eqb (suc n) 0 (λ z. omega arith)))
first_goes [] b first_way zero e = says_none none tt refl
first_goes (w ∷ l) b first_way zero e = gives (omega arith)

-- a call that makes such a move gives what Gives says, where the events after it do from the cursor that it leaves
call_gives : (l : List (List ℕ)) (k : ℕ) (b : List ℕ) (c : Call) (r : Reply) (after : List ℕ) (es : List Event)
    {m : Moved}
    → Goes l k b m
    → r ≡ m.reply
    → after ≡ m.buffer
    → FollowsCursor l m.cursor m.buffer es
    → ((j : ℕ) (at : Option ℕ) (d : List ℕ) → Stands l j at → FollowsCursor l at d es → Gives l j es)
    → Gives l k (called c r after ∷ es)
unfolding given EndsWhenAllOut stay give Stands
call_gives l k b c r after es (refuses n at s) e d f later =
    let g = later k at b s f in
    rw e (record { ways = g.ways; ends = g.ends })
call_gives l k b c r after es (says_last at s all) e d f later =
    let g = later k at b s f in
    rw e (record { ways = g.ways; ends = (all, g.ends) })
call_gives l k b c r after es (says_none at s all) e d f later =
    let g = later k at b s f in
    rw e (record { ways = g.ways; ends = (all, g.ends) })
call_gives l k b c r after es (gives inside) e d f later =
    let w = get_or l k [] in
    let g = later (k + 1) (some k) (over w b) (refl, inside) f in
    let rest : given es ≡ take (length (given es)) (drop (suc k) l) = rw (← add-one k) g.ways in
    rw (e, d)
    (record {
      ways = rw (take_over w b (length w) refl, drop-cons l k [] inside) (ap (◌∷◌ w) rest);
      ends = (inside, g.ends);
    })

-- events among which none starts over give what Gives says
events_give : (l : List (List ℕ)) (k : ℕ) (at : Option ℕ) (b : List ℕ) (es : List Event) → Stands l k at
    → any starts_over es ≡ false
    → FollowsCursor l at b es
    → Gives l k es
unfolding FollowsCursor any starts_over given EndsWhenAllOut
events_give l k at b [] s e f = record { ways = refl; ends = tt }
events_give l k at b (called c r after ∷ es) s e f =
    let here = or_false_left (starts_over (called c r after)) (any starts_over es) e in
    let rest = or_false_right (starts_over (called c r after)) (any starts_over es) e in
    call_gives l k b c r after es (move_goes l k at b s c.operation (cause_of c) here) f.0 f.1 f.2
    (λ j to d stands follows. events_give l j to d es stands rest follows)
events_give l k at b (wrote behind ∷ es) s e f =
    let g = events_give l k at (overwritten l behind b) es s e f in
    record { ways = g.ways; ends = g.ends }

-- a trace that begins with an accepted first way, with no other in it, gives the first ones of the complete list
gives_first : (q : Question) → Asked q → (b : List ℕ) (e : Event) (es : List Event) → starts_over e ≡ true
    → any starts_over es ≡ false
    → Trace q b (e ∷ es)
    → GivesFirst (list_of q) (e ∷ es)
unfolding FollowsCursor starts_over
gives_first q asked b (called c r after) es starts once t =
    let l = list_of q in
    let f = every_trace_follows q asked b (called c r after ∷ es) t in
    let g = call_gives l 0 b c r after es (first_goes l b c.operation (cause_of c) starts) f.0 f.1 f.2
    (λ j at d stands follows. events_give l j at d es stands once follows) in
    let n = length (given (called c r after ∷ es)) in
    let rises : Rising (given (called c r after ∷ es)) =
    rw g.ways (rising_beginning (take n l) (drop n l) (rw take-append-drop (list_of_paths_law q asked).rises)) in
    record {
      first_ones = g.ways;
      rising = rises;
      none_twice = rising_none_twice (given (called c r after ∷ es)) rises;
      ends = g.ends;
    }
gives_first q asked b (wrote behind) es starts once t = absurd (not_both starts refl)

-- From an accepted first way on, with no other after it, the walks given are the first ones of the complete list, none twice,
-- and "none" or "last" comes exactly where all are out.
pub every_trace_gives : EveryTraceGives
every_trace_gives q asked e es s =
    let (b, t) = trace_stretch q s.buffer s.before (e ∷ es) s.behind s.trace in
    gives_first q asked b e es s.starts s.once t
