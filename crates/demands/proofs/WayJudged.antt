-- First way and next way are judged by their causes. Assumes nothing.
use Prim.Native.Nat.{ℕ, zero, suc, ◌+◌}
use mathlib.Core.Path.{◌≡◌, refl, sym, subst}
use mathlib.Core.Bool.{Bool, true, false, not, cond, ◌||◌}
use mathlib.Core.List.{List, [], ◌∷◌}
use mathlib.Core.Option.{Option, none, some, map}
use lib.Dec.{ltb}
use lib.ListN.{length, take}
use Rattle.temporal.specs.Lists.{any}
use Rattle.temporal.specs.Bytes.{plan_of}
use Rattle.temporal.specs.Cause.{cause, first, unless, is_too_many}
use Rattle.temporal.specs.Outcome.{Outcome, entered, cleared, work_size}
use Rattle.temporal.specs.Cursor.{
  Reply,
  last_path,
  same_numbers,
  index_in,
  Moved,
  stay,
  give,
  go_first,
  go_next,
  Operation,
  first_way,
  next_way,
  go,
  move,
}
use Rattle.temporal.specs.FirstNext.{Question, list_of, way_causes, overflow, WayOutcome, way_work, way_answer}
use Rattle.demands.specs.Causes.{WayBuffers, first_way_causes, offers_none, next_way_causes, way_emptied}
use Rattle.demands.specs.Demand1.{Judged, reply_number, reply_hops}
use Rattle.demands.proofs.JudgedLaws.{Plain, plain_pair, judged_entered, judged_accepted, judged_too_many, judged_unoffered}

-- what is done to the refusal and to the work
unless_map : {A B : Type 0} (f : A → B) (k : ℕ) (refusal : ℕ → A) (work : A)
    → f (unless k refusal work) ≡ unless k (λ j. f (refusal j)) (f work)
unfolding unless
unless_map f zero refusal work = refl
unless_map f (suc k) refusal work = refl

-- whether there is no index
unfoldable is_none : Option ℕ → Bool
is_none none = true
is_none (some i) = false

-- a buffer begins with no member of a list exactly where it has no index in it
index_none : (l : List (List ℕ)) (b : List ℕ) → not (any (λ w. same_numbers w (take (length w) b)) l) ≡ is_none (index_in l b)
unfolding any index_in is_none
index_none [] b = refl
index_none (w ∷ l) b = decide (same_numbers w (take (length w) b)) (index_in l b) (index_none l b)
  where
    decide : (t : Bool) (at : Option ℕ) → not (any (λ w. same_numbers w (take (length w) b)) l) ≡ is_none at
        → not (t || any (λ w. same_numbers w (take (length w) b)) l) ≡ is_none (cond t (some 0) (map suc at))
    decide true at e = refl
    decide false none e = e
    decide false (some i) e = e

-- the outcome of a reply, of a move and of an answer
abbrev outcome : Reply → List ℕ → List ℕ → Outcome ℕ WayBuffers
outcome r way work = record { number = reply_number r; values = reply_hops r; buffers = record { way = way; work = work } }

abbrev pub outcome_of : WayOutcome → Outcome ℕ WayBuffers
outcome_of a = outcome a.reply a.way a.work

-- ---- the moves

-- the way buffer as it was, and the work area at exit
module _ (old : WayBuffers) (after : List ℕ) where
  abbrev emptied : WayBuffers
  emptied = record { way = old.way; work = after }

  abbrev moved : Moved → Outcome ℕ WayBuffers
  moved m = outcome m.reply m.buffer after

  first_move : (many : Bool) (l : List (List ℕ)) (at : Option ℕ)
      → Judged (cause 9 many ∷ []) 0 old emptied (moved (move first_way (cause 9 many) l at old.way))
  unfolding cause first unless move go go_first stay give reply_number reply_hops
  first_move true l at = judged_too_many 0 old emptied (9 ∷ []) refl
  first_move false [] at = judged_accepted 0 old emptied (0 ∷ []) _ refl refl
  first_move false (w ∷ l) at = judged_accepted 0 old emptied (0 ∷ []) _ refl refl

  next_move : (many : Bool) (l : List (List ℕ)) (at : Option ℕ)
      → Judged (cause 9 many ∷ cause 10 (is_none at) ∷ []) 0 old emptied
      (moved (move next_way (cause 9 many) l at old.way))
  unfolding cause first unless move go go_next stay give reply_number reply_hops is_none
  next_move true l at = judged_too_many 0 old emptied _ refl
  next_move false l none = judged_unoffered 0 old emptied (0 ∷ 10 ∷ []) refl
  next_move false l (some i) = either (ltb (i + 1) (length l))
    where
      either : (t : Bool)
          → Judged (0 ∷ 0 ∷ []) 0 old emptied
          (moved (cond t (give l (i + 1) old.way) (stay last_path (some i) old.way)))
      either true = judged_accepted 0 old emptied (0 ∷ 0 ∷ []) _ refl refl
      either false = judged_accepted 0 old emptied (0 ∷ 0 ∷ []) _ refl refl

-- ---- the operations

module _ (q : Question) (old : WayBuffers) where
  abbrev area : List ℕ
  area = cleared (work_size q.stations q.slots) old.work

  abbrev answer : Operation → Outcome ℕ WayBuffers
  answer o = outcome_of (way_answer o q old.way old.work)

  entered_way : (o : Operation)
      → entered (way_causes q (length old.way) (length old.work)) 0 old (outcome_of (way_work o q old.way old.work)) ≡
      answer o
  unfolding entered way_answer reply_number reply_hops
  entered_way o = sym (unless_map outcome_of (first (way_causes q (length old.way) (length old.work))) _ _)

  plain_way : Plain (way_causes q (length old.way) (length old.work))
  unfolding way_causes
  plain_way = plain_pair q.bytes q.stations q.slots q.terms _ q.source q.destination

  pub first_way_judged : Judged (first_way_causes q old) 0 old (way_emptied q.stations q.slots old) (answer first_way)
  unfolding first_way_causes way_emptied way_work overflow
  first_way_judged =
      subst (Judged (first_way_causes q old) 0 old (way_emptied q.stations q.slots old)) (entered_way first_way)
      (judged_entered 0 old (way_emptied q.stations q.slots old) _ (overflow q ∷ []) _ plain_way
      (first_move old area (is_too_many (plan_of q.bytes q.stations q.slots q.terms) q.source) (list_of q)
      (index_in (list_of q) old.way)))

  pub next_way_judged : Judged (next_way_causes q old) 0 old (way_emptied q.stations q.slots old) (answer next_way)
  unfolding next_way_causes way_emptied way_work overflow offers_none
  next_way_judged =
      subst (Judged (next_way_causes q old) 0 old (way_emptied q.stations q.slots old)) (entered_way next_way)
      (judged_entered 0 old (way_emptied q.stations q.slots old) _ (overflow q ∷ cause 10 (offers_none q old.way) ∷ [])
      _ plain_way
      (rw (index_none (list_of q) old.way)
      (next_move old area (is_too_many (plan_of q.bytes q.stations q.slots q.terms) q.source) (list_of q)
      (index_in (list_of q) old.way))))
