-- The answers and the buffers of every trace are those of the cursor, from any first buffer. An operation
-- puts its cursor where the lent part of the buffer shows it, so the theorem says that to read the buffer anew at each
-- call is to remember the cursor. It holds since the index of the walk with which the buffer begins is always the
-- cursor: a refusal, "none" and "last" leave the buffer; a call without cause 8 is lent at least the plan's slots,
-- which are at least the hops, and what it gives is the walk that the cursor is on; the caller writes behind the hops.
-- Assumes nothing.
use Prim.Native.Nat.{ℕ, zero, suc, ◌≤◌}
use native.Mathlib.Omega.{arith}
use mathlib.Core.Path.{◌≡◌, refl, sym, ap, ap₂, ◌∙◌, subst, subst₂}
use mathlib.Core.List.Memᴰ
use mathlib.Core.List.{List, [], ◌∷◌, ◌++◌, Memᴰ}
use mathlib.Core.Logic.{◌⊎◌, inl, inr}
use borrow.Author.Tests.{ltb-false}
use lib.Dec.{ltb}
use lib.ListN.{length, take, take-append-drop}
use lib.Seq.{length-take-le}
use Rattle.temporal.specs.Walk.{is_at}
use Rattle.temporal.specs.Shortest.{shortest_walks_to, hops}
use Rattle.temporal.specs.Bytes.{plan_of}
use Rattle.temporal.specs.Cause.{first, unless, plan_causes, terms_causes, ends_causes, pair_causes}
use Rattle.temporal.specs.Cursor.{Reply, refused, Moved, stay, Operation, index_in, move}
use Rattle.temporal.specs.FirstNext.{Question, list_of, way_causes, overflow, WayOutcome, way_work, way_answer}
use Rattle.temporal.specs.Trace.{
  Call,
  cause_of,
  called,
  wrote,
  kept_of,
  overwritten,
  Meets,
  Trace,
  FollowsCursor,
  Asked,
  EveryTraceFollows,
}
use Rattle.temporal.proofs.CauseLaws.{
  first_append_left,
  first_append_right,
  first_head,
  first_tail,
  or_false_left,
}
use Rattle.walks.proofs.ShortestLaws.{hops_bound}
use Rattle.walks.proofs.PlanLaws.{slots_within}
use Rattle.walks.proofs.Adequacy.{bounded_ends, in_complete_list, complete_list_rises}
use Rattle.trace.proofs.CursorLaws.{RisingPaths, index_behind, move_agrees}

-- ---- the complete list

-- a list with a member has its hops kept
kept_member : {w : List ℕ} {l : List (List ℕ)} → Memᴰ w l → hops l ≡ kept_of l
unfolding kept_of
kept_member {l = []} m = absurd (Memᴰ.not-nil m)
kept_member {l = w ∷ l} m = refl

-- hops that are within a bound, where there are any, are kept within it
kept_within : (l : List (List ℕ)) (t : ℕ) → (l ≡ []) ⊎ (hops l ≤ t) → kept_of l ≤ t
unfolding kept_of
kept_within l t (inl e) = rw e (omega arith)
kept_within [] t (inr h) = omega arith
kept_within (w ∷ l) t (inr h) = h

module _ (q : Question) (asked : Asked q) where
  -- the walks of a complete list have the kept number of positions each, and they rise
  pub list_of_paths_law : RisingPaths (kept_of (list_of q)) (list_of q)
  unfolding list_of
  list_of_paths_law =
      record {
        one_length = λ w m.
            let complete = in_complete_list q.bytes q.stations q.slots q.terms asked.accepted in
            ((complete q.source q.destination w).0 m).1 ∙ kept_member m;
        rises = complete_list_rises (plan_of q.bytes q.stations q.slots q.terms) q.source q.destination;
      }

  -- they have no more positions than the plan has slots
  pub kept_within_slots : kept_of (list_of q) ≤ q.slots
  unfolding list_of shortest_walks_to plan_of
  kept_within_slots =
      kept_within (list_of q) q.slots
      (hops_bound
      (bounded_ends (plan_of q.bytes q.stations q.slots q.terms)
      (slots_within q.bytes q.stations q.slots q.terms asked.accepted) q.source (is_at q.destination)))

-- ---- a call

-- a call without a cause is lent at least the plan's slots
pub slots_lent : (c : Call) → cause_of c ≡ 0 → c.question.slots ≤ c.lent
unfolding cause_of way_causes pair_causes ends_causes
slots_lent c e =
    let q = c.question in
    let call = first_append_left (way_causes q c.lent c.work) (overflow q ∷ []) e in
    let pair = first_append_right (plan_causes q.bytes q.stations q.slots) _ call in
    let ends = first_append_right (terms_causes q.terms) _ pair in
    let short = first_head 7 _ [] (first_tail 6 _ _ (first_tail 5 _ _ ends)) in
    ltb-false c.lent q.slots (or_false_left (ltb c.lent q.slots) _ short)

-- the first cause of a list with one more behind it
first_snoc : (ks : List ℕ) (n : ℕ) → first (ks ++ n ∷ []) ≡ unless (first ks) (λ k. k) n
unfolding first unless
first_snoc [] zero = refl
first_snoc [] (suc n) = refl
first_snoc (zero ∷ ks) n = first_snoc ks n
first_snoc (suc k ∷ ks) n = refl

-- an outcome is a move's: its answer, and what it leaves in the way buffer
pub record Moves (a : WayOutcome) (m : Moved) : Type 0 where
  pub reply : a.reply ≡ m.reply
  pub way : a.way ≡ m.buffer

-- each operation does what the move at its first cause other than 10 does, the cursor put where the way buffer shows it
pub answer_moves : (o : Operation) (q : Question) (way work : List ℕ)
    → Moves (way_answer o q way work)
    (move o (first (way_causes q (length way) (length work) ++ overflow q ∷ [])) (list_of q) (index_in (list_of q) way) way)
unfolding way_answer way_work move stay unless
answer_moves o q way work = rw first_snoc (pick (first (way_causes q (length way) (length work))))
  where
    pick : (n : ℕ) → Moves
        (unless n (λ k. record { reply = refused k; way = way; work = work }) (way_work o q way work))
        (move o (unless n (λ k. k) (overflow q)) (list_of q) (index_in (list_of q) way) way)
    pick zero = record { reply = refl; way = refl }
    pick (suc k) = record { reply = refl; way = refl }

-- so does a call of a trace, on the lent beginning of the buffer
pub meets_moves : (c : Call) (b : List ℕ) (r : Reply) (after : List ℕ) (met : Meets c b r after)
    → Moves (record { reply = r; way = take c.lent after; work = met.work_after })
    (move c.operation (cause_of c) (list_of c.question) (index_in (list_of c.question) (take c.lent b))
    (take c.lent b))
unfolding cause_of
meets_moves c b r after met =
    rw met.contract
    (rw (length-take-le c.lent b met.within, met.work_length) at
    (answer_moves c.operation c.question (take c.lent b) met.work))

-- what a call of a trace does is a move on the whole buffer, and that buffer then stands at the cursor
pub record Follows (l : List (List ℕ)) (m : Moved) (r : Reply) (after : List ℕ) : Type 0 where
  pub reply : r ≡ m.reply
  pub buffer : after ≡ m.buffer
  pub cursor : index_in l after ≡ m.cursor

-- the cursor being where the buffer shows it, a call of a trace is the cursor's move
pub call_follows : (q : Question) → Asked q → (c : Call) (b : List ℕ) (r : Reply) (after : List ℕ)
    → Meets c b r after
    → (cause_of c ≡ 0 → c.question ≡ q)
    → Follows (list_of q) (move c.operation (cause_of c) (list_of q) (index_in (list_of q) b) b) r after
call_follows q asked c b r after met names =
    let enough : cause_of c ≡ 0 → kept_of (list_of q) ≤ c.lent =
    λ e. omega (arith, kept_within_slots q asked, slots_lent c e, ap (λ p. p.slots) (names e)) in
    let moves = meets_moves c b r after met in
    let agrees =
    move_agrees (list_of_paths_law q asked) c.operation (cause_of c) (list_of c.question) b c.lent met.within
    (λ e. (ap list_of (names e), enough e)) in
    let whole = sym (take-append-drop c.lent after) ∙ ap₂ ◌++◌ moves.way met.rest ∙ agrees.buffer in
    record {
      reply = moves.reply ∙ agrees.reply;
      buffer = whole;
      cursor = ap (index_in (list_of q)) whole ∙ agrees.cursor;
    }

-- ---- a trace

-- Every trace, from any buffer, follows the cursor that starts on the walk with which the buffer begins.
pub every_trace_follows : EveryTraceFollows
unfolding Trace FollowsCursor overwritten
every_trace_follows q asked b [] t = tt
every_trace_follows q asked b (called c r after ∷ es) t =
    let f = call_follows q asked c b r after t.0 t.1 in
    let rest = every_trace_follows q asked after es t.2 in
    (f.reply, f.buffer, subst₂ (λ at d. FollowsCursor (list_of q) at d es) f.cursor f.buffer rest)
every_trace_follows q asked b (wrote behind ∷ es) t =
    subst (λ at. FollowsCursor (list_of q) at (overwritten (list_of q) behind b) es)
    (index_behind (list_of_paths_law q asked) b behind t.0) (every_trace_follows q asked (overwritten (list_of q) behind b) es t.1)
