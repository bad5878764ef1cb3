-- Demand 1: check accepts exactly the plans within the limits; each operation gives the number of the first of its causes, and
-- 0 exactly where none holds; a refusal leaves what document 01's table says. It is about the operations' contracts: all
-- answers and buffers for which the proposition in the operation's `ensures` holds. Definitions only.
-- Assumes nothing.
use Rattle.foremost.specs.declared.ForemostCount.{ForemostCount}
use Rattle.judging.specs.declared.Judgement.{Judgement}
use Rattle.pair.specs.declared.PairCount.{PairCount}
use Rattle.plan.specs.declared.Fault.{Fault}
use Rattle.plan.specs.declared.PlanFault.{PlanFault}
use Rattle.std.specs.Prelude.{Result, Ok}
use Rattle.std.specs.Prelude.{ℕ, ◌≡◌, ◌↔◌, ◌≢◌, List, [], ◌∷◌}
use Rattle.std.proofs.Math.Option.{none}
use Rattle.std.specs.Borrow.{Bor}
use Rattle.temporal.specs.Plan.{Terms, turning}
use Rattle.temporal.specs.Cause.{first, plan_causes, plan_fault}
use Rattle.temporal.specs.Outcome.{Outcome, cleared, work_size, ReachTables, reach, row_number}
use Rattle.temporal.specs.OutcomePair.{PairBuffers, pair, LoadBuffers, partial_loads, loads, busiest}
use Rattle.temporal.specs.OutcomeSet.{through_set}
use Rattle.temporal.specs.OutcomeForemost.{foremost}
use Rattle.temporal.specs.OutcomeVerdict.{verdict}
use Rattle.temporal.specs.OutcomeDrawn.{DrawnBuffers, drawn_loads}
use Rattle.temporal.specs.OutcomeStruck.{StruckBuffers, struck}
use Rattle.temporal.specs.Band.{take_in, take_out}
use Rattle.temporal.specs.Cursor.{Reply, path, no_path, last_path, refused, first_way, next_way}
use Rattle.temporal.specs.FirstNext.{WayContract}
use Rattle.plan.specs.Fault.{check_number}
use Rattle.rows.specs.Part.{RowPart}
use Rattle.reach.specs.Answer.{reach_outcome}
use Rattle.pair.specs.Answer.{pair_outcome}
use Rattle.loads.specs.Answer.{loads_outcome, busiest_outcome}
use Rattle.sets.specs.Answer.{set_outcome}
use Rattle.foremost.specs.Answer.{foremost_outcome}
use Rattle.verdicts.specs.Answer.{verdict_outcome}
use Rattle.drawn.specs.Answer.{drawn_outcome}
use Rattle.struck.specs.Answer.{struck_outcome}
use Rattle.band.specs.Answer.{band_outcome}
use Rattle.listing.specs.Answer.{reply_of, question}
use Rattle.listing.specs.declared.WayAnswer.{WayAnswer}
use Rattle.demands.specs.Limits.{WithinLimits}
use Rattle.demands.specs.Causes.{
  reach_causes,
  reach_emptied,
  row_causes,
  pair_all_causes,
  pair_emptied,
  loads_causes,
  loads_emptied,
  partial_loads_causes,
  drawn_causes,
  drawn_emptied,
  busiest_causes,
  through_set_causes,
  foremost_causes,
  verdict_causes,
  struck_causes,
  struck_emptied,
  take_in_causes,
  take_out_causes,
  WayBuffers,
  first_way_causes,
  next_way_causes,
  way_emptied,
}

-- no cause of a list holds
unfoldable pub NoneHolds : List ℕ → Type 0
NoneHolds [] = Unit {0}
NoneHolds (k ∷ l) = (k ≡ 0) × NoneHolds l

-- "Each number is given if its cause holds and no earlier one does, and in no other case."
pub record Numbered (causes : List ℕ) (k : ℕ) : Type 0 where
  pub the_first : k ≡ first causes
  pub accepted : (k ≡ 0) ↔ NoneHolds causes

-- Document 01's table, for one call: its causes, the zeros of its values, the lent buffers as they were and as 9 and 10 leave
-- them; and what came out.
pub record Judged {Values Buffers : Type 0} (causes : List ℕ) (zeros : Values) (old emptied : Buffers)
    (o : Outcome Values Buffers) : Type 0 where
  pub numbered : Numbered causes o.number
  -- zeros stand beside every refusal
  pub beside : o.number ≢ 0 → o.values ≡ zeros
  -- 1 to 8, and numbers added later, leave all lent memory as it was
  pub untouched : o.number ≢ 0 → o.number ≢ 9 → o.number ≢ 10 → o.buffers ≡ old
  -- an appearance or a station has too many shortest walks; and next way was offered no shortest walk of the pair
  pub too_many : o.number ≡ 9 → o.buffers ≡ emptied
  pub unoffered : o.number ≡ 10 → o.buffers ≡ emptied

-- Check accepts exactly the plans within the limits. It is lent nothing to write to.
pub record CheckJudged (bs : List ℕ) (n t : ℕ) (r : Result (Unit {0}) PlanFault) : Type 0 where
  pub accepts : (r ≡ Ok tt) ↔ WithinLimits bs n t
  pub numbered : Numbered (plan_causes bs n t) (check_number r)

-- The sister's number k, and row's part: the empty part exactly on refusal. They are lent nothing to write to.
pub record RowJudged (n t v : ℕ) (table : List ℕ) (k : ℕ) (part : List ℕ) : Type 0 where
  pub numbered : Numbered (row_causes n t v table) k
  pub empty : (part ≡ []) ↔ (k ≢ 0)

-- the number of a reply: "none" and "last" are acceptances
unfoldable pub reply_number : Reply → ℕ
reply_number (path h) = 0
reply_number no_path = 0
reply_number last_path = 0
reply_number (refused k) = k

-- the hops beside it: 0 unless a way is given
unfoldable pub reply_hops : Reply → ℕ
reply_hops (path h) = h
reply_hops no_path = 0
reply_hops last_path = 0
reply_hops (refused k) = 0

-- what first way and next way answer, with their two buffers at exit
abbrev pub way_result : Result WayAnswer Fault → WayBuffers → Outcome ℕ WayBuffers
way_result r b = record { number = reply_number (reply_of r); values = reply_hops (reply_of r); buffers = b }

-- Demand 1, operation by operation, of every call: r the answer, old and x the lent buffers at entry and at exit.
pub record Demand1 : Type 0 where
  pub limits : (bs : List ℕ) (n t : ℕ) → (plan_fault bs n t ≡ 0) ↔ WithinLimits bs n t
  pub of_check : (bs : List ℕ) (n t : ℕ) (r : Result (Unit {0}) PlanFault) → check_number r ≡ plan_fault bs n t → CheckJudged bs n t r
  pub of_reach : (bs : List ℕ) (n t : ℕ) (terms : Terms) (s : ℕ) (old x : ReachTables) (r : Result (Unit {0}) Fault) → reach_outcome r x ≡ reach bs n t terms s old
      → Judged (reach_causes bs n t terms s old) tt old (reach_emptied n t old) (reach_outcome r x)
  pub of_row : (n t v : ℕ) (table part : Bor (List ℕ)) (k : ℕ) → k ≡ row_number n t v table.now → RowPart n t v table part
      → RowJudged n t v table.now k part.now
  pub of_pair : (bs : List ℕ) (n t : ℕ) (terms : Terms) (s z : ℕ) (old x : PairBuffers) (r : Result PairCount Fault) → pair_outcome r x ≡ pair bs n t terms s z old
      → Judged (pair_all_causes bs n t terms s z old) (record { hops = 0; count = 0 }) old (pair_emptied n t old) (pair_outcome r x)
  pub of_loads : (bs : List ℕ) (n t : ℕ) (terms : Terms) (old x : LoadBuffers) (r : Result (Unit {0}) Fault) → loads_outcome r x ≡ loads bs n t terms old
      → Judged (loads_causes bs n t terms old) tt old (loads_emptied n t old) (loads_outcome r x)
  pub of_partial_loads : (bs : List ℕ) (n t : ℕ) (terms : Terms) (k : ℕ) (old x : LoadBuffers) (r : Result (Unit {0}) Fault)
      → loads_outcome r x ≡ partial_loads bs n t terms k old
      → Judged (partial_loads_causes bs n t terms k old) tt old (loads_emptied n t old) (loads_outcome r x)
  pub of_drawn_loads : (bs : List ℕ) (n t : ℕ) (terms : Terms) (old x : DrawnBuffers) (r : Result (Unit {0}) Fault) → drawn_outcome r x ≡ drawn_loads bs n t terms old
      → Judged (drawn_causes bs n t terms old) tt old (drawn_emptied n t old) (drawn_outcome r x)
  pub of_busiest : (bs : List ℕ) (n t : ℕ) (terms : Terms) (old x : List ℕ) (r : Result ℕ Fault) → busiest_outcome r x ≡ busiest bs n t terms old
      → Judged (busiest_causes bs n t terms old) 0 old (cleared (work_size n t) old) (busiest_outcome r x)
  pub of_struck : (bs : List ℕ) (n t : ℕ) (terms : Terms) (i : ℕ) (old x : StruckBuffers) (r : Result ℕ Fault)
      → struck_outcome r x ≡ struck bs n t terms i old
      → Judged (struck_causes bs n t terms i old) 0 old (struck_emptied n t old) (struck_outcome r x)
  pub of_set : (bs : List ℕ) (n t : ℕ) (terms : Terms) (s z : ℕ) (set old x : List ℕ) (r : Result ℕ Fault) → set_outcome r x ≡ through_set bs n t terms s z set old
      → Judged (through_set_causes bs n t terms s z set old) 0 old (cleared (work_size n t) old) (set_outcome r x)
  pub of_foremost : (bs : List ℕ) (n t : ℕ) (terms : Terms) (s z : ℕ) (old x : PairBuffers) (r : Result ForemostCount Fault)
      → foremost_outcome r x ≡ foremost bs n t terms s z old
      → Judged (foremost_causes bs n t terms s z old) (record { slot = 0; hops = 0; count = 0 }) old (pair_emptied n t old)
      (foremost_outcome r x)
  -- for the units of its contract it never gives 14
  pub foremost_takes_none : (bs : List ℕ) (n t g s z : ℕ) (old x : PairBuffers) (r : Result ForemostCount Fault)
      → foremost_outcome r x ≡ foremost bs n t (turning g) s z old → (foremost_outcome r x).number ≢ 14
  pub of_verdict : (bs : List ℕ) (n t : ℕ) (terms : Terms) (s z : ℕ) (list old x : List ℕ) (r : Result Judgement Fault)
      → verdict_outcome r x ≡ verdict bs n t terms s z list old
      → Judged (verdict_causes bs n t terms s z old) none old (cleared (work_size n t) old) (verdict_outcome r x)
  -- they clear nothing on any refusal
  pub of_take_in : (bs : List ℕ) (n t c : ℕ) (old x : List ℕ) (r : Result (Unit {0}) Fault) → band_outcome r x ≡ take_in bs n t c old
      → Judged (take_in_causes bs n t c old) tt old old (band_outcome r x)
  pub of_take_out : (bs : List ℕ) (n t : ℕ) (old x : List ℕ) (r : Result (Unit {0}) Fault) → band_outcome r x ≡ take_out bs n t old
      → Judged (take_out_causes bs n t old) tt old old (band_outcome r x)
  pub of_first_way : (bs : List ℕ) (n t g h s z : ℕ) (old x : WayBuffers) (r : Result WayAnswer Fault)
      → WayContract first_way (question bs n t g h s z) old.way old.work (reply_of r) x.way x.work
      → Judged (first_way_causes (question bs n t g h s z) old) 0 old (way_emptied n t old) (way_result r x)
  pub of_next_way : (bs : List ℕ) (n t g h s z : ℕ) (old x : WayBuffers) (r : Result WayAnswer Fault)
      → WayContract next_way (question bs n t g h s z) old.way old.work (reply_of r) x.way x.work
      → Judged (next_way_causes (question bs n t g h s z) old) 0 old (way_emptied n t old) (way_result r x)
