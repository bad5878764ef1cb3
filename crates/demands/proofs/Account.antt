-- C-15 holds of the definitions, of pair and of the operation on shortest foremost paths: the first n entries of the through table
-- are the through counts of the stations. A law marked (kept) rests on a reading being kept until the plan ends.
-- Assumes nothing.
use Prim.Native.Nat.{ℕ, ◌-◌, ◌*◌}
use mathlib.Core.Path.{◌≡◌, ap, ◌∙◌}
use mathlib.Core.Bool.{Bool}
use mathlib.Core.List.{List, ◌++◌, map}
use mathlib.Core.Logic.{◌≢◌}
use borrow.Author.Tests.{eqb-false}
use lib.Dec.{eqb}
use lib.ListN.{take}
use Rattle.temporal.specs.Plan.{Terms, turning, Keeps}
use Rattle.walks.proofs.PlanLaws.{kept_always}
use Rattle.temporal.specs.Lists.{below, sum}
use Rattle.temporal.specs.Shortest.{through}
use Rattle.temporal.specs.Bytes.{plan_of}
use Rattle.temporal.specs.Cause.{first, plan_causes, plan_fault, terms_causes, ends_causes, pair_causes}
use Rattle.temporal.specs.Outcome.{Outcome, over}
use Rattle.temporal.specs.OutcomePair.{PairValues, PairBuffers, paired, pair}
use Rattle.temporal.specs.OutcomeForemost.{ForemostValues, foremost_through, foremost_paired, foremost}
use Rattle.walks.proofs.AccountLaws.{shortest_interior, shortest_accounted, foremost_interior, foremost_accounted}
use Rattle.lists.proofs.BufferLaws.{length_made}
use Rattle.temporal.proofs.CauseLaws.{first_append_left, first_append_right, first_head, first_tail}
use Rattle.walks.proofs.EnteredLaws.{no_first, no_cause}
use Rattle.trace.proofs.CursorLaws.{take_over}
use Rattle.demands.specs.Account.{AccountDemand}
use Rattle.demands.proofs.Demand2.{stored as pair-stored}
use Rattle.demands.proofs.Foremost.{stored as foremost-stored}

-- the first entries of a table add up to what was written to them
first_entries : (f : ℕ → ℕ) (n : ℕ) (old : List ℕ) → sum (take n (over (map f (below n)) old)) ≡ sum (map f (below n))
first_entries f n old = ap sum (take_over (map f (below n)) old n (length_made f n))

-- a call for a pair without a cause: the plan is accepted, and the two stations are different
without_cause :
    (bs : List ℕ) (n t : ℕ) (terms : Terms) (s z : ℕ) (short : Bool) → first (plan_causes bs n t ++ pair_causes terms n s z short) ≡ 0 →
    (plan_fault bs n t ≡ 0) × (s ≢ z)
unfolding plan_fault pair_causes ends_causes
without_cause bs n t terms s z short none =
    let call = first_append_right (terms_causes terms) _ (first_append_right (plan_causes bs n t) _ none) in
    (first_append_left (plan_causes bs n t) _ none, eqb-false s z (first_head 6 (eqb s z) _ (first_tail 5 _ _ call)))

-- (kept) pair, of its contract's own equation where the number is 0
pair_accounted :
    (bs : List ℕ) (n t : ℕ) (terms : Terms) (s z : ℕ) (old b : PairBuffers) (x : PairValues) → Keeps t terms →
    ◌≡◌ {A = Outcome PairValues PairBuffers} (record { number = 0; values = x; buffers = b }) (pair bs n t terms s z old) →
    sum (take n b.through_table) ≡ x.count * (x.hops - 1)
unfolding pair
pair_accounted bs n t terms s z old b x keeps e =
    let (ok, other) = without_cause bs n t terms s z _ (no_first _ _ x old b (paired (plan_of bs n t terms) s z old) e) in
    let (values, table) = pair-stored bs n t terms s z ok old b x (no_cause _ _ x old b (paired (plan_of bs n t terms) s z old) e) in
    rw (values, table)
    (first_entries (through (plan_of bs n t terms) s z) n old.through_table ∙ shortest_accounted bs n t terms ok keeps s z other)

-- the operation on shortest foremost paths, likewise; its units keep a reading until the plan ends
foremost_paths_accounted :
    (bs : List ℕ) (n t g s z : ℕ) (old b : PairBuffers) (x : ForemostValues) →
    ◌≡◌ {A = Outcome ForemostValues PairBuffers} (record { number = 0; values = x; buffers = b }) (foremost bs n t (turning g) s z old) →
    sum (take n b.through_table) ≡ x.count * (x.hops - 1)
unfolding foremost
foremost_paths_accounted bs n t g s z old b x e =
    let (ok, other) = without_cause bs n t (turning g) s z _ (no_first _ _ x old b (foremost_paired (plan_of bs n t (turning g)) s z old) e) in
    let (values, table) = foremost-stored bs n t (turning g) s z ok (kept_always bs n t ok) old b x (no_cause _ _ x old b (foremost_paired (plan_of bs n t (turning g)) s z old) e) in
    rw (values, table)
    (first_entries (foremost_through (plan_of bs n t (turning g)) s z) n old.through_table ∙ foremost_accounted bs n t (turning g) ok (kept_always bs n t ok) s z other)

-- (kept) C-15.
pub account_demand : AccountDemand
unfolding through foremost_through plan_of
account_demand =
    record {
      of_shortest = λ bs n t terms s z keeps ok other. record {
        inside = shortest_interior bs n t terms ok keeps s z other;
        total = shortest_accounted bs n t terms ok keeps s z other;
      };
      of_shortest_foremost = λ bs n t g s z ok other. record {
        inside = foremost_interior bs n t (turning g) ok (kept_always bs n t ok) s z other;
        total = foremost_accounted bs n t (turning g) ok (kept_always bs n t ok) s z other;
      };
      of_pair = λ bs n t terms s z old new r keeps e q. pair_accounted bs n t terms s z old new _ keeps (rw q at e);
      of_foremost = λ bs n t g s z old new r e q. foremost_paths_accounted bs n t g s z old new _ (rw q at e);
    }
