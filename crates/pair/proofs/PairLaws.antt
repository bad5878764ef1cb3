-- Pair as document 01 has it, from what counting leaves. Assumes nothing.
use Prim.Native.Nat.{ℕ, ◌+◌, ◌<◌, min}
use native.Mathlib.Omega.{arith}
use mathlib.Core.Path.{◌≡◌, refl, sym, ap, ◌∙◌}
use mathlib.Core.Bool.{true}
use mathlib.Core.Logic.{inl, inr}
use mathlib.Core.List.{List, map}
use lib.ListN.{length, get_or, replicate}
use Rattle.temporal.specs.Plan.{Terms}
use Rattle.temporal.specs.Lists.{below}
use Rattle.temporal.specs.Shortest.{shortest_walks_to, hops, count, through_in, through}
use Rattle.temporal.specs.Foremost.{arrival, walks_by}
use Rattle.temporal.specs.Bytes.{plan_of}
use Rattle.temporal.specs.Cause.{plan_fault, is_too_many}
use Rattle.temporal.specs.Outcome.{Outcome, over, cleared, work_size}
use Rattle.temporal.specs.OutcomePair.{PairValues, PairBuffers, paired, pair}
use Rattle.walks.proofs.Accepted.{accepted}
use Rattle.walks.proofs.ForemostLaws.{arrival_outside, shortest_by_last}
use Rattle.lists.proofs.BufferLaws.{over_by, fill_beyond, get_d_made_law, length_made}
use Rattle.plan.specs.Fault.{plan_number, call_number, check_number}
use Rattle.plan.specs.declared.PlanFault.{PlanFault}
use Rattle.plan.specs.declared.CallFault.{CallFault}
use Rattle.calls.specs.Call.{pair_call_fault, call_check_number}
use Rattle.std.specs.Prelude.{Some, None, Result, Ok, Err}
use Rattle.pass.specs.PassedColumns.{Overfull}
use Rattle.pair.specs.Answer.{pair_buffers}
use Rattle.pair.specs.Throughs.{PairReady, Throughs}
use Rattle.pair.proofs.BeginLaws.{begins_plan, begins_call, begins_works}

-- a pass that waits for no station ends in the last slot, and the walks by it are the shortest walks
by_last_slot :
    (bs : List ℕ) (n t : ℕ) (terms : Terms) (s z : ℕ) → plan_fault bs n t ≡ 0 → s < n → (e : ℕ) → e ≡ min t (arrival (plan_of bs n t terms) s n) →
    walks_by (plan_of bs n t terms) s z e ≡ shortest_walks_to (plan_of bs n t terms) s z
by_last_slot bs n t terms s z ok source e slot =
    let never = arrival_outside bs n t terms ok s n source (omega arith) in
    let most = (accepted bs n t ok).slots in
    let last : e ≡ t = omega arith in
    ap (walks_by (plan_of bs n t terms) s z) last ∙ shortest_by_last bs n t terms ok s z

module _ (bs : List ℕ) (n t : ℕ) (terms : Terms) (s z : ℕ) (table area : List ℕ) (ready : PairReady bs n t terms s z table area)
    (table' area' : List ℕ) where
  -- too many: both are cleared
  pub paired_refused :
      Throughs bs n t terms s z n table area table' area' None → (table'' area'' : List ℕ) → table'' ≡ over (replicate n 0) table' →
      area'' ≡ over (replicate (work_size n t) 0) area' →
      ◌≡◌ {A = Outcome PairValues PairBuffers}
      (record { number = 9; values = record { hops = 0; count = 0 }; buffers = pair_buffers table'' area'' })
      (paired (plan_of bs n t terms) s z (pair_buffers table area))
  unfolding paired cleared plan_of is_too_many
  paired_refused f table'' area'' a b =
      let c = fill_beyond n 0 table' table f.table_beyond in
      let d = fill_beyond (work_size n t) 0 area' area f.area_beyond in
      rw (too_many f.answer) (cc (a, b, c, d))
    where
      too_many : Overfull bs n t terms s n → is_too_many (plan_of bs n t terms) s ≡ true
      too_many (inl q) = rw q
      too_many (inr x) = rw (x.appearances, x.station)

  -- counted: the table has the through counts, the work area is cleared
  pub paired_counted :
      (e : ℕ) → Throughs bs n t terms s z n table area table' area' (Some e) → (h k : ℕ) (area'' : List ℕ) → h ≡ get_or area' z 0 → k ≡ get_or area' (n + z) 0 →
      area'' ≡ over (replicate (work_size n t) 0) area' →
      ◌≡◌ {A = Outcome PairValues PairBuffers}
      (record { number = 0; values = record { hops = h; count = k }; buffers = pair_buffers table' area'' })
      (paired (plan_of bs n t terms) s z (pair_buffers table area))
  unfolding paired cleared plan_of through
  paired_counted e f h k area'' a b c =
      let few = f.answer.settled.few refl in
      let ph = a ∙ f.answer.settled.pair_hops ∙ ap hops whole in
      let pc = b ∙ f.answer.settled.pair_count ∙ ap count whole in
      let d = fill_beyond (work_size n t) 0 area' area f.area_beyond in
      let th : table' ≡ over (map (through_in (plan_of bs n t terms) s z (shortest_walks_to (plan_of bs n t terms) s z)) (below n)) table =
      over_by n table' (map (through_in (plan_of bs n t terms) s z (shortest_walks_to (plan_of bs n t terms) s z)) (below n)) table (length_made _ n)
      (let size = f.table_length in let room = ready.table in omega arith)
      (λ v inside. f.answer.counted v inside ∙ ap (λ l. through_in (plan_of bs n t terms) s z l v) whole ∙ sym (get_d_made_law _ n v inside))
      f.table_beyond in
      rw few (cc (ph, pc, c, d, th))
    where
      whole : walks_by (plan_of bs n t terms) s z e ≡ shortest_walks_to (plan_of bs n t terms) s z
      whole = by_last_slot bs n t terms s z ready.accepted ready.source e f.answer.settled.slot

-- ---- how pair begins

module _ (bs : List ℕ) (n t : ℕ) (terms : Terms) (s z : ℕ) (table area : List ℕ) where
  -- a plan that check refuses
  pub pair_plan :
      (r : Result (Unit {0}) PlanFault) (f : PlanFault) → check_number r ≡ plan_fault bs n t → r ≡ Err f →
      ◌≡◌ {A = Outcome PairValues PairBuffers}
      (record { number = plan_number f; values = record { hops = 0; count = 0 }; buffers = pair_buffers table area })
      (pair bs n t terms s z (pair_buffers table area))
  unfolding pair
  pair_plan = begins_plan bs n t terms s z table area (record { hops = 0; count = 0 }) (paired (plan_of bs n t terms) s z (pair_buffers table area))

  module _ (ok : plan_fault bs n t ≡ 0) (r : Result (Unit {0}) CallFault)
      (answer : call_check_number r ≡ pair_call_fault n t terms s z (length table) n (length area)) where
    -- 12, 14, 6, 7 or 8
    pub pair_call :
        (f : CallFault) → r ≡ Err f →
        ◌≡◌ {A = Outcome PairValues PairBuffers}
        (record { number = call_number f; values = record { hops = 0; count = 0 }; buffers = pair_buffers table area })
        (pair bs n t terms s z (pair_buffers table area))
    unfolding pair
    pair_call =
        begins_call bs n t terms s z table area (record { hops = 0; count = 0 }) (paired (plan_of bs n t terms) s z (pair_buffers table area))
        ok r answer

    -- none of them
    pub pair_works :
        r ≡ Ok tt → pair bs n t terms s z (pair_buffers table area) ≡ paired (plan_of bs n t terms) s z (pair_buffers table area)
    unfolding pair
    pair_works =
        begins_works bs n t terms s z table area (record { hops = 0; count = 0 }) (paired (plan_of bs n t terms) s z (pair_buffers table area))
        ok r answer
