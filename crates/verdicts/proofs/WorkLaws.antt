-- What the work of the operation does: 9, no walk, and the list judged by the completion table. Assumes nothing.
use Prim.Native.Nat.{ℕ, ◌<◌}
use native.Mathlib.Omega.{arith}
use mathlib.Core.Path.{◌≡◌, refl, sym, ap, ◌∙◌, subst}
use mathlib.Core.Bool.{Bool, true, false}
use mathlib.Core.Logic.{◌≢◌}
use mathlib.Core.List.{List, [], ◌∷◌, Memᴰ}
use mathlib.Core.Option.{some}
use borrow.Author.Tests.{eqb-true}
use lib.ListN.{get_or, replicate, length-replicate}
use Rattle.temporal.specs.Plan.{Plan, Terms, start}
use Rattle.temporal.specs.Walk.{is_at, is_walk_to}
use Rattle.walks.proofs.WalkLaws.{ends_nil}
use Rattle.temporal.specs.Shortest.{shortest_walks_to, hops}
use Rattle.temporal.specs.Bytes.{plan_of}
use Rattle.temporal.specs.Cause.{plan_fault, is_too_many}
use Rattle.temporal.specs.Outcome.{Outcome, over, cleared, work_size}
use Rattle.temporal.specs.Verdict.{verdict_on}
use Rattle.temporal.specs.OutcomeVerdict.{judged}
use Rattle.temporal.specs.FirstNext.{Question, list_of}
use Rattle.walks.proofs.Adequacy.{in_complete_list}
use Rattle.lists.proofs.BufferLaws.{fill_beyond}
use Rattle.plan.specs.declared.CallFault.TheVariants as call-fault
use Rattle.plan.specs.declared.Fault.TheVariants as fault
use Rattle.forward.specs.Passed.{PassReady, Passed}
use Rattle.ways.specs.Home.{Completed}
use Rattle.ways.specs.Found.{list_in}
use Rattle.listing.specs.Work.{WayReady}
use Rattle.listing.proofs.WorkLaws.{pair_of, pass_ready, pass_beyond, list_empty, ready_startable, done_beyond}
use Rattle.judging.specs.Judge.{verdict_of, Judgeable}
use Rattle.judging.specs.declared.Judgement.{Judgement}
use Rattle.plan.specs.declared.Fault.{Fault}
use Rattle.std.specs.Prelude.{Result, Ok, Err}
use Rattle.verdicts.specs.Answer.{verdict_outcome}
use Rattle.verdicts.specs.Work.{VerdictReady, VerdictWorked}

-- the empty list is a walk only from a station to itself
empty_walk : (p : Plan) (s z : ℕ) → is_walk_to p s z [] ≡ true → s ≡ z
empty_walk p s z e = eqb-true s z (sym (ends_nil p (start s) (is_at z)) ∙ e)

-- two different stations have a hop between them, or no walk
pub hops_some : (bs : List ℕ) (n t : ℕ) (terms : Terms) → plan_fault bs n t ≡ 0 → (s z : ℕ) → s ≢ z
    → 0 < hops (shortest_walks_to (plan_of bs n t terms) s z)
unfolding hops
hops_some bs n t terms ok s z differ = go (shortest_walks_to (plan_of bs n t terms) s z) refl
  where
    go : (l : List (List ℕ)) → shortest_walks_to (plan_of bs n t terms) s z ≡ l → 0 < hops l
    go [] e = omega arith
    go ([] ∷ l) e =
        absurd (differ (empty_walk (plan_of bs n t terms) s z
        ((in_complete_list bs n t terms ok s z []).0 (subst (Memᴰ []) (sym e) (Memᴰ.head refl))).0))
    go ((i ∷ w) ∷ l) e = omega arith

module _ (q : Question) (list work : List ℕ) (ready : VerdictReady q work) where
  abbrev some_way : List ℕ
  some_way = replicate q.slots 0

  -- what first way asks, with a way buffer of its own
  way_ready : WayReady q some_way work
  way_ready =
      record {
        asked = ready.asked;
        units = ready.units;
        room = omega (arith, length-replicate {A = ℕ} q.slots 0);
        area = ready.area;
      }

  pub pass_asks : PassReady q.bytes q.stations q.slots q.terms q.terms.keeping q.source 0 0 work
  pass_asks = pass_ready q some_way work way_ready

  module _ (mid : List ℕ) (r : Bool)
      (passed : Passed q.bytes q.stations q.slots q.terms q.terms.keeping q.source 0 0 work mid r) where
    -- a count over 2^64 - 1
    pub judged_too_many : r ≡ true → VerdictWorked q list work (Err (fault.Call call-fault.TooMany)) mid
    unfolding judged
    judged_too_many e =
        let many = sym passed.too_many ∙ e in
        record {
          number = rw many refl;
          given = rw many refl;
          beyond = pass_beyond q some_way work way_ready mid r passed;
        }

    module _ (fits : r ≡ false) (h : ℕ) (read : h ≡ get_or mid q.destination 0) where
      -- no walk
      pub judged_none : h ≡ 65535 → (j : Judgement) → verdict_of j ≡ verdict_on [] list → VerdictWorked q list work (Ok j) mid
      unfolding judged list_of
      judged_none e j is =
          let few = sym passed.too_many ∙ fits in
          let none = list_empty q some_way work way_ready mid r passed fits h read e in
          record {
            number = rw few refl;
            given = rw (few, none) (ap some is);
            beyond = pass_beyond q some_way work way_ready mid r passed;
          }

      module _ (finite : h ≢ 65535) (done : List ℕ)
          (completed : Completed q.bytes q.stations q.slots q.terms q.destination mid done) where
        pub judgeable : Judgeable q.bytes (pair_of q h) done
        judgeable =
            let s = ready_startable q some_way work way_ready mid r passed fits h read finite done completed in
            record {
              accepted = ready.asked.accepted;
              source = ready.asked.source;
              fewest = s.listable.fewest;
              path = s.listable.path;
              some_hops =
                  let some-hop = hops_some q.bytes q.stations q.slots q.terms ready.asked.accepted q.source
                  q.destination ready.asked.different in
                  let fewest = s.listable.fewest in
                  omega arith;
              table = s.table;
            }

        -- the list is judged
        pub judged_there : (j : Judgement) → verdict_of j ≡ verdict_on (list_in q.bytes (pair_of q h)) list
            → VerdictWorked q list work (Ok j) done
        unfolding judged
        judged_there j is =
            let few = sym passed.too_many ∙ fits in
            record {
              number = rw few refl;
              given = rw few (ap some is);
              beyond = done_beyond q some_way work way_ready mid r passed fits h read finite done completed;
            }

-- an outcome by its parts
outcome_is : {Values Buffers : Type 0} (o : Outcome Values Buffers) {k : ℕ} {v : Values} {x : Buffers} → k ≡ o.number → v ≡ o.values
    → x ≡ o.buffers
    → ◌≡◌ {A = Outcome Values Buffers} (record { number = k; values = v; buffers = x }) o
outcome_is o a c d = rw (a, c, d) refl

-- either way the work area is cleared
area_cleared : (p : Plan) (s z : ℕ) (list work : List ℕ)
    → (judged p s z list work).buffers ≡ cleared (work_size p.stations p.slots) work
unfolding judged
area_cleared p s z list work = decide (is_too_many p s) refl
  where
    decide : (many : Bool) → is_too_many p s ≡ many → (judged p s z list work).buffers ≡ cleared (work_size p.stations p.slots) work
    decide true m = rw m refl
    decide false m = rw m refl

-- the work with the work area cleared after it
pub work_cleared : (q : Question) (list work : List ℕ) (r : Result Judgement Fault) (mid after : List ℕ) → VerdictWorked q list work r mid
    → after ≡ over (replicate (work_size q.stations q.slots) 0) mid
    → verdict_outcome r after ≡ judged (plan_of q.bytes q.stations q.slots q.terms) q.source q.destination list work
unfolding cleared plan_of
work_cleared q list work r mid after w e =
    let p = plan_of q.bytes q.stations q.slots q.terms in
    let c = e ∙ fill_beyond (work_size q.stations q.slots) 0 mid work w.beyond in
    outcome_is (judged p q.source q.destination list work) w.number w.given
    (c ∙ sym (area_cleared p q.source q.destination list work))
