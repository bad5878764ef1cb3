-- What pair, loads and busiest answer, from their contracts' own equations where the number is 0: pair counts the complete list,
-- loads and partial loads leave each station's pairs and load, and busiest gives the busiest station. Assumes nothing.
use Rattle.pair.specs.declared.PairCount.{PairCount}
use Rattle.plan.specs.declared.Fault.{Fault}
use Rattle.std.specs.Prelude.{Result}
use Prim.Native.Nat.{ℕ, ◌<◌}
use native.Mathlib.Omega.{arith}
use mathlib.Core.Path.{◌≡◌, sym, ap, subst, ◌∙◌}
use mathlib.Core.Logic.{⊎_elim}
use mathlib.Core.List.{List}
use lib.ListN.{get_or}
use Rattle.temporal.specs.Plan.{Terms}
use Rattle.temporal.specs.Shortest.{hops, through}
use Rattle.temporal.specs.Load.{partial_pairs, partial_load, busiest_of, Busiest}
use Rattle.temporal.specs.Bytes.{plan_of}
use Rattle.temporal.specs.Cause.{plan_causes, plan_fault, is_too_many, too_many_below, too_many_anywhere}
use Rattle.temporal.specs.Outcome.{Outcome}
use Rattle.temporal.specs.OutcomePair.{PairValues, PairBuffers, paired, pair, LoadBuffers, partly_loaded, partial_loads, compared, busiest}
use Rattle.temporal.specs.FirstNext.{Question, list_of}
use Rattle.walks.proofs.Accepted.{accepted}
use Rattle.lists.proofs.BufferLaws.{written}
use Rattle.walks.proofs.BusiestLaws.{busiest_is}
use Rattle.temporal.proofs.CauseLaws.{first_append_left}
use Rattle.walks.proofs.EnteredLaws.{no_first, no_cause}
use Rattle.lists.proofs.ListLaws.{true_or_false}
use Rattle.counting.proofs.ExactSum.{within_exact_sum}
use Rattle.pair.specs.Answer.{pair_values}
use Rattle.loads.specs.Answer.{busiest_station}
use Rattle.demands.specs.PairLoads.{CountedByPair, PairDemand, LoadsDemand, BusiestDemand}
use Rattle.demands.specs.Partial.{PartlyLoaded}

module _ (q : Question) (old : PairBuffers) (r : Result PairCount Fault) (new : PairBuffers) where
  -- pair's work without cause 9 counts the complete list
  pair_counted :
      ◌≡◌ {A = Outcome PairValues PairBuffers} (record { number = 0; values = pair_values r; buffers = new })
      (paired (plan_of q.bytes q.stations q.slots q.terms) q.source q.destination old) →
      CountedByPair q (list_of q) r new × ((pair_values r).hops ≡ hops (list_of q))
  unfolding paired through plan_of list_of
  pair_counted e =
      ⊎_elim
      (λ many. absurd (let z : ◌≡◌ {A = ℕ} 0 9 = ap (λ o. o.number) (rw many at e) in omega arith))
      (λ few.
      let here = rw few at e in (
        record {
          count = ap (λ o. o.values.count) (sym here);
          through = λ v h.
              sym
              (written (through (plan_of q.bytes q.stations q.slots q.terms) q.source q.destination) q.stations v
              old.through_table h) ∙
              ap (λ o. get_or o.buffers.through_table v 0) (sym here);
        },
        ap (λ o. o.values.hops) here,
      ))
      (true_or_false (is_too_many (plan_of q.bytes q.stations q.slots q.terms) q.source))

-- Pair: where it is accepted, its work was done.
pub pair_demand : PairDemand
unfolding pair
pair_demand q old r new a =
    pair_counted q old r new (no_cause _ _ (pair_values r) old new _ (rw a.accepted at a.contract))

module _ (bs : List ℕ) (n t : ℕ) (terms : Terms) (k : ℕ) (old new : LoadBuffers) where
  -- the work of partial loads without cause 9 leaves each station's pairs and load over the sources below k
  pub partial_summed :
      ◌≡◌ {A = Outcome (Unit {0}) LoadBuffers} (record { number = 0; values = tt; buffers = new })
      (partly_loaded (plan_of bs n t terms) k old) →
      (v : ℕ) → v < n → PartlyLoaded bs n t terms k new v
  unfolding partly_loaded plan_of
  partial_summed e v h =
      ⊎_elim
      (λ many. absurd (let z : ◌≡◌ {A = ℕ} 0 9 = ap (λ o. o.number) (rw many at e) in omega arith))
      (λ few.
      let here = rw few at e in
      record {
        pairs_of = ap (λ o. get_or o.buffers.pairs_table v 0) here ∙ written (partial_pairs (plan_of bs n t terms) k) n v old.pairs_table h;
        load_of = ap (λ o. get_or o.buffers.load_table v 0) here ∙ written (partial_load (plan_of bs n t terms) k) n v old.load_table h;
      })
      (true_or_false (too_many_below (plan_of bs n t terms) k))

-- Loads: where it is accepted, its work was done.
pub loads_demand : LoadsDemand
unfolding partial_loads plan_of
loads_demand bs n t terms old r new a v h =
    let here = partial_summed bs n t terms n old new (no_cause _ tt tt old new _ (rw a.accepted at a.contract)) v h in
    record { pairs_of = here.pairs_of; load_of = here.load_of; near = within_exact_sum (plan_of bs n t terms) v }

module _ (bs : List ℕ) (n t : ℕ) (terms : Terms) (old new : List ℕ) (v : ℕ) where
  -- busiest's work without cause 9 gives the busiest station
  station_compared :
      ◌≡◌ {A = Outcome ℕ (List ℕ)} (record { number = 0; values = v; buffers = new }) (compared (plan_of bs n t terms) old) →
      v ≡ busiest_of (plan_of bs n t terms)
  unfolding compared
  station_compared e =
      ⊎_elim
      (λ many. absurd (let z : ◌≡◌ {A = ℕ} 0 9 = ap (λ o. o.number) (rw many at e) in omega arith))
      (λ few. ap (λ o. o.values) (rw few at e))
      (true_or_false (too_many_anywhere (plan_of bs n t terms)))

-- Busiest: where it is accepted, its work was done, and an accepted plan has a station.
pub busiest_demand : BusiestDemand
unfolding busiest plan_fault plan_of
busiest_demand bs n t terms old new r e z =
    let here = rw z at e in
    let ok : plan_fault bs n t ≡ 0 =
    first_append_left (plan_causes bs n t) _ (no_first _ 0 (busiest_station r) old new _ here) in
    subst (λ v. Busiest (plan_of bs n t terms) v)
    (sym (station_compared bs n t terms old new (busiest_station r) (no_cause _ 0 (busiest_station r) old new _ here)))
    (busiest_is (plan_of bs n t terms) (accepted bs n t ok).some_station)
