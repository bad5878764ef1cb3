-- C-18 holds of partial loads. Assumes nothing.
use Rattle.plan.specs.Fault.{answer_number}
use Rattle.plan.specs.declared.Fault.{Fault}
use Rattle.std.specs.Prelude.{Result}
use Prim.Native.Nat.{ℕ, ◌-◌, ◌≤◌, ◌<◌}
use native.Mathlib.Omega.{arith}
use mathlib.Core.Path.{◌≡◌, refl, sym, ◌∙◌}
use mathlib.Core.List.{List, flat_map}
use mathlib.Core.Logic.{◌≢◌}
use borrow.Author.Tests.{ltb-false}
use lib.ListN.{get_or}
use Rattle.temporal.specs.Lists.{from, below, sum, select, any}
use Rattle.temporal.specs.Plan.{Terms}
use Rattle.temporal.specs.Load.{ends_below, pairs_below, partial_pairs, partial_load, rest_of_pairs, rest_of_load}
use Rattle.temporal.specs.Bytes.{plan_of}
use Rattle.temporal.specs.Cause.{plan_causes, terms_causes, wrong_sources, too_many_below}
use Rattle.temporal.specs.OutcomePair.{LoadBuffers, partial_loads}
use Rattle.temporal.proofs.CauseLaws.{first_append_right, first_head}
use Rattle.walks.proofs.EnteredLaws.{no_first, no_cause}
use Rattle.counting.proofs.PartialLaws.{pairs_between, load_between}
use Rattle.loads.specs.Answer.{loads_outcome}
use Rattle.demands.specs.Causes.{partial_loads_causes}
use Rattle.demands.specs.PairLoads.{LoadsAccepts}
use Rattle.demands.specs.Partial.{PartialAccepts, PartlyLoaded, Narrowed, Bounded, PartialDemand}
use Rattle.demands.proofs.JudgedLaws.{plain_few}
use Rattle.demands.proofs.CountLaws.{partial_summed}
use Rattle.demands.proofs.Demand1.{demand1}

module _ (bs : List ℕ) (n t : ℕ) (terms : Terms) (k : ℕ) (old : LoadBuffers) (r : Result (Unit {0}) Fault) (new : LoadBuffers)
    (a : PartialAccepts bs n t terms k old r new) where
  -- where it is accepted, its work was done
  told : (v : ℕ) → v < n → PartlyLoaded bs n t terms k new v
  unfolding partial_loads
  told = partial_summed bs n t terms k old new (no_cause _ tt tt old new _ (rw a.accepted at a.contract))

  -- and there are at least as many stations as sources
  within : k ≤ n
  unfolding partial_loads
  within =
      let none = no_first _ tt tt old new _ (rw a.accepted at a.contract) in
      let call = first_append_right (terms_causes terms) _ (first_append_right (plan_causes bs n t) _ none) in
      ltb-false n k (first_head 12 (wrong_sources n k) _ call)

-- loads is accepted where partial loads with all sources are
of_all :
    (bs : List ℕ) (n t : ℕ) (terms : Terms) (old : LoadBuffers) (r : Result (Unit {0}) Fault) (new : LoadBuffers) →
    LoadsAccepts bs n t terms old r new → PartialAccepts bs n t terms n old r new
of_all bs n t terms old r new a = record { contract = a.contract; accepted = a.accepted }

narrowed :
    (bs : List ℕ) (n t : ℕ) (terms : Terms) (k j : ℕ) (old : LoadBuffers) (r : Result (Unit {0}) Fault) (new : LoadBuffers)
    (old' : LoadBuffers) (r' : Result (Unit {0}) Fault) (new' : LoadBuffers) → k ≤ j →
    PartialAccepts bs n t terms k old r new → PartialAccepts bs n t terms j old' r' new' →
    (v : ℕ) → v < n → Narrowed n k j new new' v
unfolding plan_of
narrowed bs n t terms k j old r new old' r' new' less a b v h =
    let p = plan_of bs n t terms in
    let x = told bs n t terms k old r new a v h in
    let y = told bs n t terms j old' r' new' b v h in
    let inside = within bs n t terms j old' r' new' b in
    let pairs = pairs_between p v k j less inside in
    let load = load_between p v k j less inside in
    record {
      pairs_span =
          record {
            not_lower = rw (x.pairs_of, y.pairs_of) pairs.0;
            not_wider = rw (x.pairs_of, y.pairs_of) pairs.1;
          };
      load_span =
          record {
            not_lower = rw (x.load_of, y.load_of) load.0;
            not_wider = rw (x.load_of, y.load_of) load.1;
          };
    }

-- nothing is left open where every source is worked on
no_rest : (n : ℕ) → (rest_of_pairs n n ≡ 0) × (rest_of_load n n ≡ 0)
unfolding rest_of_pairs rest_of_load
no_rest n = let z : n - n ≡ 0 = omega arith in (rw z (omega arith), rw z (omega arith))

bounded :
    (bs : List ℕ) (n t : ℕ) (terms : Terms) (k : ℕ) (old : LoadBuffers) (r : Result (Unit {0}) Fault) (new : LoadBuffers)
    (old' : LoadBuffers) (r' : Result (Unit {0}) Fault) (full : LoadBuffers) →
    PartialAccepts bs n t terms k old r new → LoadsAccepts bs n t terms old' r' full →
    (v : ℕ) → v < n → Bounded n k new full v
bounded bs n t terms k old r new old' r' full a b v h =
    let few = within bs n t terms k old r new a in
    let s = narrowed bs n t terms k n old r new old' r' full few a (of_all bs n t terms old' r' full b) v h in
    let none = no_rest n in
    let pairs = s.pairs_span.not_wider in
    let load = s.load_span.not_wider in
    record {
      pairs_least = s.pairs_span.not_lower;
      pairs_most = omega arith;
      load_least = s.load_span.not_lower;
      load_most = omega arith;
    }

-- without a source there is no 9
no_source :
    (bs : List ℕ) (n t : ℕ) (terms : Terms) (old : LoadBuffers) (r : Result (Unit {0}) Fault) (new : LoadBuffers) →
    loads_outcome r new ≡ partial_loads bs n t terms 0 old → answer_number r ≢ 9
unfolding partial_loads_causes too_many_below any below from
no_source bs n t terms old r new a nine =
    (plain_few bs n t terms _ 0 (too_many_below (plan_of bs n t terms) 0) refl).not_too_many
    (sym (demand1.of_partial_loads bs n t terms 0 old new r a).numbered.the_first ∙ nine)

no_source_zeros :
    (bs : List ℕ) (n t : ℕ) (terms : Terms) (old : LoadBuffers) (r : Result (Unit {0}) Fault) (new : LoadBuffers) →
    PartialAccepts bs n t terms 0 old r new → (v : ℕ) → v < n →
    (get_or new.pairs_table v 0 ≡ 0) × (get_or new.load_table v 0 ≡ 0)
unfolding partial_pairs partial_load pairs_below ends_below below from select sum flat_map
no_source_zeros bs n t terms old r new a v h =
    let x = told bs n t terms 0 old r new a v h in (x.pairs_of, x.load_of)

-- C-18.
pub partial_demand : PartialDemand
partial_demand =
    record {
      told = told;
      bounded = bounded;
      narrowed = narrowed;
      whole = λ bs n t terms old r new r' new' a b. a ∙ sym b;
      no_source = no_source;
      no_source_zeros = no_source_zeros;
    }
