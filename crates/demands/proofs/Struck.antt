-- C-23 holds of the operation on a contact that is struck out. Assumes nothing.
use Rattle.plan.specs.declared.Fault.{Fault}
use Rattle.std.specs.Prelude.{Result}
use Prim.Native.Nat.{ℕ, ◌*◌, ◌^◌, ◌≤◌, ◌<◌}
use native.Mathlib.Omega.{arith}
use mathlib.Core.Path.{◌≡◌, sym, ap, ap₂, ◌∙◌}
use mathlib.Core.List.{List}
use mathlib.Core.Logic.{⊎_elim}
use lib.IntN.{pos, ◌-ℤ◌}
use lib.ListN.{get_or}
use Rattle.temporal.specs.Plan.{Terms}
use Rattle.temporal.specs.Bytes.{plan_of}
use Rattle.temporal.specs.Load.{load}
use Rattle.temporal.specs.Outcome.{Outcome}
use Rattle.temporal.specs.Struck.{struck_out, lacking_record, change, magnitude}
use Rattle.temporal.specs.OutcomePair.{LoadBuffers}
use Rattle.temporal.specs.OutcomeStruck.{StruckBuffers, either_too_many, struck_off, struck}
use Rattle.walks.proofs.Accepted.{accepted}
use Rattle.walks.proofs.EnteredLaws.{no_cause}
use Rattle.walks.proofs.LackingLaws.{lacking_accepted, lacking_plan}
use Rattle.lists.proofs.ListLaws.{true_or_false}
use Rattle.walks.proofs.StruckLaws.{uses_exactly}
use Rattle.walks.proofs.StruckLoads.{change_within, change_none}
use Rattle.changes.proofs.WrittenLaws.{over_at}
use Rattle.struck.specs.Answer.{struck_pairs}
use Rattle.demands.specs.PairLoads.{LoadsAccepts}
use Rattle.demands.specs.Struck.{StruckAccepts, StruckTold, StruckDemand}
use Rattle.demands.proofs.CountLaws.{loads_demand}

module _ (bs : List ℕ) (n t : ℕ) (terms : Terms) (i : ℕ) (old : StruckBuffers) (r : Result ℕ Fault) (new : StruckBuffers)
    (a : StruckAccepts bs n t terms i old r new) where
  -- the work without cause 9
  work_told :
      ◌≡◌ {A = Outcome ℕ StruckBuffers} (record { number = 0; values = struck_pairs r; buffers = new })
      (struck_off (plan_of bs n t terms) i old) →
      StruckTold bs n t terms i r new
  unfolding struck_off plan_of struck_out
  work_told e =
      ⊎_elim
      (λ many. absurd (let z : ◌≡◌ {A = ℕ} 0 9 = ap (λ o. o.number) (rw many at e) in omega arith))
      (λ few.
      let here = rw few at e in
      record {
        pairs_of = ap (λ o. o.values) here;
        change_of = λ v h.
            ap (λ o. get_or o.buffers.change_table v (pos 0)) here ∙
            over_at (change (plan_of bs n t terms) i) n v old.change_table (pos 0) h;
      })
      (true_or_false (either_too_many (plan_of bs n t terms) i))

  -- where it is accepted, its work was done
  told : StruckTold bs n t terms i r new
  unfolding struck
  told = work_told (no_cause _ 0 (struck_pairs r) old new _ (rw a.accepted at a.contract))

  bounded : (v : ℕ) → v < n → magnitude (get_or new.change_table v (pos 0)) ≤ struck_pairs r * 2 ^ 32
  bounded v h = rw (told.change_of v h, told.pairs_of) (change_within (plan_of bs n t terms) i v)

  unchanged : struck_pairs r ≡ 0 → (v : ℕ) → v < n → get_or new.change_table v (pos 0) ≡ pos 0
  unchanged none v h = told.change_of v h ∙ change_none (plan_of bs n t terms) i v (sym told.pairs_of ∙ none)

  by_loads :
      (old-less : LoadBuffers) (r-less : Result (Unit {0}) Fault) (less : LoadBuffers) (old-full : LoadBuffers) (r-full : Result (Unit {0}) Fault) (full : LoadBuffers) →
      LoadsAccepts (lacking_record bs i) n t terms old-less r-less less → LoadsAccepts bs n t terms old-full r-full full → (v : ℕ) → v < n →
      get_or new.change_table v (pos 0) ≡ pos (get_or less.load_table v 0) -ℤ pos (get_or full.load_table v 0)
  unfolding change plan_of struck_out
  by_loads old-less r-less less old-full r-full full b c v h =
      let without = (loads_demand (lacking_record bs i) n t terms old-less r-less less b v h).load_of in
      let with = (loads_demand bs n t terms old-full r-full full c v h).load_of in
      let plans = lacking_plan bs n t terms i in
      told.change_of v h ∙ sym (ap₂ (λ x y. pos x -ℤ pos y) (without ∙ ap (λ q. load q v) plans) with)

pub struck_demand : StruckDemand
unfolding plan_of
struck_demand =
    record {
      told = told;
      bounded = bounded;
      unchanged = unchanged;
      exactly = λ bs n t terms ok i s z.
          uses_exactly (plan_of bs n t terms) i s z (let few = (accepted bs n t ok).slots in omega arith);
      shorter = λ bs n t terms i. lacking_plan bs n t terms i;
      shorter_accepted = lacking_accepted;
      by_loads = λ bs n t terms i old r new old-less r-less less old-full r-full full a b c v h.
          by_loads bs n t terms i old r new a old-less r-less less old-full r-full full b c v h;
    }
