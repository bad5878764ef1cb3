-- The hops of walks of an accepted plan stay far below 65535, the number for none. Assumes nothing.
use Prim.Native.Nat.{ℕ, ◌<◌, ◌≤◌}
use native.Mathlib.Omega.{arith}
use native.Mathlib.Decide.{dec_le}
use mathlib.Core.Path.{◌≡◌, sym, ap, ◌∙◌}
use mathlib.Core.Bool.{Bool, cond}
use mathlib.Core.Logic.{by_cases}
use mathlib.Core.List.{List, []}
use lib.ListN.{length}
use Rattle.temporal.specs.Plan.{Plan, Terms, Appearance, start}
use Rattle.temporal.specs.Walk.{ends_in}
use Rattle.temporal.specs.Shortest.{of_hops}
use Rattle.temporal.specs.Bytes.{plan_of}
use Rattle.temporal.specs.Cause.{plan_fault}
use Rattle.walks.proofs.Accepted.{accepted}
use Rattle.walks.proofs.Adequacy.{bounded_ends}
use Rattle.lists.proofs.ListLaws.{no_member_empty}
use Rattle.walks.proofs.ShortestLaws.{mem_of_hops_bounded_law}
use Rattle.walks.proofs.WalkLaws.{SlotsWithin}
use Rattle.counting.proofs.Weights.{total, everywhere, counts}

-- walks have no more hops than a plan has slots
pub walks_few :
    (p : Plan) → SlotsWithin p → (s h : ℕ) (t : Appearance → Bool) →
    0 < total p everywhere (start s) (λ y. cond (t y) 1 0) h → h ≤ p.slots
walks_few p g s h t there =
    by_cases (dec_le h p.slots) (λ q. q)
    (λ more. absurd (
    let none : of_hops p (ends_in p (start s) t) h ≡ [] = no_member_empty (of_hops p (ends_in p (start s) t) h)
    (λ w m.
    let (len, passes) = (mem_of_hops_bounded_law (bounded_ends p g s t) h).0 m in
    let few = ((bounded_ends p g s t).within w passes).0 in omega arith) in
    let zero-there = sym (counts p t (start s) h) ∙ ap length none in
    omega arith))

-- an accepted plan has few slots
pub few_slots : (bs : List ℕ) (n t : ℕ) (terms : Terms) → plan_fault bs n t ≡ 0 → (plan_of bs n t terms).slots < 65535
unfolding plan_of
few_slots bs n t terms ok = let a = (accepted bs n t ok).slots in omega arith
