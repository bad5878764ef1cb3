-- What stands strictly between the ends of a walk that comes back to neither is what is inside it. Assumes nothing.
use Prim.Native.Nat.{ℕ, suc, ◌-◌}
use native.Mathlib.Omega.{arith}
use native.Mathlib.Decide.{ℕ_discrete}
use mathlib.Core.Path.{◌≡◌, refl, sym, ap, ◌∙◌}
use mathlib.Core.Bool.{true, false, not, ◌&&◌, and-false}
use mathlib.Core.List.Memᴰ
use mathlib.Core.List.{List, [], ◌∷◌, Memᴰ}
use mathlib.Core.Option.{some}
use mathlib.Core.Logic.{by_cases}
use borrow.Author.Tests.{eq-eqb, ne_eqb}
use lib.Dec.{eqb}
use lib.ListN.{length, take}
use Rattle.temporal.specs.Lists.{any, member}
use Rattle.temporal.specs.Plan.{Plan, Appearance, start}
use Rattle.temporal.specs.Walk.{run, last_or, stations_of, holds, is_path, is_interior}
use Rattle.temporal.specs.Definition3.{starting_points}
use Rattle.lists.proofs.ListLaws.{member_false, distinct_cons}
use Rattle.walks.proofs.PathLaws.{path_inv, end_apart}
use Rattle.counting.proofs.Through.{starts_visited}
use Rattle.demands.specs.Demand2.{is_between}

-- the stations of a run without its last one are those from which it goes on
without_last : (y : Appearance) (l : List Appearance) → take (length l) (stations_of (y ∷ l)) ≡ starting_points y l
unfolding starting_points
without_last y [] = refl
without_last y (x ∷ l) = ap (◌∷◌ y.station) (without_last x l)

-- of a run from s to z that comes back neither to s, nor to z before its end
between_inside :
    (s z v : ℕ) (l : List Appearance) → (last_or (start s) l).station ≡ z → (Memᴰ s (stations_of l) → ⊥) →
    (Memᴰ z (starting_points (start s) l) → ⊥) →
    member v (take (length l - 1) (stations_of l)) ≡ (not (eqb v s) && (not (eqb v z) && member v (stations_of l)))
unfolding member any last_or starting_points
between_inside s z v [] ends home before = rw (and-false, and-false)
between_inside s z v (y ∷ l) ends home before =
    let fewer : suc (length l) - 1 ≡ length l = omega arith in
    ap (member v) (ap (λ k. take k (stations_of (y ∷ l))) fewer ∙ without_last y l) ∙
    starts_visited v y l (λ m. before (Memᴰ.tail (Memᴰ.cast (sym ends) m))) ∙
    by_cases (ℕ_discrete v s)
    (λ e.
    let out : member v (stations_of (y ∷ l)) ≡ false =
    ap (λ x. member x (stations_of (y ∷ l))) e ∙ (member_false s (stations_of (y ∷ l))).1 home in
    ap (λ b. not (eqb v (last_or y l).station) && b) out ∙ and-false (not (eqb v (last_or y l).station)) ∙
    sym (ap (λ b. not b && (not (eqb v z) && member v (stations_of (y ∷ l)))) (eq-eqb v s e)))
    (λ d. rw (ne_eqb v s d, ends))

-- the same of the walk
pub between_is_interior :
    (p : Plan) (s z v : ℕ) (w : List ℕ) {l : List Appearance} → run p (start s) w ≡ some l → (last_or (start s) l).station ≡ z →
    (Memᴰ s (stations_of l) → ⊥) × (Memᴰ z (starting_points (start s) l) → ⊥) →
    is_interior p s z v w ≡ is_between p s v w
unfolding is_interior is_between holds
between_is_interior p s z v w {l} runs ends (home, before) = rw runs (sym (between_inside s z v l ends home before))

-- and of a path
pub between_in_path :
    (p : Plan) (s z v : ℕ) (w : List ℕ) → is_path p s z w ≡ true → is_interior p s z v w ≡ is_between p s v w
between_in_path p s z v w e =
    let r = path_inv p s z w e in
    between_is_interior p s z v w r.runs r.ends (
      ((distinct_cons s (stations_of r.visits)).0 r.apart).0,
      λ m. end_apart (start s) r.visits r.apart (Memᴰ.cast r.ends m),
    )
