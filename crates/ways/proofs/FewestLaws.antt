-- The fewest positions of the lists that a predicate holds of, with 65535 for none. It knows nothing of tables.
-- Assumes nothing.
use Prim.Native.Nat.{ℕ, ◌+◌, ◌≤◌, ◌<◌, min}
use mathlib.Core.Path.{◌≡◌, sym, ap, ◌∙◌}
use mathlib.Core.Bool.{Bool, true}
use mathlib.Core.List.{List, ◌∷◌}
use mathlib.Core.Logic.{◌⊎◌, ⊎_elim, by_cases}
use native.Mathlib.Decide.{dec_le}
use native.Mathlib.Omega.{arith}
use lib.ListN.{length}
use Rattle.temporal.specs.Plan.{Plan}
use Rattle.temporal.specs.Shortest.{shortest, hops}
use Rattle.walks.proofs.ShortestLaws.{Bounded, Found, nowhere, at_hops, found, hops_empty, hops_least}
use Rattle.walks.proofs.ShortestLaws.{shortest_least, least_member, mem_of_hops_law}

-- h is the fewest positions of a list of which P holds; 65535 where there is none
pub record Fewest (P : List ℕ → Type 0) (h : ℕ) : Type 0 where
  pub bound : h ≤ 65535
  pub least : (w : List ℕ) → P w → h ≤ length w
  pub reached : h < 65535 → (w : List ℕ) × P w × (length w ≡ h)

-- a predicate that holds of no less has no smaller fewest
fewest_less : {P : List ℕ → Type 0} {h l : ℕ} → Fewest P h → Fewest P l → l ≤ h
fewest_less {P} {h} {l} f g = by_cases (dec_le 65535 h) (λ q. let b = g.bound in omega arith) found_there
  where
    found_there : (65535 ≤ h → ⊥) → l ≤ h
    found_there q = let (w, holds, e) = f.reached (omega arith) in omega (arith, g.least w holds)

-- a predicate has one fewest
pub fewest_unique : {P : List ℕ → Type 0} {h l : ℕ} → Fewest P h → Fewest P l → h ≡ l
fewest_unique f g = omega (arith, fewest_less f g, fewest_less g f)

-- predicates that hold of the same lists have the same fewest
pub fewest_same : {P Q : List ℕ → Type 0} {h : ℕ} → ((w : List ℕ) → P w → Q w) → ((w : List ℕ) → Q w → P w)
    → Fewest P h
    → Fewest Q h
fewest_same there back f =
    record {
      bound = f.bound;
      least = λ w q. f.least w (back w q);
      reached = λ q. let (w, holds, e) = f.reached q in (w, there w holds, e);
    }

-- the hops of the shortest lists that pass a bounded test are their fewest
pub fewest_shortest : {p : Plan} {t : List ℕ → Bool} → Bounded p t → p.slots < 65535
    → Fewest (λ w. t w ≡ true) (hops (shortest p t))
fewest_shortest {p} {t} b few = step (found b)
  where
    step : Found p t → Fewest (λ w. t w ≡ true) (hops (shortest p t))
    step (nowhere e n) =
        let none = hops_empty (shortest p t) e in
        record { bound = omega arith; least = λ w q. absurd (n w q); reached = λ q. absurd (omega arith) }
    step (at_hops k h e) =
        let here = hops_least h in
        let fits = h.fits in
        let (w, m) = least_member h in
        let (size, inside, passes) = (mem_of_hops_law p t k).0 m in
        record {
          bound = omega arith;
          least = λ u q. shortest_least b q;
          reached = λ q. (w, passes, size ∙ sym here);
        }

-- where R holds of what P holds of, and of i before each list that Q holds of, and of nothing else, its fewest is the
-- smaller of P's and one more than Q's
module _ {P Q R : List ℕ → Type 0} (i : ℕ)
    (into : (w : List ℕ) → P w → R w)
    (before : (u : List ℕ) → Q u → R (i ∷ u))
    (out : (w : List ℕ) → R w → P w ⊎ ((u : List ℕ) × (w ≡ i ∷ u) × Q u)) where
  pub fewest_joined : {h l : ℕ} → Fewest P h → Fewest Q l → Fewest R (min h (l + 1))
  fewest_joined {h} {l} f g =
      record {
        bound = let b = f.bound in omega arith;
        least = λ w r. ⊎_elim
            (λ q. omega (arith, f.least w q))
            (λ q. let (u, whole, there) = q in omega (arith, g.least u there, ap length whole))
            (out w r);
        reached = λ q. by_cases (dec_le h (l + 1))
            (λ less. let (w, holds, e) = f.reached (omega arith) in (w, into w holds, omega arith))
            (λ more.
            let b = f.bound in
            let (u, holds, e) = g.reached (omega arith) in
            (i ∷ u, before u holds, omega arith));
      }
