-- Small laws about options and positions that the laws of walks use. They know nothing of plans.
-- Assumes nothing.
use Prim.Native.Nat.{ℕ, zero, suc, ◌<◌}
use mathlib.Core.Bool.{Bool, true, false, cond, false≢true}
use mathlib.Core.List.{List, [], ◌∷◌}
use mathlib.Core.Option.{Option, none, some}
use mathlib.Core.Path.{◌≡◌, refl}
use native.Mathlib.Omega.{arith}
use lib.ListN.{length, get_elem?}
use Rattle.temporal.specs.Walk.{holds}

module _ {A : Type 0} where
  -- a position at which a list has a member is below its length
  pub position_below : (l : List A) (i : ℕ) {a : A} → get_elem? l i ≡ some a → i < length l
  position_below [] i e = absurd (let z : ◌≡◌ {A = ℕ} 0 1 = cc in omega arith)
  position_below (x ∷ l) zero e = omega arith
  position_below (x ∷ l) (suc i) e = let h : i < length l = position_below l i e in omega arith

  -- a guarded value is there only where the guard holds
  pub guarded : (b : Bool) (o : Option A) {a : A} → cond b o none ≡ some a → (b ≡ true) × (o ≡ some a)
  guarded true o e = (refl, e)
  guarded false o e = absurd (let z : ◌≡◌ {A = ℕ} 0 1 = cc in omega arith)

  -- a value that passes a test is there
  pub holds_inv : (o : Option A) (t : A → Bool) → holds o t ≡ true → (a : A) × (o ≡ some a) × (t a ≡ true)
  unfolding holds
  holds_inv none t e = absurd (false≢true e)
  holds_inv (some a) t e = (a, refl, e)
