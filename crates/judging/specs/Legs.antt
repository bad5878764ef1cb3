-- The legs of a way and of its neighbour, by a test of beginnings: t says whether positions begin one of the ways of h legs.
-- Definitions only.
-- Assumes nothing.
use Rattle.std.specs.Prelude.{ℕ, suc, ◌≤◌, ◌<◌, ◌≡◌, Bool, true, List, [], ◌∷◌, ◌++◌, get_or, take}

-- each leg of w, from a given one on, is the first position that serves behind the legs before it
pub record FirstLegs (t : List ℕ → Bool) (h from : ℕ) (w : List ℕ) : Type 0 where
  pub serves : (k : ℕ) → from ≤ k → k < h → t (take (suc k) w) ≡ true
  pub first : (k : ℕ) → from ≤ k → k < h → (m : ℕ) → t (take k w ++ m ∷ []) ≡ true → get_or w k 0 ≤ m

-- each leg of w, from a given one on, is the last position that serves behind the legs before it
pub record LastLegs (t : List ℕ → Bool) (h from : ℕ) (w : List ℕ) : Type 0 where
  pub last : (k : ℕ) → from ≤ k → k < h → (m : ℕ) → t (take k w ++ m ∷ []) ≡ true → m ≤ get_or w k 0

-- b follows a: at the first leg where they differ no position between serves, the legs behind it are the last ones that serve
-- in a and the first ones in b
pub record Follows (t : List ℕ → Bool) (h : ℕ) (a b : List ℕ) : Type 0 where
  pub leg : ℕ
  pub inside : leg < h
  pub alike : take leg a ≡ take leg b
  pub later : get_or a leg 0 < get_or b leg 0
  pub serves : t (take (suc leg) b) ≡ true
  pub between : (m : ℕ) → get_or a leg 0 < m → t (take leg a ++ m ∷ []) ≡ true → get_or b leg 0 ≤ m
  pub lasts : LastLegs t h (suc leg) a
  pub firsts : FirstLegs t h (suc leg) b
