-- Beginnings of shortest walks and their order. Definitions only.
-- Assumes nothing.
use Rattle.std.specs.Prelude.{ℕ, ◌+◌, ◌≡◌, Bool, true, false, List, ◌⊎◌, eqb, length, take}
use Rattle.std.proofs.Math.Option.{Option, map}
use Rattle.temporal.specs.Lists.{Before}
use Rattle.temporal.specs.Plan.{Plan, Appearance, start}
use Rattle.temporal.specs.Walk.{run, last_or, holds}
use Rattle.temporal.specs.Outcome.{over}
use Rattle.ways.specs.Home.{home_from}

-- the appearance in which the positions w end from x; none where w is no walk from x
unfoldable pub end_after : Plan → Appearance → List ℕ → Option Appearance
end_after p x w = map (last_or x) (run p x w)

-- Whether w is a walk from s whose hops and the fewest hops from its end to z are together k. Where k is the pair's hops
-- these are the beginnings of its shortest walks: document 01's legs of which the last contact leads home.
unfoldable pub completes : Plan → ℕ → ℕ → ℕ → List ℕ → Bool
completes p s z k w = holds (end_after p (start s) w) (λ x. eqb (length w + home_from p z x) k)

-- w' is the least, in lexicographic order, of the lists of k numbers that pass a test
pub record LeastOf (t : List ℕ → Bool) (k : ℕ) (w' : List ℕ) : Type 0 where
  pub size : length w' ≡ k
  pub passes : t w' ≡ true
  pub least : (u : List ℕ) → length u ≡ k → t u ≡ true → (u ≡ w') ⊎ Before w' u

-- w' is the least of those that w stands before
pub record Later (t : List ℕ → Bool) (k : ℕ) (w w' : List ℕ) : Type 0 where
  pub size : length w' ≡ k
  pub passes : t w' ≡ true
  pub after : Before w w'
  pub least : (u : List ℕ) → length u ≡ k → t u ≡ true → Before w u → (u ≡ w') ⊎ Before w' u

-- w stands before none of them
abbrev pub NoneLater : (List ℕ → Bool) → ℕ → List ℕ → Type 0
NoneLater t k w = (u : List ℕ) → length u ≡ k → t u ≡ true → Before w u → ⊥

-- The first k entries of a buffer are moved on to the next list that passes a test; where there is none, the buffer
-- stays.
pub record Advanced (t : List ℕ → Bool) (k : ℕ) (old : List ℕ) (r : Bool) (new : List ℕ) : Type 0 where
  pub moved : r ≡ true → (w : List ℕ) × Later t k (take k old) w × (new ≡ over w old)
  pub stayed : r ≡ false → NoneLater t k (take k old) × (new ≡ old)
