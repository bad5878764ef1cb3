-- A table copied entry by entry. Assumes nothing.
use Prim.Native.Nat.{ℕ, ◌+◌, ◌<◌, ◌≤◌}
use native.Mathlib.Omega.{arith}
use native.Mathlib.Decide.{ℕ_discrete}
use mathlib.Core.Path.{◌≡◌, refl, ◌∙◌}
use mathlib.Core.Logic.{by_cases}
use mathlib.Core.List.{List}
use lib.ListN.{length, get_or, set, drop, length-set}
use lib.Seq.{get_or-set_same, get_or-set_other, drop-set-lt}
use Rattle.memory.specs.Copy.{Copied}

-- i of k entries are copied
pub record Copying (source : List ℕ) (from k i : ℕ) (old now : List ℕ) : Type 0 where
  pub within : i ≤ k
  pub here : (j : ℕ) → j < i → get_or now j 0 ≡ get_or source (from + j) 0
  pub beyond : drop k now ≡ drop k old
  pub same_length : length now ≡ length old

module _ (source : List ℕ) (from k : ℕ) (old : List ℕ) where
  pub copying_none : Copying source from k 0 old old
  copying_none =
      record { within = omega arith; here = λ j h. absurd (omega arith); beyond = refl; same_length = refl }

  pub copying_more :
      (i : ℕ) (now : List ℕ) → i < k → k ≤ length old → Copying source from k i old now →
      Copying source from k (i + 1) old (set now i (get_or source (from + i) 0))
  copying_more i now h fits c =
      let size = c.same_length in
      record {
        within = omega arith;
        here = λ j g.
            by_cases (ℕ_discrete j i)
            (λ q. rw q (get_or-set_same now i (get_or source (from + i) 0) 0 (omega arith)))
            (λ ne. get_or-set_other now i j (get_or source (from + i) 0) 0 ne ∙ c.here j (omega arith));
        beyond = drop-set-lt k now i (get_or source (from + i) 0) h ∙ c.beyond;
        same_length = length-set now i (get_or source (from + i) 0) ∙ c.same_length;
      }

  pub copying_all : (i : ℕ) (now : List ℕ) → k ≤ i → Copying source from k i old now → Copied source from k old now
  copying_all i now h c =
      let w = c.within in
      record { here = λ j g. c.here j (omega arith); beyond = c.beyond; same_length = c.same_length }
