-- A search for the largest of some entries. Assumes nothing.
use Prim.Native.Nat.{ℕ, ◌+◌, ◌<◌, ◌≤◌}
use native.Mathlib.Omega.{arith}
use native.Mathlib.Decide.{dec_lt, ℕ_discrete}
use borrow.Author.Tests.{lt-ltb, le-ltb}
use mathlib.Core.Path.{◌≡◌}
use mathlib.Core.Logic.{by_cases}
use mathlib.Core.List.{List}
use lib.ListN.{get_or}
use Rattle.loads.specs.Largest.{better_of, Largest}

-- best is the lowest place of the largest of the first u entries
pub record Best (l : List ℕ) (from k best u : ℕ) : Type 0 where
  pub few : u ≤ k
  pub within : best < u
  pub largest : (v : ℕ) → v < u → get_or l (from + v) 0 ≤ get_or l (from + best) 0
  pub lowest : (v : ℕ) → v < best → get_or l (from + v) 0 < get_or l (from + best) 0

module _ (l : List ℕ) (from k : ℕ) where
  pub best_first : 0 < k → Best l from k 0 1
  best_first h =
      record {
        few = omega arith;
        within = omega arith;
        largest = λ v g. let q : v ≡ 0 = omega arith in rw q (omega arith);
        lowest = λ v g. absurd (omega arith);
      }

  pub best_kept :
      (best u : ℕ) → u < k → get_or l (from + u) 0 ≤ get_or l (from + best) 0 → Best l from k best u → Best l from k best (u + 1)
  best_kept best u h less b =
      let w = b.within in
      record {
        few = omega arith;
        within = omega arith;
        largest = λ v g. by_cases (ℕ_discrete v u) (λ q. rw q less) (λ ne. b.largest v (omega arith));
        lowest = b.lowest;
      }

  pub best_new :
      (best u : ℕ) → u < k → get_or l (from + best) 0 < get_or l (from + u) 0 → Best l from k best u → Best l from k u (u + 1)
  best_new best u h more b =
      record {
        few = omega arith;
        within = omega arith;
        largest = λ v g.
            by_cases (ℕ_discrete v u) (λ q. rw q (omega arith))
            (λ ne. let less = b.largest v (omega arith) in omega arith);
        lowest = λ v g. let less = b.largest v g in omega arith;
      }

  pub better_new : (best u : ℕ) → get_or l (from + best) 0 < get_or l (from + u) 0 → better_of l from best u ≡ u
  unfolding better_of
  better_new best u h = rw (lt-ltb (get_or l (from + best) 0) (get_or l (from + u) 0) h)

  pub better_kept : (best u : ℕ) → get_or l (from + u) 0 ≤ get_or l (from + best) 0 → better_of l from best u ≡ best
  unfolding better_of
  better_kept best u h = rw (le-ltb (get_or l (from + best) 0) (get_or l (from + u) 0) h)

  pub best_next :
      (best u r : ℕ) → u < k → r ≡ better_of l from best u → Best l from k best u → Best l from k r (u + 1)
  best_next best u r h e b =
      by_cases (dec_lt (get_or l (from + best) 0) (get_or l (from + u) 0))
      (λ more. rw (e, better_new best u more) (best_new best u h more b))
      (λ less. rw (e, better_kept best u (omega arith)) (best_kept best u h (omega arith) b))

  pub best_all : (best u : ℕ) → k ≤ u → Best l from k best u → Largest l from k best
  best_all best u h b =
      let f = b.few in
      let w = b.within in
      record { within = omega arith; largest = λ v g. b.largest v (omega arith); lowest = b.lowest }
