-- What the loss of a contact does to the loads: only the shares of the pairs that use it change, each by one whole at most, up or down.
-- Assumes nothing.
use Prim.Native.Nat.{ℕ, zero, suc, ◌+◌, ◌-◌, ◌*◌, ◌/◌, ◌^◌, ◌≤◌, ◌<◌}
use mathlib.Core.Path.{◌≡◌, refl, sym, ap, ◌∙◌}
use mathlib.Core.Bool.{Bool, true, false, not, cond, ◌&&◌}
use mathlib.Core.List.{List, [], ◌∷◌, map}
use mathlib.Core.Logic.{by_cases}
use native.Mathlib.Decide.{dec_lt}
use native.Mathlib.Nat.{div-le_of_le-mul, suc-mul}
use native.Mathlib.Omega.{arith}
use borrow.Author.Tests.{lt-ltb, le-ltb}
use lib.Dec.{ltb, eqb}
use lib.IntN.{ℤ, pos, negsuc, ◌-ℤ◌}
use lib.ListN.{length}
use mir.Syntax.{w64}
use mir.Val.{SFits}
use Rattle.temporal.specs.Lists.{sum, select}
use Rattle.temporal.specs.Plan.{Plan}
use Rattle.temporal.specs.Walk.{is_interior}
use Rattle.temporal.specs.Shortest.{shortest_walks_to, through}
use Rattle.temporal.specs.Load.{Ends, ends_below, count_of, through_of, is_pair_of, pairs_below, share, partial_load, load}
use Rattle.temporal.specs.Struck.{struck_out, uses, is_user, pairs_using, change, magnitude}
use Rattle.walks.proofs.FewLaws.{select_shorter}
use Rattle.walks.proofs.StruckLaws.{unused_count, unused_through}

-- ---- sums

-- Over a list, numbers of which each is at most another, and k more for each member of a third selection.
sum_select_within :
    {A : Type 0} (f g : A → ℕ) (a b c : A → Bool) (k : ℕ) →
    ((x : A) → cond (a x) (f x) 0 ≤ cond (b x) (g x) 0 + cond (c x) k 0) →
    (l : List A) → sum (map f (select a l)) ≤ sum (map g (select b l)) + length (select c l) * k
unfolding select sum
sum_select_within f g a b c k h [] = omega arith
sum_select_within {A} f g a b c k h (x ∷ l) =
    omega (
      arith,
      h x,
      sum_select_within f g a b c k h l,
      kept f (a x) (select a l),
      kept g (b x) (select b l),
      counted (c x) (select c l),
    )
  where
    kept : (f : A → ℕ) (t : Bool) (r : List A) → sum (map f (cond t (x ∷ r) r)) ≡ cond t (f x) 0 + sum (map f r)
    kept f true r = refl
    kept f false r = omega arith

    counted : (t : Bool) (r : List A) → length (cond t (x ∷ r) r) * k ≡ cond t k 0 + length r * k
    counted true r = suc-mul (length r) k ∙ omega arith
    counted false r = omega arith

-- ---- shares

-- a share is at most one whole
whole : (p : Plan) (v : ℕ) (e : Ends) → share p v e ≤ 2 ^ 32
unfolding share through
whole p v e =
    let fewer =
    select_shorter (is_interior p e.source e.destination v) (shortest_walks_to p e.source e.destination) in
    div-le_of_le-mul (count_of p e) (omega arith)

-- numbers behind tests that agree but for one whole where a test holds
within : (user counts : Bool) {x y k : ℕ} → x ≤ k → (user ≡ false → cond counts x 0 ≡ y) → cond counts x 0 ≤ y + cond user k 0
within false counts most same = omega (arith, same refl)
within true true most same = omega arith
within true false most same = omega arith

module _ (p : Plan) (i v : ℕ) where
  -- what a pair that does not use the contact adds to a load stays
  unused_share : (e : Ends) → is_user p i e ≡ false
      → cond (is_pair_of (struck_out p i) v e) (share (struck_out p i) v e) 0 ≡ cond (is_pair_of p v e) (share p v e) 0
  unfolding share
  unused_share e = step (eqb e.source e.destination)
    where
      step : (b : Bool) → (not b && uses p i e.source e.destination) ≡ false
          → cond (not b && ltb 0 (through_of (struck_out p i) v e)) (2 ^ 32 * through_of (struck_out p i) v e / count_of (struck_out p i) e) 0
          ≡ cond (not b && ltb 0 (through_of p v e)) (2 ^ 32 * through_of p v e / count_of p e) 0
      step true none = refl
      step false none =
          rw (unused_through p i e.source e.destination v none, unused_count p i e.source e.destination none)

  -- A load without the record exceeds the one with it by one whole at most for each pair that uses the contact.
  pub load_up : load (struck_out p i) v ≤ load p v + length (pairs_using p i) * 2 ^ 32
  unfolding partial_load pairs_below pairs_using struck_out
  load_up =
      sum_select_within (share (struck_out p i) v) (share p v) (is_pair_of (struck_out p i) v) (is_pair_of p v) (is_user p i) (2 ^ 32)
      (λ e. within (is_user p i e) (is_pair_of (struck_out p i) v e) (whole (struck_out p i) v e) (unused_share e))
      (ends_below p.stations p.stations)

  -- and the other way round
  pub load_down : load p v ≤ load (struck_out p i) v + length (pairs_using p i) * 2 ^ 32
  unfolding partial_load pairs_below pairs_using struck_out
  load_down =
      sum_select_within (share p v) (share (struck_out p i) v) (is_pair_of p v) (is_pair_of (struck_out p i) v) (is_user p i) (2 ^ 32)
      (λ e. within (is_user p i e) (is_pair_of p v e) (whole p v e) (λ none. sym (unused_share e none)))
      (ends_below p.stations p.stations)

-- ---- differences

-- the difference of two numbers, of which the second is no larger
pub difference_up : (a b : ℕ) → b ≤ a → pos a -ℤ pos b ≡ pos (a - b)
difference_up a zero h = ap pos (omega arith)
difference_up a (suc b) h = rw (le-ltb a (suc b) h)

-- of which the second is larger
pub difference_down : (a b : ℕ) → a < b → pos a -ℤ pos b ≡ negsuc (b - suc a)
difference_down a zero h = absurd (omega arith)
difference_down a (suc b) h = rw (lt-ltb a (suc b) h)

-- it is at most by how much either exceeds the other
pub difference_within : (a b k : ℕ) → a ≤ b + k → b ≤ a + k → magnitude (pos a -ℤ pos b) ≤ k
unfolding magnitude
difference_within a b k up down =
    by_cases (dec_lt a b) (λ h. rw (difference_down a b h) (omega arith)) (λ n. rw (difference_up a b (omega arith)) (omega arith))

-- the difference of two numbers below 2^49 fits 64 bits with a sign
pub difference_fits : (a b : ℕ) → a < 2 ^ 49 → b < 2 ^ 49 → SFits w64 (pos a -ℤ pos b)
difference_fits a b g h =
    by_cases (dec_lt a b)
    (λ less. record { sfits = rw (difference_down a b less) (omega arith) })
    (λ n. record { sfits = rw (difference_up a b (omega arith)) (omega arith) })

module _ (p : Plan) (i v : ℕ) where
  -- A station's change is at most one whole for each pair that uses the contact, up or down.
  pub change_within : magnitude (change p i v) ≤ length (pairs_using p i) * 2 ^ 32
  unfolding change
  change_within =
      difference_within (load (struck_out p i) v) (load p v) (length (pairs_using p i) * 2 ^ 32) (load_up p i v) (load_down p i v)

  -- Where no pair uses it, no load changes.
  pub change_none : length (pairs_using p i) ≡ 0 → change p i v ≡ pos 0
  unfolding magnitude
  change_none none = zero_magnitude (change p i v) (omega (arith, change_within))
    where
      zero_magnitude : (k : ℤ) → magnitude k ≤ 0 → k ≡ pos 0
      zero_magnitude (pos k) h = ap pos (omega arith)
      zero_magnitude (negsuc k) h = absurd (omega arith)
