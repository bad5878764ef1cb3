-- Lists: what the other definitions say of lists, without plans. Definitions only.
-- Assumes nothing.
use Rattle.std.specs.Prelude.{ℕ, zero, suc, ◌+◌, ◌*◌, ◌<◌, ◌≡◌, Bool, true, false, not, cond, ◌&&◌, ◌||◌, ◌⊎◌, ◌≢◌, eqb, length, get_or}
use mathlib.Core.List.{List, [], ◌∷◌, map, flat_map, Memᴰ}

-- as many numbers as the second says, from the first on: from 2 3 is 2, 3, 4
unfoldable pub from : ℕ → ℕ → List ℕ
from i zero = []
from i (suc k) = i ∷ from (suc i) k

-- the numbers below n, rising: 0, 1, .., n - 1
unfoldable pub below : ℕ → List ℕ
below n = from 0 n

-- the sum of the numbers of a list; 0 of none
unfoldable pub sum : List ℕ → ℕ
sum [] = 0
sum (x ∷ l) = x + sum l

-- the product of the numbers of a list; 1 of none
unfoldable pub product : List ℕ → ℕ
product [] = 1
product (x ∷ l) = x * product l

module _ {A : Type 0} where
  -- the members of a list that pass a test, in the list's order
  unfoldable pub select : (A → Bool) → List A → List A
  select t [] = []
  select t (x ∷ l) = let r = select t l in cond (t x) (x ∷ r) r

  -- whether some member of a list passes a test; of none it is false
  unfoldable pub any : (A → Bool) → List A → Bool
  any t [] = false
  any t (x ∷ l) = t x || any t l

-- the first number of a list that passes a test; the number none where none does
unfoldable pub first_where : ℕ → (ℕ → Bool) → List ℕ → ℕ
first_where none t [] = none
first_where none t (x ∷ l) = let r = first_where none t l in cond (t x) x r

-- whether a number stands in a list
unfoldable pub member : ℕ → List ℕ → Bool
member v l = any (eqb v) l

-- whether no number stands twice in a list
unfoldable pub distinct : List ℕ → Bool
distinct [] = true
distinct (x ∷ l) = not (member x l) && distinct l

-- all lists of k numbers below m, in lexicographic order
unfoldable pub tuples : ℕ → ℕ → List (List ℕ)
tuples m zero = [] ∷ []
tuples m (suc k) = flat_map (λ i. map (◌∷◌ i) (tuples m k)) (below m)

-- u stands before w in lexicographic order: at the first place where they differ, u has the smaller number.
-- (Document 01: "ordered by their positions, compared from the first leg".) It is used for lists of one length.
unfoldable pub Before : List ℕ → List ℕ → Type 0
Before [] w = ⊥
Before (i ∷ u) [] = ⊥
Before (i ∷ u) (j ∷ w) = (i < j) ⊎ ((i ≡ j) × Before u w)

-- each member of a list stands before every later one; so none stands in it twice
unfoldable pub Rising : List (List ℕ) → Type 0
Rising [] = Unit {0}
Rising (w ∷ l) = ((u : List ℕ) → Memᴰ u l → Before w u) × Rising l

-- no member of a list stands in it twice: members at two places differ
unfoldable pub NoneTwice : List (List ℕ) → Type 0
NoneTwice l = (i j : ℕ) → i < j → j < length l → get_or l i [] ≢ get_or l j []
