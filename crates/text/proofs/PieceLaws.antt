-- Numbered pieces of a text, written one after the other by a loop. Assumes nothing.
use Prim.Native.Nat.{ℕ, suc, ◌+◌, ◌-◌, ◌<◌, ◌≤◌}
use native.Mathlib.Omega.{arith}
use mathlib.Core.Path.{◌≡◌, refl}
use mathlib.Core.List.{List, [], ◌++◌, flat_map}
use lib.ListN.{length}
use Rattle.temporal.specs.Lists.{from, below}
use Rattle.text.specs.Written.{Put}
use Rattle.text.specs.Pieces.{pieces}
use Rattle.text.proofs.GoingLaws.{Going, going_room, going_next, going_all}

-- piece i and those behind it
pub pieces_cons : (f : ℕ → List ℕ) (i n : ℕ) → i < n → pieces f i n ≡ f i ++ pieces f (i + 1) n
unfolding pieces from flat_map
pieces_cons f i n h =
    let left : n - i ≡ suc (n - (i + 1)) = omega arith in
    let next : i + 1 ≡ suc i = omega arith in
    rw (left, next)

-- past the last there is none
pub pieces_none : (f : ℕ → List ℕ) (i n : ℕ) → n ≤ i → pieces f i n ≡ []
unfolding pieces from flat_map
pieces_none f i n h =
    let none : n - i ≡ 0 = omega arith in
    rw none refl

-- from the first on they are all
pub pieces_all : (f : ℕ → List ℕ) (n : ℕ) → pieces f 0 n ≡ flat_map f (below n)
unfolding pieces below
pieces_all f n = let all : n - 0 ≡ n = omega arith in rw all refl

module _ (at : ℕ) (whole old : List ℕ) (end : ℕ) (f : ℕ → List ℕ) (i n : ℕ) (now : List ℕ)
    (g : Going at whole old end (pieces f i n) now) where
  -- the next piece has room
  pub piece_room : i < n → end + length (f i) ≤ length now
  piece_room h = going_room at whole old end (pieces f i n) now g (f i) (pieces f (i + 1) n) (pieces_cons f i n h)

  -- and is written
  pub piece_next :
      i < n → (end' : ℕ) (now' : List ℕ) → Put end (f i) now end' now' → Going at whole old end' (pieces f (i + 1) n) now'
  piece_next h = going_next at whole old end (pieces f i n) now g (f i) (pieces f (i + 1) n) (pieces_cons f i n h)

  -- past the last all are
  pub piece_all : n ≤ i → Put at whole old end now
  piece_all h = going_all at whole old end (pieces f i n) now g (pieces_none f i n h)
