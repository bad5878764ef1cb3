-- A move of the cursor keeps the buffer's length, where the walks of the list fit the buffer. Assumes nothing.
use Prim.Native.Nat.{ℕ, zero, suc, ◌+◌, ◌≤◌, ◌<◌}
use native.Mathlib.Omega.{arith}
use mathlib.Core.Path.{◌≡◌, refl}
use mathlib.Core.Bool.{Bool, true, false, cond}
use mathlib.Core.List.{List, [], ◌∷◌}
use mathlib.Core.Option.{Option, none, some}
use borrow.Author.Tests.{ltb-true}
use lib.Dec.{ltb}
use lib.ListN.{length, get_or}
use Rattle.temporal.specs.Cause.{unless}
use Rattle.temporal.specs.Cursor.{last_path, stay, give, go_first, go_next, Operation, first_way, next_way, go, move}
use Rattle.lists.proofs.ListLaws.{mem_get_d_law}
use Rattle.lists.proofs.BufferLaws.{length_over}
use Rattle.trace.proofs.CursorLaws.{RisingPaths}

module _ {h : ℕ} {l : List (List ℕ)} (p : RisingPaths h l) (b : List ℕ) (fits : h ≤ length b) where
  give_length : (i : ℕ) → i < length l → length (give l i b).buffer ≡ length b
  unfolding give
  give_length i inside =
      let one = p.one_length (get_or l i []) (mem_get_d_law l i [] inside) in
      length_over (get_or l i []) b (omega arith)

  next_length : (at : Option ℕ) → length (go_next l at b).buffer ≡ length b
  unfolding go_next stay
  next_length none = refl
  next_length (some i) = pick (ltb (i + 1) (length l)) refl
    where
      pick : (c : Bool) → ltb (i + 1) (length l) ≡ c → length (cond c (give l (i + 1) b) (stay last_path (some i) b)).buffer ≡ length b
      pick true t = give_length (i + 1) (ltb-true (i + 1) (length l) t)
      pick false t = refl

first_length : {h : ℕ} {l : List (List ℕ)} → RisingPaths h l → (b : List ℕ) → h ≤ length b → (at : Option ℕ)
    → length (go_first l at b).buffer ≡ length b
unfolding go_first stay
first_length {l = []} p b fits at = refl
first_length {l = w ∷ l} p b fits at = give_length p b fits 0 (omega arith)

go_length : {h : ℕ} {l : List (List ℕ)} → RisingPaths h l → (b : List ℕ) → h ≤ length b → (o : Operation) (at : Option ℕ)
    → length (go o l at b).buffer ≡ length b
unfolding go
go_length p b fits first_way at = first_length p b fits at
go_length p b fits next_way at = next_length p b fits at

-- a move at cause n; where n is 0 it is on such a list, and its walks fit the buffer
pub move_length : {h : ℕ} {l : List (List ℕ)} → RisingPaths h l
    → (o : Operation) (n : ℕ) (other : List (List ℕ)) (at : Option ℕ) (b : List ℕ)
    → (n ≡ 0 → (other ≡ l) × (h ≤ length b))
    → length (move o n other at b).buffer ≡ length b
unfolding move unless stay
move_length p o zero other at b asked = let (same, fits) = asked refl in rw same (go_length p b fits o at)
move_length p o (suc n) other at b asked = refl
