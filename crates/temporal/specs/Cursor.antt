-- The cursor on a complete list, document 01's finger: how first way and next way move it. Definitions only.
-- Assumes nothing.
use Rattle.std.specs.Prelude.{ℕ, suc, ◌+◌, Bool, true, false, cond, ◌&&◌, List, [], ◌∷◌, ltb, eqb, length, take, get_or}
use Rattle.std.proofs.Math.Option.{Option, none, some, map}
use Rattle.temporal.specs.Cause.{unless}
use Rattle.temporal.specs.Outcome.{over}

-- What first way and next way answer.
pub data Reply : Type 0 where
  path : ℕ → Reply  -- a way is given: its hops
  no_path : Reply  -- document 01's "none"
  last_path : Reply  -- document 01's "last"
  refused : ℕ → Reply  -- the number of the cause; zeros stand beside it

-- whether two lists of numbers are the same
unfoldable pub same_numbers : List ℕ → List ℕ → Bool
same_numbers [] [] = true
same_numbers [] (y ∷ m) = false
same_numbers (x ∷ l) [] = false
same_numbers (x ∷ l) (y ∷ m) = eqb x y && same_numbers l m

-- the index in a list of the first member with which a buffer begins, or none
unfoldable pub index_in : List (List ℕ) → List ℕ → Option ℕ
index_in [] b = none
index_in (w ∷ l) b = cond (same_numbers w (take (length w) b)) (some 0) (map suc (index_in l b))

-- Document 01's finger after a call: what it answers, the index of the way it is on, or none, and its buffer.
pub record Moved : Type 0 where
  pub reply : Reply
  pub cursor : Option ℕ
  pub buffer : List ℕ

-- the cursor and the buffer stay
unfoldable pub stay : Reply → Option ℕ → List ℕ → Moved
stay r at b = record { reply = r; cursor = at; buffer = b }

-- the cursor goes to index i, and that way is given: its positions become the first entries of the buffer
unfoldable pub give : List (List ℕ) → ℕ → List ℕ → Moved
give l i b = record { reply = path (length (get_or l i [])); cursor = some i; buffer = over (get_or l i []) b }

-- first way on a complete list, no other cause of refusal being there
unfoldable pub go_first : List (List ℕ) → Option ℕ → List ℕ → Moved
go_first [] at b = stay no_path at b
go_first (w ∷ l) at b = give (w ∷ l) 0 b

-- next way on a complete list: 10 on none, "last" on the last way, else on by one
unfoldable pub go_next : List (List ℕ) → Option ℕ → List ℕ → Moved
go_next l none b = stay (refused 10) none b
go_next l (some i) b = cond (ltb (i + 1) (length l)) (give l (i + 1) b) (stay last_path (some i) b)

-- operations 7 and 8
pub data Operation : Type 0 where
  first_way next_way : Operation

unfoldable pub go : Operation → List (List ℕ) → Option ℕ → List ℕ → Moved
go first_way = go_first
go next_way = go_next

-- the cursor's move at a call whose first cause other than 10 has the given number; 0 where it has none
unfoldable pub move : Operation → ℕ → List (List ℕ) → Option ℕ → List ℕ → Moved
move o k l at b = unless k (λ k. stay (refused k) at b) (go o l at b)
