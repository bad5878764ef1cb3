-- The verdict on a list of positions that somebody else wrote (document 02, C-19), from the complete list alone. Definitions only.
-- Assumes nothing.
use Rattle.std.specs.Prelude.{ℕ, ◌<◌, ◌≡◌, cond, length, take}
use mathlib.Core.List.{List, flat_map}
use Rattle.temporal.specs.Lists.{below, any}
use Rattle.temporal.specs.Cursor.{same_numbers}

-- What may be said of a list of positions.
pub data Verdict : Type 0 where
  complete : Verdict  -- exactly the ways of the complete list, one behind another
  beginning : Verdict  -- document 02's proper beginning: its first few whole ways, fewer than all, possibly none
  wrong : Verdict  -- everything else

-- the positions of ways, one way behind another
unfoldable pub joined : List (List ℕ) → List ℕ
joined l = flat_map (λ w. w) l

-- The verdict on entries, by the complete list l. Where l is empty, the empty list is complete and no list is a beginning.
unfoldable pub verdict_on : List (List ℕ) → List ℕ → Verdict
verdict_on l e =
    cond (same_numbers e (joined l)) complete
    (cond (any (λ i. same_numbers e (joined (take i l))) (below (length l))) beginning wrong)

-- the entries are exactly those of the complete list
abbrev pub IsComplete : List (List ℕ) → List ℕ → Type 0
IsComplete l e = e ≡ joined l

-- the entries are those of the first i ways, i fewer than all
abbrev pub IsBeginning : List (List ℕ) → List ℕ → Type 0
IsBeginning l e = (i : ℕ) × (i < length l) × (e ≡ joined (take i l))
