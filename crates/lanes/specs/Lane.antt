-- A 64-bit entry that holds k counts of w bits each, w × k = 64: lane l has the bits from w × l on. Adding two entries adds
-- all their lanes. Definitions only.
-- Assumes nothing.
use Rattle.std.specs.Prelude.{ℕ, zero, suc, ◌+◌, ◌-◌, ◌*◌, ◌/◌, ◌%◌, ◌^◌, ◌<◌, ◌≡◌}

-- the count in lane l of entry x
unfoldable pub lane : ℕ → ℕ → ℕ → ℕ
lane w x l = x / 2 ^ (w * l) % 2 ^ w

-- entry x with lane l set to 0
unfoldable pub without_lane : ℕ → ℕ → ℕ → ℕ
without_lane w x l = x - lane w x l * 2 ^ (w * l)

-- the entry of the counts f 0 to f (k - 1); one that does not fit its lane goes over into the next
unfoldable pub packed : ℕ → ℕ → (ℕ → ℕ) → ℕ
packed w zero f = 0
packed w (suc k) f = packed w k (λ l. f (suc l)) * 2 ^ w + f 0

-- the entry with 1 in each of k lanes
unfoldable pub ones : ℕ → ℕ → ℕ
ones w k = packed w k (λ l. 1)

-- each of the first k counts fits its lane
abbrev pub Within : ℕ → ℕ → (ℕ → ℕ) → Type 0
Within w k f = (l : ℕ) → l < k → f l < 2 ^ w

-- What clearing a lane needs of an entry that is known modulo 2^64: there is one lane, or each count fits its lane.
pub data Fits (w k : ℕ) (f : ℕ → ℕ) : Type 0 where
  alone : k ≡ 1 → Fits w k f
  apart : Within w k f → Fits w k f

-- by a number s up to 3: how many lanes an entry has, and how wide each is
unfoldable pub lanes_of : ℕ → ℕ
lanes_of s = 2 ^ s

unfoldable pub width_of : ℕ → ℕ
width_of s = 64 / 2 ^ s
