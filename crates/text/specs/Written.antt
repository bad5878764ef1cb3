-- Bytes written into a buffer at a place. Definitions only.
-- Assumes nothing.
use Rattle.std.specs.Prelude.{ℕ, ◌+◌, ◌≡◌, List, ◌++◌, length, take, drop}

-- a buffer with new bytes from a place on; the bytes before and behind them stay
unfoldable pub written : ℕ → List ℕ → List ℕ → List ℕ
written at new old = take at old ++ new ++ drop (at + length new) old

-- what a function that writes new bytes into a buffer answers and leaves: the place behind them, and the buffer
pub record Put (at : ℕ) (new old : List ℕ) (end : ℕ) (now : List ℕ) : Type 0 where
  pub place : end ≡ at + length new
  pub contents : now ≡ written at new old
