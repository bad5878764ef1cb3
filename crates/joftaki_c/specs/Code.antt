-- The numbers and the slot of first way and next way. Definitions only.
-- Assumes nothing.
use Rattle.std.specs.Prelude.{ℕ, List}
use Rattle.temporal.specs.Cursor.{Reply, path, no_path, last_path, refused}
use Rattle.temporal.specs.FirstNext.{WayOutcome}

-- the number of a reply: 100 and 101 are document 01's "none" and "last"
abbrev pub reply_code : Reply → ℕ
reply_code (path h) = 0
reply_code no_path = 100
reply_code last_path = 101
reply_code (refused k) = k

-- the hops slot: 0 unless a way is given
abbrev pub reply_hops : Reply → ℕ
reply_hops (path h) = h
reply_hops no_path = 0
reply_hops last_path = 0
reply_hops (refused k) = 0

-- the number, the hops slot, the way buffer and the work area at exit
pub record WayExit : Type 0 where
  pub code : ℕ
  pub hops : ℕ
  pub way : List ℕ
  pub work : List ℕ

-- what a call gives: its number, its slot and its buffers
abbrev pub way_given : ℕ → ℕ → List ℕ → List ℕ → WayExit
way_given code hops way work = record { code = code; hops = hops; way = way; work = work }

-- those of an answer of the definitions
abbrev pub way_exit : WayOutcome → WayExit
way_exit o = way_given (reply_code o.reply) (reply_hops o.reply) o.way o.work
