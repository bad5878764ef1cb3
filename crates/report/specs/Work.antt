-- What the inner functions of the report ask and leave. Definitions only.
-- Assumes nothing.
use Rattle.std.specs.Prelude.{ℕ, ◌+◌, ◌≤◌, ◌≡◌, false, List, ◌++◌, length, get_or}
use Rattle.text.specs.Pieces.{pieces}
use Rattle.report.specs.Sizes.{input_stations, input_slots, wrong_input, over_limits}
use Rattle.report.specs.Report.{heading, line}

-- the lines of n stations whose pairs and loads stand in two tables
abbrev pub lines_of : List ℕ → List ℕ → ℕ → List ℕ
lines_of ps ls n = pieces (λ v. line v (get_or ps v 0) (get_or ls v 0)) 0 n

-- the first line and the lines of n stations
unfoldable pub table_of : List ℕ → List ℕ → ℕ → ℕ → ℕ → List ℕ
table_of ps ls n t m = heading n t m ++ lines_of ps ls n

-- both tables have an entry for each of n stations, and a text has room from a place on
pub record Printable (at n : ℕ) (ps ls new out : List ℕ) : Type 0 where
  pub pairs_room : n ≤ length ps
  pub loads_room : n ≤ length ls
  pub text_room : at + length new ≤ length out

-- an input that the program's own causes do not refuse, its n and T, and buffers of at least the program's sizes
pub record Within (bs : List ℕ) (n t : ℕ) (out ps ls work : List ℕ) : Type 0 where
  pub right_input : wrong_input bs ≡ false
  pub stations : n ≡ input_stations bs
  pub slots : t ≡ input_slots bs
  pub limits : over_limits n t ≡ false
  pub out_size : 697 ≤ length out
  pub pairs_size : 32 ≤ length ps
  pub loads_size : 32 ≤ length ls
  pub work_size_law : 8192 ≤ length work
