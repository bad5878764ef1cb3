-- What the parts of reading a record answer. Definitions only.
-- Assumes nothing.
use Rattle.std.specs.Prelude.{◌≡◌, ℕ, ◌+◌, ◌*◌, ◌^◌, ◌<◌, List, ◌≢◌, Option, Some, None, to_bits}
use Rattle.std.specs.Float.{binary64}
use Rattle.temporal.specs.Drawing.{share_bits, ReadBack, foreign, station, Reads}
use Rattle.drawing.specs.declared.Drawn.{Drawn}
use Rattle.drawing.specs.declared.Reading.{Reading}
use Rattle.drawing.specs.Doubles.{drawn_bytes}

-- the answer in the definitions' words
abbrev pub read_result : Option Reading → ReadBack
read_result None = foreign
read_result (Some r) = station r.station r.load r.pairs

-- the number below 2^53 whose share has these bits; none where no number's share has them
unfoldable pub NumberOf : ℕ → Option ℕ → Type 0
NumberOf b None = (x : ℕ) → x < 2 ^ 53 → share_bits x ≢ b
NumberOf b (Some x) = (x < 2 ^ 53) × (share_bits x ≡ b)

-- a station of 16 bits and doubles that are finite and carry no minus sign
pub record Parseable (d : Drawn) : Type 0 where
  pub station_low : d.station < 65536
  pub low_finite : to_bits binary64 d.low < 2047 * 2 ^ 52
  pub high_finite : to_bits binary64 d.high < 2047 * 2 ^ 52

-- the record that bytes are; none only where the bytes are foreign
unfoldable pub ParsedAs : List ℕ → Option Drawn → Type 0
ParsedAs bytes None = Reads bytes foreign
ParsedAs bytes (Some d) = Parseable d × (drawn_bytes d ≡ bytes)

-- station, load and pairs within the limits, where the pairs and the load add up to a sum
pub record Limits (v load pairs sum : ℕ) : Type 0 where
  pub station_low : v < 256
  pub load_low : load < 2 ^ 49
  pub pairs_low : pairs < 2 ^ 49
  pub no_pairs : pairs ≡ 0 → load ≡ 0
  pub adds : load + pairs ≡ sum

unfoldable pub NumbersRead : ℕ → ℕ → ℕ → ReadBack → Type 0
NumbersRead v load sum foreign = (pairs : ℕ) → Limits v load pairs sum → ⊥
NumbersRead v load sum (station w load' pairs) = (w ≡ v) × (load' ≡ load) × Limits v load pairs sum
