-- What the doubles of this crate's types are, by their bits. Definitions only.
-- Assumes nothing.
use Rattle.std.specs.Prelude.{◌≡◌, ℕ, List, to_bits, Float}
use Rattle.std.specs.Float.{binary64}
use Rattle.temporal.specs.Drawing.{Carried, idle, carries, carried, low_bits, high_bits, record_of}
use Rattle.drawing.specs.declared.Figures.{Figures}
use Rattle.drawing.specs.declared.Figures.TheVariants.{Idle, Carries}
use Rattle.drawing.specs.declared.Drawn.{Drawn}

-- what figures say of a station
abbrev pub carried_bits : Figures → Carried
carried_bits Idle = idle
carried_bits (Carries low high) = carries (to_bits binary64 low) (to_bits binary64 high)

-- a station and two doubles are what is drawn of station v with this load and this number of pairs
pub record DrawnAs (v load pairs station : ℕ) (low high : Float) : Type 0 where
  pub station_is : station ≡ v
  pub low_is : to_bits binary64 low ≡ low_bits (carried load pairs)
  pub high_is : to_bits binary64 high ≡ high_bits (carried load pairs)

-- the record that is written of a station and two doubles
unfoldable pub drawn_bytes : Drawn → List ℕ
drawn_bytes d = record_of d.station (to_bits binary64 d.low) (to_bits binary64 d.high)
