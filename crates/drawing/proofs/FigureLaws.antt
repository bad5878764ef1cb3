-- What a station carries, and what is drawn of it.
-- Assumes nothing.
use Rattle.std.proofs.Common.{◌≡◌, ℕ, zero, suc, ◌+◌, ◌*◌, ◌^◌, ◌<◌, sym, refl, ap, ◌∙◌, arith}
use lib.Ieee.{Float, binary64, of_bits, to_bits}
use Rattle.temporal.specs.Drawing.{share_bits, idle, carries, carried, low_bits, high_bits}
use Rattle.drawing.specs.declared.Figures.{Figures}
use Rattle.drawing.specs.declared.Figures.TheVariants.{Idle, Carries}
use Rattle.drawing.specs.Doubles.{carried_bits, DrawnAs}
use Rattle.drawing.proofs.ShareLaws.{share_below}

-- ---- figures

pub carried_idle : (load pairs : ℕ) → pairs ≡ 0 → idle ≡ carried load pairs
unfolding carried
carried_idle load zero e = refl
carried_idle load (suc pairs) e = absurd (omega arith)

pub carried_some : (load pairs low high : ℕ) → (pairs ≡ 0 → ⊥) → low ≡ share_bits load → high ≡ share_bits (load + pairs)
    → carries low high ≡ carried load pairs
unfolding carried
carried_some load zero low high h p q = absurd (h refl)
carried_some load (suc pairs) low high h p q = ap (λ n. carries n high) p ∙ ap (λ n. carries (share_bits load) n) q

-- where there is no load without pairs, the bits are those of the two numbers, also of an idle station
pub low_of_law : (load pairs : ℕ) → (pairs ≡ 0 → load ≡ 0) → low_bits (carried load pairs) ≡ share_bits load
unfolding carried low_bits share_bits
low_of_law load zero h = ap share_bits (sym (h refl))
low_of_law load (suc pairs) h = refl

pub high_of_law : (load pairs : ℕ) → (pairs ≡ 0 → load ≡ 0) → high_bits (carried load pairs) ≡ share_bits (load + pairs)
unfolding carried high_bits share_bits
high_of_law load zero h = ap (λ n. share_bits (n + 0)) (sym (h refl))
high_of_law load (suc pairs) h = refl

-- what is drawn lies below the infinity's pattern
pub low_below : (load pairs : ℕ) → load < 2 ^ 49 → low_bits (carried load pairs) < 2047 * 2 ^ 52
unfolding carried low_bits
low_below load zero h = omega arith
low_below load (suc pairs) h = share_below load (omega arith)

pub high_below : (load pairs : ℕ) → load < 2 ^ 49 → pairs < 2 ^ 49 → high_bits (carried load pairs) < 2047 * 2 ^ 52
unfolding carried high_bits
high_below load zero h l = omega arith
high_below load (suc pairs) h l = share_below (load + suc pairs) (omega arith)

-- ---- what is drawn

module _ (v load pairs : ℕ) (figures : Figures) (is : carried_bits figures ≡ carried load pairs) where
  pub drawn_idle : figures ≡ Idle → DrawnAs v load pairs v (of_bits binary64 0) (of_bits binary64 0)
  unfolding to_bits of_bits low_bits high_bits
  drawn_idle e =
      let f : idle ≡ carried load pairs = ap carried_bits (sym e) ∙ is in
      record { station_is = refl; low_is = ap low_bits f; high_is = ap high_bits f }

  pub drawn_carries : (low high : Float) → figures ≡ Carries low high → DrawnAs v load pairs v low high
  unfolding low_bits high_bits
  drawn_carries low high e =
      let f : carries (to_bits binary64 low) (to_bits binary64 high) ≡ carried load pairs = ap carried_bits (sym e) ∙ is in
      record { station_is = refl; low_is = ap low_bits f; high_is = ap high_bits f }
