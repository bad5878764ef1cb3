-- The kinds of foreign records: a station from 256 on, a minus sign, an infinity or a not-a-number, a value finer than 2^-32, a high below
-- its low, and a high equal to a low that is not 0.
-- Assumes nothing.
use Rattle.std.proofs.Common.{◌≡◌, ℕ, ◌+◌, ◌*◌, ◌^◌, ◌<◌, ◌≤◌, sym, ap, ◌∙◌, mul-le-mul_right, arith, pow_pos}
use native.Mathlib.Nat.{eq_of_mul-eq-mul_right}
use Rattle.temporal.specs.Drawing.{multiple, record_of, CouldWrite, Reads, ForeignKinds}
use Rattle.drawing.proofs.ShareLaws.{share_below, share_is_exact}
use Rattle.drawing.proofs.RecordLaws.{Holds, could_hold}

module _ (s low high : ℕ) (hs : s < 65536) (hl : low < 2 ^ 64) (hh : high < 2 ^ 64) where
  -- what a writer's numbers would be
  module _ (v load pairs : ℕ) (w : CouldWrite v load pairs (record_of s low high)) where
    held : Holds v load pairs s low high
    held = could_hold v load pairs s low high hs hl hh w

    low_finite : low < 2047 * 2 ^ 52
    low_finite = let a = w.load_low in rw (sym held.low_is) (share_below load (omega arith))

    high_finite : high < 2047 * 2 ^ 52
    high_finite =
        let a = w.load_low in
        let b = w.pairs_low in
        rw (sym held.high_is) (share_below (load + pairs) (omega arith))

    low_value : multiple low ≡ load * 2 ^ 1042
    low_value = let a = w.load_low in ap multiple (sym held.low_is) ∙ (share_is_exact load (omega arith)).value

    high_value : multiple high ≡ (load + pairs) * 2 ^ 1042
    high_value =
        let a = w.load_low in
        let b = w.pairs_low in
        ap multiple (sym held.high_is) ∙ (share_is_exact (load + pairs) (omega arith)).value

  pub foreign_kinds : ForeignKinds s low high
  unfolding Reads
  foreign_kinds =
      record {
        station_high = λ h v load pairs w. let a = w.station_low in let b = (held v load pairs w).station_is in omega arith;
        low_not_plain = λ h v load pairs w. let a = low_finite v load pairs w in omega arith;
        high_not_plain = λ h v load pairs w. let a = high_finite v load pairs w in omega arith;
        low_finer = λ h v load pairs w. h load (low_value v load pairs w);
        high_finer = λ h v load pairs w. h (load + pairs) (high_value v load pairs w);
        high_below = λ h v load pairs w.
            below_none (load * 2 ^ 1042) ((load + pairs) * 2 ^ 1042) (rw (low_value v load pairs w, high_value v load pairs w) at h)
            (mul-le-mul_right (2 ^ 1042) (omega arith));
        high_level = λ e some v load pairs w.
            let same : load + pairs ≡ load =
            eq_of_mul-eq-mul_right (2 ^ 1042) (pow_pos 1042) (load + pairs) load
            (sym (high_value v load pairs w) ∙ e ∙ low_value v load pairs w) in
            let idle = w.no_pairs (omega arith) in
            some (low_value v load pairs w ∙ ap (λ x. x * 2 ^ 1042) idle);
      }
    where
      below_none : (a b : ℕ) → b < a → a ≤ b → ⊥
      below_none a b h l = omega arith
