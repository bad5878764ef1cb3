-- Reading a record back: the parts of the answer, and what is foreign.
-- Assumes nothing.
use Rattle.std.proofs.Common.{◌≡◌, ℕ, ◌+◌, ◌*◌, ◌^◌, ◌<◌, ◌≤◌, Bool, true, false, not, T, Some, None, List, length, get_or, pos, sym, ap, ◌∙◌, subst, ap₂, arith, w16, w64, slice_range}
use lib.Ieee.{Float, fin, binary64, mul, lt, to_unsigned, fits, of_bits, to_bits}
use lib.Ieee.Bits.{of_bits-to_bits, to_bits-of_bits, nan_bits_is}
use Rattle.std.specs.Int.{from_be_bytes}
use Rattle.temporal.specs.Drawing.{share_bits, record_of, drawn_record, CouldWrite, ReadBack, foreign, station, Reads}
use Rattle.drawing.specs.declared.Drawn.{Drawn}
use Rattle.drawing.specs.Bytes.{number_at}
use Rattle.drawing.specs.Doubles.{drawn_bytes}
use Rattle.drawing.specs.Reading.{NumberOf, Parseable, ParsedAs, NumbersRead}
use Rattle.drawing.proofs.ShareLaws.{share_below, share_injective}
use Rattle.drawing.proofs.DoubleLaws.{scale, word_end, scaled_below, scaled_number, number_pattern, scaled_above}
use Rattle.drawing.proofs.ByteLaws.{number_below, entries_some}
use Rattle.drawing.proofs.RecordLaws.{record_read, Holds, could_hold, held_record}

-- ---- the number whose share a double is

module _ (y : Float) (fit : fits binary64 y ≡ true) where
  own : of_bits binary64 (to_bits binary64 y) ≡ y
  own = of_bits-to_bits binary64 y (subst T (sym fit) tt)

  pub double_above : to_bits binary64 y < 2047 * 2 ^ 52 → T (lt (fin true 1 (pos 0)) (mul binary64 y scale))
  double_above h =
      subst (λ (z : Float). T (lt (fin true 1 (pos 0)) (mul binary64 z scale))) own (scaled_above (to_bits binary64 y) h)

  module _ (x : ℕ) (l : x < 2 ^ 53) (e : share_bits x ≡ to_bits binary64 y) where
    guess_below : T (lt (mul binary64 y scale) word_end)
    guess_below = subst (λ (z : Float). T (lt (mul binary64 z scale) word_end)) own (scaled_below (to_bits binary64 y) x l e)

    guess_is : to_unsigned 64 (mul binary64 y scale) ≡ x
    guess_is = ap (λ (z : Float). to_unsigned 64 (mul binary64 z scale)) (sym own) ∙ scaled_number (to_bits binary64 y) x l e

  -- from 2^64 on
  pub none_large : lt (mul binary64 y scale) word_end ≡ false → NumberOf (to_bits binary64 y) None
  unfolding NumberOf
  none_large h x l e = subst T h (guess_below x l e)

  -- the guess is too large, or its share has other bits
  module _ (n : ℕ) (is : n ≡ to_unsigned 64 (mul binary64 y scale)) where
    pub none_guessed : 2 ^ 53 ≤ n → NumberOf (to_bits binary64 y) None
    unfolding NumberOf
    none_guessed h x l e = let g = guess_is x l e in omega arith

    pub none_same : (z : Float) → to_bits binary64 z ≡ share_bits n → (to_bits binary64 z ≡ to_bits binary64 y → ⊥)
        → NumberOf (to_bits binary64 y) None
    unfolding NumberOf
    none_same z s h x l e = h (s ∙ ap share_bits (is ∙ guess_is x l e) ∙ e)

-- ---- bytes as numbers

pub word_is : (l : List ℕ) (at : ℕ) → at + 2 ≤ length l → from_be_bytes w16 (slice_range l at (at + 2)) ≡ number_at l at 2
unfolding number_at
word_is l at h = rw (entries_some l at 2 h) (omega arith)

pub double_is : (l : List ℕ) (at : ℕ) → at + 8 ≤ length l → from_be_bytes w64 (slice_range l at (at + 8)) ≡ number_at l at 8
unfolding number_at
double_is l at h = rw (entries_some l at 8 h) (omega arith)

-- ---- bytes as a record

module _ (bytes : List ℕ) (small : (i : ℕ) → get_or bytes i 0 < 256) (size : length bytes ≡ 18) where
  abbrev low : ℕ
  low = number_at bytes 2 8

  abbrev high : ℕ
  high = number_at bytes 10 8

  held : (v load pairs : ℕ) → CouldWrite v load pairs bytes → Holds v load pairs (number_at bytes 0 2) low high
  held v load pairs w =
      could_hold v load pairs (number_at bytes 0 2) low high (number_below bytes small 0 2) (number_below bytes small 2 8)
      (number_below bytes small 10 8) (subst (λ b. CouldWrite v load pairs b) (sym (record_read bytes small size)) w)

  -- the low or the high double is no finite number without a minus sign
  pub foreign_low : 2047 * 2 ^ 52 ≤ low → Reads bytes foreign
  unfolding Reads
  foreign_low h v load pairs w =
      let a = w.load_low in
      let e = (held v load pairs w).low_is in
      let b = share_below load (omega arith) in
      omega arith

  pub foreign_high : 2047 * 2 ^ 52 ≤ high → Reads bytes foreign
  unfolding Reads
  foreign_high h v load pairs w =
      let a = w.load_low in
      let c = w.pairs_low in
      let e = (held v load pairs w).high_is in
      let b = share_below (load + pairs) (omega arith) in
      omega arith

  kept_bits : (b : ℕ) → b < 2047 * 2 ^ 52 → to_bits binary64 (of_bits binary64 b) ≡ b
  kept_bits b h =
      to_bits-of_bits binary64 b (omega arith) (subst (λ (t : Bool). T (not t)) (nan_bits_is binary64 b) (number_pattern b h))

  pub parsed_record : (d : Drawn) → d.station ≡ number_at bytes 0 2 → d.low ≡ of_bits binary64 low → d.high ≡ of_bits binary64 high
      → low < 2047 * 2 ^ 52 → high < 2047 * 2 ^ 52 → ParsedAs bytes (Some d)
  unfolding ParsedAs drawn_bytes
  parsed_record d s p q h l =
      let a : to_bits binary64 d.low ≡ low = ap (to_bits binary64) p ∙ kept_bits low h in
      let b : to_bits binary64 d.high ≡ high = ap (to_bits binary64) q ∙ kept_bits high l in
      let w = number_below bytes small 0 2 in (
        record { station_low = omega arith; low_finite = omega arith; high_finite = omega arith },
        ap (λ n. record_of n (to_bits binary64 d.low) (to_bits binary64 d.high)) s ∙
            ap₂ (λ m n. record_of (number_at bytes 0 2) m n) a b ∙
            record_read bytes small size,
      )

-- ---- what a record says

module _ (d : Drawn) (p : Parseable d) where
  abbrev low_of : ℕ
  low_of = to_bits binary64 d.low

  abbrev high_of : ℕ
  high_of = to_bits binary64 d.high

  holds : (v load pairs : ℕ) → CouldWrite v load pairs (drawn_bytes d) → Holds v load pairs d.station low_of high_of
  unfolding drawn_bytes
  holds v load pairs w =
      let a = p.low_finite in
      let b = p.high_finite in
      could_hold v load pairs d.station low_of high_of p.station_low (omega arith) (omega arith) w

  pub no_low : NumberOf low_of None → Reads (drawn_bytes d) foreign
  unfolding Reads NumberOf
  no_low n v load pairs w = let a = w.load_low in n load (omega arith) (holds v load pairs w).low_is

  pub no_high : NumberOf high_of None → Reads (drawn_bytes d) foreign
  unfolding Reads NumberOf
  no_high n v load pairs w =
      let a = w.load_low in let b = w.pairs_low in n (load + pairs) (omega arith) (holds v load pairs w).high_is

  pub numbers_read : (load sum : ℕ) (r : ReadBack) → NumberOf low_of (Some load) → NumberOf high_of (Some sum)
      → NumbersRead d.station load sum r → Reads (drawn_bytes d) r
  unfolding Reads NumberOf NumbersRead drawn_bytes
  numbers_read load sum foreign m n k =
      λ v load' pairs w.
      let a = w.load_low in
      let b = w.pairs_low in
      let c = w.station_low in
      let z = w.no_pairs in
      let h = holds v load' pairs w in
      let same = h.station_is in
      let l : load' ≡ load = share_injective load' load (omega arith) m.0 (h.low_is ∙ sym m.1) in
      let t : load' + pairs ≡ sum = share_injective (load' + pairs) sum (omega arith) n.0 (h.high_is ∙ sym n.1) in
      k pairs
      (record { station_low = omega arith; load_low = omega arith; pairs_low = b; no_pairs = λ e. sym l ∙ z e; adds = omega arith })
  numbers_read load sum (station v load' pairs) m n k =
      let q = k.2 in
      let same = k.0 in
      let alike = k.1 in
      let z = q.no_pairs in
      let a = q.station_low in
      let b = q.load_low in
      record {
        station_low = omega arith;
        load_low = omega arith;
        pairs_low = q.pairs_low;
        no_pairs = λ e. alike ∙ z e;
        written =
            ap₂ (λ s l. drawn_record s l pairs) same alike ∙
            held_record d.station load pairs low_of high_of z m.1 (ap share_bits q.adds ∙ n.1);
      }
