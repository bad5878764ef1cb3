-- Lanes by the split of the columns: what the functions that read and clear them leave, and when a count does not fit. Assumes nothing.
use Rattle.std.proofs.Common.{◌≡◌, ℕ, ◌+◌, ◌-◌, ◌*◌, ◌/◌, ◌%◌, ◌^◌, ◌<◌, ◌≤◌, Bool, true, false, eqb, ltb, leb, ◌≢◌, List, sym, refl, ap, ◌∙◌, le_of_lt, mod-lt, div-lt_iff_lt-mul, mul-le-mul, pos_of_ne-zero, arith, pow_pos, pow_mono, ltb-false, ltb-true, eq-eqb, ne_eqb, le-leb}
use borrow.Author.Tests.{lt-leb}
use lib.Pow.{pow-lt}
use Rattle.entries.specs.Entry.{merged_count}
use Rattle.lanes.specs.Lane.{ones, lanes_of, width_of}
use Rattle.lanes.proofs.LaneLaws.{lanes_fill, lane_asked}
use Rattle.pass.specs.declared.Columns.{Columns}
use Rattle.pass.specs.Row.{row_at}
use Rattle.pass.specs.Column.{column_of, lanes_by}
use Rattle.pass.specs.Sweep.{cleared_column, masked, too_wide, begun_area}
use Rattle.pass.proofs.PlaceLaws.{masked_none, masked_own}
use Rattle.pass.proofs.MaskLaws.{Filled}

-- the lanes of up to three splits fill an entry
pub filled_by : (split : ℕ) → split ≤ 3 → Filled (lanes_by split)
unfolding lanes_of width_of
filled_by split few = record { fill = lanes_fill split few; some = pow_pos split }

-- with 1 in each of them
pub ones_by : (split one : ℕ) → one ≡ ones (width_of split) (lanes_of split) → one ≡ ones (lanes_by split).width (lanes_by split).lanes
unfolding lanes_of width_of
ones_by split one e = e

pub begun_split : (n block q s split x one : ℕ) (w out : List ℕ) → x ≡ split → one ≡ ones (width_of x) (lanes_of x)
    → out ≡ begun_area n block q w s one → out ≡ begun_area n block q w s (ones (lanes_by split).width (lanes_by split).lanes)
begun_split n block q s split x one w out e f g = g ∙ ap (begun_area n block q w s) (ones_by split one (f ∙ ap (λ y. ones (width_of y) (lanes_of y)) e))

-- and a count that is too wide for one split is for an equal one
pub wide_split : (x split h c l d : ℕ) → x ≡ split → too_wide (lanes_by x) h c l d ≡ too_wide (lanes_by split) h c l d
wide_split x split h c l d e = ap (λ y. too_wide (lanes_by y) h c l d) e

-- ---- a column cleared

-- a column's lane lies in its entry
pub column_asked : (split j b l : ℕ) → split ≤ 3 → b ≡ 64 / 2 ^ split → l ≡ j % 2 ^ split → (0 < b) × (b * l + b ≤ 64)
unfolding lanes_of width_of
column_asked split j b l few eb el =
    rw (eb, el) (lane_asked (64 / 2 ^ split) (2 ^ split) (j % 2 ^ split) (lanes_fill split few) (mod-lt j (pow_pos split)))

-- an entry of a row lies within it
pub column_entry : (split j block : ℕ) → j < block * 2 ^ split → j / 2 ^ split < block
column_entry split j block h = (div-lt_iff_lt-mul (pow_pos split)).1 h

-- a column of v's row can be cleared
pub clear_asked : (n block v x count j row size : ℕ) → count ≡ block * 2 ^ x → x ≤ 3 → j < count → row ≡ row_at n block v
    → row_at n block v + block ≤ size → block < 2 ^ 60 → (x ≤ 3) × (j < 2 ^ 63) × (row + j / 2 ^ x < size)
clear_asked n block v x count j row size all few inside there fits small =
    let entry = column_entry x j block (rw all at inside) in
    let lanes : 2 ^ x ≤ 8 = pow_mono {i = x} {j = 3} few in
    let most = mul-le-mul (le_of_lt small) lanes in
    (few, omega (arith, all, most), omega arith)

-- the column that stands for v, of so many as the split gives
module _ (n block s v split x count j row : ℕ) (kind : Columns) (set : List ℕ) (w : List ℕ) (is : x ≡ split) (all : count ≡ block * 2 ^ x)
    (at : j ≡ column_of kind set count v) where
  own : column_of kind set (block * 2 ^ split) v ≡ j
  own = ap (λ k. column_of kind set k v) (sym (all ∙ ap (λ k. block * 2 ^ k) is)) ∙ sym at

  -- it is
  pub masked_by : v ≢ s → j < count → row ≡ row_at n block v
      → cleared_column (lanes_by x) w row j ≡ masked (lanes_by split) n block s (column_of kind set (block * 2 ^ split)) w v
  masked_by d inside there =
      ap (λ k. cleared_column (lanes_by k) w row j) is
      ∙ masked_own (lanes_by split) n block s (column_of kind set (block * 2 ^ split)) w v row j there (sym own) d
      (omega (arith, all, ap (λ k. block * 2 ^ k) is))

  -- there is none
  pub masked_past : v ≢ s → count ≤ j → masked (lanes_by split) n block s (column_of kind set (block * 2 ^ split)) w v ≡ w
  masked_past d past =
      masked_none (lanes_by split) n block s (column_of kind set (block * 2 ^ split)) w v d
      (omega (arith, all, own, ap (λ k. block * 2 ^ k) is))

-- ---- a count that does not fit

module _ (split h c l d : ℕ) where
  -- one lane holds any
  pub wide_whole : split ≡ 0 → false ≡ too_wide (lanes_by split) h c l d
  unfolding too_wide
  wide_whole e = let one : 2 ^ split ≡ 1 = ap (λ k. 2 ^ k) e in rw (eq-eqb (2 ^ split) 1 one)

  module _ (m : ℕ) (several : split ≢ 0) (is : m ≡ merged_count h c l d) where
    many : eqb (2 ^ split) 1 ≡ false
    many =
        let more : 1 < 2 ^ split = pow-lt {i = 0} {j = split} (pos_of_ne-zero several) in
        ne_eqb (2 ^ split) 1 (omega arith)

    -- over 2^64 - 1
    pub wide_over : m ≡ 0 → eqb m 0 ≡ too_wide (lanes_by split) h c l d
    unfolding too_wide
    wide_over e = rw (many, ← is, eq-eqb m 0 e)

    -- by the largest that fits
    pub wide_by : (most : ℕ) → m ≢ 0 → most ≡ 2 ^ (64 / 2 ^ split) - 1 → (r : Bool) → r ≡ ltb most m → r ≡ too_wide (lanes_by split) h c l d
    unfolding too_wide
    wide_by most some e r f = rw (many, ← is, ne_eqb m 0 some) (f ∙ go (ltb most m) refl)
      where
        positive : 0 < 2 ^ (64 / 2 ^ split)
        positive = pow_pos (64 / 2 ^ split)

        go : (b : Bool) → ltb most m ≡ b → b ≡ leb (2 ^ (64 / 2 ^ split)) m
        go true o = let more = ltb-true most m o in sym (le-leb (2 ^ (64 / 2 ^ split)) m (omega (arith, e, positive)))
        go false o = let less = ltb-false most m o in sym (lt-leb (2 ^ (64 / 2 ^ split)) m (omega (arith, e, positive)))
