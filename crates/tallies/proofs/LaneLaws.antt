-- Columns of the pass's rows, read lane by lane, and an entry whose every lane holds the count. Assumes nothing.
use Prim.Native.Nat.{ℕ, ◌+◌, ◌-◌, ◌*◌, ◌/◌, ◌%◌, ◌^◌, ◌<◌, ◌≤◌, min}
use native.Mathlib.Omega.{arith}
use native.Mathlib.Nat.{mod-lt, mul-le-mul, le_of_lt, mul_assoc, le-div_iff_mul-le, div-le_self, mul-le-mul_right, add-mul}
use mathlib.Core.Path.{◌≡◌, refl, sym, ap, ◌∙◌}
use mathlib.Core.Bool.{Bool, true, false, cond}
use mathlib.Core.List.{List}
use mathlib.Core.Logic.{◌⊎◌, ⊎_elim, ◌≢◌}
use borrow.Author.Tests.{eq-eqb, ne_eqb, eqb-true, eqb-false}
use lib.Arith.{digits_lt}
use lib.Dec.{eqb}
use lib.ListN.{length, get_or}
use lib.Pow.{pow_pos, pow-lt, pow_mono}
use Rattle.lists.proofs.ListLaws.{not_both}
use Rattle.lanes.specs.Lane.{lane, packed, ones, lanes_of, width_of}
use Rattle.lanes.proofs.LaneLaws.{packed_same, packed_below, lane_packed, lanes_fill, ones_1}
use Rattle.pass.specs.Row.{part_size}
use Rattle.pass.specs.Column.{lanes_by, column_at}
use Rattle.pass.proofs.WidthLaws.{column_entry}
use Rattle.tallies.specs.Progress.{Rows, ColumnWithin, Addable, EntryWorkable}
use Rattle.tallies.specs.Sources.{EntriesFor, EntriesNext}

-- several lanes, where the split is not 0
several : (split : ℕ) → split ≢ 0 → 2 ^ split ≢ 1
several split d one =
    let more : 1 < 2 ^ split = pow-lt {i = 0} {j = split} (omega arith) in
    omega arith

module _ (split row j : ℕ) (w : List ℕ) where
  -- one column to an entry
  pub column_whole : split ≡ 0 → get_or w (row + j) 0 ≡ column_at (lanes_by split) w row j
  column_whole e = let one : 2 ^ split ≡ 1 = ap (λ k. 2 ^ k) e in rw (eq-eqb (2 ^ split) 1 one)

  -- several
  pub column_lane : split ≢ 0 → (at e b l x : ℕ) → e ≡ j / 2 ^ split → b ≡ 64 / 2 ^ split → l ≡ j % 2 ^ split → at ≡ row + e
      → x ≡ lane b (get_or w at 0) l → x ≡ column_at (lanes_by split) w row j
  column_lane d at e b l x ee eb el ea ex = rw (ne_eqb (2 ^ split) 1 (several split d)) (rw (ex, ea, ee, eb, el))

-- a column of the block lies before the tallies
pub column_within : {n base low block split z j : ℕ} {w : List ℕ} → Addable n base low block split z j w → block < 2 ^ 60
    → ColumnWithin (2 * n + z * block) j split (length w)
column_within {n} {base} {low} {block} {split} {z} {j} {w} a small =
    let room = a.room in
    let lanes : 2 ^ split ≤ 8 = pow_mono {i = split} {j = 3} a.few in
    let most = mul-le-mul (le_of_lt small) lanes in
    record {
      few = a.few;
      small = go (eqb (2 ^ split) 1) a.in_block (λ i. omega arith) (λ i. omega (arith, most));
      whole = λ e.
          let one : 2 ^ split ≡ 1 = ap (λ k. 2 ^ k) e in
          let inside : j < block = rw (eq-eqb (2 ^ split) 1 one) at a.in_block in
          omega (arith, room.area, room.fits, digits_lt a.destination inside, mul_assoc 2 n block);
      lanes = λ d.
          let inside : j < block * 2 ^ split = rw (ne_eqb (2 ^ split) 1 (several split d)) at a.in_block in
          omega (arith, room.area, room.fits, digits_lt a.destination (column_entry split j block inside), mul_assoc 2 n block);
    }
  where
    go : (b : Bool) → j < cond b block (block * 2 ^ split) → (j < block → j < 2 ^ 63) → (j < block * 2 ^ split → j < 2 ^ 63) → j < 2 ^ 63
    go true h f g = f h
    go false h f g = g h

-- the rows before a destination's, and its own, lie in the pass's part
pub rows_before : {n base low block split z j : ℕ} {w : List ℕ} → Addable n base low block split z j w
    → (2 * n + z * block + block ≤ part_size n block) × (z * block ≤ n * block)
rows_before {n} {base} {low} {block} {split} {z} {j} a =
    let more = mul-le-mul_right {m = z + 1} {n = n} block (let d = a.destination in omega arith) in
    let one = add-mul z 1 block in
    let less = mul-le-mul_right {m = z} {n = n} block (let d = a.destination in omega arith) in
    (omega arith, less)

-- an entry's number is small
pub entry_small : {n base s low : ℕ} {rows : Rows} {z e all : ℕ} {w : List ℕ} → EntryWorkable n base s low rows z e all w → length w < 2 ^ 60
    → e + 1 < 2 ^ 60
entry_small {n} {rows = rows} {z = z} {e = e} a small =
    let room = a.working.room in
    let inside = digits_lt a.destination a.entry in
    omega (arith, room.area, room.fits, inside, mul_assoc 2 n rows.entries)

pub fewer_passes : (known : Bool) (n low some split : ℕ) → (known ≡ true → 0 < some) → some ≤ n - low
    → 4 * (n - (low + some)) + split + cond true 0 1 < 4 * (n - low) + split + cond known 0 1
fewer_passes true n low some split h g = let some_left = h refl in omega arith
fewer_passes false n low some split h g = omega arith

pub narrower_split : (known : Bool) (n low split : ℕ) → split ≢ 0
    → 4 * (n - low) + (split - 1) + cond known 0 1 < 4 * (n - low) + split + cond known 0 1
narrower_split true n low split d = omega arith
narrower_split false n low split d = omega arith

-- ---- how many entries are taken

pub entries_asked : (split : ℕ) → split ≤ 3 → (0 < 2 ^ split) × (2 ^ split ≤ 8)
entries_asked split few = (pow_pos split, pow_mono {i = split} {j = 3} few)

pub entries_for : (left block split lanes all : ℕ) → split ≤ 3 → lanes ≡ 1 * 2 ^ split → all ≡ (left + lanes - 1) / 2 ^ split → (r : ℕ) → r ≡ min block all
    → EntriesFor left block split r
entries_for left block split lanes all few el ea r er =
    let (some_lane, eight) = entries_asked split few in
    record {
      most = omega arith;
      some = λ h g.
          let one : 1 ≤ all = rw ea ((le-div_iff_mul-le (pow_pos split)).1 (omega (arith, el))) in
          omega arith;
      small = let less = div-le_self (left + lanes - 1) (2 ^ split) in omega (arith, ea, el, less, eight);
    }

-- ---- an entry whose every lane holds the count

-- one lane holds the count itself
pub full_whole : (split c : ℕ) → split ≡ 0 → c ≡ c * ones (width_of split) (lanes_of split)
unfolding lanes_of width_of
full_whole split c e = let one : ones (64 / 2 ^ split) (2 ^ split) ≡ 1 = ap (λ k. ones (64 / 2 ^ k) (2 ^ k)) e ∙ ones_1 in rw one (omega arith)

module _ (split c : ℕ) (few : split ≤ 3) (fits : (2 ^ split ≡ 1) ⊎ (c < 2 ^ (64 / 2 ^ split))) where
  fill : 64 / 2 ^ split * 2 ^ split ≡ 64
  unfolding lanes_of width_of
  fill = lanes_fill split few

  -- it fits 64 bits, where there are several lanes
  pub full_fits : split ≢ 0 → c * ones (width_of split) (lanes_of split) < 2 ^ 64
  unfolding lanes_of width_of
  full_fits d =
      ⊎_elim
      (λ (one : 2 ^ split ≡ 1). absurd (several split d one))
      (λ (h : c < 2 ^ (64 / 2 ^ split)).
      let below = packed_below (64 / 2 ^ split) (2 ^ split) {f = λ l. c} (λ l i. h) in
      rw (sym (packed_same (64 / 2 ^ split) (2 ^ split) c)) (rw fill at below))
      fits

  -- each of its columns is the count
  pub full_column : (row j : ℕ) (w : List ℕ) → get_or w (row + j / 2 ^ split) 0 ≡ c * ones (width_of split) (lanes_of split)
      → column_at (lanes_by split) w row j ≡ c
  unfolding lanes_of width_of ones packed
  full_column row j w is = go (eqb (2 ^ split) 1) refl
    where
      alone : 2 ^ split ≡ 1 → get_or w (row + j) 0 ≡ c
      alone one = let same : j / 1 ≡ j = omega arith in let here = rw (one, same) at is in here ∙ omega arith

      go : (b : Bool) → eqb (2 ^ split) 1 ≡ b
          → cond b (get_or w (row + j) 0) (lane (64 / 2 ^ split) (get_or w (row + j / 2 ^ split) 0) (j % 2 ^ split)) ≡ c
      go true e = alone (eqb-true (2 ^ split) 1 e)
      go false e =
          ⊎_elim
          (λ (one : 2 ^ split ≡ 1). absurd (eqb-false (2 ^ split) 1 e one))
          (λ (h : c < 2 ^ (64 / 2 ^ split)).
          ap (λ x. lane (64 / 2 ^ split) x (j % 2 ^ split)) (is ∙ sym (packed_same (64 / 2 ^ split) (2 ^ split) c))
          ∙ lane_packed (64 / 2 ^ split) (2 ^ split) {f = λ l. c} (λ l i. h) (j % 2 ^ split) (mod-lt j (pow_pos split)))
          fits

-- none before cause 9 is known not to hold
pub entries_none : (known : Bool) (left block split : ℕ) → known ≡ false → EntriesNext known left block split 0
entries_none known left block split is =
    record { most = omega arith; some = λ e. absurd (not_both e is); small = omega arith }

pub entries_known : (known : Bool) (left block split r : ℕ) → EntriesFor left block split r → EntriesNext known left block split r
entries_known known left block split r f = record { most = f.most; some = λ e. f.some; small = f.small }
