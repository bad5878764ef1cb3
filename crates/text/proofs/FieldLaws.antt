-- How long numbers with what stands behind them are. Assumes nothing.
use Prim.Native.Nat.{ℕ, ◌+◌}
use native.Mathlib.Omega.{arith}
use mathlib.Core.Path.{◌≡◌}
use mathlib.Core.List.{List, ◌++◌}
use lib.ListN.{length, length-append}
use Rattle.text.specs.Decimal.{decimal}
use Rattle.text.specs.Field.{field, fields, labelled}

pub field_length : (x : ℕ) (a : List ℕ) → length (field x a) ≡ length (decimal x) + length a
unfolding field
field_length x a = length-append (decimal x) a

pub fields_length :
    (x : ℕ) (a : List ℕ) (y : ℕ) (b : List ℕ) (z : ℕ) (c : List ℕ) →
    length (fields x a y b z c) ≡
    length (decimal x) + length (decimal y) + length (decimal z) + (length a + length b + length c)
unfolding fields
fields_length x a y b z c =
    omega (
      arith,
      length-append (field x a ++ field y b) (field z c),
      length-append (field x a) (field y b),
      field_length x a,
      field_length y b,
      field_length z c,
    )

pub labelled_length :
    (label : List ℕ) (x : ℕ) (a : List ℕ) (y : ℕ) (b : List ℕ) (z : ℕ) (c : List ℕ) →
    length (labelled label x a y b z c) ≡
    length label + (length (decimal x) + length (decimal y) + length (decimal z) + (length a + length b + length c))
unfolding labelled
labelled_length label x a y b z c =
    omega (arith, length-append label (fields x a y b z c), fields_length x a y b z c)
