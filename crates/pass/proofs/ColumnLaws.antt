-- Columns of the rows: col v is the column that stands for station v, the number of columns or more where none does. From which
-- stations the walks of a column may go on. Assumes nothing.
use Rattle.std.proofs.Common.{◌≡◌, ℕ, Bool, true, false, not, eqb, ◌≢◌, refl, eq-eqb, ne_eqb}
use mathlib.Core.Bool.{or-true}
use Rattle.counting.proofs.Through.{avoiding_set}

-- a walk of column j goes on from the source s, and from every station for which j does not stand
unfoldable pub may_leave : ℕ → (ℕ → ℕ) → ℕ → ℕ → Bool
may_leave s col j = avoiding_set s (λ v. eqb (col v) j)

module _ (s : ℕ) (col : ℕ → ℕ) (j : ℕ) where
  -- one may go on from the source in any case
  pub source_free : may_leave s col j s ≡ true
  unfolding may_leave avoiding_set
  source_free = rw (eq-eqb s s refl, or-true (not (eqb (col s) j)))

  -- and from a station for which another column stands, or none
  pub other_free : (v : ℕ) → col v ≢ j → may_leave s col j v ≡ true
  unfolding may_leave avoiding_set
  other_free v d = rw (ne_eqb (col v) j d)

  -- but not from one for which j stands
  pub own_closed : (v : ℕ) → v ≢ s → col v ≡ j → may_leave s col j v ≡ false
  unfolding may_leave avoiding_set
  own_closed v d own = rw (eq-eqb (col v) j own, ne_eqb v s d)
