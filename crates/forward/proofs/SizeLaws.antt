-- How many columns of a row fit, and how much of the work area the pass takes. Assumes nothing.
use Prim.Native.Nat.{ℕ, ◌+◌, ◌-◌, ◌*◌, ◌/◌, ◌<◌, ◌≤◌, min}
use native.Mathlib.Omega.{arith}
use native.Mathlib.Decide.{dec_le}
use native.Mathlib.Nat.{mul-le-mul_left, mul-le-mul_right, mul_assoc, mul_comm, add-mul, div-add-mod'}
use mathlib.Core.Path.{◌≡◌, sym, ap, subst, ◌∙◌}
use mathlib.Core.Logic.{by_cases, inl, inr, ◌⊎◌}
use borrow.Author.Tests.{le-leb, lt-leb}
use Rattle.temporal.specs.Plan.{Terms, units, Keeps, Allowed}
use Rattle.temporal.specs.Outcome.{work_size}
use Rattle.pass.specs.Row.{part_size}
use Rattle.pass.specs.PassedColumns.{waiting, area_size}
use Rattle.stale.specs.Size.{window_size, window_columns}
use Rattle.stale.proofs.SizeLaws.{parts_within, window_less, window_first_law}
use Rattle.stale.proofs.SizeLaws.{some_column as some-window, columns_fit as window-fits, columns_within as window_within}
use Rattle.forward.specs.Passed.{pass_size, kept_columns, most_columns, Lent}

-- ---- where nothing goes stale

module _ (n e q : ℕ) (enough : 3 * (1 + q) ≤ e) where
  -- at least one column
  some_kept : 0 < n → 0 < kept_columns n e q
  unfolding kept_columns
  some_kept some = let parts = parts_within 3 (1 + q) e (omega arith) enough in omega arith

  -- so many columns, or fewer, fit
  kept_fits : (block : ℕ) → block ≤ kept_columns n e q → area_size n q block ≤ e * n
  unfolding kept_columns
  kept_fits block few =
      let parts = parts_within 3 (1 + q) e (omega arith) enough in
      let whole = div-add-mod' e (1 + q) in
      let most : (1 + q) * (2 + block) ≤ (1 + q) * (e / (1 + q)) = mul-le-mul_left (1 + q) (omega arith) in
      let turned = mul_comm (1 + q) (e / (1 + q)) in
      let within : (1 + q) * (2 + block) ≤ e = omega arith in
      let all : (1 + q) * (2 + block) * n ≤ e * n = mul-le-mul_right n within in
      let size : part_size n block ≡ (2 + block) * n = sized in
      let same : (1 + q) * part_size n block ≡ (1 + q) * (2 + block) * n =
      ap (◌*◌ (1 + q)) size ∙ sym (mul_assoc (1 + q) (2 + block) n) in
      omega arith
    where
      sized : part_size n block ≡ (2 + block) * n
      sized = let a = add-mul 2 block n in let b = mul_comm n block in omega arith

-- fewer columns take no more
area_less : (n q block more : ℕ) → block ≤ more → area_size n q block ≤ area_size n q more
area_less n q block more h =
    let size : part_size n block ≤ part_size n more = omega (arith, mul-le-mul_left n h) in
    mul-le-mul_left (1 + q) size

-- ---- which of the two it is

module _ (t : ℕ) (terms : Terms) where
  pub kept_or_not : Keeps t terms ⊎ (terms.keeping + 1 < t)
  kept_or_not = by_cases (dec_le t (terms.keeping + 1)) inl (λ h. inr (omega arith))

module _ (n t : ℕ) (terms : Terms) (d block : ℕ) where
  pub size_kept : Keeps t terms → pass_size n t terms d block ≡ area_size n (waiting t terms) block
  unfolding pass_size
  size_kept h = rw (le-leb t (terms.keeping + 1) h)

  pub size_window : terms.keeping + 1 < t → pass_size n t terms d block ≡ window_size n d block
  unfolding pass_size
  size_window h = rw (lt-leb t (terms.keeping + 1) h)

module _ (n t : ℕ) (terms : Terms) (d e : ℕ) where
  pub columns_kept : Keeps t terms → most_columns n t terms d e ≡ kept_columns n e (waiting t terms)
  unfolding most_columns
  columns_kept h = rw (le-leb t (terms.keeping + 1) h)

  pub columns_window : terms.keeping + 1 < t → most_columns n t terms d e ≡ window_columns n e d
  unfolding most_columns
  columns_window h = rw (lt-leb t (terms.keeping + 1) h)

  -- as code finds it
  pub most_kept : (q r : ℕ) → Keeps t terms → q ≡ waiting t terms → r ≡ kept_columns n e q → r ≡ most_columns n t terms d e
  most_kept q r h is found = found ∙ ap (kept_columns n e) is ∙ sym (columns_kept h)

  pub most_window : (r : ℕ) → terms.keeping + 1 < t → r ≡ window_columns n e d → r ≡ most_columns n t terms d e
  most_window r h found = found ∙ sym (columns_window h)

-- ---- so many columns fit

module _ (n t : ℕ) (terms : Terms) (d e : ℕ) (lent : Lent t terms d e) where
  -- entries for three columns where nothing goes stale
  pub kept_enough : 3 * (1 + waiting t terms) ≤ e
  kept_enough = let some = lent.some in let enough = lent.enough in omega arith

  -- and for one where something does
  pub window_enough : terms.keeping + 1 < t → 4 * d + 10 ≤ e
  window_enough h = let kept = lent.kept in let enough = lent.enough in omega arith

  pub some_column : 0 < n → 0 < most_columns n t terms d e
  some_column some =
      by_cases (dec_le t (terms.keeping + 1))
      (λ h. rw (columns_kept n t terms d e h) (some_kept n e (waiting t terms) kept_enough some))
      (λ h. rw (columns_window n t terms d e (omega arith)) (some-window n e d (window_enough (omega arith)) some))

  -- so many columns, or fewer, fit
  pub columns_fit : (block : ℕ) → block ≤ most_columns n t terms d e → pass_size n t terms d block ≤ e * n
  columns_fit block few =
      by_cases (dec_le t (terms.keeping + 1))
      (λ h. rw (size_kept n t terms d block h)
      (kept_fits n e (waiting t terms) kept_enough block (rw (columns_kept n t terms d e h) at few)))
      (λ h. rw (size_window n t terms d block (omega arith))
      (window-fits n e d (window_enough (omega arith)) block (rw (columns_window n t terms d e (omega arith)) at few)))

-- no more than there are stations
pub columns_within : (n t : ℕ) (terms : Terms) (d e : ℕ) → most_columns n t terms d e ≤ n
unfolding kept_columns
columns_within n t terms d e =
    by_cases (dec_le t (terms.keeping + 1))
    (λ h. rw (columns_kept n t terms d e h) (omega arith))
    (λ h. rw (columns_window n t terms d e (omega arith)) (window_within n e d))

-- fewer columns take no more
pub size_less : (n t : ℕ) (terms : Terms) (d block more : ℕ) → block ≤ more → pass_size n t terms d block ≤ pass_size n t terms d more
size_less n t terms d block more less =
    by_cases (dec_le t (terms.keeping + 1))
    (λ h. rw (size_kept n t terms d block h, size_kept n t terms d more h) (area_less n (waiting t terms) block more less))
    (λ h. rw (size_window n t terms d block (omega arith), size_window n t terms d more (omega arith)) (window_less n d block more less))

-- what is settled is the first part
pub first_part : (n t : ℕ) (terms : Terms) (d block : ℕ) → part_size n block ≤ pass_size n t terms d block
first_part n t terms d block =
    by_cases (dec_le t (terms.keeping + 1))
    (λ h. rw (size_kept n t terms d block h)
    (omega (arith, mul-le-mul_right {m = 1} {n = 1 + waiting t terms} (part_size n block) (omega arith))))
    (λ h. rw (size_window n t terms d block (omega arith)) (window_first_law n d block))

-- ---- the work area

-- e entries a station are a work area of 4 (T + 1)
whole_area : (n t : ℕ) → 4 * (t + 1) * n ≡ work_size n t
whole_area n t = let turned = mul_assoc 4 (t + 1) n in let same = mul_comm (t + 1) n in omega arith

module _ (n t : ℕ) (terms : Terms) (d : ℕ) (units : Allowed terms) (some : 0 < t) (most : t ≤ 255) (kept : d ≤ terms.keeping) where
  -- all of it is enough
  pub whole_lent : Lent t terms d (4 * (t + 1))
  whole_lent = record { units = units; some = some; most = most; kept = kept; enough = omega arith }

  -- all but two entries a station are enough
  pub most_lent : Lent t terms d (4 * (t + 1) - 2)
  most_lent = record { units = units; some = some; most = most; kept = kept; enough = omega arith }

  -- blocks of so many columns fit the work area
  pub area_fits : (block : ℕ) → block ≤ most_columns n t terms d (4 * (t + 1)) → pass_size n t terms d block ≤ work_size n t
  area_fits block few = subst (λ k. pass_size n t terms d block ≤ k) (whole_area n t) (columns_fit n t terms d (4 * (t + 1)) whole_lent block few)

-- a row of one column fits, and so does none
pub small_fits : (n t : ℕ) (terms : Terms) (block : ℕ) → Allowed terms → 0 < n → 0 < t → t ≤ 255 → block ≤ 1
    → pass_size n t terms terms.keeping block ≤ work_size n t
small_fits n t terms block units some slot most few =
    let column = some_column n t terms terms.keeping (4 * (t + 1)) (whole_lent n t terms terms.keeping units slot most (omega arith)) some in
    area_fits n t terms terms.keeping units slot most (omega arith) block (omega arith)

-- ---- as code finds the size

module _ (n t g h d block : ℕ) where
  pub kept_number : (q : ℕ) → h ≤ 255 → t ≤ h + 1 → pass_size n t (units g h) d block < 18446744073709551616 → q ≡ min g t →
      (q ≤ 256) × (area_size n q block < 18446744073709551616)
  kept_number q few keeps small is =
      (omega arith, rw is (subst (λ k. k < 18446744073709551616) (size_kept n t (units g h) d block keeps) small))

  pub kept_size_is : (q r : ℕ) → t ≤ h + 1 → q ≡ min g t → r ≡ area_size n q block → r ≡ pass_size n t (units g h) d block
  kept_size_is q r keeps is found = found ∙ ap (λ k. area_size n k block) is ∙ sym (size_kept n t (units g h) d block keeps)

  pub window_number : h + 1 < t → pass_size n t (units g h) d block < 18446744073709551616 → window_size n d block < 18446744073709551616
  window_number over small = subst (λ k. k < 18446744073709551616) (size_window n t (units g h) d block over) small

  pub window_size_is : (r : ℕ) → h + 1 < t → r ≡ window_size n d block → r ≡ pass_size n t (units g h) d block
  window_size_is r over found = found ∙ sym (size_window n t (units g h) d block over)
