-- Rows of keys: what stands in the cell of a row and a column after a row is written. Assumes nothing.
use Rattle.std.proofs.Common.{◌≡◌, ℕ, zero, suc, ◌+◌, ◌*◌, ◌<◌, ◌≤◌, ◌≢◌, ◌⊎◌, List, length, get_or, refl, ◌∙◌, inl, inr, arith}
use native.Mathlib.Decide.{dec_le}
use mathlib.Core.Logic.{by_cases}
use Rattle.memory.specs.Fill.{filled}
use Rattle.memory.proofs.FillLaws.{filled_length, filled_other, filled_at}
use Rattle.pass.specs.Row.{combined}
use Rattle.pass.proofs.RowLaws.{combined_length, combined_other, combined_at}
use Rattle.pass.proofs.PlaceLaws.{row_before}
use Rattle.widths.specs.Key.{merged_key, widened, settled_keys, settled_keys_by, KeysFit}
use Rattle.widths.proofs.KeyLaws.{widened_more}

-- the cell of row r and column c
abbrev pub cell : ℕ → List ℕ → ℕ → ℕ → ℕ
cell many w r c = get_or w (r * many + c) 0

module _ (many : ℕ) where
  -- a cell lies outside of any other row
  pub outside : (r f c : ℕ) → r ≢ f → c < many → (r * many + c < f * many) ⊎ (f * many + many ≤ r * many + c)
  outside r f c d h =
      by_cases (dec_le (suc r) f)
      (λ g. inl (let a = row_before many r f g in omega arith))
      (λ g. inr (let a = row_before many f r (omega arith) in omega arith))

  -- a row below another ends within a list that the other fits
  pub row_fits : (r rows : ℕ) (w : List ℕ) → r < rows → rows * many ≤ length w → r * many + many ≤ length w
  row_fits r rows w h fits = let a = row_before many r rows h in omega arith

  module _ (f : ℕ → ℕ → ℕ) (w : List ℕ) (r g : ℕ) where
    pub combined_cell : (c : ℕ) → c < many → r * many + many ≤ length w → r ≢ g
        → cell many (combined f w (r * many) (g * many) many) r c ≡ f (cell many w r c) (cell many w g c)
    combined_cell c h fits d =
        combined_at f w (r * many) (g * many) many c h fits
        (by_cases (dec_le (suc r) g)
        (λ m. inl (let a = row_before many r g m in omega arith))
        (λ m. inr (let a = row_before many g r (omega arith) in omega arith)))

    pub combined_apart : (x c : ℕ) → c < many → x ≢ r → cell many (combined f w (r * many) (g * many) many) x c ≡ cell many w x c
    combined_apart x c h d = combined_other f w (r * many) (g * many) many (x * many + c) (outside x r c d h)

  module _ (w : List ℕ) (r y : ℕ) where
    pub filled_cell : (c : ℕ) → c < many → r * many + many ≤ length w → cell many (filled w (r * many) many y) r c ≡ y
    filled_cell c h fits = filled_at w (r * many) many y c h fits

    pub filled_apart : (x c : ℕ) → c < many → x ≢ r → cell many (filled w (r * many) many y) x c ≡ cell many w x c
    filled_apart x c h d = filled_other w (r * many) many y (x * many + c) (outside x r c d h)

-- ---- a station is settled

module _ (n many base bounds : ℕ) (w : List ℕ) (fit : KeysFit n many base bounds w) (v : ℕ) (inside : v < n) where
  first : List ℕ
  first = combined merged_key w (v * many) ((base + v) * many) many

  second : List ℕ
  second = combined widened first (bounds * many) (v * many) many

  first_length : length first ≡ length w
  unfolding first
  first_length = combined_length merged_key w (v * many) ((base + v) * many) many

  second_length : length second ≡ length w
  unfolding second
  second_length = combined_length widened first (bounds * many) (v * many) many ∙ first_length

  pub settled_length : length (settled_keys many base bounds w v) ≡ length w
  unfolding settled_keys first second
  settled_length = filled_length second ((base + v) * many) many _ ∙ second_length

  -- its own row
  pub settled_own : (c : ℕ) → c < many
      → cell many (settled_keys many base bounds w v) v c ≡ merged_key (cell many w v c) (cell many w (base + v) c)
  unfolding settled_keys first second
  settled_own c h =
      let a = fit.behind in
      let b = fit.before in
      let some = fit.some in
      filled_apart many second (base + v) 4611615649683210240 v c h (omega arith)
      ∙ combined_apart many widened first bounds v v c h (omega arith)
      ∙ combined_cell many merged_key w v (base + v) c h (row_fits many v (bounds + 1) w (omega arith) fit.fits) (omega arith)

  -- the row of what waits
  pub settled_empty : (c : ℕ) → c < many → cell many (settled_keys many base bounds w v) (base + v) c ≡ 4611615649683210240
  unfolding settled_keys first second
  settled_empty c h =
      let b = fit.before in
      let fits = fit.fits in
      filled_cell many second (base + v) 4611615649683210240 c h
      (row_fits many (base + v) (bounds + 1) second (omega arith) (let s = second_length in omega arith))

  -- the bounds
  pub settled_bound : (c : ℕ) → c < many
      → cell many (settled_keys many base bounds w v) bounds c
      ≡ widened (cell many w bounds c) (merged_key (cell many w v c) (cell many w (base + v) c))
  unfolding settled_keys first second
  settled_bound c h =
      let a = fit.behind in
      let b = fit.before in
      let some = fit.some in
      let fits = fit.fits in
      filled_apart many second (base + v) 4611615649683210240 bounds c h (omega arith)
      ∙ combined_cell many widened first bounds v c h
      (row_fits many bounds (bounds + 1) first (omega arith) (let s = first_length in omega arith)) (omega arith)
      ∙ rw (combined_apart many merged_key w v (base + v) bounds c h (omega arith))
      (rw (combined_cell many merged_key w v (base + v) c h (row_fits many v (bounds + 1) w (omega arith) fit.fits) (omega arith)))

  -- any other row
  pub settled_other : (x c : ℕ) → c < many → x ≢ v → x ≢ base + v → x ≢ bounds
      → cell many (settled_keys many base bounds w v) x c ≡ cell many w x c
  unfolding settled_keys first second
  settled_other x c h a b d =
      filled_apart many second (base + v) 4611615649683210240 x c h b
      ∙ combined_apart many widened first bounds v x c h d
      ∙ combined_apart many merged_key w v (base + v) x c h a

  -- past all rows
  pub settled_beyond : (i : ℕ) → (bounds + 1) * many ≤ i → get_or (settled_keys many base bounds w v) i 0 ≡ get_or w i 0
  unfolding settled_keys first second
  settled_beyond i h =
      let b = fit.before in
      filled_other second ((base + v) * many) many _ i (inr (let a = row_before many (base + v) (bounds + 1) (omega arith) in omega arith))
      ∙ combined_other widened first (bounds * many) (v * many) many i
      (inr (let a = row_before many bounds (bounds + 1) (omega arith) in omega arith))
      ∙ combined_other merged_key w (v * many) ((base + v) * many) many i
      (inr (let a = row_before many v (bounds + 1) (let l = fit.behind in omega arith) in omega arith))

  -- a bound does not fall
  pub settled_grows : (c : ℕ) → c < many → cell many w bounds c ≤ cell many (settled_keys many base bounds w v) bounds c
  settled_grows c h =
      omega (arith, settled_bound c h, widened_more (cell many w bounds c) (merged_key (cell many w v c) (cell many w (base + v) c)))

-- rows that fit a list fit one as long
pub keys_kept : {n many base bounds : ℕ} {w w' : List ℕ} → KeysFit n many base bounds w → length w' ≡ length w → KeysFit n many base bounds w'
keys_kept a e = let fits = a.fits in record { some = a.some; behind = a.behind; before = a.before; small = a.small; fits = omega arith }

-- ---- several stations are settled

module _ (f : ℕ → ℕ) (n many base bounds : ℕ) where
  pub by_length : (k i : ℕ) (w : List ℕ) → KeysFit n many base bounds w → ((m : ℕ) → i ≤ m → m < i + k → f m < n)
      → length (settled_keys_by f many base bounds w i k) ≡ length w
  unfolding settled_keys_by
  by_length zero i w fit all = refl
  by_length (suc k) i w fit all =
      let same = settled_length n many base bounds w fit (f i) (all i (omega arith) (omega arith)) in
      by_length k (i + 1) (settled_keys many base bounds w (f i)) (keys_kept fit same) (λ m low high. all m (omega arith) (omega arith)) ∙ same

  pub by_beyond : (k i : ℕ) (w : List ℕ) → KeysFit n many base bounds w → ((m : ℕ) → i ≤ m → m < i + k → f m < n)
      → (x : ℕ) → (bounds + 1) * many ≤ x → get_or (settled_keys_by f many base bounds w i k) x 0 ≡ get_or w x 0
  unfolding settled_keys_by
  by_beyond zero i w fit all x h = refl
  by_beyond (suc k) i w fit all x h =
      let here = all i (omega arith) (omega arith) in
      by_beyond k (i + 1) (settled_keys many base bounds w (f i)) (keys_kept fit (settled_length n many base bounds w fit (f i) here))
      (λ m low high. all m (omega arith) (omega arith)) x h
      ∙ settled_beyond n many base bounds w fit (f i) here x h

  pub by_grows : (k i : ℕ) (w : List ℕ) → KeysFit n many base bounds w → ((m : ℕ) → i ≤ m → m < i + k → f m < n) → (c : ℕ) → c < many
      → cell many w bounds c ≤ cell many (settled_keys_by f many base bounds w i k) bounds c
  unfolding settled_keys_by
  by_grows zero i w fit all c h = omega arith
  by_grows (suc k) i w fit all c h =
      let here = all i (omega arith) (omega arith) in
      omega (
        arith,
        settled_grows n many base bounds w fit (f i) here c h,
        by_grows k (i + 1) (settled_keys many base bounds w (f i)) (keys_kept fit (settled_length n many base bounds w fit (f i) here))
            (λ m low high. all m (omega arith) (omega arith)) c h,
      )
