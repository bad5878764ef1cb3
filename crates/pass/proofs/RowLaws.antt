-- Rows written entry by entry: the loops that write them, and what stands in every entry afterwards. Assumes nothing.
use Rattle.std.proofs.Common.{◌≡◌, ℕ, zero, suc, ◌+◌, ◌-◌, ◌<◌, ◌≤◌, ◌⊎◌, List, length, get_or, set, sym, refl, ap, ◌∙◌, inl, inr, ⊎_elim, arith, length-set, get_or-set_other, get_or-set_same, le-ltb, lt-ltb, eq-eqb, ne_eqb}
use mathlib.Core.Path.{fun_ext}
use lib.Seq.{set-get_or}
use Rattle.pass.specs.Row.{combined, second, wrapped, merged_row}

-- ---- the loops

-- the first j of size entries are written
pub record Combining (f : ℕ → ℕ → ℕ) (to from size : ℕ) (old : List ℕ) (j : ℕ) (now : List ℕ) : Type 0 where
  pub within : j ≤ size
  pub same : length now ≡ length old
  pub rest : combined f now (to + j) (from + j) (size - j) ≡ combined f old to from size

module _ (f : ℕ → ℕ → ℕ) (to from size : ℕ) (old : List ℕ) where
  -- one entry more
  pub combining_more : (j : ℕ) (now : List ℕ) → j < size → Combining f to from size old j now
      → Combining f to from size old (j + 1) (set now (to + j) (f (get_or now (to + j) 0) (get_or now (from + j) 0)))
  unfolding combined
  combining_more j now h x =
      let a : to + (j + 1) ≡ to + j + 1 = omega arith in
      let b : from + (j + 1) ≡ from + j + 1 = omega arith in
      let c : size - j ≡ suc (size - (j + 1)) = omega arith in
      record {
        within = omega arith;
        same = length-set now (to + j) _ ∙ x.same;
        rest = rw (a, b) (sym (ap (combined f now (to + j) (from + j)) c) ∙ x.rest);
      }

  -- at last all are
  pub combining_all : (j : ℕ) (now : List ℕ) → size ≤ j → Combining f to from size old j now
      → now ≡ combined f old to from size
  unfolding combined
  combining_all j now h x =
      let c : size - j ≡ 0 = omega arith in
      sym (ap (combined f now (to + j) (from + j)) c) ∙ x.rest

-- ---- a merge by hops

module _ (h l : ℕ) (w : List ℕ) (to from : ℕ) where
  -- fewer hops copy the row
  pub merged_fewer : (k : ℕ) → l < h → combined second w to from k ≡ combined (merged_row h l) w to from k
  unfolding merged_row second
  merged_fewer k less = ap (λ f. combined f w to from k) (fun_ext (λ a. fun_ext (λ b. rw (lt-ltb l h less))))

  -- as many hops add it
  pub merged_equal : (k : ℕ) → l ≡ h → combined wrapped w to from k ≡ combined (merged_row h l) w to from k
  unfolding merged_row wrapped
  merged_equal k same =
      ap (λ f. combined f w to from k)
      (fun_ext (λ a. fun_ext (λ b. rw (le-ltb l h (omega arith), eq-eqb l h same))))

-- more hops leave the row
pub merged_more : (h l : ℕ) (w : List ℕ) (to from k : ℕ) → h < l → combined (merged_row h l) w to from k ≡ w
unfolding combined merged_row
merged_more h l w to from zero more = refl
merged_more h l w to from (suc k) more =
    rw (le-ltb l h (omega arith), ne_eqb l h (omega arith), set-get_or w to 0)
    (merged_more h l w (to + 1) (from + 1) k more)

-- ---- every entry afterwards

-- the length stays
pub combined_length : (f : ℕ → ℕ → ℕ) (w : List ℕ) (to from k : ℕ) → length (combined f w to from k) ≡ length w
unfolding combined
combined_length f w to from zero = refl
combined_length f w to from (suc k) = combined_length f _ (to + 1) (from + 1) k ∙ length-set w to _

-- an entry outside of the row stays
pub combined_other : (f : ℕ → ℕ → ℕ) (w : List ℕ) (to from k i : ℕ) → (i < to) ⊎ (to + k ≤ i)
    → get_or (combined f w to from k) i 0 ≡ get_or w i 0
unfolding combined
combined_other f w to from zero i out = refl
combined_other f w to from (suc k) i out =
    combined_other f (set w to (f (get_or w to 0) (get_or w from 0))) (to + 1) (from + 1) k i
    (⊎_elim (λ (h : i < to). inl (omega arith)) (λ (h : to + suc k ≤ i). inr (omega arith)) out)
    ∙ get_or-set_other w to i (f (get_or w to 0) (get_or w from 0)) 0
    (⊎_elim (λ (h : i < to). omega arith) (λ (h : to + suc k ≤ i). omega arith) out)

-- an entry of the row has f of itself and of its fellow, where the rows do not overlap
pub combined_at : (f : ℕ → ℕ → ℕ) (w : List ℕ) (to from k j : ℕ) → j < k → to + k ≤ length w
    → (to ≤ from) ⊎ (from + k ≤ to)
    → get_or (combined f w to from k) (to + j) 0 ≡ f (get_or w (to + j) 0) (get_or w (from + j) 0)
unfolding combined
combined_at f w to from zero j h fits apart = absurd (omega arith)
combined_at f w to from (suc k) zero h fits apart =
    let a : to + 0 ≡ to = omega arith in
    let b : from + 0 ≡ from = omega arith in
    rw (a, b)
    (combined_other f (set w to (f (get_or w to 0) (get_or w from 0))) (to + 1) (from + 1) k to (inl (omega arith))
    ∙ get_or-set_same w to (f (get_or w to 0) (get_or w from 0)) 0 (omega arith))
combined_at f w to from (suc k) (suc j) h fits apart =
    let a : to + suc j ≡ to + 1 + j = omega arith in
    let b : from + suc j ≡ from + 1 + j = omega arith in
    let x = f (get_or w to 0) (get_or w from 0) in
    rw (a, b)
    (combined_at f (set w to x) (to + 1) (from + 1) k j (omega arith)
    (let same = length-set w to x in omega arith)
    (⊎_elim (λ (h : to ≤ from). inl (omega arith)) (λ (h : from + suc k ≤ to). inr (omega arith)) apart)
    ∙ rw (get_or-set_other w to (to + 1 + j) x 0 (omega arith))
    (rw (get_or-set_other w to (from + 1 + j) x 0
    (⊎_elim (λ (o : to ≤ from). omega arith) (λ (o : from + suc k ≤ to). omega arith) apart))))
