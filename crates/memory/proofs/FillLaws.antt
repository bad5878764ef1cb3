-- A stretch of entries filled one by one: the loop, and what stands in every entry afterwards. Assumes nothing.
use Prim.Native.Nat.{ℕ, zero, suc, ◌+◌, ◌<◌, ◌≤◌}
use native.Mathlib.Omega.{arith}
use mathlib.Core.Path.{◌≡◌, refl, sym, ap, ◌∙◌}
use mathlib.Core.List.{List, [], ◌∷◌, ◌++◌}
use mathlib.Core.Logic.{◌⊎◌, inl, inr, ⊎_elim}
use lib.ListN.{length, get_or, set, drop, take, replicate, length-set, length-replicate, get_or-replicate}
use lib.Seq.{get_or-set_same, get_or-set_other, drop-set-lt}
use Rattle.std.proofs.Math.ListN.{drop_of_length-le}
use Rattle.std.proofs.lemmas.List.{append-nil, length-take-le}
use Rattle.std.proofs.Common.{append_assoc}
use Rattle.std.proofs.lemmas.List.Edits.{sets, sets-eq}
use Rattle.std.proofs.Math.Numerals.{add-one}
use Rattle.temporal.specs.Outcome.{over}
use Rattle.lists.proofs.BufferLaws.{over_by}
use Rattle.memory.specs.Fill.{filled}

-- one entry more of a list whose first entries are one value
fill_step : {A : Type 0} (i : ℕ) (x : A) (l : List A) → i < length l → set (replicate i x ++ drop i l) i x ≡ replicate (suc i) x ++ drop (suc i) l
fill_step zero x [] h = absurd (omega arith)
fill_step zero x (y ∷ l) h = refl
fill_step (suc i) x [] h = absurd (omega arith)
fill_step (suc i) x (y ∷ l) h = ap (λ m. x ∷ m) (fill_step i x l (omega arith))

pub fill_next : {A : Type 0} (i : ℕ) (x : A) (l : List A) → i < length l → set (replicate i x ++ drop i l) i x ≡ replicate (i + 1) x ++ drop (i + 1) l
fill_next i x l h = let e = add-one i in rw e (fill_step i x l h)

-- at last all of the first k are
pub fill_all : {A : Type 0} (k i : ℕ) (x : A) (table : List A) → k ≤ length table → i ≡ k
    → (replicate i x ++ drop i (take k table)) ++ drop k table ≡ over (replicate k x) table
unfolding over
fill_all k i x table fits e =
    let none : drop i (take k table) ≡ [] = drop_of_length-le (take k table) (omega (arith, length-take-le k table fits)) in
    rw (none, e, append-nil (replicate k x), length-replicate k x)

filled_sets : (w : List ℕ) (to k x : ℕ) → filled w to k x ≡ sets w to (replicate k x)
unfolding filled
filled_sets w to zero x = refl
filled_sets w to (suc k) x = filled_sets (set w to x) (to + 1) k x ∙ ap (λ i. sets (set w to x) i (replicate k x)) (add-one to)

-- a stretch filled is one written as a list
pub filled_is : (w : List ℕ) (to k x : ℕ) → to + k ≤ length w → filled w to k x ≡ take to w ++ (replicate k x ++ drop (to + k) w)
filled_is w to k x fits =
    let n = length-replicate k x in
    filled_sets w to k x ∙ sets-eq (replicate k x) w to (omega arith) ∙ rw (append_assoc (take to w) (replicate k x) (drop (to + length (replicate k x)) w)) (ap (λ j. take to w ++ (replicate k x ++ drop (to + j) w)) n)

-- the length stays
pub filled_length : (w : List ℕ) (to k x : ℕ) → length (filled w to k x) ≡ length w
unfolding filled
filled_length w to zero x = refl
filled_length w to (suc k) x = filled_length (set w to x) (to + 1) k x ∙ length-set w to x

-- an entry outside of the stretch stays
pub filled_other : (w : List ℕ) (to k x i : ℕ) → (i < to) ⊎ (to + k ≤ i) → get_or (filled w to k x) i 0 ≡ get_or w i 0
unfolding filled
filled_other w to zero x i out = refl
filled_other w to (suc k) x i out =
    filled_other (set w to x) (to + 1) k x i
    (⊎_elim (λ (h : i < to). inl (omega arith)) (λ (h : to + suc k ≤ i). inr (omega arith)) out)
    ∙ get_or-set_other w to i x 0 (⊎_elim (λ (h : i < to). omega arith) (λ (h : to + suc k ≤ i). omega arith) out)

-- an entry of the stretch is the number
pub filled_at : (w : List ℕ) (to k x j : ℕ) → j < k → to + k ≤ length w → get_or (filled w to k x) (to + j) 0 ≡ x
unfolding filled
filled_at w to zero x j h fits = absurd (omega arith)
filled_at w to (suc k) x zero h fits =
    let a : to + 0 ≡ to = omega arith in
    rw a (filled_other (set w to x) (to + 1) k x to (inl (omega arith)) ∙ get_or-set_same w to x 0 (omega arith))
filled_at w to (suc k) x (suc j) h fits =
    let a : to + suc j ≡ to + 1 + j = omega arith in
    let same = length-set w to x in
    rw a (filled_at (set w to x) (to + 1) k x j (omega arith) (omega arith))

-- nothing behind the stretch is touched
pub filled_beyond : (w : List ℕ) (to k x m : ℕ) → to + k ≤ m → drop m (filled w to k x) ≡ drop m w
unfolding filled
filled_beyond w to zero x m h = refl
filled_beyond w to (suc k) x m h =
    filled_beyond (set w to x) (to + 1) k x m (omega arith) ∙ drop-set-lt m w to x (omega arith)

-- a stretch at the beginning, as a whole list
pub filled_start : (w : List ℕ) (k x : ℕ) → k ≤ length w → filled w 0 k x ≡ over (replicate k x) w
filled_start w k x fits =
    over_by k (filled w 0 k x) (replicate k x) w (length-replicate k x) (omega (arith, filled_length w 0 k x))
    (λ i h.
    let same : 0 + i ≡ i = omega arith in
    sym (ap (λ j. get_or (filled w 0 k x) j 0) same) ∙ filled_at w 0 k x i h (omega arith) ∙ sym (get_or-replicate k i x 0 h))
    (filled_beyond w 0 k x k (omega arith))
