-- The first number that passes a test, and the next list in lexicographic order by its last number: a greater last
-- number,
-- or the next front with its first last number. It knows nothing of plans.
-- Assumes nothing.
use Prim.Native.Nat.{ℕ, zero, suc, ◌+◌, ◌-◌, ◌≤◌, ◌<◌}
use mathlib.Core.Path.{◌≡◌, refl, ap, ◌∙◌}
use mathlib.Core.Bool.{Bool, true, false, cond}
use mathlib.Core.List.{List, [], ◌∷◌, ◌++◌}
use mathlib.Core.Logic.{◌⊎◌, inl, inr, ⊎_elim, by_cases}
use mathlib.Core.Option.{none, some}
use native.Mathlib.Omega.{arith}
use native.Mathlib.Decide.{ℕ_discrete}
use lib.ListN.{length, length-append}
use Rattle.temporal.specs.Lists.{Before}
use Rattle.lists.proofs.ListLaws.{not_both}
use Rattle.ways.specs.Prefix.{LeastOf, Later, NoneLater}
use Rattle.ways.specs.Found.{first_from}
use Rattle.ways.proofs.OrderLaws.{before_onward, before_last, before_cases, Snoc, snoc}

-- ---- a search

module _ (f : ℕ → Bool) where
  -- j is the first number from i on that passes
  pub record FirstAt (i j : ℕ) : Type 0 where
    pub low : i ≤ j
    pub passes : f j ≡ true
    pub sooner : (k : ℕ) → i ≤ k → f k ≡ true → j ≤ k

  -- what is found is the first that passes, and within
  pub first_some : (i k : ℕ) {j : ℕ} → first_from f i k ≡ some j → (j < i + k) × FirstAt i j
  unfolding first_from
  first_some i zero e = absurd (let z : ◌≡◌ {A = ℕ} 0 1 = cc in omega arith)
  first_some i (suc k) {j} e = go (f i) refl e (λ g. first_some (i + 1) k g)
    where
      go : (b : Bool) → f i ≡ b → cond b (some i) (first_from f (i + 1) k) ≡ some j
          → (first_from f (i + 1) k ≡ some j → (j < i + 1 + k) × FirstAt (i + 1) j)
          → (j < i + suc k) × FirstAt i j
      go true q e ih =
          let here : i ≡ j = cc in
          (omega arith, record { low = omega arith; passes = rw (← here) q; sooner = λ m h g. omega arith })
      go false q e ih =
          let (inside, r) = ih e in
          let low = r.low in (
            omega arith,
            record {
              low = omega arith;
              passes = r.passes;
              sooner = λ m h g. by_cases (ℕ_discrete m i)
                  (λ same. absurd (not_both g (ap f same ∙ q)))
                  (λ other. r.sooner m (omega arith) g);
            },
          )

  -- where nothing is found none passes
  pub first_none : (i k : ℕ) → first_from f i k ≡ none → (j : ℕ) → i ≤ j → j < i + k → f j ≡ true → ⊥
  unfolding first_from
  first_none i zero e j low high g = absurd (omega arith)
  first_none i (suc k) e j low high g =
      go (f i) refl e (λ r more. first_none (i + 1) k r j more (omega arith) g)
    where
      go : (b : Bool) → f i ≡ b → cond b (some i) (first_from f (i + 1) k) ≡ none
          → (first_from f (i + 1) k ≡ none → i + 1 ≤ j → ⊥)
          → ⊥
      go true q e ih = absurd (let z : ◌≡◌ {A = ℕ} 0 1 = cc in omega arith)
      go false q e ih =
          by_cases (ℕ_discrete j i) (λ same. not_both g (ap f same ∙ q)) (λ other. ih e (omega arith))

  -- a search up to m finds i, passes it over, or ends
  pub search_finds : (i m : ℕ) → i < m → f i ≡ true → first_from f i (m - i) ≡ some i
  unfolding first_from
  search_finds i m h e = let more : m - i ≡ suc (m - (i + 1)) = omega arith in rw (more, e)

  pub search_passes : (i m : ℕ) → i < m → f i ≡ false → first_from f i (m - i) ≡ first_from f (i + 1) (m - (i + 1))
  unfolding first_from
  search_passes i m h e = let more : m - i ≡ suc (m - (i + 1)) = omega arith in rw (more, e)

  pub search_ends : (i m : ℕ) → m ≤ i → first_from f i (m - i) ≡ none
  unfolding first_from
  search_ends i m h = let over : m - i ≡ 0 = omega arith in rw over

-- ---- the next list

-- a test whose lists have fronts that pass it
module _ (t : List ℕ → Bool) (front : (w : List ℕ) (i : ℕ) → t (w ++ i ∷ []) ≡ true → t w ≡ true) where
  -- a list behind q, or with the front q, stands behind q with its first last number
  longer : (q q' : List ℕ) (i j : ℕ) → ((k : ℕ) → t (q ++ k ∷ []) ≡ true → i ≤ k) → (q' ≡ q) ⊎ Before q q'
      → t (q' ++ j ∷ []) ≡ true
      → (q' ++ j ∷ [] ≡ q ++ i ∷ []) ⊎ Before (q ++ i ∷ []) (q' ++ j ∷ [])
  longer q q' i j first (inr b) e = inr (before_onward q q' (i ∷ []) (j ∷ []) b)
  longer q q' i j first (inl same) e =
      let least = first j (rw same at e) in
      by_cases (ℕ_discrete i j)
      (λ h. inl (rw (same, h)))
      (λ h. inr (rw same (before_last q i j (omega arith))))

  -- the least front with its first last number is the least
  pub least_longer : (k i : ℕ) (q : List ℕ) → LeastOf t k q → t (q ++ i ∷ []) ≡ true
      → ((j : ℕ) → t (q ++ j ∷ []) ≡ true → i ≤ j)
      → LeastOf t (suc k) (q ++ i ∷ [])
  least_longer k i q l e first =
      record {
        size = omega (arith, length-append q (i ∷ []), l.size);
        passes = e;
        least = λ u size passes.
            let v = snoc k u size in
            let there : t (v.front ++ v.last ∷ []) ≡ true = rw (← v.whole) passes in
            rw v.whole
            (longer q v.front i v.last first
            (l.least v.front v.size (front v.front v.last there)) there);
      }

  module _ (k i : ℕ) (q : List ℕ) (size : length q ≡ k) where
    -- a list behind q and i has a front behind q, or the front q and a greater last number
    behind : (u : List ℕ) (v : Snoc k u) → Before (q ++ i ∷ []) u
        → Before q v.front ⊎ ((q ≡ v.front) × (i < v.last))
    behind u v b =
        let same = v.size in
        before_cases q v.front i v.last (omega arith) (rw v.whole at b)

    -- a greater last number, the first that passes, makes the next list
    pub later_here : (j : ℕ) → i < j → t (q ++ j ∷ []) ≡ true → ((m : ℕ) → i < m → t (q ++ m ∷ []) ≡ true → j ≤ m)
        → Later t (suc k) (q ++ i ∷ []) (q ++ j ∷ [])
    later_here j more e first =
        record {
          size = omega (arith, length-append q (j ∷ []));
          passes = e;
          after = before_last q i j more;
          least = λ u sized passes b.
              let v = snoc k u sized in
              let there : t (v.front ++ v.last ∷ []) ≡ true = rw (← v.whole) passes in
              rw v.whole (go v.front v.last there (behind u v b));
        }
      where
        go : (q' : List ℕ) (m : ℕ) → t (q' ++ m ∷ []) ≡ true → Before q q' ⊎ ((q ≡ q') × (i < m))
            → (q' ++ m ∷ [] ≡ q ++ j ∷ []) ⊎ Before (q ++ j ∷ []) (q' ++ m ∷ [])
        go q' m there (inl b) = inr (before_onward q q' (j ∷ []) (m ∷ []) b)
        go q' m there (inr h) =
            let same = h.0 in
            let greater = h.1 in
            let least = first m greater (rw (← same) at there) in
            by_cases (ℕ_discrete j m)
            (λ g. inl (rw (← same, g)))
            (λ g. inr (rw (← same) (before_last q j m (omega arith))))

    -- where no greater last number passes
    module _ (stuck : (m : ℕ) → i < m → t (q ++ m ∷ []) ≡ true → ⊥) where
      -- a list behind has a front behind
      front_behind : (u : List ℕ) (v : Snoc k u) → t u ≡ true → Before (q ++ i ∷ []) u
          → Before q v.front × (t (v.front ++ v.last ∷ []) ≡ true)
      front_behind u v passes b =
          let there : t (v.front ++ v.last ∷ []) ≡ true = rw (← v.whole) passes in (
            ⊎_elim (λ h. h)
                (λ h. let same = h.0 in absurd (stuck v.last h.1 (rw (← same) at there))) (behind u v b),
            there,
          )

      -- the next front with its first last number is the next list
      pub later_behind : (q' : List ℕ) (j : ℕ) → Later t k q q' → t (q' ++ j ∷ []) ≡ true
          → ((m : ℕ) → t (q' ++ m ∷ []) ≡ true → j ≤ m)
          → Later t (suc k) (q ++ i ∷ []) (q' ++ j ∷ [])
      later_behind q' j l e first =
          record {
            size = omega (arith, length-append q' (j ∷ []), l.size);
            passes = e;
            after = before_onward q q' (i ∷ []) (j ∷ []) l.after;
            least = λ u sized passes b.
                let v = snoc k u sized in
                let (c, there) = front_behind u v passes b in
                rw v.whole
                (longer q' v.front j v.last first
                (l.least v.front v.size (front v.front v.last there) c) there);
          }

      -- where there is no next front there is no next list
      pub none_behind : NoneLater t k q → NoneLater t (suc k) (q ++ i ∷ [])
      none_behind n u sized passes b =
          let v = snoc k u sized in
          let (c, there) = front_behind u v passes b in
          n v.front v.size (front v.front v.last there) c
