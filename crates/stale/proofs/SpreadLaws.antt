-- The sum of a function of numbers over a stretch of numbers, and over cells that name numbers: cells that name different numbers, and
-- every number of the stretch at which the function is not 0, give the same sum. Assumes nothing.
use Rattle.std.proofs.Common.{◌≡◌, ℕ, zero, suc, ◌+◌, ◌-◌, ◌*◌, ◌<◌, ◌≤◌, cond, eqb, ltb, ◌≢◌, ◌⊎◌, sym, refl, ap, ◌∙◌, ap₂, ⊎_elim, mul-suc, arith, le-ltb, lt-ltb, eq-eqb, ne_eqb}
use native.Mathlib.Decide.{dec_le, ℕ_discrete}
use mathlib.Core.Logic.{by_cases}
use Rattle.stale.specs.Depth.{spread}

-- f of a number that lies from first to before end; else 0
unfoldable pub picked : ℕ → ℕ → (ℕ → ℕ) → ℕ → ℕ
picked first end f x = cond (ltb x first) 0 (cond (ltb x end) (f x) 0)

-- f of one number
unfoldable at_number : ℕ → (ℕ → ℕ) → ℕ → ℕ
at_number x f y = cond (eqb y x) (f y) 0

-- ---- sums

pub spread_ext : (f g : ℕ → ℕ) (k i : ℕ) → ((c : ℕ) → f c ≡ g c) → spread f i k ≡ spread g i k
unfolding spread
spread_ext f g zero i e = refl
spread_ext f g (suc k) i e = ap₂ ◌+◌ (e i) (spread_ext f g k (i + 1) e)

spread_add : (f g : ℕ → ℕ) (k i : ℕ) → spread (λ c. f c + g c) i k ≡ spread f i k + spread g i k
unfolding spread
spread_add f g zero i = refl
spread_add f g (suc k) i = omega (arith, spread_add f g k (i + 1))

pub spread_zero : (f : ℕ → ℕ) (k i : ℕ) → ((c : ℕ) → i ≤ c → c < i + k → f c ≡ 0) → spread f i k ≡ 0
unfolding spread
spread_zero f zero i e = refl
spread_zero f (suc k) i e =
    omega (arith, e i (omega arith) (omega arith), spread_zero f k (i + 1) (λ c low high. e c (omega arith) (omega arith)))

pub spread_less : {f g : ℕ → ℕ} (k i : ℕ) → ((c : ℕ) → f c ≤ g c) → spread f i k ≤ spread g i k
unfolding spread
spread_less zero i e = omega arith
spread_less (suc k) i e = omega (arith, e i, spread_less k (i + 1) e)

-- a number more, at the end
pub spread_last : (f : ℕ → ℕ) (k i : ℕ) → spread f i (suc k) ≡ spread f i k + f (i + k)
unfolding spread
spread_last f zero i = let same : i + 0 ≡ i = omega arith in rw same (omega arith)
spread_last f (suc k) i =
    let same : i + 1 + k ≡ i + suc k = omega arith in
    omega (arith, spread_last f k (i + 1), ap f same)

-- more numbers do not have less
pub spread_more : (f : ℕ → ℕ) (k m i : ℕ) → k ≤ m → spread f i k ≤ spread f i m
unfolding spread
spread_more f zero m i h = omega arith
spread_more f (suc k) zero i h = absurd (omega arith)
spread_more f (suc k) (suc m) i h = omega (arith, spread_more f k m (i + 1) (omega arith))

-- the next stretch: its last number joins, the first one leaves
pub spread_slide : (f : ℕ → ℕ) (k i : ℕ) → spread f (i + 1) k + f i ≡ spread f i k + f (i + k)
unfolding spread
spread_slide f k i = omega (arith, spread_last f k i)

-- where each has at most n
pub spread_most : (f : ℕ → ℕ) (n k i : ℕ) → ((c : ℕ) → f c ≤ n) → spread f i k ≤ n * k
unfolding spread
spread_most f n zero i e = omega arith
spread_most f n (suc k) i e = omega (arith, e i, spread_most f n k (i + 1) e, mul-suc n k)

-- one more at one of the numbers
unfoldable pub raised : (ℕ → ℕ) → ℕ → ℕ → ℕ
raised f v c = cond (eqb c v) 1 (f c)

pub raised_own : (f : ℕ → ℕ) (v : ℕ) → raised f v v ≡ 1
unfolding raised
raised_own f v = rw (eq-eqb v v refl)

pub raised_other : (f : ℕ → ℕ) (v c : ℕ) → c ≢ v → raised f v c ≡ f c
unfolding raised
raised_other f v c d = rw (ne_eqb c v d)

spread_far : (f : ℕ → ℕ) (v k i : ℕ) → v < i → spread (raised f v) i k ≡ spread f i k
unfolding spread
spread_far f v zero i h = refl
spread_far f v (suc k) i h = ap₂ ◌+◌ (raised_other f v i (omega arith)) (spread_far f v k (i + 1) (omega arith))

pub spread_raised : (f : ℕ → ℕ) (v k i : ℕ) → i ≤ v → v < i + k → f v ≡ 0 → spread (raised f v) i k ≡ spread f i k + 1
unfolding spread
spread_raised f v zero i low high e = absurd (omega arith)
spread_raised f v (suc k) i low high e =
    by_cases (ℕ_discrete v i)
    (λ same. omega (
      arith,
      ap (raised f v) (sym same),
      raised_own f v,
      spread_far f v k (i + 1) (omega arith),
      ap f (sym same),
    ))
    (λ d. omega (
      arith,
      raised_other f v i (λ q. d (sym q)),
      spread_raised f v k (i + 1) (omega arith) (omega arith) e,
    ))

-- ---- one number

module _ (f : ℕ → ℕ) where
  at_own : (x y : ℕ) → y ≡ x → at_number x f y ≡ f x
  unfolding at_number
  at_own x y e = rw (eq-eqb y x e, e)

  at_other : (x y : ℕ) → y ≢ x → at_number x f y ≡ 0
  unfolding at_number
  at_other x y d = rw (ne_eqb y x d)

  pub picked_early : (first end y : ℕ) → y < first → picked first end f y ≡ 0
  unfolding picked
  picked_early first end y h = rw (lt-ltb y first h)

  pub picked_late : (first end y : ℕ) → first ≤ y → end ≤ y → picked first end f y ≡ 0
  unfolding picked
  picked_late first end y from h = rw (le-ltb y first from, le-ltb y end h)

  pub picked_in : (first end y : ℕ) → first ≤ y → y < end → picked first end f y ≡ f y
  unfolding picked
  picked_in first end y from h = rw (le-ltb y first from, lt-ltb y end h)

  picked_none : (first end y : ℕ) → end ≤ first → picked first end f y ≡ 0
  picked_none first end y h =
      by_cases (dec_le first y) (λ from. picked_late first end y from (omega arith)) (λ early. picked_early first end y (omega arith))

  -- the first number of a stretch, and the others
  picked_split : (first end y : ℕ) → first < end → picked first end f y ≡ at_number first f y + picked (first + 1) end f y
  picked_split first end y some =
      by_cases (ℕ_discrete y first)
      (λ same. omega (
        arith,
        picked_in first end y (omega arith) (omega arith),
        at_own first y same,
        picked_early (first + 1) end y (omega arith),
        ap f same,
      ))
      (λ d. by_cases (dec_le first y)
      (λ from. by_cases (dec_le end y)
      (λ late. omega (arith, picked_late first end y from late, at_other first y d, picked_late (first + 1) end y (omega arith) late))
      (λ inside. omega (
        arith,
        picked_in first end y from (omega arith),
        at_other first y d,
        picked_in (first + 1) end y (omega arith) (omega arith),
      )))
      (λ early. omega (arith, picked_early first end y (omega arith), at_other first y d, picked_early (first + 1) end y (omega arith))))

-- ---- cells

module _ (slot f : ℕ → ℕ) where
  -- one cell names a number
  spread_only : (x c k i : ℕ) → i ≤ c → c < i + k → slot c ≡ x → ((b : ℕ) → i ≤ b → b < i + k → b ≢ c → slot b ≢ x)
      → spread (λ b. at_number x f (slot b)) i k ≡ f x
  unfolding spread
  spread_only x c zero i low high e others = absurd (omega arith)
  spread_only x c (suc k) i low high e others =
      by_cases (ℕ_discrete c i)
      (λ here.
      let own = at_own f x (slot i) (ap slot (sym here) ∙ e) in
      let rest = spread_zero (λ b. at_number x f (slot b)) k (i + 1)
      (λ b from to. at_other f x (slot b) (others b (omega arith) (omega arith) (omega arith))) in
      omega arith)
      (λ d.
      let none = at_other f x (slot i) (others i (omega arith) (omega arith) (λ q. d (sym q))) in
      let rest = spread_only x c k (i + 1) (omega arith) (omega arith) e (λ b from to. others b (omega arith) (omega arith)) in
      omega arith)

  -- cells that name no number name 0
  module _ (m : ℕ) (apart : (b c : ℕ) → b < m → c < m → b ≢ c → 0 < slot c → slot b ≢ slot c) where
    -- or none does, where the function is 0
    spread_one : (x : ℕ) → 0 < x → ((c : ℕ) × (c < m) × (slot c ≡ x)) ⊎ (f x ≡ 0) → spread (λ b. at_number x f (slot b)) 0 m ≡ f x
    spread_one x some named =
        ⊎_elim
        (λ (y : (c : ℕ) × (c < m) × (slot c ≡ x)).
        spread_only x y.0 m 0 (omega arith) (omega (arith, y.1)) y.2
        (λ b low high d e. apart b y.0 (omega arith) y.1 d (omega (arith, y.2)) (e ∙ sym y.2)))
        (λ (z : f x ≡ 0). spread_zero (λ b. at_number x f (slot b)) m 0 (λ b low high. none b z) ∙ sym z)
        named
      where
        none : (b : ℕ) → f x ≡ 0 → at_number x f (slot b) ≡ 0
        none b z = by_cases (ℕ_discrete (slot b) x) (λ e. at_own f x (slot b) e ∙ z) (λ d. at_other f x (slot b) d)

    spread_size : (size first end : ℕ) → 0 < first → end ≡ first + size
        → ((x : ℕ) → first ≤ x → x < end → ((c : ℕ) × (c < m) × (slot c ≡ x)) ⊎ (f x ≡ 0))
        → spread (λ b. picked first end f (slot b)) 0 m ≡ spread f first size
    unfolding spread
    spread_size zero first end some e named =
        spread_zero (λ b. picked first end f (slot b)) m 0 (λ b low high. picked_none f first end (slot b) (omega arith))
    spread_size (suc size) first end some e named =
        spread_ext (λ b. picked first end f (slot b)) (λ b. at_number first f (slot b) + picked (first + 1) end f (slot b)) m 0
        (λ b. picked_split f first end (slot b) (omega arith))
        ∙ spread_add (λ b. at_number first f (slot b)) (λ b. picked (first + 1) end f (slot b)) m 0
        ∙ ap₂ ◌+◌ (spread_one first some (named first (omega arith) (omega arith)))
        (spread_size size (first + 1) end (omega arith) (omega arith) (λ x low high. named x (omega arith) high))

    -- the cells of a stretch give what its numbers give
    pub spread_cells : (first end : ℕ) → 0 < first → ((x : ℕ) → first ≤ x → x < end → ((c : ℕ) × (c < m) × (slot c ≡ x)) ⊎ (f x ≡ 0))
        → spread (λ b. picked first end f (slot b)) 0 m ≡ spread f first (end - first)
    unfolding spread
    spread_cells first end low named =
        by_cases (dec_le first end)
        (λ some. spread_size (end - first) first end low (omega arith) named)
        (λ none.
        let empty : end - first ≡ 0 = omega arith in
        spread_zero (λ b. picked first end f (slot b)) m 0 (λ b low high. picked_none f first end (slot b) (omega arith))
        ∙ sym (ap (spread f first) empty))
