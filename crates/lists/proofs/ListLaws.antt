-- Laws of the words of specs/Lists.antt: membership, selection, tuples, order and sums. They know nothing of plans.
-- Assumes nothing.
use Prim.Native.Nat.{ℕ, zero, suc, ◌+◌, ◌*◌, ◌≤◌, ◌<◌}
use mathlib.Core.Path.{◌≡◌, refl, sym, ap, ap₂, ◌∙◌, subst, subst₂}
use mathlib.Core.Bool.{Bool, true, false, not, cond, ◌&&◌, ◌||◌, and-eq-true_iff, or-true}
use mathlib.Core.List.{List, [], ◌∷◌, ◌++◌, map, flat_map, Memᴰ}
use mathlib.Core.Logic.{◌⊎◌, inl, inr, ⊎_elim, ◌↔◌, by_cases}
use native.Mathlib.Omega.{arith}
use native.Mathlib.Decide.{ℕ_discrete}
use lib.Dec.{eqb}
use lib.ListN.{length, get_or}
use borrow.Author.Tests.{eqb-false, eqb-true, eq-eqb, ne_eqb, not-true}
use Rattle.temporal.specs.Lists.{from, below, sum, select, any, first_where, member, distinct, tuples}
use Rattle.temporal.specs.Lists.{Before, Rising, NoneTwice}

-- a test is true or false
pub true_or_false : (b : Bool) → (b ≡ true) ⊎ (b ≡ false)
true_or_false true = inl refl
true_or_false false = inr refl

-- a test is not both
pub not_both : {b : Bool} → b ≡ true → b ≡ false → ⊥
not_both p q = let z : ◌≡◌ {A = ℕ} 0 1 = cc in omega arith

-- a test that is not true is false
pub not_true_false : (b : Bool) → (b ≡ true → ⊥) → b ≡ false
not_true_false true n = absurd (n refl)
not_true_false false n = refl

module _ {A : Type 0} where
  -- a member of x ∷ l is x or a member of l
  pub by_member : {B : Type 0} {x y : A} {l : List A} → Memᴰ x (y ∷ l) → (x ≡ y → B) → (Memᴰ x l → B) → B
  by_member m f g = ⊎_elim f g (mathlib.Core.List.Memᴰ.cases_cons m)

  -- a list is empty, or it has a member
  pub empty_or_member : (l : List A) → (l ≡ []) ⊎ ((x : A) × Memᴰ x l)
  empty_or_member [] = inl refl
  empty_or_member (x ∷ l) = inr (x, mathlib.Core.List.Memᴰ.head refl)

  -- a list with a member is not empty
  pub member_not_empty : {x : A} {l : List A} → Memᴰ x l → l ≡ [] → ⊥
  member_not_empty {x} m e = mathlib.Core.List.Memᴰ.not-nil (subst (Memᴰ x) e m)

  -- a list without a member is empty
  pub no_member_empty : (l : List A) → ((x : A) → Memᴰ x l → ⊥) → l ≡ []
  no_member_empty [] n = refl
  no_member_empty (x ∷ l) n = absurd (n x (mathlib.Core.List.Memᴰ.head refl))

  -- a list of length 0 is empty, and no other is
  pub length_zero : (l : List A) → (length l ≡ 0) ↔ (l ≡ [])
  length_zero [] = (λ e. refl, λ e. refl)
  length_zero (x ∷ l) = (λ e. absurd (omega arith), λ e. ap length e)

  -- what stands at a place of a list is a member of it
  pub mem_get_d_law : (l : List A) (i : ℕ) (d : A) → i < length l → Memᴰ (get_or l i d) l
  mem_get_d_law [] i d h = absurd (omega arith)
  mem_get_d_law (x ∷ l) zero d h = mathlib.Core.List.Memᴰ.head refl
  mem_get_d_law (x ∷ l) (suc i) d h = mathlib.Core.List.Memᴰ.tail (mem_get_d_law l i d (omega arith))

-- the numbers of from i k are those at least i and below i + k
pub mem_from : (i k : ℕ) {j : ℕ} → Memᴰ j (from i k) ↔ ((i ≤ j) × (j < i + k))
unfolding from
mem_from i zero = (λ m. absurd (mathlib.Core.List.Memᴰ.not-nil m), λ h. absurd (omega arith))
mem_from i (suc k) {j} = (
  λ m. by_member m (λ e. omega arith) (λ n. let h = (mem_from (suc i) k).0 n in omega arith),
  λ h. by_cases (ℕ_discrete j i) (λ e. mathlib.Core.List.Memᴰ.head e) (λ n. mathlib.Core.List.Memᴰ.tail ((mem_from (suc i) k).1 (omega arith))),
)

-- the numbers of below n are those below n
pub mem_below : (n : ℕ) {i : ℕ} → Memᴰ i (below n) ↔ (i < n)
unfolding below
mem_below n = (λ m. let h = (mem_from 0 n).0 m in omega arith, λ h. (mem_from 0 n).1 (omega arith))

-- from i k has k numbers
pub length_from : (i k : ℕ) → length (from i k) ≡ k
unfolding from
length_from i zero = refl
length_from i (suc k) = ap suc (length_from (suc i) k)

-- below n has n numbers
pub length_below : (n : ℕ) → length (below n) ≡ n
unfolding below
length_below n = length_from 0 n

-- the number at place j of from i k is i + j
pub get_d_from_law : (i k j d : ℕ) → j < k → get_or (from i k) j d ≡ i + j
unfolding from
get_d_from_law i zero j d h = absurd (omega arith)
get_d_from_law i (suc k) zero d h = omega arith
get_d_from_law i (suc k) (suc j) d h = get_d_from_law (suc i) k j d (omega arith) ∙ omega arith

-- the number at place i of below n is i
pub get_d_below_law : (n i d : ℕ) → i < n → get_or (below n) i d ≡ i
unfolding below
get_d_below_law n i d h = get_d_from_law 0 n i d h ∙ omega arith

module _ {A B : Type 0} where
  -- two functions that agree on a list's members map it to one list
  pub map_ext : {f g : A → B} (l : List A) → ((x : A) → Memᴰ x l → f x ≡ g x) → map f l ≡ map g l
  map_ext [] h = refl
  map_ext {f} {g} (x ∷ l) h =
      let e = h x (mathlib.Core.List.Memᴰ.head refl) in
      let r : map f l ≡ map g l = map_ext l (λ y m. h y (mathlib.Core.List.Memᴰ.tail m)) in
      cc

  -- a member of map f l is f of a member
  pub mem_map : (f : A → B) (l : List A) {y : B} → Memᴰ y (map f l) ↔ ((x : A) × Memᴰ x l × (f x ≡ y))
  mem_map f l = (mathlib.Core.List.Memᴰ.of_map f l, λ h. mathlib.Core.List.Memᴰ.cast (sym h.2) (mathlib.Core.List.Memᴰ.map f h.1))

  -- a member of flat_map f l is a member of f x for a member x
  pub mem_flat_map_law : (f : A → List B) (l : List A) {y : B}
      → Memᴰ y (flat_map f l) ↔ ((x : A) × Memᴰ x l × Memᴰ y (f x))
  unfolding flat_map
  mem_flat_map_law f [] = (λ m. absurd (mathlib.Core.List.Memᴰ.not-nil m), λ h. absurd (mathlib.Core.List.Memᴰ.not-nil h.1))
  mem_flat_map_law f (x ∷ l) {y} = (
    λ m. ⊎_elim
        (λ (n : Memᴰ y (f x)). (x, mathlib.Core.List.Memᴰ.head refl, n))
        (λ (n : Memᴰ y (flat_map f l)). let h = (mem_flat_map_law f l).0 n in (h.0, mathlib.Core.List.Memᴰ.tail h.1, h.2))
        (mathlib.Core.List.Memᴰ.append_cases (f x) m),
    λ h. by_member h.1
        (λ e. mathlib.Core.List.Memᴰ.append_left (flat_map f l) (rw e at h.2))
        (λ n. mathlib.Core.List.Memᴰ.append_right (f x) ((mem_flat_map_law f l).1 (h.0, n, h.2))),
  )

module _ {A : Type 0} where
  -- what one step of select keeps
  mem_cond : (c : Bool) {x y : A} {r : List A}
      → Memᴰ x (cond c (y ∷ r) r) ↔ (((x ≡ y) × (c ≡ true)) ⊎ Memᴰ x r)
  mem_cond true = (
    λ m. by_member m (λ e. inl (e, refl)) inr,
    ⊎_elim (λ h. mathlib.Core.List.Memᴰ.head h.0) (λ n. mathlib.Core.List.Memᴰ.tail n),
  )
  mem_cond false = (inr, ⊎_elim (λ h. absurd (not_both h.1 refl)) (λ n. n))

  -- the members of a selection are the members that pass
  pub mem_select : (t : A → Bool) (l : List A) {x : A} → Memᴰ x (select t l) ↔ (Memᴰ x l × (t x ≡ true))
  unfolding select
  mem_select t [] = (λ m. absurd (mathlib.Core.List.Memᴰ.not-nil m), λ h. absurd (mathlib.Core.List.Memᴰ.not-nil h.0))
  mem_select t (y ∷ l) {x} = (
    λ m. ⊎_elim
        (λ (h : (x ≡ y) × (t y ≡ true)). (mathlib.Core.List.Memᴰ.head h.0, ap t h.0 ∙ h.1))
        (λ (n : Memᴰ x (select t l)). let r = (mem_select t l).0 n in (mathlib.Core.List.Memᴰ.tail r.0, r.1))
        ((mem_cond (t y)).0 m),
    λ h. (mem_cond (t y)).1
        (by_member h.0 (λ e. inl (e, sym (ap t e) ∙ h.1)) (λ n. inr ((mem_select t l).1 (n, h.1)))),
  )

  -- a selection from two lists in turn is the two selections in turn
  pub select_append : (t : A → Bool) (a b : List A) → select t (a ++ b) ≡ select t a ++ select t b
  unfolding select
  select_append t [] b = refl
  select_append t (x ∷ a) b = rw (select_append t a b) (step (t x))
    where
      step : (c : Bool) → cond c (x ∷ (select t a ++ select t b)) (select t a ++ select t b)
          ≡ cond c (x ∷ select t a) (select t a) ++ select t b
      step true = refl
      step false = refl

  -- two tests that agree on a list's members select the same
  pub select_ext : {t u : A → Bool} (l : List A) → ((x : A) → Memᴰ x l → t x ≡ u x) → select t l ≡ select u l
  unfolding select
  select_ext [] h = refl
  select_ext (x ∷ l) h = rw (h x (mathlib.Core.List.Memᴰ.head refl), select_ext l (λ y m. h y (mathlib.Core.List.Memᴰ.tail m)))

  -- where no member passes, nothing is selected
  pub select_none : {t : A → Bool} (l : List A) → ((x : A) → Memᴰ x l → t x ≡ false) → select t l ≡ []
  unfolding select
  select_none [] h = refl
  select_none (x ∷ l) h = rw (h x (mathlib.Core.List.Memᴰ.head refl), select_none l (λ y m. h y (mathlib.Core.List.Memᴰ.tail m)))

  -- to select twice is to select by both tests
  pub select_select : (t u : A → Bool) (l : List A) → select t (select u l) ≡ select (λ x. u x && t x) l
  unfolding select
  select_select t u [] = refl
  select_select t u (x ∷ l) = rw (← select_select t u l) (step (u x))
    where
      step : (c : Bool) → select t (cond c (x ∷ select u l) (select u l))
          ≡ cond (c && t x) (x ∷ select t (select u l)) (select t (select u l))
      step true = refl
      step false = refl

  -- any is true where a member passes, and gives one
  pub any_true : (t : A → Bool) (l : List A) → (any t l ≡ true) ↔ ((x : A) × Memᴰ x l × (t x ≡ true))
  unfolding any
  any_true t [] = (λ e. absurd (not_both e refl), λ h. absurd (mathlib.Core.List.Memᴰ.not-nil h.1))
  any_true t (y ∷ l) = (
    λ e. ⊎_elim
        (λ (p : t y ≡ true). (y, mathlib.Core.List.Memᴰ.head refl, p))
        (λ (q : t y ≡ false). let r = (any_true t l).0 (rw q at e) in (r.0, mathlib.Core.List.Memᴰ.tail r.1, r.2))
        (true_or_false (t y)),
    λ h. by_member h.1
        (λ e. rw (sym (ap t e) ∙ h.2))
        (λ m. rw ((any_true t l).1 (h.0, m, h.2)) (or-true (t y))),
  )

  -- any is false where every member fails
  pub any_false : (t : A → Bool) (l : List A) → (any t l ≡ false) ↔ ((x : A) → Memᴰ x l → t x ≡ false)
  any_false t l = (
    λ e x m. not_true_false (t x) (λ p. not_both ((any_true t l).1 (x, m, p)) e),
    λ h. not_true_false (any t l) (λ p. let r = (any_true t l).0 p in not_both r.2 (h r.0 r.1)),
  )

-- a selection from a mapped list is the mapped selection of what passes when mapped
pub select_map : {A B : Type 0} (t : B → Bool) (f : A → B) (l : List A) → select t (map f l) ≡ map f (select (λ x. t (f x)) l)
unfolding select
select_map t f [] = refl
select_map t f (x ∷ l) = rw (select_map t f l) (step (t (f x)))
  where
    step : (c : Bool) → cond c (f x ∷ map f (select (λ x. t (f x)) l)) (map f (select (λ x. t (f x)) l))
        ≡ map f (cond c (x ∷ select (λ x. t (f x)) l) (select (λ x. t (f x)) l))
    step true = refl
    step false = refl

-- a selection from joined lists is the selections joined
pub select_flat_map_law : {A B : Type 0} (t : B → Bool) (f : A → List B) (l : List A)
    → select t (flat_map f l) ≡ flat_map (λ x. select t (f x)) l
unfolding select flat_map
select_flat_map_law t f [] = refl
select_flat_map_law t f (x ∷ l) = select_append t (f x) (flat_map f l) ∙ ap (λ m. select t (f x) ++ m) (select_flat_map_law t f l)

-- member is true for the members of a list
pub member_true : (v : ℕ) (l : List ℕ) → (member v l ≡ true) ↔ Memᴰ v l
unfolding member
member_true v l = (
  λ e. let r = (any_true (eqb v) l).0 e in mathlib.Core.List.Memᴰ.cast (eqb-true v r.0 r.2) r.1,
  λ m. (any_true (eqb v) l).1 (v, m, eq-eqb v v refl),
)

-- member is false for every other number
pub member_false : (v : ℕ) (l : List ℕ) → (member v l ≡ false) ↔ (Memᴰ v l → ⊥)
member_false v l =
    (λ e m. not_both ((member_true v l).1 m) e, λ n. not_true_false (member v l) (λ e. n ((member_true v l).0 e)))

-- no number stands twice in x ∷ l where x does not stand in l and none stands twice in l
pub distinct_cons : (x : ℕ) (l : List ℕ) → (distinct (x ∷ l) ≡ true) ↔ ((Memᴰ x l → ⊥) × (distinct l ≡ true))
unfolding distinct
distinct_cons x l = (
  λ e. let h = (and-eq-true_iff (not (member x l)) (distinct l)).0 e in
      ((member_false x l).0 (not-true (member x l) h.0), h.1),
  λ h. (and-eq-true_iff (not (member x l)) (distinct l)).1 (ap not ((member_false x l).1 h.0), h.1),
)

-- a selection from different numbers has different numbers
pub distinct_select : (t : ℕ → Bool) (l : List ℕ) → distinct l ≡ true → distinct (select t l) ≡ true
unfolding select
distinct_select t [] d = d
distinct_select t (x ∷ l) d =
    let h = (distinct_cons x l).0 d in
    step (t x) h.0 (distinct_select t l h.1)
  where
    step : (c : Bool) → (Memᴰ x l → ⊥) → distinct (select t l) ≡ true
        → distinct (cond c (x ∷ select t l) (select t l)) ≡ true
    step true new others = (distinct_cons x (select t l)).1 (λ m. new ((mem_select t l).0 m).0, others)
    step false new others = others

-- a number that stands among different numbers stands there once: without it they are one fewer
pub length_without : (z : ℕ) (l : List ℕ) → distinct l ≡ true
    → length (select (λ v. not (eqb z v)) l) + cond (member z l) 1 0 ≡ length l
unfolding select member any
length_without z [] d = refl
length_without z (x ∷ l) d =
    let h = (distinct_cons x l).0 d in
    step (eqb z x) refl h.0 (length_without z l h.1)
  where
    r : List ℕ
    r = select (λ v. not (eqb z v)) l

    step : (c : Bool) → eqb z x ≡ c → (Memᴰ x l → ⊥) → length r + cond (member z l) 1 0 ≡ length l
        → length (cond (not c) (x ∷ r) r) + cond (c || any (eqb z) l) 1 0 ≡ suc (length l)
    step true q new others =
        let once : member z l ≡ false = (member_false z l).1 (λ m. new (mathlib.Core.List.Memᴰ.cast (sym (eqb-true z x q)) m)) in
        let all : length r + cond {A = ℕ} false 1 0 ≡ length l = subst (λ c. length r + cond c 1 0 ≡ length l) once others in
        omega arith
    step false q new others = omega arith

-- a list stands among tuples m (k + 1) where its first number is below m and its rest stands among tuples m k
pub mem_tuples_cons : (m k : ℕ) {w : List ℕ}
    → Memᴰ w (tuples m (suc k)) ↔ ((i : ℕ) × (u : List ℕ) × (w ≡ i ∷ u) × (i < m) × Memᴰ u (tuples m k))
unfolding tuples
mem_tuples_cons m k = (
  λ h. let a = (mem_flat_map_law (λ i. map (◌∷◌ i) (tuples m k)) (below m)).0 h in
      let b = (mem_map (◌∷◌ a.0) (tuples m k)).0 a.2 in
      (a.0, b.0, sym b.2, (mem_below m).0 a.1, b.1),
  λ h. (mem_flat_map_law (λ i. map (◌∷◌ i) (tuples m k)) (below m)).1
      (h.0, (mem_below m).1 h.3, (mem_map (◌∷◌ h.0) (tuples m k)).1 (h.1, h.4, sym h.2)),
)

-- the members of tuples m k are the lists of k numbers below m
pub mem_tuples : (m k : ℕ) {w : List ℕ}
    → Memᴰ w (tuples m k) ↔ ((length w ≡ k) × ((i : ℕ) → Memᴰ i w → i < m))
unfolding tuples
mem_tuples m zero {w = []} = (λ h. (refl, λ i n. absurd (mathlib.Core.List.Memᴰ.not-nil n)), λ h. mathlib.Core.List.Memᴰ.head refl)
mem_tuples m zero {w = x ∷ w} = (
  λ h. let e = mathlib.Core.List.Memᴰ.eq_of_singleton h in absurd (let z : ◌≡◌ {A = ℕ} 0 1 = cc in omega arith),
  λ h. absurd (omega arith),
)
mem_tuples m (suc k) {w = []} = (
  λ h. let e = ((mem_tuples_cons m k).0 h).2 in absurd (let z : ◌≡◌ {A = ℕ} 0 1 = cc in omega arith),
  λ h. absurd (omega arith),
)
mem_tuples m (suc k) {w = x ∷ w} = (
  λ h. let a = (mem_tuples_cons m k).0 h in
      let e : x ∷ w ≡ a.0 ∷ a.1 = a.2 in
      let first : x ≡ a.0 = cc in
      let rest : w ≡ a.1 = cc in
      let r = (mem_tuples m k).0 (mathlib.Core.List.Memᴰ.cast rest a.4) in
      (ap suc r.0, λ i n. by_member n (λ q. omega arith) (r.1 i)),
  λ h. (mem_tuples_cons m k).1
      (x, w, refl, h.1 x (mathlib.Core.List.Memᴰ.head refl), (mem_tuples m k).1 (omega arith, λ i n. h.1 i (mathlib.Core.List.Memᴰ.tail n))),
)

-- a selection from a rising list rises
pub rising_select : (t : List ℕ → Bool) (l : List (List ℕ)) → Rising l → Rising (select t l)
unfolding select Rising
rising_select t [] r = tt
rising_select t (w ∷ l) r = step (t w) (rising_select t l r.1)
  where
    step : (c : Bool) → Rising (select t l) → Rising (cond c (w ∷ select t l) (select t l))
    step true s = (λ u m. r.0 u ((mem_select t l).0 m).0, s)
    step false s = s

-- two rising lists in turn rise where each member of the first is before each of the second
pub rising_append : (a b : List (List ℕ)) → Rising a → Rising b
    → ((u w : List ℕ) → Memᴰ u a → Memᴰ w b → Before u w)
    → Rising (a ++ b)
unfolding Rising
rising_append [] b p q h = q
rising_append (x ∷ a) b p q h = (
  λ u m. ⊎_elim (p.0 u) (h x u (mathlib.Core.List.Memᴰ.head refl)) (mathlib.Core.List.Memᴰ.append_cases a m),
  rising_append a b p.1 q (λ u w m n. h u w (mathlib.Core.List.Memᴰ.tail m) n),
)

-- a rising list rises with one number put before each of its members
pub rising_map_cons : (i : ℕ) (l : List (List ℕ)) → Rising l → Rising (map (◌∷◌ i) l)
unfolding Rising Before
rising_map_cons i [] r = tt
rising_map_cons i (w ∷ l) r = (
  λ u m. let h = (mem_map (◌∷◌ i) l).0 m in subst (Before (i ∷ w)) h.2 (inr (refl, r.0 h.0 h.1)),
  rising_map_cons i l r.1,
)

-- a rising list with i put before each member, then the same with i + 1, and so on, rises
rising_heads : (l : List (List ℕ)) → Rising l → (i k : ℕ) → Rising (flat_map (λ j. map (◌∷◌ j) l) (from i k))
unfolding Rising Before from flat_map
rising_heads l r i zero = tt
rising_heads l r i (suc k) =
    let later = flat_map (λ j. map (◌∷◌ j) l) (from (suc i) k) in
    rising_append (map (◌∷◌ i) l) later (rising_map_cons i l r) (rising_heads l r (suc i) k) (λ u w m n.
    let a = (mem_map (◌∷◌ i) l).0 m in
    let b = (mem_flat_map_law (λ j. map (◌∷◌ j) l) (from (suc i) k)).0 n in
    let c = (mem_map (◌∷◌ b.0) l).0 b.2 in
    let h = (mem_from (suc i) k).0 b.1 in
    let less : i < b.0 = omega arith in
    subst₂ Before a.2 c.2 (inl less))

-- tuples rise
pub rising_tuples : (m k : ℕ) → Rising (tuples m k)
unfolding tuples Rising below
rising_tuples m zero = (λ u n. absurd (mathlib.Core.List.Memᴰ.not-nil n), tt)
rising_tuples m (suc k) = rising_heads (tuples m k) (rising_tuples m k) 0 m

-- no list stands before itself
pub before_irrefl : (w : List ℕ) → Before w w → ⊥
unfolding Before
before_irrefl [] h = h
before_irrefl (i ∷ w) h = ⊎_elim (λ (g : i < i). omega arith) (λ (g : (i ≡ i) × Before w w). before_irrefl w g.1) h

-- the first member of a rising list does not stand in its rest
pub rising_once : {w : List ℕ} {l : List (List ℕ)} → Rising (w ∷ l) → Memᴰ w l → ⊥
unfolding Rising
rising_once {w} r m = before_irrefl w (r.0 w m)

-- of two places of a rising list the member at the smaller is before the other
pub rising_get_d_law : (l : List (List ℕ)) → Rising l → (i j : ℕ) (d : List ℕ) → i < j → j < length l
    → Before (get_or l i d) (get_or l j d)
unfolding Rising
rising_get_d_law [] r i j d g h = absurd (omega arith)
rising_get_d_law (w ∷ l) r i zero d g h = absurd (omega arith)
rising_get_d_law (w ∷ l) r zero (suc j) d g h = r.0 (get_or l j d) (mem_get_d_law l j d (omega arith))
rising_get_d_law (w ∷ l) r (suc i) (suc j) d g h = rising_get_d_law l r.1 i j d (omega arith) (omega arith)

-- so no member stands in a rising list twice
pub rising_none_twice : (l : List (List ℕ)) → Rising l → NoneTwice l
unfolding NoneTwice
rising_none_twice l r i j g h e =
    before_irrefl (get_or l j []) (subst (λ w. Before w (get_or l j [])) e (rising_get_d_law l r i j [] g h))

-- the sum of two lists in turn is the sum of their sums
pub sum_append : (a b : List ℕ) → sum (a ++ b) ≡ sum a + sum b
unfolding sum
sum_append [] b = omega arith
sum_append (x ∷ a) b = omega (arith, sum_append a b)

module _ {A : Type 0} where
  -- a sum of zeros is 0
  pub sum_zero : {f : A → ℕ} (l : List A) → ((x : A) → Memᴰ x l → f x ≡ 0) → sum (map f l) ≡ 0
  unfolding sum
  sum_zero [] h = refl
  sum_zero (x ∷ l) h = omega (arith, h x (mathlib.Core.List.Memᴰ.head refl), sum_zero l (λ y m. h y (mathlib.Core.List.Memᴰ.tail m)))

  -- a sum is at least each of its numbers
  pub sum_member : (f : A → ℕ) {x : A} {l : List A} → Memᴰ x l → f x ≤ sum (map f l)
  unfolding sum
  sum_member f (mathlib.Core.List.Memᴰ.head e) = rw e (omega arith)
  sum_member f (mathlib.Core.List.Memᴰ.tail m) = omega (arith, sum_member f m)

  -- two functions that agree on a list's members have one sum over it
  pub sum_ext : {f g : A → ℕ} (l : List A) → ((x : A) → Memᴰ x l → f x ≡ g x) → sum (map f l) ≡ sum (map g l)
  sum_ext l h = ap sum (map_ext l h)

  -- the sum of pointwise sums is the sum of the two sums
  pub sum_map_add : (f g : A → ℕ) (l : List A) → sum (map (λ x. f x + g x) l) ≡ sum (map f l) + sum (map g l)
  unfolding sum
  sum_map_add f g [] = refl
  sum_map_add f g (x ∷ l) = omega (arith, sum_map_add f g l)

  -- a sum of one number for each member is the length times that number
  pub sum_same : {f : A → ℕ} (c : ℕ) (l : List A) → ((x : A) → Memᴰ x l → f x ≡ c) → sum (map f l) ≡ length l * c
  unfolding sum
  sum_same c [] h = omega arith
  sum_same c (x ∷ l) h = omega (arith, h x (mathlib.Core.List.Memᴰ.head refl), sum_same c l (λ y m. h y (mathlib.Core.List.Memᴰ.tail m)))

  -- a selection is as long as the sum of 1 for each member that passes
  pub length_select : (t : A → Bool) (l : List A) → length (select t l) ≡ sum (map (λ x. cond (t x) 1 0) l)
  unfolding select sum
  length_select t [] = refl
  length_select t (x ∷ l) = rw (← length_select t l) (step (t x))
    where
      step : (c : Bool) → length (cond c (x ∷ select t l) (select t l)) ≡ cond c 1 0 + length (select t l)
      step true = omega arith
      step false = omega arith

-- two sums exchange
pub sum_exchange : {A B : Type 0} (f : A → B → ℕ) (l : List A) (m : List B)
    → sum (map (λ x. sum (map (f x) m)) l) ≡ sum (map (λ y. sum (map (λ x. f x y) l)) m)
unfolding sum
sum_exchange f [] m = sym (sum_zero m (λ y k. refl))
sum_exchange f (x ∷ l) m = rw (sum_exchange f l m) (sym (sum_map_add (f x) (λ y. sum (map (λ x. f x y) l)) m))

-- a sum over from i k in which only the number of j is not 0 is that number
pub sum_only : (f : ℕ → ℕ) (i k j : ℕ) → i ≤ j → j < i + k
    → ((n : ℕ) → Memᴰ n (from i k) → (n ≡ j → ⊥) → f n ≡ 0)
    → sum (map f (from i k)) ≡ f j
unfolding from sum
sum_only f i zero j g h z = absurd (omega arith)
sum_only f i (suc k) j g h z =
    by_cases (ℕ_discrete i j)
    (λ e. omega (arith, ap f e, sum_zero {f = f} (from (suc i) k) (later e)))
    (λ d.
    let r = sum_only f (suc i) k j (omega arith) (omega arith) (λ n m. z n (mathlib.Core.List.Memᴰ.tail m)) in
    omega (arith, z i (mathlib.Core.List.Memᴰ.head refl) d))
  where
    later : i ≡ j → (n : ℕ) → Memᴰ n (from (suc i) k) → f n ≡ 0
    later e n m = let b = (mem_from (suc i) k).0 m in z n (mathlib.Core.List.Memᴰ.tail m) (omega arith)

-- a sum over below n with f at j alone is f j where j is below n
pub sum_point : (f : ℕ → ℕ) (n j : ℕ) → j < n → sum (map (λ i. cond (eqb i j) (f i) 0) (below n)) ≡ f j
unfolding below
sum_point f n j h =
    sum_only (λ i. cond (eqb i j) (f i) 0) 0 n j (omega arith) (omega arith) (λ i m d. rw (ne_eqb i j d))
    ∙ rw (eq-eqb j j refl)

-- and 0 where j is not below n
pub sum_point_none : (f : ℕ → ℕ) (n j : ℕ) → n ≤ j → sum (map (λ i. cond (eqb i j) (f i) 0) (below n)) ≡ 0
sum_point_none f n j h = sum_zero (below n) (λ i m. let g = (mem_below n).0 m in rw (ne_eqb i j (omega arith)))

-- one number below n equals b, where b is below n; behind a test, where the test holds
pub sum_of_guarded : (a : Bool) (b n : ℕ) → b < n → sum (map (λ i. cond (a && eqb b i) 1 0) (below n)) ≡ cond a 1 0
sum_of_guarded false b n h = sum_zero (below n) (λ i m. refl)
sum_of_guarded true b n h = sum_ext (below n) (λ i m. ap (λ c. cond c 1 0) (eqb_sym b i)) ∙ sum_point (λ i. 1) n b h
  where
    eqb_sym : (a b : ℕ) → eqb a b ≡ eqb b a
    eqb_sym a b = go (eqb a b) refl
      where
        go : (c : Bool) → eqb a b ≡ c → c ≡ eqb b a
        go true q = sym (eq-eqb b a (sym (eqb-true a b q)))
        go false q = sym (ne_eqb b a (λ e. eqb-false a b q (sym e)))

-- as many numbers below n stand in a list as it has members, where they are different and below n
pub length_select_member : (n : ℕ) (l : List ℕ) → distinct l ≡ true → ((v : ℕ) → Memᴰ v l → v < n)
    → length (select (λ v. member v l) (below n)) ≡ length l
unfolding member any
length_select_member n l d b = length_select (λ v. member v l) (below n) ∙ go l d b
  where
    either : (x : ℕ) (l : List ℕ) → (Memᴰ x l → ⊥) → (v : ℕ)
        → cond {A = ℕ} (member v (x ∷ l)) 1 0 ≡ cond (eqb v x) 1 0 + cond (member v l) 1 0
    either x l new v = step (eqb v x) refl
      where
        step : (c : Bool) → eqb v x ≡ c → cond {A = ℕ} (c || member v l) 1 0 ≡ cond c 1 0 + cond (member v l) 1 0
        step true q = rw ((member_false v l).1 (λ m. new (mathlib.Core.List.Memᴰ.cast (sym (eqb-true v x q)) m)))
        step false q = omega arith

    go : (l : List ℕ) → distinct l ≡ true → ((v : ℕ) → Memᴰ v l → v < n)
        → sum (map (λ v. cond (member v l) 1 0) (below n)) ≡ length l
    go [] d b = sum_zero (below n) (λ v m. refl)
    go (x ∷ l) d b =
        let h = (distinct_cons x l).0 d in
        sum_ext (below n) (λ v m. either x l h.0 v)
        ∙ sum_map_add (λ v. cond (eqb v x) 1 0) (λ v. cond (member v l) 1 0) (below n)
        ∙ ap₂ ◌+◌ (sum_point (λ v. 1) n x (b x (mathlib.Core.List.Memᴰ.head refl))) (go l h.1 (λ v m. b v (mathlib.Core.List.Memᴰ.tail m)))
        ∙ omega arith

-- tests that agree on a list's members hold of some member alike
pub any_ext : {A : Type 0} {f g : A → Bool} (l : List A) → ((x : A) → Memᴰ x l → f x ≡ g x) → any f l ≡ any g l
unfolding any
any_ext [] e = refl
any_ext (x ∷ l) e = ap₂ ◌||◌ (e x (mathlib.Core.List.Memᴰ.head refl)) (any_ext l (λ y m. e y (mathlib.Core.List.Memᴰ.tail m)))

-- the first number from i on that passes a test is the one that passes where none before it does
pub first_where_law : (none : ℕ) (t : ℕ → Bool) (i k v : ℕ) → i ≤ v → v < i + k → t v ≡ true
    → ((u : ℕ) → u < v → t u ≡ false)
    → first_where none t (from i k) ≡ v
unfolding first_where from
first_where_law none t i zero v low high e before = absurd (omega arith)
first_where_law none t i (suc k) v low high e before =
    by_cases (ℕ_discrete i v)
    (λ same. rw (same, e))
    (λ other. rw (before i (omega arith)) (first_where_law none t (suc i) k v (omega arith) (omega arith) e before))

-- where none of them passes it is the number none
pub first_nowhere : (none : ℕ) (t : ℕ → Bool) (i k : ℕ) → ((u : ℕ) → i ≤ u → u < i + k → t u ≡ false)
    → first_where none t (from i k) ≡ none
unfolding first_where from
first_nowhere none t i zero h = refl
first_nowhere none t i (suc k) h =
    rw (h i (omega arith) (omega arith)) (first_nowhere none t (suc i) k (λ u low high. h u (omega arith) (omega arith)))

-- Either no number below n passes a test, and the first is the number none, or there is one that passes where none before it
-- does, and it is the first.
pub data FirstBelow (none : ℕ) (t : ℕ → Bool) (n : ℕ) : Type 0 where
  passes_nowhere : first_where none t (below n) ≡ none → ((u : ℕ) → u < n → t u ≡ false) → FirstBelow none t n
  passes_first : (v : ℕ) → first_where none t (below n) ≡ v → v < n → t v ≡ true → ((u : ℕ) → u < v → t u ≡ false)
      → FirstBelow none t n

-- one of the two holds
pub first_below : (none : ℕ) (t : ℕ → Bool) (n : ℕ) → FirstBelow none t n
unfolding below
first_below none t n = decide (up_to n (omega arith))
  where
    Lowest : Type 0
    Lowest = (v : ℕ) × (v < n) × (t v ≡ true) × ((u : ℕ) → u < v → t u ≡ false)

    further : (k : ℕ) → k < n → ((u : ℕ) → u < k → t u ≡ false) → (t k ≡ true) ⊎ (t k ≡ false)
        → ((u : ℕ) → u < suc k → t u ≡ false) ⊎ Lowest
    further k h before (inl e) = inr (k, h, e, before)
    further k h before (inr e) =
        inl (λ u q. by_cases (ℕ_discrete u k) (λ same. rw same e) (λ other. before u (omega arith)))

    up_to : (k : ℕ) → k ≤ n → ((u : ℕ) → u < k → t u ≡ false) ⊎ Lowest
    up_to zero h = inl (λ u q. absurd (omega arith))
    up_to (suc k) h =
        ⊎_elim (λ before. further k (omega arith) before (true_or_false (t k))) inr (up_to k (omega arith))

    decide : ((u : ℕ) → u < n → t u ≡ false) ⊎ Lowest → FirstBelow none t n
    decide (inl e) = passes_nowhere (first_nowhere none t 0 n (λ u low high. e u (omega arith))) e
    decide (inr (v, h, e, before)) = passes_first v (first_where_law none t 0 n v (omega arith) (omega arith) e before) h e before
