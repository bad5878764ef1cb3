-- Walks counted by weights. A weight is a number for each appearance; what a walk is worth is the weight of its last
-- appearance, or 0 where it is no walk or goes on from a station that a permission forbids. Definitions for laws first.
-- Assumes nothing.
use Prim.Native.Nat.{ℕ, zero, suc, ◌+◌, ◌≤◌}
use mathlib.Core.Path.{◌≡◌, refl, sym, ap, ◌∙◌, fun_ext}
use mathlib.Core.Bool.{Bool, true, false, cond}
use mathlib.Core.List.{List, [], ◌∷◌, map, map-map}
use mathlib.Core.Option.{Option, none, some}
use native.Mathlib.Omega.{arith}
use lib.ListN.{length}
use Rattle.temporal.specs.Lists.{below, sum, tuples}
use Rattle.temporal.specs.Plan.{Plan, Appearance}
use Rattle.temporal.specs.Walk.{step, holds, ends_in}
use Rattle.temporal.specs.Shortest.{of_hops, count}
use Rattle.lists.proofs.ListLaws.{sum_ext, sum_zero, sum_map_add, sum_exchange, length_select}
use Rattle.walks.proofs.WalkLaws.{ends_nil, ends_cons}
use Rattle.counting.proofs.SumLaws.{sum_flat_map_law, sum_less}

-- the number of a value that is there; 0 of none
unfoldable pub worth : {A : Type 0} → Option A → (A → ℕ) → ℕ
worth none h = 0
worth (some a) h = h a

-- what one hop by position i from y is worth: the weight of where it leads; 0 where y's station may not be left
unfoldable pub behind : Plan → (ℕ → Bool) → (Appearance → ℕ) → ℕ → Appearance → ℕ
behind p g f i y = cond (g y.station) (worth (step p y i) f) 0

-- what the positions w are worth from x under the permission g: a walk goes on from a station v only where g v
unfoldable pub value : Plan → (ℕ → Bool) → Appearance → (Appearance → ℕ) → List ℕ → ℕ
value p g x f [] = f x
value p g x f (i ∷ w) = behind p g (λ y. value p g y f w) i x

-- what all lists of k positions are worth together
unfoldable pub total : Plan → (ℕ → Bool) → Appearance → (Appearance → ℕ) → ℕ → ℕ
total p g x f k = sum (map (value p g x f) (tuples (length p.contacts) k))

-- the positions of a plan, in order
abbrev pub positions : Plan → List ℕ
positions p = below (length p.contacts)

-- the permission to go on from every station
unfoldable pub everywhere : ℕ → Bool
everywhere v = true

-- a choice between 0 and 0 is 0
pub cond_zero : (c : Bool) → ◌≡◌ {A = ℕ} (cond c 0 0) 0
cond_zero true = refl
cond_zero false = refl

-- a guarded number is no more than a greater one behind a wider guard
pub cond_less : (b b' : Bool) {n m : ℕ} → (b ≡ true → b' ≡ true) → n ≤ m → cond b n 0 ≤ cond b' m 0
cond_less false b' wider less = omega arith
cond_less true b' wider less = rw (wider refl) less

module _ {A : Type 0} where
  -- a value whose number is 0 wherever it is there is worth 0
  pub worth_zero : (o : Option A) {f : A → ℕ} → ((a : A) → o ≡ some a → f a ≡ 0) → worth o f ≡ 0
  unfolding worth
  worth_zero none h = refl
  worth_zero (some a) h = h a refl

  -- a value is worth no more than by greater numbers
  pub worth_less : (o : Option A) (f f' : A → ℕ) → ((a : A) → f a ≤ f' a) → worth o f ≤ worth o f'
  unfolding worth
  worth_less none f f' less = omega arith
  worth_less (some a) f f' less = less a

module _ (p : Plan) (g : ℕ → Bool) where
  -- weights that agree on where a hop leads make it worth the same
  pub behind_ext : {f f' : Appearance → ℕ} (i : ℕ) (x : Appearance)
      → ((y : Appearance) → step p x i ≡ some y → f y ≡ f' y)
      → behind p g f i x ≡ behind p g f' i x
  unfolding behind worth
  behind_ext {f} {f'} i x h = ap (λ n. cond (g x.station) n 0) (go (step p x i) h)
    where
      go : (o : Option Appearance) → ((y : Appearance) → o ≡ some y → f y ≡ f' y) → worth o f ≡ worth o f'
      go none h = refl
      go (some y) h = h y refl

  -- a hop is worth 0 under a weight that is 0 where it leads
  pub behind_none : {f : Appearance → ℕ} (i : ℕ) (x : Appearance)
      → ((y : Appearance) → step p x i ≡ some y → f y ≡ 0)
      → behind p g f i x ≡ 0
  unfolding behind
  behind_none i x h = rw (worth_zero (step p x i) h) (cond_zero (g x.station))

  -- what a hop is worth adds with the weights
  behind_add : (f f' : Appearance → ℕ) (i : ℕ) (x : Appearance)
      → behind p g (λ y. f y + f' y) i x ≡ behind p g f i x + behind p g f' i x
  unfolding behind worth
  behind_add f f' i x = go (g x.station) (step p x i)
    where
      go : (b : Bool) (o : Option Appearance)
          → cond b (worth o (λ y. f y + f' y)) 0 ≡ cond b (worth o f) 0 + cond b (worth o f') 0
      go true none = refl
      go true (some y) = refl
      go false o = refl

  -- and over a list of indices
  behind_sum : {J : Type 0} (f : J → Appearance → ℕ) (js : List J) (i : ℕ) (x : Appearance)
      → behind p g (λ y. sum (map (λ j. f j y) js)) i x ≡ sum (map (λ j. behind p g (f j) i x) js)
  unfolding sum
  behind_sum f [] i x = behind_none i x (λ y e. refl)
  behind_sum f (j ∷ js) i x =
      behind_add (f j) (λ y. sum (map (λ j. f j y) js)) i x
      ∙ ap (◌+◌ (behind p g (f j) i x)) (behind_sum f js i x)

  -- the empty walk is worth the weight of where it begins
  pub total_zero : (x : Appearance) (f : Appearance → ℕ) → total p g x f 0 ≡ f x
  unfolding total tuples sum value
  total_zero x f = omega arith

  -- one hop and k more: by the first position
  pub first_leg : (x : Appearance) (f : Appearance → ℕ) (k : ℕ)
      → total p g x f (suc k) ≡ sum (map (λ i. behind p g (λ y. total p g y f k) i x) (positions p))
  unfolding total tuples value
  first_leg x f k =
      let all = tuples (length p.contacts) k in
      sum_flat_map_law (value p g x f) (λ i. map (◌∷◌ i) all) (positions p)
      ∙ sum_ext (positions p) (λ i m.
      ap sum (map-map (value p g x f) (◌∷◌ i) all) ∙ sym (behind_sum (λ w y. value p g y f w) all i x))

  -- k hops and one more: by the last position
  pub last_leg : (x : Appearance) (f : Appearance → ℕ) (k : ℕ)
      → total p g x f (suc k) ≡ sum (map (λ i. total p g x (behind p g f i) k) (positions p))
  last_leg x f zero =
      first_leg x f 0
      ∙ sum_ext (positions p) (λ i m.
      behind_ext i x (λ y e. total_zero y f) ∙ sym (total_zero x (behind p g f i)))
  last_leg x f (suc k) =
      first_leg x f (suc k)
      ∙ sum_ext (positions p) (λ i m.
      behind_ext i x (λ y e. last_leg y f k) ∙ behind_sum (λ j y. total p g y (behind p g f j) k) (positions p) i x)
      ∙ sum_exchange (λ i j. behind p g (λ y. total p g y (behind p g f j) k) i x) (positions p) (positions p)
      ∙ sum_ext (positions p) (λ j m. sym (first_leg x (behind p g f j) k))

  -- weights that agree on a kind of appearance that no hop leaves have one total from there
  pub total_ext_along : (P : Appearance → Type 0)
      → ((x : Appearance) (i : ℕ) (y : Appearance) → P x → step p x i ≡ some y → P y)
      → {f f' : Appearance → ℕ}
      → ((y : Appearance) → P y → f y ≡ f' y)
      → (x : Appearance) (k : ℕ)
      → P x
      → total p g x f k ≡ total p g x f' k
  total_ext_along P next {f} {f'} h x zero q = total_zero x f ∙ h x q ∙ sym (total_zero x f')
  total_ext_along P next {f} {f'} h x (suc k) q =
      first_leg x f k
      ∙ sum_ext (positions p) (λ i m. behind_ext i x (λ y e. total_ext_along P next h y k (next x i y q e)))
      ∙ sym (first_leg x f' k)

  -- weights that agree have one total
  pub total_ext : {f f' : Appearance → ℕ} → ((y : Appearance) → f y ≡ f' y) → (x : Appearance) (k : ℕ)
      → total p g x f k ≡ total p g x f' k
  total_ext h x k = ap (λ f. total p g x f k) (fun_ext h)

  -- a weight that is 0 everywhere has the total 0
  pub total_none : {f : Appearance → ℕ} → ((y : Appearance) → f y ≡ 0) → (x : Appearance) (k : ℕ) → total p g x f k ≡ 0
  total_none {f} h x zero = total_zero x f ∙ h x
  total_none {f} h x (suc k) =
      first_leg x f k ∙ sum_zero (positions p) (λ i m. behind_none i x (λ y e. total_none h y k))

  -- weights add
  pub total_add : (f f' : Appearance → ℕ) (x : Appearance) (k : ℕ)
      → total p g x (λ y. f y + f' y) k ≡ total p g x f k + total p g x f' k
  total_add f f' x zero = simp total_zero
  total_add f f' x (suc k) =
      first_leg x (λ y. f y + f' y) k
      ∙ sum_ext (positions p) (λ i m.
      behind_ext i x (λ y e. total_add f f' y k) ∙ behind_add (λ y. total p g y f k) (λ y. total p g y f' k) i x)
      ∙ sum_map_add (λ i. behind p g (λ y. total p g y f k) i x) (λ i. behind p g (λ y. total p g y f' k) i x)
      (positions p)
      ∙ rw (first_leg x f k, first_leg x f' k)

  -- weights add over a list of indices
  pub total_sum : {J : Type 0} (f : J → Appearance → ℕ) (js : List J) (x : Appearance) (k : ℕ)
      → total p g x (λ y. sum (map (λ j. f j y) js)) k ≡ sum (map (λ j. total p g x (f j) k) js)
  unfolding sum
  total_sum f [] x k = total_none (λ y. refl) x k
  total_sum f (j ∷ js) x k =
      total_add (f j) (λ y. sum (map (λ j. f j y) js)) x k ∙ ap (◌+◌ (total p g x (f j) k)) (total_sum f js x k)

  -- a test that does not look at the appearance stands before the total
  pub total_cond : (b : Bool) (f : Appearance → ℕ) (x : Appearance) (k : ℕ)
      → total p g x (λ y. cond b (f y) 0) k ≡ cond b (total p g x f k) 0
  total_cond true f x k = refl
  total_cond false f x k = total_none (λ y. refl) x k

  -- a value that may be there, and does not look at the appearance, stands before the total
  pub total_worth : {A : Type 0} (o : Option A) (f : A → Appearance → ℕ) (x : Appearance) (k : ℕ)
      → total p g x (λ y. worth o (λ a. f a y)) k ≡ worth o (λ a. total p g x (f a) k)
  unfolding worth
  total_worth none f x k = total_none (λ y. refl) x k
  total_worth (some a) f x k = refl

module _ (p : Plan) (g g' : ℕ → Bool) (wider : (v : ℕ) → g v ≡ true → g' v ≡ true) where
  -- a list of positions is worth no more than under a wider permission
  pub value_less : (x : Appearance) (f : Appearance → ℕ) (w : List ℕ) → value p g x f w ≤ value p g' x f w
  unfolding value behind
  value_less x f [] = omega arith
  value_less x f (i ∷ w) =
      cond_less (g x.station) (g' x.station) (wider x.station)
      (worth_less (step p x i) (λ y. value p g y f w) (λ y. value p g' y f w) (λ y. value_less y f w))

  -- a wider permission has no smaller total
  pub total_less : (x : Appearance) (f : Appearance → ℕ) (k : ℕ) → total p g x f k ≤ total p g' x f k
  unfolding total
  total_less x f k =
      sum_less (value p g x f) (value p g' x f) (tuples (length p.contacts) k) (λ w. value_less x f w)

module _ (p : Plan) (t : Appearance → Bool) where
  -- a list of positions is worth 1 where it is a walk that ends in a test, and else 0
  pub value_ends : (x : Appearance) (w : List ℕ)
      → value p everywhere x (λ y. cond (t y) 1 0) w ≡ cond (ends_in p x t w) 1 0
  unfolding value behind everywhere worth holds
  value_ends x [] = rw ends_nil
  value_ends x (i ∷ w) =
      behind_ext p everywhere i x (λ y e. value_ends y w) ∙ rw (ends_cons p x t i w) (go (step p x i))
    where
      go : (o : Option Appearance)
          → worth o (λ y. cond (ends_in p y t w) 1 0) ≡ cond (holds o (λ y. ends_in p y t w)) 1 0
      go none = refl
      go (some y) = refl

  -- the walks of k hops that end in a test are as many as the total of 1 where the test holds
  pub counts : (x : Appearance) (k : ℕ)
      → count (of_hops p (ends_in p x t) k) ≡ total p everywhere x (λ y. cond (t y) 1 0) k
  unfolding of_hops total
  counts x k =
      let all = tuples (length p.contacts) k in
      length_select (ends_in p x t) all ∙ sum_ext all (λ w m. sym (value_ends x w))
