-- Two rising lists with the same members are one list. Assumes nothing.
use Prim.Native.Nat.{ℕ, ◌<◌}
use native.Mathlib.Omega.{arith}
use mathlib.Core.Path.{◌≡◌, refl, sym, ap₂, ◌∙◌}
use mathlib.Core.List.Memᴰ
use mathlib.Core.List.{List, [], ◌∷◌, Memᴰ}
use mathlib.Core.Logic.{◌⊎◌, inl, inr}
use Rattle.temporal.specs.Lists.{Before, Rising}
use Rattle.lists.proofs.ListLaws.{by_member, rising_once}

-- of two lists not both stand before the other
before_asym : (u w : List ℕ) → Before u w → Before w u → ⊥
unfolding Before
before_asym [] w h k = h
before_asym (i ∷ u) [] h k = h
before_asym (i ∷ u) (j ∷ w) h k = go h k (before_asym u w)
  where
    go : (i < j) ⊎ ((i ≡ j) × Before u w) → (j < i) ⊎ ((j ≡ i) × Before w u) → (Before u w → Before w u → ⊥) → ⊥
    go (inl a) (inl b) ih = omega arith
    go (inl a) (inr (e, b)) ih = omega arith
    go (inr (e, a)) (inl b) ih = omega arith
    go (inr (e, a)) (inr (f, b)) ih = ih a b

-- every member of the one is a member of the other
abbrev pub In : List (List ℕ) → List (List ℕ) → Type 0
In a b = (u : List ℕ) → Memᴰ u a → Memᴰ u b

-- the first members are the same
same_first : (w x : List ℕ) (a b : List (List ℕ)) → Rising (w ∷ a) → Rising (x ∷ b) → In (w ∷ a) (x ∷ b) → In (x ∷ b) (w ∷ a) → w ≡ x
unfolding Rising
same_first w x a b p q there back =
    by_member (there w (Memᴰ.head refl)) (λ e. e)
    (λ m.
    by_member (back x (Memᴰ.head refl)) (λ e. sym e) (λ k. absurd (before_asym w x (p.0 x k) (q.0 w m))))

-- the others of the one are others of the other
same_rest : (w x : List ℕ) (a b : List (List ℕ)) → w ≡ x → Rising (w ∷ a) → In (w ∷ a) (x ∷ b) → In a b
same_rest w x a b e p there u m =
    by_member (there u (Memᴰ.tail m)) (λ same. absurd (rising_once p (Memᴰ.cast (e ∙ sym same) m))) (λ k. k)

pub rising_same : (a b : List (List ℕ)) → Rising a → Rising b → In a b → In b a → a ≡ b
unfolding Rising
rising_same [] [] p q there back = refl
rising_same [] (x ∷ b) p q there back = absurd (Memᴰ.not-nil (back x (Memᴰ.head refl)))
rising_same (w ∷ a) [] p q there back = absurd (Memᴰ.not-nil (there w (Memᴰ.head refl)))
rising_same (w ∷ a) (x ∷ b) p q there back =
    let first = same_first w x a b p q there back in
    ap₂ ◌∷◌ first
    (rising_same a b p.1 q.1 (same_rest w x a b first p there) (same_rest x w b a (sym first) q back))
