-- Lexicographic order by the last number, and places in a rising list: the first member, the next one, the last one,
-- and
-- the one with which a buffer begins. It knows nothing of plans.
-- Assumes nothing.
use Prim.Native.Nat.{ℕ, suc, ◌+◌, ◌≤◌, ◌<◌}
use mathlib.Core.Path.{◌≡◌, refl, sym, ap, ◌∙◌, subst}
use mathlib.Core.Bool.{Bool, true, false, cond}
use mathlib.Core.List.{List, [], ◌∷◌, ◌++◌, Memᴰ}
use mathlib.Core.Logic.{◌⊎◌, inl, inr, ⊎_elim, by_cases}
use mathlib.Core.Option.{Option, none, some, map, map-eq-some_iff}
use native.Mathlib.Omega.{arith}
use native.Mathlib.Decide.{ℕ_discrete, dec_le}
use lib.ListN.{length, get_or, take}
use lib.Seq.{take-suc, take_all, length-take-le}
use Rattle.temporal.specs.Lists.{Before, Rising}
use Rattle.temporal.specs.Walk.{holds}
use Rattle.temporal.specs.Cursor.{same_numbers, index_in}
use Rattle.lists.proofs.ListLaws.{before_irrefl, rising_get_d_law, mem_get_d_law}
use Rattle.lists.proofs.BufferLaws.{same_numbers_law}

-- ---- order

-- of two lists not each stands before the other
pub before_asym : (u w : List ℕ) → Before u w → Before w u → ⊥
unfolding Before
before_asym [] w h g = h
before_asym (i ∷ u) [] h g = h
before_asym (i ∷ u) (j ∷ w) h g =
    ⊎_elim
    (λ (a : i < j). ⊎_elim (λ (b : j < i). omega arith) (λ (b : (j ≡ i) × Before w u). omega arith) g)
    (λ (a : (i ≡ j) × Before u w).
    ⊎_elim (λ (b : j < i). omega arith) (λ (b : (j ≡ i) × Before w u). before_asym u w a.1 b.1) g)
    h

-- lists go on in the order in which they begin
pub before_onward : (q q' a b : List ℕ) → Before q q' → Before (q ++ a) (q' ++ b)
unfolding Before
before_onward [] q' a b h = absurd h
before_onward (i ∷ q) [] a b h = absurd h
before_onward (i ∷ q) (j ∷ q') a b h = ⊎_elim inl (λ g. inr (g.0, before_onward q q' a b g.1)) h

-- where they begin alike the last number decides
pub before_last : (q : List ℕ) (i j : ℕ) → i < j → Before (q ++ i ∷ []) (q ++ j ∷ [])
unfolding Before
before_last [] i j h = inl h
before_last (x ∷ q) i j h = inr (refl, before_last q i j h)

-- and in no other way
pub before_cases : (q q' : List ℕ) (i j : ℕ) → length q ≡ length q' → Before (q ++ i ∷ []) (q' ++ j ∷ [])
    → Before q q' ⊎ ((q ≡ q') × (i < j))
unfolding Before
before_cases [] [] i j e h = ⊎_elim (λ g. inr (refl, g)) (λ g. absurd g.1) h
before_cases [] (y ∷ q') i j e h = absurd (omega arith)
before_cases (x ∷ q) [] i j e h = absurd (omega arith)
before_cases (x ∷ q) (y ∷ q') i j e h =
    ⊎_elim
    (λ g. inl (inl g))
    (λ g. ⊎_elim
    (λ k. inl (inr (g.0, k)))
    (λ k. inr (let first = g.0 in let rest = k.0 in cc, k.1))
    (before_cases q q' i j (omega arith) g.1))
    h

-- what a list of k + 1 numbers consists of
pub record Snoc (k : ℕ) (u : List ℕ) : Type 0 where
  pub front : List ℕ
  pub last : ℕ
  pub whole : u ≡ front ++ last ∷ []
  pub size : length front ≡ k

-- its front and its last number
pub snoc : (k : ℕ) (u : List ℕ) → length u ≡ suc k → Snoc k u
snoc k u e =
    record {
      front = take k u;
      last = get_or u k 0;
      whole = sym (take_all (suc k) u (omega arith)) ∙ take-suc u k 0 (omega arith);
      size = length-take-le k u (omega arith);
    }

-- ---- places in a list

-- a member stands at a place
pub place_of : {w : List ℕ} {l : List (List ℕ)} → Memᴰ w l → (i : ℕ) × (i < length l) × (get_or l i [] ≡ w)
place_of (Memᴰ.head e) = (0, omega arith, sym e)
place_of (Memᴰ.tail m) = let (i, h, e) = place_of m in (suc i, omega arith, e)

-- a list that rises
module _ (l : List (List ℕ)) (rises : Rising l) where
  -- the least member stands first
  pub first_place : (w : List ℕ) → Memᴰ w l → ((u : List ℕ) → Memᴰ u l → (u ≡ w) ⊎ Before w u)
      → get_or l 0 [] ≡ w
  first_place w m least =
      let (k, inside, at) = place_of m in
      ⊎_elim (λ e. e)
      (λ b. by_cases (ℕ_discrete k 0)
      (λ e. ap (λ i. get_or l i []) (sym e) ∙ at)
      (λ n. absurd (before_asym w (get_or l 0 []) b
      (subst (Before (get_or l 0 [])) at (rising_get_d_law l rises 0 k [] (omega arith) inside)))))
      (least (get_or l 0 []) (mem_get_d_law l 0 [] (omega arith)))

  module _ (i : ℕ) (inside : i < length l) where
    -- the least of the members behind stands next
    pub next_place : (w : List ℕ) → Memᴰ w l → Before (get_or l i []) w
        → ((u : List ℕ) → Memᴰ u l → Before (get_or l i []) u → (u ≡ w) ⊎ Before w u)
        → (i + 1 < length l) × (get_or l (i + 1) [] ≡ w)
    next_place w m after least =
        let (k, below, at) = place_of m in
        let more : i < k = by_cases (dec_le k i) (λ h. absurd (not_behind k at below h)) (λ h. omega arith) in
        (omega arith, same k below at more)
      where
        not_behind : (k : ℕ) → get_or l k [] ≡ w → k < length l → k ≤ i → ⊥
        not_behind k at below h =
            by_cases (ℕ_discrete k i)
            (λ e. before_irrefl w (subst (λ u. Before u w) (ap (λ j. get_or l j []) (sym e) ∙ at) after))
            (λ n. before_asym (get_or l i []) w after
            (subst (λ u. Before u (get_or l i [])) at (rising_get_d_law l rises k i [] (omega arith) inside)))

        same : (k : ℕ) → k < length l → get_or l k [] ≡ w → i < k → get_or l (i + 1) [] ≡ w
        same k below at more =
            ⊎_elim (λ e. e)
            (λ b. by_cases (ℕ_discrete k (i + 1))
            (λ e. ap (λ j. get_or l j []) (sym e) ∙ at)
            (λ n. absurd (before_asym w (get_or l (i + 1) []) b
            (subst (Before (get_or l (i + 1) [])) at (rising_get_d_law l rises (i + 1) k [] (omega arith) below)))))
            (least (get_or l (i + 1) []) (mem_get_d_law l (i + 1) [] (omega arith))
            (rising_get_d_law l rises i (i + 1) [] (omega arith) (omega arith)))

    -- where no member stands behind, none stands next
    pub last_place : ((u : List ℕ) → Memᴰ u l → Before (get_or l i []) u → ⊥) → length l ≤ i + 1
    last_place none_behind =
        by_cases (dec_le (length l) (i + 1)) (λ h. h)
        (λ h. absurd (none_behind (get_or l (i + 1) []) (mem_get_d_law l (i + 1) [] (omega arith))
        (rising_get_d_law l rises i (i + 1) [] (omega arith) (omega arith))))

-- ---- the member with which a buffer begins

-- the index is the place of a member with which the buffer begins
pub index_inv : (l : List (List ℕ)) (b : List ℕ) (i : ℕ) → index_in l b ≡ some i
    → (i < length l) × (get_or l i [] ≡ take (length (get_or l i [])) b)
unfolding index_in
index_inv [] b i e = absurd (let z : ◌≡◌ {A = ℕ} 0 1 = cc in omega arith)
index_inv (w ∷ l) b i e = go (same_numbers w (take (length w) b)) refl e (index_inv l b)
  where
    go : (c : Bool) → same_numbers w (take (length w) b) ≡ c → cond c (some 0) (map suc (index_in l b)) ≡ some i
        → ((j : ℕ) → index_in l b ≡ some j → (j < length l) × (get_or l j [] ≡ take (length (get_or l j [])) b))
        → (i < length (w ∷ l)) × (get_or (w ∷ l) i [] ≡ take (length (get_or (w ∷ l) i [])) b)
    go true q e ih =
        let here : 0 ≡ i = cc in
        rw (← here) (omega arith, (same_numbers_law w (take (length w) b)).0 q)
    go false q e ih =
        let (j, there, next) = (map-eq-some_iff suc (index_in l b)).0 e in
        let (inside, at) = ih j there in
        rw (← next) (omega arith, at)

holds_map : (o : Option ℕ) → holds (map suc o) (λ i. true) ≡ holds o (λ i. true)
unfolding holds
holds_map none = refl
holds_map (some i) = refl

-- a buffer that begins with a member has an index
pub index_some : (b : List ℕ) {w : List ℕ} {l : List (List ℕ)} → Memᴰ w l → w ≡ take (length w) b
    → holds (index_in l b) (λ i. true) ≡ true
unfolding index_in holds
index_some b {w = w} (Memᴰ.head {x = v} e) begins =
    rw ((same_numbers_law v (take (length v) b)).1 (subst (λ u. u ≡ take (length u) b) e begins))
index_some b {w = w} (Memᴰ.tail {x = v} {xs = m} mem) begins =
    go (same_numbers v (take (length v) b)) (index_some b mem begins)
  where
    go : (c : Bool) → holds (index_in m b) (λ i. true) ≡ true
        → holds (cond c (some 0) (map suc (index_in m b))) (λ i. true) ≡ true
    go true e = refl
    go false e = holds_map (index_in m b) ∙ e
