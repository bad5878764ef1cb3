-- A list without one entry, and the lists of positions that leave that entry out: those of the shorter list, each position moved to
-- where its entry stands in the longer one. They know nothing of plans.
-- Assumes nothing.
use Prim.Native.Nat.{ℕ, zero, suc, ◌+◌, ◌≤◌, ◌<◌}
use mathlib.Core.Path.{◌≡◌, refl, sym, ap, ap₂, ◌∙◌, fun_ext}
use mathlib.Core.Bool.{Bool, true, false, not, cond, ◌||◌}
use mathlib.Core.List.{List, [], ◌∷◌, ◌++◌, map, flat_map, map-map, map-append}
use mathlib.Core.Logic.{by_cases}
use native.Mathlib.Decide.{dec_lt}
use native.Mathlib.Nat.{suc-add}
use native.Mathlib.Omega.{arith}
use borrow.Author.Tests.{lt-ltb, le-ltb, eq-eqb, ne_eqb}
use lib.Dec.{eqb}
use lib.ListN.{length, get_elem?}
use Rattle.temporal.specs.Lists.{from, below, select, any, member, tuples}
use Rattle.temporal.specs.Struck.{lacking, position_with}
use Rattle.lists.proofs.ListLaws.{mem_from, select_none, select_map, select_flat_map_law}
use Rattle.walks.proofs.SetLaws.{select_all}

-- ---- one position

-- a position before the entry stays
pub position_before : (i j : ℕ) → j < i → position_with i j ≡ j
unfolding position_with
position_before i j h = rw (lt-ltb j i h)

-- one from the entry on is one further
pub position_after : (i j : ℕ) → i ≤ j → position_with i j ≡ j + 1
unfolding position_with
position_after i j h = rw (le-ltb j i h)

with_after : (i j : ℕ) → i ≤ j → position_with i j ≡ suc j
with_after i j h = position_after i j h ∙ omega arith

-- both move together
with_suc : (i j : ℕ) → position_with (suc i) (suc j) ≡ suc (position_with i j)
with_suc i j =
    by_cases (dec_lt j i)
    (λ h. position_before (suc i) (suc j) (omega arith) ∙ ap suc (sym (position_before i j h)))
    (λ n. with_after (suc i) (suc j) (omega arith) ∙ ap suc (sym (with_after i j (omega arith))))

-- positions after the entry
with_from : (i j n : ℕ) → i ≤ j → map (position_with i) (from j n) ≡ from (suc j) n
unfolding from
with_from i j zero h = refl
with_from i j (suc n) h = ap₂ ◌∷◌ (with_after i j h) (with_from i (suc j) n (omega arith))

module _ {A : Type 0} where
  -- without its first entry a list is its rest
  lacking_first : (x : A) (l : List A) → lacking 0 1 (x ∷ l) ≡ l
  unfolding lacking
  lacking_first x l = refl

  -- without a later one it keeps its first
  lacking_later : (i : ℕ) (x : A) (l : List A) → lacking (suc i) 1 (x ∷ l) ≡ x ∷ lacking i 1 l
  unfolding lacking
  lacking_later i x l = rw suc-add

  -- an empty list lacks nothing
  lacking_empty : (i : ℕ) → lacking {A = A} i 1 [] ≡ []
  unfolding lacking
  lacking_empty zero = refl
  lacking_empty (suc i) = rw suc-add

  -- what stands at a position of the shorter list stands in the longer one at the position with the entry
  pub lacking_position : (i : ℕ) (l : List A) (j : ℕ) → get_elem? (lacking i 1 l) j ≡ get_elem? l (position_with i j)
  lacking_position i [] j = rw lacking_empty
  lacking_position zero (x ∷ l) j = rw (lacking_first x l, with_after 0 j (omega arith))
  lacking_position (suc i) (x ∷ l) zero = rw (lacking_later i x l, position_before (suc i) 0 (omega arith))
  lacking_position (suc i) (x ∷ l) (suc j) = rw (lacking_later i x l, with_suc i j) (lacking_position i l j)

  -- the positions from a on, but c, which is the i-th of them
  lacking_from : (c a i : ℕ) (l : List A) → c ≡ a + i
      → select (λ j. not (eqb c j)) (from a (length l)) ≡ map (position_with c) (from a (length (lacking i 1 l)))
  unfolding select from
  lacking_from c a i [] e = rw lacking_empty
  lacking_from c a zero (x ∷ l) e =
      rw (eq-eqb c a (omega arith), lacking_first x l)
      (select_all (λ j. not (eqb c j)) (from (suc a) (length l))
      (λ j m. let h = (mem_from (suc a) (length l)).0 m in ap not (ne_eqb c j (omega arith)))
      ∙ sym (with_from c a (length l) (omega arith)))
  lacking_from c a (suc i) (x ∷ l) e =
      rw (ne_eqb c a (omega arith), lacking_later i x l)
      (ap₂ ◌∷◌ (sym (position_before c a (omega arith))) (lacking_from c (suc a) i l (omega arith)))

  -- the positions of a list but one are those of the list without that entry
  pub lacking_below : (i : ℕ) (l : List A)
      → select (λ j. not (eqb i j)) (below (length l)) ≡ map (position_with i) (below (length (lacking i 1 l)))
  unfolding below
  lacking_below i l = lacking_from i 0 i l (omega arith)

-- ---- lists of positions

module _ {A B : Type 0} where
  -- lists that are joined behind a test are those of the selection
  flat_map_guarded_law : (t : A → Bool) (h : A → List B) (l : List A)
      → flat_map (λ x. cond (t x) (h x) []) l ≡ flat_map h (select t l)
  unfolding flat_map select
  flat_map_guarded_law t h [] = refl
  flat_map_guarded_law t h (x ∷ l) = rw (flat_map_guarded_law t h l) (step (t x))
    where
      step : (c : Bool) → cond c (h x) [] ++ flat_map h (select t l) ≡ flat_map h (cond c (x ∷ select t l) (select t l))
      step true = refl
      step false = refl

-- two maps pass a joining of lists
flat_map_moved_law : {A B C D : Type 0} (f : A → B) (f' : C → D) (g : A → List C) (h : B → List D)
    → ((x : A) → h (f x) ≡ map f' (g x))
    → (l : List A) → flat_map h (map f l) ≡ map f' (flat_map g l)
unfolding flat_map
flat_map_moved_law f f' g h e [] = refl
flat_map_moved_law f f' g h e (x ∷ l) =
    ap₂ ◌++◌ (e x) (flat_map_moved_law f f' g h e l) ∙ sym (map-append f' (g x) (flat_map g l))

module _ (i m n : ℕ) (positions : select (λ j. not (eqb i j)) (below m) ≡ map (position_with i) (below n)) where
  -- those that begin with position j
  tuples_first : (k j : ℕ) → select (λ w. not (member i w)) (tuples m k) ≡ map (map (position_with i)) (tuples n k)
      → select (λ w. not (member i w)) (map (◌∷◌ j) (tuples m k))
      ≡ cond (not (eqb i j)) (map (◌∷◌ j) (map (map (position_with i)) (tuples n k))) []
  unfolding member any
  tuples_first k j ih = select_map (λ w. not (member i w)) (◌∷◌ j) (tuples m k) ∙ step (eqb i j)
    where
      step : (c : Bool) → map (◌∷◌ j) (select (λ w. not (c || any (eqb i) w)) (tuples m k))
          ≡ cond (not c) (map (◌∷◌ j) (map (map (position_with i)) (tuples n k))) []
      step true = ap (map (◌∷◌ j)) (select_none (tuples m k) (λ w there. refl))
      step false = ap (map (◌∷◌ j)) ih

  -- the lists of k positions without i are those of the shorter list
  pub tuples_without : (k : ℕ) → select (λ w. not (member i w)) (tuples m k) ≡ map (map (position_with i)) (tuples n k)
  unfolding tuples select member any
  tuples_without zero = refl
  tuples_without (suc k) =
      select_flat_map_law (λ w. not (member i w)) (λ j. map (◌∷◌ j) (tuples m k)) (below m)
      ∙ ap (λ f. flat_map f (below m)) (fun_ext (λ j. tuples_first k j (tuples_without k)))
      ∙ flat_map_guarded_law (λ j. not (eqb i j)) (λ j. map (◌∷◌ j) (map (map (position_with i)) (tuples n k))) (below m)
      ∙ ap (flat_map (λ j. map (◌∷◌ j) (map (map (position_with i)) (tuples n k)))) positions
      ∙ flat_map_moved_law (position_with i) (map (position_with i)) (λ j. map (◌∷◌ j) (tuples n k))
      (λ j. map (◌∷◌ j) (map (map (position_with i)) (tuples n k)))
      (λ j. map-map (◌∷◌ (position_with i j)) (map (position_with i)) (tuples n k)
      ∙ sym (map-map (map (position_with i)) (◌∷◌ j) (tuples n k)))
      (below n)
