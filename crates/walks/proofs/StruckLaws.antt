-- The shortest walks of a plan without one record. They are its walks with the record, but for those that use the contact, with later
-- positions moved. So a pair whose shortest walks do not use it keeps its hops, its count and its through counts; one whose do has more
-- hops or fewer walks.
-- Assumes nothing.
use Prim.Native.Nat.{ℕ, zero, suc, ◌+◌, ◌≤◌, ◌<◌}
use mathlib.Core.Path.{◌≡◌, refl, sym, ap, ap₂, ◌∙◌, fun_ext}
use mathlib.Core.Bool.{Bool, true, false, not, cond, ◌&&◌, ◌||◌, or-true, and_comm}
use mathlib.Core.List.{List, [], ◌∷◌, map, Memᴰ}
use mathlib.Core.Logic.{◌⊎◌, inl, inr}
use mathlib.Core.Option
use mathlib.Core.Option.{bind}
use native.Mathlib.Numerals.{add-one}
use native.Mathlib.Omega.{arith}
use borrow.Author.Tests.{lt-ltb, le-ltb, eq-eqb, ne_eqb}
use lib.Dec.{ltb, eqb}
use lib.ListN.{length, length-map}
use Rattle.temporal.specs.Lists.{from, below, select, any, member, tuples}
use Rattle.temporal.specs.Plan.{Plan, Appearance, start, may_follow}
use Rattle.temporal.specs.Walk.{along, step, run, stations_of, holds, last_or, ends_in, is_at, is_walk_to, is_interior}
use Rattle.temporal.specs.Shortest.{or_else, first_nonempty, of_hops, shortest, shortest_walks_to, hops, count, through}
use Rattle.temporal.specs.Struck.{lacking, struck_out, uses, position_with}
use Rattle.lists.proofs.ListLaws.{not_both, any_false, select_select, select_map}
use Rattle.walks.proofs.LackingPositions.{lacking_position, lacking_below, tuples_without}
use Rattle.walks.proofs.WalkLaws.{ends_nil}
use Rattle.walks.proofs.SetLaws.{select_all}
use Rattle.walks.proofs.ShortestLaws.{mem_of_hops_law}
use Rattle.walks.proofs.FewLaws.{select_shorter}

-- ---- the walks of each number of hops

module _ (p : Plan) (i : ℕ) where
  -- a step of the plan without the record is one of the plan with it, at the position with it
  step_struck : (x : Appearance) (j : ℕ) → step (struck_out p i) x j ≡ step p x (position_with i j)
  unfolding step along may_follow struck_out
  step_struck x j = ap (λ c. bind c (along p x)) (lacking_position i p.contacts j)

  -- so is a run
  run_struck : (x : Appearance) (w : List ℕ) → run (struck_out p i) x w ≡ run p x (map (position_with i) w)
  unfolding run
  run_struck x [] = refl
  run_struck x (j ∷ w) = ap₂ bind (step_struck x j) (fun_ext (λ y. ap (Option.map (◌∷◌ y)) (run_struck y w)))

  module _ (s z : ℕ) where
    -- a walk of the one is a walk of the other
    walk_struck : (w : List ℕ) → is_walk_to (struck_out p i) s z w ≡ is_walk_to p s z (map (position_with i) w)
    unfolding ends_in
    walk_struck w = ap (λ r. holds r (λ l. is_at z (last_or (start s) l))) (run_struck (start s) w)

    -- with the same stations inside
    interior_struck : (v : ℕ) (w : List ℕ) → is_interior (struck_out p i) s z v w ≡ is_interior p s z v (map (position_with i) w)
    unfolding is_interior
    interior_struck v w =
        ap (λ r. not (eqb v s) && (not (eqb v z) && holds r (λ l. member v (stations_of l)))) (run_struck (start s) w)

    -- of each number of hops, the walks that do not use the contact are the walks of the plan without the record
    pub of_hops_struck_law : (k : ℕ)
        → select (λ w. not (member i w)) (of_hops p (is_walk_to p s z) k)
        ≡ map (map (position_with i)) (of_hops (struck_out p i) (is_walk_to (struck_out p i) s z) k)
    unfolding of_hops struck_out
    of_hops_struck_law k =
        let all = tuples (length p.contacts) k in
        let left = tuples (length (lacking i 1 p.contacts)) k in
        select_select (λ w. not (member i w)) (is_walk_to p s z) all
        ∙ ap (λ t. select t all) (fun_ext (λ w. and_comm (is_walk_to p s z w) (not (member i w))))
        ∙ sym (select_select (is_walk_to p s z) (λ w. not (member i w)) all)
        ∙ ap (select (is_walk_to p s z)) (tuples_without i _ _ (lacking_below i p.contacts) k)
        ∙ select_map (is_walk_to p s z) (map (position_with i)) left
        ∙ ap (λ t. map (map (position_with i)) (select t left)) (fun_ext (λ w. sym (walk_struck w)))

-- ---- the first lists that are not empty

-- what does not pass is fewer where some member passes
select_fewer : (t : List ℕ → Bool) (l : List (List ℕ)) → any t l ≡ true → length (select (λ w. not (t w)) l) < length l
unfolding any select
select_fewer t [] e = absurd (not_both e refl)
select_fewer t (w ∷ l) e = go (t w) e (select_shorter (λ w. not (t w)) l) (select_fewer t l)
  where
    go : (c : Bool) → (c || any t l) ≡ true → length (select (λ w. not (t w)) l) ≤ length l
        → (any t l ≡ true → length (select (λ w. not (t w)) l) < length l)
        → length (cond (not c) (w ∷ select (λ w. not (t w)) l) (select (λ w. not (t w)) l)) < suc (length l)
    go true q most ih = omega arith
    go false q most ih = let fewer = ih q in omega arith

-- lists of lists of k positions each, for every k
abbrev OfLength : (ℕ → List (List ℕ)) → Type 0
OfLength g = (k : ℕ) (w : List ℕ) → Memᴰ w (g k) → length w ≡ k

-- the first that is not empty from k on has k hops at least
hops_from : (g : ℕ → List (List ℕ)) → OfLength g → (k n : ℕ) → k + n ≤ 65535 → k ≤ hops (first_nonempty g (from k n))
unfolding first_nonempty from hops or_else
hops_from g size k zero room = omega arith
hops_from g size k (suc n) room = go (g k) (size k) (hops_from g size (suc k) n (omega arith))
  where
    go : (a : List (List ℕ)) → ((w : List ℕ) → Memᴰ w a → length w ≡ k) → suc k ≤ hops (first_nonempty g (from (suc k) n))
        → k ≤ hops (or_else a (first_nonempty g (from (suc k) n)))
    go [] here later = omega arith
    go (w ∷ a) here later = let same = here w (Memᴰ.head refl) in omega arith

-- the lists g k, each member moved, are the lists f k without the members that pass t
module _ (t : List ℕ → Bool) (moved : List ℕ → List ℕ) (f g : ℕ → List (List ℕ))
    (without : (k : ℕ) → select (λ w. not (t w)) (f k) ≡ map moved (g k)) where
  -- where none of the first of f passes, the first of g is the same
  first_unused : (ks : List ℕ) → any t (first_nonempty f ks) ≡ false → map moved (first_nonempty g ks) ≡ first_nonempty f ks
  unfolding first_nonempty or_else select
  first_unused [] none = refl
  first_unused (k ∷ ks) none = go (f k) (g k) (without k) none (first_unused ks)
    where
      go : (a b : List (List ℕ)) → select (λ w. not (t w)) a ≡ map moved b → any t (or_else a (first_nonempty f ks)) ≡ false
          → (any t (first_nonempty f ks) ≡ false → map moved (first_nonempty g ks) ≡ first_nonempty f ks)
          → map moved (or_else b (first_nonempty g ks)) ≡ or_else a (first_nonempty f ks)
      go [] [] e none ih = ih none
      go [] (u ∷ b) e none ih = absurd (let z = ap length e in omega arith)
      go (w ∷ a) b e none ih =
          whole b (sym e ∙ select_all (λ w. not (t w)) (w ∷ a) (λ u m. ap not ((any_false t (w ∷ a)).0 none u m)))
        where
          whole : (b : List (List ℕ)) → map moved b ≡ w ∷ a → map moved (or_else b (first_nonempty g ks)) ≡ w ∷ a
          whole [] q = absurd (let z = ap length q in omega arith)
          whole (u ∷ b) q = q

  -- where one passes, the first of g has more hops or fewer members
  first_used : OfLength f → OfLength g → (k n : ℕ) → k + n ≤ 65535 → any t (first_nonempty f (from k n)) ≡ true
      → (hops (first_nonempty f (from k n)) < hops (first_nonempty g (from k n)))
      ⊎ (count (first_nonempty g (from k n)) < count (first_nonempty f (from k n)))
  unfolding first_nonempty from or_else select any hops
  first_used size size' k zero room some = absurd (not_both some refl)
  first_used size size' k (suc n) room some =
      go (f k) (g k) (without k) (size k) some (hops_from g size' (suc k) n (omega arith))
      (first_used size size' (suc k) n (omega arith))
    where
      go : (a b : List (List ℕ)) → select (λ w. not (t w)) a ≡ map moved b → ((w : List ℕ) → Memᴰ w a → length w ≡ k)
          → any t (or_else a (first_nonempty f (from (suc k) n))) ≡ true
          → suc k ≤ hops (first_nonempty g (from (suc k) n))
          → (any t (first_nonempty f (from (suc k) n)) ≡ true
          → (hops (first_nonempty f (from (suc k) n)) < hops (first_nonempty g (from (suc k) n)))
          ⊎ (count (first_nonempty g (from (suc k) n)) < count (first_nonempty f (from (suc k) n))))
          → (hops (or_else a (first_nonempty f (from (suc k) n))) < hops (or_else b (first_nonempty g (from (suc k) n))))
          ⊎ (count (or_else b (first_nonempty g (from (suc k) n))) < count (or_else a (first_nonempty f (from (suc k) n))))
      go [] [] e here some later ih = ih some
      go [] (u ∷ b) e here some later ih = absurd (let z = ap length e in omega arith)
      go (w ∷ a) [] e here some later ih = let same = here w (Memᴰ.head refl) in inl (omega arith)
      go (w ∷ a) (u ∷ b) e here some later ih =
          inr (omega (arith, select_fewer t (w ∷ a) some, ap length e, length-map b moved))

-- ---- a pair

module _ (p : Plan) (i s z : ℕ) where
  -- A pair that does not use the contact keeps its shortest walks, with later positions moved.
  pub unused_walks : uses p i s z ≡ false
      → map (map (position_with i)) (shortest_walks_to (struck_out p i) s z) ≡ shortest_walks_to p s z
  unfolding uses shortest_walks_to shortest struck_out
  unused_walks none =
      first_unused (member i) (map (position_with i)) (of_hops p (is_walk_to p s z))
      (of_hops (struck_out p i) (is_walk_to (struck_out p i) s z)) (of_hops_struck_law p i s z) (below (p.slots + 1)) none

  -- so it keeps its hops
  pub unused_hops : uses p i s z ≡ false → hops (shortest_walks_to (struck_out p i) s z) ≡ hops (shortest_walks_to p s z)
  unfolding hops
  unused_hops none = same (shortest_walks_to (struck_out p i) s z) ∙ ap hops (unused_walks none)
    where
      same : (l : List (List ℕ)) → hops l ≡ hops (map (map (position_with i)) l)
      same [] = refl
      same (w ∷ l) = sym (length-map w (position_with i))

  -- and its count
  pub unused_count : uses p i s z ≡ false → count (shortest_walks_to (struck_out p i) s z) ≡ count (shortest_walks_to p s z)
  unused_count none =
      sym (length-map (shortest_walks_to (struck_out p i) s z) (map (position_with i))) ∙ ap length (unused_walks none)

  -- and its through counts
  pub unused_through : (v : ℕ) → uses p i s z ≡ false → through (struck_out p i) s z v ≡ through p s z v
  unfolding through
  unused_through v none =
      let l = shortest_walks_to (struck_out p i) s z in
      ap (λ t. length (select t l)) (fun_ext (λ w. interior_struck p i s z v w))
      ∙ sym (length-map (select (λ w. is_interior p s z v (map (position_with i) w)) l) (map (position_with i)))
      ∙ ap length (sym (select_map (is_interior p s z v) (map (position_with i)) l))
      ∙ ap (λ m. length (select (is_interior p s z v) m)) (unused_walks none)

  -- A pair that uses it has more hops, 65535 where no walk is left, or fewer walks.
  pub used_worse : p.slots < 65535 → uses p i s z ≡ true
      → (hops (shortest_walks_to p s z) < hops (shortest_walks_to (struck_out p i) s z))
      ⊎ (count (shortest_walks_to (struck_out p i) s z) < count (shortest_walks_to p s z))
  unfolding uses shortest_walks_to shortest struck_out below
  used_worse few some =
      first_used (member i) (map (position_with i)) (of_hops p (is_walk_to p s z))
      (of_hops (struck_out p i) (is_walk_to (struck_out p i) s z)) (of_hops_struck_law p i s z)
      (λ k w m. ((mem_of_hops_law p (is_walk_to p s z) k).0 m).0)
      (λ k w m. ((mem_of_hops_law (struck_out p i) (is_walk_to (struck_out p i) s z) k).0 m).0)
      0 (p.slots + 1) (omega arith) some

  -- so a test of hops and counts that fails where both are the same, and passes in either case, is whether the pair uses it
  decided : (b : Bool) (t : ℕ → ℕ → ℕ → ℕ → Bool)
      → ((h c : ℕ) → t h h c c ≡ false)
      → ((h h' c c' : ℕ) → (h < h') ⊎ (c' < c) → t h h' c c' ≡ true)
      → p.slots < 65535
      → uses p i s z ≡ b
      → b ≡ t (hops (shortest_walks_to p s z)) (hops (shortest_walks_to (struck_out p i) s z))
      (count (shortest_walks_to p s z)) (count (shortest_walks_to (struck_out p i) s z))
  decided false t same other few none = rw (unused_hops none, unused_count none) (sym (same _ _))
  decided true t same other few some = sym (other _ _ _ _ (used_worse few some))

  -- A pair uses the contact exactly where it has more hops without it, or fewer walks.
  pub uses_exactly : p.slots < 65535
      → uses p i s z
      ≡ (ltb (hops (shortest_walks_to p s z)) (hops (shortest_walks_to (struck_out p i) s z)) ||
      ltb (count (shortest_walks_to (struck_out p i) s z)) (count (shortest_walks_to p s z)))
  uses_exactly few = decided (uses p i s z) (λ h h' c c'. ltb h h' || ltb c' c) same other few refl
    where
      same : (h c : ℕ) → (ltb h h || ltb c c) ≡ false
      same h c = rw (le-ltb h h (omega arith), le-ltb c c (omega arith))

      other : (h h' c c' : ℕ) → (h < h') ⊎ (c' < c) → (ltb h h' || ltb c' c) ≡ true
      other h h' c c' (inl more) = rw (lt-ltb h h' more)
      other h h' c c' (inr fewer) = rw (lt-ltb c' c fewer) (or-true (ltb h h'))

  -- exactly where its hops or its count differ
  pub uses_differs : p.slots < 65535
      → uses p i s z
      ≡ not (eqb (hops (shortest_walks_to p s z)) (hops (shortest_walks_to (struck_out p i) s z)) &&
      eqb (count (shortest_walks_to p s z)) (count (shortest_walks_to (struck_out p i) s z)))
  uses_differs few = decided (uses p i s z) (λ h h' c c'. not (eqb h h' && eqb c c')) same other few refl
    where
      same : (h c : ℕ) → not (eqb h h && eqb c c) ≡ false
      same h c = rw (eq-eqb h h refl, eq-eqb c c refl)

      other : (h h' c c' : ℕ) → (h < h') ⊎ (c' < c) → not (eqb h h' && eqb c c') ≡ true
      other h h' c c' (inl more) = rw (ne_eqb h h' (omega arith))
      other h h' c c' (inr fewer) = rw (ne_eqb c c' (omega arith)) (ap not (and_comm (eqb h h') false))

-- from a station to itself the only shortest walk is the empty one, which uses no contact
pub uses_itself : (p : Plan) (i s : ℕ) → uses p i s s ≡ false
unfolding uses shortest_walks_to shortest first_nonempty below from of_hops tuples select or_else any member
uses_itself p i s = rw (add-one p.slots, ends_nil p (start s) (is_at s), eq-eqb s s refl)
