-- The shortest lists grown hop by hop: only walks are gone on with, so that figures of small plans can be computed. They are the
-- shortest lists of the definitions.
-- Assumes nothing.
use Prim.Native.Nat.{ℕ, zero, suc, ◌+◌}
use mathlib.Core.Path.{◌≡◌, refl, sym, ap, ◌∙◌, fun_ext}
use mathlib.Core.Bool.{Bool, true, false, ◌&&◌}
use mathlib.Core.List.{List, [], ◌∷◌, map, flat_map}
use mathlib.Core.Option.{Option, none, some}
use lib.ListN.{length}
use Rattle.temporal.specs.Lists.{below, select, tuples}
use Rattle.temporal.specs.Plan.{Plan, Appearance, start}
use Rattle.temporal.specs.Walk.{step, holds, ends_in, is_at, is_walk_to, is_appearance, is_walk}
use Rattle.temporal.specs.Shortest.{first_nonempty, of_hops, shortest, shortest_walks, shortest_walks_to}
use Rattle.temporal.specs.Shortest.{through}
use Rattle.temporal.specs.Load.{pairs_below, partial_pairs, pairs, share, partial_load, load, pairs_by, load_by}
use Rattle.lists.proofs.ListLaws.{select_none, select_select, select_map, select_flat_map_law}
use Rattle.walks.proofs.WalkLaws.{ends_cons, ends_inv, ends_intro, ends_nil}

-- what follows where there is a next appearance; nothing where there is none
unfoldable pub onward : Option Appearance → (Appearance → List (List ℕ)) → List (List ℕ)
onward none f = []
onward (some y) f = f y

-- the walks of k hops from x, in lexicographic order
unfoldable pub grown : Plan → Appearance → ℕ → List (List ℕ)
grown p x zero = [] ∷ []
grown p x (suc k) =
    flat_map (λ i. onward (step p x i) (λ y. map (◌∷◌ i) (grown p y k))) (below (length p.contacts))

-- the shortest that pass a test, of the walks from s alone
unfoldable pub grown_shortest : Plan → ℕ → (List ℕ → Bool) → List (List ℕ)
grown_shortest p s t = first_nonempty (λ k. select t (grown p (start s) k)) (below (p.slots + 1))

-- ---- the walks among all lists of positions

-- whether w is a walk from x
abbrev runs : Plan → Appearance → List ℕ → Bool
runs p x = ends_in p x (λ y. true)

module _ (p : Plan) where
  -- those that begin with position i
  grown_first : (x : Appearance) (k i : ℕ)
      → ((y : Appearance) → select (runs p y) (tuples (length p.contacts) k) ≡ grown p y k)
      → select (runs p x) (map (◌∷◌ i) (tuples (length p.contacts) k))
      ≡ onward (step p x i) (λ y. map (◌∷◌ i) (grown p y k))
  unfolding holds onward
  grown_first x k i ih =
      select_map (runs p x) (◌∷◌ i) (tuples (length p.contacts) k)
      ∙ ap (λ t. map (◌∷◌ i) (select t (tuples (length p.contacts) k))) (fun_ext (λ w. ends_cons p x (λ y. true) i w))
      ∙ go (step p x i)
    where
      go : (o : Option Appearance)
          → map (◌∷◌ i) (select (λ w. holds o (λ y. runs p y w)) (tuples (length p.contacts) k))
          ≡ onward o (λ y. map (◌∷◌ i) (grown p y k))
      go none = ap (map (◌∷◌ i)) (select_none (tuples (length p.contacts) k) (λ w m. refl))
      go (some y) = ap (map (◌∷◌ i)) (ih y)

  pub grown_walks_law : (x : Appearance) (k : ℕ) → select (runs p x) (tuples (length p.contacts) k) ≡ grown p x k
  unfolding tuples select grown
  grown_walks_law x zero = rw (ends_nil p x (λ y. true))
  grown_walks_law x (suc k) =
      select_flat_map_law (runs p x) (λ i. map (◌∷◌ i) (tuples (length p.contacts) k)) (below (length p.contacts))
      ∙ ap (λ f. flat_map f (below (length p.contacts))) (fun_ext (λ i. grown_first x k i (λ y. grown_walks_law y k)))

  -- a test that only walks from s pass
  module _ (s : ℕ) (t : List ℕ → Bool) (walks : (w : List ℕ) → t w ≡ true → runs p (start s) w ≡ true) where
    pub grown_shortest_law : shortest p t ≡ grown_shortest p s t
    unfolding shortest of_hops grown_shortest
    grown_shortest_law =
        ap (λ f. first_nonempty f (below (p.slots + 1))) (fun_ext (λ k.
        ap (λ u. select u (tuples (length p.contacts) k)) (fun_ext same)
        ∙ sym (select_select t (runs p (start s)) (tuples (length p.contacts) k))
        ∙ ap (select t) (grown_walks_law (start s) k)))
      where
        same : (w : List ℕ) → t w ≡ (runs p (start s) w && t w)
        same w = go (t w) refl
          where
            false_and : (b : Bool) → false ≡ (b && false)
            false_and true = refl
            false_and false = refl

            go : (b : Bool) → t w ≡ b → b ≡ (runs p (start s) w && b)
            go true e = sym (rw (walks w e))
            go false e = false_and (runs p (start s) w)

-- the shortest walks to an appearance, and those of a pair
pub grown_appearance : (p : Plan) (s v u : ℕ) → shortest_walks p s v u ≡ grown_shortest p s (is_walk p s v u)
unfolding shortest_walks is_walk
grown_appearance p s v u =
    grown_shortest_law p s (ends_in p (start s) (is_appearance v u)) (λ w e.
    let r = ends_inv p (start s) (is_appearance v u) w e in ends_intro p (start s) (λ y. true) w r.runs refl)

pub grown_pair : (p : Plan) (s z : ℕ) → shortest_walks_to p s z ≡ grown_shortest p s (is_walk_to p s z)
unfolding shortest_walks_to
grown_pair p s z =
    grown_shortest_law p s (is_walk_to p s z) (λ w e.
    let r = ends_inv p (start s) (is_at z) w e in ends_intro p (start s) (λ y. true) w r.runs refl)

-- ---- as functions, and what is made of them

-- the lists of appearances and of pairs, grown
unfoldable pub grown_walks : Plan → ℕ → ℕ → ℕ → List (List ℕ)
grown_walks p s v u = grown_shortest p s (is_walk p s v u)

unfoldable pub grown_walks_to : Plan → ℕ → ℕ → List (List ℕ)
grown_walks_to p s z = grown_shortest p s (is_walk_to p s z)

pub walks_grown : (p : Plan) → shortest_walks p ≡ grown_walks p
unfolding grown_walks
walks_grown p = fun_ext (λ s. fun_ext (λ v. fun_ext (λ u. grown_appearance p s v u)))

pub walks_to_grown : (p : Plan) → shortest_walks_to p ≡ grown_walks_to p
unfolding grown_walks_to
walks_to_grown p = fun_ext (λ s. fun_ext (λ z. grown_pair p s z))

pub pairs_by_law : (p : Plan) (v : ℕ) → pairs p v ≡ length (pairs_by p (grown_walks_to p) v)
unfolding partial_pairs pairs_below through pairs_by
pairs_by_law p v = ap (λ P. length (pairs_by p P v)) (walks_to_grown p)

pub load_by_law : (p : Plan) (v : ℕ) → load p v ≡ load_by p (grown_walks_to p) v
unfolding partial_load share pairs_below through pairs_by load_by
load_by_law p v = ap (λ P. load_by p P v) (walks_to_grown p)
