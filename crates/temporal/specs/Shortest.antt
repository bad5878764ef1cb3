-- Shortest walks and paths: whole lists of them, picked out of all lists of positions. Definitions only.
-- Assumes nothing.
use Rattle.std.specs.Prelude.{ℕ, ◌+◌, Bool, List, [], ◌∷◌, length}
use Rattle.temporal.specs.Lists.{below, select, tuples}
use Rattle.temporal.specs.Plan.{Plan}
use Rattle.temporal.specs.Walk.{is_walk_to, is_walk, is_path, is_interior}

-- the first list, or the second where the first is empty
unfoldable pub or_else : List (List ℕ) → List (List ℕ) → List (List ℕ)
or_else [] m = m
or_else (w ∷ l) m = w ∷ l

-- the first of f k, over the numbers k of a list in turn, that is not empty; empty where all are
unfoldable pub first_nonempty : (ℕ → List (List ℕ)) → List ℕ → List (List ℕ)
first_nonempty f [] = []
first_nonempty f (k ∷ ks) = let r = first_nonempty f ks in or_else (f k) r

-- all lists of k positions of a plan that pass a test, in lexicographic order
unfoldable pub of_hops : Plan → (List ℕ → Bool) → ℕ → List (List ℕ)
of_hops p t k = select t (tuples (length p.contacts) k)

-- Those of the fewest hops that pass a test, all of them, each once, in lexicographic order. No walk of an accepted plan has
-- more hops than the plan has slots (Adequacy), so 0, 1, .., slots are tried.
unfoldable pub shortest : Plan → (List ℕ → Bool) → List (List ℕ)
shortest p t = first_nonempty (of_hops p t) (below (p.slots + 1))

-- The shortest walks from s to the appearance (v, t): document 01's least chains to an appearance.
unfoldable pub shortest_walks : Plan → ℕ → ℕ → ℕ → List (List ℕ)
shortest_walks p s v t = shortest p (is_walk p s v t)

-- The shortest walks from s to station z, in whatever slot: the complete list of a pair, document 02's least chains (C-21). Empty
-- where there is no walk. Where nothing goes stale they are the shortest paths below (Adequacy).
unfoldable pub shortest_walks_to : Plan → ℕ → ℕ → List (List ℕ)
shortest_walks_to p s z = shortest p (is_walk_to p s z)

-- The shortest paths from s to z: document 01's least ways, document 002's shortest temporal paths (section 2). Where
-- nothing goes stale they are also shortest among walks, as document 000 has it (Def. 4; Adequacy). Empty where there is no path.
unfoldable pub shortest_paths : Plan → ℕ → ℕ → List (List ℕ)
shortest_paths p s z = shortest p (is_path p s z)

-- The hops of the members of such a list, document 01's legs, document 002's length of a path; 65535 where it is empty.
unfoldable pub hops : List (List ℕ) → ℕ
hops [] = 65535
hops (w ∷ l) = length w

-- How many a list has, document 01's count, documents 000's and 002's sigma_sz; 0 where it is empty.
abbrev pub count : List (List ℕ) → ℕ
count l = length l

-- How many members of a list of walks from s to z have v inside; a walk counts once, however often it visits v.
abbrev pub through_in : Plan → ℕ → ℕ → List (List ℕ) → ℕ → ℕ
through_in p s z l v = length (select (is_interior p s z v) l)

-- How many shortest walks from s to z have v inside: document 01's through count, document 002's sigma_sz(v).
-- 0 at v = s and at v = z.
unfoldable pub through : Plan → ℕ → ℕ → ℕ → ℕ
through p s z v = through_in p s z (shortest_walks_to p s z) v
