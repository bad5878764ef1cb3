-- Sets of stations: the shortest walks that have a member of a set inside. Definitions only.
-- Assumes nothing.
use Rattle.std.specs.Prelude.{ℕ, Bool, ◌&&◌, List, length}
use Rattle.temporal.specs.Lists.{below, any, select}
use Rattle.temporal.specs.Plan.{Plan}
use Rattle.temporal.specs.Walk.{is_interior}
use Rattle.temporal.specs.Shortest.{shortest_walks_to}

-- Whether the walk w from s to z has some station inside that passes the test m, the membership of a set of stations:
-- document 02's "at least one member inside" (C-12). An end is never inside.
unfoldable pub touches : Plan → ℕ → ℕ → (ℕ → Bool) → List ℕ → Bool
touches p s z m w = any (λ v. m v && is_interior p s z v w) (below p.stations)

-- How many members of a list of walks from s to z have some member of the set inside. A walk through two members counts once.
abbrev pub touched_in : Plan → ℕ → ℕ → List (List ℕ) → (ℕ → Bool) → ℕ
touched_in p s z l m = length (select (touches p s z m) l)

-- How many shortest walks from s to z have some member inside: document 02's answer for a pair and a set (C-12). For the set
-- of one station it is document 01's through count.
unfoldable pub touched : Plan → ℕ → ℕ → (ℕ → Bool) → ℕ
touched p s z m = touched_in p s z (shortest_walks_to p s z) m
