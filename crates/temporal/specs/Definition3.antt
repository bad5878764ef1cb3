-- Document 000's own definition of a temporal path (Def. 3), for comparison with is_path. Definitions only.
-- Assumes nothing.
use Rattle.std.specs.Prelude.{ℕ, Bool, ◌&&◌, List, [], ◌∷◌}
use Rattle.temporal.specs.Lists.{distinct}
use Rattle.temporal.specs.Plan.{Plan, Appearance, start}
use Rattle.temporal.specs.Walk.{run, last_or, stations_of, holds, is_at}

-- the starting points of the transitions of a run from x, in turn
unfoldable pub starting_points : Appearance → List Appearance → List ℕ
starting_points x [] = []
starting_points x (y ∷ l) = x.station ∷ starting_points y l

-- the endpoints of its transitions, in turn
abbrev pub endpoints : List Appearance → List ℕ
endpoints l = stations_of l

-- w is a walk from s to z such that every station is starting point of at most one transition and endpoint of at most
-- one. A closed walk may end where it began, so for s = z this is wider than is_path.
unfoldable pub is_path000 : Plan → ℕ → ℕ → List ℕ → Bool
is_path000 p s z w =
    holds (run p (start s) w)
    (λ l. is_at z (last_or (start s) l) && (distinct (starting_points (start s) l) && distinct (endpoints l)))
