-- Shortest foremost paths: the earliest slot in which a destination is reached, and the walks that reach it then with the
-- fewest hops. Definitions only.
-- Assumes nothing.
use Rattle.std.specs.Prelude.{ℕ, ◌+◌, Bool, ◌&&◌, List, leb, ltb}
use Rattle.temporal.specs.Lists.{below, first_where}
use Rattle.temporal.specs.Plan.{Plan, Appearance, start}
use Rattle.temporal.specs.Walk.{ends_in, is_at}
use Rattle.temporal.specs.Shortest.{shortest, shortest_walks, count}

-- The earliest slot in which any walk from s reaches z: document 02's slot in which a reading arrives (C-14), the arrival
-- time of document 000's foremost walks (Def. 4). 65535 where no walk does.
unfoldable pub arrival : Plan → ℕ → ℕ → ℕ
arrival p s z = first_where 65535 (λ t. ltb 0 (count (shortest_walks p s z t))) (below (p.slots + 1))

-- The shortest foremost paths from s to z, document 000's Definition 11: of the walks that reach z in the earliest slot those
-- with the fewest hops, all of them, in lexicographic order. They are paths (ForemostLaws). Empty where there is no path.
unfoldable pub foremost_paths : Plan → ℕ → ℕ → List (List ℕ)
foremost_paths p s z = shortest_walks p s z (arrival p s z)

-- ---- for inner contracts

-- whether x is an appearance of station z in slot e or an earlier one
unfoldable pub arrives_by : ℕ → ℕ → Appearance → Bool
arrives_by z e x = is_at z x && leb x.slot e

-- The shortest of the walks from s that reach z by slot e. By the last slot they are the pair's complete list, by the
-- earliest in which z is reached the shortest foremost paths (ForemostLaws).
unfoldable pub walks_by : Plan → ℕ → ℕ → ℕ → List (List ℕ)
walks_by p s z e = shortest p (ends_in p (start s) (arrives_by z e))
