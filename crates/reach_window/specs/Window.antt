-- The pass where readings go stale: before a record is folded in, what its sender may send on in its slot is gathered in the sender's
-- entry of the stations' table; at the end that table is made of all slots. Definitions only.
-- Assumes nothing.
use Rattle.std.specs.Prelude.{ℕ, zero, suc, ◌+◌, ◌-◌, ◌*◌, get_or, set, replicate}
use Rattle.temporal.specs.Plan.{Contact, window_first, window_end}
use Rattle.temporal.specs.Outcome.{over}
use Rattle.reach_entries.specs.Table.{Table, table_of, merged_table, folded_table, settled_table}
use Rattle.reach_entries.specs.Pass.{Tables}

-- k appearances of station v, from slot t on, are taken into its entry
unfoldable pub gathered : ℕ → Table → ℕ → Table → ℕ → ℕ → Table
gathered width x v y t zero = y
gathered width x v y t (suc k) =
    gathered width x v (merged_table y v (get_or x.hops (v * width + t) 0) (get_or x.counts (v * width + t) 0)) (t + 1) k

-- the entry of station v has no walks
unfoldable pub emptied_entry : Table → ℕ → Table
emptied_entry y v = table_of (set y.hops v 65535) (set y.counts v 0)

-- the entry of station v has what may be sent on in slot u: the start's walks, and those of the window
unfoldable pub window_table : ℕ → ℕ → ℕ → Table → ℕ → ℕ → Table → Table
window_table width g h x v u y =
    gathered width x v (gathered width x v (emptied_entry y v) 0 1) (window_first h u) (window_end g u - window_first h u)

-- a contact is folded in
unfoldable pub window_folded : ℕ → ℕ → ℕ → Tables → Contact → Tables
window_folded width g h x c =
    let y = window_table width g h x.appearances c.sender c.slot x.stations in
    record { appearances = folded_table width x.appearances y c; stations = y }

-- the stations' entries have no walks
unfoldable pub emptied_stations : ℕ → Table → Table
emptied_stations n y = table_of (over (replicate n 65535) y.hops) (over (replicate n 0) y.counts)

-- the appearances of k slots from slot u on are taken into the stations' entries
unfoldable pub settled_slots : ℕ → ℕ → Table → Table → ℕ → ℕ → Table
settled_slots n width x y u zero = y
settled_slots n width x y u (suc k) = settled_slots n width x (settled_table width u x y 0 n) (u + 1) k
