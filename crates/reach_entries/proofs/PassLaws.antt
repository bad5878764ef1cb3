-- What the begin of the pass and its end leave, from what the functions that they call leave. Assumes nothing.
use Prim.Native.Nat.{ℕ, ◌*◌}
use mathlib.Core.Path.{◌≡◌}
use mathlib.Core.List.{List}
use lib.ListN.{set, replicate}
use Rattle.temporal.specs.Outcome.{over}
use Rattle.reach_entries.specs.Pass.{Tables, tables_of, begun_tables}

module _ (n width : ℕ) (x : Tables) (h c sh sc : List ℕ) where
  pub begun_by :
      (s : ℕ) → h ≡ over (replicate (n * width) 65535) x.appearances.hops →
      c ≡ over (replicate (n * width) 0) x.appearances.counts →
      sh ≡ over (replicate n 65535) x.stations.hops → sc ≡ over (replicate n 0) x.stations.counts →
      tables_of (set h (s * width) 0) (set c (s * width) 1) (set sh s 0) (set sc s 1) ≡ begun_tables n width s x
  unfolding begun_tables
  begun_by s e f g k = cc
