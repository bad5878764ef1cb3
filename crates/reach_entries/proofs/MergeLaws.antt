-- What merging an entry leaves, from comparisons of numbers. Assumes nothing.
use Prim.Native.Nat.{ℕ, suc, ◌+◌, ◌-◌, ◌*◌, ◌<◌, ◌≤◌}
use native.Mathlib.Omega.{arith}
use mathlib.Core.Path.{◌≡◌, refl, sym, ap, ◌∙◌}
use borrow.Author.Tests.{lt-ltb, le-ltb}
use lib.ListN.{length, get_or, length-set}
use Rattle.reach_entries.specs.Table.{Table, merged_table, sent_table, settled_table}

module _ (x y : Table) (v at : ℕ) where
  -- a station with walks sends them on
  pub sent_some :
      get_or y.hops v 0 < 65535 → sent_table x y v at ≡ merged_table x at (get_or y.hops v 0 + 1) (get_or y.counts v 0)
  unfolding sent_table
  sent_some h = rw (lt-ltb (get_or y.hops v 0) 65535 h)

  -- a station without walks sends nothing
  pub sent_none : 65535 ≤ get_or y.hops v 0 → sent_table x y v at ≡ x
  unfolding sent_table
  sent_none h = rw (le-ltb (get_or y.hops v 0) 65535 h)

-- ---- a table's settling, station by station

module _ (width u : ℕ) (x : Table) where
  pub settle_turn :
      (y : Table) (v n : ℕ) → v < n →
      settled_table width u x y v (n - v) ≡
      settled_table width u x (merged_table y v (get_or x.hops (v * width + u) 0) (get_or x.counts (v * width + u) 0)) (v + 1)
      (n - (v + 1))
  unfolding settled_table
  settle_turn y v n h = let more : n - v ≡ suc (n - (v + 1)) = omega arith in rw more

  pub settle_end : (y : Table) (v n : ℕ) → n ≤ v → settled_table width u x y v (n - v) ≡ y
  unfolding settled_table
  settle_end y v n h = let none : n - v ≡ 0 = omega arith in rw none

-- merging keeps the lengths
pub merged_hops_length : (x : Table) (at l d : ℕ) → length (merged_table x at l d).hops ≡ length x.hops
unfolding merged_table
merged_hops_length x at l d = length-set x.hops at _

pub merged_counts_length : (x : Table) (at l d : ℕ) → length (merged_table x at l d).counts ≡ length x.counts
unfolding merged_table
merged_counts_length x at l d = length-set x.counts at _

-- the stations below v of n are settled
pub record SettlingTable (width u n : ℕ) (x old : Table) (v : ℕ) (now : Table) : Type 0 where
  pub within : v ≤ n
  pub hops : length now.hops ≡ length old.hops
  pub counts : length now.counts ≡ length old.counts
  pub rest : settled_table width u x now v (n - v) ≡ settled_table width u x old 0 n

module _ (width u n : ℕ) (x old : Table) where
  pub settling_none : SettlingTable width u n x old 0 old
  settling_none =
      let same : n - 0 ≡ n = omega arith in
      record { within = omega arith; hops = refl; counts = refl; rest = ap (settled_table width u x old 0) same }

  pub settling_more :
      (v : ℕ) (now : Table) → v < n → SettlingTable width u n x old v now →
      SettlingTable width u n x old (v + 1)
      (merged_table now v (get_or x.hops (v * width + u) 0) (get_or x.counts (v * width + u) 0))
  settling_more v now h s =
      record {
        within = omega arith;
        hops = merged_hops_length now v _ _ ∙ s.hops;
        counts = merged_counts_length now v _ _ ∙ s.counts;
        rest = sym (settle_turn width u x now v n h) ∙ s.rest;
      }

  pub settling_all :
      (v : ℕ) (now : Table) → n ≤ v → SettlingTable width u n x old v now → now ≡ settled_table width u x old 0 n
  settling_all v now h s = sym (settle_end width u x now v n h) ∙ s.rest
