-- Tables as a whole: places apart, what merging, sending and settling leave at each place and beyond the named part.
-- Assumes nothing.
use Prim.Native.Nat.{ℕ, zero, suc, ◌+◌, ◌*◌, ◌/◌, ◌%◌, ◌<◌, ◌≤◌, min}
use native.Mathlib.Omega.{arith}
use native.Mathlib.Decide.{dec_lt, ℕ_discrete}
use mathlib.Core.Path.{◌≡◌, refl, sym, ap, ◌∙◌}
use mathlib.Core.Logic.{◌≢◌, by_cases}
use lib.Arith.{digits_div, digits_mod}
use lib.ListN.{length, get_or, length-set}
use lib.Seq.{drop-set-lt, get_or-set_same}
use Rattle.counting.proofs.Fewest.{plus}
use Rattle.entries.proofs.EntryLaws.{entry_merge}
use Rattle.reach_entries.specs.Table.{Table, merged_table, sent_table, settled_table, TakenIn}
use Rattle.reach_entries.specs.Pass.{Beyond}
use Rattle.reach_entries.proofs.MergeLaws.{sent_some, sent_none, merged_hops_length, merged_counts_length}
use Rattle.reach_entries.proofs.EntryLaws.{EntryAt, merged_other_hops, merged_other_counts}

-- ---- places

pub slots_apart : (v r w u width : ℕ) → r < width → u < width → r ≢ u → v * width + r ≢ w * width + u
slots_apart v r w u width h k ne e = ne (sym (digits_mod v h) ∙ ap (λ i. i % width) e ∙ digits_mod w k)

pub stations_apart : (v r w u width : ℕ) → r < width → u < width → v ≢ w → v * width + r ≢ w * width + u
stations_apart v r w u width h k ne e = ne (sym (digits_div v h) ∙ ap (λ i. i / width) e ∙ digits_div w k)

-- an entry that is as it was
pub entry_kept :
    {N : ℕ → ℕ} (x y : Table) (i : ℕ) → get_or y.hops i 0 ≡ get_or x.hops i 0 → get_or y.counts i 0 ≡ get_or x.counts i 0 →
    EntryAt N x i → EntryAt N y i
entry_kept x y i h c e = rw (h, c) e

-- ---- beyond the named part

pub beyond_refl : (k : ℕ) (x : Table) → Beyond k x x
beyond_refl k x = record { hops = refl; counts = refl; hops_length = refl; counts_length = refl }

pub beyond_then : (k : ℕ) (x y z : Table) → Beyond k x y → Beyond k y z → Beyond k x z
beyond_then k x y z b c =
    record {
      hops = c.hops ∙ b.hops;
      counts = c.counts ∙ b.counts;
      hops_length = c.hops_length ∙ b.hops_length;
      counts_length = c.counts_length ∙ b.counts_length;
    }

pub beyond_merged : (k : ℕ) (x y : Table) (at l d : ℕ) → at < k → Beyond k x y → Beyond k x (merged_table y at l d)
unfolding merged_table
beyond_merged k x y at l d h b =
    record {
      hops = drop-set-lt k y.hops at _ h ∙ b.hops;
      counts = drop-set-lt k y.counts at _ h ∙ b.counts;
      hops_length = length-set y.hops at _ ∙ b.hops_length;
      counts_length = length-set y.counts at _ ∙ b.counts_length;
    }

pub beyond_sent : (k : ℕ) (x y z : Table) (v at : ℕ) → at < k → Beyond k x y → Beyond k x (sent_table y z v at)
beyond_sent k x y z v at h b =
    by_cases (dec_lt (get_or z.hops v 0) 65535)
    (λ some. rw (sent_some y z v at some) (beyond_merged k x y at _ _ h b))
    (λ none. rw (sent_none y z v at (omega arith)) b)

-- ---- an appearance taken into a station's entry

module _ (x y : Table) where
  pub merged_taken :
      (v at : ℕ) → v < length y.hops → v < length y.counts →
      TakenIn x y (merged_table y v (get_or x.hops at 0) (get_or x.counts at 0)) v at
  unfolding merged_table
  merged_taken v at h c =
      record { hops = get_or-set_same y.hops v _ 0 h; count = get_or-set_same y.counts v _ 0 c }

  -- it stays where the entry does
  pub taken_kept :
      (z w : Table) (v at : ℕ) → get_or w.hops v 0 ≡ get_or z.hops v 0 → get_or w.counts v 0 ≡ get_or z.counts v 0 →
      TakenIn x y z v at → TakenIn x y w v at
  taken_kept z w v at h c t = record { hops = h ∙ t.hops; count = c ∙ t.count }

  -- and is so from an equal entry
  pub taken_from :
      (z w : Table) (v at : ℕ) → get_or z.hops v 0 ≡ get_or y.hops v 0 → get_or z.counts v 0 ≡ get_or y.counts v 0 →
      TakenIn x z w v at → TakenIn x y w v at
  taken_from z w v at h c t =
      record {
        hops = t.hops ∙ ap (λ a. min a (get_or x.hops at 0)) h;
        count = t.count ∙ rw (h, c);
      }

  -- the entry then holds the sum with the appearance
  pub entry_taken :
      (z : Table) (v at : ℕ) (N M : ℕ → ℕ) → EntryAt N y v → EntryAt M x at → TakenIn x y z v at → EntryAt (plus N M) z v
  entry_taken z v at N M e f t = rw (t.hops, t.count) (entry_merge N M _ _ _ _ e f)

-- ---- settling

module _ (width u : ℕ) (x : Table) where
  -- a station before those that are settled is as it was
  settled_before_hops :
      (y : Table) (v k w : ℕ) → w < v → get_or (settled_table width u x y v k).hops w 0 ≡ get_or y.hops w 0
  unfolding settled_table
  settled_before_hops y v zero w h = refl
  settled_before_hops y v (suc k) w h =
      settled_before_hops (merged_table y v (get_or x.hops (v * width + u) 0) (get_or x.counts (v * width + u) 0)) (v + 1) k w (omega arith) ∙ merged_other_hops y v _ _ w (λ e. omega arith)

  settled_before_counts :
      (y : Table) (v k w : ℕ) → w < v → get_or (settled_table width u x y v k).counts w 0 ≡ get_or y.counts w 0
  unfolding settled_table
  settled_before_counts y v zero w h = refl
  settled_before_counts y v (suc k) w h =
      settled_before_counts (merged_table y v (get_or x.hops (v * width + u) 0) (get_or x.counts (v * width + u) 0)) (v + 1) k w (omega arith) ∙ merged_other_counts y v _ _ w (λ e. omega arith)

  -- a station that is settled has its appearance of the slot taken in
  pub settled_taken :
      (y : Table) (v k w : ℕ) → v ≤ w → w < v + k → v + k ≤ length y.hops → v + k ≤ length y.counts →
      TakenIn x y (settled_table width u x y v k) w (w * width + u)
  unfolding settled_table
  settled_taken y v zero w low high h c = absurd (omega arith)
  settled_taken y v (suc k) w low high h c =
      let next = merged_table y v (get_or x.hops (v * width + u) 0) (get_or x.counts (v * width + u) 0) in
      by_cases (ℕ_discrete w v)
      (λ same.
      taken_kept x y next (settled_table width u x next (v + 1) k) w (w * width + u)
      (settled_before_hops next (v + 1) k w (omega arith)) (settled_before_counts next (v + 1) k w (omega arith))
      (rw same (merged_taken x y v (v * width + u) (omega arith) (omega arith))))
      (λ other.
      let hl = merged_hops_length y v (get_or x.hops (v * width + u) 0) (get_or x.counts (v * width + u) 0) in
      let cl = merged_counts_length y v (get_or x.hops (v * width + u) 0) (get_or x.counts (v * width + u) 0) in
      taken_from x y next (settled_table width u x next (v + 1) k) w (w * width + u)
      (merged_other_hops y v _ _ w other) (merged_other_counts y v _ _ w other)
      (settled_taken next (v + 1) k w (omega arith) (omega arith) (omega arith) (omega arith)))

  -- so it holds the sum with it
  pub entry_settled :
      (N M : ℕ → ℕ) (y : Table) (v k w : ℕ) → v ≤ w → w < v + k → v + k ≤ length y.hops → v + k ≤ length y.counts →
      EntryAt N y w → EntryAt M x (w * width + u) → EntryAt (plus N M) (settled_table width u x y v k) w
  entry_settled N M y v k w low high h c e f =
      entry_taken x y (settled_table width u x y v k) w (w * width + u) N M e f (settled_taken y v k w low high h c)

  pub beyond_settled :
      (m : ℕ) (z y : Table) (v k : ℕ) → v + k ≤ m → Beyond m z y → Beyond m z (settled_table width u x y v k)
  unfolding settled_table
  beyond_settled m z y v zero h b = b
  beyond_settled m z y v (suc k) h b =
      beyond_settled m z (merged_table y v (get_or x.hops (v * width + u) 0) (get_or x.counts (v * width + u) 0)) (v + 1) k (omega arith) (beyond_merged m z y v _ _ (omega arith) b)
