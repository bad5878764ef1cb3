-- Entries of a table against sequences of numbers of walks: what they are after a merge and after a send. Assumes nothing.
use Prim.Native.Nat.{ℕ, ◌+◌, ◌<◌}
use native.Mathlib.Omega.{arith}
use native.Mathlib.Decide.{dec_lt}
use mathlib.Core.Path.{◌≡◌}
use mathlib.Core.Logic.{◌≢◌, by_cases}
use lib.ListN.{length, get_or}
use lib.Seq.{get_or-set_same, get_or-set_other}
use Rattle.counting.proofs.Fewest.{plus, delayed}
use Rattle.entries.proofs.EntryLaws.{Entry, entry_ext, entry_merge, entry_later, plus_none, delayed_zero}
use Rattle.reach_entries.specs.Table.{Table, merged_table, sent_table}
use Rattle.reach_entries.proofs.MergeLaws.{sent_some, sent_none}

-- the entry of a table at i
abbrev pub EntryAt : (ℕ → ℕ) → Table → ℕ → Type 0
EntryAt N x i = Entry N (get_or x.hops i 0) (get_or x.counts i 0)

module _ (x : Table) (at l d : ℕ) where
  -- the place merged at holds the sum
  pub entry_merged :
      (N M : ℕ → ℕ) → at < length x.hops → at < length x.counts → EntryAt N x at → Entry M l d →
      EntryAt (plus N M) (merged_table x at l d) at
  unfolding merged_table
  entry_merged N M h c e f =
      rw (get_or-set_same x.hops at _ 0 h, get_or-set_same x.counts at _ 0 c) (entry_merge N M _ _ l d e f)

  -- every other place is as it was
  pub merged_other_hops : (i : ℕ) → i ≢ at → get_or (merged_table x at l d).hops i 0 ≡ get_or x.hops i 0
  unfolding merged_table
  merged_other_hops i ne = get_or-set_other x.hops at i _ 0 ne

  pub merged_other_counts : (i : ℕ) → i ≢ at → get_or (merged_table x at l d).counts i 0 ≡ get_or x.counts i 0
  unfolding merged_table
  merged_other_counts i ne = get_or-set_other x.counts at i _ 0 ne

module _ (x y : Table) (v at : ℕ) where
  -- the place sent to holds the sum with what the station has, one hop later
  pub entry_sent :
      (N M : ℕ → ℕ) → at < length x.hops → at < length x.counts →
      (get_or y.hops v 0 < 65535 → get_or y.hops v 0 + 1 < 65535) → EntryAt N x at → EntryAt M y v →
      EntryAt (plus N (delayed M)) (sent_table x y v at) at
  entry_sent N M h c few e f =
      by_cases (dec_lt (get_or y.hops v 0) 65535)
      (λ some.
      rw (sent_some x y v at some)
      (entry_merged x at (get_or y.hops v 0 + 1) (get_or y.counts v 0) N (delayed M) h c e
      (entry_later M _ _ (few some) f)))
      (λ none.
      let bound = f.fewest.bound in
      rw (sent_none x y v at (omega arith))
      (entry_ext (λ k. plus_none N (delayed M) k (delayed_zero (f.fewest.never (omega arith)) k)) e))

  -- every other place is as it was
  pub sent_other_hops : (i : ℕ) → i ≢ at → get_or (sent_table x y v at).hops i 0 ≡ get_or x.hops i 0
  sent_other_hops i ne =
      by_cases (dec_lt (get_or y.hops v 0) 65535)
      (λ some. rw (sent_some x y v at some) (merged_other_hops x at _ _ i ne))
      (λ none. rw (sent_none x y v at (omega arith)))

  pub sent_other_counts : (i : ℕ) → i ≢ at → get_or (sent_table x y v at).counts i 0 ≡ get_or x.counts i 0
  sent_other_counts i ne =
      by_cases (dec_lt (get_or y.hops v 0) 65535)
      (λ some. rw (sent_some x y v at some) (merged_other_counts x at _ _ i ne))
      (λ none. rw (sent_none x y v at (omega arith)))
