-- The entry of a through count, from comparisons of numbers, and what it is after a pass. Assumes nothing.
use Prim.Native.Nat.{ℕ, ◌+◌, ◌-◌, ◌*◌, ◌<◌, ◌≤◌}
use native.Mathlib.Omega.{arith}
use mathlib.Core.Path.{◌≡◌, refl, subst, ◌∙◌}
use native.Mathlib.Decide.{ℕ_discrete}
use mathlib.Core.Logic.{◌≢◌, by_cases}
use mathlib.Core.List.{List}
use borrow.Author.Tests.{eq-eqb, ne_eqb}
use lib.ListN.{length, get_or, set, length-set}
use lib.Seq.{get_or-set_same, get_or-set_other, drop-set-lt}
use Rattle.pair.specs.Throughs.{through_entry, StoredBlock}

module _ (work : List ℕ) (n z low block j : ℕ) where
  pub entry_itself : low + j ≡ z → through_entry work n z low block j ≡ 0
  unfolding through_entry
  entry_itself h = rw (eq-eqb (low + j) z h)

  pub entry_no_path : low + j ≢ z → get_or work z 0 ≡ 65535 → through_entry work n z low block j ≡ 0
  unfolding through_entry
  entry_no_path ne h = rw (ne_eqb (low + j) z ne, eq-eqb (get_or work z 0) 65535 h)

  pub entry_rest :
      low + j ≢ z → get_or work z 0 ≢ 65535 →
      through_entry work n z low block j ≡ get_or work (n + z) 0 - get_or work (2 * n + z * block + j) 0
  unfolding through_entry
  entry_rest ne h = rw (ne_eqb (low + j) z ne, ne_eqb (get_or work z 0) 65535 h)

-- ---- a block stored entry by entry

module _ (n z low block : ℕ) (work old : List ℕ) where
  pub stored_none : StoredBlock n z low block 0 work old old
  stored_none =
      record { here = λ j h. absurd (omega arith); before = λ v h. refl; beyond = refl; same_length = refl }

  pub stored_more :
      (j : ℕ) (now : List ℕ) (x : ℕ) → j < block → low + block ≤ n → n ≤ length old →
      x ≡ through_entry work n z low block j → StoredBlock n z low block j work old now →
      StoredBlock n z low block (j + 1) work old (set now (low + j) x)
  stored_more j now x inside stations fits e s =
      let size = s.same_length in
      record {
        here = λ i h.
            by_cases (ℕ_discrete i j)
            (λ q. rw q (get_or-set_same now (low + j) x 0 (omega arith) ∙ e))
            (λ ne. get_or-set_other now (low + j) (low + i) x 0 (λ q. omega arith) ∙ s.here i (omega arith));
        before = λ v h. get_or-set_other now (low + j) v x 0 (λ q. omega arith) ∙ s.before v h;
        beyond = drop-set-lt n now (low + j) x (omega arith) ∙ s.beyond;
        same_length = length-set now (low + j) x ∙ s.same_length;
      }

  pub stored_all :
      (j : ℕ) (now : List ℕ) → j ≤ block → block ≤ j → StoredBlock n z low block j work old now →
      StoredBlock n z low block block work old now
  stored_all j now low' high s =
      let all : j ≡ block = omega arith in
      subst (λ k. StoredBlock n z low block k work old now) all s
