-- An entry against a sequence of numbers of walks by hops: it holds the fewest hops and the number there. Merged, two
-- entries hold those of the sum; sent on, those of the sequence one hop later. An entry that overflows is of a sequence
-- with more than 2^64 - 1 at its fewest hops. Assumes nothing.
use Prim.Native.Nat.{ℕ, zero, suc, ◌+◌, ◌<◌, ◌≤◌, min}
use native.Mathlib.Omega.{arith}
use native.Mathlib.Decide.{dec_le}
use native.Mathlib.Numerals.{add-one}
use mathlib.Core.Path.{◌≡◌, refl, sym, ap, subst, ◌∙◌}
use mathlib.Core.Bool.{Bool, true, false, and-eq-true_iff}
use mathlib.Core.Logic.{◌⊎◌, inl, inr, ⊎_elim, by_cases}
use borrow.Author.Tests.{ltb-true, eqb-true, lt-ltb, eq-eqb}
use lib.Dec.{ltb, eqb}
use Rattle.counting.proofs.Fewest.{Fewest, plus, delayed, fewest_none, fewest_ext, fewest_unique, fewest_plus}
use Rattle.counting.proofs.Fewest.{fewest_delayed, plus_first, plus_second}
use Rattle.entries.specs.Entry.{stored, merged_count, overflows}
use Rattle.entries.proofs.CountLaws.{count_fewer, count_equal, count_more, stored_small, stored_large}
use Rattle.entries.proofs.CountLaws.{stored_add, stored_none}

-- h is the fewest hops of a sequence, and c its number there as an entry holds it
pub record Entry (N : ℕ → ℕ) (h c : ℕ) : Type 0 where
  pub fewest : Fewest N h
  pub count : c ≡ stored (N h)

-- the entry of no walks
pub entry_none : (N : ℕ → ℕ) → ((k : ℕ) → N k ≡ 0) → Entry N 65535 0
entry_none N z = record { fewest = fewest_none z; count = sym (ap stored (z 65535) ∙ stored_small 0 (omega arith)) }

-- sequences that agree have the same entry
pub entry_ext : {N M : ℕ → ℕ} {h c : ℕ} → ((k : ℕ) → N k ≡ M k) → Entry N h c → Entry M h c
entry_ext {h = h} e x = record { fewest = fewest_ext e x.fewest; count = x.count ∙ ap stored (e h) }

-- ---- merging

-- one of two numbers is less, or they are equal
pub compare : (h l : ℕ) → (l < h) ⊎ ((l ≡ h) ⊎ (h < l))
compare h l =
    by_cases (dec_le (suc l) h) inl (λ a. inr (by_cases (dec_le (suc h) l) inr (λ b. inl (omega arith))))

module _ (N M : ℕ → ℕ) (h c l d : ℕ) (x : Entry N h c) (y : Entry M l d) where
  merged_count_law : merged_count h c l d ≡ stored (plus N M (min h l))
  unfolding plus
  merged_count_law =
      ⊎_elim (λ (q : l < h).
      let e : min h l ≡ l = omega arith in
      count_fewer h c l d q ∙ y.count ∙ rw e (ap stored (sym (plus_second N M x.fewest (λ k. omega arith) q))))
      (⊎_elim (λ (q : l ≡ h).
      let e : min h l ≡ h = omega arith in
      count_equal h c l d q ∙ rw (x.count, y.count, e, q)
      (by_cases (dec_le 65535 h)
      (λ none. let top : h ≡ 65535 = let b = x.fewest.bound in omega arith in
      stored_none (N h) (M h) (x.fewest.never top h) (y.fewest.never (q ∙ top) h))
      (λ some. stored_add (N h) (M h) (x.fewest.some (omega arith))
      (subst (λ k. 0 < M k) q (y.fewest.some (omega arith))))))
      (λ (q : h < l).
      let e : min h l ≡ h = omega arith in
      count_more h c l d q ∙ x.count ∙ rw e (ap stored (sym (plus_first N M y.fewest (λ k. omega arith) q)))))
      (compare h l)

  -- two entries merged are the entry of the sum
  pub entry_merge : Entry (plus N M) (min h l) (merged_count h c l d)
  entry_merge = record { fewest = fewest_plus x.fewest y.fewest; count = merged_count_law }

-- adding none changes nothing
pub plus_none : (N M : ℕ → ℕ) (k : ℕ) → M k ≡ 0 → N k ≡ plus N M k
unfolding plus
plus_none N M k z = omega arith

-- ---- one hop later

-- one hop later a sequence has what it had
pub delayed_at : (N : ℕ → ℕ) (h : ℕ) → delayed N (h + 1) ≡ N h
unfolding delayed
delayed_at N h = rw add-one

-- none are none one hop later
pub delayed_zero : {N : ℕ → ℕ} → ((k : ℕ) → N k ≡ 0) → (k : ℕ) → delayed N k ≡ 0
unfolding delayed
delayed_zero z zero = refl
delayed_zero z (suc k) = z k

-- an entry one hop later
pub entry_later : (N : ℕ → ℕ) (h c : ℕ) → h + 1 < 65535 → Entry N h c → Entry (delayed N) (h + 1) c
entry_later N h c few x =
    record { fewest = fewest_delayed x.fewest few; count = x.count ∙ ap stored (sym (delayed_at N h)) }

-- ---- counts over 2^64 - 1

-- at its fewest hops a sequence has more than 2^64 - 1
pub record Large (N : ℕ → ℕ) : Type 0 where
  pub hops : ℕ
  pub fewest : Fewest N hops
  pub large : 18446744073709551615 < N hops

-- it has no more
pub record Small (N : ℕ → ℕ) : Type 0 where
  pub small : (h : ℕ) → Fewest N h → N h ≤ 18446744073709551615

module _ {N : ℕ → ℕ} {h c : ℕ} (x : Entry N h c) where
  -- an entry that overflows is of a large sequence
  pub overflow_large : overflows h c ≡ true → Large N
  unfolding overflows
  overflow_large e =
      let (there, none) = (and-eq-true_iff (ltb h 65535) (eqb c 0)).0 e in
      let some = x.fewest.some (ltb-true h 65535 there) in
      let zero_stored : stored (N h) ≡ 0 = sym x.count ∙ eqb-true c 0 none in
      record {
        hops = h;
        fewest = x.fewest;
        large = by_cases (dec_le (N h) 18446744073709551615)
            (λ s. absurd (let same = stored_small (N h) s in omega arith)) (λ s. omega arith);
      }

  -- one that does not is of a small one
  pub overflow_small : overflows h c ≡ false → Small N
  unfolding overflows
  overflow_small e =
      record { small = λ l f. subst (λ k. N k ≤ 18446744073709551615) (fewest_unique x.fewest f) at_h }
    where
      at_h : N h ≤ 18446744073709551615
      at_h =
          by_cases (dec_le (N h) 18446744073709551615) (λ s. s) (λ s. absurd (
          let over : c ≡ 0 = x.count ∙ stored_large (N h) (omega arith) in
          by_cases (dec_le 65535 h)
          (λ top. let z = x.fewest.never (let q = x.fewest.bound in omega arith) h in omega arith)
          (λ there.
          let both : overflows h c ≡ true = rw (lt-ltb h 65535 (omega arith), eq-eqb c 0 over) in
          let z : ◌≡◌ {A = Bool} true false = sym both ∙ e in let y : ◌≡◌ {A = ℕ} 0 1 = cc in omega arith)))
