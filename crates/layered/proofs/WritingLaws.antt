-- Records written one behind another. They know nothing of plans. Assumes nothing.
use Prim.Native.Nat.{ℕ, zero, suc, ◌+◌, ◌-◌, ◌*◌, ◌≤◌, ◌<◌}
use native.Mathlib.Omega.{arith}
use native.Mathlib.Nat.{add-zero, zero-add}
use mathlib.Core.Path.{◌≡◌, refl, sym, ap, ap₂, ◌∙◌}
use mathlib.Core.List.{List, [], ◌∷◌, ◌++◌, flat_map, append_assoc}
use lib.ListN.{length, set, take, drop}
use lib.Seq.{sets, sets-eq, length-sets, drop-drop}
use borrow.Rule.Slice.PartMut.{put_mid}
use Rattle.temporal.specs.Lists.{from}
use Rattle.temporal.specs.Plan.{Contact}
use Rattle.layered.specs.Layered.{record_bytes, bytes_from}
use Rattle.layered.proofs.RecordLaws.{length_bytes}

-- ---- stores

-- stores of two lists, one behind the other
sets_append : (x y l : List ℕ) (i : ℕ) → sets (sets l i x) (i + length x) y ≡ sets l i (x ++ y)
sets_append [] y l i = ap (λ k. sets l k y) (add-zero i)
sets_append (a ∷ x) y l i =
    let e : i + suc (length x) ≡ suc i + length x = omega arith in
    ap (λ k. sets (sets (set l i a) (suc i) x) k y) e ∙ sets_append x y (set l i a) (suc i)

-- a copy of a record's bytes into their place stores them
pub put_record : (at : ℕ) (l part : List ℕ) (c : Contact) → at + 6 ≤ length l → part ≡ record_bytes c
    → put_mid at (at + 6 - at) l part ≡ sets l at (record_bytes c)
put_record at l part c fits e =
    let n : at + 6 - at ≡ 6 = omega arith in
    rw (e, n, drop-drop 6 at l) (sym (sets-eq (record_bytes c) l at fits ∙ append_assoc (take at l) (record_bytes c) (drop (at + 6) l)))

-- ---- records one behind another

module _ (f : ℕ → Contact) where
  bytes_append : (q k r : ℕ) → bytes_from f q (k + r) ≡ bytes_from f q k ++ bytes_from f (q + k) r
  unfolding from flat_map
  bytes_append q zero r = ap₂ (bytes_from f) (sym (add-zero q)) (zero-add r)
  bytes_append q (suc k) r =
      let more : suc k + r ≡ suc (k + r) = omega arith in
      let place : suc q + k ≡ q + suc k = omega arith in
      ap (bytes_from f q) more ∙
      ap (λ l. record_bytes (f q) ++ l) (bytes_append (suc q) k r ∙ ap (λ p. bytes_from f (suc q) k ++ bytes_from f p r) place)

  -- The records from a to before q are written: whoever writes those from q to before e here has written all from a to before e.
  pub record Written (old : List ℕ) (a e q : ℕ) (out : List ℕ) : Type 0 where
    pub begun : a ≤ q
    pub within : q ≤ e
    pub same_length : length out ≡ length old
    pub rest : sets out (q * 6) (bytes_from f q (e - q)) ≡ sets old (a * 6) (bytes_from f a (e - a))

  pub written_none : (old : List ℕ) (a e : ℕ) → a ≤ e → Written old a e a old
  written_none old a e h = record { begun = omega arith; within = h; same_length = refl; rest = refl }

  -- k records more
  pub written_more : (old : List ℕ) (a e q k : ℕ) (out : List ℕ) → q + k ≤ e → Written old a e q out
      → Written old a e (q + k) (sets out (q * 6) (bytes_from f q k))
  written_more old a e q k out h w =
      let x = bytes_from f q k in
      let r = e - (q + k) in
      let begun = w.begun in
      let size : length x ≡ k * 6 = length_bytes f q k in
      let place : (q + k) * 6 ≡ q * 6 + length x = omega arith in
      let left : k + r ≡ e - q = omega arith in
      record {
        begun = omega arith;
        within = h;
        same_length = length-sets out (q * 6) x ∙ w.same_length;
        rest =
            ap (λ i. sets (sets out (q * 6) x) i (bytes_from f (q + k) r)) place ∙
            sets_append x (bytes_from f (q + k) r) out (q * 6) ∙
            ap (sets out (q * 6)) (sym (bytes_append q k r)) ∙
            ap (λ j. sets out (q * 6) (bytes_from f q j)) left ∙ w.rest;
      }

  -- one record more
  pub written_next : (old : List ℕ) (a e q : ℕ) (out : List ℕ) → q < e → Written old a e q out
      → Written old a e (q + 1) (sets out (q * 6) (record_bytes (f q)))
  unfolding from flat_map
  written_next old a e q out h w = written_more old a e q 1 out (omega arith) w

  pub written_all : (old : List ℕ) (a e q : ℕ) (out : List ℕ) → e ≤ q → Written old a e q out
      → out ≡ sets old (a * 6) (bytes_from f a (e - a))
  unfolding from flat_map
  written_all old a e q out h w =
      let none : 0 ≡ e - q = omega arith in
      let here : out ≡ sets out (q * 6) (bytes_from f q 0) = refl in
      here ∙ ap (λ k. sets out (q * 6) (bytes_from f q k)) none ∙ w.rest
