-- The records of all stations, written one behind another: nothing stands between them, and they are those of the definition.
-- Assumes nothing.
use Prim.Native.Nat.{ℕ, zero, suc, ◌+◌, ◌-◌, ◌*◌, ◌<◌, ◌≤◌}
use native.Mathlib.Nat.{add-zero, zero-add}
use native.Mathlib.Omega.{arith}
use mathlib.Core.Path.{◌≡◌, refl, sym, ap, ap₂, ◌∙◌}
use mathlib.Core.List.{List, ◌++◌, flat_map, append_assoc}
use lib.ListN.{length, get_or, take, drop, length-append}
use lib.Seq.{sets, sets-eq, length-sets, take-append_seam, drop-append-add}
use Rattle.temporal.specs.Lists.{from, below}
use Rattle.temporal.specs.Plan.{Plan}
use Rattle.temporal.specs.Load.{pairs, load}
use Rattle.temporal.specs.Outcome.{over}
use Rattle.temporal.specs.Drawing.{drawn_record}
use Rattle.temporal.specs.OutcomeDrawn.{records_size, drawn_records}
use Rattle.drawing.proofs.ByteLaws.{sets_append}
use Rattle.drawing.proofs.RecordLaws.{length_drawn}
use Rattle.drawn.specs.Work.{entry_record, records_from}

module _ (ps ls : List ℕ) where
  length_records : (v k : ℕ) → length (records_from ps ls v k) ≡ 18 * k
  unfolding records_from
  length_records v zero = refl
  length_records v (suc k) =
      length-append (entry_record ps ls v) (records_from ps ls (suc v) k) ∙
      omega (arith, length_drawn v (get_or ls v 0) (get_or ps v 0), length_records (suc v) k)

  -- the records before station v are written: whoever writes the others here has written all
  pub record Written (old : List ℕ) (n v : ℕ) (records : List ℕ) : Type 0 where
    pub within : v ≤ n
    pub same_length : length records ≡ length old
    pub rest : sets records (18 * v) (records_from ps ls v (n - v)) ≡ sets old 0 (records_from ps ls 0 n)

  pub written_none : (old : List ℕ) (n : ℕ) → Written old n 0 old
  written_none old n =
      let all : n - 0 ≡ n = omega arith in
      record { within = omega arith; same_length = refl; rest = ap (λ k. sets old 0 (records_from ps ls 0 k)) all }

  pub written_next : (old : List ℕ) (n v : ℕ) (records : List ℕ) → v < n → Written old n v records →
      Written old n (v + 1) (sets records (18 * v) (entry_record ps ls v))
  unfolding records_from
  written_next old n v records h w =
      let x = entry_record ps ls v in
      let y = records_from ps ls (suc v) (n - suc v) in
      let left : n - v ≡ suc (n - suc v) = omega arith in
      let next : v + 1 ≡ suc v = omega arith in
      let size : length x ≡ 18 = length_drawn v (get_or ls v 0) (get_or ps v 0) in
      let place : 18 * suc v ≡ 18 * v + length x = omega arith in
      rw next
      (record {
        within = omega arith;
        same_length = length-sets records (18 * v) x ∙ w.same_length;
        rest =
            ap (λ i. sets (sets records (18 * v) x) i y) place ∙
            sets_append x y records (18 * v) ∙
            ap (λ k. sets records (18 * v) (records_from ps ls v k)) (sym left) ∙
            w.rest;
      })

  pub written_all : (old : List ℕ) (n v : ℕ) (records : List ℕ) → records_size n ≤ length old → n ≤ v → Written old n v records →
      records ≡ over (records_from ps ls 0 n) old
  unfolding records_from over
  written_all old n v records room h w =
      let none : 0 ≡ n - v = omega arith in
      let here : records ≡ sets records (18 * v) (records_from ps ls v 0) = refl in
      here ∙ ap (λ k. sets records (18 * v) (records_from ps ls v k)) none ∙
      w.rest ∙ sets-eq (records_from ps ls 0 n) old 0 (omega (arith, length_records 0 n)) ∙
      ap (λ k. records_from ps ls 0 n ++ drop k old) (zero-add (length (records_from ps ls 0 n)))

-- the entries are the pairs and the loads of the plan
module _ (p : Plan) (ps ls : List ℕ) (n : ℕ) (a : (v : ℕ) → v < n → get_or ps v 0 ≡ pairs p v)
    (b : (v : ℕ) → v < n → get_or ls v 0 ≡ load p v) where
  records_from_law : (v k : ℕ) → v + k ≤ n → records_from ps ls v k ≡ flat_map (λ u. drawn_record u (load p u) (pairs p u)) (from v k)
  unfolding records_from from flat_map
  records_from_law v zero h = refl
  records_from_law v (suc k) h =
      ap₂ ◌++◌ (ap₂ (λ x y. drawn_record v x y) (b v (omega arith)) (a v (omega arith))) (records_from_law (suc v) k (omega arith))

  pub records_all : n ≡ p.stations → records_from ps ls 0 n ≡ drawn_records p
  unfolding drawn_records below
  records_all e =
      records_from_law 0 n (omega arith) ∙ ap (λ k. flat_map (λ u. drawn_record u (load p u) (pairs p u)) (from 0 k)) e

-- ---- one record among all

module _ (f : ℕ → List ℕ) (size : (v : ℕ) → length (f v) ≡ 18) (rest : List ℕ) where
  part : (i k v : ℕ) → v < k → take 18 (drop (18 * v) (flat_map f (from i k) ++ rest)) ≡ f (i + v)
  unfolding flat_map from
  part i zero v h = absurd (omega arith)
  part i (suc k) zero h =
      let all = flat_map f (from (suc i) k) ++ rest in
      ap (λ l. take 18 l) (append_assoc (f i) (flat_map f (from (suc i) k)) rest) ∙
      ap (λ j. take j (f i ++ all)) (sym (size i)) ∙ take-append_seam (f i) all ∙ ap f (sym (add-zero i))
  part i (suc k) (suc v) h =
      let all = flat_map f (from (suc i) k) ++ rest in
      let place : 18 * suc v ≡ length (f i) + 18 * v = omega (arith, size i) in
      let next : suc i + v ≡ i + suc v = omega arith in
      ap (λ j. take 18 (drop j (flat_map f (from i (suc k)) ++ rest))) place ∙
      ap (λ l. take 18 (drop (length (f i) + 18 * v) l)) (append_assoc (f i) (flat_map f (from (suc i) k)) rest) ∙
      ap (λ l. take 18 l) (drop-append-add (f i) all (18 * v)) ∙ part (suc i) k v (omega arith) ∙ ap f next

-- station v's is at 18 v
pub record_in : (p : Plan) (old : List ℕ) (v : ℕ) → v < p.stations →
    take 18 (drop (18 * v) (over (drawn_records p) old)) ≡ drawn_record v (load p v) (pairs p v)
unfolding drawn_records over below
record_in p old v h =
    part (λ u. drawn_record u (load p u) (pairs p u)) (λ u. length_drawn u (load p u) (pairs p u))
    (drop (length (drawn_records p)) old) 0 p.stations v h ∙
    ap (λ u. drawn_record u (load p u) (pairs p u)) (zero-add v)
