-- Going through a plan slot by slot: the records before the position are in earlier slots, the others in this slot or later ones, and
-- between two positions stand the records of one slot. Assumes nothing.
use Prim.Native.Nat.{ℕ, zero, suc, ◌+◌, ◌-◌, ◌*◌, ◌<◌, ◌≤◌}
use native.Mathlib.Omega.{arith}
use native.Mathlib.Decide.{dec_lt}
use mathlib.Core.Path.{◌≡◌, sym, ap, ◌∙◌}
use mathlib.Core.Bool.{Bool, true, false}
use mathlib.Core.List.{List, ◌∷◌, ◌++◌}
use mathlib.Core.Logic.{◌≢◌, by_cases}
use borrow.Author.Tests.{eq-eqb, ne_eqb}
use lib.Dec.{eqb}
use lib.ListN.{length, length-append}
use Rattle.temporal.specs.Lists.{from, below, select}
use Rattle.temporal.specs.Bytes.{contact_at, records}
use Rattle.temporal.specs.Cause.{plan_fault}
use Rattle.temporal.specs.Band.{records_in}
use Rattle.walks.proofs.Accepted.{Accepted, accepted}
use Rattle.walks.proofs.CheckLaws.{below_slot}
use Rattle.lists.proofs.ListLaws.{not_both, mem_from, length_from, select_append, select_none}
use Rattle.walks.proofs.SetLaws.{select_all}
use Rattle.plan.specs.Record.{SlotRecords}
use Rattle.plan.proofs.SlotLaws.{in_slot_inv, in_slot_none}
use Rattle.band.specs.Taking.{Slotted}

-- ---- an accepted plan

module _ (bs : List ℕ) (n t : ℕ) (ok : plan_fault bs n t ≡ 0) where
  a : Accepted bs n t
  a = accepted bs n t ok

  -- the next record is in no earlier slot
  next_slot : (i : ℕ) → suc i < records bs → (contact_at bs i).slot ≤ (contact_at bs (suc i)).slot
  next_slot i h =
      by_cases (dec_lt (contact_at bs (suc i)).slot (contact_at bs i).slot)
      (λ less. absurd (not_both (a.rising i h) (below_slot _ _ less)))
      (λ no. omega arith)

  later_slot : (i d : ℕ) → i + d < records bs → (contact_at bs i).slot ≤ (contact_at bs (i + d)).slot
  later_slot i zero h = let same : i + zero ≡ i = omega arith in rw same (omega arith)
  later_slot i (suc d) h =
      let same : i + suc d ≡ suc (i + d) = omega arith in
      let before = later_slot i d (omega arith) in
      let next = next_slot (i + d) (omega arith) in
      rw same (omega arith)

  pub accepted_slotted : Slotted bs
  accepted_slotted =
      record {
        few = a.few;
        from_one = λ i h. (a.contact i h).from_one;
        rising = λ i k low h.
            let place : i + (k - i) ≡ k = omega arith in
            rw place at (later_slot i (k - i) (omega arith));
      }

-- ---- a position

-- the records before the position are in slots before u, the others are not
pub record Standing (bs : List ℕ) (at u : ℕ) : Type 0 where
  pub inside : at ≤ records bs
  pub passed : (i : ℕ) → i < at → (contact_at bs i).slot < u
  pub ahead : (i : ℕ) → at ≤ i → i < records bs → u ≤ (contact_at bs i).slot

pub standing_first : (bs : List ℕ) → Slotted bs → Standing bs 0 1
standing_first bs s =
    record { inside = omega arith; passed = λ i h. absurd (omega arith); ahead = λ i low h. omega (arith, s.from_one i h) }

-- what finding the end of a slot asks
pub standing_position : (bs : List ℕ) (at u : ℕ) → Standing bs at u → at * 6 ≤ length bs
unfolding records
standing_position bs at u s = let inside = s.inside in omega arith

-- ---- as many numbers pass as are asked

count_none : (f : ℕ → Bool) (i k : ℕ) → ((j : ℕ) → i ≤ j → j < i + k → f j ≡ false) → length (select f (from i k)) ≡ 0
count_none f i k h =
    ap length (select_none {t = f} (from i k) (λ j m. let b = (mem_from i k).0 m in h j b.0 b.1))

count_all : (f : ℕ → Bool) (i k : ℕ) → ((j : ℕ) → i ≤ j → j < i + k → f j ≡ true) → length (select f (from i k)) ≡ k
count_all f i k h =
    ap length (select_all f (from i k) (λ j m. let b = (mem_from i k).0 m in h j b.0 b.1)) ∙ length_from i k

from_append : (i a b : ℕ) → from i (a + b) ≡ from i a ++ from (i + a) b
unfolding from
from_append i zero b = let none : zero + b ≡ b = omega arith in let same : i + zero ≡ i = omega arith in rw (none, same)
from_append i (suc a) b =
    let more : suc a + b ≡ suc (a + b) = omega arith in
    let place : i + suc a ≡ suc i + a = omega arith in
    rw (more, place) (ap (◌∷◌ i) (from_append (suc i) a b))

count_append : (f : ℕ → Bool) (i a b : ℕ)
    → length (select f (from i (a + b))) ≡ length (select f (from i a)) + length (select f (from (i + a) b))
count_append f i a b =
    ap (λ l. length (select f l)) (from_append i a b) ∙ ap length (select_append f (from i a) (from (i + a) b)) ∙
    length-append (select f (from i a)) (select f (from (i + a) b))

-- ---- the records of one slot

module _ (bs : List ℕ) (s : Slotted bs) (at u : ℕ) (here : Standing bs at u) (e : ℕ) (found : SlotRecords bs u at e) where
  end_inside : e ≤ records bs
  end_inside =
      by_cases (dec_lt at e)
      (λ some. let last = (in_slot_inv bs (e - 1) u (found.here (e - 1) (omega arith) (omega arith))).0 in omega arith)
      (λ none. let inside = here.inside in let first = found.from in omega arith)

  slot_of : (i : ℕ) → at ≤ i → i < e → (contact_at bs i).slot ≡ u
  slot_of i low high = (in_slot_inv bs i u (found.here i low high)).1

  past_slot : (i : ℕ) → e ≤ i → i < records bs → u < (contact_at bs i).slot
  past_slot i low high =
      let first = found.from in
      let other : (contact_at bs e).slot ≢ u = in_slot_none bs e u found.past (omega arith) in
      let from_here = here.ahead e first (omega arith) in
      let rise = s.rising e i low high in
      omega arith

  -- the next position
  pub standing_next : Standing bs e (u + 1)
  standing_next =
      record {
        inside = end_inside;
        passed = λ i h.
            by_cases (dec_lt i at)
            (λ before. omega (arith, here.passed i before))
            (λ after. omega (arith, slot_of i (omega arith) h));
        ahead = λ i low h. omega (arith, past_slot i low h);
      }

  pub slot_few : e - at ≤ 8192
  slot_few = let few = s.few in let inside = end_inside in omega arith

  -- between the two positions stand the slot's records
  pub slot_counted : e - at ≡ records_in bs u
  unfolding records_in below
  slot_counted =
      let first = found.from in
      let last = end_inside in
      let parts : at + ((e - at) + (records bs - e)) ≡ records bs = omega arith in
      let end : at + (e - at) ≡ e = omega arith in
      let test : ℕ → Bool = λ i. eqb (contact_at bs i).slot u in
      let none_before : length (select test (from 0 at)) ≡ 0 =
      count_none test 0 at (λ j low high. let less = here.passed j (omega arith) in ne_eqb (contact_at bs j).slot u (omega arith)) in
      let all_here : length (select test (from at (e - at))) ≡ e - at =
      count_all test at (e - at) (λ j low high. eq-eqb _ _ (slot_of j low (omega arith))) in
      let none_past : length (select test (from e (records bs - e))) ≡ 0 =
      count_none test e (records bs - e)
      (λ j low high. let more = past_slot j low (omega arith) in ne_eqb (contact_at bs j).slot u (omega arith)) in
      let two = count_append test 0 at ((e - at) + (records bs - e)) in
      let three = count_append test at (e - at) (records bs - e) in
      let start : length (select test (from (0 + at) ((e - at) + (records bs - e)))) ≡
      length (select test (from at ((e - at) + (records bs - e)))) =
      ap (λ k. length (select test (from k ((e - at) + (records bs - e))))) (omega arith) in
      let whole : length (select test (from 0 (records bs))) ≡ length (select test (from 0 (at + ((e - at) + (records bs - e))))) =
      ap (λ k. length (select test (from 0 k))) (sym parts) in
      let there : length (select test (from (at + (e - at)) (records bs - e))) ≡ length (select test (from e (records bs - e))) =
      ap (λ k. length (select test (from k (records bs - e)))) end in
      omega arith
