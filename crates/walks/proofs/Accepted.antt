-- What acceptance gives: a plan without a cause of refusal keeps every rule of the plan bytes. Assumes nothing.
use Prim.Native.Nat.{ℕ, zero, suc, ◌+◌, ◌-◌, ◌*◌, ◌/◌, ◌%◌, ◌≤◌, ◌<◌}
use native.Mathlib.Omega.{arith}
use mathlib.Core.Path.{◌≡◌, refl, subst}
use mathlib.Core.Bool.{Bool, true, false, not, ◌||◌}
use mathlib.Core.List.{List, flat_map}
use mathlib.Core.Logic.{◌≢◌}
use borrow.Author.Tests.{ltb-false, leb-false, eqb-true, eqb-false, not-false, lt-ltb}
use lib.Dec.{leb, ltb, eqb}
use lib.ListN.{length}
use Rattle.temporal.specs.Lists.{from, below}
use Rattle.temporal.specs.Plan.{Contact}
use Rattle.temporal.specs.Bytes.{contact_at, records}
use Rattle.temporal.specs.Cause.{first, outside, wrong_length, wrong_slot, wrong_ends, is_above, wrong_order, record_causes, plan_causes, plan_fault}
use Rattle.temporal.proofs.CauseLaws.{
  first_append_left,
  first_append_right,
  first_head,
  first_tail,
  or_false_left,
  or_false_right,
  and_false_right,
}

-- a record keeps causes 3 and 4 away
pub record ContactWithin (n t : ℕ) (c : Contact) : Type 0 where
  pub from_one : 0 < c.slot
  pub to_last : c.slot ≤ t
  pub ends : c.sender ≢ c.hearer
  pub sender_station : c.sender < n
  pub hearer_station : c.hearer < n

-- plan bytes that check accepts
pub record Accepted (bs : List ℕ) (n t : ℕ) : Type 0 where
  pub some_station : 0 < n
  pub stations : n ≤ 256
  pub some_slot : 0 < t
  pub slots : t ≤ 255
  pub whole : length bs ≡ records bs * 6
  pub few : records bs ≤ 8192
  pub contact : (i : ℕ) → i < records bs → ContactWithin n t (contact_at bs i)
  pub rising : (i : ℕ) → suc i < records bs → is_above (contact_at bs i) (contact_at bs (suc i)) ≡ true

-- where no record from i on has a cause, none of them has
each_record : (f : ℕ → List ℕ) (i k j : ℕ) → first (flat_map f (from i k)) ≡ 0 → i ≤ j → j < i + k → first (f j) ≡ 0
unfolding from flat_map
each_record f i zero j e low high = absurd (omega arith)
each_record f i (suc k) j e low high =
    pick (eqb i j) refl
    (λ later. each_record f (suc i) k j (first_append_right (f i) (flat_map f (from (suc i) k)) e) later (omega arith))
  where
    pick : (b : Bool) → eqb i j ≡ b → (suc i ≤ j → first (f j) ≡ 0) → first (f j) ≡ 0
    pick true q rest = subst (λ x. first (f x) ≡ 0) (eqb-true i j q) (first_append_left (f i) (flat_map f (from (suc i) k)) e)
    pick false q rest = let ne : i ≡ j → ⊥ = eqb-false i j q in rest (omega arith)

-- ---- what each test says where it fails

zero_false : (x : ℕ) → eqb x 0 ≡ false → 0 < x
zero_false x q = let ne : x ≡ 0 → ⊥ = eqb-false x 0 q in omega arith

slot_right : (t : ℕ) (c : Contact) → wrong_slot t c ≡ false → (0 < c.slot) × (c.slot ≤ t)
unfolding wrong_slot
slot_right t c q = (zero_false c.slot (or_false_left _ _ q), ltb-false t c.slot (or_false_right (eqb c.slot 0) _ q))

ends_right : (n : ℕ) (c : Contact) → wrong_ends n c ≡ false → (c.sender ≢ c.hearer) × ((c.sender < n) × (c.hearer < n))
unfolding wrong_ends
ends_right n c q =
    let high = or_false_right (eqb c.sender c.hearer) _ q in (
      eqb-false c.sender c.hearer (or_false_left _ _ q),
      (
        leb-false n c.sender (or_false_left _ _ high),
        leb-false n c.hearer (or_false_right (leb n c.sender) _ high),
      ),
    )

order_right : (bs : List ℕ) (i : ℕ) → wrong_order bs (suc i) ≡ false → is_above (contact_at bs i) (contact_at bs (suc i)) ≡ true
unfolding wrong_order
order_right bs i q =
    let before : suc i - 1 ≡ i = omega arith in
    let above : is_above (contact_at bs (suc i - 1)) (contact_at bs (suc i)) ≡ true =
    not-false _ (and_false_right (ltb 0 (suc i)) _ q (lt-ltb 0 (suc i) (omega arith))) in
    rw before at above

within_limits : (n t : ℕ) → outside n t ≡ false → ((0 < n) × (n ≤ 256)) × ((0 < t) × (t ≤ 255))
unfolding outside
within_limits n t q =
    let stations = or_false_left (eqb n 0 || ltb 256 n) (eqb t 0 || ltb 255 t) q in
    let slots = or_false_right (eqb n 0 || ltb 256 n) (eqb t 0 || ltb 255 t) q in (
      (zero_false n (or_false_left _ _ stations), ltb-false 256 n (or_false_right (eqb n 0) _ stations)),
      (zero_false t (or_false_left _ _ slots), ltb-false 255 t (or_false_right (eqb t 0) _ slots)),
    )

length_right : (bs : List ℕ) → wrong_length bs ≡ false → (length bs ≡ records bs * 6) × (records bs ≤ 8192)
unfolding wrong_length records
length_right bs q =
    let whole : length bs % 6 ≡ 0 = eqb-true (length bs % 6) 0 (not-false _ (or_false_left _ _ q)) in
    (omega arith, ltb-false 8192 (length bs / 6) (or_false_right (not (eqb (length bs % 6) 0)) _ q))

-- ---- acceptance

-- a plan without a cause of refusal keeps every rule
pub accepted : (bs : List ℕ) (n t : ℕ) → plan_fault bs n t ≡ 0 → Accepted bs n t
unfolding plan_fault plan_causes below record_causes
accepted bs n t e =
    let limits = within_limits n t (first_head 0 (outside n t) _ e) in
    let size = length_right bs (first_head 1 (wrong_length bs) _ (first_tail 0 (outside n t) _ e)) in
    let all = first_tail 1 (wrong_length bs) _ (first_tail 0 (outside n t) _ e) in
    let each : (i : ℕ) → i < records bs → first (record_causes bs n t i) ≡ 0 =
    λ i h. each_record (record_causes bs n t) 0 (records bs) i all (omega arith) (omega arith) in
    let slot : (i : ℕ) → i < records bs → (0 < (contact_at bs i).slot) × ((contact_at bs i).slot ≤ t) =
    λ i h. slot_right t (contact_at bs i) (first_head 2 _ _ (each i h)) in
    let ends : (i : ℕ) → i < records bs →
    ((contact_at bs i).sender ≢ (contact_at bs i).hearer) × (((contact_at bs i).sender < n) × ((contact_at bs i).hearer < n)) =
    λ i h. ends_right n (contact_at bs i) (first_head 3 _ _ (first_tail 2 _ _ (each i h))) in
    record {
      some_station = limits.0.0;
      stations = limits.0.1;
      some_slot = limits.1.0;
      slots = limits.1.1;
      whole = size.0;
      few = size.1;
      contact = λ i h. record {
        from_one = (slot i h).0;
        to_last = (slot i h).1;
        ends = (ends i h).0;
        sender_station = (ends i h).1.0;
        hearer_station = (ends i h).1.1;
      };
      rising = λ i h. order_right bs i (first_head 4 _ _ (first_tail 3 _ _ (first_tail 2 _ _ (each (suc i) h))));
    }
