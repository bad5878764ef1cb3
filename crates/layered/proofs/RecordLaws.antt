-- The layered plan's bytes: how long they are, and which contact stands where. Assumes nothing.
use Prim.Native.Nat.{ℕ, zero, suc, ◌+◌, ◌-◌, ◌*◌, ◌≤◌, ◌<◌}
use native.Mathlib.Nat.{zero-add}
use native.Mathlib.Omega.{arith}
use mathlib.Core.Path.{◌≡◌, refl, ap, ◌∙◌}
use mathlib.Core.Bool.{Bool, true, false}
use mathlib.Core.List.{List, flat_map}
use lib.ListN.{length, get_or, get_or-append}
use lib.Seq.{get_or-append-add}
use borrow.Author.Tests.{lt-ltb, le-ltb}
use Rattle.temporal.specs.Lists.{from}
use Rattle.temporal.specs.Plan.{Contact, units}
use Rattle.temporal.specs.Bytes.{word_at, contact_at, records}
use Rattle.temporal.specs.Cause.{plan_fault}
use Rattle.walks.proofs.Accepted.{accepted}
use Rattle.walks.proofs.PlanLaws.{slots_sorted}
use Rattle.layered.specs.Layered.{in_layer, lowered, lowered_contact, heard_in, raised, layer_of, down}
use Rattle.layered.specs.Layered.{layered_contact, record_bytes, bytes_from, layered}
use Rattle.layered.specs.Writing.{Sorted}
use Rattle.layered.proofs.PositionLaws.{placed_down}

-- ---- records one behind another

module _ (f : ℕ → Contact) where
  pub length_bytes : (i k : ℕ) → length (bytes_from f i k) ≡ k * 6
  unfolding from flat_map
  length_bytes i zero = refl
  length_bytes i (suc k) = omega (arith, length_bytes (suc i) k)

  byte_at : (i k q d x : ℕ) → q < k → d < 6 → x ≡ q * 6 + d → get_or (bytes_from f i k) x 0 ≡ get_or (record_bytes (f (i + q))) d 0
  unfolding from flat_map
  byte_at i zero q d x h small e = absurd (omega arith)
  byte_at i (suc k) zero d x h small e =
      let place : x ≡ d = omega arith in
      let same : i ≡ i + zero = omega arith in
      ap (λ y. get_or (bytes_from f i (suc k)) y 0) place ∙
      get_or-append (record_bytes (f i)) (bytes_from f (suc i) k) 0 d small ∙ ap (λ y. get_or (record_bytes (f y)) d 0) same
  byte_at i (suc k) (suc q) d x h small e =
      let place : x ≡ length (record_bytes (f i)) + (q * 6 + d) = omega arith in
      let next : suc i + q ≡ i + suc q = omega arith in
      ap (λ y. get_or (bytes_from f i (suc k)) y 0) place ∙
      get_or-append-add (record_bytes (f i)) (bytes_from f (suc i) k) (q * 6 + d) 0 ∙
      byte_at (suc i) k q d (q * 6 + d) (omega arith) small refl ∙ ap (λ y. get_or (record_bytes (f y)) d 0) next

  -- a record's contact is the one whose bytes stand there
  pub contact_bytes : (i k q : ℕ) → q < k → contact_at (bytes_from f i k) q ≡ f (i + q)
  unfolding contact_at word_at
  contact_bytes i k q h =
      rw (
        byte_at i k q 0 (q * 6) h (omega arith) (omega arith),
        byte_at i k q 1 (q * 6 + 1) h (omega arith) (omega arith),
        byte_at i k q 2 (q * 6 + 2) h (omega arith) (omega arith),
        byte_at i k q 3 (q * 6 + 2 + 1) h (omega arith) (omega arith),
        byte_at i k q 4 (q * 6 + 4) h (omega arith) (omega arith),
        byte_at i k q 5 (q * 6 + 4 + 1) h (omega arith) (omega arith),
      )
      (simp zero-add)

-- ---- the layered plan

module _ (bs : List ℕ) (n v : ℕ) where
  pub layered_length : length (layered bs n v) ≡ records bs * 12
  unfolding layered
  layered_length = omega (arith, length_bytes (layered_contact bs n v) 0 (2 * records bs))

  -- each record stands in it twice
  pub layered_records : records (layered bs n v) ≡ 2 * records bs
  unfolding records
  layered_records = let size = layered_length in omega arith

  pub layered_contact_law : (q : ℕ) → q < 2 * records bs → contact_at (layered bs n v) q ≡ layered_contact bs n v q
  unfolding layered
  layered_contact_law q h = contact_bytes (layered_contact bs n v) 0 (2 * records bs) q h ∙ ap (layered_contact bs n v) (zero-add q)

-- a station goes up and comes down
pub lowered_in : (n : ℕ) (layer : Bool) (u : ℕ) → u < n → lowered n (in_layer n layer u) ≡ u
unfolding lowered in_layer
lowered_in n false u h = rw (lt-ltb u n h)
lowered_in n true u h = rw (le-ltb (n + u) n (omega arith)) (omega arith)

-- and so does a contact
pub lowered_raised : (n v : ℕ) (layer : Bool) (c : Contact) → c.sender < n → c.hearer < n → lowered_contact n (raised n v layer c) ≡ c
unfolding raised
lowered_raised n v layer c sender hearer =
    rw (lowered_in n layer c.sender sender, lowered_in n (heard_in v c layer) c.hearer hearer)

module _ (bs : List ℕ) (n t : ℕ) (ok : plan_fault bs n t ≡ 0) where
  pub accepted_sorted : Sorted bs
  accepted_sorted i k low h =
      let place : i + (k - i) ≡ k = omega arith in
      rw place at (slots_sorted bs n t (units 1 1) ok i (k - i) (omega arith))

  -- The contact at a layered position has the slot of the plan's contact at that position down, and its ends lowered are that contact's.
  pub layered_down : (v q : ℕ) → q < 2 * records bs → lowered_contact n (contact_at (layered bs n v) q) ≡ contact_at bs (down bs q)
  unfolding layered_contact
  layered_down v q h =
      let within = (accepted bs n t ok).contact (down bs q) (placed_down bs accepted_sorted q h).there in
      ap (lowered_contact n) (layered_contact_law bs n v q h) ∙
      lowered_raised n v (layer_of bs q) (contact_at bs (down bs q)) within.sender_station within.hearer_station

-- the plan's station, as code finds it
pub lowered_low : (n u : ℕ) → u < n → u ≡ lowered n u
unfolding lowered
lowered_low n u h = rw (lt-ltb u n h)

pub lowered_high : (n u : ℕ) → n ≤ u → u - n ≡ lowered n u
unfolding lowered
lowered_high n u h = rw (le-ltb u n h)
