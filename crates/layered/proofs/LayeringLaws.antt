-- The layered plan written slot after slot, and what a caller of the code shows and has. Assumes nothing.
use Prim.Native.Nat.{ℕ, ◌+◌, ◌-◌, ◌*◌, ◌/◌, ◌≤◌, ◌<◌}
use native.Mathlib.Omega.{arith}
use native.Mathlib.Decide.{dec_lt}
use native.Mathlib.Nat.{zero-add}
use mathlib.Core.Path.{◌≡◌, ap, subst, ◌∙◌}
use mathlib.Core.Bool.{true, false}
use mathlib.Core.List.{List, ◌++◌}
use mathlib.Core.Logic.{◌≢◌, by_cases}
use lib.ListN.{length, take, drop}
use lib.Seq.{sets, sets-eq, take_at}
use Rattle.temporal.specs.Outcome.{over}
use Rattle.temporal.specs.Bytes.{contact_at, records}
use Rattle.temporal.specs.Cause.{plan_fault}
use Rattle.walks.proofs.Accepted.{accepted}
use Rattle.plan.specs.Record.{SlotRecords}
use Rattle.plan.proofs.SlotLaws.{in_slot_inv, in_slot_none}
use Rattle.layered.specs.Layered.{slot_at, shift, layered_contact}
use Rattle.layered.specs.Layered.{bytes_from, layered}
use Rattle.layered.specs.Writing.{Layerable, SlotBounds}
use Rattle.layered.proofs.PositionLaws.{Start, start_at}
use Rattle.layered.proofs.RecordLaws.{length_bytes, layered_length, accepted_sorted}
use Rattle.layered.proofs.WritingLaws.{Written, written_more, written_all}

-- ---- slot after slot

-- The slots before position lo are written; the records before it are in earlier slots than the others.
pub record Layering (bs : List ℕ) (n v : ℕ) (old : List ℕ) (lo : ℕ) (out : List ℕ) : Type 0 where
  pub inside : lo ≤ records bs
  pub parted : (i k : ℕ) → i < lo → lo ≤ k → k < records bs → (contact_at bs i).slot < (contact_at bs k).slot
  pub written : Written (layered_contact bs n v) old 0 (2 * records bs) (2 * lo) out

module _ (bs : List ℕ) (n v : ℕ) (old : List ℕ) (a : Layerable bs n old) where
  module _ (lo : ℕ) (out : List ℕ) (w : Layering bs n v old lo out) (h : lo < records bs) (hi : ℕ)
      (found : SlotRecords bs (contact_at bs lo).slot lo hi) where
    slot_of : (i : ℕ) → lo ≤ i → i < hi → (i < records bs) × ((contact_at bs i).slot ≡ (contact_at bs lo).slot)
    slot_of i low high = in_slot_inv bs i _ (found.here i low high)

    -- the slot has a record, and ends within the plan
    goes_on : lo < hi
    goes_on =
        let first = found.from in
        by_cases (dec_lt lo hi) (λ less. less)
        (λ no.
        let same : hi ≡ lo = omega arith in
        absurd (in_slot_none bs hi _ found.past (omega arith) (ap (λ i. (contact_at bs i).slot) same)))

    ends : hi ≤ records bs
    ends = let last = (slot_of (hi - 1) (omega (arith, goes_on)) (omega (arith, goes_on))).0 in omega arith

    later : (k : ℕ) → hi ≤ k → k < records bs → (contact_at bs lo).slot < (contact_at bs k).slot
    later k low high =
        let rises = goes_on in
        let other : (contact_at bs hi).slot ≢ (contact_at bs lo).slot = in_slot_none bs hi _ found.past (omega arith) in
        let here = a.sorted lo hi (omega arith) (omega arith) in
        let there = a.sorted hi k low high in
        omega arith

    first_there : Start bs (contact_at bs lo).slot lo
    first_there =
        record {
          inside = w.inside;
          passed = λ i less. w.parted i lo less (omega arith) h;
          ahead = λ i low high. a.sorted lo i low high;
        }

    past_there : Start bs ((contact_at bs lo).slot + 1) hi
    past_there =
        record {
          inside = ends;
          passed = λ i less.
              by_cases (dec_lt i lo) (λ before. omega (arith, w.parted i lo before (omega arith) h))
              (λ no. omega (arith, (slot_of i (omega arith) less).1));
          ahead = λ i low high. omega (arith, later i low high);
        }

    here_slot : (q : ℕ) → 2 * lo ≤ q → q < 2 * hi → slot_at bs q ≡ (contact_at bs lo).slot
    unfolding slot_at
    here_slot q low high = (slot_of (q / 2) (omega arith) (omega arith)).1

    -- what writing the slot asks
    pub layering_bounds : SlotBounds bs lo hi
    unfolding shift
    layering_bounds =
        record {
          rises = goes_on;
          inside = ends;
          low = λ q from to. ap (λ x. shift bs x false) (here_slot q from to) ∙ start_at bs a.sorted _ lo first_there;
          high = λ q from to. ap (λ x. shift bs x true) (here_slot q from to) ∙ start_at bs a.sorted _ hi past_there;
        }

    -- the slot is written
    pub layering_more : Layering bs n v old hi (sets out (2 * lo * 6) (bytes_from (layered_contact bs n v) (2 * lo) (2 * (hi - lo))))
    layering_more =
        let rises = goes_on in
        let last = ends in
        let place : 2 * lo + 2 * (hi - lo) ≡ 2 * hi = omega arith in
        record {
          inside = last;
          parted = λ i k less low high.
              by_cases (dec_lt i lo)
              (λ before. w.parted i k before (omega arith) high)
              (λ no. omega (arith, later k low high, (slot_of i (omega arith) less).1));
          written =
              subst (λ q. Written (layered_contact bs n v) old 0 (2 * records bs) q
              (sets out (2 * lo * 6) (bytes_from (layered_contact bs n v) (2 * lo) (2 * (hi - lo))))) place
              (written_more (layered_contact bs n v) old 0 (2 * records bs) (2 * lo) (2 * (hi - lo)) out (omega arith) w.written);
        }

  -- all are written
  pub layering_all : (lo : ℕ) (out : List ℕ) → records bs ≤ lo → Layering bs n v old lo out → out ≡ over (layered bs n v) old
  unfolding over layered records
  layering_all lo out past w =
      let size = length_bytes (layered_contact bs n v) 0 (2 * records bs) in
      let room = a.room in
      let all : 2 * records bs - 0 ≡ 2 * records bs = omega arith in
      written_all (layered_contact bs n v) old 0 (2 * records bs) (2 * lo) out (omega arith) w.written ∙
      ap (λ k. sets old 0 (bytes_from (layered_contact bs n v) 0 k)) all ∙
      sets-eq (layered bs n v) old 0 (omega arith) ∙ ap (λ k. layered bs n v ++ drop k old) (zero-add (length (layered bs n v)))

-- ---- for callers

-- an accepted plan with few stations and records can be layered where there is room
pub accepted_layerable : (bs : List ℕ) (n t : ℕ) (out : List ℕ) → plan_fault bs n t ≡ 0 → 2 * n ≤ 256 → 2 * records bs ≤ 8192
    → 2 * length bs ≤ length out → Layerable bs n out
accepted_layerable bs n t out ok stations few room =
    let a = accepted bs n t ok in
    record {
      stations = stations;
      few = few;
      contact = λ i h.
          let c = a.contact i h in
          let last = c.to_last in
          let slots = a.slots in
          record { slot = omega arith; sender = c.sender_station; hearer = c.hearer_station };
      sorted = accepted_sorted bs n t ok;
      room = room;
    }

-- what is written is the beginning of the buffer, twice as long as the plan
pub layered_front : (bs : List ℕ) (n t v : ℕ) (out : List ℕ) → plan_fault bs n t ≡ 0
    → take (2 * length bs) (over (layered bs n v) out) ≡ layered bs n v
unfolding over
layered_front bs n t v out ok =
    let whole = (accepted bs n t ok).whole in
    let size = layered_length bs n v in
    take_at (layered bs n v) (drop (length (layered bs n v)) out) (2 * length bs) (omega arith)
