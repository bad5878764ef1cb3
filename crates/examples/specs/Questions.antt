-- P1 to P10 of document 01, restated for doubled plans (document 02, C-16), as one table of questions to the operations with
-- their answers. Definitions only; that every entry holds is proofs/Examples.
-- Assumes nothing.
use Rattle.std.specs.Prelude.{ℕ, Bool, true, false, ◌&&◌, List, [], ◌∷◌, eqb, replicate}
use Rattle.temporal.specs.Plan.{Terms, turning}
use Rattle.temporal.specs.Outcome.{ReachTables, places, reach}
use Rattle.temporal.specs.Cursor.{Reply, path, no_path, last_path, refused, same_numbers, Operation}
use Rattle.temporal.specs.FirstNext.{Question}

-- a plan's bytes with its numbers of stations and slots, and the turnaround (document 02, C-17); its units keep a reading until the plan
-- ends
pub record PlanBytes : Type 0 where
  pub bytes : List ℕ
  pub stations : ℕ
  pub slots : ℕ
  pub turnaround : ℕ

-- plan A of document 01, doubled (document 02, C-16): each contact is a record for each direction, in the plan's order. Its units
-- turn round in one slot, as P1 to P10 have it
abbrev pub plan_a : PlanBytes
plan_a =
    record {
      bytes =
          0x00 ∷ 0x01 ∷ 0x00 ∷ 0x00 ∷ 0x00 ∷ 0x01 ∷ 0x00 ∷ 0x01 ∷ 0x00 ∷ 0x00 ∷ 0x00 ∷ 0x02 ∷
          0x00 ∷ 0x01 ∷ 0x00 ∷ 0x01 ∷ 0x00 ∷ 0x00 ∷ 0x00 ∷ 0x01 ∷ 0x00 ∷ 0x02 ∷ 0x00 ∷ 0x00 ∷
          0x00 ∷ 0x02 ∷ 0x00 ∷ 0x01 ∷ 0x00 ∷ 0x03 ∷ 0x00 ∷ 0x02 ∷ 0x00 ∷ 0x02 ∷ 0x00 ∷ 0x03 ∷
          0x00 ∷ 0x02 ∷ 0x00 ∷ 0x03 ∷ 0x00 ∷ 0x01 ∷ 0x00 ∷ 0x02 ∷ 0x00 ∷ 0x03 ∷ 0x00 ∷ 0x02 ∷
          0x00 ∷ 0x03 ∷ 0x00 ∷ 0x02 ∷ 0x00 ∷ 0x03 ∷ 0x00 ∷ 0x03 ∷ 0x00 ∷ 0x03 ∷ 0x00 ∷ 0x02 ∷
          0x00 ∷ 0x04 ∷ 0x00 ∷ 0x03 ∷ 0x00 ∷ 0x04 ∷ 0x00 ∷ 0x04 ∷ 0x00 ∷ 0x04 ∷ 0x00 ∷ 0x03 ∷ [];
      stations = 5;
      slots = 4;
      turnaround = 1;
    }

-- plan A where a station needs two slots between hearing and sending on (document 02, C-17 and C-20)
abbrev pub slow_a : PlanBytes
slow_a = record { bytes = plan_a.bytes; stations = 5; slots = 4; turnaround = 2 }

abbrev pub empty_plan : PlanBytes
empty_plan = record { bytes = []; stations = 1; slots = 1; turnaround = 1 }

-- the record (1, 0, 1) twice
abbrev pub repeated : PlanBytes
repeated =
    record { bytes = 0 ∷ 1 ∷ 0 ∷ 0 ∷ 0 ∷ 1 ∷ 0 ∷ 1 ∷ 0 ∷ 0 ∷ 0 ∷ 1 ∷ []; stations = 2; slots = 1; turnaround = 1 }

-- the record (1, 1, 1)
abbrev pub with_itself : PlanBytes
with_itself = record { bytes = 0 ∷ 1 ∷ 0 ∷ 1 ∷ 0 ∷ 1 ∷ []; stations = 2; slots = 1; turnaround = 1 }

-- the contacts (1, 0, 1) and (1, 1, 2), doubled; two slots, so that two hops are tried
abbrev pub same_slot : PlanBytes
same_slot =
    record {
      bytes =
          0 ∷ 1 ∷ 0 ∷ 0 ∷ 0 ∷ 1 ∷ 0 ∷ 1 ∷ 0 ∷ 1 ∷ 0 ∷ 0 ∷
          0 ∷ 1 ∷ 0 ∷ 1 ∷ 0 ∷ 2 ∷ 0 ∷ 1 ∷ 0 ∷ 2 ∷ 0 ∷ 1 ∷ [];
      stations = 3;
      slots = 2;
      turnaround = 1;
    }

-- the record (1, 0, 1) alone
abbrev pub single : PlanBytes
single = record { bytes = 0 ∷ 1 ∷ 0 ∷ 0 ∷ 0 ∷ 1 ∷ []; stations = 2; slots = 1; turnaround = 1 }

-- the same with the longest turnaround (document 02, C-17)
abbrev pub slowest : PlanBytes
slowest = record { bytes = single.bytes; stations = 2; slots = 1; turnaround = 16 }

-- the same with a turnaround below 1, and one above 16
abbrev pub without : PlanBytes
without = record { bytes = single.bytes; stations = 2; slots = 1; turnaround = 0 }

abbrev pub too_slow : PlanBytes
too_slow = record { bytes = single.bytes; stations = 2; slots = 1; turnaround = 17 }

abbrev pub terms_of : PlanBytes → Terms
terms_of g = turning g.turnaround

-- A question with its answer, for each operation; the comment says what the numbers are.
pub data Example : Type 0 where
  checks : PlanBytes → ℕ → Example  -- the number
  station : PlanBytes → ℕ → ℕ → ℕ → ℕ → Example  -- source, station, its hops, its count
  appearance : PlanBytes → ℕ → ℕ → ℕ → ℕ → ℕ → Example  -- source, station, slot, hops, count
  walks : PlanBytes → ℕ → ℕ → ℕ → List (List ℕ) → List (List ℕ) → Example  -- source, station, slot, its walks, the paths of them
  complete : PlanBytes → ℕ → ℕ → List (List ℕ) → Example  -- source, destination, the complete list
  throughs : PlanBytes → ℕ → ℕ → List ℕ → Example  -- source, destination, the through table
  gives : Operation → PlanBytes → ℕ → ℕ → List ℕ → Reply → List ℕ → Example  -- source, destination, buffer, answer, buffer after
  loads_of : PlanBytes → List ℕ → List ℕ → Example  -- the tables of pairs and of loads

-- a buffer of k entries as it is lent, all 7 in place of anything
abbrev pub sevens : ℕ → List ℕ
sevens k = replicate k 7

abbrev pub question_of : PlanBytes → ℕ → ℕ → Question
question_of g s z =
    record { bytes = g.bytes; stations = g.stations; slots = g.slots; terms = terms_of g; source = s; destination = z }

unfoldable pub reached_from : PlanBytes → ℕ → ReachTables
reached_from g s =
    (reach g.bytes g.stations g.slots (terms_of g) s
    (record {
      hops_table = sevens (places g.stations g.slots);
      count_table = sevens (places g.stations g.slots);
      station_hops = sevens g.stations;
      station_counts = sevens g.stations;
    })).buffers

unfoldable pub same_lists : List (List ℕ) → List (List ℕ) → Bool
same_lists [] [] = true
same_lists [] (y ∷ m) = false
same_lists (x ∷ l) [] = false
same_lists (x ∷ l) (y ∷ m) = same_numbers x y && same_lists l m

unfoldable pub same_reply : Reply → Reply → Bool
same_reply (path h) (path k) = eqb h k
same_reply (path h) no_path = false
same_reply (path h) last_path = false
same_reply (path h) (refused k) = false
same_reply no_path (path k) = false
same_reply no_path no_path = true
same_reply no_path last_path = false
same_reply no_path (refused k) = false
same_reply last_path (path k) = false
same_reply last_path no_path = false
same_reply last_path last_path = true
same_reply last_path (refused k) = false
same_reply (refused j) (path k) = false
same_reply (refused j) no_path = false
same_reply (refused j) last_path = false
same_reply (refused j) (refused k) = eqb j k
