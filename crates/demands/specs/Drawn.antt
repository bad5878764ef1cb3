-- Document 02's C-24: what holds of the loads for the drawing program, of the doubles in their records, and of records read back.
-- Definitions only.
-- Assumes nothing.
use Rattle.plan.specs.Fault.{answer_number}
use Rattle.plan.specs.declared.Fault.{Fault}
use Rattle.std.specs.Prelude.{Result}
use Rattle.std.specs.Prelude.{ℕ, ◌+◌, ◌*◌, ◌^◌, ◌≤◌, ◌<◌, ◌≡◌, ◌↔◌, ◌≢◌, List, Option, length, get_or, take, drop}
use Rattle.temporal.specs.Plan.{Plan, Terms}
use Rattle.temporal.specs.Load.{pairs, load, common_count, exact_sum}
use Rattle.temporal.specs.Bytes.{plan_of}
use Rattle.temporal.specs.Drawing.{multiple, ExactShare, carried, low_bits, high_bits, drawn_record}
use Rattle.temporal.specs.Drawing.{CouldWrite, foreign, station, Reads, ForeignKinds}
use Rattle.temporal.specs.OutcomeDrawn.{DrawnBuffers, drawn_loads}
use Rattle.drawing.specs.Reading.{read_result}
use Rattle.drawing.specs.declared.Reading.{Reading}
use Rattle.drawn.specs.Answer.{drawn_outcome}
use Rattle.demands.specs.PairLoads.{LoadsAccepts}

-- The operation accepted the call: its ensures holds of the answer and the buffers before and after, and the number is 0.
pub record DrawnAccepts (bs : List ℕ) (n t : ℕ) (terms : Terms) (old : DrawnBuffers) (r : Result (Unit {0}) Fault) (new : DrawnBuffers) : Type 0 where
  pub contract : drawn_outcome r new ≡ drawn_loads bs n t terms old
  pub accepted : answer_number r ≡ 0

-- the 18 bytes of station v
abbrev pub record_at : DrawnBuffers → ℕ → List ℕ
record_at b v = take 18 (drop (18 * v) b.records)

-- the bits of the low and the high double of station v
abbrev pub low_of : Plan → ℕ → ℕ
low_of p v = low_bits (carried (load p v) (pairs p v))

abbrev pub high_of : Plan → ℕ → ℕ
high_of p v = high_bits (carried (load p v) (pairs p v))

-- No rounding: the low is exactly load / 2^32 and the high exactly (load + pairs) / 2^32; both are positive zero without pairs.
pub record Unrounded (p : Plan) (v : ℕ) : Type 0 where
  pub low : ExactShare (low_of p v) (load p v)
  pub high : ExactShare (high_of p v) (load p v + pairs p v)
  pub idle : pairs p v ≡ 0 → (low_of p v ≡ 0) × (high_of p v ≡ 0)

-- The exact sum of shares, S / D, is at least the low and below the high. A double is its multiple of 2^-1074, so that low <= S / D is
-- low × D <= S × 2^1074 in whole numbers.
pub record Spans (p : Plan) (v : ℕ) : Type 0 where
  pub at_least : multiple (low_of p v) * common_count p v ≤ exact_sum p v * 2 ^ 1074
  pub below : exact_sum p v * 2 ^ 1074 < multiple (high_of p v) * common_count p v

-- C-24, for every call that the contracts allow; p is the plan of the bytes.
pub record DrawnDemand : Type 0 where
  -- loads accepts what this operation accepts, and leaves the same tables and the same work area
  pub as_loads :
      (bs : List ℕ) (n t : ℕ) (terms : Terms) (old : DrawnBuffers) (r : Result (Unit {0}) Fault) (new : DrawnBuffers) →
      DrawnAccepts bs n t terms old r new → LoadsAccepts bs n t terms old.tables r new.tables
  -- and a record of each station
  pub records_of :
      (bs : List ℕ) (n t : ℕ) (terms : Terms) (old : DrawnBuffers) (r : Result (Unit {0}) Fault) (new : DrawnBuffers) →
      DrawnAccepts bs n t terms old r new → (v : ℕ) → v < n →
      record_at new v ≡ drawn_record v (load (plan_of bs n t terms) v) (pairs (plan_of bs n t terms) v)
  pub unrounded :
      (bs : List ℕ) (n t : ℕ) (terms : Terms) (old : DrawnBuffers) (r : Result (Unit {0}) Fault) (new : DrawnBuffers) →
      DrawnAccepts bs n t terms old r new → (v : ℕ) → v < n → Unrounded (plan_of bs n t terms) v
  pub spans :
      (bs : List ℕ) (n t : ℕ) (terms : Terms) (old : DrawnBuffers) (r : Result (Unit {0}) Fault) (new : DrawnBuffers) →
      DrawnAccepts bs n t terms old r new → (v : ℕ) → v < n → 0 < pairs (plan_of bs n t terms) v → Spans (plan_of bs n t terms) v
  -- reading a record back gives the station, load and pairs that wrote it
  pub read_back :
      (bs : List ℕ) (n t : ℕ) (terms : Terms) (old : DrawnBuffers) (r : Result (Unit {0}) Fault) (new : DrawnBuffers) →
      DrawnAccepts bs n t terms old r new → (v : ℕ) → v < n → (a : Option Reading) → Reads (record_at new v) (read_result a) →
      read_result a ≡ station v (get_or new.tables.load_table v 0) (get_or new.tables.pairs_table v 0)
  -- Of all bytes: foreign is answered exactly where no station, load and pairs within the limits could have written them, so where they
  -- are not 18; and another answer is the one that could.
  pub foreign_exactly :
      (bytes : List ℕ) (a : Option Reading) → Reads bytes (read_result a) →
      (read_result a ≡ foreign) ↔ ((v load pairs : ℕ) → CouldWrite v load pairs bytes → ⊥)
  pub foreign_length : (bytes : List ℕ) (a : Option Reading) → Reads bytes (read_result a) → length bytes ≢ 18 → read_result a ≡ foreign
  pub read_exactly :
      (bytes : List ℕ) (a : Option Reading) → Reads bytes (read_result a) → (v load pairs : ℕ) →
      (read_result a ≡ station v load pairs) ↔ CouldWrite v load pairs bytes
  -- some kinds of them; and what the limits alone allow is read, as load 0 with pairs, or a load larger than pairs × 2^32
  pub kinds : (s low high : ℕ) → s < 65536 → low < 2 ^ 64 → high < 2 ^ 64 → ForeignKinds s low high
  pub taken :
      (v load pairs : ℕ) → v < 256 → load < 2 ^ 49 → pairs < 2 ^ 49 → 0 < pairs → Reads (drawn_record v load pairs) (station v load pairs)
