-- What the code that writes the layered plan rests on: one contact raised, one place, and the records of one slot.
-- Assumes nothing.
use Prim.Native.Nat.{ℕ, ◌+◌, ◌-◌, ◌*◌, ◌≤◌, ◌<◌}
use native.Mathlib.Omega.{arith}
use mathlib.Core.Path.{◌≡◌, sym, ap, ap₂, ◌∙◌}
use mathlib.Core.Bool.{Bool, true, false}
use mathlib.Core.List.{List}
use borrow.Author.Tests.{le-leb, lt-leb}
use lib.ListN.{length}
use lib.Seq.{sets}
use Rattle.temporal.specs.Plan.{Contact}
use Rattle.temporal.specs.Bytes.{contact_at, records}
use Rattle.layered.specs.Layered.{heard_in, raised, slot_at, shift, layer_of, down, layered_contact}
use Rattle.layered.specs.Layered.{record_bytes, bytes_from}
use Rattle.layered.specs.Writing.{Small, Layerable, Placeable}
use Rattle.layered.proofs.PositionLaws.{up, placed_down, shift_inside}
use Rattle.layered.proofs.AcceptedLaws.{station_below}
use Rattle.layered.proofs.WritingLaws.{Written, written_all}

-- ---- one contact

module _ (n v : ℕ) (layer : Bool) (c : Contact) where
  -- it has numbers below 256
  pub raised_small : Small n c → 2 * n ≤ 256 → Small 256 (raised n v layer c)
  unfolding raised
  raised_small s h =
      let sender = station_below n layer c.sender s.sender in
      let hearer = station_below n (heard_in v c layer) c.hearer s.hearer in
      record { slot = s.slot; sender = omega arith; hearer = omega arith }

  -- as code finds it
  pub raised_found : (k r : Contact) → c ≡ k → r ≡ raised n v layer c → Small n k → 2 * n ≤ 256 → Small 256 r
  raised_found k r e made s h = rw made (raised_small (rw e s) h)

-- ---- one place

-- a record's six bytes are there
pub record_there : (bs : List ℕ) (i : ℕ) → i < records bs → i * 6 + 5 < length bs
unfolding records
record_there bs i h = omega arith

-- and there is room for one of the layered plan
pub place_room : (bs out : List ℕ) (q : ℕ) → 2 * length bs ≤ length out → q < 2 * records bs → q * 6 + 6 ≤ length out
unfolding records
place_room bs out q room h = omega arith

pub layerable_kept : (bs : List ℕ) (n : ℕ) (old out : List ℕ) → length out ≡ length old → Layerable bs n old → Layerable bs n out
layerable_kept bs n old out same a =
    let room = a.room in
    record { stations = a.stations; few = a.few; contact = a.contact; sorted = a.sorted; room = omega arith }

-- the record at place q is the one at position q less k, in a layer
pub record Stands (bs : List ℕ) (n q k : ℕ) (layer : Bool) : Type 0 where
  pub from : k ≤ q
  pub there : q - k < records bs
  pub contact : (v : ℕ) → raised n v layer (contact_at bs (q - k)) ≡ layered_contact bs n v q

pub stands_wrote : (bs : List ℕ) (n v q k : ℕ) (layer : Bool) (out new : List ℕ) → Stands bs n q k layer
    → new ≡ sets out (q * 6) (record_bytes (raised n v layer (contact_at bs (q - k))))
    → new ≡ sets out (q * 6) (record_bytes (layered_contact bs n v q))
stands_wrote bs n v q k layer out new s wrote = wrote ∙ ap (λ d. sets out (q * 6) (record_bytes d)) (s.contact v)

module _ (bs : List ℕ) (n lo hi q : ℕ) (out : List ℕ) (a : Placeable bs n lo hi q out) where
  pub bounds_few : lo + hi ≤ 8192
  bounds_few =
      let low = shift_inside bs a.plan.sorted (slot_at bs q) false in
      let high = shift_inside bs a.plan.sorted (slot_at bs q) true in
      let first = a.low in
      let last = a.high in
      let few = a.plan.few in
      omega arith

  downward : (layer : Bool) (k : ℕ) → layer_of bs q ≡ layer → shift bs (slot_at bs q) layer ≡ k → down bs q ≡ q - k
  unfolding down
  downward layer k which moved = rw (which, moved)

  stands : (layer : Bool) (k : ℕ) → layer_of bs q ≡ layer → shift bs (slot_at bs q) layer ≡ k → Stands bs n q k layer
  unfolding up layered_contact
  stands layer k which moved =
      let p = placed_down bs a.plan.sorted q a.place in
      let back = downward layer k which moved in
      let there = p.there in
      let upward : shift bs (slot_at bs q) layer + down bs q ≡ q = rw (← p.slot, which) at p.upward in
      record {
        from = omega arith;
        there = omega arith;
        contact = λ v. ap₂ (λ l i. raised n v l (contact_at bs i)) (sym which) (sym back);
      }

  -- first come the slot's records in layer 0, then those in layer 1
  pub stands_lower : q < lo + hi → Stands bs n q lo false
  unfolding layer_of
  stands_lower h =
      let first = a.low in
      let last = a.high in
      stands false lo (lt-leb (shift bs (slot_at bs q) false + shift bs (slot_at bs q) true) q (omega arith)) first

  pub stands_upper : lo + hi ≤ q → Stands bs n q hi true
  unfolding layer_of
  stands_upper h =
      let first = a.low in
      let last = a.high in
      stands true hi (le-leb (shift bs (slot_at bs q) false + shift bs (slot_at bs q) true) q (omega arith)) last

-- ---- one slot

pub slot_wrote : (f : ℕ → Contact) (old : List ℕ) (lo hi q : ℕ) (out : List ℕ) → 2 * hi ≤ q → Written f old (2 * lo) (2 * hi) q out
    → out ≡ sets old (2 * lo * 6) (bytes_from f (2 * lo) (2 * (hi - lo)))
slot_wrote f old lo hi q out past w =
    let size : 2 * hi - 2 * lo ≡ 2 * (hi - lo) = omega arith in
    written_all f old (2 * lo) (2 * hi) q out past w ∙ ap (λ k. sets old (2 * lo * 6) (bytes_from f (2 * lo) k)) size
