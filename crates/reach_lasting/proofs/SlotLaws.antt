-- A slot settled for every station, and the end of a slot, from what settling leaves. Assumes nothing.
use Prim.Native.Nat.{ℕ, ◌+◌, ◌-◌, ◌*◌, ◌<◌, ◌≤◌}
use native.Mathlib.Omega.{arith}
use mathlib.Core.Path.{◌≡◌, refl}
use mathlib.Core.List.{List}
use mathlib.Core.Logic.{inl}
use lib.ListN.{length}
use Rattle.walks.proofs.Accepted.{accepted}
use Rattle.plan.specs.Record.{SlotRecords}
use Rattle.plan.proofs.SlotLaws.{in_slot_inv}
use Rattle.reach_entries.specs.Table.{Table, settled_table}
use Rattle.reach_entries.specs.Pass.{Tables}
use Rattle.reach_lasting.specs.Slot.{Settleable, SlotSettled, Endable, SlotEnded}
use Rattle.reach_entries.proofs.TableLaws.{beyond_refl, beyond_settled, settled_taken}

-- every station
pub slot_stations :
    (bs : List ℕ) (n width u j e : ℕ) (old : Tables) → Settleable bs n width u j e old → (z : Table) →
    z ≡ settled_table width u old.appearances old.stations 0 n →
    SlotSettled bs n width u j e old (record { appearances = old.appearances; stations = z })
slot_stations bs n width u j e old ask z is =
    let f = ask.fits in
    let h = f.station_hops_law in
    let c = f.station_counts_law in
    rw is (record {
      appearances = refl;
      station = λ v g. inl (settled_taken width u old.appearances old.stations 0 n v (omega arith) (omega arith) (omega arith)
          (omega arith));
      beyond = beyond_settled width u old.appearances n old.stations old.stations 0 n (omega arith)
          (beyond_refl n old.stations);
    })

module _ (bs : List ℕ) (n width q u i : ℕ) (x : Tables) (ask : Endable bs n width q u i x) where
  -- the position lies within the plan
  pub ending_cursor : i * 6 ≤ length bs
  ending_cursor = let w = ask.cursor in let whole = (accepted bs n (width - 1) ask.accepted).whole in omega arith

  -- the slot can be settled by its records
  pub ending_settleable : q ≤ u → (e : ℕ) → SlotRecords bs (u + 1 - q) i e → Settleable bs n width (u + 1 - q) i e x
  ending_settleable long e found =
      let slot = ask.slot in
      let a = accepted bs n (width - 1) ask.accepted in
      record {
        fits = ask.fits;
        slot = omega arith;
        later = omega arith;
        up = found.from;
        hearers = λ m from to.
            let (there, in-slot) = in_slot_inv bs m (u + 1 - q) (found.here m from to) in
            let whole = a.whole in
            record { inside = omega arith; station = (a.contact m there).hearer_station };
        unmarked = ask.unmarked;
      }

  -- nothing is settled
  pub ended_short : u < q → SlotEnded bs n width q u i x i x
  ended_short h = record { short = λ g. (refl, refl); records = λ g. absurd (omega arith); settled = λ g. absurd (omega arith) }

  -- a slot is settled
  pub ended_long :
      q ≤ u → (e : ℕ) (y : Tables) → SlotRecords bs (u + 1 - q) i e → SlotSettled bs n width (u + 1 - q) i e x y →
      SlotEnded bs n width q u i x e y
  ended_long h e y found settled = record { short = λ g. absurd (omega arith); records = λ g. found; settled = λ g. settled }
