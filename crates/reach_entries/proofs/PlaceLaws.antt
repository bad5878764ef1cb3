-- Places of a table with width entries a station: they lie within the lists that it fits. Assumes nothing.
use Prim.Native.Nat.{ℕ, ◌+◌, ◌*◌, ◌<◌, ◌≤◌}
use native.Mathlib.Omega.{arith}
use mathlib.Core.Path.{◌≡◌, sym, ap, subst, ◌∙◌}
use mathlib.Core.List.{List}
use lib.Arith.{digits_lt}
use Rattle.temporal.specs.Bytes.{contact_at}
use Rattle.temporal.specs.Cause.{plan_fault}
use Rattle.walks.proofs.Accepted.{accepted}
use Rattle.plan.specs.declared.Contact.{Contact}
use Rattle.plan.specs.Record.{contact_of}
use Rattle.plan.proofs.LimitLaws.{limited_places}
use Rattle.reach_entries.specs.Table.{Table, sent_table, folded_table, PlacesWithin, Fits, FoldableTables}

-- an entry of n stations lies within a list that has room for them
pub place_below : (v u n width size : ℕ) → v < n → u < width → n * width ≤ size → v * width + u < size
place_below v u n width size h k fits = let spot = digits_lt h k in omega arith

-- a place of an appearance and a station lie within tables that fit
pub places_within :
    (n width : ℕ) (x y : Table) → Fits n width x y → (v u w : ℕ) → v < n → u < width → w < n → PlacesWithin x y (v * width + u) w
places_within n width x y f v u w h k g =
    record {
      to_hops = place_below v u n width _ h k f.hops;
      to_counts = place_below v u n width _ h k f.counts;
      from_hops = let fits = f.station_hops_law in omega arith;
      from_counts = let fits = f.station_counts_law in omega arith;
    }

-- the record that was read lies within the tables
pub record Within (n width : ℕ) (r : Contact) : Type 0 where
  pub sender : r.sender < n
  pub hearer : r.hearer < n
  pub slot : r.slot < width

pub read_within :
    (bs : List ℕ) (n width j : ℕ) (x y : Table) (r : Contact) → FoldableTables bs n width j x y →
    contact_of r ≡ contact_at bs j → Within n width r
read_within bs n width j x y r f e =
    record {
      sender = subst (λ c. c.sender < n) (sym e) f.sender_station;
      hearer = subst (λ c. c.hearer < n) (sym e) f.hearer_station;
      slot = subst (λ c. c.slot < width) (sym e) f.slot;
    }

-- a send over the record that was read folds it in
pub folded_by :
    (bs : List ℕ) (width j : ℕ) (x out y : Table) (r : Contact) → contact_of r ≡ contact_at bs j →
    out ≡ sent_table x y r.sender (r.hearer * width + r.slot) → out ≡ folded_table width x y (contact_at bs j)
unfolding folded_table
folded_by bs width j x out y r e sent = sent ∙ ap (folded_table width x y) e

-- an accepted plan has few places
pub few_places : (bs : List ℕ) (n t : ℕ) → plan_fault bs n t ≡ 0 → n * (t + 1) ≤ 65536
few_places bs n t ok = limited_places n t (accepted bs n t ok).stations (accepted bs n t ok).slots
