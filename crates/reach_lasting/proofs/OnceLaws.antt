-- The hearer of one record: its mark lies within the tables; what taking it in and marking it leaves, and taking its mark away.
-- Assumes nothing.
use Prim.Native.Nat.{ℕ, ◌+◌, ◌-◌, ◌*◌, ◌<◌, ◌≤◌}
use native.Mathlib.Omega.{arith}
use mathlib.Core.Path.{◌≡◌, ap, ◌∙◌}
use mathlib.Core.List.{List}
use borrow.Author.Tests.{lt-ltb, le-ltb}
use lib.ListN.{get_or, set}
use Rattle.temporal.specs.Bytes.{contact_at}
use Rattle.plan.specs.declared.Contact.{Contact}
use Rattle.plan.specs.Record.{contact_of}
use Rattle.reach_entries.specs.Table.{Table, table_of, merged_table, Fits, PlacesWithin}
use Rattle.reach_entries.specs.Pass.{Tables}
use Rattle.reach_lasting.specs.Slot.{hearer_at, settled_once, unmarked_at, HearerFits}
use Rattle.reach_entries.proofs.PlaceLaws.{place_below}
use Rattle.reach_lasting.proofs.MarkLaws.{unmark_none, unmark_some}

-- ---- one station

module _ (width u : ℕ) (x : Tables) (v : ℕ) where
  pub once_free :
      get_or x.appearances.counts (v * width) 0 < 2 →
      ◌≡◌ {A = Tables}
      (record {
        appearances = table_of x.appearances.hops
            (set x.appearances.counts (v * width) (get_or x.appearances.counts (v * width) 0 + 2));
        stations = merged_table x.stations v (get_or x.appearances.hops (v * width + u) 0)
            (get_or x.appearances.counts (v * width + u) 0);
      })
      (settled_once width u x v)
  unfolding settled_once
  once_free h = rw (lt-ltb (get_or x.appearances.counts (v * width) 0) 2 h)

  pub once_marked : 2 ≤ get_or x.appearances.counts (v * width) 0 → x ≡ settled_once width u x v
  unfolding settled_once
  once_marked h = rw (le-ltb (get_or x.appearances.counts (v * width) 0) 2 h)

-- ---- one record

module _ (bs : List ℕ) (width i : ℕ) (r : Contact) (read : contact_of r ≡ contact_at bs i) where
  read_hearer : r.hearer ≡ hearer_at bs i
  read_hearer = ap (λ c. c.hearer) read

  -- the entries of its hearer lie within the tables
  pub hearer_place : (n u size : ℕ) → HearerFits bs n i → u < width → n * width ≤ size → r.hearer * width + u < size
  hearer_place n u size h slot fits =
      place_below r.hearer u n width size (let inside = h.station in let same = read_hearer in omega arith) slot fits

  -- so its mark does
  pub mark_place : (n size : ℕ) → HearerFits bs n i → 0 < width → n * width ≤ size → r.hearer * width < size
  mark_place n size h some fits = let below = hearer_place n 0 size h some fits in omega arith

  pub hearer_within :
      (n u : ℕ) (x y : Table) → HearerFits bs n i → u < width → Fits n width x y → PlacesWithin y x r.hearer (r.hearer * width + u)
  hearer_within n u x y h slot f =
      let inside = h.station in
      let same = read_hearer in
      record {
        to_hops = let fits = f.station_hops_law in omega arith;
        to_counts = let fits = f.station_counts_law in omega arith;
        from_hops = hearer_place n u _ h slot f.hops;
        from_counts = hearer_place n u _ h slot f.counts;
      }

  -- it is taken in and marked
  pub record_taken :
      (u : ℕ) (x : Tables) (z : Table) → get_or x.appearances.counts (r.hearer * width) 0 < 2 →
      z ≡ merged_table x.stations r.hearer (get_or x.appearances.hops (r.hearer * width + u) 0)
      (get_or x.appearances.counts (r.hearer * width + u) 0) →
      ◌≡◌ {A = Tables}
      (record {
        appearances = table_of x.appearances.hops
            (set x.appearances.counts (r.hearer * width) (get_or x.appearances.counts (r.hearer * width) 0 + 2));
        stations = z;
      })
      (settled_once width u x (hearer_at bs i))
  record_taken u x z free is = rw is (once_free width u x r.hearer free ∙ ap (settled_once width u x) read_hearer)

  -- or is marked already
  pub record_marked :
      (u : ℕ) (x : Tables) → 2 ≤ get_or x.appearances.counts (r.hearer * width) 0 → x ≡ settled_once width u x (hearer_at bs i)
  record_marked u x held = once_marked width u x r.hearer held ∙ ap (settled_once width u x) read_hearer

  -- its mark is taken away, where it has one
  pub record_unmarked :
      (c : List ℕ) → 2 ≤ get_or c (r.hearer * width) 0 →
      set c (r.hearer * width) (get_or c (r.hearer * width) 0 - 2) ≡ unmarked_at c (hearer_at bs i * width)
  record_unmarked c held = unmark_some c (r.hearer * width) held ∙ ap (λ v. unmarked_at c (v * width)) read_hearer

  pub record_free : (c : List ℕ) → get_or c (r.hearer * width) 0 < 2 → c ≡ unmarked_at c (hearer_at bs i * width)
  record_free c free = unmark_none c (r.hearer * width) free ∙ ap (λ v. unmarked_at c (v * width)) read_hearer
