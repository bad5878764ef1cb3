-- Settling a slot by its records: what the loop over them leaves, and that with the marks taken away the slot is settled.
-- Assumes nothing.
use Prim.Native.Nat.{ℕ, ◌+◌, ◌-◌, ◌*◌, ◌<◌, ◌≤◌}
use native.Mathlib.Omega.{arith}
use native.Mathlib.Decide.{dec_lt, ℕ_discrete}
use mathlib.Core.Path.{◌≡◌, refl, ap, ◌∙◌}
use mathlib.Core.List.{List}
use mathlib.Core.Logic.{◌≢◌, ◌⊎◌, inl, inr, ⊎_elim, by_cases}
use lib.ListN.{length, get_or, set, length-set}
use lib.Seq.{get_or-set_same, get_or-set_other}
use Rattle.reach_entries.specs.Table.{Table, table_of, merged_table, Fits, TakenIn}
use Rattle.reach_entries.specs.Pass.{Tables, Beyond}
use Rattle.reach_lasting.specs.Slot.{hearer_at, settled_once, unmarked_by, Settleable, LeftOut, SlotSettled}
use Rattle.reach_entries.proofs.EntryLaws.{merged_other_hops, merged_other_counts}
use Rattle.reach_entries.proofs.PlaceLaws.{place_below}
use Rattle.reach_entries.proofs.TableLaws.{stations_apart, beyond_refl, beyond_merged}
use Rattle.reach_entries.proofs.TableLaws.{merged_taken, taken_kept, taken_from}
use Rattle.reach_lasting.proofs.OnceLaws.{once_free, once_marked}
use Rattle.reach_lasting.proofs.MarkLaws.{Marks, marks_later, marks_wider, marks_more, unmarked_all}

-- ---- the hearers of the records from j to before i

-- a station that is marked is taken in, and one that is not is as it was
record Done (width u : ℕ) (old now : Tables) (v : ℕ) : Type 0 where
  marked : 2 ≤ get_or now.appearances.counts (v * width) 0
  taken : TakenIn old.appearances old.stations now.stations v (v * width + u)

record Open (bs : List ℕ) (width j i : ℕ) (old now : Tables) (v : ℕ) : Type 0 where
  free : get_or now.appearances.counts (v * width) 0 < 2
  left : LeftOut bs j i old.stations now.stations v

pub record Sweeping (bs : List ℕ) (n width u j : ℕ) (old : Tables) (i : ℕ) (now : Tables) : Type 0 where
  pub from : j ≤ i
  pub same : length now.appearances.counts ≡ length old.appearances.counts
  hops : now.appearances.hops ≡ old.appearances.hops
  marks : Marks bs width j i old.appearances.counts now.appearances.counts
  station : (v : ℕ) → v < n → Done width u old now v ⊎ Open bs width j i old now v
  pub beyond : Beyond n old.stations now.stations

module _ (bs : List ℕ) (n width u j e : ℕ) (old : Tables) (ask : Settleable bs n width u j e old) where
  pub sweeping_none : Sweeping bs n width u j old j old
  sweeping_none =
      record {
        from = omega arith;
        same = refl;
        hops = refl;
        marks = λ p. inl refl;
        station = λ v h. inr (record {
          free = ask.unmarked v h;
          left = record { hops = refl; count = refl; unheard = λ i low high. absurd (omega arith) };
        });
        beyond = beyond_refl n old.stations;
      }

  -- the tables still fit
  pub sweeping_fits : (i : ℕ) (now : Tables) → Sweeping bs n width u j old i now → Fits n width now.appearances now.stations
  sweeping_fits i now s =
      let f = ask.fits in
      record {
        hops = rw s.hops f.hops;
        counts = let c = s.same in let g = f.counts in omega arith;
        station_hops_law = let c = s.beyond.hops_length in let g = f.station_hops_law in omega arith;
        station_counts_law = let c = s.beyond.counts_length in let g = f.station_counts_law in omega arith;
      }

  module _ (i : ℕ) (now : Tables) (s : Sweeping bs n width u j old i now) (more : i < e) where
    -- the record's hearer is marked already
    again : 2 ≤ get_or now.appearances.counts (hearer_at bs i * width) 0 → Sweeping bs n width u j old (i + 1) now
    again held =
        let low = s.from in
        record {
          from = omega arith;
          same = s.same;
          hops = s.hops;
          marks = marks_wider bs width old.appearances.counts now.appearances.counts j i s.marks;
          station = λ v h. ⊎_elim inl (λ (o : Open bs width j i old now v). inr (record {
            free = o.free;
            left = record {
              hops = o.left.hops;
              count = o.left.count;
              unheard = λ m from to. by_cases (ℕ_discrete m i)
                  (λ same. rw same (λ here. let free = rw here at o.free in omega arith))
                  (λ other. o.left.unheard m from (omega arith));
            };
          })) (s.station v h);
          beyond = s.beyond;
        }

    -- it is not
    first :
        get_or now.appearances.counts (hearer_at bs i * width) 0 < 2 →
        Sweeping bs n width u j old (i + 1)
        (record {
          appearances = table_of now.appearances.hops
              (set now.appearances.counts (hearer_at bs i * width)
              (get_or now.appearances.counts (hearer_at bs i * width) 0 + 2));
          stations = merged_table now.stations (hearer_at bs i) (get_or now.appearances.hops (hearer_at bs i * width + u) 0)
              (get_or now.appearances.counts (hearer_at bs i * width + u) 0);
        })
    first free =
        record {
          from = omega (arith, s.from);
          same = length-set now.appearances.counts (hearer_at bs i * width) _ ∙ s.same;
          hops = s.hops;
          marks = marks_more bs width old.appearances.counts now.appearances.counts j i b refl s.from mark_inside free
              s.marks;
          station = λ v h. by_cases (ℕ_discrete v b) (λ same. rw same (inl here)) (λ other. ⊎_elim (λ d. inl (there v other d))
              (λ o. inr (apart v other o)) (s.station v h));
          beyond = beyond_merged n old.stations now.stations b _ _ inside s.beyond;
        }
      where
        b : ℕ
        b = hearer_at bs i

        inside : b < n
        inside = (ask.hearers i s.from more).station

        new : Table
        new =
            merged_table now.stations b (get_or now.appearances.hops (b * width + u) 0)
            (get_or now.appearances.counts (b * width + u) 0)

        counts : List ℕ
        counts = set now.appearances.counts (b * width) (get_or now.appearances.counts (b * width) 0 + 2)

        after : Tables
        after = record { appearances = table_of now.appearances.hops counts; stations = new }

        mark_inside : b * width < length now.appearances.counts
        mark_inside =
            let fits = (sweeping_fits i now s).counts in
            let slot = ask.slot in
            let below = place_below b 0 n width (length now.appearances.counts) inside (omega arith) fits in
            omega arith

        -- its entry is as it was till now
        open_here : LeftOut bs j i old.stations now.stations b
        open_here =
            ⊎_elim (λ (d : Done width u old now b). let held = d.marked in absurd (omega arith))
            (λ (o : Open bs width j i old now b). o.left) (s.station b inside)

        here : Done width u old after b
        here =
            let f = sweeping_fits i now s in
            let h = f.station_hops_law in
            let c = f.station_counts_law in
            let station = inside in
            let same_count = marks_later bs width old.appearances.counts now.appearances.counts j i b u ask.later ask.slot
            s.marks in
            let same_hops : get_or now.appearances.hops (b * width + u) 0 ≡ get_or old.appearances.hops (b * width + u) 0 =
            ap (λ l. get_or l (b * width + u) 0) s.hops in
            record {
              marked = let at = get_or-set_same now.appearances.counts (b * width) (get_or now.appearances.counts (b * width) 0 + 2) 0
                  mark_inside in rw at (omega arith);
              taken = rw (same_count, same_hops)
                  (taken_from old.appearances old.stations now.stations _ b (b * width + u) open_here.hops open_here.count
                  (merged_taken old.appearances now.stations b (b * width + u) (omega arith) (omega arith)));
            }

        -- the marks of other stations stay
        mark_other : (v : ℕ) → v ≢ b → get_or counts (v * width) 0 ≡ get_or now.appearances.counts (v * width) 0
        mark_other v other =
            let slot = ask.slot in
            get_or-set_other now.appearances.counts (b * width) (v * width) _ 0
            (λ e. let lift : v * width + 0 ≡ b * width + 0 = omega arith in
            stations_apart v 0 b 0 width (omega arith) (omega arith) other lift)

        there : (v : ℕ) → v ≢ b → Done width u old now v → Done width u old after v
        there v other d =
            record {
              marked = rw (mark_other v other) d.marked;
              taken = taken_kept old.appearances old.stations now.stations new v (v * width + u)
                  (merged_other_hops now.stations b _ _ v other) (merged_other_counts now.stations b _ _ v other) d.taken;
            }

        apart : (v : ℕ) → v ≢ b → Open bs width j i old now v → Open bs width j (i + 1) old after v
        apart v other o =
            record {
              free = rw (mark_other v other) o.free;
              left = record {
                hops = merged_other_hops now.stations b _ _ v other ∙ o.left.hops;
                count = merged_other_counts now.stations b _ _ v other ∙ o.left.count;
                unheard = λ m from to. by_cases (ℕ_discrete m i)
                    (λ same. rw same other) (λ before. o.left.unheard m from (omega arith));
              };
            }

    -- one record more
    pub sweeping_more : (new : Tables) → new ≡ settled_once width u now (hearer_at bs i) → Sweeping bs n width u j old (i + 1) new
    sweeping_more new is =
        by_cases (dec_lt (get_or now.appearances.counts (hearer_at bs i * width) 0) 2)
        (λ free. rw (is, ← once_free width u now (hearer_at bs i) free) (first free))
        (λ held. rw (is, ← once_marked width u now (hearer_at bs i) (omega arith)) (again (omega arith)))

  -- all the records, and their marks taken away
  pub sweeping_all :
      (i : ℕ) (now : Tables) (h c : List ℕ) → e ≤ i → i ≤ e → h ≡ old.appearances.hops →
      c ≡ unmarked_by bs width now.appearances.counts j (e - j) → Sweeping bs n width u j old i now →
      SlotSettled bs n width u j e old (record { appearances = table_of h c; stations = now.stations })
  sweeping_all i now h c past within hops is s =
      let up = ask.up in
      let last : i ≡ e = omega arith in
      let slot = ask.slot in
      record {
        appearances = rw (
          hops,
          is,
          unmarked_all bs n width e old.appearances.counts ask.fits.counts (omega arith) ask.unmarked
              (e - j) j now.appearances.counts (omega arith) s.same ask.hearers (rw last at s.marks),
        );
        station = λ v g. ⊎_elim (λ (d : Done width u old now v). inl d.taken)
            (λ (o : Open bs width j i old now v). inr (rw last at o.left)) (s.station v g);
        beyond = s.beyond;
      }
