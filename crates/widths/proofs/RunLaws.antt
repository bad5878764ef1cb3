-- The loop of the pass without rows: each column whose bound is small has the keys of the pass with empty rows for its source; at the end no
-- count of that source is over 2^64 - 1. Assumes nothing.
use Rattle.std.proofs.Common.{◌≡◌, ℕ, ◌+◌, ◌-◌, ◌*◌, ◌%◌, ◌<◌, ◌≤◌, true, false, Ok, List, length, get_or, replicate, sym, refl, ap, ◌∙◌, subst, inr, ⊎_elim, mod-lt, mul-le-mul, arith, le-ltb, ne_eqb}
use lib.ListN.{length-replicate}
use Rattle.temporal.specs.Lists.{below, any}
use Rattle.temporal.specs.Plan.{Terms}
use Rattle.temporal.specs.Bytes.{contact_at, plan_of}
use Rattle.temporal.specs.Cause.{plan_fault, appearance_too_many, station_too_many, is_too_many}
use Rattle.walks.proofs.Accepted.{accepted}
use Rattle.lists.proofs.ListLaws.{any_false, mem_below}
use Rattle.plan.specs.Record.{in_slot, SlotRecords}
use Rattle.plan.proofs.SlotLaws.{in_slot_inv}
use Rattle.entries.proofs.CountLaws.{overflows_some, overflows_none}
use Rattle.lanes.specs.Lane.{ones}
use Rattle.pass.specs.Row.{part_size, part_at}
use Rattle.pass.specs.Entry.{area_overflows, reached_entry}
use Rattle.pass.specs.Column.{lanes_by}
use Rattle.pass.specs.Sweep.{sent_area, folded_area, Sweep, sweep_of, settled_by, begun_area, HearersFit}
use Rattle.pass.specs.PassedColumns.{waiting, area_size, ColumnsReady, SettledAt, EndedAs, last_ended}
use Rattle.pass.proofs.RowLaws.{combined_length, combined_other}
use Rattle.pass.proofs.PlaceLaws.{row_before}
use Rattle.pass.proofs.WidthLaws.{filled_by}
use Rattle.pass.proofs.EndLaws.{few_appearances, few_stations}
use Rattle.pass.proofs.MoveLaws.{Moving, moving_begun, moving_trail, moving_fold, moving_end, moving_on, moving_hearers, moving_settle}
use Rattle.pass.proofs.PassLaws.{Passing, ready_area, passing_begun, passing_area, passing_fold, passing_on, passing_settle, passed_end, drop_same}
use Rattle.widths.specs.Key.{splits_from, sent_key, settled_keys_by, folded_keys, begun_keys, KeysFit, FoldableKeys, BeginFits, SlotKeys}
use Rattle.widths.specs.Found.{widths_size, WidthsReady, WidthsFound}
use Rattle.widths.proofs.NarrowLaws.{narrow_splits}
use Rattle.widths.proofs.CellLaws.{cell, combined_apart, by_length, by_beyond, by_grows}
use Rattle.widths.proofs.PackLaws.{Packs, packs_sent, row_below, settled_held}
use Rattle.widths.proofs.SettleKeys.{follows}
use Rattle.widths.proofs.BeginKeys.{begun_keys_length, begun_keys_beyond, begun_packs}

-- the pass with empty rows for source s, whose entries the keys of column c are
pub record Column (bs : List ℕ) (n t : ℕ) (terms : Terms) (s q many c u j i : ℕ) (keys : List ℕ) : Type 0 where
  start : List ℕ
  area : List ℕ
  passing : Passing bs n t terms s n false (lanes_by 0) (λ v. 0) 0 q start (part_at n 0 q u) u j i area
  packs : Packs n q many c j keys area

-- The pass without rows is in slot u, at position j, and the rows of the part of slot u begin at row base. A column whose bound is below 2^32 has
-- its keys.
pub record Running (bs : List ℕ) (n t : ℕ) (terms : Terms) (first many q : ℕ) (old : List ℕ) (base u j i : ℕ) (keys : List ℕ) : Type 0 where
  pub ready : WidthsReady bs n t terms first many old
  pub parts : q ≡ waiting t terms
  pub moving : Moving bs t q u j i
  pub part : base ≡ (1 + u % q) * n
  pub same : length keys ≡ length old
  pub beyond : (k : ℕ) → widths_size n q many ≤ k → get_or keys k 0 ≡ get_or old k 0
  columns : (c : ℕ) → c < many → cell many keys ((1 + q) * n) c < 1125899906842624 → Column bs n t terms (first + c) q many c u j i keys

-- ---- the beginning

-- some slot of turnaround
ready_turns : (bs : List ℕ) (n t : ℕ) (terms : Terms) (first many : ℕ) (w : List ℕ) → WidthsReady bs n t terms first many w → 0 < waiting t terms
ready_turns bs n t terms first many w r =
    let some = (accepted bs n t r.accepted).some_slot in let turns = r.units.turns in omega arith

-- the numbers of a call are small, and the rows of its beginning fit
module _ (bs : List ℕ) (n t : ℕ) (terms : Terms) (first many : ℕ) (w : List ℕ) (r : WidthsReady bs n t terms first many w) (q : ℕ) (is : q ≡ waiting t terms) where
  pub ready_parts : (0 < q) × (q ≤ 256) × (n ≤ 256)
  ready_parts =
      let some = ready_turns bs n t terms first many w r in
      let slots = (accepted bs n t r.accepted).slots in
      (omega arith, omega arith, (accepted bs n t r.accepted).stations)

  pub ready_rows : (1 + q) * n ≤ 65536
  ready_rows =
      let slots = (accepted bs n t r.accepted).slots in
      let few : 1 + q ≤ 256 = omega arith in
      omega (arith, mul-le-mul few (accepted bs n t r.accepted).stations)

  pub ready_begin : BeginFits many ((1 + q) * n) first w
  ready_begin =
      let sources = r.sources in
      let stations = (accepted bs n t r.accepted).stations in
      let a = row_before n 0 (1 + q) (omega arith) in
      record { rows = omega arith; before = omega arith; fits = rw is r.fits }

-- a source of the call has a pass with empty rows
module _ (bs : List ℕ) (n t : ℕ) (terms : Terms) (first many : ℕ) (w : List ℕ) (r : WidthsReady bs n t terms first many w) (c : ℕ) (hc : c < many) where
  abbrev blank : List ℕ
  blank = replicate (area_size n (waiting t terms) 0) 0

  columns_ready : ColumnsReady bs n t terms (first + c) n 0 blank
  columns_ready =
      let inside = r.sources in
      record {
        accepted = r.accepted;
        units = r.units;
        source = omega arith;
        other = λ e. omega arith;
        fits = let l = length-replicate {A = ℕ} (area_size n (waiting t terms) 0) 0 in omega arith;
      }

pub running_begun : (bs : List ℕ) (n t : ℕ) (terms : Terms) (first many q bounds base : ℕ) (w keys : List ℕ)
    → WidthsReady bs n t terms first many w → q ≡ waiting t terms → bounds ≡ (1 + q) * n → base ≡ (1 + 1 % q) * n
    → keys ≡ begun_keys many bounds w first
    → Running bs n t terms first many q keys base 1 0 0 keys
running_begun bs n t terms first many q bounds base w keys r is at part e =
    record {
      ready = record {
        accepted = r.accepted;
        units = r.units;
        sources = r.sources;
        few = r.few;
        fits = let l = same in let f = r.fits in omega arith;
      };
      parts = is;
      moving = moving_begun bs n t terms r.accepted q (let p = ready_turns bs n t terms first many w r in omega arith);
      part = part;
      same = refl;
      beyond = λ k h. refl;
      columns = λ c hc small.
          let ready = columns_ready bs n t terms first many w r c hc in
          let area = ready_area bs n t terms (first + c) n 0 (blank bs n t terms first many w r c hc) ready in
          record {
            start = begun_area n 0 q (blank bs n t terms first many w r c hc) (first + c) (ones (lanes_by 0).width (lanes_by 0).lanes);
            area = begun_area n 0 q (blank bs n t terms first many w r c hc) (first + c) (ones (lanes_by 0).width (lanes_by 0).lanes);
            passing = passing_begun bs n t terms (first + c) n false (lanes_by 0) (filled_by 0 (omega arith)) (λ v. 0) 0 q
                (blank bs n t terms first many w r c hc)
                (begun_area n 0 q (blank bs n t terms first many w r c hc) (first + c) (ones (lanes_by 0).width (lanes_by 0).lanes))
                is ready refl (λ known. absurd (let z : ◌≡◌ {A = ℕ} 0 1 = cc in omega arith)) (part_at n 0 q 1) refl;
            packs = rw (e, at) (begun_packs n q many first w (accepted bs n t r.accepted).some_station r.sources (rw is r.fits) c hc _
                (blank bs n t terms first many w r c hc) (rw is area));
          };
    }
  where
    same : length keys ≡ length w
    same = rw (e, at) (begun_keys_length n q many first w (accepted bs n t r.accepted).some_station r.sources (rw is r.fits))

-- past the rows nothing is touched
pub begun_untouched : (bs : List ℕ) (n t : ℕ) (terms : Terms) (first many q bounds : ℕ) (w keys : List ℕ)
    → WidthsReady bs n t terms first many w → q ≡ waiting t terms → bounds ≡ (1 + q) * n → keys ≡ begun_keys many bounds w first
    → (length keys ≡ length w) × ((k : ℕ) → widths_size n q many ≤ k → get_or keys k 0 ≡ get_or w k 0)
begun_untouched bs n t terms first many q bounds w keys r is at e =
    let some = (accepted bs n t r.accepted).some_station in (
      rw (e, at) (begun_keys_length n q many first w some r.sources (rw is r.fits)),
      λ k h. rw (e, at) (begun_keys_beyond n q many first w some r.sources (rw is r.fits) k h),
    )

-- settling that did not stop
swept : (z : Sweep) → z.over ≡ false → sweep_of false z.work ≡ z
swept z e = ap (λ b. sweep_of b z.work) (sym e)

module _ {bs : List ℕ} {n t : ℕ} {terms : Terms} {first many q : ℕ} {old : List ℕ} {base u j i : ℕ} {keys : List ℕ}
    (x : Running bs n t terms first many q old base u j i keys) where
  ok : plan_fault bs n t ≡ 0
  ok = x.ready.accepted

  some : 0 < n
  some = (accepted bs n t ok).some_station

  some_part : 0 < q
  some_part = let p = ready_turns bs n t terms first many old x.ready in let is = x.parts in omega arith

  fits : ((1 + q) * n + 1) * many ≤ length keys
  fits = let same = x.same in omega (arith, rw (← x.parts) at x.ready.fits)

  -- the part of a slot
  keys_fit : (y : ℕ) → KeysFit n many ((1 + y % q) * n) ((1 + q) * n) keys
  keys_fit y =
      let low = mod-lt y some_part in
      let a = row_before n 0 (1 + y % q) (omega arith) in
      let b = row_before n (1 + y % q) (1 + q) (omega arith) in
      let slots = (accepted bs n t ok).slots in
      let is = x.parts in
      let few : 1 + q ≤ 256 = omega arith in
      let small = mul-le-mul few (accepted bs n t ok).stations in
      record { some = some; behind = omega arith; before = omega arith; small = omega arith; fits = fits }

  pub running_trail : i * 6 ≤ length bs
  running_trail = moving_trail bs n t terms ok x.moving

  -- a record of the slot can be folded in
  pub running_foldable : in_slot bs j u ≡ true → FoldableKeys bs n many base ((1 + q) * n) j keys
  running_foldable e =
      let (there, slot) = in_slot_inv bs j u e in
      let whole = (accepted bs n t ok).whole in
      let c = (accepted bs n t ok).contact j there in
      record {
        inside = omega arith;
        sender_station = c.sender_station;
        hearer_station = c.hearer_station;
        part = rw x.part (keys_fit u);
      }

  pub running_fold : in_slot bs j u ≡ true → Running bs n t terms first many q old base u (j + 1) i (folded_keys many base keys (contact_at bs j))
  unfolding folded_keys folded_area part_at
  running_fold e =
      let (there, slot) = in_slot_inv bs j u e in
      let ends = (accepted bs n t ok).contact j there in
      let few = (accepted bs n t ok).few in
      let low = mod-lt u some_part in
      let row = row_below n (1 + u % q) q (contact_at bs j).hearer (omega arith) ends.hearer_station in
      rw x.part (record {
        ready = x.ready;
        parts = x.parts;
        moving = moving_fold bs n t terms ok x.moving e;
        part = refl;
        same = combined_length sent_key keys _ _ many ∙ x.same;
        beyond = λ k h.
            combined_other sent_key keys (((1 + u % q) * n + (contact_at bs j).hearer) * many) ((contact_at bs j).sender * many) many k
            (inr (let a = row_before many ((1 + u % q) * n + (contact_at bs j).hearer) ((1 + q) * n + 1) (omega arith) in omega arith))
            ∙ x.beyond k h;
        columns = λ c hc small.
            let same = combined_apart many sent_key keys ((1 + u % q) * n + (contact_at bs j).hearer) (contact_at bs j).sender ((1 + q) * n) c hc
            (λ z. omega arith) in
            let column = x.columns c hc (omega arith) in
            record {
              start = column.start;
              area = sent_area false n 0 ((1 + u % q) * part_size n 0) column.area (contact_at bs j).sender (contact_at bs j).hearer;
              passing = passing_fold column.passing e;
              packs = packs_sent n q many c j keys column.area column.packs some hc fits (passing_area column.passing).fits
                  (1 + u % q) (omega arith) (omega arith) (contact_at bs j).sender (contact_at bs j).hearer
                  ends.sender_station ends.hearer_station (omega arith);
            };
      })

  module _ (e : in_slot bs j u ≡ false) where
    pub running_end : q < u + 1 → q ≡ 1 → SlotRecords bs (u + 1 - q) i j
    running_end = moving_end bs n t terms ok x.moving e

    -- nothing is settled
    pub running_on : (base' : ℕ) → base' ≡ (1 + (u + 1) % q) * n → u + 1 ≤ q → u < t + q
        → Running bs n t terms first many q old base' (u + 1) j i keys
    running_on base' part early more =
        record {
          ready = x.ready;
          parts = x.parts;
          moving = moving_on bs n t terms ok x.moving e early more;
          part = part;
          same = x.same;
          beyond = x.beyond;
          columns = λ c hc small.
              let column = x.columns c hc small in
              record {
                start = column.start;
                area = column.area;
                passing = passing_on column.passing e (part_at n 0 q (u + 1)) refl early more;
                packs = column.packs;
              };
        }

    -- the slot u + 1 - q is settled
    module _ (base' : ℕ) (part : base' ≡ (1 + (u + 1) % q) * n) (late : q < u + 1) (more : u < t + q) (end : ℕ)
        (found : SlotRecords bs (u + 1 - q) i end) where
      pub running_part : KeysFit n many base' ((1 + q) * n) keys
      running_part = rw part (keys_fit (u + 1))

      pub running_hearers : HearersFit bs n i end
      running_hearers = moving_hearers bs n t terms ok x.moving e late end found

      pub running_settle : (keys' : List ℕ) → SlotKeys bs n many base' ((1 + q) * n) i end keys keys'
          → Running bs n t terms first many q old base' (u + 1) j end keys'
      unfolding part_at reached_entry
      running_settle keys' slot =
          let low = mod-lt (u + 1) some_part in
          let few = (accepted bs n t ok).few in
          let within = x.moving.position.within in
          rw slot.out (record {
            ready = x.ready;
            parts = x.parts;
            moving = moving_settle bs n t terms ok x.moving e late end found more;
            part = part;
            same = by_length f n many base' ((1 + q) * n) k from keys running_part inside ∙ x.same;
            beyond = λ y h. by_beyond f n many base' ((1 + q) * n) k from keys running_part inside y h ∙ x.beyond y h;
            columns = λ c hc small.
                let grows = by_grows f n many base' ((1 + q) * n) k from keys running_part inside c hc in
                let column = x.columns c hc (omega arith) in
                let next = follows n q many c j (first + c) (λ v. 0) some hc (omega arith) (1 + (u + 1) % q) (omega arith) (omega arith) f k from keys
                column.area inside column.packs (keys_fit (u + 1)) (passing_area column.passing).fits (rw (← part) small) in
                record {
                  start = column.start;
                  area = (settled_by f false (lanes_by 0) n 0 ((1 + (u + 1) % q) * part_size n 0) (first + c) (λ v. 0) column.area from k).work;
                  passing = passing_settle column.passing e (part_at n 0 q (u + 1)) refl late more end found
                      (settled_by f false (lanes_by 0) n 0 ((1 + (u + 1) % q) * part_size n 0) (first + c) (λ v. 0) column.area from k).work false
                      (record {
                        stations = f;
                        from = from;
                        many = k;
                        chosen = slot.chosen;
                        out = swept _ next.goes;
                      }) refl (rw (le-ltb n n (omega arith)));
                  packs = subst (λ b. Packs n q many c j (settled_keys_by slot.stations many b ((1 + q) * n) keys slot.from slot.count)
                      (settled_by f false (lanes_by 0) n 0 ((1 + (u + 1) % q) * part_size n 0) (first + c) (λ v. 0) column.area from k).work)
                      (sym part) next.packs;
                };
          })
        where
          f : ℕ → ℕ
          f = slot.stations

          from : ℕ
          from = slot.from

          k : ℕ
          k = slot.count

          inside : (m : ℕ) → slot.from ≤ m → m < slot.from + slot.count → slot.stations m < n
          inside = slot.chosen.inside

  -- past the last slot a column whose bound is small has no count over 2^64 - 1
  pub running_few : t + q ≤ u → (c : ℕ) → c < many → cell many keys ((1 + q) * n) c < 1125899906842624
      → is_too_many (plan_of bs n t terms) (first + c) ≡ false
  unfolding is_too_many EndedAs last_ended
  running_few past c hc small = rw (appearances, stations)
    where
      column : Column bs n t terms (first + c) q many c u j i keys
      column = x.columns c hc small

      none : any (area_overflows n column.area) (below n) ≡ false
      none =
          (any_false _ (below n)).1 (λ v m.
          ⊎_elim (λ (h : (get_or column.area v 0 ≡ 65535) × (get_or column.area (v + n) 0 ≡ 0)).
          overflows_none (get_or column.area v 0) (get_or column.area (v + n) 0) (omega (arith, h.0)))
          (λ (h : (get_or column.area v 0 ≤ j) × ((0 < get_or column.area (v + n) 0) × (get_or column.area (v + n) 0 ≤ 4294967295))).
          let few = (accepted bs n t ok).few in
          let within = x.moving.position.within in
          overflows_some (get_or column.area v 0) (get_or column.area (v + n) 0) (omega (arith, h.0))
          ∙ ne_eqb (get_or column.area (v + n) 0) 0 (λ z. omega (arith, h.1.0)))
          (settled_held n q many c j keys column.area column.packs some hc fits (passing_area column.passing).fits 1 (omega arith)
          (let p = some_part in omega arith) v ((mem_below n).0 m)))

      ends : SettledAt bs n t terms (first + c) n (lanes_by 0) (λ v. 0) 0 column.area t
      ends =
          (passed_end column.passing (Ok t) past
          (sym (rw (le-ltb n n (omega arith), none)))).ends

      appearances : appearance_too_many (plan_of bs n t terms) (first + c) ≡ false
      appearances = few_appearances bs n t terms ok (first + c) ends.appearances

      stations : station_too_many (plan_of bs n t terms) (first + c) ≡ false
      stations = few_stations bs n t terms ok (first + c) (ends.stations (omega arith))

  -- the pass ends with the splits of the bounds
  pub running_found : t + q ≤ u → (w : List ℕ) → WidthsReady bs n t terms first many w → old ≡ begun_keys many ((1 + q) * n) w first
      → (r : ℕ) → r ≡ splits_from keys ((1 + q) * n * many) many → WidthsFound bs n t terms first many w keys r
  running_found past w ready begun r is =
      let (kept, untouched) = begun_untouched bs n t terms first many q ((1 + q) * n) w old ready x.parts refl begun in
      record {
        narrow = rw is (narrow_splits bs n t terms many first keys ((1 + q) * n * many) (running_few past));
        beyond = rw (← x.parts) (drop_same (widths_size n q many) keys w (x.same ∙ kept) (λ k h. x.beyond k h ∙ untouched k h));
        same_length = x.same ∙ kept;
      }
