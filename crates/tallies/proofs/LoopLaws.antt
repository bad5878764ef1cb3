-- The loops of the tallies over the stations of a block and over destinations, with all lists as variables.
-- Assumes nothing.
use Prim.Native.Nat.{ℕ, ◌+◌, ◌*◌, ◌/◌, ◌^◌, ◌<◌, ◌≤◌, min}
use native.Mathlib.Nat.{mul-le-mul_right, add-mul}
use mathlib.Core.Path.{◌≡◌, refl, sym, subst, ◌∙◌}
use mathlib.Core.Bool.{Bool, true, false, cond}
use borrow.Author.Tests.{eqb-true}
use lib.Dec.{eqb}
use mathlib.Core.List.{List}
use mathlib.Core.Logic.{inl, inr, ⊎_elim, ◌≢◌}
use native.Mathlib.Omega.{arith}
use lib.ListN.{length, get_or}
use Rattle.temporal.specs.Bytes.{plan_of}
use Rattle.temporal.specs.Plan.{Terms}
use Rattle.temporal.specs.Shortest.{shortest_walks_to, hops, count}
use Rattle.tallies.specs.Progress.{Rows, stations_in, Working, Workable, DestinationsAdded, Addable, added_at}
use Rattle.tallies.specs.Progress.{CountFits, EntryWorkable, EntriesAdded}
use Rattle.lanes.specs.Lane.{ones, lanes_of, width_of}
use Rattle.pass.specs.Column.{lanes_by, columns_in}
use Rattle.tallies.proofs.AddLaws.{added_front}
use Rattle.tallies.proofs.StateLaws.{working_again, working_over, working_self, working_unreached, working_row}
use Rattle.tallies.proofs.StateLaws.{working_addable, working_add, working_jump, row_place}

-- the first entries hold all stations, where there are as many as the row has
all_stations : (rows : Rows) (e : ℕ) → rows.stations ≤ columns_in (lanes_by rows.split) rows.entries → rows.entries ≤ e
    → rows.stations ≤ stations_in rows e
all_stations rows e columns h =
    let most = mul-le-mul_right (2 ^ rows.split) h in
    go (eqb (2 ^ rows.split) 1) refl columns most
  where
    go : (b : Bool) → eqb (2 ^ rows.split) 1 ≡ b → rows.stations ≤ cond b rows.entries (rows.entries * 2 ^ rows.split)
        → rows.entries * 2 ^ rows.split ≤ e * 2 ^ rows.split → rows.stations ≤ stations_in rows e
    go true q c m = let one = eqb-true (2 ^ rows.split) 1 q in let same : e * 2 ^ rows.split ≡ e = rw one (omega arith) in omega arith
    go false q c m = omega arith

-- ---- one row

module _ (n base s low : ℕ) (rows : Rows) (z : ℕ) (old : List ℕ) where
  -- the source is no destination
  pub row_self : z ≡ s → DestinationsAdded n base s low rows z (z + 1) old old
  row_self e = record { working = λ bs t terms k. working_self bs n t terms base s low rows z k e }

  -- a destination without a walk adds nothing
  pub row_unreached : z < n → 65535 ≤ get_or old z 0 → DestinationsAdded n base s low rows z (z + 1) old old
  row_unreached h far = record { working = λ bs t terms k. working_unreached bs n t terms base s low rows z k h far }

-- the count of a destination that is reached fits its lane
pub row_count : (n base s low : ℕ) (rows : Rows) (z : ℕ) (old : List ℕ) → Workable n base s low rows z old → z < n → get_or old z 0 < 65535
    → CountFits n rows.split z old
row_count n base s low rows z old pre destination near =
    let k = pre.working in
    let room = k.room in
    let there = k.counted.stations.station_hops_law z destination in
    let counts = k.counted.stations.station_counts_law z destination in
    record {
      few = k.few;
      there = omega (arith, room.area, room.fits);
      fits = ⊎_elim inl (λ (h : count (shortest_walks_to (plan_of pre.plan n pre.slots pre.terms) s z) < 2 ^ (64 / 2 ^ rows.split)).
          inr (omega (arith, counts)))
          (k.counted.thin z destination (omega arith));
    }

-- ---- one entry of a row

-- for every plan, the tallies of destination z go on from station first of the block to station j
pub record Tracking (n base s low : ℕ) (rows : Rows) (z first : ℕ) (old : List ℕ) (j : ℕ) (w : List ℕ) : Type 0 where
  pub from : first ≤ j
  pub within : j ≤ rows.stations
  pub working : (bs : List ℕ) (t : ℕ) (terms : Terms) → Working bs n t terms base s low rows z first old old
      → Working bs n t terms base s low rows z j old w
  pub front : (i : ℕ) → i < base → get_or w i 0 ≡ get_or old i 0

module _ (n base s low : ℕ) (rows : Rows) (z e all : ℕ) (old : List ℕ) (pre : EntryWorkable n base s low rows z e all old) where
  reached : (bs : List ℕ) (t : ℕ) (terms : Terms) (j : ℕ) → Working bs n t terms base s low rows z j old old
      → hops (shortest_walks_to (plan_of bs n t terms) s z) < 65535
  reached bs t terms j k = let near = pre.near in omega (arith, k.counted.stations.station_hops_law z pre.destination)

  -- every lane of the entry holds the count
  pub entry_skipped : get_or old (2 * n + z * rows.entries + e) 0 ≡ all → EntriesAdded n base s low rows z e (e + 1) old old
  entry_skipped is =
      record {
        working = λ bs t terms k.
            working_jump bs n t terms base s low rows z e k pre.destination (reached bs t terms (stations_in rows e) k) (is ∙ pre.full);
        front = λ i h. refl;
      }

  -- the entry lies in the row
  pub entry_place : 2 * n + z * rows.entries + e < length old
  entry_place =
      let room = pre.working.room in
      omega (arith, room.area, room.fits, row_place n rows.entries z e pre.destination pre.entry)

  pub tracking_none : (j : ℕ) → j ≡ stations_in rows e → Tracking n base s low rows z (stations_in rows e) old j old
  tracking_none j is =
      record {
        from = omega arith;
        within = rw is (omega arith);
        working = λ bs t terms k. rw is k;
        front = λ i h. refl;
      }

  module _ (j : ℕ) (w : List ℕ) (f : Tracking n base s low rows z (stations_in rows e) old j w) where
    pub tracking_length : length w ≡ length old
    tracking_length = (f.working pre.plan pre.slots pre.terms pre.working).kept.same_length

    pub tracking_all : j ≡ stations_in rows (e + 1) → EntriesAdded n base s low rows z e (e + 1) old w
    tracking_all is = record { working = λ bs t terms k. rw (sym is) (f.working bs t terms k); front = f.front }

    module _ (h : j < rows.stations) where
      pub tracking_addable : Addable n base low rows.entries rows.split z j w
      tracking_addable =
          let k = pre.working in
          working_addable pre.plan n pre.slots pre.terms base s low rows z j
          (f.working pre.plan pre.slots pre.terms k) pre.destination h
          (reached pre.plan pre.slots pre.terms (stations_in rows e) k)

      pub tracking_more : Tracking n base s low rows z (stations_in rows e) old (j + 1) (added_at n base low rows.entries rows.split z j w)
      tracking_more =
          record {
            from = let g = f.from in omega arith;
            within = omega arith;
            working = λ bs t terms k.
                working_add bs n t terms base s low rows z j (f.working bs t terms k) pre.destination h
                (reached bs t terms (stations_in rows e) k) (λ q. pre.apart (sym q));
            front = λ i g.
                added_front n base low rows.entries rows.split z j w
                (let r = tracking_addable.room in let l = tracking_addable.station in (l, r.fits)) i g ∙ f.front i g;
          }

-- The loop over the stations of entry e, from station e 2^split of the block to before end: where j is past the last station of the block,
-- all of them are added.
pub record Running (n base s low : ℕ) (rows : Rows) (z e : ℕ) (old : List ℕ) (end j : ℕ) (w : List ℕ) : Type 0 where
  pub tracking : Tracking n base s low rows z (stations_in rows e) old (min j rows.stations) w
  pub under : min j rows.stations ≤ end
  pub last : end ≡ stations_in rows (e + 1)

module _ (n base s low : ℕ) (rows : Rows) (z e all : ℕ) (old : List ℕ) (pre : EntryWorkable n base s low rows z e all old) (end j : ℕ) where
  pub running_none : end ≡ stations_in rows (e + 1) → j ≡ e * 2 ^ rows.split → Running n base s low rows z e old end j old
  running_none last first =
      let more = add-mul e 1 (2 ^ rows.split) in
      record {
        tracking = tracking_none n base s low rows z e all old pre (min j rows.stations) (rw first refl);
        under = omega arith;
        last = last;
      }

  module _ (w : List ℕ) (f : Running n base s low rows z e old end j w) where
    at_station : j < end → min j rows.stations ≡ j
    at_station h = let l = f.last in omega arith

    pub running_length : length w ≡ length old
    running_length = tracking_length n base s low rows z e all old pre (min j rows.stations) w f.tracking

    pub running_addable : j < end → Addable n base low rows.entries rows.split z j w
    running_addable h =
        let l = f.last in
        tracking_addable n base s low rows z e all old pre j w
        (subst (λ i. Tracking n base s low rows z (stations_in rows e) old i w) (at_station h) f.tracking) (omega arith)

    pub running_more : j < end → Running n base s low rows z e old end (j + 1) (added_at n base low rows.entries rows.split z j w)
    running_more h =
        let l = f.last in
        let next : min (j + 1) rows.stations ≡ j + 1 = omega arith in
        record {
          tracking = rw next (tracking_more n base s low rows z e all old pre j w
              (subst (λ i. Tracking n base s low rows z (stations_in rows e) old i w) (at_station h) f.tracking) (omega arith));
          under = omega arith;
          last = f.last;
        }

    pub running_all : end ≤ j → EntriesAdded n base s low rows z e (e + 1) old w
    running_all h =
        let l = f.last in
        let u = f.under in
        tracking_all n base s low rows z e all old pre (min j rows.stations) w f.tracking (omega arith)

-- ---- the entries of a row

-- for every plan, destination z is added to the stations of the first e entries
pub record Entering (n base s low : ℕ) (rows : Rows) (z : ℕ) (old : List ℕ) (e : ℕ) (w : List ℕ) : Type 0 where
  pub within : e ≤ rows.entries
  pub working : (bs : List ℕ) (t : ℕ) (terms : Terms) → Working bs n t terms base s low rows z 0 old old
      → Working bs n t terms base s low rows z (stations_in rows e) old w
  pub front : (i : ℕ) → i < base → get_or w i 0 ≡ get_or old i 0

pub entering_none : (n base s low : ℕ) (rows : Rows) (z : ℕ) (old : List ℕ) → Entering n base s low rows z old 0 old
entering_none n base s low rows z old =
    let none : 0 ≡ stations_in rows 0 = omega arith in
    record { within = omega arith; working = λ bs t terms k. rw (sym none) k; front = λ i h. refl }

module _ (n base s low : ℕ) (rows : Rows) (z : ℕ) (old : List ℕ) (e : ℕ) (w : List ℕ) (f : Entering n base s low rows z old e w)
    (pre : Workable n base s low rows z old) where
  pub entering_length : length w ≡ length old
  entering_length = (f.working pre.plan pre.slots pre.terms pre.working).kept.same_length

  pub entering_workable : (all : ℕ) → z < n → z ≢ s → get_or old z 0 < 65535 → e < rows.entries
      → all ≡ get_or old (n + z) 0 * ones (width_of rows.split) (lanes_of rows.split) → EntryWorkable n base s low rows z e all w
  entering_workable all destination apart near entry full =
      let area = pre.working.room.area in
      record {
        plan = pre.plan;
        slots = pre.slots;
        terms = pre.terms;
        working = working_again pre.plan n pre.slots pre.terms base s low rows
            (f.working pre.plan pre.slots pre.terms pre.working);
        destination = destination;
        apart = apart;
        near = let same = f.front z (omega arith) in omega arith;
        entry = entry;
        full = let same = f.front (n + z) (omega arith) in rw same full;
      }

  pub entering_more : (x : List ℕ) → e < rows.entries → EntriesAdded n base s low rows z e (e + 1) w x → Entering n base s low rows z old (e + 1) x
  entering_more x h a =
      record {
        within = omega arith;
        working = λ bs t terms k.
            let m = f.working bs t terms k in
            working_over bs n t terms base s low rows m (a.working bs t terms (working_again bs n t terms base s low rows m));
        front = λ i g. a.front i g ∙ f.front i g;
      }

  pub entering_all : rows.entries ≤ e → DestinationsAdded n base s low rows z (z + 1) old w
  entering_all h =
      record {
        working = λ bs t terms k.
            working_row bs n t terms base s low rows z (f.working bs t terms k) (all_stations rows e k.columns h);
      }

-- ---- all rows

-- for every plan, the destinations below z are added
pub record Sweeping (n base s low : ℕ) (rows : Rows) (old : List ℕ) (z : ℕ) (w : List ℕ) : Type 0 where
  pub within : z ≤ n
  pub advanced : DestinationsAdded n base s low rows 0 z old w

pub sweeping_none : (n base s low : ℕ) (rows : Rows) (old : List ℕ) → Sweeping n base s low rows old 0 old
sweeping_none n base s low rows old = record { within = omega arith; advanced = record { working = λ bs t terms k. k } }

module _ (n base s low : ℕ) (rows : Rows) (old : List ℕ) (z : ℕ) (w : List ℕ) (f : Sweeping n base s low rows old z w) where
  module _ (pre : Workable n base s low rows 0 old) where
    pub sweeping_workable : Workable n base s low rows z w
    sweeping_workable =
        record {
          plan = pre.plan;
          slots = pre.slots;
          terms = pre.terms;
          working =
              working_again pre.plan n pre.slots pre.terms base s low rows
              (f.advanced.working pre.plan pre.slots pre.terms pre.working);
        }

    pub sweeping_length : length w ≡ length old
    sweeping_length = (f.advanced.working pre.plan pre.slots pre.terms pre.working).kept.same_length

  pub sweeping_more : z < n → (x : List ℕ) → DestinationsAdded n base s low rows z (z + 1) w x
      → Sweeping n base s low rows old (z + 1) x
  sweeping_more h x a =
      record {
        within = omega arith;
        advanced =
            record {
              working = λ bs t terms k.
                  let m = f.advanced.working bs t terms k in
                  working_over bs n t terms base s low rows m
                  (a.working bs t terms (working_again bs n t terms base s low rows m));
            };
      }

  pub sweeping_all : n ≤ z → DestinationsAdded n base s low rows 0 n old w
  sweeping_all h =
      let e : z ≡ n = let g = f.within in omega arith in
      subst (λ y. DestinationsAdded n base s low rows 0 y old w) e f.advanced
