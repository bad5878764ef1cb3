-- The uses of the pass: a column for each station of a block, and one column for the members of a set; through every slot.
-- Assumes nothing.
use Prim.Native.Nat.{ℕ, ◌+◌, ◌*◌, ◌/◌, ◌^◌, ◌<◌, ◌≤◌}
use native.Mathlib.Nat.{mul-one}
use native.Mathlib.Omega.{arith}
use native.Mathlib.Decide.{dec_le, ℕ_discrete}
use mathlib.Core.Path.{◌≡◌, refl, sym, ap, subst, ◌∙◌, fun_ext}
use mathlib.Core.Bool.{Bool, true, false, not, cond, ◌&&◌}
use mathlib.Core.List.{List}
use Rattle.std.specs.Prelude.{Result, Ok, Err, is_err}
use mathlib.Core.Logic.{◌⊎◌, inl, inr, ⊎_elim, by_cases, ◌≢◌}
use borrow.Author.Tests.{lt-ltb, le-ltb, eq-eqb, ne_eqb, eqb-true}
use lib.Dec.{eqb}
use lib.ListN.{length, get_or}
use Rattle.temporal.specs.Plan.{Terms, Keeps}
use Rattle.temporal.specs.Bytes.{plan_of}
use Rattle.temporal.specs.Cause.{plan_fault, appearance_too_many, station_too_many, is_too_many}
use Rattle.temporal.specs.Shortest.{hops, count, through_in, through}
use Rattle.temporal.specs.Set.{touched_in, touched}
use Rattle.temporal.specs.Foremost.{arrival, walks_by}
use Rattle.temporal.specs.Struck.{lacking_record}
use Rattle.walks.proofs.Accepted.{accepted}
use Rattle.walks.proofs.LackingLaws.{lacking_nothing}
use Rattle.walks.proofs.SetLaws.{touched_one_in}
use Rattle.walks.proofs.PlanLaws.{slots_within}
use Rattle.walks.proofs.ForemostLaws.{arrival_outside, arrival_after_start, shortest_by_last}
use Rattle.counting.proofs.Through.{touched_others}
use Rattle.entries.proofs.HopLaws.{few_slots}
use Rattle.pass.specs.declared.Columns.TheVariants as columns
use Rattle.pass.specs.declared.Stopped.{Stopped}
use Rattle.pass.specs.declared.Stopped.TheVariants as stopped
use Rattle.pass.specs.Column.{block_column, column_of, Lanes, whole, lanes_by, columns_in, column_at}
use Rattle.forward.specs.declared.Unpacked.{Unpacked}
use Rattle.forward.specs.Passed.{packed_as, PackedReady, PackedCounted, PackedAs, PackedPassed}
use Rattle.forward.specs.Passed.{pass_size, DepthReady, UntilReady, PassReady, Counted, Passed, SetReady, SetPassed}
use Rattle.pass.proofs.SettleLaws.{or_none}
use Rattle.pass.specs.PassedColumns.{waiting, area_size, ColumnsReady, Spared, CountedBy, SettledAt, EndedAs, ColumnsPassed}
use Rattle.stale.specs.Window.{WindowReady}
use Rattle.stale.specs.Size.{window_size}
use Rattle.stale.specs.Depth.{DepthOf}
use Rattle.stale.proofs.DepthLaws.{deep_all}
use Rattle.forward.proofs.SizeLaws.{size_kept, size_window}
use Rattle.pass.specs.PassedColumns.{slot_of, Overfull}
use Rattle.pass.proofs.EndLaws.{few_appearances, few_stations}

-- ---- a block of stations

module _ (low block : ℕ) where
  -- column j stands for station low + j
  block_own : (j v : ℕ) → j < block → v ≡ low + j → block_column low block v ≡ j
  block_own j v h e = rw (le-ltb v low (omega arith)) (omega arith)

  -- and for no other
  block_other : (j v : ℕ) → j < block → v ≢ low + j → block_column low block v ≢ j
  block_other j v h d =
      by_cases (dec_le low v) (λ q. rw (le-ltb v low q) (omega arith)) (λ q. rw (lt-ltb v low (omega arith)) (omega arith))

  block_column_law : (j : ℕ) → j < block → (v : ℕ) → eqb (block_column low block v) j ≡ eqb (low + j) v
  block_column_law j h v =
      by_cases (ℕ_discrete v (low + j))
      (λ e. eq-eqb _ j (block_own j v h e) ∙ sym (eq-eqb (low + j) v (sym e)))
      (λ d. ne_eqb _ j (block_other j v h d) ∙ sym (ne_eqb (low + j) v (λ e. d (sym e))))

  -- what a row says of a station of the block: how many walks do not have it inside
  pub block_row : (bs : List ℕ) (n t : ℕ) (terms : Terms) (s e : ℕ) (work : List ℕ) → low + block ≤ n
      → CountedBy bs n t terms s e whole (block_column low block) block work
      → (z j : ℕ) → z < n → j < block → low + j ≢ z → count (walks_by (plan_of bs n t terms) s z e) ≤ 18446744073709551615
      → hops (walks_by (plan_of bs n t terms) s z e) < 65535
      → get_or work (2 * n + z * block + j) 0 + through_in (plan_of bs n t terms) s z (walks_by (plan_of bs n t terms) s z e) (low + j)
      ≡ count (walks_by (plan_of bs n t terms) s z e)
  unfolding plan_of
  block_row bs n t terms s e work all x z j inside column d few some =
      let same : through_in (plan_of bs n t terms) s z (walks_by (plan_of bs n t terms) s z e) (low + j)
      ≡ touched_in (plan_of bs n t terms) s z (walks_by (plan_of bs n t terms) s z e) (λ v. eqb (block_column low block v) j) =
      sym (touched_one_in (plan_of bs n t terms) s z (walks_by (plan_of bs n t terms) s z e) (low + j) (omega arith))
      ∙ ap (touched_in (plan_of bs n t terms) s z (walks_by (plan_of bs n t terms) s z e)) (sym (fun_ext (block_column_law j column))) in
      ap (λ k. get_or work (2 * n + z * block + j) 0 + k) same
      ∙ x.rows z j inside column (block_other j z column (λ q. d (sym q))) few some

-- ---- a pass that ends in a slot

-- the slot in which it ends is one of the plan's, where it waits for another station than the source
module _ (bs : List ℕ) (n t : ℕ) (terms : Terms) (s until : ℕ) (ok : plan_fault bs n t ≡ 0) (other : s ≢ until) (col : ℕ → ℕ) (block : ℕ)
    (work : List ℕ) where
  -- it is settled in one, or meets a count over 2^64 - 1
  pub not_settled : (r : Result ℕ Stopped) → EndedAs bs n t terms s until whole col block work r → slot_of r ≡ 0 → Overfull bs n t terms s until
  unfolding slot_of EndedAs
  not_settled (Ok e) x d =
      let slot = x.slot in
      let later = after in
      let some = (accepted bs n t ok).some_slot in
      absurd (omega arith)
    where
      after : 0 < arrival (plan_of bs n t terms) s until
      after = arrival_after_start (plan_of bs n t terms) (slots_within bs n t terms ok) s until (few_slots bs n t terms ok) other
  not_settled (Err stopped.StationTooMany) x d = inr x
  not_settled (Err stopped.AppearanceTooMany) x d = inl x
  not_settled (Err stopped.TooWide) x d = absurd (x refl)

-- ---- a pass through every slot

module _ (lay : Lanes) (bs : List ℕ) (n t : ℕ) (terms : Terms) (s : ℕ) (ok : plan_fault bs n t ≡ 0) (source : s < n) (col : ℕ → ℕ) (block : ℕ)
    (work : List ℕ) where
  -- it is settled in the last slot where it meets no count over 2^64 - 1
  pub whole_settled : (r : Result ℕ Stopped) → is_err r ≡ false → EndedAs bs n t terms s n lay col block work r
      → SettledAt bs n t terms s n lay col block work t
  unfolding EndedAs
  whole_settled (Ok e) q x =
      let never = arrival_outside bs n t terms ok s n source (omega arith) in
      let most = (accepted bs n t ok).slots in
      let last : e ≡ t = let slot = x.slot in omega arith in
      subst (λ e. SettledAt bs n t terms s n lay col block work e) last x
  whole_settled (Err e) q x = absurd (let z : ◌≡◌ {A = ℕ} 0 1 = cc in omega arith)

  -- no appearance has more where it is settled
  pub whole_appearances : (e : ℕ) → SettledAt bs n t terms s n lay col block work e → appearance_too_many (plan_of bs n t terms) s ≡ false
  unfolding EndedAs
  whole_appearances e x =
      few_appearances bs n t terms ok s (whole_settled (Ok e) refl x).appearances

  -- then no station has more either
  whole_stations : SettledAt bs n t terms s n lay col block work t → station_too_many (plan_of bs n t terms) s ≡ false
  whole_stations x = few_stations bs n t terms ok s (x.stations (omega arith))

  -- settled, there is no cause 9
  pub whole_none : (e : ℕ) → SettledAt bs n t terms s n lay col block work e → is_too_many (plan_of bs n t terms) s ≡ false
  unfolding EndedAs is_too_many
  whole_none e x =
      let y = whole_settled (Ok e) refl x in
      let none = whole_appearances e x in
      let station = whole_stations y in
      rw (none, station)

  -- whether it meets one is cause 9, with one column to an entry
  pub whole_over : lay.lanes ≡ 1 → (r : Result ℕ Stopped) → EndedAs bs n t terms s n lay col block work r → is_err r ≡ is_too_many (plan_of bs n t terms) s
  unfolding EndedAs is_too_many
  whole_over one (Ok e) x = sym (whole_none e x)
  whole_over one (Err stopped.StationTooMany) x =
      let none = x.appearances in
      let station = x.station in
      sym (rw (none, station))
  whole_over one (Err stopped.AppearanceTooMany) x = sym (rw x)
  whole_over one (Err stopped.TooWide) x = absurd (x one)

  -- the settled entries are hops and counts of the shortest walks
  pub whole_counted : SettledAt bs n t terms s n lay col block work t → Counted bs n t terms s 0 0 work
  whole_counted x =
      record {
        station_hops_law = λ z q. x.entries.station_hops_law z q ∙ ap hops (shortest_by_last bs n t terms ok s z);
        station_counts_law = λ z q.
            x.entries.station_counts_law z q (x.stations (omega arith) z q) ∙ ap count (shortest_by_last bs n t terms ok s z);
        rows = λ z c q i. absurd (omega arith);
      }

-- settled where it waits for none: no cause 9
pub whole_few : (bs : List ℕ) (n t : ℕ) (terms : Terms) (s : ℕ) → plan_fault bs n t ≡ 0 → s < n → (until : ℕ) → until ≡ n
    → (col : ℕ → ℕ) (block : ℕ) (work : List ℕ) (e : ℕ) → SettledAt bs n t terms s until whole col block work e
    → is_too_many (plan_of bs n t terms) s ≡ false
unfolding EndedAs
whole_few bs n t terms s ok source until none col block work e x =
    sym (whole_over whole bs n t terms s ok source col block work refl (Ok e)
    (subst (λ u. SettledAt bs n t terms s u whole col block work e) none x))

-- what the pass promises of a block, from what it promises of columns
pub block_passed : (bs : List ℕ) (n t : ℕ) (terms : Terms) (d s low block : ℕ) (old new : List ℕ) (r : Bool) (e : Result ℕ Stopped)
    → PassReady bs n t terms d s low block old
    → ColumnsPassed bs n t terms s n whole (block_column low block) block (pass_size n t terms d block) old new e
    → r ≡ is_err e
    → Passed bs n t terms d s low block old new r
unfolding through
block_passed bs n t terms d s low block old new r e ready x is =
    record {
      too_many = is ∙ whole_over whole bs n t terms s ok source col block new refl e x.ends;
      counted = λ q.
          let y = settled q in
          let c = whole_counted whole bs n t terms s ok source col block new y in
          record {
            station_hops_law = c.station_hops_law;
            station_counts_law = c.station_counts_law;
            rows = λ z j inside column other some.
                subst
                (λ l. hops l < 65535 → get_or new (2 * n + z * block + j) 0 + through_in (plan_of bs n t terms) s z l (low + j) ≡ count l)
                (shortest_by_last bs n t terms ok s z)
                (block_row low block bs n t terms s t new ready.stations y.entries z j inside column other
                (y.stations (omega arith) z inside))
                some;
          };
      beyond = x.beyond;
      same_length = x.same_length;
    }
  where
    ok : plan_fault bs n t ≡ 0
    ok = ready.accepted

    source : s < n
    source = ready.source

    col : ℕ → ℕ
    col = block_column low block

    settled : r ≡ false → SettledAt bs n t terms s n whole col block new t
    settled q = whole_settled whole bs n t terms s ok source col block new e (sym is ∙ q) x.ends

-- an area that is ready for a block is ready for its columns
pub block_ready : (bs : List ℕ) (n t : ℕ) (terms : Terms) (d s low block : ℕ) (old : List ℕ) → PassReady bs n t terms d s low block old
    → UntilReady bs n t terms d s n block old
block_ready bs n t terms d s low block old ready =
    let inside = ready.source in
    record {
      accepted = ready.accepted;
      units = ready.units;
      deep = ready.deep;
      source = ready.source;
      other = λ q. omega arith;
      waits = inr refl;
      fits = ready.fits;
    }

-- ---- a set of stations

module _ (z : ℕ) (set : List ℕ) where
  -- no column stands for the destination
  set_destination : column_of (columns.Members z) set 1 z ≢ 0
  unfolding column_of
  set_destination = rw (eq-eqb z z refl) (omega arith)

  -- column 0 stands for the members but the destination
  set_column : (v : ℕ) → eqb (column_of (columns.Members z) set 1 v) 0 ≡ (not (eqb v z) && eqb (get_or set v 0) 1)
  unfolding column_of
  set_column v = go (eqb v z) (eqb (get_or set v 0) 1)
    where
      go : (a b : Bool) → eqb (cond a 1 (cond b 0 1)) 0 ≡ (not a && b)
      go true b = refl
      go false true = refl
      go false false = refl

-- what the pass promises of a set, from what it promises of columns
pub set_passed : (bs : List ℕ) (n t : ℕ) (terms : Terms) (s z : ℕ) (set old new : List ℕ) (r : Bool) (e : Result ℕ Stopped) → SetReady bs n t terms s z old
    → ColumnsPassed bs n t terms s n whole (column_of (columns.Members z) set 1) 1 (pass_size n t terms terms.keeping 1) old new e
    → r ≡ is_err e
    → SetPassed bs n t terms s z set old new r
unfolding touched
set_passed bs n t terms s z set old new r e ready x is =
    record {
      too_many = is ∙ whole_over whole bs n t terms s ok source col 1 new refl e x.ends;
      counted = λ q. whole_counted whole bs n t terms s ok source col 1 new (settled q);
      members = λ q some.
          let place : 2 * n + z ≡ 2 * n + z * 1 + 0 = omega arith in
          let y = settled q in
          let l = walks_by (plan_of bs n t terms) s z t in
          let same : touched_in (plan_of bs n t terms) s z l (λ v. eqb (get_or set v 0) 1)
          ≡ touched_in (plan_of bs n t terms) s z l (λ v. eqb (column_of (columns.Members z) set 1 v) 0) =
          sym (touched_others (plan_of bs n t terms) s z l (λ v. eqb (get_or set v 0) 1))
          ∙ ap (touched_in (plan_of bs n t terms) s z l) (sym (fun_ext (set_column z set))) in
          subst
          (λ l. hops l < 65535 → get_or new (2 * n + z) 0 + touched_in (plan_of bs n t terms) s z l (λ v. eqb (get_or set v 0) 1) ≡ count l)
          (shortest_by_last bs n t terms ok s z)
          (λ few. rw place (ap (λ k. get_or new (2 * n + z * 1 + 0) 0 + k) same
          ∙ y.entries.rows z 0 ready.destination (omega arith) (set_destination z set)
          (y.stations (omega arith) z ready.destination) few))
          some;
      beyond = x.beyond;
      same_length = x.same_length;
    }
  where
    ok : plan_fault bs n t ≡ 0
    ok = ready.accepted

    source : s < n
    source = ready.source

    col : ℕ → ℕ
    col = column_of (columns.Members z) set 1

    settled : r ≡ false → SettledAt bs n t terms s n whole col 1 new t
    settled q = whole_settled whole bs n t terms s ok source col 1 new e (sym is ∙ q) x.ends

-- an area that is ready for a set is ready for its columns
pub set_ready : (bs : List ℕ) (n t : ℕ) (terms : Terms) (s z : ℕ) (old : List ℕ) → SetReady bs n t terms s z old
    → UntilReady bs n t terms terms.keeping s n 1 old
set_ready bs n t terms s z old ready =
    let inside = ready.source in
    let turns = ready.units.turns in
    let keeps = ready.units.keeps in
    record {
      accepted = ready.accepted;
      units = ready.units;
      deep = deep_all bs n terms.keeping (omega arith);
      source = ready.source;
      other = λ q. omega arith;
      waits = inr refl;
      fits = ready.fits;
    }

-- ---- which pass it is

-- as many appearances as a reading is kept slots are enough, and nothing is written
pub depth_kept : (bs : List ℕ) (n t h : ℕ) (work : List ℕ) → DepthReady bs n t h work → DepthOf bs n h work work h
depth_kept bs n t h work ready =
    record { deep = deep_all bs n h ready.some; most = omega arith; beyond = refl; same_length = refl }

module _ (bs : List ℕ) (n t : ℕ) (terms : Terms) (d s until block : ℕ) (old : List ℕ) (ready : UntilReady bs n t terms d s until block old)
  where
    -- (kept) nothing goes stale
    module _ (keeps : Keeps t terms) where
      pub kept_ready : ColumnsReady bs n t terms s until block old
      kept_ready =
          let fits = ready.fits in
          let size = size_kept n t terms d block keeps in
          record {
            accepted = ready.accepted;
            units = record { turns = ready.units.turns; keeps = keeps };
            source = ready.source;
            other = ready.other;
            fits = omega arith;
          }

      pub kept_passed : (lay : Lanes) (col : ℕ → ℕ) (new : List ℕ) (r : Result ℕ Stopped)
          → ColumnsPassed bs n t terms s until lay col block (area_size n (waiting t terms) block) old new r
          → ColumnsPassed bs n t terms s until lay col block (pass_size n t terms d block) old new r
      kept_passed lay col new r x =
          subst (λ k. ColumnsPassed bs n t terms s until lay col block k old new r) (sym (size_kept n t terms d block keeps)) x

    -- something does
    module _ (stale : terms.keeping + 1 < t) where
      pub window_ready : WindowReady bs n t terms d s block old
      window_ready =
          let fits = ready.fits in
          let size = size_window n t terms d block stale in
          record {
            accepted = ready.accepted;
            units = ready.units;
            deep = ready.deep;
            source = ready.source;
            fits = omega arith;
          }

      none_waited : until ≡ n
      none_waited = ⊎_elim (λ keeps. absurd (omega arith)) (λ e. e) ready.waits

      pub window_passed : (lay : Lanes) (col : ℕ → ℕ) (new : List ℕ) (r : Result ℕ Stopped)
          → ColumnsPassed bs n t terms s n lay col block (window_size n d block) old new r
          → ColumnsPassed bs n t terms s until lay col block (pass_size n t terms d block) old new r
      window_passed lay col new r x =
          subst (λ u. ColumnsPassed bs n t terms s u lay col block (pass_size n t terms d block) old new r) (sym none_waited)
          (subst (λ k. ColumnsPassed bs n t terms s n lay col block k old new r) (sym (size_window n t terms d block stale)) x)

-- ---- the whole plan lacks no record

module _ (bs : List ℕ) (n t : ℕ) (terms : Terms) (d s : ℕ) where
  pub until_whole : (until block : ℕ) (work : List ℕ) → UntilReady bs n t terms d s until block work →
      UntilReady (lacking_record bs (length bs)) n t terms d s until block work
  until_whole until block work ready = subst (λ l. UntilReady l n t terms d s until block work) (sym (lacking_nothing bs)) ready

  pub pass_whole : (low block : ℕ) (work : List ℕ) → PassReady bs n t terms d s low block work →
      PassReady (lacking_record bs (length bs)) n t terms d s low block work
  pass_whole low block work ready = subst (λ l. PassReady l n t terms d s low block work) (sym (lacking_nothing bs)) ready

  pub passed_whole : (low block : ℕ) (old new : List ℕ) (r : Bool) → Passed (lacking_record bs (length bs)) n t terms d s low block old new r →
      Passed bs n t terms d s low block old new r
  passed_whole low block old new r x = subst (λ l. Passed l n t terms d s low block old new r) (lacking_nothing bs) x

pub columns_lacking : (bs : List ℕ) (n t : ℕ) (terms : Terms) (s until : ℕ) (lay : Lanes) (col : ℕ → ℕ) (block size : ℕ) (old new : List ℕ)
    (r : Result ℕ Stopped) → ColumnsPassed (lacking_record bs (length bs)) n t terms s until lay col block size old new r →
    ColumnsPassed bs n t terms s until lay col block size old new r
columns_lacking bs n t terms s until lay col block size old new r x =
    subst (λ l. ColumnsPassed l n t terms s until lay col block size old new r) (lacking_nothing bs) x

-- nor does one column to an entry change their number
pub columns_one : (bs : List ℕ) (n t : ℕ) (terms : Terms) (s until low block size : ℕ) (old new : List ℕ) (r : Result ℕ Stopped) →
    ColumnsPassed bs n t terms s until whole (block_column low (block * 1)) block size old new r →
    ColumnsPassed bs n t terms s until whole (block_column low block) block size old new r
columns_one bs n t terms s until low block size old new r x =
    subst (λ k. ColumnsPassed bs n t terms s until whole (block_column low k) block size old new r) (mul-one block) x

pub columns_whole : (bs : List ℕ) (n t : ℕ) (terms : Terms) (s until low block size : ℕ) (old new : List ℕ) (r : Result ℕ Stopped) →
    ColumnsPassed (lacking_record bs (length bs)) n t terms s until whole (block_column low (block * 1)) block size old new r →
    ColumnsPassed bs n t terms s until whole (block_column low block) block size old new r
columns_whole bs n t terms s until low block size old new r x =
    columns_lacking bs n t terms s until whole (block_column low block) block size old new r
    (columns_one (lacking_record bs (length bs)) n t terms s until low block size old new r x)

-- ---- several stations to an entry

-- a column of the row is one of the block's
columns_less : (split block j : ℕ) → j < columns_in (lanes_by split) block → j < block * 2 ^ split
columns_less split block j = go (eqb (2 ^ split) 1) refl
  where
    go : (b : Bool) → eqb (2 ^ split) 1 ≡ b → j < cond b block (block * 2 ^ split) → j < block * 2 ^ split
    go true e h = rw (eqb-true (2 ^ split) 1 e) (omega arith)
    go false e h = h

-- where no count is over 2^64 - 1, no appearance's is
pub few_spared : (bs : List ℕ) (n t : ℕ) (terms : Terms) (s : ℕ) (known : Bool)
    → (known ≡ true → is_too_many (plan_of bs n t terms) s ≡ false) → Spared known bs n t terms s
unfolding is_too_many
few_spared bs n t terms s known few e =
    (or_none (appearance_too_many (plan_of bs n t terms) s) (station_too_many (plan_of bs n t terms) s) (few e)).0

-- the same of the whole plan, as the plan that lacks no record
pub whole_spared : (bs : List ℕ) (n t : ℕ) (terms : Terms) (s : ℕ) (known : Bool)
    → (known ≡ true → is_too_many (plan_of bs n t terms) s ≡ false) → Spared known (lacking_record bs (length bs)) n t terms s
whole_spared bs n t terms s known few =
    subst (λ l. Spared known l n t terms s) (sym (lacking_nothing bs)) (few_spared bs n t terms s known few)

-- an area that is ready for packed rows is ready for their columns
pub packed_ready : (bs : List ℕ) (n t : ℕ) (terms : Terms) (d s block split : ℕ) (old : List ℕ) → PackedReady bs n t terms d s block split old
    → UntilReady bs n t terms d s n block old × (split ≤ 3)
packed_ready bs n t terms d s block split old ready =
    let inside = ready.source in (
      record {
        accepted = ready.accepted;
        units = ready.units;
        deep = ready.deep;
        source = ready.source;
        other = λ q. omega arith;
        waits = inr refl;
        fits = ready.fits;
      },
      ready.few,
    )

-- what the pass promises of packed rows, from what it promises of columns
module _ (bs : List ℕ) (n t : ℕ) (terms : Terms) (d s low block split : ℕ) (old new : List ℕ)
    (ready : PackedReady bs n t terms d s block split old) where
  col : ℕ → ℕ
  col = block_column low (block * 2 ^ split)

  packed_counted : SettledAt bs n t terms s n (lanes_by split) col block new t → PackedCounted bs n t terms s low block split new
  unfolding through plan_of col
  packed_counted y =
      record {
        stations = whole_counted (lanes_by split) bs n t terms s ready.accepted ready.source col block new y;
        rows = λ z j inside column within other some.
            let less = columns_less split block j column in
            let p = plan_of bs n t terms in
            let l = walks_by p s z t in
            let same : through_in p s z l (low + j) ≡ touched_in p s z l (λ v. eqb (col v) j) =
            sym (touched_one_in p s z l (low + j) within) ∙ ap (touched_in p s z l) (sym (fun_ext (block_column_law low (block * 2 ^ split) j less))) in
            subst
            (λ l. hops l < 65535 → column_at (lanes_by split) new (2 * n + z * block) j + through_in p s z l (low + j) ≡ count l)
            (shortest_by_last bs n t terms ready.accepted s z)
            (λ few. ap (λ k. column_at (lanes_by split) new (2 * n + z * block) j + k) same
            ∙ y.entries.rows z j inside column (block_other low (block * 2 ^ split) j z less (λ q. other (sym q)))
            (y.stations (omega arith) z inside) few)
            some;
        thin = λ z inside.
            subst (λ l. hops l < 65535 → (2 ^ split ≡ 1) ⊎ (count l < 2 ^ (64 / 2 ^ split)))
            (shortest_by_last bs n t terms ready.accepted s z) (y.entries.thin z inside (y.stations (omega arith) z inside));
      }

  packed_ends : (e : Result ℕ Stopped) → EndedAs bs n t terms s n (lanes_by split) col block new e → PackedAs bs n t terms s low block split new (packed_as e)
  unfolding EndedAs PackedAs is_too_many
  packed_ends (Ok e) x = (
    whole_none (lanes_by split) bs n t terms s ready.accepted ready.source col block new e x,
    packed_counted (whole_settled (lanes_by split) bs n t terms s ready.accepted ready.source col block new (Ok e) refl x),
  )
  packed_ends (Err stopped.StationTooMany) x = let none = x.appearances in let station = x.station in rw (none, station)
  packed_ends (Err stopped.AppearanceTooMany) x = rw x
  packed_ends (Err stopped.TooWide) x = λ zero. x (ap (λ k. 2 ^ k) zero)

  pub packed_passed : (r : Result Unit Unpacked) (e : Result ℕ Stopped)
      → ColumnsPassed bs n t terms s n (lanes_by split) (block_column low (block * 2 ^ split)) block (pass_size n t terms d block) old new e
      → r ≡ packed_as e → PackedPassed bs n t terms d s low block split old new r
  unfolding col
  packed_passed r e x is = record { ends = rw is (packed_ends e x.ends); beyond = x.beyond; same_length = x.same_length }
