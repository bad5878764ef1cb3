-- The functions of the pass where readings go stale: what they leave, from what the functions that they call leave, and their loops.
-- Assumes nothing.
use Rattle.std.proofs.Common.{◌≡◌, ℕ, zero, suc, ◌+◌, ◌-◌, ◌*◌, ◌/◌, ◌%◌, ◌^◌, ◌<◌, ◌≤◌, Bool, true, false, ltb, ◌≢◌, List, length, get_or, set, sym, refl, ap, ◌∙◌, subst, le_of_lt, mul-le-mul, arith, pow_mono, le-ltb, lt-ltb, eq-eqb, ne_eqb}
use Rattle.std.specs.Prelude.{Option, Some, None, is_none, IfSome}
use mathlib.Core.Bool.{and-false}
use Rattle.temporal.specs.Plan.{Terms, units, window_first, window_end}
use Rattle.temporal.specs.Bytes.{contact_at}
use Rattle.memory.specs.Fill.{filled}
use Rattle.entries.proofs.CountLaws.{overflows_some, overflows_none}
use Rattle.pass.specs.Row.{part_size, row_at}
use Rattle.lanes.specs.Lane.{ones, lanes_of, width_of}
use Rattle.pass.specs.declared.Columns.{Columns}
use Rattle.pass.specs.Column.{Lanes, lanes_by, column_of}
use Rattle.pass.specs.Entry.{absorbed, Absorbable}
use Rattle.pass.specs.Sweep.{Sweep, sweep_of, cleared_column, too_wide, stops_at, begun_area}
use Rattle.pass.proofs.WidthLaws.{column_entry, ones_by, wide_split, wide_whole}
use Rattle.stale.specs.Window.{ring_at, mark_at, taken_cell, opened_cell, emptied_cell, masked_row, wide_entry, masked_cell}
use Rattle.stale.specs.Window.{number_part, number_place, number_mark, head_of, oldest_of}
use Rattle.stale.specs.Window.{kept_cell, followed_cell, lower_link, next_head, gathered_cell}
use Rattle.stale.specs.Window.{window_cell, window_next, windows_of, sent_records, pushed_entry, pushed_marks, pushed_cell, kept_one, kept_next}
use Rattle.stale.specs.Window.{goes_on, kept_records, window_slot, begun_window, TwoParts, WindowArea, Followed, GatheredNext}
use Rattle.pass.proofs.PlaceLaws.{row_inside}
use Rattle.stale.proofs.RingPlaces.{mark_at_law, ring_fits, mark_fits, number_inside, number_place_law}

-- ---- an entry taken into another

module _ (n block : ℕ) (w : List ℕ) (to v from x : ℕ) where
  pub take_absorbable : (row other : ℕ) → TwoParts n block to from w → v < n → x < n → row ≡ row_at n block v → other ≡ row_at n block x
      → Absorbable n block w (to + v) (to + row) (from + other)
  take_absorbable row other a hv hx is_row is-other =
      let f = a.to_fits in
      let g = a.from_fits in
      let some = a.some in
      let r = row_inside n block v hv in
      let q = row_inside n block x hx in
      record { some = a.some; before = omega arith; row_fits = omega arith; from_fits = omega arith }

  pub taken_some : (more row other : ℕ) (out : List ℕ) → row ≡ row_at n block v → other ≡ row_at n block x → get_or w (from + x) 0 < 65535
      → out ≡ absorbed n block w (to + v) (to + row) (from + other) (get_or w (from + x) 0 + more) (get_or w (from + x + n) 0)
      → out ≡ taken_cell n block w to v from x more
  unfolding taken_cell
  taken_some more row other out a b some e = rw (lt-ltb (get_or w (from + x) 0) 65535 some) (e ∙ rw (a, b))

  pub taken_none : (more : ℕ) → 65535 ≤ get_or w (from + x) 0 → w ≡ taken_cell n block w to v from x more
  unfolding taken_cell
  taken_none more none = sym (rw (le-ltb (get_or w (from + x) 0) 65535 none))

-- ---- one entry

pub opened_by : (n block : ℕ) (w : List ℕ) (base v one row : ℕ) (out : List ℕ) → row ≡ row_at n block v
    → out ≡ filled (set (set w (base + v) 0) (base + v + n) 1) (base + row) block one
    → out ≡ opened_cell n block w base v one
unfolding opened_cell
opened_by n block w base v one row out a e = e ∙ rw a

pub emptied_cell_by : (n : ℕ) (w : List ℕ) (base v : ℕ) → set (set w (base + v) 65535) (base + v + n) 0 ≡ emptied_cell n w base v
unfolding emptied_cell
emptied_cell_by n w base v = refl

-- the column that stands for v, of so many as the split gives
module _ (block v split x count j row : ℕ) (kind : Columns) (set : List ℕ) (w : List ℕ) (is : x ≡ split) (all : count ≡ block * 2 ^ x)
    (at : j ≡ column_of kind set count v) where
  number : count ≡ block * 2 ^ split
  number = all ∙ ap (λ k. block * 2 ^ k) is

  own : column_of kind set (block * 2 ^ split) v ≡ j
  own = ap (λ k. column_of kind set k v) (sym number) ∙ sym at

  pub row_own : (out : List ℕ) → j < count → out ≡ cleared_column (lanes_by x) w row j
      → out ≡ masked_row (lanes_by split) block (column_of kind set (block * 2 ^ split)) w row v
  unfolding masked_row
  row_own out inside e =
      rw (lt-ltb (column_of kind set (block * 2 ^ split) v) (block * 2 ^ split) (omega (arith, own, number)))
      (e ∙ ap (λ k. cleared_column (lanes_by k) w row j) is ∙ ap (cleared_column (lanes_by split) w row) (sym own))

  pub row_none : count ≤ j → w ≡ masked_row (lanes_by split) block (column_of kind set (block * 2 ^ split)) w row v
  unfolding masked_row
  row_none past = sym (rw (le-ltb (column_of kind set (block * 2 ^ split) v) (block * 2 ^ split) (omega (arith, own, number))))

-- a column of the row at a place can be cleared
pub row_asked : (block x count j row size : ℕ) → count ≡ block * 2 ^ x → x ≤ 3 → j < count → row + block ≤ size → block < 2 ^ 60
    → (x ≤ 3) × (j < 2 ^ 63) × (row + j / 2 ^ x < size)
row_asked block x count j row size all few inside fits small =
    let entry = column_entry x j block (rw all at inside) in
    let lanes : 2 ^ x ≤ 8 = pow_mono {i = x} {j = 3} few in
    let most = mul-le-mul (le_of_lt small) lanes in
    (few, omega (arith, all, most), omega arith)

-- whether a count does not fit a lane
module _ (split n : ℕ) (w : List ℕ) (at x : ℕ) (is : x ≡ split) where
  pub entry_whole : x ≡ 0 → false ≡ wide_entry (lanes_by split) n w at
  unfolding wide_entry
  entry_whole e =
      rw (← wide_whole split 65535 0 (get_or w at 0) (get_or w (at + n) 0) (sym is ∙ e)) (sym (and-false (ltb (get_or w at 0) 65535)))

  pub entry_some : (r : Bool) → get_or w at 0 < 65535 → r ≡ too_wide (lanes_by x) 65535 0 (get_or w at 0) (get_or w (at + n) 0)
      → r ≡ wide_entry (lanes_by split) n w at
  unfolding wide_entry
  entry_some r some e = rw (lt-ltb (get_or w at 0) 65535 some) (e ∙ wide_split x split 65535 0 (get_or w at 0) (get_or w (at + n) 0) is)

  pub entry_none : 65535 ≤ get_or w at 0 → ltb (get_or w at 0) 65535 ≡ wide_entry (lanes_by split) n w at
  unfolding wide_entry
  entry_none none = rw (le-ltb (get_or w at 0) 65535 none)

module _ (lay : Lanes) (n block : ℕ) (col : ℕ → ℕ) (w : List ℕ) (base v : ℕ) where
  pub mask_stop : true ≡ wide_entry lay n w (base + v) → sweep_of true w ≡ masked_cell lay n block col w base v
  unfolding masked_cell
  mask_stop wide = rw (← wide)

  pub mask_done : (row : ℕ) (out : List ℕ) → false ≡ wide_entry lay n w (base + v) → row ≡ row_at n block v
      → out ≡ masked_row lay block col w (base + row) v → sweep_of false out ≡ masked_cell lay n block col w base v
  unfolding masked_cell
  mask_done row out narrow a e = rw (← narrow) (ap (sweep_of false) (e ∙ rw a))

-- ---- numbers and heads

pub head_place : {n block d : ℕ} {w : List ℕ} → WindowArea n block d w → (v at : ℕ) → v < n → at ≡ mark_at n block d d v → at < length w
head_place {d = d} a v at hv is = rw is (mark_fits a d v (omega arith) hv)

pub number_mark_place : {n block d : ℕ} {w : List ℕ} → WindowArea n block d w → (k at : ℕ) → at ≡ number_mark n block d k → at < length w
number_mark_place {n} {block} {d} a k at is =
    rw is (mark_fits a (k % (n * d) / n) (k % (n * d) % n) (let l = number_inside n d a.some k a.deep in omega arith)
    (number_place_law n d a.some k))

pub number_fits : {n block d : ℕ} {w : List ℕ} → WindowArea n block d w → (k part : ℕ) → part ≡ number_part n block d k
    → part + part_size n block ≤ length w
number_fits {n} {block} {d} a k part is =
    rw is (ring_fits a (k % (n * d) / n) (let l = number_inside n d a.some k a.deep in omega arith))

-- the part of a number, and another
pub number_parts : {n block d : ℕ} {w : List ℕ} → WindowArea n block d w → (base k part : ℕ) → base + part_size n block ≤ length w
    → part ≡ number_part n block d k → TwoParts n block base part w
number_parts {n} {block} {d} a base k part fits is =
    record {
      some = a.some;
      to_fits = fits;
      from_fits = number_fits a k part is;
    }

-- ---- the cells along the links

module _ (n block d : ℕ) (w : List ℕ) (base v slot end k : ℕ) where
  pub kept_taken : (part place : ℕ) (out : List ℕ) → slot < end → part ≡ number_part n block d k → place ≡ number_place n d k
      → out ≡ taken_cell n block w base v part place 0 → out ≡ kept_cell n block d w base v slot end k
  unfolding kept_cell
  kept_taken part place out before is at e = rw (lt-ltb slot end before) (e ∙ rw (is, at))

  pub kept_late : end ≤ slot → w ≡ kept_cell n block d w base v slot end k
  unfolding kept_cell
  kept_late late = sym (rw (le-ltb slot end late))

module _ (n block d : ℕ) (w : List ℕ) (base v first end head at : ℕ) (some : 0 < head) (is : at ≡ number_mark n block d (head - 1)) where
  pub follow_early : get_or w at 0 % 256 < first → Followed n block d base v first end head w w 0
  unfolding followed_cell next_head
  follow_early early =
      let test = lt-ltb (get_or w (number_mark n block d (head - 1)) 0 % 256) first (rw is at early) in
      record { cell = rw test; next = rw test; falls = some }

  pub follow_on : (out : List ℕ) (r : ℕ) → first ≤ get_or w at 0 % 256 → out ≡ kept_cell n block d w base v (get_or w at 0 % 256) end (head - 1)
      → r ≡ lower_link (get_or w at 0 / 256) head → r < head → Followed n block d base v first end head w out r
  unfolding followed_cell next_head
  follow_on out r from e f falls =
      let test = le-ltb (get_or w (number_mark n block d (head - 1)) 0 % 256) first (rw is at from) in
      record { cell = rw (test, ← is) e; next = rw (test, ← is) f; falls = falls }

-- what is gathered from a head on is what is left to gather
pub record GatheringCell (n block d base v oldest first end head : ℕ) (old : List ℕ) (at : ℕ) (now : List ℕ) : Type 0 where
  pub left : ℕ
  pub enough : at ≤ left
  pub same : length now ≡ length old
  pub rest : gathered_cell n block d now base v oldest first end at left ≡ gathered_cell n block d old base v oldest first end head head

module _ (n block d base v oldest first end head : ℕ) (old : List ℕ) where
  pub gathering_more : (at at' : ℕ) (now now' : List ℕ) → oldest < at → GatheringCell n block d base v oldest first end head old at now
      → length now' ≡ length now → Followed n block d base v first end at now now' at'
      → GatheringCell n block d base v oldest first end head old at' now'
  unfolding gathered_cell
  gathering_more at at' now now' less g kept f =
      let some = g.enough in
      let more : g.left ≡ suc (g.left - 1) = omega arith in
      let test = lt-ltb oldest at less in
      record {
        left = g.left - 1;
        enough = omega (arith, f.falls);
        same = kept ∙ g.same;
        rest = rw (f.cell, f.next)
            (sym (ap (gathered_cell n block d now base v oldest first end at) more ∙ rw test) ∙ g.rest);
      }

  pub gathering_all : (at : ℕ) (now : List ℕ) → at ≤ oldest → GatheringCell n block d base v oldest first end head old at now
      → now ≡ gathered_cell n block d old base v oldest first end head head
  unfolding gathered_cell
  gathering_all at now past g = sym (none g.left) ∙ g.rest
    where
      none : (k : ℕ) → gathered_cell n block d now base v oldest first end at k ≡ now
      none zero = refl
      none (suc k) = rw (le-ltb oldest at past)

-- ---- a window

module _ (split n block g h d s : ℕ) (col : ℕ → ℕ) (w : List ℕ) (v u base : ℕ) (is : base ≡ ring_at n block d) where
  pub window_source : (x one : ℕ) (out : List ℕ) → v ≡ s → x ≡ split → one ≡ ones (width_of x) (lanes_of x)
      → out ≡ opened_cell n block w base v one
      → sweep_of false out ≡ window_cell (lanes_by split) n block d (units g h) s col w v u
  unfolding window_cell
  window_source x one out same e f g =
      rw (eq-eqb v s same)
      (ap (sweep_of false) (g ∙ rw (is, ones_by split one (f ∙ ap (λ y. ones (width_of y) (lanes_of y)) e))))

  pub window_other : (head oldest first end : ℕ) (one two : List ℕ) (out : Sweep) → v ≢ s → head ≡ head_of n block d w v
      → oldest ≡ oldest_of n block d s w → one ≡ emptied_cell n w base v → first ≡ window_first h u → end ≡ window_end g u
      → two ≡ gathered_cell n block d one base v oldest first end head head
      → out ≡ masked_cell (lanes_by split) n block col two base v
      → out ≡ window_cell (lanes_by split) n block d (units g h) s col w v u
  unfolding window_cell
  window_other head oldest first end one two out other q o a b c d e =
      rw (ne_eqb v s other) (e ∙ rw (d, a, b, c, q, o, is))

-- ---- the windows of some records

-- what is left follows, or not
pub on_stop : (x : Sweep) (rest : List ℕ → Sweep) → x.over ≡ true → goes_on x rest ≡ x
unfolding goes_on
on_stop x rest e = rw e

pub on_rest : (x : Sweep) (rest : List ℕ → Sweep) → x.over ≡ false → goes_on x rest ≡ rest x.work
unfolding goes_on
on_rest x rest e = rw e

module _ (lay : Lanes) (n block d : ℕ) (terms : Terms) (s : ℕ) (col : ℕ → ℕ) (w : List ℕ) (last v v' u : ℕ) (is : v ≡ v') where
  pub next_same : v ≡ last → GatheredNext v' (Some v) w (window_next lay n block d terms s col w last v' u)
  unfolding window_next
  next_same same = record { swept = rw (eq-eqb v' last (sym is ∙ same)); is = is }

  module _ (r : Bool) (out : List ℕ) (other : v ≢ last) (e : sweep_of r out ≡ window_cell lay n block d terms s col w v u) where
    gathered : sweep_of r out ≡ window_next lay n block d terms s col w last v' u
    unfolding window_next
    gathered = rw (ne_eqb v' last (λ q. other (is ∙ q))) (e ∙ rw is)

    pub next_stop : r ≡ true → GatheredNext v' None out (window_next lay n block d terms s col w last v' u)
    next_stop up = record { swept = ap (λ b. sweep_of b out) (sym up) ∙ gathered; is = tt }

    pub next_other : r ≡ false → GatheredNext v' (Some v) out (window_next lay n block d terms s col w last v' u)
    next_other down = record { swept = ap (λ b. sweep_of b out) (sym down) ∙ gathered; is = is }

-- the records before i are done
pub record GatheringRecords (bs : List ℕ) (lay : Lanes) (n block d : ℕ) (terms : Terms) (s : ℕ) (col : ℕ → ℕ) (u j end : ℕ)
    (old : List ℕ) (last i : ℕ) (now : List ℕ) : Type 0 where
  pub from : j ≤ i
  pub same : length now ≡ length old
  pub rest : windows_of bs lay n block d terms s col now u last i (end - i) ≡ windows_of bs lay n block d terms s col old u n j (end - j)

module _ (bs : List ℕ) (lay : Lanes) (n block d : ℕ) (terms : Terms) (s : ℕ) (col : ℕ → ℕ) (u j end : ℕ) (old : List ℕ) where
  module _ (last i : ℕ) (r : Option ℕ) (now now' : List ℕ) (less : i < end)
      (g : GatheringRecords bs lay n block d terms s col u j end old last i now)
      (e : GatheredNext (contact_at bs i).sender r now'
      (window_next lay n block d terms s col now last (contact_at bs i).sender u)) where
    window_more : goes_on (sweep_of (is_none r) now')
        (λ y. windows_of bs lay n block d terms s col y u (contact_at bs i).sender (i + 1) (end - (i + 1)))
        ≡ windows_of bs lay n block d terms s col old u n j (end - j)
    unfolding windows_of
    window_more =
        let more : end - i ≡ suc (end - (i + 1)) = omega arith in
        rw e.swept (sym (ap (windows_of bs lay n block d terms s col now u last i) more) ∙ g.rest)

    pub windows_stop : r ≡ None → sweep_of true now' ≡ windows_of bs lay n block d terms s col old u n j (end - j)
    windows_stop up =
        let flag : is_none r ≡ true = ap is_none up in
        ap (λ b. sweep_of b now') (sym flag) ∙ sym (on_stop (sweep_of (is_none r) now') _ flag) ∙ window_more

    pub windows_more : (v : ℕ) → r ≡ Some v → length now' ≡ length now
        → GatheringRecords bs lay n block d terms s col u j end old v (i + 1) now'
    windows_more v down kept =
        let flag : is_none r ≡ false = ap is_none down in
        let f = g.from in
        record {
          from = omega arith;
          same = kept ∙ g.same;
          rest = rw (subst (λ o. IfSome o (λ y. y ≡ (contact_at bs i).sender)) down e.is)
              (sym (on_rest (sweep_of (is_none r) now') _ flag) ∙ window_more);
        }

  pub windows_all : (last i : ℕ) (now : List ℕ) → end ≤ i → GatheringRecords bs lay n block d terms s col u j end old last i now
      → sweep_of false now ≡ windows_of bs lay n block d terms s col old u n j (end - j)
  unfolding windows_of
  windows_all last i now past g =
      let none : end - i ≡ 0 = omega arith in
      sym (ap (windows_of bs lay n block d terms s col now u last i) none) ∙ g.rest

-- ---- the windows go out

pub record SendingRecords (bs : List ℕ) (n block from to j end : ℕ) (old : List ℕ) (i : ℕ) (now : List ℕ) : Type 0 where
  pub position : j ≤ i
  pub same : length now ≡ length old
  pub rest : sent_records bs n block from to now i (end - i) ≡ sent_records bs n block from to old j (end - j)

module _ (bs : List ℕ) (n block from to j end : ℕ) (old : List ℕ) where
  pub sending_more : (i : ℕ) (now now' : List ℕ) → i < end → SendingRecords bs n block from to j end old i now
      → length now' ≡ length now
      → now' ≡ taken_cell n block now to (contact_at bs i).hearer from (contact_at bs i).sender 1
      → SendingRecords bs n block from to j end old (i + 1) now'
  unfolding sent_records
  sending_more i now now' less g kept e =
      let more : end - i ≡ suc (end - (i + 1)) = omega arith in
      let f = g.position in
      record {
        position = omega arith;
        same = kept ∙ g.same;
        rest = rw e (sym (ap (sent_records bs n block from to now i) more) ∙ g.rest);
      }

  pub sending_all : (i : ℕ) (now : List ℕ) → end ≤ i → SendingRecords bs n block from to j end old i now
      → now ≡ sent_records bs n block from to old j (end - j)
  unfolding sent_records
  sending_all i now past g =
      let none : end - i ≡ 0 = omega arith in
      sym (ap (sent_records bs n block from to now i) none) ∙ g.rest

-- ---- keeping

-- a number's cell
pub entry_by : (n block d : ℕ) (w : List ℕ) (v k part place size : ℕ) (one out : List ℕ)
    → part ≡ number_part n block d k → place ≡ number_place n d k → size ≡ part_size n block
    → one ≡ emptied_cell n w part place → out ≡ taken_cell n block one part place size v 0 → out ≡ pushed_entry n block d w v k
unfolding pushed_entry
entry_by n block d w v k part place size one out ep ex es eo et = et ∙ rw (eo, ep, ex, es)

-- its mark and the heads
pub marks_by : (n block d s : ℕ) (w : List ℕ) (u v k head mark counter next : ℕ)
    → head ≡ mark_at n block d d v → mark ≡ number_mark n block d k → counter ≡ mark_at n block d d s → next ≡ (k + 1) % 2 ^ 64
    → set (set (set w mark (get_or w head 0 % 72057594037927936 * 256 + u % 256)) head next) counter next ≡ pushed_marks n block d s w u v k
unfolding pushed_marks
marks_by n block d s w u v k head mark counter next eh em ec en = rw (en, eh, em, ec)

module _ (n block d s : ℕ) (w : List ℕ) (u v : ℕ) where
  pub pushed_source : v ≡ s → w ≡ pushed_cell n block d s w u v
  unfolding pushed_cell
  pushed_source same = sym (rw (eq-eqb v s same))

  pub pushed_by : (k : ℕ) (one out : List ℕ) → v ≢ s → k ≡ head_of n block d w s → one ≡ pushed_entry n block d w v k
      → out ≡ pushed_marks n block d s one u v k → out ≡ pushed_cell n block d s w u v
  unfolding pushed_cell
  pushed_by k one out other ek eo e = rw (ne_eqb v s other) (e ∙ rw (eo, ek))

module _ (lay : Lanes) (n block d s u : ℕ) (w : List ℕ) (v size : ℕ) (is : size ≡ part_size n block) where
  -- the count is over 2^64 - 1
  pub kept_over : get_or w (size + v) 0 < 65535 → get_or w (size + v + n) 0 ≡ 0 → sweep_of true w ≡ kept_next lay n block d s u w v
  unfolding kept_next stops_at
  kept_over some big =
      rw (
        overflows_some (get_or w (part_size n block + v) 0) (get_or w (part_size n block + v + n) 0) (rw is at some),
        eq-eqb (get_or w (part_size n block + v + n) 0) 0 (rw is at big),
      )

  module _ (b : Bool) (some : get_or w (size + v) 0 < 65535) (small : get_or w (size + v + n) 0 ≢ 0)
      (tested : b ≡ too_wide lay (get_or w v 0) (get_or w (v + n) 0) (get_or w (size + v) 0) (get_or w (size + v + n) 0)) where
    -- the test alone decides
    stops : stops_at lay n (part_size n block) w v ≡ b
    unfolding stops_at
    stops =
        rw (
          overflows_some (get_or w (part_size n block + v) 0) (get_or w (part_size n block + v + n) 0) (rw is at some),
          ne_eqb (get_or w (part_size n block + v + n) 0) 0 (rw is at small),
          lt-ltb (get_or w (part_size n block + v) 0) 65535 (rw is at some),
        )
        (sym (rw is at tested))

    -- the total's count would not fit a lane
    pub kept_wide : b ≡ true → sweep_of true w ≡ kept_next lay n block d s u w v
    unfolding kept_next
    kept_wide up = rw (stops ∙ up)

    -- it would
    pub kept_within : (one two three : List ℕ) → b ≡ false
        → one ≡ taken_cell n block w 0 v size v 0 → two ≡ pushed_cell n block d s one u v → three ≡ emptied_cell n two size v
        → sweep_of false three ≡ kept_next lay n block d s u w v
    unfolding kept_next kept_one
    kept_within one two three down first second third =
        rw (stops ∙ down, lt-ltb (get_or w (part_size n block + v) 0) 65535 (rw is at some))
        (ap (sweep_of false) (third ∙ rw (second, first, is)))

  -- nothing is heard
  pub kept_none : 65535 ≤ get_or w (size + v) 0 → sweep_of false w ≡ kept_next lay n block d s u w v
  unfolding kept_next kept_one stops_at
  kept_none none =
      rw (
        overflows_none (get_or w (part_size n block + v) 0) (get_or w (part_size n block + v + n) 0) (rw is at none),
        le-ltb (get_or w (part_size n block + v) 0) 65535 (rw is at none),
      )

-- the hearers of the records before i are done
pub record Keeping (bs : List ℕ) (lay : Lanes) (n block d s u j end : ℕ) (old : List ℕ) (i : ℕ) (now : List ℕ) : Type 0 where
  pub position : j ≤ i
  pub same : length now ≡ length old
  pub rest : kept_records bs lay n block d s u now i (end - i) ≡ kept_records bs lay n block d s u old j (end - j)

module _ (bs : List ℕ) (lay : Lanes) (n block d s u j end : ℕ) (old : List ℕ) where
  module _ (i : ℕ) (now now' : List ℕ) (r : Bool) (less : i < end) (x : Keeping bs lay n block d s u j end old i now)
      (e : sweep_of r now' ≡ kept_next lay n block d s u now (contact_at bs i).hearer) where
    one_more : goes_on (sweep_of r now') (λ y. kept_records bs lay n block d s u y (i + 1) (end - (i + 1)))
        ≡ kept_records bs lay n block d s u old j (end - j)
    unfolding kept_records
    one_more =
        let more : end - i ≡ suc (end - (i + 1)) = omega arith in
        rw e (sym (ap (kept_records bs lay n block d s u now i) more) ∙ x.rest)

    pub keeping_stop : r ≡ true → sweep_of true now' ≡ kept_records bs lay n block d s u old j (end - j)
    keeping_stop up = ap (λ b. sweep_of b now') (sym up) ∙ sym (on_stop (sweep_of r now') _ up) ∙ one_more

    pub keeping_more : r ≡ false → length now' ≡ length now → Keeping bs lay n block d s u j end old (i + 1) now'
    keeping_more down kept =
        let f = x.position in
        record { position = omega arith; same = kept ∙ x.same; rest = sym (on_rest (sweep_of r now') _ down) ∙ one_more }

  pub keeping_all : (i : ℕ) (now : List ℕ) → end ≤ i → Keeping bs lay n block d s u j end old i now
      → sweep_of false now ≡ kept_records bs lay n block d s u old j (end - j)
  unfolding kept_records
  keeping_all i now past x =
      let none : end - i ≡ 0 = omega arith in
      sym (ap (kept_records bs lay n block d s u now i) none) ∙ x.rest

-- a record more, by the test of its hearer
module _ (bs : List ℕ) (lay : Lanes) (n block d s u : ℕ) (w : List ℕ) (j k : ℕ) where
  pub records_stop : stops_at lay n (part_size n block) w (contact_at bs j).hearer ≡ true
      → kept_records bs lay n block d s u w j (suc k) ≡ sweep_of true w
  unfolding kept_records goes_on kept_next
  records_stop e = rw e

  pub records_on : stops_at lay n (part_size n block) w (contact_at bs j).hearer ≡ false
      → kept_records bs lay n block d s u w j (suc k)
      ≡ kept_records bs lay n block d s u (kept_one n block d s u w (contact_at bs j).hearer) (j + 1) k
  unfolding kept_records goes_on kept_next
  records_on e = rw e

-- ---- a slot

module _ (bs : List ℕ) (lay : Lanes) (n block g h d s : ℕ) (col : ℕ → ℕ) (w : List ℕ) (u j end : ℕ) (b : Bool) (one : List ℕ)
    (gathered : sweep_of b one ≡ windows_of bs lay n block d (units g h) s col w u n j (end - j)) where
  pub slot_stop : b ≡ true → sweep_of true one ≡ window_slot bs lay n block d (units g h) s col w u j end
  unfolding window_slot
  slot_stop up = rw (← gathered) (ap (λ x. sweep_of x one) (sym up) ∙ sym (on_stop (sweep_of b one) _ up))

  pub slot_by : (size base : ℕ) (two : List ℕ) (r : Sweep) → b ≡ false
      → size ≡ part_size n block → base ≡ ring_at n block d
      → two ≡ sent_records bs n block base size one j (end - j)
      → r ≡ kept_records bs lay n block d s u two j (end - j)
      → r ≡ window_slot bs lay n block d (units g h) s col w u j end
  unfolding window_slot
  slot_by size base two r down b c d e = rw (← gathered) (e ∙ rw (d, b, c) (sym (on_rest (sweep_of _ one) _ down)))

-- there is room for the heads
pub heads_fit : {n block d : ℕ} {w : List ℕ} → WindowArea n block d w → mark_at n block d d 0 + n ≤ length w
heads_fit {n} {block} {d} {w} a =
    let some = a.some in
    let last = mark_fits a d (n - 1) (omega arith) (omega arith) in
    let place = mark_at_law n block d d (n - 1) in
    omega arith

-- the beginning of the pass where nothing goes stale, and heads of 0
pub begun_by : (lay : Lanes) (n block d s heads : ℕ) (w one out : List ℕ)
    → one ≡ begun_area n block 1 w s (ones lay.width lay.lanes) → heads ≡ mark_at n block d d 0
    → out ≡ filled one heads n 0 → out ≡ begun_window lay n block d w s
unfolding begun_window
begun_by lay n block d s heads w one out a b e = e ∙ rw (a, b)
