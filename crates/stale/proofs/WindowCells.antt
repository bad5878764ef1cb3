-- An entry of the work area as a cell: station v in the part that begins at base. What stays when a cell or a part changes, and what a
-- cell holds after walks are taken into it, a window is gathered in it or it is emptied. Assumes nothing.
use Rattle.std.proofs.Common.{◌≡◌, ℕ, ◌+◌, ◌*◌, ◌/◌, ◌%◌, ◌<◌, ◌≤◌, min, Bool, true, false, cond, ◌&&◌, eqb, ltb, ◌≢◌, ◌⊎◌, List, length, get_or, set, sym, refl, ◌∙◌, inl, inr, ⊎_elim, div-lt_iff_lt-mul, arith, length-set, get_or-set_other, get_or-set_same, lt-length-set, ltb-true, lt-ltb, ne_eqb, eqb-true}
use native.Mathlib.Decide.{dec_le}
use mathlib.Core.Logic.{by_cases}
use borrow.Author.Tests.{eqb-false}
use Rattle.lists.proofs.ListLaws.{not_both}
use Rattle.counting.proofs.Fewest.{plus, delayed}
use Rattle.entries.specs.Entry.{merged_count}
use Rattle.entries.proofs.EntryLaws.{plus_none, delayed_zero}
use Rattle.memory.proofs.FillLaws.{filled_length, filled_other, filled_at}
use Rattle.pass.specs.Column.{Lanes}
use Rattle.lanes.specs.Lane.{without_lane}
use Rattle.pass.specs.Row.{merged_row, part_size, row_at}
use Rattle.pass.specs.Sweep.{sweep_of, cleared_column, too_wide}
use Rattle.stale.specs.Window.{taken_cell, opened_cell, emptied_cell, masked_row, wide_entry, masked_cell, TwoParts}
use Rattle.pass.proofs.PlaceLaws.{row_inside, set_twice_length}
use Rattle.pass.proofs.BestLaws.{Best, best_ext, best_same, best_none, best_merge, best_delayed}
use Rattle.pass.proofs.MaskLaws.{Thin, Filled, best_cleared}
use Rattle.pass.proofs.TookLaws.{Took, absorbed_took, own_in, cleared_entry}
use Rattle.pass.proofs.StateLaws.{BestAt, delayed_less, row_outside}
use Rattle.pass.proofs.SettleLaws.{tested_thin, tested_wide}
use Rattle.pass.proofs.ColumnLaws.{may_leave}
use Rattle.stale.proofs.RingPlaces.{Apart}
use Rattle.stale.proofs.WindowSteps.{take_absorbable, taken_some, taken_none}

-- the entry of station v in the part that begins at base is the best of N and M
abbrev pub Holds : Lanes → ℕ → ℕ → List ℕ → ℕ → ℕ → (ℕ → ℕ) → (ℕ → ℕ → ℕ) → Type 0
Holds lay n block w base v N M = BestAt lay block 65535 N M n (base + v) (base + row_at n block v) w

-- and its count fits a lane
abbrev pub ThinAt : Lanes → ℕ → ℕ → ℕ → List ℕ → Type 0
ThinAt lay n base v w = get_or w (base + v) 0 < 65535 → Thin lay (get_or w (base + v + n) 0)

-- a cell is the same in two lists
pub record Alike (n block base v : ℕ) (old new : List ℕ) : Type 0 where
  pub hops : get_or new (base + v) 0 ≡ get_or old (base + v) 0
  pub count : get_or new (base + v + n) 0 ≡ get_or old (base + v + n) 0
  pub row : (j : ℕ) → j < block → get_or new (base + row_at n block v + j) 0 ≡ get_or old (base + row_at n block v + j) 0

-- only a cell changed
pub record OnlyCell (n block base v : ℕ) (old new : List ℕ) : Type 0 where
  pub same : length new ≡ length old
  pub other : (i : ℕ) → i ≢ base + v → i ≢ base + v + n → (i < base + row_at n block v) ⊎ (base + row_at n block v + block ≤ i)
      → get_or new i 0 ≡ get_or old i 0

-- only a part changed
pub record OnlyPart (n block base : ℕ) (old new : List ℕ) : Type 0 where
  pub same : length new ≡ length old
  pub other : (i : ℕ) → (i < base) ⊎ (base + part_size n block ≤ i) → get_or new i 0 ≡ get_or old i 0

module _ {n block : ℕ} where
  pub holds_alike : {lay : Lanes} {base v : ℕ} {old new : List ℕ} {N : ℕ → ℕ} {M : ℕ → ℕ → ℕ} → Alike n block base v old new
      → Holds lay n block old base v N M → Holds lay n block new base v N M
  holds_alike a b = best_same a.hops a.count (λ j i g. a.row j i) b

  pub thin_alike : (lay : Lanes) {base v : ℕ} {old new : List ℕ} → Alike n block base v old new → ThinAt lay n base v old
      → ThinAt lay n base v new
  thin_alike lay a t some = rw a.count (t (rw a.hops at some))

  pub cell_refl : {base v : ℕ} {w : List ℕ} → OnlyCell n block base v w w
  cell_refl = record { same = refl; other = λ i a b out. refl }

  pub cell_then : {base v : ℕ} {a b c : List ℕ} → OnlyCell n block base v a b → OnlyCell n block base v b c → OnlyCell n block base v a c
  cell_then x y =
      record { same = y.same ∙ x.same; other = λ i p q out. y.other i p q out ∙ x.other i p q out }

  pub part_refl : {base : ℕ} {w : List ℕ} → OnlyPart n block base w w
  part_refl = record { same = refl; other = λ i out. refl }

  pub part_then : {base : ℕ} {a b c : List ℕ} → OnlyPart n block base a b → OnlyPart n block base b c → OnlyPart n block base a c
  part_then x y = record { same = y.same ∙ x.same; other = λ i out. y.other i out ∙ x.other i out }

  -- a cell lies in its part
  pub cell_part : {base v : ℕ} {old new : List ℕ} → v < n → OnlyCell n block base v old new → OnlyPart n block base old new
  cell_part {base} {v} inside x =
      let row = row_inside n block v inside in
      record {
        same = x.same;
        other = λ i out. x.other i
            (⊎_elim (λ (q : i < base). omega arith) (λ (q : base + part_size n block ≤ i). omega arith) out)
            (⊎_elim (λ (q : i < base). omega arith) (λ (q : base + part_size n block ≤ i). omega arith) out)
            (⊎_elim (λ (q : i < base). inl (omega arith)) (λ (q : base + part_size n block ≤ i). inr (omega arith)) out);
      }

  -- any other cell of the part stays
  pub cell_alike : {base v : ℕ} {old new : List ℕ} (x : ℕ) → x ≢ v → x < n → v < n → OnlyCell n block base v old new
      → Alike n block base x old new
  cell_alike {base} {v} x d hx hv o =
      record {
        hops = o.other (base + x) (omega arith) (omega arith) (inl (omega arith));
        count = o.other (base + x + n) (omega arith) (omega arith) (inl (omega arith));
        row = λ j q. o.other (base + row_at n block x + j) (omega arith) (omega arith)
            (⊎_elim (λ (l : row_at n block x + j < row_at n block v). inl (omega arith))
            (λ (l : row_at n block v + block ≤ row_at n block x + j). inr (omega arith)) (row_outside n block x v j d q));
      }

  -- and so does any cell of another part
  pub part_alike : {base : ℕ} {old new : List ℕ} (b v : ℕ) → Apart n block b base → v < n → OnlyPart n block base old new
      → Alike n block b v old new
  part_alike {base} {old} {new} b v apart hv o =
      let row = row_inside n block v hv in
      record {
        hops = there (b + v) v refl (omega arith);
        count = there (b + v + n) (v + n) (omega arith) (omega arith);
        row = λ j q. there (b + row_at n block v + j) (row_at n block v + j) (omega arith) (omega arith);
      }
    where
      there : (i k : ℕ) → i ≡ b + k → k < part_size n block → get_or new i 0 ≡ get_or old i 0
      there i k is small =
          o.other i
          (⊎_elim (λ (a : b + part_size n block ≤ base). inl (omega arith))
          (λ (a : base + part_size n block ≤ b). inr (omega arith)) apart)

-- ---- walks taken into a cell

module _ (n block : ℕ) (w : List ℕ) (to v from x more : ℕ) (parts : TwoParts n block to from w) (hv : v < n) (hx : x < n)
    (apart : Apart n block to from) where
  took : get_or w (from + x) 0 < 65535
      → Took n block (to + v) (to + row_at n block v) w (taken_cell n block w to v from x more)
      (min (get_or w (to + v) 0) (get_or w (from + x) 0 + more))
      (merged_count (get_or w (to + v) 0) (get_or w (to + v + n) 0) (get_or w (from + x) 0 + more) (get_or w (from + x + n) 0))
      (λ j. merged_row (get_or w (to + v) 0) (get_or w (from + x) 0 + more) (get_or w (to + row_at n block v + j) 0)
      (get_or w (from + row_at n block x + j) 0))
  took some =
      let row-v = row_inside n block v hv in
      let row-x = row_inside n block x hx in
      rw (sym (taken_some n block w to v from x more _ _ _ refl refl some refl))
      (absorbed_took n block w (to + v) (to + row_at n block v) (from + row_at n block x) (get_or w (from + x) 0 + more)
      (get_or w (from + x + n) 0)
      (take_absorbable n block w to v from x _ _ parts hv hx refl refl)
      (⊎_elim (λ (a : to + part_size n block ≤ from). inl (omega arith)) (λ (a : from + part_size n block ≤ to). inr (omega arith)) apart))

  pub taken_cell_law : OnlyCell n block to v w (taken_cell n block w to v from x more)
  taken_cell_law =
      by_cases (dec_le 65535 (get_or w (from + x) 0))
      (λ none. rw (sym (taken_none n block w to v from x more none)) cell_refl)
      (λ some. let t = took (omega arith) in record { same = t.same; other = t.other })

  -- the count of what it held, and what came
  pub taken_count : get_or w (from + x) 0 < 65535
      → get_or (taken_cell n block w to v from x more) (to + v + n) 0
      ≡ merged_count (get_or w (to + v) 0) (get_or w (to + v + n) 0) (get_or w (from + x) 0 + more) (get_or w (from + x + n) 0)
  taken_count some = (took some).count

  -- it holds what it held, and what came
  pub taken_holds : {lay : Lanes} (N N' : ℕ → ℕ) (M M' : ℕ → ℕ → ℕ) → ((j k : ℕ) → M j k ≤ N k) → ((j k : ℕ) → M' j k ≤ N' k)
      → Holds lay n block w to v N M
      → (get_or w (from + x) 0 < 65535
      → Best lay block 65535 N' M' (get_or w (from + x) 0 + more) (get_or w (from + x + n) 0) (λ j. get_or w (from + row_at n block x + j) 0))
      → (65535 ≤ get_or w (from + x) 0 → (k : ℕ) → N' k ≡ 0)
      → Holds lay n block (taken_cell n block w to v from x more) to v (plus N N') (λ j. plus (M j) (M' j))
  taken_holds {lay} N N' M M' less less' held came none =
      by_cases (dec_le 65535 (get_or w (from + x) 0))
      (λ (nothing : 65535 ≤ get_or w (from + x) 0).
      rw (sym (taken_none n block w to v from x more nothing))
      (best_ext (λ k. plus_none N N' k (none nothing k))
      (λ j k. plus_none (M j) (M' j) k (omega (arith, less' j k, none nothing k))) held))
      (λ some.
      let t = took (omega arith) in
      let arrived = came (omega arith) in
      best_same t.hops t.count (λ j i g. t.entries j i)
      (best_merge lay N N' M M' less less' _ _ _ _ 65535 65535 65535 held arrived (λ g o. omega arith) (λ g o. omega arith)))

module _ {lay : Lanes} (n block : ℕ) (w : List ℕ) (to v from x : ℕ) (parts : TwoParts n block to from w) (hv : v < n) (hx : x < n)
    (apart : Apart n block to from) (N N' : ℕ → ℕ) (M M' : ℕ → ℕ → ℕ) (less : (j k : ℕ) → M j k ≤ N k) (less' : (j k : ℕ) → M' j k ≤ N' k)
    (held : Holds lay n block w to v N M) (came : Holds lay n block w from x N' M') where
  none_came : 65535 ≤ get_or w (from + x) 0 → (k : ℕ) → N' k ≡ 0
  none_came none = let f = came.entry.fewest in f.never (let b = f.bound in omega arith)

  -- with no hop more
  pub same_holds : Holds lay n block (taken_cell n block w to v from x 0) to v (plus N N') (λ j. plus (M j) (M' j))
  same_holds =
      taken_holds n block w to v from x 0 parts hv hx apart N N' M M' less less' held
      (λ some. best_same (omega arith) refl (λ j i g. refl) came) none_came

  -- with one hop more
  pub later_holds : (get_or w (from + x) 0 < 65535 → get_or w (from + x) 0 + 1 < 65535)
      → Holds lay n block (taken_cell n block w to v from x 1) to v (plus N (delayed N')) (λ j. plus (M j) (delayed (M' j)))
  later_holds few =
      taken_holds n block w to v from x 1 parts hv hx apart N (delayed N') M (λ j. delayed (M' j)) less
      (λ j. delayed_less (less' j)) held (λ some. best_delayed came (few some)) (λ none. delayed_zero (none_came none))

-- ---- a cell with the empty walk, and one with none

module _ (n block : ℕ) (w : List ℕ) (base v : ℕ) (hv : v < n) (fits : base + part_size n block ≤ length w) where
  pub opened_cell_law : (one : ℕ) → OnlyCell n block base v w (opened_cell n block w base v one)
  unfolding opened_cell
  opened_cell_law one =
      record {
        same = filled_length (set (set w (base + v) 0) (base + v + n) 1) (base + row_at n block v) block one
            ∙ set_twice_length w (base + v) (base + v + n) 0 1;
        other = λ i a b out. filled_other (set (set w (base + v) 0) (base + v + n) 1) (base + row_at n block v) block one i out
            ∙ get_or-set_other (set w (base + v) 0) (base + v + n) i 1 0 b ∙ get_or-set_other w (base + v) i 0 0 a;
      }

  pub opened_holds : {lay : Lanes} (one : ℕ) {N : ℕ → ℕ} {M : ℕ → ℕ → ℕ} → Best lay block 65535 N M 0 1 (λ j. one)
      → Holds lay n block (opened_cell n block w base v one) base v N M
  unfolding opened_cell
  opened_holds one b =
      let row = row_inside n block v hv in
      let two = set (set w (base + v) 0) (base + v + n) 1 in
      best_same
      (filled_other two (base + row_at n block v) block one (base + v) (inl (omega arith))
      ∙ get_or-set_other (set w (base + v) 0) (base + v + n) (base + v) 1 0 (omega arith)
      ∙ get_or-set_same w (base + v) 0 0 (omega arith))
      (filled_other two (base + row_at n block v) block one (base + v + n) (inl (omega arith))
      ∙ get_or-set_same (set w (base + v) 0) (base + v + n) 1 0 (lt-length-set w (base + v) 0 (omega arith)))
      (λ j i g. filled_at two (base + row_at n block v) block one j i
      (omega (arith, set_twice_length w (base + v) (base + v + n) 0 1)))
      b

  pub emptied_cell_law : OnlyCell n block base v w (emptied_cell n w base v)
  unfolding emptied_cell
  emptied_cell_law =
      record {
        same = set_twice_length w (base + v) (base + v + n) 65535 0;
        other = λ i a b out. get_or-set_other (set w (base + v) 65535) (base + v + n) i 0 0 b ∙ get_or-set_other w (base + v) i 65535 0 a;
      }

  pub emptied_holds : {lay : Lanes} {N : ℕ → ℕ} {M : ℕ → ℕ → ℕ} → ((k : ℕ) → N k ≡ 0)
      → Holds lay n block (emptied_cell n w base v) base v N M
  unfolding emptied_cell
  emptied_holds none =
      best_same
      (get_or-set_other (set w (base + v) 65535) (base + v + n) (base + v) 0 0 (omega arith)
      ∙ get_or-set_same w (base + v) 65535 0 (omega arith))
      (get_or-set_same (set w (base + v) 65535) (base + v + n) 0 0 (lt-length-set w (base + v) 65535 (omega arith)))
      (λ j i g. refl)
      (best_none (omega arith) none)

-- ---- a mask

module _ (lay : Lanes) (full : Filled lay) (n block s : ℕ) (col : ℕ → ℕ) (w : List ℕ) (base v : ℕ) (other : v ≢ s) (hv : v < n)
    (fits : base + part_size n block ≤ length w) where
  -- a column lies in an entry of the row
  column_inside : col v < block * lay.lanes → col v / lay.lanes < block
  column_inside h = (div-lt_iff_lt-mul full.some).1 h

  mask_length : length (masked_row lay block col w (base + row_at n block v) v) ≡ length w
  unfolding masked_row cleared_column
  mask_length = go (ltb (col v) (block * lay.lanes))
    where
      go : (b : Bool) → length (cond b (cleared_column lay w (base + row_at n block v) (col v)) w) ≡ length w
      go true = length-set w (base + row_at n block v + col v / lay.lanes) _
      go false = refl

  mask_other : (i : ℕ) → (i < base + row_at n block v) ⊎ (base + row_at n block v + block ≤ i)
      → get_or (masked_row lay block col w (base + row_at n block v) v) i 0 ≡ get_or w i 0
  unfolding masked_row cleared_column
  mask_other i out = go (ltb (col v) (block * lay.lanes)) refl
    where
      go : (b : Bool) → ltb (col v) (block * lay.lanes) ≡ b
          → get_or (cond b (cleared_column lay w (base + row_at n block v) (col v)) w) i 0 ≡ get_or w i 0
      go true e =
          let inside = column_inside (ltb-true (col v) (block * lay.lanes) e) in
          get_or-set_other w (base + row_at n block v + col v / lay.lanes) i _ 0
          (⊎_elim (λ (h : i < base + row_at n block v). omega arith) (λ (h : base + row_at n block v + block ≤ i). omega arith) out)
      go false e = refl

  pub mask_cell : OnlyCell n block base v w (masked_row lay block col w (base + row_at n block v) v)
  mask_cell = record { same = mask_length; other = λ i a b out. mask_other i out }

  -- an entry of the row has the column of v cleared, where it holds it
  mask_at : (e : ℕ) → e < block → get_or (masked_row lay block col w (base + row_at n block v) v) (base + row_at n block v + e) 0
      ≡ cleared_entry lay block s col v e (get_or w (base + row_at n block v + e) 0)
  unfolding masked_row cleared_column cleared_entry own_in
  mask_at e q = rw (ne_eqb v s other) (go (ltb (col v) (block * lay.lanes)) refl)
    where
      room : base + row_at n block v + e < length w
      room = let row = row_inside n block v hv in omega arith

      here : (t : Bool) → eqb (col v / lay.lanes) e ≡ t
          → get_or (cleared_column lay w (base + row_at n block v) (col v)) (base + row_at n block v + e) 0
          ≡ cond t (without_lane lay.width (get_or w (base + row_at n block v + e) 0) (col v % lay.lanes))
          (get_or w (base + row_at n block v + e) 0)
      here true o =
          let at : col v / lay.lanes ≡ e = eqb-true _ _ o in
          rw at (get_or-set_same w (base + row_at n block v + e) _ 0 room)
      here false o =
          let apart : col v / lay.lanes ≢ e = eqb-false _ _ o in
          get_or-set_other w (base + row_at n block v + col v / lay.lanes) (base + row_at n block v + e) _ 0 (omega arith)

      go : (b : Bool) → ltb (col v) (block * lay.lanes) ≡ b
          → get_or (cond b (cleared_column lay w (base + row_at n block v) (col v)) w) (base + row_at n block v + e) 0
          ≡ cond (b && eqb (col v / lay.lanes) e)
          (without_lane lay.width (get_or w (base + row_at n block v + e) 0) (col v % lay.lanes)) (get_or w (base + row_at n block v + e) 0)
      go true f = here (eqb (col v / lay.lanes) e) refl
      go false f = refl

  -- the cell holds the walks that may go on from v, where its count fits
  pub mask_holds : {N : ℕ → ℕ} {M : ℕ → ℕ → ℕ} → ((j k : ℕ) → M j k ≤ N k) → ThinAt lay n base v w → Holds lay n block w base v N M
      → Holds lay n block (masked_row lay block col w (base + row_at n block v) v) base v N (λ j k. cond (may_leave s col j v) (M j k) 0)
  mask_holds less thin b =
      best_same (mask_other (base + v) (inl (omega arith))) (mask_other (base + v + n) (inl (omega arith)))
      (λ e i g. mask_at e i) (best_cleared lay full s col block v less thin b)

  -- the test lets no other count pass
  narrow_thin : wide_entry lay n w (base + v) ≡ false → ThinAt lay n base v w
  unfolding wide_entry merged_count
  narrow_thin narrow some =
      let less = lt-ltb (get_or w (base + v) 0) 65535 some in
      rw less at (tested_thin lay 65535 0 (get_or w (base + v) 0) (get_or w (base + v + n) 0) (rw less at narrow))

  -- the same with the test: only the cell changes
  pub masked_only : OnlyCell n block base v w (masked_cell lay n block col w base v).work
  unfolding masked_cell
  masked_only = go (wide_entry lay n w (base + v))
    where
      go : (b : Bool) → OnlyCell n block base v w
          (cond b (sweep_of true w) (sweep_of false (masked_row lay block col w (base + row_at n block v) v))).work
      go true = cell_refl
      go false = mask_cell

  -- it holds those walks where the flag is not up
  pub masked_holds : {N : ℕ → ℕ} {M : ℕ → ℕ → ℕ} → ((j k : ℕ) → M j k ≤ N k) → Holds lay n block w base v N M
      → (masked_cell lay n block col w base v).over ≡ false
      → Holds lay n block (masked_cell lay n block col w base v).work base v N (λ j k. cond (may_leave s col j v) (M j k) 0)
  unfolding masked_cell
  masked_holds {N} {M} less b = go (wide_entry lay n w (base + v)) refl
    where
      go : (t : Bool) → wide_entry lay n w (base + v) ≡ t
          → (cond t (sweep_of true w) (sweep_of false (masked_row lay block col w (base + row_at n block v) v))).over ≡ false
          → Holds lay n block (cond t (sweep_of true w) (sweep_of false (masked_row lay block col w (base + row_at n block v) v))).work base v
          N (λ j k. cond (may_leave s col j v) (M j k) 0)
      go true e f = absurd (not_both refl f)
      go false e f = mask_holds less (narrow_thin e) b

  -- it is up only where an entry has several lanes
  pub masked_wide : (masked_cell lay n block col w base v).over ≡ true → lay.lanes ≢ 1
  unfolding masked_cell wide_entry
  masked_wide = go (ltb (get_or w (base + v) 0) 65535) (too_wide lay 65535 0 (get_or w (base + v) 0) (get_or w (base + v + n) 0)) refl
    where
      go : (a t : Bool) → too_wide lay 65535 0 (get_or w (base + v) 0) (get_or w (base + v + n) 0) ≡ t
          → (cond (a && t) (sweep_of true w) (sweep_of false (masked_row lay block col w (base + row_at n block v) v))).over ≡ true
          → lay.lanes ≢ 1
      go true true e f = tested_wide lay 65535 0 (get_or w (base + v) 0) (get_or w (base + v + n) 0) e
      go true false e f = absurd (not_both f refl)
      go false t e f = absurd (not_both f refl)
