-- What stands in every place of the work area after an entry and its row took walks in, after a mask, and after a
-- station is settled. Assumes nothing.
use Rattle.std.proofs.Common.{◌≡◌, ℕ, ◌+◌, ◌*◌, ◌/◌, ◌%◌, ◌<◌, ◌≤◌, min, Bool, true, false, cond, not, ◌&&◌, eqb, ltb, ◌≢◌, ◌⊎◌, List, length, get_or, set, refl, ap, ◌∙◌, inl, inr, ⊎_elim, div-lt_iff_lt-mul, arith, length-set, get_or-set_other, get_or-set_same, lt-length-set, ltb-true, le-ltb, lt-ltb, eqb-true}
use borrow.Author.Tests.{eqb-false}
use Rattle.pass.specs.Row.{combined, merged_row, part_size, row_at}
use Rattle.entries.specs.Entry.{merged_count}
use Rattle.pass.specs.Entry.{merged_area, absorbed, Absorbable}
use Rattle.lanes.specs.Lane.{without_lane}
use Rattle.pass.specs.Column.{Lanes}
use Rattle.pass.specs.Sweep.{cleared_column, masked, taken_in, settled_one, PartFits}
use Rattle.pass.proofs.RowLaws.{combined_length, combined_other, combined_at}
use Rattle.pass.proofs.EntryLaws.{merged_length}
use Rattle.pass.proofs.PlaceLaws.{row_inside, row_settled, row_waiting, set_twice_length}

-- the entry at a place has new hops, a new count and a new row, and every other place is as it was
pub record Took (n block at row : ℕ) (old new : List ℕ) (h c : ℕ) (r : ℕ → ℕ) : Type 0 where
  pub hops : get_or new at 0 ≡ h
  pub count : get_or new (at + n) 0 ≡ c
  pub entries : (j : ℕ) → j < block → get_or new (row + j) 0 ≡ r j
  pub other : (i : ℕ) → i ≢ at → i ≢ at + n → (i < row) ⊎ (row + block ≤ i) → get_or new i 0 ≡ get_or old i 0
  pub same : length new ≡ length old

module _ (n : ℕ) (w : List ℕ) (at l d : ℕ) (some : 0 < n) (fits : at + n < length w) where
  pub merged_hops : get_or (merged_area n w at l d) at 0 ≡ min (get_or w at 0) l
  unfolding merged_area
  merged_hops =
      get_or-set_other (set w at (min (get_or w at 0) l)) (at + n) at _ 0 (omega arith)
      ∙ get_or-set_same w at (min (get_or w at 0) l) 0 (omega arith)

  pub merged_count_law : get_or (merged_area n w at l d) (at + n) 0 ≡ merged_count (get_or w at 0) (get_or w (at + n) 0) l d
  unfolding merged_area
  merged_count_law =
      get_or-set_same (set w at (min (get_or w at 0) l)) (at + n) _ 0
      (lt-length-set w at (min (get_or w at 0) l) fits)

  pub merged_other : (i : ℕ) → i ≢ at → i ≢ at + n → get_or (merged_area n w at l d) i 0 ≡ get_or w i 0
  unfolding merged_area
  merged_other i a b =
      get_or-set_other (set w at (min (get_or w at 0) l)) (at + n) i _ 0 b
      ∙ get_or-set_other w at i (min (get_or w at 0) l) 0 a

-- hops and count alone are taken in
pub merged_took : (n block : ℕ) (w : List ℕ) (at row l d : ℕ) → 0 < n → at + n < row → at + n < length w
    → Took n block at row w (merged_area n w at l d) (min (get_or w at 0) l)
    (merged_count (get_or w at 0) (get_or w (at + n) 0) l d) (λ j. get_or w (row + j) 0)
merged_took n block w at row l d some before inside =
    record {
      hops = merged_hops n w at l d some inside;
      count = merged_count_law n w at l d some inside;
      entries = λ j q. merged_other n w at l d some inside (row + j) (omega arith) (omega arith);
      other = λ i a b out. merged_other n w at l d some inside i a b;
      same = merged_length n w at l d;
    }

-- hops, count and row are taken in
pub absorbed_took : (n block : ℕ) (w : List ℕ) (at row from l d : ℕ) → Absorbable n block w at row from
    → (row ≤ from) ⊎ (from + block ≤ row)
    → Took n block at row w (absorbed n block w at row from l d) (min (get_or w at 0) l)
    (merged_count (get_or w at 0) (get_or w (at + n) 0) l d)
    (λ j. merged_row (get_or w at 0) l (get_or w (row + j) 0) (get_or w (from + j) 0))
unfolding absorbed
absorbed_took n block w at row from l d a apart =
    let before = a.before in
    let room = a.row_fits in
    let one = combined (merged_row (get_or w at 0) l) w row from block in
    let kept : length one ≡ length w = combined_length (merged_row (get_or w at 0) l) w row from block in
    let at_hops : get_or one at 0 ≡ get_or w at 0 =
    combined_other (merged_row (get_or w at 0) l) w row from block at (inl (omega arith)) in
    let at_count : get_or one (at + n) 0 ≡ get_or w (at + n) 0 =
    combined_other (merged_row (get_or w at 0) l) w row from block (at + n) (inl (omega arith)) in
    let took = merged_took n block one at row l d a.some before (omega arith) in
    record {
      hops = took.hops ∙ ap (λ x. min x l) at_hops;
      count = took.count ∙ rw (at_hops, at_count);
      entries = λ j q. took.entries j q
          ∙ combined_at (merged_row (get_or w at 0) l) w row from block j q a.row_fits apart;
      other = λ i x y out. took.other i x y out ∙ combined_other (merged_row (get_or w at 0) l) w row from block i out;
      same = took.same ∙ kept;
    }

-- ---- a mask

-- the column of v lies in entry e of v's own row, and v is not the source
unfoldable pub own_in : Lanes → ℕ → ℕ → (ℕ → ℕ) → ℕ → ℕ → Bool
own_in lay block s col v e = not (eqb v s) && (ltb (col v) (block * lay.lanes) && eqb (col v / lay.lanes) e)

-- entry e of v's own row, with its column cleared
unfoldable pub cleared_entry : Lanes → ℕ → ℕ → (ℕ → ℕ) → ℕ → ℕ → ℕ → ℕ
cleared_entry lay block s col v e x = cond (own_in lay block s col v e) (without_lane lay.width x (col v % lay.lanes)) x

module _ (lay : Lanes) (some_lane : 0 < lay.lanes) (n block s : ℕ) (col : ℕ → ℕ) (w : List ℕ) (v : ℕ) where
  masked_length : length (masked lay n block s col w v) ≡ length w
  unfolding masked cleared_column
  masked_length = go (eqb v s) (ltb (col v) (block * lay.lanes))
    where
      go : (a b : Bool) → length (cond a w (cond b (cleared_column lay w (row_at n block v) (col v)) w)) ≡ length w
      go true b = refl
      go false true = length-set w (row_at n block v + col v / lay.lanes) _
      go false false = refl

  -- a column lies in an entry of the row
  column_inside : col v < block * lay.lanes → col v / lay.lanes < block
  column_inside h = (div-lt_iff_lt-mul some_lane).1 h

  -- a place outside of the row stays
  masked_other : (i : ℕ) → (i < row_at n block v) ⊎ (row_at n block v + block ≤ i)
      → get_or (masked lay n block s col w v) i 0 ≡ get_or w i 0
  unfolding masked cleared_column
  masked_other i out = go (eqb v s) (ltb (col v) (block * lay.lanes)) refl
    where
      go : (a b : Bool) → ltb (col v) (block * lay.lanes) ≡ b →
          get_or (cond a w (cond b (cleared_column lay w (row_at n block v) (col v)) w)) i 0 ≡ get_or w i 0
      go true b e = refl
      go false true e =
          let inside = column_inside (ltb-true (col v) (block * lay.lanes) e) in
          get_or-set_other w (row_at n block v + col v / lay.lanes) i _ 0
          (⊎_elim (λ (h : i < row_at n block v). omega arith) (λ (h : row_at n block v + block ≤ i). omega arith) out)
      go false false e = refl

  -- an entry of the row has the column of v cleared, where it holds it
  masked_at : (e : ℕ) → e < block → row_at n block v + block ≤ length w
      → get_or (masked lay n block s col w v) (row_at n block v + e) 0 ≡ cleared_entry lay block s col v e (get_or w (row_at n block v + e) 0)
  unfolding masked cleared_column cleared_entry own_in
  masked_at e q fits = go (eqb v s) (ltb (col v) (block * lay.lanes)) refl
    where
      here : (t : Bool) → eqb (col v / lay.lanes) e ≡ t
          → get_or (cleared_column lay w (row_at n block v) (col v)) (row_at n block v + e) 0
          ≡ cond t (without_lane lay.width (get_or w (row_at n block v + e) 0) (col v % lay.lanes)) (get_or w (row_at n block v + e) 0)
      here true o =
          let at : col v / lay.lanes ≡ e = eqb-true _ _ o in
          rw at (get_or-set_same w (row_at n block v + e) _ 0 (omega arith))
      here false o =
          let apart : col v / lay.lanes ≢ e = eqb-false _ _ o in
          get_or-set_other w (row_at n block v + col v / lay.lanes) (row_at n block v + e) _ 0 (omega arith)

      go : (a b : Bool) → ltb (col v) (block * lay.lanes) ≡ b
          → get_or (cond a w (cond b (cleared_column lay w (row_at n block v) (col v)) w)) (row_at n block v + e) 0
          ≡ cond (not a && (b && eqb (col v / lay.lanes) e))
          (without_lane lay.width (get_or w (row_at n block v + e) 0) (col v % lay.lanes)) (get_or w (row_at n block v + e) 0)
      go true b f = refl
      go false true f = here (eqb (col v / lay.lanes) e) refl
      go false false f = refl

-- ---- a part in which an entry took walks in

-- where the entry and its row lie in a part, every place outside of the part is as it was
pub took_outside : (n block base v : ℕ) (old new : List ℕ) (h c : ℕ) (r : ℕ → ℕ) → v < n
    → Took n block (base + v) (base + row_at n block v) old new h c r
    → (i : ℕ) → (i < base) ⊎ (base + part_size n block ≤ i)
    → get_or new i 0 ≡ get_or old i 0
took_outside n block base v old new h c r inside took i out =
    let row = row_inside n block v inside in
    took.other i
    (⊎_elim (λ (q : i < base). omega arith) (λ (q : base + part_size n block ≤ i). omega arith) out)
    (⊎_elim (λ (q : i < base). omega arith) (λ (q : base + part_size n block ≤ i). omega arith) out)
    (⊎_elim (λ (q : i < base). inl (omega arith)) (λ (q : base + part_size n block ≤ i). inr (omega arith)) out)

-- ---- a station settled

-- its entry took in what waited in a part, with its column 0; nothing waits there; every other place is as it was
pub record Settled (lay : Lanes) (n block base s : ℕ) (col : ℕ → ℕ) (v : ℕ) (old new : List ℕ) : Type 0 where
  pub hops : get_or new v 0 ≡ min (get_or old v 0) (get_or old (base + v) 0)
  pub count : get_or new (v + n) 0
      ≡ merged_count (get_or old v 0) (get_or old (v + n) 0) (get_or old (base + v) 0) (get_or old (base + v + n) 0)
  pub entries : (e : ℕ) → e < block → get_or new (row_at n block v + e) 0
      ≡ cleared_entry lay block s col v e
      (merged_row (get_or old v 0) (get_or old (base + v) 0) (get_or old (row_at n block v + e) 0)
      (get_or old (base + row_at n block v + e) 0))
  pub no_hops : get_or new (base + v) 0 ≡ 65535
  pub no_count : get_or new (base + v + n) 0 ≡ 0
  pub other : (i : ℕ) → i ≢ v → i ≢ v + n → i ≢ base + v → i ≢ base + v + n
      → (i < row_at n block v) ⊎ (row_at n block v + block ≤ i)
      → get_or new i 0 ≡ get_or old i 0
  pub same : length new ≡ length old

-- settling a station for which walks with no more hops wait leaves that
pub settled_took : (lay : Lanes) → 0 < lay.lanes → (n block base s : ℕ) (col : ℕ → ℕ) (w : List ℕ) (v : ℕ) → PartFits n block base w → v < n
    → get_or w (base + v) 0 < 65535 → get_or w (base + v) 0 ≤ get_or w v 0
    → Settled lay n block base s col v w (settled_one lay n block base s col w v)
unfolding settled_one taken_in
settled_took lay lane n block base s col w v part inside some less =
    rw (lt-ltb (get_or w (base + v) 0) 65535 some, le-ltb (get_or w v 0) (get_or w (base + v) 0) less)
    record {
      hops = outer v (omega arith) (omega arith)
          ∙ masked_other lay lane n block s col one v v (inl (omega arith)) ∙ took.hops;
      count = outer (v + n) (omega arith) (omega arith)
          ∙ masked_other lay lane n block s col one v (v + n) (inl (omega arith)) ∙ took.count;
      entries = λ j q. outer (row_at n block v + j) (omega (arith, row, behind)) (omega (arith, row, behind))
          ∙ masked_at lay lane n block s col one v j q (let k = took.same in let f = row_settled inside part in omega arith)
          ∙ ap (cleared_entry lay block s col v j) (took.entries j q);
      no_hops = get_or-set_other (set two (base + v) 65535) (base + v + n) (base + v) 0 0 (omega arith)
          ∙ get_or-set_same two (base + v) 65535 0 (omega (arith, two_length));
      no_count = get_or-set_same (set two (base + v) 65535) (base + v + n) 0 0
          (lt-length-set two (base + v) 65535 (omega (arith, two_length)));
      other = λ i a b c d out. outer i c d ∙ masked_other lay lane n block s col one v i out ∙ took.other i a b out;
      same = set_twice_length two (base + v) (base + v + n) 65535 0 ∙ two_length;
    }
  where
    positive : 0 < n
    positive = part.some

    behind : part_size n block ≤ base
    behind = part.behind

    fits : base + part_size n block ≤ length w
    fits = part.fits

    row : row_at n block v + block ≤ part_size n block
    row = row_inside n block v inside

    one : List ℕ
    one =
        absorbed n block w v (row_at n block v) (base + row_at n block v) (get_or w (base + v) 0)
        (get_or w (base + v + n) 0)

    took : Took n block v (row_at n block v) w one (min (get_or w v 0) (get_or w (base + v) 0))
        (merged_count (get_or w v 0) (get_or w (v + n) 0) (get_or w (base + v) 0) (get_or w (base + v + n) 0))
        (λ j. merged_row (get_or w v 0) (get_or w (base + v) 0) (get_or w (row_at n block v + j) 0)
        (get_or w (base + row_at n block v + j) 0))
    took =
        absorbed_took n block w v (row_at n block v) (base + row_at n block v) (get_or w (base + v) 0)
        (get_or w (base + v + n) 0)
        (record {
          some = positive;
          before = omega arith;
          row_fits = row_settled inside part;
          from_fits = row_waiting inside part;
        })
        (inl (omega arith))

    two : List ℕ
    two = masked lay n block s col one v

    two_length : length two ≡ length w
    two_length = masked_length lay lane n block s col one v ∙ took.same

    outer : (i : ℕ) → i ≢ base + v → i ≢ base + v + n
        → get_or (set (set two (base + v) 65535) (base + v + n) 0) i 0 ≡ get_or two i 0
    outer i c d =
        get_or-set_other (set two (base + v) 65535) (base + v + n) i 0 0 d
        ∙ get_or-set_other two (base + v) i 65535 0 c

-- what any settling changes: nothing waits there any more, and outside of the station's entry and row every other place is as it was
pub record Changed (n block base v : ℕ) (old new : List ℕ) : Type 0 where
  pub fewer : get_or new v 0 ≤ get_or old v 0
  pub no_hops : get_or new (base + v) 0 ≡ 65535
  pub no_count : get_or new (base + v + n) 0 ≡ 0
  pub other : (i : ℕ) → i ≢ v → i ≢ v + n → i ≢ base + v → i ≢ base + v + n
      → (i < row_at n block v) ⊎ (row_at n block v + block ≤ i)
      → get_or new i 0 ≡ get_or old i 0
  pub same : length new ≡ length old

pub settled_changed : {lay : Lanes} {n block base s : ℕ} {col : ℕ → ℕ} {v : ℕ} {old new : List ℕ} → Settled lay n block base s col v old new
    → Changed n block base v old new
settled_changed x =
    let hops = x.hops in
    record { fewer = omega arith; no_hops = x.no_hops; no_count = x.no_count; other = x.other; same = x.same }

-- where more hops wait, nothing but what waits is changed
module _ (lay : Lanes) (n block base s : ℕ) (col : ℕ → ℕ) (w : List ℕ) (v : ℕ) (part : PartFits n block base w) (inside : v < n)
    (some : get_or w (base + v) 0 < 65535) (more : get_or w v 0 < get_or w (base + v) 0) where
  pub dropped_other : (i : ℕ) → i ≢ base + v → i ≢ base + v + n → get_or (settled_one lay n block base s col w v) i 0 ≡ get_or w i 0
  unfolding settled_one taken_in
  dropped_other i a b =
      rw (lt-ltb (get_or w (base + v) 0) 65535 some, lt-ltb (get_or w v 0) (get_or w (base + v) 0) more)
      (get_or-set_other (set w (base + v) 65535) (base + v + n) i 0 0 b ∙ get_or-set_other w (base + v) i 65535 0 a)

  pub dropped_changed : Changed n block base v w (settled_one lay n block base s col w v)
  unfolding settled_one taken_in
  dropped_changed =
      let positive = part.some in
      let behind = part.behind in
      let fits = part.fits in
      let row = row_inside n block v inside in
      let here = dropped_other v (omega arith) (omega arith) in
      record {
        fewer = omega arith;
        no_hops = rw (lt-ltb (get_or w (base + v) 0) 65535 some, lt-ltb (get_or w v 0) (get_or w (base + v) 0) more)
            (get_or-set_other (set w (base + v) 65535) (base + v + n) (base + v) 0 0 (omega arith)
            ∙ get_or-set_same w (base + v) 65535 0 (omega arith));
        no_count = rw (lt-ltb (get_or w (base + v) 0) 65535 some, lt-ltb (get_or w v 0) (get_or w (base + v) 0) more)
            (get_or-set_same (set w (base + v) 65535) (base + v + n) 0 0 (lt-length-set w (base + v) 65535 (omega arith)));
        other = λ i a b c d out. dropped_other i c d;
        same = rw (lt-ltb (get_or w (base + v) 0) 65535 some, lt-ltb (get_or w v 0) (get_or w (base + v) 0) more)
            (set_twice_length w (base + v) (base + v + n) 65535 0);
      }
