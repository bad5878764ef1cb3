-- Places of the work area: rows lie within it and apart from each other. What the functions over it leave, from what
-- the functions that they call leave. Assumes nothing.
use Rattle.std.proofs.Common.{◌≡◌, ℕ, suc, ◌+◌, ◌-◌, ◌*◌, ◌/◌, ◌%◌, ◌<◌, ◌≤◌, min, Bool, true, false, cond, not, ◌&&◌, eqb, ltb, ◌≢◌, ◌⊎◌, List, length, get_or, set, sym, refl, ap, ◌∙◌, inl, inr, mul-le-mul_right, mod-lt, suc-mul, div-add-mod', arith, length-set, ltb-false, ltb-true, le-ltb, lt-ltb, eq-eqb, ne_eqb}
use native.Mathlib.Nat.{mul-add-mod_self_right}
use native.Mathlib.Decide.{dec_le}
use mathlib.Core.Logic.{by_cases}
use Rattle.memory.specs.Fill.{filled}
use Rattle.memory.proofs.FillLaws.{filled_length}
use Rattle.pass.specs.Row.{part_size, row_at, part_at}
use Rattle.pass.specs.Entry.{merged_area, absorbed}
use Rattle.pass.specs.Column.{Lanes}
use Rattle.pass.specs.Sweep.{sent_area, cleared_column, masked, settled_one, too_wide, Sweep, sweep_of, halts_at, taken_in}
use Rattle.pass.specs.Sweep.{widens_at, taken_next}
use Rattle.lists.proofs.ListLaws.{not_both}
use Rattle.pass.specs.Sweep.{settled_next, settled_by, hearer_at, station_at, HearersFit, Chosen, SlotSettled}
use Rattle.pass.specs.Sweep.{emptied, emptied_from, begun_area, PartFits, Area}

-- ---- parts and rows

-- a row ends where a later one begins, or before
pub row_before : (block e f : ℕ) → e < f → e * block + block ≤ f * block
row_before block e f h = let a = mul-le-mul_right {m = suc e} {n = f} block h in omega (arith, suc-mul e block)

-- the row of a station lies within its part
pub row_inside : (n block v : ℕ) → v < n → row_at n block v + block ≤ part_size n block
row_inside n block v h = let a = row_before block v n h in omega arith

module _ {n block base v : ℕ} {w : List ℕ} where
  -- a station's settled row lies within the list
  pub row_settled : v < n → PartFits n block base w → row_at n block v + block ≤ length w
  row_settled h a = let b = a.behind in let f = a.fits in let r = row_inside n block v h in omega arith

  -- and its row in the part
  pub row_waiting : v < n → PartFits n block base w → base + row_at n block v + block ≤ length w
  row_waiting h a = let f = a.fits in let r = row_inside n block v h in omega arith

-- a part fits a list of the same length too
pub part_kept : {n block base : ℕ} {w w' : List ℕ} → PartFits n block base w → length w' ≡ length w → PartFits n block base w'
part_kept a e = let fits = a.fits in record { some = a.some; behind = a.behind; fits = omega arith }

-- and so does a work area
pub area_kept : {n block q : ℕ} {w w' : List ℕ} → Area n block q w → length w' ≡ length w → Area n block q w'
area_kept a e = let fits = a.fits in record { some = a.some; parts = a.parts; fits = omega arith }

-- each of its parts lies behind what is settled, within the list
pub part_fits : {n block q : ℕ} {w : List ℕ} → Area n block q w → (u : ℕ) → PartFits n block (part_at n block q u) w
unfolding part_at
part_fits {n} {block} {q} {w} a u =
    let low = mod-lt u a.parts in
    let size = part_size n block in
    let first = mul-le-mul_right {m = 1} {n = 1 + u % q} size (omega arith) in
    let last = mul-le-mul_right {m = suc (1 + u % q)} {n = 1 + q} size (omega arith) in
    let fits = a.fits in
    record {
      some = a.some;
      behind = omega (arith, first);
      fits = omega (arith, last, suc-mul (1 + u % q) size, fits);
    }

-- parts of slots less than q apart do not meet
module _ (q : ℕ) where
  pub place_apart : (w e : ℕ) → w < e → e < w + q → w % q ≢ e % q
  place_apart w e low high same =
      let a = div-add-mod' w q in
      let b = div-add-mod' e q in
      by_cases (dec_le (e / q) (w / q))
      (λ h. let c = mul-le-mul_right {m = e / q} {n = w / q} q h in omega arith)
      (λ h.
      let c = mul-le-mul_right {m = suc (w / q)} {n = e / q} q (omega arith) in
      let d = suc-mul (w / q) q in
      omega arith)

  -- q slots later it is the same part
  pub place_again : (w : ℕ) → (w + q) % q ≡ w % q
  place_again w =
      let one : w + q ≡ 1 * q + w = omega arith in
      ap (λ x. x % q) one ∙ mul-add-mod_self_right 1 q w

module _ (n block q : ℕ) where
  -- one of two such parts ends where the other begins, or before
  pub parts_apart : (w e : ℕ) → w % q ≢ e % q
      → (part_at n block q w + part_size n block ≤ part_at n block q e)
      ⊎ (part_at n block q e + part_size n block ≤ part_at n block q w)
  unfolding part_at
  parts_apart w e d =
      let size = part_size n block in
      by_cases (dec_le (suc (w % q)) (e % q))
      (λ h.
      let c = mul-le-mul_right {m = suc (1 + w % q)} {n = 1 + e % q} size (omega arith) in
      inl (omega (arith, c, suc-mul (1 + w % q) size)))
      (λ h.
      let c = mul-le-mul_right {m = suc (1 + e % q)} {n = 1 + w % q} size (omega arith) in
      inr (omega (arith, c, suc-mul (1 + e % q) size)))

  pub part_again : (w : ℕ) → part_at n block q (w + q) ≡ part_at n block q w
  unfolding part_at
  part_again w = ap (λ x. (1 + x) * part_size n block) (place_again q w)

-- ---- a send

module _ (known : Bool) (n block base : ℕ) (w : List ℕ) (v x : ℕ) where
  -- where the row is looked at
  pub sent_row : (row from : ℕ) (out : List ℕ) → row ≡ row_at n block x → from ≡ row_at n block v
      → get_or w v 0 < 65535 → get_or w v 0 < get_or w x 0
      → out ≡ absorbed n block w (base + x) (base + row) from (get_or w v 0 + 1) (get_or w (v + n) 0)
      → out ≡ sent_area known n block base w v x
  unfolding sent_area
  sent_row row from out a b some fewer e =
      rw (lt-ltb (get_or w v 0) 65535 some, lt-ltb (get_or w v 0) (get_or w x 0) fewer) (e ∙ rw (a, b))

  -- where it is not
  pub sent_pruned : (out : List ℕ) → get_or w v 0 < 65535 → get_or w x 0 ≤ get_or w v 0 → known ≡ false
      → out ≡ merged_area n w (base + x) (get_or w v 0 + 1) (get_or w (v + n) 0)
      → out ≡ sent_area known n block base w v x
  unfolding sent_area
  sent_pruned out some more o e =
      rw (lt-ltb (get_or w v 0) 65535 some, le-ltb (get_or w v 0) (get_or w x 0) more, o) e

  -- nor are hops and count, where cause 9 is known not to hold
  pub sent_skipped : get_or w v 0 < 65535 → get_or w x 0 ≤ get_or w v 0 → known ≡ true → sent_area known n block base w v x ≡ w
  unfolding sent_area
  sent_skipped some more o = rw (lt-ltb (get_or w v 0) 65535 some, le-ltb (get_or w v 0) (get_or w x 0) more, o)

  -- a station without walks sends nothing
  pub sent_none : 65535 ≤ get_or w v 0 → sent_area known n block base w v x ≡ w
  unfolding sent_area
  sent_none none = rw (le-ltb (get_or w v 0) 65535 none)

-- ---- a mask

module _ (lay : Lanes) (n block s : ℕ) (col : ℕ → ℕ) (w : List ℕ) (v : ℕ) where
  -- the source keeps its column
  pub masked_source : v ≡ s → masked lay n block s col w v ≡ w
  unfolding masked
  masked_source e = rw (eq-eqb v s e)

  -- a station for which no column stands has none
  pub masked_none : v ≢ s → block * lay.lanes ≤ col v → masked lay n block s col w v ≡ w
  unfolding masked
  masked_none d past = rw (ne_eqb v s d, le-ltb (col v) (block * lay.lanes) past)

  -- any other has one, and it becomes 0
  pub masked_own : (row j : ℕ) → row ≡ row_at n block v → j ≡ col v → v ≢ s → j < block * lay.lanes
      → cleared_column lay w row j ≡ masked lay n block s col w v
  unfolding masked
  masked_own row j e c d inside = rw (ne_eqb v s d, lt-ltb (col v) (block * lay.lanes) (omega arith), e, c)

-- ---- settling

module _ (lay : Lanes) (n block base s : ℕ) (col : ℕ → ℕ) (w : List ℕ) (v : ℕ) where
  -- what waits has more hops than what is settled
  pub taken_more : get_or w v 0 < get_or w (base + v) 0 → sweep_of false w ≡ taken_next lay n block base s col w v
  unfolding taken_next taken_in widens_at
  taken_more more = rw (lt-ltb (get_or w v 0) (get_or w (base + v) 0) more)

  -- the count that the settled entry would have does not fit a lane
  pub taken_wide : get_or w (base + v) 0 ≤ get_or w v 0
      → true ≡ too_wide lay (get_or w v 0) (get_or w (v + n) 0) (get_or w (base + v) 0) (get_or w (base + v + n) 0)
      → sweep_of true w ≡ taken_next lay n block base s col w v
  unfolding taken_next widens_at
  taken_wide less wide = rw (le-ltb (get_or w v 0) (get_or w (base + v) 0) less, ← wide)

  -- it does
  pub taken_within : (row : ℕ) (one two : List ℕ) → row ≡ row_at n block v
      → get_or w (base + v) 0 ≤ get_or w v 0
      → one ≡ absorbed n block w v row (base + row) (get_or w (base + v) 0) (get_or w (base + v + n) 0)
      → two ≡ masked lay n block s col one v
      → false ≡ too_wide lay (get_or w v 0) (get_or w (v + n) 0) (get_or w (base + v) 0) (get_or w (base + v + n) 0)
      → sweep_of false two ≡ taken_next lay n block base s col w v
  unfolding taken_next taken_in widens_at
  taken_within row one two a less first second narrow =
      rw (le-ltb (get_or w v 0) (get_or w (base + v) 0) less, ← narrow, second, first, a)

  module _ (known : Bool) where
    -- its count is over 2^64 - 1: nothing is changed
    pub settled_over : get_or w (base + v) 0 < 65535 → true ≡ (not known && eqb (get_or w (base + v + n) 0) 0)
        → sweep_of true w ≡ settled_next known lay n block base s col w v
    unfolding settled_next halts_at
    settled_over some big = rw (lt-ltb (get_or w (base + v) 0) 65535 some, ← big)

    module _ (x : List ℕ) (some : get_or w (base + v) 0 < 65535) (small : false ≡ (not known && eqb (get_or w (base + v + n) 0) 0)) where
      -- it is not taken in
      pub settled_stop : sweep_of true x ≡ taken_next lay n block base s col w v → sweep_of true x ≡ settled_next known lay n block base s col w v
      unfolding settled_next halts_at taken_next
      settled_stop e = rw (lt-ltb (get_or w (base + v) 0) 65535 some, ← small) (go (widens_at lay n base w v) e)
        where
          go : (b : Bool) → sweep_of true x ≡ cond b (sweep_of true w) (sweep_of false (taken_in lay n block base s col w v))
              → sweep_of true x ≡ cond b (sweep_of true w) (sweep_of false (settled_one lay n block base s col w v))
          go true q = q
          go false q = absurd (not_both refl (ap (λ z. z.over) q))

      -- it is
      pub settled_go : sweep_of false x ≡ taken_next lay n block base s col w v
          → sweep_of false (set (set x (base + v) 65535) (base + v + n) 0) ≡ settled_next known lay n block base s col w v
      unfolding settled_next halts_at taken_next settled_one
      settled_go e = rw (lt-ltb (get_or w (base + v) 0) 65535 some, ← small) (go (widens_at lay n base w v) e)
        where
          go : (b : Bool) → sweep_of false x ≡ cond b (sweep_of true w) (sweep_of false (taken_in lay n block base s col w v))
              → sweep_of false (set (set x (base + v) 65535) (base + v + n) 0)
              ≡ cond b (sweep_of true w) (sweep_of false (set (set (taken_in lay n block base s col w v) (base + v) 65535) (base + v + n) 0))
          go true q = absurd (not_both refl (sym (ap (λ z. z.over) q)))
          go false q = ap (λ z. sweep_of false (set (set z.work (base + v) 65535) (base + v + n) 0)) q

    -- nothing waits
    pub settled_none : 65535 ≤ get_or w (base + v) 0 → sweep_of (ltb (get_or w (base + v) 0) 65535) w ≡ settled_next known lay n block base s col w v
    unfolding settled_next settled_one halts_at
    settled_none none = rw (le-ltb (get_or w (base + v) 0) 65535 none)

-- settling the stations from f i to before f e gives what settling those from f j on gives
pub record SettlingArea (f : ℕ → ℕ) (known : Bool) (lay : Lanes) (n block base s : ℕ) (col : ℕ → ℕ) (old : List ℕ) (j e i : ℕ) (now : List ℕ) : Type 0 where
  pub from : j ≤ i
  pub same : length now ≡ length old
  pub rest : settled_by f known lay n block base s col now i (e - i) ≡ settled_by f known lay n block base s col old j (e - j)

module _ (f : ℕ → ℕ) (known : Bool) (lay : Lanes) (n block base s : ℕ) (col : ℕ → ℕ) (old : List ℕ) (j e : ℕ) where
  module _ (i : ℕ) (now : List ℕ) (x : SettlingArea f known lay n block base s col old j e i now) where
    -- at last all are
    pub settling_all : e ≤ i → sweep_of false now ≡ settled_by f known lay n block base s col old j (e - j)
    unfolding settled_by
    settling_all h =
        let none : e - i ≡ 0 = omega arith in
        sym (ap (settled_by f known lay n block base s col now i) none) ∙ x.rest

    module _ (now' : List ℕ) (r : Bool) (h : i < e)
        (out : sweep_of r now' ≡ settled_next known lay n block base s col now (f i)) where
      -- it goes on from the next record, or stops here
      next : cond r (sweep_of true now') (settled_by f known lay n block base s col now' (i + 1) (e - (i + 1)))
          ≡ settled_by f known lay n block base s col old j (e - j)
      unfolding settled_next settled_by
      next =
          let more : e - i ≡ suc (e - (i + 1)) = omega arith in
          go (halts_at known lay n base now (f i)) out ∙ sym (ap (settled_by f known lay n block base s col now i) more) ∙ x.rest
        where
          on : Sweep → Sweep
          on z = cond z.over (sweep_of true z.work) (settled_by f known lay n block base s col z.work (i + 1) (e - (i + 1)))

          go : (t : Bool)
              → sweep_of r now'
              ≡ cond t (sweep_of true now) (sweep_of false (settled_one lay n block base s col now (f i)))
              → on (sweep_of r now')
              ≡ cond t (sweep_of true now) (settled_by f known lay n block base s col
              (settled_one lay n block base s col now (f i)) (i + 1) (e - (i + 1)))
          go true q = ap on q
          go false q = ap on q

      -- one record more
      pub settling_more : r ≡ false → length now' ≡ length now → SettlingArea f known lay n block base s col old j e (i + 1) now'
      settling_more goes kept =
          let low = x.from in
          record { from = omega arith; same = kept ∙ x.same; rest = rw goes at next }

      -- settling stops
      pub settling_stops : r ≡ true → sweep_of true now' ≡ settled_by f known lay n block base s col old j (e - j)
      settling_stops stops = rw stops at next

-- a slot settled for the hearers of its records, or for every station where they are more
module _ (bs : List ℕ) (n j e : ℕ) (fits : HearersFit bs n j e) (up : j ≤ e) where
  pub station_inside : (all : Bool) → all ≡ ltb n (e - j) → (i : ℕ) → i < min n (e - j) → station_at bs all j i < n
  unfolding station_at
  station_inside true is i inside = omega arith
  station_inside false is i inside = (fits (j + i) (omega arith) (omega arith)).hearer_station

  pub slot_chosen : (all : Bool) → all ≡ ltb n (e - j) → Chosen bs n j e (station_at bs all j) 0 (min n (e - j))
  unfolding station_at
  slot_chosen true is =
      let more = ltb-true n (e - j) (sym is) in
      record {
        inside = λ m low high. omega arith;
        covers = λ v h other. absurd (other v (omega arith) (omega arith) refl);
      }
  slot_chosen false is =
      let less = ltb-false n (e - j) (sym is) in
      record {
        inside = λ m low high. (fits (j + m) (omega arith) (omega arith)).hearer_station;
        covers = λ v h other m low high same.
            let at : j + (m - j) ≡ m = omega arith in
            other (m - j) (omega arith) (omega arith) (same ∙ ap (hearer_at bs) (sym at));
      }

  pub slot_settled : (known : Bool) (lay : Lanes) (block base s : ℕ) (col : ℕ → ℕ) (old : List ℕ) (r : Bool) (new : List ℕ)
      → (all : Bool) → all ≡ ltb n (e - j)
      → sweep_of r new ≡ settled_by (station_at bs all j) known lay n block base s col old 0 (min n (e - j) - 0)
      → SlotSettled bs known lay n block base s col j e old r new
  slot_settled known lay block base s col old r new all is out =
      let whole : min n (e - j) - 0 ≡ min n (e - j) = omega arith in
      record {
        stations = station_at bs all j;
        from = 0;
        many = min n (e - j);
        chosen = slot_chosen all is;
        out = out ∙ ap (settled_by (station_at bs all j) known lay n block base s col old 0) whole;
      }

-- ---- the beginning

-- the first i of k parts are empty
pub record Emptying (n size k : ℕ) (old : List ℕ) (i : ℕ) (now : List ℕ) : Type 0 where
  pub within : i ≤ k
  pub same : length now ≡ length old
  pub rest : emptied_from n size now (i * size) (k - i) ≡ emptied_from n size old 0 k

-- to empty a part keeps the length
pub emptied_length : (n : ℕ) (w : List ℕ) (at : ℕ) → length (emptied n w at) ≡ length w
unfolding emptied
emptied_length n w at = filled_length (filled w at n 65535) (at + n) n 0 ∙ filled_length w at n 65535

module _ (n size k : ℕ) (old : List ℕ) where
  -- one part more
  pub emptying_more : (i : ℕ) (now now' : List ℕ) → i < k → Emptying n size k old i now → now' ≡ emptied n now (i * size)
      → Emptying n size k old (i + 1) now'
  unfolding emptied_from
  emptying_more i now now' h x e =
      let more : k - i ≡ suc (k - (i + 1)) = omega arith in
      let place : (i + 1) * size ≡ i * size + size = omega (arith, suc-mul i size) in
      record {
        within = omega arith;
        same = ap length e ∙ emptied_length n now (i * size) ∙ x.same;
        rest = rw (e, place) (sym (ap (emptied_from n size now (i * size)) more) ∙ x.rest);
      }

  -- at last all are
  pub emptying_all : (i : ℕ) (now : List ℕ) → k ≤ i → Emptying n size k old i now → now ≡ emptied_from n size old 0 k
  unfolding emptied_from
  emptying_all i now h x =
      let none : k - i ≡ 0 = omega arith in
      sym (ap (emptied_from n size now (i * size)) none) ∙ x.rest

-- parts that are emptied, two stores and a row of ones begin the pass
pub begun_by : (n block q s row one : ℕ) (w d out : List ℕ) → d ≡ emptied_from n (part_size n block) w 0 (1 + q) → row ≡ row_at n block s
    → out ≡ filled (set (set d s 0) (s + n) 1) row block one → out ≡ begun_area n block q w s one
unfolding begun_area
begun_by n block q s row one w d out ed er eo = cc

-- two stores keep a list's length
pub set_twice_length : (w : List ℕ) (i j a b : ℕ) → length (set (set w i a) j b) ≡ length w
set_twice_length w i j a b = length-set (set w i a) j b ∙ length-set w i a
