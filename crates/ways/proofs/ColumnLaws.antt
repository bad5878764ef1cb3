-- Entries of the completion table by station and slot, and what lowering, folding and storing leave at each.
-- Assumes nothing.
use Prim.Native.Nat.{ℕ, ◌+◌, ◌-◌, ◌*◌, ◌/◌, ◌%◌, ◌<◌, ◌≤◌, min}
use native.Mathlib.Omega.{arith}
use native.Mathlib.Decide.{ℕ_discrete}
use mathlib.Core.Path.{◌≡◌, refl, sym, ap, subst, ◌∙◌}
use mathlib.Core.Bool.{Bool, true, false, cond, and-eq-true_iff}
use mathlib.Core.List.{List}
use mathlib.Core.Logic.{by_cases, ◌≢◌}
use borrow.Author.Tests.{ltb-true, ltb-false, lt-ltb, le-ltb, eqb-true, eqb-false}
use lib.Arith.{digits_lt, digits_div, digits_mod}
use lib.Dec.{ltb, eqb}
use lib.ListN.{length, get_or, set, drop, length-set}
use lib.Seq.{get_or-set_same, get_or-set_other, drop-set-lt, set-get_or}
use Rattle.temporal.specs.Plan.{Contact}
use Rattle.temporal.specs.Bytes.{contact_at}
use Rattle.plan.specs.declared.Contact as plan
use Rattle.plan.specs.Record.{contact_of}
use Rattle.ways.specs.Column.{lowered, folded_back, stored_back, is_due, Begun, RecordWithin}

-- an entry of n stations lies within a list that has room for them
pub place_below : {v u n width size : ℕ} → v < n → u < width → n * width ≤ size → v * width + u < size
place_below h k fits = let spot = digits_lt h k in omega arith

-- and so does a station's first
pub start_below : {v n width size : ℕ} → v < n → 0 < width → n * width ≤ size → v * width < size
start_below h k fits = let spot = digits_lt h k in omega arith

-- two places are one only for one station and one slot
pub place_same : (v u v' u' width : ℕ) → u < width → u' < width → v * width + u ≡ v' * width + u' → (v ≡ v') × (u ≡ u')
place_same v u v' u' width h h' e = (
  sym (digits_div v h) ∙ ap (λ k. k / width) e ∙ digits_div v' h',
  sym (digits_mod v h) ∙ ap (λ k. k % width) e ∙ digits_mod v' h',
)

-- the first entries of different stations are apart
pub station_apart : (v v' width : ℕ) → 0 < width → v ≢ v' → v * width ≢ v' * width
station_apart v v' width h n e = n (place_same v 0 v' 0 width h h (omega arith)).0

-- a station's first entry is apart from those of the slots
pub start_apart : (v v' u width : ℕ) → 0 < u → u < width → v * width ≢ v' * width + u
start_apart v v' u width later h e = let same = (place_same v 0 v' u width (omega arith) h (omega arith)).1 in omega arith

-- ---- an entry is lowered

-- what lowering leaves: at the place, elsewhere, in length, and behind
pub lowered_there : (l : List ℕ) (at from : ℕ) → at < length l
    → get_or (lowered l at from) at 0 ≡ min (get_or l at 0) (get_or l from 0 + 1)
unfolding lowered
lowered_there l at from h = get_or-set_same l at (min (get_or l at 0) (get_or l from 0 + 1)) 0 h

pub lowered_other : (l : List ℕ) (at from k : ℕ) → k ≢ at → get_or (lowered l at from) k 0 ≡ get_or l k 0
unfolding lowered
lowered_other l at from k n = get_or-set_other l at k (min (get_or l at 0) (get_or l from 0 + 1)) 0 n

pub lowered_length : (l : List ℕ) (at from : ℕ) → length (lowered l at from) ≡ length l
unfolding lowered
lowered_length l at from = length-set l at (min (get_or l at 0) (get_or l from 0 + 1))

pub lowered_beyond : (l : List ℕ) (at from k : ℕ) → at < k → drop k (lowered l at from) ≡ drop k l
unfolding lowered
lowered_beyond l at from k h = drop-set-lt k l at (min (get_or l at 0) (get_or l from 0 + 1)) h

-- one more than another entry takes the place of an entry where it is less
pub lowered_less : (l : List ℕ) (at from : ℕ) → get_or l from 0 < get_or l at 0
    → set l at (get_or l from 0 + 1) ≡ lowered l at from
unfolding lowered
lowered_less l at from h =
    let less : get_or l from 0 + 1 ≡ min (get_or l at 0) (get_or l from 0 + 1) = omega arith in
    ap (set l at) less

-- and is left where it is not
pub lowered_more : (l : List ℕ) (at from : ℕ) → get_or l at 0 ≤ get_or l from 0 → l ≡ lowered l at from
unfolding lowered
lowered_more l at from h =
    let kept : get_or l at 0 ≡ min (get_or l at 0) (get_or l from 0 + 1) = omega arith in
    sym (set-get_or l at 0) ∙ ap (set l at) kept

-- ---- a record is folded in, and stored

module _ (bs : List ℕ) (width j : ℕ) (l : List ℕ) (r : plan.Contact) (f : RecordWithin bs width j l)
    (e : contact_of r ≡ contact_at bs j) where
  -- the entries of the record that was read lie within the list
  pub read_room : (r.sender * width < length l) × (r.hearer * width + r.slot < length l)
  read_room = (
    subst (λ (c : Contact). c.sender * width < length l) (sym e) f.sender_entry,
    subst (λ (c : Contact). c.hearer * width + c.slot < length l) (sym e) f.hearer_entry,
  )

  -- to lower over the record that was read is to fold it in
  pub folded_by : (out : List ℕ) → out ≡ lowered l (r.sender * width) (r.hearer * width + r.slot)
      → out ≡ folded_back width (contact_at bs j) l
  unfolding folded_back
  folded_by out one = one ∙ ap (λ c. folded_back width c l) e

  -- to copy its hearer's entry is to store it
  pub stored_by : set l (r.hearer * width + r.slot) (get_or l (r.hearer * width) 0) ≡ stored_back width (contact_at bs j) l
  unfolding stored_back
  stored_by = ap (λ c. stored_back width c l) e

module _ (n width : ℕ) (c : Contact) (l : List ℕ)
    (later : 0 < c.slot) (column : c.slot < width) (sender : c.sender < n) (hearer : c.hearer < n) (fits : n * width ≤ length l) where
  -- folding: the length and what lies past the table stay
  pub folded_length : length (folded_back width c l) ≡ length l
  unfolding folded_back
  folded_length = lowered_length l (c.sender * width) (c.hearer * width + c.slot)

  pub folded_beyond : drop (n * width) (folded_back width c l) ≡ drop (n * width) l
  unfolding folded_back
  folded_beyond =
      lowered_beyond l (c.sender * width) (c.hearer * width + c.slot) (n * width)
      (start_below {v = c.sender} {n = n} {width = width} sender (omega arith) (omega arith))

  -- entries of the slots stay
  pub folded_slot : (v u : ℕ) → 0 < u → u < width → get_or (folded_back width c l) (v * width + u) 0 ≡ get_or l (v * width + u) 0
  unfolding folded_back
  folded_slot v u heard h =
      lowered_other l (c.sender * width) (c.hearer * width + c.slot) (v * width + u)
      (λ e. start_apart c.sender v u width heard h (sym e))

  -- first entries of other stations stay
  pub folded_station : (v : ℕ) → v ≢ c.sender → get_or (folded_back width c l) (v * width) 0 ≡ get_or l (v * width) 0
  unfolding folded_back
  folded_station v other =
      lowered_other l (c.sender * width) (c.hearer * width + c.slot) (v * width)
      (station_apart v c.sender width (omega arith) other)

  -- the sender's is lowered by the hearer's
  pub folded_sender : get_or (folded_back width c l) (c.sender * width) 0
      ≡ min (get_or l (c.sender * width) 0) (get_or l (c.hearer * width + c.slot) 0 + 1)
  unfolding folded_back
  folded_sender =
      lowered_there l (c.sender * width) (c.hearer * width + c.slot)
      (start_below {v = c.sender} {n = n} {width = width} sender (omega arith) fits)

  -- storing: the length and what lies past the table stay
  pub stored_length : length (stored_back width c l) ≡ length l
  unfolding stored_back
  stored_length = length-set l (c.hearer * width + c.slot) (get_or l (c.hearer * width) 0)

  pub stored_beyond : drop (n * width) (stored_back width c l) ≡ drop (n * width) l
  unfolding stored_back
  stored_beyond = drop-set-lt (n * width) l (c.hearer * width + c.slot) (get_or l (c.hearer * width) 0) (digits_lt hearer column)

  -- first entries stay
  pub stored_start : (v : ℕ) → get_or (stored_back width c l) (v * width) 0 ≡ get_or l (v * width) 0
  unfolding stored_back
  stored_start v =
      get_or-set_other l (c.hearer * width + c.slot) (v * width) (get_or l (c.hearer * width) 0) 0
      (start_apart v c.hearer c.slot width later column)

  -- entries elsewhere stay
  pub stored_other : (k : ℕ) → k ≢ c.hearer * width + c.slot → get_or (stored_back width c l) k 0 ≡ get_or l k 0
  unfolding stored_back
  stored_other k other = get_or-set_other l (c.hearer * width + c.slot) k (get_or l (c.hearer * width) 0) 0 other

  -- the hearer's is its first
  pub stored_hearer : get_or (stored_back width c l) (c.hearer * width + c.slot) 0 ≡ get_or l (c.hearer * width) 0
  unfolding stored_back
  stored_hearer =
      get_or-set_same l (c.hearer * width + c.slot) (get_or l (c.hearer * width) 0) 0
      (place_below {v = c.hearer} {u = c.slot} {n = n} {width = width} hearer column fits)

-- ---- a record is due

module _ (bs : List ℕ) (g i j : ℕ) where
  -- what code tests: the slots of the records that were read
  pub due_read : (r d : plan.Contact) (gap : ℕ) → 0 < i → contact_of r ≡ contact_at bs (i - 1) → contact_of d ≡ contact_at bs (j - 1)
      → gap ≡ d.slot - r.slot
      → ltb gap g ≡ is_due bs g i j
  unfolding is_due
  due_read r d gap some e f between =
      rw (lt-ltb 0 i some, between) (
      ap (λ (c : Contact). ltb (d.slot - c.slot) g) e
      ∙ ap (λ (c : Contact). ltb (c.slot - (contact_at bs (i - 1)).slot) g) f)

  -- there is no record before the first
  pub due_first : i ≤ 0 → false ≡ is_due bs g i j
  unfolding is_due
  due_first none = rw (le-ltb 0 i none)

  -- a record that is due is there, and the other lies fewer slots after it
  pub due_inv : is_due bs g i j ≡ true → (0 < i) × ((contact_at bs (j - 1)).slot - (contact_at bs (i - 1)).slot < g)
  unfolding is_due
  due_inv e =
      let (some, near) = (and-eq-true_iff (ltb 0 i) _).0 e in
      (ltb-true 0 i some, ltb-true _ g near)

  -- where none is due and there is one, the other lies at least as many slots after it
  pub due_not : is_due bs g i j ≡ false → 0 < i → g ≤ (contact_at bs (j - 1)).slot - (contact_at bs (i - 1)).slot
  unfolding is_due
  due_not e some = ltb-false _ g (rw (lt-ltb 0 i some) at e)

-- ---- the start's column is begun

-- the stations below v are cleared
pub record Clearing (n width : ℕ) (old : List ℕ) (v : ℕ) (now : List ℕ) : Type 0 where
  pub within : v ≤ n
  pub cleared : (x : ℕ) → x < v → get_or now (x * width) 0 ≡ 65535
  pub beyond : drop (n * width) now ≡ drop (n * width) old
  pub same : length now ≡ length old

module _ (n width : ℕ) (old : List ℕ) where
  -- none is
  pub clearing_none : Clearing n width old 0 old
  clearing_none = record { within = omega arith; cleared = λ x h. absurd (omega arith); beyond = refl; same = refl }

  module _ (fits : n * width ≤ length old) (some : 0 < width) (v : ℕ) (now : List ℕ) (s : Clearing n width old v now) where
    -- the first entry of a station lies within the list
    pub clearing_room : (x : ℕ) → x < n → x * width < length now
    clearing_room x h = let same = s.same in start_below {v = x} {n = n} {width = width} h some (omega arith)

    -- what lies past the table stays where a first entry is written
    past : (x y : ℕ) → x < n → drop (n * width) (set now (x * width) y) ≡ drop (n * width) old
    past x y h = drop-set-lt (n * width) now (x * width) y (start_below {v = x} {n = n} {width = width} h some (omega arith)) ∙ s.beyond

    -- one more
    pub clearing_more : v < n → Clearing n width old (v + 1) (set now (v * width) 65535)
    clearing_more h =
        record {
          within = omega arith;
          cleared = λ x below. by_cases (ℕ_discrete x v)
              (λ e. rw e (get_or-set_same now (v * width) 65535 0 (clearing_room v h)))
              (λ other.
              get_or-set_other now (v * width) (x * width) 65535 0 (station_apart x v width some other) ∙ s.cleared x (omega arith));
          beyond = past v 65535 h;
          same = length-set now (v * width) 65535 ∙ s.same;
        }

    -- all are, and the destination's entry is written
    pub clearing_all : (z : ℕ) → z < n → n ≤ v → Begun n width z old (set now (z * width) 0)
    clearing_all z inside all =
        record {
          start = λ x below. go x below (eqb x z) refl;
          beyond = past z 0 inside;
          same = length-set now (z * width) 0 ∙ s.same;
        }
      where
        go : (x : ℕ) → x < n → (b : Bool) → eqb x z ≡ b → get_or (set now (z * width) 0) (x * width) 0 ≡ cond b 0 65535
        go x below true q = rw (eqb-true x z q) (get_or-set_same now (z * width) 0 0 (clearing_room z inside))
        go x below false q =
            get_or-set_other now (z * width) (x * width) 0 0 (station_apart x z width some (eqb-false x z q)) ∙ s.cleared x (omega arith)
