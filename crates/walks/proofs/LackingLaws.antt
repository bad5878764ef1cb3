-- Plan bytes that lack one record: how long they are, which record stands where, that they stay accepted, and that their plan is the
-- plan with the record struck out. Assumes nothing.
use Prim.Native.Nat.{ℕ, suc, ◌+◌, ◌-◌, ◌*◌, ◌<◌, ◌≤◌, min}
use native.Mathlib.Omega.{arith}
use native.Mathlib.Numerals.{add-one}
use native.Mathlib.Decide.{dec_lt}
use mathlib.Core.Path.{◌≡◌, refl, sym, ap, ap₂, ◌∙◌}
use mathlib.Core.Bool.{true}
use mathlib.Core.List.{List, ◌++◌, map, append-nil}
use mathlib.Core.Logic.{by_cases}
use borrow.Author.Tests.{ltb-true, lt-ltb, le-ltb}
use lib.Dec.{ltb}
use lib.ListN.{length, get_or, take, drop, length-append, length-take, length-drop, drop_of_length-le, get_or-append}
use lib.ListN.{get_or-eq_default, get_or-map}
use lib.Seq.{take_all, length-take-le, get_or-append-add, get_or-take, get_or-drop, ext_get_or}
use Rattle.temporal.specs.Lists.{below}
use Rattle.temporal.specs.Plan.{Contact, Terms}
use Rattle.temporal.specs.Bytes.{word_at, contact_at, records, plan_of}
use Rattle.temporal.specs.Cause.{is_above, plan_fault}
use Rattle.temporal.specs.Struck.{lacking, struck_out, lacking_record, position_with}
use Rattle.lists.proofs.ListLaws.{get_d_below_law}
use Rattle.walks.proofs.Accepted.{Accepted, accepted}
use Rattle.walks.proofs.PlanLaws.{contacts_length}
use Rattle.walks.proofs.LackingPositions.{position_before, position_after}
use Rattle.walks.proofs.RulesKept.{above_trans, rules_kept}

-- ---- a list that lacks k entries from place i on

module _ {A : Type 0} (i k : ℕ) (l : List A) where
  -- past the end nothing is lacking
  pub lacking_past : length l ≤ i → lacking i k l ≡ l
  unfolding lacking
  lacking_past h = rw (take_all i l h, drop_of_length-le l {i = i + k} (omega arith)) (append-nil l)

  pub length_lacking : length (lacking i k l) ≡ min i (length l) + (length l - (i + k))
  unfolding lacking
  length_lacking = simp (length-append, length-take, length-drop)

  -- an entry before place i stands where it stood, one from there on k places later
  pub lacking_before : (j : ℕ) (d : A) → j < i → get_or (lacking i k l) j d ≡ get_or l j d
  unfolding lacking
  lacking_before j d h =
      by_cases (dec_lt (length l) i)
      (λ past. ap (λ m. get_or m j d) (lacking_past (omega arith)))
      (λ inside.
      get_or-append (take i l) (drop (i + k) l) d j (rw (length-take-le i l (omega arith)) h) ∙ get_or-take i l j d h)

  pub lacking_after : (j : ℕ) (d : A) → i ≤ j → get_or (lacking i k l) j d ≡ get_or l (j + k) d
  unfolding lacking
  lacking_after j d h =
      by_cases (dec_lt (length l) i)
      (λ past.
      ap (λ m. get_or m j d) (lacking_past (omega arith)) ∙
      get_or-eq_default l d {n = j} (omega arith) ∙ sym (get_or-eq_default l d {n = j + k} (omega arith)))
      (λ inside.
      let size = length-take-le i l (omega arith) in
      let place : j ≡ length (take i l) + (j - i) = omega arith in
      let there : (i + k) + (j - i) ≡ j + k = omega arith in
      ap (λ x. get_or (take i l ++ drop (i + k) l) x d) place ∙
      get_or-append-add (take i l) (drop (i + k) l) (j - i) d ∙
      get_or-drop (i + k) l (j - i) d ∙ ap (λ x. get_or l x d) there)

-- ---- bytes that lack the record at position i

-- with their length for the position, bytes lack no record
pub lacking_nothing : (bs : List ℕ) → lacking_record bs (length bs) ≡ bs
lacking_nothing bs = lacking_past (length bs * 6) 6 bs (omega arith)

module _ (bs : List ℕ) (i : ℕ) where
  -- past the last byte no record is lacking
  pub lacking_none : length bs ≤ i * 6 → lacking_record bs i ≡ bs
  lacking_none h = lacking_past (i * 6) 6 bs h

  size : length (lacking_record bs i) ≡ min (i * 6) (length bs) + (length bs - (i * 6 + 6))
  size = length_lacking (i * 6) 6 bs

  pub lacking_shorter : length (lacking_record bs i) ≤ length bs
  lacking_shorter = omega (arith, size)

  -- a record of the bytes takes its 6 bytes away
  pub lacking_length : i < records bs → length (lacking_record bs i) ≡ length bs - 6
  unfolding records
  lacking_length inside = omega (arith, size)

  pub lacking_records : i < records bs → records (lacking_record bs i) ≡ records bs - 1
  unfolding records
  lacking_records inside = omega (arith, size)

  -- past the last record there are as many records
  pub lacking_records_past : records bs ≤ i → records (lacking_record bs i) ≡ records bs
  unfolding records
  lacking_records_past past = omega (arith, size)

  module _ (j : ℕ) where
    -- a position is one of a record exactly where its position in the whole bytes is
    pub position_there : ltb (position_with i j) (records bs) ≡ ltb j (records (lacking_record bs i))
    unfolding records
    position_there =
        let bytes = size in
        let both = agree (position_with i j) (records bs) (records (lacking_record bs i)) in
        by_cases (dec_lt j i)
        (λ before. let at = position_before i j before in both (λ h. omega arith) (λ h. omega arith))
        (λ after. let at = position_after i j (omega arith) in both (λ h. omega arith) (λ h. omega arith))
      where
        agree : (k m rest : ℕ) → (k < m → j < rest) → (j < rest → k < m) → ltb k m ≡ ltb j rest
        agree k m rest there back =
            by_cases (dec_lt k m)
            (λ h. lt-ltb k m h ∙ sym (lt-ltb j rest (there h)))
            (λ h.
            by_cases (dec_lt j rest)
            (λ inside. absurd (h (back inside)))
            (λ past. le-ltb k m (omega arith) ∙ sym (le-ltb j rest (omega arith))))

    pub position_inside : j < records (lacking_record bs i) → position_with i j < records bs
    position_inside h = ltb-true _ _ (position_there ∙ lt-ltb j (records (lacking_record bs i)) h)

    -- and its six bytes are there
    pub lacking_few : j * 6 + 5 < length (lacking_record bs i) → position_with i j * 6 + 5 < length bs
    unfolding records
    lacking_few h = let inside = position_inside (omega arith) in omega arith

    -- a position with six bytes is below the number of the whole bytes
    pub lacking_small : j * 6 + 5 < length (lacking_record bs i) → j < length bs
    lacking_small h = let less = lacking_shorter in omega arith

    -- a byte of a record is the byte of the record at its position in the whole bytes
    lacking_byte : (x y k : ℕ) → k < 6 → x ≡ j * 6 + k → y ≡ position_with i j * 6 + k → get_or (lacking_record bs i) x 0 ≡ get_or bs y 0
    lacking_byte x y k h here there =
        by_cases (dec_lt j i)
        (λ before.
        let at = position_before i j before in
        let same : x ≡ y = omega arith in
        lacking_before (i * 6) 6 bs x 0 (omega arith) ∙ ap (λ p. get_or bs p 0) same)
        (λ after.
        let at = position_after i j (omega arith) in
        let later : x + 6 ≡ y = omega arith in
        lacking_after (i * 6) 6 bs x 0 (omega arith) ∙ ap (λ p. get_or bs p 0) later)

    lacking_word : (x y k : ℕ) → k < 5 → x ≡ j * 6 + k → y ≡ position_with i j * 6 + k → word_at (lacking_record bs i) x ≡ word_at bs y
    unfolding word_at
    lacking_word x y k h here there =
        ap₂ (λ high low. high * 256 + low) (lacking_byte x y k (omega arith) here there)
        (lacking_byte (x + 1) (y + 1) (k + 1) (omega arith) (omega arith) (omega arith))

    -- so a record is the one at its position in the whole bytes; past the end both are zeros
    pub lacking_contact : contact_at (lacking_record bs i) j ≡ contact_at bs (position_with i j)
    unfolding contact_at
    lacking_contact =
        rw (
          lacking_word (j * 6) (position_with i j * 6) 0 (omega arith) (omega arith) (omega arith),
          lacking_word _ _ 2 (omega arith) refl refl,
          lacking_word _ _ 4 (omega arith) refl refl,
        )

-- ---- acceptance

module _ (bs : List ℕ) (n t : ℕ) where
  module _ (a : Accepted bs n t) (i : ℕ) (inside : i < records bs) where
    -- the order is kept: the records before and after the lacking one compare by the one between
    rising_lacking : (j : ℕ) → suc j < records (lacking_record bs i)
        → is_above (contact_at bs (position_with i j)) (contact_at bs (position_with i (suc j))) ≡ true
    rising_lacking j h =
        let size = lacking_records bs i inside in
        by_cases (dec_lt j i)
        (λ before.
        by_cases (dec_lt (suc j) i)
        (λ next. rw (position_before i j before, position_before i (suc j) next) (a.rising j (omega arith)))
        (λ next.
        rw (position_before i j before, position_after i (suc j) (omega arith))
        (above_trans _ _ _ (a.rising j (omega arith)) (rw (add-one (suc j)) (a.rising (suc j) (omega arith))))))
        (λ after.
        rw (position_after i j (omega arith), position_after i (suc j) (omega arith), add-one j, add-one (suc j))
        (a.rising (suc j) (omega arith)))

    accepted_lacking : Accepted (lacking_record bs i) n t
    accepted_lacking =
        let size = lacking_records bs i inside in
        let bytes = lacking_length bs i inside in
        let whole = a.whole in
        let few = a.few in
        record {
          some_station = a.some_station;
          stations = a.stations;
          some_slot = a.some_slot;
          slots = a.slots;
          whole = omega arith;
          few = omega arith;
          contact = λ j h. rw (lacking_contact bs i j) (a.contact (position_with i j) (position_inside bs i j h));
          rising = λ j h. rw (lacking_contact bs i j, lacking_contact bs i (suc j)) (rising_lacking j h);
        }

  -- accepted bytes stay accepted without a record
  pub lacking_accepted : plan_fault bs n t ≡ 0 → (i : ℕ) → plan_fault (lacking_record bs i) n t ≡ 0
  lacking_accepted ok i =
      let a = accepted bs n t ok in
      by_cases (dec_lt i (records bs))
      (λ inside. rules_kept (lacking_record bs i) n t (accepted_lacking a i inside))
      (λ past. let whole = a.whole in rw (lacking_none bs i (omega arith)) ok)

-- ---- the plan

-- an entry of a list that lacks one
pub lacking_one : {A : Type 0} (l : List A) (i j : ℕ) (d : A) → get_or (lacking i 1 l) j d ≡ get_or l (position_with i j) d
lacking_one l i j d =
    by_cases (dec_lt j i)
    (λ before. rw (position_before i j before) (lacking_before i 1 l j d before))
    (λ after. rw (position_after i j (omega arith)) (lacking_after i 1 l j d (omega arith)))

contact_of_law : (bs : List ℕ) (m j k : ℕ) → j < m → get_or (map (contact_at bs) (below m)) j (contact_at bs k) ≡ contact_at bs j
contact_of_law bs m j k h = get_or-map (contact_at bs) (below m) j k ∙ ap (contact_at bs) (get_d_below_law m j k h)

-- the plan of bytes that lack a record is the plan with the record struck out
pub lacking_plan : (bs : List ℕ) (n t : ℕ) (terms : Terms) (i : ℕ)
    → plan_of (lacking_record bs i) n t terms ≡ struck_out (plan_of bs n t terms) i
unfolding plan_of struck_out
lacking_plan bs n t terms i = rw contacts
  where
    part : List ℕ
    part = lacking_record bs i

    all : List Contact
    all = map (contact_at bs) (below (records bs))

    size : records part ≡ length (lacking i 1 all)
    size =
        let count = contacts_length bs n t terms in
        let rest = length_lacking i 1 all in
        by_cases (dec_lt i (records bs))
        (λ inside. let fewer = lacking_records bs i inside in omega arith)
        (λ past. let same = lacking_records_past bs i (omega arith) in omega arith)

    entry : (j : ℕ) → j < records part → contact_at part j ≡ get_or (lacking i 1 all) j (contact_at part 0)
    entry j h =
        lacking_contact bs i j ∙ sym (contact_of_law bs (records bs) _ _ (position_inside bs i j h)) ∙
        sym (lacking_one all i j _) ∙ ap (get_or (lacking i 1 all) j) (sym (lacking_contact bs i 0))

    contacts : map (contact_at part) (below (records part)) ≡ lacking i 1 all
    contacts =
        ext_get_or (contact_at part 0) _ _ (contacts_length part n t terms ∙ size)
        (λ j h.
        let inside : j < records part = rw (contacts_length part n t terms) at h in
        contact_of_law part (records part) j 0 inside ∙ entry j inside)
