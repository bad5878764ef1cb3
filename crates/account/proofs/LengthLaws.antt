-- How long the account's text can be: within the load programs' limits, and where nothing goes stale, at most 2,598,088 bytes.
-- A shortest walk is then a path, so with its source it visits at most n stations, and has at most 31 legs.
-- Assumes nothing.
use Prim.Native.Nat.{ℕ, ◌+◌, ◌-◌, ◌*◌, ◌^◌, ◌<◌, ◌≤◌, min}
use native.Mathlib.Omega.{arith}
use native.Mathlib.Nat.{suc-mul, mul-le-mul_right}
use mathlib.Core.Path.{◌≡◌, refl, subst}
use mathlib.Core.Bool.{Bool, true, false, cond}
use mathlib.Core.List.Memᴰ
use mathlib.Core.List.{List, [], ◌∷◌, flat_map, Memᴰ}
use lib.Dec.{eqb, lit<}
use lib.ListN.{length, get_or, take, drop, length-append, length-take, length-map, take-append-drop}
use Rattle.temporal.specs.Lists.{below, member, distinct}
use Rattle.temporal.specs.Plan.{Contact, Plan, Terms, Keeps, Appearance, start}
use Rattle.temporal.specs.Walk.{stations_of, is_path, is_interior}
use Rattle.temporal.specs.Shortest.{shortest_walks_to, hops}
use Rattle.temporal.specs.Load.{Ends, ends_below, is_pair_of, pairs_below, pairs_of, partial_pairs, pairs, load}
use Rattle.temporal.specs.Bytes.{contact_at, plan_of}
use Rattle.temporal.specs.Cause.{plan_fault, too_many_anywhere}
use Rattle.lists.proofs.ListLaws.{by_member, mem_get_d_law, mem_map, mem_flat_map_law, mem_below, mem_select, length_below, length_select_member}
use Rattle.walks.proofs.WalkLaws.{run_length, run_positions}
use Rattle.walks.proofs.PathLaws.{path_inv}
use Rattle.walks.proofs.PlanLaws.{contacts_length}
use Rattle.walks.proofs.Accepted.{ContactWithin, accepted}
use Rattle.walks.proofs.Adequacy.{listed_path}
use Rattle.walks.proofs.AccountLaws.{StationsWithin, stations_within, run_stations}
use Rattle.counting.proofs.ExactSum.{length_select_less, share_at_most, pair_count}
use Rattle.text.specs.Decimal.{decimal}
use Rattle.text.specs.Field.{ascii, space, line_feed, field, fields, labelled}
use Rattle.text.proofs.DecimalLaws.{decimal_short, decimal_most}
use Rattle.text.proofs.FieldLaws.{field_length, fields_length, labelled_length}
use Rattle.report.proofs.LengthLaws.{few_pairs, small_load}
use Rattle.account.specs.Account.{station_line, Figures, pair_line, leg, behind_leg, walk_line, more_line}
use Rattle.account.specs.Account.{walks_through, figures_of, walks_text, pair_text, account_text}

-- ---- lists and paths

-- texts of at most b bytes each, one behind the other
joined_short :
    {A : Type 0} (f : A → List ℕ) (b : ℕ) (l : List A) → ((x : A) → Memᴰ x l → length (f x) ≤ b) →
    length (flat_map f l) ≤ length l * b
unfolding flat_map
joined_short f b [] h = omega arith
joined_short f b (x ∷ l) h =
    omega (
      arith,
      length-append (f x) (flat_map f l),
      h x (Memᴰ.head refl),
      joined_short f b l (λ y m. h y (Memᴰ.tail m)),
      suc-mul (length l) b,
    )

-- different numbers below n are at most n
pub few_different :
    (n : ℕ) (l : List ℕ) → distinct l ≡ true → ((v : ℕ) → Memᴰ v l → v < n) → length l ≤ n
few_different n l apart inside =
    omega (
      arith,
      length_select_member n l apart inside,
      length_select_less (λ v. member v l) (below n),
      length_below n,
    )

-- a path with its source visits at most all stations of the plan
pub path_short :
    (p : Plan) → StationsWithin p → (s z : ℕ) → s < p.stations → (w : List ℕ) → is_path p s z w ≡ true → length w < p.stations
path_short p g s z inside w e =
    let r = path_inv p s z w e in
    let all = few_different p.stations (s ∷ stations_of r.visits) r.apart
    (λ v m. by_member m (λ q. rw q inside) (run_stations p g (start s) w r.runs v)) in
    omega (arith, all, length-map r.visits (λ (x : Appearance). x.station), run_length p (start s) w r.runs)

-- (kept) a shortest walk from a station of an accepted plan has fewer hops than the plan has stations
pub hops_few :
    (bs : List ℕ) (n t : ℕ) (terms : Terms) → plan_fault bs n t ≡ 0 → Keeps t terms → (s z : ℕ) → s < n → (w : List ℕ) →
    Memᴰ w (shortest_walks_to (plan_of bs n t terms) s z) →
    (length w < n) × (length w ≡ hops (shortest_walks_to (plan_of bs n t terms) s z))
unfolding plan_of
hops_few bs n t terms ok keeps s z inside w m =
    let (path, size) = listed_path bs n t terms ok keeps s z w m in
    (path_short (plan_of bs n t terms) (stations_within bs n t terms ok) s z inside w path, size)

-- ---- lines

-- the first line: three numbers, and 22 bytes of words
pub station_line_length :
    (v p l : ℕ) → length (station_line v p l) ≡ length (decimal v) + length (decimal p) + length (decimal l) + 22
unfolding station_line
station_line_length v p l = omega (arith, labelled_length (ascii "station ") v (ascii " pairs ") p (ascii " load ") l line_feed)

-- ends and hops of two digits, a share of ten
pub pair_line_short :
    (f : Figures) → f.source < 100 → f.destination < 100 → f.hops < 100 → f.share < 10 ^ 10 → length (pair_line f) ≤ 95
unfolding pair_line
pair_line_short f a b c d =
    omega (
      arith,
      length-append
          (labelled (ascii "from ") f.source (ascii " to ") f.destination (ascii " hops ") f.hops (ascii " through "))
          (fields f.through (ascii " count ") f.count (ascii " share ") f.share line_feed),
      labelled_length (ascii "from ") f.source (ascii " to ") f.destination (ascii " hops ") f.hops (ascii " through "),
      fields_length f.through (ascii " count ") f.count (ascii " share ") f.share line_feed,
      decimal_short f.source 2 (lit< tt) a,
      decimal_short f.destination 2 (lit< tt) b,
      decimal_short f.hops 2 (lit< tt) c,
      decimal_most f.through,
      decimal_most f.count,
      decimal_short f.share 10 (lit< tt) d,
    )

-- what stands behind a leg
behind_short : (size k : ℕ) → length (behind_leg size k) ≤ 2
unfolding behind_leg
behind_short size k = step (eqb (k + 1) size)
  where
    step : (b : Bool) → length (cond b line_feed (ascii ", ")) ≤ 2
    step true = omega arith
    step false = omega arith

-- slots and stations of two digits
pub leg_short :
    (c : Contact) → c.slot < 100 → c.sender < 100 → c.hearer < 100 → (size k : ℕ) → length (leg c (behind_leg size k)) ≤ 10
unfolding leg
leg_short c a b d size k =
    omega (
      arith,
      fields_length c.slot space c.sender space c.hearer (behind_leg size k),
      decimal_short c.slot 2 (lit< tt) a,
      decimal_short c.sender 2 (lit< tt) b,
      decimal_short c.hearer 2 (lit< tt) d,
      behind_short size k,
    )

-- a walk over contacts of a plan with few stations and slots
pub walk_line_short :
    (at : ℕ → Contact) (n t : ℕ) → n ≤ 100 → t < 100 → (w : List ℕ) → ((i : ℕ) → Memᴰ i w → ContactWithin n t (at i)) →
    length (walk_line at w) ≤ length w * 10 + 2
unfolding walk_line
walk_line_short at n t few short w inside =
    omega (
      arith,
      length-append (ascii "  ") (flat_map (λ k. leg (at (get_or w k 0)) (behind_leg (length w) k)) (below (length w))),
      joined_short (λ k. leg (at (get_or w k 0)) (behind_leg (length w) k)) 10 (below (length w)) (λ k m.
          let c = inside (get_or w k 0) (mem_get_d_law w k 0 ((mem_below (length w)).0 m)) in
          let a = c.to_last in
          let b = c.sender_station in
          let d = c.hearer_station in
          leg_short (at (get_or w k 0)) (omega arith) (omega arith) (omega arith) (length w) k),
      length_below (length w),
    )

-- how many more there are
pub more_line_short : (m : ℕ) → length (more_line m) ≤ 28
unfolding more_line
more_line_short m = omega (arith, length-append (ascii "  more ") (field m line_feed), field_length m line_feed, decimal_most m)

-- at most k walks of at most b bytes each, and the line behind them
pub walks_short :
    (at : ℕ → Contact) (b k : ℕ) (l : List (List ℕ)) → ((w : List ℕ) → Memᴰ w l → length (walk_line at w) ≤ b) →
    length (walks_text at k l) ≤ k * b + 28
unfolding walks_text
walks_short at b k l h =
    let printed : length (take k l) ≤ k = omega (arith, length-take k l) in
    omega (
      arith,
      length-append (flat_map (walk_line at) (take k l)) (more_line (length l - min k (length l))),
      joined_short (walk_line at) b (take k l) (λ w m.
          h w (subst (Memᴰ w) (take-append-drop k l) (Memᴰ.append_left (drop k l) m))),
      mul-le-mul_right b printed,
      more_line_short (length l - min k (length l)),
    )

-- ---- the pairs of a station

-- the ends of a pair are stations
pub ends_inside : (k n : ℕ) (e : Ends) → Memᴰ e (ends_below k n) → (e.source < k) × (e.destination < n)
unfolding ends_below
ends_inside k n e m =
    let (s, low, there) = (mem_flat_map_law {B = Ends} _ (below k)).0 m in
    let (z, high, same) = (mem_map {B = Ends} _ (below n)).0 there in
    rw (← same) ((mem_below k).0 low, (mem_below n).0 high)

module _ (bs : List ℕ) (n t : ℕ) (terms : Terms) (ok : plan_fault bs n t ≡ 0) (keeps : Keeps t terms) (few : n ≤ 32) (short : t ≤ 63) where
  -- (kept) a shortest walk's line: at most 31 legs of 10 bytes behind two blanks
  pub walk_length :
      (s z : ℕ) → s < n → (w : List ℕ) → Memᴰ w (shortest_walks_to (plan_of bs n t terms) s z) →
      length (walk_line (contact_at bs) w) ≤ 312
  walk_length s z inside w m =
      let (fewer, size) = hops_few bs n t terms ok keeps s z inside w m in
      let r = path_inv (plan_of bs n t terms) s z w (listed_path bs n t terms ok keeps s z w m).0 in
      omega (
        arith,
        walk_line_short (contact_at bs) n t (omega arith) (omega arith) w (λ i there.
            (accepted bs n t ok).contact i
            (omega (arith, run_positions (plan_of bs n t terms) (start s) w r.runs i there, contacts_length bs n t terms))),
      )

  module _ (v : ℕ) (e : Ends) (m : Memᴰ e (pairs_of (plan_of bs n t terms) v)) where
    -- the ends of a pair of v are stations of the plan
    pair_inside : (e.source < n) × (e.destination < n)
    unfolding plan_of pairs_below
    pair_inside = ends_inside n n e ((mem_select (is_pair_of (plan_of bs n t terms) v) (ends_below n n)).0 m).0

    -- (kept) a pair's line
    pub pair_line_length : length (pair_line (figures_of (plan_of bs n t terms) v e)) ≤ 95
    pair_line_length =
        let (from_station, to-station) = pair_inside in
        let walks = shortest_walks_to (plan_of bs n t terms) e.source e.destination in
        let some_walk = mem_get_d_law walks 0 [] (pair_count (plan_of bs n t terms) (plan_of bs n t terms).stations v e m) in
        let (fewer, size) =
        hops_few bs n t terms ok keeps e.source e.destination from_station (get_or walks 0 []) some_walk in
        pair_line_short (figures_of (plan_of bs n t terms) v e) (omega arith) (omega arith) (omega arith)
        (omega (arith, share_at_most (plan_of bs n t terms) v e))

    -- (kept) a pair: its line, at most 8 walks of 312 bytes, and the line behind them
    pub pair_length : (k : ℕ) → k ≤ 8 → length (pair_text (contact_at bs) (plan_of bs n t terms) v k e) ≤ 2619
    unfolding pair_text walks_through
    pair_length k most =
        let p = plan_of bs n t terms in
        omega (
          arith,
          length-append (pair_line (figures_of p v e)) (walks_text (contact_at bs) k (walks_through p v e)),
          pair_line_length,
          walks_short (contact_at bs) 312 k (walks_through p v e) (λ w there.
              walk_length e.source e.destination pair_inside.0 w
              ((mem_select (is_interior p e.source e.destination v) (shortest_walks_to p e.source e.destination)).0 there).0),
        )

-- (kept) The longest text: 40 bytes of the first line, and 992 pairs of 2,619. The premise on the counts is not used: every number is
-- written with at most 20 digits.
pub account_length :
    (bs : List ℕ) (n t : ℕ) (terms : Terms) (v k : ℕ) → plan_fault bs n t ≡ 0 → Keeps t terms →
    too_many_anywhere (plan_of bs n t terms) ≡ false → n ≤ 32 → t ≤ 63 → v < n → k ≤ 8 →
    length (account_text (contact_at bs) (plan_of bs n t terms) v k) ≤ 2598088
unfolding account_text partial_pairs plan_of
account_length bs n t terms v k ok keeps counted few short inside most =
    let p = plan_of bs n t terms in
    omega (
      arith,
      length-append (station_line v (pairs p v) (load p v)) (flat_map (pair_text (contact_at bs) p v k) (pairs_of p v)),
      station_line_length v (pairs p v) (load p v),
      decimal_short v 2 (lit< tt) (omega arith),
      decimal_short (pairs p v) 3 (lit< tt) (omega (arith, few_pairs p v few)),
      decimal_short (load p v) 13 (lit< tt) (small_load p v few),
      joined_short (pair_text (contact_at bs) p v k) 2619 (pairs_of p v) (λ e m.
          pair_length bs n t terms ok keeps few short v e m k most),
      few_pairs p v few,
    )
