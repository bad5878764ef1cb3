-- The laws of paths: what a path is, that a walk which is none can be shortened, that document 000's definition agrees,
-- and what is inside a walk.
-- Assumes nothing.
use Prim.Native.Nat.{ℕ, suc, ◌+◌, ◌≤◌, ◌<◌}
use mathlib.Core.Bool.{Bool, true, false, not, cond, ◌&&◌, ◌||◌}
use mathlib.Core.Bool.{and-eq-true_iff, and-false, or-false, or_assoc, false≢true}
use mathlib.Core.List.{List, [], ◌∷◌, map}
use mathlib.Core.List.{Memᴰ}
use mathlib.Core.Logic.{◌⊎◌, inl, inr, ⊎_elim, ◌≢◌}
use mathlib.Core.Option.{Option, none, some}
use mathlib.Core.Path.{◌≡◌, refl, sym, ◌∙◌, ap, fun_ext}
use native.Mathlib.Omega.{arith}
use borrow.Author.Tests.{eqb-true, eqb-false, eq-eqb, ne_eqb, not-true}
use lib.Dec.{eqb}
use lib.ListN.{length}
use Rattle.temporal.specs.Lists.{any, member, distinct, sum, below}
use Rattle.temporal.specs.Plan.{Plan, Appearance, start}
use Rattle.temporal.specs.Walk.{step, run, last_or, stations_of, holds, ends_in}
use Rattle.temporal.specs.Walk.{is_at, is_walk_to, is_appearance, is_walk, is_path, is_interior}
use Rattle.temporal.specs.Definition3.{starting_points, is_path000}
use Rattle.lists.proofs.OptionLaws.{holds_inv}
use Rattle.lists.proofs.ListLaws.{member_true, distinct_cons, sum_zero, sum_of_guarded}
use Rattle.walks.proofs.RuleLaws.{Kept}
use Rattle.walks.proofs.WalkLaws.{step_later, step_earlier, run_nil, run_cons, SlotsWithin, run_last_within}
use Rattle.walks.proofs.WalkLaws.{ends_inv, ends_intro, ends_nil, ends_step, ends_after}

-- what a path w from s to z consists of
pub record PathBy (p : Plan) (s z : ℕ) (w : List ℕ) : Type 0 where
  pub visits : List Appearance
  pub runs : run p (start s) w ≡ some visits
  pub ends : (last_or (start s) visits).station ≡ z
  pub apart : distinct (s ∷ stations_of visits) ≡ true

module _ (p : Plan) (s z : ℕ) where
  -- a path is a run that ends at z and visits no station twice
  pub path_inv : (w : List ℕ) → is_path p s z w ≡ true → PathBy p s z w
  unfolding is_path
  path_inv w e =
      let (l, runs, both) = holds_inv (run p (start s) w) _ e in
      let (ends, apart) = (and-eq-true_iff (is_at z (last_or (start s) l)) (distinct (s ∷ stations_of l))).0 both in
      record { visits = l; runs = runs; ends = eqb-true _ _ ends; apart = apart }

  -- a run that ends at z and visits no station twice is a path
  pub path_intro :
      (w : List ℕ) {l : List Appearance} → run p (start s) w ≡ some l → (last_or (start s) l).station ≡ z →
      distinct (s ∷ stations_of l) ≡ true → is_path p s z w ≡ true
  unfolding is_path holds
  path_intro w {l} runs ends apart =
      rw runs ((and-eq-true_iff _ _).1 (eq-eqb (last_or (start s) l).station z ends, apart))

  -- a path is a walk to its destination
  pub path_is_walk : (w : List ℕ) → is_path p s z w ≡ true → ends_in p (start s) (is_at z) w ≡ true
  path_is_walk w e =
      let r = path_inv w e in
      ends_intro p (start s) (is_at z) w r.runs (eq-eqb _ _ r.ends)

-- a walk from x that ends in the test t, with fewer hops than w
pub record Shorter (p : Plan) (x : Appearance) (t : Appearance → Bool) (w : List ℕ) : Type 0 where
  pub walk : List ℕ
  pub ends : ends_in p x t walk ≡ true
  pub fewer : length walk < length w

-- Walks that end in a test which an earlier appearance passes wherever a later one of its station does.
module _ (p : Plan) (kept : Kept p) (fits : SlotsWithin p) (t : Appearance → Bool)
    (sooner : (x x' : Appearance) → x'.station ≡ x.station → x'.slot ≤ x.slot → t x ≡ true → t x' ≡ true) where
  -- (kept) Such a walk from an appearance is one from each earlier appearance of its station.
  pub ends_earlier :
      (x x' : Appearance) (w : List ℕ) → x'.station ≡ x.station → x'.slot ≤ x.slot →
      ends_in p x t w ≡ true → ends_in p x' t w ≡ true
  ends_earlier x x' [] same earlier e = ends_nil p x' t ∙ sooner x x' same earlier (sym (ends_nil p x t) ∙ e)
  ends_earlier x x' (i ∷ w) same earlier e =
      let (y, steps, rest) = ends_step p x t i w e in
      ends_after p x' t i w (step_earlier p kept fits x x' i same earlier steps) rest

  -- (kept) Of a walk that visits the station of x in a later slot, what follows that visit may follow x.
  shortcut :
      (x y : Appearance) (w : List ℕ) {l : List Appearance} → x.slot ≤ y.slot → run p y w ≡ some l →
      t (last_or y l) ≡ true → Memᴰ x.station (stations_of l) → Shorter p x t w
  unfolding last_or
  shortcut x y [] later e q m = absurd (mathlib.Core.List.Memᴰ.not-nil (rw (← run_nil p y e) at m))
  shortcut x y (i ∷ w) later e q m =
      let r = run_cons p y i w e in
      let after = step_later p y i r.steps in
      let at_end : t (last_or r.next r.others) ≡ true = rw (← r.whole) at q in
      let visited : Memᴰ x.station (stations_of (r.next ∷ r.others)) = rw (← r.whole) at m in
      let rest = ends_intro p r.next t w r.goes_on at_end in
      let further = shortcut x r.next w (omega arith) r.goes_on at_end in
      ⊎_elim
      (λ same. shorter w (ends_earlier r.next x w same (omega arith) rest) (omega arith))
      (λ m'. let s = further m' in shorter s.walk s.ends (omega arith))
      (mathlib.Core.List.Memᴰ.cases_cons visited)
    where
      shorter : (u : List ℕ) → ends_in p x t u ≡ true → length u < suc (length w) → Shorter p x t (i ∷ w)
      shorter u ends fewer = record { walk = u; ends = ends; fewer = fewer }

  -- (kept) Such a walk from x visits no station twice, or there is a shorter one.
  apart_or_shorter :
      (x : Appearance) (w : List ℕ) {l : List Appearance} → run p x w ≡ some l → t (last_or x l) ≡ true →
      (distinct (x.station ∷ stations_of l) ≡ true) ⊎ Shorter p x t w
  unfolding last_or distinct member any
  apart_or_shorter x [] e q = inl (rw (← run_nil p x e))
  apart_or_shorter x (i ∷ w) {l} e q =
      let r = run_cons p x i w e in
      let at_end : t (last_or r.next r.others) ≡ true = rw (← r.whole) at q in
      let whole = ap (λ m. distinct (stations_of m)) (sym r.whole) in
      ⊎_elim
      (λ apart. visited_or_not (whole ∙ apart) (member x.station (stations_of l)) refl)
      (λ s. inr (one_more r.steps s))
      (apart_or_shorter r.next w r.goes_on at_end)
    where
      visited_or_not :
          distinct (stations_of l) ≡ true → (b : Bool) → member x.station (stations_of l) ≡ b →
          (distinct (x.station ∷ stations_of l) ≡ true) ⊎ Shorter p x t (i ∷ w)
      visited_or_not apart true m =
          inr (shortcut x x (i ∷ w) (omega arith) e q ((member_true x.station (stations_of l)).0 m))
      visited_or_not apart false m = inl (rw m apart)

      one_more : {y : Appearance} → step p x i ≡ some y → Shorter p y t w → Shorter p x t (i ∷ w)
      one_more steps s =
          record {
            walk = i ∷ s.walk;
            ends = ends_after p x t i s.walk steps s.ends;
            fewer = omega arith;
          }

  -- (kept) Where the test is passed at z alone, such a walk from s is a path, or there is one with fewer hops. What lies between
  -- two visits of a station is left out, and what follows the later visit may follow the earlier one.
  pub walk_or_shorter :
      (z : ℕ) → ((x : Appearance) → t x ≡ true → x.station ≡ z) → (s : ℕ) (w : List ℕ) →
      ends_in p (start s) t w ≡ true → (is_path p s z w ≡ true) ⊎ Shorter p (start s) t w
  walk_or_shorter z at_z s w e =
      let r = ends_inv p (start s) t w e in
      ⊎_elim
      (λ apart. inl (path_intro p s z w r.runs (at_z _ r.passes) apart))
      inr
      (apart_or_shorter (start s) w r.runs r.passes)

-- a station is visited by a run, its start counted, where it is a starting point or the last
pub visited_starts_or_last :
    (v : ℕ) (x : Appearance) (l : List Appearance) →
    member v (x.station ∷ stations_of l) ≡ (member v (starting_points x l) || eqb v (last_or x l).station)
unfolding member any starting_points last_or
visited_starts_or_last v x [] = or-false (eqb v x.station)
visited_starts_or_last v x (y ∷ l) =
    ap (◌||◌ (eqb v x.station)) (visited_starts_or_last v y l) ∙ sym (or_assoc (eqb v x.station) _ _)

not_or_first : (a b : Bool) → not (a || b) ≡ true → not a ≡ true
not_or_first true b e = e
not_or_first false b e = refl

-- stations visited once are starting points once
starts_apart :
    (x : Appearance) (l : List Appearance) → distinct (x.station ∷ stations_of l) ≡ true →
    distinct (starting_points x l) ≡ true
unfolding distinct starting_points
starts_apart x [] e = refl
starts_apart x (y ∷ l) e =
    let (new, apart) = (and-eq-true_iff (not (member x.station (y.station ∷ stations_of l))) _).0 e in
    let starts = member x.station (starting_points y l) in
    (and-eq-true_iff (not starts) _).1
    (not_or_first starts _ (rw visited_starts_or_last at new), starts_apart y l apart)

both_or_one : (m d e : Bool) → (d ≡ true → e ≡ true) → (not m && d) ≡ ((not m && e) && d)
both_or_one true d e h = refl
both_or_one false true e h = rw (h refl)
both_or_one false false e h = sym (and-false e)

behind : (b : Bool) {c d : Bool} → (b ≡ true → c ≡ d) → (b && c) ≡ (b && d)
behind true h = h refl
behind false h = refl

-- the two demands agree on appearances from one station to another
definitions_agree :
    (z : ℕ) (x : Appearance) (l : List Appearance) → x.station ≢ z →
    (is_at z (last_or x l) && distinct (x.station ∷ stations_of l)) ≡
    (is_at z (last_or x l) && (distinct (starting_points x l) && distinct (stations_of l)))
unfolding distinct starting_points last_or
definitions_agree z x [] h = rw (ne_eqb x.station z h)
definitions_agree z x (y ∷ l) h = behind (is_at z (last_or y l)) agree
  where
    agree :
        is_at z (last_or y l) ≡ true →
        (not (member x.station (stations_of (y ∷ l))) && distinct (stations_of (y ∷ l))) ≡
        (distinct (starting_points x (y ∷ l)) && distinct (stations_of (y ∷ l)))
    agree q =
        let last : eqb x.station (last_or y l).station ≡ false = rw (eqb-true _ z q) (ne_eqb x.station z h) in
        let same = rw (last, or-false) at (visited_starts_or_last x.station y l) in
        rw same (both_or_one (member x.station (starting_points y l)) _ _ (starts_apart y l))

-- document 000's Definition 3 agrees for two different stations
pub path_definition3 : (p : Plan) (s z : ℕ) → s ≢ z → (w : List ℕ) → is_path p s z w ≡ is_path000 p s z w
unfolding is_path is_path000
path_definition3 p s z h w = ap (holds (run p (start s) w)) (fun_ext (λ l. definitions_agree z (start s) l h))

-- document 000's path from s to z is a walk to z
pub definition3_is_walk : (p : Plan) (s z : ℕ) (w : List ℕ) → is_path000 p s z w ≡ true → is_walk_to p s z w ≡ true
unfolding is_path000
definition3_is_walk p s z w e =
    let (l, runs, both) = holds_inv (run p (start s) w) _ e in
    ends_intro p (start s) (is_at z) w runs ((and-eq-true_iff (is_at z (last_or (start s) l)) _).0 both).0

-- every path is document 000's, from a station to itself too
pub path_meets_definition3 : (p : Plan) (s z : ℕ) (w : List ℕ) → is_path p s z w ≡ true → is_path000 p s z w ≡ true
unfolding is_path000 holds
path_meets_definition3 p s z w e =
    let r = path_inv p s z w e in
    let apart = ((distinct_cons s (stations_of r.visits)).0 r.apart).1 in
    rw r.runs
    ((and-eq-true_iff _ _).1 (
      eq-eqb (last_or (start s) r.visits).station z r.ends,
      (and-eq-true_iff _ _).1 (starts_apart (start s) r.visits r.apart, apart),
    ))

-- the last station of a run that is not empty is one of its stations
pub last_visited : (y : Appearance) (l : List Appearance) → Memᴰ (last_or y l).station (stations_of (y ∷ l))
unfolding last_or
last_visited y [] = mathlib.Core.List.Memᴰ.head refl
last_visited y (x ∷ l) = mathlib.Core.List.Memᴰ.tail (last_visited x l)

-- a run that visits no station twice is at the station of its end only there
pub end_apart :
    (x : Appearance) (l : List Appearance) → distinct (x.station ∷ stations_of l) ≡ true →
    Memᴰ (last_or x l).station (starting_points x l) → ⊥
unfolding starting_points last_or
end_apart x [] d m = mathlib.Core.List.Memᴰ.not-nil m
end_apart x (y ∷ l) d m =
    let (new, apart) = (distinct_cons x.station (stations_of (y ∷ l))).0 d in
    ⊎_elim
    (λ same. new (mathlib.Core.List.Memᴰ.cast (sym same) (last_visited y l)))
    (end_apart y l apart)
    (mathlib.Core.List.Memᴰ.cases_cons m)

-- from a station to itself the empty list is a path
pub path_self_empty : (p : Plan) (s : ℕ) → is_path p s s [] ≡ true
unfolding is_path holds run last_or distinct member any
path_self_empty p s = rw (eq-eqb s s refl)

-- from a station to itself it is the only one
pub path_self : (p : Plan) (s : ℕ) (w : List ℕ) → is_path p s s w ≡ true → w ≡ []
unfolding last_or distinct
path_self p s [] e = refl
path_self p s (i ∷ w) e =
    let r = path_inv p s s (i ∷ w) e in
    let c = run_cons p (start s) i w r.runs in
    let back : (last_or c.next c.others).station ≡ s = rw (← c.whole) at r.ends in
    let last = mathlib.Core.List.Memᴰ.cast (sym back) (last_visited c.next c.others) in
    let again = (member_true s (stations_of r.visits)).1 (rw (← c.whole) last) in
    absurd (false≢true (rw again at r.apart))

-- what it takes that station v is inside the walk w from s to z
pub record InsideBy (p : Plan) (s z v : ℕ) (w : List ℕ) : Type 0 where
  pub not_source : v ≢ s
  pub not_destination : v ≢ z
  pub visits : List Appearance
  pub runs : run p (start s) w ≡ some visits
  pub visited : Memᴰ v (stations_of visits)

module _ (p : Plan) (s z v : ℕ) where
  -- a station inside is visited and is neither end
  pub interior_inv : (w : List ℕ) → is_interior p s z v w ≡ true → InsideBy p s z v w
  unfolding is_interior
  interior_inv w e =
      let (a, rest) = (and-eq-true_iff (not (eqb v s)) _).0 e in
      let (b, visited) = (and-eq-true_iff (not (eqb v z)) _).0 rest in
      let (l, runs, m) = holds_inv (run p (start s) w) _ visited in
      record {
        not_source = eqb-false v s (not-true _ a);
        not_destination = eqb-false v z (not-true _ b);
        visits = l;
        runs = runs;
        visited = (member_true v (stations_of l)).0 m;
      }

  -- a station that is visited and is neither end is inside
  pub interior_intro :
      (w : List ℕ) {l : List Appearance} → v ≢ s → v ≢ z → run p (start s) w ≡ some l → Memᴰ v (stations_of l) →
      is_interior p s z v w ≡ true
  unfolding is_interior holds
  interior_intro w {l} a b runs visited = rw (ne_eqb v s a, ne_eqb v z b, runs) ((member_true v (stations_of l)).1 visited)

module _ (p : Plan) (s v : ℕ) where
  -- a walk to the appearance (v, t) is a walk to station v
  pub walk_to_station : (t : ℕ) (w : List ℕ) → is_walk p s v t w ≡ true → ends_in p (start s) (is_at v) w ≡ true
  unfolding is_walk
  walk_to_station t w e =
      let r = ends_inv p (start s) (is_appearance v t) w e in
      ends_intro p (start s) (is_at v) w r.runs ((and-eq-true_iff _ _).0 r.passes).0

  -- a walk to station v is a walk to one of its appearances in the plan's slots, or to its start
  pub walk_to_appearance :
      SlotsWithin p → (w : List ℕ) → ends_in p (start s) (is_at v) w ≡ true →
      (t : ℕ) × (t < p.slots + 1) × (is_walk p s v t w ≡ true)
  unfolding is_walk
  walk_to_appearance g w e =
      let r = ends_inv p (start s) (is_at v) w e in
      let t = (last_or (start s) r.visits).slot in
      let fits = run_last_within p g (start s) w (omega arith) r.runs in
      let there = (and-eq-true_iff _ _).1 (r.passes, eq-eqb t t refl) in
      (t, omega arith, ends_intro p (start s) (is_appearance v t) w r.runs there)

  -- a walk to station v is a walk to one of its appearances and no more
  pub walk_one_slot :
      SlotsWithin p → (w : List ℕ) →
      sum (map (λ t. cond (is_walk p s v t w) 1 0) (below (p.slots + 1))) ≡ cond (ends_in p (start s) (is_at v) w) 1 0
  unfolding is_walk ends_in holds
  walk_one_slot g w = go (run p (start s) w) (λ l e. run_last_within p g (start s) w (omega arith) e)
    where
      go :
          (o : Option (List Appearance)) →
          ((l : List Appearance) → o ≡ some l → (last_or (start s) l).slot ≤ p.slots) →
          sum (map (λ t. cond (holds o (λ l. is_appearance v t (last_or (start s) l))) 1 0) (below (p.slots + 1))) ≡
          cond (holds o (λ l. is_at v (last_or (start s) l))) 1 0
      go none fits = sum_zero (below (p.slots + 1)) (λ t m. refl)
      go (some l) fits =
          let last = fits l refl in
          sum_of_guarded (is_at v (last_or (start s) l)) (last_or (start s) l).slot (p.slots + 1) (omega arith)
