-- Shortest foremost paths: what they are, and that they are paths; the shortest walks that arrive by a slot, of which the pair's
-- shortest walks and the shortest foremost paths are two cases. A law marked (kept) rests on a reading being kept until the plan ends.
-- Assumes nothing.
use Prim.Native.Nat.{ℕ, ◌+◌, ◌≤◌, ◌<◌, min}
use native.Mathlib.Omega.{arith}
use native.Mathlib.Decide.{dec_lt, ℕ_discrete}
use mathlib.Core.Path.{◌≡◌, refl, sym, ap, subst, ◌∙◌}
use mathlib.Core.Bool.{Bool, true, false, ◌&&◌, and-eq-true_iff}
use mathlib.Core.List.{List, [], Memᴰ}
use mathlib.Core.Logic.{⊎_elim, ◌↔◌, ◌≢◌, by_cases}
use mathlib.Core.Option.{Option, none, some}
use borrow.Author.Tests.{eqb-true, eq-eqb, ne_eqb, leb-true, le-leb, lt-leb, ltb-true, lt-ltb}
use lib.Dec.{eqb, leb, ltb}
use lib.ListN.{length}
use Rattle.temporal.specs.Lists.{below, first_where, Rising}
use Rattle.temporal.specs.Plan.{Plan, Terms, Keeps, Appearance, start}
use Rattle.temporal.specs.Walk.{run, last_or, holds, ends_in, is_at, is_appearance, is_walk, is_walk_to, is_path}
use Rattle.temporal.specs.Shortest.{shortest, shortest_walks, shortest_walks_to, hops, count}
use Rattle.temporal.specs.Foremost.{arrival, foremost_paths, arrives_by, walks_by}
use Rattle.temporal.specs.Bytes.{plan_of}
use Rattle.temporal.specs.Cause.{plan_fault}
use Rattle.walks.proofs.Accepted.{accepted}
use Rattle.walks.proofs.Adequacy.{bounded_ends, in_complete_list, in_shortest_walks}
use Rattle.walks.proofs.Adequacy.{appearance_walk_at_least, shortest_walks_rise, walk_ends_within}
use Rattle.lists.proofs.ListLaws.{not_both, empty_or_member, length_zero, FirstBelow}
use Rattle.lists.proofs.ListLaws.{passes_nowhere, passes_first, first_below, member_not_empty}
use Rattle.walks.proofs.RuleLaws.{Kept}
use Rattle.walks.proofs.PathLaws.{walk_or_shorter}
use Rattle.walks.proofs.PlanLaws.{kept_plan, slots_within}
use Rattle.walks.proofs.ShortestLaws.{Bounded, shortest_mem, shortest_least, shortest_fails, shortest_ext}
use Rattle.walks.proofs.ShortestLaws.{count_zero, hops_bound, hops_implies, found, nowhere, at_hops, Found, least_member}
use Rattle.walks.proofs.WalkLaws.{SlotsWithin, run_length, run_slots, run_last_within, ends_inv, ends_intro}

-- ---- appearances by a slot

-- they are of the station
pub by_station : (z e : ℕ) (x : Appearance) → arrives_by z e x ≡ true → x.station ≡ z
unfolding arrives_by
by_station z e x q = eqb-true x.station z ((and-eq-true_iff (is_at z x) (leb x.slot e)).0 q).0

-- an earlier one of the station is among them too
pub by_sooner :
    (z e : ℕ) (x x' : Appearance) → x'.station ≡ x.station → x'.slot ≤ x.slot → arrives_by z e x ≡ true →
    arrives_by z e x' ≡ true
unfolding arrives_by
by_sooner z e x x' same earlier q =
    let (at, by) = (and-eq-true_iff (is_at z x) (leb x.slot e)).0 q in
    let soon = leb-true x.slot e by in
    (and-eq-true_iff (is_at z x') (leb x'.slot e)).1 (ap (λ v. eqb v z) same ∙ at, le-leb x'.slot e (omega arith))

-- tests that agree on where a walk ends
ends_agree :
    (p : Plan) (x : Appearance) (t u : Appearance → Bool) (w : List ℕ) →
    ((l : List Appearance) → run p x w ≡ some l → t (last_or x l) ≡ u (last_or x l)) → ends_in p x t w ≡ ends_in p x u w
unfolding ends_in holds
ends_agree p x t u w h = go (run p x w) h
  where
    go :
        (o : Option (List Appearance)) → ((l : List Appearance) → o ≡ some l → t (last_or x l) ≡ u (last_or x l)) →
        holds o (λ l. t (last_or x l)) ≡ holds o (λ l. u (last_or x l))
    go none h = refl
    go (some l) h = h l refl

-- where a list passes there is a shortest one
pub some_shortest : {p : Plan} {t : List ℕ → Bool} → Bounded p t → (w : List ℕ) → t w ≡ true → 0 < count (shortest p t)
some_shortest {p} {t} b w q = go (found b)
  where
    go : Found p t → 0 < count (shortest p t)
    go (nowhere e n) = absurd (n w q)
    go (at_hops k h e) =
        by_cases (ℕ_discrete (count (shortest p t)) 0)
        (λ zero. absurd (member_not_empty (least_member h).1 (sym e ∙ (count_zero (shortest p t)).0 zero)))
        (λ more. omega arith)

module _ (p : Plan) (fits : SlotsWithin p) (s z : ℕ) where
  -- (kept) The shortest walks by a slot are paths.
  pub walks_by_are_paths : Kept p → (e : ℕ) (w : List ℕ) → Memᴰ w (walks_by p s z e) → is_path p s z w ≡ true
  unfolding walks_by
  walks_by_are_paths kept e w m =
      let b = bounded_ends p fits s (arrives_by z e) in
      let (q, fewest) = (shortest_mem b).0 m in
      ⊎_elim
      (λ path. path)
      (λ h. absurd (let least = shortest_least b h.ends in let fewer = h.fewer in omega arith))
      (walk_or_shorter p kept fits (arrives_by z e) (by_sooner z e) z (by_station z e) s w q)

  -- By the plan's last slot they are the shortest of all walks to z.
  pub walks_by_last : walks_by p s z p.slots ≡ shortest p (is_walk_to p s z)
  unfolding walks_by arrives_by
  walks_by_last =
      shortest_ext p (λ w. ends_agree p (start s) (arrives_by z p.slots) (is_at z) w (λ l runs.
      let inside = run_last_within p fits (start s) w (omega arith) runs in
      whole (is_at z (last_or (start s) l)) _ (le-leb (last_or (start s) l).slot p.slots inside)))
    where
      whole : (a b : Bool) → b ≡ true → (a && b) ≡ a
      whole true b e = e
      whole false b e = refl

  -- ---- the arrival

  -- z is never reached, or the arrival is a slot of the plan and z is reached in it
  pub data Arrival : Type 0 where
    never : arrival p s z ≡ 65535 → ((w : List ℕ) → is_walk_to p s z w ≡ true → ⊥) → Arrival
    arrives : arrival p s z ≤ p.slots → 0 < count (foremost_paths p s z) → Arrival

  -- no walk reaches z in a slot that has none
  unreached : (u : ℕ) → ltb 0 (count (shortest_walks p s z u)) ≡ false → (w : List ℕ) → is_walk p s z u w ≡ true → ⊥
  unfolding shortest_walks is_walk
  unreached u e w q =
      let some = some_shortest (bounded_ends p fits s (is_appearance z u)) w q in
      not_both (lt-ltb 0 (count (shortest p (is_walk p s z u))) some) e

  -- a walk to z reaches it in the slot of its last appearance
  in_its_slot :
      (w : List ℕ) (l : List Appearance) → run p (start s) w ≡ some l → (last_or (start s) l).station ≡ z →
      is_walk p s z (last_or (start s) l).slot w ≡ true
  unfolding is_walk
  in_its_slot w l runs there =
      ends_intro p (start s) (is_appearance z (last_or (start s) l).slot) w runs
      ((and-eq-true_iff (eqb (last_or (start s) l).station z) (eqb (last_or (start s) l).slot (last_or (start s) l).slot)).1
      (eq-eqb _ z there, eq-eqb (last_or (start s) l).slot _ refl))

  pub arrival_or_never : Arrival
  unfolding arrival foremost_paths
  arrival_or_never = go (first_below 65535 reached (p.slots + 1))
    where
      reached : ℕ → Bool
      reached u = ltb 0 (count (shortest_walks p s z u))

      go : FirstBelow 65535 reached (p.slots + 1) → Arrival
      go (passes_nowhere e n) =
          never e (λ w q.
          let r = ends_inv p (start s) (is_at z) w q in
          let inside = run_last_within p fits (start s) w (omega arith) r.runs in
          unreached (last_or (start s) r.visits).slot (n _ (omega arith)) w
          (in_its_slot w r.visits r.runs (eqb-true _ z r.passes)))
      go (passes_first v e h q n) =
          arrives (omega arith) (rw e (ltb-true 0 (count (shortest_walks p s z v)) q))

  -- Every walk from s to z arrives in the earliest slot or later.
  pub arrival_first :
      (w : List ℕ) (l : List Appearance) → run p (start s) w ≡ some l → (last_or (start s) l).station ≡ z →
      arrival p s z ≤ (last_or (start s) l).slot
  unfolding arrival
  arrival_first w l runs there = go (first_below 65535 reached (p.slots + 1))
    where
      reached : ℕ → Bool
      reached u = ltb 0 (count (shortest_walks p s z u))

      last : ℕ
      last = (last_or (start s) l).slot

      inside : last ≤ p.slots
      inside = run_last_within p fits (start s) w (omega arith) runs

      go : FirstBelow 65535 reached (p.slots + 1) → first_where 65535 reached (below (p.slots + 1)) ≤ last
      go (passes_nowhere e n) =
          let within = inside in
          absurd (unreached last (n last (omega arith)) w (in_its_slot w l runs there))
      go (passes_first v e h q n) =
          by_cases (dec_lt last v)
          (λ sooner. absurd (unreached last (n last sooner) w (in_its_slot w l runs there)))
          (λ other. omega arith)

  -- By the arrival, or by the last slot where it is never reached, they are the shortest foremost paths.
  pub walks_by_arrival : p.slots < 65535 → walks_by p s z (min p.slots (arrival p s z)) ≡ foremost_paths p s z
  unfolding walks_by foremost_paths shortest_walks is_walk arrives_by
  walks_by_arrival few = go arrival_or_never
    where
      stops : (b : Bool) (y a : ℕ) → (b ≡ true → a ≤ y) → (b && leb y a) ≡ (b && eqb y a)
      stops false y a h = refl
      stops true y a h =
          by_cases (ℕ_discrete y a)
          (λ same. rw (eq-eqb y a same) (le-leb y a (omega arith)))
          (λ other. rw (ne_eqb y a other) (lt-leb y a (let from = h refl in omega arith)))

      same :
          (w : List ℕ) →
          ends_in p (start s) (arrives_by z (arrival p s z)) w ≡ ends_in p (start s) (is_appearance z (arrival p s z)) w
      same w =
          ends_agree p (start s) (arrives_by z (arrival p s z)) (is_appearance z (arrival p s z)) w (λ l runs.
          stops (is_at z (last_or (start s) l)) (last_or (start s) l).slot (arrival p s z)
          (λ q. arrival_first w l runs (eqb-true _ z q)))

      walks :
          (w : List ℕ) (t : Appearance → Bool) → ((x : Appearance) → t x ≡ true → x.station ≡ z) →
          ends_in p (start s) t w ≡ true → is_walk_to p s z w ≡ true
      walks w t at_z q =
          let r = ends_inv p (start s) t w q in
          ends_intro p (start s) (is_at z) w r.runs (eq-eqb _ z (at_z _ r.passes))

      go :
          Arrival →
          shortest p (ends_in p (start s) (arrives_by z (min p.slots (arrival p s z)))) ≡
          shortest p (ends_in p (start s) (is_appearance z (arrival p s z)))
      go (never e n) =
          shortest_fails p _ (λ w q. n w (walks w _ (λ x h. by_station z _ x h) q)) ∙
          sym (shortest_fails p _ (λ w q. n w (walks w _ (λ x h. eqb-true _ z ((and-eq-true_iff _ _).0 h).0) q)))
      go (arrives h reached) =
          let first : min p.slots (arrival p s z) ≡ arrival p s z = omega arith in
          rw first (shortest_ext p same)

  -- Where no walk reaches z there is no foremost path.
  pub foremost_none : ((w : List ℕ) → is_walk_to p s z w ≡ true → ⊥) → foremost_paths p s z ≡ []
  unfolding foremost_paths shortest_walks is_walk
  foremost_none n =
      shortest_fails p _ (λ w q.
      let r = ends_inv p (start s) (is_appearance z (arrival p s z)) w q in
      n w (ends_intro p (start s) (is_at z) w r.runs ((and-eq-true_iff _ _).0 r.passes).0))

  -- The shortest foremost paths are no more than the shortest walks to any appearance of z by the arrival.
  pub foremost_at_most :
      (most : ℕ) → ((x : ℕ) → x ≤ min p.slots (arrival p s z) → count (shortest_walks p s z x) ≤ most) →
      count (foremost_paths p s z) ≤ most
  unfolding foremost_paths
  foremost_at_most most h = go arrival_or_never
    where
      go : Arrival → count (foremost_paths p s z) ≤ most
      go (never e n) = let empty = (count_zero (foremost_paths p s z)).1 (foremost_none n) in omega arith
      go (arrives inside reached) = h (arrival p s z) (omega arith)

  -- Where no walk reaches z by a slot of the plan, the arrival is later.
  pub arrival_past : p.slots < 65535 → (e : ℕ) → e ≤ p.slots → walks_by p s z e ≡ [] → e < arrival p s z
  unfolding walks_by foremost_paths shortest_walks is_walk arrives_by
  arrival_past few e inside empty = go arrival_or_never
    where
      meets : (m : List ℕ) → is_walk p s z (arrival p s z) m ≡ true → arrival p s z ≤ e → ⊥
      meets m q sooner =
          let r = ends_inv p (start s) (is_appearance z (arrival p s z)) m q in
          let (at, in-slot) = (and-eq-true_iff (eqb (last_or (start s) r.visits).station z) _).0 r.passes in
          let slot = eqb-true (last_or (start s) r.visits).slot (arrival p s z) in-slot in
          let some = some_shortest (bounded_ends p fits s (arrives_by z e)) m
          (ends_intro p (start s) (arrives_by z e) m r.runs
          ((and-eq-true_iff _ _).1 (at, le-leb (last_or (start s) r.visits).slot e (omega arith)))) in
          let zero = (count_zero (shortest p (ends_in p (start s) (arrives_by z e)))).1 empty in
          omega arith

      go : Arrival → e < arrival p s z
      go (never a n) = omega arith
      go (arrives h reached) =
          by_cases (dec_lt e (arrival p s z)) (λ later. later)
          (λ other. ⊎_elim
          (λ no_member. absurd (let zero = (count_zero (foremost_paths p s z)).1 no_member in omega arith))
          (λ m. absurd (meets m.0
          ((shortest_mem (bounded_ends p fits s (is_appearance z (arrival p s z)))).0 m.1).0 (omega arith)))
          (empty_or_member (foremost_paths p s z)))

  -- Where some walk reaches z by a slot, the arrival is not later.
  pub arrival_by : (e : ℕ) (w : List ℕ) → Memᴰ w (walks_by p s z e) → arrival p s z ≤ e
  unfolding walks_by arrives_by
  arrival_by e w m =
      let q = ((shortest_mem (bounded_ends p fits s (arrives_by z e))).0 m).0 in
      let r = ends_inv p (start s) (arrives_by z e) w q in
      let (at, by) = (and-eq-true_iff (is_at z (last_or (start s) r.visits)) _).0 r.passes in
      let first = arrival_first w r.visits r.runs (eqb-true _ z at) in
      let soon = leb-true (last_or (start s) r.visits).slot e by in
      omega arith

  -- Another station than the source is reached in no slot before the first.
  pub arrival_after_start : p.slots < 65535 → s ≢ z → 0 < arrival p s z
  unfolding walks_by arrives_by last_or
  arrival_after_start few other =
      arrival_past few 0 (omega arith) (shortest_fails p _ (λ w q.
      let r = ends_inv p (start s) (arrives_by z 0) w q in
      let (at, by) = (and-eq-true_iff (is_at z (last_or (start s) r.visits)) _).0 r.passes in
      let soon = leb-true (last_or (start s) r.visits).slot 0 by in
      let hops = run_slots p (start s) w r.runs in
      let same = run_length p (start s) w r.runs in
      let empty : r.visits ≡ [] = (length_zero r.visits).0 (omega arith) in
      other (eqb-true s z (rw empty at at))))

-- ---- accepted plans

module _ (bs : List ℕ) (n t : ℕ) (terms : Terms) (ok : plan_fault bs n t ≡ 0) (s z : ℕ) where
  few_slots : (plan_of bs n t terms).slots < 65535
  unfolding plan_of
  few_slots = let most = (accepted bs n t ok).slots in omega arith

  -- By the last slot the shortest walks are those of the pair, and by the arrival the shortest foremost paths.
  pub shortest_by_last : walks_by (plan_of bs n t terms) s z t ≡ shortest_walks_to (plan_of bs n t terms) s z
  unfolding plan_of shortest_walks_to
  shortest_by_last = walks_by_last (plan_of bs n t terms) (slots_within bs n t terms ok) s z

  pub foremost_by_arrival :
      walks_by (plan_of bs n t terms) s z (min t (arrival (plan_of bs n t terms) s z)) ≡ foremost_paths (plan_of bs n t terms) s z
  unfolding plan_of
  foremost_by_arrival = walks_by_arrival (plan_of bs n t terms) (slots_within bs n t terms ok) s z few_slots

  -- (kept) Every shortest foremost path is a path: it visits no station twice, its source and destination among them.
  pub foremost_walks_are_paths :
      Keeps t terms → (w : List ℕ) → Memᴰ w (foremost_paths (plan_of bs n t terms) s z) → is_path (plan_of bs n t terms) s z w ≡ true
  foremost_walks_are_paths keeps w m =
      walks_by_are_paths (plan_of bs n t terms) (slots_within bs n t terms ok) s z (kept_plan bs n t terms keeps) (min t (arrival (plan_of bs n t terms) s z)) w
      (subst (λ l. Memᴰ w l) (sym foremost_by_arrival) m)

  -- A number that is no station's is never reached.
  pub arrival_outside : s < n → n ≤ z → arrival (plan_of bs n t terms) s z ≡ 65535
  unfolding foremost_paths is_walk
  arrival_outside source outside = go (arrival_or_never (plan_of bs n t terms) (slots_within bs n t terms ok) s z)
    where
      go : Arrival (plan_of bs n t terms) (slots_within bs n t terms ok) s z → arrival (plan_of bs n t terms) s z ≡ 65535
      go (never e none-there) = e
      go (arrives h reached) =
          ⊎_elim
          (λ empty. absurd (let zero = (count_zero (foremost_paths (plan_of bs n t terms) s z)).1 empty in omega arith))
          (λ m.
          let r = ends_inv (plan_of bs n t terms) (start s) (is_appearance z (arrival (plan_of bs n t terms) s z)) m.0
          ((in_shortest_walks bs n t terms ok s z (arrival (plan_of bs n t terms) s z) m.0).0 m.1).0 in
          let inside = (walk_ends_within bs n t terms ok s m.0 r.visits source r.runs).0 in
          let ends = eqb-true _ z ((and-eq-true_iff _ _).0 r.passes).0 in
          absurd (omega arith))
          (empty_or_member (foremost_paths (plan_of bs n t terms) s z))

  -- Every walk from s to z arrives in the earliest slot or later.
  pub arrival_earliest :
      (w : List ℕ) (l : List Appearance) → run (plan_of bs n t terms) (start s) w ≡ some l → (last_or (start s) l).station ≡ z →
      arrival (plan_of bs n t terms) s z ≤ (last_or (start s) l).slot
  arrival_earliest = arrival_first (plan_of bs n t terms) (slots_within bs n t terms ok) s z

  -- where a walk reaches z in a slot there is a shortest one
  some_walk : (u : ℕ) (w : List ℕ) → is_walk (plan_of bs n t terms) s z u w ≡ true → 0 < count (shortest_walks (plan_of bs n t terms) s z u)
  unfolding shortest_walks is_walk
  some_walk u w q = some_shortest (bounded_ends (plan_of bs n t terms) (slots_within bs n t terms ok) s (is_appearance z u)) w q

  -- (kept) A list of positions is among the shortest foremost paths exactly if it is a path from s to z that arrives in the
  -- earliest slot, and no path that does has fewer hops.
  pub in_foremost_paths :
      Keeps t terms → (w : List ℕ) →
      Memᴰ w (foremost_paths (plan_of bs n t terms) s z) ↔
      ((is_path (plan_of bs n t terms) s z w ≡ true) × (is_walk (plan_of bs n t terms) s z (arrival (plan_of bs n t terms) s z) w ≡ true) ×
      ((u : List ℕ) → is_path (plan_of bs n t terms) s z u ≡ true →
      is_walk (plan_of bs n t terms) s z (arrival (plan_of bs n t terms) s z) u ≡ true → length w ≤ length u))
  unfolding foremost_paths
  in_foremost_paths keeps w = (
    λ m. let (walks, fewest) = (in_shortest_walks bs n t terms ok s z a w).0 m in (
      foremost_walks_are_paths keeps w m,
      walks,
      λ u path q. let least = appearance_walk_at_least bs n t terms ok s z a u q in omega arith,
    ),
    λ h. (in_shortest_walks bs n t terms ok s z a w).1 (h.1, fewest w h.1 h.2),
  )
    where
      a : ℕ
      a = arrival (plan_of bs n t terms) s z

      fewest :
          (w : List ℕ) → is_walk (plan_of bs n t terms) s z a w ≡ true →
          ((u : List ℕ) → is_path (plan_of bs n t terms) s z u ≡ true → is_walk (plan_of bs n t terms) s z a u ≡ true → length w ≤ length u) →
          length w ≡ hops (shortest_walks (plan_of bs n t terms) s z a)
      fewest w q least =
          ⊎_elim
          (λ empty. absurd (
          let some = some_walk a w q in
          let none = (count_zero (shortest_walks (plan_of bs n t terms) s z a)).1 empty in
          omega arith))
          (λ m.
          let (walks, same) = (in_shortest_walks bs n t terms ok s z a m.0).0 m.1 in
          let low = appearance_walk_at_least bs n t terms ok s z a w q in
          let high = least m.0 (foremost_walks_are_paths keeps m.0 m.1) walks in
          omega arith)
          (empty_or_member (shortest_walks (plan_of bs n t terms) s z a))

  -- Where there is a foremost path its hops are no more than the slots.
  pub foremost_few : 0 < count (foremost_paths (plan_of bs n t terms) s z) → hops (foremost_paths (plan_of bs n t terms) s z) ≢ 65535
  unfolding foremost_paths shortest_walks is_walk plan_of
  foremost_few reached many =
      ⊎_elim
      (λ empty. let zero = (count_zero (foremost_paths (plan_of bs n t terms) s z)).1 empty in omega arith)
      (λ few. let most = (accepted bs n t ok).slots in omega arith)
      (hops_bound (bounded_ends (plan_of bs n t terms) (slots_within bs n t terms ok) s (is_appearance z (arrival (plan_of bs n t terms) s z))))

  -- The fewest hops of a foremost path are never below the pair's.
  pub foremost_hops_at_least : hops (shortest_walks_to (plan_of bs n t terms) s z) ≤ hops (foremost_paths (plan_of bs n t terms) s z)
  unfolding foremost_paths shortest_walks shortest_walks_to is_walk
  foremost_hops_at_least =
      let few = few_slots in
      (hops_implies (bounded_ends (plan_of bs n t terms) (slots_within bs n t terms ok) s (is_at z))
      (λ w q.
      let r = ends_inv (plan_of bs n t terms) (start s) (is_appearance z (arrival (plan_of bs n t terms) s z)) w q in
      ends_intro (plan_of bs n t terms) (start s) (is_at z) w r.runs ((and-eq-true_iff _ _).0 r.passes).0)
      (omega arith))

  -- Where its hops are the pair's, every shortest foremost path is in the pair's complete list.
  pub foremost_among_shortest :
      hops (foremost_paths (plan_of bs n t terms) s z) ≡ hops (shortest_walks_to (plan_of bs n t terms) s z) → (w : List ℕ) →
      Memᴰ w (foremost_paths (plan_of bs n t terms) s z) → Memᴰ w (shortest_walks_to (plan_of bs n t terms) s z)
  unfolding foremost_paths is_walk
  foremost_among_shortest same w m =
      let (walk, size) = (in_shortest_walks bs n t terms ok s z (arrival (plan_of bs n t terms) s z) w).0 m in
      let r = ends_inv (plan_of bs n t terms) (start s) (is_appearance z (arrival (plan_of bs n t terms) s z)) w walk in
      (in_complete_list bs n t terms ok s z w).1
      (ends_intro (plan_of bs n t terms) (start s) (is_at z) w r.runs ((and-eq-true_iff _ _).0 r.passes).0, size ∙ same)

-- They rise in lexicographic order, so none stands among them twice.
pub foremost_paths_rise : (p : Plan) (s z : ℕ) → Rising (foremost_paths p s z)
unfolding foremost_paths
foremost_paths_rise p s z = shortest_walks_rise p s z (arrival p s z)
