-- The definitions say what document 01 means: theorems by which no reader has to trust an enumeration or a bound. A law
-- marked (kept) asks that nothing goes stale (RuleLaws, follows-earlier).
-- Assumes nothing.
use Prim.Native.Nat.{ℕ, ◌+◌, ◌≤◌, ◌<◌}
use native.Mathlib.Omega.{arith}
use mathlib.Core.Path.{◌≡◌, sym, ap, subst, ◌∙◌}
use mathlib.Core.Bool.{Bool, true, cond}
use mathlib.Core.List.{List, [], map, Memᴰ}
use mathlib.Core.Logic.{◌⊎◌, inl, inr, ⊎_elim, ◌↔◌, ◌≢◌}
use mathlib.Core.Option.{some}
use borrow.Author.Tests.{eqb-true}
use lib.Dec.{eqb}
use lib.ListN.{length}
use Rattle.temporal.specs.Lists.{sum, below, Rising}
use Rattle.temporal.specs.Plan.{Plan, Terms, Keeps, Appearance, start}
use Rattle.temporal.specs.Walk.{run, last_or, ends_in, is_at, is_walk_to, is_appearance, is_walk, is_path}
use Rattle.temporal.specs.Walk.{stations_of}
use Rattle.temporal.specs.Shortest.{shortest, shortest_walks, shortest_walks_to, shortest_paths, hops, count}
use Rattle.temporal.specs.Definition3.{starting_points, is_path000}
use Rattle.temporal.specs.Bytes.{plan_of}
use Rattle.temporal.specs.Cause.{plan_fault}
use Rattle.walks.proofs.Accepted.{accepted}
use Rattle.walks.proofs.PlanLaws.{kept_plan, contact_within, slots_within}
use Rattle.lists.proofs.ListLaws.{mem_below}
use Rattle.walks.proofs.ShortestLaws.{
  Bounded,
  bounded_implies,
  shortest_mem,
  shortest_least,
  shortest_rising,
  shortest_agree,
  hops_bound,
  split_hops,
  split_count,
}
use Rattle.walks.proofs.WalkLaws.{
  SlotsWithin,
  run_within,
  run_last_within,
  run_positions,
  run_station,
  ends_inv,
  ends_at,
}
use Rattle.walks.proofs.ReturnLaws.{start_over, cut_short}
use Rattle.walks.proofs.PathLaws.{Shorter, path_is_walk, walk_or_shorter, path_definition3, walk_one_slot}

-- walks of a plan whose contacts lie within its slots are bounded
pub bounded_ends : (p : Plan) → SlotsWithin p → (s : ℕ) (t : Appearance → Bool) → Bounded p (ends_in p (start s) t)
bounded_ends p g s t =
    record {
      within = λ w e. let r = ends_inv p (start s) t w e in
          (run_within p g s w r.runs, run_positions p (start s) w r.runs);
    }

-- Of the walks from s that end in a test, which an earlier appearance passes wherever a later one of its station does, a shortest one
-- comes back neither to s, nor to the station of its end before its end.
pub no_return_of :
    (p : Plan) → SlotsWithin p → (s : ℕ) (t : Appearance → Bool) →
    ((x x' : Appearance) → x'.station ≡ x.station → x'.slot ≤ x.slot → t x ≡ true → t x' ≡ true) →
    (w : List ℕ) {l : List Appearance} → Memᴰ w (shortest p (ends_in p (start s) t)) → run p (start s) w ≡ some l →
    (Memᴰ s (stations_of l) → ⊥) × (Memᴰ (last_or (start s) l).station (starting_points (start s) l) → ⊥)
no_return_of p g s t sooner w m e =
    let b = bounded_ends p g s t in
    let (walk, size) = (shortest_mem b).0 m in
    let end = ends_at p (start s) t w walk e in (
      λ back. none size (start_over p t sooner s (start s) w e end back),
      λ before. none size (cut_short p t sooner (start s) w e end before),
    )
  where
    none : length w ≡ hops (shortest p (ends_in p (start s) t)) → Shorter p (start s) t w → ⊥
    none size k = let least = shortest_least (bounded_ends p g s t) k.ends in let fewer = k.fewer in omega arith

pub bounded_paths : (p : Plan) → SlotsWithin p → (s z : ℕ) → Bounded p (is_path p s z)
bounded_paths p g s z = bounded_implies (bounded_ends p g s (is_at z)) (path_is_walk p s z)

module _ (bs : List ℕ) (n t : ℕ) (terms : Terms) (ok : plan_fault bs n t ≡ 0) where
  -- A walk of an accepted plan has at most as many hops as the plan has slots.
  pub walk_within_slots : (s : ℕ) (w : List ℕ) (l : List Appearance) → run (plan_of bs n t terms) (start s) w ≡ some l → length w ≤ t
  unfolding plan_of
  walk_within_slots s w l e = run_within (plan_of bs n t terms) (slots_within bs n t terms ok) s w e

  -- Every walk from s to z, of whatever length, has at least the pair's hops.
  pub walk_at_least :
      (s z : ℕ) (w : List ℕ) → is_walk_to (plan_of bs n t terms) s z w ≡ true → hops (shortest_walks_to (plan_of bs n t terms) s z) ≤ length w
  unfolding shortest_walks_to
  walk_at_least s z w e = shortest_least (bounded_ends (plan_of bs n t terms) (slots_within bs n t terms ok) s (is_at z)) e

  -- A list of positions is in the complete list exactly if it is a walk from s to z with the pair's hops.
  pub in_complete_list :
      (s z : ℕ) (w : List ℕ) →
      Memᴰ w (shortest_walks_to (plan_of bs n t terms) s z) ↔
      ((is_walk_to (plan_of bs n t terms) s z w ≡ true) × (length w ≡ hops (shortest_walks_to (plan_of bs n t terms) s z)))
  unfolding shortest_walks_to
  in_complete_list s z w = shortest_mem (bounded_ends (plan_of bs n t terms) (slots_within bs n t terms ok) s (is_at z))

  -- A shortest walk to z comes back neither to its source, nor to z before its end.
  pub no_return :
      (s z : ℕ) (w : List ℕ) {l : List Appearance} → Memᴰ w (shortest_walks_to (plan_of bs n t terms) s z) →
      run (plan_of bs n t terms) (start s) w ≡ some l →
      (Memᴰ s (stations_of l) → ⊥) × (Memᴰ z (starting_points (start s) l) → ⊥)
  unfolding shortest_walks_to
  no_return s z w {l} m e =
      let p = plan_of bs n t terms in
      let end = ends_at p (start s) (is_at z) w ((in_complete_list s z w).0 m).0 e in
      let (home, before) = no_return_of p (slots_within bs n t terms ok) s (is_at z)
      (λ x x' same earlier q. ap (λ v. eqb v z) same ∙ q) w m e in
      (home, λ there. before (subst (λ v. Memᴰ v (starting_points (start s) l)) (sym (eqb-true _ z end)) there))

  -- Every path from s to z, of whatever length, has at least the hops of the shortest paths.
  pub path_at_least :
      (s z : ℕ) (w : List ℕ) → is_path (plan_of bs n t terms) s z w ≡ true → hops (shortest_paths (plan_of bs n t terms) s z) ≤ length w
  unfolding shortest_paths
  path_at_least s z w e = shortest_least (bounded_paths (plan_of bs n t terms) (slots_within bs n t terms ok) s z) e

  -- A list of positions is among the shortest paths exactly if it is a path from s to z with their hops.
  pub in_shortest_paths :
      (s z : ℕ) (w : List ℕ) →
      Memᴰ w (shortest_paths (plan_of bs n t terms) s z) ↔
      ((is_path (plan_of bs n t terms) s z w ≡ true) × (length w ≡ hops (shortest_paths (plan_of bs n t terms) s z)))
  unfolding shortest_paths
  in_shortest_paths s z w = shortest_mem (bounded_paths (plan_of bs n t terms) (slots_within bs n t terms ok) s z)

  -- (kept) Where nothing goes stale
  module _ (keeps : Keeps t terms) where
    -- the shortest walks to a station are its shortest paths: the fewest hops over walks and over paths are equal, and every walk
    -- with that fewest is a path;
    pub shortest_walks_are_paths :
        (s z : ℕ) → shortest_walks_to (plan_of bs n t terms) s z ≡ shortest_paths (plan_of bs n t terms) s z
    unfolding shortest_paths shortest_walks_to
    shortest_walks_are_paths s z =
        sym
        (shortest_agree (bounded_ends p (slots_within bs n t terms ok) s (is_at z)) (path_is_walk p s z)
        (λ w e. ⊎_elim inl (λ h. inr (h.walk, h.ends, h.fewer))
        (walk_or_shorter p (kept_plan bs n t terms keeps) (slots_within bs n t terms ok) (is_at z)
        (λ x x' same earlier q. ap (λ v. eqb v z) same ∙ q) z (λ x q. eqb-true x.station z q) s w e)))
      where
        p : Plan
        p = plan_of bs n t terms

    -- every walk from s to z with the pair's hops is a path;
    pub fewest_walk_is_path :
        (s z : ℕ) (w : List ℕ) → is_walk_to (plan_of bs n t terms) s z w ≡ true →
        length w ≡ hops (shortest_walks_to (plan_of bs n t terms) s z) → is_path (plan_of bs n t terms) s z w ≡ true
    fewest_walk_is_path s z w e fewest =
        ((in_shortest_paths s z w).0 (rw (← shortest_walks_are_paths) ((in_complete_list s z w).1 (e, fewest)))).0

    -- a member of the complete list is a path with the pair's hops.
    pub listed_path :
        (s z : ℕ) (w : List ℕ) → Memᴰ w (shortest_walks_to (plan_of bs n t terms) s z) →
        (is_path (plan_of bs n t terms) s z w ≡ true) × (length w ≡ hops (shortest_walks_to (plan_of bs n t terms) s z))
    listed_path s z w m = let (walk, size) = (in_complete_list s z w).0 m in (fewest_walk_is_path s z w walk size, size)

  -- Every walk from s to the appearance (v, u) has at least its hops.
  pub appearance_walk_at_least :
      (s v u : ℕ) (w : List ℕ) → is_walk (plan_of bs n t terms) s v u w ≡ true →
      hops (shortest_walks (plan_of bs n t terms) s v u) ≤ length w
  unfolding shortest_walks is_walk
  appearance_walk_at_least s v u w e =
      shortest_least (bounded_ends (plan_of bs n t terms) (slots_within bs n t terms ok) s (is_appearance v u)) e

  -- A list of positions is among an appearance's shortest walks exactly if it is a walk to it with its hops.
  pub in_shortest_walks :
      (s v u : ℕ) (w : List ℕ) →
      Memᴰ w (shortest_walks (plan_of bs n t terms) s v u) ↔
      ((is_walk (plan_of bs n t terms) s v u w ≡ true) × (length w ≡ hops (shortest_walks (plan_of bs n t terms) s v u)))
  unfolding shortest_walks is_walk
  in_shortest_walks s v u w =
      shortest_mem (bounded_ends (plan_of bs n t terms) (slots_within bs n t terms ok) s (is_appearance v u))

  -- A walk from a station of the plan ends at a station of the plan, in one of its slots or at the start.
  pub walk_ends_within :
      (s : ℕ) (w : List ℕ) (l : List Appearance) → s < n → run (plan_of bs n t terms) (start s) w ≡ some l →
      ((last_or (start s) l).station < n) × ((last_or (start s) l).slot ≤ t)
  unfolding plan_of
  walk_ends_within s w l inside e = (
    run_station (plan_of bs n t terms) n (λ i c there. (contact_within bs n t terms ok i c there).hearer_station) (start s) w inside e,
    run_last_within (plan_of bs n t terms) (slots_within bs n t terms ok) (start s) w (omega arith) e,
  )

  -- No appearance of a station has fewer hops than the station.
  pub appearance_at_least :
      (s v u : ℕ) → u < t + 1 → hops (shortest_walks_to (plan_of bs n t terms) s v) ≤ hops (shortest_walks (plan_of bs n t terms) s v u)
  unfolding shortest_walks shortest_walks_to plan_of
  appearance_at_least s v u h =
      split_hops (bounded_ends (plan_of bs n t terms) (slots_within bs n t terms ok) s (is_at v)) (is_walk (plan_of bs n t terms) s v)
      (below (t + 1)) (walk_one_slot (plan_of bs n t terms) s v (slots_within bs n t terms ok)) ((mem_below (t + 1)).1 h)
      (let few = (accepted bs n t ok).slots in omega arith)

  -- A station's appearances with as many hops as the station have together as many shortest walks as it has.
  pub appearances_account :
      (s v : ℕ) →
      count (shortest_walks_to (plan_of bs n t terms) s v) ≡
      sum (map (λ u.
      cond (eqb (hops (shortest_walks (plan_of bs n t terms) s v u)) (hops (shortest_walks_to (plan_of bs n t terms) s v)))
      (count (shortest_walks (plan_of bs n t terms) s v u)) 0) (below (t + 1)))
  unfolding shortest_walks shortest_walks_to plan_of
  appearances_account s v =
      split_count (bounded_ends (plan_of bs n t terms) (slots_within bs n t terms ok) s (is_at v)) (is_walk (plan_of bs n t terms) s v)
      (below (t + 1)) (walk_one_slot (plan_of bs n t terms) s v (slots_within bs n t terms ok))

-- For two different stations a path is document 000's (Def. 3).
pub path_is_definition3 : (p : Plan) (s z : ℕ) → s ≢ z → (w : List ℕ) → is_path p s z w ≡ is_path000 p s z w
path_is_definition3 = path_definition3

-- The shortest walks of an appearance rise too.
pub shortest_walks_rise : (p : Plan) (s v u : ℕ) → Rising (shortest_walks p s v u)
unfolding shortest_walks
shortest_walks_rise p s v u = shortest_rising p (is_walk p s v u)

-- The complete list rises strictly in lexicographic order, so no walk stands in it twice.
pub complete_list_rises : (p : Plan) (s z : ℕ) → Rising (shortest_walks_to p s z)
unfolding shortest_walks_to
complete_list_rises p s z = shortest_rising p (is_walk_to p s z)

-- A pair of an accepted plan has no walk, or few hops.
pub few_hops :
    (bs : List ℕ) (n t : ℕ) (terms : Terms) (s z : ℕ) → plan_fault bs n t ≡ 0 →
    (shortest_walks_to (plan_of bs n t terms) s z ≡ []) ⊎ (hops (shortest_walks_to (plan_of bs n t terms) s z) < 65535)
unfolding shortest_walks_to plan_of
few_hops bs n t terms s z ok =
    let slots = (accepted bs n t ok).slots in
    ⊎_elim inl (λ h. inr (omega arith)) (hops_bound (bounded_ends (plan_of bs n t terms) (slots_within bs n t terms ok) s (is_at z)))
