-- Every hop accounted (document 02, C-15). A path between two stations has one station fewer inside than it has hops, all
-- different. Over paths of k hops each, the stations inside therefore add up to the number of paths times k - 1: the sum over the
-- stations and the sum over the paths exchange. Over the complete list of a pair, or its shortest foremost paths, the terms are
-- the through counts. A law marked (kept) rests on a reading being kept until the plan ends.
-- Assumes nothing.
use Prim.Native.Nat.{ℕ, ◌*◌, ◌-◌, ◌<◌}
use native.Mathlib.Omega.{arith}
use mathlib.Core.Path.{◌≡◌, refl, sym, ap, subst, ◌∙◌}
use mathlib.Core.Bool.{Bool, true, false, not, cond}
use mathlib.Core.List.{List, [], ◌∷◌, map, Memᴰ}
use mathlib.Core.Logic.{◌≢◌}
use mathlib.Core.Option.{some}
use borrow.Author.Tests.{eqb-false, ne_eqb, not-true}
use lib.Dec.{eqb}
use lib.ListN.{length, length-map, get_elem?}
use Rattle.temporal.specs.Lists.{below, sum, select, member}
use Rattle.temporal.specs.Plan.{Contact, Plan, Terms, Keeps, Appearance, start, leads_to}
use Rattle.temporal.specs.Walk.{run, last_or, stations_of, is_path, is_interior, HasInside}
use Rattle.temporal.specs.Shortest.{shortest_walks_to, hops, count, through}
use Rattle.temporal.specs.Foremost.{arrival, foremost_paths}
use Rattle.temporal.specs.Bytes.{plan_of}
use Rattle.temporal.specs.Cause.{plan_fault}
use Rattle.temporal.specs.OutcomeForemost.{foremost_through}
use Rattle.lists.proofs.ListLaws.{
  by_member,
  mem_select,
  select_ext,
  member_true,
  distinct_cons,
  distinct_select,
  length_without,
  sum_ext,
  sum_same,
  length_select,
  length_select_member,
  sum_exchange,
}
use Rattle.walks.proofs.RuleLaws.{leads_below}
use Rattle.walks.proofs.WalkLaws.{step_inv, run_nil, run_cons, run_length}
use Rattle.walks.proofs.PathLaws.{path_inv, last_visited, interior_inv, interior_intro}
use Rattle.walks.proofs.PlanLaws.{contact_within}
use Rattle.walks.proofs.Adequacy.{listed_path, in_shortest_walks}
use Rattle.walks.proofs.ForemostLaws.{foremost_walks_are_paths}

-- ---- one path

-- two tests of which each implies the other are the same
same_test : (a b : Bool) → (a ≡ true → b ≡ true) → (b ≡ true → a ≡ true) → a ≡ b
same_test true b f g = sym (f refl)
same_test false true f g = g refl
same_test false false f g = refl

-- A path from s to another station z has exactly one station fewer inside than it has hops, all different: those of its run
-- without the last. This holds of every plan.
pub path_interior : (p : Plan) (s z : ℕ) → s ≢ z → (w : List ℕ) → is_path p s z w ≡ true → HasInside p s z w (length w - 1)
unfolding last_or
path_interior p s z other w e =
    let r = path_inv p s z w e in
    let visited = stations_of r.visits in
    let (new, apart) = (distinct_cons s visited).0 r.apart in
    let reached = ap (λ b. cond {A = ℕ} b 1 0) ((member_true z visited).1 (last r.visits r.ends)) in
    let size = length-map r.visits (λ (x : Appearance). x.station) ∙ run_length p (start s) w r.runs in
    record {
      stations = select (λ v. not (eqb z v)) visited;
      exactly = λ v. same_test (is_interior p s z v w) _ (stands v r.runs) (is_inside v r.runs new);
      different = distinct_select (λ v. not (eqb z v)) visited apart;
      number = omega (arith, length_without z visited apart, reached, size);
    }
  where
    last : (l : List Appearance) → (last_or (start s) l).station ≡ z → Memᴰ z (stations_of l)
    last [] q = absurd (other q)
    last (y ∷ l) q = mathlib.Core.List.Memᴰ.cast (sym q) (last_visited y l)

    stands :
        (v : ℕ) {l : List Appearance} → run p (start s) w ≡ some l → is_interior p s z v w ≡ true →
        member v (select (λ v. not (eqb z v)) (stations_of l)) ≡ true
    stands v {l} runs q =
        let h = interior_inv p s z v w q in
        let both : some h.visits ≡ some l = sym h.runs ∙ runs in
        let same : h.visits ≡ l = cc in
        let visited = subst (λ l. Memᴰ v (stations_of l)) same h.visited in
        let not_z = ap not (ne_eqb z v (λ k. h.not_destination (sym k))) in
        (member_true v (select (λ v. not (eqb z v)) (stations_of l))).1 ((mem_select _ (stations_of l)).1 (visited, not_z))

    is_inside :
        (v : ℕ) {l : List Appearance} → run p (start s) w ≡ some l → (Memᴰ s (stations_of l) → ⊥) →
        member v (select (λ v. not (eqb z v)) (stations_of l)) ≡ true → is_interior p s z v w ≡ true
    is_inside v {l} runs new q =
        let there = (member_true v (select (λ v. not (eqb z v)) (stations_of l))).0 q in
        let (visited, not_z) = (mem_select _ (stations_of l)).0 there in
        interior_intro p s z v w (λ k. new (mathlib.Core.List.Memᴰ.cast (sym k) visited)) (λ k. eqb-false z v (not-true _ not_z) (sym k))
        runs visited

-- a path of k hops has k - 1
path_interior_of :
    (p : Plan) (s z : ℕ) → s ≢ z → (k : ℕ) (w : List ℕ) → (is_path p s z w ≡ true) × (length w ≡ k) → HasInside p s z w (k - 1)
path_interior_of p s z other k w (path, size) =
    subst (λ k. HasInside p s z w (k - 1)) size (path_interior p s z other w path)

-- ---- the stations of a plan

-- each contact of a plan leads to stations of the plan alone
pub record StationsWithin (p : Plan) : Type 0 where
  pub within :
      (i : ℕ) (c : Contact) → get_elem? p.contacts i ≡ some c → (u v : ℕ) → leads_to c u ≡ some v → v < p.stations

-- each contact of an accepted plan does
pub stations_within : (bs : List ℕ) (n t : ℕ) (terms : Terms) → plan_fault bs n t ≡ 0 → StationsWithin (plan_of bs n t terms)
unfolding plan_of
stations_within bs n t terms ok =
    record {
      within = λ i c there u v leads.
          let h = contact_within bs n t terms ok i c there in
          leads_below c u v n h.hearer_station leads;
    }

module _ (p : Plan) (g : StationsWithin p) where
  -- a run visits stations of the plan alone
  pub run_stations :
      (x : Appearance) (w : List ℕ) {l : List Appearance} → run p x w ≡ some l → (v : ℕ) → Memᴰ v (stations_of l) →
      v < p.stations
  run_stations x [] e v m = absurd (mathlib.Core.List.Memᴰ.not-nil (rw (← run_nil p x e) at m))
  run_stations x (i ∷ w) e v m =
      let r = run_cons p x i w e in
      let s = step_inv p x i r.steps in
      let here = g.within i s.contact s.at_position x.station r.next.station s.leads in
      let visited : Memᴰ v (stations_of (r.next ∷ r.others)) = rw (← r.whole) at m in
      by_member visited (λ q. rw q here) (run_stations r.next w r.goes_on v)

  module _ (s z : ℕ) (other : s ≢ z) where
    -- Among the stations of the plan, one fewer are inside a path than it has hops.
    pub interior_count :
        (w : List ℕ) → is_path p s z w ≡ true →
        length (select (λ v. is_interior p s z v w) (below p.stations)) ≡ length w - 1
    interior_count w e =
        let h = path_interior p s z other w e in
        ap length (select_ext (below p.stations) (λ v m. h.exactly v))
        ∙ length_select_member p.stations h.stations h.different
        (λ v m. within v (h.exactly v ∙ (member_true v h.stations).1 m))
        ∙ h.number
      where
        within : (v : ℕ) → is_interior p s z v w ≡ true → v < p.stations
        within v q = let r = interior_inv p s z v w q in run_stations (start s) w r.runs v r.visited

    -- Over any list of paths of k hops each: how many of them have a station inside, added up over the stations, is their number
    -- times k - 1.
    pub account :
        (k : ℕ) (l : List (List ℕ)) → ((w : List ℕ) → Memᴰ w l → (is_path p s z w ≡ true) × (length w ≡ k)) →
        sum (map (λ v. length (select (is_interior p s z v) l)) (below p.stations)) ≡ length l * (k - 1)
    account k l paths =
        sum_ext (below p.stations) (λ v m. length_select (is_interior p s z v) l)
        ∙ sum_exchange (λ v w. cond (is_interior p s z v w) 1 0) (below p.stations) l
        ∙ sum_same (k - 1) l each
      where
        each : (w : List ℕ) → Memᴰ w l → sum (map (λ v. cond (is_interior p s z v w) 1 0) (below p.stations)) ≡ k - 1
        each w m =
            let (path, size) = paths w m in
            sym (length_select (λ v. is_interior p s z v w) (below p.stations))
            ∙ interior_count w path
            ∙ ap (λ k. k - 1) size

-- ---- the complete list, and the shortest foremost paths

module _ (bs : List ℕ) (n t : ℕ) (terms : Terms) (ok : plan_fault bs n t ≡ 0) (keeps : Keeps t terms) (s z : ℕ) (other : s ≢ z) where
  -- (kept) Each shortest walk between two different stations of an accepted plan has exactly hops - 1 stations inside, all different.
  pub shortest_interior :
      (w : List ℕ) → Memᴰ w (shortest_walks_to (plan_of bs n t terms) s z) →
      HasInside (plan_of bs n t terms) s z w (hops (shortest_walks_to (plan_of bs n t terms) s z) - 1)
  shortest_interior w m = path_interior_of (plan_of bs n t terms) s z other _ w (listed_path bs n t terms ok keeps s z w m)

  -- (kept) Every hop accounted: their through counts add up to count × (hops - 1). Where there is no path both are 0.
  pub shortest_accounted :
      sum (map (through (plan_of bs n t terms) s z) (below n)) ≡
      count (shortest_walks_to (plan_of bs n t terms) s z) * (hops (shortest_walks_to (plan_of bs n t terms) s z) - 1)
  unfolding through plan_of
  shortest_accounted =
      account (plan_of bs n t terms) (stations_within bs n t terms ok) s z other (hops (shortest_walks_to (plan_of bs n t terms) s z))
      (shortest_walks_to (plan_of bs n t terms) s z) (listed_path bs n t terms ok keeps s z)

  -- (kept) a shortest foremost path is a path with the list's hops
  foremost_path :
      (w : List ℕ) → Memᴰ w (foremost_paths (plan_of bs n t terms) s z) →
      (is_path (plan_of bs n t terms) s z w ≡ true) × (length w ≡ hops (foremost_paths (plan_of bs n t terms) s z))
  unfolding foremost_paths
  foremost_path w m = (
    foremost_walks_are_paths bs n t terms ok s z keeps w m,
    ((in_shortest_walks bs n t terms ok s z (arrival (plan_of bs n t terms) s z) w).0 m).1,
  )

  -- (kept) Both hold of the shortest foremost paths.
  pub foremost_interior :
      (w : List ℕ) → Memᴰ w (foremost_paths (plan_of bs n t terms) s z) →
      HasInside (plan_of bs n t terms) s z w (hops (foremost_paths (plan_of bs n t terms) s z) - 1)
  foremost_interior w m = path_interior_of (plan_of bs n t terms) s z other _ w (foremost_path w m)

  -- (kept)
  pub foremost_accounted :
      sum (map (foremost_through (plan_of bs n t terms) s z) (below n)) ≡
      count (foremost_paths (plan_of bs n t terms) s z) * (hops (foremost_paths (plan_of bs n t terms) s z) - 1)
  unfolding foremost_through plan_of
  foremost_accounted =
      account (plan_of bs n t terms) (stations_within bs n t terms ok) s z other (hops (foremost_paths (plan_of bs n t terms) s z))
      (foremost_paths (plan_of bs n t terms) s z) foremost_path
