-- Through counts by what avoids a set of stations: of the shortest walks from s that reach z by a slot, those that have a member
-- inside and those that never go on from one are together all. A single station is the set of it alone.
-- Assumes nothing.
use Prim.Native.Nat.{ℕ, ◌+◌, ◌<◌}
use mathlib.Core.Path.{◌≡◌, refl, sym, ap, subst, ◌∙◌, fun_ext}
use mathlib.Core.Bool.{Bool, true, false, not, cond, ◌&&◌, ◌||◌, or-false, and-eq-true_iff}
use mathlib.Core.List.Memᴰ
use mathlib.Core.List.{List, [], ◌∷◌, Memᴰ}
use mathlib.Core.Option.{some}
use native.Mathlib.Omega.{arith}
use borrow.Author.Tests.{eqb-true}
use lib.Dec.{eqb}
use lib.ListN.{length, get_elem?}
use Rattle.temporal.specs.Lists.{below, any, member, select, tuples}
use Rattle.temporal.specs.Plan.{Contact, Plan, Terms, Appearance, start}
use Rattle.temporal.specs.Walk.{run, last_or, stations_of, holds, ends_in, is_interior}
use Rattle.temporal.specs.Definition3.{starting_points}
use Rattle.temporal.specs.Shortest.{of_hops, shortest, hops, count}
use Rattle.temporal.specs.Set.{touches, touched_in}
use Rattle.temporal.specs.Foremost.{arrives_by, walks_by}
use Rattle.temporal.specs.Bytes.{plan_of}
use Rattle.temporal.specs.Cause.{plan_fault}
use Rattle.lists.proofs.ListLaws.{not_both, not_true_false, by_member, mem_below, mem_select, any_true, any_false, any_ext}
use Rattle.lists.proofs.ListLaws.{member_true, select_select, length_select, sum_ext, sum_map_add}
use Rattle.walks.proofs.RuleLaws.{leads_below}
use Rattle.walks.proofs.WalkLaws.{SlotsWithin, step_inv, run_nil, run_cons, ends_inv, ends_at}
use Rattle.walks.proofs.PathLaws.{visited_starts_or_last}
use Rattle.walks.proofs.PlanLaws.{contact_within, slots_within}
use Rattle.walks.proofs.ShortestLaws.{shortest_mem}
use Rattle.walks.proofs.Adequacy.{bounded_ends, no_return_of}
use Rattle.walks.proofs.ForemostLaws.{by_sooner, by_station}
use Rattle.counting.proofs.Weights.{worth, behind, value, total, everywhere, value_less, value_ends}
use Rattle.counting.proofs.Fewest.{shortest_of_hops_law}

-- the permission to go on from every station that does not pass the test m, and from the source s in any case
unfoldable pub avoiding_set : ℕ → (ℕ → Bool) → ℕ → Bool
avoiding_set s m u = not (m u) || eqb u s

-- a walk is worth the weight of its last appearance where it may go on from each of its starting points, and else 0
pub value_run : (p : Plan) (g : ℕ → Bool) (f : Appearance → ℕ) (x : Appearance) (w : List ℕ) {l : List Appearance}
    → run p x w ≡ some l
    → value p g x f w ≡ cond (any (λ u. not (g u)) (starting_points x l)) 0 (f (last_or x l))
unfolding value behind worth any starting_points last_or
value_run p g f x [] e = rw (← run_nil p x e)
value_run p g f x (i ∷ w) e =
    let r = run_cons p x i w e in
    rw (← r.whole, r.steps) (go (g x.station) _ _ _ (value_run p g f r.next w r.goes_on))
  where
    go : (b a : Bool) (n m : ℕ) → n ≡ cond a 0 m → cond b n 0 ≡ cond (not b || a) 0 m
    go true a n m h = h
    go false a n m h = refl

-- the starting points of a run that is at the station of its end only there are the stations that it visits without the last
pub starts_visited : (v : ℕ) (x : Appearance) (l : List Appearance)
    → (Memᴰ (last_or x l).station (starting_points x l) → ⊥)
    → member v (starting_points x l) ≡ (not (eqb v (last_or x l).station) && member v (x.station ∷ stations_of l))
starts_visited v x l once = go (eqb v (last_or x l).station) refl
  where
    go : (b : Bool) → eqb v (last_or x l).station ≡ b
        → member v (starting_points x l) ≡ (not b && member v (x.station ∷ stations_of l))
    go true q =
        not_true_false (member v (starting_points x l)) (λ there.
        once (Memᴰ.cast (sym (eqb-true v _ q)) ((member_true v (starting_points x l)).0 there)))
    go false q = sym (visited_starts_or_last v x l ∙ rw (q, or-false))

-- a list whose members that pass a test lie below n has one where some number below n passes and stands in it
any_below : (n : ℕ) (t : ℕ → Bool) (l : List ℕ) → ((v : ℕ) → Memᴰ v l → t v ≡ true → v < n)
    → any t l ≡ any (λ v. t v && member v l) (below n)
any_below n t l inside = go (any t l) refl
  where
    go : (b : Bool) → any t l ≡ b → b ≡ any (λ v. t v && member v l) (below n)
    go true e =
        let (v, m, q) = (any_true t l).0 e in
        sym ((any_true (λ v. t v && member v l) (below n)).1
        (v, (mem_below n).1 (inside v m q), (and-eq-true_iff (t v) (member v l)).1 (q, (member_true v l).1 m)))
    go false e =
        sym ((any_false (λ v. t v && member v l) (below n)).1 (λ v m.
        not_true_false (t v && member v l) (λ both.
        let (q, there) = (and-eq-true_iff (t v) (member v l)).0 both in
        not_both q ((any_false t l).0 e v ((member_true v l).0 there)))))

-- w is a walk from s to z that is at z at its end alone
pub record EndsOnce (p : Plan) (s z : ℕ) (w : List ℕ) : Type 0 where
  pub visits : List Appearance
  pub runs : run p (start s) w ≡ some visits
  pub ends : (last_or (start s) visits).station ≡ z
  pub once : Memᴰ (last_or (start s) visits).station (starting_points (start s) visits) → ⊥

-- where the contacts' hearers are stations of the plan
module _ (p : Plan) (within : (i : ℕ) (c : Contact) → get_elem? p.contacts i ≡ some c → c.hearer < p.stations) where
  -- a run visits stations of the plan
  visited_within : (x : Appearance) (w : List ℕ) {l : List Appearance} → run p x w ≡ some l
      → (v : ℕ) → Memᴰ v (stations_of l) → v < p.stations
  visited_within x [] e v m = absurd (Memᴰ.not-nil (rw (← run_nil p x e) at m))
  visited_within x (i ∷ w) e v m =
      let r = run_cons p x i w e in
      let s = step_inv p x i r.steps in
      let here : r.next.station < p.stations =
      leads_below s.contact x.station r.next.station p.stations
      (within i s.contact s.at_position) s.leads in
      by_member (rw (← r.whole) at m) (λ q. rw q here) (visited_within r.next w r.goes_on v)

  -- on such a walk a member is a starting point and not the source exactly where some member is inside
  inside : (s z : ℕ) (m : ℕ → Bool) (w : List ℕ) (r : EndsOnce p s z w)
      → any (λ u. not (avoiding_set s m u)) (starting_points (start s) r.visits) ≡ touches p s z m w
  unfolding avoiding_set touches is_interior holds member any
  inside s z m w r =
      any_below p.stations (λ u. not (avoiding_set s m u)) points found
      ∙ any_ext (below p.stations) (λ v q. rw r.runs
      (rw (starts_visited v (start s) r.visits r.once, r.ends) (go v (m v) (eqb v s))))
    where
      points : List ℕ
      points = starting_points (start s) r.visits

      other : (a b : Bool) → not (not a || b) ≡ true → b ≡ false
      other true false e = refl
      other true true e = sym e
      other false b e = absurd (not_both e refl)

      found : (v : ℕ) → Memᴰ v points → not (not (m v) || eqb v s) ≡ true → v < p.stations
      found v there q =
          let d = other (m v) (eqb v s) q in
          let visited = sym (starts_visited v (start s) r.visits r.once) ∙ (member_true v points).1 there in
          visited_within (start s) w r.runs v
          ((member_true v (stations_of r.visits)).0 (rw d at ((and-eq-true_iff (not (eqb v _)) _).0 visited).1))

      go : (v : ℕ) (a b : Bool)
          → (not (not a || b) && (not (eqb v z) && (b || member v (stations_of r.visits))))
          ≡ (a && (not b && (not (eqb v z) && member v (stations_of r.visits))))
      go v true true = refl
      go v true false = refl
      go v false b = refl

  -- walks from s that end in a test t
  module _ (s z : ℕ) (t : Appearance → Bool) where
    -- a walk that ends in the test, and is at z at its end alone, has some member inside, or never goes on from one
    one_or_other : (m : ℕ → Bool) (w : List ℕ) → (ends_in p (start s) t w ≡ true → EndsOnce p s z w)
        → cond (ends_in p (start s) t w && touches p s z m w) 1 0
        + value p (avoiding_set s m) (start s) (λ y. cond (t y) 1 0) w
        ≡ cond (ends_in p (start s) t w) 1 0
    unfolding everywhere
    one_or_other m w once = go (ends_in p (start s) t w) refl
      where
        weight : Appearance → ℕ
        weight y = cond (t y) 1 0

        together : (c : Bool) → ◌≡◌ {A = ℕ} (cond c 1 0 + cond c 0 1) 1
        together true = refl
        together false = refl

        go : (b : Bool) → ends_in p (start s) t w ≡ b
            → cond (b && touches p s z m w) 1 0 + value p (avoiding_set s m) (start s) (λ y. cond (t y) 1 0) w
            ≡ cond b 1 0
        go true q =
            let r = once q in
            let there : t (last_or (start s) r.visits) ≡ true = ends_at p (start s) t w q r.runs in
            rw (value_run p (avoiding_set s m) weight (start s) w r.runs, inside s z m w r, there)
            (together (touches p s z m w))
        go false q =
            let less = value_less p (avoiding_set s m) everywhere (λ u h. refl) (start s) weight w in
            let none : value p everywhere (start s) weight w ≡ 0 = rw q at (value_ends p t (start s) w) in
            omega arith

    -- where the shortest walks that end in it are at z at their end alone
    module _ (g : SlotsWithin p)
        (once : (w : List ℕ) → Memᴰ w (shortest p (ends_in p (start s) t)) → EndsOnce p s z w) where
      -- all lists of as many positions as these have
      all : List (List ℕ)
      all = tuples (length p.contacts) (hops (shortest p (ends_in p (start s) t)))

      -- they are the walks that end in the test among them
      listed : shortest p (ends_in p (start s) t) ≡ select (ends_in p (start s) t) all
      unfolding of_hops all
      listed = shortest_of_hops_law (bounded_ends p g s t)

      -- such a walk among them is
      is_once : (w : List ℕ) → Memᴰ w all → ends_in p (start s) t w ≡ true → EndsOnce p s z w
      is_once w m q =
          once w (subst (λ l. Memᴰ w l) (sym listed) ((mem_select (ends_in p (start s) t) all).1 (m, q)))

      -- those that have a member inside and those that never go on from one are together all
      touched_or_avoiding : (m : ℕ → Bool)
          → touched_in p s z (shortest p (ends_in p (start s) t)) m
          + total p (avoiding_set s m) (start s) (λ y. cond (t y) 1 0) (hops (shortest p (ends_in p (start s) t)))
          ≡ count (shortest p (ends_in p (start s) t))
      unfolding total all
      touched_or_avoiding m =
          ap (λ n. n + total p (avoiding_set s m) (start s) (λ y. cond (t y) 1 0)
          (hops (shortest p (ends_in p (start s) t))))
          (ap (λ l. length (select (touches p s z m) l)) listed
          ∙ ap length (select_select (touches p s z m) (ends_in p (start s) t) all)
          ∙ length_select (λ w. ends_in p (start s) t w && touches p s z m w) all)
          ∙ sym (sum_map_add (λ w. cond (ends_in p (start s) t w && touches p s z m w) 1 0)
          (value p (avoiding_set s m) (start s) (λ y. cond (t y) 1 0)) all)
          ∙ sum_ext all (λ w i. one_or_other m w (is_once w i))
          ∙ sym (ap length listed ∙ length_select (ends_in p (start s) t) all)

module _ (bs : List ℕ) (n t : ℕ) (terms : Terms) (ok : plan_fault bs n t ≡ 0) where
  -- a shortest walk that reaches z by a slot is at z at its end alone
  walks_by_once : (s z e : ℕ) (w : List ℕ)
      → Memᴰ w (shortest (plan_of bs n t terms) (ends_in (plan_of bs n t terms) (start s) (arrives_by z e)))
      → EndsOnce (plan_of bs n t terms) s z w
  walks_by_once s z e w m =
      let p = plan_of bs n t terms in
      let fits = slots_within bs n t terms ok in
      let r = ends_inv p (start s) (arrives_by z e) w ((shortest_mem (bounded_ends p fits s (arrives_by z e))).0 m).0 in
      record {
        visits = r.visits;
        runs = r.runs;
        ends = by_station z e _ r.passes;
        once = (no_return_of p fits s (arrives_by z e) (by_sooner z e) w m r.runs).1;
      }

  -- In an accepted plan, for every s, z and slot e and every set, the shortest walks from s that reach z by slot e and
  -- have a member inside and those that never go on from one are together all.
  pub touched_avoiding : (s z e : ℕ) (m : ℕ → Bool)
      → touched_in (plan_of bs n t terms) s z (walks_by (plan_of bs n t terms) s z e) m
      + total (plan_of bs n t terms) (avoiding_set s m) (start s) (λ y. cond (arrives_by z e y) 1 0)
      (hops (walks_by (plan_of bs n t terms) s z e))
      ≡ count (walks_by (plan_of bs n t terms) s z e)
  unfolding plan_of walks_by
  touched_avoiding s z e m =
      touched_or_avoiding (plan_of bs n t terms) (λ i c there. (contact_within bs n t terms ok i c there).hearer_station) s z (arrives_by z e)
      (slots_within bs n t terms ok) (walks_by_once s z e) m

-- ---- sets that touch the same walks

-- the destination is never inside, member or not
pub touched_others : (p : Plan) (s z : ℕ) (l : List (List ℕ)) (m : ℕ → Bool)
    → touched_in p s z l (λ v. not (eqb v z) && m v) ≡ touched_in p s z l m
unfolding touches is_interior
touched_others p s z l m =
    ap (λ t. length (select t l)) (fun_ext (λ w.
    ap (λ t. any t (below p.stations)) (fun_ext (λ v. go (eqb v z) (m v) (eqb v s) _))))
  where
    go : (a b c d : Bool) → ((not a && b) && (not c && (not a && d))) ≡ (b && (not c && (not a && d)))
    go true true true d = refl
    go true true false d = refl
    go true false c d = refl
    go false b c d = refl
