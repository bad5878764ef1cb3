-- How many shortest walks have a station of a set inside: against one station's through count, no station, all stations, the
-- members' through counts, and a larger set. Assumes nothing.
use Prim.Native.Nat.{ℕ, ◌≤◌, ◌<◌}
use native.Mathlib.Omega.{arith}
use native.Mathlib.Decide.{ℕ_discrete}
use mathlib.Core.Path.{◌≡◌, refl, sym, ap, subst, ◌∙◌, fun_ext}
use mathlib.Core.Bool.{Bool, true, false, cond, ◌&&◌, and-eq-true_iff}
use mathlib.Core.List.Memᴰ
use mathlib.Core.List.{List, [], ◌∷◌, map, Memᴰ}
use mathlib.Core.Logic.{by_cases, ⊎_elim}
use mathlib.Core.Option.{bind}
use borrow.Author.Tests.{eq-eqb, ne_eqb}
use lib.Dec.{eqb}
use lib.ListN.{length}
use Rattle.temporal.specs.Lists.{below, sum, select, any}
use Rattle.temporal.specs.Plan.{Plan, Terms, start}
use Rattle.temporal.specs.Walk.{run, last_or, stations_of, is_at, is_interior}
use Rattle.temporal.specs.Definition3.{starting_points}
use Rattle.temporal.specs.Shortest.{shortest_walks_to, hops, count, through_in, through}
use Rattle.temporal.specs.Set.{touches, touched_in, touched}
use Rattle.temporal.specs.Bytes.{plan_of}
use Rattle.temporal.specs.Cause.{plan_fault}
use Rattle.lists.proofs.ListLaws.{true_or_false, not_both, any_ext, any_true, any_false, mem_below, select_ext, select_none, length_select, sum_member, sum_zero, sum_exchange}
use Rattle.walks.proofs.PathLaws.{interior_intro}
use Rattle.walks.proofs.WalkLaws.{run_cons, ends_inv}
use Rattle.walks.proofs.Adequacy.{in_complete_list, no_return, walk_ends_within}

-- ---- lists

-- fewer members pass a stricter test
length_select_less :
    {A : Type 0} (t u : A → Bool) (l : List A) → ((x : A) → Memᴰ x l → t x ≡ true → u x ≡ true) →
    length (select t l) ≤ length (select u l)
unfolding select
length_select_less t u [] h = omega arith
length_select_less t u (x ∷ l) h =
    go (t x) (u x) (h x (Memᴰ.head refl)) (length_select_less t u l (λ y m. h y (Memᴰ.tail m)))
  where
    go : (a b : Bool) → (a ≡ true → b ≡ true) → length (select t l) ≤ length (select u l)
        → length (cond a (x ∷ select t l) (select t l)) ≤ length (cond b (x ∷ select u l) (select u l))
    go true true f less = omega arith
    go true false f less = absurd (not_both (f refl) refl)
    go false true f less = omega arith
    go false false f less = less

-- all members pass
pub select_all : {A : Type 0} (t : A → Bool) (l : List A) → ((x : A) → Memᴰ x l → t x ≡ true) → select t l ≡ l
unfolding select
select_all t [] h = refl
select_all t (x ∷ l) h =
    rw (h x (Memᴰ.head refl)) (ap (◌∷◌ x) (select_all t l (λ y m. h y (Memᴰ.tail m))))

-- a sum of smaller terms is smaller
sum_less :
    {A : Type 0} (f g : A → ℕ) (l : List A) → ((x : A) → f x ≤ g x) → sum (map f l) ≤ sum (map g l)
unfolding sum
sum_less f g [] h = omega arith
sum_less f g (x ∷ l) h = let here = h x in let rest = sum_less f g l h in omega arith

-- where some member passes, at least one is counted
any_at_most : (t : ℕ → Bool) (l : List ℕ) → cond (any t l) 1 0 ≤ sum (map (λ v. cond (t v) 1 0) l)
any_at_most t l =
    ⊎_elim
    (λ (e : any t l ≡ true).
    let (v, m, q) = (any_true t l).0 e in
    let one : cond {A = ℕ} (t v) 1 0 ≡ 1 = ap (λ b. cond b 1 0) q in
    let less = sum_member (λ v. cond {A = ℕ} (t v) 1 0) m in
    rw e (omega arith))
    (λ (e : any t l ≡ false). rw e (omega arith))
    (true_or_false (any t l))

-- ---- a walk and a set

module _ (p : Plan) (s z : ℕ) where
  -- a member inside touches the walk
  touches_intro :
      (m : ℕ → Bool) (v : ℕ) (w : List ℕ) → v < p.stations → m v ≡ true → is_interior p s z v w ≡ true →
      touches p s z m w ≡ true
  unfolding touches
  touches_intro m v w h e i =
      (any_true (λ v. m v && is_interior p s z v w) (below p.stations)).1
      (v, (mem_below p.stations).1 h, (and-eq-true_iff (m v) (is_interior p s z v w)).1 (e, i))

  -- For the empty set it is 0.
  pub touched_none : (m : ℕ → Bool) → ((v : ℕ) → v < p.stations → m v ≡ false) → touched p s z m ≡ 0
  unfolding touched touches
  touched_none m none =
      ap length
      (select_none (shortest_walks_to p s z)
      (λ w there.
      (any_false (λ v. m v && is_interior p s z v w) (below p.stations)).1
      (λ v h. rw (none v ((mem_below p.stations).0 h)))))

  -- where there is no walk it is 0
  pub touched_empty : (m : ℕ → Bool) → shortest_walks_to p s z ≡ [] → touched p s z m ≡ 0
  unfolding touched select
  touched_empty m e = rw e

  -- two tests that agree on the stations
  pub touched_same :
      (m m' : ℕ → Bool) → ((v : ℕ) → v < p.stations → m v ≡ m' v) → touched p s z m ≡ touched p s z m'
  unfolding touched touches
  touched_same m m' same =
      ap length
      (select_ext (shortest_walks_to p s z)
      (λ w there.
      any_ext (below p.stations)
      (λ v h. ap (λ b. b && is_interior p s z v w) (same v ((mem_below p.stations).0 h)))))

  -- A larger set never has less.
  pub touched_larger :
      (m m' : ℕ → Bool) → ((v : ℕ) → v < p.stations → m v ≡ true → m' v ≡ true) → touched p s z m ≤ touched p s z m'
  unfolding touched touches
  touched_larger m m' more =
      length_select_less _ _ (shortest_walks_to p s z)
      (λ w there e.
      let (v, h, q) = (any_true (λ v. m v && is_interior p s z v w) (below p.stations)).0 e in
      let (is, inside) = (and-eq-true_iff (m v) (is_interior p s z v w)).0 q in
      touches_intro m' v w ((mem_below p.stations).0 h) (more v ((mem_below p.stations).0 h) is) inside)

  -- It is at least the through count of each member.
  pub touched_each : (m : ℕ → Bool) (v : ℕ) → v < p.stations → m v ≡ true → through p s z v ≤ touched p s z m
  unfolding touched through
  touched_each m v h e =
      length_select_less _ _ (shortest_walks_to p s z) (λ w there inside. touches_intro m v w h e inside)

  -- It is at most the sum of the members' through counts.
  pub touched_sum :
      (m : ℕ → Bool) → touched p s z m ≤ sum (map (λ v. cond (m v) (through p s z v) 0) (below p.stations))
  unfolding touched through touches
  touched_sum m =
      let l = shortest_walks_to p s z in
      let ns = below p.stations in
      let bound =
      sum_less (λ w. cond (any (λ v. m v && is_interior p s z v w) ns) 1 0)
      (λ w. sum (map (λ v. cond (m v && is_interior p s z v w) 1 0) ns)) l
      (λ w. any_at_most (λ v. m v && is_interior p s z v w) ns) in
      let swapped : sum (map (λ w. sum (map (λ v. cond (m v && is_interior p s z v w) 1 0) ns)) l)
      ≡ sum (map (λ v. cond (m v) (length (select (is_interior p s z v) l)) 0) ns) =
      sum_exchange (λ w v. cond (m v && is_interior p s z v w) 1 0) l ns ∙
      ap (λ f. sum (map f ns)) (fun_ext (λ v. column l v (m v))) in
      omega (arith, length_select (λ w. any (λ v. m v && is_interior p s z v w) ns) l)
    where
      column : (l : List (List ℕ)) (v : ℕ) (b : Bool)
          → sum (map (λ w. cond (b && is_interior p s z v w) 1 0) l) ≡ cond b (length (select (is_interior p s z v) l)) 0
      column l v true = sym (length_select (is_interior p s z v) l)
      column l v false = sum_zero l (λ w m. refl)

  -- For a set of one station it is the station's through count, in any list of walks.
  pub touched_one_in : (l : List (List ℕ)) (v : ℕ) → v < p.stations → touched_in p s z l (eqb v) ≡ through_in p s z l v
  unfolding touches
  touched_one_in l v h = ap length (select_ext l (λ w there. same w))
    where
      same : (w : List ℕ) → any (λ u. eqb v u && is_interior p s z u w) (below p.stations) ≡ is_interior p s z v w
      same w =
          ⊎_elim
          (λ (e : is_interior p s z v w ≡ true).
          (any_true (λ u. eqb v u && is_interior p s z u w) (below p.stations)).1
          (v, (mem_below p.stations).1 h, (and-eq-true_iff (eqb v v) (is_interior p s z v w)).1 (eq-eqb v v refl, e)) ∙ sym e)
          (λ (e : is_interior p s z v w ≡ false).
          (any_false (λ u. eqb v u && is_interior p s z u w) (below p.stations)).1
          (λ u there.
          by_cases (ℕ_discrete v u) (λ q. rw (eq-eqb v u q) (subst (λ x. is_interior p s z x w ≡ false) q e))
          (λ ne. rw (ne_eqb v u ne))) ∙ sym e)
          (true_or_false (is_interior p s z v w))

  -- so it is for the shortest walks
  pub touched_one : (v : ℕ) → v < p.stations → touched p s z (eqb v) ≡ through p s z v
  unfolding touched through
  touched_one v h = touched_one_in (shortest_walks_to p s z) v h

-- ---- all stations

module _ (bs : List ℕ) (n t : ℕ) (terms : Terms) (ok : plan_fault bs n t ≡ 0) (s z : ℕ) (source : s < n) where
  -- a shortest walk of more than one hop has the station inside that its first contact leads to
  first_inside :
      (w : List ℕ) → Memᴰ w (shortest_walks_to (plan_of bs n t terms) s z) → 1 < length w →
      (v : ℕ) × (v < n) × (is_interior (plan_of bs n t terms) s z v w ≡ true)
  unfolding run bind last_or starting_points
  first_inside [] m h = absurd (omega arith)
  first_inside (i ∷ []) m h = absurd (omega arith)
  first_inside (i ∷ j ∷ w) m h =
      let p = plan_of bs n t terms in
      let r = ends_inv p (start s) (is_at z) (i ∷ j ∷ w) ((in_complete_list bs n t terms ok s z (i ∷ j ∷ w)).0 m).0 in
      let a = run_cons p (start s) i (j ∷ w) r.runs in
      let b = run_cons p a.next j w a.goes_on in
      let visits : a.next ∷ b.next ∷ b.others ≡ r.visits = ap (◌∷◌ a.next) b.whole ∙ a.whole in
      let (home, sooner) = no_return bs n t terms ok s z (i ∷ j ∷ w) m r.runs in
      let visited = subst (λ l. Memᴰ a.next.station (stations_of l)) visits (Memᴰ.head refl) in (
        a.next.station,
        (walk_ends_within bs n t terms ok s (i ∷ []) (a.next ∷ []) source (rw a.steps)).0,
        interior_intro p s z a.next.station (i ∷ j ∷ w)
            (λ q. home (Memᴰ.cast (sym q) visited))
            (λ q. sooner
            (subst (λ l. Memᴰ z (starting_points (start s) l)) visits
            (Memᴰ.tail (Memᴰ.head (sym q)))))
            r.runs visited,
      )

  -- For all stations it is the count where the pair has more than one hop.
  pub touched_all :
      (m : ℕ → Bool) → ((v : ℕ) → v < n → m v ≡ true) → 1 < hops (shortest_walks_to (plan_of bs n t terms) s z) →
      touched (plan_of bs n t terms) s z m ≡ count (shortest_walks_to (plan_of bs n t terms) s z)
  unfolding touched plan_of
  touched_all m every more =
      ap length
      (select_all (touches (plan_of bs n t terms) s z m) (shortest_walks_to (plan_of bs n t terms) s z)
      (λ w there.
      let size = ((in_complete_list bs n t terms ok s z w).0 there).1 in
      let (v, inside, interior) = first_inside w there (omega arith) in
      touches_intro (plan_of bs n t terms) s z m v w inside (every v inside) interior))
