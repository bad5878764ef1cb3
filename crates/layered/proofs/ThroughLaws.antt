-- The shortest walks of the layered plan from s to z in layer 1 are, lowered, the plan's shortest walks from s to z that have v inside, in
-- their order. Assumes nothing.
use Prim.Native.Nat.{ℕ, suc, ◌+◌, ◌*◌, ◌≤◌, ◌<◌}
use native.Mathlib.Omega.{arith}
use mathlib.Core.Path.{◌≡◌, refl, sym, ap, ap₂, subst, ◌∙◌}
use mathlib.Core.Bool.{Bool, true, false, ◌&&◌, ◌||◌, or_assoc, or-false, and-eq-true_iff}
use mathlib.Core.List.{List, [], ◌∷◌, map, Memᴰ}
use mathlib.Core.Logic.{◌⊎◌, inl, inr, ⊎_elim, ◌≢◌}
use mathlib.Core.Option.{some}
use borrow.Author.Tests.{eqb-true, ne_eqb}
use lib.Dec.{eqb}
use lib.ListN.{length, length-map}
use Rattle.temporal.specs.Lists.{select, member, any, Before, Rising}
use Rattle.temporal.specs.Plan.{Contact, Terms, Appearance, start}
use Rattle.temporal.specs.Walk.{run, last_or, stations_of, holds, is_at, is_walk_to, is_interior}
use Rattle.temporal.specs.Shortest.{shortest_walks_to, hops, count, through}
use Rattle.temporal.specs.Bytes.{contact_at, records, plan_of}
use Rattle.temporal.specs.Cause.{plan_fault}
use Rattle.walks.proofs.Accepted.{accepted}
use Rattle.walks.proofs.PlanLaws.{contact_inv, contacts_length}
use Rattle.lists.proofs.ListLaws.{mem_map, mem_select, rising_select, empty_or_member}
use Rattle.walks.proofs.ShortestLaws.{hops_empty}
use Rattle.walks.proofs.WalkLaws.{run_nil, run_cons, run_positions, step_inv, ends_inv}
use Rattle.walks.proofs.Adequacy.{in_complete_list, walk_at_least, walk_within_slots, complete_list_rises}
use Rattle.layered.specs.Layered.{in_layer, heard_in, down, layered}
use Rattle.layered.proofs.PositionLaws.{up, placed_up, up_rises}
use Rattle.layered.proofs.RecordLaws.{accepted_sorted}
use Rattle.layered.proofs.AcceptedLaws.{layered_accepted}
use Rattle.layered.proofs.RisingLaws.{rising_same}
use Rattle.layered.proofs.LiftLaws.{lift, lifted, end_layer, sent_by, ends_lifted, lifted_back}

-- the positions of a walk are of the plan
abbrev Fits : List ℕ → List ℕ → Type 0
Fits bs w = (i : ℕ) → Memᴰ i w → i < records bs

length_lifted : (bs : List ℕ) (v : ℕ) (layer : Bool) (w : List ℕ) → length (lifted bs v layer w) ≡ length w
unfolding lifted
length_lifted bs v layer [] = refl
length_lifted bs v layer (i ∷ w) = ap suc (length_lifted bs v (heard_in v (contact_at bs i) layer) w)

module _ (bs : List ℕ) (n t : ℕ) (terms : Terms) (v : ℕ) (ok : plan_fault bs n t ≡ 0) where
  -- ---- positions and order

  -- what is lifted comes down again
  pub down_lifted : (layer : Bool) (w : List ℕ) → Fits bs w → map (down bs) (lifted bs v layer w) ≡ w
  unfolding lifted
  down_lifted layer [] fits = refl
  down_lifted layer (i ∷ w) fits =
      ap₂ ◌∷◌ (placed_up bs (accepted_sorted bs n t ok) layer i (fits i (Memᴰ.head refl))).back
      (down_lifted (heard_in v (contact_at bs i) layer) w (λ j m. fits j (Memᴰ.tail m)))

  -- the order is kept
  before_lifted : (layer : Bool) (u w : List ℕ) → Fits bs w → Before u w → Before (lifted bs v layer u) (lifted bs v layer w)
  unfolding lifted Before
  before_lifted layer [] w fits b = b
  before_lifted layer (i ∷ u) [] fits b = b
  before_lifted layer (i ∷ u) (j ∷ w) fits b =
      go b (before_lifted (heard_in v (contact_at bs i) layer) u w (λ k m. fits k (Memᴰ.tail m)))
    where
      next : ℕ → Bool
      next k = heard_in v (contact_at bs k) layer

      go : (i < j) ⊎ ((i ≡ j) × Before u w) → (Before u w → Before (lifted bs v (next i) u) (lifted bs v (next i) w))
          → (up bs layer i < up bs layer j) ⊎
          ((up bs layer i ≡ up bs layer j) × Before (lifted bs v (next i) u) (lifted bs v (next j) w))
      go (inl less) ih = inl (up_rises bs (accepted_sorted bs n t ok) layer i j less (fits j (Memᴰ.head refl)))
      go (inr (e, rest)) ih =
          inr (ap (up bs layer) e, subst (λ k. Before (lifted bs v (next i) u) (lifted bs v (next k) w)) e (ih rest))

  rising_lifted : (l : List (List ℕ)) → ((w : List ℕ) → Memᴰ w l → Fits bs w) → Rising l → Rising (map (lifted bs v false) l)
  unfolding Rising
  rising_lifted [] fits r = tt
  rising_lifted (w ∷ l) fits r = (
    λ u m. let (x, there, same) = (mem_map (lifted bs v false) l).0 m in
        subst (Before (lifted bs v false w)) same
        (before_lifted false w x (fits x (Memᴰ.tail there)) (r.0 x there)),
    rising_lifted l (λ x m. fits x (Memᴰ.tail m)) r.1,
  )

  -- ---- v inside

  -- a walk visits v exactly where one of its legs is sent by v, or it ends there
  visits : (layer : Bool) (x : Appearance) (w : List ℕ) (l : List Appearance) → run (plan_of bs n t terms) x w ≡ some l
      → (layer || member v (x.station ∷ stations_of l)) ≡ (end_layer bs v layer w || eqb v (last_or x l).station)
  unfolding end_layer last_or member any heard_in
  visits layer x [] l e = rw (← run_nil (plan_of bs n t terms) x e) (ap (λ b. layer || b) (or-false (eqb v x.station)))
  visits layer x (i ∷ w) l e =
      let p = plan_of bs n t terms in
      let r = run_cons p x i w e in
      let s = step_inv p x i r.steps in
      let at = (contact_inv bs n t terms i s.contact s.at_position).1 in
      let from : x.station ≡ (contact_at bs i).sender =
      sent_by s.contact x.station _ s.leads ∙ sym (ap (λ (c : Contact). c.sender) at) in
      let later = member v (r.next.station ∷ stations_of r.others) in
      rw (← r.whole)
      (sym (or_assoc layer (eqb v x.station) later) ∙ ap (λ u. (layer || eqb v u) || later) from ∙
      visits (heard_in v (contact_at bs i) layer) r.next w r.others r.goes_on)

  module _ (s z : ℕ) (apart : s ≢ v) (apart' : z ≢ v) where
    -- v is inside a walk from s to z exactly where the walk's lift ends in layer 1
    inside_ends : (w : List ℕ) → is_walk_to (plan_of bs n t terms) s z w ≡ true
        → is_interior (plan_of bs n t terms) s z v w ≡ end_layer bs v false w
    unfolding is_interior holds member any
    inside_ends w e =
        let r = ends_inv (plan_of bs n t terms) (start s) (is_at z) w e in
        let l = r.visits in
        let not_s : eqb v s ≡ false = ne_eqb v s (λ q. apart (sym q)) in
        let not_z : eqb v z ≡ false = ne_eqb v z (λ q. apart' (sym q)) in
        let end : (last_or (start s) l).station ≡ z = eqb-true _ z r.passes in
        rw (not_s, not_z, r.runs)
        (ap (λ b. b || member v (stations_of l)) (sym not_s) ∙ visits false (start s) w l r.runs ∙
        ap (λ b. end_layer bs v false w || b) (ap (eqb v) end ∙ not_z) ∙ or-false (end_layer bs v false w))

    module _ (source : s < n) (target : z < n) where
      fits_walk : (w : List ℕ) → is_walk_to (plan_of bs n t terms) s z w ≡ true → Fits bs w
      fits_walk w e i m =
          let r = ends_inv (plan_of bs n t terms) (start s) (is_at z) w e in
          subst (λ k. i < k) (contacts_length bs n t terms) (run_positions (plan_of bs n t terms) (start s) w r.runs i m)

      -- a walk with v inside lifts to a walk to layer 1
      walk_up : (w : List ℕ) → is_walk_to (plan_of bs n t terms) s z w ≡ true → is_interior (plan_of bs n t terms) s z v w ≡ true
          → is_walk_to (plan_of (layered bs n v) (2 * n) t terms) s (n + z) (lifted bs v false w) ≡ true
      unfolding in_layer
      walk_up w e inside =
          ends_lifted bs n t terms v ok z target false (start s) w source (fits_walk w e) ∙
          rw (e, sym (inside_ends w e) ∙ inside)

      -- a walk to layer 1 is the lift of a walk with v inside
      walk_down : (w : List ℕ) → is_walk_to (plan_of (layered bs n v) (2 * n) t terms) s (n + z) w ≡ true
          → (w ≡ lifted bs v false (map (down bs) w))
          × (is_walk_to (plan_of bs n t terms) s z (map (down bs) w) ≡ true)
          × (is_interior (plan_of bs n t terms) s z v (map (down bs) w) ≡ true)
      unfolding in_layer
      walk_down w e =
          let (same, fits) = lifted_back bs n t terms v ok (is_at (n + z)) false (start s) w source e in
          let both : (is_walk_to (plan_of bs n t terms) s z (map (down bs) w) && end_layer bs v false (map (down bs) w)) ≡ true =
          sym (ends_lifted bs n t terms v ok z target false (start s) (map (down bs) w) source fits) ∙
          ap (is_walk_to (plan_of (layered bs n v) (2 * n) t terms) s (n + z)) (sym same) ∙ e in
          let (walk, end) = (and-eq-true_iff _ _).0 both in
          (same, walk, inside_ends (map (down bs) w) walk ∙ end)

      module _ (stations : 2 * n ≤ 256) (few : 2 * records bs ≤ 8192) where
        accepted_double : plan_fault (layered bs n v) (2 * n) t ≡ 0
        accepted_double = layered_accepted bs n t v ok stations few

        -- the plan's shortest walks with v inside
        abbrev inside : List (List ℕ)
        inside = select (is_interior (plan_of bs n t terms) s z v) (shortest_walks_to (plan_of bs n t terms) s z)

        abbrev double : List (List ℕ)
        double = shortest_walks_to (plan_of (layered bs n v) (2 * n) t terms) s (n + z)

        record Member (w : List ℕ) : Type 0 where
          walk : is_walk_to (plan_of bs n t terms) s z w ≡ true
          size : length w ≡ hops (shortest_walks_to (plan_of bs n t terms) s z)
          has : is_interior (plan_of bs n t terms) s z v w ≡ true

        member_of : (w : List ℕ) → Memᴰ w inside → Member w
        member_of w m =
            let (there, has) = (mem_select (is_interior (plan_of bs n t terms) s z v) (shortest_walks_to (plan_of bs n t terms) s z)).0 m in
            let (walk, size) = (in_complete_list bs n t terms ok s z w).0 there in
            record { walk = walk; size = size; has = has }

        -- both have the same hops, where there is such a walk
        hops_same : (w : List ℕ) → Memᴰ w inside → hops double ≡ hops (shortest_walks_to (plan_of bs n t terms) s z)
        hops_same w m =
            let x = member_of w m in
            let size = x.size in
            let slots = (accepted bs n t ok).slots in
            let r = ends_inv (plan_of bs n t terms) (start s) (is_at z) w x.walk in
            let short = walk_within_slots bs n t terms ok s w r.visits r.runs in
            let least = walk_at_least (layered bs n v) (2 * n) t terms accepted_double s (n + z) (lifted bs v false w)
            (walk_up w x.walk x.has) in
            let same = length_lifted bs v false w in
            ⊎_elim (λ none. absurd (omega (arith, hops_empty double none)))
            (λ found.
            let u = found.0 in
            let (walk, long) = (in_complete_list (layered bs n v) (2 * n) t terms accepted_double s (n + z) u).0 found.1 in
            let (lift, below, has) = walk_down u walk in
            let no_less = walk_at_least bs n t terms ok s z (map (down bs) u) below in
            omega (arith, length-map u (down bs)))
            (empty_or_member double)

        come_down : (l : List (List ℕ)) → ((w : List ℕ) → Memᴰ w l → Fits bs w)
            → map (map (down bs)) (map (lifted bs v false) l) ≡ l
        come_down [] fits = refl
        come_down (w ∷ l) fits =
            ap₂ ◌∷◌ (down_lifted false w (fits w (Memᴰ.head refl))) (come_down l (λ u m. fits u (Memᴰ.tail m)))

        -- the layered plan's shortest walks are the lifts
        pub lifts : (w : List ℕ) → Memᴰ w inside → double ≡ map (lifted bs v false) inside
        lifts w m =
            rising_same double (map (lifted bs v false) inside) (complete_list_rises _ s (n + z))
            (rising_lifted inside (λ u k. fits_walk u (member_of u k).walk)
            (rising_select (is_interior (plan_of bs n t terms) s z v) (shortest_walks_to (plan_of bs n t terms) s z)
            (complete_list_rises (plan_of bs n t terms) s z)))
            there back
          where
            there : (u : List ℕ) → Memᴰ u double → Memᴰ u (map (lifted bs v false) inside)
            there u k =
                let (walk, size) = (in_complete_list (layered bs n v) (2 * n) t terms accepted_double s (n + z) u).0 k in
                let (same, below, has) = walk_down u walk in
                let fewest = length-map u (down bs) ∙ size ∙ hops_same w m in
                let listed = (in_complete_list bs n t terms ok s z (map (down bs) u)).1 (below, fewest) in
                let plain = shortest_walks_to (plan_of bs n t terms) s z in
                (mem_map (lifted bs v false) inside).1
                (map (down bs) u, (mem_select (is_interior (plan_of bs n t terms) s z v) plain).1 (listed, has), sym same)

            back : (u : List ℕ) → Memᴰ u (map (lifted bs v false) inside) → Memᴰ u double
            back u k =
                let (x, here, same) = (mem_map (lifted bs v false) inside).0 k in
                let y = member_of x here in
                subst (λ q. Memᴰ q double) same
                ((in_complete_list (layered bs n v) (2 * n) t terms accepted_double s (n + z) (lifted bs v false x)).1
                (walk_up x y.walk y.has, length_lifted bs v false x ∙ y.size ∙ sym (hops_same w m)))

        -- Lowered, the layered plan's shortest walks from s to z in layer 1 are the plan's shortest walks from s to z that have v inside,
        -- in their order, where there is one.
        pub layered_walks : 0 < through (plan_of bs n t terms) s z v
            → map (map (down bs)) (shortest_walks_to (plan_of (layered bs n v) (2 * n) t terms) s (n + z))
            ≡ select (is_interior (plan_of bs n t terms) s z v) (shortest_walks_to (plan_of bs n t terms) s z)
        unfolding through
        layered_walks positive =
            ⊎_elim (λ none. absurd (omega (arith, ap length none)))
            (λ m.
            ap (map (map (down bs))) (lifts m.0 m.1) ∙
            come_down inside (λ u k. fits_walk u (member_of u k).walk))
            (empty_or_member inside)

        -- so there are as many as the through count says,
        pub layered_count : 0 < through (plan_of bs n t terms) s z v
            → count (shortest_walks_to (plan_of (layered bs n v) (2 * n) t terms) s (n + z)) ≡ through (plan_of bs n t terms) s z v
        unfolding through
        layered_count positive = sym (length-map double (map (down bs))) ∙ ap length (layered_walks positive)

        -- with the hops of the pair
        pub layered_hops : 0 < through (plan_of bs n t terms) s z v
            → hops (shortest_walks_to (plan_of (layered bs n v) (2 * n) t terms) s (n + z)) ≡ hops (shortest_walks_to (plan_of bs n t terms) s z)
        unfolding through
        layered_hops positive =
            ⊎_elim (λ none. absurd (omega (arith, ap length none))) (λ m. hops_same m.0 m.1) (empty_or_member inside)
