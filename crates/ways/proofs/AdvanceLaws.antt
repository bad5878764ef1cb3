-- Placing a position and advancing a leg, from what the functions that they call leave. Assumes nothing.
use Prim.Native.Nat.{ℕ, suc, ◌+◌, ◌-◌, ◌≤◌, ◌<◌}
use mathlib.Core.Path.{◌≡◌, sym, ap, ◌∙◌, subst}
use mathlib.Core.Bool.{Bool, true, false}
use mathlib.Core.List.{List}
use mathlib.Core.Option.{Option, none, some, bind}
use native.Mathlib.Omega.{arith}
use lib.Dec.{eqb}
use lib.ListN.{length, get_or, set, take}
use Rattle.temporal.specs.Plan.{Appearance, start}
use Rattle.temporal.specs.Walk.{holds, is_at}
use Rattle.temporal.specs.Bytes.{records}
use Rattle.walks.proofs.Accepted.{accepted}
use Rattle.ways.specs.declared.Pair.{Pair}
use Rattle.ways.specs.declared.Spot.{Spot}
use Rattle.std.specs.Prelude.{Option as Answer, Some, None, MatchOption}
use Rattle.ways.specs.Prefix.{end_after, Advanced}
use Rattle.ways.specs.Found.{spot_of, end_of, found_of, plan_in, begins, serves_at, first_from, found_at, Placed, put_at}
use Rattle.ways.specs.Found.{is_offered, Searchable, Placeable, Listable, Startable, Advancable, Continuable}
use Rattle.ways.proofs.SearchLaws.{first_some}
use Rattle.ways.proofs.ListingLaws.{put_false, hops_slots, standing_front, advanced_here}
use Rattle.ways.proofs.ListingLaws.{advanced_none, advanced_behind, offered_walk, offered_standing}

-- ---- a position is put

module _ (bs : List ℕ) (q : Pair) (l : List ℕ) (k from : ℕ) (b : List ℕ) (r : Answer Spot)
    (ends : end_of r ≡ end_after (plan_in bs q) (start q.source) (take k b)) where
  -- the entries before lead nowhere
  pub found_nowhere : r ≡ None → found_of None ≡ found_at bs q l k from b
  unfolding found_at end_of found_of bind
  found_nowhere e = rw (← ends, e)

  -- the search goes on from where they lead
  pub found_there : (x : Spot) → r ≡ Some x → (f : Answer ℕ)
      → found_of f ≡ first_from (serves_at (plan_in bs q) l (q.slots + 1) (spot_of x) (q.hops - (k + 1))) from
      (records bs - from)
      → found_at bs q l k from b ≡ found_of f
  unfolding found_at end_of bind
  found_there x at f search = rw (← ends, at) (sym search)

module _ (bs : List ℕ) (q : Pair) (l : List ℕ) (k from : ℕ) (b : List ℕ) (f : Answer ℕ)
    (search : found_of f ≡ found_at bs q l k from b) where
  -- a position that is found is one of an accepted plan's, and fits 16 bits
  pub found_fits : (i : ℕ) → Searchable bs q l → f ≡ Some i → i < 65536
  unfolding found_of found_at bind
  found_fits i s at = go (end_after (plan_in bs q) (start q.source) (take k b)) (sym search ∙ ap found_of at)
    where
      go : (o : Option Appearance)
          → bind o (λ x. first_from (serves_at (plan_in bs q) l (q.slots + 1) x (q.hops - (k + 1))) from (records bs - from))
          ≡ some i
          → i < 65536
      go none e = absurd (let z : ◌≡◌ {A = ℕ} 0 1 = cc in omega arith)
      go (some x) e =
          let (high, r) = first_some _ from (records bs - from) e in
          let low = r.low in
          let few = (accepted bs q.stations q.slots s.accepted).few in
          omega arith

  -- nothing is found
  pub placed_nothing : f ≡ None
      → ◌≡◌ {A = Placed} (record { answer = false; buffer = b }) (put_at k b (found_at bs q l k from b))
  unfolding put_at found_of
  placed_nothing e = ap (put_at k b) (sym (ap found_of e) ∙ search)

  -- a position is found
  pub placed_found : (i : ℕ) → f ≡ Some i
      → ◌≡◌ {A = Placed} (record { answer = true; buffer = set b k i }) (put_at k b (found_at bs q l k from b))
  unfolding put_at found_of
  placed_found i e = ap (put_at k b) (sym (ap found_of e) ∙ search)

-- ---- what is offered

module _ (bs : List ℕ) (q : Pair) (b : List ℕ) (g : Listable bs q b) where
  -- the hops fit the buffer
  pub hops_room : q.hops ≤ length b
  hops_room = let few = hops_slots bs q b g in let room = g.room in omega arith

  module _ (r : Answer Spot) (ends : end_of r ≡ end_after (plan_in bs q) (start q.source) (take q.hops b)) where
    -- what leads nowhere is no member, and what leads somewhere is one where that is the destination
    pub offered_end : (answer : Bool) → MatchOption r (answer ≡ false) (λ x. answer ≡ eqb x.station q.destination) → answer ≡ is_offered bs q b
    unfolding end_of holds
    offered_end answer told =
        go r told ∙ ap (λ o. holds o (is_at q.destination)) ends ∙ offered_walk bs q b g b hops_room
      where
        go : (o : Answer Spot) → MatchOption o (answer ≡ false) (λ x. answer ≡ eqb x.station q.destination)
            → answer ≡ holds (end_of o) (is_at q.destination)
        go None e = e
        go (Some x) e = e

-- ---- the first walk

-- a leg of a pair with a walk can be placed
pub leg_ready : (bs : List ℕ) (q : Pair) (l b : List ℕ) (g : Startable bs q l b) (k : ℕ) (now : List ℕ) → k < q.hops
    → length now ≡ length b
    → Placeable bs q l k now
leg_ready bs q l b g k now fewer same =
    record {
      searchable = record { accepted = g.listable.accepted; table = g.table };
      leg = fewer;
      entry = let room = hops_room bs q b g.listable in omega arith;
    }

-- ---- a leg is advanced

module _ (bs : List ℕ) (q : Pair) (l : List ℕ) (leg : ℕ) (b : List ℕ)
    (s : Advancable bs q l leg b) (some-leg : 0 < leg) where
  leg_suc : leg ≡ suc (leg - 1)
  leg_suc = omega arith

  fewer : leg - 1 < q.hops
  fewer = let h = s.legs in omega arith

  pub leg_inside : leg - 1 < length b
  leg_inside = let room = hops_room bs q b s.listable in let h = s.legs in omega arith

  standing_suc : begins bs q (take (suc (leg - 1)) b) ≡ true
  standing_suc = subst (λ k. begins bs q (take k b) ≡ true) leg_suc s.standing

  -- the last leg can be placed, in any buffer of this length
  pub last_ready : (b' : List ℕ) → length b' ≡ length b → Placeable bs q l (leg - 1) b'
  last_ready b' same =
      record {
        searchable = record { accepted = s.listable.accepted; table = s.table };
        leg = fewer;
        entry = let h = leg_inside in omega arith;
      }

  module _ (from : ℕ) (behind_last : from ≡ get_or b (leg - 1) 0 + 1) {r₁ : Bool} {b₁ : List ℕ}
      (first : ◌≡◌ {A = Placed} (record { answer = r₁; buffer = b₁ })
      (put_at (leg - 1) b (found_at bs q l (leg - 1) from b))) where
    first_there : ◌≡◌ {A = Placed} (record { answer = r₁; buffer = b₁ })
        (put_at (leg - 1) b (found_at bs q l (leg - 1) (get_or b (leg - 1) 0 + 1) b))
    first_there = first ∙ ap (λ i. put_at (leg - 1) b (found_at bs q l (leg - 1) i b)) behind_last

    -- a later last position is found
    pub advance_here : r₁ ≡ true → Advanced (begins bs q) leg b r₁ b₁
    advance_here there =
        subst (λ r. Advanced (begins bs q) leg b r b₁) (sym there)
        (subst (λ k. Advanced (begins bs q) k b true b₁) (sym leg_suc)
        (advanced_here bs q b s.listable l s.table b (leg - 1) fewer leg_inside standing_suc first_there there))

    module _ (nothing : r₁ ≡ false) where
      gone : found_at bs q l (leg - 1) (get_or b (leg - 1) 0 + 1) b ≡ none
      gone = (put_false (leg - 1) b _ first_there nothing).0

      kept : b₁ ≡ b
      kept = (put_false (leg - 1) b _ first_there nothing).1

      -- the legs before can be advanced
      pub front_ready : Advancable bs q l (leg - 1) b₁
      front_ready =
          subst (Advancable bs q l (leg - 1)) (sym kept) (record {
            listable = s.listable;
            table = s.table;
            legs = let h = fewer in omega arith;
            standing =
                standing_front bs q b s.listable l s.table b (leg - 1) fewer leg_inside standing_suc;
          })

      module _ {r₂ : Bool} {b₂ : List ℕ} (second : Advanced (begins bs q) (leg - 1) b₁ r₂ b₂) where
        second_there : Advanced (begins bs q) (leg - 1) b r₂ b₂
        second_there = subst (λ x. Advanced (begins bs q) (leg - 1) x r₂ b₂) kept second

        -- they are on the last
        pub advance_none : r₂ ≡ false → Advanced (begins bs q) leg b r₂ b₂
        advance_none e =
            subst (λ r. Advanced (begins bs q) leg b r b₂) (sym e)
            (subst (λ k. Advanced (begins bs q) k b false b₂) (sym leg_suc)
            (advanced_none bs q b s.listable l s.table b (leg - 1) fewer leg_inside standing_suc gone
            (subst (λ r. Advanced (begins bs q) (leg - 1) b r b₂) e second_there)))

        -- they are advanced, and the first position behind them is put
        pub advance_behind : r₂ ≡ true → length b₂ ≡ length b → {r₃ : Bool} {b₃ : List ℕ}
            → ◌≡◌ {A = Placed} (record { answer = r₃; buffer = b₃ })
            (put_at (leg - 1) b₂ (found_at bs q l (leg - 1) 0 b₂))
            → Advanced (begins bs q) leg b r₃ b₃
        advance_behind e same {r₃} {b₃} third =
            subst (λ k. Advanced (begins bs q) k b r₃ b₃) (sym leg_suc)
            (advanced_behind bs q b s.listable l s.table b (leg - 1) fewer leg_inside standing_suc gone
            (subst (λ r. Advanced (begins bs q) (leg - 1) b r b₂) e second_there)
            (let h = leg_inside in omega arith) third)

-- what is offered can be advanced
pub offered_ready : (bs : List ℕ) (q : Pair) (l b : List ℕ) → Continuable bs q l b → Advancable bs q l q.hops b
offered_ready bs q l b g =
    record {
      listable = g.listable;
      table = g.table;
      legs = omega arith;
      standing = offered_standing bs q b g.listable b g.offered;
    }
