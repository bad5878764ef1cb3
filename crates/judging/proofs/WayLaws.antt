-- Ways of the complete list by their legs: the first one, the next one, the last one. Assumes nothing.
use Prim.Native.Nat.{ℕ, ◌+◌, ◌≤◌, ◌<◌}
use mathlib.Core.Path.{◌≡◌, refl, sym, ap, ◌∙◌, subst}
use mathlib.Core.Bool.{true}
use mathlib.Core.List.{List, [], ◌∷◌, ◌++◌, Memᴰ}
use mathlib.Core.Logic.{inl, inr, ◌↔◌, by_cases}
use native.Mathlib.Omega.{arith}
use native.Mathlib.Decide.{ℕ_discrete, dec_le}
use lib.ListN.{length, get_or, replicate}
use Rattle.temporal.specs.Lists.{Before, Rising}
use Rattle.temporal.specs.Shortest.{hops}
use Rattle.lists.proofs.ListLaws.{before_irrefl, rising_get_d_law, mem_get_d_law}
use Rattle.ways.specs.declared.Pair.{Pair}
use Rattle.ways.specs.Found.{list_in, begins, terms_in}
use Rattle.ways.proofs.OrderLaws.{before_asym, place_of, first_place, next_place, last_place}
use Rattle.ways.proofs.PrefixLaws.{completes_nil}
use Rattle.ways.proofs.ListingLaws.{front, onward, rises, mem_list}
use Rattle.judging.specs.Legs.{FirstLegs, LastLegs, Follows}
use Rattle.judging.specs.Judge.{Judgeable}
use Rattle.judging.proofs.NeighbourLaws.{least_legs, last_legs, next_legs}
use Rattle.judging.proofs.LegLaws.{listable}

module _ (bs : List ℕ) (q : Pair) (l : List ℕ) (g : Judgeable bs q l) where
  abbrev some_buffer : List ℕ
  some_buffer = replicate q.slots 0

  -- the members of the complete list, its order, and the test of beginnings
  members : {w : List ℕ} → Memᴰ w (list_in bs q) ↔ ((length w ≡ q.hops) × (begins bs q w ≡ true))
  members = mem_list bs q some_buffer (listable bs q l g)

  pub sized : (w : List ℕ) → Memᴰ w (list_in bs q) → length w ≡ q.hops
  sized w m = (members.0 m).0

  nil_begins : begins bs q [] ≡ true
  nil_begins =
      completes_nil bs q.stations q.slots (terms_in q) g.accepted q.source q.destination q.hops g.source
      g.fewest g.path

  -- there is a way
  pub some_way : 0 < length (list_in bs q)
  unfolding hops
  some_way = go (list_in bs q) refl
    where
      go : (m : List (List ℕ)) → list_in bs q ≡ m → 0 < length m
      go [] e = absurd (omega (arith, g.path, g.fewest ∙ ap hops e))
      go (w ∷ m) e = omega arith

  list_rises : Rising (list_in bs q)
  list_rises = rises bs q some_buffer (listable bs q l g)

  front_begins : (w : List ℕ) (i : ℕ) → begins bs q (w ++ i ∷ []) ≡ true → begins bs q w ≡ true
  front_begins = front bs q some_buffer (listable bs q l g)

  onward_begins : (w : List ℕ) → begins bs q w ≡ true → length w < q.hops → (i : ℕ) × (begins bs q (w ++ i ∷ []) ≡ true)
  onward_begins = onward bs q some_buffer (listable bs q l g)

  -- the way at a place is a member
  way_in : (i : ℕ) → i < length (list_in bs q) → (length (get_or (list_in bs q) i []) ≡ q.hops) × (begins bs q (get_or (list_in bs q) i []) ≡ true)
  way_in i inside = members.0 (mem_get_d_law (list_in bs q) i [] inside)

  -- ---- the first way

  pub first_is : (w : List ℕ) → length w ≡ q.hops → FirstLegs (begins bs q) q.hops 0 w → get_or (list_in bs q) 0 [] ≡ w
  first_is w size legs =
      let least = (least_legs (begins bs q) q.hops nil_begins front_begins onward_begins w size).1 legs in
      first_place (list_in bs q) list_rises w (members.1 (size, least.passes))
      (λ u m. let (long, passes) = members.0 m in least.least u long passes)

  pub first_legs_there : FirstLegs (begins bs q) q.hops 0 (get_or (list_in bs q) 0 [])
  first_legs_there =
      let there = way_in 0 some_way in
      (least_legs (begins bs q) q.hops nil_begins front_begins onward_begins (get_or (list_in bs q) 0 []) there.0).0
      (record {
        size = there.0;
        passes = there.1;
        least = λ u long passes.
            let (k, inside, at) = place_of (members.1 (long, passes)) in
            by_cases (ℕ_discrete k 0)
            (λ e. inl (sym at ∙ ap (λ i. get_or (list_in bs q) i []) e))
            (λ d. inr (subst (Before (get_or (list_in bs q) 0 [])) at (rising_get_d_law (list_in bs q) list_rises 0 k [] (omega arith) inside)));
      })

  -- ---- the next way and the last one

  module _ (i : ℕ) (inside : i < length (list_in bs q)) where
    pub next_is : (b : List ℕ) → length b ≡ q.hops → Follows (begins bs q) q.hops (get_or (list_in bs q) i []) b
        → (i + 1 < length (list_in bs q)) × (get_or (list_in bs q) (i + 1) [] ≡ b)
    next_is b size f =
        let there = way_in i inside in
        let later = (next_legs (begins bs q) q.hops nil_begins front_begins onward_begins (get_or (list_in bs q) i []) b there.0 size).1 f in
        next_place (list_in bs q) list_rises i inside b (members.1 (size, later.passes)) later.after
        (λ u m before. let (long, passes) = members.0 m in later.least u long passes before)

    -- a member behind stands at a later place
    behind : (u : List ℕ) → Memᴰ u (list_in bs q) → Before (get_or (list_in bs q) i []) u
        → (k : ℕ) × (i < k) × (k < length (list_in bs q)) × (get_or (list_in bs q) k [] ≡ u)
    behind u m before =
        let (k, below, at) = place_of m in
        (k, later k below at, below, at)
      where
        later : (k : ℕ) → k < length (list_in bs q) → get_or (list_in bs q) k [] ≡ u → i < k
        later k below at =
            by_cases (dec_le k i)
            (λ h. by_cases (ℕ_discrete k i)
            (λ e. absurd (before_irrefl u (subst (λ w. Before w u) (ap (λ j. get_or (list_in bs q) j []) (sym e) ∙ at) before)))
            (λ d. absurd (before_asym (get_or (list_in bs q) i []) u before
            (subst (λ w. Before w (get_or (list_in bs q) i [])) at (rising_get_d_law (list_in bs q) list_rises k i [] (omega arith) inside)))))
            (λ h. omega arith)

    pub next_follows : i + 1 < length (list_in bs q)
        → Follows (begins bs q) q.hops (get_or (list_in bs q) i []) (get_or (list_in bs q) (i + 1) [])
    next_follows more =
        let here = way_in i inside in
        let there = way_in (i + 1) more in
        (next_legs (begins bs q) q.hops nil_begins front_begins onward_begins _ _ here.0 there.0).0
        (record {
          size = there.0;
          passes = there.1;
          after = rising_get_d_law (list_in bs q) list_rises i (i + 1) [] (omega arith) more;
          least = λ u long passes before.
              let (k, up, below, at) = behind u (members.1 (long, passes)) before in
              by_cases (ℕ_discrete k (i + 1))
              (λ e. inl (sym at ∙ ap (λ j. get_or (list_in bs q) j []) e))
              (λ d. inr (subst (Before (get_or (list_in bs q) (i + 1) [])) at
              (rising_get_d_law (list_in bs q) list_rises (i + 1) k [] (omega arith) below)));
        })

    pub last_is : LastLegs (begins bs q) q.hops 0 (get_or (list_in bs q) i []) → length (list_in bs q) ≤ i + 1
    last_is legs =
        let here = way_in i inside in
        let none = (last_legs (begins bs q) q.hops nil_begins front_begins onward_begins _ here.0).1 legs in
        last_place (list_in bs q) list_rises i inside (λ u m before. let (long, passes) = members.0 m in none u long passes before)

    pub last_legs_there : length (list_in bs q) ≤ i + 1 → LastLegs (begins bs q) q.hops 0 (get_or (list_in bs q) i [])
    last_legs_there end =
        let here = way_in i inside in
        (last_legs (begins bs q) q.hops nil_begins front_begins onward_begins _ here.0).0
        (λ u long passes before.
        let (k, up, below, at) = behind u (members.1 (long, passes)) before in omega arith)
