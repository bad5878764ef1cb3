-- The lists of shortest walks are what demand 2 says of them, and where nothing goes stale they are lists of paths. A law marked (kept)
-- rests on a reading being kept until the plan ends. Assumes nothing.
use Prim.Native.Nat.{ℕ, ◌≤◌, ◌<◌}
use native.Mathlib.Omega.{arith}
use mathlib.Core.Path.{◌≡◌, refl, sym, ap, ◌∙◌}
use mathlib.Core.Bool.{Bool, true}
use mathlib.Core.List.Memᴰ
use mathlib.Core.List.{List, [], ◌∷◌, Memᴰ}
use mathlib.Core.Logic.{◌↔◌, ◌⊎◌, inl, inr, ⊎_elim}
use lib.ListN.{length}
use Rattle.temporal.specs.Lists.{NoneTwice}
use Rattle.temporal.specs.Plan.{Plan, Terms, Keeps}
use Rattle.temporal.specs.Walk.{is_at, is_appearance, is_walk}
use Rattle.temporal.specs.Shortest.{shortest, shortest_walks, shortest_walks_to, hops, count}
use Rattle.temporal.specs.Bytes.{plan_of}
use Rattle.temporal.specs.Cause.{plan_fault}
use Rattle.walks.proofs.Accepted.{accepted}
use Rattle.lists.proofs.ListLaws.{rising_none_twice, length_zero}
use Rattle.walks.proofs.ShortestLaws.{
  Bounded,
  Found,
  nowhere,
  at_hops,
  found,
  mem_of_hops_law,
  least_member,
  hops_least,
  hops_empty,
  shortest_rising,
  shortest_least,
  shortest_mem,
}
use Rattle.walks.proofs.PathLaws.{definition3_is_walk, path_meets_definition3}
use Rattle.walks.proofs.PlanLaws.{slots_within}
use Rattle.walks.proofs.Adequacy.{bounded_ends, listed_path}
use Rattle.demands.specs.Demand2.{IsShortest, ShortestList, StationList, AppearanceList}
use Rattle.demands.specs.Kept.{PathList, AmongPaths}

-- A list of the shortest walks of a bounded test, where all of them pass another test that only walks pass.
module _ {p : Plan} {passes isAWalk : List ℕ → Bool} (b : Bounded p isAWalk) (few : p.slots < 65535)
    (walks : (w : List ℕ) → passes w ≡ true → isAWalk w ≡ true)
    (pass : (w : List ℕ) → Memᴰ w (shortest p isAWalk) → passes w ≡ true) where
  -- a walk that no walk is shorter than has the hops of the shortest
  least_hops :
      (w : List ℕ) → isAWalk w ≡ true → ((w' : List ℕ) → isAWalk w' ≡ true → length w ≤ length w') →
      length w ≡ hops (shortest p isAWalk)
  least_hops w e least = step (found b)
    where
      step : Found p isAWalk → length w ≡ hops (shortest p isAWalk)
      step (nowhere z none) = absurd (none w e)
      step (at_hops k h z) =
          let (u, m) = least_member h in
          let (size, inside, q) = (mem_of_hops_law p isAWalk k).0 m in
          let at_most = least u q in
          omega (arith, hops_least h, shortest_least b e)

  -- no hops and no count exactly where there is no walk
  without : (hops (shortest p isAWalk) ≡ 65535) ↔ ((w : List ℕ) → isAWalk w ≡ true → ⊥)
  without = step (found b)
    where
      step : Found p isAWalk → (hops (shortest p isAWalk) ≡ 65535) ↔ ((w : List ℕ) → isAWalk w ≡ true → ⊥)
      step (nowhere z none) = (λ e. none, λ e. hops_empty (shortest p isAWalk) z)
      step (at_hops k h z) = (
        λ e. absurd (let fits = h.fits in omega (arith, hops_least h)),
        λ none. let (u, m) = least_member h in absurd (none u ((mem_of_hops_law p isAWalk k).0 m).2),
      )

  uncounted : (count (shortest p isAWalk) ≡ 0) ↔ ((w : List ℕ) → isAWalk w ≡ true → ⊥)
  uncounted = step (found b)
    where
      step : Found p isAWalk → (count (shortest p isAWalk) ≡ 0) ↔ ((w : List ℕ) → isAWalk w ≡ true → ⊥)
      step (nowhere z none) = (λ e. none, λ e. ap length z)
      step (at_hops k h z) = (
        λ e. absurd (h.some (sym z ∙ (length_zero (shortest p isAWalk)).0 e)),
        λ none. let (u, m) = least_member h in absurd (none u ((mem_of_hops_law p isAWalk k).0 m).2),
      )

  pub listed :
      ShortestList passes isAWalk (shortest p isAWalk) (hops (shortest p isAWalk)) (count (shortest p isAWalk))
  listed =
      record {
        once = rising_none_twice (shortest p isAWalk) (shortest_rising p isAWalk);
        members = λ w. (
          λ m. record {
            passing = pass w m;
            none_shorter = λ w' e. let size = ((shortest_mem b).0 m).1 in rw size (shortest_least b e);
          },
          λ h. let e = walks w h.passing in (shortest_mem b).1 (e, least_hops w e h.none_shorter),
        );
        lengths = λ w m. ((shortest_mem b).0 m).1;
        number = refl;
        no_hops = without;
        no_count = uncounted;
      }

-- a list is empty or has a member
some_member : (l : List (List ℕ)) → (l ≡ []) ⊎ ((m : List ℕ) × Memᴰ m l)
some_member [] = inl refl
some_member (m ∷ l) = inr (m, Memᴰ.head refl)

-- those that pass and that no walk is shorter than are those that none that passes is shorter than, where only walks pass
among :
    {passes isAWalk : List ℕ → Bool} {l : List (List ℕ)} {h c : ℕ} → ShortestList passes isAWalk l h c →
    ((w : List ℕ) → passes w ≡ true → isAWalk w ≡ true) → ShortestList passes passes l h c
among {passes} {isAWalk} {l} {h} {c} k walks =
    record {
      once = k.once;
      members = λ w. (
        λ m. let x = (k.members w).0 m in record { passing = x.passing; none_shorter = λ w' e. x.none_shorter w' (walks w' e) },
        λ x. (k.members w).1 (record { passing = x.passing; none_shorter = shorter w x }),
      );
      lengths = k.lengths;
      number = k.number;
      no_hops = (λ e w q. k.no_hops.0 e w (walks w q), λ none. k.no_hops.1 (absent none));
      no_count = (λ e w q. k.no_count.0 e w (walks w q), λ none. k.no_count.1 (absent none));
    }
  where
    -- without a member there is no walk
    no_walk : l ≡ [] → (w : List ℕ) → isAWalk w ≡ true → ⊥
    no_walk e = k.no_count.0 (k.number ∙ ap length e)

    absent : ((w : List ℕ) → passes w ≡ true → ⊥) → (w : List ℕ) → isAWalk w ≡ true → ⊥
    absent none = ⊎_elim no_walk (λ x w q. none x.0 ((k.members x.0).0 x.1).passing) (some_member l)

    shorter : (w : List ℕ) → IsShortest passes passes w → (w' : List ℕ) → isAWalk w' ≡ true → length w ≤ length w'
    shorter w x w' q =
        ⊎_elim (λ e. absurd (no_walk e w' q))
        (λ m.
        let a = x.none_shorter m.0 ((k.members m.0).0 m.1).passing in
        let b = ((k.members m.0).0 m.1).none_shorter w' q in
        omega arith)
        (some_member l)

-- where the empty list of positions passes, it is the only member
pub only_empty :
    {passes isAWalk : List ℕ → Bool} {l : List (List ℕ)} {h c : ℕ} → ShortestList passes isAWalk l h c →
    passes [] ≡ true → (h ≡ 0) × (c ≡ 1)
unfolding NoneTwice
only_empty {passes} {isAWalk} {l} {h} {c} k e =
    let there = (k.members []).1 (record { passing = e; none_shorter = λ w' q. omega arith }) in
    (sym (k.lengths [] there), k.number ∙ one l there (λ w m. empty w (k.lengths w m ∙ sym (k.lengths [] there))) k.once)
  where
    empty : (w : List ℕ) → length w ≡ 0 → w ≡ []
    empty w q = (length_zero w).0 q

    one :
        (l : List (List ℕ)) → Memᴰ [] l → ((w : List ℕ) → Memᴰ w l → w ≡ []) → NoneTwice l → length l ≡ 1
    one [] m all once = absurd (Memᴰ.not-nil m)
    one (x ∷ []) m all once = refl
    one (x ∷ y ∷ l) m all once =
        let same = all x (Memᴰ.head refl) ∙ sym (all y (Memᴰ.tail (Memᴰ.head refl))) in
        absurd (once 0 1 (omega arith) (omega arith) same)

module _ (bs : List ℕ) (n t : ℕ) (terms : Terms) (ok : plan_fault bs n t ≡ 0) where
  few_slots : (plan_of bs n t terms).slots < 65535
  unfolding plan_of
  few_slots = let most = (accepted bs n t ok).slots in omega arith

  -- the list of a station
  pub station_listed :
      (s v : ℕ) →
      StationList (plan_of bs n t terms) s v (hops (shortest_walks_to (plan_of bs n t terms) s v))
      (count (shortest_walks_to (plan_of bs n t terms) s v))
  unfolding shortest_walks_to
  station_listed s v =
      let b = bounded_ends (plan_of bs n t terms) (slots_within bs n t terms ok) s (is_at v) in
      listed b few_slots (λ w e. e) (λ w m. ((shortest_mem b).0 m).0)

  -- (kept) the same as a list of paths
  module _ (keeps : Keeps t terms) (s v : ℕ) where
    pub path_listed :
        PathList (plan_of bs n t terms) s v (hops (shortest_walks_to (plan_of bs n t terms) s v))
        (count (shortest_walks_to (plan_of bs n t terms) s v))
    unfolding shortest_walks_to
    path_listed =
        let p = plan_of bs n t terms in
        listed (bounded_ends p (slots_within bs n t terms ok) s (is_at v)) few_slots (definition3_is_walk p s v)
        (λ w m. path_meets_definition3 p s v w (listed_path bs n t terms ok keeps s v w m).0)

    -- and among paths: a path that no path is shorter than is one that no walk is shorter than
    pub among_listed :
        AmongPaths (plan_of bs n t terms) s v (hops (shortest_walks_to (plan_of bs n t terms) s v))
        (count (shortest_walks_to (plan_of bs n t terms) s v))
    among_listed = among path_listed (definition3_is_walk (plan_of bs n t terms) s v)

  -- the list of an appearance
  pub appearance_listed :
      (s v u : ℕ) →
      AppearanceList (plan_of bs n t terms) s v u (hops (shortest_walks (plan_of bs n t terms) s v u))
      (count (shortest_walks (plan_of bs n t terms) s v u))
  unfolding shortest_walks is_walk
  appearance_listed s v u =
      let b = bounded_ends (plan_of bs n t terms) (slots_within bs n t terms ok) s (is_appearance v u) in
      listed b few_slots (λ w e. e) (λ w m. ((shortest_mem b).0 m).0)
