-- C-14 holds of the operation on shortest foremost paths. Assumes nothing.
use Prim.Native.Nat.{ℕ, ◌<◌}
use native.Mathlib.Omega.{arith}
use mathlib.Core.Path.{◌≡◌, ap, ◌∙◌}
use mathlib.Core.Bool.{true, and-eq-true_iff}
use mathlib.Core.List.{List, map}
use mathlib.Core.Logic.{◌↔◌, ◌≢◌, ⊎_elim}
use lib.ListN.{length}
use Rattle.temporal.specs.Lists.{below, select}
use Rattle.temporal.specs.Plan.{Terms, turning, Keeps}
use Rattle.walks.proofs.PlanLaws.{kept_always}
use Rattle.temporal.specs.Walk.{is_appearance, is_walk, is_walk_to}
use Rattle.temporal.specs.Definition3.{is_path000}
use Rattle.temporal.specs.Shortest.{shortest_walks, hops, count}
use Rattle.temporal.specs.Foremost.{arrival, foremost_paths}
use Rattle.temporal.specs.Bytes.{plan_of}
use Rattle.temporal.specs.Cause.{plan_causes, plan_fault, appearance_too_many}
use Rattle.temporal.specs.Outcome.{Outcome, over}
use Rattle.temporal.specs.OutcomePair.{PairBuffers}
use Rattle.temporal.specs.OutcomeForemost.{ForemostValues, foremost_through, foremost_paired, foremost}
use Rattle.walks.proofs.Accepted.{accepted}
use Rattle.walks.proofs.Adequacy.{bounded_ends, in_shortest_walks}
use Rattle.lists.proofs.BufferLaws.{written}
use Rattle.temporal.proofs.CauseLaws.{first_append_left}
use Rattle.walks.proofs.EnteredLaws.{no_first, no_cause}
use Rattle.walks.proofs.ForemostLaws.{Arrival, never, arrives, arrival_or_never, arrival_earliest}
use Rattle.walks.proofs.ForemostLaws.{foremost_walks_are_paths, foremost_paths_rise, foremost_hops_at_least}
use Rattle.walks.proofs.ForemostLaws.{foremost_among_shortest}
use Rattle.lists.proofs.ListLaws.{true_or_false, select_ext, empty_or_member}
use Rattle.walks.proofs.PathLaws.{path_is_walk, path_meets_definition3}
use Rattle.walks.proofs.PlanLaws.{slots_within}
use Rattle.walks.proofs.ShortestLaws.{shortest_mem, count_zero}
use Rattle.foremost.specs.Answer.{foremost_values}
use Rattle.demands.specs.Demand2.{ShortestList, is_between}
use Rattle.demands.specs.Foremost.{arrives_in, ForemostTold, ForemostDemand}
use Rattle.demands.proofs.BetweenLaws.{between_in_path}
use Rattle.demands.proofs.ListedLaws.{listed}

module _ (bs : List ℕ) (n t : ℕ) (terms : Terms) (s z : ℕ) (ok : plan_fault bs n t ≡ 0) (keeps : Keeps t terms) where
  few_slots : (plan_of bs n t terms).slots < 65535
  unfolding plan_of
  few_slots = let most = (accepted bs n t ok).slots in omega arith

  -- (kept) the list is what document 000's Definition 11 says
  foremost_listed :
      ShortestList (arrives_in (plan_of bs n t terms) s z (arrival (plan_of bs n t terms) s z))
      (is_walk (plan_of bs n t terms) s z (arrival (plan_of bs n t terms) s z)) (foremost_paths (plan_of bs n t terms) s z)
      (hops (foremost_paths (plan_of bs n t terms) s z)) (count (foremost_paths (plan_of bs n t terms) s z))
  unfolding foremost_paths shortest_walks is_walk
  foremost_listed =
      let p = plan_of bs n t terms in
      let b = bounded_ends p (slots_within bs n t terms ok) s (is_appearance z (arrival p s z)) in
      listed b few_slots (λ w e. ((and-eq-true_iff (is_path000 p s z w) _).0 e).1)
      (λ w m. (and-eq-true_iff (is_path000 p s z w) _).1
      (path_meets_definition3 p s z w (foremost_walks_are_paths bs n t terms ok s z keeps w m), ((shortest_mem b).0 m).0))

  -- some walk arrives in the slot, where it is one
  reached : arrival (plan_of bs n t terms) s z ≢ 65535 → (w : List ℕ) × (is_walk (plan_of bs n t terms) s z (arrival (plan_of bs n t terms) s z) w ≡ true)
  unfolding foremost_paths
  reached d = go (arrival_or_never (plan_of bs n t terms) (slots_within bs n t terms ok) s z)
    where
      go :
          Arrival (plan_of bs n t terms) (slots_within bs n t terms ok) s z →
          (w : List ℕ) × (is_walk (plan_of bs n t terms) s z (arrival (plan_of bs n t terms) s z) w ≡ true)
      go (never e none-there) = absurd (d e)
      go (arrives h some) =
          ⊎_elim
          (λ empty. absurd (let zero = (count_zero (foremost_paths (plan_of bs n t terms) s z)).1 empty in omega arith))
          (λ m. (m.0, ((in_shortest_walks bs n t terms ok s z (arrival (plan_of bs n t terms) s z) m.0).0 m.1).0))
          (empty_or_member (foremost_paths (plan_of bs n t terms) s z))

  -- it is none exactly where no walk reaches z
  no_slot : (arrival (plan_of bs n t terms) s z ≡ 65535) ↔ ((w : List ℕ) → is_walk_to (plan_of bs n t terms) s z w ≡ true → ⊥)
  no_slot = go (arrival_or_never (plan_of bs n t terms) (slots_within bs n t terms ok) s z)
    where
      go :
          Arrival (plan_of bs n t terms) (slots_within bs n t terms ok) s z →
          (arrival (plan_of bs n t terms) s z ≡ 65535) ↔ ((w : List ℕ) → is_walk_to (plan_of bs n t terms) s z w ≡ true → ⊥)
      go (never e none-there) = (λ q. none-there, λ q. e)
      go (arrives h some) = (
        λ e. absurd (let few = few_slots in omega arith),
        λ none-there. ⊎_elim
            (λ empty. absurd (let zero = (count_zero (foremost_paths (plan_of bs n t terms) s z)).1 empty in omega arith))
            (λ m. absurd (none-there m.0 (path_is_walk (plan_of bs n t terms) s z m.0 (foremost_walks_are_paths bs n t terms ok s z keeps m.0 m.1))))
            (empty_or_member (foremost_paths (plan_of bs n t terms) s z)),
      )

  module _ (old b : PairBuffers) (x : ForemostValues)
      (e : ◌≡◌ {A = Outcome ForemostValues PairBuffers} (record { number = 0; values = x; buffers = b })
      (foremost_paired (plan_of bs n t terms) s z old)) where
    -- (kept) the members that have v strictly between their ends are those that have it inside
    through_between :
        (v : ℕ) →
        foremost_through (plan_of bs n t terms) s z v ≡
        length (select (is_between (plan_of bs n t terms) s v) (foremost_paths (plan_of bs n t terms) s z))
    unfolding foremost_through
    through_between v =
        ap length
        (select_ext (foremost_paths (plan_of bs n t terms) s z) (λ w m.
        between_in_path (plan_of bs n t terms) s z v w (foremost_walks_are_paths bs n t terms ok s z keeps w m)))

    -- what is answered and stored where 9 is no cause either
    pub stored :
        (x ≡ record {
          slot = arrival (plan_of bs n t terms) s z;
          hops = hops (foremost_paths (plan_of bs n t terms) s z);
          count = count (foremost_paths (plan_of bs n t terms) s z);
        }) ×
        (b.through_table ≡ over (map (foremost_through (plan_of bs n t terms) s z) (below n)) old.through_table)
    unfolding foremost_paired plan_of
    stored =
        ⊎_elim
        (λ many. absurd (let z : ◌≡◌ {A = ℕ} 0 9 = ap (λ o. o.number) (rw many at e) in omega arith))
        (λ few. let here = rw few at e in (ap (λ o. o.values) here, ap (λ o. o.buffers.through_table) here))
        (true_or_false (appearance_too_many (plan_of bs n t terms) s))

    -- (kept)
    foremost_told_law : ForemostTold (plan_of bs n t terms) s z x b
    unfolding plan_of
    foremost_told_law =
        let is = stored.0 in
        record {
          earliest = rw is (arrival_earliest bs n t terms ok s z);
          reached = rw is reached;
          no_slot = rw is no_slot;
          list = rw is foremost_listed;
          rising = foremost_paths_rise (plan_of bs n t terms) s z;
          between = λ v h. rw stored.1
              (written (foremost_through (plan_of bs n t terms) s z) n v old.through_table h ∙ through_between v);
          at_least = rw is (foremost_hops_at_least bs n t terms ok s z);
          among = rw is (foremost_among_shortest bs n t terms ok s z);
        }

-- C-14. Its units keep a reading until the plan ends.
pub foremost_demand : ForemostDemand
unfolding foremost plan_fault
foremost_demand bs n t g s z old new r e q =
    let here = rw q at e in
    let none = no_first _ _ (foremost_values r) old new (foremost_paired (plan_of bs n t (turning g)) s z old) here in
    foremost_told_law bs n t (turning g) s z (first_append_left (plan_causes bs n t) _ none)
    (kept_always bs n t (first_append_left (plan_causes bs n t) _ none)) old new (foremost_values r)
    (no_cause _ _ (foremost_values r) old new (foremost_paired (plan_of bs n t (turning g)) s z old) here)
