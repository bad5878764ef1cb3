-- Entries of the table by lists that are grown hop by hop (GrownLaws): what an entry asks of such lists, and that the entry is right
-- where the grown lists pass. Assumes nothing.
use Prim.Native.Nat.{ℕ, ◌+◌, ◌*◌, ◌/◌, ◌%◌, ◌≤◌}
use mathlib.Core.Path.{◌≡◌, ap, ◌∙◌, fun_ext}
use mathlib.Core.Bool.{Bool, true, ◌&&◌, ◌||◌}
use mathlib.Core.List.{List, [], ◌∷◌, ◌++◌, map}
use lib.Dec.{eqb}
use lib.ListN.{length, get_or}
use Rattle.temporal.specs.Lists.{below, select}
use Rattle.temporal.specs.Plan.{Plan}
use Rattle.temporal.specs.Walk.{is_path}
use Rattle.temporal.specs.Shortest.{hops, count, through_in, through}
use Rattle.temporal.specs.Load.{pairs_by, load_by, load}
use Rattle.temporal.specs.Bytes.{plan_of}
use Rattle.temporal.specs.Cause.{cause, first, terms_causes, wrong_sources, plan_causes, pair_causes, station_causes}
use Rattle.temporal.specs.Outcome.{ReachTables, entered, over, short, places, work_size, appearance_table, station_table, reached, reach}
use Rattle.temporal.specs.OutcomePair.{paired, pair, partly_loaded, partial_loads}
use Rattle.temporal.specs.Cursor.{Reply, same_numbers, Operation, index_in, move}
use Rattle.temporal.specs.FirstNext.{list_of, way_causes, overflow, way_work, way_answer}
use Rattle.walks.proofs.EnteredLaws.{unless_none}
use Rattle.walks.proofs.FewLaws.{most_lists, few_walks, few_anywhere}
use Rattle.walks.proofs.GrownLaws.{grown_walks, grown_walks_to, walks_grown, walks_to_grown, pairs_by_law, load_by_law}
use Rattle.examples.specs.Questions.{PlanBytes, station, appearance, walks, complete, throughs, gives, loads_of, sevens}
use Rattle.examples.specs.Questions.{terms_of, question_of, reached_from, same_lists, same_reply}
use Rattle.examples.specs.Table.{right}

module _ (g : PlanBytes) where
  abbrev p : Plan
  p = plan_of g.bytes g.stations g.slots (terms_of g)

  module _ (few : most_lists p ≤ 18446744073709551615) where
    -- ---- reach

    module _ (s v : ℕ)
        (free : first (plan_causes g.bytes g.stations g.slots ++ (terms_causes (terms_of g) ++ station_causes g.stations s
        (short (places g.stations g.slots) (sevens (places g.stations g.slots)) ||
        short (places g.stations g.slots) (sevens (places g.stations g.slots)) ||
        (short g.stations (sevens g.stations) || short g.stations (sevens g.stations))))) ≡ 0)
      where
        -- the tables that reach leaves
        reached_is :
            reached_from g s ≡ record {
              hops_table = over (appearance_table p s hops) (sevens (places g.stations g.slots));
              count_table = over (appearance_table p s count) (sevens (places g.stations g.slots));
              station_hops = over (station_table p s hops) (sevens g.stations);
              station_counts = over (station_table p s count) (sevens g.stations);
            }
        unfolding reached_from reach entered reached
        reached_is =
            ap (λ o. o.buffers) (unless_none (first _) _ (reached p s old) free) ∙ rw (few_walks p few s)
          where
            old : ReachTables
            old =
                record {
                  hops_table = sevens (places g.stations g.slots);
                  count_table = sevens (places g.stations g.slots);
                  station_hops = sevens g.stations;
                  station_counts = sevens g.stations;
                }

        abbrev station_test : (ℕ → ℕ → List (List ℕ)) → ℕ → ℕ → Bool
        station_test P h c =
            eqb (get_or (over (map (λ v. hops (P s v)) (below g.stations)) (sevens g.stations)) v 7) h &&
            eqb (get_or (over (map (λ v. count (P s v)) (below g.stations)) (sevens g.stations)) v 7) c

        pub station_right : (h c : ℕ) → station_test (grown_walks_to p) h c ≡ true → right (station g s v h c) ≡ true
        unfolding right station_table plan_of
        station_right h c e =
            ap (λ b. eqb (get_or b.station_hops v 7) h && eqb (get_or b.station_counts v 7) c) reached_is ∙
            ap (λ P. station_test P h c) (walks_to_grown p) ∙ e

        module _ (u : ℕ) where
          abbrev appearance_test : (ℕ → ℕ → ℕ → List (List ℕ)) → ℕ → ℕ → Bool
          appearance_test W h c =
              eqb
              (get_or
              (over
              (map (λ j. hops (W s (j / (g.slots + 1)) (j % (g.slots + 1)))) (below (places g.stations g.slots)))
              (sevens (places g.stations g.slots)))
              (v * (g.slots + 1) + u) 7) h &&
              eqb
              (get_or
              (over
              (map (λ j. count (W s (j / (g.slots + 1)) (j % (g.slots + 1)))) (below (places g.stations g.slots)))
              (sevens (places g.stations g.slots)))
              (v * (g.slots + 1) + u) 7) c

          pub appearance_right : (h c : ℕ) → appearance_test (grown_walks p) h c ≡ true → right (appearance g s v u h c) ≡ true
          unfolding right appearance_table plan_of
          appearance_right h c e =
              ap (λ b. eqb (get_or b.hops_table (v * (g.slots + 1) + u) 7) h &&
              eqb (get_or b.count_table (v * (g.slots + 1) + u) 7) c) reached_is ∙
              ap (λ W. appearance_test W h c) (walks_grown p) ∙ e

    -- ---- pair

    pub throughs_right :
        (s z : ℕ) (l : List ℕ) →
        first (plan_causes g.bytes g.stations g.slots ++ pair_causes (terms_of g) g.stations s z
        (short g.stations (sevens g.stations) ||
        short (work_size g.stations g.slots) (sevens (work_size g.stations g.slots)))) ≡ 0 →
        same_numbers (over (map (through_in p s z (grown_walks_to p s z)) (below g.stations)) (sevens g.stations)) l ≡ true →
        right (throughs g s z l) ≡ true
    unfolding right pair entered paired through plan_of
    throughs_right s z l free e =
        rw (unless_none _ _ _ free, few_walks p few s)
        (ap (λ P. same_numbers (over (map (through_in p s z (P s z)) (below g.stations)) (sevens g.stations)) l)
        (walks_to_grown p) ∙ e)

    -- ---- first way and next way

    module _ (o : Operation) (s z : ℕ) (way : List ℕ) (r : Reply) (after : List ℕ) where
      abbrev gives_test : (ℕ → ℕ → List (List ℕ)) → Bool
      gives_test P =
          let m = move o 0 (P s z) (index_in (P s z) way) way in
          same_reply m.reply r && same_numbers m.buffer after

      pub gives_right :
          first (way_causes (question_of g s z) (length way) (length (sevens (work_size g.stations g.slots)))) ≡ 0 →
          gives_test (grown_walks_to p) ≡ true → right (gives o g s z way r after) ≡ true
      unfolding right way_answer way_work list_of overflow cause plan_of
      gives_right free e =
          rw (unless_none _ _ _ free, few_walks p few s) (ap gives_test (walks_to_grown p) ∙ e)

    -- ---- loads

    pub loads_right :
        (ps ls : List ℕ) →
        first (plan_causes g.bytes g.stations g.slots ++ (terms_causes (terms_of g) ++
        cause 13 (wrong_sources g.stations g.stations) ∷ cause 8
        (short g.stations (sevens g.stations) || (short g.stations (sevens g.stations) ||
        short (work_size g.stations g.slots) (sevens (work_size g.stations g.slots)))) ∷ [])) ≡ 0 →
        (same_numbers
        (over (map (λ v. length (pairs_by p (grown_walks_to p) v)) (below g.stations)) (sevens g.stations)) ps &&
        same_numbers (over (map (load_by p (grown_walks_to p)) (below g.stations)) (sevens g.stations)) ls) ≡ true →
        right (loads_of g ps ls) ≡ true
    unfolding right partial_loads entered partly_loaded plan_of
    loads_right ps ls free e =
        rw (unless_none _ _ _ free, few_anywhere p few)
        (ap (λ f. same_numbers (over (map f (below g.stations)) (sevens g.stations)) ps &&
        same_numbers (over (map (load p) (below g.stations)) (sevens g.stations)) ls) (fun_ext (pairs_by_law p)) ∙
        ap (λ f. same_numbers
        (over (map (λ v. length (pairs_by p (grown_walks_to p) v)) (below g.stations)) (sevens g.stations)) ps &&
        same_numbers (over (map f (below g.stations)) (sevens g.stations)) ls) (fun_ext (load_by_law p)) ∙ e)

  -- ---- the lists themselves

  pub walks_right :
      (s v u : ℕ) (l paths : List (List ℕ)) →
      (same_lists (grown_walks p s v u) l && same_lists (select (is_path p s v) l) paths) ≡ true →
      right (walks g s v u l paths) ≡ true
  unfolding right
  walks_right s v u l paths e =
      ap (λ W. same_lists (W s v u) l && same_lists (select (is_path p s v) l) paths) (walks_grown p) ∙ e

  pub complete_right :
      (s z : ℕ) (l : List (List ℕ)) → same_lists (grown_walks_to p s z) l ≡ true → right (complete g s z l) ≡ true
  unfolding right list_of
  complete_right s z l e = ap (λ P. same_lists (P s z) l) (walks_to_grown p) ∙ e
