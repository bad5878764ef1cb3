-- C-21 where nothing goes stale: walks and paths agree, and so do the figures made of them; and a plan in which they do not. A law marked
-- (kept) rests on a reading being kept until the plan ends.
-- Assumes nothing.
use Prim.Native.Nat.{ℕ, ◌-◌, ◌*◌, ◌<◌}
use native.Mathlib.Omega.{arith}
use mathlib.Core.Path.{◌≡◌, refl, sym, ap, ◌∙◌, fun_ext}
use mathlib.Core.Bool.{false}
use mathlib.Core.List.{List, [], ◌∷◌, map, flat_map, Memᴰ}
use mathlib.Core.Option.{bind}
use lib.ListN.{length, get_or}
use Rattle.temporal.specs.Lists.{from, below, sum, select, any, member, distinct, tuples}
use Rattle.temporal.specs.Plan.{Terms, units, Keeps, leads_to, may_follow}
use Rattle.temporal.specs.Walk.{along, step, run, last_or, holds, ends_in, is_path, is_interior}
use Rattle.temporal.specs.Definition3.{starting_points, is_path000}
use Rattle.temporal.specs.Shortest.{or_else, first_nonempty, of_hops, shortest, shortest_walks_to, shortest_paths, hops, count, through}
use Rattle.temporal.specs.Load.{ends_below, pairs_below, partial_pairs, pairs, share, partial_load, load, pairs_by, load_by}
use Rattle.temporal.specs.Bytes.{word_at, contact_at, records, plan_of}
use Rattle.temporal.specs.Cause.{cause, first, outside, wrong_length, wrong_slot, wrong_ends, is_above, wrong_order, record_causes, plan_causes}
use Rattle.temporal.specs.Cause.{plan_fault, wrong_turnaround, wrong_keeping, terms_causes}
use Rattle.temporal.specs.Cursor.{same_numbers}
use Rattle.temporal.specs.Outcome.{ReachTables, reach}
use Rattle.temporal.specs.OutcomePair.{PairValues, PairBuffers, pair}
use Rattle.temporal.specs.Outcome.{Outcome}
use Rattle.temporal.specs.Verdict.{Verdict, complete, beginning, wrong, joined, verdict_on}
use Rattle.walks.proofs.Adequacy.{shortest_walks_are_paths}
use Rattle.lists.proofs.ListLaws.{not_both}
use Rattle.walks.proofs.PlanLaws.{kept_always}
use Rattle.demands.specs.Kept.{PathList, KeptFigures, Failing, KeptDemand}
use Rattle.demands.proofs.ListedLaws.{path_listed, among_listed}
use Rattle.demands.proofs.Demand2.{reach_work, pair_work, tables, station_entry, stored}

-- ---- where nothing goes stale

module _ (bs : List ℕ) (n t : ℕ) (terms : Terms) (ok : plan_fault bs n t ≡ 0) (keeps : Keeps t terms) where
  -- (kept)
  all_lists : shortest_walks_to (plan_of bs n t terms) ≡ shortest_paths (plan_of bs n t terms)
  all_lists = fun_ext (λ s. fun_ext (λ z. shortest_walks_are_paths bs n t terms ok keeps s z))

  -- (kept)
  kept_figures : KeptFigures (plan_of bs n t terms)
  unfolding partial_pairs partial_load share pairs_below through pairs_by load_by
  kept_figures =
      record {
        lists = shortest_walks_are_paths bs n t terms ok keeps;
        paths = path_listed bs n t terms ok keeps;
        among_paths = among_listed bs n t terms ok keeps;
        fewest = λ s z. ap hops (shortest_walks_are_paths bs n t terms ok keeps s z);
        pairs_of_paths = λ v. ap (λ P. length (pairs_by (plan_of bs n t terms) P v)) all_lists;
        load_of_paths = λ v. ap (λ P. load_by (plan_of bs n t terms) P v) all_lists;
        verdict_of_paths = λ s z entries. ap (λ l. verdict_on l entries) (shortest_walks_are_paths bs n t terms ok keeps s z);
      }

-- (kept) the stations' tables of reach
reach_paths :
    (bs : List ℕ) (n t : ℕ) (terms : Terms) (s : ℕ) (old x : ReachTables) → Keeps t terms →
    ◌≡◌ {A = Outcome (Unit {0}) ReachTables} (record { number = 0; values = tt; buffers = x }) (reach bs n t terms s old) →
    (v : ℕ) → v < n → PathList (plan_of bs n t terms) s v (get_or x.station_hops v 0) (get_or x.station_counts v 0)
reach_paths bs n t terms s old x keeps e v h =
    let (ok, rest) = reach_work bs n t terms s old x e in
    rw (
      tables bs n t terms s ok rest.0 old x rest.1,
      station_entry bs n t terms s ok rest.0 old x rest.1 hops old.station_hops v h,
      station_entry bs n t terms s ok rest.0 old x rest.1 count old.station_counts v h,
    )
    (path_listed bs n t terms ok keeps s v)

-- (kept) what pair answers
pair_paths :
    (bs : List ℕ) (n t : ℕ) (terms : Terms) (s z : ℕ) (old b : PairBuffers) (x : PairValues) → Keeps t terms →
    ◌≡◌ {A = Outcome PairValues PairBuffers} (record { number = 0; values = x; buffers = b }) (pair bs n t terms s z old) →
    PathList (plan_of bs n t terms) s z x.hops x.count
pair_paths bs n t terms s z old b x keeps e =
    let (ok, work) = pair_work bs n t terms s z old b x e in
    rw (stored bs n t terms s z ok old b x work).0 (path_listed bs n t terms ok keeps s z)

-- ---- where something does

-- 1 hears in slot 1 and sends to 3 in slot 4 alone: (1, 0, 1), (2, 1, 2), (3, 2, 1), (4, 1, 3)
abbrev detour : List ℕ
detour =
    0 ∷ 1 ∷ 0 ∷ 0 ∷ 0 ∷ 1 ∷ 0 ∷ 2 ∷ 0 ∷ 1 ∷ 0 ∷ 2 ∷ 0 ∷ 3 ∷ 0 ∷ 2 ∷ 0 ∷ 1 ∷ 0 ∷ 4 ∷ 0 ∷ 1 ∷ 0 ∷ 3 ∷ []

detour_walks : shortest_walks_to (plan_of detour 4 4 (units 1 1)) 0 3 ≡ (0 ∷ 1 ∷ 2 ∷ 3 ∷ []) ∷ []
unfolding from below select any member distinct tuples leads_to may_follow along step run last_or holds ends_in or_else first_nonempty of_hops shortest shortest_walks_to word_at contact_at records plan_of flat_map bind
detour_walks = refl

detour_paths : shortest_paths (plan_of detour 4 4 (units 1 1)) 0 3 ≡ []
unfolding from below select any member distinct tuples leads_to may_follow along step run last_or holds is_path or_else first_nonempty of_hops shortest shortest_paths word_at contact_at records plan_of flat_map bind
detour_paths = refl

-- the walk is a member of the list, and no path
detour_member : Memᴰ (0 ∷ 1 ∷ 2 ∷ 3 ∷ []) (shortest_walks_to (plan_of detour 4 4 (units 1 1)) 0 3)
detour_member = rw detour_walks (Memᴰ.head refl)

detour_no_path : is_path000 (plan_of detour 4 4 (units 1 1)) 0 3 (0 ∷ 1 ∷ 2 ∷ 3 ∷ []) ≡ false
unfolding any member distinct leads_to may_follow along step run last_or holds starting_points is_path000 from below word_at contact_at records plan_of bind
detour_no_path = refl

-- the pair of 0 and 3 is the one pair of station 2, with its whole share; by paths station 2 has none
detour_pairs :
    pairs (plan_of detour 4 4 (units 1 1)) 2 ∷ length (pairs_by (plan_of detour 4 4 (units 1 1)) (shortest_paths (plan_of detour 4 4 (units 1 1))) 2) ∷ [] ≡
    1 ∷ 0 ∷ []
unfolding from below sum select any member distinct tuples leads_to may_follow along step run last_or holds ends_in is_path is_interior or_else first_nonempty of_hops shortest shortest_walks_to shortest_paths ends_below pairs_below partial_pairs share partial_load through pairs_by load_by word_at contact_at records plan_of flat_map bind
detour_pairs = refl

detour_loads :
    load (plan_of detour 4 4 (units 1 1)) 2 ∷ load_by (plan_of detour 4 4 (units 1 1)) (shortest_paths (plan_of detour 4 4 (units 1 1))) 2 ∷ [] ≡
    4294967296 ∷ 0 ∷ []
unfolding from below sum select any member distinct tuples leads_to may_follow along step run last_or holds ends_in is_path is_interior or_else first_nonempty of_hops shortest shortest_walks_to shortest_paths ends_below pairs_below partial_pairs share partial_load through pairs_by load_by word_at contact_at records plan_of flat_map bind
detour_loads = refl

-- the walk is the complete list, and by paths it is wrong
verdict_of_walks : verdict_on ((0 ∷ 1 ∷ 2 ∷ 3 ∷ []) ∷ []) (0 ∷ 1 ∷ 2 ∷ 3 ∷ []) ≡ complete
unfolding same_numbers joined verdict_on from below any flat_map
verdict_of_walks = refl

verdict_of_paths : verdict_on [] (0 ∷ 1 ∷ 2 ∷ 3 ∷ []) ≡ wrong
unfolding same_numbers joined verdict_on from below any flat_map
verdict_of_paths = refl

-- stations 1 and 2 are inside it, 1 twice
detour_throughs : sum (map (through (plan_of detour 4 4 (units 1 1)) 0 3) (below 4)) ≡ 2
unfolding from below sum select any member distinct tuples leads_to may_follow along step run last_or holds ends_in is_path is_interior or_else first_nonempty of_hops shortest shortest_walks_to shortest_paths ends_below pairs_below partial_pairs share partial_load through pairs_by load_by word_at contact_at records plan_of flat_map bind
detour_throughs = refl

detour_accepted : plan_fault detour 4 4 ≡ 0
unfolding from below any word_at contact_at records cause first outside wrong_length wrong_slot wrong_ends is_above wrong_order record_causes plan_causes plan_fault flat_map
detour_accepted = refl

detour_allowed : first (terms_causes (units 1 1)) ≡ 0
unfolding terms_causes wrong_turnaround wrong_keeping cause first
detour_allowed = refl

-- a number of a verdict, to tell two apart
unfoldable told : Verdict → ℕ
told complete = 0
told beginning = 1
told wrong = 2

failing : Failing detour 4 4 (units 1 1) 0 3 2 (0 ∷ 1 ∷ 2 ∷ 3 ∷ [])
unfolding hops told
failing =
    record {
      accepted = detour_accepted;
      allowed = detour_allowed;
      not_lists = λ e. let z = ap length (sym detour_walks ∙ e ∙ detour_paths) in omega arith;
      not_paths = λ k. not_both ((k.members (0 ∷ 1 ∷ 2 ∷ 3 ∷ [])).0 detour_member).passing detour_no_path;
      not_among_paths = λ k. not_both ((k.members (0 ∷ 1 ∷ 2 ∷ 3 ∷ [])).0 detour_member).passing detour_no_path;
      not_fewest = λ e. let z = sym (ap hops detour_walks) ∙ e ∙ ap hops detour_paths in omega arith;
      not_pairs = λ e. let z = ap (λ l. get_or l 0 0) (sym detour_pairs) ∙ e ∙ ap (λ l. get_or l 1 0) detour_pairs in omega arith;
      not_load = λ e. let z = ap (λ l. get_or l 0 0) (sym detour_loads) ∙ e ∙ ap (λ l. get_or l 1 0) detour_loads in omega arith;
      not_verdict = λ e.
          let same = ap (λ l. verdict_on l (0 ∷ 1 ∷ 2 ∷ 3 ∷ [])) (sym detour_walks) ∙ e ∙ ap (λ l. verdict_on l (0 ∷ 1 ∷ 2 ∷ 3 ∷ [])) detour_paths in
          let z = ap told (sym verdict_of_walks ∙ same ∙ verdict_of_paths) in omega arith;
      not_accounted = λ e.
          let z = sym detour_throughs ∙ e ∙ ap (λ l. count l * (hops l - 1)) detour_walks in omega arith;
    }

-- (kept) C-21 where nothing goes stale.
pub kept_demand : KeptDemand
kept_demand =
    record {
      always = λ bs n t g ok. kept_always bs n t ok;
      figures = kept_figures;
      of_reach = λ bs n t terms s old new r keeps e q. reach_paths bs n t terms s old new keeps (rw q at e);
      of_pair = λ bs n t terms s z old new r keeps e q. pair_paths bs n t terms s z old new _ keeps (rw q at e);
      needed = (detour, 4, 4, units 1 1, 0, 3, 2, 0 ∷ 1 ∷ 2 ∷ 3 ∷ [], failing);
    }
