-- Demand 2 holds of reach and of pair.
-- Assumes nothing.
use Prim.Native.Nat.{ℕ, ◌+◌, ◌*◌, ◌<◌}
use native.Mathlib.Omega.{arith}
use mathlib.Core.Path.{◌≡◌, refl, ap, ap₂, ◌∙◌}
use mathlib.Core.Bool.{true}
use mathlib.Core.Logic.{⊎_elim}
use mathlib.Core.List.{List, [], map}
use borrow.Author.Tests.{leb-false, eqb-true, eq-eqb}
use lib.Arith.{digits_lt, digits_div, digits_mod}
use lib.Dec.{leb}
use lib.ListN.{length, get_or}
use Rattle.temporal.specs.Plan.{Terms, start}
use Rattle.temporal.specs.Lists.{below, select}
use Rattle.temporal.specs.Walk.{is_at, is_walk}
use Rattle.temporal.specs.Shortest.{shortest_walks, shortest_walks_to, hops, count, through}
use Rattle.temporal.specs.Bytes.{plan_of}
use Rattle.temporal.specs.Cause.{plan_causes, plan_fault, terms_causes, station_causes, is_too_many}
use Rattle.temporal.specs.Outcome.{
  Outcome,
  ReachTables,
  over,
  appearance_table,
  station_table,
  reached,
  reach,
}
use Rattle.temporal.specs.OutcomePair.{PairValues, PairBuffers, paired, pair}
use Rattle.walks.proofs.Adequacy.{in_complete_list, no_return}
use Rattle.temporal.proofs.CauseLaws.{first_append_left, first_append_right, first_head}
use Rattle.walks.proofs.EnteredLaws.{no_first, no_cause}
use Rattle.lists.proofs.ListLaws.{true_or_false, select_ext}
use Rattle.walks.proofs.WalkLaws.{ends_inv, ends_nil}
use Rattle.lists.proofs.BufferLaws.{written}
use Rattle.demands.specs.Demand2.{StationList, AppearanceList, is_between, ReachTold, PairTold, Demand2}
use Rattle.demands.proofs.ListedLaws.{station_listed, appearance_listed, only_empty}
use Rattle.demands.proofs.BetweenLaws.{between_is_interior}

-- ---- reach

module _ (bs : List ℕ) (n t : ℕ) (terms : Terms) (s : ℕ) (ok : plan_fault bs n t ≡ 0) (inside : s < n) (old x : ReachTables)
    (e : ◌≡◌ {A = Outcome (Unit {0}) ReachTables} (record { number = 0; values = tt; buffers = x })
    (reached (plan_of bs n t terms) s old)) where
  -- what the four tables hold where 9 is no cause either
  pub tables :
      x ≡ record {
        hops_table = over (appearance_table (plan_of bs n t terms) s hops) old.hops_table;
        count_table = over (appearance_table (plan_of bs n t terms) s count) old.count_table;
        station_hops = over (station_table (plan_of bs n t terms) s hops) old.station_hops;
        station_counts = over (station_table (plan_of bs n t terms) s count) old.station_counts;
      }
  unfolding reached
  tables =
      ⊎_elim
      (λ many. absurd (let z : ◌≡◌ {A = ℕ} 0 9 = ap (λ o. o.number) (rw many at e) in omega arith))
      (λ few. ap (λ o. o.buffers) (rw few at e))
      (true_or_false (is_too_many (plan_of bs n t terms) s))

  -- an entry of a station, and of an appearance
  pub station_entry :
      (f : List (List ℕ) → ℕ) (before : List ℕ) (v : ℕ) → v < n →
      get_or (over (station_table (plan_of bs n t terms) s f) before) v 0 ≡ f (shortest_walks_to (plan_of bs n t terms) s v)
  unfolding station_table plan_of
  station_entry f before v h = written _ n v before h

  appearance_entry :
      (f : List (List ℕ) → ℕ) (before : List ℕ) (v u : ℕ) → v < n → u < t + 1 →
      get_or (over (appearance_table (plan_of bs n t terms) s f) before) (v * (t + 1) + u) 0 ≡
      f (shortest_walks (plan_of bs n t terms) s v u)
  unfolding appearance_table plan_of
  appearance_entry f before v u h k =
      written _ (n * (t + 1)) (v * (t + 1) + u) before (digits_lt h k) ∙
      ap₂ (λ a b. f (shortest_walks (plan_of bs n t terms) s a b)) (digits_div v k) (digits_mod v k)

  station : (v : ℕ) → v < n → StationList (plan_of bs n t terms) s v (get_or x.station_hops v 0) (get_or x.station_counts v 0)
  station v h =
      rw (tables, station_entry hops old.station_hops v h, station_entry count old.station_counts v h)
      (station_listed bs n t terms ok s v)

  appearance :
      (v u : ℕ) → v < n → u < t + 1 →
      AppearanceList (plan_of bs n t terms) s v u (get_or x.hops_table (v * (t + 1) + u) 0)
      (get_or x.count_table (v * (t + 1) + u) 0)
  appearance v u h k =
      rw (tables, appearance_entry hops old.hops_table v u h k, appearance_entry count old.count_table v u h k)
      (appearance_listed bs n t terms ok s v u)

  start_walk : is_walk (plan_of bs n t terms) s s 0 [] ≡ true
  unfolding is_walk
  start_walk = rw (ends_nil, eq-eqb s s refl)

  reach_told : ReachTold (plan_of bs n t terms) s x
  unfolding plan_of
  reach_told =
      record {
        station = station;
        appearance = appearance;
        source =
            only_empty (station s inside) (rw (ends_nil, eq-eqb s s refl));
        at_start =
            let place : s * (t + 1) + 0 ≡ s * (t + 1) = omega arith in
            rw place at (only_empty (appearance s 0 inside (omega arith)) start_walk);
      }

-- reach, of its contract's own equation where the number is 0
pub reach_work :
    (bs : List ℕ) (n t : ℕ) (terms : Terms) (s : ℕ) (old x : ReachTables) →
    ◌≡◌ {A = Outcome (Unit {0}) ReachTables} (record { number = 0; values = tt; buffers = x }) (reach bs n t terms s old) →
    (plan_fault bs n t ≡ 0) × ((s < n) ×
    (◌≡◌ {A = Outcome (Unit {0}) ReachTables} (record { number = 0; values = tt; buffers = x }) (reached (plan_of bs n t terms) s old)))
unfolding reach plan_fault station_causes
reach_work bs n t terms s old x e =
    let none = no_first _ tt tt old x (reached (plan_of bs n t terms) s old) e in
    let call = first_append_right (terms_causes terms) _ (first_append_right (plan_causes bs n t) _ none) in (
      first_append_left (plan_causes bs n t) _ none,
      (
        leb-false n s (first_head 5 (leb n s) _ call),
        no_cause _ tt tt old x (reached (plan_of bs n t terms) s old) e,
      ),
    )

reach_accepted :
    (bs : List ℕ) (n t : ℕ) (terms : Terms) (s : ℕ) (old x : ReachTables) →
    ◌≡◌ {A = Outcome (Unit {0}) ReachTables} (record { number = 0; values = tt; buffers = x }) (reach bs n t terms s old) →
    ReachTold (plan_of bs n t terms) s x
reach_accepted bs n t terms s old x e =
    let (ok, rest) = reach_work bs n t terms s old x e in
    reach_told bs n t terms s ok rest.0 old x rest.1

-- ---- pair

module _ (bs : List ℕ) (n t : ℕ) (terms : Terms) (s z : ℕ) (ok : plan_fault bs n t ≡ 0) (old b : PairBuffers) (x : PairValues)
    (e : ◌≡◌ {A = Outcome PairValues PairBuffers} (record { number = 0; values = x; buffers = b })
    (paired (plan_of bs n t terms) s z old)) where
  -- the members that have v strictly between their ends are those that have it inside
  through_between :
      (v : ℕ) →
      through (plan_of bs n t terms) s z v ≡ length (select (is_between (plan_of bs n t terms) s v) (shortest_walks_to (plan_of bs n t terms) s z))
  unfolding through
  through_between v =
      ap length
      (select_ext (shortest_walks_to (plan_of bs n t terms) s z) (λ w m.
      let p = plan_of bs n t terms in
      let r = ends_inv p (start s) (is_at z) w ((in_complete_list bs n t terms ok s z w).0 m).0 in
      between_is_interior p s z v w r.runs (eqb-true _ z r.passes) (no_return bs n t terms ok s z w m r.runs)))

  -- what is answered and stored where 9 is no cause either
  pub stored :
      (x ≡ record {
        hops = hops (shortest_walks_to (plan_of bs n t terms) s z);
        count = count (shortest_walks_to (plan_of bs n t terms) s z);
      }) ×
      (b.through_table ≡ over (map (through (plan_of bs n t terms) s z) (below n)) old.through_table)
  unfolding paired plan_of
  stored =
      ⊎_elim
      (λ many. absurd (let z : ◌≡◌ {A = ℕ} 0 9 = ap (λ o. o.number) (rw many at e) in omega arith))
      (λ few. let here = rw few at e in (ap (λ o. o.values) here, ap (λ o. o.buffers.through_table) here))
      (true_or_false (is_too_many (plan_of bs n t terms) s))

  pair_told : PairTold (plan_of bs n t terms) s z x b
  unfolding plan_of
  pair_told =
      record {
        list = rw stored.0 (station_listed bs n t terms ok s z);
        between = λ v h. rw stored.1 (written (through (plan_of bs n t terms) s z) n v old.through_table h ∙ through_between v);
      }

-- pair, of its contract's own equation where the number is 0
pub pair_work :
    (bs : List ℕ) (n t : ℕ) (terms : Terms) (s z : ℕ) (old b : PairBuffers) (x : PairValues) →
    ◌≡◌ {A = Outcome PairValues PairBuffers} (record { number = 0; values = x; buffers = b }) (pair bs n t terms s z old) →
    (plan_fault bs n t ≡ 0) ×
    (◌≡◌ {A = Outcome PairValues PairBuffers} (record { number = 0; values = x; buffers = b }) (paired (plan_of bs n t terms) s z old))
unfolding pair plan_fault
pair_work bs n t terms s z old b x e =
    let none = no_first _ _ x old b (paired (plan_of bs n t terms) s z old) e in
    (first_append_left (plan_causes bs n t) _ none, no_cause _ _ x old b (paired (plan_of bs n t terms) s z old) e)

pair_accepted :
    (bs : List ℕ) (n t : ℕ) (terms : Terms) (s z : ℕ) (old b : PairBuffers) (x : PairValues) →
    ◌≡◌ {A = Outcome PairValues PairBuffers} (record { number = 0; values = x; buffers = b }) (pair bs n t terms s z old) →
    PairTold (plan_of bs n t terms) s z x b
pair_accepted bs n t terms s z old b x e =
    let (ok, work) = pair_work bs n t terms s z old b x e in
    pair_told bs n t terms s z ok old b x work

-- Demand 2.
pub demand2 : Demand2
demand2 =
    record {
      of_reach = λ bs n t terms s old new r e q. reach_accepted bs n t terms s old new (rw q at e);
      of_pair = λ bs n t terms s z old new r e q. pair_accepted bs n t terms s z old new _ (rw q at e);
      ends_once = λ bs n t terms s z ok w m l e.
          let (home, before) = no_return bs n t terms ok s z w m e in record { to_source = home; to_destination = before };
    }
