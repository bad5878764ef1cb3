-- Whole accounts for doubled plan A, by computation from the definition of the text, with lists that are grown hop by hop (GrownLaws).
-- Assumes nothing.
use Prim.Native.Nat.{ℕ, ◌*◌, ◌/◌, ◌^◌, ◌<◌, min}
use native.Mathlib.Omega.{arith}
use mathlib.Core.Path.{◌≡◌, refl, ap, ◌∙◌}
use mathlib.Core.List.{List, ◌++◌, flat_map}
use mathlib.Core.Option.{bind}
use lib.ListN.{length}
use Rattle.temporal.specs.Lists.{from, below, sum, select, any, member, distinct}
use Rattle.temporal.specs.Plan.{Contact, Plan, Terms, turning, leads_to, may_follow}
use Rattle.temporal.specs.Walk.{along, step, run, last_or, holds, ends_in, is_interior}
use Rattle.temporal.specs.Shortest.{or_else, first_nonempty, hops, count, through_in, through}
use Rattle.temporal.specs.Load.{Ends, ends_below, pairs_below, partial_pairs, share, partial_load, pairs_by, load_by}
use Rattle.temporal.specs.Bytes.{word_at, contact_at, records, plan_of}
use Rattle.temporal.specs.Cause.{first, terms_causes}
use Rattle.walks.proofs.GrownLaws.{grown, grown_shortest, onward, grown_walks_to, walks_to_grown}
use Rattle.text.specs.Decimal.{code, codes, powers_up_to, digit_count, decimal}
use Rattle.text.specs.Field.{field, fields, labelled}
use Rattle.report.specs.Sizes.{largest, top_station, input_stations, input_slots}
use Rattle.report.specs.Report.{input_plan}
use Rattle.account.specs.Account.{most_walks, station_line, pair_line, leg, behind_leg, walk_line, more_line, walks_through, walks_text, pair_text}
use Rattle.account.specs.Account.{account_text, accounted}
use Rattle.examples.specs.Questions.{plan_a}
use Rattle.demands.specs.LoadText.{as_text}
use Rattle.demands.specs.Why.{plan_athree_two_slots, plan_atwo_one_slot}
use Rattle.demands.proofs.LoadText.{accepted, allowed_one, allowed_two}
use Rattle.demands.proofs.WhyRefusals.{none_beside, printed_exactly}

-- a pair's text by a list of its walks
unfoldable pair_by : (ℕ → Contact) → Plan → ℕ → ℕ → Ends → List (List ℕ) → List ℕ
pair_by at p v k e l =
    pair_line
    (record {
      source = e.source;
      destination = e.destination;
      hops = hops l;
      through = through_in p e.source e.destination l v;
      count = count l;
      share = 2 ^ 32 * through_in p e.source e.destination l v / count l;
    }) ++
    walks_text at k (select (is_interior p e.source e.destination v) l)

-- the account by other lists of walks: P gives the list of a source and a destination
unfoldable account_by : (ℕ → Contact) → Plan → ℕ → ℕ → (ℕ → ℕ → List (List ℕ)) → List ℕ
account_by at p v k P =
    station_line v (length (pairs_by p P v)) (load_by p P v) ++
    flat_map (λ e. pair_by at p v k e (P e.source e.destination)) (pairs_by p P v)

account_grown : (at : ℕ → Contact) (p : Plan) (v k : ℕ) → account_text at p v k ≡ account_by at p v k (grown_walks_to p)
unfolding account_text pair_text walks_through pair_by account_by partial_pairs partial_load share pairs_below through pairs_by load_by
account_grown at p v k = ap (account_by at p v k) (walks_to_grown p)

-- the account of a station of doubled plan A is not refused
plan_a_grown :
    (terms : Terms) → first (terms_causes terms) ≡ 0 → (v k : ℕ) → v < 5 →
    accounted plan_a.bytes terms v k ≡
    account_by (contact_at plan_a.bytes) (input_plan plan_a.bytes terms) v (min k most_walks)
    (grown_walks_to (input_plan plan_a.bytes terms))
unfolding input_stations largest top_station word_at contact_at records below from
plan_a_grown terms right v k h =
    (printed_exactly plan_a.bytes terms v k).0 (none_beside plan_a.bytes terms v (accepted terms right) h) ∙
    account_grown (contact_at plan_a.bytes) (input_plan plan_a.bytes terms) v (min k most_walks)

computed_two :
    account_by (contact_at plan_a.bytes) (input_plan plan_a.bytes (turning 2)) 3 2
    (grown_walks_to (input_plan plan_a.bytes (turning 2))) ≡ as_text plan_athree_two_slots
unfolding account_by pair_by station_line pair_line leg behind_leg walk_line more_line walks_text from below sum select any member distinct leads_to may_follow along step run last_or holds ends_in is_interior or_else first_nonempty hops ends_below word_at contact_at records plan_of code codes powers_up_to digit_count decimal field fields labelled largest top_station input_stations input_slots as_text grown grown_shortest onward grown_walks_to pairs_by load_by flat_map bind
computed_two = refl

computed_one :
    account_by (contact_at plan_a.bytes) (input_plan plan_a.bytes (turning 1)) 2 1
    (grown_walks_to (input_plan plan_a.bytes (turning 1))) ≡ as_text plan_atwo_one_slot
unfolding account_by pair_by station_line pair_line leg behind_leg walk_line more_line walks_text from below sum select any member distinct leads_to may_follow along step run last_or holds ends_in is_interior or_else first_nonempty hops ends_below word_at contact_at records plan_of code codes powers_up_to digit_count decimal field fields labelled largest top_station input_stations input_slots as_text grown grown_shortest onward grown_walks_to pairs_by load_by flat_map bind
computed_one = refl

pub plan_a_two_slots : accounted plan_a.bytes (turning 2) 3 2 ≡ as_text plan_athree_two_slots
plan_a_two_slots = plan_a_grown (turning 2) allowed_two 3 2 (omega arith) ∙ computed_two

pub plan_a_one_slot : accounted plan_a.bytes (turning 1) 2 1 ≡ as_text plan_atwo_one_slot
plan_a_one_slot = plan_a_grown (turning 1) allowed_one 2 1 (omega arith) ∙ computed_one
