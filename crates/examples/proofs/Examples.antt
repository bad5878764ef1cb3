-- P1 to P10 of document 01, for doubled plans, hold of the definitions: every entry of the table is right. Each is computed
-- by itself, from lists that are grown hop by hop (Computed).
-- Assumes nothing.
use Prim.Native.Nat.{◌≤◌}
use borrow.Author.Tests.{leb-true}
use mathlib.Core.Path.{◌≡◌, refl}
use mathlib.Core.Bool.{true, and-eq-true_iff}
use mathlib.Core.List.{List, [], ◌∷◌, flat_map}
use mathlib.Core.Option.{bind}
use Rattle.temporal.specs.Lists.{from, below, sum, select, any, member, distinct, tuples}
use Rattle.temporal.specs.Plan.{leads_to, may_follow}
use Rattle.temporal.specs.Walk.{along, step, run, last_or, holds, ends_in, is_walk, is_path, is_interior}
use Rattle.temporal.specs.Shortest.{or_else, first_nonempty, hops}
use Rattle.temporal.specs.Load.{pairs_by, load_by, ends_below}
use Rattle.temporal.specs.Bytes.{word_at, contact_at, records, plan_of}
use Rattle.temporal.specs.Cause.{cause, first, unless, outside, wrong_length, wrong_slot, wrong_ends, is_above, wrong_order}
use Rattle.temporal.specs.Cause.{record_causes, plan_causes, plan_fault, wrong_turnaround, wrong_keeping, terms_causes, ends_causes, pair_causes, station_causes}
use Rattle.temporal.specs.Outcome.{over}
use Rattle.temporal.specs.Cursor.{same_numbers, index_in, stay, give, go_first, go_next, go, move}
use Rattle.temporal.specs.FirstNext.{way_causes, way_answer}
use Rattle.walks.proofs.FewLaws.{most_lists}
use Rattle.walks.proofs.GrownLaws.{grown, grown_shortest, onward, grown_walks, grown_walks_to}
use Rattle.temporal.specs.Cursor.{path, no_path, last_path, refused, first_way, next_way}
use Rattle.examples.specs.Questions.{plan_a, empty_plan, repeated, with_itself, same_slot, single, slow_a, slowest, without, too_slow, terms_of}
use Rattle.examples.specs.Questions.{Example, checks, station, appearance}
use Rattle.examples.specs.Questions.{walks, complete, throughs, gives, loads_of, same_lists, same_reply}
use Rattle.examples.specs.Table.{right, all_right, table}
use Rattle.examples.proofs.Computed.{station_right, appearance_right, throughs_right}
use Rattle.examples.proofs.Computed.{gives_right, loads_right, walks_right, complete_right}

-- ---- few walks

few_empty : most_lists (plan_of empty_plan.bytes empty_plan.stations empty_plan.slots (terms_of empty_plan)) ≤ 18446744073709551615
unfolding most_lists from below sum tuples word_at contact_at records plan_of flat_map
few_empty = leb-true _ _ refl

few_a : most_lists (plan_of plan_a.bytes plan_a.stations plan_a.slots (terms_of plan_a)) ≤ 18446744073709551615
unfolding most_lists from below sum tuples word_at contact_at records plan_of flat_map
few_a = leb-true _ _ refl

few_same : most_lists (plan_of same_slot.bytes same_slot.stations same_slot.slots (terms_of same_slot)) ≤ 18446744073709551615
unfolding most_lists from below sum tuples word_at contact_at records plan_of flat_map
few_same = leb-true _ _ refl

few_single : most_lists (plan_of single.bytes single.stations single.slots (terms_of single)) ≤ 18446744073709551615
unfolding most_lists from below sum tuples word_at contact_at records plan_of flat_map
few_single = leb-true _ _ refl

few_slow : most_lists (plan_of slow_a.bytes slow_a.stations slow_a.slots (terms_of slow_a)) ≤ 18446744073709551615
unfolding most_lists from below sum tuples word_at contact_at records plan_of flat_map
few_slow = leb-true _ _ refl

few_slowest : most_lists (plan_of slowest.bytes slowest.stations slowest.slots (terms_of slowest)) ≤ 18446744073709551615
unfolding most_lists from below sum tuples word_at contact_at records plan_of flat_map
few_slowest = leb-true _ _ refl

-- ---- the entries, each by itself

empty_source : right (station empty_plan 0 0 0 1) ≡ true
unfolding from below sum select any member distinct leads_to may_follow along step run last_or holds ends_in is_walk is_path is_interior or_else first_nonempty hops ends_below word_at contact_at records plan_of cause first outside wrong_length wrong_slot wrong_ends is_above wrong_order record_causes plan_causes plan_fault wrong_turnaround wrong_keeping terms_causes ends_causes pair_causes station_causes unless over same_numbers index_in stay give go_first go_next go move way_causes same_lists same_reply flat_map bind grown grown_shortest onward grown_walks grown_walks_to pairs_by load_by
empty_source = station_right empty_plan few_empty 0 0 refl 0 1 refl

station_three : right (station plan_a 0 3 2 3) ≡ true
unfolding from below sum select any member distinct leads_to may_follow along step run last_or holds ends_in is_walk is_path is_interior or_else first_nonempty hops ends_below word_at contact_at records plan_of cause first outside wrong_length wrong_slot wrong_ends is_above wrong_order record_causes plan_causes plan_fault wrong_turnaround wrong_keeping terms_causes ends_causes pair_causes station_causes unless over same_numbers index_in stay give go_first go_next go move way_causes same_lists same_reply flat_map bind grown grown_shortest onward grown_walks grown_walks_to pairs_by load_by
station_three = station_right plan_a few_a 0 3 refl 2 3 refl

station_four : right (station plan_a 0 4 3 3) ≡ true
unfolding from below sum select any member distinct leads_to may_follow along step run last_or holds ends_in is_walk is_path is_interior or_else first_nonempty hops ends_below word_at contact_at records plan_of cause first outside wrong_length wrong_slot wrong_ends is_above wrong_order record_causes plan_causes plan_fault wrong_turnaround wrong_keeping terms_causes ends_causes pair_causes station_causes unless over same_numbers index_in stay give go_first go_next go move way_causes same_lists same_reply flat_map bind grown grown_shortest onward grown_walks grown_walks_to pairs_by load_by
station_four = station_right plan_a few_a 0 4 refl 3 3 refl

back_home : right (appearance plan_a 0 2 3 3 2) ≡ true
unfolding from below sum select any member distinct leads_to may_follow along step run last_or holds ends_in is_walk is_path is_interior or_else first_nonempty hops ends_below word_at contact_at records plan_of cause first outside wrong_length wrong_slot wrong_ends is_above wrong_order record_causes plan_causes plan_fault wrong_turnaround wrong_keeping terms_causes ends_causes pair_causes station_causes unless over same_numbers index_in stay give go_first go_next go move way_causes same_lists same_reply flat_map bind grown grown_shortest onward grown_walks grown_walks_to pairs_by load_by
back_home = appearance_right plan_a few_a 0 2 refl 3 3 2 refl

its_walks : right (walks plan_a 0 2 3 ((0 ∷ 4 ∷ 9 ∷ []) ∷ (1 ∷ 5 ∷ 9 ∷ []) ∷ []) ((0 ∷ 4 ∷ 9 ∷ []) ∷ [])) ≡ true
unfolding from below sum select any member distinct leads_to may_follow along step run last_or holds ends_in is_walk is_path is_interior or_else first_nonempty hops ends_below word_at contact_at records plan_of cause first outside wrong_length wrong_slot wrong_ends is_above wrong_order record_causes plan_causes plan_fault wrong_turnaround wrong_keeping terms_causes ends_causes pair_causes station_causes unless over same_numbers index_in stay give go_first go_next go move way_causes same_lists same_reply flat_map bind grown grown_shortest onward grown_walks grown_walks_to pairs_by load_by
its_walks = walks_right plan_a 0 2 3 _ _ refl

station_two : right (station plan_a 0 2 1 1) ≡ true
unfolding from below sum select any member distinct leads_to may_follow along step run last_or holds ends_in is_walk is_path is_interior or_else first_nonempty hops ends_below word_at contact_at records plan_of cause first outside wrong_length wrong_slot wrong_ends is_above wrong_order record_causes plan_causes plan_fault wrong_turnaround wrong_keeping terms_causes ends_causes pair_causes station_causes unless over same_numbers index_in stay give go_first go_next go move way_causes same_lists same_reply flat_map bind grown grown_shortest onward grown_walks grown_walks_to pairs_by load_by
station_two = station_right plan_a few_a 0 2 refl 1 1 refl

complete_list : right (complete plan_a 0 4 ((0 ∷ 4 ∷ 10 ∷ []) ∷ (1 ∷ 5 ∷ 10 ∷ []) ∷ (1 ∷ 8 ∷ 10 ∷ []) ∷ [])) ≡ true
unfolding from below sum select any member distinct leads_to may_follow along step run last_or holds ends_in is_walk is_path is_interior or_else first_nonempty hops ends_below word_at contact_at records plan_of cause first outside wrong_length wrong_slot wrong_ends is_above wrong_order record_causes plan_causes plan_fault wrong_turnaround wrong_keeping terms_causes ends_causes pair_causes station_causes unless over same_numbers index_in stay give go_first go_next go move way_causes same_lists same_reply flat_map bind grown grown_shortest onward grown_walks grown_walks_to pairs_by load_by
complete_list = complete_right plan_a 0 4 _ refl

first_given : right (gives first_way plan_a 0 4 (9 ∷ 9 ∷ 9 ∷ 9 ∷ []) (path 3) (0 ∷ 4 ∷ 10 ∷ 9 ∷ [])) ≡ true
unfolding from below sum select any member distinct leads_to may_follow along step run last_or holds ends_in is_walk is_path is_interior or_else first_nonempty hops ends_below word_at contact_at records plan_of cause first outside wrong_length wrong_slot wrong_ends is_above wrong_order record_causes plan_causes plan_fault wrong_turnaround wrong_keeping terms_causes ends_causes pair_causes station_causes unless over same_numbers index_in stay give go_first go_next go move way_causes same_lists same_reply flat_map bind grown grown_shortest onward grown_walks grown_walks_to pairs_by load_by
first_given = gives_right plan_a few_a first_way 0 4 (9 ∷ 9 ∷ 9 ∷ 9 ∷ []) (path 3) (0 ∷ 4 ∷ 10 ∷ 9 ∷ []) refl refl

second_given : right (gives next_way plan_a 0 4 (0 ∷ 4 ∷ 10 ∷ 9 ∷ []) (path 3) (1 ∷ 5 ∷ 10 ∷ 9 ∷ [])) ≡ true
unfolding from below sum select any member distinct leads_to may_follow along step run last_or holds ends_in is_walk is_path is_interior or_else first_nonempty hops ends_below word_at contact_at records plan_of cause first outside wrong_length wrong_slot wrong_ends is_above wrong_order record_causes plan_causes plan_fault wrong_turnaround wrong_keeping terms_causes ends_causes pair_causes station_causes unless over same_numbers index_in stay give go_first go_next go move way_causes same_lists same_reply flat_map bind grown grown_shortest onward grown_walks grown_walks_to pairs_by load_by
second_given = gives_right plan_a few_a next_way 0 4 (0 ∷ 4 ∷ 10 ∷ 9 ∷ []) (path 3) (1 ∷ 5 ∷ 10 ∷ 9 ∷ []) refl refl

third_given : right (gives next_way plan_a 0 4 (1 ∷ 5 ∷ 10 ∷ 9 ∷ []) (path 3) (1 ∷ 8 ∷ 10 ∷ 9 ∷ [])) ≡ true
unfolding from below sum select any member distinct leads_to may_follow along step run last_or holds ends_in is_walk is_path is_interior or_else first_nonempty hops ends_below word_at contact_at records plan_of cause first outside wrong_length wrong_slot wrong_ends is_above wrong_order record_causes plan_causes plan_fault wrong_turnaround wrong_keeping terms_causes ends_causes pair_causes station_causes unless over same_numbers index_in stay give go_first go_next go move way_causes same_lists same_reply flat_map bind grown grown_shortest onward grown_walks grown_walks_to pairs_by load_by
third_given = gives_right plan_a few_a next_way 0 4 (1 ∷ 5 ∷ 10 ∷ 9 ∷ []) (path 3) (1 ∷ 8 ∷ 10 ∷ 9 ∷ []) refl refl

through_table_law : right (throughs plan_a 0 4 (0 ∷ 1 ∷ 2 ∷ 3 ∷ 0 ∷ [])) ≡ true
unfolding from below sum select any member distinct leads_to may_follow along step run last_or holds ends_in is_walk is_path is_interior or_else first_nonempty hops ends_below word_at contact_at records plan_of cause first outside wrong_length wrong_slot wrong_ends is_above wrong_order record_causes plan_causes plan_fault wrong_turnaround wrong_keeping terms_causes ends_causes pair_causes station_causes unless over same_numbers index_in stay give go_first go_next go move way_causes same_lists same_reply flat_map bind grown grown_shortest onward grown_walks grown_walks_to pairs_by load_by
through_table_law = throughs_right plan_a few_a 0 4 _ refl refl

none_given : right (gives first_way plan_a 2 1 (9 ∷ 9 ∷ 9 ∷ 9 ∷ []) no_path (9 ∷ 9 ∷ 9 ∷ 9 ∷ [])) ≡ true
unfolding from below sum select any member distinct leads_to may_follow along step run last_or holds ends_in is_walk is_path is_interior or_else first_nonempty hops ends_below word_at contact_at records plan_of cause first outside wrong_length wrong_slot wrong_ends is_above wrong_order record_causes plan_causes plan_fault wrong_turnaround wrong_keeping terms_causes ends_causes pair_causes station_causes unless over same_numbers index_in stay give go_first go_next go move way_causes same_lists same_reply flat_map bind grown grown_shortest onward grown_walks grown_walks_to pairs_by load_by
none_given = gives_right plan_a few_a first_way 2 1 (9 ∷ 9 ∷ 9 ∷ 9 ∷ []) no_path (9 ∷ 9 ∷ 9 ∷ 9 ∷ []) refl refl

last_told : right (gives next_way plan_a 0 4 (1 ∷ 8 ∷ 10 ∷ 9 ∷ []) last_path (1 ∷ 8 ∷ 10 ∷ 9 ∷ [])) ≡ true
unfolding from below sum select any member distinct leads_to may_follow along step run last_or holds ends_in is_walk is_path is_interior or_else first_nonempty hops ends_below word_at contact_at records plan_of cause first outside wrong_length wrong_slot wrong_ends is_above wrong_order record_causes plan_causes plan_fault wrong_turnaround wrong_keeping terms_causes ends_causes pair_causes station_causes unless over same_numbers index_in stay give go_first go_next go move way_causes same_lists same_reply flat_map bind grown grown_shortest onward grown_walks grown_walks_to pairs_by load_by
last_told = gives_right plan_a few_a next_way 0 4 (1 ∷ 8 ∷ 10 ∷ 9 ∷ []) last_path (1 ∷ 8 ∷ 10 ∷ 9 ∷ []) refl refl

ten_told : right (gives next_way plan_a 0 4 (0 ∷ 5 ∷ 10 ∷ 9 ∷ []) (refused 10) (0 ∷ 5 ∷ 10 ∷ 9 ∷ [])) ≡ true
unfolding from below sum select any member distinct leads_to may_follow along step run last_or holds ends_in is_walk is_path is_interior or_else first_nonempty hops ends_below word_at contact_at records plan_of cause first outside wrong_length wrong_slot wrong_ends is_above wrong_order record_causes plan_causes plan_fault wrong_turnaround wrong_keeping terms_causes ends_causes pair_causes station_causes unless over same_numbers index_in stay give go_first go_next go move way_causes same_lists same_reply flat_map bind grown grown_shortest onward grown_walks grown_walks_to pairs_by load_by
ten_told = gives_right plan_a few_a next_way 0 4 (0 ∷ 5 ∷ 10 ∷ 9 ∷ []) (refused 10) (0 ∷ 5 ∷ 10 ∷ 9 ∷ []) refl refl

accepted : right (checks plan_a 0) ≡ true
unfolding from below sum select any member distinct leads_to may_follow along step run last_or holds ends_in is_walk is_path is_interior or_else first_nonempty hops ends_below word_at contact_at records plan_of cause first outside wrong_length wrong_slot wrong_ends is_above wrong_order record_causes plan_causes plan_fault wrong_turnaround wrong_keeping terms_causes ends_causes pair_causes station_causes unless over same_numbers index_in stay give go_first go_next go move way_causes same_lists same_reply flat_map bind grown grown_shortest onward grown_walks grown_walks_to pairs_by load_by right
accepted = refl

repeated_refused : right (checks repeated 5) ≡ true
unfolding from below sum select any member distinct leads_to may_follow along step run last_or holds ends_in is_walk is_path is_interior or_else first_nonempty hops ends_below word_at contact_at records plan_of cause first outside wrong_length wrong_slot wrong_ends is_above wrong_order record_causes plan_causes plan_fault wrong_turnaround wrong_keeping terms_causes ends_causes pair_causes station_causes unless over same_numbers index_in stay give go_first go_next go move way_causes same_lists same_reply flat_map bind grown grown_shortest onward grown_walks grown_walks_to pairs_by load_by right
repeated_refused = refl

itself_refused : right (checks with_itself 4) ≡ true
unfolding from below sum select any member distinct leads_to may_follow along step run last_or holds ends_in is_walk is_path is_interior or_else first_nonempty hops ends_below word_at contact_at records plan_of cause first outside wrong_length wrong_slot wrong_ends is_above wrong_order record_causes plan_causes plan_fault wrong_turnaround wrong_keeping terms_causes ends_causes pair_causes station_causes unless over same_numbers index_in stay give go_first go_next go move way_causes same_lists same_reply flat_map bind grown grown_shortest onward grown_walks grown_walks_to pairs_by load_by right
itself_refused = refl

loads_of_a : right (loads_of plan_a (0 ∷ 2 ∷ 2 ∷ 4 ∷ 0 ∷ []) (0 ∷ 2863311530 ∷ 5726623060 ∷ 17179869184 ∷ 0 ∷ [])) ≡ true
unfolding from below sum select any member distinct leads_to may_follow along step run last_or holds ends_in is_walk is_path is_interior or_else first_nonempty hops ends_below word_at contact_at records plan_of cause first outside wrong_length wrong_slot wrong_ends is_above wrong_order record_causes plan_causes plan_fault wrong_turnaround wrong_keeping terms_causes ends_causes pair_causes station_causes unless over same_numbers index_in stay give go_first go_next go move way_causes same_lists same_reply flat_map bind grown grown_shortest onward grown_walks grown_walks_to pairs_by load_by
loads_of_a = loads_right plan_a few_a _ _ refl refl

same_slot_law : right (gives first_way same_slot 0 2 (9 ∷ 9 ∷ []) no_path (9 ∷ 9 ∷ [])) ≡ true
unfolding from below sum select any member distinct leads_to may_follow along step run last_or holds ends_in is_walk is_path is_interior or_else first_nonempty hops ends_below word_at contact_at records plan_of cause first outside wrong_length wrong_slot wrong_ends is_above wrong_order record_causes plan_causes plan_fault wrong_turnaround wrong_keeping terms_causes ends_causes pair_causes station_causes unless over same_numbers index_in stay give go_first go_next go move way_causes same_lists same_reply flat_map bind grown grown_shortest onward grown_walks grown_walks_to pairs_by load_by
same_slot_law = gives_right same_slot few_same first_way 0 2 (9 ∷ 9 ∷ []) no_path (9 ∷ 9 ∷ []) refl refl

one_way : right (gives first_way single 0 1 (9 ∷ []) (path 1) (0 ∷ [])) ≡ true
unfolding from below sum select any member distinct leads_to may_follow along step run last_or holds ends_in is_walk is_path is_interior or_else first_nonempty hops ends_below word_at contact_at records plan_of cause first outside wrong_length wrong_slot wrong_ends is_above wrong_order record_causes plan_causes plan_fault wrong_turnaround wrong_keeping terms_causes ends_causes pair_causes station_causes unless over same_numbers index_in stay give go_first go_next go move way_causes same_lists same_reply flat_map bind grown grown_shortest onward grown_walks grown_walks_to pairs_by load_by
one_way = gives_right single few_single first_way 0 1 (9 ∷ []) (path 1) (0 ∷ []) refl refl

no_way_back : right (gives first_way single 1 0 (9 ∷ []) no_path (9 ∷ [])) ≡ true
unfolding from below sum select any member distinct leads_to may_follow along step run last_or holds ends_in is_walk is_path is_interior or_else first_nonempty hops ends_below word_at contact_at records plan_of cause first outside wrong_length wrong_slot wrong_ends is_above wrong_order record_causes plan_causes plan_fault wrong_turnaround wrong_keeping terms_causes ends_causes pair_causes station_causes unless over same_numbers index_in stay give go_first go_next go move way_causes same_lists same_reply flat_map bind grown grown_shortest onward grown_walks grown_walks_to pairs_by load_by
no_way_back = gives_right single few_single first_way 1 0 (9 ∷ []) no_path (9 ∷ []) refl refl

no_time : right (gives first_way slow_a 0 4 (9 ∷ 9 ∷ 9 ∷ 9 ∷ []) no_path (9 ∷ 9 ∷ 9 ∷ 9 ∷ [])) ≡ true
unfolding from below sum select any member distinct leads_to may_follow along step run last_or holds ends_in is_walk is_path is_interior or_else first_nonempty hops ends_below word_at contact_at records plan_of cause first outside wrong_length wrong_slot wrong_ends is_above wrong_order record_causes plan_causes plan_fault wrong_turnaround wrong_keeping terms_causes ends_causes pair_causes station_causes unless over same_numbers index_in stay give go_first go_next go move way_causes same_lists same_reply flat_map bind grown grown_shortest onward grown_walks grown_walks_to pairs_by load_by
no_time = gives_right slow_a few_slow first_way 0 4 (9 ∷ 9 ∷ 9 ∷ 9 ∷ []) no_path (9 ∷ 9 ∷ 9 ∷ 9 ∷ []) refl refl

in_time : right (complete slow_a 0 3 ((1 ∷ 8 ∷ []) ∷ [])) ≡ true
unfolding from below sum select any member distinct leads_to may_follow along step run last_or holds ends_in is_walk is_path is_interior or_else first_nonempty hops ends_below word_at contact_at records plan_of cause first outside wrong_length wrong_slot wrong_ends is_above wrong_order record_causes plan_causes plan_fault wrong_turnaround wrong_keeping terms_causes ends_causes pair_causes station_causes unless over same_numbers index_in stay give go_first go_next go move way_causes same_lists same_reply flat_map bind grown grown_shortest onward grown_walks grown_walks_to pairs_by load_by
in_time = complete_right slow_a 0 3 _ refl

loads_of_slow : right (loads_of slow_a (0 ∷ 0 ∷ 1 ∷ 2 ∷ 0 ∷ []) (0 ∷ 0 ∷ 4294967296 ∷ 8589934592 ∷ 0 ∷ [])) ≡ true
unfolding from below sum select any member distinct leads_to may_follow along step run last_or holds ends_in is_walk is_path is_interior or_else first_nonempty hops ends_below word_at contact_at records plan_of cause first outside wrong_length wrong_slot wrong_ends is_above wrong_order record_causes plan_causes plan_fault wrong_turnaround wrong_keeping terms_causes ends_causes pair_causes station_causes unless over same_numbers index_in stay give go_first go_next go move way_causes same_lists same_reply flat_map bind grown grown_shortest onward grown_walks grown_walks_to pairs_by load_by
loads_of_slow = loads_right slow_a few_slow _ _ refl refl

first_leg : right (gives first_way slowest 0 1 (9 ∷ []) (path 1) (0 ∷ [])) ≡ true
unfolding from below sum select any member distinct leads_to may_follow along step run last_or holds ends_in is_walk is_path is_interior or_else first_nonempty hops ends_below word_at contact_at records plan_of cause first outside wrong_length wrong_slot wrong_ends is_above wrong_order record_causes plan_causes plan_fault wrong_turnaround wrong_keeping terms_causes ends_causes pair_causes station_causes unless over same_numbers index_in stay give go_first go_next go move way_causes same_lists same_reply flat_map bind grown grown_shortest onward grown_walks grown_walks_to pairs_by load_by
first_leg = gives_right slowest few_slowest first_way 0 1 (9 ∷ []) (path 1) (0 ∷ []) refl refl

none_refused : right (gives first_way without 0 9 [] (refused 12) []) ≡ true
unfolding from below sum select any member distinct leads_to may_follow along step run last_or holds ends_in is_walk is_path is_interior or_else first_nonempty hops ends_below word_at contact_at records plan_of cause first outside wrong_length wrong_slot wrong_ends is_above wrong_order record_causes plan_causes plan_fault wrong_turnaround wrong_keeping terms_causes ends_causes pair_causes station_causes unless over same_numbers index_in stay give go_first go_next go move way_causes same_lists same_reply flat_map bind grown grown_shortest onward grown_walks grown_walks_to pairs_by load_by right way_answer
none_refused = refl

seventeen_refused : right (gives next_way too_slow 0 9 [] (refused 12) []) ≡ true
unfolding from below sum select any member distinct leads_to may_follow along step run last_or holds ends_in is_walk is_path is_interior or_else first_nonempty hops ends_below word_at contact_at records plan_of cause first outside wrong_length wrong_slot wrong_ends is_above wrong_order record_causes plan_causes plan_fault wrong_turnaround wrong_keeping terms_causes ends_causes pair_causes station_causes unless over same_numbers index_in stay give go_first go_next go move way_causes same_lists same_reply flat_map bind grown grown_shortest onward grown_walks grown_walks_to pairs_by load_by right way_answer
seventeen_refused = refl

-- a right entry before right ones
next_right : (e : Example) (l : List Example) → right e ≡ true → all_right l ≡ true → all_right (e ∷ l) ≡ true
unfolding all_right
next_right e l here rest = (and-eq-true_iff (right e) (all_right l)).1 (here, rest)

none_right : all_right [] ≡ true
unfolding all_right
none_right = refl

pub examples : all_right table ≡ true
examples =
    next_right _ _ empty_source
    (next_right _ _ station_three
    (next_right _ _ station_four
    (next_right _ _ back_home
    (next_right _ _ its_walks
    (next_right _ _ station_two
    (next_right _ _ complete_list
    (next_right _ _ first_given
    (next_right _ _ second_given
    (next_right _ _ third_given
    (next_right _ _ through_table_law
    (next_right _ _ none_given
    (next_right _ _ last_told
    (next_right _ _ ten_told
    (next_right _ _ accepted
    (next_right _ _ repeated_refused
    (next_right _ _ itself_refused
    (next_right _ _ loads_of_a
    (next_right _ _ same_slot_law
    (next_right _ _ one_way
    (next_right _ _ no_way_back
    (next_right _ _ no_time
    (next_right _ _ in_time
    (next_right _ _ loads_of_slow
    (next_right _ _ first_leg
    (next_right _ _ none_refused
    (next_right _ _ seventeen_refused none_right))))))))))))))))))))))))))
