-- The account of a station, for wardens: its pairs with their shares, and under each pair walks that have the station inside.
-- Definitions only.
-- Assumes nothing.
use Rattle.std.specs.Prelude.{ℕ, ◌+◌, ◌-◌, min, ◌≡◌, cond, eqb, leb, length, get_or, take}
use mathlib.Core.List.{List, [], ◌∷◌, ◌++◌, flat_map}
use Rattle.temporal.specs.Lists.{below, select}
use Rattle.temporal.specs.Plan.{Contact, Plan, Terms}
use Rattle.temporal.specs.Walk.{is_interior}
use Rattle.temporal.specs.Shortest.{shortest_walks_to, hops}
use Rattle.temporal.specs.Load.{Ends, count_of, through_of, pairs_of, pairs, share, load}
use Rattle.temporal.specs.Bytes.{contact_at}
use Rattle.temporal.specs.Cause.{cause, first, unless, plan_causes, terms_causes, too_many_anywhere}
use Rattle.temporal.specs.Outcome.{over}
use Rattle.report.specs.Sizes.{input_stations, input_slots}
use Rattle.text.specs.Field.{ascii, space, line_feed, field, fields, labelled}
use Rattle.report.specs.Report.{refusal_text, input_causes, input_plan}

-- the most walks that are printed under a pair
abbrev pub most_walks : ℕ
most_walks = 8

-- the first line: the station, how many pairs it has, and its load
unfoldable pub station_line : ℕ → ℕ → ℕ → List ℕ
station_line v p l = labelled (ascii "station ") v (ascii " pairs ") p (ascii " load ") l line_feed

-- the figures of a pair of the station
pub record Figures : Type 0 where
  pub source : ℕ
  pub destination : ℕ
  pub hops : ℕ
  pub through : ℕ
  pub count : ℕ
  pub share : ℕ

-- a pair's line: source, destination and hops; then through count, count and share
unfoldable pub pair_line : Figures → List ℕ
pair_line f =
    labelled (ascii "from ") f.source (ascii " to ") f.destination (ascii " hops ") f.hops (ascii " through ") ++
    fields f.through (ascii " count ") f.count (ascii " share ") f.share line_feed

-- a leg: slot, sender and hearer of its contact, and what stands behind it
unfoldable pub leg : Contact → List ℕ → List ℕ
leg c behind = fields c.slot space c.sender space c.hearer behind

-- behind leg k of a walk with so many hops: a comma and a blank, behind the last a line feed
unfoldable pub behind_leg : ℕ → ℕ → List ℕ
behind_leg size k = cond (eqb (k + 1) size) line_feed (ascii ", ")

-- a walk's line: its legs, one behind the other; the contact at a position is given by a function
unfoldable pub walk_line : (ℕ → Contact) → List ℕ → List ℕ
walk_line at w = ascii "  " ++ flat_map (λ k. leg (at (get_or w k 0)) (behind_leg (length w) k)) (below (length w))

-- how many walks there are besides those printed
unfoldable pub more_line : ℕ → List ℕ
more_line m = ascii "  more " ++ field m line_feed

-- the shortest walks of a pair that have v inside, in the order of the complete list
unfoldable pub walks_through : Plan → ℕ → Ends → List (List ℕ)
walks_through p v e =
    select (is_interior p e.source e.destination v) (shortest_walks_to p e.source e.destination)

-- the figures of a pair
abbrev pub figures_of : Plan → ℕ → Ends → Figures
figures_of p v e =
    record {
      source = e.source;
      destination = e.destination;
      hops = hops (shortest_walks_to p e.source e.destination);
      through = through_of p v e;
      count = count_of p e;
      share = share p v e;
    }

-- the walks of a list that are printed, at most k of them, and how many more there are
unfoldable pub walks_text : (ℕ → Contact) → ℕ → List (List ℕ) → List ℕ
walks_text at k l = flat_map (walk_line at) (take k l) ++ more_line (length l - min k (length l))

-- a pair: its line, then at most k of the walks that have v inside, then how many more there are
unfoldable pub pair_text : (ℕ → Contact) → Plan → ℕ → ℕ → Ends → List ℕ
pair_text at p v k e = pair_line (figures_of p v e) ++ walks_text at k (walks_through p v e)

-- the account of station v with at most k walks a pair: the first line, then every pair of v, by source and then destination
unfoldable pub account_text : (ℕ → Contact) → Plan → ℕ → ℕ → List ℕ
account_text at p v k = station_line v (pairs p v) (load p v) ++ flat_map (pair_text at p v k) (pairs_of p v)

-- the number of the refusal, 0 where the account is printed: as the load programs', with 6, the station is not below n, before 9
unfoldable pub refusal_of : List ℕ → Terms → ℕ → ℕ
refusal_of bs terms v =
    first
    (input_causes bs ++
    (plan_causes bs (input_stations bs) (input_slots bs) ++
    (terms_causes terms ++ cause 6 (leb (input_stations bs) v) ∷ cause 9 (too_many_anywhere (input_plan bs terms)) ∷ [])))

-- The whole text for an input, units with these terms, a station, and a number of walks; a number above the most counts as the most.
unfoldable pub accounted : List ℕ → Terms → ℕ → ℕ → List ℕ
accounted bs terms v k =
    unless (refusal_of bs terms v) refusal_text (account_text (contact_at bs) (input_plan bs terms) v (min k most_walks))

-- What an output buffer then holds: the text at its beginning, whose length is told; its other bytes stay.
pub record Accounted (bs : List ℕ) (terms : Terms) (v k : ℕ) (out : List ℕ) (size : ℕ) (now : List ℕ) : Type 0 where
  pub length_is : size ≡ length (accounted bs terms v k)
  pub text_is : now ≡ over (accounted bs terms v k) out
