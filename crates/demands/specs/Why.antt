-- What the account of a station promises: its pairs with their figures and walks, its refusals, and its figures beside the load
-- programs'. Definitions only.
-- Assumes nothing.
use Rattle.std.specs.Prelude.{ℕ, ◌+◌, ◌*◌, ◌/◌, ◌^◌, ◌≤◌, ◌<◌, min, ◌≡◌, true, false, ◌⊎◌, ◌↔◌, ◌≢◌, length, get_or, take}
use Prim.Native.String.{String}
use mathlib.Core.List.{List, [], ◌∷◌, ◌++◌, map, flat_map, Memᴰ}
use Rattle.std.proofs.Math.Option.{some}
use Rattle.std.proofs.Math.ListN.{get_elem?}
use Rattle.temporal.specs.Lists.{below, sum, select, Before, Rising}
use Rattle.temporal.specs.Plan.{Contact, Plan, Terms, turning}
use Rattle.temporal.specs.Walk.{is_interior}
use Rattle.temporal.specs.Shortest.{shortest_walks_to, hops}
use Rattle.temporal.specs.Load.{Ends, pairs_of}
use Rattle.temporal.specs.Bytes.{contact_at, plan_of}
use Rattle.temporal.specs.Cause.{first, plan_fault, terms_causes, too_many_anywhere}
use Rattle.examples.specs.Questions.{plan_a}
use Rattle.text.specs.Field.{ascii, line_feed}
use Rattle.report.specs.Sizes.{input_stations, input_slots}
use Rattle.report.specs.Report.{heading, line, refusal_text, input_causes, input_plan, printed}
use Rattle.report.specs.Report as report
use Rattle.account.specs.Account.{Figures, most_walks, station_line, pair_line, leg, walk_line, more_line, account_text, refusal_of, accounted}
use Rattle.account.specs.Account.{Accounted}
use Rattle.demands.specs.LoadText.{as_text}

-- ---- what is printed

-- what is printed of one pair: the figures of its line, the walks below it, and the number behind "more"
pub record Section : Type 0 where
  pub figures : Figures
  pub walks : List (List ℕ)
  pub more : ℕ

-- its text; the contact at a position is given by a function
unfoldable pub section_text : (ℕ → Contact) → Section → List ℕ
section_text at x = pair_line x.figures ++ (flat_map (walk_line at) x.walks ++ more_line x.more)

-- a pair of two stations, and the pair that is named in a section's line
abbrev pub ends : ℕ → ℕ → Ends
ends s z = record { source = s; destination = z }

abbrev pub ends_of : Section → Ends
ends_of x = ends x.figures.source x.figures.destination

-- the shares of the sections' lines
abbrev pub shares_of : List Section → List ℕ
shares_of l = map (λ x. x.figures.share) l

-- ---- the pairs

-- w is a member of the complete list of s and z, and has v inside
pub record PassesThrough (p : Plan) (v s z : ℕ) (w : List ℕ) : Type 0 where
  pub listed : Memᴰ w (shortest_walks_to p s z)
  pub inside : is_interior p s z v w ≡ true

-- s and z are two different stations of the plan, and some member of their complete list has v inside
pub record IsPair (p : Plan) (v s z : ℕ) : Type 0 where
  pub source_station : s < p.stations
  pub destination_station : z < p.stations
  pub different : s ≢ z
  pub walk : List ℕ
  pub through : PassesThrough p v s z walk

-- one pair stands before another: by source, and then by destination
unfoldable pub EndsBefore : Ends → Ends → Type 0
EndsBefore d e = (d.source < e.source) ⊎ ((d.source ≡ e.source) × (d.destination < e.destination))

-- each pair of a list stands before every later one
unfoldable pub EndsRising : List Ends → Type 0
EndsRising [] = Unit {0}
EndsRising (d ∷ l) = ((e : Ends) → Memᴰ e l → EndsBefore d e) × EndsRising l

-- ---- a pair's figures and walks

-- the members of the complete list of a pair that have v inside, in its order
abbrev pub through_list : Plan → ℕ → Ends → List (List ℕ)
through_list p v e = select (is_interior p e.source e.destination v) (shortest_walks_to p e.source e.destination)

-- hops, count and through are those of the complete list, and the share is the whole part of 2^32 × through ÷ count
pub record FiguresTold (p : Plan) (v : ℕ) (f : Figures) : Type 0 where
  pub hops_of : f.hops ≡ hops (shortest_walks_to p f.source f.destination)
  pub count_of : f.count ≡ length (shortest_walks_to p f.source f.destination)
  pub through_of_law : f.through ≡ length (through_list p v (ends f.source f.destination))
  pub share_of : f.share ≡ 2 ^ 32 * f.through / f.count
  -- no share is a division by 0
  pub some_count : 0 < f.count

-- the walks printed under a pair, where at most k are
pub record WalksTold (p : Plan) (v k : ℕ) (x : Section) : Type 0 where
  -- they are the first k of those that have v inside
  pub walks_of : x.walks ≡ take k (through_list p v (ends_of x))
  pub each : (w : List ℕ) → Memᴰ w x.walks → PassesThrough p v x.figures.source x.figures.destination w
  -- they rise by their positions, and stand before every other walk that has v inside
  pub rising : Rising x.walks
  pub first_ones :
      (u w : List ℕ) → Memᴰ u x.walks → PassesThrough p v x.figures.source x.figures.destination w →
      Memᴰ w x.walks ⊎ Before u w
  -- with the number behind "more" they make up the through count
  pub more_of : length x.walks + x.more ≡ x.figures.through
  -- where k is at least the through count all are printed, and "more" says 0
  pub all_of : x.figures.through ≤ k → (x.walks ≡ through_list p v (ends_of x)) × (x.more ≡ 0)

-- A text that is the account of station v with at most k walks a pair: the first line, then a section for each pair.
pub record AccountTold (at : ℕ → Contact) (p : Plan) (v k : ℕ) (text : List ℕ) : Type 0 where
  pub number : ℕ
  pub load : ℕ
  pub sections : List Section
  pub text_is : text ≡ station_line v number load ++ flat_map (section_text at) sections
  -- the number printed is that of the sections, and the load printed the sum of the shares printed
  pub number_of : number ≡ length sections
  pub load_is_shares : load ≡ sum (shares_of sections)
  -- the pairs printed are the pairs of v and no other, none twice, by source and then destination
  pub pairs_are : map ends_of sections ≡ pairs_of p v
  pub exactly : (s z : ℕ) → Memᴰ (ends s z) (map ends_of sections) ↔ IsPair p v s z
  pub rising : EndsRising (map ends_of sections)
  pub once :
      (i j : ℕ) → i < j → j < length sections →
      get_or (map ends_of sections) i (ends 0 0) ≢ get_or (map ends_of sections) j (ends 0 0)
  -- the figures and the walks of each
  pub figures_told : (x : Section) → Memᴰ x sections → FiguresTold p v x.figures
  pub walks_told : (x : Section) → Memᴰ x sections → WalksTold p v k x

-- ---- a walk's legs

-- what stands behind a leg: a comma and a blank where another follows, else a line feed
unfoldable pub behind_for : List Contact → List ℕ
behind_for [] = line_feed
behind_for (c ∷ l) = ascii ", "

-- contacts as legs: slot, sender and hearer of each
unfoldable pub legs_text : List Contact → List ℕ
legs_text [] = []
legs_text (c ∷ l) = leg c (behind_for l) ++ legs_text l

-- the line of a walk has the contacts at its positions, each the plan's contact there
pub record LegsTold (bs : List ℕ) (p : Plan) (w : List ℕ) : Type 0 where
  pub line_is : walk_line (contact_at bs) w ≡ ascii "  " ++ legs_text (map (contact_at bs) w)
  pub contacts_are : (i : ℕ) → Memᴰ i w → get_elem? p.contacts i ≡ some (contact_at bs i)

-- ---- refusals

-- nothing is wrong with the input, the plan that it is, and the units' terms
pub record InputAccepted (bs : List ℕ) (terms : Terms) : Type 0 where
  pub input : first (input_causes bs) ≡ 0
  pub plan : plan_fault bs (input_stations bs) (input_slots bs) ≡ 0
  pub allowed : first (terms_causes terms) ≡ 0

-- The load program's text for an input, with the pairs and the load in the line of each station; and the account of station v, whose
-- first line has those of the line of v.
pub record SameFigures (bs : List ℕ) (terms : Terms) (v k : ℕ) : Type 0 where
  pub contacts : ℕ
  pub pairs : ℕ → ℕ
  pub load : ℕ → ℕ
  pub behind : List ℕ
  pub loads_text_law :
      printed bs terms ≡
      heading (input_stations bs) (input_slots bs) contacts ++ flat_map (λ u. line u (pairs u) (load u)) (below (input_stations bs))
  pub account_text_law : accounted bs terms v k ≡ station_line v (pairs v) (load v) ++ behind

-- ---- plan A, worked by hand from its contacts

-- the account of station 3 for units that turn round in two slots, with two walks a pair
abbrev pub plan_athree_two_slots : List String
plan_athree_two_slots =
    "station 3 pairs 2 load 8589934592" ∷
    "from 1 to 4 hops 2 through 1 count 1 share 4294967296" ∷
    "  2 1 3, 4 3 4" ∷
    "  more 0" ∷
    "from 2 to 4 hops 2 through 1 count 1 share 4294967296" ∷
    "  2 2 3, 4 3 4" ∷
    "  more 0" ∷ []

-- the account of station 2 for units that turn round in one slot, with one walk a pair
abbrev pub plan_atwo_one_slot : List String
plan_atwo_one_slot =
    "station 2 pairs 2 load 5726623060" ∷
    "from 0 to 3 hops 2 through 2 count 3 share 2863311530" ∷
    "  1 0 2, 2 2 3" ∷
    "  more 1" ∷
    "from 0 to 4 hops 3 through 2 count 3 share 2863311530" ∷
    "  1 0 2, 2 2 3, 4 3 4" ∷
    "  more 1" ∷ []

-- ---- the account

pub record WhyDemand : Type 0 where
  -- what is printed, for every plan
  pub told : (at : ℕ → Contact) (p : Plan) (v k : ℕ) → AccountTold at p v k (account_text at p v k)
  -- a larger number of walks only adds walks behind
  pub further :
      (p : Plan) (v k j : ℕ) (e : Ends) → k ≤ j →
      (behind : List (List ℕ)) × (take j (through_list p v e) ≡ take k (through_list p v e) ++ behind)
  -- the legs of every walk that has v inside
  pub legs :
      (bs : List ℕ) (n t : ℕ) (terms : Terms) (v s z : ℕ) (w : List ℕ) → PassesThrough (plan_of bs n t terms) v s z w →
      LegsTold bs (plan_of bs n t terms) w
  -- The number is 0 exactly where the account is printed, and elsewhere its one line is.
  pub printed_exactly :
      (bs : List ℕ) (terms : Terms) (v k : ℕ) →
      (refusal_of bs terms v ≡ 0) ↔ (accounted bs terms v k ≡ account_text (contact_at bs) (input_plan bs terms) v (min k most_walks))
  pub refused :
      (bs : List ℕ) (terms : Terms) (v k : ℕ) → refusal_of bs terms v ≢ 0 → accounted bs terms v k ≡ refusal_text (refusal_of bs terms v)
  -- a number of walks above the most counts as the most
  pub limited : (bs : List ℕ) (terms : Terms) (v k : ℕ) → most_walks ≤ k → accounted bs terms v k ≡ accounted bs terms v most_walks
  -- what a function that promises the account leaves: the whole text at the beginning of its buffer, never cut
  pub never_cut :
      (bs : List ℕ) (terms : Terms) (v k : ℕ) (out : List ℕ) (size : ℕ) (now : List ℕ) → Accounted bs terms v k out size now →
      take size now ≡ accounted bs terms v k
  -- the number is 0 exactly where all are accepted, v is below n, and no count is too large
  pub accepted_exactly :
      (bs : List ℕ) (terms : Terms) (v : ℕ) →
      (refusal_of bs terms v ≡ 0) ↔
      (InputAccepted bs terms × (v < input_stations bs) × (too_many_anywhere (input_plan bs terms) ≡ false))
  -- it is 6 exactly where input, plan and terms are accepted and v is not below n
  pub six_exactly :
      (bs : List ℕ) (terms : Terms) (v : ℕ) → (refusal_of bs terms v ≡ 6) ↔ (InputAccepted bs terms × (input_stations bs ≤ v))
  pub six_printed :
      (bs : List ℕ) (terms : Terms) (v k : ℕ) → InputAccepted bs terms → input_stations bs ≤ v →
      accounted bs terms v k ≡ as_text ("refused 6" ∷ [])
  -- beside the load program: a refusal other than 9 is the same; where it prints 9, the account prints 6 or 9
  pub same_refusal :
      (bs : List ℕ) (terms : Terms) (v k : ℕ) → report.refusal_of bs terms ≢ 0 → report.refusal_of bs terms ≢ 9 →
      (refusal_of bs terms v ≡ report.refusal_of bs terms) × (accounted bs terms v k ≡ printed bs terms)
  pub beside_nine :
      (bs : List ℕ) (terms : Terms) (v k : ℕ) → report.refusal_of bs terms ≡ 9 →
      (accounted bs terms v k ≡ as_text ("refused 6" ∷ [])) ⊎ (accounted bs terms v k ≡ as_text ("refused 9" ∷ []))
  -- where it prints loads and v is below n, the account's first line has the pairs and the load that it prints for v
  pub same_figures :
      (bs : List ℕ) (terms : Terms) (v k : ℕ) → report.refusal_of bs terms ≡ 0 → v < input_stations bs → SameFigures bs terms v k
  -- whole texts for plan A of document 01, doubled
  pub plan_a_two_slots : accounted plan_a.bytes (turning 2) 3 2 ≡ as_text plan_athree_two_slots
  pub plan_a_one_slot : accounted plan_a.bytes (turning 1) 2 1 ≡ as_text plan_atwo_one_slot
