-- What the inner functions of the account ask and leave. Definitions only.
-- Assumes nothing.
use Rattle.std.specs.Prelude.{ℕ, ◌+◌, ◌-◌, ◌*◌, ◌<◌, ◌≤◌, min, ◌≡◌, Bool, false, cond, eqb, length, get_or, take}
use mathlib.Core.List.{List, [], ◌++◌, flat_map}
use Rattle.std.proofs.Math.Option.{some}
use Rattle.temporal.specs.Plan.{Contact, turning}
use Rattle.temporal.specs.Load.{Ends, is_pair_of, pairs_of}
use Rattle.temporal.specs.Bytes.{contact_at, records, plan_of}
use Rattle.temporal.specs.Cause.{first, plan_fault, terms_causes, too_many_anywhere}
use Rattle.temporal.specs.Outcome.{work_size}
use Rattle.temporal.specs.Cursor.{index_in}
use Rattle.text.specs.Field.{ascii, line_feed}
use Rattle.text.specs.Pieces.{pieces}
use Rattle.layered.specs.Layered.{lowered_contact, layered}
use Rattle.ways.specs.declared.Pair.{Pair}
use Rattle.ways.specs.Found.{list_in, Listable, Startable}
use Rattle.ways.specs.Home.{Completable}
use Rattle.account.specs.declared.Figures as declared
use Rattle.account.specs.Account.{Figures, leg, pair_line, walk_line, more_line, pair_text}

-- the figures that a struct of the code holds
abbrev pub figures_in : declared.Figures → Figures
figures_in f =
    record {
      source = f.source;
      destination = f.destination;
      hops = f.hops;
      through = f.through;
      count = f.count;
      share = f.share;
    }

-- the plan's contact of a position of its layered plan
abbrev pub lowered_at : List ℕ → ℕ → ℕ → Contact
lowered_at ls n q = lowered_contact n (contact_at ls q)

-- a leg of a walk of the layered plan, and what stands behind it: a line feed behind the last
abbrev pub lowered_leg : List ℕ → ℕ → ℕ → Bool → List ℕ
lowered_leg ls n q last = leg (lowered_at ls n q) (cond last line_feed (ascii ", "))

-- leg k of a walk of so many hops whose positions are the first entries of a way buffer
abbrev pub leg_at : List ℕ → ℕ → ℕ → List ℕ → ℕ → List ℕ
leg_at ls n hops way k = lowered_leg ls n (get_or way k 0) (eqb (k + 1) hops)

-- the first entries of a way buffer are positions of the layered plan, and their line has room from a place on
pub record WalkWritable (ls : List ℕ) (n hops at : ℕ) (way out : List ℕ) : Type 0 where
  pub legs : hops ≤ length way
  pub position : (k : ℕ) → k < hops → get_or way k 0 * 6 + 5 < length ls
  pub room : at + length (walk_line (lowered_at ls n) (take hops way)) ≤ length out

-- the lines of the first walks of a list
abbrev pub walk_lines : List ℕ → ℕ → List (List ℕ) → ℕ → List ℕ
walk_lines ls n l most = pieces (λ i. walk_line (lowered_at ls n) (get_or l i [])) 0 most

-- The way buffer can be moved to walk i of the list of a pair: the completion table is there, and from the second walk on the buffer
-- begins with the one before.
pub record Movable (ls : List ℕ) (q : Pair) (i : ℕ) (way work : List ℕ) : Type 0 where
  pub startable : Startable ls q work way
  pub inside : i < length (list_in ls q)
  pub standing : (j : ℕ) → i ≡ j + 1 → index_in (list_in ls q) way ≡ some j

-- The first walks of the list of a pair of the layered plan can be written: the completion table is there, they are that many, and their
-- lines have room from a place on.
pub record WalksWritable (ls : List ℕ) (n : ℕ) (q : Pair) (most at : ℕ) (way work out : List ℕ) : Type 0 where
  pub startable : Startable ls q work way
  pub enough : most ≤ length (list_in ls q)
  pub room : at + length (walk_lines ls n (list_in ls q) most) ≤ length out

-- ---- one pair of a station

-- the pair of the layered plan whose walks are those from s to z with the station inside
abbrev pub layered_pair : ℕ → ℕ → ℕ → Figures → Pair
layered_pair n t g f =
    record {
      stations = 2 * n;
      slots = t;
      turnaround = g;
      keeping = 255;
      source = f.source;
      destination = n + f.destination;
      hops = f.hops;
    }

-- its list
abbrev pub layered_list : List ℕ → ℕ → ℕ → ℕ → Figures → List (List ℕ)
layered_list ls n t g f = list_in ls (layered_pair n t g f)

-- the text of a pair, its walks read from the layered plan
unfoldable pub layered_text : List ℕ → ℕ → ℕ → ℕ → ℕ → Figures → List ℕ
layered_text ls n t g k f =
    pair_line f ++ (walk_lines ls n (layered_list ls n t g f) (min k f.through) ++ more_line (f.through - min k f.through))

-- what writing it asks: the layered plan's list of the pair has at least as many walks as the through count says, and there is room
pub record PairWritable (ls : List ℕ) (n t g k at : ℕ) (f : Figures) (way work out : List ℕ) : Type 0 where
  pub stations : n ≤ 32
  pub completable : Completable ls (2 * n) t (turning g) (n + f.destination) work
  pub listable : Listable ls (layered_pair n t g f) way
  pub enough : f.through ≤ length (layered_list ls n t g f)
  pub room : at + length (layered_text ls n t g k f) ≤ length out

-- ---- the pairs of a station

-- the text of the pair from s to z where it is a pair of station v, nothing where it is none
unfoldable pub between_text : List ℕ → ℕ → ℕ → ℕ → ℕ → ℕ → ℕ → ℕ → List ℕ
between_text bs n t g v k s z =
    let p = plan_of bs n t (turning g) in
    let e : Ends = record { source = s; destination = z } in cond (is_pair_of p v e) (pair_text (contact_at bs) p v k e) []

-- the texts of the pairs from s
abbrev pub source_text : List ℕ → ℕ → ℕ → ℕ → ℕ → ℕ → ℕ → List ℕ
source_text bs n t g v k s = pieces (between_text bs n t g v k s) 0 n

-- the texts of the pairs of station v, one behind the other
abbrev pub pairs_text : List ℕ → ℕ → ℕ → ℕ → ℕ → ℕ → List ℕ
pairs_text bs n t g v k =
    let p = plan_of bs n t (turning g) in flat_map (pair_text (contact_at bs) p v k) (pairs_of p v)

-- What writing the pairs of station v asks: an accepted plan within the program's limits, allowed terms, no count over 2^64 - 1, the
-- layered plan of v, and tables and buffers that fit.
pub record Accountable (bs : List ℕ) (n t g v : ℕ) (ls through way work : List ℕ) : Type 0 where
  pub accepted : plan_fault bs n t ≡ 0
  pub stations : n ≤ 32
  pub slots : t ≤ 63
  pub few : records bs ≤ 1024
  pub allowed : first (terms_causes (turning g)) ≡ 0
  pub counted : too_many_anywhere (plan_of bs n t (turning g)) ≡ false
  pub station : v < n
  pub layers : ls ≡ layered bs n v
  pub through_room : n ≤ length through
  pub way_room : t ≤ length way
  pub work_room : work_size (2 * n) t ≤ length work

-- the same, with room for the texts of all pairs from a place on
pub record PairsWritable (bs : List ℕ) (n t g v k at : ℕ) (ls through way work out : List ℕ) : Type 0 where
  pub accountable : Accountable bs n t g v ls through way work
  pub few_walks : k ≤ 8
  pub room : at + length (pairs_text bs n t g v k) ≤ length out

-- the same, with room for the texts of the pairs from s from a place on
pub record SourceWritable (bs : List ℕ) (n t g v k s at : ℕ) (ls through way work out : List ℕ) : Type 0 where
  pub accountable : Accountable bs n t g v ls through way work
  pub source : s < n
  pub room : at + length (source_text bs n t g v k s) ≤ length out

-- and for the text of the pair from s to z
pub record BetweenWritable (bs : List ℕ) (n t g v k s z at : ℕ) (ls through way work out : List ℕ) : Type 0 where
  pub accountable : Accountable bs n t g v ls through way work
  pub source : s < n
  pub destination : z < n
  pub room : at + length (between_text bs n t g v k s z) ≤ length out
