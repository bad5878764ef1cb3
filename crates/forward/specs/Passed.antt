-- What the pass asks and what it promises: hops and counts from a source to every station, and for each of a block of
-- stations how many shortest walks do not have it inside; or for a set of stations how many shortest walks to one
-- destination have no member inside. Definitions only.
-- Assumes nothing.
use Rattle.std.specs.Prelude.{ℕ, ◌+◌, ◌-◌, ◌*◌, ◌/◌, ◌%◌, ◌^◌, ◌<◌, ◌≤◌, min, ◌≡◌, Bool, true, false, cond, Result, Ok, Err, List, ◌⊎◌, ◌≢◌, leb, eqb, length, get_or, drop}
use Rattle.temporal.specs.Plan.{Terms, Keeps, Allowed}
use Rattle.temporal.specs.Bytes.{plan_of}
use Rattle.temporal.specs.Cause.{plan_fault, is_too_many}
use Rattle.temporal.specs.Shortest.{shortest_walks_to, hops, count, through}
use Rattle.temporal.specs.Set.{touched}
use Rattle.pass.specs.declared.Stopped.{Stopped}
use Rattle.pass.specs.declared.Stopped.TheVariants as stopped
use Rattle.pass.specs.Column.{lanes_by, columns_in, column_at}
use Rattle.pass.specs.PassedColumns.{waiting, area_size}
use Rattle.widths.specs.Found.{widths_size, Narrow}
use Rattle.stale.specs.Depth.{Deep}
use Rattle.stale.specs.Size.{window_size, window_columns}
use Rattle.forward.specs.declared.Unpacked.{Unpacked}
use Rattle.forward.specs.declared.Unpacked.TheVariants as unpacked
use Rattle.forward.specs.declared.Splits.{Splits}

-- How many entries of the work area the pass uses, with blocks of so many columns; d appearances of a station are kept where readings go
-- stale.
unfoldable pub pass_size : ℕ → ℕ → Terms → ℕ → ℕ → ℕ
pass_size n t terms d block =
    cond (leb t (terms.keeping + 1)) (area_size n (waiting t terms) block) (window_size n d block)

-- the most columns of a row for which the pass fits e entries a station where nothing goes stale, with q parts of what waits; no more
-- than there are stations
unfoldable pub kept_columns : ℕ → ℕ → ℕ → ℕ
kept_columns n e q = min n (e / (1 + q) - 2)

-- the most columns for which it fits
unfoldable pub most_columns : ℕ → ℕ → Terms → ℕ → ℕ → ℕ
most_columns n t terms d e = cond (leb t (terms.keeping + 1)) (kept_columns n e (waiting t terms)) (window_columns n e d)

-- e entries a station are enough for one column: all of the work area but 2 are
pub record Lent (t : ℕ) (terms : Terms) (d e : ℕ) : Type 0 where
  pub units : Allowed terms
  pub some : 0 < t
  pub most : t ≤ 255
  pub kept : d ≤ terms.keeping
  pub enough : 4 * t + 2 ≤ e

-- what finding how many appearances are kept asks
pub record DepthReady (bs : List ℕ) (n t h : ℕ) (work : List ℕ) : Type 0 where
  pub accepted : plan_fault bs n t ≡ 0
  pub some : 0 < h
  pub most : h ≤ 255
  pub fits : n ≤ length work

-- What the pass for any columns asks: an accepted plan, units that no cause refuses, a source that the pass does not wait for, and a work
-- area that is long enough. It waits for a station only where nothing goes stale.
pub record UntilReady (bs : List ℕ) (n t : ℕ) (terms : Terms) (d s until block : ℕ) (work : List ℕ) : Type 0 where
  pub accepted : plan_fault bs n t ≡ 0
  pub units : Allowed terms
  pub deep : Deep bs n terms.keeping d
  pub source : s < n
  pub other : s ≢ until
  pub waits : Keeps t terms ⊎ (until ≡ n)
  pub fits : pass_size n t terms d block ≤ length work

-- what the pass asks: an accepted plan, units that no cause refuses, a source and a block of stations, and a work area that is long enough
pub record PassReady (bs : List ℕ) (n t : ℕ) (terms : Terms) (d s low block : ℕ) (work : List ℕ) : Type 0 where
  pub accepted : plan_fault bs n t ≡ 0
  pub units : Allowed terms
  pub deep : Deep bs n terms.keeping d
  pub source : s < n
  pub stations : low + block ≤ n
  pub fits : pass_size n t terms d block ≤ length work

-- Station z has its hops at z and its count at n + z. At 2 n + z block + j stands how many of its shortest walks do not
-- have station low + j inside; nothing is said there of z itself, nor where there is no walk.
pub record Counted (bs : List ℕ) (n t : ℕ) (terms : Terms) (s low block : ℕ) (work : List ℕ) : Type 0 where
  pub station_hops_law : (z : ℕ) → z < n → get_or work z 0 ≡ hops (shortest_walks_to (plan_of bs n t terms) s z)
  pub station_counts_law : (z : ℕ) → z < n → get_or work (n + z) 0 ≡ count (shortest_walks_to (plan_of bs n t terms) s z)
  pub rows : (z j : ℕ) → z < n → j < block → low + j ≢ z → hops (shortest_walks_to (plan_of bs n t terms) s z) < 65535
      → get_or work (2 * n + z * block + j) 0 + through (plan_of bs n t terms) s z (low + j)
      ≡ count (shortest_walks_to (plan_of bs n t terms) s z)

-- What the pass promises: whether a count is over 2^64 - 1, exactly; where none is, the entries above; and that nothing
-- past its part of the work area is touched.
pub record Passed (bs : List ℕ) (n t : ℕ) (terms : Terms) (d s low block : ℕ) (old new : List ℕ) (r : Bool) : Type 0 where
  pub too_many : r ≡ is_too_many (plan_of bs n t terms) s
  pub counted : r ≡ false → Counted bs n t terms s low block new
  pub beyond : drop (pass_size n t terms d block) new ≡ drop (pass_size n t terms d block) old
  pub same_length : length new ≡ length old

-- ---- a set of stations

-- what the pass over a set asks: an accepted plan, units that no cause refuses, a source and a destination in it, and a work area that is
-- long enough
pub record SetReady (bs : List ℕ) (n t : ℕ) (terms : Terms) (s z : ℕ) (work : List ℕ) : Type 0 where
  pub accepted : plan_fault bs n t ≡ 0
  pub units : Allowed terms
  pub source : s < n
  pub destination : z < n
  pub fits : pass_size n t terms terms.keeping 1 ≤ length work

-- What it promises: whether a count is over 2^64 - 1, exactly; where none is, hops and counts as above (Counted, with an
-- empty block), and at 2 n + z how many shortest walks to the destination z have no member inside (nothing is said of it
-- where there is no walk); and that nothing past its part of the work area is touched. A member's byte in the set is 1.
pub record SetPassed (bs : List ℕ) (n t : ℕ) (terms : Terms) (s z : ℕ) (set old new : List ℕ) (r : Bool) : Type 0 where
  pub too_many : r ≡ is_too_many (plan_of bs n t terms) s
  pub counted : r ≡ false → Counted bs n t terms s 0 0 new
  pub members : r ≡ false → hops (shortest_walks_to (plan_of bs n t terms) s z) < 65535
      → get_or new (2 * n + z) 0 + touched (plan_of bs n t terms) s z (λ v. eqb (get_or set v 0) 1)
      ≡ count (shortest_walks_to (plan_of bs n t terms) s z)
  pub beyond : drop (pass_size n t terms terms.keeping 1) new ≡ drop (pass_size n t terms terms.keeping 1) old
  pub same_length : length new ≡ length old

-- ---- several stations to an entry

-- what the end of a pass says
abbrev pub unpacked_as : Stopped → Unpacked
unpacked_as stopped.StationTooMany = unpacked.TooMany
unpacked_as stopped.AppearanceTooMany = unpacked.TooMany
unpacked_as stopped.TooWide = unpacked.TooWide

abbrev pub packed_as : Result ℕ Stopped → Result Unit Unpacked
packed_as (Ok e) = Ok tt
packed_as (Err e) = Err (unpacked_as e)

-- what the pass asks then: as for a block, with rows of so many entries, 2^split stations to each
pub record PackedReady (bs : List ℕ) (n t : ℕ) (terms : Terms) (d s block split : ℕ) (work : List ℕ) : Type 0 where
  pub accepted : plan_fault bs n t ≡ 0
  pub units : Allowed terms
  pub deep : Deep bs n terms.keeping d
  pub source : s < n
  pub fits : pass_size n t terms d block ≤ length work
  pub few : split ≤ 3

-- Hops and counts as in Counted; column j of the row at 2 n + z block holds how many shortest walks do not have station low + j inside.
-- A count fits its lane, where an entry has several.
pub record PackedCounted (bs : List ℕ) (n t : ℕ) (terms : Terms) (s low block split : ℕ) (work : List ℕ) : Type 0 where
  pub stations : Counted bs n t terms s 0 0 work
  pub rows : (z j : ℕ) → z < n → j < columns_in (lanes_by split) block → low + j < n → low + j ≢ z
      → hops (shortest_walks_to (plan_of bs n t terms) s z) < 65535
      → column_at (lanes_by split) work (2 * n + z * block) j + through (plan_of bs n t terms) s z (low + j)
      ≡ count (shortest_walks_to (plan_of bs n t terms) s z)
  pub thin : (z : ℕ) → z < n → hops (shortest_walks_to (plan_of bs n t terms) s z) < 65535
      → (2 ^ split ≡ 1) ⊎ (count (shortest_walks_to (plan_of bs n t terms) s z) < 2 ^ (64 / 2 ^ split))

-- how it ends
unfoldable pub PackedAs : List ℕ → ℕ → ℕ → Terms → ℕ → ℕ → ℕ → ℕ → List ℕ → Result Unit Unpacked → Type 0
PackedAs bs n t terms s low block split work (Ok e) =
    (is_too_many (plan_of bs n t terms) s ≡ false) × PackedCounted bs n t terms s low block split work
PackedAs bs n t terms s low block split work (Err unpacked.TooMany) = is_too_many (plan_of bs n t terms) s ≡ true
PackedAs bs n t terms s low block split work (Err unpacked.TooWide) = split ≢ 0

-- what it promises
pub record PackedPassed (bs : List ℕ) (n t : ℕ) (terms : Terms) (d s low block split : ℕ) (old new : List ℕ) (r : Result Unit Unpacked) : Type 0 where
  pub ends : PackedAs bs n t terms s low block split new r
  pub beyond : drop (pass_size n t terms d block) new ≡ drop (pass_size n t terms d block) old
  pub same_length : length new ≡ length old

-- ---- the pass without rows, for several sources at once

-- how many entries of the work area it uses for so many sources; none where readings go stale
unfoldable pub widths_part : ℕ → ℕ → Terms → ℕ → ℕ
widths_part n t terms many = cond (leb t (terms.keeping + 1)) (widths_size n (waiting t terms) many) 0

-- what finding how many sources it takes at once asks: some are left, and one fits base entries
pub record GroupAsked (n t : ℕ) (terms : Terms) (base left : ℕ) : Type 0 where
  pub stations : n ≤ 256
  pub slots : t ≤ 255
  pub units : Allowed terms
  pub some : 0 < left
  pub one : widths_part n t terms 1 ≤ base

-- so many of them fit
pub record GroupFits (n t : ℕ) (terms : Terms) (base left r : ℕ) : Type 0 where
  pub some : 0 < r
  pub most : r ≤ left
  pub few : r ≤ 32
  pub fits : widths_part n t terms r ≤ base

-- what it asks: an accepted plan, units that no cause refuses, sources in it, and a work area that is long enough
pub record WidthsAsked (bs : List ℕ) (n t : ℕ) (terms : Terms) (first many : ℕ) (work : List ℕ) : Type 0 where
  pub accepted : plan_fault bs n t ≡ 0
  pub units : Allowed terms
  pub sources : first + many ≤ n
  pub few : many ≤ 32
  pub fits : widths_part n t terms many ≤ length work

-- what it promises: the splits, and that nothing past its part of the work area is touched
pub record WidthsKnown (bs : List ℕ) (n t : ℕ) (terms : Terms) (first many : ℕ) (old new : List ℕ) (r : ℕ) : Type 0 where
  pub narrow : Narrow bs n t terms first many r
  pub beyond : drop (widths_part n t terms many) new ≡ drop (widths_part n t terms many) old
  pub same_length : length new ≡ length old

-- what is known of source s: a split of its rows, and that cause 9 does not hold; 0 where nothing is
pub record Known (bs : List ℕ) (n t : ℕ) (terms : Terms) (s width : ℕ) : Type 0 where
  pub few : width ≤ 3
  pub few_walks : width ≢ 0 → is_too_many (plan_of bs n t terms) s ≡ false

-- what is known of the sources from s on: the splits of some that are below end
pub record Knows (bs : List ℕ) (n t : ℕ) (terms : Terms) (s end : ℕ) (splits : Splits) : Type 0 where
  pub within : s + splits.left ≤ end
  pub narrow : Narrow bs n t terms s splits.left splits.word

-- of no source
abbrev pub no_splits : Splits
no_splits = record { left = 0; word = 0 }

-- the split of the first of them, and the splits of the others
abbrev pub next_split : Splits → ℕ
next_split splits = splits.word % 4

abbrev pub later_splits : Splits → Splits
later_splits splits = record { left = splits.left - 1; word = splits.word / 4 }

-- what knowing some asks: room for one source before base, and a source that is left
pub record RefillReady (bs : List ℕ) (n t : ℕ) (terms : Terms) (base s end : ℕ) (splits : Splits) (work : List ℕ) : Type 0 where
  pub accepted : plan_fault bs n t ≡ 0
  pub units : Allowed terms
  pub source : s < end
  pub sources : end ≤ n
  pub room : widths_part n t terms 1 ≤ base
  pub fits : base ≤ length work
  pub knows : Knows bs n t terms s end splits

-- what it promises: the splits of some, and that nothing from base on is touched
pub record Refilled (bs : List ℕ) (n t : ℕ) (terms : Terms) (base s end : ℕ) (old new : List ℕ) (r : Splits) : Type 0 where
  pub some : 0 < r.left
  pub knows : Knows bs n t terms s end r
  pub beyond : drop base new ≡ drop base old
  pub same_length : length new ≡ length old
