-- What the functions of the tallies ask and promise that work on a block of stations, a source, and the sources below k.
-- Definitions only.
-- Assumes nothing.
use Rattle.std.specs.Prelude.{ℕ, ◌+◌, ◌<◌, ◌≤◌, ◌≡◌, Bool, true, false, Result, Ok, Err, List, ◌≢◌}
use Rattle.temporal.specs.Plan.{Terms, Allowed}
use Rattle.temporal.specs.Bytes.{plan_of}
use Rattle.temporal.specs.Cause.{plan_fault, is_too_many}
use Rattle.stale.specs.Depth.{Deep}
use Rattle.pass.specs.Column.{lanes_by, columns_in}
use Rattle.forward.specs.declared.Unpacked.{Unpacked}
use Rattle.forward.specs.declared.Unpacked.TheVariants as unpacked
use Rattle.forward.specs.Passed.{pass_size, Counted}
use Rattle.tallies.specs.Tally.{block_of, tally_base, Tallyable}
use Rattle.tallies.specs.Progress.{TallyEntry, State, Rows, Room, Kept}

-- what a block asks: an accepted plan, units that no cause refuses, a source and a block in it, and the stations before the block done
pub record BlockReady (bs : List ℕ) (n t : ℕ) (terms : Terms) (d base s low : ℕ) (rows : Rows) (work : List ℕ) : Type 0 where
  pub accepted : plan_fault bs n t ≡ 0
  pub source : s < n
  pub units : Allowed terms
  pub deep : Deep bs n terms.keeping d
  pub inside : low + rows.stations ≤ n
  pub columns : rows.stations ≤ columns_in (lanes_by rows.split) rows.entries
  pub few : rows.split ≤ 3
  pub area : pass_size n t terms d rows.entries ≤ base
  pub room : Room n base rows.entries work
  pub state : State (plan_of bs n t terms) n base s low 0 0 0 work

-- What a block promises by its end: counted, the block is done too, with hops and counts of the stations; with a count over 2^64 - 1; or with
-- one that does not fit its lane, where the tallies are as they were.
unfoldable pub BlockEnd : List ℕ → ℕ → ℕ → Terms → ℕ → ℕ → ℕ → Rows → List ℕ → Result Unit Unpacked → Type 0
BlockEnd bs n t terms base s low rows new (Ok e) =
    (is_too_many (plan_of bs n t terms) s ≡ false) × State (plan_of bs n t terms) n base s (low + rows.stations) 0 0 0 new
    × Counted bs n t terms s 0 0 new
BlockEnd bs n t terms base s low rows new (Err unpacked.TooMany) = is_too_many (plan_of bs n t terms) s ≡ true
BlockEnd bs n t terms base s low rows new (Err unpacked.TooWide) =
    (rows.split ≢ 0) × State (plan_of bs n t terms) n base s low 0 0 0 new

pub record BlockDone (bs : List ℕ) (n t : ℕ) (terms : Terms) (base s low : ℕ) (rows : Rows) (old new : List ℕ) (r : Result Unit Unpacked) : Type 0 where
  pub ends : BlockEnd bs n t terms base s low rows new r
  pub kept : Kept n base old new

-- what a source asks: an accepted plan, units that no cause refuses, the source in it, a block size, and the sources before it done
pub record SourceReady (bs : List ℕ) (n t : ℕ) (terms : Terms) (d base block s : ℕ) (work : List ℕ) : Type 0 where
  pub accepted : plan_fault bs n t ≡ 0
  pub source : s < n
  pub units : Allowed terms
  pub deep : Deep bs n terms.keeping d
  pub some_block : 0 < block
  pub area : pass_size n t terms d block ≤ base
  pub room : Room n base block work
  pub summed : (v : ℕ) → v < n → TallyEntry (plan_of bs n t terms) n base s v 0 work

-- what a source promises: whether a count is over 2^64 - 1, and where none is, the source done too, and hops and counts of the stations
pub record SourceDone (bs : List ℕ) (n t : ℕ) (terms : Terms) (base s : ℕ) (old new : List ℕ) (r : Bool) : Type 0 where
  pub too_many : r ≡ is_too_many (plan_of bs n t terms) s
  pub summed : r ≡ false → (v : ℕ) → v < n → TallyEntry (plan_of bs n t terms) n base (s + 1) v 0 new
  pub stations : r ≡ false → Counted bs n t terms s 0 0 new
  pub kept : Kept n base old new

-- what the sources below k ask: what the tallies ask, with their block and base
pub record AllReady (bs : List ℕ) (n t : ℕ) (terms : Terms) (d k base block : ℕ) (work : List ℕ) : Type 0 where
  pub asked : Tallyable bs n t terms k work
  pub deep : Deep bs n terms.keeping d
  pub kept : d ≤ terms.keeping
  pub block_there : block ≡ block_of n t terms d
  pub base_there : base ≡ tally_base n t

-- how many entries of a row are taken for so many stations that are left: some, no more than block, and no more than all of them need
pub record EntriesFor (left block split r : ℕ) : Type 0 where
  pub most : r ≤ block
  pub some : 0 < left → 0 < block → 0 < r
  pub small : r ≤ left + 8

-- the same for the next pass of a source: none before cause 9 is known not to hold
pub record EntriesNext (known : Bool) (left block split r : ℕ) : Type 0 where
  pub most : r ≤ block
  pub some : known ≡ true → 0 < left → 0 < block → 0 < r
  pub small : r ≤ left + 8
