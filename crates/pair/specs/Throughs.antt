-- The through counts of a pair, block by block. Definitions only.
-- Assumes nothing.
use Rattle.std.specs.Prelude.{ℕ, ◌+◌, ◌-◌, ◌*◌, ◌<◌, ◌≤◌, min, ◌≡◌, false, cond, Option, MatchOption, List, ◌⊎◌, ◌≢◌, eqb, length, get_or, drop}
use Rattle.temporal.specs.Plan.{Terms, Keeps, Allowed}
use Rattle.temporal.specs.Bytes.{plan_of}
use Rattle.temporal.specs.Cause.{plan_fault, is_too_many}
use Rattle.temporal.specs.Shortest.{hops, count, through_in}
use Rattle.temporal.specs.Foremost.{arrival, walks_by}
use Rattle.temporal.specs.Outcome.{work_size}
use Rattle.pass.specs.Row.{part_size}
use Rattle.pass.specs.PassedColumns.{Overfull}
use Rattle.stale.specs.Depth.{Deep}
use Rattle.forward.specs.Passed.{pass_size, most_columns}
use Rattle.plan.specs.Setting.{terms_of}
use Rattle.calls.specs.declared.Question.{Question}

-- what the pass leaves for the station at j of a block: the count less its entry, 0 at z itself and where there is no walk
unfoldable pub through_entry : List ℕ → ℕ → ℕ → ℕ → ℕ → ℕ → ℕ
through_entry work n z low block j =
    cond (eqb (low + j) z) 0
    (cond (eqb (get_or work z 0) 65535) 0 (get_or work (n + z) 0 - get_or work (2 * n + z * block + j) 0))

-- what reading such an entry asks: it lies within the work area, and is at most the count
pub record Storable (n z low block j : ℕ) (work : List ℕ) : Type 0 where
  pub station : z < n
  pub few : n ≤ 256
  pub column : j < block
  pub stations : low + block ≤ n
  pub fits : part_size n block ≤ length work
  pub at_most : low + j ≢ z → get_or work z 0 ≢ 65535 → get_or work (2 * n + z * block + j) 0 ≤ get_or work (n + z) 0

-- what storing a block's through counts asks
pub record Storing (n z low block : ℕ) (through work : List ℕ) : Type 0 where
  pub station : z < n
  pub few : n ≤ 256
  pub stations : low + block ≤ n
  pub table : n ≤ length through
  pub fits : part_size n block ≤ length work
  pub at_most :
      (j : ℕ) → j < block → low + j ≢ z → get_or work z 0 ≢ 65535 → get_or work (2 * n + z * block + j) 0 ≤ get_or work (n + z) 0

-- the stations from low on, k of them, have their through counts, and no other entry is touched
pub record StoredBlock (n z low block k : ℕ) (work old new : List ℕ) : Type 0 where
  pub here : (j : ℕ) → j < k → get_or new (low + j) 0 ≡ through_entry work n z low block j
  pub before : (v : ℕ) → v < low → get_or new v 0 ≡ get_or old v 0
  pub beyond : drop n new ≡ drop n old
  pub same_length : length new ≡ length old

-- what counting a pair asks
pub record PairReady (bs : List ℕ) (n t : ℕ) (terms : Terms) (s z : ℕ) (through work : List ℕ) : Type 0 where
  pub accepted : plan_fault bs n t ≡ 0
  pub units : Allowed terms
  pub source : s < n
  pub destination : z < n
  pub different : s ≢ z
  pub table : n ≤ length through
  pub area : work_size n t ≤ length work

-- the station that a pass waits for is the destination, where nothing goes stale, or none
pub record Asks (n t : ℕ) (terms : Terms) (z until : ℕ) : Type 0 where
  pub which : (until ≡ n) ⊎ (until ≡ z)
  pub waits : Keeps t terms ⊎ (until ≡ n)

-- the slot in which a pass ends: that in which it reaches the station until, or the last
abbrev pub last_slot : List ℕ → ℕ → ℕ → Terms → ℕ → ℕ → ℕ
last_slot bs n t terms s until = min t (arrival (plan_of bs n t terms) s until)

-- what storing the through counts of one block asks, from its pass on; where the pass of a block before went through every slot, no count is
-- over 2^64 - 1
pub record BlockReady (bs : List ℕ) (n t : ℕ) (terms : Terms) (d s z until low block : ℕ) (through work : List ℕ) : Type 0 where
  pub accepted : plan_fault bs n t ≡ 0
  pub source : s < n
  pub destination : z < n
  pub different : s ≢ z
  pub units : Allowed terms
  pub deep : Deep bs n terms.keeping d
  pub asks : Asks n t terms z until
  pub stations : low + block ≤ n
  pub table : n ≤ length through
  pub fits : pass_size n t terms d block ≤ length work
  pub few : 0 < low → until ≡ n → is_too_many (plan_of bs n t terms) s ≡ false

-- what the work area holds of the pair where no count is over 2^64 - 1: hops and count of its shortest walks by slot e
pub record PairBy (bs : List ℕ) (n t : ℕ) (terms : Terms) (s z until : ℕ) (work : List ℕ) (e : ℕ) : Type 0 where
  pub slot : e ≡ last_slot bs n t terms s until
  pub few : until ≡ n → is_too_many (plan_of bs n t terms) s ≡ false
  pub pair_hops : get_or work z 0 ≡ hops (walks_by (plan_of bs n t terms) s z e)
  pub pair_count : get_or work (n + z) 0 ≡ count (walks_by (plan_of bs n t terms) s z e)

-- the through counts of one block in the table, of the shortest walks by slot e
pub record BlockBy (bs : List ℕ) (n t : ℕ) (terms : Terms) (s z until low block : ℕ) (through' work' : List ℕ) (e : ℕ) : Type 0 where
  pub settled : PairBy bs n t terms s z until work' e
  pub here : (j : ℕ) → j < block
      → get_or through' (low + j) 0 ≡ through_in (plan_of bs n t terms) s z (walks_by (plan_of bs n t terms) s z e) (low + j)

-- one block: whether a count is over 2^64 - 1, where there is no slot; else the block's through counts in the table
pub record BlockDone (bs : List ℕ) (n t : ℕ) (terms : Terms) (d s z until low block : ℕ) (through work through' work' : List ℕ)
    (r : Option ℕ) : Type 0 where
  pub answer : MatchOption r (Overfull bs n t terms s until) (BlockBy bs n t terms s z until low block through' work')
  pub before : (v : ℕ) → v < low → get_or through' v 0 ≡ get_or through v 0
  pub table_beyond : drop n through' ≡ drop n through
  pub table_length : length through' ≡ length through
  pub area_beyond : drop (pass_size n t terms d block) work' ≡ drop (pass_size n t terms d block) work
  pub area_length : length work' ≡ length work

-- what counting block by block asks
pub record ThroughsReady (bs : List ℕ) (n t : ℕ) (terms : Terms) (s z until : ℕ) (through work : List ℕ) : Type 0 where
  pub ready : PairReady bs n t terms s z through work
  pub asks : Asks n t terms z until

-- the same, with so many appearances kept where readings go stale, and so many columns at most
pub record BlocksReady (bs : List ℕ) (n t : ℕ) (terms : Terms) (d most s z until : ℕ) (through work : List ℕ) : Type 0 where
  pub asked : ThroughsReady bs n t terms s z until through work
  pub deep : Deep bs n terms.keeping d
  pub kept : d ≤ terms.keeping
  pub columns : most ≡ most_columns n t terms d (4 * (t + 1))

-- every station's through count in the table, of the shortest walks by slot e
pub record ThroughsBy (bs : List ℕ) (n t : ℕ) (terms : Terms) (s z until : ℕ) (through' work' : List ℕ) (e : ℕ) : Type 0 where
  pub settled : PairBy bs n t terms s z until work' e
  pub counted : (v : ℕ) → v < n
      → get_or through' v 0 ≡ through_in (plan_of bs n t terms) s z (walks_by (plan_of bs n t terms) s z e) v

-- all blocks: whether a count is over 2^64 - 1, where there is no slot; else every station's through count in the table
pub record Throughs (bs : List ℕ) (n t : ℕ) (terms : Terms) (s z until : ℕ) (through work through' work' : List ℕ) (r : Option ℕ)
    : Type 0 where
  pub answer : MatchOption r (Overfull bs n t terms s until) (ThroughsBy bs n t terms s z until through' work')
  pub table_beyond : drop n through' ≡ drop n through
  pub table_length : length through' ≡ length through
  pub area_beyond : drop (work_size n t) work' ≡ drop (work_size n t) work
  pub area_length : length work' ≡ length work

-- what counting the pair of a question asks
abbrev pub pair_asked : Question → List ℕ → List ℕ → Type 0
pair_asked q = PairReady q.plan.now q.setting.stations q.setting.slots (terms_of q.setting) q.source q.destination

-- what counting it block by block asks
abbrev pub throughs_asked : Question → ℕ → List ℕ → List ℕ → Type 0
throughs_asked q = ThroughsReady q.plan.now q.setting.stations q.setting.slots (terms_of q.setting) q.source q.destination

-- the same, with so many appearances kept, and so many columns at most
abbrev pub blocks_asked : Question → ℕ → ℕ → ℕ → List ℕ → List ℕ → Type 0
blocks_asked q d most = BlocksReady q.plan.now q.setting.stations q.setting.slots (terms_of q.setting) d most q.source q.destination

-- all its blocks are done with
abbrev pub throughs_done : Question → ℕ → List ℕ → List ℕ → List ℕ → List ℕ → Option ℕ → Type 0
throughs_done q = Throughs q.plan.now q.setting.stations q.setting.slots (terms_of q.setting) q.source q.destination

-- what storing the through counts of one of them asks
abbrev pub block_asked : Question → ℕ → ℕ → ℕ → ℕ → List ℕ → List ℕ → Type 0
block_asked q d = BlockReady q.plan.now q.setting.stations q.setting.slots (terms_of q.setting) d q.source q.destination

-- this one is done with
abbrev pub block_done : Question → ℕ → ℕ → ℕ → ℕ → List ℕ → List ℕ → List ℕ → List ℕ → Option ℕ → Type 0
block_done q d = BlockDone q.plan.now q.setting.stations q.setting.slots (terms_of q.setting) d q.source q.destination
