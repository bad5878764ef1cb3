-- The pass where readings go stale. Part 0 has the stations' totals, part 1 what is heard in the slot that the pass is in and waits to be
-- kept: between two slots nothing waits. Behind them are d parts, one ring of n d cells for the appearances of all stations: they are
-- numbered in the order in which they are kept, and number k is in cell k mod n d. Cell c is in part 2 + c / n, at place c mod n. Part 2 + d
-- has the windows: what a station may send on in the slot that the pass is in. Behind the parts stands for each cell its mark: the slot in
-- which it was heard, and the head of what its station had kept before it. A head is 0, or one more than a number. Then stands for each
-- station the head of what it has kept. The source keeps nothing, for its window is the start: in place of its head stands how many
-- appearances have been kept in all.
-- Definitions only.
-- Assumes nothing.
use Rattle.std.specs.Prelude.{◌≡◌, ℕ, zero, suc, ◌+◌, ◌-◌, ◌*◌, ◌/◌, ◌%◌, ◌^◌, ◌<◌, ◌≤◌, Bool, true, false, cond, ◌&&◌, Option, is_none, IfSome, List, length, set, ◌==◌, nat_lt, slice_index, slice_set}
use Rattle.temporal.specs.Plan.{Terms, Allowed, window_first, window_end}
use Rattle.temporal.specs.Bytes.{contact_at}
use Rattle.temporal.specs.Cause.{plan_fault}
use Rattle.memory.specs.Fill.{filled}
use Rattle.pass.specs.Row.{part_size, row_at}
use Rattle.lanes.specs.Lane.{ones}
use Rattle.pass.specs.Column.{Lanes}
use Rattle.pass.specs.Entry.{absorbed}
use Rattle.pass.specs.Sweep.{Sweep, sweep_of, cleared_column, too_wide, stops_at, begun_area}
use Rattle.stale.specs.Depth.{Deep}
use Rattle.stale.specs.Size.{window_size}

-- where part 2 + i begins: for i below d one of the ring's, then that of the windows
unfoldable pub ring_at : ℕ → ℕ → ℕ → ℕ
ring_at n block i = (2 + i) * part_size n block

-- where the mark of the cell of part 2 + i at place v stands; behind d parts, where the head of station v does
unfoldable pub mark_at : ℕ → ℕ → ℕ → ℕ → ℕ → ℕ
mark_at n block d i v = (3 + d) * part_size n block + i * n + v

-- where the part of the cell of number k begins, the place there, and where its mark stands
abbrev pub number_part : ℕ → ℕ → ℕ → ℕ → ℕ
number_part n block d k = ring_at n block (k % (n * d) / n)

abbrev pub number_place : ℕ → ℕ → ℕ → ℕ
number_place n d k = k % (n * d) % n

abbrev pub number_mark : ℕ → ℕ → ℕ → ℕ → ℕ
number_mark n block d k = mark_at n block d (k % (n * d) / n) (k % (n * d) % n)

-- the head of station v
abbrev pub head_of : ℕ → ℕ → ℕ → List ℕ → ℕ → ℕ
head_of n block d w v = slice_index w (mark_at n block d d v)

-- the first number that is still there, where s is the source
abbrev pub oldest_of : ℕ → ℕ → ℕ → ℕ → List ℕ → ℕ
oldest_of n block d s w = head_of n block d w s - n * d

-- The entry of station x in the part that begins at from is taken, over some hops more, into the entry of station v in the part that
-- begins at to.
unfoldable pub taken_cell : ℕ → ℕ → List ℕ → ℕ → ℕ → ℕ → ℕ → ℕ → List ℕ
taken_cell n block w to v from x more =
    cond (nat_lt (slice_index w (from + x)) 65535)
    (absorbed n block w (to + v) (to + row_at n block v) (from + row_at n block x) (slice_index w (from + x) + more) (slice_index w (from + x + n)))
    w

-- the entry of station v in a part has the empty walk alone, with a row whose entries have 1 in each lane
unfoldable pub opened_cell : ℕ → ℕ → List ℕ → ℕ → ℕ → ℕ → List ℕ
opened_cell n block w base v one = filled (slice_set (slice_set w (base + v) 0) (base + v + n) 1) (base + row_at n block v) block one

-- it has no walks
unfoldable pub emptied_cell : ℕ → List ℕ → ℕ → ℕ → List ℕ
emptied_cell n w base v = slice_set (slice_set w (base + v) 65535) (base + v + n) 0

-- the column that stands for v becomes 0 in the row at a place, where one stands for it
unfoldable pub masked_row : Lanes → ℕ → (ℕ → ℕ) → List ℕ → ℕ → ℕ → List ℕ
masked_row lay block col w row v = cond (nat_lt (col v) (block * lay.lanes)) (cleared_column lay w row (col v)) w

-- whether the entry at a place has walks, and a count that does not fit a lane
unfoldable pub wide_entry : Lanes → ℕ → List ℕ → ℕ → Bool
wide_entry lay n w at = nat_lt (slice_index w at) 65535 && too_wide lay 65535 0 (slice_index w at) (slice_index w (at + n))

-- the column that stands for v becomes 0 in v's row in the part that begins at base; or nothing changes and the flag is up, where v's count
-- there does not fit a lane
unfoldable pub masked_cell : Lanes → ℕ → ℕ → (ℕ → ℕ) → List ℕ → ℕ → ℕ → Sweep
masked_cell lay n block col w base v =
    cond (wide_entry lay n w (base + v)) (sweep_of true w) (sweep_of false (masked_row lay block col w (base + row_at n block v) v))

-- The cell of number k, of some slot, is taken into the entry of station v in the part that begins at base, where that slot is before slot
-- end.
unfoldable pub kept_cell : ℕ → ℕ → ℕ → List ℕ → ℕ → ℕ → ℕ → ℕ → ℕ → List ℕ
kept_cell n block d w base v slot end k =
    cond (nat_lt slot end) (taken_cell n block w base v (number_part n block d k) (number_place n d k) 0) w

-- the same for the number that a head names, where its slot is not before slot first
unfoldable pub followed_cell : ℕ → ℕ → ℕ → List ℕ → ℕ → ℕ → ℕ → ℕ → ℕ → List ℕ
followed_cell n block d w base v first end head =
    cond (nat_lt (slice_index w (number_mark n block d (head - 1)) % 256) first) w
    (kept_cell n block d w base v (slice_index w (number_mark n block d (head - 1)) % 256) end (head - 1))

-- a link, where it is lower than the head that it follows
unfoldable pub lower_link : ℕ → ℕ → ℕ
lower_link link head = cond (nat_lt link head) link 0

-- the head of what was kept before the number that a head names; none where its slot is before slot first, for those are older
unfoldable pub next_head : ℕ → ℕ → ℕ → List ℕ → ℕ → ℕ → ℕ
next_head n block d w first head =
    cond (nat_lt (slice_index w (number_mark n block d (head - 1)) % 256) first) 0
    (lower_link (slice_index w (number_mark n block d (head - 1)) / 256) head)

-- from a head on, all of the numbers that are still there, at most k of them
unfoldable pub gathered_cell : ℕ → ℕ → ℕ → List ℕ → ℕ → ℕ → ℕ → ℕ → ℕ → ℕ → ℕ → List ℕ
gathered_cell n block d w base v oldest first end head zero = w
gathered_cell n block d w base v oldest first end head (suc k) =
    cond (nat_lt oldest head)
    (gathered_cell n block d (followed_cell n block d w base v first end head) base v oldest first end (next_head n block d w first head) k)
    w

-- what station v may send on in slot u is gathered in its window: for the source the empty walk; the flag is up where a count does not fit
unfoldable pub window_cell : Lanes → ℕ → ℕ → ℕ → Terms → ℕ → (ℕ → ℕ) → List ℕ → ℕ → ℕ → Sweep
window_cell lay n block d terms s col w v u =
    cond (v == s)
    (sweep_of false (opened_cell n block w (ring_at n block d) v (ones lay.width lay.lanes)))
    (masked_cell lay n block col
    (gathered_cell n block d (emptied_cell n w (ring_at n block d) v) (ring_at n block d) v (oldest_of n block d s w)
    (window_first terms.keeping u) (window_end terms.turnaround u) (head_of n block d w v) (head_of n block d w v))
    (ring_at n block d) v)

-- the same, but not where v is the station whose window was gathered last
unfoldable pub window_next : Lanes → ℕ → ℕ → ℕ → Terms → ℕ → (ℕ → ℕ) → List ℕ → ℕ → ℕ → ℕ → Sweep
window_next lay n block d terms s col w last v u = cond (v == last) (sweep_of false w) (window_cell lay n block d terms s col w v u)

-- what is left follows, where the flag is not up
unfoldable pub goes_on : Sweep → (List ℕ → Sweep) → Sweep
goes_on x rest = cond x.over x (rest x.work)

-- the windows of the senders of k records from position j on, up to the first at which the flag is up
unfoldable pub windows_of : List ℕ → Lanes → ℕ → ℕ → ℕ → Terms → ℕ → (ℕ → ℕ) → List ℕ → ℕ → ℕ → ℕ → ℕ → Sweep
windows_of bs lay n block d terms s col w u last j zero = sweep_of false w
windows_of bs lay n block d terms s col w u last j (suc k) =
    goes_on (window_next lay n block d terms s col w last (contact_at bs j).sender u)
    (λ y. windows_of bs lay n block d terms s col y u (contact_at bs j).sender (j + 1) k)

-- the windows of the senders of k records from position j on go out, over one hop, to the hearers' entries in the part at to
unfoldable pub sent_records : List ℕ → ℕ → ℕ → ℕ → ℕ → List ℕ → ℕ → ℕ → List ℕ
sent_records bs n block from to w j zero = w
sent_records bs n block from to w j (suc k) =
    sent_records bs n block from to (taken_cell n block w to (contact_at bs j).hearer from (contact_at bs j).sender 1) (j + 1) k

-- what station v heard is in the cell of number k
unfoldable pub pushed_entry : ℕ → ℕ → ℕ → List ℕ → ℕ → ℕ → List ℕ
pushed_entry n block d w v k =
    taken_cell n block (emptied_cell n w (number_part n block d k) (number_place n d k)) (number_part n block d k) (number_place n d k)
    (part_size n block) v 0

-- number k is marked with slot u and the head of station v, and is its newest and the last of all, where s is the source
unfoldable pub pushed_marks : ℕ → ℕ → ℕ → ℕ → List ℕ → ℕ → ℕ → ℕ → List ℕ
pushed_marks n block d s w u v k =
    set
    (slice_set (slice_set w (number_mark n block d k) (head_of n block d w v % 2 ^ 56 * 256 + u % 256)) (mark_at n block d d v) ((k + 1) % 2 ^ 64))
    (mark_at n block d d s) ((k + 1) % 2 ^ 64)

-- what station v heard in slot u is kept as the next number; the source keeps nothing
unfoldable pub pushed_cell : ℕ → ℕ → ℕ → ℕ → List ℕ → ℕ → ℕ → List ℕ
pushed_cell n block d s w u v =
    cond (v == s) w
    (pushed_marks n block d s (pushed_entry n block d w v (head_of n block d w s)) u v (head_of n block d w s))

-- where station v heard something in slot u, it is taken into its total and kept, and nothing waits there any more
unfoldable pub kept_one : ℕ → ℕ → ℕ → ℕ → ℕ → List ℕ → ℕ → List ℕ
kept_one n block d s u w v =
    cond (nat_lt (slice_index w (part_size n block + v)) 65535)
    (emptied_cell n (pushed_cell n block d s (taken_cell n block w 0 v (part_size n block) v 0) u v) (part_size n block) v)
    w

-- or nothing changes and the flag is up, where its count is over 2^64 - 1 or its total would not fit a lane
unfoldable pub kept_next : Lanes → ℕ → ℕ → ℕ → ℕ → ℕ → List ℕ → ℕ → Sweep
kept_next lay n block d s u w v =
    cond (stops_at lay n (part_size n block) w v) (sweep_of true w) (sweep_of false (kept_one n block d s u w v))

-- the same for the hearers of k records from position j on, up to the first at which the flag is up
unfoldable pub kept_records : List ℕ → Lanes → ℕ → ℕ → ℕ → ℕ → ℕ → List ℕ → ℕ → ℕ → Sweep
kept_records bs lay n block d s u w j zero = sweep_of false w
kept_records bs lay n block d s u w j (suc k) =
    goes_on (kept_next lay n block d s u w (contact_at bs j).hearer) (λ y. kept_records bs lay n block d s u y (j + 1) k)

-- Slot u, whose records are those from position j to before e: the windows are gathered, they go out, and what was heard is kept.
unfoldable pub window_slot : List ℕ → Lanes → ℕ → ℕ → ℕ → Terms → ℕ → (ℕ → ℕ) → List ℕ → ℕ → ℕ → ℕ → Sweep
window_slot bs lay n block d terms s col w u j e =
    goes_on (windows_of bs lay n block d terms s col w u n j (e - j))
    (λ y. kept_records bs lay n block d s u (sent_records bs n block (ring_at n block d) (part_size n block) y j (e - j)) j (e - j))

-- no walks but the empty one, in the source's total, and nothing is kept
unfoldable pub begun_window : Lanes → ℕ → ℕ → ℕ → List ℕ → ℕ → List ℕ
begun_window lay n block d w s = filled (begun_area n block 1 w s (ones lay.width lay.lanes)) (mark_at n block d d 0) n 0

-- two parts lie within the list
pub record TwoParts (n block to from : ℕ) (w : List ℕ) : Type 0 where
  pub some : 0 < n
  pub to_fits : to + part_size n block ≤ length w
  pub from_fits : from + part_size n block ≤ length w

-- the parts, the marks of the cells and the heads fit
pub record WindowArea (n block d : ℕ) (w : List ℕ) : Type 0 where
  pub some : 0 < n
  pub deep : 0 < d
  pub fits : window_size n d block ≤ length w

-- the records from position j to before e are there, and their stations lie within the plan
pub record RecordsFit (bs : List ℕ) (n j e : ℕ) : Type 0 where
  pub inside : (i : ℕ) → j ≤ i → i < e → i * 6 + 5 < length bs
  pub sender_station : (i : ℕ) → j ≤ i → i < e → (contact_at bs i).sender < n
  pub hearer_station : (i : ℕ) → j ≤ i → i < e → (contact_at bs i).hearer < n

-- what following a head leaves: its number's cell is taken, and the head that follows is lower
pub record Followed (n block d base v first end head : ℕ) (old new : List ℕ) (r : ℕ) : Type 0 where
  pub cell : new ≡ followed_cell n block d old base v first end head
  pub next : r ≡ next_head n block d old first head
  pub falls : r < head

-- what gathering the next window leaves, of the record's sender: none where the flag is up, and the sender where it is not
pub record GatheredNext (sender : ℕ) (r : Option ℕ) (w : List ℕ) (x : Sweep) : Type 0 where
  pub swept : sweep_of (is_none r) w ≡ x
  pub is : IfSome r (λ v. v ≡ sender)

-- what the pass asks: an accepted plan, units whose terms no cause refuses, a ring that is deep enough, a source, and a work area that is
-- long enough
pub record WindowReady (bs : List ℕ) (n t : ℕ) (terms : Terms) (d s block : ℕ) (work : List ℕ) : Type 0 where
  pub accepted : plan_fault bs n t ≡ 0
  pub units : Allowed terms
  pub deep : Deep bs n terms.keeping d
  pub source : s < n
  pub fits : window_size n d block ≤ length work
