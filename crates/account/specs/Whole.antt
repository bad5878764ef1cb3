-- What the functions above the pairs of a station ask and leave. Definitions only.
-- Assumes nothing.
use Rattle.std.specs.Prelude.{ℕ, ◌*◌, ◌<◌, ◌≤◌, ◌≡◌, Bool, false, cond, ◌||◌, List, eqb, length, get_or, take}
use Rattle.temporal.specs.Plan.{turning}
use Rattle.temporal.specs.Load.{pairs, load}
use Rattle.temporal.specs.Bytes.{contact_at, records, plan_of}
use Rattle.temporal.specs.Cause.{first, plan_fault, terms_causes, too_many_anywhere}
use Rattle.temporal.specs.Outcome.{work_size}
use Rattle.report.specs.Work.{Within}
use Rattle.account.specs.Account.{account_text}
use Rattle.account.specs.Work.{PairsWritable}

-- the account of station v of the plan that bytes are
abbrev pub station_text : List ℕ → ℕ → ℕ → ℕ → ℕ → ℕ → List ℕ
station_text bs n t g v k = account_text (contact_at bs) (plan_of bs n t (turning g)) v k

-- the number of a refusal of loads, 0 for none, where a station is named: where it is not below n, 6 comes before 9
unfoldable pub with_station : ℕ → Bool → ℕ
with_station number wrong = cond wrong (cond (eqb number 0 || eqb number 9) 6 number) number

-- what writing the pairs asks, where the layered plan is the beginning of a buffer
pub record LayersWritable (bs : List ℕ) (n t g v k at : ℕ) (layers through way work out : List ℕ) : Type 0 where
  pub layers_room : 2 * length bs ≤ length layers
  pub writable : PairsWritable bs n t g v k at (take (2 * length bs) layers) through way work out

-- What writing the account of station v asks: an accepted plan within the program's limits, allowed terms, no count over 2^64 - 1, the
-- entries of v as loads leaves them, and buffers that fit.
pub record LoadedFor (bs : List ℕ) (n t g v k : ℕ) (out ps ls layers way work : List ℕ) : Type 0 where
  pub accepted : plan_fault bs n t ≡ 0
  pub stations : n ≤ 32
  pub slots : t ≤ 63
  pub few : records bs ≤ 1024
  pub allowed : first (terms_causes (turning g)) ≡ 0
  pub counted : too_many_anywhere (plan_of bs n t (turning g)) ≡ false
  pub station : v < n
  pub few_walks : k ≤ 8
  pub pairs_room : n ≤ length ps
  pub loads_room : n ≤ length ls
  pub pairs_entry : get_or ps v 0 ≡ pairs (plan_of bs n t (turning g)) v
  pub load_entry : get_or ls v 0 ≡ load (plan_of bs n t (turning g)) v
  pub layers_room : 2 * length bs ≤ length layers
  pub way_room : t ≤ length way
  pub work_room : work_size (2 * n) t ≤ length work
  pub text_room : length (station_text bs n t g v k) ≤ length out

-- an input that the program's own causes do not refuse, its n and T, and buffers of the program's sizes
pub record AccountWithin (bs : List ℕ) (n t k : ℕ) (out ps ls layers way work : List ℕ) : Type 0 where
  pub within : Within bs n t out ps ls work
  pub few_walks : k ≤ 8
  pub out_size : length out ≡ 2598088
  pub layers_size : length layers ≡ 12288
  pub way_size : length way ≡ 63
  pub work_size_law : length work ≡ 16384
