-- Records of 18 bytes: what they hold determines them, and they determine what they hold.
-- Assumes nothing.
use Rattle.std.proofs.Common.{◌≡◌, ℕ, ◌+◌, ◌^◌, ◌<◌, not, T, List, ◌++◌, length, get_or, take, drop, sym, refl, ap, ◌∙◌, subst, ap₂, arith}
use lib.Pow.{are_bytes}
use lib.Seq.{sets, length-sets}
use lib.Ieee.{binary64, is_nan, to_bits}
use Rattle.temporal.specs.Drawing.{share_bits, carried, low_bits, high_bits, bytes_of, record_of, drawn_record}
use Rattle.temporal.specs.Drawing.{CouldWrite, ReadBack, foreign, station, Reads}
use Rattle.drawing.specs.declared.Drawn.{Drawn}
use Rattle.drawing.specs.Bytes.{number_at}
use Rattle.drawing.specs.Doubles.{DrawnAs, drawn_bytes}
use Rattle.drawing.proofs.ShareLaws.{share_fits, share_injective}
use Rattle.drawing.proofs.DoubleLaws.{bits_number}
use Rattle.drawing.proofs.FigureLaws.{low_of_law, high_of_law, low_below, high_below}
use Rattle.drawing.proofs.ByteLaws.{bytes_injective, are_bytes_law, are_bytes_append, entries_all, bytes_read, sets_append}

pub length_drawn : (v load pairs : ℕ) → length (drawn_record v load pairs) ≡ 18
unfolding drawn_record record_of bytes_of
length_drawn v load pairs = refl

record_bytes_law : (v low high : ℕ) → T (are_bytes (record_of v low high))
unfolding record_of
record_bytes_law v low high =
    are_bytes_append (bytes_of 2 v ++ bytes_of 8 low) (bytes_of 8 high)
    (are_bytes_append (bytes_of 2 v) (bytes_of 8 low) (are_bytes_law 2 v) (are_bytes_law 8 low)) (are_bytes_law 8 high)

pub drawn_are_bytes : (v load pairs : ℕ) → T (are_bytes (drawn_record v load pairs))
unfolding drawn_record
drawn_are_bytes v load pairs = record_bytes_law v (low_bits (carried load pairs)) (high_bits (carried load pairs))

-- 18 bytes are the record of what is read in them
pub record_read : (bytes : List ℕ) → ((i : ℕ) → get_or bytes i 0 < 256) → length bytes ≡ 18
    → record_of (number_at bytes 0 2) (number_at bytes 2 8) (number_at bytes 10 8) ≡ bytes
unfolding record_of
record_read bytes small e =
    ap₂ ◌++◌ (ap₂ ◌++◌ (bytes_read bytes small 0 2) (bytes_read bytes small 2 8)) (bytes_read bytes small 10 8) ∙
    sym (entries_all bytes 0 18 e)

-- what a record holds
module _ (v w low low' high high' : ℕ) (e : record_of v low high ≡ record_of w low' high') where
  pub same_station : v < 65536 → w < 65536 → v ≡ w
  unfolding record_of bytes_of
  same_station h l = bytes_injective 2 v w h l (ap (λ b. take 2 b) e)

  pub same_low : low < 2 ^ 64 → low' < 2 ^ 64 → low ≡ low'
  unfolding record_of bytes_of
  same_low h l = bytes_injective 8 low low' h l (ap (λ b. take 8 (drop 2 b)) e)

  pub same_high : high < 2 ^ 64 → high' < 2 ^ 64 → high ≡ high'
  unfolding record_of bytes_of
  same_high h l = bytes_injective 8 high high' h l (ap (λ b. drop 10 b) e)

-- ---- what could have written a record

-- station s and the bits of two doubles are those of station v with this load and this number of pairs
pub record Holds (v load pairs s low high : ℕ) : Type 0 where
  pub station_is : v ≡ s
  pub low_is : share_bits load ≡ low
  pub high_is : share_bits (load + pairs) ≡ high

pub could_hold : (v load pairs s low high : ℕ) → s < 65536 → low < 2 ^ 64 → high < 2 ^ 64
    → CouldWrite v load pairs (record_of s low high) → Holds v load pairs s low high
unfolding drawn_record
could_hold v load pairs s low high hs hl hh w =
    let a = w.station_low in
    let b = w.load_low in
    let c = w.pairs_low in
    let l = low_of_law load pairs w.no_pairs in
    let h = high_of_law load pairs w.no_pairs in
    let e : record_of v (share_bits load) (share_bits (load + pairs)) ≡ record_of s low high =
    ap₂ (λ m n. record_of v m n) (sym l) (sym h) ∙ w.written
    in
    record {
      station_is = same_station v s (share_bits load) low (share_bits (load + pairs)) high e (omega arith) hs;
      low_is = same_low v s (share_bits load) low (share_bits (load + pairs)) high e (share_fits load (omega arith)) hl;
      high_is = same_high v s (share_bits load) low (share_bits (load + pairs)) high e (share_fits (load + pairs) (omega arith)) hh;
    }

-- the record of what holds
pub held_record : (v load pairs low high : ℕ) → (pairs ≡ 0 → load ≡ 0) → share_bits load ≡ low → share_bits (load + pairs) ≡ high
    → drawn_record v load pairs ≡ record_of v low high
unfolding drawn_record
held_record v load pairs low high n p q =
    ap₂ (λ l h. record_of v l h) (low_of_law load pairs n ∙ p) (high_of_law load pairs n ∙ q)

-- ---- one station, load and number of pairs for bytes

pub record SameWriter (v load pairs w load' pairs' : ℕ) : Type 0 where
  pub station_is : v ≡ w
  pub load_is : load ≡ load'
  pub pairs_is : pairs ≡ pairs'

pub writer_unique : (v load pairs w load' pairs' : ℕ) (bytes : List ℕ) → CouldWrite v load pairs bytes → CouldWrite w load' pairs' bytes
    → SameWriter v load pairs w load' pairs'
unfolding drawn_record
writer_unique v load pairs w load' pairs' bytes p q =
    let a = p.load_low in
    let b = p.pairs_low in
    let c = q.load_low in
    let d = q.pairs_low in
    let s = q.station_low in
    let e : bytes ≡ record_of w (share_bits load') (share_bits (load' + pairs')) =
    sym q.written ∙ held_record w load' pairs' (share_bits load') (share_bits (load' + pairs')) q.no_pairs refl refl
    in
    let h : Holds v load pairs w (share_bits load') (share_bits (load' + pairs')) =
    could_hold v load pairs w (share_bits load') (share_bits (load' + pairs')) (omega arith) (share_fits load' (omega arith))
    (share_fits (load' + pairs') (omega arith)) (subst (λ l. CouldWrite v load pairs l) e p)
    in
    let l : load ≡ load' = share_injective load load' (omega arith) (omega arith) h.low_is in
    let t : load + pairs ≡ load' + pairs' = share_injective (load + pairs) (load' + pairs') (omega arith) (omega arith) h.high_is in
    record { station_is = h.station_is; load_is = l; pairs_is = omega arith }

-- bytes have one answer
pub reads_unique : (bytes : List ℕ) (a b : ReadBack) → Reads bytes a → Reads bytes b → a ≡ b
unfolding Reads
reads_unique bytes foreign foreign p q = refl
reads_unique bytes foreign (station v load pairs) p q = absurd (p v load pairs q)
reads_unique bytes (station v load pairs) foreign p q = absurd (q v load pairs p)
reads_unique bytes (station v load pairs) (station w load' pairs') p q =
    let s = writer_unique v load pairs w load' pairs' bytes p q in
    ap (λ n. station n load pairs) s.station_is ∙ ap₂ (λ l n. station w l n) s.load_is s.pairs_is

-- bytes that are not 18 are foreign
pub foreign_length : (bytes : List ℕ) → (length bytes ≡ 18 → ⊥) → Reads bytes foreign
unfolding Reads
foreign_length bytes h v load pairs w = h (ap length (sym w.written) ∙ length_drawn v load pairs)

-- what is written is read back
pub written_reads : (v load pairs : ℕ) → v < 256 → load < 2 ^ 49 → pairs < 2 ^ 49 → (pairs ≡ 0 → load ≡ 0)
    → Reads (drawn_record v load pairs) (station v load pairs)
unfolding Reads
written_reads v load pairs h l k n = record { station_low = h; load_low = l; pairs_low = k; no_pairs = n; written = refl }

-- ---- what is written

-- a station and two doubles are a record
pub length_station : (l none : List ℕ) (at v : ℕ) → none ≡ sets l at (bytes_of 2 v) → length none ≡ length l
length_station l none at v o = ap length o ∙ length-sets l at (bytes_of 2 v)

module _ (l none once : List ℕ) (at v low : ℕ) (o : none ≡ sets l at (bytes_of 2 v)) (p : once ≡ sets none (at + 2) (bytes_of 8 low))
  where
    begun : once ≡ sets l at (bytes_of 2 v ++ bytes_of 8 low)
    unfolding bytes_of
    begun = p ∙ ap (λ m. sets m (at + 2) (bytes_of 8 low)) o ∙ sets_append (bytes_of 2 v) (bytes_of 8 low) l at

    pub length_begun : length once ≡ length l
    length_begun = ap length begun ∙ length-sets l at (bytes_of 2 v ++ bytes_of 8 low)

    module _ (twice : List ℕ) (high : ℕ) (q : twice ≡ sets once (at + 10) (bytes_of 8 high)) where
      pub record_stores : twice ≡ sets l at (record_of v low high)
      unfolding record_of bytes_of
      record_stores =
          q ∙ ap (λ m. sets m (at + 10) (bytes_of 8 high)) begun ∙ sets_append (bytes_of 2 v ++ bytes_of 8 low) (bytes_of 8 high) l at

      pub length_written : length twice ≡ length l
      length_written = ap length record_stores ∙ length-sets l at (record_of v low high)

module _ (v load pairs : ℕ) (d : Drawn) (is : DrawnAs v load pairs d.station d.low d.high) where
  pub drawn_numbers : load < 2 ^ 49 → pairs < 2 ^ 49 → T (not (is_nan d.low)) × T (not (is_nan d.high))
  drawn_numbers h l = (
    bits_number d.low (low_bits (carried load pairs)) is.low_is (low_below load pairs h),
    bits_number d.high (high_bits (carried load pairs)) is.high_is (high_below load pairs h l),
  )

  pub drawn_bytes_law : drawn_bytes d ≡ drawn_record v load pairs
  unfolding drawn_bytes drawn_record
  drawn_bytes_law =
      ap (λ n. record_of n (to_bits binary64 d.low) (to_bits binary64 d.high)) is.station_is ∙
      ap₂ (λ m n. record_of v m n) is.low_is is.high_is
