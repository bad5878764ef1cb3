-- The rows of keys at the beginning: the empty walk of each source in its column, and nothing else. Assumes nothing.
use Rattle.std.proofs.Common.{◌≡◌, ℕ, zero, suc, ◌+◌, ◌-◌, ◌*◌, ◌<◌, ◌≤◌, ◌≢◌, ◌⊎◌, List, length, get_or, set, sym, refl, ap, ◌∙◌, subst, inl, inr, ⊎_elim, mod-eq_of_lt, arith, length-set, get_or-set_other, get_or-set_same}
use native.Mathlib.Decide.{ℕ_discrete}
use mathlib.Core.Logic.{by_cases}
use Rattle.memory.specs.Fill.{filled}
use Rattle.memory.proofs.FillLaws.{filled_length, filled_other, filled_at}
use Rattle.pass.specs.Row.{part_size, part_at}
use Rattle.pass.specs.Sweep.{begun_area, Area}
use Rattle.pass.proofs.PlaceLaws.{row_before}
use Rattle.pass.proofs.BeginLaws.{begun_source, begun_count, waits_hops, waits_counts, none_hops, none_counts}
use Rattle.widths.specs.Key.{key_of, started_keys, begun_keys}
use Rattle.widths.proofs.CellLaws.{cell, outside, row_fits}
use Rattle.widths.proofs.PackLaws.{Held, limit_of, Packs, row_below}
use Rattle.widths.proofs.SettleKeys.{none_key}

module _ (many : ℕ) where
  pub started_length : (k s c : ℕ) (w : List ℕ) → length (started_keys many w s c k) ≡ length w
  unfolding started_keys
  started_length zero s c w = refl
  started_length (suc k) s c w = started_length k (s + 1) (c + 1) (set w (s * many + c) 1) ∙ length-set w (s * many + c) 1

  -- cells of other rows and columns are as they were
  started_other : (k s c : ℕ) (w : List ℕ) (r x : ℕ) → c + k ≤ many → x < many → ((i : ℕ) → i < k → (r ≢ s + i) ⊎ (x ≢ c + i))
      → cell many (started_keys many w s c k) r x ≡ cell many w r x
  unfolding started_keys
  started_other zero s c w r x fits hx d = refl
  started_other (suc k) s c w r x fits hx d =
      started_other k (s + 1) (c + 1) (set w (s * many + c) 1) r x (omega arith) hx
      (λ i h. ⊎_elim (λ (o : r ≢ s + suc i). inl (λ e. o (omega arith))) (λ (o : x ≢ c + suc i). inr (λ e. o (omega arith))) (d (suc i) (omega arith)))
      ∙ get_or-set_other w (s * many + c) (r * many + x) 1 0 (away (d 0 (omega arith)))
    where
      away : (r ≢ s + 0) ⊎ (x ≢ c + 0) → r * many + x ≢ s * many + c
      away o same =
          by_cases (ℕ_discrete r s)
          (λ e. ⊎_elim (λ (a : r ≢ s + 0). a (omega arith)) (λ (a : x ≢ c + 0). a (let k = rw e at same in omega arith)) o)
          (λ e. ⊎_elim (λ (a : r * many + x < s * many). omega arith) (λ (a : s * many + many ≤ r * many + x). omega arith) (outside many r s x e hx))

  -- each source has its own
  started_own : (k s c : ℕ) (w : List ℕ) (i : ℕ) → i < k → c + k ≤ many → (s + k) * many ≤ length w
      → cell many (started_keys many w s c k) (s + i) (c + i) ≡ 1
  unfolding started_keys
  started_own zero s c w i h fits room = absurd (omega arith)
  started_own (suc k) s c w zero h fits room =
      let row : s + 0 ≡ s = omega arith in
      let column : c + 0 ≡ c = omega arith in
      let inside = row_fits many s (s + suc k) w (omega arith) room in
      rw (row, column)
      (started_other k (s + 1) (c + 1) (set w (s * many + c) 1) s c (omega arith) (omega arith) (λ i g. inl (λ e. omega arith))
      ∙ get_or-set_same w (s * many + c) 1 0 (omega arith))
  started_own (suc k) s c w (suc i) h fits room =
      let row : s + suc i ≡ s + 1 + i = omega arith in
      let column : c + suc i ≡ c + 1 + i = omega arith in
      let rows : s + 1 + k ≡ s + suc k = omega arith in
      rw (row, column)
      (started_own k (s + 1) (c + 1) (set w (s * many + c) 1) i (omega arith) (omega arith)
      (rw rows (let same = length-set w (s * many + c) 1 in omega arith)))

-- ---- the loop that writes them

-- the walks of the sources before column c are written
pub record Starting (many first : ℕ) (old : List ℕ) (c : ℕ) (now : List ℕ) : Type 0 where
  pub within : c ≤ many
  pub same : length now ≡ length old
  pub rest : started_keys many now (first + c) c (many - c) ≡ started_keys many old first 0 many

module _ (many first : ℕ) (old : List ℕ) where
  module _ (c : ℕ) (now : List ℕ) where
    pub starting_more : c < many → Starting many first old c now → Starting many first old (c + 1) (set now ((first + c) * many + c) 1)
    unfolding started_keys
    starting_more h x =
        let a : first + (c + 1) ≡ first + c + 1 = omega arith in
        let b : many - c ≡ suc (many - (c + 1)) = omega arith in
        record {
          within = omega arith;
          same = length-set now ((first + c) * many + c) 1 ∙ x.same;
          rest = rw a (sym (ap (started_keys many now (first + c) c) b) ∙ x.rest);
        }

    pub starting_all : many ≤ c → Starting many first old c now → now ≡ started_keys many old first 0 many
    unfolding started_keys
    starting_all h x =
        let b : many - c ≡ 0 = omega arith in
        sym (ap (started_keys many now (first + c) c) b) ∙ x.rest

-- ---- the columns

-- one walk of no hops
one_key : key_of 0 1 ≡ 1
unfolding key_of
one_key = refl

-- part p + 1 is that of slot p
part_place : (n q p : ℕ) → suc p ≤ q → part_at n 0 q p ≡ suc p * part_size n 0
unfolding part_at
part_place n q p h = ap (λ m. (1 + m) * part_size n 0) (mod-eq_of_lt h) ∙ ap (λ m. m * part_size n 0) (omega arith)

module _ (n q many first : ℕ) (w : List ℕ) (some : 0 < n) (sources : first + many ≤ n) (fits : ((1 + q) * n + 1) * many ≤ length w) where
  abbrev bare : List ℕ
  bare = filled (filled w 0 ((1 + q) * n * many) 4611615649683210240) ((1 + q) * n * many) many 0

  rows_all : (1 + q) * n * many + many ≤ length w
  rows_all = row_fits many ((1 + q) * n) ((1 + q) * n + 1) w (omega arith) fits

  within : n ≤ (1 + q) * n
  within = let a = row_below n 0 q 0 (omega arith) some in let b = row_before n 0 (1 + q) (omega arith) in omega arith

  bare_length : length bare ≡ length w
  bare_length =
      filled_length (filled w 0 ((1 + q) * n * many) 4611615649683210240) ((1 + q) * n * many) many 0
      ∙ filled_length w 0 ((1 + q) * n * many) 4611615649683210240

  bare_cell : (r c : ℕ) → r < (1 + q) * n → c < many → cell many bare r c ≡ 4611615649683210240
  bare_cell r c h hc =
      let a = row_before many r ((1 + q) * n) h in
      let all = rows_all in
      filled_other (filled w 0 ((1 + q) * n * many) 4611615649683210240) ((1 + q) * n * many) many 0 (r * many + c) (inl (omega arith))
      ∙ subst (λ i. get_or (filled w 0 ((1 + q) * n * many) 4611615649683210240) i 0 ≡ 4611615649683210240) zero_first
      (filled_at w 0 ((1 + q) * n * many) 4611615649683210240 (r * many + c) (omega arith) (omega arith))
    where
      zero_first : 0 + (r * many + c) ≡ r * many + c
      zero_first = omega arith

  pub begun_keys_length : length (begun_keys many ((1 + q) * n) w first) ≡ length w
  unfolding begun_keys
  begun_keys_length = started_length many many first 0 bare ∙ bare_length

  -- past all rows
  pub begun_keys_beyond : (i : ℕ) → ((1 + q) * n + 1) * many ≤ i → get_or (begun_keys many ((1 + q) * n) w first) i 0 ≡ get_or w i 0
  unfolding begun_keys started_keys
  begun_keys_beyond i h =
      let last = row_before many ((1 + q) * n) ((1 + q) * n + 1) (omega arith) in
      started_beyond many first 0 bare (omega arith, omega arith)
      ∙ filled_other (filled w 0 ((1 + q) * n * many) 4611615649683210240) ((1 + q) * n * many) many 0 i (inr (omega arith))
      ∙ filled_other w 0 ((1 + q) * n * many) 4611615649683210240 i (inr (omega arith))
    where
      started_beyond : (k s c : ℕ) (x : List ℕ) → (s + k ≤ n) × (c + k ≤ many) → get_or (started_keys many x s c k) i 0 ≡ get_or x i 0
      started_beyond zero s c x both = refl
      started_beyond (suc k) s c x (rows, columns) =
          let a = row_before many s ((1 + q) * n + 1) (let l = within in omega arith) in
          started_beyond k (s + 1) (c + 1) (set x (s * many + c) 1) (omega arith, omega arith)
          ∙ get_or-set_other x (s * many + c) i 1 0 (omega arith)

  module _ (c : ℕ) (hc : c < many) where
    own_cell : cell many (begun_keys many ((1 + q) * n) w first) (first + c) c ≡ 1
    unfolding begun_keys
    own_cell =
        let same = bare_length in
        let a = row_before many (first + many) ((1 + q) * n + 1) (let l = within in omega arith) in
        subst (λ x. cell many (started_keys many bare first 0 many) (first + c) x ≡ 1) zero_first
        (started_own many many first 0 bare c hc (omega arith) (omega arith))
      where
        zero_first : 0 + c ≡ c
        zero_first = omega arith

    other_cell : (r : ℕ) → r < (1 + q) * n → r ≢ first + c → cell many (begun_keys many ((1 + q) * n) w first) r c ≡ 4611615649683210240
    unfolding begun_keys
    other_cell r h d =
        started_other many many first 0 bare r c (omega arith) hc (λ i g. by_cases (ℕ_discrete c (0 + i))
        (λ e. inl (λ f. d (omega arith))) inr)
        ∙ bare_cell r c h hc

    -- the beginning of the pass with empty rows, from any list that is long enough
    pub begun_packs : (one : ℕ) (old : List ℕ) → Area n 0 q old
        → Packs n q many c 0 (begun_keys many ((1 + q) * n) w first) (begun_area n 0 q old (first + c) one)
    unfolding limit_of
    begun_packs one old area =
        record { cells = λ p v hp hv. cells p v hp hv; held = λ p v hp hv. holds p v hp hv }
      where
        s : ℕ
        s = first + c

        inside : first + c < n
        inside = omega arith

        begins : List ℕ
        begins = begun_area n 0 q old (first + c) one

        place : (p : ℕ) → suc p ≤ q → part_at n 0 q p ≡ suc p * part_size n 0
        place p h = part_place n q p h

        waiting : (p v : ℕ) → suc p ≤ q → v < n
            → (get_or (begun_area n 0 q old (first + c) one) (suc p * part_size n 0 + v) 0 ≡ 65535)
            × (get_or (begun_area n 0 q old (first + c) one) (suc p * part_size n 0 + v + n) 0 ≡ 0)
        waiting p v hp hv = (
          subst (λ i. get_or (begun_area n 0 q old (first + c) one) (i + v) 0 ≡ 65535) (place p hp) (waits_hops n 0 q old (first + c) one area inside p v hv),
          subst (λ i. get_or (begun_area n 0 q old (first + c) one) (i + v + n) 0 ≡ 0) (place p hp) (waits_counts n 0 q old (first + c) one area inside p v hv),
        )

        settled : (v : ℕ) → v < n → v ≢ first + c
            → (get_or (begun_area n 0 q old (first + c) one) v 0 ≡ 65535) × (get_or (begun_area n 0 q old (first + c) one) (v + n) 0 ≡ 0)
        settled v hv d = (none_hops n 0 q old (first + c) one area inside v hv d, none_counts n 0 q old (first + c) one area inside v hv d)

        own : (get_or (begun_area n 0 q old (first + c) one) (first + c) 0 ≡ 0) × (get_or (begun_area n 0 q old (first + c) one) (first + c + n) 0 ≡ 1)
        own = (begun_source n 0 q old (first + c) one area inside, begun_count n 0 q old (first + c) one area inside)

        cells : (p v : ℕ) → p ≤ q → v < n
            → cell many (begun_keys many ((1 + q) * n) w first) (p * n + v) c
            ≡ key_of (get_or (begun_area n 0 q old (first + c) one) (p * part_size n 0 + v) 0) (get_or (begun_area n 0 q old (first + c) one) (p * part_size n 0 + v + n) 0)
        cells zero v hp hv =
            let row : 0 * n + v ≡ v = omega arith in
            let at : 0 * part_size n 0 + v ≡ v = omega arith in
            rw (row, at)
            (by_cases (ℕ_discrete v (first + c))
            (λ e. rw e (own_cell ∙ sym one_key ∙ sym (rw (own.0, own.1))))
            (λ d. let l = within in other_cell v (omega arith) d ∙ sym none_key ∙ sym (rw ((settled v hv d).0, (settled v hv d).1))))
        cells (suc p) v hp hv =
            other_cell (suc p * n + v) (row_below n (suc p) q v hp hv) (λ e. omega arith)
            ∙ sym none_key ∙ sym (rw ((waiting p v hp hv).0, (waiting p v hp hv).1))

        holds : (p v : ℕ) → p ≤ q → v < n
            → Held (limit_of 0 p) 0 (get_or (begun_area n 0 q old (first + c) one) (p * part_size n 0 + v) 0)
            (get_or (begun_area n 0 q old (first + c) one) (p * part_size n 0 + v + n) 0)
        holds zero v hp hv =
            let at : 0 * part_size n 0 + v ≡ v = omega arith in
            rw at
            (by_cases (ℕ_discrete v (first + c))
            (λ e. rw e (rw (own.0, own.1) (inr (omega arith, (omega arith, omega arith)))))
            (λ d. inl (settled v hv d)))
        holds (suc p) v hp hv = inl (waiting p v hp hv)
