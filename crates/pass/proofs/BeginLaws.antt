-- The work area at the beginning: the empty walk alone is settled, by slot 0, and nothing waits.
-- Assumes nothing.
use Rattle.std.proofs.Common.{◌≡◌, ℕ, zero, suc, ◌+◌, ◌*◌, ◌%◌, ◌^◌, ◌<◌, ◌≤◌, Bool, true, false, cond, ◌≢◌, ◌⊎◌, List, length, get_or, set, sym, refl, ap, ◌∙◌, inl, inr, ⊎_elim, mul-le-mul_right, mod-lt, suc-mul, arith, get_or-set_other, get_or-set_same, lt-length-set}
use native.Mathlib.Decide.{ℕ_discrete}
use mathlib.Core.Logic.{by_cases}
use lib.Pow.{pow-lt}
use Rattle.temporal.specs.Plan.{Plan}
use Rattle.counting.proofs.Weights.{everywhere}
use Rattle.counting.proofs.Fewest.{fewest_intro}
use Rattle.counting.proofs.Recurrence.{arrivals_zero, heard_zero, start_here}
use Rattle.counting.proofs.Recurrence.{start_other}
use Rattle.entries.specs.Entry.{stored}
use Rattle.entries.proofs.CountLaws.{stored_small}
use Rattle.memory.specs.Fill.{filled}
use Rattle.lanes.specs.Lane.{ones}
use Rattle.lanes.proofs.LaneLaws.{packed_ext, packed_whole, width_some}
use Rattle.memory.proofs.FillLaws.{filled_length, filled_other, filled_at}
use Rattle.pass.specs.Row.{part_size, row_at, part_at}
use Rattle.pass.specs.Column.{Lanes}
use Rattle.pass.specs.Sweep.{emptied, emptied_from, begun_area, Area}
use Rattle.pass.proofs.PlaceLaws.{row_inside, emptied_length, set_twice_length}
use Rattle.pass.proofs.BestLaws.{Best, best_same, best_none}
use Rattle.pass.proofs.MaskLaws.{Filled}
use Rattle.pass.proofs.NearLaws.{held_all, held_same}
use Rattle.pass.proofs.StateLaws.{AreaState}
use Rattle.pass.proofs.PlanWalks.{kept, walks_at}

-- ---- parts that are emptied

module _ (n : ℕ) (w : List ℕ) (at : ℕ) where
  -- every place outside of hops and counts is as it was
  pub emptied_other : (i : ℕ) → (i < at) ⊎ (at + 2 * n ≤ i) → get_or (emptied n w at) i 0 ≡ get_or w i 0
  unfolding emptied
  emptied_other i out =
      filled_other (filled w at n 65535) (at + n) n 0 i
      (⊎_elim (λ (h : i < at). inl (omega arith)) (λ (h : at + 2 * n ≤ i). inr (omega arith)) out)
      ∙ filled_other w at n 65535 i
      (⊎_elim (λ (h : i < at). inl h) (λ (h : at + 2 * n ≤ i). inr (omega arith)) out)

  pub emptied_hops : (v : ℕ) → v < n → at + 2 * n ≤ length w → get_or (emptied n w at) (at + v) 0 ≡ 65535
  unfolding emptied
  emptied_hops v h fits =
      filled_other (filled w at n 65535) (at + n) n 0 (at + v) (inl (omega arith))
      ∙ filled_at w at n 65535 v h (omega arith)

  pub emptied_counts : (v : ℕ) → v < n → at + 2 * n ≤ length w → get_or (emptied n w at) (at + v + n) 0 ≡ 0
  unfolding emptied
  emptied_counts v h fits =
      let same : at + n + v ≡ at + v + n = omega arith in
      let kept = filled_length w at n 65535 in
      sym (ap (λ i. get_or (filled (filled w at n 65535) (at + n) n 0) i 0) same)
      ∙ filled_at (filled w at n 65535) (at + n) n 0 v h (omega arith)

module _ (n size : ℕ) (small : 2 * n ≤ size) where
  from_length : (k : ℕ) (w : List ℕ) (at : ℕ) → length (emptied_from n size w at k) ≡ length w
  unfolding emptied_from
  from_length zero w at = refl
  from_length (suc k) w at = from_length k (emptied n w at) (at + size) ∙ emptied_length n w at

  -- before the first part and behind the last every place is as it was
  from_before : (k : ℕ) (w : List ℕ) (at i : ℕ) → i < at → get_or (emptied_from n size w at k) i 0 ≡ get_or w i 0
  unfolding emptied_from
  from_before zero w at i h = refl
  from_before (suc k) w at i h =
      from_before k (emptied n w at) (at + size) i (omega arith) ∙ emptied_other n w at i (inl h)

  from_beyond : (k : ℕ) (w : List ℕ) (at i : ℕ) → at + k * size ≤ i → get_or (emptied_from n size w at k) i 0 ≡ get_or w i 0
  unfolding emptied_from
  from_beyond zero w at i h = refl
  from_beyond (suc k) w at i h =
      let more = suc-mul k size in
      from_beyond k (emptied n w at) (at + size) i (omega arith) ∙ emptied_other n w at i (inr (omega arith))

  -- each part has no walks
  from_hops : (k : ℕ) (w : List ℕ) (at m v : ℕ) → m < k → v < n → at + k * size ≤ length w
      → get_or (emptied_from n size w at k) (at + m * size + v) 0 ≡ 65535
  unfolding emptied_from
  from_hops zero w at m v h hv fits = absurd (omega arith)
  from_hops (suc k) w at zero v h hv fits =
      let more = suc-mul k size in
      let same : at + 0 * size + v ≡ at + v = omega arith in
      rw same
      (from_before k (emptied n w at) (at + size) (at + v) (omega arith) ∙ emptied_hops n w at v hv (omega arith))
  from_hops (suc k) w at (suc m) v h hv fits =
      let more = suc-mul k size in
      let less = suc-mul m size in
      let same : at + suc m * size + v ≡ at + size + m * size + v = omega arith in
      let kept = emptied_length n w at in
      rw same (from_hops k (emptied n w at) (at + size) m v (omega arith) hv (omega arith))

  from_counts : (k : ℕ) (w : List ℕ) (at m v : ℕ) → m < k → v < n → at + k * size ≤ length w
      → get_or (emptied_from n size w at k) (at + m * size + v + n) 0 ≡ 0
  unfolding emptied_from
  from_counts zero w at m v h hv fits = absurd (omega arith)
  from_counts (suc k) w at zero v h hv fits =
      let more = suc-mul k size in
      let same : at + 0 * size + v + n ≡ at + v + n = omega arith in
      rw same
      (from_before k (emptied n w at) (at + size) (at + v + n) (omega arith) ∙ emptied_counts n w at v hv (omega arith))
  from_counts (suc k) w at (suc m) v h hv fits =
      let more = suc-mul k size in
      let less = suc-mul m size in
      let same : at + suc m * size + v + n ≡ at + size + m * size + v + n = omega arith in
      let kept = emptied_length n w at in
      rw same (from_counts k (emptied n w at) (at + size) m v (omega arith) hv (omega arith))

-- ---- the entries

module _ (n block q : ℕ) (w : List ℕ) (s one : ℕ) (area : Area n block q w) (inside : s < n) where
  positive : 0 < n
  positive = area.some

  size : ℕ
  size = part_size n block

  bare : List ℕ
  bare = emptied_from n (part_size n block) w 0 (1 + q)

  room : 0 + (1 + q) * part_size n block ≤ length w
  room = let f = area.fits in omega arith

  two_parts : 2 * part_size n block ≤ (1 + q) * part_size n block
  two_parts = mul-le-mul_right {m = 2} {n = 1 + q} (part_size n block) (let p = area.parts in omega arith)

  bare_length : length bare ≡ length w
  unfolding bare
  bare_length = from_length n (part_size n block) (omega arith) (1 + q) w 0

  -- an entry outside of the source's row, other than the source's two
  begun_other : (i : ℕ) → (i < row_at n block s) ⊎ (row_at n block s + block ≤ i) → i ≢ s → i ≢ s + n
      → get_or (begun_area n block q w s one) i 0 ≡ get_or bare i 0
  unfolding begun_area bare
  begun_other i out a b =
      filled_other (set (set (emptied_from n (part_size n block) w 0 (1 + q)) s 0) (s + n) 1) (row_at n block s) block one i out
      ∙ get_or-set_other (set (emptied_from n (part_size n block) w 0 (1 + q)) s 0) (s + n) i 1 0 b
      ∙ get_or-set_other (emptied_from n (part_size n block) w 0 (1 + q)) s i 0 0 a

  pub begun_source : get_or (begun_area n block q w s one) s 0 ≡ 0
  unfolding begun_area bare
  begun_source =
      filled_other (set (set bare s 0) (s + n) 1) (row_at n block s) block one s (inl (omega arith))
      ∙ get_or-set_other (set bare s 0) (s + n) s 1 0 (omega (arith, positive))
      ∙ get_or-set_same bare s 0 0 (omega (arith, bare_length, room, two_parts))

  pub begun_count : get_or (begun_area n block q w s one) (s + n) 0 ≡ 1
  unfolding begun_area bare
  begun_count =
      filled_other (set (set bare s 0) (s + n) 1) (row_at n block s) block one (s + n) (inl (omega arith))
      ∙ get_or-set_same (set bare s 0) (s + n) 1 0
      (lt-length-set bare s 0 (omega (arith, bare_length, room, two_parts)))

  begun_row : (j : ℕ) → j < block → get_or (begun_area n block q w s one) (row_at n block s + j) 0 ≡ one
  unfolding begun_area bare
  begun_row j h =
      filled_at (set (set bare s 0) (s + n) 1) (row_at n block s) block one j h
      (omega (arith, set_twice_length bare s (s + n) 0 1, bare_length, row_inside n block s inside, room, two_parts))

  begun_beyond : (i : ℕ) → (1 + q) * part_size n block ≤ i → get_or (begun_area n block q w s one) i 0 ≡ get_or w i 0
  unfolding bare
  begun_beyond i h =
      let r = row_inside n block s inside in
      let t = two_parts in
      let p = positive in
      begun_other i (inr (omega arith)) (omega arith) (omega arith)
      ∙ from_beyond n (part_size n block) (omega arith) (1 + q) w 0 i (omega arith)

  -- no walks wait in a part
  pub waits_hops : (e v : ℕ) → v < n → get_or (begun_area n block q w s one) (part_at n block q e + v) 0 ≡ 65535
  unfolding bare part_at
  waits_hops e v h =
      let r = row_inside n block s inside in
      let part = mul-le-mul_right {m = 1} {n = 1 + e % q} (part_size n block) (omega arith) in
      let p = positive in
      let same : 0 + (1 + e % q) * part_size n block + v ≡ (1 + e % q) * part_size n block + v = omega arith in
      begun_other ((1 + e % q) * part_size n block + v) (inr (omega arith)) (omega arith) (omega arith)
      ∙ sym (ap (λ i. get_or (emptied_from n (part_size n block) w 0 (1 + q)) i 0) same)
      ∙ from_hops n (part_size n block) (omega arith) (1 + q) w 0 (1 + e % q) v
      (let l = mod-lt e area.parts in omega arith) h room

  pub waits_counts : (e v : ℕ) → v < n → get_or (begun_area n block q w s one) (part_at n block q e + v + n) 0 ≡ 0
  unfolding bare part_at
  waits_counts e v h =
      let r = row_inside n block s inside in
      let part = mul-le-mul_right {m = 1} {n = 1 + e % q} (part_size n block) (omega arith) in
      let p = positive in
      let same : 0 + (1 + e % q) * part_size n block + v + n ≡ (1 + e % q) * part_size n block + v + n = omega arith in
      begun_other ((1 + e % q) * part_size n block + v + n) (inr (omega arith)) (omega arith) (omega arith)
      ∙ sym (ap (λ i. get_or (emptied_from n (part_size n block) w 0 (1 + q)) i 0) same)
      ∙ from_counts n (part_size n block) (omega arith) (1 + q) w 0 (1 + e % q) v
      (let l = mod-lt e area.parts in omega arith) h room

  -- nor are any settled for another station
  pub none_hops : (v : ℕ) → v < n → v ≢ s → get_or (begun_area n block q w s one) v 0 ≡ 65535
  unfolding bare
  none_hops v h d =
      let same : 0 + 0 * part_size n block + v ≡ v = omega arith in
      begun_other v (inl (omega arith)) d (omega arith)
      ∙ sym (ap (λ i. get_or (emptied_from n (part_size n block) w 0 (1 + q)) i 0) same)
      ∙ from_hops n (part_size n block) (omega arith) (1 + q) w 0 0 v (omega arith) h room

  pub none_counts : (v : ℕ) → v < n → v ≢ s → get_or (begun_area n block q w s one) (v + n) 0 ≡ 0
  unfolding bare
  none_counts v h d =
      let same : 0 + 0 * part_size n block + v + n ≡ v + n = omega arith in
      begun_other (v + n) (inl (omega arith)) (omega arith) (omega arith)
      ∙ sym (ap (λ i. get_or (emptied_from n (part_size n block) w 0 (1 + q)) i 0) same)
      ∙ from_counts n (part_size n block) (omega arith) (1 + q) w 0 0 v (omega arith) h room

  -- the beginning keeps the length
  pub begun_length : length (begun_area n block q w s one) ≡ length w
  unfolding begun_area bare
  begun_length =
      filled_length (set (set bare s 0) (s + n) 1) (row_at n block s) block one
      ∙ set_twice_length bare s (s + n) 0 1 ∙ bare_length

-- ---- ones in every lane

one_fits : (b : ℕ) → 0 < b → 1 < 2 ^ b
one_fits b h = pow-lt {i = 0} {j = b} h

-- they lose nothing in 64 bits
pub ones_held : (lay : Lanes) → Filled lay → ones lay.width lay.lanes % 2 ^ 64 ≡ ones lay.width lay.lanes
unfolding ones
ones_held lay full =
    packed_whole lay.width lay.lanes full.fill (λ l h. one_fits lay.width (width_some _ _ full.fill))

-- ---- the sequences by slot 0

module _ (p : Plan) (s : ℕ) (g : ℕ → Bool) where
  kept_source : g s ≡ true → kept p s g s 0 0 ≡ 1
  unfolding kept
  kept_source e = rw e (heard_zero p s g s 0 ∙ start_here p s g)

  kept_none : (v k : ℕ) → v ≢ s → kept p s g v 0 k ≡ 0
  unfolding kept
  kept_none v k d = go (g v) (heard_zero p s g v k ∙ start_other p s g v k d)
    where
      go : (b : Bool) {x : ℕ} → x ≡ 0 → cond b x 0 ≡ 0
      go true e = e
      go false e = refl

-- At the beginning the work area holds the walks by slot 0, with no contact folded in; a walk of any column may go on from the
-- source, so every lane of its row holds 1.
pub begun_state : (known : Bool) (lay : Lanes) → Filled lay → (p : Plan) (s : ℕ) (may : ℕ → ℕ → Bool) (n block q : ℕ) (w : List ℕ)
    → ((c : ℕ) → may c s ≡ true) → Area n block q w → s < n
    → AreaState known lay n block q 0 w (walks_at p s may 0 0) (begun_area n block q w s (ones lay.width lay.lanes))
unfolding walks_at everywhere ones
begun_state known lay full p s may n block q w free area inside =
    record {
      same = begun_length n block q w s one area inside;
      beyond = begun_beyond n block q w s one area inside;
      settled = λ v h. by_cases (ℕ_discrete v s)
          (λ e. rw e
          (best_same (begun_source n block q w s one area inside) (begun_count n block q w s one area inside)
          (λ j i g. begun_row n block q w s one area inside j i) source))
          (λ d. best_same (none_hops n block q w s one area inside v h d) (none_counts n block q w s one area inside v h d)
          (λ j i g. refl)
          (best_none (omega arith) (λ k. kept_none p s everywhere v k d)));
      waits = λ e v low high h. held_same (waits_hops n block q w s one area inside e v h) (waits_counts n block q w s one area inside e v h)
          (λ j i g. refl)
          (held_all (λ j k. omega (arith, arrivals_zero p s (may j) v e k))
          (best_none (omega arith) (λ k. arrivals_zero p s everywhere v e k)));
      thin = λ v h g. by_cases (ℕ_discrete v s)
          (λ e. rw e (rw (begun_count n block q w s one area inside) (inr (omega arith, one_fits lay.width (width_some _ _ full.fill)))))
          (λ d. absurd (omega (arith, none_hops n block q w s one area inside v h d)));
    }
  where
    one : ℕ
    one = ones lay.width lay.lanes

    source : Best lay block 65535 (kept p s everywhere s 0) (λ c. kept p s (may c) s 0) 0 1 (λ j. one)
    source =
        let once = kept_source p s everywhere refl in
        record {
          entry = record {
            fewest = fewest_intro (omega arith) (omega arith) (λ k h. absurd (omega arith));
            count = sym (ap stored once ∙ stored_small 1 (omega arith));
          };
          row = λ e h g. sym (ap (λ x. x % 2 ^ 64)
              (packed_ext lay.width lay.lanes (λ l i. kept_source p s (may (e * lay.lanes + l)) (free (e * lay.lanes + l))))
              ∙ ones_held lay full);
        }
