-- A station is settled in a column of keys as in the pass with empty rows, as long as the column's bound is small; so are several. Assumes
-- nothing.
use Rattle.std.proofs.Common.{◌≡◌, ℕ, zero, suc, ◌+◌, ◌*◌, ◌<◌, ◌≤◌, min, Bool, true, false, not, ◌&&◌, ltb, ◌≢◌, ◌⊎◌, List, length, get_or, set, sym, refl, ap, ◌∙◌, inl, inr, ⊎_elim, arith, get_or-set_other, get_or-set_same, lt-length-set, le-ltb, lt-ltb, ne_eqb}
use native.Mathlib.Decide.{dec_le, ℕ_discrete}
use mathlib.Core.Logic.{by_cases}
use Rattle.entries.specs.Entry.{merged_count}
use Rattle.pass.specs.Row.{part_size}
use Rattle.pass.specs.Entry.{merged_area}
use Rattle.pass.specs.Column.{lanes_by}
use Rattle.pass.specs.Sweep.{settled_one, halts_at, widens_at, too_wide, settled_by}
use Rattle.pass.proofs.EntryLaws.{merged_length}
use Rattle.pass.proofs.TookLaws.{merged_hops, merged_count_law, merged_other}
use Rattle.widths.specs.Key.{key_of, merged_key, widened, settled_keys, settled_keys_by, KeysFit}
use Rattle.widths.proofs.KeyLaws.{merged_equal, merged_more, widened_count}
use Rattle.widths.proofs.CellLaws.{cell, settled_own, settled_empty, settled_bound, settled_other, settled_length}
use Rattle.widths.proofs.CellLaws.{keys_kept, by_grows}
use Rattle.widths.proofs.PackLaws.{Held, limit_of, Packs, held_most, Merges, merges, taken_plain, rows_apart, row_below}
use Rattle.widths.proofs.PackLaws.{places_apart, place_below, plain_length, settled_cell, settled_held, waiting_held}

-- no walks are those of no key
pub none_key : key_of 65535 0 ≡ 4611615649683210240
unfolding key_of
none_key = refl

-- neither the settled part nor part p, or another station than v
abbrev Elsewhere : ℕ → ℕ → ℕ → ℕ → Type 0
Elsewhere p v e y = ((e ≢ 0) × (e ≢ p)) ⊎ (y ≢ v)

module _ (n q many c j : ℕ) (s : ℕ) (col : ℕ → ℕ) (some : 0 < n) (column : c < many) (few : j ≤ 8192) (p : ℕ) (low : 0 < p) (high : p ≤ q)
    (v : ℕ) (hv : v < n) where
  module _ (keys w : List ℕ) (x : Packs n q many c j keys w) (fit : KeysFit n many (p * n) ((1 + q) * n) keys)
      (room : (1 + q) * part_size n 0 ≤ length w)
      (bound : cell many (settled_keys many (p * n) ((1 + q) * n) keys v) ((1 + q) * n) c < 1125899906842624) where
    abbrev place : ℕ
    place = p * part_size n 0 + v

    own : cell many keys v c ≡ key_of (get_or w v 0) (get_or w (v + n) 0)
    own = settled_cell n q many c j keys w x some column fit.fits room p low high v hv

    waits : cell many keys (p * n + v) c ≡ key_of (get_or w place 0) (get_or w (place + n) 0)
    waits = x.cells p v high hv

    settled : Held 4294967295 j (get_or w v 0) (get_or w (v + n) 0)
    settled = settled_held n q many c j keys w x some column fit.fits room p low high v hv

    waiting : Held (j * 4294967296) j (get_or w place 0) (get_or w (place + n) 0)
    waiting = waiting_held n q many c j keys w x some column fit.fits room p low high v hv

    small : (get_or w v 0 ≤ 65535) × (get_or w (v + n) 0 < 70368744177664)
    small = held_most 4294967295 j _ _ (omega arith) (omega arith) settled

    -- the key of v, and nothing that waits
    changed : (w' : List ℕ) (h d : ℕ) → merged_key (cell many keys v c) (cell many keys (p * n + v) c) ≡ key_of h d → get_or w' v 0 ≡ h
        → get_or w' (v + n) 0 ≡ d → Held 4294967295 j h d → get_or w' place 0 ≡ 65535 → get_or w' (place + n) 0 ≡ 0
        → ((i : ℕ) → i ≢ v → i ≢ v + n → i ≢ place → i ≢ place + n → get_or w' i 0 ≡ get_or w i 0)
        → Packs n q many c j (settled_keys many (p * n) ((1 + q) * n) keys v) w'
    unfolding limit_of
    changed w' h d key hops count held empty none others =
        record {
          cells = λ e y he hy. by_cases (ℕ_discrete y v)
              (λ same. rw same (by_cases (ℕ_discrete e 0)
              (λ zero-part.
              let row : 0 * n + v ≡ v = omega arith in
              let at : 0 * part_size n 0 + v ≡ v = omega arith in
              rw zero-part (rw (row, at) (settled_own n many (p * n) ((1 + q) * n) keys fit v hv c column ∙ key ∙ sym (rw (hops, count)))))
              (λ later. by_cases (ℕ_discrete e p)
              (λ here. rw here (settled_empty n many (p * n) ((1 + q) * n) keys fit v hv c column ∙ sym none_key ∙ sym (rw (empty, none))))
              (λ other. kept e v he hv (inl (later, other)) ∙ x.cells e v he hv ∙ sym (rw (at_hops e v hv (inl (later, other))) (rw (at_count e v hv (inl (later, other)))))))))
              (λ d. kept e y he hy (inr d) ∙ x.cells e y he hy ∙ sym (rw (at_hops e y hy (inr d)) (rw (at_count e y hy (inr d)))));
          held = λ e y he hy. by_cases (ℕ_discrete y v)
              (λ same. rw same (by_cases (ℕ_discrete e 0)
              (λ zero-part.
              let at : 0 * part_size n 0 + v ≡ v = omega arith in
              rw zero-part (rw at (rw (hops, count) held)))
              (λ later. by_cases (ℕ_discrete e p)
              (λ here. rw here (rw (empty, none) (inl (refl, refl))))
              (λ other. rw (at_hops e v hv (inl (later, other))) (rw (at_count e v hv (inl (later, other))) (x.held e v he hv))))))
              (λ d. rw (at_hops e y hy (inr d)) (rw (at_count e y hy (inr d)) (x.held e y he hy)));
        }
      where
        apart : (e y f z : ℕ) → y < n → z < n → (e ≢ f) ⊎ (y ≢ z) → e * n + y ≢ f * n + z
        apart e y f z hy hz d same =
            by_cases (ℕ_discrete e f)
            (λ r. ⊎_elim (λ (o : e ≢ f). o r) (λ (o : y ≢ z). o (let k = rw r at same in omega arith)) d)
            (λ o. rows_apart n e y f z hy hz o same)

        away : (e y f a b : ℕ) → a < 2 * n → b < 2 * n → (e ≢ f) ⊎ (a ≢ b) → e * part_size n 0 + a ≢ f * part_size n 0 + b
        away e y f a b ha hb d same =
            by_cases (ℕ_discrete e f)
            (λ r. ⊎_elim (λ (o : e ≢ f). o r) (λ (o : a ≢ b). o (let k = rw r at same in omega arith)) d)
            (λ o. places_apart n e a f b ha hb o same)

        zero_apart : (e y : ℕ) → Elsewhere p v e y → (e ≢ 0) ⊎ (y ≢ v)
        zero_apart e y d = ⊎_elim (λ (o : (e ≢ 0) × (e ≢ p)). inl o.0) inr d

        part_apart : (e y : ℕ) → Elsewhere p v e y → (e ≢ p) ⊎ (y ≢ v)
        part_apart e y d = ⊎_elim (λ (o : (e ≢ 0) × (e ≢ p)). inl o.1) inr d

        kept : (e y : ℕ) → e ≤ q → y < n → Elsewhere p v e y
            → cell many (settled_keys many (p * n) ((1 + q) * n) keys v) (e * n + y) c ≡ cell many keys (e * n + y) c
        kept e y he hy d =
            settled_other n many (p * n) ((1 + q) * n) keys fit v hv (e * n + y) c column
            (λ same. apart e y 0 v hy hv (zero_apart e y d) (omega arith))
            (λ same. apart e y p v hy hv (part_apart e y d) same)
            (λ same. let l = row_below n e q y he hy in omega arith)

        shifted : (e f y : ℕ) → (e ≢ f) ⊎ (y ≢ v) → (e ≢ f) ⊎ (y + n ≢ v + n)
        shifted e f y d = ⊎_elim inl (λ (o : y ≢ v). inr (λ same. o (omega arith))) d

        crossed : (y : ℕ) → y < n → y ≢ v + n
        crossed y hy same = omega arith

        at_hops : (e y : ℕ) → y < n → Elsewhere p v e y → get_or w' (e * part_size n 0 + y) 0 ≡ get_or w (e * part_size n 0 + y) 0
        at_hops e y hy d =
            others (e * part_size n 0 + y)
            (λ same. away e y 0 y v (omega arith) (omega arith) (zero_apart e y d) (omega arith))
            (λ same. away e y 0 y (v + n) (omega arith) (omega arith) (inr (crossed y hy)) (omega arith))
            (λ same. away e y p y v (omega arith) (omega arith) (part_apart e y d) same)
            (λ same. away e y p y (v + n) (omega arith) (omega arith) (inr (crossed y hy)) (omega arith))

        at_count : (e y : ℕ) → y < n → Elsewhere p v e y → get_or w' (e * part_size n 0 + y + n) 0 ≡ get_or w (e * part_size n 0 + y + n) 0
        at_count e y hy d =
            others (e * part_size n 0 + y + n)
            (λ same. away e y 0 (y + n) v (omega arith) (omega arith) (inr (λ z. omega arith)) (omega arith))
            (λ same. away e y 0 (y + n) (v + n) (omega arith) (omega arith) (shifted e 0 y (zero_apart e y d)) (omega arith))
            (λ same. away e y p (y + n) v (omega arith) (omega arith) (inr (λ z. omega arith)) (omega arith))
            (λ same. away e y p (y + n) (v + n) (omega arith) (omega arith) (shifted e p y (part_apart e y d)) (omega arith))

    nothing : 65535 ≤ get_or w place 0 → (get_or w place 0 ≡ 65535) × (get_or w (place + n) 0 ≡ 0)
    nothing none =
        ⊎_elim (λ (e : (get_or w place 0 ≡ 65535) × (get_or w (place + n) 0 ≡ 0)). e)
        (λ (e : (get_or w place 0 ≤ j) × ((0 < get_or w (place + n) 0) × (get_or w (place + n) 0 ≤ j * 4294967296))). absurd (omega (arith, e.0))) waiting

    something : get_or w place 0 < 65535 → (get_or w place 0 ≤ j) × ((0 < get_or w (place + n) 0) × (get_or w (place + n) 0 ≤ j * 4294967296))
    something there =
        ⊎_elim (λ (e : (get_or w place 0 ≡ 65535) × (get_or w (place + n) 0 ≡ 0)). absurd (omega (arith, e.0)))
        (λ (e : (get_or w place 0 ≤ j) × ((0 < get_or w (place + n) 0) × (get_or w (place + n) 0 ≤ j * 4294967296))). e) waiting

    -- settling does not stop
    pub goes_on : halts_at false (lanes_by 0) n (p * part_size n 0) w v ≡ false
    unfolding halts_at widens_at too_wide
    goes_on =
        by_cases (dec_le 65535 (get_or w place 0))
        (λ none. rw (le-ltb (get_or w place 0) 65535 none))
        (λ there. let e = something (omega arith) in
        rw (lt-ltb (get_or w place 0) 65535 (omega arith), ne_eqb (get_or w (place + n) 0) 0 (λ z. omega (arith, e.1.0)))
        (go (not (ltb (get_or w v 0) (get_or w place 0)))))
      where
        go : (b : Bool) → (b && false) ≡ false
        go true = refl
        go false = refl

    -- the key of v where nothing waits for it
    kept_key : 65535 ≤ get_or w place 0
        → merged_key (cell many keys v c) (cell many keys (p * n + v) c) ≡ key_of (get_or w v 0) (get_or w (v + n) 0)
    kept_key none =
        let empty = nothing none in
        rw (own, waits, empty.0, empty.1)
        (by_cases (dec_le 65535 (get_or w v 0))
        (λ far.
        let same : 65535 ≡ get_or w v 0 = omega (arith, small.0) in
        let sum : get_or w (v + n) 0 + 0 ≡ get_or w (v + n) 0 = omega arith in
        merged_equal (get_or w v 0) (get_or w (v + n) 0) 65535 0 small.1 (omega arith) same small.0 (omega (arith, small.1))
        ∙ ap (key_of (get_or w v 0)) sum)
        (λ near. merged_more (get_or w v 0) (get_or w (v + n) 0) 65535 0 small.1 (omega arith) (omega arith)))

    module _ (there : get_or w place 0 < 65535) where
      merge : Merges (get_or w v 0) (get_or w (v + n) 0) (get_or w place 0) (get_or w (place + n) 0) (4294967295 + j * 4294967296) j
      merge =
          let e = something there in
          merges (get_or w v 0) (get_or w (v + n) 0) (get_or w place 0) (get_or w (place + n) 0) 4294967295 j (j * 4294967296)
          (4294967295 + j * 4294967296) j settled (omega arith) (omega arith) e.0 e.1.0 e.1.1 (omega arith) (omega arith)

      merged : merged_key (cell many keys v c) (cell many keys (p * n + v) c)
          ≡ key_of (min (get_or w v 0) (get_or w place 0)) (merged_count (get_or w v 0) (get_or w (v + n) 0) (get_or w place 0) (get_or w (place + n) 0))
      merged = rw (own, waits) merge.key

      -- the bound is not below its count
      narrow : Held 4294967295 j (min (get_or w v 0) (get_or w place 0))
          (merged_count (get_or w v 0) (get_or w (v + n) 0) (get_or w place 0) (get_or w (place + n) 0))
      narrow =
          let count = merged_count (get_or w v 0) (get_or w (v + n) 0) (get_or w place 0) (get_or w (place + n) 0) in
          let most = held_most (4294967295 + j * 4294967296) j _ _ (omega arith) (omega arith) merge.held in
          let wide = settled_bound n many (p * n) ((1 + q) * n) keys fit v hv c column
          ∙ ap (widened (cell many keys ((1 + q) * n) c)) merged in
          let under = widened_count (cell many keys ((1 + q) * n) c) (min (get_or w v 0) (get_or w place 0)) count most.1 most.0 in
          ⊎_elim inl
          (λ (e : (min (get_or w v 0) (get_or w place 0) ≤ j) × ((0 < count) × (count ≤ 4294967295 + j * 4294967296))).
          inr (e.0, (e.1.0, omega (arith, wide, under, bound))))
          merge.held

    -- the key of v is its entry, and nothing waits
    pub packs_settled : Packs n q many c j (settled_keys many (p * n) ((1 + q) * n) keys v)
        (settled_one (lanes_by 0) n 0 (p * part_size n 0) s col w v)
    unfolding settled_one
    packs_settled =
        by_cases (dec_le 65535 (get_or w place 0))
        (λ none.
        let empty = nothing none in
        rw (le-ltb (get_or w place 0) 65535 none)
        (changed w (get_or w v 0) (get_or w (v + n) 0) (kept_key none) refl refl settled empty.0 empty.1 (λ i a b d e. refl)))
        (λ more.
        let there : get_or w place 0 < 65535 = omega arith in
        let l = get_or w place 0 in
        let d = get_or w (place + n) 0 in
        let x = merged_area n w v l d in
        let below = place_below n p q (v + n) high (omega arith) in
        let front : v + n < place = ahead in
        let kept = merged_length n w v l d in
        rw (lt-ltb (get_or w place 0) 65535 there, taken_plain (lanes_by 0) n (p * part_size n 0) s col w v)
        (changed (set (set x place 65535) (place + n) 0) (min (get_or w v 0) l) (merged_count (get_or w v 0) (get_or w (v + n) 0) l d) (merged there)
        (two x v (omega arith) (omega arith) ∙ merged_hops n w v l d some (omega arith))
        (two x (v + n) (omega arith) (omega arith) ∙ merged_count_law n w v l d some (omega arith))
        (narrow there)
        (get_or-set_other (set x place 65535) (place + n) place 0 0 (omega arith) ∙ get_or-set_same x place 65535 0 (omega arith))
        (get_or-set_same (set x place 65535) (place + n) 0 0 (lt-length-set x place 65535 (omega arith)))
        (λ i a b e f. two x i e f ∙ merged_other n w v l d some (omega arith) i a b)))
      where
        ahead : v + n < place
        ahead = places p low
          where
            places : (p : ℕ) → 0 < p → v + n < p * part_size n 0 + v
            places zero h = absurd (omega arith)
            places (suc p) h = omega arith

        two : (x : List ℕ) (i : ℕ) → i ≢ place → i ≢ place + n → get_or (set (set x place 65535) (place + n) 0) i 0 ≡ get_or x i 0
        two x i a b =
            get_or-set_other (set x place 65535) (place + n) i 0 0 b ∙ get_or-set_other x place i 65535 0 a

-- ---- several stations

pub record Follows (n q many c j : ℕ) (s : ℕ) (col : ℕ → ℕ) (p : ℕ) (f : ℕ → ℕ) (i k : ℕ) (keys w : List ℕ) : Type 0 where
  pub packs : Packs n q many c j (settled_keys_by f many (p * n) ((1 + q) * n) keys i k)
      (settled_by f false (lanes_by 0) n 0 (p * part_size n 0) s col w i k).work
  pub goes : (settled_by f false (lanes_by 0) n 0 (p * part_size n 0) s col w i k).over ≡ false

module _ (n q many c j : ℕ) (s : ℕ) (col : ℕ → ℕ) (some : 0 < n) (column : c < many) (few : j ≤ 8192) (p : ℕ) (low : 0 < p) (high : p ≤ q)
    (f : ℕ → ℕ) where
  pub follows : (k i : ℕ) (keys w : List ℕ) → ((m : ℕ) → i ≤ m → m < i + k → f m < n)
      → Packs n q many c j keys w → KeysFit n many (p * n) ((1 + q) * n) keys → (1 + q) * part_size n 0 ≤ length w
      → cell many (settled_keys_by f many (p * n) ((1 + q) * n) keys i k) ((1 + q) * n) c < 1125899906842624
      → Follows n q many c j s col p f i k keys w
  unfolding settled_keys_by settled_by
  follows zero i keys w all x fit room bound = record { packs = x; goes = refl }
  follows (suc k) i keys w all x fit room bound =
      let here = all i (omega arith) (omega arith) in
      let next = settled_keys many (p * n) ((1 + q) * n) keys (f i) in
      let same = settled_length n many (p * n) ((1 + q) * n) keys fit (f i) here in
      let grows = by_grows f n many (p * n) ((1 + q) * n) k (i + 1) next (keys_kept fit same) (λ m low high. all m (omega arith) (omega arith)) c column in
      let under : cell many next ((1 + q) * n) c < 1125899906842624 = omega arith in
      let step = packs_settled n q many c j s col some column few p low high (f i) here keys w x fit room under in
      let on = goes_on n q many c j s col some column few p low high (f i) here keys w x fit room under in
      let rest = follows k (i + 1) next (settled_one (lanes_by 0) n 0 (p * part_size n 0) s col w (f i)) (λ m low high. all m (omega arith) (omega arith)) step
      (keys_kept fit same) (one_length w (f i) room) bound in
      record { packs = rw on rest.packs; goes = rw on rest.goes }
    where
      one_length : (w : List ℕ) (v : ℕ) → (1 + q) * part_size n 0 ≤ length w
          → (1 + q) * part_size n 0 ≤ length (settled_one (lanes_by 0) n 0 (p * part_size n 0) s col w v)
      one_length w v room = omega (arith, plain_length (lanes_by 0) n (p * part_size n 0) s col w v)
