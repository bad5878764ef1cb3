-- A column of keys beside the work area of the pass with empty rows: each key has the hops and the count of the entry at its place, as long
-- as the counts are small. Folding a record and settling a station keep this. Assumes nothing.
use Rattle.std.proofs.Common.{◌≡◌, ℕ, zero, suc, ◌+◌, ◌*◌, ◌<◌, ◌≤◌, min, Bool, true, false, cond, ltb, ◌≢◌, ◌⊎◌, List, length, get_or, set, sym, refl, ap, ◌∙◌, subst, inl, inr, ⊎_elim, arith, ltb-true}
use native.Mathlib.Decide.{dec_le, ℕ_discrete}
use mathlib.Core.Logic.{by_cases}
use Rattle.entries.specs.Entry.{merged_count}
use Rattle.entries.proofs.CountLaws.{add_sum, count_fewer, count_equal, count_more}
use Rattle.pass.specs.Row.{combined, part_size}
use Rattle.pass.specs.Entry.{merged_area, absorbed}
use Rattle.pass.specs.Column.{Lanes}
use Rattle.pass.specs.Sweep.{sent_area, masked, taken_in, settled_one}
use Rattle.pass.proofs.EntryLaws.{merge_more, merged_length}
use Rattle.pass.proofs.TookLaws.{merged_hops, merged_count_law, merged_other}
use Rattle.pass.proofs.PlaceLaws.{row_before, sent_row, sent_pruned, sent_none, masked_source, masked_none, set_twice_length}
use Rattle.widths.specs.Key.{key_of, merged_key, sent_key}
use Rattle.widths.proofs.KeyLaws.{merged_fewer, merged_equal, merged_more, sent_key_law}
use Rattle.widths.proofs.CellLaws.{cell, row_fits, combined_cell, combined_apart}

-- no walks, or walks of at most top hops, some and at most limit
abbrev pub Held : ℕ → ℕ → ℕ → ℕ → Type 0
Held limit top h c = ((h ≡ 65535) × (c ≡ 0)) ⊎ ((h ≤ top) × ((0 < c) × (c ≤ limit)))

-- how large a count may be, settled and waiting, once j records are folded in
unfoldable pub limit_of : ℕ → ℕ → ℕ
limit_of j zero = 4294967295
limit_of j (suc p) = j * 4294967296

-- The keys of column c in the rows of part p, at p n + v, are the entries of part p, at p times the part's size + v.
pub record Packs (n q many c j : ℕ) (keys w : List ℕ) : Type 0 where
  pub cells : (p v : ℕ) → p ≤ q → v < n
      → cell many keys (p * n + v) c ≡ key_of (get_or w (p * part_size n 0 + v) 0) (get_or w (p * part_size n 0 + v + n) 0)
  pub held : (p v : ℕ) → p ≤ q → v < n
      → Held (limit_of j p) j (get_or w (p * part_size n 0 + v) 0) (get_or w (p * part_size n 0 + v + n) 0)

-- ---- two entries are merged

pub held_most : (limit top h c : ℕ) → top < 65535 → limit < 70368744177664 → Held limit top h c → (h ≤ 65535) × (c < 70368744177664)
held_most limit top h c few small (inl (e, f)) = (omega arith, omega arith)
held_most limit top h c few small (inr (e, (f, g))) = (omega arith, omega arith)

pub held_more : (limit top limit' top' h c : ℕ) → limit ≤ limit' → top ≤ top' → Held limit top h c → Held limit' top' h c
held_more limit top limit' top' h c a b (inl e) = inl e
held_more limit top limit' top' h c a b (inr (e, (f, g))) = inr (omega arith, (f, omega arith))

-- what is known of two entries that are merged, and of the keys
pub record Merges (h c l d limit top : ℕ) : Type 0 where
  pub key : merged_key (key_of h c) (key_of l d) ≡ key_of (min h l) (merged_count h c l d)
  pub held : Held limit top (min h l) (merged_count h c l d)

module _ (h c l d limit top D limit' top' : ℕ) (x : Held limit top h c) (more : top ≤ top') (few : top' < 65535) (low : l ≤ top') (some : 0 < d)
    (most : d ≤ D) (sum : limit + D ≤ limit') (small : limit' < 70368744177664) where
  small_c : (h ≤ 65535) × (c < 70368744177664)
  small_c = held_most limit top h c (omega arith) (omega arith) x

  pub merges : Merges h c l d limit' top'
  merges =
      by_cases (dec_le (suc l) h)
      (λ less.
      let least : min h l ≡ l = omega arith in
      let count = count_fewer h c l d less in
      record {
        key = merged_fewer h c l d small_c.1 (omega arith) less ∙ sym (rw (least, count));
        held = rw (least, count) (inr (omega arith, (some, omega arith)));
      })
      (λ g. by_cases (ℕ_discrete l h)
      (λ same.
      let least : min h l ≡ h = omega arith in
      ⊎_elim
      (λ (none : (h ≡ 65535) × (c ≡ 0)). absurd (omega (arith, none.0)))
      (λ (there : (h ≤ top) × ((0 < c) × (c ≤ limit))).
      let count = count_equal h c l d same ∙ add_sum c d (λ z. omega (arith, there.1.0)) (λ z. omega arith) (omega (arith, there.1.1)) in
      record {
        key = merged_equal h c l d small_c.1 (omega arith) same (omega arith) (omega (arith, there.1.1)) ∙ sym (rw (least, count));
        held = rw (least, count) (inr (omega arith, (omega arith, omega (arith, there.1.1))));
      })
      x)
      (λ other.
      let beyond : h < l = omega arith in
      let least : min h l ≡ h = omega arith in
      let count = count_more h c l d beyond in
      record {
        key = merged_more h c l d small_c.1 (omega arith) beyond ∙ sym (rw (least, count));
        held = rw (least, count) (held_more limit top limit' top' h c (omega arith) more x);
      }))

-- ---- the entries of the pass with empty rows

module _ (n base : ℕ) (w : List ℕ) (a b : ℕ) where
  -- what has walks goes on
  sent_plain : get_or w a 0 < 65535
      → sent_area false n 0 base w a b ≡ merged_area n w (base + b) (get_or w a 0 + 1) (get_or w (a + n) 0)
  unfolding absorbed combined
  sent_plain some =
      by_cases (dec_le (get_or w b 0) (get_or w a 0))
      (λ more. sym (sent_pruned false n 0 base w a b _ some more refl refl))
      (λ fewer. sym (sent_row false n 0 base w a b _ _ _ refl refl some (omega arith) refl))

module _ (lay : Lanes) (n base s : ℕ) (col : ℕ → ℕ) (w : List ℕ) (v : ℕ) where
  -- no column is masked
  masked_plain : (x : List ℕ) → masked lay n 0 s col x v ≡ x
  masked_plain x =
      by_cases (ℕ_discrete v s)
      (λ e. masked_source lay n 0 s col x v e)
      (λ d. masked_none lay n 0 s col x v d (omega arith))

  pub taken_plain : taken_in lay n 0 base s col w v ≡ merged_area n w v (get_or w (base + v) 0) (get_or w (base + v + n) 0)
  unfolding taken_in absorbed combined
  taken_plain = go (ltb (get_or w v 0) (get_or w (base + v) 0)) refl
    where
      go : (t : Bool) → ltb (get_or w v 0) (get_or w (base + v) 0) ≡ t
          → cond t w (masked lay n 0 s col (merged_area n w v (get_or w (base + v) 0) (get_or w (base + v + n) 0)) v)
          ≡ merged_area n w v (get_or w (base + v) 0) (get_or w (base + v + n) 0)
      go true e = sym (merge_more n w v (get_or w (base + v) 0) (get_or w (base + v + n) 0) (ltb-true _ _ e))
      go false e = masked_plain (merged_area n w v (get_or w (base + v) 0) (get_or w (base + v + n) 0))

  -- the length stays
  pub plain_length : length (settled_one lay n 0 base s col w v) ≡ length w
  unfolding settled_one
  plain_length = go (ltb (get_or w (base + v) 0) 65535)
    where
      go : (b : Bool) → length (cond b (set (set (taken_in lay n 0 base s col w v) (base + v) 65535) (base + v + n) 0) w) ≡ length w
      go true =
          set_twice_length (taken_in lay n 0 base s col w v) (base + v) (base + v + n) 65535 0
          ∙ ap length taken_plain ∙ merged_length n w v (get_or w (base + v) 0) (get_or w (base + v + n) 0)
      go false = refl

-- ---- places

module _ (n : ℕ) where
  -- rows of keys of two parts, and of two stations of one part
  pub rows_apart : (p v e x : ℕ) → v < n → x < n → p ≢ e → p * n + v ≢ e * n + x
  rows_apart p v e x hv hx d same =
      by_cases (dec_le (suc p) e)
      (λ h. let a = row_before n p e h in omega arith)
      (λ h. let a = row_before n e p (omega arith) in omega arith)

  -- a row of a part lies before the row of bounds
  pub row_below : (p q v : ℕ) → p ≤ q → v < n → p * n + v < (1 + q) * n
  row_below p q v h hv = let a = row_before n p (1 + q) (omega arith) in omega arith

  -- places of two parts
  pub places_apart : (p v e x : ℕ) → v < 2 * n → x < 2 * n → p ≢ e → p * part_size n 0 + v ≢ e * part_size n 0 + x
  places_apart p v e x hv hx d same =
      by_cases (dec_le (suc p) e)
      (λ h. let a = row_before (part_size n 0) p e h in omega arith)
      (λ h. let a = row_before (part_size n 0) e p (omega arith) in omega arith)

  -- a place of a part lies within all parts
  pub place_below : (p q v : ℕ) → p ≤ q → v < 2 * n → p * part_size n 0 + v < (1 + q) * part_size n 0
  place_below p q v h hv = let a = row_before (part_size n 0) p (1 + q) (omega arith) in omega arith

-- the limits grow with the records
limit_more : (j p : ℕ) → limit_of j p ≤ limit_of (j + 1) p
unfolding limit_of
limit_more j zero = omega arith
limit_more j (suc p) = omega arith

pub limit_waiting : (j p : ℕ) → 0 < p → limit_of j p ≡ j * 4294967296
unfolding limit_of
limit_waiting j zero h = absurd (omega arith)
limit_waiting j (suc p) h = refl

module _ (n q many c j : ℕ) (keys w : List ℕ) (x : Packs n q many c j keys w) (some : 0 < n) (column : c < many)
    (fits : ((1 + q) * n + 1) * many ≤ length keys) (room : (1 + q) * part_size n 0 ≤ length w) (p : ℕ) (low : 0 < p) (high : p ≤ q) where
  -- what is settled
  pub settled_cell : (v : ℕ) → v < n → cell many keys v c ≡ key_of (get_or w v 0) (get_or w (v + n) 0)
  settled_cell v hv =
      let row : 0 * n + v ≡ v = omega arith in
      let place : 0 * part_size n 0 + v ≡ v = omega arith in
      rw (row, place) at (x.cells 0 v (omega arith) hv)

  pub settled_held : (v : ℕ) → v < n → Held 4294967295 j (get_or w v 0) (get_or w (v + n) 0)
  unfolding limit_of
  settled_held v hv =
      let place : 0 * part_size n 0 + v ≡ v = omega arith in
      rw place at (x.held 0 v (omega arith) hv)

  pub waiting_held : (v : ℕ) → v < n → Held (j * 4294967296) j (get_or w (p * part_size n 0 + v) 0) (get_or w (p * part_size n 0 + v + n) 0)
  waiting_held v hv =
      subst (λ l. Held l j (get_or w (p * part_size n 0 + v) 0) (get_or w (p * part_size n 0 + v + n) 0)) (limit_waiting j p low) (x.held p v high hv)

  -- ---- a record is folded in, from station a to station b

  module _ (a b : ℕ) (ha : a < n) (hb : b < n) (few : j < 8192) where
    -- one key and one entry are changed
    changed : (keys' w' : List ℕ) (h d : ℕ) → cell many keys' (p * n + b) c ≡ key_of h d → get_or w' (p * part_size n 0 + b) 0 ≡ h
        → get_or w' (p * part_size n 0 + b + n) 0 ≡ d → Held ((j + 1) * 4294967296) (j + 1) h d
        → ((r : ℕ) → r ≢ p * n + b → cell many keys' r c ≡ cell many keys r c)
        → ((i : ℕ) → i ≢ p * part_size n 0 + b → i ≢ p * part_size n 0 + b + n → get_or w' i 0 ≡ get_or w i 0)
        → Packs n q many c (j + 1) keys' w'
    changed keys' w' h d key hops count held others places =
        record {
          cells = λ e v he hv. by_cases (ℕ_discrete e p)
              (λ se. by_cases (ℕ_discrete v b)
              (λ sv. rw (se, sv) (key ∙ sym (rw (hops, count))))
              (λ dv. rw se (others (p * n + v) (omega arith)
              ∙ x.cells p v high hv
              ∙ sym (rw (places (p * part_size n 0 + v) (omega arith) (omega arith)) (rw (places (p * part_size n 0 + v + n) (omega arith) (omega arith)))))))
              (λ de. others (e * n + v) (rows_apart n e v p b hv hb de)
              ∙ x.cells e v he hv
              ∙ sym (rw (places (e * part_size n 0 + v) (first e v hv de) (second e v hv de)) (rw (places (e * part_size n 0 + v + n) (third e v hv de) (fourth e v hv de)))));
          held = λ e v he hv. by_cases (ℕ_discrete e p)
              (λ se. by_cases (ℕ_discrete v b)
              (λ sv. rw (se, sv) (rw (hops, count, limit_waiting (j + 1) p low) held))
              (λ dv. rw se (rw (places (p * part_size n 0 + v) (omega arith) (omega arith)) (rw (places (p * part_size n 0 + v + n) (omega arith) (omega arith))
              (held_more (limit_of j p) j (limit_of (j + 1) p) (j + 1) _ _ (limit_more j p) (omega arith) (x.held p v high hv))))))
              (λ de. rw (places (e * part_size n 0 + v) (first e v hv de) (second e v hv de)) (rw (places (e * part_size n 0 + v + n) (third e v hv de) (fourth e v hv de))
              (held_more (limit_of j e) j (limit_of (j + 1) e) (j + 1) _ _ (limit_more j e) (omega arith) (x.held e v he hv))));
        }
      where
        first : (e v : ℕ) → v < n → e ≢ p → e * part_size n 0 + v ≢ p * part_size n 0 + b
        first e v hv de = places_apart n e v p b (omega arith) (omega arith) de

        second : (e v : ℕ) → v < n → e ≢ p → e * part_size n 0 + v ≢ p * part_size n 0 + b + n
        second e v hv de same = places_apart n e v p (b + n) (omega arith) (omega arith) de (omega arith)

        third : (e v : ℕ) → v < n → e ≢ p → e * part_size n 0 + v + n ≢ p * part_size n 0 + b
        third e v hv de same = places_apart n e (v + n) p b (omega arith) (omega arith) de (omega arith)

        fourth : (e v : ℕ) → v < n → e ≢ p → e * part_size n 0 + v + n ≢ p * part_size n 0 + b + n
        fourth e v hv de same = places_apart n e v p b (omega arith) (omega arith) de (omega arith)

    own_row : p * n + b ≢ a
    own_row same = rows_apart n p b 0 a hb ha (λ z. omega arith) (omega arith)

    sent_cell : cell many (combined sent_key keys ((p * n + b) * many) (a * many) many) (p * n + b) c
        ≡ sent_key (cell many keys (p * n + b) c) (cell many keys a c)
    sent_cell =
        combined_cell many sent_key keys (p * n + b) a c column
        (row_fits many (p * n + b) ((1 + q) * n + 1) keys (let l = row_below n p q b high hb in omega arith) fits) own_row

    sent_others : (r : ℕ) → r ≢ p * n + b → cell many (combined sent_key keys ((p * n + b) * many) (a * many) many) r c ≡ cell many keys r c
    sent_others r d = combined_apart many sent_key keys (p * n + b) a r c column d

    pub packs_sent : Packs n q many c (j + 1) (combined sent_key keys ((p * n + b) * many) (a * many) many)
        (sent_area false n 0 (p * part_size n 0) w a b)
    packs_sent =
        by_cases (dec_le 65535 (get_or w a 0)) nothing (λ g. something (omega arith))
      where
        here : Held (j * 4294967296) j (get_or w (p * part_size n 0 + b) 0) (get_or w (p * part_size n 0 + b + n) 0)
        here = waiting_held b hb

        small : (get_or w (p * part_size n 0 + b) 0 ≤ 65535) × (get_or w (p * part_size n 0 + b + n) 0 < 70368744177664)
        small = held_most (j * 4294967296) j _ _ (omega arith) (omega arith) here

        nothing : 65535 ≤ get_or w a 0 → Packs n q many c (j + 1) (combined sent_key keys ((p * n + b) * many) (a * many) many)
            (sent_area false n 0 (p * part_size n 0) w a b)
        nothing none =
            let settled = settled_held a ha in
            let empty : (get_or w a 0 ≡ 65535) × (get_or w (a + n) 0 ≡ 0) =
            ⊎_elim (λ (e : (get_or w a 0 ≡ 65535) × (get_or w (a + n) 0 ≡ 0)). e)
            (λ (e : (get_or w a 0 ≤ j) × ((0 < get_or w (a + n) 0) × (get_or w (a + n) 0 ≤ 4294967295))). absurd (omega (arith, e.0))) settled in
            rw (sent_none false n 0 (p * part_size n 0) w a b none)
            (changed _ w (get_or w (p * part_size n 0 + b) 0) (get_or w (p * part_size n 0 + b + n) 0)
            (sent_cell
            ∙ rw (x.cells p b high hb, settled_cell a ha, empty.0, empty.1)
            (sent_key_law _ 65535 0 (omega arith) (omega arith) ∙ merged_more _ _ 65536 0 small.1 (omega arith) (omega (arith, small.0))))
            refl refl (held_more _ j _ (j + 1) _ _ (omega arith) (omega arith) here) sent_others (λ i d e. refl))

        something : get_or w a 0 < 65535 → Packs n q many c (j + 1) (combined sent_key keys ((p * n + b) * many) (a * many) many)
            (sent_area false n 0 (p * part_size n 0) w a b)
        something reached =
            ⊎_elim (λ (e : (get_or w a 0 ≡ 65535) × (get_or w (a + n) 0 ≡ 0)). absurd (omega (arith, e.0)))
            (λ (e : (get_or w a 0 ≤ j) × ((0 < get_or w (a + n) 0) × (get_or w (a + n) 0 ≤ 4294967295))).
            let merge = merges (get_or w (p * part_size n 0 + b) 0) (get_or w (p * part_size n 0 + b + n) 0) (get_or w a 0 + 1) (get_or w (a + n) 0)
            (j * 4294967296) j 4294967295 ((j + 1) * 4294967296) (j + 1) here (omega arith) (omega arith) (omega (arith, e.0)) e.1.0 e.1.1
            (omega arith) (omega arith) in
            let inside = place_below n p q (b + n) high (omega arith) in
            rw (sent_plain n (p * part_size n 0) w a b reached)
            (changed _ _ _ _
            (sent_cell ∙ rw (x.cells p b high hb, settled_cell a ha)
            (sent_key_law _ _ _ (omega arith) (omega (arith, e.1.1)) ∙ merge.key))
            (merged_hops n w (p * part_size n 0 + b) (get_or w a 0 + 1) (get_or w (a + n) 0) some (omega arith))
            (merged_count_law n w (p * part_size n 0 + b) (get_or w a 0 + 1) (get_or w (a + n) 0) some (omega arith))
            merge.held sent_others
            (λ i d e. merged_other n w (p * part_size n 0 + b) (get_or w a 0 + 1) (get_or w (a + n) 0) some (omega arith) i d e)))
            (settled_held a ha)
