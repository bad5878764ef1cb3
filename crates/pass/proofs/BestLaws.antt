-- An entry of the work area and its row against a sequence N of numbers of walks by hops, and sequences M j of those of
-- them that avoid the stations of column j: the fewest hops with the count there, and the row of avoiding counts, several to an entry.
-- Laws of merging and of one hop more.
-- Assumes nothing.
use Rattle.std.proofs.Common.{◌≡◌, ℕ, ◌+◌, ◌*◌, ◌%◌, ◌^◌, ◌<◌, ◌≤◌, min, sym, ap, ◌∙◌, ⊎_elim, arith, le-ltb, lt-ltb, eq-eqb, ne_eqb}
use Rattle.counting.proofs.Fewest.{Fewest, plus, delayed, fewest_none, fewest_unique, plus_first, plus_second}
use Rattle.entries.specs.Entry.{merged_count}
use Rattle.entries.proofs.EntryLaws.{Entry, entry_none, entry_ext, entry_merge, entry_later, compare, delayed_at}
use Rattle.lanes.specs.Lane.{packed}
use Rattle.lanes.proofs.LaneLaws.{packed_ext, plus_mod}
use Rattle.pass.specs.Row.{merged_row}
use Rattle.pass.specs.Column.{Lanes}

module _ (h l a b : ℕ) where
  row_fewer : l < h → merged_row h l a b ≡ b
  unfolding merged_row
  row_fewer less = rw (lt-ltb l h less)

  row_equal : l ≡ h → merged_row h l a b ≡ (a + b) % 2 ^ 64
  unfolding merged_row
  row_equal same = rw (le-ltb l h (omega arith), eq-eqb l h same)

  -- beside more hops the row entry stays
  pub row_more : h < l → merged_row h l a b ≡ a
  unfolding merged_row
  row_more more = rw (le-ltb l h (omega arith), ne_eqb l h (omega arith))

-- the counts of the columns in entry e of a row, packed
abbrev pub in_entry : Lanes → (ℕ → ℕ → ℕ) → ℕ → ℕ → ℕ
in_entry lay M h e = packed lay.width lay.lanes (λ l. M (e * lay.lanes + l) h)

-- hops, count and row of an entry are those of the sequences; of the row nothing is said from limit hops on
pub record Best (lay : Lanes) (block limit : ℕ) (N : ℕ → ℕ) (M : ℕ → ℕ → ℕ) (h c : ℕ) (r : ℕ → ℕ) : Type 0 where
  pub entry : Entry N h c
  pub row : (e : ℕ) → e < block → h < limit → r e ≡ in_entry lay M h e % 2 ^ 64

-- sequences that agree are packed alike
pub entry_same : (lay : Lanes) (M M' : ℕ → ℕ → ℕ) (h l e : ℕ) → ((j : ℕ) → M j h ≡ M' j l)
    → in_entry lay M h e % 2 ^ 64 ≡ in_entry lay M' l e % 2 ^ 64
entry_same lay M M' h l e same = ap (λ x. x % 2 ^ 64) (packed_ext lay.width lay.lanes (λ i q. same (e * lay.lanes + i)))

module _ {lay : Lanes} {block limit : ℕ} where
  -- sequences that agree
  pub best_ext : {N N' : ℕ → ℕ} {M M' : ℕ → ℕ → ℕ} {h c : ℕ} {r : ℕ → ℕ} → ((k : ℕ) → N k ≡ N' k)
      → ((j k : ℕ) → M j k ≡ M' j k)
      → Best lay block limit N M h c r
      → Best lay block limit N' M' h c r
  best_ext {M = M} {M' = M'} {h = h} e f b =
      record {
        entry = entry_ext e b.entry;
        row = λ e q g. b.row e q g ∙ entry_same lay M M' h h e (λ j. f j h);
      }

  -- entries that agree
  pub best_same : {N : ℕ → ℕ} {M : ℕ → ℕ → ℕ} {h c h' c' : ℕ} {r r' : ℕ → ℕ} → h' ≡ h → c' ≡ c
      → ((j : ℕ) → j < block → h < limit → r' j ≡ r j)
      → Best lay block limit N M h c r
      → Best lay block limit N M h' c' r'
  best_same {N} {M} eh ec er b =
      record {
        entry = rw (eh, ec) b.entry;
        row = λ e q g. er e q (rw eh at g) ∙ b.row e q (rw eh at g) ∙ ap (λ x. in_entry lay M x e % 2 ^ 64) (sym eh);
      }

  -- where there are no walks, nothing is said of the row
  pub best_none : {N : ℕ → ℕ} {M : ℕ → ℕ → ℕ} {r : ℕ → ℕ} → limit ≤ 65535 → ((k : ℕ) → N k ≡ 0)
      → Best lay block limit N M 65535 0 r
  best_none {N} small z = record { entry = entry_none N z; row = λ j q g. absurd (omega arith) }

  -- an entry of no walks is one of any other sequences of no walks
  pub best_empty : {N N' : ℕ → ℕ} {M M' : ℕ → ℕ → ℕ} {h c : ℕ} {r : ℕ → ℕ} → limit ≤ 65535 → ((k : ℕ) → N k ≡ 0)
      → ((k : ℕ) → N' k ≡ 0)
      → Best lay block limit N M h c r
      → Best lay block limit N' M' h c r
  best_empty small z z' b =
      let none = fewest_unique b.entry.fewest (fewest_none z) in
      record { entry = entry_ext (λ k. z k ∙ sym (z' k)) b.entry; row = λ j q g. absurd (omega arith) }

-- of the row less is said
pub best_limit : {lay : Lanes} {block limit limit' : ℕ} {N : ℕ → ℕ} {M : ℕ → ℕ → ℕ} {h c : ℕ} {r : ℕ → ℕ} → limit' ≤ limit
    → Best lay block limit N M h c r
    → Best lay block limit' N M h c r
best_limit less b = record { entry = b.entry; row = λ j q g. b.row j q (omega arith) }

-- walks together: the hops, count and row that merging gives
module _ (lay : Lanes) (N N' : ℕ → ℕ) (M M' : ℕ → ℕ → ℕ) (less : (j k : ℕ) → M j k ≤ N k) (less' : (j k : ℕ) → M' j k ≤ N' k)
    (h c l d : ℕ) where
  merged_row_law : (e x y : ℕ) → Fewest N h → Fewest N' l → (h ≤ l → x ≡ in_entry lay M h e % 2 ^ 64)
      → (l ≤ h → y ≡ in_entry lay M' l e % 2 ^ 64)
      → merged_row h l x y ≡ in_entry lay (λ j. plus (M j) (M' j)) (min h l) e % 2 ^ 64
  unfolding plus
  merged_row_law e x y f g ex ey =
      ⊎_elim (λ (q : l < h).
      let least : min h l ≡ l = omega arith in
      row_fewer h l x y q ∙ ey (omega arith)
      ∙ entry_same lay M' (λ j. plus (M j) (M' j)) l (min h l) e (λ j. rw least (sym (plus_second (M j) (M' j) f (less j) q))))
      (⊎_elim (λ (q : l ≡ h).
      let least : min h l ≡ h = omega arith in
      row_equal h l x y q ∙ rw (ex (omega arith), ey (omega arith))
      (plus_mod lay.width lay.lanes (λ i. M (e * lay.lanes + i) h) (λ i. M' (e * lay.lanes + i) l)
      ∙ added least q))
      (λ (q : h < l).
      let least : min h l ≡ h = omega arith in
      row_more h l x y q ∙ ex (omega arith)
      ∙ entry_same lay M (λ j. plus (M j) (M' j)) h (min h l) e (λ j. rw least (sym (plus_first (M j) (M' j) g (less' j) q)))))
      (compare h l)
    where
      added : min h l ≡ h → l ≡ h
          → packed lay.width lay.lanes (λ i. M (e * lay.lanes + i) h + M' (e * lay.lanes + i) l) % 2 ^ 64
          ≡ in_entry lay (λ j. plus (M j) (M' j)) (min h l) e % 2 ^ 64
      added least q = rw (least, q)

  -- what is merged is the best of the sums, where the rows that are looked at are below their limits
  pub best_merge : {block : ℕ} (limit limit' out : ℕ) {r q : ℕ → ℕ} → Best lay block limit N M h c r
      → Best lay block limit' N' M' l d q
      → (min h l < out → h ≤ l → h < limit)
      → (min h l < out → l ≤ h → l < limit')
      → Best lay block out (plus N N') (λ j. plus (M j) (M' j)) (min h l) (merged_count h c l d)
      (λ j. merged_row h l (r j) (q j))
  best_merge limit limit' out {r} {q} a b left right =
      record {
        entry = entry_merge N N' h c l d a.entry b.entry;
        row = λ e i g. merged_row_law e (r e) (q e) a.entry.fewest b.entry.fewest (λ o. a.row e i (left g o))
            (λ o. b.row e i (right g o));
      }

-- one hop more
pub best_delayed : {lay : Lanes} {block : ℕ} {N : ℕ → ℕ} {M : ℕ → ℕ → ℕ} {h c : ℕ} {r : ℕ → ℕ} → Best lay block 65535 N M h c r
    → h + 1 < 65535
    → Best lay block 65535 (delayed N) (λ j. delayed (M j)) (h + 1) c r
best_delayed {lay = lay} {N = N} {M = M} {h = h} {c = c} b g =
    record {
      entry = entry_later N h c g b.entry;
      row = λ e q i. b.row e q (omega arith) ∙ entry_same lay M (λ j. delayed (M j)) h (h + 1) e (λ j. sym (delayed_at (M j) h));
    }
