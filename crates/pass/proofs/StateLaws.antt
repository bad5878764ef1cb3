-- The state of the work area: for each station the settled entry, and the entries that wait of q slots, are the best of sequences of
-- numbers of walks by hops. The law of a send, over any sequences. Assumes nothing.
use Rattle.std.proofs.Common.{◌≡◌, ℕ, zero, suc, ◌+◌, ◌*◌, ◌%◌, ◌<◌, ◌≤◌, min, Bool, true, false, ◌≢◌, ◌⊎◌, List, length, get_or, sym, refl, ◌∙◌, inl, inr, ⊎_elim, mul-le-mul_right, mod-lt, suc-mul, arith}
use native.Mathlib.Decide.{dec_le, ℕ_discrete}
use mathlib.Core.Logic.{by_cases}
use Rattle.lists.proofs.ListLaws.{not_both}
use Rattle.counting.proofs.Fewest.{plus, delayed}
use Rattle.pass.specs.Row.{merged_row, part_size, row_at, part_at}
use Rattle.pass.specs.Column.{Lanes}
use Rattle.entries.specs.Entry.{merged_count}
use Rattle.entries.proofs.EntryLaws.{delayed_zero, plus_none}
use Rattle.pass.specs.Sweep.{sent_area, PartFits, Area}
use Rattle.pass.proofs.PlaceLaws.{row_before, row_inside, row_settled, row_waiting, area_kept, part_fits}
use Rattle.pass.proofs.PlaceLaws.{place_apart, parts_apart, part_again, sent_row, sent_pruned, sent_skipped, sent_none}
use Rattle.pass.proofs.BestLaws.{Best, best_ext, best_same, best_merge, best_delayed, row_more}
use Rattle.pass.proofs.NearLaws.{near_add, near_more, HeldBy, held_ext, held_same, held_empty}
use Rattle.pass.proofs.MaskLaws.{Thin}
use Rattle.pass.proofs.TookLaws.{Took, merged_took, absorbed_took, took_outside}

-- the entry at a place, with the row at another, is the best of N and M
abbrev pub BestAt : Lanes → ℕ → ℕ → (ℕ → ℕ) → (ℕ → ℕ → ℕ) → ℕ → ℕ → ℕ → List ℕ → Type 0
BestAt lay block limit N M n at row w = Best lay block limit N M (get_or w at 0) (get_or w (at + n) 0) (λ j. get_or w (row + j) 0)

-- what waits there stands for N and M up to b hops
abbrev pub HeldAt : Bool → Lanes → ℕ → ℕ → (ℕ → ℕ) → (ℕ → ℕ → ℕ) → ℕ → ℕ → ℕ → List ℕ → Type 0
HeldAt known lay block b N M n at row w = HeldBy known lay block b N M (get_or w at 0) (get_or w (at + n) 0) (λ j. get_or w (row + j) 0)

-- the sequences of the stations, settled and waiting by slot, and those of them, by column, that avoid the column's stations
pub record Walks : Type 0 where
  pub settled : ℕ → ℕ → ℕ
  pub settled_avoiding : ℕ → ℕ → ℕ → ℕ
  pub waits : ℕ → ℕ → ℕ → ℕ
  pub waits_avoiding : ℕ → ℕ → ℕ → ℕ → ℕ

-- those that avoid a column's stations are no more
pub record Sound (x : Walks) : Type 0 where
  pub settled : (v j k : ℕ) → x.settled_avoiding v j k ≤ x.settled v k
  pub waits : (e v j k : ℕ) → x.waits_avoiding e v j k ≤ x.waits e v k

-- The work area holds them, with what waits of the q slots past c. The row of a waiting entry with more hops than the settled one is
-- not looked at; where cause 9 is known not to hold, nor are walks with more hops. Settled counts fit their lanes.
pub record AreaState (known : Bool) (lay : Lanes) (n block q c : ℕ) (old : List ℕ) (x : Walks) (w : List ℕ) : Type 0 where
  pub same : length w ≡ length old
  pub beyond : (i : ℕ) → (1 + q) * part_size n block ≤ i → get_or w i 0 ≡ get_or old i 0
  pub settled : (v : ℕ) → v < n
      → BestAt lay block 65535 (x.settled v) (x.settled_avoiding v) n v (row_at n block v) w
  pub waits : (e v : ℕ) → c < e → e ≤ c + q → v < n
      → HeldAt known lay block (get_or w v 0) (x.waits e v) (x.waits_avoiding e v) n (part_at n block q e + v)
      (part_at n block q e + row_at n block v) w
  pub thin : (v : ℕ) → v < n → get_or w v 0 < 65535 → Thin lay (get_or w (v + n) 0)

-- fewer walks are fewer one hop later
pub delayed_less : {N M : ℕ → ℕ} → ((k : ℕ) → M k ≤ N k) → (k : ℕ) → delayed M k ≤ delayed N k
unfolding delayed
delayed_less h zero = omega arith
delayed_less h (suc k) = h k

-- sequences that agree for the stations
pub record Agree (n : ℕ) (x y : Walks) : Type 0 where
  pub settled : (v : ℕ) → v < n → (k : ℕ) → x.settled v k ≡ y.settled v k
  pub settled_avoiding : (v : ℕ) → v < n → (j k : ℕ) → x.settled_avoiding v j k ≡ y.settled_avoiding v j k
  pub waits : (e v : ℕ) → v < n → (k : ℕ) → x.waits e v k ≡ y.waits e v k
  pub waits_avoiding : (e v : ℕ) → v < n → (j k : ℕ) → x.waits_avoiding e v j k ≡ y.waits_avoiding e v j k

-- the state is one of sequences that agree
pub state_ext : {known : Bool} {lay : Lanes} {n block q c : ℕ} {old : List ℕ} {x y : Walks} {w : List ℕ} → Agree n x y → AreaState known lay n block q c old x w
    → AreaState known lay n block q c old y w
state_ext a s =
    record {
      same = s.same;
      beyond = s.beyond;
      settled = λ v h. best_ext (a.settled v h) (a.settled_avoiding v h) (s.settled v h);
      waits = λ e v low high h. held_ext (a.waits e v h) (a.waits_avoiding e v h) (s.waits e v low high h);
      thin = s.thin;
    }

-- the q slots past c are the q slots past c + 1, where nothing waits of the first and of the new one
pub state_on : {known : Bool} {lay : Lanes} {n block q c : ℕ} {old : List ℕ} {x : Walks} {w : List ℕ} → 0 < q → Sound x
    → ((v k : ℕ) → x.waits (c + 1) v k ≡ 0) → ((v k : ℕ) → x.waits (c + 1 + q) v k ≡ 0)
    → AreaState known lay n block q c old x w
    → AreaState known lay n block q (c + 1) old x w
state_on {known} {lay} {n} {block} {q} {c} {old} {x} {w} some sound first last s =
    record {
      same = s.same;
      beyond = s.beyond;
      settled = s.settled;
      waits = λ e v low high h. by_cases (ℕ_discrete e (c + 1 + q))
          (λ new. rw new (rw (part_again n block q (c + 1))
          (held_empty (first v) (last v) (sound.waits (c + 1 + q) v) (s.waits (c + 1) v (omega arith) (omega arith) h))))
          (λ old. s.waits e v (omega arith) (omega arith) h);
      thin = s.thin;
    }

-- two of the q slots past c have different parts
pub slots_apart : (q c e u : ℕ) → c < e → e ≤ c + q → c < u → u ≤ c + q → e ≢ u → e % q ≢ u % q
slots_apart q c e u from to low high other =
    by_cases (dec_le (suc e) u)
    (λ h. place_apart q e u h (omega arith))
    (λ h same. place_apart q u e (omega arith) (omega arith) (sym same))

-- a part ends within the work area
pub part_end : (n block q u : ℕ) → 0 < q → part_at n block q u + part_size n block ≤ (1 + q) * part_size n block
unfolding part_at
part_end n block q u some =
    let low = mod-lt u some in
    let last = mul-le-mul_right {m = suc (1 + u % q)} {n = 1 + q} (part_size n block) (omega arith) in
    omega (arith, last, suc-mul (1 + u % q) (part_size n block))

-- an entry of a row lies outside of any other row
pub row_outside : (n block e f j : ℕ) → e ≢ f → j < block
    → (row_at n block e + j < row_at n block f) ⊎ (row_at n block f + block ≤ row_at n block e + j)
row_outside n block e f j d q =
    by_cases (dec_le (suc e) f)
    (λ h. inl (let a = row_before block e f h in omega arith))
    (λ h. inr (let a = row_before block f e (omega arith) in omega arith))

module _ (known : Bool) (lay : Lanes) (n block q c : ℕ) (old : List ℕ) (area : Area n block q old) where
  -- ---- one waiting entry took walks in

  took_state : (x y : Walks) (w w' : List ℕ) (u b : ℕ) → c < u → u ≤ c + q → b < n → AreaState known lay n block q c old x w
      → (h d : ℕ) (r : ℕ → ℕ)
      → Took n block (part_at n block q u + b) (part_at n block q u + row_at n block b) w w' h d r
      → HeldBy known lay block (get_or w b 0) (y.waits u b) (y.waits_avoiding u b) h d r
      → ((v k : ℕ) → x.settled v k ≡ y.settled v k)
      → ((v j k : ℕ) → x.settled_avoiding v j k ≡ y.settled_avoiding v j k)
      → ((e v k : ℕ) → (e ≢ u) ⊎ (v ≢ b) → x.waits e v k ≡ y.waits e v k)
      → ((e v j k : ℕ) → (e ≢ u) ⊎ (v ≢ b) → x.waits_avoiding e v j k ≡ y.waits_avoiding e v j k)
      → AreaState known lay n block q c old y w'
  took_state x y w w' u b low high hb s h d r took best es esa ep epa =
      record {
        same = took.same ∙ s.same;
        beyond = λ i far. outside i (inr (let f = part.fits in let g = area_end in omega arith)) ∙ s.beyond i far;
        settled = λ v hv. best_ext (es v) (esa v)
            (best_same (settled_hops v hv)
            (outside (v + n) (inl (let f = part.behind in omega arith)))
            (λ j i g. outside (row_at n block v + j)
            (inl (let f = part.behind in let g = row_inside n block v hv in omega arith)))
            (s.settled v hv));
        waits = λ e v from to hv. by_cases (ℕ_discrete e u)
            (λ same. rw same (here v hv))
            (λ other. there e v from to hv other);
        thin = λ v hv g. rw (outside (v + n) (inl (let f = part.behind in omega arith))) (s.thin v hv (rw (settled_hops v hv) at g));
      }
    where
      part : PartFits n block (part_at n block q u) w
      part = part_fits (area_kept area s.same) u

      outside : (i : ℕ) → (i < part_at n block q u) ⊎ (part_at n block q u + part_size n block ≤ i) → get_or w' i 0 ≡ get_or w i 0
      outside = took_outside n block (part_at n block q u) b w w' h d r hb took

      area_end : part_at n block q u + part_size n block ≤ (1 + q) * part_size n block
      area_end = part_end n block q u area.parts

      settled_hops : (v : ℕ) → v < n → get_or w' v 0 ≡ get_or w v 0
      settled_hops v hv = outside v (inl (let f = part.behind in omega arith))

      -- in the same part
      here : (v : ℕ) → v < n
          → HeldAt known lay block (get_or w' v 0) (y.waits u v) (y.waits_avoiding u v) n (part_at n block q u + v)
          (part_at n block q u + row_at n block v) w'
      here v hv =
          by_cases (ℕ_discrete v b)
          (λ e. rw e (rw (settled_hops b hb) (held_same took.hops took.count (λ j i g. took.entries j i) best)))
          (λ o. rw (settled_hops v hv) (held_ext (λ k. ep u v k (inr o)) (λ j k. epa u v j k (inr o))
          (held_same
          (took.other (part_at n block q u + v) (omega arith) (omega arith) (inl (omega arith)))
          (took.other (part_at n block q u + v + n) (omega arith) (omega arith) (inl (omega arith)))
          (λ j i g. took.other (part_at n block q u + row_at n block v + j) (omega arith) (omega arith)
          (⊎_elim (λ (l : row_at n block v + j < row_at n block b). inl (omega arith))
          (λ (l : row_at n block b + block ≤ row_at n block v + j). inr (omega arith)) (row_outside n block v b j o i)))
          (s.waits u v low high hv))))

      -- in another part
      there : (e v : ℕ) → c < e → e ≤ c + q → v < n → e ≢ u
          → HeldAt known lay block (get_or w' v 0) (y.waits e v) (y.waits_avoiding e v) n (part_at n block q e + v)
          (part_at n block q e + row_at n block v) w'
      there e v from to hv other =
          let row = row_inside n block v hv in
          rw (settled_hops v hv) (held_ext (λ k. ep e v k (inl other)) (λ j k. epa e v j k (inl other))
          (held_same
          (apart (part_at n block q e + v) v refl (omega arith))
          (apart (part_at n block q e + v + n) (v + n) (omega arith) (omega arith))
          (λ j i g. apart (part_at n block q e + row_at n block v + j) (row_at n block v + j) (omega arith) (omega arith))
          (s.waits e v from to hv)))
        where
          apart : (i o : ℕ) → i ≡ part_at n block q e + o → o < part_size n block → get_or w' i 0 ≡ get_or w i 0
          apart i o is small =
              outside i
              (⊎_elim (λ (a : part_at n block q e + part_size n block ≤ part_at n block q u). inl (omega arith))
              (λ (a : part_at n block q u + part_size n block ≤ part_at n block q e). inr (omega arith))
              (parts_apart n block q e u (slots_apart q c e u from to low high other)))

  -- ---- a send from station a to station b

  -- what is settled for a, one hop later, waits for b too, of slot u
  pub sent_state : (x y : Walks) (w : List ℕ) (u a b : ℕ) → c < u → u ≤ c + q → a < n → b < n → Sound x
      → AreaState known lay n block q c old x w
      → (get_or w a 0 < 65535 → get_or w a 0 + 1 < 65535)
      → ((v k : ℕ) → x.settled v k ≡ y.settled v k)
      → ((v j k : ℕ) → x.settled_avoiding v j k ≡ y.settled_avoiding v j k)
      → ((k : ℕ) → plus (x.waits u b) (delayed (x.settled a)) k ≡ y.waits u b k)
      → ((j k : ℕ) → plus (x.waits_avoiding u b j) (delayed (x.settled_avoiding a j)) k ≡ y.waits_avoiding u b j k)
      → ((e v k : ℕ) → (e ≢ u) ⊎ (v ≢ b) → x.waits e v k ≡ y.waits e v k)
      → ((e v j k : ℕ) → (e ≢ u) ⊎ (v ≢ b) → x.waits_avoiding e v j k ≡ y.waits_avoiding e v j k)
      → AreaState known lay n block q c old y (sent_area known n block (part_at n block q u) w a b)
  unfolding plus delayed
  sent_state x y w u a b low high ha hb sound s few es esa here herea ep epa =
      by_cases (dec_le 65535 (get_or w a 0)) nothing (λ g. something (omega arith))
    where
      base : ℕ
      base = part_at n block q u

      part : PartFits n block (part_at n block q u) w
      part = part_fits (area_kept area s.same) u

      less : (j k : ℕ) → delayed (x.settled_avoiding a j) k ≤ delayed (x.settled a) k
      less j = delayed_less (sound.settled a j)

      nothing : 65535 ≤ get_or w a 0 → AreaState known lay n block q c old y (sent_area known n block (part_at n block q u) w a b)
      nothing none-there =
          let f = (s.settled a ha).entry.fewest in
          let none : (k : ℕ) → x.settled a k ≡ 0 = f.never (let g = f.bound in omega arith) in
          rw (sent_none known n block (part_at n block q u) w a b none-there) (state_ext (record {
            settled = λ v i. es v;
            settled_avoiding = λ v i. esa v;
            waits = λ e v i k. by_cases (ℕ_discrete e u)
                (λ se. by_cases (ℕ_discrete v b)
                (λ sv. rw (se, sv) (plus_none (x.waits u b) (delayed (x.settled a)) k (delayed_zero none k) ∙ here k))
                (λ d. ep e v k (inr d)))
                (λ d. ep e v k (inl d));
            waits_avoiding = λ e v i j k. by_cases (ℕ_discrete e u)
                (λ se. by_cases (ℕ_discrete v b)
                (λ sv. rw (se, sv)
                (plus_none (x.waits_avoiding u b j) (delayed (x.settled_avoiding a j)) k
                (delayed_zero (λ k. omega (arith, sound.settled a j k, none k)) k)
                ∙ herea j k))
                (λ d. epa e v j k (inr d)))
                (λ d. epa e v j k (inl d));
          }) s)

      something : get_or w a 0 < 65535 → AreaState known lay n block q c old y (sent_area known n block (part_at n block q u) w a b)
      something some =
          let behind = part.behind in
          let fits = part.fits in
          let positive = part.some in
          let row-a = row_inside n block a ha in
          let row_b = row_inside n block b hb in
          by_cases (dec_le (get_or w b 0) (get_or w a 0))
          (λ more. pruned known refl more)
          (λ fewer. rw (sym (sent_row known n block (part_at n block q u) w a b _ _ _ refl refl some (omega arith) refl))
          (took_state x y w _ u b low high hb s _ _ _
          (absorbed_took n block w (part_at n block q u + b) (part_at n block q u + row_at n block b) (row_at n block a)
          (get_or w a 0 + 1) (get_or w (a + n) 0)
          (record {
            some = positive;
            before = omega arith;
            row_fits = row_waiting hb part;
            from_fits = row_settled ha part;
          })
          (inr (omega arith)))
          best es esa ep epa))
        where
          waiting : HeldAt known lay block (get_or w b 0) (x.waits u b) (x.waits_avoiding u b) n (part_at n block q u + b)
              (part_at n block q u + row_at n block b) w
          waiting = s.waits u b low high hb

          best : HeldBy known lay block (get_or w b 0) (y.waits u b) (y.waits_avoiding u b)
              (min (get_or w (part_at n block q u + b) 0) (get_or w a 0 + 1))
              (merged_count (get_or w (part_at n block q u + b) 0) (get_or w (part_at n block q u + b + n) 0) (get_or w a 0 + 1)
              (get_or w (a + n) 0))
              (λ j. merged_row (get_or w (part_at n block q u + b) 0) (get_or w a 0 + 1)
              (get_or w (part_at n block q u + row_at n block b + j) 0) (get_or w (row_at n block a + j) 0))
          best =
              held_ext here herea
              (record {
                held = plus waiting.held (delayed (x.settled a));
                held_avoiding = λ j. plus (waiting.held_avoiding j) (delayed (x.settled_avoiding a j));
                less = λ j k. omega (arith, waiting.less j k, less j k);
                fewer = λ k. omega (arith, waiting.fewer k);
                near = near_add (delayed (x.settled a)) (λ j. delayed (x.settled_avoiding a j)) waiting.near;
                exact = λ e k. omega (arith, waiting.exact e k);
                best = best_merge lay waiting.held (delayed (x.settled a)) waiting.held_avoiding
                    (λ j. delayed (x.settled_avoiding a j)) waiting.less less
                    (get_or w (part_at n block q u + b) 0) (get_or w (part_at n block q u + b + n) 0) (get_or w a 0 + 1) (get_or w (a + n) 0)
                    (min 65535 (get_or w b 0 + 1)) 65535 (min 65535 (get_or w b 0 + 1))
                    waiting.best (best_delayed (s.settled a ha) (few some))
                    (λ g o. omega arith) (λ g o. let f = few some in omega arith);
              })

          -- where b has fewer hops already
          pruned : (t : Bool) → known ≡ t → get_or w b 0 ≤ get_or w a 0
              → AreaState known lay n block q c old y (sent_area known n block (part_at n block q u) w a b)
          pruned false e more =
              let behind = part.behind in
              let fits = part.fits in
              let positive = part.some in
              let row_b = row_inside n block b hb in
              rw (sym (sent_pruned known n block (part_at n block q u) w a b _ some more e refl))
              (took_state x y w _ u b low high hb s _ _ _
              (merged_took n block w (part_at n block q u + b) (part_at n block q u + row_at n block b) (get_or w a 0 + 1)
              (get_or w (a + n) 0) positive (omega arith) (omega arith))
              (held_same refl refl (λ j i g. sym (row_more _ _ _ _ (omega arith))) best) es esa ep epa)
          pruned true e more =
              rw (sent_skipped known n block (part_at n block q u) w a b some more e)
              (record {
                same = s.same;
                beyond = s.beyond;
                settled = λ v hv. best_ext (es v) (esa v) (s.settled v hv);
                waits = λ e v from to hv. by_cases (ℕ_discrete e u)
                    (λ se. by_cases (ℕ_discrete v b)
                    (λ sv. rw (se, sv) skipped)
                    (λ d. held_ext (λ k. ep e v k (inr d)) (λ j k. epa e v j k (inr d)) (s.waits e v from to hv)))
                    (λ d. held_ext (λ k. ep e v k (inl d)) (λ j k. epa e v j k (inl d)) (s.waits e v from to hv));
                thin = s.thin;
              })
            where
              -- one hop more than a has is more than b has
              far : (k : ℕ) → k ≤ get_or w b 0 → delayed (x.settled a) k ≡ 0
              far zero h = refl
              far (suc k) h = (s.settled a ha).entry.fewest.sooner k (omega arith)

              skipped : HeldAt known lay block (get_or w b 0) (y.waits u b) (y.waits_avoiding u b) n (part_at n block q u + b)
                  (part_at n block q u + row_at n block b) w
              skipped =
                  held_ext here herea
                  (record {
                    held = waiting.held;
                    held_avoiding = waiting.held_avoiding;
                    less = waiting.less;
                    fewer = λ k. omega (arith, waiting.fewer k);
                    near = near_more (delayed (x.settled a)) (λ j. delayed (x.settled_avoiding a j)) (omega arith) far less waiting.near;
                    exact = λ o. absurd (not_both e o);
                    best = waiting.best;
                  })
