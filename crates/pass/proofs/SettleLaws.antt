-- Settling, over any sequences: one station, then the hearers of a slot's records, up to a count over 2^64 - 1.
-- Assumes nothing.
use Rattle.std.proofs.Common.{◌≡◌, ℕ, zero, suc, ◌+◌, ◌*◌, ◌^◌, ◌<◌, ◌≤◌, min, Bool, true, false, cond, not, ◌&&◌, ◌||◌, eqb, ltb, leb, ◌≢◌, ◌⊎◌, List, get_or, sym, refl, ap, ◌∙◌, subst, inl, inr, ⊎_elim, pos_of_ne-zero, arith, le-ltb, lt-ltb, eq-eqb, ne_eqb, eqb-true, leb-false}
use native.Mathlib.Decide.{dec_le, ℕ_discrete}
use mathlib.Core.Path.{fun_ext}
use mathlib.Core.Logic.{by_cases}
use borrow.Author.Tests.{eqb-false}
use Rattle.lists.proofs.ListLaws.{not_both}
use Rattle.counting.proofs.Fewest.{plus}
use Rattle.entries.proofs.EntryLaws.{Entry, entry_ext, plus_none, Large, Small, overflow_large, overflow_small}
use Rattle.entries.specs.Entry.{merged_count, overflows}
use Rattle.pass.specs.Row.{part_size, row_at, part_at}
use Rattle.pass.specs.Column.{Lanes}
use Rattle.pass.specs.Entry.{area_overflows}
use Rattle.pass.specs.Sweep.{settled_one, too_large, too_wide, Sweep, sweep_of, stops_at, widens_at, halts_at, settled_by, PartFits, Area}
use Rattle.pass.proofs.PlaceLaws.{row_inside, area_kept, part_fits, parts_apart}
use Rattle.pass.proofs.BestLaws.{best_ext, best_same, best_none, best_empty, best_merge}
use Rattle.pass.proofs.NearLaws.{Near, near_refl, near_plus, near_more, near_none, near_chosen, near_best, HeldBy, held_all, held_ext, held_same, held_less}
use Rattle.pass.proofs.ColumnLaws.{may_leave}
use Rattle.pass.proofs.TookLaws.{Settled, settled_took, Changed, settled_changed, dropped_other, dropped_changed}
use Rattle.pass.proofs.MaskLaws.{Thin, Filled, best_cleared}
use Rattle.pass.proofs.StateLaws.{Walks, Sound, AreaState, state_ext, BestAt, HeldAt, row_outside, slots_apart, part_end}

settled_none : (lay : Lanes) (n block base s : ℕ) (col : ℕ → ℕ) (w : List ℕ) (v : ℕ) → 65535 ≤ get_or w (base + v) 0
    → settled_one lay n block base s col w v ≡ w
unfolding settled_one
settled_none lay n block base s col w v none = rw (le-ltb (get_or w (base + v) 0) 65535 none)

-- What settling makes of a station's sequences: N and W, settled and waiting, become N' and W'; M, P and M' are those of them, by column,
-- that avoid the column's stations. A walk of column j may go on from the station where may j.
pub record SettlesAt (may : ℕ → Bool) (N W N' W' : ℕ → ℕ) (M P M' : ℕ → ℕ → ℕ) : Type 0 where
  pub closed : (j k : ℕ) → may j ≡ false → M j k ≡ 0
  pub settled : (k : ℕ) → plus N W k ≡ N' k
  pub avoids : (j k : ℕ) → cond (may j) (plus (M j) (P j) k) 0 ≡ M' j k
  pub cleared : (k : ℕ) → W' k ≡ 0

-- of station v, in slot u
abbrev SettlesStation : (ℕ → ℕ → Bool) → ℕ → ℕ → Walks → Walks → Type 0
SettlesStation may u v x y =
    SettlesAt (λ j. may j v) (x.settled v) (x.waits u v) (y.settled v) (y.waits u v) (x.settled_avoiding v)
    (x.waits_avoiding u v) (y.settled_avoiding v)

-- what settling station b, of slot u, makes of the sequences x is y
record SettlesOne (may : ℕ → ℕ → Bool) (u b : ℕ) (x y : Walks) : Type 0 where
  sound : Sound x
  sound_after : Sound y
  here : SettlesStation may u b x y
  others_settled : (v k : ℕ) → v ≢ b → x.settled v k ≡ y.settled v k
  others_avoid : (v j k : ℕ) → v ≢ b → x.settled_avoiding v j k ≡ y.settled_avoiding v j k
  others_wait : (e v k : ℕ) → (e ≢ u) ⊎ (v ≢ b) → x.waits e v k ≡ y.waits e v k
  others_wait_avoid : (e v j k : ℕ) → (e ≢ u) ⊎ (v ≢ b) → x.waits_avoiding e v j k ≡ y.waits_avoiding e v j k

-- a choice that is made already
chosen : (o : Bool) (a b : ℕ) → a ≡ b → (o ≡ false → a ≡ 0) → a ≡ cond o b 0
chosen true a b e z = e
chosen false a b e z = z refl

module _ {may : ℕ → Bool} {N W N' W' : ℕ → ℕ} {M P M' : ℕ → ℕ → ℕ} (z : SettlesAt may N W N' W' M P M') where
  -- where nothing waits, nothing changes
  quiet : ((k : ℕ) → W k ≡ 0) → (k : ℕ) → N k ≡ N' k
  quiet none k = plus_none N W k (none k) ∙ z.settled k

  quiet_avoiding : ((j k : ℕ) → P j k ≤ W k) → ((k : ℕ) → W k ≡ 0) → (j k : ℕ) → M j k ≡ M' j k
  quiet_avoiding less none j k =
      chosen (may j) _ _ (plus_none (M j) (P j) k (omega (arith, less j k, none k))) (z.closed j k) ∙ z.avoids j k

  -- a station that is settled can be settled again
  again : {P' : ℕ → ℕ → ℕ} → ((j k : ℕ) → P' j k ≤ W' k) → SettlesAt may N' W' N' W' M' P' M'
  again {P'} less =
      record {
        closed = shut;
        settled = λ k. sym (plus_none N' W' k (z.cleared k));
        avoids = λ j k. sym (chosen (may j) _ _ (plus_none (M' j) (P' j) k (omega (arith, less j k, z.cleared k))) (shut j k));
        cleared = z.cleared;
      }
    where
      shut : (j k : ℕ) → may j ≡ false → M' j k ≡ 0
      shut j k e = sym (z.avoids j k) ∙ rw e

-- fewer of each are fewer together
plus_less : (N W M P : ℕ → ℕ) (k : ℕ) → M k ≤ N k → P k ≤ W k → plus M P k ≤ plus N W k
unfolding plus
plus_less N W M P k a b = omega arith

-- the count that settling b would leave
abbrev pub settled_count : ℕ → List ℕ → ℕ → ℕ → ℕ
settled_count n w at b = merged_count (get_or w b 0) (get_or w (b + n) 0) (get_or w at 0) (get_or w (at + n) 0)

-- an or that is true, and one that is false
pub or_inv : (a b : Bool) → (a || b) ≡ true → (a ≡ true) ⊎ (b ≡ true)
or_inv true b e = inl refl
or_inv false b e = inr e

pub or_none : (a b : Bool) → (a || b) ≡ false → (a ≡ false) × (b ≡ false)
or_none true b e = let z : ◌≡◌ {A = ℕ} 0 1 = cc in absurd (omega arith)
or_none false b e = (refl, e)

-- a count that passes the test fits its lane; one that does not is in an entry of several lanes
module _ (lay : Lanes) (h c l d : ℕ) where
  pub tested_thin : too_wide lay h c l d ≡ false → Thin lay (merged_count h c l d)
  unfolding too_wide
  tested_thin = go (eqb lay.lanes 1) refl
    where
      go : (r : Bool) → eqb lay.lanes 1 ≡ r → cond r false (too_large lay.width (merged_count h c l d)) ≡ false
          → Thin lay (merged_count h c l d)
      go true f o = inl (eqb-true lay.lanes 1 f)
      go false f o =
          let (some, few) = or_none (eqb (merged_count h c l d) 0) (leb (2 ^ lay.width) (merged_count h c l d)) o in
          inr (pos_of_ne-zero (eqb-false (merged_count h c l d) 0 some), leb-false (2 ^ lay.width) (merged_count h c l d) few)

  pub tested_wide : too_wide lay h c l d ≡ true → lay.lanes ≢ 1
  unfolding too_wide
  tested_wide e one = not_both e (rw (eq-eqb lay.lanes 1 one))

-- where settling stops, and where it goes on
module _ (lay : Lanes) (n base : ℕ) (w : List ℕ) (b : ℕ) where
  -- the second reason to stop
  abbrev wide : Bool
  wide =
      ltb (get_or w (base + b) 0) 65535 &&
      too_wide lay (get_or w b 0) (get_or w (b + n) 0) (get_or w (base + b) 0) (get_or w (base + b + n) 0)

  pub goes_small : stops_at lay n base w b ≡ false → area_overflows n w (base + b) ≡ false
  unfolding stops_at
  goes_small e = (or_none (area_overflows n w (base + b)) wide e).0

  -- with one lane there is no other reason
  pub stops_whole : lay.lanes ≡ 1 → stops_at lay n base w b ≡ true → area_overflows n w (base + b) ≡ true
  unfolding stops_at too_wide
  stops_whole one e =
      ⊎_elim (λ o. o) (λ (o : wide ≡ true). absurd (none (ltb (get_or w (base + b) 0) 65535) _ _ (eq-eqb lay.lanes 1 one) o))
      (or_inv (area_overflows n w (base + b)) wide e)
    where
      none : (t r d : Bool) → r ≡ true → (t && cond r false d) ≡ true → ⊥
      none true r d f o = not_both o (rw f)
      none false r d f o = not_both o refl

  pub goes_thin : stops_at lay n base w b ≡ false → get_or w (base + b) 0 < 65535 → Thin lay (settled_count n w (base + b) b)
  unfolding stops_at too_wide
  goes_thin e some = go (eqb lay.lanes 1) refl (or_none (area_overflows n w (base + b)) wide e).1
    where
      count : ℕ
      count = merged_count (get_or w b 0) (get_or w (b + n) 0) (get_or w (base + b) 0) (get_or w (base + b + n) 0)

      go : (r : Bool) → eqb lay.lanes 1 ≡ r → (ltb (get_or w (base + b) 0) 65535 && cond r false (too_large lay.width count)) ≡ false
          → Thin lay count
      go true f o = inl (eqb-true lay.lanes 1 f)
      go false f o =
          let small = rw (lt-ltb (get_or w (base + b) 0) 65535 some) at o in
          let (some, few) = or_none (eqb count 0) (leb (2 ^ lay.width) count) small in
          inr (pos_of_ne-zero (eqb-false count 0 some), leb-false (2 ^ lay.width) count few)

-- the same of the pass that may know cause 9 not to hold
module _ (known : Bool) (lay : Lanes) (n base : ℕ) (w : List ℕ) (b : ℕ) where
  abbrev halts : Bool → Bool → Bool → Bool
  halts some over wide = some && ((not known && over) || wide)

  halts_small : known ≡ false → halts_at known lay n base w b ≡ false → area_overflows n w (base + b) ≡ false
  unfolding halts_at overflows
  halts_small o e = go (ltb (get_or w (base + b) 0) 65535) (eqb (get_or w (base + b + n) 0) 0) _ o e
    where
      go : (t r d : Bool) → known ≡ false → halts t r d ≡ false → (t && r) ≡ false
      go true true d o e = absurd (not_both refl (rw o at e))
      go true false d o e = refl
      go false r d o e = refl

  -- with one lane to an entry it stops where cause 9 is not known, at a count over 2^64 - 1
  halts_whole : lay.lanes ≡ 1 → halts_at known lay n base w b ≡ true → (known ≡ false) × (area_overflows n w (base + b) ≡ true)
  unfolding halts_at overflows widens_at too_wide
  halts_whole one e =
      go known refl (ltb (get_or w (base + b) 0) 65535) (eqb (get_or w (base + b + n) 0) 0) (widens_at lay n base w b)
      (widens (ltb (get_or w b 0) (get_or w (base + b) 0)) (eqb lay.lanes 1)
      (too_large lay.width (merged_count (get_or w b 0) (get_or w (b + n) 0) (get_or w (base + b) 0) (get_or w (base + b + n) 0)))
      (eq-eqb lay.lanes 1 one)) e
    where
      widens : (x m d : Bool) → m ≡ true → (not x && cond m false d) ≡ false
      widens true m d f = refl
      widens false m d f = rw f

      go : (o : Bool) → known ≡ o → (t r d : Bool) → d ≡ false → halts t r d ≡ true → (known ≡ false) × ((t && r) ≡ true)
      go o h false r d f e = absurd (not_both e refl)
      go false h true true d f e = (h, refl)
      go true h true true d f e = absurd (not_both e (rw (h, f)))
      go o h true false d f e = absurd (quiet_false known e)
        where
          quiet_false : (k : Bool) → ((not k && false) || d) ≡ true → ⊥
          quiet_false true q = not_both q (rw f)
          quiet_false false q = not_both q (rw f)

  halts_thin : halts_at known lay n base w b ≡ false → get_or w (base + b) 0 < 65535 → get_or w (base + b) 0 ≤ get_or w b 0
      → Thin lay (settled_count n w (base + b) b)
  unfolding halts_at widens_at
  halts_thin e some less =
      tested_thin lay (get_or w b 0) (get_or w (b + n) 0) (get_or w (base + b) 0) (get_or w (base + b + n) 0)
      (rw (le-ltb (get_or w b 0) (get_or w (base + b) 0) less) at
      (or_none (not known && eqb (get_or w (base + b + n) 0) 0) _ (rw (lt-ltb (get_or w (base + b) 0) 65535 some) at e)).1)

module _ (known : Bool) (lay : Lanes) (full : Filled lay) (n block q c : ℕ) (old : List ℕ) (area : Area n block q old) (s : ℕ) (col : ℕ → ℕ) (u : ℕ)
    (low : c < u) (high : u ≤ c + q) where
  settled_state : (x y : Walks) (w : List ℕ) (b : ℕ) → b < n → SettlesOne (may_leave s col) u b x y
      → (get_or w (part_at n block q u + b) 0 < 65535 → get_or w (part_at n block q u + b) 0 ≤ get_or w b 0
      → Thin lay (settled_count n w (part_at n block q u + b) b))
      → AreaState known lay n block q c old x w
      → AreaState known lay n block q c old y (settled_one lay n block (part_at n block q u) s col w b)
  unfolding plus
  settled_state x y w b hb z narrow state =
      by_cases (dec_le 65535 (get_or w (part_at n block q u + b) 0)) nothing
      (λ g. by_cases (dec_le (get_or w (part_at n block q u + b) 0) (get_or w b 0)) (something (omega arith)) (λ h. further (omega arith) (omega arith)))
    where
      part : PartFits n block (part_at n block q u) w
      part = part_fits (area_kept area state.same) u

      positive : 0 < n
      positive = area.some

      behind : (e : ℕ) → part_size n block ≤ part_at n block q e
      behind e = (part_fits area e).behind

      waiting : HeldAt known lay block (get_or w b 0) (x.waits u b) (x.waits_avoiding u b) n (part_at n block q u + b)
          (part_at n block q u + row_at n block b) w
      waiting = state.waits u b low high hb

      -- what is settled beside what is held stands for what is settled beside what waits
      beside : Near (get_or w b 0) (plus (x.settled b) waiting.held) (λ j. plus (x.settled_avoiding b j) (waiting.held_avoiding j))
          (plus (x.settled b) (x.waits u b)) (λ j. plus (x.settled_avoiding b j) (x.waits_avoiding u b j))
      beside = near_plus (x.settled b) (x.settled_avoiding b) waiting.near

      nothing : 65535 ≤ get_or w (part_at n block q u + b) 0
          → AreaState known lay n block q c old y (settled_one lay n block (part_at n block q u) s col w b)
      nothing none-there =
          rw (settled_none lay n block (part_at n block q u) s col w b none-there) (record {
            same = state.same;
            beyond = state.beyond;
            settled = λ v i. by_cases (ℕ_discrete v b)
                (λ e. rw e own)
                (λ d. best_ext (λ k. z.others_settled v k d) (λ j k. z.others_avoid v j k d) (state.settled v i));
            waits = λ e v from to i. by_cases (ℕ_discrete e u)
                (λ se. by_cases (ℕ_discrete v b)
                (λ sv. rw (se, sv) (held_all (z.sound_after.waits u b) (best_empty (omega arith) none z.here.cleared waiting.best)))
                (λ d. held_ext (λ k. z.others_wait e v k (inr d)) (λ j k. z.others_wait_avoid e v j k (inr d)) (state.waits e v from to i)))
                (λ d. held_ext (λ k. z.others_wait e v k (inl d)) (λ j k. z.others_wait_avoid e v j k (inl d)) (state.waits e v from to i));
            thin = state.thin;
          })
        where
          none : (k : ℕ) → waiting.held k ≡ 0
          none = let f = waiting.best.entry.fewest in f.never (let g = f.bound in omega arith)

          -- the settled entry is that of both together
          own : BestAt lay block 65535 (y.settled b) (y.settled_avoiding b) n b (row_at n block b) w
          own =
              best_ext z.here.settled z.here.avoids
              (near_best (near_chosen (λ j. may_leave s col j b) beside) (omega arith)
              (best_ext (λ k. omega (arith, none k))
              (λ j k. chosen (may_leave s col j b) _ _ (omega (arith, none k, waiting.less j k)) (z.here.closed j k))
              (state.settled b hb)))

      -- the state after a change, with the station's own entry
      changed_state : (new : List ℕ) → Changed n block (part_at n block q u) b w new
          → BestAt lay block 65535 (y.settled b) (y.settled_avoiding b) n b (row_at n block b) new
          → (get_or new b 0 < 65535 → Thin lay (get_or new (b + n) 0))
          → AreaState known lay n block q c old y new
      changed_state new took own own-thin =
          record {
            same = took.same ∙ state.same;
            beyond = λ i g. let f = area_end in let h = part.behind in far i (omega arith) ∙ state.beyond i g;
            settled = λ v i. by_cases (ℕ_discrete v b)
                (λ e. rw e own)
                (λ d. let g = part.behind in best_ext (λ k. z.others_settled v k d) (λ j k. z.others_avoid v j k d)
                (best_same
                (took.other v (omega arith) (omega arith) (omega arith) (omega arith) (inl (omega arith)))
                (took.other (v + n) (omega arith) (omega arith) (omega arith) (omega arith) (inl (omega arith)))
                (λ j l h. let r = row_inside n block v i in
                took.other (row_at n block v + j) (omega arith) (omega arith) (omega arith) (omega arith)
                (row_outside n block v b j d l))
                (state.settled v i)));
            waits = λ e v from to i. by_cases (ℕ_discrete e u)
                (λ same. rw same (here v i))
                (λ other. there e v from to i other);
            thin = λ v i g. by_cases (ℕ_discrete v b)
                (λ e. rw e (own-thin (rw e at g)))
                (λ d. rw (unmoved_count v i d) (state.thin v i (rw (unmoved_hops v i d) at g)));
          }
        where
          area_end : part_at n block q u + part_size n block ≤ (1 + q) * part_size n block
          area_end = part_end n block q u area.parts

          row_b : row_at n block b + block ≤ part_size n block
          row_b = row_inside n block b hb

          -- behind the part of slot u, or between it and what is settled
          far : (i : ℕ) → part_at n block q u + part_size n block ≤ i
              → get_or new i 0 ≡ get_or w i 0
          far i h =
              let g = part.behind in
              let r = row_b in
              took.other i (omega arith) (omega arith) (omega arith) (omega arith) (inr (omega arith))

          near : (i : ℕ) → part_size n block ≤ i → i < part_at n block q u
              → get_or new i 0 ≡ get_or w i 0
          near i h k =
              let r = row_b in
              took.other i (omega arith) (omega arith) (omega arith) (omega arith) (inr (omega arith))

          -- the settled entry of another station stays
          unmoved_hops : (v : ℕ) → v < n → v ≢ b → get_or new v 0 ≡ get_or w v 0
          unmoved_hops v i d =
              let g = part.behind in
              took.other v (omega arith) (omega arith) (omega arith) (omega arith) (inl (omega arith))

          unmoved_count : (v : ℕ) → v < n → v ≢ b
              → get_or new (v + n) 0 ≡ get_or w (v + n) 0
          unmoved_count v i d =
              let g = part.behind in
              took.other (v + n) (omega arith) (omega arith) (omega arith) (omega arith) (inl (omega arith))

          -- settled hops do not rise
          fewer : (v : ℕ) → v < n → get_or new v 0 ≤ get_or w v 0
          fewer v i =
              by_cases (ℕ_discrete v b)
              (λ e. rw e took.fewer)
              (λ d. let g = part.behind in
              omega (arith, took.other v (omega arith) (omega arith) (omega arith) (omega arith) (inl (omega arith))))

          -- in the part of slot u
          here : (v : ℕ) → v < n
              → HeldAt known lay block (get_or new v 0) (y.waits u v)
              (y.waits_avoiding u v) n (part_at n block q u + v) (part_at n block q u + row_at n block v)
              new
          here v i =
              by_cases (ℕ_discrete v b)
              (λ e. rw e (held_same took.no_hops took.no_count (λ j l g. refl)
              (held_all (z.sound_after.waits u b) (best_none (omega arith) z.here.cleared))))
              (λ d.
              let g = part.behind in
              let r = row_b in
              held_less (fewer v i)
              (held_ext (λ k. z.others_wait u v k (inr d)) (λ j k. z.others_wait_avoid u v j k (inr d))
              (held_same
              (took.other (part_at n block q u + v) (omega arith) (omega arith) (omega arith) (omega arith)
              (inr (omega arith)))
              (took.other (part_at n block q u + v + n) (omega arith) (omega arith) (omega arith) (omega arith)
              (inr (omega arith)))
              (λ j l h. took.other (part_at n block q u + row_at n block v + j) (omega arith) (omega arith) (omega arith)
              (omega arith) (inr (omega arith)))
              (state.waits u v low high i))))

          -- in another part
          there : (e v : ℕ) → c < e → e ≤ c + q → v < n → e ≢ u
              → HeldAt known lay block (get_or new v 0) (y.waits e v)
              (y.waits_avoiding e v) n (part_at n block q e + v) (part_at n block q e + row_at n block v)
              new
          there e v from to i other =
              let r = row_inside n block v i in
              held_less (fewer v i)
              (held_ext (λ k. z.others_wait e v k (inl other)) (λ j k. z.others_wait_avoid e v j k (inl other))
              (held_same
              (apart (part_at n block q e + v) v refl (omega arith))
              (apart (part_at n block q e + v + n) (v + n) (omega arith) (omega arith))
              (λ j l h. apart (part_at n block q e + row_at n block v + j) (row_at n block v + j) (omega arith) (omega arith))
              (state.waits e v from to i)))
            where
              apart : (i o : ℕ) → i ≡ part_at n block q e + o → o < part_size n block
                  → get_or new i 0 ≡ get_or w i 0
              apart i o is small =
                  let g = behind e in
                  ⊎_elim (λ (a : part_at n block q e + part_size n block ≤ part_at n block q u). near i (omega arith) (omega arith))
                  (λ (a : part_at n block q u + part_size n block ≤ part_at n block q e). far i (omega arith))
                  (parts_apart n block q e u (slots_apart q c e u from to low high other))

      -- walks with more hops than are settled wait
      further : get_or w (part_at n block q u + b) 0 < 65535 → get_or w b 0 < get_or w (part_at n block q u + b) 0
          → AreaState known lay n block q c old y (settled_one lay n block (part_at n block q u) s col w b)
      further some more =
          let row = row_inside n block b hb in
          changed_state _ (dropped_changed lay n block (part_at n block q u) s col w b part hb some more)
          (best_same
          own_hops own_count
          (λ j i g. kept (row_at n block b + j) (omega (arith, row, part.behind)) (omega (arith, row, part.behind)))
          own)
          (λ g. rw own_count (state.thin b hb (rw own_hops at g)))
        where
          kept : (i : ℕ) → i ≢ part_at n block q u + b → i ≢ part_at n block q u + b + n
              → get_or (settled_one lay n block (part_at n block q u) s col w b) i 0 ≡ get_or w i 0
          kept = dropped_other lay n block (part_at n block q u) s col w b part hb some more

          own_hops : get_or (settled_one lay n block (part_at n block q u) s col w b) b 0 ≡ get_or w b 0
          own_hops = let far = part.behind in kept b (omega arith) (omega arith)

          own_count : get_or (settled_one lay n block (part_at n block q u) s col w b) (b + n) 0 ≡ get_or w (b + n) 0
          own_count = let far = part.behind in kept (b + n) (omega arith) (omega arith)

          none : (k : ℕ) → k ≤ get_or w b 0 → x.waits u b k ≡ 0
          none = near_none waiting.near (λ k h. waiting.best.entry.fewest.sooner k (omega arith))

          own : BestAt lay block 65535 (y.settled b) (y.settled_avoiding b) n b (row_at n block b) w
          own =
              best_ext z.here.settled z.here.avoids
              (near_best (near_chosen (λ j. may_leave s col j b) (near_more (x.waits u b) (x.waits_avoiding u b) (omega arith) none
              (z.sound.waits u b) near_refl)) (omega arith)
              (best_ext (λ k. refl) (λ j k. chosen (may_leave s col j b) _ _ refl (z.here.closed j k)) (state.settled b hb)))

      something : get_or w (part_at n block q u + b) 0 < 65535 → get_or w (part_at n block q u + b) 0 ≤ get_or w b 0
          → AreaState known lay n block q c old y (settled_one lay n block (part_at n block q u) s col w b)
      something some less =
          changed_state _ (settled_changed took)
          (best_same took.hops took.count (λ j l g. took.entries j l)
          (best_ext z.here.settled z.here.avoids
          (best_cleared lay full s col block b
          (λ j k. plus_less (x.settled b) (x.waits u b) (x.settled_avoiding b j) (x.waits_avoiding u b j) k (z.sound.settled b j k)
          (z.sound.waits u b j k))
          (λ g. narrow some less)
          (near_best {b = get_or w b 0} beside (omega arith)
          (best_merge lay (x.settled b) waiting.held (x.settled_avoiding b) waiting.held_avoiding
          (z.sound.settled b) waiting.less
          (get_or w b 0) (get_or w (b + n) 0) (get_or w (part_at n block q u + b) 0) (get_or w (part_at n block q u + b + n) 0)
          65535 (min 65535 (get_or w b 0 + 1)) 65535 (state.settled b hb) waiting.best
          (λ g o. omega arith) (λ g o. omega arith))))))
          (λ g. rw took.count (narrow some less))
        where
          took : Settled lay n block (part_at n block q u) s col b w (settled_one lay n block (part_at n block q u) s col w b)
          took = settled_took lay full.some n block (part_at n block q u) s col w b part hb some less

-- ---- the stations of a test

-- f for the stations of a test, and g for the others
unfoldable among : {A : Type 0} → (ℕ → Bool) → (ℕ → A) → (ℕ → A) → ℕ → A
among h f g v = cond (h v) (f v) (g v)

-- the stations of a test, and b
unfoldable also : (ℕ → Bool) → ℕ → ℕ → Bool
also h b v = eqb v b || h v

also_own : (h : ℕ → Bool) (b : ℕ) → also h b b ≡ true
unfolding also
also_own h b = rw (eq-eqb b b refl)

also_other : (h : ℕ → Bool) (b v : ℕ) → v ≢ b → also h b v ≡ h v
unfolding also
also_other h b v d = rw (ne_eqb v b d)

module _ {A : Type 0} (f g : ℕ → A) where
  -- one station more changes no other
  among_other : (h : ℕ → Bool) (b v : ℕ) → v ≢ b → among h f g v ≡ among (also h b) f g v
  unfolding among
  among_other h b v d = sym (ap (λ t. cond t (f v) (g v)) (also_other h b v d))

  -- either way it is the same
  among_same : (h h' : ℕ → Bool) (v : ℕ) → g v ≡ f v → among h f g v ≡ among h' f g v
  unfolding among
  among_same h h' v e = go (h v) (h' v)
    where
      go : (t t' : Bool) → cond t (f v) (g v) ≡ cond t' (f v) (g v)
      go true true = refl
      go true false = sym e
      go false true = e
      go false false = refl

  -- it is f, where the others are the same
  among_all : (h : ℕ → Bool) (v : ℕ) → (h v ≡ false → g v ≡ f v) → among h f g v ≡ f v
  unfolding among
  among_all h v e = go (h v) e
    where
      go : (t : Bool) → (t ≡ false → g v ≡ f v) → cond t (f v) (g v) ≡ f v
      go true e = refl
      go false e = e refl

-- the stations of a test are settled
pub between : (ℕ → Bool) → Walks → Walks → Walks
between h x y =
    record {
      settled = among h y.settled x.settled;
      settled_avoiding = among h y.settled_avoiding x.settled_avoiding;
      waits = λ e. among h (y.waits e) (x.waits e);
      waits_avoiding = λ e. among h (y.waits_avoiding e) (x.waits_avoiding e);
    }

sound_between : (h : ℕ → Bool) (x y : Walks) → Sound x → Sound y → Sound (between h x y)
unfolding between among
sound_between h x y sx sy =
    record {
      settled = λ v j k. go _ _ _ _ j k (h v) (sy.settled v j k) (sx.settled v j k);
      waits = λ e v j k. go _ _ _ _ j k (h v) (sy.waits e v j k) (sx.waits e v j k);
    }
  where
    go : (N M : ℕ → ℕ) (P Q : ℕ → ℕ → ℕ) (j k : ℕ) (b : Bool) → P j k ≤ N k → Q j k ≤ M k
        → cond b P Q j k ≤ cond b N M k
    go N M P Q j k true p q = p
    go N M P Q j k false p q = q

-- what settling every station, of slot u, makes of the sequences x is y
pub record Settles (may : ℕ → ℕ → Bool) (u : ℕ) (x y : Walks) : Type 0 where
  pub sound : Sound x
  pub sound_after : Sound y
  pub here : (v : ℕ) → SettlesStation may u v x y
  pub others : (e v k : ℕ) → e ≢ u → x.waits e v k ≡ y.waits e v k
  pub others_avoid : (e v j k : ℕ) → e ≢ u → x.waits_avoiding e v j k ≡ y.waits_avoiding e v j k

module _ (may : ℕ → ℕ → Bool) (u : ℕ) (x y : Walks) (z : Settles may u x y) where
  -- one station more is settled, or one once more
  settles_one : (h : ℕ → Bool) (b : ℕ) → SettlesOne may u b (between h x y) (between (also h b) x y)
  unfolding between among
  settles_one h b =
      record {
        sound = sound_between h x y z.sound z.sound_after;
        sound_after = sound_between (also h b) x y z.sound z.sound_after;
        here = at_one;
        others_settled = λ v k d. ap (λ f. f k) (among_other y.settled x.settled h b v d);
        others_avoid = λ v j k d. ap (λ f. f j k) (among_other y.settled_avoiding x.settled_avoiding h b v d);
        others_wait = λ e v k d. ⊎_elim
            (λ other. ap (λ f. f k) (among_same (y.waits e) (x.waits e) h (also h b) v
            (fun_ext (λ k. z.others e v k other))))
            (λ other. ap (λ f. f k) (among_other (y.waits e) (x.waits e) h b v other)) d;
        others_wait_avoid = λ e v j k d. ⊎_elim
            (λ other. ap (λ f. f j k) (among_same (y.waits_avoiding e) (x.waits_avoiding e) h (also h b) v
            (fun_ext (λ j. fun_ext (λ k. z.others_avoid e v j k other)))))
            (λ other. ap (λ f. f j k) (among_other (y.waits_avoiding e) (x.waits_avoiding e) h b v other)) d;
      }
    where
      go : (t : Bool) → SettlesAt (λ j. may j b) (cond t (y.settled b) (x.settled b)) (cond t (y.waits u b) (x.waits u b))
          (y.settled b) (y.waits u b) (cond t (y.settled_avoiding b) (x.settled_avoiding b))
          (cond t (y.waits_avoiding u b) (x.waits_avoiding u b)) (y.settled_avoiding b)
      go true = again (z.here b) (z.sound_after.waits u b)
      go false = z.here b

      at_one : SettlesStation may u b (between h x y) (between (also h b) x y)
      at_one = rw (also_own h b) (go (h b))

  -- the state is that of all settled, where nothing waits for the others
  state_all : {known : Bool} {lay : Lanes} {n block q c : ℕ} {old : List ℕ} (h : ℕ → Bool) (w : List ℕ)
      → ((v : ℕ) → v < n → h v ≡ false → (k : ℕ) → x.waits u v k ≡ 0)
      → AreaState known lay n block q c old (between h x y) w
      → AreaState known lay n block q c old y w
  unfolding between
  state_all h w none state =
      state_ext (record {
        settled = λ v i k. ap (λ f. f k) (among_all y.settled x.settled h v
            (λ e. fun_ext (quiet (z.here v) (none v i e))));
        settled_avoiding = λ v i j k. ap (λ f. f j k) (among_all y.settled_avoiding x.settled_avoiding h v
            (λ e. fun_ext (λ j. fun_ext (quiet_avoiding (z.here v) (z.sound.waits u v) (none v i e) j))));
        waits = λ e v i k. ap (λ f. f k) (among_all (y.waits e) (x.waits e) h v
            (λ f. fun_ext (λ k. by_cases (ℕ_discrete e u)
            (λ same. rw same (none v i f k ∙ sym ((z.here v).cleared k)))
            (z.others e v k))));
        waits_avoiding = λ e v i j k. ap (λ f. f j k) (among_all (y.waits_avoiding e) (x.waits_avoiding e) h v
            (λ f. fun_ext (λ j. fun_ext (λ k. by_cases (ℕ_discrete e u)
            (λ same. rw same
            (omega (arith, z.sound.waits u v j k, none v i f k, z.sound_after.waits u v j k, (z.here v).cleared k)))
            (z.others_avoid e v j k)))));
      }) state

-- ---- stations in turn

-- some sequence that waits of slot u is large
pub record SomeLarge (n u : ℕ) (x : Walks) : Type 0 where
  pub station : ℕ
  pub inside : station < n
  pub large : Large (x.waits u station)

-- What settling stations in turn leaves: the stations of a test are settled. It stops at a large sequence, or where a count
-- does not fit one of several lanes; else all are settled, and where cause 9 was not known every sequence is small.
pub record Swept (known : Bool) (lay : Lanes) (n block q c : ℕ) (old : List ℕ) (u : ℕ) (x y : Walks) (out : Sweep) : Type 0 where
  pub test : ℕ → Bool
  pub state : AreaState known lay n block q c old (between test x y) out.work
  pub over : out.over ≡ true → lay.lanes ≡ 1 → SomeLarge n u x
  pub all : out.over ≡ false → AreaState known lay n block q c old y out.work
  pub small : known ≡ false → out.over ≡ false → (v : ℕ) → v < n → Small (x.waits u v)

-- a sequence of none is small, and not large
none_small : {N : ℕ → ℕ} → ((k : ℕ) → N k ≡ 0) → Small N
none_small z = record { small = λ h f. omega (arith, z h) }

-- where cause 9 is not known, what waits is the entry of the sequence itself
exactly : {known : Bool} {lay : Lanes} {block b : ℕ} {N : ℕ → ℕ} {M : ℕ → ℕ → ℕ} {h c : ℕ} {r : ℕ → ℕ} → known ≡ false
    → HeldBy known lay block b N M h c r → Entry N h c
exactly o x = entry_ext (x.exact o) x.best.entry

none_large : {N : ℕ → ℕ} → ((k : ℕ) → N k ≡ 0) → Large N → ⊥
none_large z l = omega (arith, z l.hops, l.large)

module _ (f : ℕ → ℕ) (known : Bool) (lay : Lanes) (full : Filled lay) (n block q c : ℕ) (old : List ℕ) (area : Area n block q old) (s : ℕ)
    (col : ℕ → ℕ) (u : ℕ) (low : c < u) (high : u ≤ c + q) (x y : Walks) (z : Settles (may_leave s col) u x y) where
  -- from f i on, with the stations of a test settled
  swept : (k i : ℕ) (h : ℕ → Bool) (w : List ℕ)
      → ((m : ℕ) → i ≤ m → m < i + k → f m < n)
      → (known ≡ false → (v : ℕ) → v < n → h v ≡ true → Small (x.waits u v))
      → ((v : ℕ) → v < n → h v ≡ false → ((m : ℕ) → i ≤ m → m < i + k → v ≢ f m)
      → (k : ℕ) → x.waits u v k ≡ 0)
      → AreaState known lay n block q c old (between h x y) w
      → Swept known lay n block q c old u x y (settled_by f known lay n block (part_at n block q u) s col w i k)
  unfolding settled_by between among
  swept zero i h w inside few rest state =
      record {
        test = h;
        state = state;
        over = λ e. absurd (not_both e refl);
        all = λ e. state_all (may_leave s col) u x y z h w none state;
        small = λ o e v hv. go o v hv (h v) refl;
      }
    where
      none : (v : ℕ) → v < n → h v ≡ false → (k : ℕ) → x.waits u v k ≡ 0
      none v hv e = rest v hv e (λ m low high. absurd (omega arith))

      go : known ≡ false → (v : ℕ) → v < n → (t : Bool) → h v ≡ t → Small (x.waits u v)
      go o v hv true e = few o v hv e
      go o v hv false e = none_small (none v hv e)
  swept (suc k) i h w inside few rest state =
      go (halts_at known lay n (part_at n block q u) w b) refl (λ e. swept k (i + 1) (also h b) _ (λ m from to. inside m (omega arith) (omega arith))
      (now_few e) now_rest (next e))
    where
      b : ℕ
      b = f i

      here : b < n
      here = inside i (omega arith) (omega arith)

      -- what waits for it, settled already or not
      waits_at : (t : Bool) → h b ≡ t → (between h x y).waits u b ≡ cond t (y.waits u b) (x.waits u b)
      waits_at t e = rw e

      next : halts_at known lay n (part_at n block q u) w b ≡ false
          → AreaState known lay n block q c old (between (also h b) x y) (settled_one lay n block (part_at n block q u) s col w b)
      next e =
          settled_state known lay full n block q c old area s col u low high (between h x y) (between (also h b) x y) w b here
          (settles_one (may_leave s col) u x y z h b) (halts_thin known lay n (part_at n block q u) w b e) state

      -- the stations that are settled then have small sequences
      now_few : halts_at known lay n (part_at n block q u) w b ≡ false → known ≡ false → (v : ℕ) → v < n → also h b v ≡ true
          → Small (x.waits u v)
      now_few e o v hv t =
          by_cases (ℕ_discrete v b) (λ same. rw same (go (h b) refl)) (λ d. few o v hv (sym (also_other h b v d) ∙ t))
        where
          go : (t : Bool) → h b ≡ t → Small (x.waits u b)
          go true g = few o b here g
          go false g =
              subst Small (waits_at false g)
              (overflow_small (exactly o (state.waits u b low high here)) (halts_small known lay n (part_at n block q u) w b o e))

      -- nothing waits for a station that is not, and that no record left has as hearer
      now_rest : (v : ℕ) → v < n → also h b v ≡ false
          → ((m : ℕ) → i + 1 ≤ m → m < i + 1 + k → v ≢ f m) → (k : ℕ) → x.waits u v k ≡ 0
      now_rest v hv t other =
          by_cases (ℕ_discrete v b) (λ same. absurd (not_both (also_own h b) (rw same at t)))
          (λ d. rest v hv (sym (also_other h b v d) ∙ t) (λ m from to. by_cases (ℕ_discrete m i) (λ at. rw at d)
          (λ past. other m (omega arith) (omega arith))))

      -- a sequence that is large is not settled yet
      large : Large ((between h x y).waits u b) → SomeLarge n u x
      large l = go (h b) refl
        where
          go : (t : Bool) → h b ≡ t → SomeLarge n u x
          go true g = absurd (none_large (z.here b).cleared (subst Large (waits_at true g) l))
          go false g = record { station = b; inside = here; large = subst Large (waits_at false g) l }

      go : (t : Bool) → halts_at known lay n (part_at n block q u) w b ≡ t
          → (t ≡ false → Swept known lay n block q c old u x y (settled_by f known lay n block (part_at n block q u) s col
          (settled_one lay n block (part_at n block q u) s col w b) (i + 1) k))
          → Swept known lay n block q c old u x y (cond t (sweep_of true w) (settled_by f known lay n block (part_at n block q u) s col
          (settled_one lay n block (part_at n block q u) s col w b) (i + 1) k))
      go true e r =
          record {
            test = h;
            state = state;
            over = λ g one.
                let (o, many) = halts_whole known lay n (part_at n block q u) w b one e in
                large (overflow_large (exactly o (state.waits u b low high here)) many);
            all = λ g. absurd (not_both refl g);
            small = λ o g. absurd (not_both refl g);
          }
      go false e r = r refl

  -- Settling k stations from f i on, where nothing waits for any other.
  pub settled_stations : (k i : ℕ) (w : List ℕ)
      → ((m : ℕ) → i ≤ m → m < i + k → f m < n)
      → ((v : ℕ) → v < n → ((m : ℕ) → i ≤ m → m < i + k → v ≢ f m) → (k : ℕ) → x.waits u v k ≡ 0)
      → AreaState known lay n block q c old x w
      → Swept known lay n block q c old u x y (settled_by f known lay n block (part_at n block q u) s col w i k)
  unfolding between among
  settled_stations k i w inside rest state =
      swept k i (λ v. false) w inside (λ o v hv e. absurd (not_both e refl)) (λ v hv e. rest v hv)
      (record { same = state.same; beyond = state.beyond; settled = state.settled; waits = state.waits; thin = state.thin })
