-- Clearing a station's column in the entries of its row: the walks that may go on from it are left. Assumes nothing.
use Rattle.std.proofs.Common.{◌≡◌, ℕ, ◌+◌, ◌*◌, ◌/◌, ◌%◌, ◌^◌, ◌<◌, ◌≤◌, Bool, true, false, cond, not, ◌&&◌, eqb, ltb, ◌≢◌, ◌⊎◌, sym, refl, ap, ◌∙◌, ⊎_elim, arith, lt-ltb, eq-eqb, ne_eqb, eqb-true}
use native.Mathlib.Decide.{ℕ_discrete}
use mathlib.Core.Logic.{by_cases}
use borrow.Author.Tests.{eqb-false}
use Rattle.lists.proofs.ListLaws.{not_both}
use Rattle.entries.specs.Entry.{stored}
use Rattle.lanes.specs.Lane.{Fits, alone, apart}
use Rattle.lanes.proofs.LaneLaws.{packed_ext, clear_mod, station_split, station_lane_below, station_below, station_entry}
use Rattle.pass.specs.Column.{Lanes}
use Rattle.pass.proofs.BestLaws.{Best, in_entry}
use Rattle.pass.proofs.ColumnLaws.{may_leave, source_free, other_free, own_closed}
use Rattle.pass.proofs.TookLaws.{own_in, cleared_entry}

-- a settled count that fits a lane, or the only one in its entry
abbrev pub Thin : Lanes → ℕ → Type 0
Thin lay c = (lay.lanes ≡ 1) ⊎ ((0 < c) × (c < 2 ^ lay.width))

-- a count that is held and is not 0 is itself
pub held_count : (x : ℕ) → 0 < stored x → stored x ≡ x
unfolding stored
held_count x = go (ltb 18446744073709551615 x)
  where
    go : (b : Bool) → 0 < cond b 0 x → cond b 0 x ≡ x
    go true h = absurd (omega arith)
    go false h = refl

-- lanes that fill an entry
pub record Filled (lay : Lanes) : Type 0 where
  pub fill : lay.width * lay.lanes ≡ 64
  pub some : 0 < lay.lanes

module _ (lay : Lanes) (filled : Filled lay) (s : ℕ) (col : ℕ → ℕ) (block v : ℕ) where
  -- where entry e holds the column of v
  own_inv : (e : ℕ) → own_in lay block s col v e ≡ true → (v ≢ s) × (col v / lay.lanes ≡ e)
  unfolding own_in
  own_inv e = go (eqb v s) (ltb (col v) (block * lay.lanes)) (eqb (col v / lay.lanes) e) refl refl
    where
      go : (a b d : Bool) → eqb v s ≡ a → eqb (col v / lay.lanes) e ≡ d → (not a && (b && d)) ≡ true
          → (v ≢ s) × (col v / lay.lanes ≡ e)
      go true b d ea ed o = absurd (not_both o refl)
      go false false d ea ed o = absurd (not_both o refl)
      go false true false ea ed o = absurd (not_both o refl)
      go false true true ea ed o = (eqb-false v s ea, eqb-true _ _ ed)

  own_here : (e : ℕ) → v ≢ s → col v < block * lay.lanes → col v / lay.lanes ≡ e → own_in lay block s col v e ≡ true
  unfolding own_in
  own_here e d h at = rw (ne_eqb v s d, lt-ltb (col v) (block * lay.lanes) h, eq-eqb (col v / lay.lanes) e at)

  module _ (M : ℕ → ℕ → ℕ) (h e : ℕ) where
    abbrev may_go : ℕ → ℕ → ℕ
    may_go j k = cond (may_leave s col j v) (M j k) 0

    -- the column is cleared
    cleared_own : Fits lay.width lay.lanes (λ l. M (e * lay.lanes + l) h) → v ≢ s → col v / lay.lanes ≡ e → (l : ℕ)
        → l < lay.lanes → cond (eqb l (col v % lay.lanes)) 0 (M (e * lay.lanes + l) h) ≡ may_go (e * lay.lanes + l) h
    cleared_own f d at l q =
        let split = station_split lay.lanes (col v) in
        by_cases (ℕ_discrete l (col v % lay.lanes))
        (λ own. rw (eq-eqb l (col v % lay.lanes) own)
        (sym (ap (λ b. cond b (M (e * lay.lanes + l) h) 0) (own_closed s col (e * lay.lanes + l) v d (here own split)))))
        (λ other. rw (ne_eqb l (col v % lay.lanes) other)
        (sym (ap (λ b. cond b (M (e * lay.lanes + l) h) 0) (other_free s col (e * lay.lanes + l) v (there other split)))))
      where
        here : l ≡ col v % lay.lanes → col v / lay.lanes * lay.lanes + col v % lay.lanes ≡ col v → col v ≡ e * lay.lanes + l
        here own split = sym split ∙ rw (at, own)

        there : l ≢ col v % lay.lanes → col v / lay.lanes * lay.lanes + col v % lay.lanes ≡ col v → col v ≢ e * lay.lanes + l
        there other split same =
            let parts : e * lay.lanes + col v % lay.lanes ≡ e * lay.lanes + l = sym (ap (λ x. x * lay.lanes + col v % lay.lanes) at) ∙ split ∙ same in
            other (omega arith)

    -- another entry stays
    cleared_other : e < block → own_in lay block s col v e ≡ false → (l : ℕ) → l < lay.lanes
        → M (e * lay.lanes + l) h ≡ may_go (e * lay.lanes + l) h
    cleared_other i none l q =
        by_cases (ℕ_discrete v s)
        (λ source. sym (ap (λ b. cond b (M (e * lay.lanes + l) h) 0)
        (ap (may_leave s col (e * lay.lanes + l)) source ∙ source_free s col (e * lay.lanes + l))))
        (λ d. sym (ap (λ b. cond b (M (e * lay.lanes + l) h) 0) (other_free s col (e * lay.lanes + l) v (λ same.
        not_both (own_here e d (rw same (station_below lay.lanes e l q block i))
        (ap (λ x. x / lay.lanes) same ∙ station_entry lay.lanes e l q)) none))))

    cleared_row : (x : ℕ) → e < block → Fits lay.width lay.lanes (λ l. M (e * lay.lanes + l) h) → x ≡ in_entry lay M h e % 2 ^ 64
        → cleared_entry lay block s col v e x ≡ in_entry lay may_go h e % 2 ^ 64
    unfolding cleared_entry
    cleared_row x i f is = go (own_in lay block s col v e) refl
      where
        go : (b : Bool) → own_in lay block s col v e ≡ b → cleared_entry lay block s col v e x ≡ in_entry lay may_go h e % 2 ^ 64
        go true o =
            let (d, at) = own_inv e o in
            rw (o, is) (clear_mod lay.width lay.lanes filled.fill f (col v % lay.lanes)
            (station_lane_below lay.lanes (col v) filled.some)
            ∙ ap (λ x. x % 2 ^ 64) (packed_ext lay.width lay.lanes (cleared_own f d at)))
        go false o =
            rw (o, is) (ap (λ x. x % 2 ^ 64) (packed_ext lay.width lay.lanes (cleared_other i o)))

  -- the walks that may go on from v are left, where the count fits
  pub best_cleared : {N : ℕ → ℕ} {M : ℕ → ℕ → ℕ} {h c : ℕ} {r : ℕ → ℕ} → ((j k : ℕ) → M j k ≤ N k) → (h < 65535 → Thin lay c)
      → Best lay block 65535 N M h c r
      → Best lay block 65535 N (λ j k. cond (may_leave s col j v) (M j k) 0) h c (λ e. cleared_entry lay block s col v e (r e))
  best_cleared {N} {M} {h} {c} {r} less thin b =
      record {
        entry = b.entry;
        row = λ e q g. cleared_row M h e (r e) q (fits e (thin g)) (b.row e q g);
      }
    where
      fits : (e : ℕ) → Thin lay c → Fits lay.width lay.lanes (λ l. M (e * lay.lanes + l) h)
      fits e =
          ⊎_elim alone
          (λ (t : (0 < c) × (c < 2 ^ lay.width)).
          let held = held_count (N h) (omega (arith, b.entry.count, t.0)) in
          apart (λ l q. omega (arith, less (e * lay.lanes + l) h, b.entry.count, held, t.1)))
