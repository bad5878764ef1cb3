-- The pass without rows, for several sources at once: how many fit, and what is known of a source. Assumes nothing.
use Prim.Native.Nat.{ℕ, suc, ◌+◌, ◌-◌, ◌*◌, ◌/◌, ◌<◌, ◌≤◌, min}
use native.Mathlib.Omega.{arith}
use native.Mathlib.Decide.{dec_le}
use native.Mathlib.Nat.{mul-le-mul_left, mul_comm, div-add-mod'}
use mathlib.Core.Path.{◌≡◌, refl, sym, ap, subst, ◌∙◌}
use mathlib.Core.List.{List}
use mathlib.Core.Logic.{by_cases}
use borrow.Author.Tests.{le-leb, lt-leb}
use lib.ListN.{length, drop}
use Rattle.temporal.specs.Plan.{Terms, units, Keeps}
use Rattle.walks.proofs.Accepted.{accepted}
use Rattle.lists.proofs.BufferLaws.{later_drop}
use Rattle.pass.specs.Row.{part_size}
use Rattle.pass.specs.PassedColumns.{waiting, area_size}
use Rattle.stale.proofs.SizeLaws.{parts_within}
use Rattle.widths.specs.Found.{widths_size, Narrow, WidthsReady, WidthsFound}
use Rattle.widths.proofs.NarrowLaws.{narrow_none}
use Rattle.forward.specs.declared.Splits.{Splits}
use Rattle.forward.specs.Passed.{pass_size, widths_part, GroupAsked, GroupFits, WidthsAsked, WidthsKnown, Known, Knows}
use Rattle.forward.specs.Passed.{no_splits, next_split, later_splits, RefillReady, Refilled}
use Rattle.forward.proofs.SizeLaws.{size_kept}

-- ---- how much of the work area it takes

module _ (n t : ℕ) (terms : Terms) (many : ℕ) where
  pub part_kept : Keeps t terms → widths_part n t terms many ≡ widths_size n (waiting t terms) many
  unfolding widths_part
  part_kept h = rw (le-leb t (terms.keeping + 1) h)

  pub part_stale : terms.keeping + 1 < t → widths_part n t terms many ≡ 0
  unfolding widths_part
  part_stale h = rw (lt-leb t (terms.keeping + 1) h)

-- where a pass for one source with rows fits, one source fits
pub one_fits : (n t : ℕ) (terms : Terms) (d block base : ℕ) → 0 < n → pass_size n t terms d block ≤ base → widths_part n t terms 1 ≤ base
one_fits n t terms d block base some fits =
    by_cases (dec_le t (terms.keeping + 1))
    (λ h.
    let size = size_kept n t terms d block h in
    let least : n + 1 ≤ part_size n block = omega arith in
    let all : (1 + waiting t terms) * (n + 1) ≤ area_size n (waiting t terms) block = mul-le-mul_left (1 + waiting t terms) least in
    rw (part_kept n t terms 1 h) (omega arith))
    (λ h. rw (part_stale n t terms 1 (omega arith)) (omega arith))

-- ---- how many sources it takes at once

module _ (n t g h base left : ℕ) (asked : GroupAsked n t (units g h) base left) where
  pub group_kept : (few q size r : ℕ) → t ≤ h + 1 → few ≡ min left 32 → q ≡ min g t → size ≡ (1 + q) * n + 1
      → r ≡ min few (base / size) → GroupFits n t (units g h) base left r
  group_kept few q size r keeps is-few is-q is-size is =
      let one = asked.one in
      let some = asked.some in
      let part = part_kept n t (units g h) 1 keeps in
      let there : size ≡ (1 + min g t) * n + 1 = is-size ∙ ap (λ k. (1 + k) * n + 1) is-q in
      let enough : 1 * size ≤ base = omega arith in
      let parts = parts_within 1 size base (omega arith) enough in
      let whole = div-add-mod' base size in
      let most : size * r ≤ size * (base / size) = mul-le-mul_left size (omega arith) in
      let turned = mul_comm size (base / size) in
      let within : size * r ≤ base = omega arith in
      record {
        some = omega arith;
        most = omega arith;
        few = omega arith;
        fits = rw (part_kept n t (units g h) r keeps) (subst (λ k. k * r ≤ base) there within);
      }

  pub group_stale : (few : ℕ) → h + 1 < t → few ≡ min left 32 → GroupFits n t (units g h) base left few
  group_stale few stale is =
      let some = asked.some in
      record {
        some = omega arith;
        most = omega arith;
        few = omega arith;
        fits = rw (part_stale n t (units g h) few stale) (omega arith);
      }

-- ---- the pass

module _ (bs : List ℕ) (n t : ℕ) (terms : Terms) (first many : ℕ) (old : List ℕ) (asked : WidthsAsked bs n t terms first many old) where
  pub widths_ready : Keeps t terms → WidthsReady bs n t terms first many old
  widths_ready keeps =
      record {
        accepted = asked.accepted;
        units = record { turns = asked.units.turns; keeps = keeps };
        sources = asked.sources;
        few = asked.few;
        fits = subst (λ k. k ≤ length old) (part_kept n t terms many keeps) asked.fits;
      }

  pub widths_known : Keeps t terms → (new : List ℕ) (r : ℕ) → WidthsFound bs n t terms first many old new r
      → WidthsKnown bs n t terms first many old new r
  widths_known keeps new r x =
      record {
        narrow = x.narrow;
        beyond = subst (λ k. drop k new ≡ drop k old) (sym (part_kept n t terms many keeps)) x.beyond;
        same_length = x.same_length;
      }

  -- where readings go stale nothing is known
  pub widths_unknown : WidthsKnown bs n t terms first many old old 0
  widths_unknown = record { narrow = narrow_none bs n t terms first many; beyond = refl; same_length = refl }

-- ---- what is known of the next sources

module _ (bs : List ℕ) (n t : ℕ) (terms : Terms) (s end : ℕ) where
  -- nothing
  pub knows_none : s ≤ end → Knows bs n t terms s end no_splits
  knows_none h = record { within = omega arith; narrow = narrow_none bs n t terms s 0 }

  module _ (splits : Splits) (x : Knows bs n t terms s end splits) (some : 0 < splits.left) where
    one_more : splits.left ≡ suc (splits.left - 1)
    one_more = omega arith

    parted : Narrow bs n t terms s (suc (splits.left - 1)) splits.word
    parted = subst (λ k. Narrow bs n t terms s k splits.word) one_more x.narrow

    -- of the first of them
    pub knows_next : Known bs n t terms s (next_split splits)
    unfolding Narrow
    knows_next = record { few = omega arith; few_walks = parted.0 }

    -- and of the others
    pub knows_later : Knows bs n t terms (s + 1) end (later_splits splits)
    unfolding Narrow
    knows_later = record { within = let w = x.within in omega arith; narrow = parted.1 }

module _ (bs : List ℕ) (n t : ℕ) (terms : Terms) (base s end : ℕ) (splits : Splits) (old : List ℕ)
    (pre : RefillReady bs n t terms base s end splits old) where
  -- where none is known, more are looked at
  pub refill_asked : GroupAsked n t terms base (end - s)
  refill_asked =
      let a = accepted bs n t pre.accepted in
      let source = pre.source in
      record { stations = a.stations; slots = a.slots; units = pre.units; some = omega arith; one = pre.room }

  module _ (left : ℕ) (fits : GroupFits n t terms base (end - s) left) where
    pub refill_more : (new : List ℕ) (word : ℕ) → WidthsKnown bs n t terms s left old new word
        → Refilled bs n t terms base s end old new (record { left = left; word = word })
    refill_more new word x =
        let few = fits.most in
        let source = pre.source in
        record {
          some = fits.some;
          knows = record { within = omega arith; narrow = x.narrow };
          beyond = later_drop (widths_part n t terms left) base new old fits.fits x.beyond;
          same_length = x.same_length;
        }
