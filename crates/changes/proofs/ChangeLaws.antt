-- Loads, differences and zeros written to a table of changes, as the machine's words hold them. Assumes nothing.
use Prim.Native.Nat.{ℕ, ◌+◌, ◌^◌, ◌≤◌, ◌<◌}
use native.Mathlib.Omega.{arith}
use mathlib.Core.Path.{◌≡◌, refl, sym, ap, ap₂, subst, ◌∙◌}
use mathlib.Core.List.{List, ◌++◌}
use lib.IntN.{ℤ, pos, ◌-ℤ◌}
use lib.ListN.{length, get_or, set, take, drop, replicate, length-replicate}
use lib.Seq.{length-take-le}
use mir.Syntax.{w64}
use mir.Val.{SFits, to_z, of_z}
use mir.ValLaws.{to_z-of_z}
use Rattle.temporal.specs.Outcome.{over}
use Rattle.walks.proofs.StruckLoads.{difference_fits}
use Rattle.changes.specs.Changes.{Writable, IsLoad, Subtractable, load_at, difference_at, with_zeros}
use Rattle.changes.proofs.WritingLaws.{Writing, writing_behind, writing_more}

-- a load fits 64 bits with a sign
pub load_fits : (a : ℕ) → a < 2 ^ 49 → SFits w64 (pos a)
load_fits a h = record { sfits = omega arith }

-- read with a sign it is the load
load_read : (a : ℕ) → a < 2 ^ 49 → to_z w64 a ≡ pos a
load_read a h = to_z-of_z w64 (pos a) (load_fits a h)

-- the difference of two loads fits too
pub loads_fit : (x y : ℤ) → IsLoad x → IsLoad y → SFits w64 (x -ℤ y)
loads_fit x y g h = rw (g.same, h.same) (difference_fits g.load h.load g.small h.small)

module _ (loads : List ℕ) (at n : ℕ) (old : List ℤ) (v : ℕ) (h : v < n) where
  module _ (pre : Writable loads at n old) where
    -- a load as it is read
    pub load_is : IsLoad (to_z w64 (get_or loads (at + v) 0))
    load_is =
        let small = pre.small v h in
        record { load = get_or loads (at + v) 0; same = load_read (get_or loads (at + v) 0) small; small = small }

    -- one load more
    pub load_more :
        (table : List ℤ) → Writing (load_at loads at) n old v table →
        Writing (load_at loads at) n old (v + 1) (set table v (to_z w64 (get_or loads (at + v) 0)))
    load_more table w =
        rw (load_read (get_or loads (at + v) 0) (pre.small v h)) (writing_more (load_at loads at) n old v table pre.changes_room h w)

  module _ (pre : Subtractable loads at n old) (table : List ℤ) (w : Writing (difference_at loads at old) n old v table) where
    -- an entry as it is read
    entry_read : to_z w64 (of_z w64 (get_or table v (pos 0))) ≡ get_or old v (pos 0)
    entry_read =
        let e = pre.entries v h in
        ap (λ k. to_z w64 (of_z w64 k)) (writing_behind (difference_at loads at old) n old v table (pos 0) w ∙ e.same)
        ∙ load_read e.load e.small ∙ sym e.same

    -- it is a load
    pub entry_is : IsLoad (to_z w64 (of_z w64 (get_or table v (pos 0))))
    entry_is = subst IsLoad (sym entry_read) (pre.entries v h)

    -- one difference more
    pub difference_more : Writing (difference_at loads at old) n old (v + 1)
        (set table v (to_z w64 (of_z w64 (to_z w64 (get_or loads (at + v) 0) -ℤ to_z w64 (of_z w64 (get_or table v (pos 0)))))))
    difference_more =
        let stored = to_z-of_z w64 _ (loads_fit _ _ (load_is pre.writable) entry_is) in
        subst (λ k. Writing (difference_at loads at old) n old (v + 1) (set table v k))
        (sym (stored ∙ ap₂ ◌-ℤ◌ (load_read (get_or loads (at + v) 0) (pre.writable.small v h)) entry_read))
        (writing_more (difference_at loads at old) n old v table pre.writable.changes_room h w)

-- zeros in place of the first entries
pub zeros_filled : (n : ℕ) (old part : List ℤ) → n ≤ length old → part ≡ replicate (length (take n old)) (pos 0) →
    part ++ drop n old ≡ with_zeros n old
unfolding with_zeros over
zeros_filled n old part h e =
    let size : length (take n old) ≡ n = length-take-le n old h in
    rw (e, size, length-replicate n (pos 0)) refl
