-- An entry that overflows, and a test over all places of a table. Assumes nothing.
use Prim.Native.Nat.{ℕ, ◌+◌, ◌-◌, ◌*◌, ◌/◌, ◌%◌, ◌^◌, ◌<◌}
use native.Mathlib.Omega.{arith}
use native.Mathlib.Decide.{dec_lt, ℕ_discrete}
use native.Mathlib.Nat.{div-add-mod', mod-lt, div-lt_iff_lt-mul}
use mathlib.Core.Path.{◌≡◌, refl, sym, ap}
use mathlib.Core.Bool.{Bool, true, false, ◌&&◌, and-false}
use mathlib.Core.Logic.{◌⊎◌, ⊎_elim, by_cases}
use mathlib.Core.List.{List, []}
use borrow.Author.Tests.{lt-ltb, le-ltb, ne_eqb}
use lib.Arith.{digits_lt}
use lib.Dec.{ltb, eqb}
use lib.ListN.{length}
use Rattle.temporal.specs.Lists.{any, below}
use Rattle.temporal.specs.Shortest.{hops, count}
use Rattle.lists.proofs.ListLaws.{any_true, mem_below, length_zero}
use Rattle.entries.specs.Entry.{overflows}
use Rattle.entries.proofs.CountLaws.{stored_small, stored_large}
use Rattle.reach_entries.specs.Table.{Table, table_overflows}
use Rattle.reach_entries.specs.Pass.{EntryHolds}

-- two tests that hold together are equal
both_ways : (a b : Bool) → (a ≡ true → b ≡ true) → (b ≡ true → a ≡ true) → a ≡ b
both_ways true b f g = sym (f refl)
both_ways false true f g = g refl
both_ways false false f g = refl

-- a test over all places of n stations with width entries each
pub any_places :
    (f : ℕ → Bool) (n width : ℕ) → 0 < width →
    any f (below (n * width)) ≡ any (λ v. any (λ u. f (v * width + u)) (below width)) (below n)
any_places f n width some =
    both_ways _ _
    (λ e.
    let (j, m, q) = (any_true f (below (n * width))).0 e in
    let inside = (mem_below (n * width)).0 m in
    let whole : j / width * width + j % width ≡ j = div-add-mod' j width in
    (any_true _ (below n)).1 (
      j / width,
      (mem_below n).1 ((div-lt_iff_lt-mul some).1 inside),
      (any_true _ (below width)).1 (j % width, (mem_below width).1 (mod-lt j some), rw whole q),
    ))
    (λ e.
    let (v, m, q) = (any_true _ (below n)).0 e in
    let (u, k, r) = (any_true _ (below width)).0 q in
    (any_true f (below (n * width))).1
    (v * width + u, (mem_below (n * width)).1 (digits_lt ((mem_below n).0 m) ((mem_below width).0 k)), r))

-- ---- an entry that overflows

-- the hops of a list that is not empty stay below 65535
abbrev pub Few : List (List ℕ) → Type 0
Few l = (l ≡ []) ⊎ (hops l < 65535)

-- the entry of the empty list does not
empty_none : (ltb (hops []) 65535 && eqb (count []) 0) ≡ false
unfolding hops
empty_none = refl

-- an entry of a list overflows exactly where the list is over 2^64 - 1 long
pub overflows_exactly :
    (x : Table) (j : ℕ) (l : List (List ℕ)) → Few l → EntryHolds x j l → table_overflows x j ≡ ltb (2 ^ 64 - 1) (count l)
unfolding overflows
overflows_exactly x j l few h =
    rw (h.hops_there, h.count_there)
    (by_cases (dec_lt 18446744073709551615 (count l))
    (λ over.
    ⊎_elim
    (λ empty. absurd (let none : count l ≡ 0 = ap length empty in omega arith))
    (λ low.
    rw (lt-ltb (hops l) 65535 low, stored_large (count l) over, lt-ltb 18446744073709551615 (count l) over))
    few)
    (λ fits.
    rw (stored_small (count l) (omega arith), le-ltb 18446744073709551615 (count l) (omega arith))
    (⊎_elim
    (λ empty. rw empty empty_none)
    (λ low. by_cases (ℕ_discrete (count l) 0)
    (λ none. rw ((length_zero l).0 none) empty_none)
    (λ some. rw (ne_eqb (count l) 0 some) (and-false (ltb (hops l) 65535))))
    few)))
