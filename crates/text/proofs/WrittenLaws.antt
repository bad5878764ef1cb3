-- Laws of written bytes: their stores, the buffer's length, and a copy into a part of a buffer.
-- Assumes nothing.
use Prim.Native.Nat.{ℕ, ◌+◌, ◌-◌, ◌≤◌}
use native.Mathlib.Omega.{arith}
use mathlib.Core.Path.{◌≡◌, refl, sym, ap, ◌∙◌}
use mathlib.Core.List.{List, append_assoc}
use lib.ListN.{length}
use lib.Seq.{sets, sets-eq, length-sets, drop-drop}
use borrow.Rule.Slice.PartMut.{put_mid}
use Rattle.text.specs.Written.{written, Put}

-- bytes written within a buffer are its stores, one after the other
pub written_sets :
    (at : ℕ) (new old : List ℕ) → at + length new ≤ length old → written at new old ≡ sets old at new
unfolding written
written_sets at new old fits = sym (sets-eq new old at fits)

-- the length of a buffer stays
pub length_written :
    (at : ℕ) (new old : List ℕ) → at + length new ≤ length old → length (written at new old) ≡ length old
length_written at new old fits = ap length (written_sets at new old fits) ∙ length-sets old at new

-- a copy into a part of a buffer writes the bytes there
pub put_copied :
    (at : ℕ) (new old part : List ℕ) → part ≡ new → Put at new old (at + length new) (put_mid at (at + length new - at) old part)
unfolding written
put_copied at new old part e =
    let n : at + length new - at ≡ length new = omega arith in
    record { place = refl; contents = rw (e, n, drop-drop (length new) at old, append_assoc) refl }
