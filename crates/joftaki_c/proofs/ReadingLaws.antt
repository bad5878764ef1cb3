-- The number and the slots of read_record, from what reading a record answers. Assumes nothing.
use Prim.Native.Nat.{ℕ}
use mathlib.Core.Path.{◌≡◌, refl, subst}
use mathlib.Core.List.{List}
use Rattle.std.specs.Prelude.{Option, Some, None}
use Rattle.temporal.specs.Drawing.{foreign, station, Reads}
use Rattle.drawing.specs.Reading.{read_result}
use Rattle.drawing.specs.declared.Reading.{Reading}
use Rattle.joftaki_c.specs.Reading.{ReadSlots, read_slots, ReadGiven}

module _ (bytes : List ℕ) (r : Option Reading) (found : Reads bytes (read_result r)) (old : ReadSlots) where
  pub given_station : (a : Reading) → r ≡ Some a → ReadGiven bytes 0 old (read_slots a.station a.load a.pairs)
  given_station a e =
      record {
        answer = station a.station a.load a.pairs;
        reads = subst (λ a. Reads bytes (read_result a)) e found;
        code = refl;
        slots = refl;
      }

  pub given_foreign : r ≡ None → ReadGiven bytes 102 old old
  given_foreign e =
      record { answer = foreign; reads = subst (λ a. Reads bytes (read_result a)) e found; code = refl; slots = refl }
