-- The place and the length of the part that row gives. Assumes nothing.
use Prim.Native.Nat.{ℕ, ◌+◌, ◌*◌}
use native.Mathlib.Omega.{arith}
use native.Mathlib.Nat.{pos_of_ne-zero}
use mathlib.Core.Path.{◌≡◌, sym, ap, ◌∙◌}
use mathlib.Core.Logic.{◌≢◌}
use mathlib.Core.List.{List, []}
use lib.ListN.{length, take, drop, length-take, length-drop}
use Rattle.temporal.specs.Outcome.{row_number, row}
use Rattle.walks.proofs.EnteredLaws.{unless_some, unless_none}
use Rattle.rows.proofs.RowLaws.{row_refused, row_part, row_within, row_end}
use Rattle.joftaki_c.specs.Slots.{RowGiven}

module _ (n t v : ℕ) (table part : List ℕ) (k : ℕ) (is_row : part ≡ row n t v table) (is_number : k ≡ row_number n t v table) where
  -- on refusal the part is empty
  pub row_given_refused : k ≢ 0 → RowGiven n t v table k 0 (length part)
  row_given_refused refused =
      let some = pos_of_ne-zero refused in
      let empty : part ≡ [] = is_row ∙ row_refused n t v table (omega arith) in
      let none : length part ≡ 0 = ap length empty in
      record {
        number = is_number;
        place = sym (unless_some _ _ _ (omega arith));
        entries = none ∙ sym (unless_some _ _ _ (omega arith));
        part = rw none (sym (row_refused n t v table (omega arith)));
      }

  -- on acceptance it is a station's entries, within the table
  pub row_given_accepted : k ≡ 0 → RowGiven n t v table 0 (v * (t + 1)) (length part)
  row_given_accepted accepted =
      let none : row_number n t v table ≡ 0 = sym is_number ∙ accepted in
      let inside = row_within n t v table none in
      let fits = row_end v n (t + 1) (length table) inside.0 inside.2 in
      let entries : part ≡ take (t + 1) (drop (v * (t + 1)) table) = is_row ∙ row_part n t v table none in
      let size : length part ≡ t + 1 = ap length entries ∙ simp (length-take, length-drop) (omega arith) in
      record {
        number = sym none;
        place = sym (unless_none _ _ _ none);
        entries = size ∙ sym (unless_none _ _ _ none);
        part = rw size (sym (row_part n t v table none));
      }
