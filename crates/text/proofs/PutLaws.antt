-- Texts written one behind the other. Assumes nothing.
use Prim.Native.Nat.{ℕ, suc, ◌+◌, ◌≤◌}
use native.Mathlib.Omega.{arith}
use native.Mathlib.Nat.{add-zero}
use mathlib.Core.Path.{◌≡◌, sym, ap, ◌∙◌}
use mathlib.Core.List.{List, [], ◌∷◌, ◌++◌}
use lib.ListN.{length, set, length-append}
use lib.Seq.{sets}
use Rattle.text.specs.Written.{Put}
use Rattle.text.proofs.WrittenLaws.{written_sets, length_written}

-- stores of two lists, one behind the other
sets_append : (x y l : List ℕ) (i : ℕ) → sets (sets l i x) (i + length x) y ≡ sets l i (x ++ y)
sets_append [] y l i = ap (λ k. sets l k y) (add-zero i)
sets_append (a ∷ x) y l i =
    let e : i + suc (length x) ≡ suc i + length x = omega arith in
    ap (λ k. sets (sets (set l i a) (suc i) x) k y) e ∙ sets_append x y (set l i a) (suc i)

-- nothing written
pub put_none : (at : ℕ) (old : List ℕ) → at ≤ length old → Put at [] old at old
put_none at old h =
    record { place = sym (add-zero at); contents = sym (written_sets at [] old (omega arith)) }

module _ (at : ℕ) (x y old : List ℕ) (room : at + length (x ++ y) ≤ length old) where
  -- what has room has room for its beginning
  pub room_first : at + length x ≤ length old
  room_first = omega (arith, length-append x y)

  module _ (a : ℕ) (mid : List ℕ) (p : Put at x old a mid) where
    -- and for the rest behind it
    pub room_rest : a + length y ≤ length mid
    room_rest =
        let e = p.place in
        omega (arith, length-append x y, ap length p.contents, length_written at x old room_first)

    -- both together
    pub put_both : (b : ℕ) (now : List ℕ) → Put a y mid b now → Put at (x ++ y) old b now
    put_both b now q =
        record {
          place = let e = p.place in let f = q.place in omega (arith, length-append x y);
          contents =
              q.contents ∙ written_sets _ y mid room_rest ∙
              ap (λ l. sets l a y) (p.contents ∙ written_sets at x old room_first) ∙
              ap (λ k. sets (sets old at x) k y) p.place ∙
              sets_append x y old at ∙ sym (written_sets at (x ++ y) old room);
        }

-- three texts, one behind the other
module _ (at : ℕ) (x y z old : List ℕ) (room : at + length (x ++ y ++ z) ≤ length old) where
  pub room_first_of_three : at + length x ≤ length old
  room_first_of_three = room_first at x y old (room_first at (x ++ y) z old room)

  module _ (a : ℕ) (mid : List ℕ) (p : Put at x old a mid) where
    pub room_second_of_three : a + length y ≤ length mid
    room_second_of_three = room_rest at x y old (room_first at (x ++ y) z old room) a mid p

    module _ (b : ℕ) (then : List ℕ) (q : Put a y mid b then) where
      two : Put at (x ++ y) old b then
      two = put_both at x y old (room_first at (x ++ y) z old room) a mid p b then q

      pub room_third_of_three : b + length z ≤ length then
      room_third_of_three = room_rest at (x ++ y) z old room b then two

      pub put_three : (c : ℕ) (now : List ℕ) → Put b z then c now → Put at (x ++ y ++ z) old c now
      put_three c now r = put_both at (x ++ y) z old room b then two c now r
