-- A text that is written piece by piece, as by a loop. Assumes nothing.
use Prim.Native.Nat.{ℕ, ◌+◌, ◌≤◌}
use native.Mathlib.Omega.{arith}
use mathlib.Core.Path.{◌≡◌, refl, sym, ap, subst, ◌∙◌}
use mathlib.Core.List.{List, [], ◌++◌}
use lib.ListN.{length}
use Rattle.text.specs.Written.{Put}
use Rattle.text.proofs.WrittenLaws.{length_written}
use Rattle.text.proofs.PutLaws.{room_first, room_rest, put_none, put_both}

-- What is kept between two pieces: from the place reached on there is room for the rest, whoever writes it there has written the
-- whole, and the buffer is as long as it was.
pub record Going (at : ℕ) (whole old : List ℕ) (end : ℕ) (rest now : List ℕ) : Type 0 where
  pub room : end + length rest ≤ length now
  pub finish : (r : ℕ) (after : List ℕ) → Put end rest now r after → Put at whole old r after
  pub same : length now ≡ length old

module _ (at : ℕ) (whole old : List ℕ) where
  -- at first the rest is the whole
  pub going_begin : at + length whole ≤ length old → Going at whole old at whole old
  going_begin h = record { room = h; finish = λ r after q. q; same = refl }

  module _ (end : ℕ) (rest now : List ℕ) (g : Going at whole old end rest now) where
    module _ (x rest' : List ℕ) (e : rest ≡ x ++ rest') where
      fits : end + length (x ++ rest') ≤ length now
      fits = subst (λ l. end + length l ≤ length now) e g.room

      -- the next piece has room
      pub going_room : end + length x ≤ length now
      going_room = room_first end x rest' now fits

      -- and is written
      pub going_next : (end' : ℕ) (now' : List ℕ) → Put end x now end' now' → Going at whole old end' rest' now'
      going_next end' now' p =
          record {
            room = room_rest end x rest' now fits end' now' p;
            finish = λ r after q.
                g.finish r after
                (subst (λ l. Put end l now r after) (sym e) (put_both end x rest' now fits end' now' p r after q));
            same = ap length p.contents ∙ length_written end x now going_room ∙ g.same;
          }

    -- at last nothing is left
    pub going_all : rest ≡ [] → Put at whole old end now
    going_all none =
        g.finish end now (subst (λ l. Put end l now end now) (sym none) (put_none end now (omega (arith, g.room))))
