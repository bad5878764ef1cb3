-- The lines of walks of the layered plan. Assumes nothing.
use Prim.Native.Nat.{ℕ, ◌+◌, ◌<◌, ◌≤◌}
use native.Mathlib.Omega.{arith}
use mathlib.Core.Path.{◌≡◌, sym, ap, subst, ◌∙◌}
use mathlib.Core.Bool.{cond}
use mathlib.Core.List.{List, ◌++◌, flat_map}
use lib.Dec.{eqb}
use lib.ListN.{length, get_or, take}
use lib.Seq.{length-take-le, get_or-take}
use Rattle.temporal.specs.Lists.{below}
use Rattle.text.specs.Field.{ascii, line_feed}
use Rattle.text.specs.Pieces.{pieces}
use Rattle.text.proofs.PieceLaws.{pieces_all}
use Rattle.report.proofs.ReportLaws.{flat_map_ext_law}
use Rattle.account.specs.Account.{leg, behind_leg, walk_line}
use Rattle.text.specs.Written.{Put}
use Rattle.text.proofs.PutLaws.{room_first, room_rest, put_both}
use Rattle.account.specs.Work.{lowered_at, lowered_leg, leg_at, WalkWritable}

-- pieces that are the same below n
pub pieces_same : (f g : ℕ → List ℕ) (n : ℕ) → ((k : ℕ) → k < n → f k ≡ g k) → pieces f 0 n ≡ pieces g 0 n
unfolding below
pieces_same f g n h = pieces_all f n ∙ flat_map_ext_law f g 0 n (λ v q. h v (omega arith)) ∙ sym (pieces_all g n)

-- the line of the walk whose positions are the first entries of a way buffer
pub walk_legs :
    (ls : List ℕ) (n hops : ℕ) (way : List ℕ) → hops ≤ length way →
    walk_line (lowered_at ls n) (take hops way) ≡ ascii "  " ++ pieces (leg_at ls n hops way) 0 hops
unfolding walk_line behind_leg
walk_legs ls n hops way h =
    ap (λ l. ascii "  " ++ l)
    (ap (λ m. flat_map (λ k. leg (lowered_at ls n (get_or (take hops way) k 0)) (cond (eqb (k + 1) m) line_feed (ascii ", "))) (below m))
    (length-take-le hops way h) ∙
    sym (pieces_all _ hops) ∙
    pieces_same _ _ hops (λ k q. ap (λ i. lowered_leg ls n i (eqb (k + 1) hops)) (get_or-take hops way k 0 q)))

module _ (ls : List ℕ) (n hops at : ℕ) (way out : List ℕ) (w : WalkWritable ls n hops at way out) where
  whole_room : at + length (ascii "  " ++ pieces (leg_at ls n hops way) 0 hops) ≤ length out
  whole_room = subst (λ l. at + length l ≤ length out) (walk_legs ls n hops way w.legs) w.room

  -- the beginning of the line has room
  pub walk_begin_room : at + length (ascii "  ") ≤ length out
  walk_begin_room = room_first at (ascii "  ") (pieces (leg_at ls n hops way) 0 hops) out whole_room

  module _ (a : ℕ) (mid : List ℕ) (p : Put at (ascii "  ") out a mid) where
    -- and the legs behind it
    pub walk_legs_room : a + length (pieces (leg_at ls n hops way) 0 hops) ≤ length mid
    walk_legs_room = room_rest at (ascii "  ") (pieces (leg_at ls n hops way) 0 hops) out whole_room a mid p

    pub walk_written :
        (r : ℕ) (now : List ℕ) → Put a (pieces (leg_at ls n hops way) 0 hops) mid r now →
        Put at (walk_line (lowered_at ls n) (take hops way)) out r now
    walk_written r now q =
        subst (λ l. Put at l out r now) (sym (walk_legs ls n hops way w.legs))
        (put_both at (ascii "  ") (pieces (leg_at ls n hops way) 0 hops) out whole_room a mid p r now q)
