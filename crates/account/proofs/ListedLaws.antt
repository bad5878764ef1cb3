-- The way buffer on the list of a pair: where it stands, and that what it begins with can be written. Assumes nothing.
use Prim.Native.Nat.{ℕ, ◌+◌, ◌-◌, ◌*◌, ◌<◌, ◌≤◌}
use native.Mathlib.Omega.{arith}
use mathlib.Core.Path.{◌≡◌, refl, sym, ap, subst, ◌∙◌}
use mathlib.Core.Bool.{Bool, true}
use mathlib.Core.List.{List, []}
use mathlib.Core.Option.{some}
use borrow.Author.Tests.{lt-ltb}
use lib.ListN.{length, get_or, take, drop, length-append}
use lib.Seq.{get_or-take}
use Rattle.temporal.specs.Plan.{start}
use Rattle.temporal.specs.Walk.{holds}
use Rattle.temporal.specs.Bytes.{plan_of}
use Rattle.temporal.specs.Outcome.{over}
use Rattle.temporal.specs.Cursor.{index_in}
use Rattle.lists.proofs.ListLaws.{mem_get_d_law}
use Rattle.walks.proofs.PlanLaws.{contacts_length}
use Rattle.walks.proofs.Accepted.{accepted}
use Rattle.walks.proofs.Adequacy.{in_complete_list}
use Rattle.walks.proofs.WalkLaws.{run_positions, ends_inv}
use Rattle.trace.proofs.CursorLaws.{RisingPaths, take_over, index_given}
use Rattle.text.specs.Pieces.{pieces}
use Rattle.text.proofs.GoingLaws.{Going}
use Rattle.text.proofs.PieceLaws.{piece_room}
use Rattle.ways.specs.declared.Pair.{Pair}
use Rattle.ways.specs.Found.{terms_in, list_in, Continuable, Stepped}
use Rattle.ways.proofs.ListingLaws.{rises, mem_list}
use Rattle.account.specs.Account.{walk_line}
use Rattle.account.specs.Work.{lowered_at, walk_lines, WalkWritable, Movable, WalksWritable}

-- ---- one move

module _ (ls : List ℕ) (q : Pair) (i : ℕ) (way work : List ℕ) (m : Movable ls q i way work) where
  -- past the first walk the next one can be found
  pub move_next : 0 < i → Continuable ls q work way
  unfolding holds
  move_next later =
      record {
        listable = m.startable.listable;
        table = m.startable.table;
        offered = ap (λ at. holds at (λ i. true)) (m.standing (i - 1) (omega arith));
      }

  -- and is walk i
  pub moved_next : 0 < i → (r : Bool) (new : List ℕ) → Stepped (list_in ls q) way r new → new ≡ over (get_or (list_in ls q) i []) way
  moved_next later r new s =
      let same : i - 1 + 1 ≡ i = omega arith in
      let e = (s.next (i - 1) (m.standing (i - 1) (omega arith))).1 in
      e ∙ rw (same, lt-ltb i (length (list_in ls q)) m.inside) refl

-- ---- the loop

-- what is kept of the way buffer before walk i is written: its length, and that it begins with the walk before
pub record Listed (ls : List ℕ) (q : Pair) (i : ℕ) (old way : List ℕ) : Type 0 where
  pub same : length way ≡ length old
  pub standing : (j : ℕ) → i ≡ j + 1 → index_in (list_in ls q) way ≡ some j

module _ (ls : List ℕ) (n : ℕ) (q : Pair) (most at : ℕ) (way₀ work out : List ℕ) (w : WalksWritable ls n q most at way₀ work out) where
  module _ (i : ℕ) (way : List ℕ) (l : Listed ls q i way₀ way) (more : i < most) where
    inside : i < length (list_in ls q)
    inside = let e = w.enough in omega arith

    abbrev walk : List ℕ
    walk = get_or (list_in ls q) i []

    member_size : length walk ≡ q.hops
    member_size = ((mem_list ls q way₀ w.startable.listable).0 (mem_get_d_law (list_in ls q) i [] inside)).0

    paths : RisingPaths q.hops (list_in ls q)
    paths =
        record {
          one_length = λ u m. ((mem_list ls q way₀ w.startable.listable).0 m).0;
          rises = rises ls q way₀ w.startable.listable;
        }

    -- the positions of walk i are those of the layered plan
    position : (k : ℕ) → k < q.hops → get_or walk k 0 * 6 + 5 < length ls
    position k h =
        let ok = w.startable.listable.accepted in
        let m = mem_get_d_law (list_in ls q) i [] inside in
        let r = ends_inv (plan_of ls q.stations q.slots (terms_in q)) (start q.source) _ walk
        ((in_complete_list ls q.stations q.slots (terms_in q) ok q.source q.destination walk).0 m).0 in
        omega (
          arith,
          run_positions (plan_of ls q.stations q.slots (terms_in q)) (start q.source) walk r.runs (get_or walk k 0)
              (mem_get_d_law walk k 0 (omega (arith, member_size))),
          contacts_length ls q.stations q.slots (terms_in q),
          (accepted ls q.stations q.slots ok).whole,
        )

    module _ (way' : List ℕ) (e : way' ≡ over walk way) where
      beginning : take q.hops way' ≡ walk
      beginning = ap (take q.hops) e ∙ take_over walk way q.hops member_size

      long : q.hops ≤ length way'
      unfolding over
      long = omega (arith, ap length e, length-append walk (drop (length walk) way), member_size)

      -- the buffer begins with walk i
      pub listed_next : length way' ≡ length way → Listed ls q (i + 1) way₀ way'
      listed_next kept =
          record {
            same = kept ∙ l.same;
            standing = λ j p.
                let same : i ≡ j = omega arith in
                subst (λ k. index_in (list_in ls q) way' ≡ some k) same
                (ap (index_in (list_in ls q)) e ∙ index_given paths i way inside);
          }

      -- and its line is the next one
      pub listed_line : walk_line (lowered_at ls n) (take q.hops way') ≡ walk_line (lowered_at ls n) walk
      listed_line = ap (walk_line (lowered_at ls n)) beginning

      pub listed_writable :
          (end : ℕ) (now : List ℕ) →
          Going at (walk_lines ls n (list_in ls q) most) out end
          (pieces (λ i. walk_line (lowered_at ls n) (get_or (list_in ls q) i [])) i most) now →
          WalkWritable ls n q.hops end way' now
      listed_writable end now g =
          record {
            legs = long;
            position = λ k h.
                subst (λ x. x * 6 + 5 < length ls)
                (ap (λ u. get_or u k 0) (sym beginning) ∙ get_or-take q.hops way' k 0 h) (position k h);
            room = subst (λ u. end + length u ≤ length now) (sym listed_line) (piece_room _ _ _ _ _ _ _ _ g more);
          }
