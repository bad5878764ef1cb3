-- The number and the hops slot of first way and next way tell the reply: 100 and 101 are never the number of a refusal.
-- Assumes nothing.
use Prim.Native.Nat.{ℕ, zero, suc, ◌+◌, ◌<◌, ◌≤◌}
use native.Mathlib.Omega.{arith}
use mathlib.Core.Path.{◌≡◌, refl}
use mathlib.Core.Bool.{Bool, true, false, cond}
use mathlib.Core.List.{List, [], ◌∷◌}
use mathlib.Core.Option.{Option, none, some}
use lib.Dec.{ltb}
use lib.ListN.{length}
use Rattle.temporal.specs.Cause.{first, unless}
use Rattle.temporal.specs.Cursor.{
  Reply,
  path,
  no_path,
  last_path,
  refused,
  Operation,
  first_way,
  next_way,
  index_in,
  stay,
  give,
  go_first,
  go_next,
  go,
  move,
}
use Rattle.temporal.specs.FirstNext.{Question, list_of, way_causes, overflow, way_work, way_answer}
use Rattle.walks.proofs.NumberLaws.{way_other, overflow_other}
use Rattle.joftaki_c.specs.Code.{reply_code, reply_hops}

-- a reply is read off its number and its hops slot
pub record Told (r : Reply) : Type 0 where
  pub way : reply_code r ≡ 0 → r ≡ path (reply_hops r)
  pub none : reply_code r ≡ 100 → r ≡ no_path
  pub last : reply_code r ≡ 101 → r ≡ last_path
  pub refusal : 0 < reply_code r → reply_code r < 100 → r ≡ refused (reply_code r)

-- a refusal has one of the papers' numbers, 1 to 17
abbrev Numbered : Reply → Type 0
Numbered (path h) = Unit {0}
Numbered no_path = Unit {0}
Numbered last_path = Unit {0}
Numbered (refused k) = (0 < k) × (k ≤ 17)

numbered_told : (r : Reply) → Numbered r → Told r
numbered_told (path h) s =
    record {
      way = λ e. refl;
      none = λ e. absurd (omega arith);
      last = λ e. absurd (omega arith);
      refusal = λ a b. absurd (omega arith);
    }
numbered_told no_path s =
    record {
      way = λ e. absurd (omega arith);
      none = λ e. refl;
      last = λ e. absurd (omega arith);
      refusal = λ a b. absurd (omega arith);
    }
numbered_told last_path s =
    record {
      way = λ e. absurd (omega arith);
      none = λ e. absurd (omega arith);
      last = λ e. refl;
      refusal = λ a b. absurd (omega arith);
    }
numbered_told (refused k) s =
    record {
      way = λ e. absurd (omega arith);
      none = λ e. absurd (omega arith);
      last = λ e. absurd (omega arith);
      refusal = λ a b. refl;
    }

-- what holds of the refusal and of the work holds of what is done
unless_either :
    {A : Type 0} (P : A → Type 0) (k : ℕ) (refusal : ℕ → A) (work : A) → (0 < k → P (refusal k)) → P work →
    P (unless k refusal work)
unfolding unless
unless_either P zero refusal work a b = b
unless_either P (suc k) refusal work a b = a (omega arith)

-- the cursor's moves
first_numbered : (l : List (List ℕ)) (at : Option ℕ) (b : List ℕ) → Numbered (go_first l at b).reply
unfolding go_first stay give
first_numbered [] at b = tt
first_numbered (w ∷ l) at b = tt

next_numbered : (l : List (List ℕ)) (at : Option ℕ) (b : List ℕ) → Numbered (go_next l at b).reply
unfolding go_next stay give
next_numbered l none b = (omega arith, omega arith)
next_numbered l (some i) b = either (ltb (i + 1) (length l))
  where
    either : (t : Bool) → Numbered (cond t (give l (i + 1) b) (stay last_path (some i) b)).reply
    either true = tt
    either false = tt

go_numbered : (o : Operation) (l : List (List ℕ)) (at : Option ℕ) (b : List ℕ) → Numbered (go o l at b).reply
unfolding go
go_numbered first_way l at b = first_numbered l at b
go_numbered next_way l at b = next_numbered l at b

move_numbered :
    (o : Operation) (k : ℕ) (l : List (List ℕ)) (at : Option ℕ) (b : List ℕ) → k ≤ 17 → Numbered (move o k l at b).reply
unfolding move stay
move_numbered o k l at b h =
    unless_either (λ m. Numbered m.reply) k (λ j. stay (refused j) at b) (go o l at b) (λ some. (some, h))
    (go_numbered o l at b)

-- every answer of first way and next way is told
pub told : (o : Operation) (q : Question) (way work : List ℕ) → Told (way_answer o q way work).reply
unfolding way_answer way_work
told o q way work =
    numbered_told _
    (unless_either (λ a. Numbered a.reply) (first (way_causes q (length way) (length work))) _ (way_work o q way work)
    (λ some. (some, omega (arith, (way_other q (length way) (length work)).most)))
    (move_numbered o (overflow q) (list_of q) (index_in (list_of q) way) way (omega (arith, (overflow_other q).most))))
