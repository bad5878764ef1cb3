-- Laws of what two words ask for. Assumes nothing.
use Prim.Native.Nat.{ℕ, ◌<◌, ◌≤◌}
use native.Mathlib.Decide.{dec_le}
use native.Mathlib.Omega.{arith}
use mathlib.Core.Path.{◌≡◌}
use mathlib.Core.Bool.{Bool, true, false, cond}
use mathlib.Core.Logic.{by_cases}
use mathlib.Core.List.{List}
use Rattle.std.specs.Prelude.{Option, Some, None}
use borrow.Author.Tests.{eq-eqb, ne_eqb, le-leb, lt-leb}
use lib.Dec.{eqb}
use Rattle.asked.specs.declared.Request.{Request}
use Rattle.asked.specs.Asked.{most_asked, number_of, asked, request_of, RequestWithin}

asked_within : (a b : Option ℕ) → RequestWithin (asked a b)
unfolding asked
asked_within (Some v) (Some k) =
    by_cases (dec_le k most_asked) (λ few. rw (le-leb k most_asked few) few)
    (λ more. rw (lt-leb k most_asked (omega arith)) tt)
asked_within (Some v) None = tt
asked_within None b = tt

-- no more walks are asked for than may be
pub request_within : (r : Option Request) (count : ℕ) (a b : List ℕ) → r ≡ request_of count a b → RequestWithin r
unfolding request_of
request_within r count a b e = rw e (chosen (eqb count 3))
  where
    chosen : (t : Bool) → RequestWithin (cond t (asked (number_of a) (number_of b)) None)
    chosen true = asked_within (number_of a) (number_of b)
    chosen false = tt
