-- Where a trace from an accepted first way on says "none" or "last", all ways of the complete list are given, and so pair
-- counts them. Assumes nothing.
use Prim.Native.Nat.{ℕ, ◌+◌}
use native.Mathlib.Omega.{arith}
use mathlib.Core.Path.{◌≡◌, refl, sym, ap, subst, ◌∙◌}
use mathlib.Core.Bool.{true}
use mathlib.Core.List.{List, [], ◌∷◌}
use lib.ListN.{length, take}
use lib.Seq.{take-length}
use Rattle.temporal.specs.Lists.{any}
use Rattle.temporal.specs.Cursor.{path, no_path, last_path, refused}
use Rattle.temporal.specs.FirstNext.{list_of}
use Rattle.temporal.specs.Trace.{Event, called, wrote}
use Rattle.temporal.specs.TraceGiven.{given, EndsWhenAllOut}
use Rattle.lists.proofs.ListLaws.{not_both}
use Rattle.trace.proofs.TraceGives.{every_trace_gives}
use Rattle.demands.specs.PairLoads.{CountedByPair}
use Rattle.demands.specs.Demand3.{says_end, EveryWayAccounted}
use Rattle.demands.proofs.CountLaws.{pair_demand}

-- all being out, nothing more is given
none_left : (l : List (List ℕ)) (k : ℕ) (es : List Event) → k ≡ length l → EndsWhenAllOut l k es → length (given es) ≡ 0
unfolding EndsWhenAllOut given
none_left l k [] all e = refl
none_left l k (called c (path h) after ∷ es) all e = absurd (let more = e.0 in omega arith)
none_left l k (called c no_path after ∷ es) all e = none_left l k es all e.1
none_left l k (called c last_path after ∷ es) all e = none_left l k es all e.1
none_left l k (called c (refused j) after ∷ es) all e = none_left l k es all e
none_left l k (wrote behind ∷ es) all e = none_left l k es all e

-- k being out before, events that say "none" or "last" give all the others
rest_given :
    (l : List (List ℕ)) (k : ℕ) (es : List Event) → any says_end es ≡ true → EndsWhenAllOut l k es →
    k + length (given es) ≡ length l
unfolding EndsWhenAllOut given any says_end
rest_given l k [] says e = absurd (not_both says refl)
rest_given l k (called c (path h) after ∷ es) says e = omega (arith, rest_given l (k + 1) es says e.1)
rest_given l k (called c no_path after ∷ es) says e = omega (arith, e.0, none_left l k es e.0 e.1)
rest_given l k (called c last_path after ∷ es) says e = omega (arith, e.0, none_left l k es e.0 e.1)
rest_given l k (called c (refused j) after ∷ es) says e = rest_given l k es says e
rest_given l k (wrote behind ∷ es) says e = rest_given l k es says e

-- what is given is then the whole list
pub every_way_accounted : EveryWayAccounted
every_way_accounted q asked e es s says old r new a =
    let g = every_trace_gives q asked e es s in
    let size : length (given (e ∷ es)) ≡ length (list_of q) = omega (arith, rest_given (list_of q) 0 (e ∷ es) says g.ends) in
    let whole : given (e ∷ es) ≡ list_of q = g.first_ones ∙ ap (λ n. take n (list_of q)) size ∙ take-length (list_of q) in
    subst (λ ways. CountedByPair q ways r new) (sym whole) (pair_demand q old r new a).0
