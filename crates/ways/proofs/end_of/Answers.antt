-- `ways::end_of` meets its contract. The loop's invariant: the first entries lead to x.
-- Assumes nothing.
use native.Mathlib.Omega.{arith}
use mathlib.Core.Path.{◌∙◌}
use Prim.Native.Nat.{◌<◌}
use Rattle.std.proofs.lemmas.List.{get_or-take, length-take-le}
use Rattle.ways.proofs.CodeLaws.{walking_none, walking_more, walking_off, walking_end}
use Rattle.ways.proofs.end_of.Goals as goal

pub loop-i-init : goal.loop-i-init
loop-i-init c = walking_none _ _ _ _ _

pub returns-in_err-x : goal.returns-in_err-x
returns-in_err-x c =
    let a = c.args in
    let more : c.loop-i.i-index < a.k = omega (arith, length-take-le a.k a.way.now c.requires) in
    let entry = c.from.ensures ∙ get_or-take a.k a.way.now _ 0 more in
    rw c.from_residual.ensures (
    walking_off _ _ _ _ _ _ _ c.loop-i.invariant more c.requires _ _ entry c.step_on.ensures c.in_err-x.was _ _)

pub loop-i-preserved : goal.loop-i-preserved
loop-i-preserved c =
    let a = c.args in
    let more : c.loop-i.i-index < a.k = omega (arith, length-take-le a.k a.way.now c.requires) in
    let entry = c.from.ensures ∙ get_or-take a.k a.way.now _ 0 more in
    walking_more _ _ _ _ _ _ _ c.loop-i.invariant more c.requires _ _ entry c.step_on.ensures _ c.in_ok-x.was

pub returns : goal.returns
returns c =
    walking_end _ _ _ _ _ _ _ c.loop-i.invariant
    (omega (arith, length-take-le c.args.k c.args.way.now c.requires)) _ _
