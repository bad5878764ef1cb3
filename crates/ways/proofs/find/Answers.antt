-- `ways::find` meets its contract. The loop's invariant: what the search finds from i on is what it finds. The measure is the
-- number of positions left.
-- Assumes nothing.
use native.Mathlib.Omega.{arith}
use mathlib.Core.Path.{refl, sym, ◌∙◌}
use Rattle.ways.proofs.CodeLaws.{search_on, search_nothing, search_here}
use Rattle.ways.proofs.find.Goals as goal

pub loop-i-init : goal.loop-i-init
loop-i-init c = refl

pub serves-requires : goal.serves-requires
serves-requires c = c.requires

pub overflow_add-i : goal.overflow_add-i
overflow_add-i c = omega arith

pub loop-i-smaller : goal.loop-i-smaller
loop-i-smaller c = omega arith

pub loop-i-preserved : goal.loop-i-preserved
loop-i-preserved c = search_on c.args.plan.now _ _ _ _ c.loop-i.invariant (omega arith) (sym c.serves.ensures ∙ c.if-serves.false)

pub returns-then-m-i : goal.returns-then-m-i
returns-then-m-i c = search_nothing _ _ _ _ _ c.loop-i.invariant refl c.if-m-i.true

pub returns-then-serves : goal.returns-then-serves
returns-then-serves c = search_here _ _ _ _ _ c.loop-i.invariant refl (omega arith) (sym c.serves.ensures ∙ c.if-serves.true)
