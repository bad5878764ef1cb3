-- `listing::first_work` meets its contract: 9, the empty list, or the first walk.
-- Assumes nothing.
use Rattle.listing.specs.Answer.{question}
use native.Mathlib.Omega.{arith}
use mathlib.Core.Path.{refl}
use Rattle.listing.proofs.WorkLaws.{pass_ready, worked_too_many, worked_no_path, ready_startable, worked_first}
use Rattle.listing.proofs.first_work.Goals as goal

pub pass-requires : goal.pass-requires
pass-requires c = pass_ready (question _ _ _ _ _ _ _) _ _ c.requires

pub returns-then-pass : goal.returns-then-pass
returns-then-pass c = worked_too_many _ _ _ c.requires _ _ c.pass.ensures _ c.if-pass.true

pub returns-then-hops-eq65535 : goal.returns-then-hops-eq65535
returns-then-hops-eq65535 c = worked_no_path _ _ _ c.requires _ _ c.pass.ensures c.if-pass.false _ refl (omega arith)

pub first_path-requires : goal.first_path-requires
first_path-requires c =
    ready_startable (question _ _ _ _ _ _ _) _ _ c.requires _ _ c.pass.ensures c.if-pass.false _ refl
    (λ e. c.if-hops-eq65535.false e) _ c.complete.ensures

pub returns : goal.returns
returns c =
    worked_first _ _ _ c.requires _ _ c.pass.ensures c.if-pass.false _ refl (λ e. c.if-hops-eq65535.false e) _
    c.complete.ensures _ c.first_path.ensures
