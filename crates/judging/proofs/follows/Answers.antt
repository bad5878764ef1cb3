-- `judging::follows` meets its contract: the first leg where the ways differ, the leg there, and the legs behind it.
-- Assumes nothing.
use mathlib.Core.Path.{sym, ◌∙◌}
use native.Mathlib.Omega.{arith}
use borrow.Author.Tests.{le-ltb}
use Rattle.lists.proofs.ListLaws.{not_both}
use Rattle.judging.proofs.FollowLaws.{no_leg, follows_there, not_last, not_next}
use Rattle.judging.proofs.follows.Goals as goal
use Rattle.judging.proofs.follows.Goals.{then-leg-q, else-leg-q, then-next_leg, else-next_leg}

pub next_leg-requires : goal.next_leg-requires
next_leg-requires c =
    let pre = c.requires in
    (record { pair = pre.0.pair; leg = omega arith; room = pre.0.room }, let room = pre.1 in omega arith)

pub returns-then-last_legs : goal.returns-then-last_legs
returns-then-last_legs c =
    let pre = c.requires in
    elim c.if-next_leg.branch [
      | then-next_leg w ↦ elim c.if-leg-q.branch [
        | then-leg-q v ↦
            follows_there _ _ _ _ _ pre.0.room pre.1 c.alike-leg.ensures v.if-leg-q.true
            (v.next_leg.ensures.yes (sym v.value-is ∙ w.if-next_leg.true))
            (w.last_legs.ensures.yes (sym w.value-is ∙ c.if-last_legs.true)) _ c.first_legs.ensures
        | else-leg-q v ↦ absurd (not_both w.if-next_leg.true (v.value-is ∙ le-ltb _ _ v.if-leg-q.false))
      ]
      | else-next_leg w ↦ absurd (not_both c.if-last_legs.true (w.value-is ∙ w.if-next_leg.false))
    ]

pub returns-else-last_legs : goal.returns-else-last_legs
returns-else-last_legs c =
    let pre = c.requires in
    rw c.if-last_legs.false (elim c.if-next_leg.branch [
      | then-next_leg w ↦ elim c.if-leg-q.branch [
        | then-leg-q v ↦
            not_last _ _ _ _ _ c.alike-leg.ensures v.if-leg-q.true
            (w.last_legs.ensures.no (sym w.value-is ∙ c.if-last_legs.false))
        | else-leg-q v ↦ absurd (not_both w.if-next_leg.true (v.value-is ∙ le-ltb _ _ v.if-leg-q.false))
      ]
      | else-next_leg w ↦ elim c.if-leg-q.branch [
        | then-leg-q v ↦
            not_next _ _ _ _ _ pre.0.room pre.1 c.alike-leg.ensures v.if-leg-q.true
            (v.next_leg.ensures.no (sym v.value-is ∙ w.if-next_leg.false))
        | else-leg-q v ↦ no_leg _ _ _ _ _ c.alike-leg.ensures v.if-leg-q.false
      ]
    ])
