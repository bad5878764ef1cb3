-- `judging::judge_ways` meets its contract: the first way, the ways behind it, and the last one.
-- Assumes nothing.
use mathlib.Core.Path.{sym, ◌∙◌}
use Rattle.lists.proofs.ListLaws.{not_both}
use Rattle.judging.specs.Judge.{verdict_of, FirstWays}
use Rattle.ways.specs.Found.{list_in}
use Rattle.judging.proofs.JudgeLaws.{one_way, no_first, all_out, some_left, is_wrong}
use Rattle.judging.proofs.judge_ways.Goals as goal
use Rattle.judging.proofs.judge_ways.Goals.{then-first_legs, else-first_legs, Else-not-ways_follow}

pub returns-then-not-ways_follow : goal.returns-then-not-ways_follow
unfolding verdict_of
returns-then-not-ways_follow c =
    let pre = c.requires in
    elim c.if-first_legs.branch [
      | then-first_legs w ↦
          is_wrong _ _ _ pre.pair _ (w.ways_follow.ensures.no (sym w.value-is ∙ c.if-not-ways_follow.true))
      | else-first_legs w ↦
          is_wrong _ _ _ pre.pair _ (no_first _ _ _ pre.pair _ (one_way _ _ _ _ pre) (c.first_legs.ensures.no w.if-first_legs.false))
    ]

-- the entries are first ways of the list
continued : (c : Else-not-ways_follow) → FirstWays (list_in c.args.plan.now c.args.q) c.args.list.now
continued c =
    elim c.if-first_legs.branch [
      | then-first_legs w ↦ w.ways_follow.ensures.yes (sym w.value-is ∙ c.if-not-ways_follow.false)
      | else-first_legs w ↦ absurd (not_both c.if-not-ways_follow.false (w.value-is ∙ w.if-first_legs.false))
    ]

pub returns-then-last_way : goal.returns-then-last_way
unfolding verdict_of
returns-then-last_way c =
    all_out _ _ _ c.requires.pair _ (continued (goal.at.returns-then-last_way c).Else-not-ways_follow)
    (c.last_way.ensures.yes c.if-last_way.true)

pub returns : goal.returns
unfolding verdict_of
returns c =
    some_left _ _ _ c.requires.pair _ (continued (goal.at.returns c).Else-not-ways_follow)
    (c.last_way.ensures.no c.if-last_way.false)
