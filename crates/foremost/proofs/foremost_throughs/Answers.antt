-- `foremost::foremost_throughs` meets its contract.
-- Assumes nothing.
use Rattle.foremost.proofs.WorkLaws.{whole_area, foremosts_over, foremosts_ready, foremosts_counted}
use Rattle.foremost.proofs.foremost_throughs.Goals as goal

pub appearance_too_many-requires : goal.appearance_too_many-requires
appearance_too_many-requires c = whole_area _ _ _ _ _ _ _ _ c.requires.0 c.requires.1

pub returns-then-appearance_too_many : goal.returns-then-appearance_too_many
returns-then-appearance_too_many c = foremosts_over _ _ _ _ _ _ _ _ c.requires.0 c.requires.1 _ _ c.appearance_too_many.ensures c.if-appearance_too_many.true

pub throughs-requires : goal.throughs-requires
throughs-requires c = foremosts_ready _ _ _ _ _ _ _ _ c.requires.0 c.requires.1 _ _ c.appearance_too_many.ensures

pub returns : goal.returns
returns c = foremosts_counted _ _ _ _ _ _ _ _ c.requires.0 c.requires.1 _ _ c.appearance_too_many.ensures c.if-appearance_too_many.false _ _ _ c.throughs.ensures
