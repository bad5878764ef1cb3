-- `account::put_between` meets its contract: nothing where the pair is no pair of the station, else its text.
-- Assumes nothing.
use Rattle.account.proofs.BetweenLaws.{between_same, between_refused, between_none, between_share, between_figures, between_writable, between_written}
use Rattle.account.proofs.put_between.Goals as goal

pub returns-then-s-z : goal.returns-then-s-z
returns-then-s-z c = between_same _ _ _ _ _ _ _ _ _ _ _ _ _ _ c.requires c.if-s-z.true

pub returns-in_default : goal.returns-in_default
returns-in_default c =
    between_refused _ _ _ _ _ _ _ _ _ _ _ _ _ _ c.requires c.if-s-z.false _ _ _ c.pair.ensures _ c.in_default.is

pub returns-then-x-eq0 : goal.returns-then-x-eq0
returns-then-x-eq0 c =
    between_none _ _ _ _ _ _ _ _ _ _ _ _ _ _ c.requires c.if-s-z.false _ _ _ c.pair.ensures _ c.in-Ok.is c.if-x-eq0.true

pub share-requires : goal.share-requires
share-requires c =
    between_share _ _ _ _ _ _ _ _ _ _ _ _ _ _ c.requires c.if-s-z.false _ _ _ c.pair.ensures _ c.in-Ok.is c.if-x-eq0.false

pub put_pair-requires : goal.put_pair-requires
put_pair-requires c =
    let answer = c.pair in
    let told = c.in-Ok.is in
    let some = c.if-x-eq0.false in
    between_writable _ _ _ _ _ _ _ _ _ _ _ _ _ c.args.out.now c.requires c.if-s-z.false _ _ _ answer.ensures _ told some _
    (between_figures _ _ _ _ _ _ _ _ _ _ _ _ _ c.args.out.now c.requires c.if-s-z.false _ _ _ answer.ensures _ told some _
    c.share.ensures) answer.auto.work

pub returns : goal.returns
returns c =
    let answer = c.pair in
    let told = c.in-Ok.is in
    let some = c.if-x-eq0.false in
    between_written _ _ _ _ _ _ _ _ _ _ _ _ _ _ c.requires c.if-s-z.false _ _ _ answer.ensures _ told some _
    (between_figures _ _ _ _ _ _ _ _ _ _ _ _ _ _ c.requires c.if-s-z.false _ _ _ answer.ensures _ told some _
    c.share.ensures) _ _ c.put_pair.ensures
