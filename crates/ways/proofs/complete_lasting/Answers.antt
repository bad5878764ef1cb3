-- `ways::complete_lasting` meets its contract. The loop's invariant: the start's column holds what starts with the records from j on, and
-- those from i on are stored. The measure is the number of records left to store and to fold in.
-- Assumes nothing.
use native.Mathlib.Omega.{arith}
use mathlib.Core.Path.{refl, sym, ◌∙◌}
use Rattle.walks.proofs.Accepted.{accepted}
use Rattle.ways.proofs.PassLaws.{passing_begun, passing_room, passing_look, passing_some, passing_store, passing_fold}
use Rattle.ways.proofs.PassLaws.{passing_end}
use Rattle.ways.proofs.complete_lasting.Goals as goal

pub overflow_add-width : goal.overflow_add-width
overflow_add-width c = omega (arith, (accepted _ _ _ c.requires.0.accepted).slots)

pub begin_back-requires : goal.begin_back-requires
begin_back-requires c = (c.requires.0.fits, omega arith, c.requires.0.destination)

pub loop-j-init : goal.loop-j-init
loop-j-init c =
    let (ready, keeps) = c.requires in
    passing_begun _ _ _ _ _ _ ready keeps _ _ c.begin_back.ensures refl

pub is_due-requires : goal.is_due-requires
is_due-requires c = passing_look _ _ _ _ _ _ _ _ _ c.loop-j.invariant c.loop-j-test.true

pub overflow_sub-i : goal.overflow_sub-i
overflow_sub-i c =
    let s = c.loop-j.invariant in
    let due = sym c.is_due.ensures ∙ c.if-is_due.true in
    omega (arith, passing_some _ _ _ _ _ _ _ _ _ s c.loop-j-test.true due)

pub store_back-requires : goal.store_back-requires
store_back-requires c =
    let s = c.loop-j.invariant in
    passing_room _ _ _ _ _ _ _ _ _ s _ (omega (arith, s.order))

pub loop-j-smaller-then-is_due : goal.loop-j-smaller-then-is_due
loop-j-smaller-then-is_due c =
    let s = c.loop-j.invariant in
    let due = sym c.is_due.ensures ∙ c.if-is_due.true in
    omega (arith, passing_some _ _ _ _ _ _ _ _ _ s c.loop-j-test.true due)

pub loop-j-preserved-then-is_due : goal.loop-j-preserved-then-is_due
loop-j-preserved-then-is_due c =
    let s = c.loop-j.invariant in
    let due = sym c.is_due.ensures ∙ c.if-is_due.true in
    passing_store _ _ _ _ _ _ _ _ _ s c.loop-j-test.true due _
    c.store_back.ensures

pub fold_back-requires : goal.fold_back-requires
fold_back-requires c = passing_room _ _ _ _ _ _ _ _ _ c.loop-j.invariant _ (omega arith)

pub loop-j-preserved : goal.loop-j-preserved
loop-j-preserved c =
    let s = c.loop-j.invariant in
    let due = sym c.is_due.ensures ∙ c.if-is_due.false in
    passing_fold _ _ _ _ _ _ _ _ _ s c.loop-j-test.true due _
    c.fold_back.ensures

pub shape_of-work : goal.shape_of-work
shape_of-work c = c.loop-j.invariant.same ∙ c.begin_back.auto.work

pub returns : goal.returns
returns c =
    let begun = c.begin_back.ensures in
    passing_end _ _ _ _ _ _ _ begun _ _ _ c.loop-j.invariant c.loop-j-test.false
