-- `ways::advance` meets its contract.
-- Assumes nothing.
use Rattle.std.proofs.Common.{◌+◌, arith, refl, ap, ◌∙◌}
use Rattle.ways.proofs.ListingLaws.{advanced_zero}
use Rattle.ways.proofs.AdvanceLaws.{leg_inside, last_ready, advance_here, front_ready, advance_none, advance_behind}
use Rattle.ways.proofs.+advance.Goals as goal

pub returns-then-leg-eq0 : goal.returns-then-leg-eq0
returns-then-leg-eq0 t c = advanced_zero _ _ _ c.if-leg-eq0.true

pub bounds-way-last : goal.bounds-way-last
bounds-way-last t c = omega (arith, leg_inside _ _ _ _ _ c.requires (omega arith))

pub place-requires : goal.place-requires
place-requires t c = last_ready _ _ _ _ _ c.requires (omega arith) _ refl

pub returns-then-place : goal.returns-then-place
returns-then-place t c =
    advance_here _ _ _ _ _ c.requires (omega arith) _ (ap (λ k. k + 1) c.from-from.ensures) c.place.ensures c.if-place.true

pub advance-requires : goal.advance-requires
advance-requires t c = (
  omega (arith, c.decreases),
  front_ready _ _ _ _ _ c.requires (omega arith) _ (ap (λ k. k + 1) c.from-from.ensures) c.place.ensures c.if-place.false,
)

pub place-requires-then-advance : goal.place-requires-then-advance
place-requires-then-advance t c =
    last_ready _ _ _ _ _ c.requires (omega (arith, c.if-leg-eq0.false)) _ (c.advance.auto.way ∙ c.place.auto.way)

pub returns-then-advance : goal.returns-then-advance
returns-then-advance t c =
    advance_behind
    _
    _
    _
    _
    _
    c.requires
    (omega (arith, c.if-leg-eq0.false))
    _
    (ap (λ k. k + 1) c.from-from.ensures)
    c.place.ensures
    c.if-place.false
    c.advance.ensures
    c.if-advance.true
    (c.advance.auto.way ∙ c.place.auto.way)
    c.place-then-advance.ensures

pub returns-else-advance : goal.returns-else-advance
returns-else-advance t c =
    advance_none
    _
    _
    _
    _
    _
    c.requires
    (omega (arith, c.if-leg-eq0.false))
    _
    (ap (λ k. k + 1) c.from-from.ensures)
    c.place.ensures
    c.if-place.false
    c.advance.ensures
    c.if-advance.false
