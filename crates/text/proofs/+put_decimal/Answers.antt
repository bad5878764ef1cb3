-- `text::put_decimal` meets its contract.
-- Assumes nothing.
use Rattle.std.proofs.Common.{◌+◌, arith, ◌∙◌, length-set}
use Rattle.text.proofs.DivisionLaws.{length_tenth, digit_room, digit_put, tenth_put}
use Rattle.text.proofs.+put_decimal.Goals as goal

pub bounds-out-at : goal.bounds-out-at
bounds-out-at t c = digit_room _ _ c.args.out.now c.requires

pub overflow_add-result : goal.overflow_add-result
overflow_add-result t c = omega (arith, digit_room _ _ c.args.out.now c.requires)

pub shape_of-out-then-x-lt10 : goal.shape_of-out-then-x-lt10
shape_of-out-then-x-lt10 t c = length-set c.args.out.now c.args.at (c.args.x + 48)

pub returns-then-x-lt10 : goal.returns-then-x-lt10
returns-then-x-lt10 t c = digit_put _ _ _ c.requires c.if-x-lt10.true

pub put_decimal-end-requires : goal.put_decimal-end-requires
put_decimal-end-requires t c =
    let parts = length_tenth c.args.x c.if-x-lt10.false (omega arith) in
    (omega (arith, c.requires), omega (arith, c.requires, parts))

pub put_decimal-requires : goal.put_decimal-requires
put_decimal-requires t c =
    let parts = length_tenth c.args.x c.if-x-lt10.false (omega arith) in
    let tenth = c.put_decimal-end in
    (omega (arith, c.requires), omega (arith, c.requires, parts, tenth.ensures.place, tenth.auto.out))

pub shape_of-out : goal.shape_of-out
shape_of-out t c = c.put_decimal.auto.out ∙ c.put_decimal-end.auto.out

pub returns : goal.returns
returns t c =
    tenth_put _ _ _ c.requires c.if-x-lt10.false (omega arith) _ _ c.put_decimal-end.ensures _ _ c.put_decimal.ensures
