-- `ways::begin_back` meets its contract. The loop's invariant: the first entries of the stations below v are cleared.
-- Assumes nothing.
use native.Mathlib.Omega.{arith}
use Rattle.ways.proofs.ColumnLaws.{clearing_none, clearing_room, clearing_more, clearing_all}
use Rattle.ways.proofs.begin_back.Goals as goal

pub loop-v-init : goal.loop-v-init
loop-v-init c = clearing_none _ _ _

pub overflow_mul-work : goal.overflow_mul-work
overflow_mul-work c =
    let (fits, some, inside) = c.requires in
    let room = clearing_room _ _ _ fits some _ _ c.loop-v.invariant _ c.loop-v-test.true in
    omega (arith, room, c.loop-v.invariant.same, c.well_formed.0.0)

pub bounds-work-v : goal.bounds-work-v
bounds-work-v c =
    let (fits, some, inside) = c.requires in
    clearing_room _ _ _ fits some _ _ c.loop-v.invariant _ c.loop-v-test.true

pub loop-v-preserved : goal.loop-v-preserved
loop-v-preserved c = clearing_more _ _ _ c.requires.0 c.requires.1 _ _ c.loop-v.invariant c.loop-v-test.true

pub overflow_mul-work-2 : goal.overflow_mul-work-2
overflow_mul-work-2 c =
    let (fits, some, inside) = c.requires in
    let room = clearing_room _ _ _ fits some _ _ c.loop-v.invariant _ inside in
    omega (arith, room, c.loop-v.invariant.same, c.well_formed.0.0)

pub bounds-work-z : goal.bounds-work-z
bounds-work-z c =
    let (fits, some, inside) = c.requires in
    clearing_room _ _ _ fits some _ _ c.loop-v.invariant _ inside

pub shape_of-work : goal.shape_of-work
shape_of-work c =
    let (fits, some, inside) = c.requires in
    (clearing_all _ _ _ fits some _ _ c.loop-v.invariant _ inside c.loop-v-test.false).same

pub returns : goal.returns
returns c =
    let (fits, some, inside) = c.requires in
    clearing_all _ _ _ fits some _ _ c.loop-v.invariant _ inside c.loop-v-test.false
