-- `memory::fill_part` meets its contract.
-- Assumes nothing.
use native.Mathlib.Omega.{arith}
use mathlib.Core.Path.{◌≡◌, ap, sym, ◌∙◌}
use Prim.Native.Nat.{◌+◌, ◌-◌}
use lib.ListN.{length, take, drop, replicate}
use Rattle.std.proofs.lemmas.List.{length-take-le, length-drop, drop-drop}
use Rattle.memory.proofs.FillLaws.{filled_is}
use Rattle.memory.proofs.fill_part.Goals as goal

pub returns : goal.returns
returns c =
    let k : c.args.to + c.args.size - c.args.to ≡ c.args.size = omega arith in
    let n : length (take c.args.size (drop c.args.to c.args.table.now)) ≡ c.args.size =
    length-take-le _ _ (omega (arith, length-drop c.args.to c.args.table.now)) in
    let h : c.fill.new.self ≡ replicate c.args.size c.args.x = c.fill.ensures.after (λ y e. e) ∙ ap (λ j. replicate j c.args.x) (rw k n) in
    rw (k, h, drop-drop c.args.size c.args.to c.args.table.now) (sym (filled_is _ _ _ _ c.requires))
