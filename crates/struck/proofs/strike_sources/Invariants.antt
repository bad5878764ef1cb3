-- `struck::strike_sources` meets its contract. The loop's invariant: the sources before the one worked on are done (Striking), and what is
-- known of the next ones without the record holds (Knows).
-- Assumes nothing.
use Rattle.plan.specs.Setting.{terms_of}
use Rattle.temporal.specs.Struck.{lacking_record}
use Rattle.forward.specs.Passed.{Knows}
use Rattle.struck.proofs.StrikeLaws.{Striking}
use Rattle.struck.proofs.strike_sources.Given as goal

abbrev pub invariant-loop-source : goal.invariant-loop-source
invariant-loop-source l =
    Striking l.plan l.out l.setting.stations l.setting.slots (terms_of l.setting) l.base l.initial.work l.source l.work l.pairs ×
    Knows (lacking_record l.plan l.out) l.setting.stations l.setting.slots (terms_of l.setting) l.source l.setting.stations l.splits
