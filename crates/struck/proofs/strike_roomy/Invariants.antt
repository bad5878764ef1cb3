-- `struck::strike_roomy` meets its contract. The loop's invariant: the sources before the one worked on are done in both plans (Pairing), and
-- what is known of the next ones in each holds (Knows).
-- Assumes nothing.
use lib.ListN.{length}
use Rattle.plan.specs.Setting.{terms_of}
use Rattle.temporal.specs.Struck.{lacking_record}
use Rattle.forward.specs.Passed.{Knows}
use Rattle.struck.proofs.ParkLaws.{Pairing}
use Rattle.struck.proofs.strike_roomy.Given as goal

abbrev pub invariant-loop-source : goal.invariant-loop-source
invariant-loop-source l =
    Pairing l.plan l.out l.setting.stations l.setting.slots (terms_of l.setting) l.base l.initial.work l.source l.work l.pairs ×
    Knows (lacking_record l.plan (length l.plan)) l.setting.stations l.setting.slots (terms_of l.setting) l.source l.setting.stations l.whole ×
    Knows (lacking_record l.plan l.out) l.setting.stations l.setting.slots (terms_of l.setting) l.source l.setting.stations l.lacking
