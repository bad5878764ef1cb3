-- `tallies::tally_sources` meets its contract. The loop's invariant: the sources below the one worked on are done (Summing), and what is
-- known of the next ones holds (Knows).
-- Assumes nothing.
use lib.ListN.{length}
use Rattle.plan.specs.Setting.{terms_of}
use Rattle.temporal.specs.Struck.{lacking_record}
use Rattle.forward.specs.Passed.{Knows}
use Rattle.tallies.proofs.SourceLaws.{Summing}
use Rattle.tallies.proofs.tally_sources.Given as goal

abbrev pub invariant-loop-source : goal.invariant-loop-source
invariant-loop-source l =
    Summing l.plan l.setting.stations l.setting.slots (terms_of l.setting) l.k l.base l.initial.work l.source l.work ×
    Knows (lacking_record l.plan (length l.plan)) l.setting.stations l.setting.slots (terms_of l.setting) l.source l.k l.splits
