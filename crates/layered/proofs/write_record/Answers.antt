-- `layered::write_record` meets its contract: a copy of the six bytes into their place.
-- Assumes nothing.
use Rattle.plan.specs.Record.{contact_of}
use Rattle.layered.proofs.WritingLaws.{put_record}
use Rattle.layered.proofs.write_record.Goals as goal

pub returns : goal.returns
returns c = put_record c.args.at c.args.out.now _ (contact_of c.args.c) c.requires.0 c.copy_from_slice.ensures.after
