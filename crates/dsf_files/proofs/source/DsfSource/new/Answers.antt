-- No row is held yet, and what the header says of the file gives the plain form that stands for it.
use Rattle.dsf_files.proofs.Reading.{plain_of_form}
use Rattle.dsf_files.proofs.source.DsfSource.new.Goals as goal

pub invariant_of-result : goal.invariant_of-result
invariant_of-result g c = record {
  blocks = c.requires.blocks;
  order = c.requires.order;
  says = c.requires.says;
  plain = plain_of_form _ c.args.form c.count-count.ensures.shape c.requires.order c.requires.says;
  holds = tt;
}
