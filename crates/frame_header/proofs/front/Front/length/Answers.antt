-- There are as many bits as the count says.
use Rattle.std.proofs.Common.{sym}
use Rattle.dst_spec.proofs.Numbers.{length-low_bits}
use Rattle.frame_header.proofs.front.Front.length.Goals as goal

pub returns-clause-length : goal.returns-clause-length
returns-clause-length c = rw (← c.self.view_is) (sym (length-low_bits c.self.inside.count c.self.inside.number))
