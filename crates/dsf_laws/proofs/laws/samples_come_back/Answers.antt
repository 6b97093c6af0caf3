-- By `ComingBack`: `DSFK` comes back with the numbers of the header, and the sounds of the frames, joined, begin with the file's.
use Rattle.dsf_laws.proofs.ComingBack.{samples_come_back as law}
use Rattle.dsf_laws.proofs.laws.samples_come_back.Goals as goal

pub returns : goal.returns
returns c = law
