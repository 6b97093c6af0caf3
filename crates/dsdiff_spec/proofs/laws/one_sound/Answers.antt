-- Each frame means one sound, or none and zeros stand for it, so there is one list of sounds for all frames.
use Rattle.dsdiff_spec.proofs.OneSound.{one_sound as law}
use Rattle.dsdiff_spec.proofs.laws.one_sound.Goals as goal

pub returns : goal.returns
returns c = law
