-- Where `DST ` ends, has too many chunks or no room for a head, the stream comes to its end or that fault.
use Rattle.std.proofs.Common.{arith, ◌∙◌}
use Rattle.push_decoder.proofs.SoundSteps.{counted_at, too_many_at, overruns_at}
use Rattle.push_decoder.proofs.sound.sound_at.Goals as goal

pub returns-then-place-sound-clause-goes_on : goal.returns-then-place-sound-clause-goes_on
returns-then-place-sound-clause-goes_on c w version prop =
    counted_at w c.args.sound c.args.place (omega arith) ∙ c.ending.ensures.goes_on w version prop

pub returns-then-sound-eq-MOST_CHUNKS-clause-goes_on : goal.returns-then-sound-eq-MOST_CHUNKS-clause-goes_on
returns-then-sound-eq-MOST_CHUNKS-clause-goes_on c w version prop = too_many_at w c.args.sound c.args.place (omega arith) (omega arith)

pub returns-then-sound-place-lt12-clause-goes_on : goal.returns-then-sound-place-lt12-clause-goes_on
returns-then-sound-place-lt12-clause-goes_on c w version prop = overruns_at w c.args.sound c.args.place (omega arith) (omega arith) (omega arith)
