-- Behind the second loop every byte of each channel is decoded.
use Rattle.std.proofs.Common.{◌≡◌, arith, subst}
use Rattle.dst_frames.specs.Underway.{IsDecodedTo}
use Rattle.dst_frames.proofs.samples.decode_samples.Goals as goal

pub returns-clause-sound : goal.returns-clause-sound
returns-clause-sound c = λ f P reserved count built start.
    let all : c.loop-byte-2.byte ≡ c.args.octets = omega arith in
    subst (λ n. IsDecodedTo f P reserved n c.loop-byte-2.out c.loop-byte-2.decoder c.loop-byte-2.states) all
    (c.loop-byte-2.invariant.sound f P reserved count built start)
