-- So many bytes of each channel are decoded, by at most 384 bits of code for each byte of all channels.
use Rattle.std.proofs.Common.{◌*◌}
use Rattle.dst_frames.specs.Underway.{IsFurther, AreDecoded}
use Rattle.dst_frames.proofs.samples.decode_samples.Given as goal

abbrev pub invariant-loop-byte : goal.invariant-loop-byte
invariant-loop-byte l = record {
  code : IsFurther l.initial.decoder l.decoder (384 * l.byte);
  sound : AreDecoded l.tables 0 l.byte l.initial.out l.out l.initial.decoder l.decoder l.initial.states l.states;
}

abbrev pub invariant-loop-byte-2 : goal.invariant-loop-byte-2
invariant-loop-byte-2 l = record {
  code : IsFurther l.fn.decoder l.decoder (384 * l.byte);
  sound : AreDecoded l.tables 0 l.byte l.fn.out l.out l.fn.decoder l.decoder l.fn.states l.states;
}
