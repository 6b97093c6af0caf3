-- The frames that the loop has passed are stored in their bytes, are no longer than frames may be, and their sounds have the right length.
use Rattle.std.proofs.Common.{◌≡◌, ℕ, ◌+◌, ◌*◌, ◌<◌, ◌≤◌, length, get_or}
use Rattle.dst_spec.specs.Sample.{sound_bytes}
use Rattle.dst_frames.specs.declared.stored.StoredFrame.{StoredFrame}
use Rattle.dst_frames.specs.declared.stored.DecodedFrame.{DecodedFrame}
use Rattle.frame_tests.proofs.frames.are_fit.Given as goal

abbrev pub invariant-loop-n : goal.invariant-loop-n
invariant-loop-n l = record {
  stored : (n : ℕ) (other : StoredFrame) → n < l.n → (get_or l.frames n other).size ≤ length (get_or l.frames n other).bytes.items;
  frames : (n : ℕ) (other : StoredFrame) → n < l.n → (get_or l.frames n other).size ≤ 2 * (sound_bytes l.fn.channels + 1);
  sounds : (n : ℕ) (other : DecodedFrame) → n < l.n → length (get_or l.heard n other).sound.items ≡ sound_bytes l.fn.channels;
}
