-- The frames so far are decoded, each sound keeps its length, and those behind are untouched.
use Rattle.std.proofs.Common.{◌≡◌, ℕ, ◌<◌, ◌≤◌, length, get_or}
use Rattle.dst_spec.specs.Sample.{sound_bytes}
use Rattle.dst_frames.specs.Batch.{IsDecoded, stored_in}
use Rattle.dst_frames.specs.declared.stored.StoredFrame.{StoredFrame}
use Rattle.dst_frames.specs.declared.stored.DecodedFrame.{DecodedFrame}
use Rattle.dst_frames.proofs.batch.decode_apart.Given as goal

abbrev pub invariant-loop-n : goal.invariant-loop-n
invariant-loop-n l = record {
  done : (m : ℕ) (frame : StoredFrame) (other : DecodedFrame) → m < l.n →
      IsDecoded l.channels (stored_in (get_or l.frames m frame)) (get_or l.heard m other).sound.items (get_or l.heard m other).answer;
  long : (m : ℕ) (other : DecodedFrame) → m < length l.frames → length (get_or l.heard m other).sound.items ≡ sound_bytes l.channels;
  left : (m : ℕ) (other : DecodedFrame) → l.n ≤ m → get_or l.heard m other ≡ get_or l.initial.heard m other;
}
