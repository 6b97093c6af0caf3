-- So many bytes of each channel are decoded, and a lane has used at most 384 bits for one byte of all channels.
use Rattle.std.proofs.Common.{◌≡◌, ℕ, ◌*◌, ◌<◌, length, get_or}
use Rattle.dst_frames.specs.Eight.{states_at, tables_at}
use Rattle.dst_frames.specs.Batch.{IsLaneFurther, code_at}
use Rattle.dst_frames.specs.Running.{AreChances, LaneDecoded}
use Rattle.dst_frames.specs.declared.stored.DecodedFrame.{DecodedFrame}
use Rattle.dst_frames.proofs.octets.decode_octets.Given as goal

abbrev pub invariant-loop-byte : goal.invariant-loop-byte
invariant-loop-byte l = record {
  lanes : (n : ℕ) → n < 8 → IsLaneFurther l.fn.lanes l.lanes n (code_at l.frames n) (384 * l.byte);
  chances : AreChances l.rows l.count;
  long : (n : ℕ) (frame : DecodedFrame) → n < length l.fn.heard →
      length (get_or l.heard n frame).sound.items ≡ length (get_or l.fn.heard n frame).sound.items;
  sound : (n : ℕ) (frame : DecodedFrame) → n < l.count →
      LaneDecoded n 0 l.byte (code_at l.frames n) l.fn.lanes l.lanes (tables_at l.tables l.numbers n) (states_at l.fn.rows n) (states_at l.rows n)
      (get_or l.fn.heard n frame).sound.items (get_or l.heard n frame).sound.items;
}

abbrev pub invariant-loop-byte-2 : goal.invariant-loop-byte-2
invariant-loop-byte-2 l = record {
  lanes : (n : ℕ) → n < 8 → IsLaneFurther l.fn.lanes l.lanes n (code_at l.frames n) (384 * l.byte);
  chances : AreChances l.rows l.count;
  long : (n : ℕ) (frame : DecodedFrame) → n < length l.fn.heard →
      length (get_or l.heard n frame).sound.items ≡ length (get_or l.fn.heard n frame).sound.items;
  sound : (n : ℕ) (frame : DecodedFrame) → n < l.count →
      LaneDecoded n 0 l.byte (code_at l.frames n) l.fn.lanes l.lanes (tables_at l.tables l.numbers n) (states_at l.fn.rows n) (states_at l.rows n)
      (get_or l.fn.heard n frame).sound.items (get_or l.heard n frame).sound.items;
}
