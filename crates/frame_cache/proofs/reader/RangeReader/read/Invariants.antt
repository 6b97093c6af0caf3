-- The frames in front of the next one were wanted, and the bytes in front of it are read.
use Rattle.std.proofs.Common.{◌≡◌, ℕ, ◌+◌, ◌-◌, ◌*◌, ◌/◌, ◌≤◌, List, length, take, Some}
use Rattle.std.specs.Prelude.{min}
use Rattle.std.specs.List.{range_with_len}
use Rattle.dsdiff_spec.specs.Bytes.{bytes_at}
use Rattle.dsdiff_spec.specs.Form.{Form}
use Rattle.dsdiff_spec.specs.Ranges.{Sound}
use Rattle.frame_cache.specs.Reader.{IsReaderOf, HoldsSounds}
use Rattle.frame_cache.specs.Reads.{HasWanted}
use Rattle.frame_cache.proofs.reader.RangeReader.read.Given as goal

abbrev pub invariant-loop-frame : goal.invariant-loop-frame
invariant-loop-frame g l = record {
  bytes : g.S.Source.bytes l.source ≡ g.S.Source.bytes l.initial.source;
  known : g.S.Source.known l.source ≡ g.S.Source.known l.initial.source;
  later : g.S.Source.faults l.initial.source ≤ g.S.Source.faults l.source;
  quiet : g.S.Source.faults l.source ≡ g.S.Source.faults l.initial.source;
  long : length l.out ≡ length l.initial.out;
  wanted : HasWanted l.initial.self l.self (range_with_len (l.from / l.bytes) (l.frame - l.from / l.bytes)) l.decoded
      (g.S.Source.bytes l.initial.source) (g.S.Source.given l.initial.source) (g.S.Source.given l.source);
  sound : (file : List ℕ) (form : Form) (sound : List ℕ) → g.S.Source.bytes l.initial.source ≡ Some file → HoldsSounds file l.initial.self →
      IsReaderOf file form l.initial.self → Sound file form sound →
      take (min (l.from + length l.initial.out) (l.frame * l.bytes) - l.from) l.out ≡ bytes_at sound l.from
      (min (l.from + length l.initial.out) (l.frame * l.bytes) - l.from);
}
