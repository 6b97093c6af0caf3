-- The head and the entries of the frames that the loop has passed are written.
use Rattle.std.proofs.Common.{◌≡◌, ◌+◌, ◌*◌, ◌^◌, ◌≤◌, ◌++◌, length, take, flat_map}
use Rattle.std.specs.Prelude.{codes}
use Rattle.byteorder.specs.Endian.{big_bytes}
use Rattle.dst_commands.specs.Writing.{Adds}
use Rattle.dsdiff_spec.proofs.ByteLists.{entry_bytes}
use Rattle.dst_write.specs.Layout.{entries_by, frames_size}
use Rattle.dst_write.proofs.around.write_index.Given as goal

abbrev pub invariant-loop-size : goal.invariant-loop-size
invariant-loop-size g l = record {
  place : l.place ≡ l.first + frames_size (take l.size-index l.sizes);
  most : l.place ≤ 2 ^ 62 + l.size-index * 2 ^ 33;
  appended : g.K.Sink.appended l.fn.sink ≤ g.K.Sink.appended l.sink;
  faults : g.K.Sink.faults l.fn.sink ≤ g.K.Sink.faults l.sink;
  written : Adds (codes "DSTI" ++ big_bytes 8 (12 * length l.sizes) ++ flat_map entry_bytes (entries_by l.first (take l.size-index l.sizes)))
      (g.K.Sink.written l.fn.sink) (g.K.Sink.written l.sink) (g.K.Sink.room l.fn.sink) (g.K.Sink.room l.sink);
}
