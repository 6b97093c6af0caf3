-- The entries that the loop has passed stand in front of the buffer.
use Rattle.std.proofs.Common.{◌≡◌, ◌*◌, length, take, drop}
use Rattle.dst_cut.specs.CutLayout.{entries_left, index_bytes}
use Rattle.dst_cut.proofs.cut_index.fill_entries.Given as goal

abbrev pub invariant-loop-next : goal.invariant-loop-next
invariant-loop-next l = record {
  long : length l.buffer ≡ length l.initial.buffer;
  entries : take (12 * l.next) l.buffer ≡ index_bytes (take l.next (drop l.k (entries_left l.cut.index l.cut.first l.cut.last l.place)));
}
