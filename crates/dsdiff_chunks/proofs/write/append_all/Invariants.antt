-- The pieces so far are written one behind the other, behind what the sink had.
use Rattle.std.proofs.Common.{◌≡◌, ℕ, ◌+◌, ◌-◌, ◌≤◌, Some, flat_map, length, take}
use Rattle.dst_streams.specs.Told.{and_then}
use Rattle.dsdiff_chunks.proofs.write.append_all.Given as goal

-- the pieces up to this one are written
abbrev pub invariant-loop-piece : goal.invariant-loop-piece
invariant-loop-piece g l = record {
  written : g.K.Sink.written l.sink ≡ and_then (g.K.Sink.written l.initial.sink) (flat_map (λ p. p.now) (take l.piece-index l.pieces));
  appended : g.K.Sink.appended l.sink ≡ g.K.Sink.appended l.initial.sink + length (flat_map (λ p. p.now) (take l.piece-index l.pieces));
  sure : (room : ℕ) → g.K.Sink.room l.initial.sink ≡ Some room → length (flat_map (λ p. p.now) (take l.piece-index l.pieces)) ≤ room →
      g.K.Sink.room l.sink ≡ Some (room - length (flat_map (λ p. p.now) (take l.piece-index l.pieces)));
  faults : g.K.Sink.faults l.initial.sink ≤ g.K.Sink.faults l.sink;
}
