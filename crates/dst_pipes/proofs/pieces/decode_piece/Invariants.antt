-- The bytes of the piece up to the start are taken, and what came of them is answered and written.
use Rattle.std.proofs.Common.{◌≡◌, ℕ, ◌≤◌, List, ◌++◌, length, take, Option, None}
use Rattle.dsdiff_spec.specs.Streams.{stream}
use Rattle.push_decoder.specs.Decoder.{StandsFor}
use Rattle.push_decoder.specs.Events.{Answered}
use Rattle.dst_pipes.specs.States.{IsReady, Works, Wrote, events_left}
use Rattle.dst_pipes.specs.Steps.{GoesOn}
use Rattle.dst_pipes.proofs.pieces.decode_piece.Given as goal

-- the piece is decoded up to here
abbrev pub invariant-loop-taken : goal.invariant-loop-taken
invariant-loop-taken g l = record {
  ready : IsReady l.decoder l.work;
  within : l.start ≤ length l.piece;
  later : g.K.Sink.faults l.fn.sink ≤ g.K.Sink.faults l.sink;
  untouched : l.work ≡ None → (l.sink ≡ l.fn.sink) × (l.fn.work ≡ None);
  goes : (taken : List ℕ) (answered : Answered) → StandsFor l.fn.decoder taken answered → Works answered l.fn.work → (old : Option (List ℕ)) (room : Option ℕ) →
      Wrote answered old (g.K.Sink.written l.fn.sink) room (g.K.Sink.room l.fn.sink) →
      GoesOn (taken ++ take l.start l.piece) l.decoder l.work old (g.K.Sink.written l.sink) room (g.K.Sink.room l.sink);
  no_front : (taken more : List ℕ) (answered : Answered) → StandsFor l.fn.decoder taken answered → Works answered l.fn.work →
      (old : Option (List ℕ)) (room : Option ℕ) → Wrote answered old (g.K.Sink.written l.fn.sink) room (g.K.Sink.room l.fn.sink) →
      (stream (taken ++ (l.piece ++ more))).front ≡ None → l.sink ≡ l.fn.sink;
}

abbrev pub decreases-loop-taken : goal.decreases-loop-taken
decreases-loop-taken g l = events_left l.work
