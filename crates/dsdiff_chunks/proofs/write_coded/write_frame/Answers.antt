-- The pieces are the chunk of the frame.
use Rattle.std.proofs.Common.{◌≡◌, MatchResult, subst}
use Rattle.dst_streams.specs.Told.{IsCutShort, and_then}
use Rattle.dsdiff_chunks.proofs.CodedPieces.{chunk_is}
use Rattle.dsdiff_chunks.proofs.write_coded.write_frame.Goals as goal

pub returns-clause-written : goal.returns-clause-written
returns-clause-written g c =
    let e = chunk_is "DSTF" c.args.frame.now c.head_bytes-head.result c.head_bytes-head.ensures in
    subst (λ w. MatchResult c.append_all.result (λ _. g.K.Sink.written c.append_all.new.sink ≡ and_then (g.K.Sink.written c.args.sink.now) w)
    (λ _. IsCutShort (g.K.Sink.written c.args.sink.now) w (g.K.Sink.written c.append_all.new.sink))) e c.append_all.ensures.written
