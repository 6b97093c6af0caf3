-- The pieces are `PROP` with the other chunk.
use Rattle.std.proofs.Common.{◌≡◌, ◌+◌, length, subst, MatchResult, OnOk}
use Rattle.dst_streams.specs.Told.{IsCutShort, IsSure, and_then}
use Rattle.dsdiff_chunks.proofs.Exchange.{pieces_are}
use Rattle.dsdiff_chunks.proofs.write.write_prop.Goals as goal

pub returns-clause-written : goal.returns-clause-written
returns-clause-written g c =
    let e = pieces_are c.args.prop.now c.args.cmpr.now _ _ _ c.requires.prop c.requires.cmpr c.place_of_cmpr-place.ensures.place
    c.place_of_cmpr-place.ensures.end c.head_bytes-head.ensures in
    subst (λ w. MatchResult c.append_all.result (λ _. g.K.Sink.written c.append_all.new.sink ≡ and_then (g.K.Sink.written c.args.sink.now) w)
    (λ _. IsCutShort (g.K.Sink.written c.args.sink.now) w (g.K.Sink.written c.append_all.new.sink))) e c.append_all.ensures.written

pub returns-clause-appended : goal.returns-clause-appended
returns-clause-appended g c =
    let e = pieces_are c.args.prop.now c.args.cmpr.now _ _ _ c.requires.prop c.requires.cmpr c.place_of_cmpr-place.ensures.place
    c.place_of_cmpr-place.ensures.end c.head_bytes-head.ensures in
    subst (λ w. OnOk c.append_all.result (g.K.Sink.appended c.append_all.new.sink
    ≡ g.K.Sink.appended c.args.sink.now + length w)) e c.append_all.ensures.appended

pub returns-clause-sure : goal.returns-clause-sure
returns-clause-sure g c =
    let e = pieces_are c.args.prop.now c.args.cmpr.now _ _ _ c.requires.prop c.requires.cmpr c.place_of_cmpr-place.ensures.place
    c.place_of_cmpr-place.ensures.end c.head_bytes-head.ensures in
    subst (λ w. IsSure (g.K.Sink.room c.args.sink.now) (g.K.Sink.room c.append_all.new.sink) (length w) c.append_all.result) e c.append_all.ensures.sure
