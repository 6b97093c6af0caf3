-- The piece lies within the bytes that are written, so the array is written over just where they are.
use Rattle.std.proofs.Common.{rules, arith, ap, Some, ◌≡◌, ◌+◌, ◌-◌, ◌∙◌, length, take}
use Rattle.dst_streams.proofs.Parts.{put_mid-written, written_over-front}
use Rattle.dst_streams.proofs.memory.short_flow_sink.ShortFlowSinkSink.overwrite.Goals as goal

pub returns-clause-written : goal.returns-clause-written
returns-clause-written c =
    let place = c.args.place in
    let bytes = c.args.self.now.bytes in
    let piece = c.args.piece.now in
    let room = c.args.self.now.len in
    let size : length piece ≡ place + length piece - place = omega arith in
    let put = put_mid-written bytes c.copy_from_slice.new.self piece place (place + length piece - place) c.copy_from_slice.ensures.after size in
    ap Some (ap (take room) put ∙ written_over-front bytes piece place room (search rules) (search rules))
