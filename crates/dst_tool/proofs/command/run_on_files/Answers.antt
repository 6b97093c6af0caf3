-- Each command that reads a file and may write one, by what it answered.
use Rattle.std.proofs.Common.{◌≡◌, ℕ, Bool, true, [], refl, ap, sym, ◌∙◌}
use Rattle.dsdiff_spec.specs.Words as asked
use Rattle.dsdiff_spec.proofs.OneAnswer.{command_has_one_outcome}
use Rattle.dst_words.specs.Commands.{command_seen}
use Rattle.dst_tool.proofs.OneLine.{few_given, most_for_any, tells_line, nothing_added, cut_or_nothing, takes_none}
use Rattle.dst_tool.proofs.DoneNumbers.{of_encoded, of_decoded, of_cut_out, of_written, of_ranged}
use Rattle.dst_tool.proofs.FileRuns.{always_writes, run_of_file, when_wanted, write_is_no_frame, write_is_no_report}
use Rattle.dst_tool.proofs.Inverting.{IsAnsweredAs, cut_again, decode_again, encode_again, to_cut, to_decode, to_encode}
use Rattle.dst_tool.specs.Answers.{of_cut, of_decode, of_encode}
use Rattle.dst_tool.proofs.Coding.{codes_dsf, codes_file, run_of_coding}
use Rattle.dst_tool.proofs.command.run_on_files.Goals as goal

pub returns-in-Encode : goal.returns-in-Encode
returns-in-Encode g c =
    let e = c.encode_file-answer.ensures in
    let t = c.tell.ensures in
    let says : IsAnsweredAs of_encoded of_encode to_encode c.encode_file-answer.result c.encoded.result =
    record { is = c.encoded.ensures; again = encode_again } in
    run_of_coding codes_file c.picker_of-picker.ensures (ap command_seen c.in-Encode.is) says (g.met.S.Source.told_are_bytes c.args.source.now)
    (ap g.K.Sink.written) e.accepted e.encoded e.frames e.stored e.file e.refused e.unfinished e.write_accepted e.bytes e.later e.read e.write e.sure
    e.memory e.untouched e.settled
    (tells_line (asked.encode c.in-Encode.level) _ refl t.reported t.whole t.cut_short t.added t.stopped t.cause t.later t.sure)

pub returns-in-Decode : goal.returns-in-Decode
returns-in-Decode g c =
    let e = c.decode_file-answer.ensures in
    let t = c.tell-in-Decode.ensures in
    let same = ap command_seen c.in-Decode.is in
    let says : IsAnsweredAs of_decoded of_decode to_decode c.decode_file-answer.result c.decoded.result =
    record { is = c.decoded.ensures; again = decode_again } in
    run_of_file same says write_is_no_report tt tt (λ w. w) (g.met.S.Source.told_are_bytes c.args.source.now) (ap g.K.Sink.written) e.decoded e.file
    (λ k fault is. e.frame k fault) e.cut_short e.bytes e.later e.read e.write e.sure e.memory e.untouched e.refused
    (always_writes (λ w. w) (λ w. w) e.settled)
    (tells_line _ _ same t.reported t.whole t.cut_short t.added t.stopped t.cause t.later t.sure)

pub returns-in-EncodeDsf : goal.returns-in-EncodeDsf
returns-in-EncodeDsf g c =
    let e = c.encode_dsf-answer.ensures in
    let t = c.tell-in-EncodeDsf.ensures in
    let says : IsAnsweredAs of_encoded of_encode to_encode c.encode_dsf-answer.result c.encoded-in-EncodeDsf.result =
    record { is = c.encoded-in-EncodeDsf.ensures; again = encode_again } in
    run_of_coding codes_dsf c.picker_of-picker-in-EncodeDsf.ensures (ap command_seen c.in-EncodeDsf.is) says (g.met.S.Source.told_are_bytes c.args.source.now)
    (ap g.K.Sink.written) e.accepted e.encoded e.frames e.stored e.file e.refused e.unfinished e.write_accepted e.bytes e.later e.read e.write e.sure
    e.memory e.untouched e.settled
    (tells_line (asked.encode_dsf c.in-EncodeDsf.level) _ refl t.reported t.whole t.cut_short t.added t.stopped t.cause t.later t.sure)

pub returns-in-DecodeDsf : goal.returns-in-DecodeDsf
returns-in-DecodeDsf g c =
    let e = c.decode_dsf-answer.ensures in
    let t = c.tell-in-DecodeDsf.ensures in
    let same = ap command_seen c.in-DecodeDsf.is in
    let says : IsAnsweredAs of_decoded of_decode to_decode c.decode_dsf-answer.result c.decoded-in-DecodeDsf.result =
    record { is = c.decoded-in-DecodeDsf.ensures; again = decode_again } in
    run_of_file same says write_is_no_report tt tt (λ w. w) (g.met.S.Source.told_are_bytes c.args.source.now) (ap g.K.Sink.written) e.decoded e.file
    (λ k fault is. e.frame k fault) e.cut_short e.bytes e.later e.read e.write e.sure e.memory e.untouched e.refused
    (always_writes (λ w. w) (λ w. w) e.settled)
    (tells_line _ _ same t.reported t.whole t.cut_short t.added t.stopped t.cause t.later t.sure)

pub returns-in-Cut : goal.returns-in-Cut
returns-in-Cut g c =
    let e = c.cut_file-answer.ensures in
    let t = c.tell-in-Cut.ensures in
    let same = ap command_seen c.in-Cut.is in
    let says : IsAnsweredAs of_cut_out of_cut to_cut c.cut_file-answer.result c.cut_out.result =
    record { is = c.cut_out.ensures; again = cut_again } in
    run_of_file same says write_is_no_report tt tt (λ w. w) (g.met.S.Source.told_are_bytes c.args.source.now) (ap g.K.Sink.written) e.cut e.file
    (λ k fault is. write_is_no_frame k fault is) e.cut_short e.bytes e.later e.read e.write e.sure e.memory e.untouched e.refused
    (always_writes (λ w. w) (λ w. w) e.settled)
    (tells_line (asked.cut c.in-Cut.first c.in-Cut.last) _ refl t.reported t.whole t.cut_short t.added t.stopped t.cause t.later t.sure)

pub returns-in-Frame : goal.returns-in-Frame
returns-in-Frame g c =
    let e = c.frame_out-answer.ensures in
    let t = c.tell-in-Frame.ensures in
    let written = g.K.Sink.written c.args.sink.now in
    let asks = asked.frame c.in-Frame.frame c.in-Frame.by_index in
    let says : IsAnsweredAs of_written of_decode to_decode c.frame_out-answer.result c.frame_written.result =
    record { is = c.frame_written.ensures; again = decode_again } in
    run_of_file (ap command_seen c.in-Frame.is) says write_is_no_report tt tt (λ w. w) (g.met.S.Source.told_are_bytes c.args.source.now)
    (ap g.K.Sink.written) e.written e.file
    (λ k fault same h file told. (
      [],
      e.frame k fault h file told,
      ap g.K.Sink.written (e.untouched _ h (λ w. absurd cc)) ∙ nothing_added written,
    ))
    (λ h file told. cut_or_nothing asks file written _
    (command_has_one_outcome asks file tt (g.met.S.Source.told_are_bytes c.args.source.now file told))
    (λ q. ap g.K.Sink.written (e.untouched _ q (λ w. absurd cc))) (λ q. e.cut_short q file told) h)
    e.bytes e.later e.read e.write e.sure (λ refused h. e.untouched _ h (λ w. absurd cc)) (λ fault h. e.untouched _ h (λ w. absurd cc)) e.refused
    (record {
      idle = λ w. absurd w;
      no_write = λ w. absurd w;
      settled = when_wanted _ _ _ e.settled;
      by_index = λ k h file told. few_given _ _ _ (e.given (by_index_is c.in-Frame.frame k c.in-Frame.by_index h) file told);
      any_source = λ k h. most_for_any _ _ (e.given_any (by_index_is c.in-Frame.frame k c.in-Frame.by_index h));
    })
    (tells_line asks _ refl t.reported t.whole t.cut_short t.added t.stopped t.cause t.later t.sure)
  where
    by_index_is : (j k : ℕ) (b : Bool) → asked.frame j b ≡ asked.frame k true → b ≡ true
    by_index_is j k b is = cc

pub returns-in-Range : goal.returns-in-Range
returns-in-Range g c =
    let e = c.range_out-answer.ensures in
    let t = c.tell-in-Range.ensures in
    let pairs = c.as_slice.result.now in
    let says : IsAnsweredAs of_ranged of_decode to_decode c.range_out-answer.result c.range_written.result =
    record { is = c.range_written.ensures; again = decode_again } in
    run_of_file (ap command_seen c.in-Range.is ∙ ap asked.range (sym c.as_slice.ensures.pairs)) says write_is_no_report tt tt (λ w. w)
    (g.met.S.Source.told_are_bytes c.args.source.now) (ap g.K.Sink.written) e.written e.file (λ k fault is. e.frame k fault) e.cut_short
    e.bytes e.later e.read e.write e.sure e.memory e.untouched e.refused
    (record {
      idle = λ w. e.no_call w;
      no_write = λ w h. e.no_write w h;
      settled = e.settled;
      by_index = λ k h. takes_none (asked.range pairs) (λ w. w) k h;
      any_source = λ k h. takes_none (asked.range pairs) (λ w. w) k h;
    })
    (tells_line (asked.range pairs) _ refl t.reported t.whole t.cut_short t.added t.stopped t.cause t.later t.sure)
