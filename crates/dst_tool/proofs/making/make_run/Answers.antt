-- What the three calls leave, by the laws of files.
use Rattle.std.proofs.Common.{◌+◌, ◌-◌, ◌*◌, ◌≤◌, length, arith, ◌∙◌}
use Rattle.dsdiff_spec.specs.Form.{size_of_sound}
use Rattle.dsdiff_spec.specs.Lines.{decoded_line}
use Rattle.dsdiff_spec.specs.Rules.{accepted}
use Rattle.dst_make.specs.Making.{made_file}
use Rattle.dst_tool.proofs.MadeRuns.{HoldsMade, HoldsCoded, holds_made, holds_coded, plain_accepted, plain_fits, plain_frames, plain_stored}
use Rattle.dst_tool.proofs.MadeRuns.{decoded_back, decoded_frames, decoded_sound, line_of_run}
use Rattle.dst_tool.proofs.making.make_run.Given as given
use Rattle.dst_tool.proofs.making.make_run.Goals as goal

pub code_whole-requires-clause-accepted : goal.code_whole-requires-clause-accepted
code_whole-requires-clause-accepted g c κs within =
    let made = holds_made c.args.start c.args.frames c.args.channels c.written-made.result.now _ _ c.requires.most c.file_size-size.ensures.shape
    c.in_ok-plain.ensures.written c.in_ok-make_whole.ensures c.written-made.ensures c.known_as_bytes.ensures in
    plain_accepted made

pub code_whole-requires-clause-room : goal.code_whole-requires-clause-room
code_whole-requires-clause-room g c κs within =
    let made = holds_made c.args.start c.args.frames c.args.channels c.written-made.result.now _ _ c.requires.most c.file_size-size.ensures.shape
    c.in_ok-plain.ensures.written c.in_ok-make_whole.ensures c.written-made.ensures c.known_as_bytes.ensures in
    let room = c.file_size-size.result + 26 * c.args.frames + 200 - 0 in
    let most : length (made_file c.args.start c.args.frames c.args.channels) + 26 * c.args.frames + 200 ≤ room =
    omega (arith, c.file_size-size.ensures.size c.args.start) in
    (room, c.in_ok-stored.ensures.room, plain_fits made room most)

-- what is written is the file that is made, and what is stored is its coded form
held : (g : given.Over) (c : goal.After-restored-2-1 g) → HoldsMade c.args.start c.args.frames c.args.channels c.written-made.result.now
    × HoldsCoded c.args.start c.args.frames c.args.channels c.written.result.now
held g c =
    let made = holds_made c.args.start c.args.frames c.args.channels c.written-made.result.now _ _ c.requires.most c.file_size-size.ensures.shape
    c.in_ok-plain.ensures.written c.in_ok-make_whole.ensures c.written-made.ensures c.known_as_bytes.ensures in
    (made, holds_coded made c.written.result.now _ _ c.in_ok-stored.ensures.written c.in_ok-encoded.ensures.written c.written.ensures)

pub restore_whole-requires-clause-outcome : goal.restore_whole-requires-clause-outcome
restore_whole-requires-clause-outcome g c κs within =
    let file = made_file c.args.start c.args.frames c.args.channels in
    let room = c.file_size-size.result - 0 in
    let fits : length file ≤ room = omega (arith, c.file_size-size.ensures.size c.args.start) in (
      file,
      decoded_line (accepted file).frames (size_of_sound (accepted file)),
      decoded_back (held g c).1,
      (room, c.in_ok-restored.ensures.room, fits),
    )

-- the point in front of the decoding, seen from the end
abbrev at_decoded : (g : given.Over) → goal.After-drop-plain-2 g → goal.After-restored-2-1 g
at_decoded g c = c.before.before.before.before.before.before

pub returns-clause-frames : goal.returns-clause-frames
returns-clause-frames g c =
    let h = held g (at_decoded g c) in
    (c.in_ok-encoded.ensures.frames ∙ plain_frames h.0, c.in_ok-decoded.ensures.frames ∙ decoded_frames h.1)

pub returns-clause-restored : goal.returns-clause-restored
returns-clause-restored g c = c.in_ok-decoded.ensures.bytes ∙ decoded_sound (held g (at_decoded g c)).1

pub returns-clause-line : goal.returns-clause-line
returns-clause-line g c =
    let h = held g (at_decoded g c) in
    line_of_run h.1 _ _ (c.in_ok-encoded.ensures.bytes ∙ plain_stored h.0) (c.in_ok-decoded.ensures.bytes ∙ decoded_sound h.1)
