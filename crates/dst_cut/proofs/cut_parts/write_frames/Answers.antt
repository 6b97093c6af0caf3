-- The bytes between two places of the file, and the pad byte.
use Rattle.std.proofs.Common.{◌≡◌, ap, arith}
use Rattle.dsdiff_chunks.specs.declared.copy.CopyFault.{CopyFault}
use Rattle.dst_commands.proofs.Writing.{adds_same, adds_then, stops_for, stops_first, stops_same, stops_then}
use Rattle.dst_cut.specs.CutLayout.{padding}
use Rattle.dst_cut.proofs.CutPlaces.{cut_out}
use Rattle.dst_cut.proofs.CutCopied.{frames_copied, frames_short}
use Rattle.dst_cut.proofs.cut_parts.write_frames.Goals as goal

pub copy_range-requires-clause-order : goal.copy_range-requires-clause-order
copy_range-requires-clause-order g c = omega (arith, c.begins.ensures, c.ends.ensures, (cut_out c.args.cut.now).order)

pub copy_range-requires-clause-known : goal.copy_range-requires-clause-known
copy_range-requires-clause-known g c =
    (c.requires.size.0, c.requires.size.1, omega (arith, c.ends.ensures, (cut_out c.args.cut.now).inside, c.requires.size.2))

pub returns-in-Err-clause-written : goal.returns-in-Err-clause-written
returns-in-Err-clause-written g c file told =
    let known = g.met.S.Source.size_is_length c.args.source.now file c.requires.size.0 told c.requires.size.1 in
    stops_first (c.in-Err.fault ≡ CopyFault.Write) _ _ _ _ _
    (frames_short file c.args.cut.now c.requires.size.0 c.requires.size.2 known _ _ c.begins.ensures c.ends.ensures c.in-Err.fault
    (c.in-Err.ensures.cut_short file told) c.in-Err.ensures.taken)

pub returns-in-Ok-clause-written : goal.returns-in-Ok-clause-written
returns-in-Ok-clause-written g c file told =
    let known = g.met.S.Source.size_is_length c.args.source.now file c.requires.size.0 told c.requires.size.1 in
    adds_then _ _ _ _ _ _ _ _
    (frames_copied file c.args.cut.now c.requires.size.0 c.requires.size.2 known _ _ c.begins.ensures c.ends.ensures
    (c.in_default.ensures.copied file told) c.in_default.ensures.sure)
    (adds_same (padding c.sound_size.result) _ _ _ _ _ (ap padding c.sound_size.ensures.size) c.in-Ok.ensures.written)

pub returns-in-Err-write_pad-clause-written : goal.returns-in-Err-write_pad-clause-written
returns-in-Err-write_pad-clause-written g c file told =
    let known = g.met.S.Source.size_is_length c.args.source.now file c.requires.size.0 told c.requires.size.1 in
    let P = CopyFault.Write ≡ CopyFault.Write in
    stops_then P _ _ _ _ _ _ _
    (frames_copied file c.args.cut.now c.requires.size.0 c.requires.size.2 known _ _ c.begins.ensures c.ends.ensures
    (c.in_default.ensures.copied file told) c.in_default.ensures.sure)
    (stops_same P (padding c.sound_size.result) _ _ _ _ (ap padding c.sound_size.ensures.size)
    (stops_for (Unit {0}) P (padding c.sound_size.result) _ _ _ (λ e. tt {0}) c.in-Err-write_pad.ensures.written))

pub returns-in-Err-clause-given : goal.returns-in-Err-clause-given
returns-in-Err-clause-given g c = omega (arith, c.copy_range.ensures.given, c.begins.ensures, c.ends.ensures, (cut_out c.args.cut.now).short)

pub returns-in-Ok-clause-given : goal.returns-in-Ok-clause-given
returns-in-Ok-clause-given g c = omega (arith, c.copy_range.ensures.given, c.begins.ensures, c.ends.ensures, (cut_out c.args.cut.now).short)

pub returns-in-Err-write_pad-clause-given : goal.returns-in-Err-write_pad-clause-given
returns-in-Err-write_pad-clause-given g c = omega (arith, c.copy_range.ensures.given, c.begins.ensures, c.ends.ensures, (cut_out c.args.cut.now).short)
