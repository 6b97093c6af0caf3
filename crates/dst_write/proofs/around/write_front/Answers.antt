-- The head of the form, the chunks before the sound, the head of the sound with the number of frames.
use Rattle.std.proofs.Common.{◌≡◌, ◌++◌, arith}
use Rattle.dsdiff_chunks.specs.Forms.{plain_seen}
use Rattle.dsdiff_chunks.specs.declared.copy.CopyFault.{CopyFault}
use Rattle.dst_commands.proofs.PassedOn.{failed_since}
use Rattle.dst_commands.proofs.Writing.{adds_then, stops_for, stops_first, stops_then}
use Rattle.dst_write.specs.Layout.{before, opening, sound_opening}
use Rattle.dst_write.proofs.around.write_front.Goals as goal

pub returns-in_default-clause-written : goal.returns-in_default-clause-written
returns-in_default-clause-written g c file told =
    let form = plain_seen c.args.form.now in
    stops_first (CopyFault.Write ≡ CopyFault.Write) (opening ++ before file form) (sound_opening form) _ _ _
    (stops_first (CopyFault.Write ≡ CopyFault.Write) opening (before file form) _ _ _
    (stops_for (Unit {0}) (CopyFault.Write ≡ CopyFault.Write) opening _ _ _ (λ e. tt {0}) c.in_default.ensures.written))

pub returns-in-Err-clause-written : goal.returns-in-Err-clause-written
returns-in-Err-clause-written g c file told =
    let form = plain_seen c.args.form.now in
    stops_first (c.in-Err.fault ≡ CopyFault.Write) (opening ++ before file form) (sound_opening form) _ _ _
    (stops_then (c.in-Err.fault ≡ CopyFault.Write) opening (before file form) _ _ _ _ _ c.in-Ok.ensures.written (c.in-Err.ensures.written file told))

pub returns-in-Ok-write_sound_opening-clause-written : goal.returns-in-Ok-write_sound_opening-clause-written
returns-in-Ok-write_sound_opening-clause-written g c file told =
    let form = plain_seen c.args.form.now in
    adds_then (opening ++ before file form) (sound_opening form) _ _ _ _ _ _
    (adds_then opening (before file form) _ _ _ _ _ _ c.in-Ok.ensures.written (c.in_default-write_side.ensures.written file told))
    c.in-Ok-write_sound_opening.ensures.written

pub returns-in-Err-write_sound_opening-clause-written : goal.returns-in-Err-write_sound_opening-clause-written
returns-in-Err-write_sound_opening-clause-written g c file told =
    let form = plain_seen c.args.form.now in
    stops_then (CopyFault.Write ≡ CopyFault.Write) (opening ++ before file form) (sound_opening form) _ _ _ _ _
    (adds_then opening (before file form) _ _ _ _ _ _ c.in-Ok.ensures.written (c.in_default-write_side.ensures.written file told))
    (stops_for (Unit {0}) (CopyFault.Write ≡ CopyFault.Write) (sound_opening form) _ _ _ (λ e. tt {0}) c.in-Err-write_sound_opening.ensures.written)

pub returns-in-Err-clause-cause : goal.returns-in-Err-clause-cause
returns-in-Err-clause-cause g c =
    failed_since c.in-Err.fault _ _ _ _ _ _ (omega arith) (omega (arith, c.write_opening.ensures.cause.later)) c.in-Err.ensures.cause
