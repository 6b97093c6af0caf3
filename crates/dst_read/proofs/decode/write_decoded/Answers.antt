-- In front of the sound, the sound, behind it.
use Rattle.std.proofs.Common.{length, refl, ap, sym, subst, ◌∙◌, rules, arith}
use Rattle.std.proofs.Math.Nat.{le_trans}
use Rattle.dst_streams.proofs.Counts.{Rose-earlier}
use Rattle.dsdiff_chunks.specs.Forms.{coded_seen}
use Rattle.dst_read.proofs.Ending.{ends_at_front, ends_in_frames, ends_at_end, ends_unsettled, ends_done}
use Rattle.dst_commands.proofs.Taken.{parts_of_form}
use Rattle.dst_read.specs.Jobs.{AreJobsFor, AreTablesFor}
use Rattle.dst_read.proofs.Once.{stored_in_sound}
use Rattle.dst_read.proofs.Causes.{caused_by_device, caused_later, decoded_alike}
use Rattle.dst_read.proofs.decode.write_decoded.Goals as goal

-- ---- the devices, call by call
pub returns-in-Err-clause-bytes : goal.returns-in-Err-clause-bytes
returns-in-Err-clause-bytes g c = c.write_front.ensures.bytes

pub returns-in-Err-write_frames-clause-bytes : goal.returns-in-Err-write_frames-clause-bytes
returns-in-Err-write_frames-clause-bytes g c = c.write_frames.ensures.bytes ∙ c.write_front.ensures.bytes

pub returns-in-Err-write_end-clause-bytes : goal.returns-in-Err-write_end-clause-bytes
returns-in-Err-write_end-clause-bytes g c = c.write_end.ensures.bytes ∙ c.write_frames.ensures.bytes ∙ c.write_front.ensures.bytes

pub returns-in_default-finish-clause-bytes : goal.returns-in_default-finish-clause-bytes
returns-in_default-finish-clause-bytes g c = c.write_end.ensures.bytes ∙ c.write_frames.ensures.bytes ∙ c.write_front.ensures.bytes

pub returns-clause-bytes : goal.returns-clause-bytes
returns-clause-bytes g c = c.write_end.ensures.bytes ∙ c.write_frames.ensures.bytes ∙ c.write_front.ensures.bytes

pub returns-in-Err-clause-source_later : goal.returns-in-Err-clause-source_later
returns-in-Err-clause-source_later g c = c.write_front.ensures.source_later

pub returns-in-Err-write_frames-clause-source_later : goal.returns-in-Err-write_frames-clause-source_later
returns-in-Err-write_frames-clause-source_later g c =
    le_trans c.write_front.ensures.source_later c.write_frames.ensures.source_later

pub returns-in-Err-write_end-clause-source_later : goal.returns-in-Err-write_end-clause-source_later
returns-in-Err-write_end-clause-source_later g c =
    le_trans c.write_front.ensures.source_later (le_trans c.write_frames.ensures.source_later c.write_end.ensures.source_later)

pub returns-in_default-finish-clause-source_later : goal.returns-in_default-finish-clause-source_later
returns-in_default-finish-clause-source_later g c =
    le_trans c.write_front.ensures.source_later (le_trans c.write_frames.ensures.source_later c.write_end.ensures.source_later)

pub returns-clause-source_later : goal.returns-clause-source_later
returns-clause-source_later g c =
    le_trans c.write_front.ensures.source_later (le_trans c.write_frames.ensures.source_later c.write_end.ensures.source_later)

pub returns-in-Err-clause-sink_later : goal.returns-in-Err-clause-sink_later
returns-in-Err-clause-sink_later g c = c.write_front.ensures.sink_later

pub returns-in-Err-write_frames-clause-sink_later : goal.returns-in-Err-write_frames-clause-sink_later
returns-in-Err-write_frames-clause-sink_later g c =
    le_trans c.write_front.ensures.sink_later c.write_frames.ensures.sink_later

pub returns-in-Err-write_end-clause-sink_later : goal.returns-in-Err-write_end-clause-sink_later
returns-in-Err-write_end-clause-sink_later g c =
    le_trans c.write_front.ensures.sink_later (le_trans c.write_frames.ensures.sink_later c.write_end.ensures.sink_later)

pub returns-in_default-finish-clause-sink_later : goal.returns-in_default-finish-clause-sink_later
returns-in_default-finish-clause-sink_later g c =
    le_trans c.write_front.ensures.sink_later
    (le_trans c.write_frames.ensures.sink_later (le_trans c.write_end.ensures.sink_later c.finish.ensures.cause.later))

pub returns-clause-sink_later : goal.returns-clause-sink_later
returns-clause-sink_later g c =
    le_trans c.write_front.ensures.sink_later
    (le_trans c.write_frames.ensures.sink_later (le_trans c.write_end.ensures.sink_later c.finish.ensures.cause.later))

-- ---- the causes
pub returns-in-Err-clause-cause : goal.returns-in-Err-clause-cause
returns-in-Err-clause-cause g c =
    caused_by_device c.fault_of_device.result c.in-Err.fault (g.S.Source.faults c.args.source.now) (g.S.Source.faults c.write_front.new.source)
    (g.K.Sink.faults c.args.sink.now) (g.K.Sink.faults c.write_front.new.sink) c.fault_of_device.ensures c.in-Err.ensures.cause

pub returns-in-Err-write_frames-clause-cause : goal.returns-in-Err-write_frames-clause-cause
returns-in-Err-write_frames-clause-cause g c =
    caused_later c.in-Err-write_frames.fault (g.S.Source.faults c.args.source.now) (g.S.Source.faults c.write_front.new.source)
    (g.S.Source.faults c.write_frames.new.source) (g.K.Sink.faults c.args.sink.now) (g.K.Sink.faults c.write_front.new.sink)
    (g.K.Sink.faults c.write_frames.new.sink) c.write_front.ensures.source_later c.write_front.ensures.sink_later c.in-Err-write_frames.ensures.cause

pub returns-in-Err-write_end-clause-cause : goal.returns-in-Err-write_end-clause-cause
returns-in-Err-write_end-clause-cause g c =
    caused_later c.fault_of_device-in-Err-write_end.result (g.S.Source.faults c.args.source.now) (g.S.Source.faults c.write_frames.new.source)
    (g.S.Source.faults c.write_end.new.source) (g.K.Sink.faults c.args.sink.now) (g.K.Sink.faults c.write_frames.new.sink)
    (g.K.Sink.faults c.write_end.new.sink)
    (le_trans c.write_front.ensures.source_later c.write_frames.ensures.source_later)
    (le_trans c.write_front.ensures.sink_later c.write_frames.ensures.sink_later)
    (caused_by_device c.fault_of_device-in-Err-write_end.result c.in-Err-write_end.fault (g.S.Source.faults c.write_frames.new.source)
    (g.S.Source.faults c.write_end.new.source) (g.K.Sink.faults c.write_frames.new.sink) (g.K.Sink.faults c.write_end.new.sink)
    c.fault_of_device-in-Err-write_end.ensures c.in-Err-write_end.ensures.cause)

pub returns-in_default-finish-clause-cause : goal.returns-in_default-finish-clause-cause
returns-in_default-finish-clause-cause g c =
    Rose-earlier (g.K.Sink.faults c.args.sink.now) (g.K.Sink.faults c.write_end.new.sink) (g.K.Sink.faults c.finish.new.self)
    (le_trans c.write_front.ensures.sink_later (le_trans c.write_frames.ensures.sink_later c.write_end.ensures.sink_later))
    c.in_default-finish.ensures.cause.failed

pub returns-clause-cause : goal.returns-clause-cause
returns-clause-cause g c = tt {0}

-- ---- what is answered
pub returns-clause-done : goal.returns-clause-done
returns-clause-done g c =
    decoded_alike c.args.walked.now.form.frames c.sound_size-size.result _ c.sound_size-size.ensures.size

pub returns-in-Err-clause-done : goal.returns-in-Err-clause-done
returns-in-Err-clause-done g c = tt {0}

pub returns-in-Err-write_frames-clause-done : goal.returns-in-Err-write_frames-clause-done
returns-in-Err-write_frames-clause-done g c = tt {0}

pub returns-in-Err-write_end-clause-done : goal.returns-in-Err-write_end-clause-done
returns-in-Err-write_end-clause-done g c = tt {0}

pub returns-in_default-finish-clause-done : goal.returns-in_default-finish-clause-done
returns-in_default-finish-clause-done g c = tt {0}

-- ---- only what is done has settled the sink
pub returns-in-Err-clause-settled : goal.returns-in-Err-clause-settled
returns-in-Err-clause-settled g c = tt {0}

pub returns-in-Err-write_frames-clause-settled : goal.returns-in-Err-write_frames-clause-settled
returns-in-Err-write_frames-clause-settled g c = tt {0}

pub returns-in-Err-write_end-clause-settled : goal.returns-in-Err-write_end-clause-settled
returns-in-Err-write_end-clause-settled g c = tt {0}

pub returns-in_default-finish-clause-settled : goal.returns-in_default-finish-clause-settled
returns-in_default-finish-clause-settled g c = tt {0}

pub returns-clause-settled : goal.returns-clause-settled
returns-clause-settled g c = c.in-Ok.ensures.settled

-- ---- the sizes that calls ask for
pub write_front-requires-clause-size : goal.write_front-requires-clause-size
write_front-requires-clause-size g c = c.requires.size

pub write_frames-requires-clause-size : goal.write_frames-requires-clause-size
write_frames-requires-clause-size g c κs within = (c.requires.size.0, c.write_front.ensures.stays ∙ c.requires.size.1, c.requires.size.2)

pub write_end-requires-clause-size : goal.write_end-requires-clause-size
write_end-requires-clause-size g c =
    (c.requires.size.0, c.write_frames.ensures.stays ∙ c.write_front.ensures.stays ∙ c.requires.size.1, c.requires.size.2)

-- ---- the tables, the jobs and the buffer of the workspace
pub write_front-requires-clause-buffer : goal.write_front-requires-clause-buffer
write_front-requires-clause-buffer g c = omega (arith, ap length c.deref_mut.ensures.value, c.requires.room.buffer)

pub write_front-requires-clause-most : goal.write_front-requires-clause-most
write_front-requires-clause-most g c = c.sound_size-size.ensures.most

pub write_frames-requires-clause-tables : goal.write_frames-requires-clause-tables
write_frames-requires-clause-tables g c κs within =
    subst (AreTablesFor c.args.walked.now.form.channels) (sym c.deref_mut-2.ensures.value) c.requires.room.tables

pub write_frames-requires-clause-jobs : goal.write_frames-requires-clause-jobs
write_frames-requires-clause-jobs g c κs within =
    subst (AreJobsFor c.args.walked.now.form.channels) (sym c.deref_mut-3.ensures.value) c.requires.room.jobs

pub write_end-requires-clause-buffer : goal.write_end-requires-clause-buffer
write_end-requires-clause-buffer g c = search rules

-- ---- what is written
pub returns-in-Err-clause-written : goal.returns-in-Err-clause-written
returns-in-Err-clause-written g c file told =
    ends_at_front c.fault_of_device.result c.in-Err.fault c.sound_size-size.result file (coded_seen c.args.walked.now.form) c.args.walked.now.index _ _ _
    c.fault_of_device.ensures c.sound_size-size.ensures.size (g.met.S.Source.told_are_bytes c.args.source.now file told) (c.requires.opened file told)
    (c.in-Err.ensures.written file told)

pub write_frames-requires-clause-opened : goal.write_frames-requires-clause-opened
write_frames-requires-clause-opened g c κs within file told = c.requires.opened file (sym c.in_default.ensures.bytes ∙ told)

pub returns-in-Err-write_frames-clause-written : goal.returns-in-Err-write_frames-clause-written
returns-in-Err-write_frames-clause-written g c file told =
    ends_in_frames c.in-Err-write_frames.fault c.sound_size-size.result file (coded_seen c.args.walked.now.form) c.args.walked.now.index _ _ _ _ _
    (g.K.Sink.room c.write_frames.new.sink) c.sound_size-size.ensures.size (g.met.S.Source.told_are_bytes c.args.source.now file told)
    (c.requires.opened file told) (c.in_default.ensures.written file told)
    (c.in-Err-write_frames.ensures.written file (c.in_default.ensures.bytes ∙ told))

pub returns-in-Err-write_end-clause-written : goal.returns-in-Err-write_end-clause-written
returns-in-Err-write_end-clause-written g c file told =
    let later = c.in_default.ensures.bytes ∙ told in
    ends_at_end c.fault_of_device-in-Err-write_end.result c.in-Err-write_end.fault c.sound_size-size.result file (coded_seen c.args.walked.now.form)
    c.args.walked.now.index _ _ _ _ _ _ _ c.fault_of_device-in-Err-write_end.ensures c.sound_size-size.ensures.size
    (g.met.S.Source.told_are_bytes c.args.source.now file told) (c.requires.opened file told) (c.in_default.ensures.written file told)
    (c.in_default-write_frames.ensures.written file later)
    (c.in-Err-write_end.ensures.written file (c.in_default-write_frames.ensures.bytes ∙ later))

pub returns-in_default-finish-clause-written : goal.returns-in_default-finish-clause-written
returns-in_default-finish-clause-written g c file told =
    let later = c.in_default.ensures.bytes ∙ told in
    ends_unsettled c.sound_size-size.result file (coded_seen c.args.walked.now.form) c.args.walked.now.index _ _ _ _ _ _ _ _ _
    c.sound_size-size.ensures.size (g.met.S.Source.told_are_bytes c.args.source.now file told) (c.requires.opened file told)
    (c.in_default.ensures.written file told) (c.in_default-write_frames.ensures.written file later)
    (c.in_default-write_end.ensures.written file (c.in_default-write_frames.ensures.bytes ∙ later))
    c.in_default-finish.ensures.written c.in_default-finish.ensures.sure

pub returns-clause-written : goal.returns-clause-written
returns-clause-written g c file told =
    let later = c.in_default.ensures.bytes ∙ told in
    ends_done (record { frames = c.args.walked.now.form.frames; bytes = c.sound_size-size.result }) file (coded_seen c.args.walked.now.form)
    c.args.walked.now.index _ _ _ _ _ _ _ _ _ (c.requires.opened file told) (c.in_default.ensures.written file told)
    (c.in_default-write_frames.ensures.written file later)
    (c.in_default-write_end.ensures.written file (c.in_default-write_frames.ensures.bytes ∙ later))
    c.finish.ensures.written refl c.sound_size-size.ensures.size

-- ---- what is read: each part once
pub returns-in-Err-clause-given : goal.returns-in-Err-clause-given
returns-in-Err-clause-given g c = omega (arith, c.write_front.ensures.given, parts_of_form (coded_seen c.args.walked.now.form) c.args.walked.now.form.lawful)

pub returns-in-Err-write_frames-clause-given : goal.returns-in-Err-write_frames-clause-given
returns-in-Err-write_frames-clause-given g c =
    let parts = parts_of_form (coded_seen c.args.walked.now.form) c.args.walked.now.form.lawful in
    omega (arith, c.write_front.ensures.given, c.write_frames.ensures.given, parts, stored_in_sound c.args.walked.now)

pub returns-in-Err-write_end-clause-given : goal.returns-in-Err-write_end-clause-given
returns-in-Err-write_end-clause-given g c =
    let parts = parts_of_form (coded_seen c.args.walked.now.form) c.args.walked.now.form.lawful in
    omega (arith, c.write_front.ensures.given, c.write_frames.ensures.given, c.write_end.ensures.given, parts, stored_in_sound c.args.walked.now)

pub returns-in_default-finish-clause-given : goal.returns-in_default-finish-clause-given
returns-in_default-finish-clause-given g c =
    let parts = parts_of_form (coded_seen c.args.walked.now.form) c.args.walked.now.form.lawful in
    omega (arith, c.write_front.ensures.given, c.write_frames.ensures.given, c.write_end.ensures.given, parts, stored_in_sound c.args.walked.now)

pub returns-clause-given : goal.returns-clause-given
returns-clause-given g c =
    let parts = parts_of_form (coded_seen c.args.walked.now.form) c.args.walked.now.form.lawful in
    omega (arith, c.write_front.ensures.given, c.write_frames.ensures.given, c.write_end.ensures.given, parts, stored_in_sound c.args.walked.now)
