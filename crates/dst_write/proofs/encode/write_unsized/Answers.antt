-- In front of the frames, the frames, behind them.
use Rattle.std.proofs.Common.{◌≡◌, ℕ, ◌+◌, ◌≤◌, List, ◌++◌, length, take, sym, ◌∙◌, arith}
use Rattle.std.proofs.Math.Nat.{le_trans}
use Rattle.std.proofs.lemmas.List.{take_at}
use Rattle.dsdiff_chunks.specs.Forms.{plain_seen}
use Rattle.dsdiff_chunks.specs.declared.form.PlainForm.{PlainForm}
use Rattle.dst_commands.specs.declared.chunks.Side.TheVariants.{Before, Behind}
use Rattle.dst_commands.specs.Passing.{bytes_on}
use Rattle.dst_write.specs.declared.faults.EncodeFault.TheVariants.{Write}
use Rattle.dst_commands.proofs.PassedOn.{failed_since}
use Rattle.dst_commands.proofs.Taken.{parts_of_form}
use Rattle.dst_write.proofs.Sized.{length-front}
use Rattle.dst_write.proofs.Parts.{cause_by_device, caused_since, stops_by_device, stopped_in_front, stopped_in_frames, stopped_in_end, all_is_added}
use Rattle.dst_write.proofs.encode.write_unsized.Goals as goal

pub returns-in-Err-clause-written : goal.returns-in-Err-clause-written
returns-in-Err-clause-written g c file told =
    stopped_in_front (g.P.Picker.picks c.args.picker.now) file c.args.form.now c.requires.size.0 c.requires.size.2
    (g.met.S.Source.size_is_length c.args.source.now file c.requires.size.0 told c.requires.size.1) (c.fault_of_device.result ≡ Write)
    (stops_by_device c.in-Err.fault _ _ c.fault_of_device.ensures (c.in-Err.ensures.written file told))

pub returns-in-Err-write_frames-clause-written : goal.returns-in-Err-write_frames-clause-written
returns-in-Err-write_frames-clause-written g c file told =
    stopped_in_frames (g.P.Picker.picks c.args.picker.now) file c.args.form.now c.requires.size.0 c.requires.size.2
    (g.met.S.Source.size_is_length c.args.source.now file c.requires.size.0 told c.requires.size.1)
    (c.in-Err-write_frames.fault ≡ Write) (c.in_default.ensures.written file told)
    (c.in-Err-write_frames.ensures.written file (c.in_default.ensures.bytes ∙ told))

-- the sizes that are noted stand in front of a list of more
noted : (slice sizes rest : List ℕ) (m n : ℕ) {all : List ℕ} → slice ≡ take n (sizes ++ rest) → length sizes ≡ m → m ≡ n → sizes ≡ all → slice ≡ all
noted slice sizes rest m n {all} h long same is = h ∙ take_at sizes rest n (long ∙ same) ∙ is

pub returns-in-Err-write_end-clause-written : goal.returns-in-Err-write_end-clause-written
returns-in-Err-write_end-clause-written g c file told =
    let frames = c.in_default-write_frames.ensures.written file (c.in_default.ensures.bytes ∙ told) in
    let sizes = noted _ c.write_frames.new.sizes _ _ _ c.as_slice-sizes.ensures.value c.in_default-write_frames.ensures.long
    c.deref_mut-4.ensures.len frames.1 in
    stopped_in_end (g.P.Picker.picks c.args.picker.now) file c.args.form.now c.requires.size.0 c.requires.size.2
    (g.met.S.Source.size_is_length c.args.source.now file c.requires.size.0 told c.requires.size.1)
    (c.fault_of_device-in-Err-write_end.result ≡ Write) _ (c.in_default.ensures.written file told) frames.0 sizes
    (stops_by_device c.in-Err-write_end.fault _ _ c.fault_of_device-in-Err-write_end.ensures
    (c.in-Err-write_end.ensures.written file (c.in_default-write_frames.ensures.bytes ∙ c.in_default.ensures.bytes ∙ told)))

pub returns-in-Ok-clause-written : goal.returns-in-Ok-clause-written
returns-in-Ok-clause-written g c file told =
    let frames = c.in_default-write_frames.ensures.written file (c.in_default.ensures.bytes ∙ told) in
    let sizes = noted _ c.write_frames.new.sizes _ _ _ c.as_slice-sizes.ensures.value c.in_default-write_frames.ensures.long
    c.deref_mut-4.ensures.len frames.1 in
    let known = g.met.S.Source.size_is_length c.args.source.now file c.requires.size.0 told c.requires.size.1 in (
      all_is_added (g.P.Picker.picks c.args.picker.now) file c.args.form.now c.requires.size.0 c.requires.size.2 known _ sizes
          (c.in_default.ensures.written file told) frames.0
          (c.in-Ok.ensures.written file (c.in_default-write_frames.ensures.bytes ∙ c.in_default.ensures.bytes ∙ told)),
      sym c.as_slice-sizes.ensures.value ∙ sizes,
    )

pub returns-in-Ok-clause-appended : goal.returns-in-Ok-clause-appended
returns-in-Ok-clause-appended g c file fits =
    omega (
      arith,
      length-front file (plain_seen c.args.form.now),
      c.in_default.ensures.appended file fits,
      c.in_default-write_frames.ensures.appended,
      c.in-Ok.ensures.appended,
    )

-- what is read in front of the sound, of it and behind it is no more than the form
in_form : (form : PlainForm) (a b d e : ℕ) → b ≤ a + bytes_on Before (plain_seen form) → d ≤ b + form.sound.size →
    e ≤ d + bytes_on Behind (plain_seen form) → e ≤ a + form.end
in_form form a b d e front sound behind = omega (arith, parts_of_form (plain_seen form) form.lawful)

pub returns-in-Err-clause-given : goal.returns-in-Err-clause-given
returns-in-Err-clause-given g c = omega (arith, parts_of_form (plain_seen c.args.form.now) c.args.form.now.lawful, c.write_front.ensures.given)

pub returns-in-Err-write_frames-clause-given : goal.returns-in-Err-write_frames-clause-given
returns-in-Err-write_frames-clause-given g c =
    omega (arith, parts_of_form (plain_seen c.args.form.now) c.args.form.now.lawful, c.write_front.ensures.given, c.write_frames.ensures.given)

pub returns-in-Err-write_end-clause-given : goal.returns-in-Err-write_end-clause-given
returns-in-Err-write_end-clause-given g c =
    in_form c.args.form.now _ _ _ _ c.write_front.ensures.given c.write_frames.ensures.given c.write_end.ensures.given

pub returns-in-Ok-clause-given : goal.returns-in-Ok-clause-given
returns-in-Ok-clause-given g c = in_form c.args.form.now _ _ _ _ c.write_front.ensures.given c.write_frames.ensures.given c.write_end.ensures.given

pub returns-in-Err-clause-cause : goal.returns-in-Err-clause-cause
returns-in-Err-clause-cause g c = cause_by_device c.in-Err.fault _ _ _ _ _ c.fault_of_device.ensures c.in-Err.ensures.cause

pub returns-in-Err-write_end-clause-cause : goal.returns-in-Err-write_end-clause-cause
returns-in-Err-write_end-clause-cause g c =
    cause_by_device c.in-Err-write_end.fault _ _ _ _ _ c.fault_of_device-in-Err-write_end.ensures
    (failed_since c.in-Err-write_end.fault _ _ _ _ _ _ (le_trans c.write_front.ensures.source_later c.write_frames.ensures.source_later)
    (le_trans c.write_front.ensures.sink_later c.write_frames.ensures.sink_later) c.in-Err-write_end.ensures.cause)

-- what stays of the source and the sink, part by part
pub returns-in-Err-clause-bytes : goal.returns-in-Err-clause-bytes
returns-in-Err-clause-bytes g c = c.write_front.ensures.bytes

pub returns-in-Err-write_frames-clause-bytes : goal.returns-in-Err-write_frames-clause-bytes
returns-in-Err-write_frames-clause-bytes g c = c.write_frames.ensures.bytes ∙ c.write_front.ensures.bytes

pub returns-in-Err-write_end-clause-bytes : goal.returns-in-Err-write_end-clause-bytes
returns-in-Err-write_end-clause-bytes g c = c.write_end.ensures.bytes ∙ c.write_frames.ensures.bytes ∙ c.write_front.ensures.bytes

pub returns-in-Ok-clause-bytes : goal.returns-in-Ok-clause-bytes
returns-in-Ok-clause-bytes g c = c.write_end.ensures.bytes ∙ c.write_frames.ensures.bytes ∙ c.write_front.ensures.bytes

pub returns-in-Err-clause-loan : goal.returns-in-Err-clause-loan
returns-in-Err-clause-loan g c = c.write_front.ensures.loan

pub returns-in-Err-write_frames-clause-loan : goal.returns-in-Err-write_frames-clause-loan
returns-in-Err-write_frames-clause-loan g c = c.write_frames.ensures.loan ∙ c.write_front.ensures.loan

pub returns-in-Err-write_end-clause-loan : goal.returns-in-Err-write_end-clause-loan
returns-in-Err-write_end-clause-loan g c = c.write_end.ensures.loan ∙ c.write_frames.ensures.loan ∙ c.write_front.ensures.loan

pub returns-in-Ok-clause-loan : goal.returns-in-Ok-clause-loan
returns-in-Ok-clause-loan g c = c.write_end.ensures.loan ∙ c.write_frames.ensures.loan ∙ c.write_front.ensures.loan

pub returns-in-Err-clause-source_later : goal.returns-in-Err-clause-source_later
returns-in-Err-clause-source_later g c = c.write_front.ensures.source_later

pub returns-in-Err-write_frames-clause-source_later : goal.returns-in-Err-write_frames-clause-source_later
returns-in-Err-write_frames-clause-source_later g c = le_trans c.write_front.ensures.source_later c.write_frames.ensures.source_later

pub returns-in-Err-write_end-clause-source_later : goal.returns-in-Err-write_end-clause-source_later
returns-in-Err-write_end-clause-source_later g c =
    le_trans (le_trans c.write_front.ensures.source_later c.write_frames.ensures.source_later) c.write_end.ensures.source_later

pub returns-in-Ok-clause-source_later : goal.returns-in-Ok-clause-source_later
returns-in-Ok-clause-source_later g c =
    le_trans (le_trans c.write_front.ensures.source_later c.write_frames.ensures.source_later) c.write_end.ensures.source_later

pub returns-in-Err-clause-sink_later : goal.returns-in-Err-clause-sink_later
returns-in-Err-clause-sink_later g c = c.write_front.ensures.sink_later

pub returns-in-Err-write_frames-clause-sink_later : goal.returns-in-Err-write_frames-clause-sink_later
returns-in-Err-write_frames-clause-sink_later g c = le_trans c.write_front.ensures.sink_later c.write_frames.ensures.sink_later

pub returns-in-Err-write_end-clause-sink_later : goal.returns-in-Err-write_end-clause-sink_later
returns-in-Err-write_end-clause-sink_later g c =
    le_trans (le_trans c.write_front.ensures.sink_later c.write_frames.ensures.sink_later) c.write_end.ensures.sink_later

pub returns-in-Ok-clause-sink_later : goal.returns-in-Ok-clause-sink_later
returns-in-Ok-clause-sink_later g c =
    le_trans (le_trans c.write_front.ensures.sink_later c.write_frames.ensures.sink_later) c.write_end.ensures.sink_later

pub returns-in-Err-write_frames-clause-cause : goal.returns-in-Err-write_frames-clause-cause
returns-in-Err-write_frames-clause-cause g c =
    caused_since c.in-Err-write_frames.fault _ _ _ _ _ _ c.write_front.ensures.source_later c.write_front.ensures.sink_later
    c.in-Err-write_frames.ensures.cause
