-- In front of the frames, the frames, behind them; then the sink is finished.
use Rattle.std.proofs.Common.{◌≡◌, ℕ, ◌+◌, ◌≤◌, ◌∙◌, arith}
use Rattle.dsdiff_chunks.specs.Forms.{coded_seen}
use Rattle.dsdiff_chunks.specs.declared.form.CodedForm.{CodedForm}
use Rattle.dst_commands.specs.declared.chunks.Side.TheVariants.{Before, Behind}
use Rattle.dst_commands.specs.Passing.{bytes_on}
use Rattle.dst_commands.proofs.Writing.{stops_for, stops_unsettled}
use Rattle.dst_cut.specs.Cutting.{cut_bytes}
use Rattle.dst_cut.specs.declared.cut.CutFault.{CutFault}
use Rattle.dst_cut.specs.declared.cut.CutFault.TheVariants.{Write}
use Rattle.dst_commands.proofs.Taken.{parts_of_form}
use Rattle.dst_cut.proofs.CutOutcome.{stops_by_device}
use Rattle.dst_cut.proofs.CutStages.{stopped_in_front, stopped_in_frames, stopped_in_end, all_added}
use Rattle.dst_cut.proofs.cut.write_cut.Goals as goal

pub returns-in-Err-clause-written : goal.returns-in-Err-clause-written
returns-in-Err-clause-written g c file told is =
    let known = g.met.S.Source.size_is_length c.args.source.now file c.requires.size.0 told c.requires.size.1 in
    stopped_in_front file c.args.cut.now c.requires.size.0 is c.requires.size.2 known (c.fault_of_device.result ≡ Write)
    (stops_by_device c.in-Err.fault _ _ c.fault_of_device.ensures (c.in-Err.ensures.written file told))

pub returns-in-Err-write_frames-clause-written : goal.returns-in-Err-write_frames-clause-written
returns-in-Err-write_frames-clause-written g c file told is =
    let known = g.met.S.Source.size_is_length c.args.source.now file c.requires.size.0 told c.requires.size.1 in
    stopped_in_frames file c.args.cut.now c.requires.size.0 is c.requires.size.2 known (c.fault_of_device-in-Err-write_frames.result ≡ Write)
    (c.in_default.ensures.written file told)
    (stops_by_device c.in-Err-write_frames.fault _ _ c.fault_of_device-in-Err-write_frames.ensures
    (c.in-Err-write_frames.ensures.written file (c.in_default.ensures.bytes ∙ told)))

pub returns-in-Err-write_end-clause-written : goal.returns-in-Err-write_end-clause-written
returns-in-Err-write_end-clause-written g c file told is =
    let known = g.met.S.Source.size_is_length c.args.source.now file c.requires.size.0 told c.requires.size.1 in
    stopped_in_end file c.args.cut.now c.requires.size.0 is c.requires.size.2 known (c.fault_of_device-in-Err-write_end.result ≡ Write)
    (c.in_default.ensures.written file told) (c.in_default-write_frames.ensures.written file (c.in_default.ensures.bytes ∙ told))
    (stops_by_device c.in-Err-write_end.fault _ _ c.fault_of_device-in-Err-write_end.ensures
    (c.in-Err-write_end.ensures.written file (c.in_default-write_frames.ensures.bytes ∙ c.in_default.ensures.bytes ∙ told)))

pub returns-in-Ok-clause-written : goal.returns-in-Ok-clause-written
returns-in-Ok-clause-written g c file told is =
    let known = g.met.S.Source.size_is_length c.args.source.now file c.requires.size.0 told c.requires.size.1 in
    let all = all_added file c.args.cut.now c.requires.size.0 is c.requires.size.2 known (c.in_default.ensures.written file told)
    (c.in_default-write_frames.ensures.written file (c.in_default.ensures.bytes ∙ told))
    (c.in_default-write_end.ensures.written file (c.in_default-write_frames.ensures.bytes ∙ c.in_default.ensures.bytes ∙ told)) in
    (c.count.ensures.count, c.in-Ok.ensures.written ∙ all.written)

pub returns-in-Err-finish-clause-written : goal.returns-in-Err-finish-clause-written
returns-in-Err-finish-clause-written g c file told is =
    let known = g.met.S.Source.size_is_length c.args.source.now file c.requires.size.0 told c.requires.size.1 in
    let all = all_added file c.args.cut.now c.requires.size.0 is c.requires.size.2 known (c.in_default.ensures.written file told)
    (c.in_default-write_frames.ensures.written file (c.in_default.ensures.bytes ∙ told))
    (c.in_default-write_end.ensures.written file (c.in_default-write_frames.ensures.bytes ∙ c.in_default.ensures.bytes ∙ told)) in
    stops_for (Unit {0}) (◌≡◌ {A = CutFault} Write Write) (cut_bytes file c.args.cut.now) _ _ _ (λ e. tt {0})
    (stops_unsettled (cut_bytes file c.args.cut.now) _ _ _ _ _ all c.in-Err-finish.ensures.written c.in-Err-finish.ensures.sure)

-- what is read in front of the sound, of it and behind it is no more than the form
in_form : (form : CodedForm) (a b d e : ℕ) → b ≤ a + bytes_on Before (coded_seen form) → d ≤ b + form.sound.size →
    e ≤ d + bytes_on Behind (coded_seen form) → e ≤ a + form.end
in_form form a b d e front sound behind = omega (arith, parts_of_form (coded_seen form) form.lawful)

pub returns-in-Err-clause-given : goal.returns-in-Err-clause-given
returns-in-Err-clause-given g c = omega (arith, parts_of_form (coded_seen c.args.cut.now.form) c.args.cut.now.form.lawful, c.write_front.ensures.given)

pub returns-in-Err-write_frames-clause-given : goal.returns-in-Err-write_frames-clause-given
returns-in-Err-write_frames-clause-given g c =
    omega (arith, parts_of_form (coded_seen c.args.cut.now.form) c.args.cut.now.form.lawful, c.write_front.ensures.given, c.write_frames.ensures.given)

pub returns-in-Err-write_end-clause-given : goal.returns-in-Err-write_end-clause-given
returns-in-Err-write_end-clause-given g c =
    in_form c.args.cut.now.form _ _ _ _ c.write_front.ensures.given c.write_frames.ensures.given c.write_end.ensures.given

pub returns-in-Ok-clause-given : goal.returns-in-Ok-clause-given
returns-in-Ok-clause-given g c =
    in_form c.args.cut.now.form _ _ _ _ c.write_front.ensures.given c.write_frames.ensures.given c.write_end.ensures.given

pub returns-in-Err-finish-clause-given : goal.returns-in-Err-finish-clause-given
returns-in-Err-finish-clause-given g c =
    in_form c.args.cut.now.form _ _ _ _ c.write_front.ensures.given c.write_frames.ensures.given c.write_end.ensures.given
