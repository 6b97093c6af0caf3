-- The header, the rows, and the sink is settled.
use Rattle.std.proofs.Common.{◌≡◌, ℕ, ◌≤◌, List, refl, ap, arith}
use Rattle.dst_spec.specs.Sample.{Shape, IsShape}
use Rattle.dsdiff_chunks.specs.Forms.{coded_seen}
use Rattle.dsf_files.specs.Forms.{dsf_seen}
use Rattle.dst_commands.proofs.Taken.{parts_of_form}
use Rattle.dst_commands.specs.declared.opened.WalkedForm.{WalkedForm}
use Rattle.dst_read.specs.Feeding.{bytes_of_entries}
use Rattle.dst_read.proofs.Once.{stored_in_sound}
use Rattle.dst_dsf.specs.declared.opened.DsfWalked.{DsfWalked}
use Rattle.dst_dsf.specs.Decoding.{IsFor, IsOpenedAs}
use Rattle.dst_dsf.proofs.Ending.{header_added, head_cut, ends_at_head, ends_in_rows, ends_unsettled, ends_done}
use Rattle.dst_dsf.proofs.decode.write_decoded.Goals as goal

-- the parts of the form that the rows and the header need
opened_for : (file : List ℕ) (o : DsfWalked) → IsShape o.walked.form.channels → IsOpenedAs file (coded_seen o.walked.form) (dsf_seen o.said) →
    IsFor file (coded_seen o.walked.form) (dsf_seen o.said)
opened_for file o lawful opened =
    let channels : o.said.channels.channels ≡ o.walked.form.channels.channels = ap (λ (f : Shape). f.channels) o.says.same in
    record {
      accepts = opened.accepts;
      form_is = opened.form_is;
      said_is = opened.said_is;
      channels = channels;
      some = omega (arith, channels, lawful.least);
      whole = o.says.whole;
    }

pub returns-in_default-clause-written : goal.returns-in_default-clause-written
returns-in_default-clause-written g c file told =
    ends_at_head file _ _ (opened_for file c.args.opened.now c.requires.room.jobs.lawful (c.requires.opened file told))
    (g.met.S.Source.told_are_bytes c.args.source.now file told)
    _ _ _ (head_cut c.in_default.field-0 _ _ _ _ _ c.in_default.ensures.sure c.in_default.ensures.written)

pub returns-in-Err-clause-written : goal.returns-in-Err-clause-written
returns-in-Err-clause-written g c file told =
    let header = header_added _ (dsf_seen c.args.opened.now.said) _ _ _ _ c.in-Ok.ensures.sure c.in-Ok.ensures.written in
    ends_in_rows file _ _ (opened_for file c.args.opened.now c.requires.room.jobs.lawful (c.requires.opened file told))
    (g.met.S.Source.told_are_bytes c.args.source.now file told)
    c.in-Err.fault _ _ _ _ _ (g.K.Sink.room c.write_rows.new.sink) header (c.in-Err.ensures.written file told)

pub returns-in_default-finish-clause-written : goal.returns-in_default-finish-clause-written
returns-in_default-finish-clause-written g c file told =
    let header = header_added _ (dsf_seen c.args.opened.now.said) _ _ _ _ c.in-Ok.ensures.sure c.in-Ok.ensures.written in
    let frames = c.in_default-write_rows.ensures.written file told in
    ends_unsettled file _ _ (opened_for file c.args.opened.now c.requires.room.jobs.lawful (c.requires.opened file told))
    (g.met.S.Source.told_are_bytes c.args.source.now file told)
    frames.0 _ _ _ _ _ _ _ frames.1 header frames.2 c.in_default-finish.ensures.written c.in_default-finish.ensures.sure

pub returns-clause-written : goal.returns-clause-written
returns-clause-written g c file told =
    let header = header_added _ (dsf_seen c.args.opened.now.said) _ _ _ _ c.in-Ok.ensures.sure c.in-Ok.ensures.written in
    let frames = c.in_default-write_rows.ensures.written file told in
    ends_done file _ _ (opened_for file c.args.opened.now c.requires.room.jobs.lawful (c.requires.opened file told))
    (g.met.S.Source.told_are_bytes c.args.source.now file told)
    (record { frames = c.args.opened.now.walked.form.frames; bytes = c.sound_size.result }) frames.0 _ _ _ _ _ _ _
    frames.1 header frames.2
    c.finish.ensures.written refl c.sound_size.ensures.size

-- the stored frames lie in the sound, and so in the form
stored_in_form : (walked : WalkedForm) → bytes_of_entries walked.index ≤ walked.form.end
stored_in_form walked = omega (arith, stored_in_sound walked, parts_of_form (coded_seen walked.form) walked.form.lawful)

pub returns-in-Err-clause-given : goal.returns-in-Err-clause-given
returns-in-Err-clause-given g c = omega (arith, c.write_rows.ensures.given, stored_in_form c.args.opened.now.walked)

pub returns-in_default-finish-clause-given : goal.returns-in_default-finish-clause-given
returns-in_default-finish-clause-given g c = omega (arith, c.write_rows.ensures.given, stored_in_form c.args.opened.now.walked)

pub returns-clause-given : goal.returns-clause-given
returns-clause-given g c = omega (arith, c.write_rows.ensures.given, stored_in_form c.args.opened.now.walked)
