-- What is taken is the part of the sound that is left.
use Rattle.std.proofs.Common.{◌≡◌, ℕ, List, ◌+◌, ◌-◌, ◌++◌, take, length, sym, ap, ap₂, subst, ◌∙◌}
use Rattle.std.specs.Prelude.{min}
use Rattle.dsf_files.specs.Forms.{dsf_seen}
use Rattle.dst_read.specs.declared.jobs.Job.{Job}
use Rattle.dst_dsf.specs.declared.rows.RowWriter.{RowWriter}
use Rattle.dst_dsf.specs.Draining.{part_of}
use Rattle.dst_dsf.specs.Gathering.{HasTaken, FailsAtRow}
use Rattle.dst_dsf.proofs.Gathering.{take_least}
use Rattle.dst_dsf.proofs.drain.RowWriterDrainJob.drain.Goals as goal

-- as many bytes as are left are the part of the sound
part_taken : {K : Type 0} (s : RowWriter K) (job : Job) {n left count : ℕ} {xs : List ℕ} → n ≡ min left count → left ≡ s.row.size - s.row.taken →
    count ≡ length xs → xs ≡ job.sound.items → take n xs ≡ part_of s job
part_taken s job least left long is = take_least _ _ _ (least ∙ ap₂ min left long) ∙ ap (take (s.row.size - s.row.taken)) is

pub returns-in-Ok-clause-took : goal.returns-in-Ok-clause-took
returns-in-Ok-clause-took g c =
    let s = c.args.self.now in
    let part = part_taken s c.args.job.now c.min-length.ensures c.left-left.ensures (c.len.ensures ∙ sym c.deref.ensures.len) c.deref.ensures.value in
    record {
      same = record { lent = c.in-Ok.ensures.lent; form_is = c.in-Ok.ensures.form; size_is = c.in-Ok.ensures.size; later = c.take_sound.ensures.cause.later };
      tail = c.in_default.field-0;
      answer = c.in_default.is;
      taken = c.in-Ok.ensures.taken ∙ ap (λ w. s.row.taken + length w) part;
      takes = λ sound old before h.
          subst (λ w. HasTaken g.K.Sink.written g.K.Sink.room (sound ++ w) old before c.take_sound.new.self) part (c.in-Ok.ensures.written sound old before h);
    }

pub returns-in-Err-take_sound-clause-fault : goal.returns-in-Err-take_sound-clause-fault
returns-in-Err-take_sound-clause-fault g c =
    let s = c.args.self.now in
    let part = part_taken s c.args.job.now c.min-length.ensures c.left-left.ensures (c.len.ensures ∙ sym c.deref.ensures.len) c.deref.ensures.value in
    record {
      same = record {
        lent = c.in-Err-take_sound.ensures.lent;
        form_is = c.in-Err-take_sound.ensures.form;
        size_is =
            c.in-Err-take_sound.ensures.size;
        later = c.take_sound.ensures.cause.later;
      };
      ends = record {
        tail = c.in_default.field-0;
        answer = c.in_default.is;
        fails = λ sound old before h.
            subst (λ w. FailsAtRow (dsf_seen s.row.form) (sound ++ w) old (g.K.Sink.written c.take_sound.new.self.sink.now) before) part
            (c.in-Err-take_sound.ensures.written sound old before h);
        rose = c.in-Err-take_sound.ensures.cause.failed;
      };
    }
