-- The sound has as many bytes of each channel, so the samples that are said make up all of it.
use Rattle.std.proofs.Common.{refl}
use Rattle.dsdiff_spec.specs.Form.{size_of_sound}
use Rattle.dsdiff_chunks.specs.Forms.{coded_seen}
use Rattle.dst_dsf.proofs.Dsfk.{whole_groups, groups_times}
use Rattle.dst_dsf.proofs.said.usual_form.Goals as goal

pub returns-clause-lawful : goal.returns-clause-lawful
returns-clause-lawful c =
    let form = c.args.form.now in
    record {
      same = refl;
      order = refl;
      whole = rw (c.sound_size.ensures.size, c.count-count.ensures.count)
          (groups_times (size_of_sound (coded_seen form)) form.channels.channels (whole_groups form));
    }
