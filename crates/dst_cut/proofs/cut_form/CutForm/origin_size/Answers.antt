-- The fields of `KEPT` take fourteen bytes.
use Rattle.std.proofs.Common.{ap}
use Rattle.std.specs.Option.{option_map}
use Rattle.dsdiff_chunks.specs.Forms.{coded_seen}
use Rattle.dsdiff_chunks.specs.Seen.{origin_seen}
use Rattle.dst_cut.proofs.CutWhole.{length-origin_left_by}
use Rattle.dst_cut.proofs.cut_form.CutForm.origin_size.Goals as goal

pub returns-in-Some-clause-size : goal.returns-in-Some-clause-size
returns-in-Some-clause-size c =
    let self = c.args.self.now in
    let form = coded_seen self.form in
    length-origin_left_by form self.first self.last form.origin (origin_seen c.in-Some.origin) c.as_slice.result.now
    (ap (option_map origin_seen) c.in-Some.is) c.as_slice.ensures
