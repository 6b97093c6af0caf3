-- The number of chunks, then the size of the form.
use Rattle.std.proofs.Common.{sym, arith}
use Rattle.dsdiff_spec.specs.Cut.{cut_chunks}
use Rattle.dsdiff_chunks.specs.Forms.{coded_seen}
use Rattle.dst_cut.proofs.CutPlaces.{cut_out}
use Rattle.dst_cut.proofs.CutWhole.{size_is, none_fault, large_fault}
use Rattle.dst_cut.proofs.cut_form.CutForm.fault.Goals as goal

pub returns-then-form_size-gt-LARGEST_FORM : goal.returns-then-form_size-gt-LARGEST_FORM
returns-then-form_size-gt-LARGEST_FORM c file fits is =
    let self = c.args.self.now in
    let form = coded_seen self.form in
    let size = size_is self.index file form self.first self.last self.order is (cut_out self) fits in
    sym (large_fault (cut_chunks file form self.first self.last) (omega (arith, c.chunks.ensures file, c.if-chunks-gt-MOST_CHUNKS.false))
    (omega (arith, c.form_size.ensures file fits, size, c.if-form_size-gt-LARGEST_FORM.true)))

pub returns-else-form_size-gt-LARGEST_FORM : goal.returns-else-form_size-gt-LARGEST_FORM
returns-else-form_size-gt-LARGEST_FORM c file fits is =
    let self = c.args.self.now in
    let form = coded_seen self.form in
    let size = size_is self.index file form self.first self.last self.order is (cut_out self) fits in
    sym (none_fault (cut_chunks file form self.first self.last) (omega (arith, c.chunks.ensures file, c.if-chunks-gt-MOST_CHUNKS.false))
    (omega (arith, c.form_size.ensures file fits, size, c.if-form_size-gt-LARGEST_FORM.false)))
