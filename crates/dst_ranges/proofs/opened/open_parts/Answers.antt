-- The rules in their order; what is opened is ready for the pairs.
use Rattle.std.proofs.Common.{◌≡◌, ◌<◌, sym, ap, subst, ◌∙◌, arith}
use Rattle.dst_spec.specs.Sample.{Shape, IsShape, sound_bytes}
use Rattle.dsdiff_spec.specs.Form.{shape, size_of_sound}
use Rattle.dsdiff_spec.specs.Walk.{entries}
use Rattle.dsdiff_chunks.specs.Forms.{coded_seen}
use Rattle.frame_cache.specs.Reader.{Reader}
use Rattle.dst_ranges.proofs.OpeningRules.{inside_reader, pairs_asked, stops_first}
use Rattle.dst_ranges.proofs.opened.open_parts.Goals as goal

pub returns-in-Err-clause-stops : goal.returns-in-Err-clause-stops
returns-in-Err-clause-stops g c = stops_first c.args.pairs.now c.in-Err.fault _ _ _ c.in-Err.ensures.stops

pub returns-in-Some-clause-stops : goal.returns-in-Some-clause-stops
returns-in-Some-clause-stops g c file told =
    let walked = c.in-Ok.walked in
    pairs_asked c.args.pairs.now file (coded_seen walked.form) (c.in-Ok.ensures.accepted file told) (c.in-Ok.ensures.opened file told).form_is
    ∙ sym c.past_fault.ensures.first ∙ c.in-Some.is

pub returns-clause-ready : goal.returns-clause-ready
returns-clause-ready g c =
    let form = c.in-Ok.walked.form in
    let r = c.in-Ok-new.reader in
    let fresh = c.in-Ok-new.ensures.fresh in
    let shape_is : form.channels ≡ r.shape = sym form.shape ∙ sym (ap (λ (x : Reader). x.shape) fresh) in
    let some : 0 < sound_bytes form.channels = omega (arith, c.sound_bytes.ensures.bytes, c.sound_bytes.ensures.least) in
    let size_is : size_of_sound (coded_seen form) ≡ r.size = sym (ap (λ (x : Reader). x.size) fresh) in
    record {
      shape_is = shape_is;
      lawful = subst IsShape shape_is c.sound_bytes.ensures.shape;
      some = subst (λ (f : Shape). 0 < sound_bytes f) shape_is some;
      buffer_is = sym c.in-Ok-vec.buffer.ok.0 ∙ c.in-Ok-vec.ensures.len ∙ c.sound_bytes.ensures.bytes ∙ ap sound_bytes shape_is;
      capacity_is = ap (λ (x : Reader). x.capacity) fresh;
      held_is = ap (λ (x : Reader). x.held) fresh;
      size_most = omega (arith, size_is, c.past_fault.ensures.most);
      inside = inside_reader (coded_seen form) r form.channels c.args.pairs.now (ap (λ (f : Shape). f.channels) form.shape) size_is c.sound_bytes.ensures.shape
          (sym c.past_fault.ensures.first ∙ c.in_default.is);
    }

pub returns-clause-opened : goal.returns-clause-opened
returns-clause-opened g c file told =
    let form = c.in-Ok.walked.form in
    let fresh = c.in-Ok-new.ensures.fresh in
    let is = c.in-Ok.ensures.opened file told in
    record {
      accepts = pairs_asked c.args.pairs.now file (coded_seen form) (c.in-Ok.ensures.accepted file told) is.form_is ∙ sym c.past_fault.ensures.first
          ∙ c.in_default.is;
      reader_is = record {
        shape_is = ap shape is.form_is ∙ sym (ap (λ (x : Reader). x.shape) fresh);
        entries_are = ap (entries file) is.form_is ∙ is.entries_are ∙ sym (ap (λ (x : Reader). x.index) fresh);
        size_is = ap size_of_sound is.form_is ∙ sym (ap (λ (x : Reader). x.size) fresh);
      };
    }
