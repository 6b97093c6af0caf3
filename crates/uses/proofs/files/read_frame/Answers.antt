-- An entry of an index that fits its form lies in front of the form's end, and has room in the buffer.
use Rattle.std.proofs.Common.{◌+◌, ◌*◌, ◌≤◌, length, take, ap, subst, arith, length-take-le}
use Rattle.dst_spec.specs.Sample.{sound_bytes}
use Rattle.dsdiff_spec.specs.Walk.{Entry, entry}
use Rattle.dsdiff_chunks.specs.Forms.{coded_seen}
use Rattle.dsdiff_chunks.proofs.LawfulForms.{sound_inside}
use Rattle.uses.proofs.files.read_frame.Given as given
use Rattle.uses.proofs.files.read_frame.Goals as goal

-- as many bytes as are read from the entry's place on end no later than the form
inside_form : (g : given.Over) (c : goal.After-read_range-arg-2-1 g) →
    c.entry-entry.result.offset + length (take c.entry-entry.result.size c.args.buffer.now) ≤ c.args.form.now.end
inside_form g c =
    let form = c.args.form.now in
    let e = entry c.args.index.now c.args.k in
    let inside = c.requires.index.inside c.args.k c.requires.k in
    let end = sound_inside (coded_seen form) form.lawful in
    let offset = ap (λ (e : Entry). e.offset) c.entry-entry.ensures in
    let size = ap (λ (e : Entry). e.size) c.entry-entry.ensures in
    let short = subst (λ s. e.size ≤ 2 * (sound_bytes s + 1)) form.shape inside.short in
    let read = length-take-le c.entry-entry.result.size c.args.buffer.now (omega (arith, short, size, c.requires.room)) in
    omega (arith, inside.before, end, offset, size, read)

pub read_range-requires-clause-fits : goal.read_range-requires-clause-fits
read_range-requires-clause-fits g c = omega (arith, inside_form g c, c.args.form.now.lawful.end)

pub read_range-requires-clause-inside : goal.read_range-requires-clause-inside
read_range-requires-clause-inside g c =
    let known = c.requires.size in
    (known.0, known.1, omega (arith, inside_form g c, known.2))
