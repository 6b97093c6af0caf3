-- A sound that `KEPT` tells needs the frames of its form.
use Rattle.std.proofs.Common.{◌≡◌, ◌*◌, ◌<◌, ap, subst, refl, arith, option_map}
use Rattle.dst_spec.specs.Sample.{sound_bytes}
use Rattle.dsdiff_spec.specs.Form.{sound_bytes_of}
use Rattle.dsdiff_spec.proofs.CodedFiles.{needed}
use Rattle.dsdiff_chunks.specs.Forms.{coded_seen}
use Rattle.dsdiff_chunks.specs.Lawful.{IsOriginIfAny}
use Rattle.dsdiff_chunks.specs.Seen.{origin_seen}
use Rattle.dsdiff_chunks.proofs.LawfulForms.{coded_parts}
use Rattle.frame_cache.proofs.reader.sound_size.Goals as goal

pub returns-in-Some-clause-most : goal.returns-in-Some-clause-most
returns-in-Some-clause-most c =
    let form = coded_seen c.args.form.now in
    let n = sound_bytes_of form in
    let bytes : n ≡ sound_bytes c.args.form.now.channels = ap sound_bytes c.args.form.now.shape in
    let some : 0 < n = omega (arith, bytes, c.sound_bytes-whole.ensures.bytes, c.sound_bytes-whole.ensures.least) in
    let origin = subst (λ k. IsOriginIfAny form.channels n form.frames (option_map origin_seen k)) c.in-Some.is
    (coded_parts form c.args.form.now.lawful refl).origin in
    let most = (needed n c.in-Some.origin.sound form.frames some origin.count).0 in
    omega (arith, most, ap (λ k. form.frames * k) bytes)
