-- A sound whose size `KEPT` says needs the frames of its form, so it isn't larger than they are together.
use Rattle.std.proofs.Common.{◌≡◌, ◌*◌, ap, sym, ◌∙◌, arith, refl}
use Rattle.std.specs.Option.{option_map}
use Rattle.dst_spec.specs.Sample.{sound_bytes}
use Rattle.dsdiff_spec.specs.Form.{sound_bytes_of, plain_size, size_of_sound}
use Rattle.dsdiff_chunks.specs.Forms.{coded_seen}
use Rattle.dsdiff_chunks.specs.Seen.{origin_seen}
use Rattle.dst_commands.proofs.PassedOn.{coded_size, sound_is_needed}
use Rattle.dst_commands.proofs.sizes.sound_size.Goals as goal

pub returns-in-Some-clause-most : goal.returns-in-Some-clause-most
returns-in-Some-clause-most c =
    let form = coded_seen c.args.form.now in
    let whole : sound_bytes_of form ≡ c.sound_bytes-whole.result = ap sound_bytes c.args.form.now.shape ∙ sym c.sound_bytes-whole.ensures.bytes in
    let need = sound_is_needed form c.args.form.now.lawful refl (omega (arith, whole, c.sound_bytes-whole.ensures.least)) in
    let most = need.most (omega (arith, whole, c.sound_bytes-whole.ensures.most)) in
    let size : size_of_sound form ≡ c.in-Some.origin.sound = coded_size form refl
    ∙ ap (λ k. plain_size (option_map origin_seen k) (form.frames * sound_bytes_of form)) c.in-Some.is in
    omega (arith, size, most)
