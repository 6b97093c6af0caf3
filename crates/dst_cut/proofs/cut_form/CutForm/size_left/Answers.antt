-- The sound needs all its frames, so that those before the first have less than all of it.
use Rattle.std.proofs.Common.{◌≡◌, ◌<◌, ◌*◌, ap, sym, ◌∙◌, arith, refl}
use Rattle.std.specs.Option.{option_map}
use Rattle.dst_spec.specs.Sample.{sound_bytes}
use Rattle.dsdiff_spec.specs.Form.{sound_bytes_of, plain_size, size_of_sound}
use Rattle.dsdiff_chunks.specs.Forms.{coded_seen}
use Rattle.dsdiff_chunks.specs.Seen.{origin_seen}
use Rattle.dst_commands.proofs.PassedOn.{coded_size, sound_is_needed}
use Rattle.dst_cut.proofs.cut_form.CutForm.size_left.Goals as goal
use Rattle.std.proofs.Math.Nat.{mul_comm}

pub overflow_sub-result : goal.overflow_sub-result
overflow_sub-result c =
    let self = c.args.self.now in
    let form = coded_seen self.form in
    let whole : sound_bytes_of form ≡ c.sound_bytes-whole.result = ap sound_bytes self.form.shape ∙ sym c.sound_bytes-whole.ensures.bytes in
    let need = sound_is_needed form self.form.lawful refl (omega (arith, whole, c.sound_bytes-whole.ensures.least)) in
    let first : self.first < self.form.frames = omega (arith, self.order, self.there) in
    let size : size_of_sound form ≡ c.args.origin.now.sound = coded_size form refl
    ∙ ap (λ k. plain_size (option_map origin_seen k) (form.frames * sound_bytes_of form)) c.requires in
    let before = need.reached self.first first in
    let from : c.from.result ≡ self.first = omega (arith, c.from.ensures) in
    let same : c.sound_bytes-whole.result * c.from.result ≡ self.first * sound_bytes_of form =
    ap (λ n. n * c.from.result) (sym whole) ∙ ap (λ n. sound_bytes_of form * n) from ∙ mul_comm (sound_bytes_of form) self.first in
    omega (arith, same, before, size)
