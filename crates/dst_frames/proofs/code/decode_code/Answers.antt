-- By either copy of the loop the decoder stands behind all symbols of the sound, so its bits are their code.
use Rattle.std.proofs.Common.{◌≡◌, ◌*◌, [], length, sym, subst₂, ◌∙◌, arith}
use Rattle.dst_spec.specs.Bits.{bits}
use Rattle.dst_spec.specs.Symbols.{symbols}
use Rattle.dst_spec.specs.Interval.{IsCodeOf}
use Rattle.dst_frames.specs.Underway.{IsFurther, AreDecoded}
use Rattle.dst_frames.proofs.Whole.{frame_begins, frame_ends}
use Rattle.dst_frames.proofs.code.decode_code.Goals as goal
use Rattle.dst_frames.proofs.code.decode_code.Goals.{in-1, in_default}

-- by either copy of the loop
all_decoded : (c : goal.After-used) →
    AreDecoded c.build_all.new.tables 0 c.args.octets c.args.out.now c.match-tables.out c.decode.new.self c.match-tables.decoder c.build_all.new.states
    c.match-tables.states × IsFurther c.decode.new.self c.match-tables.decoder (384 * c.args.octets)
all_decoded c = elim c.match-tables.branch [
  | in-1 w ↦ rw (w.states-is, w.out-is, w.decoder-is) (w.decode_samples.ensures.sound, w.decode_samples.ensures.code)
  | in_default w ↦
      rw (w.states-is, w.out-is, w.decoder-is) (w.decode_samples-in_default.ensures.sound, w.decode_samples-in_default.ensures.code)
]

pub returns-clause-sound : goal.returns-clause-sound
returns-clause-sound c = λ f channels octets.
    let P = c.args.params.now in
    let reserved = c.decode.result in
    let out = c.match-tables.out in
    let decoder = c.match-tables.decoder in
    let all = all_decoded c in
    let same_channels : f.channels ≡ length c.build_all.new.tables = channels ∙ sym c.build_all.auto.tables in
    let built = c.build_all.ensures.built f channels in
    let begins = frame_begins f P reserved c.reserved_probability.result c.args.out.now c.decode.new.self c.build_all.new.states
    c.reserved_probability.ensures (c.decode.ensures.stands [] c.in-Ok.ensures.stands) (λ j other h. c.build_all.ensures.fresh j other (omega arith)) in
    let whole = all.0 f P reserved same_channels built begins in
    let stands = frame_ends f P reserved c.args.octets out decoder c.match-tables.states octets whole in
    let bytes = all.1.bytes ∙ c.decode.ensures.bytes ∙ c.in-Ok.ensures.bytes in
    let first = all.1.first ∙ c.decode.ensures.first ∙ c.in-Ok.ensures.first in
    record {
      reserved = reserved;
      code = subst₂ (λ bs i. IsCodeOf (bits bs) i (symbols f P out reserved)) bytes first (c.decoded_code.ensures decoder (symbols f P out reserved) stands);
      used_are = c.used.ensures.used ∙ stands.used;
    }
