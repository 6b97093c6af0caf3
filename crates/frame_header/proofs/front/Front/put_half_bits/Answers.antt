-- A half bit is put as the number 0 or 1, behind those of the channels before.
use Rattle.std.proofs.Common.{◌≡◌, ◌++◌, Bool, true, false, get_or, refl, ap, ◌∙◌, arith}
use mir.Val.{bool_byte}
use Rattle.dst_spec.specs.Bits.{low_bits}
use Rattle.dst_spec.specs.Header.{bit_of}
use Rattle.frame_header.proofs.SpelledMaps.{half_step}
use Rattle.frame_header.proofs.front.Front.put_half_bits.Goals as goal

byte : (b : Bool) → bool_byte b ≡ bit_of b
byte true = refl
byte false = refl

pub loop-bit-preserved : goal.loop-bit-preserved
loop-bit-preserved c =
    let l = c.loop-bit in
    let half_prob = c.args.half_prob.now in
    let b = get_or half_prob l.bit-index false in
    let bit : c.from.result ≡ bit_of b = c.from.ensures ∙ byte b in
    record {
      whole = half_step c.args.self.now l.self c.put.new.self half_prob l.bit-index b c.loop-bit-test.true refl (c.put.ensures.bits
          ∙ ap (λ v. l.self ++ low_bits 1 v) bit) l.invariant.whole;
      long = c.put.ensures.length ∙ omega (arith, l.invariant.long);
    }
