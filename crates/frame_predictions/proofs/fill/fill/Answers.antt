-- Each byte gives eight codes more by the sums ahead, none of them above the size; with all bytes the row is whole.
use Rattle.std.proofs.Common.{◌+◌, ◌-◌, ◌*◌, ◌≡◌, ◌++◌, get_or, drop, refl, ap, sym, ◌∙◌, arith}
use borrow.Rule.Slice.PartMut.{same_len_mid, mid_len}
use Rattle.byte_predictor.specs.Samples.{rising_bits}
use Rattle.frame_predictions.proofs.Elements.{codes-whole}
use Rattle.frame_predictions.proofs.Samples.{filling-begins, filling-more}
use Rattle.frame_predictions.proofs.fill.fill.Goals as goal

pub loop-byte-init : goal.loop-byte-init
loop-byte-init c = record {
  long = c.requires.long;
  filling = λ f count. filling-begins f c.args.sound.now c.args.channel c.args.filter.now c.args.codes.now c.fresh-ahead.result c.fresh-ahead.ensures;
}

pub write_byte-requires-clause-upward : goal.write_byte-requires-clause-upward
write_byte-requires-clause-upward c = λ place lt.
    let h = c.loop-byte.invariant.filling (record { channels = c.args.channels; octets = c.args.octets }) refl in
    let is = c.take_byte-upward.ensures.upward place h.samples lt h.ahead in
    let here = drop (8 - place) (rising_bits 8 (get_or c.args.sound.now (c.loop-byte.byte * c.args.channels + c.args.channel) 0) ++ h.samples) in
    omega (arith, is, c.size-size.ensures.upward here)

pub loop-byte-preserved : goal.loop-byte-preserved
loop-byte-preserved c =
    let m = c.loop-byte.byte in
    let codes = c.loop-byte.codes in
    let eight = c.write_byte.new.codes in
    let long = c.loop-byte.invariant.long in
    let part : 8 * m + 8 - 8 * m ≡ 8 = omega arith in
    record {
      long = same_len_mid (8 * m) (8 * m + 8 - 8 * m) codes eight
          (c.write_byte.ensures.eight ∙ sym part ∙ sym (mid_len (8 * m) (8 * m + 8) codes (omega arith))) ∙ long;
      filling = λ f count.
          let at = ap (λ n. get_or c.args.sound.now (m * n + c.args.channel) 0) count in
          filling-more f c.args.sound.now c.args.channel c.args.filter.now m _ c.size-size.result codes c.take_byte-upward.result eight _
          c.loop-byte.ahead c.take_byte-upward.new.self c.requires.filter (omega arith) c.write_byte.ensures.eight at c.size-size.ensures.size
          c.take_byte-upward.ensures.ahead c.take_byte-upward.ensures.upward c.write_byte.ensures.each (c.loop-byte.invariant.filling f count);
    }

pub returns : goal.returns
returns c = λ f count octets.
    let h = c.loop-byte.invariant.filling f count in
    let all : c.loop-byte.byte ≡ c.args.octets = omega arith in
    codes-whole f c.args.sound.now c.args.channel c.args.filter.now c.loop-byte.codes (c.loop-byte.invariant.long ∙ ap (λ n. 8 * n) (omega (arith, octets)))
    (λ t lt. h.codes_are t (omega (arith, octets)))
