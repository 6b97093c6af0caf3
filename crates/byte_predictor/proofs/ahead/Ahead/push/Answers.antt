-- The sample joins the newest sixteen and the sums stay as they are: each leaves out one sample more.
use Rattle.std.proofs.Common.{◌<◌, ◌+◌, ◌*◌, ◌%◌, ◌∷◌, ◌≡◌, take, drop, ap, subst, sym, ◌∙◌, rules, arith}
use Rattle.dst_spec.specs.Header.{bit_of}
use Rattle.byte_predictor.specs.Samples.{rising_bits}
use Rattle.byte_predictor.specs.Upward.{upward_sum, far}
use Rattle.byte_predictor.specs.SumsAhead.{IsAhead}
use Rattle.byte_predictor.proofs.Bits.{bit_of-from}
use Rattle.byte_predictor.proofs.Late.{newest-pushed, left-pushed}
use Rattle.byte_predictor.proofs.ahead.Ahead.push.Goals as goal

pub returns : goal.returns
returns c = λ coefs place samples lt before.
    let inside = c.self.inside in
    let ahead = subst (IsAhead coefs place samples) (sym c.self.view_is) before in
    let bit = bit_of-from c.args.sample c.from.result c.from.ensures in
    let fits : inside.newest < 65536 = search rules in
    let small : c.from.result < 2 = bit.1 in
    let now : c.pushed-self-inside.result ≡ inside.newest % 32768 * 2 + c.from.result = omega (arith, c.pushed-self-inside.ensures) in
    record {
      few = omega arith;
      long = omega (arith, ahead.long);
      newest = ap (rising_bits 16) now
          ∙ newest-pushed inside.newest c.from.result samples small fits ahead.newest
          ∙ ap (λ b. take 16 (b ∷ samples)) (sym bit.0);
      lanes = ahead.lanes;
      sums = λ lane h. ahead.sums lane h ∙ ap (upward_sum (drop lane (far coefs))) (left-pushed 0 place lane (bit_of c.args.sample) samples (omega arith));
    }
