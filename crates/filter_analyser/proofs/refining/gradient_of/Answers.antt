-- How one channel more agrees is added, and six channels stay in the bound.
use Rattle.std.proofs.Common.{ℕ, ◌+◌, ◌+ℤ◌, nat_abs, List, length, get_or, refl, ap, sym, ◌∙◌, arith}
use Rattle.std.specs.List.{range_with_len}
use Rattle.level_spec.specs.Refining.{weighted_agreement, gradient}
use Rattle.frame_predictions.specs.Codes.{code_at}
use Rattle.filter_refiner.proofs.Numbers.{zeros-at}
use Rattle.filter_analyser.proofs.Pulled.{gradient-push}
use Rattle.filter_analyser.proofs.refining.gradient_of.Goals as goal

pub loop-c-init : goal.loop-c-init
unfolding gradient
loop-c-init c = record {
  gradient = λ j h. zeros-at 128 j;
  small = λ j. omega (arith, ap nat_abs (zeros-at 128 j));
  sound = refl;
  channels = c.requires.channels;
}

pub add_channel-requires-clause-gradient : goal.add_channel-requires-clause-gradient
add_channel-requires-clause-gradient c = λ j. let few = c.requires.shape.most in omega (arith, c.loop-c.invariant.small j)

pub loop-c-preserved : goal.loop-c-preserved
loop-c-preserved c =
    let f = c.args.channels in
    let sound = c.args.predictions.now.sound in
    let coefs = c.args.filter.now in
    let weights = c.args.weights.now in
    let a = c.args.members.first in
    let n = c.loop-c.c in
    let W : List ℕ → ℕ → ℕ → ℕ = λ s c t. get_or weights (code_at f s c coefs t) 0 in
    record {
      gradient = λ j h.
          c.add_channel.ensures.gradient j h
          ∙ ap (λ z. z +ℤ weighted_agreement f c.loop-c.predictions.sound (W c.loop-c.predictions.sound) (length coefs) (a + n) j)
          (c.loop-c.invariant.gradient j h)
          ∙ ap (λ s. gradient f sound (W sound) (length coefs) (range_with_len a n) j +ℤ weighted_agreement f s (W s) (length coefs)
          (a + n) j) c.loop-c.invariant.sound
          ∙ sym (gradient-push f sound (W sound) (length coefs) a n j);
      small = λ j. omega (arith, c.add_channel.ensures.most j, c.loop-c.invariant.small j);
      sound = c.add_channel.ensures.sound ∙ c.loop-c.invariant.sound;
      channels = c.add_channel.ensures.channels ∙ c.loop-c.invariant.channels;
    }

pub returns-clause-small : goal.returns-clause-small
returns-clause-small c = λ j. let few = c.requires.shape.most in omega (arith, c.loop-c.invariant.small j)
