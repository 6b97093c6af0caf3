-- What is moved in is the newest sample, with 127 of the others behind it: these are the samples before the next place.
use Rattle.std.proofs.Common.{◌≡◌, ◌+◌, ◌∷◌, take, subst, ap, sym, ◌∙◌, arith}
use Rattle.dst_spec.specs.Header.{bit_of}
use Rattle.byte_predictor.specs.Samples.{IsBefore, samples_of}
use Rattle.byte_predictor.proofs.Bits.{pushed}
use Rattle.byte_predictor.proofs.Before.{before_next, before_front}
use Rattle.byte_predictor.proofs.history.History.push.Goals as goal

pub returns-clause-newest : goal.returns-clause-newest
returns-clause-newest c =
    pushed (bit_of c.args.sample) c.shift_in.result c.self.inside.bytes c.shift_in.new.bytes c.shift_in.ensures.long c.shift_in.ensures.moved
    ∙ ap (λ t. bit_of c.args.sample ∷ take 127 t) c.self.view_is

pub returns-clause-before : goal.returns-clause-before
returns-clause-before c = λ f sound ch t same before.
    let bit = bit_of c.args.sample in
    let newest : samples_of c.shift_in.new.bytes ≡ bit ∷ take 127 c.args.self.now =
    pushed bit c.shift_in.result c.self.inside.bytes c.shift_in.new.bytes c.shift_in.ensures.long c.shift_in.ensures.moved
    ∙ ap (λ t. bit ∷ take 127 t) c.self.view_is in
    subst (IsBefore f sound ch (t + 1)) (sym newest)
    (before_front f sound ch (t + 1) bit c.args.self.now (before_next f sound ch t bit c.args.self.now same before) (omega (arith, before.long)))
