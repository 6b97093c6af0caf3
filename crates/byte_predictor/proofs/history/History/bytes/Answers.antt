-- Sixteen bytes are 128 samples, and each bit of a byte is the sample at its place.
use Rattle.std.proofs.Common.{◌≡◌, ◌*◌, ◌+◌, ◌<◌, get_or, refl, length, ap, sym, ◌∙◌, arith}
use Rattle.byte_predictor.specs.Samples.{samples_of}
use Rattle.byte_predictor.proofs.Bits.{length-samples_of, samples_of-at}
use Rattle.byte_predictor.proofs.history.History.bytes.Goals as goal

pub returns-clause-long : goal.returns-clause-long
returns-clause-long c =
    let all : length (samples_of c.self.inside.bytes) ≡ 8 * length c.self.inside.bytes = length-samples_of c.self.inside.bytes in
    let sixteen : length c.self.inside.bytes ≡ 16 = c.self.invariant in
    sym (ap length c.self.view_is) ∙ all ∙ ap (λ n. 8 * n) sixteen

pub returns-clause-each : goal.returns-clause-each
returns-clause-each c = λ j i h l.
    let sixteen : length c.self.inside.bytes ≡ 16 = c.self.invariant in
    let inside : j < length c.self.inside.bytes = omega arith in
    sym (samples_of-at c.self.inside.bytes j i (8 * j + i) inside l refl) ∙ ap (λ t. get_or t (8 * j + i) 0) c.self.view_is
