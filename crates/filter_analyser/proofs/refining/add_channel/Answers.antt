-- The row's codes are those of the filter over the channel, and by their weights the samples agree as defined.
use Rattle.std.proofs.Common.{◌≡◌, ℕ, pos, ◌+ℤ◌, List, length, get_or, ap, ◌∙◌}
use Rattle.dst_spec.specs.Sample.{Shape}
use Rattle.level_spec.specs.Refining.{weighted_agreement}
use Rattle.frame_predictions.specs.Codes.{codes}
use Rattle.frame_predictions.specs.Predicting.{Predicted, nothing}
use Rattle.filter_analyser.proofs.Pulled.{agreement-by_codes}
use Rattle.filter_analyser.proofs.refining.add_channel.Goals as goal

pub returns-clause-gradient : goal.returns-clause-gradient
returns-clause-gradient c = λ j h.
    let f = c.args.channels in
    let sound = c.args.predictions.now.sound in
    let ch = c.args.channel in
    let coefs = c.args.filter.now in
    let row = c.codes-codes.result.now in
    let weights = c.args.weights.now in
    let old = get_or c.args.gradient.now j (pos 0) in
    let of : Shape → List ℕ → Predicted → List ℕ = λ f sound p. codes f sound p.channel p.filter in
    let is : row ≡ codes f sound ch coefs =
    c.codes-codes.ensures.codes ∙ ap (λ f. of f c.row-row.new.self.sound (get_or c.row-row.new.self.rows c.row-row.result nothing))
    (c.row-row.ensures.channels ∙ c.requires.channels)
    ∙ ap (λ s. of f s (get_or c.row-row.new.self.rows c.row-row.result nothing)) c.row-row.ensures.sound ∙ ap (of f sound) (c.row-row.ensures.is nothing) in
    let heard : c.sound.result.now ≡ sound = c.sound.ensures.sound ∙ c.row-row.ensures.sound in
    let V : ℕ → ℕ → ℕ = λ c t. get_or weights (get_or row t 0) 0 in
    c.add_gradient.ensures.gradient j h
    ∙ ap (λ s. old +ℤ weighted_agreement f s V (length c.coefs-first.result.now) ch j) heard
    ∙ ap (λ n. old +ℤ weighted_agreement f sound V n ch j) (ap length c.coefs-first.ensures.coefs)
    ∙ ap (λ z. old +ℤ z) (agreement-by_codes f sound row weights coefs (length coefs) ch j is)
