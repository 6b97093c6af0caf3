-- With 16 turns all 129 lags are found, and the correlations of one channel are its own.
use Rattle.std.proofs.Common.{pos, [], ◌∷◌, ◌∙◌, arith}
use Rattle.std.proofs.lemmas.List.FromFn.{fill_by_all}
use Rattle.level_spec.specs.Correlation.{joint_correlation}
use Rattle.filter_analyser.proofs.Correlating.{alone}
use Rattle.filter_analyser.proofs.lags.correlate.Goals as goal

pub returns : goal.returns
returns c =
    let f = c.args.channels in
    let sound = c.args.sound.now in
    let ch = c.args.channel in
    fill_by_all (λ k. joint_correlation f sound (ch ∷ []) k) c.correlate_first.new.lags 129 (pos 0) c.correlate_first.ensures.long
    (λ k h. c.correlate_first.ensures.lags k (omega arith) ∙ alone f sound ch k)
