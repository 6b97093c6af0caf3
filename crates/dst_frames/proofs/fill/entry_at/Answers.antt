-- Twice a sum less the filter's size is the prediction, and its entry is that of the sum.
use Rattle.std.proofs.Common.{subst, ◌∙◌, w32, SFits, rules}
use Rattle.std.proofs.lemmas.Int.{to_z-of_z}
use Rattle.dst_frames.specs.Tables.{IsEntry}
use Rattle.dst_frames.proofs.fill.entry_at.Goals as goal

pub returns : goal.returns
returns c =
    let fits : SFits w32 c.prediction.result = search rules in
    subst (λ z. IsEntry z c.args.probs.now c.entry_of.result)
    (to_z-of_z w32 c.prediction.result fits ∙ c.prediction.ensures.less) c.entry_of.ensures
