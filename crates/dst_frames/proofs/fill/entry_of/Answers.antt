-- Below 0 the entry is the probability less 1, from 0 on it is 128 more, and so it tells the guess.
use Rattle.std.proofs.Common.{ap, sym, ◌∙◌, w32}
use Rattle.std.specs.Int.{is_negative}
use Rattle.std.proofs.lemmas.Int.{to_z-of_z}
use Rattle.dst_frames.specs.Tables.{prob_at}
use Rattle.dst_frames.proofs.Entries.{low_entry, high_entry}
use Rattle.dst_frames.proofs.fill.entry_of.Goals as goal

pub returns-then-prediction-lt0 : goal.returns-then-prediction-lt0
returns-then-prediction-lt0 c =
    let read_back = to_z-of_z w32 c.args.prediction c.ranges.prediction in
    let p = c.prob_of-low.ensures in
    low_entry c.args.prediction c.args.probs.now c.prob_of-low.result (p.value
    ∙ ap (prob_at c.args.probs.now) read_back) p.least p.most (ap (λ z. is_negative z) (sym read_back) ∙ c.if-prediction-lt0.true)

pub returns-else-prediction-lt0 : goal.returns-else-prediction-lt0
returns-else-prediction-lt0 c =
    let read_back = to_z-of_z w32 c.args.prediction c.ranges.prediction in
    let p = c.prob_of-low.ensures in
    high_entry c.args.prediction c.args.probs.now c.prob_of-low.result (p.value
    ∙ ap (prob_at c.args.probs.now) read_back) p.least p.most (ap (λ z. is_negative z) (sym read_back) ∙ c.if-prediction-lt0.false)
