-- The row that is made is right, so it is filled like those in front of it.
use Rattle.std.proofs.Common.{ap, sym, ◌∙◌, arith}
use Rattle.frame_predictions.specs.Codes.{codes}
use Rattle.frame_predictions.proofs.Rows.{filled-made}
use Rattle.frame_predictions.proofs.row.provide.Goals as goal

pub returns-clause-filled : goal.returns-clause-filled
returns-clause-filled c =
    let m = c.make.ensures in
    let f = c.args.channels in
    let sound = c.args.sound.now in
    filled-made f sound c.args.rows.now c.args.filled c.min-place.result c.make.new.row c.requires.filled (omega arith) (omega arith)
    (m.codes ∙ ap (λ n. codes f sound n c.args.filter.now) (sym m.channel) ∙ ap (codes f sound c.make.new.row.channel) (sym m.filter))
