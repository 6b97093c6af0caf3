-- The row is one of the filled ones, so its codes are right, and such a code is below 128.
use Rattle.std.proofs.Common.{◌≡◌, ◌<◌, length, get_or, ap, sym, subst, ◌∙◌, arith}
use Rattle.frame_predictions.specs.Codes.{codes}
use Rattle.frame_predictions.proofs.Elements.{codes-small}
use Rattle.frame_predictions.proofs.Rows.{seen-length, IsRight}
use Rattle.frame_predictions.proofs.predictions.Predictions.codes.Goals as goal

pub returns-clause-small : goal.returns-clause-small
returns-clause-small c = λ k d lt.
    let row = c.index.result.now in
    let p = c.self.inside in
    let v = c.self.invariant in
    let filled = v.are_filled in
    let order = v.in_order in
    let within = filled.within in
    let rows : length c.args.self.now.rows ≡ p.held = ap (λ v. length v.rows) (sym c.self.view_is) ∙ seen-length p.rows.items p.held (omega arith) in
    let right : IsRight p.channels p.sound.items row =
    subst (IsRight p.channels p.sound.items) (sym c.index.ensures) (filled.are c.args.row row (omega arith)) in
    let is : c.as_slice.result.now ≡ codes p.channels p.sound.items row.channel row.filter = c.as_slice.ensures.value ∙ right in
    subst (λ xs. (k < length xs → get_or xs k d < 128)) (sym is) (codes-small p.channels p.sound.items row.channel row.filter k d) lt
