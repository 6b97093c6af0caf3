-- The front of the bytes is the row.
use Rattle.std.proofs.Common.{◌≡◌, ◌*◌, take_at, ap, ◌∙◌, arith}
use Rattle.std.proofs.lemmas.List.{length-take-le}
use Rattle.dst_dsf.proofs.RowPlaces.{front_row}
use Rattle.dst_dsf.proofs.open_row.order_front.Goals as goal

pub returns-clause-row : goal.returns-clause-row
returns-clause-row c sound few has =
    let n = c.args.form.now.channels.channels in
    let count : 4096 * c.count-size.result ≡ 4096 * n = ap (λ k. 4096 * k) c.count-size.ensures.count in
    let within = length-take-le (4096 * c.count-size.result) c.args.bytes.now (omega (arith, count, c.requires.long, c.count-size.ensures.shape.most)) in
    take_at c.order_row.new.row _ (4096 * n) (omega (arith, count, within, c.order_row.ensures.long))
    ∙ c.order_row.ensures.row sound few (front_row n sound c.args.number c.args.bytes.now (4096 * c.count-size.result) count has)
