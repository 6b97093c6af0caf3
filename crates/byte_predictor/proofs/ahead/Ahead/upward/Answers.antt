-- The first eight coefficients add what the newest byte looks up, the others what the lane has.
use Rattle.std.proofs.Common.{◌≡◌, ◌<◌, get_or, drop, subst, ap, sym, ◌∙◌, rules, arith}
use Rattle.byte_predictor.specs.Upward.{upward_sum, far}
use Rattle.byte_predictor.specs.SumsAhead.{IsAhead}
use Rattle.byte_predictor.proofs.Late.{near-lane}
use Rattle.byte_predictor.proofs.Lanes.{looked-up, rows-seen}
use Rattle.byte_predictor.proofs.ahead.Ahead.upward.Goals as goal

pub returns : goal.returns
returns c = λ samples before.
    let coefs = c.args.rows.now in
    let rule = rows-seen c.rows.view_is c.rows.invariant in
    let place = c.args.place in
    let ahead = subst (IsAhead coefs place samples) (sym c.self.view_is) before in
    let newest = c.newest.result in
    let fits : newest < 256 = search rules in
    let sum = get_or c.self.inside.lanes place 0 in
    let lane : sum ≡ upward_sum (drop place (far coefs)) (drop place samples) =
    ahead.sums place (omega (arith, c.requires))
    ∙ ap (λ m. upward_sum (drop place (far coefs)) (drop m samples)) (near-lane 0 place place (omega (arith, c.requires))) in
    looked-up coefs place samples newest sum (get_or c.rows.inside.near newest 0) rule.table.each rule.table.most c.requires
    (c.newest.ensures.eight coefs place samples before) lane (rule.newest newest fits)
