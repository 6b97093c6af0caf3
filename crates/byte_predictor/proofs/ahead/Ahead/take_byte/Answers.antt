-- Each lane gets what the newest byte adds by its row, so that no sample is left out.
use Rattle.std.proofs.Common.{◌≡◌, ℕ, ◌<◌, [], get_or, drop, subst, ap, sym, ◌∙◌, rules, arith}
use Rattle.byte_predictor.specs.Upward.{upward_sum, far}
use Rattle.byte_predictor.specs.SumsAhead.{IsAhead}
use Rattle.byte_predictor.proofs.Late.{whole-lane}
use Rattle.byte_predictor.proofs.Lanes.{taken-lane, rows-seen}
use Rattle.byte_predictor.proofs.ahead.Ahead.take_byte.Goals as goal

pub returns : goal.returns
returns c = λ samples before.
    let coefs = c.args.rows.now in
    let rule = rows-seen c.rows.view_is c.rows.invariant in
    let ahead = subst (IsAhead coefs 8 samples) (sym c.self.view_is) before in
    let newest = c.newest.result in
    let fits : newest < 256 = search rules in
    let lanes = c.self.inside.lanes in
    let sums : (lane : ℕ) → lane < 136 → get_or lanes lane 0 ≡ upward_sum (drop lane (far coefs)) (drop 8 samples) =
    λ lane h. ahead.sums lane h ∙ ap (λ m. upward_sum (drop lane (far coefs)) (drop m samples)) (whole-lane 0 8 lane (omega arith)) in
    record {
      few = omega arith;
      long = ahead.long;
      newest = ahead.newest;
      lanes = c.add_row.ensures.long;
      sums = λ lane h. taken-lane coefs samples lanes (get_or c.rows.inside.rows newest []) c.add_row.new.lanes newest rule.table.each rule.table.most
          (c.newest.ensures.eight coefs 8 samples before) sums (λ lane h. rule.added newest lane fits h) c.add_row.ensures.added c.add_row.ensures.last lane h
          ∙ ap (λ m. upward_sum (drop lane (far coefs)) (drop m samples)) (sym (whole-lane 0 0 lane (omega arith)));
    }
