-- The first sixteen lanes of the frame get the newest byte, the others lack it still; no other frame changes.
use Rattle.std.proofs.Common.{◌≡◌, ◌+◌, ◌<◌, ℕ, List, [], length, get_or, set, take, drop, get_or-set_same, get_or-set_other, ap, ◌∙◌, rules, arith}
use Rattle.byte_predictor.specs.Samples.{rising_bits}
use Rattle.byte_predictor.specs.Upward.{upward_sum, far}
use Rattle.byte_predictor.proofs.Late.{newest-eight, whole-lane}
use Rattle.byte_predictor.proofs.Lanes.{front-taken, rows-seen}
use Rattle.byte_predictor.proofs.eight.EightAhead.take_byte.Goals as goal

pub returns-clause-added : goal.returns-clause-added
returns-clause-added c = λ samples ahead.
    let coefs = c.args.rows.now in
    let rule = rows-seen c.rows.view_is c.rows.invariant in
    let n = c.args.n in
    let newest = c.newest-newest.result in
    let fits : newest < 256 = search rules in
    let sums = c.args.self.now.sums in
    let lanes = c.add_front.new.lanes in
    let lt : n < length sums = omega (arith, c.requires) in
    let now : get_or (set sums n lanes) n [] ≡ lanes = get_or-set_same sums n lanes [] lt in
    let eight : rising_bits 8 newest ≡ take 8 samples =
    ap (rising_bits 8) c.newest-newest.ensures.value ∙ newest-eight (get_or c.args.self.now.newest n 0) samples ahead.newest in
    let before : (lane : ℕ) → lane < 136 → get_or (get_or sums n []) lane 0 ≡ upward_sum (drop lane (far coefs)) (drop 8 samples) =
    λ lane h. ahead.sums lane h ∙ ap (λ m. upward_sum (drop lane (far coefs)) (drop m samples)) (whole-lane (n + 1) 8 lane (omega (arith, c.requires))) in
    record {
      few = omega arith;
      long = ahead.long;
      newest = ahead.newest;
      lanes = ap length now ∙ c.add_front.ensures.long;
      sums = λ lane h. ap (λ (xs : List ℕ). get_or xs lane 0) now
          ∙ front-taken n coefs samples (get_or sums n []) (get_or c.rows.inside.rows newest []) lanes newest rule.table.each rule.table.most eight before
          (λ lane h. rule.added newest lane fits (omega arith)) c.add_front.ensures.added c.add_front.ensures.last lane h;
    }

pub returns-clause-others : goal.returns-clause-others
returns-clause-others c = λ m ne.
    ap (λ a. record { lanes = a; newest = get_or c.args.self.now.newest m 0; late = m + 1 })
    (get_or-set_other c.args.self.now.sums c.args.n m c.add_front.new.lanes [] ne)
