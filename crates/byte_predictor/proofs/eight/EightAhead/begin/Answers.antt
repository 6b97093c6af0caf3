-- The last byte before a frame goes into the first sixteen lanes, the others lack it still; no other frame changes.
use Rattle.std.proofs.Common.{◌≡◌, ◌+◌, ◌*◌, ◌<◌, ℕ, List, [], length, get_or, set, drop, replicate, get_or-set_same}
use Rattle.std.proofs.Common.{get_or-set_other, ap, ap₂, sym, ◌∙◌, arith}
use Rattle.byte_predictor.specs.Samples.{rising_bits, samples_of}
use Rattle.byte_predictor.specs.Upward.{upward_sum, far}
use Rattle.byte_predictor.proofs.Bits.{length-samples_of}
use Rattle.byte_predictor.proofs.Late.{newest-before}
use Rattle.byte_predictor.proofs.Lanes.{front-taken, rows-seen, byte-again}
use Rattle.byte_predictor.proofs.eight.EightAhead.begin.Goals as goal

pub returns-clause-fresh : goal.returns-clause-fresh
returns-clause-fresh c =
    let coefs = c.args.rows.now in
    let rule = rows-seen c.rows.view_is c.rows.invariant in
    let n = c.args.n in
    let sums = c.args.self.now.sums in
    let newest = c.args.self.now.newest in
    let lanes = c.add_front.new.lanes in
    let older = c.lanes_before-lanes.result in
    let samples = samples_of (replicate 16 170) in
    let all : length (samples_of (replicate 16 170)) ≡ 8 * 16 = length-samples_of (replicate 16 170) in
    let lt_sums : n < length sums = omega (arith, c.requires) in
    let lt_newest : n < length newest = omega (arith, c.requires) in
    let now : get_or (set sums n lanes) n [] ≡ lanes = get_or-set_same sums n lanes [] lt_sums in
    let again = byte-again 170 15 in
    let before : (lane : ℕ) → lane < 136 → get_or older lane 0 ≡ upward_sum (drop lane (far coefs)) (drop 8 (samples_of (replicate 16 170))) =
    λ lane h. c.lanes_before-lanes.ensures.sums lane h ∙ ap (upward_sum (drop lane (far coefs))) (sym again.1) in
    record {
      few = omega arith;
      long = omega (arith, all);
      newest = ap (rising_bits 16) (get_or-set_same newest n 43690 0 lt_newest) ∙ newest-before;
      lanes = ap length now ∙ c.add_front.ensures.long;
      sums = λ lane h. ap (λ (xs : List ℕ). get_or xs lane 0) now
          ∙ front-taken n coefs samples older (get_or c.rows.inside.rows 170 []) lanes 170 rule.table.each rule.table.most again.0 before
          (λ lane h. rule.added 170 lane (omega arith) (omega arith)) c.add_front.ensures.added c.add_front.ensures.last lane h;
    }

pub returns-clause-others : goal.returns-clause-others
returns-clause-others c = λ m ne.
    ap₂ (λ a b. record { lanes = a; newest = b; late = m + 1 }) (get_or-set_other c.args.self.now.sums c.args.n m c.add_front.new.lanes [] ne)
    (get_or-set_other c.args.self.now.newest c.args.n m 43690 0 ne)
