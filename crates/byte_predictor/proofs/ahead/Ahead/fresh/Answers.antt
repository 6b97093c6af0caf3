-- The sums after fifteen of the bytes before a frame take the sixteenth, so that no sample is left out.
use Rattle.std.proofs.Common.{◌≡◌, ℕ, ◌*◌, ◌<◌, [], length, get_or, drop, replicate, ap, sym, ◌∙◌, arith}
use Rattle.byte_predictor.specs.Samples.{samples_of}
use Rattle.byte_predictor.specs.Upward.{upward_sum, far}
use Rattle.byte_predictor.proofs.Bits.{length-samples_of}
use Rattle.byte_predictor.proofs.Late.{newest-before, whole-lane}
use Rattle.byte_predictor.proofs.Lanes.{taken-lane, rows-seen, byte-again}
use Rattle.byte_predictor.proofs.ahead.Ahead.fresh.Goals as goal

pub returns : goal.returns
returns c =
    let coefs = c.args.rows.now in
    let rule = rows-seen c.rows.view_is c.rows.invariant in
    let samples = samples_of (replicate 16 170) in
    let all : length (samples_of (replicate 16 170)) ≡ 8 * 16 = length-samples_of (replicate 16 170) in
    let again = byte-again 170 15 in
    let before : (lane : ℕ) → lane < 136 → get_or c.lanes_before-lanes.result lane 0 ≡ upward_sum (drop lane (far coefs)) (drop 8 samples) =
    λ lane h. c.lanes_before-lanes.ensures.sums lane h ∙ ap (upward_sum (drop lane (far coefs))) (sym again.1) in
    record {
      few = omega arith;
      long = omega (arith, all);
      newest = newest-before;
      lanes = c.add_row.ensures.long;
      sums = λ lane h. taken-lane coefs samples c.lanes_before-lanes.result (get_or c.rows.inside.rows 170 [])
          c.add_row.new.lanes 170 rule.table.each rule.table.most again.0 before (λ lane h. rule.added 170 lane (omega arith) h)
          c.add_row.ensures.added c.add_row.ensures.last lane h
          ∙ ap (λ m. upward_sum (drop lane (far coefs)) (drop m samples)) (sym (whole-lane 0 0 lane (omega arith)));
    }
