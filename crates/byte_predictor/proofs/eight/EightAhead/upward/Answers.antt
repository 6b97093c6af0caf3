-- The newest byte looks up what the first eight coefficients add; the rest is in a lane that is never late.
use Rattle.std.proofs.Common.{◌≡◌, ◌+◌, ◌%◌, ◌<◌, [], get_or, take, drop, ap, ◌∙◌, rules, arith}
use Rattle.byte_predictor.specs.Samples.{rising_bits}
use Rattle.byte_predictor.specs.Upward.{upward_sum, far}
use Rattle.byte_predictor.proofs.Late.{newest-eight, near-lane}
use Rattle.byte_predictor.proofs.Lanes.{looked-up, rows-seen}
use Rattle.byte_predictor.proofs.eight.EightAhead.upward.Goals as goal

pub returns : goal.returns
returns c = λ samples ahead.
    let coefs = c.args.rows.now in
    let rule = rows-seen c.rows.view_is c.rows.invariant in
    let newest = c.newest-newest.result in
    let n = c.args.n in
    let place = c.args.place in
    let fits : newest < 256 = search rules in
    let sum = get_or (get_or c.args.self.now.sums n []) place 0 in
    let eight : rising_bits 8 newest ≡ take 8 samples =
    ap (rising_bits 8) c.newest-newest.ensures.value ∙ newest-eight (get_or c.args.self.now.newest n 0) samples ahead.newest in
    let lane : sum ≡ upward_sum (drop place (far coefs)) (drop place samples) =
    ahead.sums place (omega (arith, c.requires.place))
    ∙ ap (λ m. upward_sum (drop place (far coefs)) (drop m samples)) (near-lane (n + 1) place place (omega (arith, c.requires.place))) in
    let known : (sum + get_or c.rows.inside.near newest 0) % 65536 ≡ upward_sum coefs samples =
    looked-up coefs place samples newest sum (get_or c.rows.inside.near newest 0) rule.table.each rule.table.most c.requires.place
    eight lane (rule.newest newest fits) in
    omega (arith, known)
