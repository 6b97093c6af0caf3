-- One sample on: it is put in front of the newest ones, and the next lane is taken.
use Rattle.std.proofs.Common.{◌≡◌, ◌+◌, ◌*◌, ◌%◌, ◌<◌, ◌∷◌, get_or, take, drop, subst, ap, sym, ◌∙◌, rules, arith}
use Rattle.dst_spec.specs.Header.{bit_of}
use Rattle.byte_predictor.specs.Samples.{rising_bits}
use Rattle.byte_predictor.specs.Upward.{upward_sum, far}
use Rattle.byte_predictor.specs.SumsAhead.{IsAhead}
use Rattle.byte_predictor.proofs.Bits.{bit_of-from}
use Rattle.byte_predictor.proofs.Late.{newest-pushed, newest-eight, near-lane, left-pushed}
use Rattle.byte_predictor.proofs.Lanes.{looked-up, rows-seen}
use Rattle.byte_predictor.proofs.ahead.Ahead.upward_after.Goals as goal

pub returns : goal.returns
returns c = λ samples before.
    let coefs = c.args.rows.now in
    let rule = rows-seen c.rows.view_is c.rows.invariant in
    let place = c.args.place in
    let ahead = subst (IsAhead coefs place samples) (sym c.self.view_is) before in
    let bit = bit_of-from c.args.sample c.from.result c.from.ensures in
    let old = c.self.inside.newest in
    let more = c.pushed-newest.result in
    let later = bit_of c.args.sample ∷ samples in
    let fits : old < 65536 = search rules in
    let small : c.from.result < 2 = bit.1 in
    let inside : more % 256 < 256 = omega arith in
    let now : more ≡ old % 32768 * 2 + c.from.result = omega (arith, c.pushed-newest.ensures) in
    let after : rising_bits 16 more ≡ take 16 (bit_of c.args.sample ∷ samples) =
    ap (rising_bits 16) now ∙ newest-pushed old c.from.result samples small fits ahead.newest ∙ ap (λ b. take 16 (b ∷ samples)) (sym bit.0) in
    let sum = get_or c.self.inside.lanes (place + 1) 0 in
    let near = near-lane 0 (place + 1) (place + 1) (omega (arith, c.requires)) in
    let lane : sum ≡ upward_sum (drop (place + 1) (far coefs)) (drop (place + 1) (bit_of c.args.sample ∷ samples)) =
    ahead.sums (place + 1) (omega (arith, c.requires))
    ∙ ap (upward_sum (drop (place + 1) (far coefs))) (left-pushed 0 place (place + 1) (bit_of c.args.sample) samples (omega arith))
    ∙ ap (λ m. upward_sum (drop (place + 1) (far coefs)) (drop m later)) near in
    looked-up coefs (place + 1) later (more % 256) sum (get_or c.rows.inside.near (more % 256) 0) rule.table.each rule.table.most (omega (arith, c.requires))
    (newest-eight more later after) lane (rule.newest (more % 256) inside)
