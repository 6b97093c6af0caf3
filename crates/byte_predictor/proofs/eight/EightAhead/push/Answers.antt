-- Each frame has one sample more; in the one whose number is the place, the farther lanes get the byte that they lack.
use Rattle.std.proofs.Common.{◌≡◌, ◌+◌, ◌/◌, ◌%◌, ◌^◌, ◌<◌, ◌≤◌, ◌∷◌, ℕ, List, [], nat_eq, length, get_or, set, drop, get_or-set_same, get_or-set_other}
use Rattle.std.proofs.Common.{ap, sym, ◌∙◌, rules, arith}
use Rattle.dst_spec.specs.Header.{bit_of}
use Rattle.byte_predictor.specs.Upward.{upward_sum, far}
use Rattle.byte_predictor.proofs.Late.{given-pushed, byte-behind, whole-lane, drop-pushed, left-pushed}
use Rattle.byte_predictor.proofs.Lanes.{rest-taken, rows-seen}
use Rattle.byte_predictor.proofs.eight.EightAhead.push.Goals as goal

pub returns-clause-own : goal.returns-clause-own
returns-clause-own c = λ samples ahead.
    let coefs = c.args.rows.now in
    let rule = rows-seen c.rows.view_is c.rows.invariant in
    let place = c.args.place in
    let sums = c.args.self.now.sums in
    let old = get_or c.args.self.now.newest place 0 in
    let given = get_or c.args.given.now place 0 in
    let bit = bit_of (nat_eq (given % 2) 1) in
    let later = bit ∷ samples in
    let fits : old < 65536 = search rules in
    let byte = old / 2 ^ place % 256 in
    let small : byte < 256 = omega arith in
    let lanes = c.add_rest.new.lanes in
    let lt : place < length sums = omega (arith, c.requires) in
    let now : get_or (set sums place lanes) place [] ≡ lanes = get_or-set_same sums place lanes [] lt in
    let few : place ≤ 8 = omega (arith, c.requires) in
    record {
      few = omega (arith, c.requires);
      long = omega (arith, ahead.long);
      newest = given-pushed old given (get_or c.push_each.new.newest place 0) samples fits (c.push_each.ensures place (omega (arith, c.requires))) ahead.newest;
      lanes = ap length now ∙ c.add_rest.ensures.long;
      sums = λ lane h. ap (λ (xs : List ℕ). get_or xs lane 0) now
          ∙ rest-taken coefs place samples (get_or sums place []) (get_or c.rows.inside.rows byte []) lanes byte rule.table.each rule.table.most
          (byte-behind old place samples few ahead.newest) ahead.sums (λ lane h. rule.added byte lane small h)
          c.add_rest.ensures.first c.add_rest.ensures.added c.add_rest.ensures.last lane h
          ∙ ap (upward_sum (drop lane (far coefs))) (drop-pushed place bit samples)
          ∙ ap (λ m. upward_sum (drop lane (far coefs)) (drop m later)) (sym (whole-lane (place + 1) (place + 1) lane (omega arith)));
    }

pub returns-clause-others : goal.returns-clause-others
returns-clause-others c = λ n coefs samples h ne ahead.
    let place = c.args.place in
    let sums = c.args.self.now.sums in
    let old = get_or c.args.self.now.newest n 0 in
    let given = get_or c.args.given.now n 0 in
    let bit = bit_of (nat_eq (given % 2) 1) in
    let fits : old < 65536 = search rules in
    let lanes = c.add_rest.new.lanes in
    let same : get_or (set sums place lanes) n [] ≡ get_or sums n [] = get_or-set_other sums place n lanes [] ne in
    record {
      few = omega (arith, c.requires);
      long = omega (arith, ahead.long);
      newest = given-pushed old given (get_or c.push_each.new.newest n 0) samples fits (c.push_each.ensures n h) ahead.newest;
      lanes = ap length same ∙ ahead.lanes;
      sums = λ lane l. ap (λ (xs : List ℕ). get_or xs lane 0) same
          ∙ ahead.sums lane l
          ∙ ap (upward_sum (drop lane (far coefs))) (left-pushed (n + 1) place lane bit samples (λ e. ne (omega arith)));
    }
