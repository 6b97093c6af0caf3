-- The byte goes into all lanes that the coefficients reach; the first eight are then for its own samples.
use Rattle.std.proofs.Common.{◌<◌, ◌++◌, [], get_or, subst, ◌∙◌, rules, arith}
use Rattle.byte_predictor.specs.Samples.{rising_bits}
use Rattle.byte_predictor.specs.KnownRows.{HasKnownRows}
use Rattle.byte_predictor.proofs.Upward.{upward_sum-shifted}
use Rattle.byte_predictor.proofs.KnownSums.{known-taken, reach-few}
use Rattle.byte_predictor.proofs.known.KnownAhead.take_byte.Goals as goal

pub returns-clause-ahead : goal.returns-clause-ahead
returns-clause-ahead c = λ samples known.
    let coefs = c.args.filter.now in
    let byte = c.args.byte in
    let fits : byte < 256 = search rules in
    let rule : HasKnownRows coefs c.filter.inside.rows c.filter.inside.size c.filter.inside.reach =
    subst (λ t. HasKnownRows t c.filter.inside.rows c.filter.inside.size c.filter.inside.reach) c.filter.view_is c.filter.invariant in
    record {
      lanes = c.add_reach.ensures.long;
      sums = known-taken c.filter.inside.reach coefs samples c.args.self.now.lanes (get_or c.filter.inside.rows byte []) c.add_reach.new.lanes byte
          rule.table.each rule.table.most rule.all (reach-few c.filter.inside.reach rule.is_reach) known.sums (λ lane h. rule.added byte lane fits h)
          c.add_reach.ensures.added c.add_reach.ensures.last;
    }

pub returns-clause-upward : goal.returns-clause-upward
returns-clause-upward c = λ place samples lt known.
    let after = returns-clause-ahead c samples known in
    c.first_lanes.ensures place lt ∙ after.sums place (omega arith)
    ∙ upward_sum-shifted c.args.filter.now place (rising_bits 8 c.args.byte ++ samples) (omega arith)
