-- The size of all coefficients and the bounds that it gives.
use Rattle.std.proofs.Common.{subst, ap, ◌∙◌, arith}
use Rattle.dst_spec.specs.Table.{filter_kind, IsTable}
use Rattle.byte_predictor.specs.Upward.{size_sum}
use Rattle.byte_predictor.proofs.Upward.{signed_sum-is, upward_sum-size, size_sum-below}
use Rattle.byte_predictor.proofs.Ones.{upward-ones}
use Rattle.byte_predictor.proofs.row_filter.RowFilter.size.Goals as goal

pub returns-clause-size : goal.returns-clause-size
returns-clause-size c = c.self.invariant.sizes ∙ ap size_sum c.self.view_is

-- the coefficients are a table of filters
is_table : (c : goal.After-self) → IsTable filter_kind c.args.self.now
is_table c = subst (IsTable filter_kind) c.self.view_is c.self.invariant.table

pub returns-clause-most : goal.returns-clause-most
returns-clause-most c =
    let table = is_table c in
    omega (arith, returns-clause-size c, table.most, size_sum-below c.args.self.now table.each)

pub returns-clause-upward : goal.returns-clause-upward
returns-clause-upward c = λ samples. omega (arith, returns-clause-size c, upward_sum-size c.args.self.now samples)

pub returns-clause-signed : goal.returns-clause-signed
returns-clause-signed c = λ samples h. signed_sum-is c.args.self.now samples (omega (arith, (is_table c).most))

pub returns-clause-ones : goal.returns-clause-ones
returns-clause-ones c = λ samples h. upward-ones c.args.self.now samples (omega (arith, (is_table c).most))
