-- The rows, the table for the newest byte and the size are those of the coefficients that stand in it.
use Rattle.std.proofs.Common.{pos, get_or, subst, sym, ◌∙◌}
use Rattle.dst_spec.specs.Table.{filter_kind, IsTable, InRange}
use Rattle.byte_predictor.specs.Samples.{rising_bits}
use Rattle.byte_predictor.specs.RowSums.{HasRows}
use Rattle.byte_predictor.proofs.Sums.{coef-range}
use Rattle.byte_predictor.proofs.Lanes.{same-lanes}
use Rattle.byte_predictor.proofs.row_filter.RowFilter.build.Goals as goal

pub fill_near-requires : goal.fill_near-requires
fill_near-requires c = λ j.
    subst (λ t. InRange filter_kind (get_or t j (pos 0))) (sym c.coefs-coefs.ensures.coefs) (coef-range c.args.table.now j c.coefs-coefs.ensures.table.each)

pub invariant_of-self : goal.invariant_of-self
invariant_of-self c =
    let coefs = c.coefs-coefs.result.now in
    let table : IsTable filter_kind coefs = subst (IsTable filter_kind) (sym c.coefs-coefs.ensures.coefs) c.coefs-coefs.ensures.table in
    let rule : HasRows coefs c.fill_rows.new.rows c.fill_near.new.near c.size_of_all-self-inside.result = record {
      table = table;
      added = λ byte lane h i. c.fill_rows.ensures byte lane h i
          ∙ same-lanes c.far_coefs-later.result coefs lane (rising_bits 8 byte) c.far_coefs-later.ensures.places;
      newest = c.fill_near.ensures;
      sizes = c.size_of_all-self-inside.ensures;
    } in
    subst (λ t. HasRows t c.fill_rows.new.rows c.fill_near.new.near c.size_of_all-self-inside.result) (sym c.with_zeros-self-inside.ensures) rule
