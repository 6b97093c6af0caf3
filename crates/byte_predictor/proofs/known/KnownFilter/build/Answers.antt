-- The rows, the size and the reach are those of the coefficients that stand in it.
use Rattle.std.proofs.Common.{subst, sym, ◌∙◌}
use Rattle.dst_spec.specs.Table.{filter_kind, IsTable}
use Rattle.byte_predictor.specs.Samples.{rising_bits}
use Rattle.byte_predictor.specs.KnownRows.{HasKnownRows}
use Rattle.byte_predictor.proofs.KnownSums.{same-shifted}
use Rattle.byte_predictor.proofs.known.KnownFilter.build.Goals as goal

pub invariant_of-self : goal.invariant_of-self
invariant_of-self c =
    let coefs = c.coefs-coefs.result.now in
    let table : IsTable filter_kind coefs = subst (IsTable filter_kind) (sym c.coefs-coefs.ensures.coefs) c.coefs-coefs.ensures.table in
    let rule : HasKnownRows coefs c.fill_reach.new.rows c.size_of_all-self-inside.result c.reach_of-self-inside.result = record {
      table = table;
      added = λ byte lane h i. c.fill_reach.ensures byte lane h i
          ∙ same-shifted c.shifted_coefs-later.result coefs lane (rising_bits 8 byte) c.shifted_coefs-later.ensures.places;
      sizes = c.size_of_all-self-inside.ensures;
      is_reach = c.reach_of-self-inside.ensures.is;
      all = c.reach_of-self-inside.ensures.all;
    } in
    subst (λ t. HasKnownRows t c.fill_reach.new.rows c.size_of_all-self-inside.result c.reach_of-self-inside.result) (sym c.with_zeros-self-inside.ensures) rule
