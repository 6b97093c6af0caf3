-- A table too short for the method has no spelling by it; else each Rice number gives one whose length is known.
use Rattle.std.proofs.Common.{◌≡◌, ◌+◌, ◌*◌, length, ap, ap₂, sym, ◌∙◌, arith}
use Rattle.std.specs.List.{fold}
use Rattle.dst_spec.specs.Table.{coded, table_bits}
use Rattle.table_code.specs.Spellings.{spelled}
use Rattle.table_code.specs.Choices.{shorter, of_method}
use Rattle.table_code.proofs.Lengths.{length-coded}
use Rattle.table_code.proofs.Choosing.{chosen, of_method-more, none_of_method}
use Rattle.table_code.proofs.spelling.shortest_by_method.Goals as goal

pub returns-then-from-values-clause-spelling : goal.returns-then-from-values-clause-spelling
returns-then-from-values-clause-spelling g c =
    sym (none_of_method g.K.TableKind.kind c.args.values.now c.args.method (spelled c.args.best.0) (omega (arith, c.from.ensures)))

pub loop-rice-preserved : goal.loop-rice-preserved
loop-rice-preserved g c =
    let K = g.K.TableKind.kind in
    let vs = c.args.values.now in
    let widths : c.LENGTH_BITS.result ≡ K.length_bits = c.LENGTH_BITS.ensures ∙ g.met.K.TableKind.length_bits in
    let width : c.VALUE_BITS.result ≡ K.value_bits = c.VALUE_BITS.ensures ∙ g.met.K.TableKind.value_bits in
    let sum = rw (c.from-in-loop-rice.ensures, c.as_slice.ensures.value, c.residuals-residuals.ensures.residuals, c.from-2.ensures) at c.lengths.ensures.sum in
    let plains : (c.from-3.result + 1) * c.VALUE_BITS.result ≡ (c.args.method + 1) * K.value_bits = ap₂ (λ m n. (m + 1) * n) c.from-3.ensures width in
    let long : c.LENGTH_BITS.result + 6 + (c.from-3.result + 1) * c.VALUE_BITS.result + c.lengths.result ≡ length
    (table_bits K vs (coded c.args.method c.loop-rice.rice)) =
    omega (arith, length-coded K vs c.args.method c.loop-rice.rice c.requires.together (omega (arith, c.from.ensures)), sum, plains, widths) in
    let p = chosen K vs c.loop-rice.best c.shorter-best.result c.args.method c.loop-rice.rice
    (c.LENGTH_BITS.result + 6 + (c.from-3.result + 1) * c.VALUE_BITS.result + c.lengths.result)
    c.requires.together c.requires.method (omega arith) (omega (arith, c.from.ensures)) c.loop-rice.invariant.choice long c.shorter-best.ensures in
    record {
      choice = p.0;
      spelling = p.1 ∙ of_method-more K vs c.args.method c.loop-rice.rice (spelled c.args.best.0) (spelled c.loop-rice.best.0) c.loop-rice.invariant.spelling;
    }

pub returns-clause-spelling : goal.returns-clause-spelling
returns-clause-spelling g c =
    let eight : c.loop-rice.rice ≡ 8 = omega (arith, c.loop-rice.auto.rice-end) in
    c.loop-rice.invariant.spelling ∙ ap (λ n. fold (shorter g.K.TableKind.kind c.args.values.now) (spelled c.args.best.0) (of_method c.args.method n)) eight
