-- Plain is the first best spelling, then each method tries its own; all three together try every spelling.
use Rattle.std.proofs.Common.{◌≡◌, refl, sym, ap, ◌∙◌, arith}
use Rattle.std.specs.List.{fold}
use Rattle.dst_spec.specs.Table.{plain}
use Rattle.table_code.specs.Spellings.{spelled}
use Rattle.table_code.specs.Choices.{shorter}
use Rattle.table_code.proofs.Lengths.{length-alone, length-plain}
use Rattle.table_code.proofs.Choosing.{by_methods, by_methods-more, all_methods, plain_alone}
use Rattle.table_code.proofs.spelling.shortest.Goals as goal

pub returns-then-is_alone-clause-spelling : goal.returns-then-is_alone-clause-spelling
returns-then-is_alone-clause-spelling g c = sym (plain_alone g.K.TableKind.kind c.args.values.now (sym c.is_alone.ensures ∙ c.if-is_alone.true))

pub returns-then-is_alone-clause-choice : goal.returns-then-is_alone-clause-choice
returns-then-is_alone-clause-choice g c =
    let alone = sym c.is_alone.ensures ∙ c.if-is_alone.true in
    record { suited = tt; long = c.plain_length.ensures.alone alone ∙ sym (length-alone g.K.TableKind.kind c.args.values.now plain alone) }

pub loop-method-init : goal.loop-method-init
loop-method-init g c =
    let together = sym c.is_alone.ensures ∙ c.if-is_alone.false in
    record {
      choice = record { suited = tt; long = c.plain_length.ensures.together together ∙ sym (length-plain g.K.TableKind.kind c.args.values.now together) };
      spelling = refl;
    }

pub loop-method-preserved : goal.loop-method-preserved
loop-method-preserved g c = record {
  choice = c.shortest_by_method-best.ensures.choice;
  spelling = c.shortest_by_method-best.ensures.spelling ∙ by_methods-more g.K.TableKind.kind c.args.values.now c.loop-method.method plain
      (spelled c.loop-method.best.0) c.loop-method.invariant.spelling;
}

pub returns-clause-spelling : goal.returns-clause-spelling
returns-clause-spelling g c =
    let three : c.loop-method.method ≡ 3 = omega (arith, c.loop-method.auto.method-end) in
    c.loop-method.invariant.spelling ∙ ap (λ n. fold (shorter g.K.TableKind.kind c.args.values.now) plain (by_methods n)) three
    ∙ all_methods g.K.TableKind.kind c.args.values.now
