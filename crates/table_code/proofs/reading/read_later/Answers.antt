-- Each value that is read leaves a shorter rest to be read, and a value that fails is the fault of the rest.
use Rattle.std.proofs.Common.{◌≡◌, rules, [], ◌∷◌, ◌++◌, length, length-append, ap, sym, subst, ◌∙◌, arith}
use Rattle.std.proofs.lemmas.Result.{err_from_is_err_and}
use Rattle.std.proofs.lemmas.Int.{to_z-of_z}
use mir.Val.{SFits}
use mir.Syntax.{w32}
use Rattle.std.specs.List.{AllByRecursion}
use Rattle.dst_spec.specs.Table.{InRange}
use Rattle.dst_spec.specs.Fields.{read}
use Rattle.dst_spec.proofs.Lists.{all_append}
use Rattle.bit_io.specs.Reading.{left}
use Rattle.table_code.specs.Parts.{later_rest}
use Rattle.table_code.proofs.GoingOn.{later_next, later_stops, later_ends}
use Rattle.table_code.proofs.reading.read_later.Goals as goal

pub returns-in_err-value-clause-fault : goal.returns-in_err-value-clause-fault
returns-in_err-value-clause-fault g c =
    let K = g.K.TableKind.kind in
    let p = err_from_is_err_and c.from_residual.result c.from_residual.ensures.1 in
    let fault = rw c.as_slice.ensures.value at c.in_err-value.ensures.fault in
    rw (p.1, p.2)
    (c.loop.invariant.rest ∙ later_stops K (K.weights c.args.method) c.args.m c.args.count c.loop.values.items
    (left c.loop.reader) c.loop.reader.place c.in_err-value.field-0.0 (omega (arith, c.loop.invariant.counted)) fault)

pub loop-preserved : goal.loop-preserved
loop-preserved g c =
    let K = g.K.TableKind.kind in
    let v = c.in_ok-value.value in
    let vs = c.loop.values.items in
    let fits : SFits w32 v = search rules in
    let pushed : c.push.new.self.items ≡ vs ++ v ∷ [] = rw (to_z-of_z w32 v fits) at c.push.ensures.items in
    let value = rw c.as_slice.ensures.value at c.in_ok-value.ensures.value in
    record {
      counted = omega (arith, ap length pushed, length-append vs (v ∷ []), c.loop.invariant.counted);
      some = omega (arith, ap length pushed, length-append vs (v ∷ []), c.loop.invariant.some);
      each = subst (AllByRecursion (InRange K)) (sym pushed) (all_append (InRange K) vs (v ∷ []) c.loop.invariant.each (c.in_ok-value.ensures.range, tt));
      bytes = c.in_ok-value.ensures.bytes ∙ c.loop.invariant.bytes;
      fewer = omega (arith, c.in_ok-value.ensures.fewer, c.loop.invariant.fewer);
      rest = c.loop.invariant.rest
          ∙ later_next K (K.weights c.args.method) c.args.m c.args.count vs v (left c.loop.reader)
          (left c.read_later_value.new.reader) c.loop.reader.place c.read_later_value.new.reader.place (omega (arith, c.loop.invariant.counted)) value
          ∙ ap (λ ws. read (later_rest K (K.weights c.args.method) c.args.m c.args.count ws)
          (left c.read_later_value.new.reader) c.read_later_value.new.reader.place) (sym pushed);
    }

pub returns-clause-values : goal.returns-clause-values
returns-clause-values g c =
    let K = g.K.TableKind.kind in
    c.loop.invariant.rest ∙ later_ends K (K.weights c.args.method) c.args.m c.args.count c.loop.values.items (left c.loop.reader) c.loop.reader.place
    (omega (arith, c.loop.invariant.counted))
