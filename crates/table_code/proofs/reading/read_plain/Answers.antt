-- Each value that is read leaves one fewer to be read, and a value that fails is the fault of them all.
use Rattle.std.proofs.Common.{◌≡◌, rules, [], ◌∷◌, ◌++◌, length, length-append, refl, ap, sym, subst, ◌∙◌, arith}
use Rattle.std.proofs.lemmas.Result.{err_from_is_err_and}
use Rattle.std.proofs.lemmas.Int.{to_z-of_z}
use mir.Val.{SFits}
use mir.Syntax.{w32}
use Rattle.std.specs.List.{AllByRecursion}
use Rattle.dst_spec.specs.Table.{InRange}
use Rattle.dst_spec.specs.Fields.{read}
use Rattle.dst_spec.proofs.Lists.{all_append}
use Rattle.bit_io.specs.Reading.{left}
use Rattle.table_code.specs.Parts.{plain_rest}
use Rattle.table_code.proofs.GoingOn.{plain_begins, plain_next, plain_stops, plain_ends}
use Rattle.table_code.proofs.reading.read_plain.Goals as goal

pub returns-in_err-read_plain_value-clause-fault : goal.returns-in_err-read_plain_value-clause-fault
returns-in_err-read_plain_value-clause-fault g c =
    let p = err_from_is_err_and c.from_residual.result c.from_residual.ensures.1 in
    rw (p.1, p.2)
    (c.loop.invariant.rest ∙ plain_stops g.K.TableKind.kind c.args.count c.loop.values.items
    (left c.loop.reader) c.loop.reader.place c.in_err-read_plain_value.field-0.0
    (omega (arith, c.loop.invariant.counted)) c.in_err-read_plain_value.ensures.fault)

pub loop-init : goal.loop-init
loop-init g c =
    let K = g.K.TableKind.kind in
    record {
      counted = ap length c.new-values.ensures;
      each = subst (AllByRecursion (InRange K)) (sym c.new-values.ensures) tt;
      bytes = refl;
      fewer = omega arith;
      rest = sym (plain_begins K c.args.count (left c.args.reader.now) c.args.reader.now.place)
          ∙ ap (λ vs. read (plain_rest K c.args.count vs) (left c.args.reader.now) c.args.reader.now.place) (sym c.new-values.ensures);
    }

pub loop-preserved : goal.loop-preserved
loop-preserved g c =
    let K = g.K.TableKind.kind in
    let v = c.in_ok-read_plain_value.field-0 in
    let vs = c.loop.values.items in
    let fits : SFits w32 v = search rules in
    let pushed : c.push.new.self.items ≡ vs ++ v ∷ [] = rw (to_z-of_z w32 v fits) at c.push.ensures.items in
    record {
      counted = omega (arith, ap length pushed, length-append vs (v ∷ []), c.loop.invariant.counted);
      each = subst (AllByRecursion (InRange K)) (sym pushed)
          (all_append (InRange K) vs (v ∷ []) c.loop.invariant.each (c.in_ok-read_plain_value.ensures.range, tt));
      bytes = c.in_ok-read_plain_value.ensures.bytes ∙ c.loop.invariant.bytes;
      fewer = omega (arith, c.in_ok-read_plain_value.ensures.fewer, c.loop.invariant.fewer);
      rest = c.loop.invariant.rest
          ∙ plain_next K c.args.count vs v (left c.loop.reader) (left c.read_plain_value.new.reader) c.loop.reader.place c.read_plain_value.new.reader.place
          (omega (arith, c.loop.invariant.counted)) c.in_ok-read_plain_value.ensures.value
          ∙ ap (λ ws. read (plain_rest K c.args.count ws) (left c.read_plain_value.new.reader) c.read_plain_value.new.reader.place) (sym pushed);
    }

pub returns-clause-values : goal.returns-clause-values
returns-clause-values g c =
    c.loop.invariant.rest ∙ plain_ends g.K.TableKind.kind c.args.count c.loop.values.items (left c.loop.reader) c.loop.reader.place
    (omega (arith, c.loop.invariant.counted))
