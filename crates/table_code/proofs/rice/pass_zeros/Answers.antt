-- A window of 32 bits that isn't 0 holds the one behind the zeros; a window that is 0 is passed whole.
use Rattle.std.proofs.Common.{◌≡◌, rules, sym, ap, ◌∙◌, drop, drop-drop}
use Rattle.dst_spec.specs.Bits.{number_from}
use Rattle.bit_io.specs.Reading.{left}
use Rattle.table_code.proofs.Runs.{one_found, none_found}
use Rattle.table_code.proofs.rice.pass_zeros.Goals as goal

pub returns-then-window-ne0-clause-zeros : goal.returns-then-window-ne0-clause-zeros
returns-then-window-ne0-clause-zeros c =
    let same : left c.over.result ≡ left c.loop.reader = cc in
    let value = c.read_or_zero-window.ensures.first ∙ ap (λ xs. number_from xs 0 32) same in
    (one_found (left c.args.reader.now) (left c.loop.reader) c.loop.passed c.read_or_zero-window.result c.left.ensures.bits c.loop.invariant.rest
    c.loop.invariant.run value c.if-window-ne0.true c.read_or_zero-window.ensures.fits).0

pub returns-then-window-ne0-clause-one : goal.returns-then-window-ne0-clause-one
returns-then-window-ne0-clause-one c =
    let same : left c.over.result ≡ left c.loop.reader = cc in
    let value = c.read_or_zero-window.ensures.first ∙ ap (λ xs. number_from xs 0 32) same in
    (one_found (left c.args.reader.now) (left c.loop.reader) c.loop.passed c.read_or_zero-window.result c.left.ensures.bits c.loop.invariant.rest
    c.loop.invariant.run value c.if-window-ne0.true c.read_or_zero-window.ensures.fits).1

pub loop-preserved : goal.loop-preserved
loop-preserved c =
    let same : left c.over.result ≡ left c.loop.reader = cc in
    let none : number_from (left c.loop.reader) 0 32 ≡ 0 = sym (c.read_or_zero-window.ensures.first ∙ ap (λ xs. number_from xs 0 32) same)
    ∙ c.if-window-ne0.false in
    let run = none_found (left c.args.reader.now) (left c.loop.reader) c.loop.passed c.loop.invariant.rest c.loop.invariant.run none in
    record {
      counted = search rules;
      bytes = search rules;
      place = search rules;
      rest = c.read_or_zero-in-loop.ensures.rest ∙ ap (drop 32) c.loop.invariant.rest ∙ drop-drop 32 c.loop.passed (left c.args.reader.now);
      run = rw c.read_or_zero-in-loop.ensures.rest run;
    }
