-- A place without a row feeds nothing back; else the row has as many values as its place says.
use Rattle.std.proofs.Common.{◌≡◌, ◌-◌, pos, ◌-ℤ◌, ◌*ℤ◌, to_z, of_z, length, get_or, ap, ◌∙◌, arith}
use mir.Syntax.{w64}
use Rattle.level_spec.specs.Recursion.{value, whole}
use Rattle.filter_refiner.proofs.Numbers.{same_64}
use Rattle.filter_refiner.proofs.Fitted.{no-row}
use Rattle.filter_refiner.proofs.fitting.feed_row.Goals as goal

pub returns-then-place-count-clause-before : goal.returns-then-place-count-clause-before
returns-then-place-count-clause-before c = λ k h.
    no-row c.args.rows.now c.args.error (get_or c.args.values.now k (pos 0)) c.args.place k (omega (arith, c.count.ensures.count))

pub returns-clause-before : goal.returns-clause-before
returns-clause-before c = λ k h.
    let values = c.values.result.now in
    let p = c.args.place in
    let e = to_z w64 (of_z w64 c.args.error) in
    let long : length values ≡ p = c.values.ensures.long in
    let old = get_or c.args.values.now k (pos 0) in
    c.feed_back.ensures.before k (omega arith)
    ∙ ap (λ z. old -ℤ whole (z *ℤ value values (length values - k))) (same_64 c.args.error (omega (arith, c.requires.error)))
    ∙ ap (λ n. old -ℤ whole (c.args.error *ℤ value values (n - k))) long
    ∙ ap (λ vs. old -ℤ whole (c.args.error *ℤ value vs (p - k))) c.values.ensures.values
