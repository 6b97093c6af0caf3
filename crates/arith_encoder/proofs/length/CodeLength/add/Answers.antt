-- What a symbol makes of range and doublings doesn't depend on the low end, which isn't measured.
use Rattle.std.proofs.Common.{refl, ap, sym, subst, subst₂, ◌∙◌}
use Rattle.dst_spec.specs.Interval.{Interval, interval, narrowed}
use Rattle.dst_spec.specs.Laws.{AreAlike}
use Rattle.dst_spec.proofs.Intervals.{interval-push}
use Rattle.dst_spec.proofs.CodeLengths.{alike_narrowed}
use Rattle.arith_encoder.proofs.length.CodeLength.add.Goals as goal

pub returns-clause-measures : goal.returns-clause-measures
returns-clause-measures c = λ pairs h.
    let i = c.self.inside in
    let e = c.args.symbol in
    let p = c.args.p in
    let part = c.narrow-part.result in
    let old : Interval = record { low = 0; range = i.range; doublings = i.doublings } in
    let prob = c.from.ensures ∙ c.value-2.ensures.value in
    let alike = alike_narrowed (interval pairs) old e p (subst (AreAlike (interval pairs)) (sym c.self.view_is) h) in
    let is = ap (λ q. narrowed old (e, q)) (sym prob) ∙ c.narrow-part.ensures.narrowed old refl in
    subst₂ AreAlike (sym (interval-push pairs e p)) is alike
