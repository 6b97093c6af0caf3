-- A number that may be a coefficient is the same in 16 bits.
use Rattle.std.proofs.Common.{◌≡◌, ℤ, pos, ◌++◌, [], ◌∷◌, rules, get_or, ap, sym, ◌∙◌, arith}
use Rattle.std.proofs.lemmas.Int.{ints, to_z-of_z}
use Rattle.std.proofs.lemmas.List.{take_more}
use mir.Val.{SFits}
use mir.Syntax.{w16, w32}
use Rattle.table_code.proofs.kinds.FiltersTableKind.from_values.Goals as goal

pub overflow_cast-number : goal.overflow_cast-number
overflow_cast-number c = omega (arith, ints)

pub loop-number-preserved : goal.loop-number-preserved
loop-number-preserved c =
    let xs = c.args.numbers.now in
    let n : ℤ = get_or xs c.loop-number.number-index (pos 0) in
    let fits : SFits w32 n = search rules in
    let small : SFits w16 n = omega (arith, ints) in
    let pushed : c.push.new.self.items ≡ c.loop-number.coefs.items ++ n ∷ [] = rw (to_z-of_z w32 n fits, to_z-of_z w16 n small) at c.push.ensures.items in
    pushed ∙ ap (λ ys. ys ++ n ∷ []) c.loop-number.invariant ∙ sym (take_more xs c.loop-number.number-index (pos 0) c.loop-number-test.true)
