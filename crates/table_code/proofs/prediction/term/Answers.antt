-- The product fits, as the weight and the value are small.
use Rattle.std.proofs.Common.{◌≡◌, ◌-◌, ◌≤◌, rules, pos, ◌*ℤ◌, nat_abs, get_or, length, to_z, of_z, ap, ap₂, ◌∙◌, arith}
use Rattle.std.proofs.lemmas.Int.{to_z-of_z, fits_signed_mul, unsigned_abs-mul}
use Rattle.std.proofs.lemmas.Nat.{mul-le}
use mir.Val.{SFits}
use mir.Syntax.{w32}
use Rattle.table_code.proofs.Weighing.{weight_is_small, value_is_small}
use Rattle.table_code.proofs.prediction.term.Given as given
use Rattle.table_code.proofs.prediction.term.Goals as goal

-- the weight is that of the method
weight_is : (g : given.Over) (c : goal.After-from_last g) → c.weight.result ≡ get_or (g.K.TableKind.kind.weights c.args.method) c.args.k (pos 0)
weight_is g c = c.weight.ensures.weight ∙ ap (λ i. get_or (g.K.TableKind.kind.weights c.args.method) i (pos 0)) (omega arith)

-- it is small
weight_most : (g : given.Over) (c : goal.After-from_last g) → nat_abs c.weight.result ≤ 56
weight_most g c = rw (weight_is g c) (weight_is_small g.K.TableKind.kind c.args.method c.args.k g.met.K.TableKind.weights c.requires.method)

-- so is the value
value_most : (g : given.Over) (c : goal.After-from_last g) → nat_abs c.from_last.result ≤ 256
value_most g c =
    rw c.from_last.ensures (value_is_small g.K.TableKind.kind c.args.values.now (length c.args.values.now - 1 - c.args.k)
    (pos 0) g.met.K.TableKind.small c.requires.each (omega arith))

-- so that their product fits
product_fits : (g : given.Over) (c : goal.After-from_last g) → SFits w32 (c.weight.result *ℤ c.from_last.result)
product_fits g c = fits_signed_mul w32 c.weight.result c.from_last.result 56 256 (weight_most g c) (value_most g c) (omega arith)

-- the product is that of the weight and the value as they are held
product_is : (g : given.Over) (c : goal.After-from_last g) →
    to_z w32 (of_z w32 c.weight.result) *ℤ to_z w32 (of_z w32 c.from_last.result) ≡ c.weight.result *ℤ c.from_last.result
product_is g c = ap₂ (λ w v. w *ℤ v) (to_z-of_z w32 c.weight.result (search rules)) (to_z-of_z w32 c.from_last.result (search rules))

pub overflow_mul-result : goal.overflow_mul-result
overflow_mul-result g c = rw (product_is g c) (product_fits g c)

pub returns-clause-term : goal.returns-clause-term
returns-clause-term g c =
    rw (product_is g c, to_z-of_z w32 (c.weight.result *ℤ c.from_last.result) (product_fits g c)) (ap₂ (λ w v. w *ℤ v) (weight_is g c) c.from_last.ensures)

pub returns-clause-small : goal.returns-clause-small
returns-clause-small g c =
    rw (product_is g c, to_z-of_z w32 (c.weight.result *ℤ c.from_last.result) (product_fits g c))
    (omega (
      arith,
      unsigned_abs-mul c.weight.result c.from_last.result,
      mul-le (nat_abs c.weight.result) (nat_abs c.from_last.result) 56 256 (weight_most g c) (value_most g c),
    ))
