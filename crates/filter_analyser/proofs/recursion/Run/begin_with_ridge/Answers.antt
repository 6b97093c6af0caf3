-- The error is a little more than the first correlation, by the ridge, and fits its type.
use Rattle.std.proofs.Common.{◌≡◌, ℤ, pos, ◌*ℤ◌, to_z, of_z, [], get_or, ap, arith}
use mir.Syntax.{w64}
use Rattle.std.proofs.lemmas.Int.{ints}
use Rattle.level_spec.specs.Recursion.{State}
use Rattle.level_spec.specs.Rows.{first_row}
use Rattle.filter_analyser.proofs.Shares.{lags-most}
use Rattle.filter_analyser.proofs.recursion.Run.begin_with_ridge.Goals as goal

pub returns : goal.returns
unfolding first_row
returns c =
    let r = get_or c.args.lags.now 0 (pos 0) in
    let small = lags-most c.args.lags.now 0 c.requires in
    let is : to_z w64 (of_z w64 (to_z w64 (of_z w64 r) *ℤ pos 16777280)) ≡ r *ℤ pos 16777280 = omega (arith, ints) in
    let E : ℤ → State = λ e. record { error = e; values = [] } in
    ap E is
