-- The numbers are small, so that their sum fits, and it is brought into the bounds.
use Rattle.std.proofs.Common.{◌≡◌, ◌+ℤ◌, ◌-ℤ◌, ℤ, w32, to_z, of_z, ap, ◌∙◌, arith}
use Rattle.std.proofs.lemmas.Int.{ints}
use Rattle.dsdiff_spec.specs.Made.{bounded}
use Rattle.sound_maker.proofs.wave.moved.Goals as goal

pub returns-clause-value : goal.returns-clause-value
returns-clause-value c =
    let x = c.args.x in
    let up = c.args.up in
    let down = c.args.down in
    let sum : to_z w32 (of_z w32 (to_z w32 (of_z w32 (to_z w32 (of_z w32 x) +ℤ to_z w32 (of_z w32 up))) -ℤ to_z w32 (of_z w32 down))) ≡ x +ℤ up -ℤ down =
    omega (arith, ints) in
    let same : to_z w32 (of_z w32 c.bounded.result) ≡ c.bounded.result = omega (arith, ints) in
    same ∙ c.bounded.ensures.value ∙ ap (λ (z : ℤ). bounded z) sum
