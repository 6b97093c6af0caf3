-- An array with the values in front and 0 behind them is the padded values.
use Rattle.std.proofs.Common.{◌≡◌, ℕ, ◌+◌, ◌-◌, ◌<◌, ◌≤◌, ℤ, pos, List, ◌++◌, length, get_or, take, replicate, length-take, length-append, inl, inr}
use Rattle.std.proofs.Common.{refl, ap, sym, ◌∙◌, arith}
use Rattle.std.proofs.lemmas.List.{ext_get_or, get_or_append_left, get_or-append_right, length-replicate}
use Rattle.std.proofs.lemmas.Bool.{cases_lt}
use Rattle.filter_refiner.proofs.Numbers.{zeros-at}
use Rattle.filter_analyser.specs.Run.{padded}
use Rattle.filter_analyser.proofs.recursion.Run.padded.Goals as goal

pub padded-is : (all values : List ℤ) → length all ≡ 128 → length values ≤ 128 → ((k : ℕ) → k < length values → get_or all k (pos 0) ≡ get_or values k (pos 0))
    → ((k : ℕ) → length values ≤ k → get_or all k (pos 0) ≡ pos 0) → all ≡ padded values
padded-is all values long few first rest =
    let n = length values in
    let zeros = replicate (128 - n) (pos 0) in
    let parts : length (values ++ zeros) ≡ n + length zeros = length-append values zeros in
    let many : length zeros ≡ 128 - n = length-replicate (128 - n) (pos 0) in
    ext_get_or (pos 0) all (values ++ zeros) (omega arith) (λ k inside. elim (cases_lt k n) [
      | inl h ↦ first k h ∙ sym (get_or_append_left values zeros (pos 0) k h)
      | inr h ↦ rest k h ∙ sym (get_or-append_right values zeros n k (pos 0) refl h ∙ zeros-at (128 - n) (k - n))
    ])

pub loop-place-init : goal.loop-place-init
loop-place-init c = (refl, λ k h. absurd (omega arith), λ k h. zeros-at 128 k)

pub returns : goal.returns
returns c =
    let is : take c.self.inside.steps c.self.inside.values ≡ c.args.self.now.values = ap (λ s. s.values) c.self.view_is in
    let cut : length (take c.self.inside.steps c.self.inside.values) ≡ c.self.inside.steps =
    omega (arith, length-take c.self.inside.steps c.self.inside.values, c.self.told, c.self.invariant.0) in
    let few : length c.args.self.now.values ≡ c.self.inside.steps = sym (ap length is) ∙ cut in
    padded-is c.loop-place.all c.args.self.now.values c.loop-place.invariant.0 (omega (arith, few, c.self.invariant.0))
    (λ k h. c.loop-place.invariant.1 k (omega arith)) (λ k h. c.loop-place.invariant.2 k (omega arith))
