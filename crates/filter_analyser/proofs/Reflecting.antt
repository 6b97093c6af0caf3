-- What the code of a step makes of a run, in its numbers: the value that is added, the moved values, the error behind them, and that they are a run again.
use Rattle.std.proofs.Common.{◌≡◌, ℕ, ◌+◌, ◌^◌, ◌<◌, ◌≤◌, ℤ, pos, ◌≤ℤ◌, nat_abs, to_z, of_z, List, length, take, length-take, ap, sym, ◌∙◌, arith}
use mir.Syntax.{w64, w128}
use Rattle.std.proofs.lemmas.Int.{ints}
use Rattle.std.specs.List.{AllByRecursion}
use Rattle.level_spec.specs.Recursion.{State, reflection, moved, fallen}
use Rattle.filter_analyser.specs.Run.{IsRun}

error-held : (s : State) → IsRun s → to_z w64 (of_z w64 s.error) ≡ s.error
error-held s run = let least = run.positive in let most = run.most in omega (arith, ints)

value-held : (F : ℤ) → nat_abs F < 2 ^ 24 → to_z w64 (of_z w64 (to_z w128 (of_z w128 F))) ≡ F
value-held F small = omega (arith, ints)

-- by the error in its type
abbrev pub IsReflection : List ℤ → State → ℤ → Type 0
IsReflection lags s F = F ≡ reflection lags (record { error = to_z w64 (of_z w64 s.error); values = s.values }) (length s.values + 1)

pub reflection-held : (lags : List ℤ) (s : State) (F : ℤ) → IsRun s → IsReflection lags s F → F ≡ reflection lags s (length s.values + 1)
reflection-held lags s F run h = h ∙ ap (λ e. reflection lags (record { error = e; values = s.values }) (length s.values + 1)) (error-held s run)

-- in front of an array
pub moved-held : (s : State) (F : ℤ) (steps : ℕ) (next : List ℤ) → nat_abs F < 2 ^ 24 → length s.values ≡ steps →
    take (length s.values + 1) next ≡ moved s.values (to_z w64 (of_z w64 (to_z w128 (of_z w128 F)))) (length s.values + 1) →
    take (steps + 1) next ≡ moved s.values F (length s.values + 1)
moved-held s F steps next small long h =
    ap (λ k. take (k + 1) next) (sym long) ∙ h ∙ ap (λ z. moved s.values z (length s.values + 1)) (value-held F small)

pub fallen-held : (s : State) (F error : ℤ) → IsRun s → nat_abs F < 2 ^ 24 →
    error ≡ fallen (to_z w64 (of_z w64 s.error)) (to_z w64 (of_z w64 (to_z w128 (of_z w128 F)))) →
    pos 1 ≤ℤ error → error ≤ℤ to_z w64 (of_z w64 s.error) → to_z w64 (of_z w64 error) ≡ fallen s.error F
fallen-held s F error run small h least less =
    let most = run.most in
    let held = error-held s run in
    let back : to_z w64 (of_z w64 error) ≡ error = omega (arith, ints) in
    back ∙ h ∙ ap (λ e. fallen e (to_z w64 (of_z w64 (to_z w128 (of_z w128 F))))) held ∙ ap (fallen s.error) (value-held F small)

pub run-goes_on : (s : State) (error : ℤ) (steps : ℕ) (values : List ℤ) → IsRun s → length s.values ≡ steps → length s.values < 128 →
    pos 1 ≤ℤ error → error ≤ℤ to_z w64 (of_z w64 s.error) → AllByRecursion (λ a. nat_abs a ≤ 2 ^ 40) (take (steps + 1) values) →
    (steps + 1 ≤ 128) × IsRun (record { error = to_z w64 (of_z w64 error); values = take (steps + 1) values })
run-goes_on s error steps values run long room least less small =
    let positive = run.positive in
    let most = run.most in
    let front = length-take (steps + 1) values in
    (omega arith, record { positive = omega (arith, ints); most = omega (arith, ints); few = omega arith; small = small })
