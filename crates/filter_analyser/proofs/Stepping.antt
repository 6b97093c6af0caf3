-- A step of the recursion in its three ways, and as the code makes it.
use Rattle.std.proofs.Common.{◌≡◌, ℕ, ◌+◌, ◌^◌, ◌<◌, ◌≤◌, ℤ, nat_abs, to_z, of_z, Bool, cond, ◌||◌, nat_lt, nat_le, List, length, take, ap, sym, ◌∙◌, arith}
use mir.Syntax.{w64, w128}
use Rattle.std.specs.List.{list_any}
use Rattle.level_spec.specs.Recursion.{State, reflection, moved, stops, fallen, step}
use Rattle.filter_refiner.proofs.Logarithms.{le-true, le-false}
use Rattle.filter_analyser.specs.Run.{IsRun}
use Rattle.filter_analyser.proofs.Reflecting.{IsReflection, reflection-held, moved-held}

stop-by_value : (lags : List ℤ) (s : State) → 2 ^ 24 ≤ nat_abs (reflection lags s (length s.values + 1)) → step lags s ≡ s
unfolding step stops
stop-by_value lags s h =
    let i = length s.values + 1 in
    let f = reflection lags s i in
    let next : State = record { error = fallen s.error f; values = moved s.values f i } in
    let large = list_any (λ b. nat_lt (2 ^ 40) (nat_abs b)) (moved s.values f i) in
    ap (λ b. cond (b || large) s next) (le-true (2 ^ 24) (nat_abs f) h)

stop-by_large : (lags : List ℤ) (s : State) (f : ℤ) (b : Bool) → f ≡ reflection lags s (length s.values + 1) → nat_abs f < 2 ^ 24
    → b ≡ list_any (λ b. nat_lt (2 ^ 40) (nat_abs b)) (moved s.values f (length s.values + 1)) →
    step lags s ≡ cond b s (record { error = fallen s.error f; values = moved s.values f (length s.values + 1) })
unfolding step stops
stop-by_large lags s f b e h k =
    let i = length s.values + 1 in
    let Next : ℤ → State = λ f. record { error = fallen s.error f; values = moved s.values f i } in
    ap (λ f. cond (nat_le (2 ^ 24) (nat_abs f) || list_any (λ b. nat_lt (2 ^ 40) (nat_abs b)) (moved s.values f i)) s (Next f)) (sym e)
    ∙ ap (λ t. cond (t || list_any (λ b. nat_lt (2 ^ 40) (nat_abs b)) (moved s.values f i)) s (Next f)) (le-false (2 ^ 24) (nat_abs f) h)
    ∙ ap (λ t. cond t s (Next f)) (sym k)

-- by the size of the value that is to be added
pub step-stops : (lags : List ℤ) (s : State) (F : ℤ) (size : ℕ) → IsRun s → to_z w128 (of_z w128 F) ≡ F → IsReflection lags s F →
    size ≡ nat_abs (to_z w128 (of_z w128 F)) → 2 ^ 24 ≤ size → step lags s ≡ s
step-stops lags s F size run same is e great =
    let v : size ≡ nat_abs F = e ∙ ap nat_abs same in
    stop-by_value lags s (rw (← reflection-held lags s F run is) (omega arith))

-- by the moved values in front of an array
pub step-made : (lags : List ℤ) (s : State) (F : ℤ) (size steps : ℕ) (next : List ℤ) (large : Bool) → IsRun s → length s.values ≡ steps →
    to_z w128 (of_z w128 F) ≡ F → IsReflection lags s F → size ≡ nat_abs (to_z w128 (of_z w128 F)) → size < 2 ^ 24 →
    take (length s.values + 1) next ≡ moved s.values (to_z w64 (of_z w64 (to_z w128 (of_z w128 F)))) (length s.values + 1) →
    large ≡ list_any (λ b. nat_lt (2 ^ 40) (nat_abs b)) (take (steps + 1) next) →
    (nat_abs F < 2 ^ 24) × (step lags s ≡ cond large s (record { error = fallen s.error F; values = take (steps + 1) next }))
step-made lags s F size steps next large run long same is e less moves test =
    let v : size ≡ nat_abs F = e ∙ ap nat_abs same in
    let small : nat_abs F < 2 ^ 24 = omega arith in
    let held = moved-held s F steps next small long moves in
    let tested = test ∙ ap (list_any (λ b. nat_lt (2 ^ 40) (nat_abs b))) held in
    (small, rw held (stop-by_large lags s F large (reflection-held lags s F run is) small tested))
