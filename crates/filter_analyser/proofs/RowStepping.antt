-- A step of the recursion with a ridge: where it stops, and where it goes on; and as the code makes it.
use Rattle.std.proofs.Common.{◌≡◌, ℕ, ◌+◌, ◌^◌, ◌<◌, ◌≤◌, ℤ, pos, ◌≤ℤ◌, int_lt, nat_abs, to_z, of_z, Bool, cond, ◌||◌, nat_lt, nat_le, List, [], ◌∷◌, length}
use Rattle.std.proofs.Common.{get_or, take, ap, sym, ◌∙◌, arith}
use mir.Syntax.{w64, w128}
use Rattle.std.specs.List.{list_any, AllByRecursion}
use Rattle.level_spec.specs.Recursion.{State, lag, reflection, moved, fallen}
use Rattle.level_spec.specs.Rows.{row_stops, next_row}
use Rattle.level_spec.specs.Laws.{AreCorrelations}
use Rattle.filter_refiner.proofs.Logarithms.{le-true, le-false}
use Rattle.filter_refiner.proofs.Numbers.{same_64}
use Rattle.filter_analyser.specs.Run.{IsRun}
use Rattle.filter_analyser.proofs.Shares.{lags-most}
use Rattle.filter_analyser.proofs.Reflecting.{IsReflection, reflection-held, moved-held, fallen-held}

row-stop-by_value : (lags : List ℤ) (s : State) → 2 ^ 24 ≤ nat_abs (reflection lags s (length s.values + 1)) → next_row lags s ≡ s
unfolding next_row row_stops
row-stop-by_value lags s h =
    let i = length s.values + 1 in
    let f = reflection lags s i in
    let rest = int_lt (fallen s.error f) (lag lags 0) || list_any (λ b. nat_lt (2 ^ 32) (nat_abs b)) (moved s.values f i) in
    ap (λ b. cond (b || rest) s (record { error = fallen s.error f; values = moved s.values f i })) (le-true (2 ^ 24) (nat_abs f) h)

row-step-by_test : (lags : List ℤ) (s : State) (F : ℤ) (b : Bool) → F ≡ reflection lags s (length s.values + 1) → nat_abs F < 2 ^ 24 →
    b ≡ (int_lt (fallen s.error F) (lag lags 0) || list_any (λ b. nat_lt (2 ^ 32) (nat_abs b)) (moved s.values F (length s.values + 1))) →
    next_row lags s ≡ cond b s (record { error = fallen s.error F; values = moved s.values F (length s.values + 1) })
unfolding next_row row_stops
row-step-by_test lags s F b is small e =
    let i = length s.values + 1 in
    let rest : ℤ → Bool = λ f. int_lt (fallen s.error f) (lag lags 0) || list_any (λ b. nat_lt (2 ^ 32) (nat_abs b)) (moved s.values f i) in
    ap (λ f. cond (nat_le (2 ^ 24) (nat_abs f) || rest f) s (record { error = fallen s.error f; values = moved s.values f i })) (sym is)
    ∙ ap (λ t. cond (t || rest F) s (record { error = fallen s.error F; values = moved s.values F i })) (le-false (2 ^ 24) (nat_abs F) small)
    ∙ ap (λ t. cond t s (record { error = fallen s.error F; values = moved s.values F i })) (sym e)

-- by the size of the value that is to be added
pub row-stops : (lags : List ℤ) (s : State) (F : ℤ) (size : ℕ) → IsRun s → to_z w128 (of_z w128 F) ≡ F → IsReflection lags s F →
    size ≡ nat_abs (to_z w128 (of_z w128 F)) → 2 ^ 24 ≤ size → next_row lags s ≡ s
row-stops lags s F size run same is e great =
    let v : size ≡ nat_abs F = e ∙ ap nat_abs same in
    row-stop-by_value lags s (rw (← reflection-held lags s F run is) (omega arith))

-- by the error that is left, and the moved values in front of an array
pub row-made : (lags : List ℤ) (s : State) (F error : ℤ) (size steps : ℕ) (next : List ℤ) (past : Bool) → AreCorrelations lags → IsRun s →
    length s.values ≡ steps → to_z w128 (of_z w128 F) ≡ F → IsReflection lags s F → size ≡ nat_abs (to_z w128 (of_z w128 F)) → size < 2 ^ 24 →
    take (length s.values + 1) next ≡ moved s.values (to_z w64 (of_z w64 (to_z w128 (of_z w128 F)))) (length s.values + 1) →
    error ≡ fallen (to_z w64 (of_z w64 s.error)) (to_z w64 (of_z w64 (to_z w128 (of_z w128 F)))) →
    pos 1 ≤ℤ error → error ≤ℤ to_z w64 (of_z w64 s.error) →
    past ≡ (int_lt (to_z w64 (of_z w64 error)) (to_z w64 (of_z w64 (get_or lags 0 (pos 0))))
    || list_any (λ b. nat_lt (2 ^ 32) (nat_abs b)) (take (steps + 1) next)) →
    next_row lags s ≡ cond past s (record { error = to_z w64 (of_z w64 error); values = take (steps + 1) next })
row-made lags s F error size steps next past correlations run long same is e less moves falls least most test =
    let v : size ≡ nat_abs F = e ∙ ap nat_abs same in
    let small : nat_abs F < 2 ^ 24 = omega arith in
    let fell = fallen-held s F error run small falls least most in
    let held = moved-held s F steps next small long moves in
    let first = lags-most lags 0 correlations in
    let same = same_64 (get_or lags 0 (pos 0)) (omega arith) in
    let greater : List ℤ → Bool = list_any (λ b. nat_lt (2 ^ 32) (nat_abs b)) in
    let tested = test
    ∙ ap (λ e. int_lt e (to_z w64 (of_z w64 (get_or lags 0 (pos 0)))) || greater (take (steps + 1) next)) fell
    ∙ ap (λ z. int_lt (fallen s.error F) z || greater (take (steps + 1) next)) same
    ∙ ap (λ v. int_lt (fallen s.error F) (get_or lags 0 (pos 0)) || greater v) held in
    rw (fell, held) (row-step-by_test lags s F past (reflection-held lags s F run is) small tested)

pub below-40 : (values : List ℤ) → AllByRecursion (λ a. nat_abs a ≤ 2 ^ 32) values → AllByRecursion (λ a. nat_abs a ≤ 2 ^ 40) values
below-40 [] h = tt
below-40 (a ∷ values) h = (let e = h.0 in omega arith, below-40 values h.1)
