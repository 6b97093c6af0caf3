-- Zeros behind the values of a solution.
use Rattle.std.proofs.Common.{◌≡◌, ℕ, suc, ◌+◌, ◌-◌, ◌≤◌, ℤ, pos, List, ◌++◌, length, replicate, append_assoc, refl, ap, sym, ◌∙◌, arith}
use Rattle.std.proofs.lemmas.List.{replicate-append-replicate}
use Rattle.level_spec.specs.Recursion.{begin, step, after, solution}
use Rattle.level_spec.proofs.Steps.{length-after, after-stop}
use Rattle.level_spec.proofs.Tables.{length-solution}
use Rattle.filter_analyser.specs.Run.{padded}

pub padded-solution : (lags : List ℤ) (N : ℕ) → N ≤ 128 → padded (after lags N).values ≡ padded (solution lags N)
unfolding solution
padded-solution lags N h =
    let values = (after lags N).values in
    let few = length-after lags N in
    let n = length values in
    let zeros = replicate (N - n) (pos 0) in
    let long : length (values ++ zeros) ≡ N = length-solution lags N in
    let e : 128 - n ≡ N - n + (128 - N) = omega arith in
    let split : replicate (128 - n) (pos 0) ≡ zeros ++ replicate (128 - N) (pos 0) = ap (λ k. replicate k (pos 0)) e
    ∙ sym (replicate-append-replicate (N - n) (128 - N) (pos 0)) in
    ap (λ t. values ++ t) split ∙ sym (append_assoc values zeros (replicate (128 - N) (pos 0)))
    ∙ ap (λ k. (values ++ zeros) ++ replicate (128 - k) (pos 0)) (sym long)

pub begun : (lags : List ℤ) → begin lags ≡ after lags 0
unfolding after
begun lags = refl

pub one_more : (lags : List ℤ) (n : ℕ) → step lags (after lags n) ≡ after lags (n + 1)
unfolding after
one_more lags n = let e : suc n ≡ n + 1 = omega arith in ap (after lags) e

pub stopped : (lags : List ℤ) (n to : ℕ) → n ≤ to → step lags (after lags n) ≡ after lags n → after lags n ≡ after lags to
stopped lags n to h e = sym (after-stop lags n (to - n) e) ∙ ap (after lags) (omega arith)
