-- The rule of maps, element by element, and how many different ones there are.
use Rattle.std.proofs.Common.{◌≡◌, ℕ, ◌+◌, ◌<◌, ◌≤◌, max, List, [], ◌∷◌, length, get_or, drop, subst, sym, arith}
use Rattle.std.specs.List.{fold}
use Rattle.std.proofs.lemmas.List.{drop_more, drop_all}
use Rattle.dst_spec.specs.Map.{Numbers, element_count}

pub numbers_back : (xs : List ℕ) (i count : ℕ) → i < length xs → get_or xs i 0 ≤ count →
    Numbers (max count (get_or xs i 0 + 1)) (drop (i + 1) xs) → Numbers count (drop i xs)
unfolding Numbers
numbers_back xs i count lt le h = subst (Numbers count) (sym (drop_more xs i 0 lt)) (le, h)

pub numbers_end : (xs : List ℕ) (i count : ℕ) → length xs ≤ i → Numbers count (drop i xs)
unfolding Numbers
numbers_end xs i count le = subst (Numbers count) (sym (drop_all i xs le)) tt

count_from : (count : ℕ) (xs : List ℕ) → Numbers count xs → fold (λ n e. max n (e + 1)) count xs ≤ count + length xs
unfolding Numbers
count_from count [] h = omega arith
count_from count (x ∷ xs) h =
    let rest = count_from (max count (x + 1)) xs h.1 in
    omega (arith, rest, h.0)

-- no more than the map has elements
pub count_most : (xs : List ℕ) → Numbers 0 xs → element_count xs ≤ length xs
count_most xs h =
    let most = count_from 0 xs h in
    let none : 0 + length xs ≡ length xs = omega arith in
    rw none at most
