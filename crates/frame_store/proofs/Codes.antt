-- Codes symbol after symbol, and that a code which doesn't fit fits with no more symbols.
use Rattle.std.proofs.Common.{◌≡◌, ◌⊎◌, inl, inr, ℕ, suc, ◌+◌, ◌<◌, ◌≤◌, Bool, List, [], ◌∷◌, ◌++◌, length, get_or, map, take, drop, ap, sym, ◌∙◌}
use Rattle.std.proofs.Common.{arith, drop-cons}
use Rattle.std.proofs.lemmas.Bool.{cases_lt}
use Rattle.std.proofs.lemmas.List.{take_more, take-append-drop, map-append}
use Rattle.dst_spec.specs.Interval.{Interval, whole, narrowed, interval_from, interval}
use Rattle.dst_spec.proofs.Intervals.{interval_from-append}
use Rattle.dst_spec.proofs.CodeLengths.{more_from}

-- one element more, mapped
pub map-more : (f : ℕ → Bool × ℕ) (xs : List ℕ) (i : ℕ) → i < length xs → map f (take (i + 1) xs) ≡ map f (take i xs) ++ f (get_or xs i 0) ∷ []
map-more f xs i lt = ap (map f) (take_more xs i 0 lt) ∙ map-append f (take i xs) (get_or xs i 0 ∷ [])

-- the elements before one, it, and those behind it
pub map-around : (f : ℕ → Bool × ℕ) (xs : List ℕ) (i : ℕ) → i < length xs → map f xs ≡ map f (take i xs) ++ f (get_or xs i 0) ∷ map f (drop (suc i) xs)
map-around f xs i lt =
    ap (map f) (sym (take-append-drop i xs)) ∙ map-append f (take i xs) (drop i xs) ∙ ap (λ ys. map f (take i xs) ++ map f ys) (drop-cons xs i 0 lt)

pub too_long : (room : ℕ) (reached : Interval) (before behind : List (Bool × ℕ)) (e : Bool) (p : ℕ) → reached ≡ interval before →
    (13 + (narrowed reached (e, p)).doublings ≤ room → ⊥) →
    room < 13 + (interval (before ++ (e, p) ∷ behind)).doublings
unfolding interval_from
too_long room reached before behind e p is refused = at (cases_lt room (13 + (narrowed reached (e, p)).doublings))
  where
    at : (room < 13 + (narrowed reached (e, p)).doublings) ⊎ (13 + (narrowed reached (e, p)).doublings ≤ room) →
        room < 13 + (interval (before ++ (e, p) ∷ behind)).doublings
    at (inl lt) =
        let all = ap (λ i. i.doublings) (interval_from-append whole before ((e, p) ∷ behind) ∙ ap (λ i. interval_from (narrowed i (e, p)) behind) (sym is)) in
        omega (arith, all, more_from (narrowed reached (e, p)) behind)
    at (inr le) = absurd (refused le)
