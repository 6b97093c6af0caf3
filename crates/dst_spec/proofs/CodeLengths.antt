-- How long a code is depends on its probabilities alone, and not on where its interval lies.
use Rattle.std.proofs.Common.{◌≡◌, ℕ, zero, suc, ◌+◌, ◌-◌, ◌*◌, ◌/◌, ◌≤◌, nat_lt, Bool, true, false, cond, List, [], ◌∷◌, ◌++◌, length, refl, ap, ap₂}
use Rattle.std.proofs.Common.{subst, ◌∙◌, arith, length-append}
use Rattle.dst_spec.specs.Sample.{Shape}
use Rattle.dst_spec.specs.Header.{Params}
use Rattle.dst_spec.specs.Symbols.{symbols}
use Rattle.dst_spec.specs.Interval.{Interval, scale, part, double, doubled, narrowed, interval_from, interval}
use Rattle.dst_spec.specs.Spell.{header_spelling, code_spelling, spell}
use Rattle.dst_spec.specs.Laws.{AreAlike, CodeLengthLaw}
use Rattle.dst_spec.proofs.Numbers.{length-low_bits, length-octets}

abbrev at : ℕ → ℕ → ℕ → Interval
at low range n = record { low = low; range = range; doublings = n }

alike_doubled : (n low other range m : ℕ) → AreAlike (doubled n (at low range m)) (doubled n (at other range m))
unfolding doubled
alike_doubled zero low other range m = (refl, refl)
alike_doubled (suc n) low other range m = go (nat_lt range 2048) (alike_doubled n (2 * low) (2 * other) (2 * range) (m + 1))
  where
    go : (b : Bool) → AreAlike (doubled n (at (2 * low) (2 * range) (m + 1))) (doubled n (at (2 * other) (2 * range) (m + 1))) →
        AreAlike (cond b (doubled n (at (2 * low) (2 * range) (m + 1))) (at low range m))
        (cond b (doubled n (at (2 * other) (2 * range) (m + 1))) (at other range m))
    go true h = h
    go false h = (refl, refl)

alike_here : (low other range m : ℕ) (e : Bool) (p : ℕ) → AreAlike (narrowed (at low range m) (e, p)) (narrowed (at other range m) (e, p))
alike_here low other range m true p = alike_doubled 11 low other (range - scale range * p) m
alike_here low other range m false p = alike_doubled 11 (low + (range - scale range * p)) (other + (range - scale range * p)) (scale range * p) m

pub alike_narrowed : (i j : Interval) (e : Bool) (p : ℕ) → AreAlike i j → AreAlike (narrowed i (e, p)) (narrowed j (e, p))
alike_narrowed i j e p h =
    subst (λ k. AreAlike (narrowed i (e, p)) (narrowed k (e, p))) (ap₂ (λ r n. at j.low r n) h.0 h.1) (alike_here i.low j.low i.range i.doublings e p)

pub alike_from : (i j : Interval) (pairs : List (Bool × ℕ)) → AreAlike i j → AreAlike (interval_from i pairs) (interval_from j pairs)
unfolding interval_from
alike_from i j [] h = h
alike_from i j (pair ∷ pairs) h = alike_from (narrowed i pair) (narrowed j pair) pairs (alike_narrowed i j pair.0 pair.1 h)

-- ---- no symbol takes a doubling back
more_doubled : (n : ℕ) (i : Interval) → i.doublings ≤ (doubled n i).doublings
unfolding doubled
more_doubled zero i = omega arith
more_doubled (suc n) i = go (nat_lt i.range 2048) (more_doubled n (double i))
  where
    go : (b : Bool) → i.doublings + 1 ≤ (doubled n (double i)).doublings → i.doublings ≤ (cond b (doubled n (double i)) i).doublings
    go true h = omega arith
    go false h = omega arith

pub more_narrowed : (i : Interval) (e : Bool) (p : ℕ) → i.doublings ≤ (narrowed i (e, p)).doublings
more_narrowed i true p = more_doubled 11 (part true p i)
more_narrowed i false p = more_doubled 11 (part false p i)

pub more_from : (i : Interval) (pairs : List (Bool × ℕ)) → i.doublings ≤ (interval_from i pairs).doublings
unfolding interval_from
more_from i [] = omega arith
more_from i (pair ∷ pairs) = omega (arith, more_narrowed i pair.0 pair.1, more_from (narrowed i pair) pairs)

-- ---- bits and bytes
pub code_bits : (pairs : List (Bool × ℕ)) → length (code_spelling pairs) ≡ 13 + (interval pairs).doublings
unfolding code_spelling
code_bits pairs = omega (arith, length-low_bits (12 + (interval pairs).doublings) (interval pairs).low)

pub spelling_bytes : (f : Shape) (P : Params) (sound : List ℕ) →
    length (spell f P sound) ≡ (length (header_spelling P) + (13 + (interval (symbols f P sound false)).doublings) + 7) / 8
unfolding spell
spelling_bytes f P sound =
    let pairs = symbols f P sound false in
    length-octets (header_spelling P ++ code_spelling pairs)
    ∙ ap (λ n. (n + 7) / 8) (length-append (header_spelling P) (code_spelling pairs) ∙ ap (λ n. length (header_spelling P) + n) (code_bits pairs))

pub code_length_law : CodeLengthLaw
code_length_law = record { alike = alike_from; more = more_from; code = code_bits; spelling = spelling_bytes }
