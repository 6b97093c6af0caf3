-- Maps of one number for each channel, and of one for all.
use Rattle.std.proofs.Common.{◌≡◌, ℕ, zero, suc, ◌+◌, ◌≤◌, max, replicate, fold, refl, ap, ◌∙◌, subst, sym, arith}
use Rattle.std.specs.List.{range_with_len}
use Rattle.dst_spec.specs.Map.{Numbers, element_count}

pub numbered : (a n : ℕ) → Numbers a (range_with_len a n)
unfolding Numbers
numbered a zero = tt
numbered a (suc n) = (
  omega arith,
  let e : max a (a + 1) ≡ a + 1 =
      omega arith in subst (λ m. Numbers m (range_with_len (a + 1) n)) (sym e) (numbered (a + 1) n),
)

pub numbered-count : (a n : ℕ) → fold (λ count e. max count (e + 1)) a (range_with_len a n) ≡ a + n
numbered-count a zero = omega arith
numbered-count a (suc n) = let e : max a (a + 1) ≡ a + 1 = omega arith in ap (λ m. fold (λ count e. max count (e + 1)) m (range_with_len (a + 1) n)) e
    ∙ numbered-count (a + 1) n ∙ omega arith

pub zeros : (count n : ℕ) → Numbers count (replicate n 0)
unfolding Numbers
zeros count zero = tt
zeros count (suc n) = (omega arith, zeros (max count (0 + 1)) n)

pub zeros-count : (count n : ℕ) → 1 ≤ count → fold (λ count e. max count (e + 1)) count (replicate n 0) ≡ count
zeros-count count zero h = refl
zeros-count count (suc n) h = let e : max count (0 + 1) ≡ count = omega arith in ap (λ m. fold (λ count e. max count (e + 1)) m (replicate n 0)) e
    ∙ zeros-count count n h

pub one_number : (C : ℕ) → 1 ≤ C → 1 ≡ element_count (replicate C 0)
one_number zero h = absurd (omega arith)
one_number (suc n) h = sym (zeros-count 1 n (omega arith))
