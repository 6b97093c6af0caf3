-- The prediction of a sample and the probability that it is as guessed.
use Rattle.std.specs.Prelude.{ℕ, ◌-◌, ◌/◌, min, ℤ, pos, ◌+ℤ◌, neg_ℤ, nat_abs, Bool, false, not, ◌&&◌, ◌==◌, nat_lt, if◌then◌else◌, List, [], ◌∷◌}
use Rattle.std.specs.Prelude.{length, get_or}
use Rattle.std.specs.Int.{is_negative}
use lib.IntN.{pred_ℤ}
use Rattle.dst_spec.specs.Sample.{Shape, sample}
use Rattle.dst_spec.specs.Header.{Params}

-- a coefficient, positive where the sample is 1, negative where it is 0
abbrev pub signed : ℕ → ℤ → ℤ
signed bit a = if bit == 1 then a else neg_ℤ a

-- the sum over the coefficients, the first with the sample before t, each further one with the sample before that
unfoldable pub sum_before : Shape → List ℕ → ℕ → List ℤ → ℤ → ℤ
sum_before f sound c [] t = pos 0
sum_before f sound c (a ∷ rest) t = signed (sample f sound c (pred_ℤ t)) a +ℤ sum_before f sound c rest (pred_ℤ t)

-- the filter and the probabilities of a channel
abbrev pub filter_of : Params → ℕ → List ℤ
filter_of P c = get_or P.filters (get_or P.filter_map c 0) []

abbrev pub probs_of : Params → ℕ → List ℕ
probs_of P c = get_or P.probs (get_or P.prob_map c 0) []

abbrev pub prediction : Shape → Params → List ℕ → ℕ → ℕ → ℤ
prediction f P sound c t = sum_before f sound c (filter_of P c) (pos t)

-- 128 at the first samples of a channel with a half bit, as many as its filter is long; else an entry by the size of the prediction
abbrev pub probability : Shape → Params → List ℕ → ℕ → ℕ → ℕ
probability f P sound c t =
    if get_or P.half_prob c false && nat_lt t (length (filter_of P c)) then 128
    else get_or (probs_of P c) (min (nat_abs (prediction f P sound c t) / 8) (length (probs_of P c) - 1)) 0

-- whether the sample is as guessed: 1 where the prediction is 0 or greater, else 0
abbrev pub as_guessed : Shape → Params → List ℕ → ℕ → ℕ → Bool
as_guessed f P sound c t =
    let one = sample f sound c (pos t) == 1 in
    if is_negative (prediction f P sound c t) then not one else one
