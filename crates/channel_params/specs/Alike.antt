-- Which channels of a frame are decoded by the same tables.
use Rattle.std.specs.Prelude.{◌≡◌, ℕ, false, get_or}
use Rattle.dst_spec.specs.Header.{Params}

-- Two channels have the same filter, the same probability table and the same half bit, the tables by their numbers.
pub record AreAlike (P : Params) (d c : ℕ) : Type 0 where
  pub filter : get_or P.filter_map d 0 ≡ get_or P.filter_map c 0
  pub probs : get_or P.prob_map d 0 ≡ get_or P.prob_map c 0
  pub half_prob : get_or P.half_prob d false ≡ get_or P.half_prob c false
