-- A map of one to six channels, and the parameters of a frame as a record.
use Rattle.std.specs.Prelude.{ℕ, ◌≤◌, ℤ, Bool, List, length}
use Rattle.dst_spec.specs.Map.{IsMap}
use Rattle.dst_spec.specs.Header.{Params}

abbrev pub IsChannelMap : List ℕ → Type 0
IsChannelMap map = (1 ≤ length map) × (length map ≤ 6) × IsMap (length map) map

abbrev pub params_of : List ℕ → List ℕ → List Bool → List (List ℤ) → List (List ℕ) → Params
params_of filter_map prob_map half_prob filters probs =
    record { filter_map = filter_map; prob_map = prob_map; half_prob = half_prob; filters = filters; probs = probs }
