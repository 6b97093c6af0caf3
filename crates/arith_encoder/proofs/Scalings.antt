-- The scalings of all probabilities.
use Rattle.std.proofs.Common.{◌≡◌, ℕ, ◌*◌, ◌%◌, ◌^◌, List, map, get_or, refl, ap, ◌∙◌, arith}
use Rattle.std.specs.List.{range_with_len}
use Rattle.std.proofs.lemmas.List.FromFn.{get_or-map-range_with_len}
use Rattle.arith_encoder.specs.Registers.{AreScalings, no_scaling}
use Rattle.arith_encoder.specs.declared.scaling.Scaling.{Scaling}
use Rattle.arith_core.proofs.Shifts.{shift_of, is_shift, prob_at, prob_at-is}

abbrev scaling_at : ℕ → Scaling
scaling_at p = record { scaled = p * 2 ^ shift_of p; shift = shift_of p }

abbrev pub all_scalings : List Scaling
all_scalings = map (λ i. scaling_at (prob_at i)) (range_with_len 0 128)

pub are_scalings : (scalings : List Scaling) → scalings ≡ all_scalings → AreScalings scalings
are_scalings scalings is p least most =
    let found = ap (λ es. get_or es (p % 128) no_scaling) is
    ∙ get_or-map-range_with_len (λ i. scaling_at (prob_at i)) 0 128 (p % 128) (p % 128) no_scaling (omega arith) (omega arith)
    ∙ ap scaling_at (prob_at-is p least most) in
    rw found (record { scaled = refl; shifted = is_shift p least most })
