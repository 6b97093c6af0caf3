-- The definitions at numbers.
use Rattle.std.proofs.Common.{arith, ◌≡◌, ◌-◌, ◌^◌, lit≤, refl, Some, [], ◌∷◌}
use Rattle.dst_streams.specs.Causes.{Rose}
use Rattle.dst_streams.specs.Told.{and_then, counted, written_over}

pub rose_by_one : Rose 3 4
rose_by_one = lit≤ tt

pub rose_at_the_end_of_its_type : Rose (2 ^ 64 - 1) (2 ^ 64 - 1)
rose_at_the_end_of_its_type = lit≤ tt

pub did_not_rise : Rose 3 3 → ⊥
did_not_rise rose = absurd (omega (arith, rose))

pub counted_by_five : counted 7 5 ≡ 12
counted_by_five = refl

pub counted_to_the_end : counted (2 ^ 64 - 2) 5 ≡ 2 ^ 64 - 1
counted_to_the_end = refl

pub added_at_the_end : and_then (Some (1 ∷ 2 ∷ [])) (3 ∷ []) ≡ Some (1 ∷ 2 ∷ 3 ∷ [])
added_at_the_end = refl

pub written_in_the_middle : written_over (Some (1 ∷ 2 ∷ 3 ∷ [])) 1 (9 ∷ []) ≡ Some (1 ∷ 9 ∷ 3 ∷ [])
written_in_the_middle = refl
