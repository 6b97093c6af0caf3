-- The numbers that a refusal has, as the list that the definitions have.
use Rattle.std.specs.Prelude.{ℕ, List, [], ◌∷◌}
use Rattle.dsdiff_spec.specs.declared.refusal_texts.Numbers.{Numbers}
use Rattle.dsdiff_spec.specs.declared.refusal_texts.Numbers.TheVariants.{Nothing, One, Two}

abbrev pub numbers_seen : Numbers → List ℕ
numbers_seen Nothing = []
numbers_seen (One n) = n ∷ []
numbers_seen (Two m n) = m ∷ n ∷ []
