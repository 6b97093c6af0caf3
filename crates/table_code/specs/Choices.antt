-- How the shortest spelling is found: spelling by spelling, a method's residuals being taken once.
use Rattle.std.specs.Prelude.{◌≡◌, ℕ, ◌&&◌, nat_lt, if◌then◌else◌, ℤ, pos, negsuc, ◌+ℤ◌, ◌≤ℤ◌, List, [], ◌∷◌, length, map}
use Rattle.std.specs.List.{range_with_len}
use Rattle.dst_spec.specs.Table.{Kind, Spelling, coded, Suits, table_bits, eighth}
use Rattle.dst_spec.specs.Spell.{suits}

-- of two spellings the first, unless the other suits the table and is shorter
abbrev pub shorter : Kind → List ℤ → Spelling → Spelling → Spelling
shorter K values best s = if suits K values s && nat_lt (length (table_bits K values s)) (length (table_bits K values best)) then s else best

-- the first so many spellings of a method
abbrev pub of_method : ℕ → ℕ → List Spelling
of_method method count = map (λ m. coded method m) (range_with_len 0 count)

-- a spelling that suits the table, with its length
pub record IsChoice (K : Kind) (values : List ℤ) (s : Spelling) (n : ℕ) : Type 0 where
  pub suited : Suits K values s
  pub long : n ≡ length (table_bits K values s)

-- the residuals of values behind earlier ones, the nearest first
abbrev pub residuals : List ℤ → List ℤ → List ℤ → List ℤ
residuals weights earlier [] = []
residuals weights earlier (v ∷ vs) = (v +ℤ eighth weights earlier) ∷ residuals weights (v ∷ earlier) vs

abbrev pub IsResidual : ℤ → Type 0
IsResidual r = (negsuc 2047 ≤ℤ r) × (r ≤ℤ pos 2047)
