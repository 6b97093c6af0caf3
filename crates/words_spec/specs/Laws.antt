-- The laws of words, as statements.
use Rattle.std.specs.Prelude.{◌≡◌, ℕ, List, ◌∷◌, ◌++◌, Some}
use Rattle.dst_spec.specs.Bits.{AreBytes}
use Rattle.dsdiff_spec.specs.Words.{Word, Task}
use Rattle.dsdiff_spec.specs.Outcome.{Answer}
use Rattle.words_spec.specs.Rows.{Row, rows, row_task}
use Rattle.words_spec.specs.Outcome.{Outcome}

-- no words have two rows
abbrev pub OneRowLaw : Type 0
OneRowLaw =
    (words : List Word) (before between behind : List Row) (r s : Row) (t u : Task) →
    rows ≡ before ++ r ∷ between ++ s ∷ behind → row_task words r ≡ Some t → row_task words s ≡ Some u → ⊥

-- words and a file have one outcome
abbrev pub OneOutcomeLaw : Type 0
OneOutcomeLaw =
    (words : List Word) (file : List ℕ) → AreBytes file →
    (o : Answer) × Outcome words file o × ((other : Answer) → Outcome words file other → other ≡ o)
