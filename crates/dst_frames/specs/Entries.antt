-- The entries of the sums that a filter can give.
use Rattle.std.specs.Prelude.{ℕ, min, List, get_or}

-- the entry of a sum: the greatest one shares that of the one before it
abbrev pub entry_for : List ℕ → ℕ → ℕ
entry_for entries upward = get_or entries (min upward 32767) 0
