-- Counts over several calls.
use Rattle.std.proofs.Common.{ℕ, ◌≡◌, ◌+◌, ◌-◌, ◌^◌, ◌<◌, ◌≤◌, sym, inl, inr, arith}
use Rattle.std.proofs.Math.Nat.{eq-or-lt_of_le}
use Rattle.dst_streams.specs.Causes.{Rose}
use Rattle.dst_streams.specs.Told.{counted}

-- a count that rose in an earlier call rose in all of them
pub Rose-later : (before mid now : ℕ) → Rose before mid → mid ≤ now → Rose before now
Rose-later before mid now rose later = omega arith

-- a count that rose in a later call rose in all of them
pub Rose-earlier : (before mid now : ℕ) → before ≤ mid → Rose mid now → Rose before now
Rose-earlier before mid now later rose = omega arith

-- a count that didn't rise is what it was
pub same_where_not_risen : (before now : ℕ) → before ≤ now → (Rose before now → ⊥) → now ≡ before
same_where_not_risen before now later not =
    elim (eq-or-lt_of_le later) [ inl same ↦ sym same | inr more ↦ absurd (not (omega arith)) ]

-- two numbers counted one after the other
pub counted-twice : (before a b : ℕ) → counted (counted before a) b ≡ counted before (a + b)
counted-twice before a b = omega arith

-- a count below the end of its type grew by just the number
pub counted-exact : (before more now : ℕ) → now ≡ counted before more → now < 2 ^ 64 - 1 → now ≡ before + more
counted-exact before more now is below = omega arith
