-- A reader of bits: the lent bytes, and the place of the next bit; and how it goes over a part of a frame's fields.
use Rattle.std.specs.Prelude.{◌≡◌, ℕ, List, drop, Ok, Err}
use Rattle.dst_spec.specs.Bits.{bits}
use Rattle.dst_spec.specs.Fields.{Fields, read}
use Rattle.dst_spec.specs.declared.faults.FrameFault.{FrameFault}

pub record Reading : Type 0 where
  pub bytes : List ℕ
  pub place : ℕ

-- the bits that aren't read yet
abbrev pub left : Reading → List ℕ
left r = drop r.place (bits r.bytes)

-- the part's fields are there and meet their rules, and give this; the reader stands behind them
abbrev pub HasRead : {A : Type 0} → Fields A → Reading → A → Reading → Type 0
HasRead part old given new = read part (left old) old.place ≡ Ok (given, left new, new.place)

-- the same, whatever they give
abbrev pub HasPassed : {A : Type 0} → Fields A → Reading → Reading → Type 0
HasPassed {A} part old new = (given : A) × HasRead part old given new

-- a field of the part isn't there whole or breaks its rule, and is the first such one
abbrev pub IsAtFault : {A : Type 0} → Fields A → Reading → FrameFault → Type 0
IsAtFault part old fault = read part (left old) old.place ≡ Err fault
