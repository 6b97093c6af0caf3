-- What a device tells of its bytes: Some of them, or None where it tells nothing.
use Rattle.std.specs.Prelude.{ℕ, ◌≡◌, ◌+◌, ◌-◌, ◌^◌, ◌<◌, ◌≤◌, ◌↔◌, min, List, [], ◌++◌, length, take, drop, Option, Some, None, Result, IsOk}

-- a loan that a source reads through: the name that it has in proofs, and what the lent source tells
abbrev pub Loan : Type 0
Loan = Option (ℕ × Option (List ℕ))

-- what is told after a piece is added at the end
abbrev pub and_then : Option (List ℕ) → List ℕ → Option (List ℕ)
and_then None piece = None
and_then (Some bytes) piece = Some (bytes ++ piece)

-- what is told after a piece is added and cut short: a prefix of the piece is there
pub record IsCutShort (old : Option (List ℕ)) (piece : List ℕ) (new : Option (List ℕ)) : Type 0 where
  pub taken : ℕ
  pub within : taken ≤ length piece
  pub written : new ≡ and_then old (take taken piece)

-- the first count bytes of out are those from place on
abbrev pub HoldsFrom : Option (List ℕ) → ℕ → ℕ → List ℕ → Type 0
HoldsFrom None place count out = Unit {0}
HoldsFrom (Some bytes) place count out = take count out ≡ take count (drop place bytes)

-- a read at place into room bytes answers count, of a source of this size
pub record IsReadCount (size place room count : ℕ) : Type 0 where
  pub within : count ≤ room
  pub inside : count ≤ size - place
  pub below : place < size → 0 < count
  pub past : size ≤ place → count ≡ 0

-- a count that stops at the end of its type
abbrev pub counted : ℕ → ℕ → ℕ
counted before more = min (before + more) (2 ^ 64 - 1)

-- a piece that fits the sure room is taken, and the room falls by its length
pub record IsSure {T E : Type 0} (old new : Option ℕ) (len : ℕ) (result : Result T E) : Type 0 where
  pub taken : (room : ℕ) → old ≡ Some room → len ≤ room → IsOk result
  pub lowered : (room : ℕ) → old ≡ Some room → len ≤ room → new ≡ Some (room - len)

-- what is told after a range is written over
abbrev pub written_over : Option (List ℕ) → ℕ → List ℕ → Option (List ℕ)
written_over None place piece = None
written_over (Some bytes) place piece = Some (take place bytes ++ piece ++ drop (place + length piece) bytes)

-- all bytes but those of a range are as before
pub record IsSameOutside (place len : ℕ) (old new : List ℕ) : Type 0 where
  pub before : take place new ≡ take place old
  pub after : drop (place + len) new ≡ drop (place + len) old
  pub length_is : length new ≡ length old

-- what is told after a call that may have written anything in a range
abbrev pub IsOpenIn : ℕ → ℕ → Option (List ℕ) → Option (List ℕ) → Type 0
IsOpenIn place len None new = new ≡ None
IsOpenIn place len (Some old) new = (bytes : List ℕ) × (new ≡ Some bytes) × IsSameOutside place len old bytes

-- what was left before a piece was moved from the front of it
abbrev pub after_piece : List ℕ → Option (List ℕ) → Option (List ℕ)
after_piece piece None = None
after_piece piece (Some rest) = Some (piece ++ rest)

-- a count is 0 exactly where nothing is left
abbrev pub IsZeroAtEnd : Option (List ℕ) → ℕ → Type 0
IsZeroAtEnd None count = Unit {0}
IsZeroAtEnd (Some bytes) count = (count ≡ 0) ↔ (bytes ≡ [])
