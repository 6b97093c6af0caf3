-- What the arrays of eight decoders hold.
use Rattle.std.specs.Prelude.{◌≡◌, ℕ, ◌+◌, ◌-◌, ◌*◌, ◌/◌, ◌%◌, ◌^◌, ◌<◌, ◌≤◌, Bool, if◌then◌else◌, List, [], ◌∷◌, ◌++◌, get_or}
use Rattle.std.specs.Int.{trailing_zeros, w64}
use Rattle.arith_core.specs.Range.{IsRange}
use Rattle.arith_decoder.specs.Decoding.{Decoding, StandsFor}
use Rattle.arith_decoder.specs.Registers.{IsStep, AreRegisters}
use Rattle.arith_lanes.specs.Chances.{IsChance}
use Rattle.arith_lanes.specs.declared.lane.Registers.{Registers}
use Rattle.arith_lanes.specs.declared.lanes.ArithLanes.{ArithLanes}

-- the value of a lane, in the places that the register of a single decoder has: the offset number above 52 bits, of which the lowest four are 0
abbrev pub value_of : Registers → ℕ
value_of r = r.offset * 2 ^ 52 + r.high * 2 ^ 36 + r.middle * 2 ^ 20 + r.low * 2 ^ 4

-- what a step gives for a symbol: that itself where bit 7 of the chance is 1, else the other
abbrev pub given_of : ℕ → Bool → ℕ
given_of chance symbol = if symbol then (chance / 128 % 2) else (1 - chance / 128 % 2)

-- A symbol of the chance's probability makes these registers of those, as in a single decoder, and this is given for it.
abbrev pub StepsBy : Registers → ℕ → Registers → ℕ → Type 0
StepsBy before chance after given = (p : ℕ) → IsChance p chance → IsRange before.range → value_of before < before.range * 2 ^ 52 →
    (symbol : Bool) × (given ≡ given_of chance symbol) × IsStep p (value_of before) before.range symbol (value_of after) after.range

-- the registers of a lane
abbrev pub registers_at : ArithLanes → ℕ → Registers
registers_at s n = record {
  range = get_or s.range n 0;
  offset = get_or s.offset n 0;
  high = get_or s.high n 0;
  middle = get_or s.middle n 0;
  low = get_or s.low n 0;
}

-- the range of a lane, how far its code's number lies above the low end, and how many bits of the code are used
unfoldable pub range_at : ArithLanes → ℕ → ℕ
range_at s n = (registers_at s n).range

unfoldable pub offset_at : ArithLanes → ℕ → ℕ
offset_at s n = value_of (registers_at s n) / 2 ^ 52

unfoldable pub used_at : ArithLanes → ℕ → ℕ
used_at s n = get_or s.place n 0 + trailing_zeros w64 (value_of (registers_at s n)) - 51 - get_or s.first n 0

unfoldable pub first_at : ArithLanes → ℕ → ℕ
first_at s n = get_or s.first n 0

-- how many bits behind the used ones a lane holds
unfoldable pub ahead_at : ArithLanes → ℕ → ℕ
ahead_at s n = 51 - trailing_zeros w64 (value_of (registers_at s n))

-- the single decoder that a lane is, where it decodes a code in these bytes
abbrev pub decoding_at : ArithLanes → ℕ → List ℕ → Decoding
decoding_at s n bytes = record { bytes = bytes; first = first_at s n; range = range_at s n; offset = offset_at s n; used = used_at s n }

-- a lane decodes a code in these bytes
pub record IsLane (s : ArithLanes) (n : ℕ) (bytes : List ℕ) : Type 0 where
  pub registers : AreRegisters bytes (first_at s n) (used_at s n) (get_or s.place n 0) (value_of (registers_at s n)) (range_at s n)

-- a lane is what it was, with as many bits ahead
pub record IsUnchanged (old new : ArithLanes) (n : ℕ) : Type 0 where
  pub lane : (bytes : List ℕ) → IsLane old n bytes → IsLane new n bytes
  pub same : (bytes : List ℕ) → decoding_at new n bytes ≡ decoding_at old n bytes
  pub ahead : ahead_at new n ≡ ahead_at old n

-- a lane decodes the code that begins at a place of these bytes, and no symbol of it yet
pub record Begins (s : ArithLanes) (n : ℕ) (bytes : List ℕ) (first : ℕ) : Type 0 where
  pub lane : IsLane s n bytes
  pub first_is : first_at s n ≡ first
  pub used_is : used_at s n ≡ 13
  pub ahead : ahead_at s n ≡ 32
  pub stands : StandsFor (decoding_at s n bytes) []

-- a lane is what it was, with 47 bits ahead
pub record Refills (old new : ArithLanes) (n : ℕ) (bytes : List ℕ) : Type 0 where
  pub lane : IsLane new n bytes
  pub same : decoding_at new n bytes ≡ decoding_at old n bytes
  pub ahead : ahead_at new n ≡ 47

-- A lane takes a symbol of a probability: it stands for one symbol more.
pub record TakesSymbol (old new : ArithLanes) (n : ℕ) (bytes : List ℕ) (p : ℕ) (symbol : Bool) : Type 0 where
  pub lane : IsLane new n bytes
  pub stands : (pairs : List (Bool × ℕ)) → StandsFor (decoding_at old n bytes) pairs → StandsFor (decoding_at new n bytes) (pairs ++ (symbol, p) ∷ [])
  pub first : first_at new n ≡ first_at old n
  pub used : used_at new n ≤ used_at old n + 8
  pub ahead : ahead_at old n ≤ ahead_at new n + 8
