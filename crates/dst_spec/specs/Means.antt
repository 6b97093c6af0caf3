-- The sound that a frame means, and how many of its last bytes aren't read.
use Rattle.std.specs.Prelude.{◌≡◌, ◌⊎◌, ℕ, ◌+◌, ◌-◌, ◌/◌, ◌≤◌, Bool, List, length, take, drop, get_or, replicate}
use Rattle.dst_spec.specs.Bits.{bits}
use Rattle.dst_spec.specs.Sample.{Shape, IsSound, sound_bytes}
use Rattle.dst_spec.specs.Header.{Params, HasHeader}
use Rattle.dst_spec.specs.Symbols.{symbols}
use Rattle.dst_spec.specs.Interval.{interval, IsCodeOf}

-- a plain frame: bit 0 and bits 2 to 7 are 0, the sound stands whole behind them
pub record IsPlain (f : Shape) (frame sound : List ℕ) : Type 0 where
  pub coded : get_or (bits frame) 0 0 ≡ 0
  pub stuffing : take 6 (drop 2 (bits frame)) ≡ replicate 6 0
  pub long : 1 + sound_bytes f ≤ length frame
  pub is_sound : sound ≡ take (sound_bytes f) (drop 1 frame)

-- a coded frame: in front of some place the bits spell parameters; the bit there is 0 or past the end; and the code
-- behind it lies in the interval of the sound's symbols, with either reserved symbol
pub record IsCoded (f : Shape) (frame sound : List ℕ) : Type 0 where
  pub params : Params
  pub place : ℕ
  pub inside : place ≤ length (bits frame)
  pub header : HasHeader f.channels params (take place (bits frame))
  pub first_bit : get_or (bits frame) place 0 ≡ 0
  pub reserved : Bool
  pub code : IsCodeOf (bits frame) place (symbols f params sound reserved)

abbrev pub Means : Shape → List ℕ → List ℕ → Type 0
Means f frame sound = IsSound f sound × (IsPlain f frame sound ⊎ IsCoded f frame sound)

-- The bytes of a frame behind the last one that decoding reads: those behind a plain frame's sound; those behind the byte
-- that has the last of a code's bits, which are the first code bit, twelve, and one for each doubling.
abbrev pub plain_tail : Shape → List ℕ → ℕ
plain_tail f frame = length frame - (1 + sound_bytes f)

abbrev pub coded_tail : (f : Shape) (frame sound : List ℕ) → IsCoded f frame sound → ℕ
coded_tail f frame sound d =
    length frame - (d.place + 13 + (interval (symbols f d.params sound d.reserved)).doublings + 7) / 8

-- the sound that a frame means, with its tail
abbrev pub MeansWithTail : Shape → List ℕ → List ℕ → ℕ → Type 0
MeansWithTail f frame sound tail =
    IsSound f sound × ((IsPlain f frame sound × (tail ≡ plain_tail f frame))
    ⊎ ((d : IsCoded f frame sound) × (tail ≡ coded_tail f frame sound d)))
