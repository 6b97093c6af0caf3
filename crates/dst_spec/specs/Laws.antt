-- The laws of frames, as statements.
use Rattle.std.specs.Prelude.{◌≡◌, ◌≢◌, ◌⊎◌, ℕ, ◌+◌, ◌/◌, ◌≤◌, Bool, false, List, ◌∷◌, ◌++◌, length, Ok}
use Rattle.std.specs.List.{AllByRecursion, zip}
use Rattle.dst_spec.specs.Bits.{AreBits, AreBytes, number_from}
use Rattle.dst_spec.specs.Sample.{Shape, IsShape, IsSound, sound_bytes}
use Rattle.dst_spec.specs.Header.{Params, IsParams, HasHeader}
use Rattle.dst_spec.specs.Symbols.{symbols}
use Rattle.dst_spec.specs.Interval.{Interval, interval_from, interval, IsCodeOf}
use Rattle.dst_spec.specs.Means.{Means, MeansWithTail}
use Rattle.dst_spec.specs.Fields.{read}
use Rattle.dst_spec.specs.Offends.{header_fields, Offends}
use Rattle.dst_spec.specs.Spell.{header_spelling, code_spelling, spell, stored}
use Rattle.dst_spec.specs.declared.faults.FrameFault.{FrameFault}

-- no header begins another one's bits, and one list of bits has one Params
abbrev pub HeaderLaw : Type 0
HeaderLaw =
    (channels : ℕ) (P Q : Params) (v w x y : List ℕ) → channels ≤ 6 →
    HasHeader channels P v → HasHeader channels Q w → v ++ x ≡ w ++ y → (v ≡ w) × (P ≡ Q)

-- What spells a header is read as its parameters, whatever follows; and what is read as parameters spells them.
abbrev pub ReadingLaw : Type 0
ReadingLaw =
    (channels : ℕ) → 1 ≤ channels → channels ≤ 6 →
    ((P : Params) (v rest : List ℕ) (place : ℕ) → HasHeader channels P (1 ∷ v) →
    read (header_fields channels) (v ++ rest) place ≡ Ok (P, rest, place + length v))
    × ((P : Params) (xs rest : List ℕ) (place end : ℕ) → AreBits xs → read (header_fields channels) xs place ≡ Ok (P, rest, end) →
    (v : List ℕ) × HasHeader channels P (1 ∷ v) × (xs ≡ v ++ rest) × (end ≡ place + length v))

-- a frame offends in one way and means nothing, or doesn't offend and means one sound
abbrev pub IsRefused : Shape → List ℕ → Type 0
IsRefused f frame =
    (fault : FrameFault) × Offends f frame fault × ((other : FrameFault) → Offends f frame other → other ≡ fault) × ((sound : List ℕ) → Means f frame sound → ⊥)

abbrev pub IsUnderstood : Shape → List ℕ → Type 0
IsUnderstood f frame =
    (sound : List ℕ) × Means f frame sound × ((other : List ℕ) → Means f frame other → other ≡ sound) × ((fault : FrameFault) → Offends f frame fault → ⊥)

abbrev pub DecodingLaw : Type 0
DecodingLaw = (f : Shape) (frame : List ℕ) → IsShape f → AreBytes frame → IsRefused f frame ⊎ IsUnderstood f frame

-- what a frame means it means with one tail
abbrev pub TailLaw : Type 0
TailLaw =
    (f : Shape) (frame : List ℕ) → IsShape f →
    ((a b : List ℕ) (m n : ℕ) → MeansWithTail f frame a m → MeansWithTail f frame b n → (a ≡ b) × (m ≡ n))
    × ((sound : List ℕ) → Means f frame sound → (tail : ℕ) × MeansWithTail f frame sound tail)
    × ((sound : List ℕ) (tail : ℕ) → MeansWithTail f frame sound tail → Means f frame sound)

-- for each list of probabilities one list of symbols has an interval with the code, unless its first twelve bits are all 1
abbrev pub AreProbs : List ℕ → Type 0
AreProbs = AllByRecursion (λ p. (1 ≤ p) × (p ≤ 128))

abbrev pub IsDecoded : List ℕ → ℕ → List ℕ → List Bool → Type 0
IsDecoded xs i ps es = (length es ≡ length ps) × IsCodeOf xs i (zip es ps)

abbrev pub OneListOfSymbols : Type 0
OneListOfSymbols =
    (xs : List ℕ) (i : ℕ) (ps : List ℕ) → AreBits xs → AreProbs ps → number_from xs (i + 1) 12 ≢ 4095 →
    (es : List Bool) × IsDecoded xs i ps es × ((others : List Bool) → IsDecoded xs i ps others → others ≡ es)

-- a spelling means the sound that it was made for
abbrev pub SpellingLaw : Type 0
SpellingLaw = (f : Shape) (P : Params) (sound : List ℕ) → IsShape f → IsParams f.channels P → IsSound f sound → Means f (spell f P sound) sound

-- so does a stored frame, which is never longer than the plain form
abbrev pub StoringLaw : Type 0
StoringLaw =
    (f : Shape) (list : List Params) (sound : List ℕ) → IsShape f → AllByRecursion (IsParams f.channels) list → IsSound f sound →
    Means f (stored f sound list) sound × (length (stored f sound list) ≤ 1 + sound_bytes f)

-- intervals that may lie elsewhere, but have one range and as many doublings
abbrev pub AreAlike : Interval → Interval → Type 0
AreAlike i j = (i.range ≡ j.range) × (i.doublings ≡ j.doublings)

-- How long a code is: the same symbols leave intervals alike, wherever they lie; no symbol takes a doubling back; a code of n
-- doublings has 13 + n bits; and a spelling has the bits of its header and its code, in whole bytes.
pub record CodeLengthLaw : Type 0 where
  pub alike : (i j : Interval) (pairs : List (Bool × ℕ)) → AreAlike i j → AreAlike (interval_from i pairs) (interval_from j pairs)
  pub more : (i : Interval) (pairs : List (Bool × ℕ)) → i.doublings ≤ (interval_from i pairs).doublings
  pub code : (pairs : List (Bool × ℕ)) → length (code_spelling pairs) ≡ 13 + (interval pairs).doublings
  pub spelling : (f : Shape) (P : Params) (sound : List ℕ)
      → length (spell f P sound) ≡ (length (header_spelling P) + (13 + (interval (symbols f P sound false)).doublings) + 7) / 8
