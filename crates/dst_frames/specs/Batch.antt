-- Frames that are decoded side by side.
use Rattle.std.specs.Prelude.{◌≡◌, ℕ, ◌+◌, ◌*◌, ◌/◌, ◌%◌, ◌<◌, ◌≤◌, nat_eq, ℤ, Bool, List, [], ◌∷◌, length, map, take, replicate}
use Rattle.std.specs.Prelude.{get_or, Result, IfOk, IfErr}
use Rattle.dst_spec.specs.Bits.{bits}
use Rattle.dst_spec.specs.Sample.{Shape}
use Rattle.dst_spec.specs.Header.{Params, HasHeader, bit_of}
use Rattle.dst_spec.specs.Guess.{filter_of, probs_of}
use Rattle.dst_spec.specs.Symbols.{reserved_probability}
use Rattle.dst_spec.specs.Means.{Means, MeansWithTail}
use Rattle.dst_spec.specs.Offends.{Offends}
use Rattle.dst_spec.specs.declared.faults.FrameFault.{FrameFault}
use Rattle.byte_predictor.specs.Samples.{samples_of}
use Rattle.arith_decoder.specs.Decoding.{Decoding}
use Rattle.arith_lanes.specs.Chances.{IsChance}
use Rattle.arith_lanes.specs.Lanes.{IsLane, Begins, decoding_at, first_at, used_at, ahead_at}
use Rattle.arith_lanes.specs.declared.lanes.ArithLanes.{ArithLanes}
use Rattle.dst_frames.specs.Tables.{IsBuilt, AreBuilt}
use Rattle.dst_frames.specs.Ready.{IsReady}
use Rattle.dst_frames.specs.Underway.{IsNext}
use Rattle.dst_frames.specs.declared.tables.ChannelTables.{ChannelTables}
use Rattle.dst_frames.specs.declared.state.ChannelState.{ChannelState}
use Rattle.dst_frames.specs.declared.stored.StoredFrame.{StoredFrame}

-- the stored bytes of a frame
abbrev pub stored_in : StoredFrame → List ℕ
stored_in frame = take frame.size frame.bytes.items

-- the bytes that a lane's code lies in: those of its frame, and none of a lane with no frame
unfoldable pub code_at : List StoredFrame → ℕ → List ℕ
code_at frames n = get_or (map stored_in frames) n []

-- a chance has the probability and the guess of an entry
pub record IsChanceOf (entry chance : ℕ) : Type 0 where
  pub prob : IsChance (entry % 128 + 1) chance
  pub mark : chance / 128 % 2 ≡ entry / 128

-- a channel takes a sample
abbrev pub TakesSample : ChannelTables → ℕ → ChannelState → ChannelState → Bool → Type 0
TakesSample tables place before after sample = (filter : List ℤ) (probs samples : List ℕ) (half_prob : Bool) →
    IsBuilt filter probs half_prob tables → IsReady filter probs place samples before → IsReady filter probs (place + 1) (bit_of sample ∷ samples) after

-- one channel of a frame takes the sample that is 1 where the low bit of what is given is 1, and this is the chance of the next one
pub record LaneTakes (place given : ℕ) (table : ChannelTables) (before after : ChannelState) (chance : ℕ) : Type 0 where
  pub takes : TakesSample table place before after (nat_eq (given % 2) 1)
  pub next_chance : IsChanceOf after.next chance

-- the next sample of one channel of a frame is decoded
pub record LaneSteps (place : ℕ) (early : Bool) (table : ChannelTables) (before after : ChannelState) (old new : Decoding) (chance : ℕ) : Type 0 where
  pub sample : Bool
  pub next : IsNext table place early old new before after sample
  pub next_chance : IsChanceOf after.next chance

-- a lane of the same code that has used at most so many bits more
pub record IsLaneFurther (old new : ArithLanes) (n : ℕ) (bytes : List ℕ) (most : ℕ) : Type 0 where
  pub lane : IsLane new n bytes
  pub first : first_at new n ≡ first_at old n
  pub used : used_at new n ≤ used_at old n + most

-- a lane that is what it was, with sixteen bits ahead at least
pub record HasEnough (old new : ArithLanes) (n : ℕ) (bytes : List ℕ) : Type 0 where
  pub lane : IsLane new n bytes
  pub same : decoding_at new n bytes ≡ decoding_at old n bytes
  pub ahead : 16 ≤ ahead_at new n

-- the lanes decode codes in these bytes, and have used at most so many bits
pub record AreLanes (lanes : ArithLanes) (codes : ℕ → List ℕ) (most : ℕ) : Type 0 where
  pub lane : (n : ℕ) → n < 8 → IsLane lanes n (codes n)
  pub used : (n : ℕ) → n < 8 → used_at lanes n ≤ most

-- a frame is decoded: it means this sound with so many unread bytes behind it, or else it is refused for this
pub record IsDecoded (f : Shape) (frame sound : List ℕ) (answer : Result ℕ FrameFault) : Type 0 where
  pub sound_is : IfOk answer (MeansWithTail f frame sound)
  pub whole : IfOk answer (λ _. (fault : FrameFault) → Offends f frame fault → ⊥)
  pub fault : IfErr answer (Offends f frame)
  pub no_sound : IfErr answer (λ _. (other : List ℕ) → Means f frame other → ⊥)

-- what is known of a lane whose code begins: the parameters of its frame, and the chance of the reserved symbol
pub record HasBegun (f : Shape) (lanes : ArithLanes) (n : ℕ) (bytes : List ℕ) (tables : List ChannelTables) (states : List ChannelState)
    (chance : ℕ) : Type 0 where
  pub params : Params
  pub place : ℕ
  pub begins : Begins lanes n bytes place
  pub inside : place ≤ 8 * length bytes
  pub header : HasHeader f.channels params (take place (bits bytes))
  pub first_bit : get_or (bits bytes) place 0 ≡ 0
  pub reserved : IsChance (reserved_probability params) chance
  pub built : AreBuilt f params tables
  pub fresh : (c : ℕ) (other : ChannelState) → c < f.channels →
      IsReady (filter_of params c) (probs_of params c) 0 (samples_of (replicate 16 170)) (get_or states c other)
