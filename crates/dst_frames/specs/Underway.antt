-- A frame whose code is being decoded, and what one sample, one byte and all bytes of each channel add to it.
use Rattle.std.specs.Prelude.{◌≡◌, ℕ, zero, suc, ◌+◌, ◌*◌, ◌<◌, ◌≤◌, ℤ, pos, Bool, List, [], ◌∷◌, ◌++◌, length, replicate, get_or}
use Rattle.dst_spec.specs.Sample.{Shape, sample}
use Rattle.dst_spec.specs.Header.{Params, bit_of}
use Rattle.dst_spec.specs.Guess.{filter_of, probs_of}
use Rattle.dst_spec.specs.Symbols.{symbols_before}
use Rattle.byte_predictor.specs.Samples.{samples_of}
use Rattle.arith_decoder.specs.Decoding.{Decoding, StandsFor}
use Rattle.dst_frames.specs.Tables.{IsBuilt, AreBuilt, symbol_after}
use Rattle.dst_frames.specs.Ready.{IsReady}
use Rattle.dst_frames.specs.declared.tables.ChannelTables.{ChannelTables}
use Rattle.dst_frames.specs.declared.state.ChannelState.{ChannelState}

-- the samples of a channel before sample t, the newest first, with 128 of those before the frame behind them
unfoldable pub earlier : Shape → List ℕ → ℕ → ℕ → List ℕ
earlier f sound c zero = samples_of (replicate 16 170)
earlier f sound c (suc t) = sample f sound c (pos t) ∷ earlier f sound c t

-- These are the samples of each channel before sample t: each channel has come so far, and the decoder stands for the symbols
-- of every sound that has them.
pub record IsUnderway (f : Shape) (P : Params) (reserved : Bool) (t place : ℕ) (samples : ℕ → List ℕ)
    (decoder : Decoding) (states : List ChannelState) : Type 0 where
  pub ready : (c : ℕ) (other : ChannelState) → c < f.channels → IsReady (filter_of P c) (probs_of P c) place (samples c) (get_or states c other)
  pub code : (sound : List ℕ) → ((c : ℕ) → c < f.channels → earlier f sound c t ≡ samples c) → StandsFor decoder (symbols_before f P sound reserved t)

-- The samples before byte m of each channel are those of this sound.
abbrev pub IsDecodedTo : Shape → Params → Bool → ℕ → List ℕ → Decoding → List ChannelState → Type 0
IsDecodedTo f P reserved m sound decoder states = IsUnderway f P reserved (8 * m) 0 (λ c. earlier f sound c (8 * m)) decoder states

-- a decoder of the same code that has used at most so many bits more
pub record IsFurther (old new : Decoding) (most : ℕ) : Type 0 where
  pub bytes : new.bytes ≡ old.bytes
  pub first : new.first ≡ old.first
  pub used : new.used ≤ old.used + most

-- The sample behind others of a channel is decoded: the channel has come one sample further, and the decoder stands for one symbol more.
pub record IsNext (tables : ChannelTables) (place : ℕ) (early : Bool) (old new : Decoding) (before after : ChannelState) (sample : Bool) : Type 0 where
  pub ready : (filter : List ℤ) (probs samples : List ℕ) (half_prob : Bool) → IsBuilt filter probs half_prob tables →
      IsReady filter probs place samples before → IsReady filter probs (place + 1) (bit_of sample ∷ samples) after
  pub symbol : (filter : List ℤ) (probs samples : List ℕ) (pairs : List (Bool × ℕ)) → IsReady filter probs place samples before →
      StandsFor old pairs → StandsFor new (pairs ++ symbol_after filter probs early samples sample ∷ [])

-- The bytes of each channel from one on up to another are decoded: what was decoded up to the first is decoded up to the second.
abbrev pub AreDecoded : List ChannelTables → ℕ → ℕ → List ℕ → List ℕ → Decoding → Decoding → List ChannelState → List ChannelState → Type 0
AreDecoded tables from to out sound old new before after =
    (f : Shape) (P : Params) (reserved : Bool) → f.channels ≡ length tables → AreBuilt f P tables →
    IsDecodedTo f P reserved from out old before → IsDecodedTo f P reserved to sound new after
