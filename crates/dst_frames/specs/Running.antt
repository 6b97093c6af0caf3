-- A batch whose codes are being decoded.
use Rattle.std.specs.Prelude.{◌≡◌, ℕ, ◌+◌, ◌*◌, ◌<◌, ◌≤◌, Bool, List, length, drop, get_or, vec_capacity}
use Rattle.dst_spec.specs.Sample.{Shape}
use Rattle.dst_spec.specs.Header.{Params}
use Rattle.arith_decoder.specs.Decoding.{Decoding}
use Rattle.arith_lanes.specs.Chances.{IsChance}
use Rattle.arith_lanes.specs.Lanes.{decoding_at}
use Rattle.arith_lanes.specs.declared.lanes.ArithLanes.{ArithLanes}
use Rattle.byte_predictor.specs.Upward.{size_sum}
use Rattle.dst_frames.specs.Tables.{AreBuilt}
use Rattle.dst_frames.specs.Underway.{earlier, IsUnderway, IsDecodedTo, AreDecoded}
use Rattle.dst_frames.specs.Eight.{state_in}
use Rattle.dst_frames.specs.Batch.{IsChanceOf}
use Rattle.dst_frames.specs.declared.tables.ChannelTables.{ChannelTables}
use Rattle.dst_frames.specs.declared.state.ChannelState.{ChannelState}
use Rattle.dst_frames.specs.declared.eight.TableNumbers.{TableNumbers}
use Rattle.dst_frames.specs.declared.eight.EightTables.{EightTables}
use Rattle.dst_frames.specs.declared.eight.EightStates.{EightStates}
use Rattle.dst_frames.specs.declared.stored.StoredFrame.{StoredFrame}

-- each frame has its stored bytes
abbrev pub AreStored : List StoredFrame → Type 0
AreStored frames = (n : ℕ) (other : StoredFrame) → n < length frames → (get_or frames n other).size ≤ length (get_or frames n other).bytes.items

-- no table is of a filter that gives the greatest of all sums
abbrev pub AreNarrow : List ChannelTables → Type 0
AreNarrow tables = (k : ℕ) (other : ChannelTables) → k < length tables → size_sum (get_or tables k other).filter < 32768

-- Each channel has, for each of eight frames, the number of a table in the pool.
pub record AreEight (tables : List ChannelTables) (numbers : List TableNumbers) (channels : ℕ) : Type 0 where
  pub count : length numbers ≡ channels
  pub narrow : AreNarrow tables
  pub inside : (n c : ℕ) (other : TableNumbers) → n < 8 → c < channels → get_or (get_or numbers c other).of n 0 < length tables

-- a pool with room for a table of each channel of eight frames
pub record IsPool (eight : EightTables) (channels : ℕ) : Type 0 where
  pub are : AreEight eight.tables.items eight.numbers.items channels
  pub room : 8 * channels ≤ vec_capacity eight.tables

-- A pool has grown, to so many tables at least: those that stood in it are what they were.
pub record IsGrown (old new : List ChannelTables) (count : ℕ) : Type 0 where
  pub enough : count ≤ length new
  pub longer : length old ≤ length new
  pub same : (k : ℕ) (other : ChannelTables) → k < length old → get_or new k other ≡ get_or old k other
  pub narrow : AreNarrow old → AreNarrow new

-- What a batch has taken of the pool: its first tables, for the first frames and for the first channels of the next frame.
pub record AreTaken (eight : EightTables) (frames channels : ℕ) : Type 0 where
  pub frame : (m c : ℕ) (other : TableNumbers) → m < frames → c < length eight.numbers.items →
      get_or (get_or eight.numbers.items c other).of m 0 < eight.taken
  pub channel : (c : ℕ) (other : TableNumbers) → c < channels → get_or (get_or eight.numbers.items c other).of frames 0 < eight.taken
  pub few : eight.taken ≤ frames * length eight.numbers.items + channels
  pub inside : eight.taken ≤ length eight.tables.items

-- a channel of no frames: each chance has the probability 1
abbrev pub IsFresh : EightStates → Type 0
IsFresh row = (n : ℕ) → n < 8 → IsChance 1 (get_or row.chances n 0)

-- The chances of each channel: those of the next samples of the first frames, and some behind them.
pub record AreChances (rows : List EightStates) (frames : ℕ) : Type 0 where
  pub some : (n c : ℕ) (row : EightStates) → n < 8 → c < length rows → (p : ℕ) × IsChance p (get_or (get_or rows c row).chances n 0)
  pub next : (n c : ℕ) (row : EightStates) → n < frames → c < length rows →
      IsChanceOf (state_in (get_or rows c row) n).next (get_or (get_or rows c row).chances n 0)

-- one sample of each channel more is decoded
abbrev pub RowsDecoded : Shape → Params → Bool → ℕ → ℕ → (n : ℕ) → List ℕ → ArithLanes → ArithLanes → List ChannelState →
    List ChannelState → Type 0
RowsDecoded f P reserved t place n bytes old new before after = (samples : ℕ → List ℕ) →
    IsUnderway f P reserved t place samples (decoding_at old n bytes) before →
    (later : ℕ → List ℕ) × ((c : ℕ) → c < f.channels → drop 1 (later c) ≡ samples c)
    × IsUnderway f P reserved (t + 1) (place + 1) later (decoding_at new n bytes) after

-- The eight newest samples of each channel become the next bytes of a frame's sound.
pub record FinishesSound (byte channels : ℕ) (tables : List ChannelTables) (before after : List ChannelState) (sound heard : List ℕ) : Type 0 where
  pub wide : length after ≡ length before
  pub long : length heard ≡ length sound
  pub decoded : (f : Shape) (P : Params) (reserved : Bool) (later : ℕ → List ℕ) (decoder : Decoding) → f.channels ≡ channels →
      AreBuilt f P tables → IsUnderway f P reserved (8 * byte + 8) 8 later decoder before →
      ((c : ℕ) → c < f.channels → drop 8 (later c) ≡ earlier f sound c (8 * byte)) → IsDecodedTo f P reserved (byte + 1) heard decoder after

-- The bytes of each channel of a frame from one on up to another are decoded in a lane.
abbrev pub LaneDecoded : ℕ → ℕ → ℕ → List ℕ → ArithLanes → ArithLanes → List ChannelTables → List ChannelState → List ChannelState → List ℕ → List ℕ → Type 0
LaneDecoded n from to bytes old new tables before after sound heard =
    AreDecoded tables from to sound heard (decoding_at old n bytes) (decoding_at new n bytes) before after
