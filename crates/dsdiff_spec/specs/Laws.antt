-- The laws of files, as statements.
use Rattle.std.specs.Prelude.{◌≡◌, ◌↔◌, ℕ, ◌+◌, ◌-◌, ◌*◌, ◌<◌, ◌≤◌, Bool, true, false, if◌then◌else◌, List, [], ◌∷◌, get_or, length, take, drop}
use Rattle.std.specs.Prelude.{None}
use Rattle.std.specs.List.{AllByRecursion, AllZip, concat}
use Rattle.dst_spec.specs.Bits.{AreBytes}
use Rattle.dst_spec.specs.Sample.{Shape, IsShape, IsSound}
use Rattle.dst_spec.specs.Header.{IsParams}
use Rattle.dst_spec.specs.Means.{Means}
use Rattle.level_spec.specs.Picks.{level_picks}
use Rattle.dsdiff_spec.specs.Chunks.{body_of}
use Rattle.dsdiff_spec.specs.Form.{Form, shape, sound_bytes_of, size_of_sound}
use Rattle.dsdiff_spec.specs.Rules.{accepted}
use Rattle.dsdiff_spec.specs.Walk.{index_heads, compare_fault}
use Rattle.dsdiff_spec.specs.Coded.{Picks, pieces, stored_frames, coded}
use Rattle.dsdiff_spec.specs.Decoded.{Plain, frames_of, plain_cmpr, plain_pad, kept_bytes, decoded_with}
use Rattle.dsdiff_spec.specs.Cut as cutting
use Rattle.dsdiff_spec.specs.Cut.{is_last}
use Rattle.dsdiff_spec.specs.Dsf.{dsf_fault, dsdiff, ToDsf, bare}
use Rattle.dsdiff_spec.specs.Ranges.{Sound}
use Rattle.dsdiff_spec.specs.Words.{Command, encode, decode, cut, frame, check, index}
use Rattle.dsdiff_spec.specs.Refusal.{refusal}
use Rattle.dsdiff_spec.specs.Outcome.{Answer, done, coded_at, stored_at, OfCommand}
use Rattle.dsdiff_spec.specs.Lines.{coded_line, decoded_line, frame_line}

-- a file that a command accepts
abbrev pub IsAccepted : Command → List ℕ → Type 0
IsAccepted c file = AreBytes file × (refusal c file ≡ None)

abbrev pub IsPlainFile : List ℕ → Type 0
IsPlainFile file = IsAccepted (encode 1) file

abbrev pub IsCodedFile : List ℕ → Type 0
IsCodedFile file = IsAccepted decode file

-- an encoder tries at most eleven parameters for a frame's sound, and each is lawful for its channels
abbrev pub ArePicks : Picks → Type 0
ArePicks picks =
    (sound : List ℕ) (f : Shape) → IsShape f → IsSound f sound → (length (picks sound f) ≤ 11) × AllByRecursion (IsParams f.channels) (picks sound f)

-- those of each level are such
abbrev pub LevelPicksLaw : Type 0
LevelPicksLaw = (level : ℕ) → ArePicks (level_picks level)

abbrev pub coded_file : Picks → List ℕ → List ℕ
coded_file picks file = coded picks file (accepted file)

-- What encoding writes is accepted for decoding, checking and listing, and each frame of it for writing its sound, by the
-- walk and by the index. Its frames are the stored ones, none longer than a plain frame, and its one index is its walk.
abbrev pub FrameIsAccepted : List ℕ → ℕ → Type 0
FrameIsAccepted file k = (b : Bool) → IsAccepted (frame k b) file

abbrev pub HasIndexOfWalk : List ℕ → Type 0
HasIndexOfWalk file = (length (index_heads (accepted file)) ≡ 1) × (compare_fault file (accepted file) ≡ None)

abbrev pub AcceptanceLaw : Type 0
AcceptanceLaw =
    (file : List ℕ) (picks : Picks) → IsPlainFile file → ArePicks picks →
    IsCodedFile (coded_file picks file)
    × IsAccepted check (coded_file picks file)
    × IsAccepted index (coded_file picks file)
    × ((k : ℕ) → k < (accepted file).frames → FrameIsAccepted (coded_file picks file) k)
    × (frames_of (coded_file picks file) (accepted (coded_file picks file)) ≡ stored_frames picks file (accepted file))
    × AllByRecursion (λ w. length w ≤ 1 + sound_bytes_of (accepted file)) (stored_frames picks file (accepted file))
    × HasIndexOfWalk (coded_file picks file)

-- it is decoded to one file, the one that was encoded
abbrev pub IsDecodedTo : List ℕ → List ℕ → Type 0
IsDecodedTo file out = Plain file (accepted file) out

abbrev pub RestoringLaw : Type 0
RestoringLaw =
    (file : List ℕ) (picks : Picks) → IsPlainFile file → ArePicks picks →
    IsDecodedTo (coded_file picks file) file
    × ((other : List ℕ) → IsDecodedTo (coded_file picks file) other → other ≡ file)

-- a sound in pieces, joined and cut to its size, is the sound
abbrev pub PiecesLaw : Type 0
PiecesLaw = (n : ℕ) (sound : List ℕ) → 0 < n → take (length sound) (concat (pieces n sound)) ≡ sound

-- What cutting writes is accepted for decoding, checking and listing, and each frame of it for writing its sound, by the
-- walk and by the index. Its frames are those that were asked for, byte for byte, and its one index is its walk. It is
-- decoded to the sounds of these frames: if the last frame is among them up to where the old sound ended, with the pad byte
-- of that sound. The plain file's `CMPR` is the old one, and no bytes are kept.
abbrev pub cut_file : List ℕ → ℕ → ℕ → List ℕ
cut_file file first last = cutting.cut file (accepted file) first last

abbrev pub those_from_to : ℕ → ℕ → List (List ℕ) → List (List ℕ)
those_from_to first last frames = take (last + 1 - first) (drop first frames)

abbrev pub cut_size : Form → ℕ → ℕ → ℕ
cut_size form first last =
    if is_last form last then size_of_sound form - sound_bytes_of form * first else sound_bytes_of form * (last + 1 - first)

abbrev pub cut_pad : Form → ℕ → ℕ
cut_pad form last = if is_last form last then plain_pad form.origin else 0

pub record IsCut (file : List ℕ) (first last : ℕ) (g : List ℕ) : Type 0 where
  pub decoded : IsCodedFile g
  pub checked : IsAccepted check g
  pub listed : IsAccepted index g
  pub each_written : (k : ℕ) → k < last + 1 - first → FrameIsAccepted g k
  pub frames : frames_of g (accepted g) ≡ those_from_to first last (frames_of file (accepted file))
  pub index_of_walk : HasIndexOfWalk g
  pub size : size_of_sound (accepted g) ≡ cut_size (accepted file) first last
  pub pad : plain_pad (accepted g).origin ≡ cut_pad (accepted file) last
  pub cmpr : plain_cmpr (accepted g).origin ≡ plain_cmpr (accepted file).origin
  pub nothing_kept : kept_bytes (accepted g).origin ≡ []
  pub sound : (sounds : List (List ℕ)) →
      AllZip (Means (shape (accepted file))) (those_from_to first last (frames_of file (accepted file))) sounds →
      Plain g (accepted g) (decoded_with (take (cut_size (accepted file) first last) (concat sounds)) g (accepted g))

abbrev pub CuttingLaw : Type 0
CuttingLaw =
    (file : List ℕ) (first last : ℕ) → first ≤ last → IsAccepted (cut first last) file → IsCut file first last (cut_file file first last)

-- The promise of the whole. Of an accepted plain file encoding at a level has one outcome: the file that the definitions name, in which
-- no frame is longer than its plain form of one byte more than its sound. Decoding that file has one outcome, the plain file, byte for
-- byte; and writing one frame of it, found by its chunk or by the index, has one: that piece of the sound.
abbrev pub IsTheOutcome : Command → List ℕ → Answer → Type 0
IsTheOutcome c file o = OfCommand c file (refusal c file) o × ((other : Answer) → OfCommand c file (refusal c file) other → other ≡ o)

abbrev pub piece_of : List ℕ → Form → ℕ → List ℕ
piece_of file form k = get_or (pieces (sound_bytes_of form) (body_of file form.sound)) k []

pub record ComesBack (level : ℕ) (file : List ℕ) (form : Form) (out : List ℕ) : Type 0 where
  pub encoded : IsTheOutcome (encode level) file (done out (coded_line form.frames (stored_at level file form) ∷ []))
  pub never_longer : AllByRecursion (λ w. length w ≤ 1 + sound_bytes_of form) (frames_of out (accepted out))
  pub decoded : IsTheOutcome decode out (done file (decoded_line form.frames (size_of_sound form) ∷ []))
  pub each_frame : (k : ℕ) (by_index : Bool) → k < form.frames →
      IsTheOutcome (frame k by_index) out (done (piece_of file form k) (frame_line k (sound_bytes_of form) ∷ []))

abbrev pub HeadlineLaw : Type 0
HeadlineLaw = (file : List ℕ) (level : ℕ) → IsPlainFile file → ComesBack level file (accepted file) (coded_at level file (accepted file))

-- what encoding writes of a DSF file is decoded to one DSF file, the same with its sound alone
abbrev pub DsfLaw : Type 0
DsfLaw =
    (f : List ℕ) (picks : Picks) → AreBytes f → dsf_fault f ≡ None → ArePicks picks →
    ToDsf (coded_file picks (dsdiff f)) (accepted (coded_file picks (dsdiff f))) (bare f)
    × ((other : List ℕ) → ToDsf (coded_file picks (dsdiff f)) (accepted (coded_file picks (dsdiff f))) other → other ≡ bare f)

-- where the index of a coded file is its walk, a frame is found by either, and the outcome is the same
abbrev pub SameByIndexLaw : Type 0
SameByIndexLaw =
    (k : ℕ) (file : List ℕ) → IsCodedFile file → (1 ≤ length (index_heads (accepted file))) × (compare_fault file (accepted file) ≡ None) →
    (o : Answer) → OfCommand (frame k true) file (refusal (frame k true) file) o ↔ OfCommand (frame k false) file (refusal (frame k false) file) o

-- a coded form of a file has one sound, also where frames of it mean none
abbrev pub OneSoundLaw : Type 0
OneSoundLaw =
    (file : List ℕ) (form : Form) → AreBytes file → IsShape (shape form) →
    (sound : List ℕ) × Sound file form sound × ((other : List ℕ) → Sound file form other → other ≡ sound)
