-- The one outcome of a run: the status, what is written, and the lines of the report.
use Rattle.std.specs.Prelude.{◌≡◌, ◌≢◌, ◌⊎◌, ℕ, ◌≤◌, true, false, List, [], ◌∷◌, ◌++◌, ◌+◌, ◌-◌, length, map, take, sum, Option, Some, None}
use Rattle.std.specs.List.{AllByRecursion, AllZip, enumerate_from}
use Rattle.dst_spec.specs.Bits.{bits}
use Rattle.dst_spec.specs.Sample.{Shape}
use Rattle.dst_spec.specs.Header.{Params, HasHeader}
use Rattle.dst_spec.specs.Means.{Means, MeansWithTail, IsPlain}
use Rattle.dst_spec.specs.Offends.{Offends}
use Rattle.dst_spec.specs.declared.faults.FrameFault.{FrameFault}
use Rattle.dst_spec.specs.declared.faults.Reason.TheVariants.{FirstCodeBit, CodeRange}
use Rattle.level_spec.specs.Picks.{level_picks}
use Rattle.dsdiff_spec.specs.Form.{Form, Kind, plain, coded, shape, size_of_sound}
use Rattle.dsdiff_spec.specs.Rules.{accepted}
use Rattle.dsdiff_spec.specs.Walk.{entry, entries, indexed, frame_at}
use Rattle.dsdiff_spec.specs.Decoded.{Plain, Before, frames_of}
use Rattle.dsdiff_spec.specs.Coded as coding
use Rattle.dsdiff_spec.specs.Cut as cutting
use Rattle.dsdiff_spec.specs.Made.{made}
use Rattle.dsdiff_spec.specs.Dsf.{dsdiff, ToDsf, DsfBefore}
use Rattle.dsdiff_spec.specs.Ranges.{Sound, range_of, wants, range_before, place_of}
use Rattle.dsdiff_spec.specs.Words.{Command, encode, decode, cut, frame, check, show, show_frame, index, make, make_run, encode_dsf, decode_dsf, range}
use Rattle.dsdiff_spec.specs.Lines.{Line, words_line, file_line, frame_fault_line, coded_line, decoded_line, cut_line, frame_line, range_line}
use Rattle.dsdiff_spec.specs.Lines.{made_line, made_run_line}
use Rattle.dsdiff_spec.specs.Lines.{check_line, show_lines, plain_frame_line, coded_frame_line, index_lines}
use Rattle.dsdiff_spec.specs.declared.faults.FileFault.{FileFault}

pub record Answer : Type 0 where
  pub status : ℕ
  pub out : List ℕ
  pub lines : List Line

abbrev pub done : List ℕ → List Line → Answer
done out lines = record { status = 0; out = out; lines = lines }

abbrev pub not_understood : Answer
not_understood = record { status = 1; out = []; lines = words_line ∷ [] }

abbrev pub file_refused : FileFault → Answer
file_refused fault = record { status = 5; out = []; lines = file_line fault ∷ [] }

abbrev pub frame_refused : ℕ → FrameFault → List ℕ → Answer
frame_refused k fault out = record { status = 6; out = out; lines = frame_fault_line k fault ∷ [] }

-- ---- the frames that a command may refuse, in order, each with its number
abbrev pub nth_frame : List ℕ → Form → ℕ → List ℕ
nth_frame file form k = frame_at file (entry (entries file form) k)

abbrev pub indexed_frame : List ℕ → Form → ℕ → List ℕ
indexed_frame file form k = frame_at file (indexed file form k)

abbrev pub frames_if_coded : Kind → List ℕ → Form → List (List ℕ)
frames_if_coded plain file form = []
frames_if_coded coded file form = frames_of file form

abbrev pub run : Command → List ℕ → Form → List (ℕ × List ℕ)
run decode file form = enumerate_from 0 (frames_of file form)
run decode_dsf file form = enumerate_from 0 (frames_of file form)
run (frame k false) file form = (k, nth_frame file form k) ∷ []
run (frame k true) file form = (k, indexed_frame file form k) ∷ []
run check file form = enumerate_from 0 (frames_if_coded form.kind file form)
run (show_frame k) file form = (k, nth_frame file form k) ∷ []
run (range pairs) file form = map (λ w. (w.frame, nth_frame file form w.frame)) (wants form pairs)
run c file form = []

-- a frame is refused where it offends; one that is only shown, where it offends in front of its code
abbrev pub Refuses : Command → Shape → List ℕ → FrameFault → Type 0
Refuses (show_frame k) f w fault = Offends f w fault × (fault.reason ≢ FirstCodeBit) × (fault.reason ≢ CodeRange)
Refuses c f w fault = Offends f w fault

abbrev pub NoneRefused : Command → Form → List (ℕ × List ℕ) → Type 0
NoneRefused c form frames = AllByRecursion (λ f. (fault : FrameFault) → Refuses c (shape form) f.1 fault → ⊥) frames

-- what is written in front of the refused frame, which is frame k
abbrev pub WritesRangeBefore : List ℕ → Form → List (ℕ × ℕ) → ℕ → List ℕ → Type 0
WritesRangeBefore file form pairs k out =
    (sound : List ℕ) × Sound file form sound × (out ≡ range_before form pairs sound (place_of k (wants form pairs)))

abbrev pub WrittenBefore : Command → List ℕ → Form → ℕ → List ℕ → Type 0
WrittenBefore decode file form k out = Before file form k out
WrittenBefore decode_dsf file form k out = DsfBefore file form k out
WrittenBefore (range pairs) file form k out = WritesRangeBefore file form pairs k out
WrittenBefore c file form k out = out ≡ []

-- the first frame of the run that is refused
pub record IsStopped (c : Command) (file : List ℕ) (form : Form) (o : Answer) : Type 0 where
  pub before : List (ℕ × List ℕ)
  pub stop : ℕ × List ℕ
  pub behind : List (ℕ × List ℕ)
  pub is_run : run c file form ≡ before ++ stop ∷ behind
  pub fault : FrameFault
  pub refuses : Refuses c (shape form) stop.1 fault
  pub first : NoneRefused c form before
  pub out : List ℕ
  pub written : WrittenBefore c file form stop.0 out
  pub answer : o ≡ frame_refused stop.0 fault out

-- ---- what a command does where no frame of its run is refused
-- a frame that is shown is plain, or has the header of a coded one up to its code
abbrev pub Shows : Shape → ℕ → List ℕ → Line → Type 0
Shows f k w line =
    ((sound : List ℕ) × IsPlain f w sound × (line ≡ plain_frame_line k (length w)))
    ⊎ ((P : Params) × (place : ℕ) × (place ≤ length (bits w)) × HasHeader f.channels P (take place (bits w))
    × (line ≡ coded_frame_line k (length w) (length P.filters) (length P.probs) place))

-- one frame's sound
abbrev pub WritesSound : Form → ℕ → List ℕ → Answer → Type 0
WritesSound form k w o = (sound : List ℕ) × Means (shape form) w sound × (o ≡ done sound (frame_line k (length sound) ∷ []))

-- a plain file, coded at a level: what is written, and the bytes of its stored frames
abbrev pub coded_at : ℕ → List ℕ → Form → List ℕ
coded_at level file form = coding.coded (level_picks level) file form

abbrev pub stored_at : ℕ → List ℕ → Form → ℕ
stored_at level file form = coding.stored_bytes (level_picks level) file form

-- a DSF file is coded as the plain file that stands for it
abbrev pub coded_dsf : ℕ → List ℕ → Answer
coded_dsf level file =
    let form = accepted (dsdiff file) in
    done (coded_at level (dsdiff file) form) (coded_line form.frames (stored_at level (dsdiff file) form) ∷ [])

-- a made file that is coded at level 2 and decoded: its sound, what is stored of it, and the sound that comes back
abbrev pub run_line : ℕ → List ℕ → Line
run_line frames file =
    made_run_line frames (size_of_sound (accepted file)) (stored_at 2 file (accepted file))
    (size_of_sound (accepted (coded_at 2 file (accepted file))))

-- parts of the sound, one after the other
abbrev pub WritesRange : List ℕ → Form → List (ℕ × ℕ) → Answer → Type 0
WritesRange file form pairs o =
    (sound : List ℕ) × Sound file form sound
    × (o ≡ done (range_of form pairs sound) (range_line (length (range_of form pairs sound)) ∷ []))

abbrev pub Does : Command → List ℕ → Form → Answer → Type 0
Does (encode level) file form o = o ≡ done (coded_at level file form) (coded_line form.frames (stored_at level file form) ∷ [])
Does decode file form o =
    (out : List ℕ) × Plain file form out × (o ≡ done out (decoded_line form.frames (size_of_sound form) ∷ []))
Does (cut first last) file form o = o ≡ done (cutting.cut file form first last) (cut_line (last + 1 - first) ∷ [])
Does (frame k false) file form o = WritesSound form k (nth_frame file form k) o
Does (frame k true) file form o = WritesSound form k (indexed_frame file form k) o
Does check file form o =
    (sounds : List (List ℕ × ℕ)) × AllZip (λ f s. MeansWithTail (shape form) f s.0 s.1) (frames_if_coded form.kind file form) sounds
    × (o ≡ done [] (check_line form.frames (sum (map (λ s. s.1) sounds)) ∷ []))
Does show file form o = o ≡ done [] (show_lines form (entries file form))
Does (show_frame k) file form o = (line : Line) × Shows (shape form) k (nth_frame file form k) line × (o ≡ done [] (line ∷ []))
Does index file form o = o ≡ done [] (index_lines (entries file form))
Does (make start frames channels multiple) file form o = o ≡ done (made start frames channels multiple) (made_line frames ∷ [])
Does (make_run start frames channels multiple) file form o = o ≡ done [] (run_line frames (made start frames channels multiple) ∷ [])
Does (encode_dsf level) file form o = o ≡ coded_dsf level file
Does decode_dsf file form o =
    (out : List ℕ) × ToDsf file form out × (o ≡ done out (decoded_line form.frames (size_of_sound form) ∷ []))
Does (range pairs) file form o = WritesRange file form pairs o

abbrev pub IsDone : Command → List ℕ → Form → Answer → Type 0
IsDone c file form o = NoneRefused c form (run c file form) × Does c file form o

-- ---- the outcome of words and a file
abbrev pub OfCommand : Command → List ℕ → Option FileFault → Answer → Type 0
OfCommand c file (Some fault) o = o ≡ file_refused fault
OfCommand c file None o = IsStopped c file (accepted file) o ⊎ IsDone c file (accepted file) o
