-- Outcomes of runs: status, output and lines.
use Rattle.std.proofs.Common.{ℕ, List, [], ◌∷◌, map, replicate, take, refl, inl, inr, arith}
use Rattle.std.specs.Prelude.{codes, ⊤}
use Rattle.std.specs.Fmt.{digits}
use Prim.Native.String.{String}
use Rattle.dst_spec.specs.Sample.{Shape, IsShape, IsSound}
use Rattle.dst_spec.specs.declared.faults.FrameFault.{FrameFault}
use Rattle.dst_spec.specs.Bits.{AreBytes}
use Rattle.dst_spec.specs.Means.{Means}
use Rattle.dst_spec.specs.Offends.{Offends}
use Rattle.dst_spec.specs.declared.faults.Reason.TheVariants.{Truncated, PlainStuffing, FirstCodeBit}
use Rattle.dst_spec.proofs.Certain.{mono}
use Rattle.dst_spec.proofs.Frames.{plain_frame_means_its_bytes, frame_with_code_of_zeros}
use Rattle.dst_spec.proofs.Refusals.{fields_open, at}
use Rattle.dst_spec.proofs.Understood.{decoding_law}
use Rattle.dst_spec.proofs.Lists.{AreBytes-same}
use Rattle.dst_spec.proofs.Spelling.{plain_form_means}
use Rattle.words_spec.specs.Rows.{task_of}
use Rattle.dsdiff_spec.specs.Refusal.{refusal}
use Rattle.dsdiff_spec.specs.Outcome.{Answer}
use Rattle.words_spec.specs.Outcome.{Outcome}
use Rattle.dsdiff_spec.proofs.Files.{example, empty, empty_coded, two, two_coded}
use Rattle.dsdiff_spec.proofs.Forms.{but}
use Rattle.dsdiff_spec.specs.Form.{shape_of}
use Rattle.dsdiff_spec.proofs.Built.{piece, file_of, version, prop_of, rate, channels, not_compressed, prop, dsd, dst}
use Rattle.words_spec.proofs.Commands.{words}
use Rattle.dsdiff_spec.proofs.Restoring.{written_open, example_plain, example_is_decoded, empty_comes_back, two_come_back, alternate, filled_up}

-- what outcomes compute with, named once
unfoldable pub outcome_open : ⊤
unfolding written_open task_of refusal digits
outcome_open = tt

abbrev pub says : ℕ → List ℕ → List String → Answer
says status out lines = record { status = status; out = out; lines = map codes lines }

-- ---- refused words and files
pub words_are_not_understood : Outcome (words ("decode" ∷ "a" ∷ [])) example (says 1 [] ("words not understood" ∷ []))
unfolding outcome_open
words_are_not_understood = refl

pub plain_file_is_not_decoded : Outcome (words ("decode" ∷ "a" ∷ "b" ∷ [])) empty (says 5 [] ("file refused: 27 NotCoded" ∷ []))
unfolding outcome_open
plain_file_is_not_decoded = refl

-- ---- files that are decoded
-- a frame that means a sound isn't refused
pub meaning_is_not_refused : (f : Shape) (frame sound : List ℕ) → IsShape f → AreBytes frame → Means f frame sound → (fault : FrameFault) →
    Offends f frame fault → ⊥
meaning_is_not_refused f frame sound g bytes means fault offends =
    elim (decoding_law f frame g bytes) [
      | inl (other, o, one, none) ↦ none sound means
      | inr (other, m, one, none) ↦ none fault offends
    ]

pub plain_is_not_refused : (f : Shape) (sound : List ℕ) → IsShape f → IsSound f sound → (fault : FrameFault) → Offends f (0 ∷ sound) fault → ⊥
plain_is_not_refused f sound g s = meaning_is_not_refused f (0 ∷ sound) sound g (omega arith, s.bytes) (plain_form_means f sound s)

pub mono_shape : IsShape (mono 4704)
mono_shape = record { least = omega arith; most = omega arith; rate = inl refl }

pub file_without_frames_is_decoded : Outcome (words ("decode" ∷ "a" ∷ "b" ∷ [])) empty_coded (says 0 empty ("decoded 0 frames into 0 bytes" ∷ []))
unfolding outcome_open
file_without_frames_is_decoded = inr (tt, (empty, empty_comes_back, refl))

pub two_frames_are_decoded : Outcome (words ("decode" ∷ "a" ∷ "b" ∷ [])) two_coded (says 0 two ("decoded 2 frames into 4705 bytes" ∷ []))
unfolding outcome_open
two_frames_are_decoded = inr ((plain_is_not_refused _ _ mono_shape alternate, (plain_is_not_refused _ _ mono_shape filled_up, tt)), (two, two_come_back, refl))

abbrev frame_of_ones : List ℕ
frame_of_ones = 252 ∷ 0 ∷ 0 ∷ 5 ∷ 255 ∷ 248 ∷ []

pub frame_of_ones_is_bytes : AreBytes frame_of_ones
frame_of_ones_is_bytes = (omega arith, (omega arith, (omega arith, (omega arith, (omega arith, (omega arith, tt))))))

pub one_frame_is_decoded : Outcome (words ("decode" ∷ "a" ∷ "b" ∷ [])) example (says 0 example_plain ("decoded 1 frames into 4704 bytes" ∷ []))
unfolding outcome_open
one_frame_is_decoded =
    inr ((meaning_is_not_refused _ _ _ mono_shape frame_of_ones_is_bytes (frame_with_code_of_zeros 4704), tt), (example_plain, example_is_decoded, refl))

-- ---- frames that are refused: what stands in front of their sound is written
-- the same file, the first bit of its frame's code being 1
pub first_code_bit_is_refused : Outcome (words ("decode" ∷ "a" ∷ "b" ∷ [])) (but 157 252 example)
    (says 6 (take 126 example_plain) ("frame 0 refused: 9 FirstCodeBit at bit 45" ∷ []))
unfolding outcome_open fields_open
first_code_bit_is_refused = inl (record {
  before = [];
  stop = (0, 252 ∷ 0 ∷ 0 ∷ 5 ∷ 255 ∷ 252 ∷ []);
  behind = [];
  is_run = refl;
  fault = at FirstCodeBit 45;
  refuses = refl;
  first = tt;
  out = take 126 example_plain;
  written = record { sounds = []; each = tt; written = refl };
  answer = refl;
})

-- the same file, its one frame being empty
pub empty_frame_is_refused : Outcome (words ("decode" ∷ "a" ∷ "b" ∷ [])) (but 151 0 (but 121 30 (but 11 140 example)))
    (says 6 (take 126 example_plain) ("frame 0 refused: 1 Truncated at bit 0" ∷ []))
unfolding outcome_open fields_open
empty_frame_is_refused = inl (record {
  before = [];
  stop = (0, []);
  behind = [];
  is_run = refl;
  fault = at Truncated 0;
  refuses = refl;
  first = tt;
  out = take 126 example_plain;
  written = record { sounds = []; each = tt; written = refl };
  answer = refl;
})

-- of two plain frames the first begins with a byte 01
pub stuffing_of_the_first_frame : Outcome (words ("decode" ∷ "a" ∷ "b" ∷ [])) (but 152 1 two_coded)
    (says 6 (take 126 two) ("frame 0 refused: 2 PlainStuffing at bit 2" ∷ []))
unfolding outcome_open fields_open
stuffing_of_the_first_frame = inl (record {
  before = [];
  stop = (0, 1 ∷ replicate 4704 170);
  behind = (1, 0 ∷ 85 ∷ replicate 4703 105) ∷ [];
  is_run = refl;
  fault = at PlainStuffing 2;
  refuses = refl;
  first = tt;
  out = take 126 two;
  written = record { sounds = []; each = tt; written = refl };
  answer = refl;
})

-- and the second one, in front of which the first frame's sound is written
pub stuffing_of_the_second_frame : Outcome (words ("decode" ∷ "a" ∷ "b" ∷ [])) (but 4870 1 two_coded)
    (says 6 (take 4830 two) ("frame 1 refused: 2 PlainStuffing at bit 2" ∷ []))
unfolding outcome_open fields_open
stuffing_of_the_second_frame = inl (record {
  before = (0, 0 ∷ replicate 4704 170) ∷ [];
  stop = (1, 1 ∷ 85 ∷ replicate 4703 105);
  behind = [];
  is_run = refl;
  fault = at PlainStuffing 2;
  refuses = refl;
  first = (plain_is_not_refused _ _ mono_shape alternate, tt);
  out = take 4830 two;
  written = record { sounds = replicate 4704 170 ∷ []; each = (plain_frame_means_its_bytes _ alternate, tt); written = refl };
  answer = refl;
})

-- ---- two channels at twice the lowest rate: a frame has 18,816 bytes of sound
abbrev stereo : Shape
stereo = shape_of 2 2

abbrev stereo_coded : List ℕ
stereo_coded = file_of (version ∷ prop 2 5644800 "DST " ∷ dst 1 (piece "DSTF" (0 ∷ replicate 18816 105) ∷ []) ∷ [])

abbrev stereo_plain : List ℕ
stereo_plain = file_of (version ∷ prop_of (rate 5644800 ∷ channels 2 ∷ not_compressed ∷ (0 ∷ []) ∷ []) ∷ dsd 18816 ∷ [])

stereo_sound : IsSound stereo (replicate 18816 105)
stereo_sound = record { long = refl; bytes = AreBytes-same 18816 105 (omega arith) }

pub stereo_frame_is_decoded : Outcome (words ("decode" ∷ "a" ∷ "b" ∷ [])) stereo_coded (says 0 stereo_plain ("decoded 1 frames into 18816 bytes" ∷ []))
unfolding outcome_open
stereo_frame_is_decoded = inr (
  (plain_is_not_refused stereo _ (record { least = omega arith; most = omega arith; rate = inr (inl refl) }) stereo_sound, tt),
  (stereo_plain, record { sounds = replicate 18816 105 ∷ []; each = (plain_form_means stereo _ stereo_sound, tt); written = refl }, refl),
)
