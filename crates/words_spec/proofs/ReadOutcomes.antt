-- Outcomes of the commands that read: a frame's sound, a check, a summary, a frame's header, the places of frames.
use Rattle.std.proofs.Common.{ℕ, List, [], ◌∷◌, replicate, refl, sym, inl, inr, arith, take_all}
use Rattle.dst_spec.specs.Means.{IsPlain, MeansWithTail}
use Rattle.dst_spec.specs.Bits.{bits, low_bits}
use Rattle.dst_spec.specs.Sample.{Shape, IsSound, sound_bytes}
use Rattle.dst_spec.specs.declared.faults.Reason.TheVariants.{FirstCodeBit}
use Rattle.dst_spec.proofs.Frames.{frame_with_code_of_zeros}
use Rattle.dst_spec.proofs.Refusals.{fields_open, at}
use Rattle.dst_spec.proofs.Spelling.{plain_form_means}
use Rattle.words_spec.specs.Outcome.{Outcome}
use Rattle.dsdiff_spec.proofs.Files.{example, two, two_coded}
use Rattle.dsdiff_spec.proofs.OddFiles.{with_checksum, without_pad}
use Rattle.dsdiff_spec.proofs.Forms.{but}
use Rattle.words_spec.proofs.Commands.{words}
use Rattle.dsdiff_spec.proofs.Restoring.{alternate, filled_up}
use Rattle.words_spec.proofs.Outcomes.{outcome_open, says, meaning_is_not_refused, plain_is_not_refused, mono_shape, frame_of_ones_is_bytes}

-- ---- one frame's sound
pub frame_is_not_there : Outcome (words ("frame" ∷ "a" ∷ "b" ∷ "2" ∷ [])) two_coded (says 5 [] ("file refused: 22 Range 2 2" ∷ []))
unfolding outcome_open
frame_is_not_there = refl

pub index_is_not_there : Outcome (words ("frame" ∷ "a" ∷ "b" ∷ "0" ∷ "--by-index" ∷ [])) example (says 5 [] ("file refused: 23 IndexMissing" ∷ []))
unfolding outcome_open
index_is_not_there = refl

pub sound_of_one_frame : Outcome (words ("frame" ∷ "a" ∷ "b" ∷ "0" ∷ [])) example (says 0 (replicate 4704 255) ("frame 0, 4704 bytes" ∷ []))
unfolding outcome_open
sound_of_one_frame = inr (
  (meaning_is_not_refused _ _ _ mono_shape frame_of_ones_is_bytes (frame_with_code_of_zeros 4704), tt),
  (replicate 4704 255, frame_with_code_of_zeros 4704, refl),
)

-- ---- the places of frames
pub places_are_listed : Outcome (words ("index" ∷ "a" ∷ [])) two_coded (says 0 [] ("0 152 4705" ∷ "1 4870 4705" ∷ []))
unfolding outcome_open
places_are_listed = inr (tt, refl)

pub checksum_is_no_frame : Outcome (words ("index" ∷ "a" ∷ [])) with_checksum (says 0 [] ("0 152 6" ∷ []))
unfolding outcome_open
checksum_is_no_frame = inr (tt, refl)

pub last_pad_byte_may_be_missing : Outcome (words ("index" ∷ "a" ∷ [])) without_pad (says 0 [] ("0 152 7" ∷ []))
unfolding outcome_open
last_pad_byte_may_be_missing = inr (tt, refl)

-- ---- summaries
pub plain_file_is_shown : Outcome (words ("show" ∷ "a" ∷ [])) two (says 0 [] ("kind plain" ∷ "channels 1" ∷ "sound 4705 bytes" ∷ "frames 2" ∷ "chunks 3" ∷ []))
unfolding outcome_open
plain_file_is_shown = inr (tt, refl)

pub coded_file_is_shown : Outcome (words ("show" ∷ "a" ∷ [])) two_coded
    (says 0 [] ("kind coded" ∷ "channels 1" ∷ "sound 4705 bytes" ∷ "frames 2" ∷ "chunks 5" ∷ "stored 9410 bytes" ∷ "index yes" ∷ "kept yes" ∷ []))
unfolding outcome_open
coded_file_is_shown = inr (tt, refl)

pub file_without_index_is_shown : Outcome (words ("show" ∷ "a" ∷ [])) example
    (says 0 [] ("kind coded" ∷ "channels 1" ∷ "sound 4704 bytes" ∷ "frames 1" ∷ "chunks 3" ∷ "stored 6 bytes" ∷ "index no" ∷ "kept no" ∷ []))
unfolding outcome_open
file_without_index_is_shown = inr (tt, refl)

-- ---- checks
pub plain_file_is_checked : Outcome (words ("check" ∷ "a" ∷ [])) two (says 0 [] ("sound, 2 frames, 0 unread bytes" ∷ []))
unfolding outcome_open
plain_file_is_checked = inr (tt, ([], tt, refl))

-- both frames of it mean sounds, and no byte of them is unread
plain_frame_is_plain : (f : Shape) (sound : List ℕ) → IsSound f sound → IsPlain f (0 ∷ sound) sound
unfolding bits low_bits
plain_frame_is_plain f sound s = record {
  coded = refl;
  stuffing = refl;
  long = omega (arith, s.long);
  is_sound =
      sym (take_all (sound_bytes f) sound (omega (arith, s.long)));
}

plain_frame_has_no_tail : (f : Shape) (sound : List ℕ) → IsSound f sound → MeansWithTail f (0 ∷ sound) sound 0
plain_frame_has_no_tail f sound s = (s, inl (plain_frame_is_plain f sound s, omega (arith, s.long)))

pub coded_file_is_checked : Outcome (words ("check" ∷ "a" ∷ [])) two_coded (says 0 [] ("sound, 2 frames, 0 unread bytes" ∷ []))
unfolding outcome_open
coded_file_is_checked = inr (
  (plain_is_not_refused _ _ mono_shape alternate, (plain_is_not_refused _ _ mono_shape filled_up, tt)),
  ((replicate 4704 170, 0) ∷ (85 ∷ replicate 4703 105, 0) ∷ [], (plain_frame_has_no_tail _ _ alternate, (plain_frame_has_no_tail _ _ filled_up, tt)), refl),
)

-- the second entry has another place
pub index_of_another_frame_is_refused : Outcome (words ("check" ∷ "a" ∷ [])) (but 9608 23 two_coded) (says 5 [] ("file refused: 24 IndexBad 1" ∷ []))
unfolding outcome_open
index_of_another_frame_is_refused = refl

pub offending_frame_is_refused : Outcome (words ("check" ∷ "a" ∷ [])) (but 157 252 example) (says 6 [] ("frame 0 refused: 9 FirstCodeBit at bit 45" ∷ []))
unfolding outcome_open fields_open
offending_frame_is_refused = inl (record {
  before = [];
  stop = (0, 252 ∷ 0 ∷ 0 ∷ 5 ∷ 255 ∷ 252 ∷ []);
  behind = [];
  is_run = refl;
  fault = at FirstCodeBit 45;
  refuses = refl;
  first = tt;
  out = [];
  written = refl;
  answer = refl;
})

-- ---- the header of a frame
pub header_of_a_plain_frame_is_shown : Outcome (words ("show" ∷ "a" ∷ "1" ∷ [])) two_coded (says 0 [] ("frame 1 plain length 4705" ∷ []))
unfolding outcome_open
header_of_a_plain_frame_is_shown = inr (
  (λ fault r. plain_is_not_refused _ _ mono_shape filled_up fault r.0, tt),
  (_, inl (85 ∷ replicate 4703 105, plain_frame_is_plain _ _ filled_up, refl), refl),
)

pub frame_past_the_last_is_not_shown : Outcome (words ("show" ∷ "a" ∷ "2" ∷ [])) two_coded (says 5 [] ("file refused: 22 Range 2 2" ∷ []))
unfolding outcome_open
frame_past_the_last_is_not_shown = refl

pub sound_by_the_index : Outcome (words ("frame" ∷ "a" ∷ "b" ∷ "1" ∷ "--by-index" ∷ [])) two_coded
    (says 0 (85 ∷ replicate 4703 105) ("frame 1, 4704 bytes" ∷ []))
unfolding outcome_open
sound_by_the_index = inr ((plain_is_not_refused _ _ mono_shape filled_up, tt), (85 ∷ replicate 4703 105, plain_form_means _ _ filled_up, refl))
