-- Outcomes of the commands that write coded files or made ones.
use Rattle.std.proofs.Common.{[], ◌∷◌, refl, inr}
use Rattle.std.specs.Prelude.{⊤}
use Rattle.level_spec.specs.Picks.{level_picks}
use Rattle.dsdiff_spec.specs.Made.{made_sound, plain_form}
use Rattle.words_spec.specs.Outcome.{Outcome}
use Rattle.dsdiff_spec.proofs.Files.{empty, empty_coded, three_behind, three_behind_coded, two, two_coded, two_cut}
use Rattle.words_spec.proofs.Commands.{words}
use Rattle.words_spec.proofs.Outcomes.{outcome_open, says}
use Rattle.dsdiff_spec.specs.Samples.{sound_of}

unfoldable writing_open : ⊤
unfolding outcome_open level_picks made_sound plain_form sound_of
writing_open = tt

-- ---- encoding
pub file_without_sound_is_coded : Outcome (words ("encode" ∷ "a" ∷ "b" ∷ [])) empty (says 0 empty_coded ("coded 0 frames into 0 bytes" ∷ []))
unfolding writing_open
file_without_sound_is_coded = inr (tt, refl)

pub bytes_behind_the_form_are_coded : Outcome (words ("encode" ∷ "a" ∷ "b" ∷ "--level" ∷ "2" ∷ [])) three_behind
    (says 0 three_behind_coded ("coded 0 frames into 0 bytes" ∷ []))
unfolding writing_open
bytes_behind_the_form_are_coded = inr (tt, refl)

pub two_frames_are_coded_at_level_0 : Outcome (words ("encode" ∷ "a" ∷ "b" ∷ "--level" ∷ "0" ∷ [])) two
    (says 0 two_coded ("coded 2 frames into 9410 bytes" ∷ []))
unfolding writing_open
two_frames_are_coded_at_level_0 = inr (tt, refl)

pub coded_file_is_not_coded_again : Outcome (words ("encode" ∷ "a" ∷ "b" ∷ [])) two_coded (says 5 [] ("file refused: 20 NotPlain" ∷ []))
unfolding writing_open
coded_file_is_not_coded_again = refl

-- ---- cutting and making
pub second_frame_is_cut : Outcome (words ("cut" ∷ "a" ∷ "b" ∷ "1" ∷ "1" ∷ [])) two_coded (says 0 two_cut ("cut 1 frames" ∷ []))
unfolding writing_open
second_frame_is_cut = inr (tt, refl)

pub frame_past_the_last_is_not_cut : Outcome (words ("cut" ∷ "a" ∷ "b" ∷ "0" ∷ "2" ∷ [])) two_coded (says 5 [] ("file refused: 22 Range 2 2" ∷ []))
unfolding writing_open
frame_past_the_last_is_not_cut = refl

pub plain_file_is_not_cut : Outcome (words ("cut" ∷ "a" ∷ "b" ∷ "0" ∷ "0" ∷ [])) two (says 5 [] ("file refused: 27 NotCoded" ∷ []))
unfolding writing_open
plain_file_is_not_cut = refl

pub file_without_sound_is_made : Outcome (words ("make" ∷ "0" ∷ "a" ∷ "0" ∷ "1" ∷ [])) [] (says 0 empty ("made 0 frames" ∷ []))
unfolding writing_open
file_without_sound_is_made = inr (tt, refl)

pub nothing_is_made_and_run : Outcome (words ("make" ∷ "0" ∷ "--run" ∷ "0" ∷ "1" ∷ [])) []
    (says 0 [] ("made 0 frames, sound 0 bytes, coded 0 bytes, restored 0 bytes" ∷ []))
unfolding writing_open
nothing_is_made_and_run = inr (tt, refl)
