-- Which frames parts of a sound want, what stands for a frame that means no sound, and which frames a reader keeps.
use Rattle.std.proofs.Common.{◌≡◌, ℕ, ◌++◌, List, [], ◌∷◌, replicate, take, drop, refl, inl, inr, rules}
use Rattle.std.specs.Prelude.{codes}
use Rattle.dst_spec.specs.Sample.{IsShape}
use Rattle.dst_spec.specs.Means.{Means}
use Rattle.dst_spec.proofs.Certain.{mono}
use Rattle.dst_spec.proofs.Frames.{frame_with_code_of_zeros}
use Rattle.dst_spec.proofs.Meaning.{meaning_is_no_fault}
use Rattle.dst_spec.proofs.Refusals.{at, empty_frame_is_truncated}
use Rattle.dst_spec.specs.declared.faults.Reason.TheVariants.{Truncated}
use Rattle.dsdiff_spec.specs.Rules.{accepted}
use Rattle.dsdiff_spec.specs.Ranges.{Sound, Want, touched, wants_between, keys, keys_after, decoded_of}
use Rattle.dsdiff_spec.proofs.Files.{example}
use Rattle.dsdiff_spec.proofs.Restoring.{written_open}

-- ---- frames of four bytes each: a part that ends on the border of a frame doesn't touch the next one
pub one_frame_whole : touched 4 0 4 ≡ 0 ∷ []
one_frame_whole = refl

pub one_byte_more : touched 4 0 5 ≡ 0 ∷ 1 ∷ []
one_byte_more = refl

pub from_border_to_border : touched 4 4 12 ≡ 1 ∷ 2 ∷ []
from_border_to_border = refl

pub last_byte_of_a_frame : touched 4 3 4 ≡ 0 ∷ []
last_byte_of_a_frame = refl

pub nothing_touches_no_frame : touched 4 4 4 ≡ []
nothing_touches_no_frame = refl

abbrev want : ℕ → ℕ → Want
want k n = record { frame = k; bytes = n }

pub parts_of_three_frames : wants_between 4 2 9 ≡ want 0 2 ∷ want 1 4 ∷ want 2 1 ∷ []
parts_of_three_frames = refl

pub part_inside_a_frame : wants_between 4 5 7 ≡ want 1 2 ∷ []
part_inside_a_frame = refl

-- ---- three frames of one channel, of which the second has no byte and means no sound: zeros stand for it
abbrev head_of : List ℕ → ℕ → List ℕ
head_of id size = id ++ replicate 7 0 ++ size ∷ []

abbrev three_frames : List ℕ
three_frames =
    head_of (codes "FRM8") 176 ++ take 98 (drop 12 example)
    ++ head_of (codes "DST ") 66 ++ head_of (codes "FRTE") 6 ++ (0 ∷ 0 ∷ 0 ∷ 3 ∷ 0 ∷ 75 ∷ [])
    ++ drop 140 example ++ head_of (codes "DSTF") 0 ++ drop 140 example

empty_frame_means_nothing : (sound : List ℕ) → Means (mono 4704) [] sound → ⊥
empty_frame_means_nothing sound h =
    let shape : IsShape (mono 4704) = search rules in
    meaning_is_no_fault (mono 4704) [] sound (at Truncated 0) shape h empty_frame_is_truncated

pub zeros_stand_for_no_sound : Sound three_frames (accepted three_frames) (replicate 4704 255 ++ replicate 4704 0 ++ replicate 4704 255)
unfolding written_open
zeros_stand_for_no_sound = record {
  sounds = replicate 4704 255 ∷ replicate 4704 0 ∷ replicate 4704 255 ∷ [];
  each = (inl (frame_with_code_of_zeros 4704), (inr (empty_frame_means_nothing, refl), (inl (frame_with_code_of_zeros 4704), tt)));
  is_sound = refl;
}

-- ---- room for one frame: only the frame wanted last is held
pub one_is_kept : keys_after [] (0 ∷ 1 ∷ 0 ∷ []) 1 ≡ 0 ∷ []
one_is_kept = refl

pub each_is_decoded_anew : decoded_of [] (0 ∷ 1 ∷ 0 ∷ []) 1 ≡ 0 ∷ 1 ∷ 0 ∷ []
each_is_decoded_anew = refl

pub same_frame_is_held : decoded_of [] (0 ∷ 0 ∷ []) 1 ≡ 0 ∷ []
same_frame_is_held = refl

-- ---- room for two: a frame that is held moves to the front, and one that is decoded puts out the last
pub two_are_kept : keys_after [] (0 ∷ 1 ∷ 0 ∷ []) 2 ≡ 0 ∷ 1 ∷ []
two_are_kept = refl

pub two_are_decoded : decoded_of [] (0 ∷ 1 ∷ 0 ∷ []) 2 ≡ 0 ∷ 1 ∷ []
two_are_decoded = refl

pub last_is_put_out : keys_after [] (0 ∷ 1 ∷ 0 ∷ 2 ∷ []) 2 ≡ 2 ∷ 0 ∷ []
last_is_put_out = refl

pub one_put_out_is_decoded_anew : decoded_of [] (0 ∷ 1 ∷ 0 ∷ 2 ∷ 0 ∷ 1 ∷ []) 2 ≡ 0 ∷ 1 ∷ 2 ∷ 1 ∷ []
one_put_out_is_decoded_anew = refl

pub middle_moves_to_the_front : keys (3 ∷ 2 ∷ 1 ∷ []) 2 3 ≡ 2 ∷ 3 ∷ 1 ∷ []
middle_moves_to_the_front = refl
