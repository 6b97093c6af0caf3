-- Each frame means a sound or zeros stand for it, so that all frames have one list of sounds.
use Rattle.std.proofs.Common.{◌≡◌, ◌⊎◌, inl, inr, ℕ, List, [], ◌∷◌, take, drop, map, replicate, refl, ap, ap₂, ◌∙◌}
use Rattle.std.specs.List.{AllZip, concat}
use Rattle.dst_spec.specs.Bits.{AreBytes}
use Rattle.dst_spec.specs.Sample.{Shape, IsShape, sound_bytes}
use Rattle.dst_spec.specs.Laws.{IsRefused, IsUnderstood}
use Rattle.dst_spec.proofs.Lists.{AreBytes-take, AreBytes-drop}
use Rattle.dst_spec.proofs.Understood.{decoding_law}
use Rattle.dsdiff_spec.specs.Form.{shape, size_of_sound}
use Rattle.dsdiff_spec.specs.Walk.{Entry, entries, frame_at}
use Rattle.dsdiff_spec.specs.Ranges.{MeansOrZeros}
use Rattle.dsdiff_spec.specs.Laws.{OneSoundLaw}

-- what stands for a frame, and nothing else does
pub record StandsAlone (f : Shape) (w : List ℕ) : Type 0 where
  pub sound : List ℕ
  pub is : MeansOrZeros f w sound
  pub only : (other : List ℕ) → MeansOrZeros f w other → other ≡ sound

stands_alone : (f : Shape) (w : List ℕ) → IsRefused f w ⊎ IsUnderstood f w → StandsAlone f w
stands_alone f w (inl refused) = record { sound = replicate (sound_bytes f) 0; is = inr (refused.3, refl); only = only }
  where
    only : (other : List ℕ) → MeansOrZeros f w other → other ≡ replicate (sound_bytes f) 0
    only other (inl means) = absurd (refused.3 other means)
    only other (inr none) = none.1
stands_alone f w (inr understood) = record { sound = understood.0; is = inl understood.1; only = only }
  where
    only : (other : List ℕ) → MeansOrZeros f w other → other ≡ understood.0
    only other (inl means) = understood.2 other means
    only other (inr none) = absurd (none.0 understood.0 understood.1)

pub record StandAlone (f : Shape) (frames : List (List ℕ)) : Type 0 where
  pub sounds : List (List ℕ)
  pub each : AllZip (MeansOrZeros f) frames sounds
  pub only : (others : List (List ℕ)) → AllZip (MeansOrZeros f) frames others → others ≡ sounds

all_stand : (f : Shape) (file : List ℕ) (es : List Entry) → IsShape f → AreBytes file → StandAlone f (map (frame_at file) es)
all_stand f file [] lawful bytes = record { sounds = []; each = tt; only = only }
  where
    only : (others : List (List ℕ)) → AllZip (MeansOrZeros f) [] others → others ≡ []
    only [] z = refl
    only (s ∷ ss) z = absurd z
all_stand f file (e ∷ es) lawful bytes = with_first (all_stand f file es lawful bytes)
  where
    here : StandsAlone f (frame_at file e)
    here = stands_alone f (frame_at file e)
        (decoding_law f (frame_at file e) lawful (AreBytes-take e.size (drop e.offset file) (AreBytes-drop e.offset file bytes)))

    with_first : StandAlone f (map (frame_at file) es) → StandAlone f (map (frame_at file) (e ∷ es))
    with_first more = record { sounds = here.sound ∷ more.sounds; each = (here.is, more.each); only = only }
      where
        only : (others : List (List ℕ)) → AllZip (MeansOrZeros f) (map (frame_at file) (e ∷ es)) others → others ≡ here.sound ∷ more.sounds
        only [] z = absurd z
        only (s ∷ ss) z = ap₂ {A = List ℕ} (λ x xs. x ∷ xs) (here.only s z.0) (more.only ss z.1)

pub one_sound : OneSoundLaw
one_sound file form bytes lawful =
    let all = all_stand (shape form) file (entries file form) lawful bytes in
    let sound = take (size_of_sound form) (concat all.sounds) in (
      sound,
      record { sounds = all.sounds; each = all.each; is_sound = refl },
      λ other s. s.is_sound ∙ ap (λ ss. take (size_of_sound form) (concat ss)) (all.only s.sounds s.each),
    )
