-- Decoding to a DSF file: what is written in front of the first refused frame, and of all frames, is one list of bytes.
use Rattle.std.proofs.Common.{◌≡◌, ◌⊎◌, inl, inr, ℕ, ◌+◌, ◌*◌, ◌/◌, List, [], ◌∷◌, take, refl, ap, sym, subst, ◌∙◌, arith, length}
use Rattle.std.specs.List.{AllZip, enumerate_from}
use Rattle.dst_spec.specs.Sample.{Shape}
use Rattle.dst_spec.specs.Means.{Means}
use Rattle.dst_spec.proofs.Lists.{all_take}
use Rattle.dsdiff_spec.specs.Form.{Form, shape, size_of_sound}
use Rattle.dsdiff_spec.specs.Decoded.{frames_of}
use Rattle.dsdiff_spec.specs.Dsf.{to_dsf, rows, dsf_in}
use Rattle.dsdiff_spec.specs.Words.{decode, decode_dsf}
use Rattle.dsdiff_spec.specs.Lines.{decoded_line}
use Rattle.dsdiff_spec.specs.Outcome.{done, NoneRefused, run, Does}
use Rattle.dsdiff_spec.specs.Progress.{NoneOf}
use Rattle.dsdiff_spec.proofs.Verdicts.{IsAnswered, AreAnswered, one_list}
use Rattle.dsdiff_spec.proofs.OneOutcome.{none_of_numbered, number_of_stop, front_of_stop}
use Rattle.dsdiff_spec.proofs.Settling.{OffendsOnce, OffendsNever, offends_or_not}
use Rattle.dsdiff_spec.proofs.Stopping.{One, IsSettled, AreSettled, WritesOne}

pub dsf_frames_are_settled : (form : Form) (n : ℕ) (frames : List (List ℕ)) → AreSettled decode_dsf form (enumerate_from n frames)
dsf_frames_are_settled form n [] = tt
dsf_frames_are_settled form n (w ∷ ws) = (one (offends_or_not (shape form) w), dsf_frames_are_settled form (n + 1) ws)
  where
    one : OffendsOnce (shape form) w ⊎ OffendsNever (shape form) w → IsSettled decode_dsf (shape form) w
    one (inl (fault, o, only)) = inl (record { fault = fault; refuses = o; only = only })
    one (inr none) = inr none

-- frames of which none is refused mean one list of sounds
abbrev OneList : Shape → List (List ℕ) → Type 0
OneList f frames = (sounds : List (List ℕ)) × AllZip (Means f) frames sounds × ((others : List (List ℕ)) → AllZip (Means f) frames others → others ≡ sounds)

some_sounds : (f : Shape) (frames : List (List ℕ)) → AreAnswered decode f frames → NoneOf decode f frames → (sounds : List (List ℕ))
    × AllZip (Means f) frames sounds
some_sounds f [] a none = ([], tt)
some_sounds f (w ∷ ws) (inl r, more) none = absurd (none.0 r.fault r.refuses)
some_sounds f (w ∷ ws) (inr u, more) none =
    let rest = some_sounds f ws more none.1 in
    (u.sound ∷ rest.0, (u.means, rest.1))

sounds_of : (f : Shape) (frames : List (List ℕ)) → AreAnswered decode f frames → NoneOf decode f frames → OneList f frames
sounds_of f frames a none =
    let s = some_sounds f frames a none in
    (s.0, s.1, λ others each. one_list decode f frames others s.0 a none each s.1)

-- those below the first that is refused
pub dsf_before : (file : List ℕ) (form : Form) → AreAnswered decode (shape form) (frames_of file form) → WritesOne decode_dsf file form
dsf_before file form answered s =
    let frames = frames_of file form in
    let k = s.stop.0 in
    let at = number_of_stop 0 frames s.before s.stop s.behind s.whole in
    let number : k ≡ length s.before = omega (arith, at.1) in
    let front = front_of_stop frames s.before s.stop s.behind s.whole ∙ ap (λ n. enumerate_from 0 (take n frames)) (sym number) in
    let none = none_of_numbered decode form 0 (take k frames) (subst (NoneRefused decode form) front s.first) in
    let sounds = sounds_of (shape form) (take k frames) (all_take (IsAnswered decode (shape form)) k frames answered) none in (
      to_dsf sounds.0 file form ((k * (shape form).octets) / 4096),
      record { sounds = sounds.0; each = sounds.1; written = refl },
      λ other b. b.written ∙ ap (λ ss. to_dsf ss file form ((k * (shape form).octets) / 4096)) (sounds.2 b.sounds b.each),
    )

-- all of them
pub dsf_whole : (file : List ℕ) (form : Form) → AreAnswered decode (shape form) (frames_of file form) → NoneRefused decode_dsf form (run decode_dsf file form) →
    One (Does decode_dsf file form)
dsf_whole file form answered never =
    let frames = frames_of file form in
    let sounds = sounds_of (shape form) frames answered (none_of_numbered decode form 0 frames never) in
    let out = λ (ss : List (List ℕ)). to_dsf ss file form (rows (dsf_in file form)) in
    let line = decoded_line form.frames (size_of_sound form) in (
      done (out sounds.0) (line ∷ []),
      (out sounds.0, record { sounds = sounds.0; each = sounds.1; written = refl }, refl),
      λ other d. d.2 ∙ ap (λ o. done o (line ∷ [])) (d.1.written ∙ ap out (sounds.2 d.1.sounds d.1.each)),
    )
