-- What every outcome begins with, and what is written where a device fails.
use Rattle.std.proofs.Common.{◌≡◌, ℕ, List, [], ◌∷◌, ◌++◌, Option, None, Err, refl, ap, sym, subst, ◌∙◌, append-nil}
use Rattle.dst_spec.specs.Bits.{AreBytes}
use Rattle.dst_spec.specs.declared.faults.FrameFault.{FrameFault}
use Rattle.dsdiff_spec.specs.Form.{Form, size_of_sound}
use Rattle.dsdiff_spec.specs.Rules.{accepted}
use Rattle.dsdiff_spec.specs.Walk.{Entry}
use Rattle.dsdiff_spec.specs.Pieces.{decoded_front, decoded_end}
use Rattle.dsdiff_spec.specs.Words.{decode}
use Rattle.dsdiff_spec.specs.Refusal.{refusal}
use Rattle.dsdiff_spec.specs.Lines.{decoded_line}
use Rattle.dsdiff_spec.specs.Outcome.{Answer, done, frame_refused}
use Rattle.dsdiff_spec.proofs.CodedFiles.{is_decodable}
use Rattle.dsdiff_spec.proofs.OneOutcome.{decoding_has_one_outcome}
use Rattle.dsdiff_spec.specs.Progress.{AreDecoded}
use Rattle.dsdiff_spec.proofs.Progress.{BeginsWith, sound_is_whole, stops_at_frame, ends_with_sound, outcome_begins, outcome_begins_with_head}
use Rattle.dsdiff_spec.proofs.Progress.{every_outcome_has_sound}
use Rattle.dsdiff_chunks.specs.declared.copy.CopyFault.{CopyFault}
use Rattle.dsdiff_chunks.specs.declared.copy.CopyFault.TheVariants.{Read, Write}
use Rattle.dst_commands.specs.Commands.{OutcomeOf}
use Rattle.dst_read.specs.Decoding.{of_device, IsOpened, StopsAt, sound_of, DecodingEnds, IsStoppedShort, LacksRoomForOutcome}
use Rattle.dst_commands.specs.Writing.{Stops}
use Rattle.dst_commands.proofs.Writing.{stops_in, stops_at_once}

-- every outcome begins with a piece
abbrev pub IsFront : List ℕ → List ℕ → Type 0
IsFront file piece = (o : Answer) → OutcomeOf decode file o → BeginsWith o.out piece

abbrev pub head_of : List ℕ → Form → List ℕ
head_of file form = decoded_front (size_of_sound form) file form

abbrev pub end_of : List ℕ → Form → List ℕ
end_of file form = decoded_end (size_of_sound form) file form

pub head_is_front : (file : List ℕ) (form : Form) (index : List Entry) → AreBytes file → IsOpened file form index → IsFront file (head_of file form)
head_is_front file form index bytes o =
    subst (λ f. IsFront file (head_of file f)) o.form_is (outcome_begins_with_head file bytes o.accepts)

pub sound_is_front : (file : List ℕ) (form : Form) (index : List Entry) (k : ℕ) (sounds : List (List ℕ)) → AreBytes file → IsOpened file form index →
    AreDecoded file form k sounds →
    IsFront file (head_of file form ++ sound_of form sounds)
sound_is_front file form index k sounds bytes o =
    subst (λ f. AreDecoded file f k sounds → IsFront file (head_of file f ++ sound_of f sounds)) o.form_is (outcome_begins file k sounds bytes o.accepts)

abbrev pub whole : List ℕ → Form → List (List ℕ) → List ℕ
whole file form sounds = head_of file form ++ sound_of form sounds ++ end_of file form

begins_with_itself : (file : List ℕ) (sounds : List (List ℕ)) (o : Answer) (form : Form) →
    o ≡ done (whole file form sounds) (decoded_line form.frames (size_of_sound form) ∷ []) → BeginsWith o.out (whole file form sounds)
begins_with_itself file sounds o form e = record { rest = []; is = ap (λ (a : Answer). a.out) e ∙ sym (append-nil (whole file form sounds)) }

pub whole_is_front : (file : List ℕ) (form : Form) (index : List Entry) (sounds : List (List ℕ)) → AreBytes file → IsOpened file form index →
    AreDecoded file form form.frames sounds →
    IsFront file (whole file form sounds)
whole_is_front file form index sounds bytes o =
    subst (λ f. AreDecoded file f f.frames sounds → IsFront file (whole file f sounds)) o.form_is
    (λ h a p. begins_with_itself file sounds a (accepted file) (every_outcome_has_sound file sounds bytes o.accepts h a p))

pub done_outcome : (file : List ℕ) (form : Form) (index : List Entry) (sounds : List (List ℕ)) → IsOpened file form index →
    AreDecoded file form form.frames sounds →
    OutcomeOf decode file (done (whole file form sounds) (decoded_line form.frames (size_of_sound form) ∷ []))
done_outcome file form index sounds o =
    subst (λ f. AreDecoded file f f.frames sounds → OutcomeOf decode file (done (whole file f sounds) (decoded_line f.frames (size_of_sound f) ∷ []))) o.form_is
    (ends_with_sound file sounds o.accepts)

at_accepted : (file : List ℕ) (k : ℕ) (fault : FrameFault) (sounds : List (List ℕ)) → refusal decode file ≡ None → StopsAt file (accepted file) k fault sounds →
    OutcomeOf decode file (frame_refused k fault (head_of file (accepted file) ++ sound_of (accepted file) sounds))
at_accepted file k fault sounds none s =
    let same = sound_is_whole file (accepted file) k sounds (is_decodable file none) s.before s.within in
    subst (λ told. OutcomeOf decode file (frame_refused k fault (head_of file (accepted file) ++ told))) (sym same)
    (stops_at_frame file k sounds fault none s.before s.within s.refuses)

pub refused_outcome : (file : List ℕ) (form : Form) (index : List Entry) (k : ℕ) (fault : FrameFault) (sounds : List (List ℕ)) → IsOpened file form index →
    StopsAt file form k fault sounds →
    OutcomeOf decode file (frame_refused k fault (head_of file form ++ sound_of form sounds))
refused_outcome file form index k fault sounds o =
    subst (λ f. StopsAt file f k fault sounds → OutcomeOf decode file (frame_refused k fault (head_of file f ++ sound_of f sounds))) o.form_is
    (at_accepted file k fault sounds o.accepts)

-- ---- a device that failed
pub stopped_short : (P : Type 0) (file piece : List ℕ) (old new : Option (List ℕ)) (room : Option ℕ) → AreBytes file → IsFront file piece →
    Stops P piece old new room → IsStoppedShort file old new
stopped_short P file piece old new room bytes front s =
    let one = decoding_has_one_outcome file bytes in
    (one.0, one.1, (stops_in P one.0.out piece old new room (front one.0 one.1) s).cut)

pub lacks_room : (P : Type 0) (file piece : List ℕ) (old new : Option (List ℕ)) (room : Option ℕ) → P → IsFront file piece → Stops P piece old new room →
    LacksRoomForOutcome file room
lacks_room P file piece old new room p front s o is = (stops_in P o.out piece old new room (front o is) s).lacks p

pub ends_at_device : (fault : CopyFault) (file piece : List ℕ) (old new : Option (List ℕ)) (room : Option ℕ) → AreBytes file → IsFront file piece →
    Stops (fault ≡ CopyFault.Write) piece old new room →
    DecodingEnds (Err (of_device fault)) file old new room
ends_at_device Read file piece old new room bytes front s = stopped_short (CopyFault.Read ≡ CopyFault.Write) file piece old new room bytes front s
ends_at_device Write file piece old new room bytes front s = (
  stopped_short (CopyFault.Write ≡ CopyFault.Write) file piece old new room bytes front s,
  lacks_room (CopyFault.Write ≡ CopyFault.Write) file piece old new room refl front s,
)

pub nothing_written : (file : List ℕ) (told : Option (List ℕ)) → AreBytes file → IsStoppedShort file told told
nothing_written file told bytes =
    let one = decoding_has_one_outcome file bytes in
    (one.0, one.1, (stops_at_once ⊥ one.0.out told None (λ p. p)).cut)
