-- How decoding a file ends, from how its parts end.
use Rattle.std.proofs.Common.{◌≡◌, ℕ, List, [], ◌∷◌, ◌++◌, Option, Some, Ok, Err, false, true, refl, ap, sym, subst, ◌∙◌}
use Rattle.dst_spec.specs.Bits.{AreBytes}
use Rattle.dst_streams.specs.Told.{and_then}
use Rattle.dst_streams.proofs.Told.{and_then-twice}
use Rattle.dsdiff_spec.specs.Form.{Form, size_of_sound}
use Rattle.dsdiff_spec.specs.Pieces.{decoded_front, decoded_end}
use Rattle.dsdiff_spec.specs.Walk.{Entry}
use Rattle.dsdiff_spec.specs.Words.{decode}
use Rattle.dsdiff_spec.specs.Lines.{decoded_line}
use Rattle.dsdiff_spec.specs.Outcome.{done}
use Rattle.dsdiff_spec.specs.Progress.{AreDecoded}
use Rattle.dsdiff_chunks.specs.declared.copy.CopyFault.{CopyFault}
use Rattle.dst_read.specs.declared.faults.Decoded.{Decoded}
use Rattle.dst_read.specs.declared.faults.DecodeFault.{DecodeFault}
use Rattle.dst_read.specs.declared.faults.DecodeFault.TheVariants.{Source, Write, Frame}
use Rattle.dst_commands.specs.Commands.{OutcomeOf}
use Rattle.dst_read.specs.Decoding.{of_device, IsOpened, sound_of, FramesEnd, DecodingEnds, IsStoppedShort}
use Rattle.dst_commands.specs.Writing.{Adds, Stops}
use Rattle.dst_commands.proofs.Writing.{adds_then, stops_for, stops_then, stops_unsettled}
use Rattle.dst_read.proofs.Stopping.{head_of, end_of, whole, head_is_front, sound_is_front, whole_is_front, done_outcome, refused_outcome, stopped_short}
use Rattle.dst_read.proofs.Stopping.{lacks_room, ends_at_device}

-- ---- in front of the sound and behind it, by the number that is the size of the sound
front_added : (n : ℕ) (file : List ℕ) (form : Form) (old new : Option (List ℕ)) (room left : Option ℕ) → n ≡ size_of_sound form →
    Adds (decoded_front n file form) old new room left → Adds (head_of file form) old new room left
front_added n file form old new room left size h = subst (λ n. Adds (decoded_front n file form) old new room left) size h

end_added : (n : ℕ) (file : List ℕ) (form : Form) (old new : Option (List ℕ)) (room left : Option ℕ) → n ≡ size_of_sound form →
    Adds (decoded_end n file form) old new room left → Adds (end_of file form) old new room left
end_added n file form old new room left size h = subst (λ n. Adds (decoded_end n file form) old new room left) size h

answered_as : (answered : DecodeFault) (fault : CopyFault) (file : List ℕ) (old new : Option (List ℕ)) (room : Option ℕ) → answered ≡ of_device fault →
    DecodingEnds (Err (of_device fault)) file old new room → DecodingEnds (Err answered) file old new room
answered_as answered fault file old new room is h = subst (λ f. DecodingEnds (Err f) file old new room) (sym is) h

pub ends_at_front : (answered : DecodeFault) (fault : CopyFault) (n : ℕ) (file : List ℕ) (form : Form) (index : List Entry) (old new : Option (List ℕ))
    (room : Option ℕ) → answered ≡ of_device fault → n ≡ size_of_sound form → AreBytes file → IsOpened file form index →
    Stops (fault ≡ CopyFault.Write) (decoded_front n file form) old new room → DecodingEnds (Err answered) file old new room
ends_at_front answered fault n file form index old new room is size bytes o s =
    answered_as answered fault file old new room is
    (ends_at_device fault file (head_of file form) old new room bytes (head_is_front file form index bytes o)
    (subst (λ n. Stops (fault ≡ CopyFault.Write) (decoded_front n file form) old new room) size s))

-- ---- in the frames
short_in_frames : (P : Type 0) (file : List ℕ) (form : Form) (index : List Entry) (k : ℕ) (sounds : List (List ℕ)) (old mid new : Option (List ℕ))
    (room half : Option ℕ) →
    AreBytes file → IsOpened file form index → Adds (head_of file form) old mid room half → AreDecoded file form k sounds →
    Stops P (sound_of form sounds) mid new half → IsStoppedShort file old new
short_in_frames P file form index k sounds old mid new room half bytes o front h s =
    stopped_short P file (head_of file form ++ sound_of form sounds) old new room bytes (sound_is_front file form index k sounds bytes o h)
    (stops_then P (head_of file form) (sound_of form sounds) old mid new room half front s)

behind_head : (fault : DecodeFault) (file : List ℕ) (form : Form) (index : List Entry) (old mid new : Option (List ℕ)) (room half left : Option ℕ) →
    AreBytes file → IsOpened file form index → Adds (head_of file form) old mid room half → FramesEnd {A = Unit {0}} (Err fault) file form mid new half left →
    DecodingEnds (Err fault) file old new room
behind_head (Frame k fault) file form index old mid new room half left bytes o front (sounds, at, is) = (
  head_of file form ++ sound_of form sounds,
  refused_outcome file form index k fault sounds o at,
  is ∙ ap (λ held. and_then held (sound_of form sounds)) front.written ∙ and_then-twice old (head_of file form) (sound_of form sounds),
)
behind_head Write file form index old mid new room half left bytes o front (k, sounds, h, s) =
    let all = stops_then (Write ≡ Write) (head_of file form) (sound_of form sounds) old mid new room half front s in
    let piece = sound_is_front file form index k sounds bytes o h in (
      stopped_short (Write ≡ Write) file (head_of file form ++ sound_of form sounds) old new room bytes piece all,
      lacks_room (Write ≡ Write) file (head_of file form ++ sound_of form sounds) old new room refl piece all,
    )
behind_head (Source fault) file form index old mid new room half left bytes o front (k, sounds, h, s) =
    short_in_frames (Source fault ≡ Write) file form index k sounds old mid new room half bytes o front h s

pub ends_in_frames : (fault : DecodeFault) (n : ℕ) (file : List ℕ) (form : Form) (index : List Entry) (old mid new : Option (List ℕ))
    (room half left : Option ℕ) →
    n ≡ size_of_sound form → AreBytes file → IsOpened file form index → Adds (decoded_front n file form) old mid room half →
    FramesEnd {A = Unit {0}} (Err fault) file form mid new half left → DecodingEnds (Err fault) file old new room
ends_in_frames fault n file form index old mid new room half left size bytes o front h =
    behind_head fault file form index old mid new room half left bytes o (front_added n file form old mid room half size front) h

-- ---- behind them
pub ends_at_end : (answered : DecodeFault) (fault : CopyFault) (n : ℕ) (file : List ℕ) (form : Form) (index : List Entry) (old mid last new : Option (List ℕ))
    (room half left : Option ℕ) → answered ≡ of_device fault → n ≡ size_of_sound form →
    AreBytes file → IsOpened file form index → Adds (decoded_front n file form) old mid room half →
    FramesEnd {A = Unit {0}} (Ok tt) file form mid last half left →
    Stops (fault ≡ CopyFault.Write) (decoded_end n file form) last new left → DecodingEnds (Err answered) file old new room
ends_at_end answered fault n file form index old mid last new room half left is size bytes o front (sounds, h, sound) s =
    answered_as answered fault file old new room is
    (ends_at_device fault file (whole file form sounds) old new room bytes (whole_is_front file form index sounds bytes o h)
    (stops_then (fault ≡ CopyFault.Write) (head_of file form ++ sound_of form sounds) (end_of file form) old last new room left
    (adds_then (head_of file form) (sound_of form sounds) old mid last room half left (front_added n file form old mid room half size front) sound)
    (subst (λ n. Stops (fault ≡ CopyFault.Write) (decoded_end n file form) last new left) size s)))

whole_added : (n : ℕ) (file : List ℕ) (form : Form) (sounds : List (List ℕ)) (old mid last new : Option (List ℕ)) (room half left later : Option ℕ) →
    n ≡ size_of_sound form → Adds (decoded_front n file form) old mid room half → Adds (sound_of form sounds) mid last half left →
    Adds (decoded_end n file form) last new left later → Adds (whole file form sounds) old new room later
whole_added n file form sounds old mid last new room half left later size front sound behind =
    adds_then (head_of file form ++ sound_of form sounds) (end_of file form) old last new room left later
    (adds_then (head_of file form) (sound_of form sounds) old mid last room half left (front_added n file form old mid room half size front) sound)
    (end_added n file form last new left later size behind)

pub ends_unsettled : (n : ℕ) (file : List ℕ) (form : Form) (index : List Entry) (old mid last end new : Option (List ℕ)) (room half left later : Option ℕ) →
    n ≡ size_of_sound form → AreBytes file → IsOpened file form index → Adds (decoded_front n file form) old mid room half →
    FramesEnd {A = Unit {0}} (Ok tt) file form mid last half left → Adds (decoded_end n file form) last end left later → new ≡ end →
    ((n : ℕ) → later ≡ Some n → false ≡ true) → DecodingEnds (Err Write) file old new room
ends_unsettled n file form index old mid last end new room half left later size bytes o front (sounds, h, sound) behind same sure =
    ends_at_device CopyFault.Write file (whole file form sounds) old new room bytes (whole_is_front file form index sounds bytes o h)
    (stops_for (Unit {0}) (CopyFault.Write ≡ CopyFault.Write) (whole file form sounds) old new room (λ _. tt {0})
    (stops_unsettled (whole file form sounds) old end new room later
    (whole_added n file form sounds old mid last end room half left later size front sound behind) same sure))

pub ends_done : (s : Decoded) (file : List ℕ) (form : Form) (index : List Entry) (old mid last end new : Option (List ℕ)) (room half left later : Option ℕ) →
    IsOpened file form index → Adds (decoded_front s.bytes file form) old mid room half → FramesEnd {A = Unit {0}} (Ok tt) file form mid last half left →
    Adds (decoded_end s.bytes file form) last end left later → new ≡ end → s.frames ≡ form.frames → s.bytes ≡ size_of_sound form →
    DecodingEnds (Ok s) file old new room
ends_done s file form index old mid last end new room half left later o front (sounds, h, sound) behind same frames bytes = (
  whole file form sounds,
  subst (λ n. OutcomeOf decode file (done (whole file form sounds) (decoded_line n s.bytes ∷ []))) (sym frames)
      (subst (λ n. OutcomeOf decode file (done (whole file form sounds) (decoded_line form.frames n ∷ []))) (sym bytes)
      (done_outcome file form index sounds o h)),
  same ∙ (whole_added s.bytes file form sounds old mid last end room half left later bytes front sound behind).written,
)
