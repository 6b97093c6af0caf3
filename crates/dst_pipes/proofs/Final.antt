-- The answer to a stream, from how its last piece ended.
use Rattle.std.proofs.Common.{◌≡◌, ℕ, List, [], ◌∷◌, ◌++◌, length, take, drop, Option, Some, None, Err, inl, inr, false, true, refl, sym, ap, subst}
use Rattle.std.proofs.Common.{◌∙◌, append-nil}
use Rattle.std.specs.List.{concat}
use Rattle.dst_spec.specs.Bits.{AreBytes}
use Rattle.dst_spec.specs.declared.faults.FrameFault.{FrameFault}
use Rattle.dst_streams.specs.Told.{and_then}
use Rattle.dsdiff_spec.specs.declared.faults.FileFault.{FileFault}
use Rattle.dsdiff_spec.specs.Lines.{decoded_line}
use Rattle.dsdiff_spec.specs.Outcome.{done, frame_refused}
use Rattle.dsdiff_spec.specs.Streams.{Ending, ended, stopped, cut_off, Front, stream, piped, piped_before}
use Rattle.stream_spec.specs.Outcome.{StreamOutcome, OfStream, IsEarly, stream_refused, at_ending, sound_size}
use Rattle.push_decoder.specs.Events.{Answered, nothing_answered, begun, has_stopped, due}
use Rattle.push_decoder.specs.Told.{EndsAs}
use Rattle.push_decoder.specs.Laws.{AreOf}
use Rattle.push_decoder.proofs.Pieces.{no_more_frames}
use Rattle.dst_commands.proofs.Writing.{stops_behind, stops_unsettled, and_then-nothing}
use Rattle.dst_pipes.specs.Fronts.{front_bytes}
use Rattle.dst_pipes.specs.States.{AreSounds, Wrote, BeginsSo}
use Rattle.dst_pipes.specs.Steps.{HasCome, StopsAtFault, StopsAtFrame, StopsInWriting}
use Rattle.dst_pipes.specs.Endings.{Writes, IsStoppedShort, LacksRoom}
use Rattle.dst_pipes.specs.declared.work.Work.{Work}
use Rattle.dst_pipes.proofs.Ending.{stays_ended, stays_stopped, end_is, stop_is, early_stop_is, no_front, all_frames, has_begun, through}
use Rattle.dst_pipes.proofs.Ending.{behind_all, all_written, refused, every_outcome_begins, stopped_short, lacks_room, nothing_written}

-- the frames of the bytes that were taken
at_taken : (p : List ℕ) (answered : Answered) → BeginsSo p answered → AreOf answered (stream p)
at_taken p answered begins = subst (λ w. AreOf answered (stream w)) (append-nil p) (begins [])

-- ---- done
pub ends_done : (p rest : List ℕ) (work : Option Work) (old new : Option (List ℕ)) (room left : Option ℕ) (h : HasCome p work old new room left) →
    (out : List ℕ) × Writes (p ++ rest) (done out (decoded_line h.front.frames (sound_size h.front) ∷ [])) old new
ends_done p rest work old new room left h =
    let are = at_taken p (begun h.front h.frames) h.begins in
    let over = end_is (drop (length h.frames) (stream p).frames) (stream p).ending h.due in
    let same = stays_ended p rest over.1 in
    let has : (stream (p ++ rest)).front ≡ Some h.front = ap (λ s. s.front) same ∙ are.0 in
    let frames : (stream (p ++ rest)).frames ≡ h.frames = ap (λ s. s.frames) same ∙ all_frames h.frames (stream p).frames are.1 over.0 in
    let ending : (stream (p ++ rest)).ending ≡ ended = ap (λ s. s.ending) same ∙ over.1 in
    let sounds = h.wrote.sounds in (
      piped h.front sounds,
      (
        through (p ++ rest) h.front h.frames ended sounds has frames ending h.wrote.are,
        h.wrote.adds.written ∙ ap (and_then old) (sym (all_written (p ++ rest) h.front h.frames sounds has frames ending h.wrote.are)),
      ),
    )

-- done, and not settled
pub ends_unsettled : (p rest : List ℕ) (work : Option Work) (old mid new : Option (List ℕ)) (room left : Option ℕ)
    (h : HasCome p work old mid room left) → AreBytes (p ++ rest) →
    new ≡ mid → ((n : ℕ) → left ≡ Some n → false ≡ true) → IsStoppedShort (p ++ rest) old new × LacksRoom (p ++ rest) room
ends_unsettled p rest work old mid new room left h bytes same sure =
    let has = has_begun p rest h.front h.frames h.begins in
    let sounds = h.wrote.sounds in
    let begins = every_outcome_begins (p ++ rest) h.front h.frames _ sounds has h.wrote.are in
    let stops = stops_unsettled (front_bytes h.front ++ concat sounds) old mid new room left h.wrote.adds same sure in
    (stopped_short (Unit {0}) (p ++ rest) _ old new room bytes begins stops, lacks_room (p ++ rest) _ old new room begins stops)

-- ---- the stream is refused: what is said of its frames, and its ending
refused_behind : (w : List ℕ) (front : Front) (frames sounds : List (List ℕ)) (e : Ending) (fault : FileFault) (old new : Option (List ℕ)) →
    (stream w).front ≡ Some front →
    (stream w).frames ≡ frames → (stream w).ending ≡ e → AreSounds front frames sounds → new ≡ and_then old (front_bytes front ++ concat sounds) →
    at_ending e front (length frames) (piped front sounds) ≡ stream_refused fault (piped_before front (piped front sounds) (length frames)) →
    (out : List ℕ) × Writes w (stream_refused fault out) old new
refused_behind w front frames sounds e fault old new has same ending are written is_refused = (
  piped_before front (piped front sounds) (length frames),
  (
    subst (StreamOutcome w) is_refused (through w front frames e sounds has same ending are),
    written ∙ ap (and_then old) (sym (behind_all w front frames sounds has same are)),
  ),
)

refused_early : (w : List ℕ) (e : Ending) (fault : FileFault) (old new : Option (List ℕ)) → (stream w).front ≡ None → (stream w).ending ≡ e →
    IsEarly e (stream_refused fault []) → new ≡ old → (out : List ℕ) × Writes w (stream_refused fault out) old new
refused_early w e fault old new has ending early same = (
  [],
  (
    subst (λ x. OfStream (stream w) x (stream_refused fault [])) (sym has) (subst (λ x. IsEarly x (stream_refused fault [])) (sym ending) early),
    same ∙ sym (and_then-nothing old),
  ),
)

pub ends_at_fault : (fault : FileFault) (taken piece rest : List ℕ) (old new : Option (List ℕ)) (room left : Option ℕ)
    (h : StopsAtFault fault taken piece old new room left) →
    (out : List ℕ) × Writes ((taken ++ take h.count piece) ++ rest) (stream_refused fault out) old new
ends_at_fault fault taken piece rest old new room left h = go h.answered (at_taken (taken ++ take h.count piece) h.answered h.begins) h.due h.wrote
  where
    go : (a : Answered) → AreOf a (stream (taken ++ take h.count piece)) → due (taken ++ take h.count piece) a ≡ Some (has_stopped fault) →
        Wrote a old new room left →
        (out : List ℕ) × Writes ((taken ++ take h.count piece) ++ rest) (stream_refused fault out) old new
    go nothing_answered are e wrote =
        let p = taken ++ take h.count piece in
        let over = early_stop_is (stream p).front (stream p).ending fault e in
        let same = stays_stopped p rest fault over.1 in
        refused_early (p ++ rest) (stopped fault) fault old new (ap (λ s. s.front) same ∙ over.0) (ap (λ s. s.ending) same ∙ over.1) refl wrote.0
    go (begun front frames) are e wrote =
        let p = taken ++ take h.count piece in
        let over = stop_is (drop (length frames) (stream p).frames) (stream p).ending fault e in
        let same = stays_stopped p rest fault over.1 in
        refused_behind (p ++ rest) front frames wrote.sounds (stopped fault) fault old new (ap (λ s. s.front) same ∙ are.0)
        (ap (λ s. s.frames) same ∙ all_frames frames (stream p).frames are.1 over.0) (ap (λ s. s.ending) same ∙ over.1) wrote.are wrote.adds.written refl

-- the stream is cut off
pub ends_cut_off : (w : List ℕ) (answered : Answered) (fault : FileFault) (old new : Option (List ℕ)) (room left : Option ℕ) → AreOf answered (stream w) →
    due w answered ≡ None → EndsAs (Err fault) (stream w).ending → Wrote answered old new room left → (out : List ℕ)
    × Writes w (stream_refused fault out) old new
ends_cut_off w nothing_answered fault old new room left are none (inl e) wrote =
    refused_early w (stopped fault) fault old new (no_front (stream w).front (stream w).ending none) e refl wrote.0
ends_cut_off w nothing_answered fault old new room left are none (inr e) wrote =
    refused_early w (cut_off fault) fault old new (no_front (stream w).front (stream w).ending none) e refl wrote.0
ends_cut_off w (begun front frames) fault old new room left are none (inl e) wrote =
    refused_behind w front frames wrote.sounds (stopped fault) fault old new are.0
    (all_frames frames (stream w).frames are.1 (no_more_frames (drop (length frames) (stream w).frames) (stream w).ending none))
    e wrote.are wrote.adds.written refl
ends_cut_off w (begun front frames) fault old new room left are none (inr e) wrote =
    refused_behind w front frames wrote.sounds (cut_off fault) fault old new are.0
    (all_frames frames (stream w).frames are.1 (no_more_frames (drop (length frames) (stream w).frames) (stream w).ending none))
    e wrote.are wrote.adds.written refl

-- ---- a frame is refused
pub ends_at_frame : (k : ℕ) (fault : FrameFault) (taken piece rest : List ℕ) (old new : Option (List ℕ)) (room left : Option ℕ)
    (h : StopsAtFrame k fault taken piece old new room left) →
    AreBytes ((taken ++ take h.count piece) ++ rest) → (out : List ℕ) × Writes ((taken ++ take h.count piece) ++ rest) (frame_refused k fault out) old new
ends_at_frame k fault taken piece rest old new room left h bytes =
    let p = taken ++ take h.count piece in
    let out = front_bytes h.front ++ concat h.wrote.sounds in (
      out,
      (
        subst (λ n. StreamOutcome (p ++ rest) (frame_refused n fault out)) (sym h.number)
            (refused (p ++ rest) h.front h.frames h.frame _ h.wrote.sounds fault bytes (has_begun p rest h.front (h.frames ++ h.frame ∷ []) h.begins)
            h.wrote.are h.offends),
        h.wrote.adds.written,
      ),
    )

-- ---- a device failed
pub ends_in_writing : (taken piece rest : List ℕ) (old new : Option (List ℕ)) (room : Option ℕ) (h : StopsInWriting taken piece old new room) →
    AreBytes ((taken ++ take h.count piece) ++ rest) →
    IsStoppedShort ((taken ++ take h.count piece) ++ rest) old new × LacksRoom ((taken ++ take h.count piece) ++ rest) room
ends_in_writing taken piece rest old new room h bytes =
    let p = taken ++ take h.count piece in
    let has = has_begun p rest h.front h.frames h.begins in
    let begins = every_outcome_begins (p ++ rest) h.front h.frames _ h.sounds has h.are in
    (stopped_short (Unit {0}) (p ++ rest) _ old new room bytes begins h.stops, lacks_room (p ++ rest) _ old new room begins h.stops)

pub ends_in_reading : (p rest : List ℕ) (answered : Answered) (old new : Option (List ℕ)) (room left : Option ℕ) → AreBytes (p ++ rest) → BeginsSo p answered →
    Wrote answered old new room left → IsStoppedShort (p ++ rest) old new
ends_in_reading p rest nothing_answered old new room left bytes begins wrote =
    subst (IsStoppedShort (p ++ rest) old) (sym wrote.0) (nothing_written (p ++ rest) old bytes)
ends_in_reading p rest (begun front frames) old new room left bytes begins wrote =
    let has = has_begun p rest front frames begins in
    stopped_short ⊥ (p ++ rest) (front_bytes front ++ concat wrote.sounds) old new room bytes
    (every_outcome_begins (p ++ rest) front frames _ wrote.sounds has wrote.are)
    (stops_behind ⊥ (front_bytes front ++ concat wrote.sounds) old new room left (λ x. x) wrote.adds)
