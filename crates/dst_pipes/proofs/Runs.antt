-- The run over a flow: a piece moved from its front, and what it says of the whole stream.
use Rattle.std.proofs.Common.{◌≡◌, ◌⊎◌, inl, inr, ℕ, ◌*◌, ◌≤◌, List, [], ◌∷◌, ◌++◌, take, drop, Option, Some, None, Result, Ok, Err, refl, sym, ap}
use Rattle.std.proofs.Common.{ap₂, subst, ◌∙◌, append_assoc, take-append-drop, arith}
use Rattle.std.specs.Prelude.{IsOk, IfOk, IfErr}
use Rattle.dst_spec.specs.Bits.{AreBytes}
use Rattle.dst_spec.specs.Sample.{sound_bytes}
use Rattle.dst_streams.specs.Causes.{Rose}
use Rattle.dst_streams.specs.Told.{after_piece, and_then, IsCutShort}
use Rattle.dsdiff_spec.specs.Lines.{decoded_line}
use Rattle.dsdiff_spec.specs.Outcome.{Answer, done}
use Rattle.stream_spec.specs.Outcome.{StreamOutcome, sound_size}
use Rattle.stream_spec.proofs.Lawful.{streams_are_lawful}
use Rattle.push_decoder.specs.Decoder.{StandsFor}
use Rattle.push_decoder.specs.Events.{Answered}
use Rattle.push_decoder.specs.declared.decoder.PushDecoder.{PushDecoder}
use Rattle.dst_pipes.specs.States.{Works, Wrote}
use Rattle.dst_pipes.specs.Steps.{StopsBy, HasCome}
use Rattle.dst_pipes.specs.Endings.{PipeEnds, LacksRoom}
use Rattle.dst_pipes.specs.declared.work.Work.{Work}
use Rattle.dst_pipes.specs.declared.faults.Piped.{Piped}
use Rattle.dst_pipes.specs.declared.faults.PipeFault.{PipeFault}
use Rattle.dst_pipes.specs.declared.faults.PipeFault.TheVariants.{Read, Write, Memory, File, Frame}
use Rattle.dst_pipes.proofs.Waiting.{IsWaiting}
use Rattle.dst_pipes.proofs.Final.{ends_done, ends_unsettled, ends_at_fault, ends_at_frame, ends_in_writing}

flow_moved : (piece rest : List ℕ) (now : Option (List ℕ)) → Some rest ≡ after_piece piece now → (later : List ℕ) × (now ≡ Some later)
    × (rest ≡ piece ++ later)
flow_moved piece rest None e = absurd cc
flow_moved piece rest (Some later) e = (later, refl, cc)

-- the bytes that are taken, the piece that was read, and those that are left are the whole stream
pub piece_read : {d : PushDecoder} {work : Option Work} {read : ℕ} {old new : Option (List ℕ)} {room left : Option ℕ} {first now later : Option (List ℕ)}
    (at : IsWaiting d work read old new room left first now) (piece w : List ℕ) → now ≡ after_piece piece later → first ≡ Some w →
    (rest : List ℕ) × (later ≡ Some rest) × (w ≡ at.taken ++ (piece ++ rest))
piece_read at piece w moved told =
    let flow = at.flow w told in
    let after = flow_moved piece flow.0 _ (sym flow.1 ∙ moved) in
    (after.0, after.1, flow.2 ∙ ap (λ x. at.taken ++ x) after.2)

-- what a piece says of all that came before it, it says of what was taken where the run waits
pub of_piece : {P : List ℕ → Option (List ℕ) → Option ℕ → Type 0} {d : PushDecoder} {work : Option Work} {read : ℕ} {old new : Option (List ℕ)}
    {room left : Option ℕ} {first now : Option (List ℕ)} (at : IsWaiting d work read old new room left first now) →
    ((p : List ℕ) (answered : Answered) → StandsFor d p answered → Works answered work → (old : Option (List ℕ)) (room : Option ℕ) →
    Wrote answered old new room left → P p old room) → P at.taken old room
of_piece at piece = piece at.taken at.waits.answered at.waits.stands at.waits.works _ _ at.waits.wrote

pub split_at : (taken piece later : List ℕ) (n : ℕ) → taken ++ (piece ++ later) ≡ (taken ++ take n piece) ++ (drop n piece ++ later)
split_at taken piece later n =
    ap (λ x. taken ++ (x ++ later)) (sym (take-append-drop n piece)) ∙ grouped taken (take n piece) (drop n piece) later
  where
    grouped : (a b c d : List ℕ) → a ++ ((b ++ c) ++ d) ≡ (a ++ b) ++ (c ++ d)
    grouped a b c d = simp append_assoc refl

pub piece_stops : (fault : PipeFault) (taken piece later : List ℕ) (old new : Option (List ℕ)) (room left : Option ℕ) → AreBytes (taken ++ (piece ++ later)) →
    StopsBy fault taken piece old new room left → PipeEnds (Err fault) (taken ++ (piece ++ later)) old new room
piece_stops Read taken piece later old new room left bytes s = absurd s
piece_stops (Memory refused) taken piece later old new room left bytes s = s
piece_stops Write taken piece later old new room left bytes s =
    let same = split_at taken piece later s.count in
    subst (λ w. PipeEnds (Err Write) w old new room) (sym same)
    (ends_in_writing taken piece (drop s.count piece ++ later) old new room s (subst AreBytes same bytes))
piece_stops (File fault) taken piece later old new room left bytes s =
    let same = split_at taken piece later s.count in
    subst (λ w. PipeEnds (Err (File fault)) w old new room) (sym same) (ends_at_fault fault taken piece (drop s.count piece ++ later) old new room left s)
piece_stops (Frame k fault) taken piece later old new room left bytes s =
    let same = split_at taken piece later s.count in
    subst (λ w. PipeEnds (Err (Frame k fault)) w old new room) (sym same)
    (ends_at_frame k fault taken piece (drop s.count piece ++ later) old new room left s (subst AreBytes same bytes))

-- ---- the end
pub frames_most : (p : List ℕ) (work : Option Work) (old new : Option (List ℕ)) (room left : Option ℕ) (h : HasCome p work old new room left) →
    (m : Work) × (work ≡ Some m) × (m.frame_count ≤ 1000000)
frames_most p work old new room left h =
    let few = ((streams_are_lawful (p ++ [])).front h.front (h.begins []).0).frames in
    let most = h.works.2.frame_count in
    (h.works.0, h.works.1, omega (arith, few, most))

pub finished : (r : Result Piped PipeFault) (p rest : List ℕ) (work : Option Work) (old mid new : Option (List ℕ)) (room left : Option ℕ)
    (h : HasCome p work old mid room left) → AreBytes (p ++ rest) →
    new ≡ mid → ((n : ℕ) → left ≡ Some n → IsOk r) → IfErr r (λ fault. fault ≡ Write) → ((m : Work) → work ≡ Some m → IfOk r (λ s. s.frames ≡ m.frame_count)) →
    ((m : Work) → work ≡ Some m → IfOk r (λ s. s.bytes ≡ m.frame_count * sound_bytes m.channels)) → PipeEnds r (p ++ rest) old new room
finished (Err fault) p rest work old mid new room left h bytes same sure write frames size =
    subst (λ f. PipeEnds (Err f) (p ++ rest) old new room) (sym write) (ends_unsettled p rest work old mid new room left h bytes same sure)
finished (Ok s) p rest work old mid new room left h bytes same sure write frames size =
    let m = h.works.0 in
    let works = h.works.2 in
    let front = h.front in
    let count : s.frames ≡ front.frames = frames m h.works.1 ∙ works.frame_count in
    let long : s.bytes ≡ sound_size front = size m h.works.1 ∙ ap₂ (λ a b. a * b) works.frame_count (ap sound_bytes works.channels) in
    let ends = ends_done p rest work old mid room left h in (
      ends.0,
      (
        subst (λ n. StreamOutcome (p ++ rest) (done ends.0 (decoded_line n s.bytes ∷ []))) (sym count)
            (subst (λ n. StreamOutcome (p ++ rest) (done ends.0 (decoded_line front.frames n ∷ []))) (sym long) ends.1.0),
        same ∙ ends.1.1,
      ),
    )

pub write_alone : (r : Result Piped PipeFault) (before now : ℕ) → IfErr r (λ fault. (fault ≡ Write) × Rose before now) → IfErr r (λ fault. fault ≡ Write)
write_alone (Ok s) before now h = tt
write_alone (Err fault) before now h = h.0

-- ---- what each answer leaves
pub ends_decoded : (r : Result Piped PipeFault) (flow : Option (List ℕ)) (old new : Option (List ℕ)) (room : Option ℕ) →
    ((w : List ℕ) → flow ≡ Some w → PipeEnds r w old new room) →
    IfOk r (λ s. (w : List ℕ) → flow ≡ Some w → (out : List ℕ) × StreamOutcome w (done out (decoded_line s.frames s.bytes ∷ [])) × (new ≡ and_then old out))
ends_decoded (Err fault) flow old new room ends = tt
ends_decoded (Ok s) flow old new room ends = λ w told. (let e = ends w told in (e.0, e.1.0, e.1.1))

pub ends_short : (r : Result Piped PipeFault) (w : List ℕ) (old new : Option (List ℕ)) (room : Option ℕ) → (r ≡ Err Read) ⊎ (r ≡ Err Write) →
    PipeEnds r w old new room →
    (o : Answer) × StreamOutcome w o × IsCutShort old o.out new
ends_short r w old new room (inl e) ends = subst (λ x. PipeEnds x w old new room) e ends
ends_short r w old new room (inr e) ends = (subst (λ x. PipeEnds x w old new room) e ends).0

pub ends_lacking : (r : Result Piped PipeFault) (w : List ℕ) (old new : Option (List ℕ)) (room : Option ℕ) → r ≡ Err Write →
    PipeEnds r w old new room → LacksRoom w room
ends_lacking r w old new room e ends = (subst (λ x. PipeEnds x w old new room) e ends).1
