-- An event is answered: it was due, and what follows is read on.
use Rattle.std.proofs.Common.{◌≡◌, ℕ, ◌+◌, ◌≤◌, List, [], ◌∷◌, ◌++◌, length, take, drop, false, Option, Some, refl, sym, ap, ◌∙◌, arith}
use Rattle.std.proofs.Common.{append_assoc, length-append}
use Rattle.std.proofs.lemmas.List.{append-nil, drop-append-le, drop_all, length-drop, take_at, length-take}
use Rattle.std.proofs.Math.Seq.{drop-append_seam}
use Rattle.dsdiff_spec.specs.Chunks.{Head, body_end, body_of}
use Rattle.dsdiff_spec.specs.Streams.{ended, stopped, Front, Stream, nothing_but, with_front, with_frame, stream}
use Rattle.dsdiff_spec.specs.declared.faults.FileFault.{FileFault}
use Rattle.dsdiff_chunks.specs.Seen.{head_seen}
use Rattle.dsdiff_chunks.specs.declared.lists.ChunkHead.{ChunkHead}
use Rattle.push_decoder.specs.Gathered.{Gathered}
use Rattle.push_decoder.specs.Events.{Answered, begun, Event, front_came, frame_came, has_ended, has_stopped, due, answered_with}
use Rattle.push_decoder.specs.Events.{behind_answered}
use Rattle.push_decoder.specs.Stages.{sound_from, sound_chunk_from, still_to_come, is_frame, part_start, IsFresh, StageTells}
use Rattle.push_decoder.specs.Reading.{HasBegun, AnsweredAt, HasFront, HasRead}
use Rattle.push_decoder.specs.declared.stage.SoundSoFar.{SoundSoFar}
use Rattle.push_decoder.specs.declared.stage.Stage.{Stage}
use Rattle.push_decoder.specs.declared.stage.Stage.TheVariants.{Opened, FrameWhole, Ended, Refused}
use Rattle.push_decoder.proofs.Due.{due_is_ending, due_is_front, due_is_frame}
use Rattle.push_decoder.proofs.Gathering.{reading}

-- a stage at which nothing was gathered yet
still_read : (next : Stage) (n : ℕ) (part frame prop : Gathered) (version taken : List ℕ) (answered : Answered) → n ≡ length taken → part.bytes ≡ [] →
    IsFresh next n → is_frame next ≡ false → StageTells next prop.bytes → AnsweredAt next answered → HasFront answered version prop.bytes →
    ((more : List ℕ) → stream (taken ++ more) ≡ behind_answered answered (still_to_come version prop.bytes next (taken ++ more))) →
    HasRead (reading next n part frame version prop) taken answered
still_read next n part frame prop version taken answered count none fresh frameless tells at front goes = record {
  count = count;
  part = λ looked. none ∙ sym (drop_all (part_start next) taken (omega (arith, count, fresh.part looked)));
  frame = λ framed. absurd cc;
  tells = tells;
  at_stage = at;
  front = front;
  goes_on = goes;
}

-- what was read, without more
whole : (taken : List ℕ) (s : List ℕ → Stream) → ((more : List ℕ) → stream (taken ++ more) ≡ s (taken ++ more)) → stream taken ≡ s taken
whole taken s goes = ap stream (sym (append-nil taken)) ∙ goes [] ∙ ap s (append-nil taken)

-- ---- the front
abbrev pub front_with : SoundSoFar → List ℕ → List ℕ → Front
front_with sound version prop = record { version = version; prop = prop; frames = sound.frame_count }

opened_goes : (sound : SoundSoFar) (place n : ℕ) (part frame prop : Gathered) (version taken : List ℕ) (answered : Answered) →
    HasRead (reading (Opened sound place) n part frame version prop) taken answered → (more : List ℕ) →
    stream (taken ++ more) ≡ with_front (front_with sound version prop.bytes) (sound_from sound place (taken ++ more))
opened_goes sound place n part frame prop version taken answered has more =
    has.goes_on more
    ∙ ap (λ a. behind_answered a (with_front (front_with sound version prop.bytes) (sound_from sound place (taken ++ more)))) has.at_stage.0

pub opened_event : (sound : SoundSoFar) (place n : ℕ) (part frame prop : Gathered) (version taken : List ℕ) (answered : Answered) →
    HasRead (reading (Opened sound place) n part frame version prop) taken answered →
    due taken answered ≡ Some (front_came (front_with sound version prop.bytes))
opened_event sound place n part frame prop version taken answered has =
    ap (due taken) has.at_stage.0
    ∙ due_is_front taken (front_with sound version prop.bytes) (sound_from sound place taken)
    (whole taken (λ w. with_front (front_with sound version prop.bytes) (sound_from sound place w))
    (opened_goes sound place n part frame prop version taken answered has))

pub opened_read : (sound : SoundSoFar) (place n : ℕ) (part frame prop : Gathered) (version taken : List ℕ) (answered : Answered) (next : Stage) →
    HasRead (reading (Opened sound place) n part frame version prop) taken answered → part.bytes ≡ [] → place ≡ n → IsFresh next place →
    is_frame next ≡ false → ((prop : List ℕ) → StageTells next prop) → ((answered : Answered) → HasBegun answered sound.found → AnsweredAt next answered) →
    ((w version prop : List ℕ) → sound_from sound place w ≡ still_to_come version prop next w) →
    HasRead (reading next n part frame version prop) taken (answered_with (due taken answered) answered)
opened_read sound place n part frame prop version taken answered next has none at fresh frameless tells at_next goes =
    let front = front_with sound version prop.bytes in
    let begins : HasBegun (begun front []) sound.found = record { front = front; frames = []; same = refl; count = sym has.at_stage.1 } in
    let here : IsFresh next n = rw (← at) fresh in
    rw (opened_event sound place n part frame prop version taken answered has)
    (still_read next n part frame prop version taken (begun front []) has.count none here frameless (tells prop.bytes) (at_next (begun front []) begins)
    (refl, refl)
    (λ more. opened_goes sound place n part frame prop version taken answered has more
    ∙ ap (with_front front) (goes (taken ++ more) version prop.bytes)))

-- ---- a frame
abbrev pub WithFrame : SoundSoFar → Head → Stage → Type 0
WithFrame sound h next =
    (w version prop : List ℕ) → body_end h ≤ length w → sound_chunk_from sound h w ≡ with_frame (body_of w h) (still_to_come version prop next w)

abbrev pub GoesFrom : List ℕ → Answered → SoundSoFar → Head → Type 0
GoesFrom taken answered sound h =
    (more : List ℕ) → stream (taken ++ more) ≡ behind_answered answered (sound_chunk_from sound h (taken ++ more))

frame_goes : (taken body version prop : List ℕ) (front : Front) (frames : List (List ℕ)) (sound : SoundSoFar) (h : Head) (next : Stage) →
    GoesFrom taken (begun front frames) sound h → ((more : List ℕ) → body_of (taken ++ more) h ≡ body) → body_end h ≡ length taken →
    WithFrame sound h next → (more : List ℕ) →
    stream (taken ++ more) ≡ behind_answered (begun front frames) (with_frame body (still_to_come version prop next (taken ++ more)))
frame_goes taken body version prop front frames sound h next from is_body ends goes more =
    from more
    ∙ ap (behind_answered (begun front frames))
    (goes (taken ++ more) version prop (omega (arith, ends, length-append taken more))
    ∙ ap (λ b. with_frame b (still_to_come version prop next (taken ++ more))) (is_body more))

taken_too : (front : Front) (frames : List (List ℕ)) (body : List ℕ) (s : Stream) →
    behind_answered (begun front frames) (with_frame body s) ≡ behind_answered (begun front (frames ++ body ∷ [])) s
taken_too front frames body s =
    ap (λ fs. record { front = Some front; frames = fs; ending = s.ending }) (sym (append_assoc frames (body ∷ []) s.frames))

pub frame_is_due : (taken body version prop : List ℕ) (answered : Answered) (sound : SoundSoFar) (h : Head) (next : Stage) → HasBegun answered sound.found →
    GoesFrom taken answered sound h → ((more : List ℕ) → body_of (taken ++ more) h ≡ body) → body_end h ≡ length taken → WithFrame sound h next →
    due taken answered ≡ Some (frame_came body)
frame_is_due taken body version prop answered sound h next begins from is_body ends goes =
    let here : GoesFrom taken (begun begins.front begins.frames) sound h = rw begins.same at from in
    ap (due taken) begins.same
    ∙ due_is_frame taken begins.front begins.frames body (still_to_come version prop next taken)
    (whole taken (λ w. behind_answered (begun begins.front begins.frames) (with_frame body (still_to_come version prop next w)))
    (frame_goes taken body version prop begins.front begins.frames sound h next here is_body ends goes))

answered_then : (event : Option Event) (answered : Answered) (front : Front) (frames : List (List ℕ)) (body : List ℕ) → event ≡ Some (frame_came body) →
    answered ≡ begun front frames → answered_with event answered ≡ begun front (frames ++ body ∷ [])
answered_then event answered front frames body e a = ap (λ v. answered_with v answered) e ∙ ap (answered_with (Some (frame_came body))) a

pub frame_read : (n : ℕ) (part frame prop : Gathered) (version taken body : List ℕ) (answered : Answered) (sound : SoundSoFar) (h : Head) (next : Stage) →
    HasBegun answered sound.found → HasFront answered version prop.bytes →
    GoesFrom taken answered sound h → ((more : List ℕ) → body_of (taken ++ more) h ≡ body) → body_end h ≡ length taken → WithFrame sound h next →
    n ≡ length taken → part.bytes ≡ [] → IsFresh next (body_end h) → is_frame next ≡ false → ((prop : List ℕ) → StageTells next prop) →
    ((answered : Answered) → HasBegun answered (sound.found + 1) → AnsweredAt next answered) →
    HasRead (reading next n part frame version prop) taken (answered_with (due taken answered) answered)
frame_read n part frame prop version taken body answered sound h next begins has_front from is_body ends goes count none fresh frameless tells at_next =
    let here : GoesFrom taken (begun begins.front begins.frames) sound h = rw begins.same at from in
    let front_here : HasFront (begun begins.front begins.frames) version prop.bytes = rw begins.same at has_front in
    let event = frame_is_due taken body version prop.bytes answered sound h next begins from is_body ends goes in
    let counts : HasBegun (begun begins.front (begins.frames ++ body ∷ [])) (sound.found + 1) =
    record {
      front = begins.front;
      frames = begins.frames ++ body ∷ [];
      same = refl;
      count =
          omega (arith, begins.count, length-append begins.frames (body ∷ []));
    } in
    let at_end : body_end h ≡ n = ends ∙ sym count in
    let fresh_here : IsFresh next n = rw at_end at fresh in
    rw (answered_then (due taken answered) answered begins.front begins.frames body event begins.same)
    (still_read next n part frame prop version taken (begun begins.front (begins.frames ++ body ∷ [])) count none fresh_here frameless (tells prop.bytes)
    (at_next (begun begins.front (begins.frames ++ body ∷ [])) counts) front_here
    (λ more. frame_goes taken body version prop.bytes begins.front begins.frames sound h next here is_body ends goes more
    ∙ taken_too begins.front begins.frames body (still_to_come version prop.bytes next (taken ++ more))))

-- a frame that was gathered
pub gathered_body : (sound : SoundSoFar) (head : ChunkHead) (n : ℕ) (part frame prop : Gathered) (version taken : List ℕ) (answered : Answered) →
    HasRead (reading (FrameWhole sound head) n part frame version prop) taken answered → head.place + 12 + head.size ≡ n → (more : List ℕ) →
    body_of (taken ++ more) (head_seen head) ≡ frame.bytes
gathered_body sound head n part frame prop version taken answered has ends more =
    let start = head.place + 12 in
    let long : length (drop start taken) ≡ head.size = omega (arith, length-drop start taken, has.count, ends) in
    ap (take head.size) (drop-append-le start taken more (omega (arith, has.count, ends)))
    ∙ take_at (drop start taken) more head.size long
    ∙ sym (has.frame refl)

-- a frame that lies in the bytes behind
pub body_behind : (taken bytes : List ℕ) (head : ChunkHead) → length taken ≡ head.place + 12 → head.size ≤ length bytes → (more : List ℕ) →
    body_of ((taken ++ take head.size bytes) ++ more) (head_seen head) ≡ take head.size bytes
body_behind taken bytes head start there more =
    let long : length (take head.size bytes) ≡ head.size = omega (arith, length-take head.size bytes, there) in
    ap (λ w. take head.size (drop (head.place + 12) w)) (append_assoc taken (take head.size bytes) more)
    ∙ ap (λ i. take head.size (drop i (taken ++ (take head.size bytes ++ more)))) (sym start)
    ∙ ap (take head.size) (drop-append_seam taken (take head.size bytes ++ more))
    ∙ take_at (take head.size bytes) more head.size long

-- ---- the end
pub ended_event : (n : ℕ) (part frame prop : Gathered) (version taken : List ℕ) (answered : Answered) →
    HasRead (reading Ended n part frame version prop) taken answered → due taken answered ≡ Some has_ended
ended_event n part frame prop version taken answered has =
    due_is_ending taken answered ended (whole taken (λ w. behind_answered answered (nothing_but ended)) has.goes_on)

pub refused_event : (fault : FileFault) (n : ℕ) (part frame prop : Gathered) (version taken : List ℕ) (answered : Answered) →
    HasRead (reading (Refused fault) n part frame version prop) taken answered → due taken answered ≡ Some (has_stopped fault)
refused_event fault n part frame prop version taken answered has =
    due_is_ending taken answered (stopped fault) (whole taken (λ w. behind_answered answered (nothing_but (stopped fault))) has.goes_on)
