-- What a step leaves, by what its event asks for.
use Rattle.std.proofs.Common.{◌≡◌, ℕ, ◌+◌, ◌-◌, ◌<◌, ◌≤◌, List, [], ◌∷◌, ◌++◌, take, Option, Some, None, Result, Ok, Err, refl, sym, ap, subst, ◌∙◌, arith}
use Rattle.std.proofs.Common.{length-append, append-nil, append_assoc}
use Rattle.std.specs.List.{concat}
use Rattle.std.specs.declared.alloc.AllocError.{AllocError}
use Rattle.dst_spec.specs.Means.{Means}
use Rattle.dst_spec.specs.Offends.{Offends}
use Rattle.dst_spec.specs.Sample.{IsShape}
use Rattle.dst_spec.specs.declared.faults.FrameFault.{FrameFault}
use Rattle.dst_spec.proofs.Lists.{all_append}
use Rattle.dsdiff_spec.specs.Form.{shape_of}
use Rattle.dsdiff_spec.specs.Words.{decode}
use Rattle.dsdiff_spec.specs.Progress.{NotRefused}
use Rattle.dsdiff_spec.specs.Streams.{Front, shape_in, stream}
use Rattle.dsdiff_spec.proofs.Lawful.{prop_has_a_shape}
use Rattle.dsdiff_spec.proofs.Progress.{zip_push}
use Rattle.stream_spec.specs.Lawful.{IsLawfulFront}
use Rattle.stream_spec.proofs.Lawful.{streams_are_lawful}
use Rattle.push_decoder.specs.Events.{Answered, nothing_answered, begun}
use Rattle.push_decoder.specs.Laws.{AreOf}
use Rattle.push_decoder.specs.Decoder.{StandsFor}
use Rattle.push_decoder.specs.declared.decoder.PushDecoder.{PushDecoder}
use Rattle.push_decoder.proofs.Pieces.{events_law}
use Rattle.dst_commands.specs.Writing.{Adds, Stops}
use Rattle.dst_commands.proofs.Writing.{adds_same, adds_then, stops_same, stops_then}
use Rattle.dst_pipes.specs.Fronts.{front_bytes}
use Rattle.dst_pipes.specs.States.{IsReady, WorksFor, Works, AreSounds, HasWritten, Wrote, BeginsSo, events_left}
use Rattle.dst_pipes.specs.Steps.{FrontCame, FrameCame, IsFrontOf, HasBegun, SoundEnds, StopsBy, GoesOn}
use Rattle.dst_pipes.specs.declared.work.Work.{Work}
use Rattle.dst_pipes.specs.declared.faults.PipeFault.{PipeFault}
use Rattle.dst_pipes.specs.declared.faults.PipeFault.TheVariants.{Read, Write, Memory, File, Frame}

-- ---- events of some bytes are those of more
pub begins_more : (taken more : List ℕ) (answered : Answered) → BeginsSo taken answered → BeginsSo (taken ++ more) answered
begins_more taken more answered begins behind =
    subst (λ w. AreOf answered (stream w)) (sym (append_assoc taken more behind)) (begins (more ++ behind))

-- what holds of all that came before it, holds of what a decoder that is ready took
pub of_ready : {P : List ℕ → Answered → Type 0} {d : PushDecoder} {work : Option Work} (r : IsReady d work) →
    ((taken : List ℕ) (answered : Answered) → StandsFor d taken answered → Works answered work → P taken answered) → P r.taken r.answered
of_ready r step = step r.taken r.answered r.stands r.works

pub is_front : {taken : List ℕ} {answered : Answered} {channels multiple frames : ℕ} {d : PushDecoder} {work : Option Work}
    (t : FrontCame taken answered channels multiple frames d work) → IsFrontOf t.front channels multiple frames d
is_front {taken} t = record { taken = taken; stands = t.stands; shape = t.shape; frame_count = t.frame_count }

pub lawful_front : (front : Front) (channels multiple frames : ℕ) (d : PushDecoder) → IsFrontOf front channels multiple frames d → IsLawfulFront front
lawful_front front channels multiple frames d t = (streams_are_lawful (t.taken ++ [])).front front (events_law d t.taken (begun front []) t.stands []).0

-- at most 1,000,000 frames are told
pub few_frames : (front : Front) (channels multiple frames : ℕ) (d : PushDecoder) → IsFrontOf front channels multiple frames d → frames ≤ 1000000
few_frames front channels multiple frames d t =
    let few = (lawful_front front channels multiple frames d t).frames in
    omega (arith, few, t.frame_count)

pub lawful_shape : (front : Front) (channels multiple frames : ℕ) (d : PushDecoder) → IsFrontOf front channels multiple frames d →
    IsShape (shape_of channels multiple)
lawful_shape front channels multiple frames d t =
    subst IsShape (sym t.shape) (prop_has_a_shape 0 front.prop (lawful_front front channels multiple frames d t).rules)

-- ---- the front is written
abbrev no_sounds : (front : Front) → AreSounds front [] []
no_sounds front = record { each = tt; none = tt }

pub begun_goes_on : (m : Work) (front : Front) (taken : List ℕ) (d : PushDecoder) (old here new : Option (List ℕ)) (room half left : Option ℕ) →
    StandsFor d taken (begun front []) → WorksFor front 0 m → Wrote nothing_answered old here room half → Adds (front_bytes front) here new half left →
    GoesOn taken d (Some m) old new room left
begun_goes_on m front taken d old here new room half left stands works wrote adds =
    record {
      answered = begun front [];
      stands = stands;
      works = (m, refl, works);
      wrote = record {
        sounds = [];
        are = no_sounds front;
        adds = adds_same (front_bytes front) (front_bytes front ++ []) old new room left (sym (append-nil (front_bytes front)))
            (subst (λ a. Adds (front_bytes front) a new room left) wrote.0 (subst (λ r. Adds (front_bytes front) here new r left) wrote.1 adds));
      };
    }

pub begun_stops : (fault : PipeFault) (front : Front) (taken piece : List ℕ) (n : ℕ) (d : PushDecoder) (old here new : Option (List ℕ))
    (room half left : Option ℕ) →
    StandsFor d (taken ++ take n piece) (begun front []) → Wrote nothing_answered old here room half → HasBegun (Err fault) front here new half left →
    StopsBy fault taken piece old new room left
begun_stops Read front taken piece n d old here new room half left stands wrote b = b
begun_stops (Memory refused) front taken piece n d old here new room half left stands wrote b = b ∙ wrote.0
begun_stops (File fault) front taken piece n d old here new room half left stands wrote b = absurd b
begun_stops (Frame k fault) front taken piece n d old here new room half left stands wrote b = absurd b
begun_stops Write front taken piece n d old here new room half left stands wrote b =
    record {
      count = n;
      front = front;
      frames = [];
      begins = events_law d (taken ++ take n piece) (begun front []) stands;
      sounds = [];
      are = no_sounds front;
      stops = stops_same (Unit {0}) (front_bytes front) (front_bytes front ++ []) old new room (sym (append-nil (front_bytes front)))
          (subst (λ a. Stops (Unit {0}) (front_bytes front) a new room) wrote.0 (subst (Stops (Unit {0}) (front_bytes front) here new) wrote.1 b));
    }

pub begun_no_read : (fault : PipeFault) (front : Front) (old new : Option (List ℕ)) (room left : Option ℕ) →
    HasBegun (Err fault) front old new room left → fault ≡ Read → ⊥
begun_no_read fault front old new room left b e = subst (λ f. HasBegun (Err f) front old new room left) e b

-- ---- a sound is written
concat_one_more : (xs : List (List ℕ)) (x : List ℕ) → concat (xs ++ x ∷ []) ≡ concat xs ++ x
concat_one_more [] x = append-nil x
concat_one_more (y ∷ ys) x = ap (λ w. y ++ w) (concat_one_more ys x) ∙ sym (append_assoc y (concat ys) x)

one_more_sound : (front : Front) (frames sounds : List (List ℕ)) (frame sound : List ℕ) → AreSounds front frames sounds →
    Means (shape_in front.prop) frame sound →
    NotRefused decode (shape_in front.prop) frame → AreSounds front (frames ++ frame ∷ []) (sounds ++ sound ∷ [])
one_more_sound front frames sounds frame sound are means none =
    record {
      each = zip_push (Means (shape_in front.prop)) frames sounds frame sound are.each means;
      none = all_append (NotRefused decode (shape_in front.prop)) frames (frame ∷ []) are.none (none, tt);
    }

pieces_are : (front : Front) (sounds : List (List ℕ)) (sound : List ℕ) →
    (front_bytes front ++ concat sounds) ++ sound ≡ front_bytes front ++ concat (sounds ++ sound ∷ [])
pieces_are front sounds sound =
    append_assoc (front_bytes front) (concat sounds) sound ∙ ap (λ w. front_bytes front ++ w) (sym (concat_one_more sounds sound))

-- how far it came before the frame, which is the last that was answered
pub wrote_before : (taken : List ℕ) (answered : Answered) (answer : Result ℕ FrameFault) (d : PushDecoder) (work : Option Work)
    (t : FrameCame taken answered answer d work)
    (old new : Option (List ℕ)) (room left : Option ℕ) → Wrote answered old new room left → HasWritten t.front t.frames old new room left
wrote_before taken answered answer d work t old new room left wrote = subst (λ a. Wrote a old new room left) t.behind wrote

abbrev pub WithOneMore : Work → Work
WithOneMore m = record m { decoded = m.decoded + 1 }

pub sound_works : (answer : Result ℕ FrameFault) (taken : List ℕ) (answered : Answered) (d : PushDecoder) (work later : Option Work)
    (t : FrameCame taken answered answer d work)
    (here new : Option (List ℕ)) (half left : Option ℕ) → SoundEnds answer (Ok tt) t.work_is later here new half left →
    Works (begun t.front (t.frames ++ t.frame ∷ [])) later
sound_works (Err fault) taken answered d work later t here new half left ends = absurd ends
sound_works (Ok tail) taken answered d work later t here new half left ends = (
  WithOneMore t.work_is,
  ends.0,
  record {
    channels = t.works.channels;
    scratch = t.works.scratch;
    sound = t.works.sound;
    frame_count = t.works.frame_count;
    decoded = (let count = t.works.decoded in omega (arith, count, length-append t.frames (t.frame ∷ [])));
  },
)

pub sound_goes_on : (answer : Result ℕ FrameFault) (taken : List ℕ) (answered : Answered) (d : PushDecoder) (work later : Option Work)
    (t : FrameCame taken answered answer d work)
    (old here new : Option (List ℕ)) (room half left : Option ℕ) → Wrote answered old here room half →
    SoundEnds answer (Ok tt) t.work_is later here new half left → GoesOn taken d later old new room left
sound_goes_on (Err fault) taken answered d work later t old here new room half left wrote ends = absurd ends
sound_goes_on (Ok tail) taken answered d work later t old here new room half left wrote ends =
    let before = wrote_before taken answered (Ok tail) d work t old here room half wrote in
    let m = t.work_is in
    record {
      answered = begun t.front (t.frames ++ t.frame ∷ []);
      stands = t.stands;
      works = sound_works (Ok tail) taken answered d work later t here new half left ends;
      wrote = record {
        sounds = before.sounds ++ m.sound.items ∷ [];
        are = one_more_sound t.front t.frames before.sounds t.frame m.sound.items before.are t.decoded.0 t.decoded.1;
        adds = adds_same _ _ old new room left (pieces_are t.front before.sounds m.sound.items)
            (adds_then (front_bytes t.front ++ concat before.sounds) m.sound.items old here new room half left before.adds ends.1);
      };
    }

pub sound_left : (answer : Result ℕ FrameFault) (taken : List ℕ) (answered : Answered) (d : PushDecoder) (first work later : Option Work)
    (t : FrameCame taken answered answer d work)
    (here new : Option (List ℕ)) (half left : Option ℕ) → Works answered first → SoundEnds answer (Ok tt) t.work_is later here new half left →
    events_left later < events_left first
sound_left (Err fault) taken answered d first work later t here new half left works ends = absurd ends
sound_left (Ok tail) taken answered d first work later t here new half left works ends =
    let m = t.work_is in
    let before = subst (λ a. Works a first) t.behind works in
    let room = t.room in
    let now : events_left later ≡ m.frame_count - (m.decoded + 1) = ap events_left ends.0 in
    let then : events_left first ≡ before.0.frame_count - before.0.decoded = ap events_left before.1 in
    let a = t.works.frame_count in
    let b = t.works.decoded in
    let c = before.2.frame_count in
    let e = before.2.decoded in
    omega (arith, room, now, then, a, b, c, e)

pub sound_stops : (answer : Result ℕ FrameFault) (fault : PipeFault) (taken piece : List ℕ) (n : ℕ) (answered : Answered) (d : PushDecoder)
    (work later : Option Work)
    (t : FrameCame (taken ++ take n piece) answered answer d work)
    (old here new : Option (List ℕ)) (room half left : Option ℕ) → Wrote answered old here room half →
    SoundEnds answer (Err fault) t.work_is later here new half left → StopsBy fault taken piece old new room left
sound_stops (Ok tail) Read taken piece n answered d work later t old here new room half left wrote ends = ends
sound_stops (Ok tail) (Memory refused) taken piece n answered d work later t old here new room half left wrote ends = absurd ends
sound_stops (Ok tail) (File f) taken piece n answered d work later t old here new room half left wrote ends = absurd ends
sound_stops (Ok tail) (Frame k f) taken piece n answered d work later t old here new room half left wrote ends = absurd ends
sound_stops (Ok tail) Write taken piece n answered d work later t old here new room half left wrote ends =
    let before = wrote_before (taken ++ take n piece) answered (Ok tail) d work t old here room half wrote in
    let m = t.work_is in
    record {
      count = n;
      front = t.front;
      frames = t.frames ++ t.frame ∷ [];
      begins = events_law d (taken ++ take n piece) (begun t.front (t.frames ++ t.frame ∷ [])) t.stands;
      sounds = before.sounds ++ m.sound.items ∷ [];
      are = one_more_sound t.front t.frames before.sounds t.frame m.sound.items before.are t.decoded.0 t.decoded.1;
      stops = stops_same (Unit {0}) _ _ old new room (pieces_are t.front before.sounds m.sound.items)
          (stops_then (Unit {0}) (front_bytes t.front ++ concat before.sounds) m.sound.items old here new room half before.adds ends);
    }
sound_stops (Err f) Read taken piece n answered d work later t old here new room half left wrote ends = ends
sound_stops (Err f) Write taken piece n answered d work later t old here new room half left wrote ends = absurd ends
sound_stops (Err f) (Memory refused) taken piece n answered d work later t old here new room half left wrote ends = absurd ends
sound_stops (Err f) (File g) taken piece n answered d work later t old here new room half left wrote ends = absurd ends
sound_stops (Err f) (Frame k g) taken piece n answered d work later t old here new room half left wrote (number, same, told, held) =
    let before = wrote_before (taken ++ take n piece) answered (Err f) d work t old here room half wrote in
    let count = t.works.decoded in
    record {
      count = n;
      front = t.front;
      frames = t.frames;
      frame = t.frame;
      begins = events_law d (taken ++ take n piece) (begun t.front (t.frames ++ t.frame ∷ [])) t.stands;
      number = number ∙ count;
      offends = subst (Offends (shape_in t.front.prop) t.frame) (sym same) t.decoded;
      wrote = subst (λ a. HasWritten t.front t.frames old a room left) (sym told) (subst (HasWritten t.front t.frames old here room) (sym held) before);
    }

pub sound_no_device : (answer : Result ℕ FrameFault) (fault : PipeFault) (m : Work) (later : Option Work) (here new : Option (List ℕ)) (half left : Option ℕ) →
    SoundEnds answer (Err fault) m later here new half left → (fault ≡ Read → ⊥) × ((refused : AllocError) → fault ≡ Memory refused → ⊥)
sound_no_device (Ok tail) Write m later here new half left ends = (λ e. absurd cc, λ refused e. absurd cc)
sound_no_device (Ok tail) Read m later here new half left ends = absurd ends
sound_no_device (Ok tail) (Memory refused) m later here new half left ends = absurd ends
sound_no_device (Ok tail) (File f) m later here new half left ends = absurd ends
sound_no_device (Ok tail) (Frame k f) m later here new half left ends = absurd ends
sound_no_device (Err g) (Frame k f) m later here new half left ends = (λ e. absurd cc, λ refused e. absurd cc)
sound_no_device (Err g) Write m later here new half left ends = absurd ends
sound_no_device (Err g) Read m later here new half left ends = absurd ends
sound_no_device (Err g) (Memory refused) m later here new half left ends = absurd ends
sound_no_device (Err g) (File f) m later here new half left ends = absurd ends

-- ---- where nothing is decoded in, nothing was before
pub both_none : (answered : Answered) (x y : Option Work) → Works answered x → Works answered y → x ≡ None → y ≡ None
both_none nothing_answered x y p q e = q
both_none (begun front frames) x y p q e = absurd (let never : Some p.0 ≡ None = sym p.1 ∙ e in cc)

pub sound_some : (answer : Result ℕ FrameFault) (m : Work) (later : Option Work) (here new : Option (List ℕ)) (half left : Option ℕ) →
    SoundEnds answer (Ok tt) m later here new half left → later ≡ None → ⊥
sound_some (Err fault) m later here new half left ends e = absurd ends
sound_some (Ok tail) m later here new half left ends e = (let never : Some (WithOneMore m) ≡ None = sym ends.0 ∙ e in absurd cc)
