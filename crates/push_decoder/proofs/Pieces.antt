-- What was answered is what a stream begins with, and all of it where nothing is due.
use Rattle.std.proofs.Common.{◌≡◌, ℕ, List, [], ◌∷◌, ◌++◌, length, take, drop, Option, Some, None, refl, sym, ap, subst, ◌∙◌, take-append-drop, append-nil}
use Rattle.std.proofs.Math.Seq.{take-append_seam}
use Rattle.dsdiff_spec.specs.Streams.{Ending, Front, stream}
use Rattle.push_decoder.specs.Events.{Answered, nothing_answered, begun, front_event, frame_event}
use Rattle.push_decoder.specs.Decoder.{StandsFor}
use Rattle.push_decoder.specs.declared.decoder.PushDecoder.{PushDecoder}
use Rattle.push_decoder.specs.Laws.{AreOf, EventsLaw, PiecesLaw}

pub events_law : EventsLaw
events_law d taken nothing_answered has more = tt {0}
events_law d taken (begun front frames) has more =
    let e = has.goes_on more in (
      ap (λ s. s.front) e,
      ap (λ s. take (length frames) s.frames) e ∙ take-append_seam frames _,
    )

pub no_more_frames : (frames : List (List ℕ)) (ending : Ending) → frame_event frames ending ≡ None → frames ≡ []
no_more_frames [] ending e = refl
no_more_frames (f ∷ fs) ending e = absurd cc

-- of the bytes that were taken
at_taken : (d : PushDecoder) (taken : List ℕ) (answered : Answered) → StandsFor d taken answered → AreOf answered (stream taken)
at_taken d taken answered has = subst (λ w. AreOf answered (stream w)) (append-nil taken) (events_law d taken answered has [])

all_came : (frames all : List (List ℕ)) (ending : Ending) → take (length frames) all ≡ frames → frame_event (drop (length frames) all) ending ≡ None →
    all ≡ frames
all_came frames all ending first none =
    sym (take-append-drop (length frames) all)
    ∙ ap (λ behind. take (length frames) all ++ behind) (no_more_frames (drop (length frames) all) ending none)
    ∙ append-nil (take (length frames) all)
    ∙ first

no_front : (front : Option Front) (ending : Ending) (f : Front) → front_event front ending ≡ None → front ≡ Some f → ⊥
no_front None ending f none e = absurd cc
no_front (Some g) ending f none e = absurd cc

pub pieces_law : PiecesLaw
pieces_law d e taken nothing_answered nothing_answered has other none also = refl
pieces_law d e taken nothing_answered (begun g gs) has other none also =
    absurd (no_front (stream taken).front (stream taken).ending g none (at_taken e taken (begun g gs) other).0)
pieces_law d e taken (begun f fs) nothing_answered has other none also =
    absurd (no_front (stream taken).front (stream taken).ending f also (at_taken d taken (begun f fs) has).0)
pieces_law d e taken (begun f fs) (begun g gs) has other none also =
    let a = at_taken d taken (begun f fs) has in
    let b = at_taken e taken (begun g gs) other in
    let fronts : Some f ≡ Some g = sym a.0 ∙ b.0 in
    let front : f ≡ g = cc in
    let frames : fs ≡ gs = sym (all_came fs (stream taken).frames (stream taken).ending a.1 none)
    ∙ all_came gs (stream taken).frames (stream taken).ending b.1 also in
    ap (λ x. begun x fs) front ∙ ap (begun g) frames
