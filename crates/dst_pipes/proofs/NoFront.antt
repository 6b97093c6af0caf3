-- A stream that has no front: nothing of it is answered, and no event of it comes.
use Rattle.std.proofs.Common.{◌≡◌, ℕ, List, ◌++◌, take, drop, Option, Some, None, subst}
use Rattle.dsdiff_spec.specs.Streams.{Front, stream}
use Rattle.push_decoder.specs.Decoder.{StandsFor}
use Rattle.push_decoder.specs.Events.{Answered, nothing_answered, begun}
use Rattle.push_decoder.specs.Laws.{AreOf}
use Rattle.push_decoder.specs.declared.decoder.PushDecoder.{PushDecoder}
use Rattle.push_decoder.proofs.Pieces.{events_law}
use Rattle.dst_pipes.specs.States.{Works, BeginsSo}
use Rattle.dst_pipes.specs.declared.work.Work.{Work}
use Rattle.dst_pipes.proofs.Waiting.{IsWaiting}
use Rattle.dst_pipes.proofs.Runs.{split_at}

not_both : (front : Option Front) (f : Front) → front ≡ Some f → front ≡ None → ⊥
not_both front f some none = cc

-- bytes that begin with a front have one
pub none_begun : (taken piece more : List ℕ) (n : ℕ) (front : Front) (frames : List (List ℕ)) → BeginsSo (taken ++ take n piece) (begun front frames) →
    (stream (taken ++ (piece ++ more))).front ≡ None → ⊥
none_begun taken piece more n front frames begins none =
    not_both (stream ((taken ++ take n piece) ++ (drop n piece ++ more))).front front (begins (drop n piece ++ more)).0
    (subst (λ w. (stream w).front ≡ None) (split_at taken piece more n) none)

pub no_event : (d : PushDecoder) (taken piece more : List ℕ) (n : ℕ) (front : Front) (frames : List (List ℕ)) →
    StandsFor d (taken ++ take n piece) (begun front frames) → (stream (taken ++ (piece ++ more))).front ≡ None → ⊥
no_event d taken piece more n front frames stands none =
    none_begun taken piece more n front frames (events_law d (taken ++ take n piece) (begun front frames) stands) none

-- nothing is decoded
no_work : (answered : Answered) (work : Option Work) (w : List ℕ) → AreOf answered (stream w) → Works answered work → (stream w).front ≡ None → work ≡ None
no_work nothing_answered work w are works none = works
no_work (begun front frames) work w are works none = absurd (not_both (stream w).front front are.0 none)

-- nor is anything while more bytes are waited for
pub no_work_yet : {d : PushDecoder} {work : Option Work} {read : ℕ} {old new : Option (List ℕ)} {room left : Option ℕ} {first now : Option (List ℕ)} →
    IsWaiting d work read old new room left first now → (w : List ℕ) → first ≡ Some w → (stream w).front ≡ None → work ≡ None
no_work_yet at w told none =
    let flow = at.flow w told in
    no_work at.waits.answered _ (at.taken ++ flow.0) (events_law _ at.taken at.waits.answered at.waits.stands flow.0) at.waits.works
    (subst (λ v. (stream v).front ≡ None) flow.2 none)
