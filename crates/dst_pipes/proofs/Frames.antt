-- A frame that is due: where it stands, and what it is decoded to.
use Rattle.std.proofs.Common.{◌≡◌, ℕ, ◌≤◌, List, ◌++◌, length, Some, Result, Ok, Err, sym, ap, subst, ◌∙◌, Option}
use Rattle.std.specs.Prelude.{IfOk, IfErr}
use Rattle.dst_spec.specs.Sample.{Shape, IsShape}
use Rattle.dst_spec.specs.Means.{Means, MeansWithTail}
use Rattle.dst_spec.specs.Offends.{Offends}
use Rattle.dst_spec.specs.declared.faults.FrameFault.{FrameFault}
use Rattle.dst_spec.proofs.Unique.{tail_law}
use Rattle.dsdiff_spec.specs.Words.{decode}
use Rattle.dsdiff_spec.specs.Progress.{NotRefused}
use Rattle.dsdiff_spec.specs.Streams.{Front, shape_in, stream}
use Rattle.dsdiff_spec.proofs.Lawful.{prop_has_a_shape}
use Rattle.stream_spec.proofs.Lawful.{streams_are_lawful}
use Rattle.push_decoder.specs.Events.{Answered, begun, frame_came, due}
use Rattle.push_decoder.specs.Laws.{AreOf}
use Rattle.push_decoder.specs.Decoder.{StandsFor}
use Rattle.push_decoder.specs.declared.decoder.PushDecoder.{PushDecoder}
use Rattle.push_decoder.proofs.Pieces.{events_law}
use Rattle.dst_pipes.specs.States.{Works, WorksFor}
use Rattle.dst_pipes.specs.Steps.{IsDecoded}
use Rattle.dst_pipes.specs.declared.work.Work.{Work}
use Rattle.dst_pipes.proofs.Events.{Fits, frame_is_behind, frame_fits}

pub record FrameRoom (answered : Answered) (frame : List ℕ) (m : Work) : Type 0 where
  pub front : Front
  pub frames : List (List ℕ)
  pub behind : answered ≡ begun front frames
  pub works : WorksFor front (length frames) m
  pub fits : Fits front frames frame
  pub lawful : IsShape (shape_in front.prop)
  pub few : front.frames ≤ 1000000

pub frame_room : (d : PushDecoder) (work : Option Work) (m : Work) (taken more : List ℕ) (answered : Answered) (frame : List ℕ) → StandsFor d taken answered →
    Works answered work → due (taken ++ more) answered ≡ Some (frame_came frame) → work ≡ Some m → FrameRoom answered frame m
frame_room d work m taken more answered frame has works e some =
    let p = taken ++ more in
    let behind = frame_is_behind p answered frame e in
    let mine = subst (λ a. Works a work) behind.same works in
    let is_same : Some mine.0 ≡ Some m = sym mine.1 ∙ some in
    let one : mine.0 ≡ m = cc in
    let are = subst (λ a. AreOf a (stream p)) behind.same (events_law d taken answered has more) in
    record {
      front = behind.front;
      frames = behind.frames;
      behind = behind.same;
      works = subst (WorksFor behind.front (length behind.frames)) one mine.2;
      fits = frame_fits p behind.front behind.frames frame are (ap (due p) (sym behind.same) ∙ e);
      lawful = prop_has_a_shape 0 behind.front.prop ((streams_are_lawful p).front behind.front are.0).rules;
      few = ((streams_are_lawful p).front behind.front are.0).frames;
    }

abbrev pub IsDecodedIn : Result ℕ FrameFault → Shape → List ℕ → List ℕ → Type 0
IsDecodedIn (Ok tail) f frame sound = Means f frame sound × NotRefused decode f frame
IsDecodedIn (Err fault) f frame sound = Offends f frame fault

pub decoded_is : (answer : Result ℕ FrameFault) (f : Shape) (frame sound : List ℕ) → IsShape f → IfOk answer (MeansWithTail f frame sound) →
    IfOk answer (λ _. (fault : FrameFault) → Offends f frame fault → ⊥) → IfErr answer (Offends f frame) → IsDecodedIn answer f frame sound
decoded_is (Ok tail) f frame sound lawful means none offends = ((tail_law f frame lawful).2 sound tail means, none)
decoded_is (Err fault) f frame sound lawful means none offends = offends

pub is_decoded : (answer : Result ℕ FrameFault) (f : Shape) (front : Front) (frame sound : List ℕ) (m : Work) → f ≡ shape_in front.prop →
    m.sound.items ≡ sound → IsDecodedIn answer f frame sound → IsDecoded answer front frame m
is_decoded (Ok tail) f front frame sound m e same is_it =
    (subst (λ g. Means g frame m.sound.items) e (subst (Means f frame) (sym same) is_it.0), subst (λ g. NotRefused decode g frame) e is_it.1)
is_decoded (Err fault) f front frame sound m e same is_it = subst (λ g. Offends g frame fault) e is_it
