-- Bytes that are gathered, and the next stage where a part is whole: what was read stays what was read.
use Rattle.std.proofs.Common.{◌≡◌, ℕ, ◌+◌, ◌-◌, ◌≤◌, List, [], ◌++◌, length, take, drop, Bool, true, false, refl, sym, ap, ◌∙◌, arith, append_assoc}
use Rattle.std.proofs.Common.{length-append}
use Rattle.std.proofs.lemmas.List.{drop-append-le, length-drop, take_at, drop_all}
use Rattle.dsdiff_spec.specs.Streams.{stream}
use Rattle.push_decoder.specs.Gathered.{Gathered}
use Rattle.push_decoder.specs.Events.{Answered, nothing_answered, begun, behind_answered}
use Rattle.push_decoder.specs.Stages.{still_to_come, is_looked_at, is_frame, part_start, part_end, IsFresh, HasPart, StageTells, version_then, prop_then}
use Rattle.push_decoder.specs.Reading.{Reading, AnsweredAt, HasFront, HasRead}
use Rattle.push_decoder.specs.declared.stage.Stage.{Stage}
use Rattle.push_decoder.specs.declared.stage.Stage.TheVariants.{Start, FormHead, FormBody, FormRest, FrameCount, Opened}
use Rattle.push_decoder.specs.declared.stage.Stage.TheVariants.{SoundHead, FrameBody, SoundRest, FrameWhole, Ended, Refused}

abbrev pub reading : Stage → ℕ → Gathered → Gathered → List ℕ → Gathered → Reading
reading stage n part frame version prop = record { stage = stage; taken = n; part = part; frame = frame; version = version; prop = prop }

-- bytes from a place on, with more behind them
from_place : (taken bytes : List ℕ) (place : ℕ) → place ≤ length taken → drop place (taken ++ bytes) ≡ drop place taken ++ bytes
from_place taken bytes place le = drop-append-le place taken bytes le

-- ---- more bytes
pub more_gathered : (stage : Stage) (n m : ℕ) (part part' frame frame' prop : Gathered) (version taken bytes : List ℕ) (answered : Answered) →
    HasRead (reading stage n part frame version prop) taken answered → part_start stage ≤ n → m ≡ n + length bytes →
    (is_looked_at stage ≡ true → part'.bytes ≡ part.bytes ++ bytes) → (is_frame stage ≡ true → frame'.bytes ≡ frame.bytes ++ bytes) →
    HasRead (reading stage m part' frame' version prop) (taken ++ bytes) answered
more_gathered stage n m part part' frame frame' prop version taken bytes answered has le sum p f = record {
  count = sum ∙ ap (λ i. i + length bytes) has.count ∙ sym (length-append taken bytes);
  part = λ looked. p looked ∙ ap (λ x. x ++ bytes) (has.part looked) ∙ sym (from_place taken bytes (part_start stage) (omega (arith, le, has.count)));
  frame = λ is_frame. f is_frame ∙ ap (λ x. x ++ bytes) (has.frame is_frame) ∙ sym (from_place taken bytes (part_start stage) (omega (arith, le, has.count)));
  tells = has.tells;
  at_stage = has.at_stage;
  front = has.front;
  goes_on = λ more.
      ap stream (append_assoc taken bytes more) ∙ has.goes_on (bytes ++ more)
      ∙ ap (λ w. behind_answered answered (still_to_come version prop.bytes stage w)) (sym (append_assoc taken bytes more));
}

-- ---- the part is whole
-- the front is that of the bodies that came: a body of the form comes before it
pub front_stays : (stage : Stage) (answered : Answered) (version prop part : List ℕ) → AnsweredAt stage answered → HasFront answered version prop →
    HasFront answered (version_then stage part version) (prop_then stage part prop)
front_stays stage nothing_answered version prop part at has = tt
front_stays Start (begun front frames) version prop part at has = has
front_stays (FormHead form place) (begun front frames) version prop part at has = has
front_stays (FormBody form head) (begun front frames) version prop part at has = absurd cc
front_stays (FormRest form place end) (begun front frames) version prop part at has = has
front_stays (FrameCount form head) (begun front frames) version prop part at has = has
front_stays (Opened sound place) (begun front frames) version prop part at has = has
front_stays (SoundHead sound place) (begun front frames) version prop part at has = has
front_stays (FrameBody sound head) (begun front frames) version prop part at has = has
front_stays (SoundRest sound place end) (begun front frames) version prop part at has = has
front_stays (FrameWhole sound head) (begun front frames) version prop part at has = has
front_stays Ended (begun front frames) version prop part at has = has
front_stays (Refused fault) (begun front frames) version prop part at has = has

-- what was gathered is the part, whatever follows
pub part_in : (stage : Stage) (n : ℕ) (part frame prop : Gathered) (version taken more : List ℕ) (answered : Answered) →
    HasRead (reading stage n part frame version prop) taken answered → part_start stage ≤ n → n ≡ part_end stage →
    HasPart stage (taken ++ more) part.bytes
part_in stage n part frame prop version taken more answered has le whole = record {
  there = omega (arith, whole, has.count, length-append taken more);
  same = λ looked.
      let long : length (drop (part_start stage) taken) ≡ part_end stage - part_start stage =
      length-drop (part_start stage) taken ∙ ap (λ i. i - part_start stage) (sym has.count ∙ whole) in
      ap (take (part_end stage - part_start stage)) (from_place taken more (part_start stage) (omega (arith, le, has.count)))
      ∙ take_at (drop (part_start stage) taken) more (part_end stage - part_start stage) long
      ∙ sym (has.part looked);
}

frame_stays : (b : Bool) (P : Type 0) → (b ≡ true → P) → (b ≡ false → P) → P
frame_stays true P then_is else_is = then_is refl
frame_stays false P then_is else_is = else_is refl

pub moved : (stage next : Stage) (n : ℕ) (part part' frame frame' prop prop' : Gathered) (version version' taken : List ℕ) (answered : Answered) →
    HasRead (reading stage n part frame version prop) taken answered → part_start stage ≤ n → n ≡ part_end stage →
    version' ≡ version_then stage part.bytes version → prop'.bytes ≡ prop_then stage part.bytes prop.bytes →
    ((w version prop : List ℕ) → StageTells stage prop → HasPart stage w part.bytes →
    still_to_come version prop stage w ≡ still_to_come (version_then stage part.bytes version) (prop_then stage part.bytes prop) next w) →
    ((prop : List ℕ) → StageTells stage prop → StageTells next (prop_then stage part.bytes prop)) →
    ((answered : Answered) → AnsweredAt stage answered → AnsweredAt next answered) →
    (is_frame stage ≡ false → IsFresh next (part_end stage)) →
    (is_frame stage ≡ true → (is_looked_at next ≡ false) × (part_start next ≡ part_start stage)) →
    part'.bytes ≡ [] → (is_frame stage ≡ true → frame'.bytes ≡ frame.bytes) → (is_frame stage ≡ false → frame'.bytes ≡ []) →
    HasRead (reading next n part' frame' version' prop') taken answered
moved stage next n part part' frame frame' prop prop' version version' taken answered has le whole v p goes tells at fresh same none stays cleared =
    let dropped : drop (part_end stage) taken ≡ [] = drop_all (part_end stage) taken (omega (arith, whole, has.count)) in
    record {
      count = has.count;
      part = λ looked. frame_stays (is_frame stage) _
          (λ held. (let unlooked : is_looked_at next ≡ false = (same held).0 in absurd cc))
          (λ lost. none ∙ sym dropped ∙ ap (λ i. drop i taken) (sym ((fresh lost).part looked)));
      frame = λ framed. frame_stays (is_frame stage) _
          (λ held. stays held ∙ has.frame held ∙ ap (λ i. drop i taken) (sym (same held).1))
          (λ lost. cleared lost ∙ sym dropped ∙ ap (λ i. drop i taken) (sym ((fresh lost).frame framed)));
      tells = rw p (tells prop.bytes has.tells);
      at_stage = at answered has.at_stage;
      front = rw (v, p) (front_stays stage answered version prop.bytes part.bytes has.at_stage has.front);
      goes_on = λ more.
          has.goes_on more
          ∙ ap (behind_answered answered)
          (goes (taken ++ more) version prop.bytes has.tells (part_in stage n part frame prop version taken more answered has le whole)
          ∙ ap (λ x. still_to_come x (prop_then stage part.bytes prop.bytes) next (taken ++ more)) (sym v)
          ∙ ap (λ x. still_to_come version' x next (taken ++ more)) (sym p));
    }
