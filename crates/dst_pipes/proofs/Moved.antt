-- What a step says of the rest of a piece, of the whole piece.
use Rattle.std.proofs.Common.{◌≡◌, ℕ, ◌+◌, ◌-◌, ◌≤◌, List, [], ◌∷◌, ◌++◌, length, take, drop, Option, None, sym, ap, subst, ◌∙◌, arith, length-drop}
use Rattle.std.proofs.lemmas.List.{take_all}
use Rattle.dsdiff_spec.specs.Streams.{stream}
use Rattle.push_decoder.specs.Decoder.{StandsFor}
use Rattle.push_decoder.specs.Events.{Answered, due, begun}
use Rattle.push_decoder.specs.declared.decoder.PushDecoder.{PushDecoder}
use Rattle.push_decoder.proofs.Short.{rest_of, and_more}
use Rattle.dst_pipes.specs.States.{Works, Wrote, BeginsSo}
use Rattle.dst_pipes.specs.Steps.{GoesOn, StopsBy}
use Rattle.dst_pipes.specs.declared.work.Work.{Work}
use Rattle.dst_pipes.specs.declared.faults.PipeFault.{PipeFault}
use Rattle.dst_pipes.specs.declared.faults.PipeFault.TheVariants.{Read, Write, Memory, File, Frame}
use Rattle.dst_pipes.proofs.Runs.{split_at}

-- what a step says of all that came before it, it says behind the bytes that the loop took
pub of_step : {P : List ℕ → Option (List ℕ) → Option ℕ → Type 0} {d : PushDecoder} {work : Option Work} {now : Option (List ℕ)} {left : Option ℕ} {p : List ℕ}
    {old : Option (List ℕ)} {room : Option ℕ} →
    ((p : List ℕ) (answered : Answered) → StandsFor d p answered → Works answered work → (old : Option (List ℕ)) (room : Option ℕ) →
    Wrote answered old now room left → P p old room) → GoesOn p d work old now room left → P p old room
of_step step goes = step _ goes.answered goes.stands goes.works _ _ goes.wrote

-- where no front comes, a step behind them leaves the sink as the piece found it
pub step_stays : {K : Type 0} {first now new : K} {d : PushDecoder} {work : Option Work} {old here : Option (List ℕ)} {room left : Option ℕ}
    (taken piece more : List ℕ) (m : ℕ) → GoesOn (taken ++ take m piece) d work old here room left →
    ((p more : List ℕ) (answered : Answered) → StandsFor d p answered → Works answered work →
    (stream (p ++ (take (length piece - m) (drop m piece) ++ more))).front ≡ None → new ≡ now) →
    (stream (taken ++ (piece ++ more))).front ≡ None → now ≡ first → new ≡ first
step_stays taken piece more m goes step none before =
    let same = split_at taken piece more m ∙ ap (λ w. (taken ++ take m piece) ++ (w ++ more)) (sym (rest_of piece m)) in
    step (taken ++ take m piece) more goes.answered goes.stands goes.works (subst (λ w. (stream w).front ≡ None) same none) ∙ before

pub stops_moved : (fault : PipeFault) (taken piece : List ℕ) (m : ℕ) (old new : Option (List ℕ)) (room left : Option ℕ) →
    StopsBy fault (taken ++ take m piece) (drop m piece) old new room left → StopsBy fault taken piece old new room left
stops_moved Read taken piece m old new room left s = s
stops_moved (Memory refused) taken piece m old new room left s = s
stops_moved Write taken piece m old new room left s =
    record {
      count = m + s.count;
      front = s.front;
      frames = s.frames;
      begins = subst (λ p. BeginsSo p (begun s.front s.frames)) (and_more taken piece m s.count) s.begins;
      sounds = s.sounds;
      are = s.are;
      stops = s.stops;
    }
stops_moved (File fault) taken piece m old new room left s =
    record {
      count = m + s.count;
      answered = s.answered;
      begins = subst (λ p. BeginsSo p s.answered) (and_more taken piece m s.count) s.begins;
      due = ap (λ p. due p s.answered) (sym (and_more taken piece m s.count)) ∙ s.due;
      wrote = s.wrote;
    }
stops_moved (Frame k fault) taken piece m old new room left s =
    record {
      count = m + s.count;
      front = s.front;
      frames = s.frames;
      frame = s.frame;
      begins = subst (λ p. BeginsSo p (begun s.front (s.frames ++ s.frame ∷ []))) (and_more taken piece m s.count) s.begins;
      number = s.number;
      offends = s.offends;
      wrote = s.wrote;
    }

pub whole_piece : (taken piece : List ℕ) (m n : ℕ) → n ≡ length (drop m piece) → m ≤ length piece →
    (taken ++ take m piece) ++ take n (drop m piece) ≡ taken ++ piece
whole_piece taken piece m n e le =
    and_more taken piece m n ∙ ap (λ w. taken ++ w) (take_all (m + n) piece (omega (arith, e, le, length-drop m piece)))
