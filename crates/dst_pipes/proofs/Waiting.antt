-- A stream that waits for more bytes, and one that has ended or stopped in a piece.
use Rattle.std.proofs.Common.{◌≡◌, ℕ, List, [], ◌∷◌, ◌++◌, length, drop, Option, Some, None, refl, subst}
use Rattle.dsdiff_spec.specs.Streams.{ended, Front, stream}
use Rattle.push_decoder.specs.Events.{Answered, nothing_answered, begun, front_event, frame_event, due}
use Rattle.push_decoder.specs.declared.decoder.PushDecoder.{PushDecoder}
use Rattle.dst_pipes.specs.Steps.{Waits}
use Rattle.dst_pipes.specs.declared.work.Work.{Work}

-- so many bytes were read, and all of them taken; nothing is due of them
pub record IsWaiting (d : PushDecoder) (work : Option Work) (read : ℕ) (old new : Option (List ℕ)) (room left : Option ℕ)
    (left_then left_now : Option (List ℕ)) : Type 0 where
  pub taken : List ℕ
  pub waits : Waits taken d work old new room left
  pub count : read ≡ length taken
  pub flow : (w : List ℕ) → left_then ≡ Some w → (rest : List ℕ) × (left_now ≡ Some rest) × (w ≡ taken ++ rest)

-- of no bytes nothing is due
pub nothing_due : due [] nothing_answered ≡ None
unfolding stream
nothing_due = refl

-- a stream that waits hasn't ended
no_end : (front : Option Front) → front_event front ended ≡ None → ⊥
no_end None e = absurd cc
no_end (Some f) e = absurd cc

no_end_behind : (frames : List (List ℕ)) → frame_event frames ended ≡ None → ⊥
no_end_behind [] e = absurd cc
no_end_behind (f ∷ fs) e = absurd cc

pub waits_for_more : (p : List ℕ) (answered : Answered) → due p answered ≡ None → (stream p).ending ≡ ended → ⊥
waits_for_more p nothing_answered none e = no_end (stream p).front (subst (λ x. front_event (stream p).front x ≡ None) e none)
waits_for_more p (begun f fs) none e = no_end_behind (drop (length fs) (stream p).frames)
    (subst (λ x. frame_event (drop (length fs) (stream p).frames) x ≡ None) e none)
