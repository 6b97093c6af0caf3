-- While a stage lacks bytes, nothing is due: the stream ends inside its chunk.
use Rattle.std.proofs.Common.{◌≡◌, ℕ, suc, ◌+◌, ◌-◌, ◌<◌, ◌≤◌, List, ◌++◌, length, take, Bool, true, false, None, sym, ap, ◌∙◌, arith, length-append}
use Rattle.std.proofs.Common.{append_assoc, inl, inr, drop}
use Rattle.std.proofs.lemmas.Bool.{lt-ltb, cases_order}
use Rattle.std.proofs.lemmas.List.{length-take, length-drop, take_all}
use Rattle.std.proofs.Math.Seq.{take-add}
use Rattle.dsdiff_spec.specs.Chunks.{head_at}
use Rattle.dsdiff_spec.specs.Parts.{form_end}
use Rattle.dsdiff_spec.specs.Streams.{Stream, cut_off, nothing_but, unless, form_head_fault, nothing_came, stream, in_form, frames_from}
use Rattle.dsdiff_spec.specs.Streams.{chunk_head_fault, frame_head_fault}
use Rattle.dsdiff_spec.specs.declared.faults.FileFault.TheVariants.{NotForm, Overrun}
use Rattle.dsdiff_spec.proofs.StreamSteps.{falls_short, head_is_cut, form_ends_at_head, sound_ends_at_head}
use Rattle.push_decoder.specs.declared.stage.Stage.{Stage}
use Rattle.push_decoder.specs.declared.stage.Stage.TheVariants.{Start, FormHead, FormBody, FormRest, FrameCount, Opened}
use Rattle.push_decoder.specs.declared.stage.Stage.TheVariants.{SoundHead, FrameBody, SoundRest, FrameWhole, Ended, Refused}
use Rattle.push_decoder.specs.Events.{Answered, behind_answered, due}
use Rattle.push_decoder.specs.Stages.{came_of, still_to_come, lacks, part_end, IsLawful, cut_fault}
use Rattle.push_decoder.specs.Reading.{Reading, HasRead}
use Rattle.push_decoder.specs.Told.{NothingBefore}
use Rattle.push_decoder.proofs.Due.{due_is_ending}

at_length : Bool → List ℕ → Stream
at_length b w = elim b [
  | true ↦ nothing_but (cut_off NotForm)
  | false ↦ unless (form_head_fault w) (in_form w (form_end w) 1024 nothing_came 16)
]

start_short : (w : List ℕ) → length w < 16 → stream w ≡ nothing_but (cut_off NotForm)
unfolding at_length stream
start_short w lt = ap (λ b. at_length b w) (lt-ltb (length w) 16 lt)

pub still_short : (stage : Stage) (version prop w : List ℕ) → IsLawful stage → lacks stage ≡ true → length w < part_end stage →
    still_to_come version prop stage w ≡ nothing_but (cut_off (cut_fault stage))
still_short Start version prop w lawful lacking lt = start_short w lt
still_short (FormHead form place) version prop w lawful lacking lt =
    let more : 1024 - form.chunks ≡ suc (1023 - form.chunks) = omega (arith, lawful.1) in
    ap (λ n. in_form w form.end n (came_of form version prop) place) more
    ∙ form_ends_at_head w form.end (1023 - form.chunks) (came_of form version prop) place (cut_off (Overrun place)) (omega (arith, lawful.2))
    (head_is_cut w form.end place (chunk_head_fault form.end (came_of form version prop) (head_at w place)) lawful.2 lt)
still_short (FormBody form head) version prop w lawful lacking lt = falls_short w head.place (head.place + 12 + head.size) _ lt
still_short (FormRest form place end) version prop w lawful lacking lt = falls_short w place end _ lt
still_short (FrameCount form head) version prop w lawful lacking lt = falls_short w (head.place + 12) (head.place + 12 + 18) _ lt
still_short (Opened sound place) version prop w lawful lacking lt = absurd cc
still_short (SoundHead sound place) version prop w lawful lacking lt =
    let more : 4000000 - sound.chunks ≡ suc (3999999 - sound.chunks) = omega (arith, lawful.1) in
    ap (λ n. frames_from w sound.channels sound.frame_count sound.end n sound.found place) more
    ∙ sound_ends_at_head w sound.channels sound.frame_count sound.end (3999999 - sound.chunks) sound.found place (cut_off (Overrun place))
    (omega (arith, lawful.2))
    (head_is_cut w sound.end place (frame_head_fault sound.channels sound.frame_count sound.end sound.found (head_at w place)) lawful.2 lt)
still_short (FrameBody sound head) version prop w lawful lacking lt = falls_short w head.place (head.place + 12 + head.size) _ lt
still_short (SoundRest sound place end) version prop w lawful lacking lt = falls_short w place end _ lt
still_short (FrameWhole sound head) version prop w lawful lacking lt = absurd cc
still_short Ended version prop w lawful lacking lt = absurd cc
still_short (Refused fault) version prop w lawful lacking lt = absurd cc

pub nothing_due : (d : Reading) (taken more : List ℕ) (answered : Answered) → HasRead d taken answered → IsLawful d.stage → lacks d.stage ≡ true →
    d.taken + length more < part_end d.stage → due (taken ++ more) answered ≡ None
nothing_due d taken more answered has lawful lacking lt =
    due_is_ending (taken ++ more) answered (cut_off (cut_fault d.stage))
    (has.goes_on more
    ∙ ap (behind_answered answered)
    (still_short d.stage d.version d.prop.bytes (taken ++ more) lawful lacking (omega (arith, lt, has.count, length-append taken more))))

pub nothing_before : (d : Reading) (taken bytes : List ℕ) (answered : Answered) (n : ℕ) → HasRead d taken answered → IsLawful d.stage → lacks d.stage ≡ true →
    d.taken + n ≤ part_end d.stage → NothingBefore taken bytes answered n
nothing_before d taken bytes answered n has lawful lacking le j lt =
    nothing_due d taken (take j bytes) answered has lawful lacking (omega (arith, lt, le, length-take j bytes))

-- the rest of a piece, as a slice of it
pub rest_of : (piece : List ℕ) (n : ℕ) → take (length piece - n) (drop n piece) ≡ drop n piece
rest_of piece n = take_all (length piece - n) (drop n piece) (omega (arith, length-drop n piece))

-- so many bytes of a piece, and more
pub and_more : (taken piece : List ℕ) (m n : ℕ) → (taken ++ take m piece) ++ take n (drop m piece) ≡ taken ++ take (m + n) piece
and_more taken piece m n = append_assoc taken (take m piece) (take n (drop m piece)) ∙ ap (λ w. taken ++ w) (sym (take-add m n piece))

pub before_more : (taken piece : List ℕ) (answered : Answered) (m n : ℕ) → NothingBefore taken piece answered m →
    NothingBefore (taken ++ take m piece) (drop m piece) answered n → NothingBefore taken piece answered (m + n)
before_more taken piece answered m n first later j lt = elim (cases_order j m) [
  | inl same ↦ (
      let none : j ≡ m + (j - m) = omega (arith, same) in
      ap (λ i. due (taken ++ take i piece) answered) none ∙ ap (λ w. due w answered) (sym (and_more taken piece m (j - m)))
      ∙ later (j - m) (omega (arith, lt, same))
      )
  | inr (inl less) ↦ first j less
  | inr (inr more) ↦ (
      let there : j ≡ m + (j - m) = omega (arith, more) in
      ap (λ i. due (taken ++ take i piece) answered) there ∙ ap (λ w. due w answered) (sym (and_more taken piece m (j - m)))
      ∙ later (j - m) (omega (arith, lt, more))
      )
]
