-- How a stream ends where no byte follows what was read.
use Rattle.std.proofs.Common.{◌≡◌, ℕ, ◌<◌, List, [], ◌++◌, length, true, false, refl, sym, ap, ◌∙◌}
use Rattle.std.proofs.lemmas.List.{append-nil}
use Rattle.dsdiff_spec.specs.Streams.{Stream, stream}
use Rattle.push_decoder.specs.declared.stage.Stage.{Stage}
use Rattle.push_decoder.specs.declared.stage.Stage.TheVariants.{Start, FormHead, FormBody, FormRest, FrameCount, Opened}
use Rattle.push_decoder.specs.declared.stage.Stage.TheVariants.{SoundHead, FrameBody, SoundRest, FrameWhole, Ended, Refused}
use Rattle.push_decoder.specs.Stages.{still_to_come, lacks, is_due, part_end, IsLawful, stage_ending}
use Rattle.push_decoder.proofs.Short.{still_short}
use Rattle.push_decoder.specs.Events.{Answered, nothing_answered, begun, behind_answered}

-- the ending of a stream is that of what follows what was answered
pub ending_behind : (answered : Answered) (s : Stream) → (behind_answered answered s).ending ≡ s.ending
ending_behind nothing_answered s = refl
ending_behind (begun front frames) s = refl

pub ending_is : (taken : List ℕ) (answered : Answered) (s : List ℕ → Stream) →
    ((more : List ℕ) → stream (taken ++ more) ≡ behind_answered answered (s (taken ++ more))) → (stream taken).ending ≡ (s taken).ending
ending_is taken answered s goes =
    ap (λ w. (stream w).ending) (sym (append-nil taken)) ∙ ap (λ x. x.ending) (goes []) ∙ ending_behind answered (s (taken ++ []))
    ∙ ap (λ w. (s w).ending) (append-nil taken)

-- a stage that isn't due, while its part isn't whole
pub ending_at : (stage : Stage) (version prop w : List ℕ) → IsLawful stage → is_due stage ≡ false → (lacks stage ≡ true → length w < part_end stage) →
    (still_to_come version prop stage w).ending ≡ stage_ending stage
ending_at Start version prop w lawful undue short = ap (λ s. s.ending) (still_short Start version prop w lawful refl (short refl))
ending_at (FormHead form place) version prop w lawful undue short =
    ap (λ s. s.ending) (still_short (FormHead form place) version prop w lawful refl (short refl))
ending_at (FormBody form head) version prop w lawful undue short =
    ap (λ s. s.ending) (still_short (FormBody form head) version prop w lawful refl (short refl))
ending_at (FormRest form place end) version prop w lawful undue short =
    ap (λ s. s.ending) (still_short (FormRest form place end) version prop w lawful refl (short refl))
ending_at (FrameCount form head) version prop w lawful undue short =
    ap (λ s. s.ending) (still_short (FrameCount form head) version prop w lawful refl (short refl))
ending_at (Opened sound place) version prop w lawful undue short = absurd cc
ending_at (SoundHead sound place) version prop w lawful undue short =
    ap (λ s. s.ending) (still_short (SoundHead sound place) version prop w lawful refl (short refl))
ending_at (FrameBody sound head) version prop w lawful undue short =
    ap (λ s. s.ending) (still_short (FrameBody sound head) version prop w lawful refl (short refl))
ending_at (SoundRest sound place end) version prop w lawful undue short =
    ap (λ s. s.ending) (still_short (SoundRest sound place end) version prop w lawful refl (short refl))
ending_at (FrameWhole sound head) version prop w lawful undue short = absurd cc
ending_at Ended version prop w lawful undue short = refl
ending_at (Refused fault) version prop w lawful undue short = refl
