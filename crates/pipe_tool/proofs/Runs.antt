-- What an answer to a stream says of the run.
use Rattle.std.proofs.Common.{◌≡◌, ◌⊎◌, inl, inr, ℕ, ◌+◌, ◌<◌, ◌≤◌, List, [], ◌∷◌, length, Option, Some, Result, Ok, Err, Bool, true, false, refl, sym, ap}
use Rattle.std.proofs.Common.{subst, ◌∙◌, arith}
use Rattle.std.specs.Prelude.{IfOk}
use Rattle.std.specs.declared.alloc.AllocError.{AllocError}
use Rattle.dst_spec.specs.declared.faults.FrameFault.{FrameFault}
use Rattle.dst_streams.specs.Told.{and_then, IsCutShort}
use Rattle.dst_spec.specs.Bits.{AreBytes}
use Rattle.dst_spec.proofs.Lists.{get_all}
use Rattle.dsdiff_spec.specs.declared.faults.FileFault.{FileFault}
use Rattle.dsdiff_spec.specs.Lines.{Line, report, words_line, decoded_line}
use Rattle.dsdiff_spec.specs.Words.{Word, decode}
use Rattle.dsdiff_spec.specs.Progress.{NotRefused}
use Rattle.dsdiff_spec.specs.Outcome.{Answer, done, not_understood, frame_refused}
use Rattle.dsdiff_spec.specs.Streams.{Front, ended, shape_in, stream}
use Rattle.stream_spec.specs.Outcome.{StreamOutcome, OfStream, IsStopped, IsThrough, at_ending, stream_refused}
use Rattle.stream_spec.proofs.OneOutcome.{one_outcome}
use Rattle.dst_pipes.specs.Endings.{PipeEnds}
use Rattle.dst_pipes.specs.declared.faults.Piped.{Piped}
use Rattle.dst_pipes.specs.declared.faults.PipeFault.{PipeFault}
use Rattle.dst_pipes.specs.declared.faults.PipeFault.TheVariants.{Read, Write, Memory, File, Frame}
use Rattle.pipe_tool.specs.Runs.{status_of, line_of, OfWords, EndsAsOne, EndsByStream, Reports, DidNotRise, NoFrameIsRefused}
use Rattle.dst_commands.proofs.Writing.{and_then-nothing}
use Rattle.dst_streams.specs.Causes.{Rose}

-- ---- the clauses of the call, put together
pub ends_of : (a : Result Piped PipeFault) (flow old new : Option (List ℕ)) (room : Option ℕ) →
    IfOk a (λ s. (w : List ℕ) → flow ≡ Some w → (out : List ℕ) × StreamOutcome w (done out (decoded_line s.frames s.bytes ∷ [])) × (new ≡ and_then old out)) →
    ((fault : FileFault) → a ≡ Err (File fault) → (w : List ℕ) → flow ≡ Some w → (out : List ℕ) × StreamOutcome w (stream_refused fault out)
    × (new ≡ and_then old out)) →
    ((k : ℕ) (fault : FrameFault) → a ≡ Err (Frame k fault) → (w : List ℕ) → flow ≡ Some w → (out : List ℕ)
    × StreamOutcome w (frame_refused k fault out) × (new ≡ and_then old out)) →
    ((a ≡ Err Read) ⊎ (a ≡ Err Write) → (w : List ℕ) → flow ≡ Some w → (o : Answer) × StreamOutcome w o × IsCutShort old o.out new) →
    (a ≡ Err Write → (w : List ℕ) → flow ≡ Some w → (o : Answer) → StreamOutcome w o → (n : ℕ) → room ≡ Some n → length o.out ≤ n → ⊥) →
    ((refused : AllocError) → a ≡ Err (Memory refused) → new ≡ old) → (w : List ℕ) → flow ≡ Some w → PipeEnds a w old new room
ends_of (Ok s) flow old new room ok file frame short lacks memory w told = (let e = ok w told in (e.0, (e.1, e.2)))
ends_of (Err Read) flow old new room ok file frame short lacks memory w told = short (inl refl) w told
ends_of (Err Write) flow old new room ok file frame short lacks memory w told = (short (inr refl) w told, lacks refl w told)
ends_of (Err (Memory refused)) flow old new room ok file frame short lacks memory w told = memory refused refl
ends_of (Err (File fault)) flow old new room ok file frame short lacks memory w told = (let e = file fault refl w told in (e.0, (e.1, e.2)))
ends_of (Err (Frame k fault)) flow old new room ok file frame short lacks memory w told = (let e = frame k fault refl w told in (e.0, (e.1, e.2)))

-- ---- how the run ends
pub ends_by : (a : Result Piped PipeFault) (w : List ℕ) (old new : Option (List ℕ)) (room : Option ℕ) → PipeEnds a w old new room →
    EndsByStream true w (status_of a) (line_of a ∷ []) old new
ends_by (Ok s) w old new room e = inr (inr (inr (done e.0 (decoded_line s.frames s.bytes ∷ []), e.1.0, refl, refl, e.1.1)))
ends_by (Err Read) w old new room e = inl (refl, refl, e)
ends_by (Err Write) w old new room e = inr (inl (refl, refl, e.0))
ends_by (Err (Memory refused)) w old new room e = inr (inr (inl (refl, refl, refl, e)))
ends_by (Err (File fault)) w old new room e = inr (inr (inr (stream_refused fault e.0, e.1.0, refl, refl, e.1.1)))
ends_by (Err (Frame k fault)) w old new room e = inr (inr (inr (frame_refused k fault e.0, e.1.0, refl, refl, e.1.1)))

pub ends_as : (a : Result Piped PipeFault) (w : List ℕ) (old new : Option (List ℕ)) (room : Option ℕ) → PipeEnds a w old new room →
    (a ≡ Err Read → ⊥) → (a ≡ Err Write → ⊥) →
    (status_of a ≡ 4) ⊎ EndsAsOne (StreamOutcome w) (status_of a) (line_of a ∷ []) old new
ends_as (Ok s) w old new room e read write = inr (done e.0 (decoded_line s.frames s.bytes ∷ []), e.1.0, refl, refl, e.1.1)
ends_as (Err Read) w old new room e read write = absurd (read refl)
ends_as (Err Write) w old new room e read write = absurd (write refl)
ends_as (Err (Memory refused)) w old new room e read write = inl refl
ends_as (Err (File fault)) w old new room e read write = inr (stream_refused fault e.0, e.1.0, refl, refl, e.1.1)
ends_as (Err (Frame k fault)) w old new room e read write = inr (frame_refused k fault e.0, e.1.0, refl, refl, e.1.1)

-- ---- an answer by its status
pub read_of : (a : Result Piped PipeFault) → status_of a ≡ 2 → a ≡ Err Read
read_of (Ok s) e = absurd cc
read_of (Err Read) e = refl
read_of (Err Write) e = absurd cc
read_of (Err (Memory refused)) e = absurd cc
read_of (Err (File fault)) e = absurd cc
read_of (Err (Frame k fault)) e = absurd cc

pub write_of : (a : Result Piped PipeFault) → status_of a ≡ 3 → a ≡ Err Write
write_of (Ok s) e = absurd cc
write_of (Err Read) e = absurd cc
write_of (Err Write) e = refl
write_of (Err (Memory refused)) e = absurd cc
write_of (Err (File fault)) e = absurd cc
write_of (Err (Frame k fault)) e = absurd cc

pub memory_of : (a : Result Piped PipeFault) → status_of a ≡ 4 → (refused : AllocError) × (a ≡ Err (Memory refused))
memory_of (Ok s) e = absurd cc
memory_of (Err Read) e = absurd cc
memory_of (Err Write) e = absurd cc
memory_of (Err (Memory refused)) e = (refused, refl)
memory_of (Err (File fault)) e = absurd cc
memory_of (Err (Frame k fault)) e = absurd cc

pub file_of : (a : Result Piped PipeFault) → status_of a ≡ 5 → (fault : FileFault) × (a ≡ Err (File fault))
file_of (Ok s) e = absurd cc
file_of (Err Read) e = absurd cc
file_of (Err Write) e = absurd cc
file_of (Err (Memory refused)) e = absurd cc
file_of (Err (File fault)) e = (fault, refl)
file_of (Err (Frame k fault)) e = absurd cc

pub frame_of : (a : Result Piped PipeFault) → status_of a ≡ 6 → (k : ℕ) × (fault : FrameFault) × (a ≡ Err (Frame k fault))
frame_of (Ok s) e = absurd cc
frame_of (Err Read) e = absurd cc
frame_of (Err Write) e = absurd cc
frame_of (Err (Memory refused)) e = absurd cc
frame_of (Err (File fault)) e = absurd cc
frame_of (Err (Frame k fault)) e = (k, fault, refl)

pub settled_of : (a : Result Piped PipeFault) (P : Type 0) → status_of a ≡ 0 → IfOk a (λ s. P) → P
settled_of (Ok s) P e p = p
settled_of (Err Read) P e p = absurd cc
settled_of (Err Write) P e p = absurd cc
settled_of (Err (Memory refused)) P e p = absurd cc
settled_of (Err (File fault)) P e p = absurd cc
settled_of (Err (Frame k fault)) P e p = absurd cc

pub status_most : (a : Result Piped PipeFault) → status_of a ≤ 6
status_most (Ok s) = omega arith
status_most (Err Read) = omega arith
status_most (Err Write) = omega arith
status_most (Err (Memory refused)) = omega arith
status_most (Err (File fault)) = omega arith
status_most (Err (Frame k fault)) = omega arith

pub never_one : (a : Result Piped PipeFault) → status_of a ≡ 1 → ⊥
never_one (Ok s) e = absurd cc
never_one (Err Read) e = absurd cc
never_one (Err Write) e = absurd cc
never_one (Err (Memory refused)) e = absurd cc
never_one (Err (File fault)) e = absurd cc
never_one (Err (Frame k fault)) e = absurd cc

-- ---- a stream that ends behind its last frame, none of which is refused
pub is_done : (w : List ℕ) (front : Front) (o : Answer) → (stream w).front ≡ Some front → (stream w).ending ≡ ended →
    ((k : ℕ) (fault : FrameFault) → IsStopped (stream w) front o → ⊥) → StreamOutcome w o → o.status ≡ 0
is_done w front o has end none p = go (subst (λ x. OfStream (stream w) x o) has p)
  where
    go : IsStopped (stream w) front o ⊎ IsThrough (stream w) front o → o.status ≡ 0
    go (inl i) = absurd (none i.k i.fault i)
    go (inr i) = ap (λ (a : Answer). a.status) (i.answer ∙ ap (λ e. at_ending e front (length (stream w).frames) i.out) end)

pub done_status : (words : List Word) (w : List ℕ) (o : Answer) → NoFrameIsRefused words w → StreamOutcome w o → o.status ≡ 0
done_status words w o n p =
    is_done w n.front o n.has_front n.ends
    (λ k fault i. get_all (NotRefused decode (shape_in n.front.prop)) (stream w).frames i.k [] n.none i.within i.fault i.offends) p

-- ---- a report that is sure to take the outcome's lines takes the line
outcome_fits : (w : List ℕ) (o p : Answer) (n : ℕ) → AreBytes w → StreamOutcome w o → StreamOutcome w p → length (report o.lines) ≤ n →
    length (report p.lines) ≤ n
outcome_fits w o p n bytes is_one is_other fits =
    let one = one_outcome w bytes in
    subst (λ (x : Answer). length (report x.lines) ≤ n) (one.2 o is_one ∙ sym (one.2 p is_other)) fits

pub line_fits : (a : Result Piped PipeFault) (w : List ℕ) (old new : Option (List ℕ)) (room : Option ℕ) (o : Answer) (n : ℕ) → AreBytes w →
    PipeEnds a w old new room →
    StreamOutcome w o → (a ≡ Err Read → ⊥) → (a ≡ Err Write → ⊥) → 7 ≤ n → length (report o.lines) ≤ n → length (report (line_of a ∷ [])) ≤ n
line_fits (Ok s) w old new room o n bytes e is read write least fits = outcome_fits w o (done e.0 (decoded_line s.frames s.bytes ∷ [])) n bytes is e.1.0 fits
line_fits (Err Read) w old new room o n bytes e is read write least fits = absurd (read refl)
line_fits (Err Write) w old new room o n bytes e is read write least fits = absurd (write refl)
line_fits (Err (Memory refused)) w old new room o n bytes e is read write least fits = least
line_fits (Err (File fault)) w old new room o n bytes e is read write least fits = outcome_fits w o (stream_refused fault e.0) n bytes is e.1.0 fits
line_fits (Err (Frame k fault)) w old new room o n bytes e is read write least fits = outcome_fits w o (frame_refused k fault e.0) n bytes is e.1.0 fits

pub refused_words_fit : (b : Bool) (w : List ℕ) (o : Answer) (n : ℕ) → b ≡ false → OfWords b w o → length (report o.lines) ≤ n →
    length (report (words_line ∷ [])) ≤ n
refused_words_fit b w o n e is fits =
    let refused : o ≡ not_understood = subst (λ x. OfWords x w o) e is in
    subst (λ (x : Answer). length (report x.lines) ≤ n) refused fits

-- ---- what is reported
pub reports_of : (status result : ℕ) (line bytes : List ℕ) (old new : Option (List ℕ)) (before now : ℕ) → (result ≡ status) ⊎ (result ≡ 7) →
    (result ≡ status → new ≡ and_then old bytes) → (result ≡ 7 → IsCutShort old bytes new) → (result ≡ status → now ≡ before + length bytes) →
    (result ≡ 7 → now ≡ before) → bytes ≡ report (line ∷ []) → Reports status (line ∷ []) result old new before now
reports_of status result line bytes old new before now (inl e) whole cut added stopped same =
    inl (e, whole e ∙ ap (and_then old) same, added e ∙ ap (λ b. before + length b) same)
reports_of status result line bytes old new before now (inr e) whole cut added stopped same =
    inr (e, subst (λ b. IsCutShort old b new) same (cut e), stopped e)

-- the report didn't fail
pub not_seven : (status result before now : ℕ) → (result ≡ status) ⊎ (result ≡ 7) → (result ≡ 7 → Rose before now) → DidNotRise before now → result ≡ status
not_seven status result before now (inl e) cause none = e
not_seven status result before now (inr e) cause none = absurd (none (cause e))

-- ---- other words
pub refused_words : (b : Bool) (w : List ℕ) (told : Option (List ℕ)) → b ≡ false → EndsAsOne (OfWords b w) 1 (words_line ∷ []) told told
refused_words b w told e = (not_understood, subst (λ x. OfWords x w not_understood) (sym e) refl, refl, refl, sym (and_then-nothing told))

-- ---- the words of a pipe
pub headline_of : (b : Bool) (a : Result Piped PipeFault) (w : List ℕ) (result : ℕ) (old new rold rnew : Option (List ℕ)) (room : Option ℕ) → b ≡ true →
    PipeEnds a w old new room → (a ≡ Err Read → ⊥) → (a ≡ Err Write → ⊥) → result ≡ status_of a → rnew ≡ and_then rold (report (line_of a ∷ [])) →
    (result ≡ 4) ⊎ ((lines : List Line) × EndsAsOne (OfWords b w) result lines old new × (rnew ≡ and_then rold (report lines)))
headline_of b a w result old new rold rnew room e ends read write status told = elim (ends_as a w old new room ends read write) [
  | inl four ↦ inl (status ∙ four)
  | inr o ↦ inr (line_of a ∷ [], (o.0, subst (λ x. OfWords x w o.0) (sym e) o.1, o.2 ∙ sym status, o.3, o.4), told)
]

pub complete_of : (words : List Word) (a : Result Piped PipeFault) (w : List ℕ) (result : ℕ) (old new rold rnew : Option (List ℕ)) (room : Option ℕ) →
    NoFrameIsRefused words w →
    PipeEnds a w old new room → (a ≡ Err Read → ⊥) → (a ≡ Err Write → ⊥) → result ≡ status_of a → (result ≡ 0) ⊎ (result ≡ 4)
complete_of words a w result old new rold rnew room none ends read write status = elim (ends_as a w old new room ends read write) [
  | inl four ↦ inr (status ∙ four)
  | inr o ↦ inl (status ∙ sym o.2 ∙ done_status words w o.0 none o.1)
]

pub with_words : (b : Bool) (w : List ℕ) (status : ℕ) (lines : List Line) (old new : Option (List ℕ)) → b ≡ true → EndsByStream true w status lines old new →
    EndsByStream b w status lines old new
with_words b w status lines old new e ends = subst (λ x. EndsByStream x w status lines old new) (sym e) ends

-- a status below 7 is that of the answer
pub by_status : (status result n : ℕ) → (result ≡ status) ⊎ (result ≡ 7) → result ≡ n → n < 7 → result ≡ status
by_status status result n (inl e) same lt = e
by_status status result n (inr e) same lt = absurd (omega (arith, e, same, lt))
