-- A command that reports one line: what it answered, and what the run leaves.
use Rattle.std.proofs.Common.{◌≡◌, ◌⊎◌, inl, inr, ℕ, ◌+◌, ◌*◌, ◌<◌, ◌≤◌, true, List, [], ◌∷◌, length, Option, Some, Result, Ok, Err, refl, ap, sym}
use Rattle.std.proofs.Common.{subst, ◌∙◌, arith, IfOk}
use Rattle.std.specs.Prelude.{⊤}
use Rattle.std.specs.declared.alloc.AllocError.{AllocError}
use Rattle.dst_spec.specs.Bits.{AreBytes}
use Rattle.dst_spec.specs.declared.faults.FrameFault.{FrameFault}
use Rattle.dst_streams.specs.Causes.{Rose}
use Rattle.dst_streams.specs.Told.{and_then, IsCutShort}
use Rattle.dsdiff_spec.specs.declared.faults.FileFault.{FileFault}
use Rattle.dsdiff_spec.specs.Form.{sound_bytes_of}
use Rattle.dsdiff_spec.specs.Rules.{accepted}
use Rattle.dsdiff_spec.specs.Words.{Command, encode, decode, cut, frame, check, show, show_frame, index, make, make_run, encode_dsf, decode_dsf, range}
use Rattle.dsdiff_spec.specs.Refusal.{refusal}
use Rattle.dsdiff_spec.specs.Lines.{Line, report}
use Rattle.dsdiff_spec.specs.Outcome.{Answer, done, file_refused, frame_refused, OfCommand}
use Rattle.dsdiff_spec.proofs.Stopping.{One}
use Rattle.dsdiff_spec.proofs.OneAnswer.{HasOutcome, command_has_one_outcome}
use Rattle.dst_tool.specs.declared.answers.Numbers.{Numbers}
use Rattle.dst_tool.specs.declared.answers.Fault.{Fault}
use Rattle.dst_tool.specs.declared.answers.Fault.TheVariants.{Read, Write, Memory, Report, File, Frame}
use Rattle.dst_tool.specs.Answers.{status_of, done_line, fault_line, line_of, TellsOneLine}
use Rattle.dst_commands.specs.Commands.{OutcomeOf}
use Rattle.dst_tool.specs.Runs.{WholeOf, PartOf, EndsAsOne, EndsBy, Reports, WritesNowhere, ReadsNothing, WritesFile, most_given, longest_sound}
use Rattle.dst_tool.specs.Runs.{Counts, Held, Told, IsCaused, IsRun}
use Rattle.dst_show.specs.LineByLine.{AddsLines}
use Rattle.dst_show.proofs.LineByLine.{none_of_one}
use Rattle.dst_tool.proofs.Statuses.{status_is_done, status_is_read, status_is_write, status_is_memory, status_is_file, status_is_frame}
use Rattle.dst_tool.proofs.Statuses.{status_is_not_words, status_is_below}
use Rattle.dst_commands.proofs.Writing.{and_then-nothing}

-- what holds of what is told
abbrev pub OfTold : Option (List ℕ) → (List ℕ → Type 0) → Type 0
OfTold bytes P = (file : List ℕ) → bytes ≡ Some file → P file

-- a command that is done has added its whole output
abbrev pub IsWhole : Command → Numbers → List ℕ → Option (List ℕ) → Option (List ℕ) → Type 0
IsWhole c s file old new = (out : List ℕ) × OutcomeOf c file (done out (done_line c s ∷ [])) × WholeOf (Some c) out old new

-- where a device failed, part of it is there
abbrev pub IsPartly : Command → List ℕ → Option (List ℕ) → Option (List ℕ) → Type 0
IsPartly c file old new = (o : Answer) × OutcomeOf c file o × PartOf (Some c) file o.out old new

-- a frame is refused behind what is added
abbrev pub IsRefusedBehind : Command → List ℕ → ℕ → FrameFault → Option (List ℕ) → Option (List ℕ) → Type 0
IsRefusedBehind c file k fault old new = (out : List ℕ) × OutcomeOf c file (frame_refused k fault out) × (new ≡ and_then old out)

pub record IsAnswer (c : Command) (r : Result Numbers Fault) (file : List ℕ) (old new : Option (List ℕ)) : Type 0 where
  pub finished : IfOk r (λ s. IsWhole c s file old new)
  pub file_is : (fault : FileFault) → r ≡ Err (File fault) → refusal c file ≡ Some fault
  pub untouched : (fault : FileFault) → r ≡ Err (File fault) → new ≡ old
  pub frame_is : (k : ℕ) (fault : FrameFault) → r ≡ Err (Frame k fault) → IsRefusedBehind c file k fault old new
  pub cut_short : (r ≡ Err Read) ⊎ (r ≡ Err Write) → IsPartly c file old new
  pub memory : (refused : AllocError) → r ≡ Err (Memory refused) → new ≡ old
  pub no_report : r ≡ Err Report → ⊥

-- what holds of every file that is told holds of this one
pub at_file : {A E : Type 0} (r : Result A E) (P : A → List ℕ → Type 0) (bytes : Option (List ℕ)) (file : List ℕ) → bytes ≡ Some file →
    IfOk r (λ s. (xs : List ℕ) → bytes ≡ Some xs → P s xs) → IfOk r (λ s. P s file)
at_file (Ok s) P bytes file told h = h file told
at_file (Err fault) P bytes file told h = tt {0}

-- ---- what is added to a sink
pub whole_of : (c : Command) (out : List ℕ) (old new : Option (List ℕ)) → new ≡ and_then old out → WholeOf (Some c) out old new
whole_of (encode level) out old new e = λ nothing. e
whole_of decode out old new e = e
whole_of (cut first last) out old new e = e
whole_of (frame k by_index) out old new e = e
whole_of check out old new e = e
whole_of show out old new e = e
whole_of (show_frame k) out old new e = e
whole_of index out old new e = e
whole_of (make start frames channels multiple) out old new e = e
whole_of (make_run start frames channels multiple) out old new e = e
whole_of (encode_dsf level) out old new e = λ nothing. e
whole_of decode_dsf out old new e = e
whole_of (range pairs) out old new e = e

-- ---- how it ends
pub refusal_is : (c : Command) (file : List ℕ) (fault : FileFault) → refusal c file ≡ Some fault → OutcomeOf c file (file_refused fault)
refusal_is c file fault e = subst (λ q. OfCommand c file q (file_refused fault)) (sym e) refl

done_ends : (c : Command) (s : Numbers) (file : List ℕ) (old new : Option (List ℕ)) → IsAnswer c (Ok s) file old new →
    EndsAsOne (OutcomeOf c file) (Some c) 0 (line_of c (Ok s) ∷ []) old new
done_ends c s file old new a = (done a.finished.0 (done_line c s ∷ []), a.finished.1, refl, refl, a.finished.2)

file_ends : (c : Command) (fault : FileFault) (file : List ℕ) (old new : Option (List ℕ)) → IsAnswer c (Err (File fault)) file old new →
    EndsAsOne (OutcomeOf c file) (Some c) 5 (fault_line (File fault) ∷ []) old new
file_ends c fault file old new a = (
  file_refused fault,
  refusal_is c file fault (a.file_is fault refl),
  refl,
  refl,
  whole_of c [] old new
      (a.untouched fault refl ∙ sym (and_then-nothing old)),
)

frame_ends : (c : Command) (k : ℕ) (fault : FrameFault) (file : List ℕ) (old new : Option (List ℕ)) → IsAnswer c (Err (Frame k fault)) file old new →
    EndsAsOne (OutcomeOf c file) (Some c) 6 (fault_line (Frame k fault) ∷ []) old new
frame_ends c k fault file old new a =
    let f = a.frame_is k fault refl in
    (frame_refused k fault f.0, f.1, refl, refl, whole_of c f.0 old new f.2)

pub answer_ends : (c : Command) (r : Result Numbers Fault) (file : List ℕ) (old new : Option (List ℕ)) → IsAnswer c r file old new →
    EndsBy (OutcomeOf c file) (Some c) file ⊤ (status_of r) (line_of c r ∷ []) old new
answer_ends c (Ok s) file old new a = inr (inr (inr (done_ends c s file old new a)))
answer_ends c (Err Read) file old new a = inl (refl, refl, a.cut_short (inl refl))
answer_ends c (Err Write) file old new a = inr (inl (refl, refl, a.cut_short (inr refl)))
answer_ends c (Err (Memory refused)) file old new a = inr (inr (inl (refl, refl, tt, a.memory refused refl)))
answer_ends c (Err (File fault)) file old new a = inr (inr (inr (file_ends c fault file old new a)))
answer_ends c (Err (Frame k fault)) file old new a = inr (inr (inr (frame_ends c k fault file old new a)))
answer_ends c (Err Report) file old new a = absurd (a.no_report refl)

-- ---- a report that is sure to take the outcome's lines takes the line
pub same_lines : (c : Command) (file : List ℕ) (status : ℕ) (lines : List Line) (old new : Option (List ℕ)) (o : Answer) → HasOutcome c →
    AreBytes file → OutcomeOf c file o → EndsAsOne (OutcomeOf c file) (Some c) status lines old new → o.lines ≡ lines
same_lines c file status lines old new o reads bytes h (p, is, st, same, w) =
    let one = command_has_one_outcome c file reads bytes in
    ap (λ (a : Answer). a.lines) (one.2 o h ∙ sym (one.2 p is)) ∙ same

line_fits : (c : Command) (r : Result Numbers Fault) (file : List ℕ) (old new : Option (List ℕ)) (o : Answer) (n : ℕ) → HasOutcome c → AreBytes file →
    IsAnswer c r file old new → OutcomeOf c file o →
    (r ≡ Err Read → ⊥) → (r ≡ Err Write → ⊥) → 7 ≤ n → length (report o.lines) ≤ n → length (report (line_of c r ∷ [])) ≤ n
line_fits c (Ok s) file old new o n reads bytes a h no_read no_write least fits =
    subst (λ lines. length (report lines) ≤ n) (same_lines c file 0 (line_of c (Ok s) ∷ []) old new o reads bytes h (done_ends c s file old new a)) fits
line_fits c (Err Read) file old new o n reads bytes a h no_read no_write least fits = absurd (no_read refl)
line_fits c (Err Write) file old new o n reads bytes a h no_read no_write least fits = absurd (no_write refl)
line_fits c (Err (Memory refused)) file old new o n reads bytes a h no_read no_write least fits = least
line_fits c (Err (File fault)) file old new o n reads bytes a h no_read no_write least fits =
    subst (λ lines. length (report lines) ≤ n)
    (same_lines c file 5 (fault_line (File fault) ∷ []) old new o reads bytes h (file_ends c fault file old new a)) fits
line_fits c (Err (Frame k fault)) file old new o n reads bytes a h no_read no_write least fits =
    subst (λ lines. length (report lines) ≤ n)
    (same_lines c file 6 (fault_line (Frame k fault) ∷ []) old new o reads bytes h (frame_ends c k fault file old new a)) fits
line_fits c (Err Report) file old new o n reads bytes a h no_read no_write least fits = absurd (a.no_report refl)

-- ---- the line is reported, or the report failed
pub reports_line : (status result : ℕ) (line : Line) (old new : Option (List ℕ)) (before now : ℕ) → (result ≡ status) ⊎ (result ≡ 7) →
    (result ≡ status → new ≡ and_then old (report (line ∷ []))) → (result ≡ 7 → IsCutShort old (report (line ∷ [])) new) →
    (result ≡ status → AddsLines (line ∷ []) before now) → (result ≡ 7 → now ≡ before) → Reports status (line ∷ []) result old new before now
reports_line status result line old new before now (inl e) whole short added stopped = inl (e, whole e, added e)
reports_line status result line old new before now (inr e) whole short added stopped = inr (e, short e, none_of_one line before now (stopped e))

-- a status below 7 is that of the answer
pub status_answered : (status result want : ℕ) → (result ≡ status) ⊎ (result ≡ 7) → result ≡ want → want < 7 → status ≡ want
status_answered status result want (inl e) is below = sym e ∙ is
status_answered status result want (inr e) is below = absurd (omega arith)

pub record TellsLine (status : ℕ) (line : Line) (result : ℕ) (counts : Counts) (told : Told) : Type 0 where
  pub reported : (result ≡ status) ⊎ (result ≡ 7)
  pub whole : result ≡ status → told.new ≡ and_then told.old (report (line ∷ []))
  pub cut_short : result ≡ 7 → IsCutShort told.old (report (line ∷ [])) told.new
  pub added : result ≡ status → AddsLines (line ∷ []) told.before told.now
  pub stopped : result ≡ 7 → told.now ≡ told.before
  pub cause : result ≡ 7 → Rose counts.before counts.now
  pub later : counts.before ≤ counts.now
  pub sure : result ≡ 7 → (n : ℕ) → told.room ≡ Some n → length (report (line ∷ [])) ≤ n → ⊥

-- what reporting the line of a command leaves, the command named by either of two that are the same
pub tells_line : {c : Command} {result : ℕ} {counts : Counts} {told : Told} (q : Command) (r : Result Numbers Fault) → q ≡ c →
    (result ≡ status_of r) ⊎ (result ≡ 7) → (result ≡ status_of r → told.new ≡ and_then told.old (report (line_of q r ∷ []))) →
    (result ≡ 7 → IsCutShort told.old (report (line_of q r ∷ [])) told.new) → (result ≡ status_of r → AddsLines (line_of q r ∷ []) told.before told.now) →
    (result ≡ 7 → told.now ≡ told.before) → (result ≡ 7 → Rose counts.before counts.now) → counts.before ≤ counts.now →
    (result ≡ 7 → (n : ℕ) → told.room ≡ Some n → length (report (line_of q r ∷ [])) ≤ n → ⊥) →
    TellsLine (status_of r) (line_of c r) result counts told
tells_line {c} {result} {counts} {told} q r e reported whole cut_short added stopped cause later sure =
    subst (λ x. TellsLine (status_of r) (line_of x r) result counts told) e
    (record {
      reported = reported;
      whole = whole;
      cut_short = cut_short;
      added = added;
      stopped = stopped;
      cause = cause;
      later = later;
      sure = sure;
    })

-- ---- the run
-- an answer that neither the source nor a file gives
abbrev pub IsNoFileFault : Result Numbers Fault → Type 0
IsNoFileFault r =
    (r ≡ Err Read → ⊥) × ((fault : FileFault) → r ≡ Err (File fault) → ⊥) × ((k : ℕ) (fault : FrameFault) → r ≡ Err (Frame k fault) → ⊥)

pub record HasCauses (c : Command) (r : Result Numbers Fault) (bytes : Option (List ℕ)) (source sink given : Counts) (written : Held)
    (Same Settled Unread Stays : Type 0) : Type 0 where
  pub bytes_stay : Stays
  pub later_source : source.before ≤ source.now
  pub later_sink : sink.before ≤ sink.now
  pub read : r ≡ Err Read → Rose source.before source.now
  pub write : r ≡ Err Write → Rose sink.before sink.now
  pub sure : r ≡ Err Write → (file : List ℕ) → bytes ≡ Some file → (o : Answer) → OutcomeOf c file o → (n : ℕ) → written.room ≡ Some n → length o.out ≤ n → ⊥
  pub memory : (refused : AllocError) → r ≡ Err (Memory refused) → Same
  pub untouched : (fault : FileFault) → r ≡ Err (File fault) → Same
  pub refused : (file : List ℕ) → bytes ≡ Some file → (fault : FileFault) → refusal c file ≡ Some fault → Same
  pub idle : WritesNowhere c → Same
  pub no_write : WritesNowhere c → r ≡ Err Write → ⊥
  pub unread : ReadsNothing c → Unread
  pub no_file : ReadsNothing c → IsNoFileFault r
  pub settled : WritesFile c → (s : Numbers) → r ≡ Ok s → Settled
  pub by_index : (k : ℕ) → c ≡ frame k true → (file : List ℕ) → bytes ≡ Some file → given.now ≤ given.before + most_given (sound_bytes_of (accepted file))
  pub any_source : (k : ℕ) → c ≡ frame k true → given.now ≤ given.before + most_given longest_sound
  pub no_report : r ≡ Err Report → ⊥

-- a read fault and a write fault of an answer have their cause
caused : (c : Command) (r : Result Numbers Fault) (bytes : Option (List ℕ)) (source sink given : Counts) (written : Held)
    (Same Settled Unread Stays : Type 0) → HasCauses c r bytes source sink given written Same Settled Unread Stays →
    IsCaused (status_of r) source.before source.now sink.before sink.now
caused c r bytes source sink given written Same Settled Unread Stays h = record {
  read = λ e. h.read (status_is_read r e);
  write = λ e. h.write (status_is_write r e);
}

pub run_of_answer : (c : Command) (r : Result Numbers Fault) (result : ℕ) (bytes : Option (List ℕ)) (source sink counts given : Counts)
    (written : Held) (told : Told) (Same Settled Unread Stays Silent : Type 0) → HasOutcome c → TellsOneLine c →
    ((file : List ℕ) → bytes ≡ Some file → AreBytes file) → ((file : List ℕ) → bytes ≡ Some file → IsAnswer c r file written.old written.new) →
    (ReadsNothing c → IsAnswer c r [] written.old written.new) →
    HasCauses c r bytes source sink given written Same Settled Unread Stays → TellsLine (status_of r) (line_of c r) result counts told →
    IsRun c result bytes source sink counts given written told Same Settled Unread Stays Silent
run_of_answer c r result bytes source sink counts given written told Same Settled Unread Stays Silent reads one are answer made h t = record {
  ends = λ file e. ends_so file (answer file e);
  made = λ w. ends_so [] (made w);
  read = λ e. h.read (status_is_read r (status 2 (omega arith) e));
  write = λ e. h.write (status_is_write r (status 3 (omega arith) e));
  reported = t.cause;
  sure_sink = λ file e o is n room fits three. h.sure (status_is_write r (status 3 (omega arith) three)) file e o
      is n room fits;
  sure_report = λ file e o is no_read no_write n room least fits seven.
      t.sure seven n room (line_fits c r file written.old written.new o n reads (are file e) (answer file e) is (λ q. no_read (h.read q))
      (λ q. no_write (h.write q)) least fits);
  bytes_stay = h.bytes_stay;
  later_source = h.later_source;
  later_sink = h.later_sink;
  later_report = t.later;
  memory = λ e. let f = status_is_memory r (status 4 (omega arith) e) in h.memory f.0 f.1;
  memory_answered = λ e.
      let four = status 4 (omega arith) e in
      let f = status_is_memory r four in
      subst (λ q. told.new ≡ and_then told.old (report (line_of c q ∷ []))) f.1 (t.whole (e ∙ sym four));
  silent = λ e. absurd (subst TellsOneLine e one);
  file_refused = λ e. let f = status_is_file r (status 5 (omega arith) e) in h.untouched f.0 f.1;
  no_output = h.refused;
  idle = h.idle;
  no_write = λ w e. h.no_write w (status_is_write r (status 3 (omega arith) e));
  unread = h.unread;
  no_file = λ w. (
    λ e. (h.no_file w).0 (status_is_read r (status 2 (omega arith) e)),
    λ e. let f = status_is_file r (status 5 (omega arith) e) in (h.no_file w).1 f.0 f.1,
    λ e. let f = status_is_frame r (status 6 (omega arith) e) in (h.no_file w).2 f.0 f.1 f.2,
  );
  settled = λ w e. let d = status_is_done r (status 0 (omega arith) e) in h.settled w d.0 d.1;
  by_index = h.by_index;
  any_source = h.any_source;
  least_status = λ e. status_is_not_words r (status 1 (omega arith) e);
  most_status = most t.reported;
}
  where
    -- how it ends, with an answer about one file
    ends_so : (file : List ℕ) → IsAnswer c r file written.old written.new → (wanted : ℕ) × (lines : List Line)
        × EndsBy (OutcomeOf c file) (Some c) file ⊤ wanted lines written.old written.new
        × IsCaused wanted source.before source.now sink.before sink.now × Reports wanted lines result told.old told.new told.before told.now
    ends_so file a = (
      status_of r,
      line_of c r ∷ [],
      answer_ends c r file written.old written.new a,
      caused c r bytes source sink given written Same Settled Unread Stays h,
      reports_line (status_of r) result (line_of c r) told.old told.new told.before told.now t.reported t.whole t.cut_short t.added t.stopped,
    )

    status : (want : ℕ) → want < 7 → result ≡ want → status_of r ≡ want
    status want below e = status_answered (status_of r) result want t.reported e below

    most : (result ≡ status_of r) ⊎ (result ≡ 7) → result ≤ 7
    most (inl e) = let below = status_is_below r h.no_report in omega arith
    most (inr e) = omega arith

-- a run of one command is a run of the same one
pub same_run : {a c : Command} {result : ℕ} {bytes : Option (List ℕ)} {source sink counts given : Counts} {written : Held} {told : Told}
    {Same Settled Unread Stays Silent : Type 0} → a ≡ c → IsRun c result bytes source sink counts given written told Same Settled Unread Stays Silent →
    IsRun a result bytes source sink counts given written told Same Settled Unread Stays Silent
same_run {a} {c} {result} {bytes} {source} {sink} {counts} {given} {written} {told} {Same} {Settled} {Unread} {Stays} {Silent} e h =
    subst (λ c. IsRun c result bytes source sink counts given written told Same Settled Unread Stays Silent) (sym e) h

-- one that takes one frame
abbrev pub TakesFrame : Command → Type 0
TakesFrame (frame k by_index) = ⊤
TakesFrame c = ⊥

pub takes_none : {P : Type 0} (c : Command) → (TakesFrame c → ⊥) → (k : ℕ) → c ≡ frame k true → P
takes_none c none k e = absurd (none (subst TakesFrame (sym e) tt))

-- what a command that writes nowhere answers of the sink
pub nothing_added : (old : Option (List ℕ)) → old ≡ and_then old []
nothing_added old = sym (and_then-nothing old)

pub nothing_cut : (old : Option (List ℕ)) (bytes : List ℕ) → IsCutShort old bytes old
nothing_cut old bytes = record { taken = 0; within = omega arith; written = nothing_added old }

-- a finished command that writes nothing
pub finished_alone : (c : Command) (r : Result Numbers Fault) (old : Option (List ℕ)) (file : List ℕ) →
    IfOk r (λ s. OutcomeOf c file (done [] (done_line c s ∷ []))) → IfOk r (λ s. IsWhole c s file old old)
finished_alone c (Ok s) old file h = ([], h, whole_of c [] old old (nothing_added old))
finished_alone c (Err fault) old file h = tt {0}

-- a command that makes no call on the sink
pub nothing_of : (c : Command) (file out : List ℕ) (old : Option (List ℕ)) → WritesNowhere c → PartOf (Some c) file out old old
nothing_of check file out old w = nothing_cut old out
nothing_of show file out old w = nothing_cut old out
nothing_of (show_frame k) file out old w = nothing_cut old out
nothing_of index file out old w = nothing_cut old out
nothing_of (encode level) file out old w = absurd w
nothing_of decode file out old w = absurd w
nothing_of (cut first last) file out old w = absurd w
nothing_of (frame k by_index) file out old w = absurd w
nothing_of (make start frames channels multiple) file out old w = absurd w
nothing_of (make_run start frames channels multiple) file out old w = nothing_cut old out
nothing_of (encode_dsf level) file out old w = absurd w
nothing_of decode_dsf file out old w = absurd w
nothing_of (range pairs) file out old w = nothing_cut old out

pub not_both_kinds : (c : Command) → WritesNowhere c → WritesFile c → ⊥
not_both_kinds (encode level) w f = w
not_both_kinds decode w f = w
not_both_kinds (cut first last) w f = w
not_both_kinds (frame k by_index) w f = w
not_both_kinds check w f = f
not_both_kinds show w f = f
not_both_kinds (show_frame k) w f = f
not_both_kinds index w f = f
not_both_kinds (make start frames channels multiple) w f = w
not_both_kinds (make_run start frames channels multiple) w f = f
not_both_kinds (encode_dsf level) w f = w
not_both_kinds decode_dsf w f = w
not_both_kinds (range pairs) w f = omega arith

-- where the source failed nothing is written; where the sink did, a prefix
pub cut_or_nothing : {P Q : Type 0} (c : Command) (file : List ℕ) (old new : Option (List ℕ)) → One (OutcomeOf c file) → (P → new ≡ old) →
    (Q → (o : Answer) × OutcomeOf c file o × IsCutShort old o.out new) → P ⊎ Q → (o : Answer) × OutcomeOf c file o × IsCutShort old o.out new
cut_or_nothing c file old new one nothing short (inl p) =
    (one.0, one.1, subst (λ w. IsCutShort old one.0.out w) (sym (nothing p)) (nothing_cut old one.0.out))
cut_or_nothing c file old new one nothing short (inr q) = short q

-- ---- bytes of the source that one frame takes
pub few_given : (now before size : ℕ) → now ≤ before + 208974 + 2 * size → now ≤ before + most_given size
few_given now before size h = omega arith

pub most_for_any : (now before : ℕ) → now ≤ before + 208974 + 225792 → now ≤ before + most_given longest_sound
most_for_any now before h = omega arith
