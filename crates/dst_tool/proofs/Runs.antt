-- What a run of words leaves, from what its command does.
use Rattle.std.proofs.Common.{◌≡◌, ◌⊎◌, inl, inr, ℕ, ◌+◌, ◌<◌, ◌≤◌, true, false, List, [], ◌∷◌, ◌++◌, length, Option, Some, None, refl, ap}
use Rattle.std.proofs.Common.{sym, subst, ◌∙◌, arith}
use Rattle.std.specs.Prelude.{⊤}
use Rattle.dst_spec.specs.declared.faults.FrameFault.{FrameFault}
use Rattle.dst_streams.specs.Told.{and_then, IsCutShort}
use Rattle.dsdiff_spec.specs.declared.faults.FileFault.{FileFault}
use Rattle.dsdiff_spec.specs.Form.{Form}
use Rattle.dsdiff_spec.specs.Rules.{accepted}
use Rattle.dsdiff_spec.specs.Words.{Word, Command, encode, decode, cut, frame, check, show, show_frame, index, make, make_run, encode_dsf, decode_dsf, range}
use Rattle.words_spec.specs.Rows.{command_of}
use Rattle.dsdiff_spec.specs.Refusal.{refusal}
use Rattle.dsdiff_spec.specs.Lines.{Line, report, words_line, file_line, frame_fault_line}
use Rattle.dsdiff_spec.specs.Outcome.{Answer, not_understood, frame_refused, NoneRefused, IsStopped, Does, IsDone, OfCommand}
use Rattle.words_spec.specs.Outcome.{OfWords, Outcome}
use Rattle.dsdiff_spec.proofs.Stopping.{not_both}
use Rattle.dst_commands.specs.Commands.{OutcomeOf}
use Rattle.dst_tool.specs.Runs.{DidNotRise, WholeOf, PartOf, EndsAsOne, EndsBy, EndsAs, Ends, Reports, IsRefused, NoFrameIsRefused, Counts, Held}
use Rattle.dst_tool.specs.Runs.{Told, IsRun, IsCaused}
use Rattle.dst_show.proofs.LineByLine.{none_of_one}
use Rattle.dst_commands.proofs.Writing.{and_then-nothing}

-- ---- words and their command
pub of_words : (words : List Word) (c : Command) (file : List ℕ) (o : Answer) → command_of words ≡ Some c → OutcomeOf c file o → Outcome words file o
of_words words c file o e h = subst (λ r. OfWords r file o) (sym e) h

pub of_command : (words : List Word) (c : Command) (file : List ℕ) (o : Answer) → command_of words ≡ Some c → Outcome words file o → OutcomeOf c file o
of_command words c file o e h = subst (λ r. OfWords r file o) e h

pub same_command : (words : List Word) (c d : Command) → command_of words ≡ Some c → command_of words ≡ Some d → c ≡ d
same_command words c d e f = same (sym e ∙ f)
  where
    same : Some c ≡ Some d → c ≡ d
    same h = cc

pub some_command : (words : List Word) (c : Command) → command_of words ≡ Some c → command_of words ≡ None → ⊥
some_command words c e f = neither (sym e ∙ f)
  where
    neither : ◌≡◌ {A = Option Command} (Some c) None → ⊥
    neither h = absurd cc

-- ---- how it ends
pub as_one : (words : List Word) (c : Command) (file : List ℕ) (status : ℕ) (lines : List Line) (old new : Option (List ℕ)) →
    command_of words ≡ Some c → EndsAsOne (OutcomeOf c file) (Some c) status lines old new →
    EndsAs words file status lines old new
as_one words c file status lines old new e (o, is, s, l, w) = (o, of_words words c file o e is, s, l, subst (λ r. WholeOf r o.out old new) (sym e) w)

pub ends_of_words : (words : List Word) (c : Command) (file : List ℕ) (status : ℕ) (lines : List Line) (old new : Option (List ℕ)) →
    command_of words ≡ Some c → EndsBy (OutcomeOf c file) (Some c) file ⊤ status lines old new →
    Ends words file status lines old new
ends_of_words words c file status lines old new e (inl (s, l, (o, is, piece))) =
    inl (s, l, (o, of_words words c file o e is, subst (λ r. PartOf r file o.out old new) (sym e) piece))
ends_of_words words c file status lines old new e (inr (inl (s, l, (o, is, piece)))) =
    inr (inl (s, l, (o, of_words words c file o e is, subst (λ r. PartOf r file o.out old new) (sym e) piece)))
ends_of_words words c file status lines old new e (inr (inr (inl (s, l, free, w)))) = inr (inr (inl (s, l, some_command words c e, w)))
ends_of_words words c file status lines old new e (inr (inr (inr h))) = inr (inr (inr (as_one words c file status lines old new e h)))

-- ---- where no device failed
abbrev pub Headline : List Word → List ℕ → ℕ → Option (List ℕ) → Option (List ℕ) → Option (List ℕ) → Option (List ℕ) → Type 0
Headline words file result old new told_old told_new = (result ≡ 4)
    ⊎ ((lines : List Line) × EndsAs words file result lines old new × (told_new ≡ and_then told_old (report lines)))

pub run_headline : (words : List Word) (c : Command) (file : List ℕ) (result : ℕ) (bytes : Option (List ℕ)) (source sink counts given : Counts)
    (written : Held) (told : Told) (Same Settled Unread Stays Silent : Type 0) → command_of words ≡ Some c →
    IsRun c result bytes source sink counts given written told Same Settled Unread Stays Silent → bytes ≡ Some file →
    DidNotRise source.before source.now → DidNotRise sink.before sink.now → DidNotRise counts.before counts.now →
    Headline words file result written.old written.new told.old told.new
run_headline words c file result bytes source sink counts given written told Same Settled Unread Stays Silent e r is no_read no_write no_report =
    go (r.ends file is).0 (r.ends file is).1 (r.ends file is).2 (r.ends file is).4
  where
    go : (status : ℕ) (lines : List Line) → EndsBy (OutcomeOf c file) (Some c) file ⊤ status lines written.old written.new →
        Reports status lines result told.old told.new told.before told.now → Headline words file result written.old written.new told.old told.new
    go status lines ends (inr (seven, piece, stopped)) = absurd (no_report (r.reported seven))
    go status lines (inl (s, l, short)) (inl (same, w, added)) = absurd (no_read (r.read (same ∙ s)))
    go status lines (inr (inl (s, l, short))) (inl (same, w, added)) = absurd (no_write (r.write (same ∙ s)))
    go status lines (inr (inr (inl (s, l, free, still)))) (inl (same, w, added)) = inl (same ∙ s)
    go status lines (inr (inr (inr h))) (inl (same, w, added)) =
        inr (lines, subst (λ n. EndsAs words file n lines written.old written.new) (sym same) (as_one words c file status lines written.old written.new e h), w)

-- a command that is done has status 0
done_is_0 : (c : Command) (file : List ℕ) (form : Form) (o : Answer) → Does c file form o → o.status ≡ 0
done_is_0 decode file form o (out, plain, e) = ap (λ (a : Answer). a.status) e
done_is_0 (frame k true) file form o (sound, means, e) = ap (λ (a : Answer). a.status) e
done_is_0 (frame k false) file form o (sound, means, e) = ap (λ (a : Answer). a.status) e
done_is_0 check file form o (sounds, all, e) = ap (λ (a : Answer). a.status) e
done_is_0 show file form o e = ap (λ (a : Answer). a.status) e
done_is_0 (show_frame k) file form o (line, shows, e) = ap (λ (a : Answer). a.status) e
done_is_0 index file form o e = ap (λ (a : Answer). a.status) e
done_is_0 (encode level) file form o e = ap (λ (a : Answer). a.status) e
done_is_0 (cut first last) file form o e = ap (λ (a : Answer). a.status) e
done_is_0 (make start frames channels multiple) file form o e = ap (λ (a : Answer). a.status) e
done_is_0 (make_run start frames channels multiple) file form o e = ap (λ (a : Answer). a.status) e
done_is_0 (encode_dsf level) file form o e = ap (λ (a : Answer). a.status) e
done_is_0 decode_dsf file form o (out, to_dsf, e) = ap (λ (a : Answer). a.status) e
done_is_0 (range pairs) file form o (sound, means, e) = ap (λ (a : Answer). a.status) e

pub run_completes : (words : List Word) (c : Command) (file : List ℕ) (result : ℕ) (old new told_old told_new : Option (List ℕ)) →
    command_of words ≡ Some c → NoFrameIsRefused words file → Headline words file result old new told_old told_new → (result ≡ 0) ⊎ (result ≡ 4)
run_completes words c file result old new told_old told_new e none (inl four) = inr four
run_completes words c file result old new told_old told_new e (d, is, accepts, none) (inr (lines, (o, outcome, status, same, w), told)) =
    inl (sym status ∙ go (subst (λ q. OfCommand d file q o) accepts (of_command words d file o is outcome)))
  where
    go : IsStopped d file (accepted file) o ⊎ IsDone d file (accepted file) o → o.status ≡ 0
    go (inl s) = absurd (not_both d (accepted file) s.before s.stop s.behind s.fault (subst (NoneRefused d (accepted file)) s.is_run none) s.refuses)
    go (inr h) = done_is_0 d file (accepted file) o h.1

-- ---- refused files and frames
refused_file : (c : Command) (file : List ℕ) (o : Answer) (r : Option FileFault) → refusal c file ≡ r → OfCommand c file r o → o.status ≡ 5 →
    (fault : FileFault) × (refusal c file ≡ Some fault) × (o.lines ≡ file_line fault ∷ [])
refused_file c file o (Some fault) e h five = (fault, e, ap (λ (a : Answer). a.lines) h)
refused_file c file o None e (inl s) five = let six = ap (λ (a : Answer). a.status) s.answer in absurd (omega arith)
refused_file c file o None e (inr h) five = let zero_status = done_is_0 c file (accepted file) o h.1 in absurd (omega arith)

pub run_refused : (words : List Word) (c : Command) (file : List ℕ) (result : ℕ) (bytes : Option (List ℕ)) (source sink counts given : Counts)
    (written : Held) (told : Told) (Same Settled Unread Stays Silent : Type 0) → command_of words ≡ Some c →
    IsRun c result bytes source sink counts given written told Same Settled Unread Stays Silent → bytes ≡ Some file → result ≡ 5 →
    (fault : FileFault) × IsRefused words file fault × (told.new ≡ and_then told.old (report (file_line fault ∷ [])))
run_refused words c file result bytes source sink counts given written told Same Settled Unread Stays Silent e r is five =
    go (r.ends file is).0 (r.ends file is).1 (r.ends file is).2 (r.ends file is).4
  where
    go : (status : ℕ) (lines : List Line) → EndsBy (OutcomeOf c file) (Some c) file ⊤ status lines written.old written.new →
        Reports status lines result told.old told.new told.before told.now → (fault : FileFault) × IsRefused words file fault
        × (told.new ≡ and_then told.old (report (file_line fault ∷ [])))
    go status lines ends (inr (seven, piece, stopped)) = absurd (omega arith)
    go status lines (inl (s, l, short)) (inl (same, w, added)) = absurd (omega arith)
    go status lines (inr (inl (s, l, short))) (inl (same, w, added)) = absurd (omega arith)
    go status lines (inr (inr (inl (s, l, free, still)))) (inl (same, w, added)) = absurd (omega arith)
    go status lines (inr (inr (inr (o, outcome, s, l, still)))) (inl (same, w, added)) =
        let f = refused_file c file o (refusal c file) refl outcome (s ∙ sym same ∙ five) in
        (f.0, (c, e, f.1), w ∙ ap (λ ls. and_then told.old (report ls)) (sym l ∙ f.2))

refused_frame : (c : Command) (file : List ℕ) (o : Answer) (r : Option FileFault) → OfCommand c file r o → o.status ≡ 6 → (k : ℕ)
    × (fault : FrameFault) × (out : List ℕ) × (o ≡ frame_refused k fault out)
refused_frame c file o (Some fault) h six = let five = ap (λ (a : Answer). a.status) h in absurd (omega arith)
refused_frame c file o None (inl s) six = (s.stop.0, s.fault, s.out, s.answer)
refused_frame c file o None (inr h) six = let zero_status = done_is_0 c file (accepted file) o h.1 in absurd (omega arith)

-- no frame is refused by a command that asks for a sink that holds nothing
not_nothing : {A : Type 0} (before behind : List A) (x : A) → [] ≡ before ++ x ∷ behind → ⊥
not_nothing [] behind x e = absurd cc
not_nothing (b ∷ before) behind x e = absurd cc

whole_of_refused : (c : Command) (file : List ℕ) (o : Answer) (r : Option FileFault) (old new : Option (List ℕ)) → OfCommand c file r o → o.status ≡ 6 →
    WholeOf (Some c) o.out old new → new ≡ and_then old o.out
whole_of_refused (encode level) file o (Some fault) old new h six w = let five = ap (λ (a : Answer). a.status) h in absurd (omega arith)
whole_of_refused (encode level) file o None old new (inl s) six w = absurd (not_nothing s.before s.behind s.stop s.is_run)
whole_of_refused (encode level) file o None old new (inr h) six w = let zero_status =
    done_is_0 (encode level) file (accepted file) o h.1 in absurd (omega arith)
whole_of_refused decode file o r old new h six w = w
whole_of_refused (cut first last) file o r old new h six w = w
whole_of_refused (frame k by_index) file o r old new h six w = w
whole_of_refused check file o r old new h six w = w
whole_of_refused show file o r old new h six w = w
whole_of_refused (show_frame k) file o r old new h six w = w
whole_of_refused index file o r old new h six w = w
whole_of_refused (make start frames channels multiple) file o r old new h six w = w
whole_of_refused (make_run start frames channels multiple) file o r old new h six w = w
whole_of_refused (encode_dsf level) file o (Some fault) old new h six w = let five = ap (λ (a : Answer). a.status) h in absurd (omega arith)
whole_of_refused (encode_dsf level) file o None old new (inl s) six w = absurd (not_nothing s.before s.behind s.stop s.is_run)
whole_of_refused (encode_dsf level) file o None old new (inr h) six w =
    let zero_status = done_is_0 (encode_dsf level) file (accepted file) o h.1 in absurd (omega arith)
whole_of_refused decode_dsf file o r old new h six w = w
whole_of_refused (range pairs) file o r old new h six w = w

abbrev FrameIsAnswered : List Word → List ℕ → Held → Told → Type 0
FrameIsAnswered words file written told =
    (k : ℕ) × (fault : FrameFault) × (out : List ℕ) × Outcome words file (frame_refused k fault out) × (written.new ≡ and_then written.old out)
    × (told.new ≡ and_then told.old (report (frame_fault_line k fault ∷ [])))

pub run_refused_frame : (words : List Word) (c : Command) (file : List ℕ) (result : ℕ) (bytes : Option (List ℕ)) (source sink counts given : Counts)
    (written : Held) (told : Told) (Same Settled Unread Stays Silent : Type 0) → command_of words ≡ Some c →
    IsRun c result bytes source sink counts given written told Same Settled Unread Stays Silent → bytes ≡ Some file → result ≡ 6 →
    FrameIsAnswered words file written told
run_refused_frame words c file result bytes source sink counts given written told Same Settled Unread Stays Silent e r is six =
    go (r.ends file is).0 (r.ends file is).1 (r.ends file is).2 (r.ends file is).4
  where
    go : (status : ℕ) (lines : List Line) → EndsBy (OutcomeOf c file) (Some c) file ⊤ status lines written.old written.new →
        Reports status lines result told.old told.new told.before told.now → FrameIsAnswered words file written told
    go status lines ends (inr (seven, piece, stopped)) = absurd (omega arith)
    go status lines (inl (s, l, short)) (inl (same, w, added)) = absurd (omega arith)
    go status lines (inr (inl (s, l, short))) (inl (same, w, added)) = absurd (omega arith)
    go status lines (inr (inr (inl (s, l, free, still)))) (inl (same, w, added)) = absurd (omega arith)
    go status lines (inr (inr (inr (o, outcome, s, l, still)))) (inl (same, w, added)) =
        let f = refused_frame c file o (refusal c file) outcome (s ∙ sym same ∙ six) in (
          f.0,
          f.1,
          f.2,
          of_words words c file (frame_refused f.0 f.1 f.2) e (subst (OutcomeOf c file) f.3 outcome),
          whole_of_refused c file o (refusal c file) written.old written.new outcome (s ∙ sym same ∙ six) still
              ∙ ap (λ (a : Answer). and_then written.old a.out) f.3,
          w ∙ ap (λ ls. and_then told.old (report ls)) (sym l ∙ ap (λ (a : Answer). a.lines) f.3),
        )

-- ---- words that aren't understood
-- what words are: no command, or one
pub by_words : {P : Type 0} (words : List Word) → (command_of words ≡ None → P) → ((c : Command) → command_of words ≡ Some c → P) → P
by_words {P} words none some = go (command_of words) refl
  where
    go : (r : Option Command) → command_of words ≡ r → P
    go None e = none e
    go (Some c) e = some c e

pub no_command : (words : List Word) (file : List ℕ) (old new : Option (List ℕ)) → command_of words ≡ None → new ≡ old →
    EndsAs words file 1 (words_line ∷ []) old new
no_command words file old new e same = (
  not_understood,
  subst (λ r. OfWords r file not_understood) (sym e) refl,
  refl,
  refl,
  subst (λ r. WholeOf r [] old new) (sym e)
      (same ∙ sym (and_then-nothing old)),
)

pub only_words_line : (words : List Word) (file : List ℕ) (o : Answer) → command_of words ≡ None → Outcome words file o → o.lines ≡ words_line ∷ []
only_words_line words file o e h =
    let is : o ≡ not_understood = subst (λ r. OfWords r file o) e h in
    ap (λ (a : Answer). a.lines) is

pub none_headline : (words : List Word) (file : List ℕ) (result : ℕ) (old new told_old told_new : Option (List ℕ)) (before now : ℕ) →
    command_of words ≡ None → new ≡ old → Reports 1 (words_line ∷ []) result told_old told_new before now → (result ≡ 7 → ⊥) →
    Headline words file result old new told_old told_new
none_headline words file result old new told_old told_new before now e same (inl (is, told, added)) fine =
    inr (words_line ∷ [], subst (λ status. EndsAs words file status (words_line ∷ []) old new) (sym is) (no_command words file old new e same), told)
none_headline words file result old new told_old told_new before now e same (inr (is, piece, stopped)) fine = absurd (fine is)

-- their status is 1, which no device has, or 7
pub words_status : (result : ℕ) (old new : Option (List ℕ)) (before now : ℕ) → Reports 1 (words_line ∷ []) result old new before now →
    (result ≡ 1) ⊎ (result ≡ 7)
words_status result old new before now (inl (is, told, added)) = inl is
words_status result old new before now (inr (is, piece, stopped)) = inr is

pub words_caused : (source_before source_now sink_before sink_now : ℕ) → IsCaused 1 source_before source_now sink_before sink_now
words_caused source_before source_now sink_before sink_now = record { read = λ e. absurd (omega arith); write = λ e. absurd (omega arith) }

pub at_most_seven : (result : ℕ) (old new : Option (List ℕ)) (before now : ℕ) → Reports 1 (words_line ∷ []) result old new before now → result ≤ 7
at_most_seven result old new before now (inl (is, told, added)) = omega arith
at_most_seven result old new before now (inr (is, piece, stopped)) = omega arith

not_of_words : (status result : ℕ) (old new : Option (List ℕ)) (before now : ℕ) → Reports 1 (words_line ∷ []) result old new before now →
    result ≡ status → 1 < status → status < 7 → ⊥
not_of_words status result old new before now (inl (is, told, added)) same least most = omega arith
not_of_words status result old new before now (inr (is, piece, stopped)) same least most = omega arith

-- each other status is that of a command
pub by_status : {P : Type 0} (words : List Word) (status result : ℕ) (old new : Option (List ℕ)) (before now : ℕ) →
    (command_of words ≡ None → Reports 1 (words_line ∷ []) result old new before now) → result ≡ status → 1 < status → status < 7 →
    ((c : Command) → command_of words ≡ Some c → P) → P
by_status words status result old new before now refused same least most some =
    by_words words (λ none. absurd (not_of_words status result old new before now (refused none) same least most)) some

-- a device that is what it was has failed no less often
pub no_fewer : (now before : ℕ) → now ≡ before → before ≤ now
no_fewer now before e = omega arith

-- the line is reported, or the report failed
pub reported : (status result : ℕ) (line : Line) (bytes : List ℕ) (old new : Option (List ℕ)) (before now : ℕ) → bytes ≡ report (line ∷ []) →
    (result ≡ status) ⊎ (result ≡ 7) → (result ≡ status → new ≡ and_then old bytes) → (result ≡ 7 → IsCutShort old bytes new) →
    (result ≡ status → now ≡ before + length bytes) → (result ≡ 7 → now ≡ before) → Reports status (line ∷ []) result old new before now
reported status result line bytes old new before now b (inl e) whole short added stopped =
    inl (e, whole e ∙ ap (and_then old) b, added e ∙ ap (λ (w : List ℕ). before + length w) b)
reported status result line bytes old new before now b (inr e) whole short added stopped =
    inr (e, subst (λ w. IsCutShort old w new) b (short e), none_of_one line before now (stopped e))
