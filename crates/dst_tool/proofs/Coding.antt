-- What encoding a file answers is its outcome: the coded file of the plain form that stands for it, which is the file itself unless it is a DSF file.
use Rattle.std.proofs.Common.{◌≡◌, ◌⊎◌, inl, inr, ℕ, ◌≤◌, List, [], ◌∷◌, length, Option, Some, None, Result, Ok, Err, IfOk, refl, ap}
use Rattle.std.proofs.Common.{OnOk, sym, subst, ◌∙◌, arith}
use Rattle.std.specs.declared.alloc.AllocError.{AllocError}
use Rattle.dst_spec.specs.Bits.{AreBytes}
use Rattle.dst_streams.specs.Causes.{Rose}
use Rattle.dst_streams.specs.Told.{and_then}
use Rattle.dsdiff_spec.specs.Dsf.{dsdiff}
use Rattle.dsdiff_spec.specs.Rules.{accepted}
use Rattle.dsdiff_spec.specs.Words.{Command, encode, encode_dsf}
use Rattle.dsdiff_spec.specs.Lines.{coded_line}
use Rattle.dsdiff_spec.specs.Refusal.{refusal}
use Rattle.dsdiff_spec.specs.Outcome.{Answer, done, file_refused, coded_at, stored_at, OfCommand}
use Rattle.dsdiff_spec.specs.declared.faults.FileFault.{FileFault}
use Rattle.dsdiff_spec.proofs.Stopping.{One}
use Rattle.dsdiff_spec.proofs.OneAnswer.{HasOutcome, command_has_one_outcome}
use Rattle.dst_commands.specs.Commands.{OutcomeOf}
use Rattle.dst_write.specs.Unfinished.{HoldsNothing, HoldsUnfinished, sound_size_place}
use Rattle.dst_write.specs.declared.faults.Encoded.{Encoded}
use Rattle.dst_write.specs.declared.faults.EncodeFault.{EncodeFault}
use Rattle.dst_tool.specs.declared.answers.Numbers.{Numbers}
use Rattle.dst_tool.specs.declared.answers.Fault.{Fault}
use Rattle.dst_tool.specs.declared.answers.Fault.TheVariants.{Read, Write, Memory, File}
use Rattle.dst_tool.specs.Answers.{done_line, line_of, of_encode, status_of, TellsOneLine}
use Rattle.dst_tool.specs.Runs.{WholeOf, PartOf, WritesNowhere, ReadsNothing, Counts, Held, Told, IsRun}
use Rattle.dst_tool.proofs.OneLine.{OfTold, IsWhole, IsPartly, TakesFrame, TellsLine, refusal_is}
use Rattle.dst_tool.proofs.DoneNumbers.{of_encoded}
use Rattle.dst_tool.proofs.Inverting.{IsAnsweredAs, to_encode}
use Rattle.dst_tool.proofs.FileRuns.{always_writes, run_of_file, write_is_no_frame, write_is_no_report}

-- the coded file, the bytes of its stored frames, and where the size of its sound stands
abbrev pub coded_of : (List ℕ → List ℕ) → ℕ → List ℕ → List ℕ
coded_of plain level file = coded_at level (plain file) (accepted (plain file))

abbrev pub stored_of : (List ℕ → List ℕ) → ℕ → List ℕ → ℕ
stored_of plain level file = stored_at level (plain file) (accepted (plain file))

abbrev pub place_of : (List ℕ → List ℕ) → List ℕ → ℕ
place_of plain file = sound_size_place (plain file) (accepted (plain file))

-- a command, by its level, that codes the plain form of a file
pub record CodesPlainForm (asks : ℕ → Command) (plain : List ℕ → List ℕ) : Type 0 where
  pub outcome : (level : ℕ) (file : List ℕ) → refusal (asks level) file ≡ None →
      OutcomeOf (asks level) file (done (coded_of plain level file) (coded_line (accepted (plain file)).frames (stored_of plain level file) ∷ []))
  pub line : (level : ℕ) (s : Numbers) → done_line (asks level) s ≡ coded_line s.frames s.bytes
  pub whole : (level : ℕ) (out : List ℕ) (old new : Option (List ℕ)) → (HoldsNothing old → new ≡ and_then old out) → WholeOf (Some (asks level)) out old new
  pub part : (level : ℕ) (file out : List ℕ) (old new : Option (List ℕ)) → (HoldsNothing old → HoldsUnfinished (place_of plain file) out new) →
      PartOf (Some (asks level)) file out old new
  pub kind : (level : ℕ) → HasOutcome (asks level) × TellsOneLine (asks level) × (ReadsNothing (asks level) → ⊥) × (WritesNowhere (asks level) → ⊥)
      × (TakesFrame (asks level) → ⊥)

pub codes_file : CodesPlainForm (λ level. encode level) (λ file. file)
codes_file = record {
  outcome = λ level file accepts. subst
      (λ q. OfCommand (encode level) file q
      (done (coded_at level file (accepted file)) (coded_line (accepted file).frames (stored_at level file (accepted file)) ∷ [])))
      (sym accepts) (inr (tt, refl));
  line = λ level s. refl;
  whole = λ level out old new h. h;
  part = λ level file out old new h. h;
  kind = λ level. (tt, tt, λ w. w, λ w. w, λ w. w);
}

pub codes_dsf : CodesPlainForm (λ level. encode_dsf level) (λ file. dsdiff file)
codes_dsf = record {
  outcome = λ level file accepts. subst
      (λ q. OfCommand (encode_dsf level) file q (done (coded_of (λ xs. dsdiff xs) level file)
      (coded_line (accepted (dsdiff file)).frames (stored_of (λ xs. dsdiff xs) level file) ∷ [])))
      (sym accepts) (inr (tt, refl));
  line = λ level s. refl;
  whole = λ level out old new h. h;
  part = λ level file out old new h. h;
  kind = λ level. (tt, tt, λ w. w, λ w. w, λ w. w);
}

-- ---- of one file
coded_whole : (asks : ℕ → Command) (plain : List ℕ → List ℕ) → CodesPlainForm asks plain → (d : Result Encoded EncodeFault) (level picker : ℕ)
    (bytes old new : Option (List ℕ)) → picker ≡ level → IfOk d (λ e. OfTold bytes (λ file. (level : ℕ) → refusal (asks level) file ≡ None)) →
    IfOk d (λ e. OfTold bytes (λ file. HoldsNothing old → new ≡ and_then old (coded_of plain picker file))) →
    IfOk d (λ e. OfTold bytes (λ file. e.frames ≡ (accepted (plain file)).frames)) →
    IfOk d (λ e. OfTold bytes (λ file. e.bytes ≡ stored_of plain picker file)) →
    IfOk d (λ e. OfTold bytes (λ file. IsWhole (asks level) (of_encoded e) file old new))
coded_whole asks plain codes (Err fault) level picker bytes old new is accepts written frames stored = tt {0}
coded_whole asks plain codes (Ok e) level picker bytes old new is accepts written frames stored = λ file told.
    let out = coded_of plain level file in
    let bytes_are : e.bytes ≡ stored_of plain level file = stored file told ∙ ap (λ n. stored_of plain n file) is in
    let line : done_line (asks level) (of_encoded e) ≡ coded_line (accepted (plain file)).frames (stored_of plain level file) =
    codes.line level (of_encoded e) ∙ ap (λ n. coded_line n e.bytes) (frames file told) ∙ ap (λ n. coded_line (accepted (plain file)).frames n) bytes_are in (
      out,
      subst (λ l. OutcomeOf (asks level) file (done out (l ∷ []))) (sym line) (codes.outcome level file (accepts file told level)),
      codes.whole level out old new (λ nothing. written file told nothing ∙ ap (λ n. and_then old (coded_of plain n file)) is),
    )

-- the outcome of a file that is accepted is that coded file
coded_out : (asks : ℕ → Command) (plain : List ℕ → List ℕ) → CodesPlainForm asks plain → (level picker : ℕ) (file : List ℕ) (o : Answer) →
    picker ≡ level → refusal (asks level) file ≡ None → OutcomeOf (asks level) file o → One (OutcomeOf (asks level) file) →
    o.out ≡ coded_of plain picker file
coded_out asks plain codes level picker file o is accepts outcome one =
    ap (λ (a : Answer). a.out) (one.2 o outcome ∙ sym (one.2 _ (codes.outcome level file accepts))) ∙ ap (λ n. coded_of plain n file) (sym is)

holds_nothing_yet : (place : ℕ) (old new : Option (List ℕ)) → new ≡ old → HoldsNothing old → HoldsUnfinished place [] new
holds_nothing_yet place old new same nothing = subst (HoldsUnfinished place []) (sym same) (go old nothing)
  where
    go : (held : Option (List ℕ)) → HoldsNothing held → HoldsUnfinished place [] held
    go None h = tt {0}
    go (Some held) h = inl (0, omega arith, h)

-- where a device failed, a file that isn't finished is there, or nothing
part_of_coding : (asks : ℕ → Command) (plain : List ℕ → List ℕ) → CodesPlainForm asks plain → (level picker : ℕ) (file : List ℕ)
    (old new : Option (List ℕ)) → picker ≡ level → ((fault : FileFault) → refusal (asks level) file ≡ Some fault → new ≡ old) →
    (HoldsNothing old → HoldsUnfinished (place_of plain file) (coded_of plain picker file) new) → IsPartly (asks level) file old new
part_of_coding asks plain codes level picker file old new is refused unfinished = go (refusal (asks level) file) refl
  where
    go : (q : Option FileFault) → refusal (asks level) file ≡ q → IsPartly (asks level) file old new
    go (Some fault) e = (
      file_refused fault,
      refusal_is (asks level) file fault e,
      codes.part level file [] old new (holds_nothing_yet (place_of plain file) old new (refused fault e)),
    )
    go None e = (
      done (coded_of plain level file) (coded_line (accepted (plain file)).frames (stored_of plain level file) ∷ []),
      codes.outcome level file e,
      codes.part level file (coded_of plain level file) old new
          (λ nothing. subst (λ n. HoldsUnfinished (place_of plain file) (coded_of plain n file) new) is (unfinished nothing)),
    )

-- ---- the run
pub run_of_coding : {asks : ℕ → Command} {plain : List ℕ → List ℕ} {d : Result Encoded EncodeFault} {r : Result Numbers Fault} {a : Command}
    {level picker result : ℕ} {bytes : Option (List ℕ)} {source sink counts given : Counts} {written : Held} {told : Told}
    {Same Settled Unread Stays Silent : Type 0} →
    CodesPlainForm asks plain → picker ≡ level → a ≡ asks level → IsAnsweredAs of_encoded of_encode to_encode d r → OfTold bytes AreBytes →
    (Same → written.new ≡ written.old) → IfOk d (λ e. OfTold bytes (λ file. (n : ℕ) → refusal (asks n) file ≡ None)) →
    IfOk d (λ e. OfTold bytes (λ file. HoldsNothing written.old → written.new ≡ and_then written.old (coded_of plain picker file))) →
    IfOk d (λ e. OfTold bytes (λ file. e.frames ≡ (accepted (plain file)).frames)) →
    IfOk d (λ e. OfTold bytes (λ file. e.bytes ≡ stored_of plain picker file)) →
    ((fault : FileFault) → d ≡ Err (to_encode (File fault)) → OfTold bytes (λ file. (n : ℕ) → refusal (asks n) file ≡ Some fault)) →
    OfTold bytes (λ file. (n : ℕ) (fault : FileFault) → refusal (asks n) file ≡ Some fault → Same) →
    ((d ≡ Err (to_encode Read)) ⊎ (d ≡ Err (to_encode Write)) →
    OfTold bytes (λ file. HoldsNothing written.old → HoldsUnfinished (place_of plain file) (coded_of plain picker file) written.new)) →
    (d ≡ Err (to_encode Write) → OfTold bytes (λ file. (n : ℕ) → refusal (asks n) file ≡ None)) →
    Stays → (source.before ≤ source.now) × (sink.before ≤ sink.now) →
    (d ≡ Err (to_encode Read) → Rose source.before source.now) → (d ≡ Err (to_encode Write) → Rose sink.before sink.now) →
    (d ≡ Err (to_encode Write) → OfTold bytes (λ file. (n : ℕ) → written.room ≡ Some n → length (coded_of plain picker file) ≤ n → ⊥)) →
    ((refused : AllocError) → d ≡ Err (to_encode (Memory refused)) → Same) → ((fault : FileFault) → d ≡ Err (to_encode (File fault)) → Same) →
    OnOk d Settled → TellsLine (status_of r) (line_of (asks level) r) result counts told →
    IsRun a result bytes source sink counts given written told Same Settled Unread Stays Silent
run_of_coding {asks} {plain} {d} {r} {a} {level} {picker} {result} {bytes} {source} {sink} {counts} {given} {written} {told} codes is same says are
    as_written accepts coded frames stored file refused unfinished write_accepted stays later read write sure memory untouched settled line =
    let kind = codes.kind level in
    run_of_file same says write_is_no_report kind.0 kind.1 kind.2 are as_written
    (coded_whole asks plain codes d level picker bytes written.old written.new is accepts coded frames stored) (λ fault h xs e. file fault h xs e level)
    (λ k fault other. write_is_no_frame k fault other)
    (λ h xs e. part_of_coding asks plain codes level picker xs written.old written.new is
    (λ fault q. as_written (refused xs e level fault q)) (unfinished h xs e))
    stays later read write
    (λ h xs e o outcome n room fits.
    let one = command_has_one_outcome (asks level) xs kind.0 (are xs e) in
    let out = coded_out asks plain codes level picker xs o is (write_accepted h xs e level) outcome one in
    sure h xs e n room (subst (λ w. length w ≤ n) out fits))
    memory untouched (λ xs e fault q. refused xs e level fault q) (always_writes kind.3 kind.4 settled) line
