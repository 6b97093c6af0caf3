-- A command that reads a file and may write one: from what it answers in its own words to what the run leaves.
use Rattle.std.proofs.Common.{◌≡◌, ◌≢◌, ◌⊎◌, inl, inr, ℕ, ◌+◌, ◌≤◌, true, List, length, Option, Some, Result, Ok, Err, IfOk, OnOk, sym, subst, ◌∙◌}
use Rattle.std.specs.declared.alloc.AllocError.{AllocError}
use Rattle.dst_spec.specs.Bits.{AreBytes}
use Rattle.dst_spec.specs.declared.faults.FrameFault.{FrameFault}
use Rattle.dst_streams.specs.Causes.{Rose}
use Rattle.dsdiff_spec.specs.declared.faults.FileFault.{FileFault}
use Rattle.dsdiff_spec.specs.Form.{sound_bytes_of}
use Rattle.dsdiff_spec.specs.Rules.{accepted}
use Rattle.dsdiff_spec.specs.Words.{Command, frame}
use Rattle.dsdiff_spec.specs.Refusal.{refusal}
use Rattle.dsdiff_spec.specs.Outcome.{Answer}
use Rattle.dsdiff_spec.proofs.OneAnswer.{HasOutcome}
use Rattle.dst_commands.specs.Commands.{OutcomeOf}
use Rattle.dst_tool.specs.declared.answers.Numbers.{Numbers}
use Rattle.dst_tool.specs.declared.answers.Fault.{Fault}
use Rattle.dst_tool.specs.declared.answers.Fault.TheVariants.{Read, Write, Memory, Report, File, Frame}
use Rattle.dst_tool.specs.Answers.{status_of, line_of, TellsOneLine}
use Rattle.dst_tool.specs.Runs.{WritesNowhere, ReadsNothing, WritesFile, most_given, longest_sound, Counts, Held, Told, IsRun}
use Rattle.dst_tool.proofs.OneLine.{OfTold, IsWhole, IsPartly, IsRefusedBehind, TakesFrame, TellsLine, at_file, run_of_answer, same_run, takes_none}
use Rattle.dst_tool.proofs.Inverting.{IsAnsweredAs, if_answered, if_done, own_fault, answered_again, never_answered}

-- ---- faults that are no other
pub write_is_no_report : Write ≢ Report
write_is_no_report = λ e. absurd cc

pub write_is_no_frame : {P : Type 0} (k : ℕ) (fault : FrameFault) → Write ≡ Frame k fault → P
write_is_no_frame k fault e = absurd cc

either : {A B C D : Type 0} → (A → C) → (B → D) → A ⊎ B → C ⊎ D
either f h (inl a) = inl (f a)
either f h (inr b) = inr (h b)

-- ---- what it does with its devices in some cases
-- One may make no call on the sink, or take one frame; `write` is its own fault of a sink that failed.
pub record ActsInCases {A E : Type 0} (c : Command) (d : Result A E) (write : E) (bytes : Option (List ℕ)) (given : Counts)
    (Same Settled : Type 0) : Type 0 where
  pub idle : WritesNowhere c → Same
  pub no_write : WritesNowhere c → d ≡ Err write → ⊥
  pub settled : OnOk d (WritesFile c → Settled)
  pub by_index : (k : ℕ) → c ≡ frame k true → OfTold bytes (λ file. given.now ≤ given.before + most_given (sound_bytes_of (accepted file)))
  pub any_source : (k : ℕ) → c ≡ frame k true → given.now ≤ given.before + most_given longest_sound

pub when_wanted : {A E : Type 0} (W Q : Type 0) (d : Result A E) → OnOk d Q → OnOk d (W → Q)
when_wanted W Q (Ok a) q = λ w. q
when_wanted W Q (Err fault) q = tt {0}

-- one that always writes, and takes all frames
pub always_writes : {A E : Type 0} {c : Command} {d : Result A E} {write : E} {bytes : Option (List ℕ)} {given : Counts} {Same Settled : Type 0} →
    (WritesNowhere c → ⊥) → (TakesFrame c → ⊥) → OnOk d Settled → ActsInCases c d write bytes given Same Settled
always_writes {A} {E} {c} {d} somewhere no_frame settled = record {
  idle = λ w. absurd (somewhere w);
  no_write = λ w q. somewhere w;
  settled = when_wanted (WritesFile c) _ d settled;
  by_index = λ k e. takes_none c no_frame k e;
  any_source = λ k e. takes_none c no_frame k e;
}

-- ---- the run
pub run_of_file : {A E : Type 0} {f : A → Numbers} {h : E → Fault} {back : Fault → E} {d : Result A E} {r : Result Numbers Fault} {a c : Command}
    {result : ℕ} {bytes : Option (List ℕ)} {source sink counts given : Counts} {written : Held} {told : Told}
    {Same Settled Unread Stays Silent : Type 0} →
    a ≡ c → IsAnsweredAs f h back d r → (h (back Report) ≢ Report) → HasOutcome c → TellsOneLine c → (ReadsNothing c → ⊥) →
    OfTold bytes AreBytes → (Same → written.new ≡ written.old) →
    IfOk d (λ s. OfTold bytes (λ file. IsWhole c (f s) file written.old written.new)) →
    ((fault : FileFault) → d ≡ Err (back (File fault)) → OfTold bytes (λ file. refusal c file ≡ Some fault)) →
    ((k : ℕ) (fault : FrameFault) → h (back (Frame k fault)) ≡ Frame k fault → d ≡ Err (back (Frame k fault)) →
    OfTold bytes (λ file. IsRefusedBehind c file k fault written.old written.new)) →
    ((d ≡ Err (back Read)) ⊎ (d ≡ Err (back Write)) → OfTold bytes (λ file. IsPartly c file written.old written.new)) →
    Stays → (source.before ≤ source.now) × (sink.before ≤ sink.now) →
    (d ≡ Err (back Read) → Rose source.before source.now) → (d ≡ Err (back Write) → Rose sink.before sink.now) →
    (d ≡ Err (back Write) → OfTold bytes (λ file. (o : Answer) → OutcomeOf c file o → (n : ℕ) → written.room ≡ Some n → length o.out ≤ n → ⊥)) →
    ((refused : AllocError) → d ≡ Err (back (Memory refused)) → Same) → ((fault : FileFault) → d ≡ Err (back (File fault)) → Same) →
    OfTold bytes (λ file. (fault : FileFault) → refusal c file ≡ Some fault → Same) →
    ActsInCases c d (back Write) bytes given Same Settled → TellsLine (status_of r) (line_of c r) result counts told →
    IsRun a result bytes source sink counts given written told Same Settled Unread Stays Silent
run_of_file {A} {E} {f} {h} {back} {d} {r} {a} {c} {result} {bytes} {source} {sink} {counts} {given} {written} {told} {Same} {Settled} {Unread} {Stays}
    {Silent} same says no_report reads one not_made are as_written whole file frame_is partly stays later read write sure memory untouched refused acts line =
    same_run same (run_of_answer c r result bytes source sink counts given written told Same Settled Unread Stays Silent reads one are
    (λ xs e. record {
      finished = subst (λ q. IfOk q (λ s. IsWhole c s xs written.old written.new)) (sym says.is)
          (if_answered f h d (λ s. IsWhole c s xs written.old written.new)
          (at_file d (λ s ys. IsWhole c (f s) ys written.old written.new) bytes xs e whole));
      file_is = λ fault q. file fault (own_fault says (File fault) q) xs e;
      untouched = λ fault q. as_written (untouched fault (own_fault says (File fault) q));
      frame_is = λ k fault q. frame_is k fault (answered_again says (Frame k fault) q) (own_fault says (Frame k fault) q) xs e;
      cut_short = λ q. partly (either (own_fault says Read) (own_fault says Write) q) xs e;
      memory = λ refused q. as_written (memory refused (own_fault says (Memory refused) q));
      no_report = never_answered says Report no_report;
    })
    (λ w. absurd (not_made w))
    (record {
      bytes_stay = stays;
      later_source = later.0;
      later_sink = later.1;
      read = λ q. read (own_fault says Read q);
      write = λ q. write (own_fault says Write q);
      sure = λ q. sure (own_fault says Write q);
      memory = λ refused q. memory refused (own_fault says (Memory refused) q);
      untouched = λ fault q. untouched fault (own_fault says (File fault) q);
      refused = refused;
      idle = acts.idle;
      no_write = λ w q. acts.no_write w (own_fault says Write q);
      unread = λ w. absurd (not_made w);
      no_file = λ w. absurd (not_made w);
      settled = λ w s q.
          let stays_there : WritesFile c → Settled = if_done f h d s (sym says.is ∙ q) acts.settled in
          stays_there w;
      by_index = acts.by_index;
      any_source = acts.any_source;
      no_report = never_answered says Report no_report;
    })
    line)
