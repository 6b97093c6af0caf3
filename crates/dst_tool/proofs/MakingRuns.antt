-- A command that makes its sound: from what it answers to what the run leaves.
use Rattle.std.proofs.Common.{◌≡◌, ◌⊎◌, inl, inr, ℕ, ◌≤◌, List, [], length, Option, Some, None, Result, Ok, Err, IfOk, sym, subst, ◌∙◌}
use Rattle.std.specs.Prelude.{⊤}
use Rattle.std.specs.declared.alloc.AllocError.{AllocError}
use Rattle.dst_spec.specs.Bits.{AreBytes}
use Rattle.dst_streams.specs.Causes.{Rose}
use Rattle.dsdiff_spec.specs.Words.{Command}
use Rattle.dsdiff_spec.specs.Outcome.{Answer}
use Rattle.dsdiff_spec.specs.Refusal.{refusal}
use Rattle.dsdiff_spec.proofs.ByRules.{not_refused}
use Rattle.dsdiff_spec.proofs.OneAnswer.{HasOutcome}
use Rattle.dst_commands.specs.Commands.{OutcomeOf}
use Rattle.dst_make.specs.declared.make.MakeFault.{MakeFault}
use Rattle.dst_tool.specs.declared.making.RunFault.{RunFault}
use Rattle.dst_tool.specs.declared.answers.Numbers.{Numbers}
use Rattle.dst_tool.specs.declared.answers.Fault.{Fault}
use Rattle.dst_tool.specs.declared.answers.Fault.TheVariants.{Read, Write, Memory, Report, File, Frame}
use Rattle.dst_tool.specs.Answers.{answered, status_of, line_of, of_make, of_run, TellsOneLine}
use Rattle.dst_tool.specs.Runs.{WritesNowhere, WritesFile, Counts, Held, Told, IsRun}
use Rattle.dst_tool.proofs.OneLine.{OfTold, IsWhole, IsPartly, IsAnswer, TakesFrame, TellsLine, run_of_answer, same_run, takes_none}
use Rattle.dst_tool.proofs.Inverting.{IsAnsweredAs, never_answered, ran_no_other, to_make}

-- ---- faults that making hasn't
abbrev pub IsNotOfMaking : Fault → Type 0
IsNotOfMaking Read = ⊤
IsNotOfMaking (File fault) = ⊤
IsNotOfMaking (Frame k fault) = ⊤
IsNotOfMaking Report = ⊤
IsNotOfMaking Write = ⊥
IsNotOfMaking (Memory refused) = ⊥

pub made_no_other : {A : Type 0} {f : A → Numbers} {d : Result A MakeFault} {r : Result Numbers Fault} → IsAnsweredAs f of_make to_make d r →
    (fault : Fault) → IsNotOfMaking fault → r ≡ Err fault → ⊥
made_no_other says Read other = never_answered says Read (λ q. absurd cc)
made_no_other says (File fault) other = never_answered says (File fault) (λ q. absurd cc)
made_no_other says (Frame k fault) other = never_answered says (Frame k fault) (λ q. absurd cc)
made_no_other says Report other = never_answered says Report (λ q. absurd cc)
made_no_other says Write other = absurd other
made_no_other says (Memory refused) other = absurd other

-- of a run in memory
pub ran_not_so : {A : Type 0} (f : A → Numbers) (d : Result A RunFault) (r : Result Numbers Fault) → r ≡ answered f of_run d →
    (fault : Fault) → IsNotOfMaking fault → r ≡ Err fault → ⊥
ran_not_so f d r is fault other e = ran_no_other f d fault (λ refused same. subst IsNotOfMaking same other) (sym is ∙ e)

sink_failed : {A B C : Type 0} → (A → ⊥) → (B → C) → A ⊎ B → C
sink_failed none f (inl a) = absurd (none a)
sink_failed none f (inr b) = f b

-- ---- the run
pub run_of_making : {a c : Command} {result : ℕ} {bytes : Option (List ℕ)} {source sink counts given : Counts} {written : Held} {told : Told}
    {Same Settled Unread Stays Silent : Type 0} (r : Result Numbers Fault) →
    a ≡ c → HasOutcome c → TellsOneLine c → (TakesFrame c → ⊥) → ((file : List ℕ) → refusal c file ≡ None) → OfTold bytes AreBytes →
    (Same → written.new ≡ written.old) →
    ((fault : Fault) → IsNotOfMaking fault → r ≡ Err fault → ⊥) → ((file : List ℕ) → IfOk r (λ s. IsWhole c s file written.old written.new)) →
    (r ≡ Err Write → (file : List ℕ) → IsPartly c file written.old written.new) → Stays → Unread → source.before ≤ source.now →
    sink.before ≤ sink.now → (r ≡ Err Write → Rose sink.before sink.now) →
    (r ≡ Err Write → OfTold bytes (λ file. (o : Answer) → OutcomeOf c file o → (n : ℕ) → written.room ≡ Some n → length o.out ≤ n → ⊥)) →
    ((refused : AllocError) → r ≡ Err (Memory refused) → Same) → (WritesNowhere c → Same) → (WritesNowhere c → r ≡ Err Write → ⊥) →
    (WritesFile c → (s : Numbers) → r ≡ Ok s → Settled) → TellsLine (status_of r) (line_of c r) result counts told →
    IsRun a result bytes source sink counts given written told Same Settled Unread Stays Silent
run_of_making {a} {c} {result} {bytes} {source} {sink} {counts} {given} {written} {told} {Same} {Settled} {Unread} {Stays} {Silent} r same reads one no_frame
    accepts are as_written none finished partly stays unread later_source later_sink write sure memory idle no_write settled line =
    let answer : (file : List ℕ) → IsAnswer c r file written.old written.new = λ file. record {
      finished = finished file;
      file_is = λ fault q. absurd (none (File fault) tt q);
      untouched = λ fault q. absurd (none (File fault) tt q);
      frame_is = λ k fault q. absurd (none (Frame k fault) tt q);
      cut_short = sink_failed (none Read tt) (λ q. partly q file);
      memory = λ refused q. as_written (memory refused q);
      no_report = none Report tt;
    } in
    same_run same (run_of_answer c r result bytes source sink counts given written told Same Settled Unread Stays Silent reads one are (λ file e. answer file)
    (λ w. answer [])
    (record {
      bytes_stay = stays;
      later_source = later_source;
      later_sink = later_sink;
      read = λ q. absurd (none Read tt q);
      write = write;
      sure = sure;
      memory = memory;
      untouched = λ fault q. absurd (none (File fault) tt q);
      refused = λ file told fault q. absurd (not_refused _ fault (accepts file) q);
      idle = idle;
      no_write = no_write;
      unread = λ w. unread;
      no_file = λ w. (none Read tt, λ fault. none (File fault) tt, λ k fault. none (Frame k fault) tt);
      settled = settled;
      by_index = λ k e. takes_none c no_frame k e;
      any_source = λ k e. takes_none c no_frame k e;
      no_report = none Report tt;
    })
    line)
