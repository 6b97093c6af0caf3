-- What making answers is its outcome, whatever file the words stand beside.
use Rattle.std.proofs.Common.{◌≡◌, inr, ℕ, ◌*◌, List, [], ◌∷◌, Option, None, Result, Ok, Err, IfOk, refl, ap, sym, subst, ◌∙◌}
use Rattle.dst_spec.specs.Sample.{Shape, IsShape, sound_bytes}
use Rattle.dst_streams.specs.Told.{and_then}
use Rattle.dsdiff_spec.specs.Form.{shape_of}
use Rattle.dsdiff_spec.specs.Words.{Command, make, make_run}
use Rattle.dsdiff_spec.specs.Lines.{Line, made_line, made_run_line}
use Rattle.dsdiff_spec.specs.Outcome.{Answer, done, run_line}
use Rattle.dsdiff_spec.specs.Refusal.{refusal}
use Rattle.dsdiff_spec.proofs.Stopping.{One}
use Rattle.dst_commands.specs.Commands.{OutcomeOf}
use Rattle.dst_make.specs.Making.{multiple_of, made_file}
use Rattle.dst_make.specs.declared.make.Made.{Made}
use Rattle.dst_make.specs.declared.make.MakeFault.{MakeFault}
use Rattle.dst_write.specs.declared.faults.Encoded.{Encoded}
use Rattle.dst_make.proofs.MadeSounds.{octets_of}
use Rattle.dst_read.specs.declared.faults.Decoded.{Decoded}
use Rattle.dst_tool.specs.declared.making.RunFault.{RunFault}
use Rattle.dst_tool.specs.declared.answers.Numbers.{Numbers}
use Rattle.dst_tool.specs.Answers.{done_line}

-- making reads no file, and so refuses none
pub making_is_accepted : (start frames channels multiple : ℕ) (file : List ℕ) → refusal (make start frames channels multiple) file ≡ None
unfolding refusal
making_is_accepted start frames channels multiple file = refl

pub run_is_accepted : (start frames channels multiple : ℕ) (file : List ℕ) → refusal (make_run start frames channels multiple) file ≡ None
unfolding refusal
run_is_accepted start frames channels multiple file = refl

-- making of a shape of frames
abbrev pub asks_make : ℕ → ℕ → Shape → Command
asks_make start frames f = make start frames f.channels (multiple_of f)

abbrev pub asks_run : ℕ → ℕ → Shape → Command
asks_run start frames f = make_run start frames f.channels (multiple_of f)

pub made_outcome : (start frames : ℕ) (f : Shape) (file : List ℕ) →
    OutcomeOf (asks_make start frames f) file (done (made_file start frames f) (made_line frames ∷ []))
unfolding refusal
made_outcome start frames f file = inr (tt, refl)

pub made_out : (start frames : ℕ) (f : Shape) (file : List ℕ) (o : Answer) → OutcomeOf (asks_make start frames f) file o →
    One (OutcomeOf (asks_make start frames f) file) → o.out ≡ made_file start frames f
made_out start frames f file o is one = ap (λ (a : Answer). a.out) (one.2 o is ∙ sym (one.2 _ (made_outcome start frames f file)))

pub made_whole : (d : Result Made MakeFault) (start frames : ℕ) (f : Shape) (file : List ℕ) (old new : Option (List ℕ)) →
    IfOk d (λ m. new ≡ and_then old (made_file start frames f)) → IfOk d (λ m. m.frames ≡ frames) →
    IfOk d (λ m. (out : List ℕ) × OutcomeOf (asks_make start frames f) file (done out (made_line m.frames ∷ [])) × (new ≡ and_then old out))
made_whole (Err fault) start frames f file old new w n = tt {0}
made_whole (Ok m) start frames f file old new w n = (
  made_file start frames f,
  subst (λ k. OutcomeOf (asks_make start frames f) file (done (made_file start frames f) (made_line k ∷ []))) (sym n) (made_outcome start frames f file),
  w,
)

-- ---- a run in memory
run_outcome : (start frames : ℕ) (f : Shape) (file : List ℕ) (line : Line) → run_line frames (made_file start frames f) ≡ line →
    OutcomeOf (asks_run start frames f) file (done [] (line ∷ []))
unfolding refusal
run_outcome start frames f file line e = inr (tt, ap (λ (l : Line). done [] (l ∷ [])) (sym e))

pub same_shape : (f : Shape) → IsShape f → shape_of f.channels (multiple_of f) ≡ f
same_shape f shape = ap (λ o. record { channels = f.channels; octets = o }) (octets_of f shape)

abbrev pub of_ran : Encoded × Decoded → Numbers
of_ran d = record { frames = d.0.frames; bytes = d.0.bytes; unread = 0; restored = d.1.bytes }

pub run_done : (d : Result (Encoded × Decoded) RunFault) (start frames : ℕ) (f : Shape) (file : List ℕ) → IsShape f →
    IfOk d (λ r. (r.0.frames ≡ frames) × (r.1.frames ≡ frames)) →
    IfOk d (λ r. run_line frames (made_file start frames f) ≡ made_run_line frames (frames * sound_bytes f) r.0.bytes r.1.bytes) →
    IfOk d (λ r. OutcomeOf (asks_run start frames f) file (done [] (done_line (asks_run start frames f) (of_ran r) ∷ [])))
run_done (Err fault) start frames f file shape n l = tt {0}
run_done (Ok r) start frames f file shape n l =
    run_outcome start frames f file _ (
    l
    ∙ ap (λ k. made_run_line k (k * sound_bytes f) r.0.bytes r.1.bytes) (sym n.0)
    ∙ ap (λ g. made_run_line r.0.frames (r.0.frames * sound_bytes g) r.0.bytes r.1.bytes) (sym (same_shape f shape)))
