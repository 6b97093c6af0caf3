-- Each answer is one of opening, or one of writing.
use Rattle.std.proofs.Common.{◌≡◌, inl, inr, ℕ, ◌+◌, ◌^◌, ◌<◌, ◌≤◌, List, ◌∷◌, [], Option, Some, Result, Ok, Err, subst, ◌∙◌, arith}
use Rattle.std.specs.Prelude.{IfOk, OnOk}
use Rattle.dst_streams.specs.Told.{and_then}
use Rattle.dsdiff_spec.specs.Rules.{accepted}
use Rattle.dsdiff_spec.specs.Lines.{range_line}
use Rattle.dsdiff_spec.specs.Outcome.{done}
use Rattle.dsdiff_spec.specs.Words.{range}
use Rattle.dsdiff_spec.proofs.ByRules.{not_refused}
use Rattle.dst_commands.specs.Commands.{OutcomeOf}
use Rattle.dst_read.specs.declared.faults.DecodeFault.{DecodeFault}
use Rattle.dst_ranges.specs.Asked.{bytes_read}
use Rattle.dst_ranges.specs.Ending.{RangeEnds}
use Rattle.dst_ranges.specs.declared.range.RangeWritten.{RangeWritten}
use Rattle.dst_ranges.proofs.Outcomes.{nothing_written}
use Rattle.dst_ranges.proofs.range.range_out.Goals as goal

-- ---- of opening
pub returns-in-Err-clause-cut_short : goal.returns-in-Err-clause-cut_short
returns-in-Err-clause-cut_short g c e file told =
    nothing_written c.args.pairs.now file (g.K.Sink.written c.args.sink.now) (g.met.S.Source.told_are_bytes c.args.source.now file told)

-- ---- of writing
-- a file that is written from isn't refused
pub returns-clause-refused : goal.returns-clause-refused
returns-clause-refused g c file told fault e = absurd (not_refused _ fault (c.in-Ok.ensures.opened file told).accepts e)

if_written : (r : Result RangeWritten DecodeFault) (pairs : List (ℕ × ℕ)) (bytes : Option (List ℕ)) (old new : Option (List ℕ)) (room : Option ℕ) →
    ((file : List ℕ) → bytes ≡ Some file → RangeEnds r pairs file old new room) →
    IfOk r (λ s. (file : List ℕ) → bytes ≡ Some file →
    (out : List ℕ) × OutcomeOf (range pairs) file (done out (range_line s.bytes ∷ [])) × (new ≡ and_then old out))
if_written (Ok s) pairs bytes old new room h = h
if_written (Err fault) pairs bytes old new room h = tt {0}

pub returns-clause-written : goal.returns-clause-written
returns-clause-written g c =
    if_written c.write_opened.result c.args.pairs.now (g.S.Source.bytes c.args.source.now) (g.K.Sink.written c.args.sink.now)
    (g.K.Sink.written c.write_opened.new.sink)
    (g.K.Sink.room c.args.sink.now)
    (λ file told. c.write_opened.ensures.written file (c.in-Ok.ensures.bytes ∙ told))

pub returns-clause-frame : goal.returns-clause-frame
returns-clause-frame g c k fault e file told =
    subst (λ r. RangeEnds r c.args.pairs.now file (g.K.Sink.written c.args.sink.now) (g.K.Sink.written c.write_opened.new.sink)
    (g.K.Sink.room c.args.sink.now)) e
    (c.write_opened.ensures.written file (c.in-Ok.ensures.bytes ∙ told))

pub returns-clause-cut_short : goal.returns-clause-cut_short
returns-clause-cut_short g c (inl e) file told =
    subst (λ r. RangeEnds r c.args.pairs.now file (g.K.Sink.written c.args.sink.now) (g.K.Sink.written c.write_opened.new.sink)
    (g.K.Sink.room c.args.sink.now)) e
    (c.write_opened.ensures.written file (c.in-Ok.ensures.bytes ∙ told))
returns-clause-cut_short g c (inr e) file told =
    (subst (λ r. RangeEnds r c.args.pairs.now file (g.K.Sink.written c.args.sink.now) (g.K.Sink.written c.write_opened.new.sink)
    (g.K.Sink.room c.args.sink.now)) e
    (c.write_opened.ensures.written file (c.in-Ok.ensures.bytes ∙ told))).0

pub returns-clause-sure : goal.returns-clause-sure
returns-clause-sure g c e file told =
    (subst (λ r. RangeEnds r c.args.pairs.now file (g.K.Sink.written c.args.sink.now) (g.K.Sink.written c.write_opened.new.sink)
    (g.K.Sink.room c.args.sink.now)) e
    (c.write_opened.ensures.written file (c.in-Ok.ensures.bytes ∙ told))).1

-- what the source gives
if_given : (r : Result RangeWritten DecodeFault) (bytes bytes' : Option (List ℕ)) (pairs : List (ℕ × ℕ)) (old mid new : ℕ) → bytes' ≡ bytes →
    mid ≤ old + 48208948 →
    OnOk r ((file : List ℕ) → bytes' ≡ Some file → mid < 2 ^ 64 → new ≤ mid + bytes_read file (accepted file) pairs) →
    OnOk r ((file : List ℕ) → bytes ≡ Some file → old < 2 ^ 63 → new ≤ old + 48208948 + bytes_read file (accepted file) pairs)
if_given (Ok s) bytes bytes' pairs old mid new same most h = λ file told small. let more = h file (same ∙ told) (omega arith) in omega (arith, more, most)
if_given (Err fault) bytes bytes' pairs old mid new same most h = tt {0}

pub returns-clause-given : goal.returns-clause-given
returns-clause-given g c = if_given c.write_opened.result _ _ c.args.pairs.now _ _ _ c.in-Ok.ensures.bytes c.in-Ok.ensures.given c.write_opened.ensures.given
