-- Each end bit that is passed leaves one fewer to come, and one that fails is the fault of them all.
use Rattle.std.proofs.Common.{[], ◌∷◌, ◌++◌, refl, ◌∙◌}
use Rattle.dst_spec.specs.Fields.{gives, field}
use Rattle.dst_spec.specs.Offends.{times, end_rule}
use Rattle.frame_header.proofs.Stepping.{handed_on}
use Rattle.frame_header.proofs.Coming.{times_start, times_more, times_fail, times_end}
use Rattle.frame_header.proofs.segments.read_ends.Goals as goal
use Rattle.bit_io.specs.Reading.{IsAtFault}

pub loop-passed-init : goal.loop-passed-init
loop-passed-init c = record { bytes = refl; coming = ([], times_start (field 1 end_rule gives) c.args.count c.args.reader.now) }

pub returns-in_err-read_end-clause-fault : goal.returns-in_err-read_end-clause-fault
returns-in_err-read_end-clause-fault c =
    let l = c.loop-passed in
    let fault = c.in_err-read_end.field-0.0 in
    let old = c.args.reader.now in
    handed_on c.from_residual.result fault (IsAtFault (times c.args.count (field 1 end_rule gives)) old) c.from_residual.ensures.1
    (times_fail (field 1 end_rule gives) c.args.count old l.reader l.passed l.invariant.coming.0 fault l.invariant.coming.1 c.loop-passed-test.true
    c.in_err-read_end.ensures.fault)

pub loop-passed-preserved : goal.loop-passed-preserved
loop-passed-preserved c =
    let l = c.loop-passed in
    let e = c.in_ok-read_end.ensures in
    record {
      bytes = e.bytes ∙ l.invariant.bytes;
      coming = (
        l.invariant.coming.0 ++ e.read.0 ∷ [],
        times_more
            (field 1 end_rule gives) c.args.count c.args.reader.now l.reader c.read_end.new.reader l.passed l.invariant.coming.0 e.read.0 l.invariant.coming.1
            e.read.1,
      );
    }

pub returns-clause-read : goal.returns-clause-read
returns-clause-read c =
    let l = c.loop-passed in (
      l.invariant.coming.0,
      times_end (field 1 end_rule gives) c.args.count c.args.reader.now l.reader l.passed l.invariant.coming.0 l.invariant.coming.1
          l.auto.passed-end c.loop-passed-test.false,
    )
