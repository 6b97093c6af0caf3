-- A walk that is made has no fault and gives the entries; where it tells a fault of the file, that is the walk's.
use Rattle.std.proofs.Common.{Err, ap}
use Rattle.dsdiff_spec.specs.Walk.{walk_fault}
use Rattle.dsdiff_chunks.specs.Forms.{coded_seen}
use Rattle.dsdiff_spec.proofs.ByRules.{walk_fails, walk_passes}
use Rattle.dst_commands.proofs.InOrder.{stops_by}
use Rattle.dst_commands.proofs.rules.walk_form.Goals as goal

pub returns-in-Ok-clause-passes : goal.returns-in-Ok-clause-passes
returns-in-Ok-clause-passes g c file told = (walk_passes file (coded_seen c.args.form) c.in-Ok.index (c.in-Ok.ensures.index file told)).0

pub returns-in-Ok-clause-entries : goal.returns-in-Ok-clause-entries
returns-in-Ok-clause-entries g c file told = (walk_passes file (coded_seen c.args.form) c.in-Ok.index (c.in-Ok.ensures.index file told)).1

pub returns-in-Err-clause-stops : goal.returns-in-Err-clause-stops
returns-in-Err-clause-stops g c =
    stops_by (λ file. walk_fault file (coded_seen c.args.form)) c.in-Err.fault (g.S.Source.bytes c.args.source.now) (g.S.Source.faults c.args.source.now)
    (g.S.Source.faults c.walk.new.source)
    (λ f is file told. walk_fails file (coded_seen c.args.form) f (c.in-Err.ensures.fault f (ap Err is) file told)) (λ is. c.in-Err.ensures.read (ap Err is))
