-- What comparing the two indexes comes to.
use Rattle.std.proofs.Common.{◌≡◌, Some, ap, subst, ◌∙◌}
use Rattle.dsdiff_spec.specs.declared.faults.FileFault.TheVariants.{IndexBad}
use Rattle.dsdiff_chunks.specs.Forms.{coded_seen}
use Rattle.frame_index.specs.Lookup.{IsRead}
use Rattle.dst_commands.proofs.rules.check_index.Goals as goal

pub returns-in-Some-clause-fault : goal.returns-in-Some-clause-fault
returns-in-Some-clause-fault g c fault e file told walked =
    let is : IndexBad c.in-Some.entry ≡ fault = cc in
    let form = coded_seen c.args.walked.now.form in
    c.index_beside_walk.ensures.differ file form c.in-Ok.index c.args.walked.now.index c.in-Some.entry c.in-Ok.ensures.accepted
    (c.in-Ok.ensures.index file told) walked c.in-Some.ensures.differ
    ∙ ap Some is

pub returns-clause-same : goal.returns-clause-same
returns-clause-same g c file told walked =
    let form = coded_seen c.args.walked.now.form in
    c.index_beside_walk.ensures.same file form c.args.walked.now.index c.in-Ok.ensures.accepted
    (subst (IsRead file form) c.in-None.ensures.same (c.in-Ok.ensures.index file told)) walked
