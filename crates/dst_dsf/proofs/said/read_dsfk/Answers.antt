-- The chunk lies in the form, and what is read of it is its body.
use Rattle.std.proofs.Common.{ap, ◌∙◌, arith}
use Rattle.dsdiff_spec.specs.Faults.{◌when◌}
use Rattle.dsdiff_spec.specs.declared.faults.FileFault.TheVariants.{DsfKeptBad}
use Rattle.dsdiff_chunks.specs.Forms.{coded_seen}
use Rattle.dsdiff_chunks.specs.Seen.{head_seen}
use Rattle.dst_dsf.proofs.Dsfk.{dsfk_inside, dsfk_says, dsfk_fault_is}
use Rattle.dst_dsf.proofs.said.read_dsfk.Goals as goal

pub overflow_add-head : goal.overflow_add-head
overflow_add-head g c =
    let inside = dsfk_inside c.args.form.now c.args.head c.requires.one in omega (arith, inside, c.args.form.now.lawful.end)

pub read_range-requires-clause-fits : goal.read_range-requires-clause-fits
read_range-requires-clause-fits g c =
    let inside = dsfk_inside c.args.form.now c.args.head c.requires.one in omega (arith, inside, c.args.form.now.lawful.end)

pub read_range-requires-clause-inside : goal.read_range-requires-clause-inside
read_range-requires-clause-inside g c =
    let inside = dsfk_inside c.args.form.now c.args.head c.requires.one in
    (c.requires.size.0, c.requires.size.1, omega (arith, inside, c.if-head-ne14.false, c.requires.size.2))

pub returns-in-Some-clause-passes : goal.returns-in-Some-clause-passes
returns-in-Some-clause-passes g c file told =
    dsfk_fault_is file (coded_seen c.args.form.now) (head_seen c.args.head) _ c.requires.one c.if-head-ne14.false (c.in-Ok.ensures.read file told)
    ∙ ap (λ b. DsfKeptBad when b) c.in-Some.ensures.good

pub returns-in-Some-clause-said : goal.returns-in-Some-clause-said
returns-in-Some-clause-said g c file told =
    dsfk_says file (coded_seen c.args.form.now) (head_seen c.args.head) _ c.requires.one (c.in-Ok.ensures.read file told)
    ∙ c.in-Some.ensures.said

pub returns-in-None-clause-stops : goal.returns-in-None-clause-stops
returns-in-None-clause-stops g c file told =
    dsfk_fault_is file (coded_seen c.args.form.now) (head_seen c.args.head) _ c.requires.one c.if-head-ne14.false (c.in-Ok.ensures.read file told)
    ∙ ap (λ b. DsfKeptBad when b) c.in-None.ensures.bad
