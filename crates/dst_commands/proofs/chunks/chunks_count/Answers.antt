-- The loop counts chunk by chunk.
use Rattle.std.proofs.Common.{[], sym, ◌∙◌, arith}
use Rattle.dsdiff_chunks.specs.declared.lists.ChunkHead.{ChunkHead}
use Rattle.dst_commands.proofs.PassedOn.{all_counted, few_heads, one_more_counted}
use Rattle.dst_commands.proofs.chunks.chunks_count.Goals as goal

abbrev none : ChunkHead
none = record { id = []; place = 0; size = 0 }

pub loop-head-preserved-then-not-passes : goal.loop-head-preserved-then-not-passes
loop-head-preserved-then-not-passes c =
    let more = one_more_counted c.args.side c.args.passed.now c.heads-head-items.result.now c.loop-head.head-index none _
    (sym c.heads-head-items.ensures) c.loop-head-test.true (sym c.passes.ensures ∙ c.if-not-passes.true) in
    record { most = omega (arith, c.loop-head.invariant.most); count_is = omega (arith, c.loop-head.invariant.count_is, more) }

pub loop-head-preserved : goal.loop-head-preserved
loop-head-preserved c =
    let more = one_more_counted c.args.side c.args.passed.now c.heads-head-items.result.now c.loop-head.head-index none _
    (sym c.heads-head-items.ensures) c.loop-head-test.true (sym c.passes.ensures ∙ c.if-not-passes.false) in
    record { most = omega (arith, c.loop-head.invariant.most); count_is = omega (arith, c.loop-head.invariant.count_is, more) }

pub overflow_add-count : goal.overflow_add-count
overflow_add-count c =
    let few = few_heads c.args.passed.now c.heads-head-items.result.now c.heads-head-items.ensures in
    omega (arith, few, c.loop-head.invariant.most, c.loop-head-test.true)

pub returns-clause-count : goal.returns-clause-count
returns-clause-count c =
    c.loop-head.invariant.count_is
    ∙ all_counted c.args.side c.args.passed.now c.heads-head-items.result.now c.loop-head.head-index (sym c.heads-head-items.ensures) c.loop-head-test.false

pub returns-clause-most : goal.returns-clause-most
returns-clause-most c =
    let few = few_heads c.args.passed.now c.heads-head-items.result.now c.heads-head-items.ensures in
    omega (arith, few, c.loop-head.invariant.most, c.loop-head.auto.head-index-end)
