-- The loop passes chunk by chunk.
use Rattle.std.proofs.Common.{[], length, ap, sym, ◌∙◌, arith}
use Rattle.dsdiff_chunks.specs.declared.lists.ChunkHead.{ChunkHead}
use Rattle.dst_commands.specs.Passing.{form_of}
use Rattle.dsdiff_chunks.proofs.LawfulForms.{head_inside}
use Rattle.dst_commands.proofs.PassedOn.{few_heads, length_more, lent_is_lawful, one_more_left, passed_all_of}
use Rattle.dst_commands.proofs.chunks.chunks_length.Goals as goal

abbrev none : ChunkHead
none = record { id = []; place = 0; size = 0 }

pub chunk_length-length-requires : goal.chunk_length-length-requires
chunk_length-length-requires c = record {
  cmpr = c.requires.cmpr;
  within = head_inside (form_of c.args.passed.now) c.heads-head-items.result.now c.loop-head.head-index none (lent_is_lawful c.args.passed.now.form)
      (sym c.heads-head-items.ensures) c.loop-head-test.true;
}

pub overflow_add-length : goal.overflow_add-length
overflow_add-length c =
    let few = few_heads c.args.passed.now c.heads-head-items.result.now c.heads-head-items.ensures in
    omega (arith, few, c.chunk_length-length.ensures.most, c.loop-head.invariant.most, c.loop-head-test.true)

pub loop-head-preserved-then-not-passes : goal.loop-head-preserved-then-not-passes
loop-head-preserved-then-not-passes c = record {
  most = omega arith;
  length_is = λ file fits.
      c.loop-head.invariant.length_is file fits
      ∙ ap length (one_more_left c.args.side file c.args.passed.now c.heads-head-items.result.now c.loop-head.head-index none
      (sym c.heads-head-items.ensures) c.loop-head-test.true (sym c.passes.ensures ∙ c.if-not-passes.true));
}

pub loop-head-preserved : goal.loop-head-preserved
loop-head-preserved c = record {
  most = omega (arith, c.chunk_length-length.ensures.most);
  length_is = λ file fits.
      let more = length_more c.args.side file c.args.passed.now c.heads-head-items.result.now c.loop-head.head-index none
      (sym c.heads-head-items.ensures) c.loop-head-test.true (sym c.passes.ensures ∙ c.if-not-passes.false) in
      omega (arith, c.loop-head.invariant.length_is file fits, c.chunk_length-length.ensures.length file fits, more);
}

pub returns-clause-length : goal.returns-clause-length
returns-clause-length c file fits =
    c.loop-head.invariant.length_is file fits
    ∙ ap length (passed_all_of c.args.side file c.args.passed.now c.heads-head-items.result.now c.loop-head.head-index
    (sym c.heads-head-items.ensures) c.loop-head-test.false)
