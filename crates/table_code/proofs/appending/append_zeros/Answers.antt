-- Zeros behind zeros are zeros: 32 at a time, and behind the loop those that are left.
use Rattle.std.proofs.Common.{rules, ◌+◌, ◌*◌, ◌%◌, ◌∙◌, arith}
use Rattle.table_code.proofs.Zeros.{zeros_more}
use Rattle.table_code.proofs.appending.append_zeros.Goals as goal

pub loop-preserved : goal.loop-preserved
loop-preserved c = record {
  bits = c.append.ensures.bits ∙ zeros_more c.args.writer.now.bits c.loop.writer.bits (32 * c.loop.counter) 32
      (32 * (c.loop.counter + 1)) c.loop.invariant.bits (omega arith);
  room = search rules;
}

pub returns-clause-bits : goal.returns-clause-bits
returns-clause-bits c = c.append-2.ensures.bits ∙ zeros_more c.args.writer.now.bits c.loop.writer.bits (32 * c.loop.counter)
    (c.args.count % 32) c.args.count c.loop.invariant.bits (omega arith)
