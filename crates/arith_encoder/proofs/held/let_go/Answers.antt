-- One block more behind is written, all ones or, turned over by the carry, all zeros; the room is enough for it.
use Rattle.std.proofs.Common.{◌≡◌, ◌≤◌, if◌then◌else◌, ◌∙◌, arith}
use Rattle.arith_encoder.proofs.Carrying.{run_more}
use Rattle.arith_encoder.proofs.held.let_go.Goals as goal
use Rattle.arith_encoder.proofs.held.let_go.Goals.{then-carry, else-carry}

pub loop-turn-preserved : goal.loop-turn-preserved
loop-turn-preserved c =
    let behind : c.if-carry.behind ≡ (if c.args.carry then 0 else 4294967295) = elim c.if-carry.branch [
      | then-carry w ↦ rw w.if-carry.true w.behind-is
      | else-carry w ↦ rw w.if-carry.false w.behind-is
    ] in
    let i = c.loop-turn.invariant in
    let room = i.room in
    let enough : 32 ≤ c.loop-turn.writer.room = omega (arith, c.requires.room, c.loop-turn-test.true) in
    let done = c.put-in-loop-turn.ensures.written.1 enough in
    let bits = c.put-in-loop-turn.ensures.bits done in
    let left = c.put-in-loop-turn.ensures.room done in
    record {
      bits = bits ∙ run_more c.args.writer.now.bits c.loop-turn.writer.bits c.args.carry c.args.block c.args.width c.loop-turn.turn c.if-carry.behind
          behind i.bits;
      room = omega arith;
    }
