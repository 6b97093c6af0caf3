-- There is room for each residual, as there is for all, so it is written behind those before.
use Rattle.std.proofs.Common.{ℤ, pos, rules, get_or, arith}
use Rattle.std.proofs.lemmas.Int.{to_z-of_z}
use mir.Val.{SFits}
use mir.Syntax.{w32}
use Rattle.dst_spec.specs.Rice.{rice}
use Rattle.table_code.proofs.Appended.{next_bits, next_room, still_room}
use Rattle.table_code.proofs.writing.append_residuals.Goals as goal

pub loop-r-preserved : goal.loop-r-preserved
loop-r-preserved c =
    let rs = c.args.residuals.now in
    let i = c.loop-r.r-index in
    let r : ℤ = get_or rs i (pos 0) in
    let fits : SFits w32 r = search rules in
    let enough = still_room (λ s. rice s c.args.m) rs i (pos 0) c.args.writer.now.room c.loop-r.writer.room
    (omega arith) c.requires.room c.loop-r.invariant.room in
    let written = rw (to_z-of_z w32 r fits) at c.rice_write.ensures.written in
    let bits = rw (to_z-of_z w32 r fits) at c.rice_write.ensures.bits in
    let room = rw (to_z-of_z w32 r fits) at c.rice_write.ensures.room in
    record {
      bits = next_bits (λ s. rice s c.args.m) rs i (pos 0) c.args.writer.now.bits c.loop-r.writer.bits c.rice_write.new.writer.bits
          (omega arith) c.loop-r.invariant.bits (bits (written.1 enough));
      room = next_room (λ s. rice s c.args.m) rs i (pos 0) c.args.writer.now.room c.loop-r.writer.room c.rice_write.new.writer.room
          (omega arith) c.loop-r.invariant.room (room (written.1 enough));
    }
