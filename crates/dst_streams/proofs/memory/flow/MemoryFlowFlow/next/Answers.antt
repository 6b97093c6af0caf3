-- The piece that is copied is the next one of the bytes, and those behind it are left.
use Rattle.std.proofs.Common.{rules, arith, ap, Some, ◌≡◌, ◌+◌, ◌-◌, ◌∙◌, take, drop}
use Rattle.dst_streams.proofs.Told.{after_piece-moved}
use Rattle.dst_streams.proofs.memory.flow.MemoryFlowFlow.next.Goals as goal

pub returns-clause-moved : goal.returns-clause-moved
returns-clause-moved c =
    let place = c.args.self.now.place in
    let bytes = c.args.self.now.bytes.now in
    let count = c.min-count.result in
    let e : place + count - place ≡ count = omega arith in
    let is = c.copy_from_slice.ensures.after ∙ ap (λ k. take k (drop place bytes)) e in
    ap Some (after_piece-moved bytes c.args.out.now c.copy_from_slice.new.self place count (search rules) is)
