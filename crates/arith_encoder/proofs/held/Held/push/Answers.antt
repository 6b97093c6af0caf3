-- Ones without a carry are held as one block more; else what was held leaves, and the new block can take a carry.
use Rattle.std.proofs.Common.{◌≡◌, ◌+◌, ◌*◌, ◌%◌, ◌∙◌, ap, sym, arith}
use lib.Dec.{leb}
use Rattle.arith_encoder.specs.Leaving.{written, with_held}
use Rattle.arith_encoder.proofs.Leaving.{held-more, IsLetGo, let_go_is, number_let_go, with_carry, not_all_ones}
use Rattle.arith_encoder.proofs.held.Held.push.Goals as goal

pub returns-then-block-clause-number : goal.returns-then-block-clause-number
returns-then-block-clause-number c =
    let i = c.self.inside in
    let ones : c.args.bits ≡ 4294967295 = omega (arith, c.if-block.true, c.if-not-carry.true) in
    rw (← c.self.view_is, ones) (held-more (written i.writer.bits i.first) i.width i.block i.run)

-- what was held is let go, and the new block is held
all_let_go : (c : goal.After-self-4-1) → IsLetGo c.self.inside.writer.bits c.let_go.new.writer.bits c.let_go.new.writer.room c.self.inside.first
    (c.self.inside.width + 32 * c.self.inside.run) (c.args.bits % 4294967296)
all_let_go c =
    let i = c.self.inside in
    let room = rw (← c.self.view_is) at c.requires.room in
    let free = not_all_ones c.args.bits c.requires.carry c.else-not-carry.either in
    let_go_is i.writer.bits c.let_go.new.writer.bits i.writer.room c.let_go.new.writer.room i.first i.block i.width i.run (c.args.bits % 4294967296) _
    c.self.invariant c.let_go.ensures.bits c.let_go.ensures.room (omega arith) free

pub invariant_of-self-2 : goal.invariant_of-self-2
invariant_of-self-2 c =
    (all_let_go c).held

pub returns-clause-number : goal.returns-clause-number
returns-clause-number c =
    let i = c.self.inside in
    let number = number_let_go i.writer.bits c.let_go.new.writer.bits i.writer.room i.first i.block i.width i.run (c.args.bits % 4294967296)
    (leb 4294967296 c.args.bits) c.self.invariant c.let_go.ensures.bits in
    let bits = with_carry c.args.bits (omega (arith, c.requires.carry)) in
    rw (← c.self.view_is) (number ∙ ap (λ x. with_held (written i.writer.bits i.first) i.width i.block i.run * 4294967296 + x) (sym bits))

pub returns-clause-count : goal.returns-clause-count
returns-clause-count c =
    let count = (all_let_go c).count in
    rw (← c.self.view_is) (omega arith)

pub returns-clause-before : goal.returns-clause-before
returns-clause-before c =
    rw (← c.self.view_is) (all_let_go c).before

pub returns-clause-room : goal.returns-clause-room
returns-clause-room c =
    let room = rw (← c.self.view_is) at c.requires.room in
    let count = (all_let_go c).count in
    let left = c.let_go.ensures.room in
    rw (← c.self.view_is) (omega arith)
