-- All bits are let go, with the carry and the last ones.
use Rattle.std.proofs.Common.{◌≡◌, ◌+◌, ◌*◌, ◌++◌, ℕ, List, IsTrue, length, ap, ◌∙◌, arith, length-append}
use Rattle.std.proofs.lemmas.Nat.{one_shl}
use Rattle.std.proofs.lemmas.List.{length-take}
use Rattle.dst_spec.specs.Bits.{low_bits}
use Rattle.dst_spec.proofs.Numbers.{length-low_bits}
use Rattle.arith_encoder.proofs.Spelling.{all_let_go}
use Rattle.arith_encoder.proofs.held.Held.finish.Goals as goal

-- both parts of the last bits fit
were_put : (c : goal.After-put-2) → IsTrue c.put.result × IsTrue c.put-2.result
were_put c =
    let room = rw (← c.self.view_is) at c.requires.room in
    let left = c.let_go.ensures.room in
    let within = c.self.invariant.within in
    let done = c.put.ensures.written.1 (omega arith) in
    let left_more = c.put.ensures.room done in
    (done, c.put-2.ensures.written.1 (omega arith))

pub returns-clause-bits : goal.returns-clause-bits
returns-clause-bits c =
    let i = c.self.inside in
    let done = were_put c in
    let one = one_shl c.args.more 64 (omega (arith, c.requires.few)) in
    let more = rw one at (c.put.ensures.bits done.0) in
    let all = all_let_go i.writer.bits i.writer.room i.first i.block i.width i.run c.args.more c.args.bits c.self.invariant c.requires.carry in
    rw (← c.self.view_is, c.put-2.ensures.bits done.1, more, c.let_go.ensures.bits) all

pub returns-clause-room : goal.returns-clause-room
returns-clause-room c =
    let i = c.self.inside in
    let done = were_put c in
    let within = c.self.invariant.within in
    let left = c.let_go.ensures.room in
    let left_more = c.put.ensures.room done.0 in
    let left_all = c.put-2.ensures.room done.1 in
    let k = i.width + 32 * i.run in
    let one = longer c.let_go.new.writer.bits i.writer.bits k _ c.let_go.ensures.bits in
    let two = longer c.put.new.self.bits c.let_go.new.writer.bits c.args.more _ (c.put.ensures.bits done.0) in
    let three = longer c.put-2.new.self.bits c.put.new.self.bits 12 _ (c.put-2.ensures.bits done.1) in
    let before = length-take i.first i.writer.bits in
    rw (← c.self.view_is) (omega arith)
  where
    longer : (now old : List ℕ) (n x : ℕ) → now ≡ old ++ low_bits n x → length now ≡ length old + n
    longer now old n x e = ap length e ∙ length-append old (low_bits n x) ∙ ap (λ m. length old + m) (length-low_bits n x)
