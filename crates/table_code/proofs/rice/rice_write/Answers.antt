-- The parts of a residual, as they are put one behind the other.
use Rattle.std.proofs.Common.{◌≡◌, ◌+◌, ◌/◌, ◌^◌, nat_abs, length, to_z, of_z, rules, arith, ap, ◌∙◌}
use Rattle.std.proofs.lemmas.Int.{to_z-of_z}
use Rattle.std.proofs.lemmas.Nat.{one_shl}
use mir.Syntax.{w32}
use Rattle.dst_spec.specs.Rice.{rice, sign_bits}
use Rattle.dst_spec.proofs.Rices.{length-rice}
use Rattle.table_code.proofs.RiceParts.{rice_in_parts}
use Rattle.table_code.proofs.rice.rice_write.Goals as goal

-- the residual stays as it is, its size is that of the number, and its bits are the parts
parts : (c : goal.After-append-arg-1) → (to_z w32 (of_z w32 c.args.r) ≡ c.args.r) × (c.unsigned_abs-size.result ≡ nat_abs c.args.r)
    × (length (rice c.args.r c.args.m) ≡ c.unsigned_abs-size.result / 2 ^ c.args.m + 1 + c.args.m + length (sign_bits c.args.r))
parts c =
    let stays = to_z-of_z w32 c.args.r (search rules) in
    let size : c.unsigned_abs-size.result ≡ nat_abs c.args.r = c.unsigned_abs-size.ensures.value ∙ ap nat_abs stays in
    (stays, size, rw size (length-rice c.args.r c.args.m))

pub append-requires-clause-room : goal.append-requires-clause-room
append-requires-clause-room c =
    let p = parts c in
    let long = rw p.0 at c.rice_length.ensures in
    omega (arith, p.2)

pub append_sign-requires : goal.append_sign-requires
append_sign-requires c =
    let p = parts c.before.before in
    let long = rw p.0 at c.rice_length.ensures in
    rw p.0 (omega (arith, p.2))

pub returns-clause-bits : goal.returns-clause-bits
returns-clause-bits c _ =
    let p = parts c.before.before.before in
    let zeros = rw p.1 at c.append_zeros.ensures.bits in
    let one = rw (one_shl c.args.m 32 (omega arith), p.1) at c.append.ensures.bits in
    let sign = rw p.0 at c.append_sign.ensures.bits in
    rice_in_parts c.args.writer.now.bits c.append_zeros.new.writer.bits c.append.new.writer.bits c.append_sign.new.writer.bits c.args.r c.args.m zeros one sign

pub returns-clause-room : goal.returns-clause-room
returns-clause-room c _ =
    let p = parts c.before.before.before in
    let sign = rw p.0 at c.append_sign.ensures.room in
    omega (arith, p.2)
