-- A residual is read whole, or the bits end within it.
use Rattle.std.proofs.Common.{rules, ◌≡◌, ◌+◌, ◌*◌, ◌^◌, ◌<◌, ◌∙◌, length, arith}
use Rattle.std.proofs.lemmas.Nat.{one_shl}
use Rattle.std.proofs.lemmas.Int.{to_z-of_z}
use mir.Val.{SFits}
use mir.Syntax.{w32}
use Rattle.dst_spec.specs.Fields.{sign_length, residual_length}
use Rattle.bit_io.specs.Reading.{left}
use Rattle.table_code.proofs.RiceParts.{IsFront, IsResidual, front_of, signed_residual, no_residual, no_low_bits, no_sign, sign_bit}
use Rattle.table_code.proofs.rice.rice_read.Goals as goal
use Rattle.table_code.proofs.rice.rice_read.Goals.{After-from}

pub returns-in_default-clause-no_code : goal.returns-in_default-clause-no_code
returns-in_default-clause-no_code c =
    let xs = left c.args.reader.now in
    let same : left c.over-ahead.result ≡ xs = cc in
    let none = rw same at c.in_default.ensures.none in
    no_residual xs c.args.m (omega arith)

pub returns-in_default-read-clause-no_code : goal.returns-in_default-read-clause-no_code
returns-in_default-read-clause-no_code c =
    no_residual (left c.args.reader.now) c.args.m
    (no_low_bits (left c.args.reader.now) (left c.over-ahead.result) (left c.pass_zeros.new.reader) c.args.m c.in-Some.quotient
    (cc) c.in-Some.ensures.zeros c.in-Some.ensures.one c.in-Some.ensures.rest c.in_default-read.ensures.none)

-- the zeros, the one and the low bits are read, and it is known whether there is a sign
in_front : (c : After-from) → IsFront (left c.args.reader.now) c.args.m c.in-Some.quotient c.in-Some-read.low (left c.read.new.self)
    × (c.from.result ≡ sign_length (c.in-Some.quotient * 2 ^ c.args.m + c.in-Some-read.low))
in_front c = (
  front_of (left c.args.reader.now) (left c.over-ahead.result) (left c.pass_zeros.new.reader)
      (left c.read.new.self) c.args.m c.in-Some.quotient c.in-Some-read.low
      (cc) c.left.ensures.bits c.in-Some.ensures.zeros c.in-Some.ensures.one c.in-Some.ensures.rest c.in-Some-read.ensures.enough c.in-Some-read.ensures.first
      c.in-Some-read.ensures.rest,
  c.from.ensures ∙ rw (one_shl c.args.m 32 (omega arith)) (sign_bit (c.in-Some.quotient * 2 ^ c.args.m + c.in-Some-read.low)),
)

-- no bit for the sign
cut_in_sign : (c : goal.In_default-read-2) → length (left c.args.reader.now) < residual_length c.args.m (left c.args.reader.now)
cut_in_sign c =
    let f = in_front c.before.before in
    no_sign (left c.args.reader.now) c.args.m c.in-Some.quotient c.in-Some-read.low c.from.result
    (left c.read.new.self) f.0 f.1 c.in_default-read-2.ensures.none

pub returns-in_default-read-2-clause-none : goal.returns-in_default-read-2-clause-none
returns-in_default-read-2-clause-none c = cut_in_sign c

pub returns-in_default-read-2-clause-no_code : goal.returns-in_default-read-2-clause-no_code
returns-in_default-read-2-clause-no_code c = no_residual (left c.args.reader.now) c.args.m (cut_in_sign c)

-- the residual whole
residual_is : (c : goal.After-signed) → IsResidual (left c.args.reader.now) c.args.m (c.in-Some.quotient + 1 + c.args.m + c.from.result) c.signed.result
    (left c.read-2.new.self)
residual_is c =
    let f = in_front c.before.before.before in
    let shift = one_shl c.args.m 32 (omega arith) in
    let signed = rw shift at c.signed.ensures in
    signed_residual (left c.args.reader.now) c.args.m c.in-Some.quotient c.in-Some-read.low
    (c.in-Some.quotient * 2 ^ c.args.m + c.in-Some-read.low) c.in-Some-read-2.sign c.from.result (left c.read.new.self)
    (left c.read-2.new.self) c.signed.result f.0
    (omega arith) f.1 c.in-Some-read-2.ensures.enough c.in-Some-read-2.ensures.first c.in-Some-read-2.ensures.rest signed

pub returns-clause-enough : goal.returns-clause-enough
returns-clause-enough c = (residual_is c).enough

pub returns-clause-residual : goal.returns-clause-residual
returns-clause-residual c =
    let fits : SFits w32 c.signed.result = search rules in
    rw (to_z-of_z w32 c.signed.result fits) (residual_is c).residual

pub returns-clause-code : goal.returns-clause-code
returns-clause-code c =
    let fits : SFits w32 c.signed.result = search rules in
    rw (to_z-of_z w32 c.signed.result fits) (residual_is c).code

pub returns-clause-rest : goal.returns-clause-rest
returns-clause-rest c = (residual_is c).behind

pub returns-clause-place : goal.returns-clause-place
returns-clause-place c =
    let long = (residual_is c).long in
    omega (arith, c.in-Some.ensures.place, c.in-Some-read.ensures.place, c.in-Some-read-2.ensures.place)
