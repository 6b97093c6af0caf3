-- Byte by byte the sum grows by that of the byte, which stands in the table.
use Rattle.std.proofs.Common.{◌≡◌, ◌*◌, ◌+◌, ◌<◌, ◌≤ℤ◌, ◌≤◌, pos, neg_ℤ, ◌+ℤ◌, length, [], get_or, take, subst, ap, ◌∙◌, rules, arith}
use Rattle.std.proofs.lemmas.Int.{ints}
use Rattle.std.proofs.lemmas.List.{take_all}
use Rattle.dst_spec.specs.Table.{filter_kind, IsTable}
use Rattle.byte_predictor.specs.Samples.{samples_of, signed_sum}
use Rattle.byte_predictor.specs.Parts.{part_sum}
use Rattle.byte_predictor.proofs.Bits.{length-samples_of}
use Rattle.byte_predictor.proofs.Sums.{signed_sum-nothing, signed_sum-more, within-bits}
use Rattle.byte_predictor.proofs.Before.{predicted}
use Rattle.byte_predictor.proofs.Ones.{signed_sum-ones}
use Rattle.byte_predictor.proofs.byte_filter.predict.Goals as goal

pub loop-j-init : goal.loop-j-init
loop-j-init c = (signed_sum-nothing c.args.filter.now, omega (arith, ints), omega (arith, ints))

pub loop-j-preserved : goal.loop-j-preserved
loop-j-preserved c =
    let coefs = c.args.filter.now in
    let bytes = c.bytes-bytes.result.now in
    let byte = get_or bytes c.loop-j.j 0 in
    let table : IsTable filter_kind coefs = subst (IsTable filter_kind) c.filter.view_is c.filter.invariant.table in
    let inside : byte < 256 = search rules in
    let stored_is : get_or (get_or c.filter.inside.parts c.loop-j.j []) byte (pos 0) ≡ part_sum
    (take c.filter.inside.length c.filter.inside.coefs) c.loop-j.j byte = c.filter.invariant.sums c.loop-j.j byte (omega arith) inside in
    let entry : get_or (get_or c.filter.inside.parts c.loop-j.j []) byte (pos 0) ≡ part_sum coefs c.loop-j.j byte = stored_is
    ∙ ap (λ t. part_sum t c.loop-j.j byte) c.filter.view_is in
    let bound = within-bits coefs (8 * c.loop-j.j) 8 byte (omega arith) table.each in
    let least : neg_ℤ (pos 2048) ≤ℤ part_sum coefs c.loop-j.j byte = bound.0 in
    let most : part_sum coefs c.loop-j.j byte ≤ℤ pos 2048 = bound.1 in
    let long : length bytes ≡ 16 = omega (arith, length-samples_of bytes, ap length c.bytes-bytes.ensures.samples, c.bytes-bytes.ensures.long) in
    let more : signed_sum coefs (samples_of (take (c.loop-j.j + 1) bytes)) ≡ signed_sum coefs
    (samples_of (take c.loop-j.j bytes)) +ℤ part_sum coefs c.loop-j.j byte = signed_sum-more coefs bytes c.loop-j.j (omega arith) in
    (omega (arith, ints), omega (arith, ints), omega (arith, ints))

pub returns-clause-plain : goal.returns-clause-plain
returns-clause-plain c =
    let coefs = c.args.filter.now in
    let bytes = c.bytes-bytes.result.now in
    let long : length bytes ≡ 16 = omega (arith, length-samples_of bytes, ap length c.bytes-bytes.ensures.samples, c.bytes-bytes.ensures.long) in
    let whole : take c.loop-j.j bytes ≡ bytes = take_all c.loop-j.j bytes (omega arith) in
    c.loop-j.invariant.0 ∙ ap (λ t. signed_sum coefs (samples_of t)) whole ∙ ap (signed_sum coefs) c.bytes-bytes.ensures.samples

pub returns-clause-before : goal.returns-clause-before
returns-clause-before c = λ f sound ch t before.
    let table : IsTable filter_kind c.args.filter.now = subst (IsTable filter_kind) c.filter.view_is c.filter.invariant.table in
    returns-clause-plain c ∙ predicted f sound ch t c.args.history.now c.args.filter.now table.most before

pub returns-clause-ones : goal.returns-clause-ones
returns-clause-ones c =
    let table : IsTable filter_kind c.args.filter.now = subst (IsTable filter_kind) c.filter.view_is c.filter.invariant.table in
    let most : length c.args.filter.now ≤ 128 = table.most in
    returns-clause-plain c ∙ signed_sum-ones c.args.filter.now c.args.history.now (omega (arith, c.bytes-bytes.ensures.long))
