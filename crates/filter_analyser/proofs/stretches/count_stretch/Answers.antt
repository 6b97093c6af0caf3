-- The ones of the exclusive or, at most 64, are the samples that differ.
use Rattle.std.proofs.Common.{◌≡◌, ℕ, ◌+◌, ◌-◌, ◌/◌, ◌%◌, ◌^◌, ◌<◌, ◌≤◌, ◌≢◌, length, get_or, bit_xor, count_ones, below_more, get_or-set_other}
use Rattle.std.proofs.Common.{get_or-set_same, length-set, rules, arith}
use Rattle.std.proofs.lemmas.Nat.{ones-le, xor_lt}
use Rattle.filter_analyser.specs.Stretches.{passed, tally}
use Rattle.filter_analyser.proofs.Differing.{ones-differing}
use Rattle.filter_analyser.proofs.stretches.count_stretch.Goals as goal

pub overflow_add-counts : goal.overflow_add-counts
overflow_add-counts c =
    let place = c.loop-place.place in
    let before = c.loop-place.invariant.2 place (omega arith) in
    let least = c.requires place (omega arith) in
    let fits : c.args.stretch < 2 ^ 64 = search rules in
    let moved_fits : c.moved.result < 2 ^ 64 = search rules in
    let bound : count_ones (bit_xor c.args.stretch c.moved.result) ≤ 64 =
    ones-le 64 (bit_xor c.args.stretch c.moved.result) (xor_lt 64 c.args.stretch c.moved.result fits moved_fits) in
    omega arith

pub loop-place-preserved : goal.loop-place-preserved
loop-place-preserved c =
    let place = c.loop-place.place in
    let inside : place < length c.loop-place.counts = omega (arith, c.loop-place.invariant.0) in
    let fits : c.args.stretch < 2 ^ 64 = search rules in
    let moved_fits : c.moved.result < 2 ^ 64 = search rules in
    let F : ℕ → ℕ = λ i. passed c.args.here c.args.before (place + 1) i in
    let counted = ones-differing c.args.stretch c.moved.result F fits moved_fits c.moved.ensures in
    let before = c.loop-place.invariant.2 place (omega arith) in (
      omega (arith, length-set {A = ℕ}, c.loop-place.invariant.0),
      below_more _ _
          (λ j h. let ne : j ≢ place = omega arith in rw get_or-set_other (c.loop-place.invariant.1 j h))
          (let e : get_or c.loop-place.counts place 0 + count_ones (bit_xor c.args.stretch c.moved.result) ≡ get_or c.args.counts.now place 0 + tally
          (λ i. (c.args.stretch / 2 ^ (63 - i) % 2 + F i) % 2) 0 64 = omega arith in rw get_or-set_same e),
      λ j h. let ne : j ≢ place = omega arith in rw get_or-set_other (c.loop-place.invariant.2 j (omega arith)),
    )
