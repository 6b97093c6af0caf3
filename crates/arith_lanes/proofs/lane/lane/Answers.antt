-- All that counts stays within sixteen bits, so the registers make the step of a single decoder.
use Rattle.std.proofs.Common.{◌≡◌, ◌+◌, ◌-◌, ◌*◌, ◌/◌, ◌%◌, nat_lt, if◌then◌else◌, refl, ◌∙◌, arith}
use Rattle.dst_spec.specs.Interval.{scale}
use Rattle.arith_lanes.proofs.Parting.{IsParted, lane_steps, bounds, offset_below, left_small, by_below, offset_less, twice}
use Rattle.arith_lanes.proofs.lane.lane.Goals as goal

pub returns : goal.returns
returns c = λ p w r below.
    let range = c.args.r.range in
    let offset = c.args.r.offset in
    let part = scale range * p in
    let factor = c.args.chance / 256 in
    let b = bounds p range factor w.most r w.factor in
    let most = r.most in
    let small = b.small in
    let offset_small = offset_below offset c.args.r.high c.args.r.middle c.args.r.low range below in
    let part_is : c.scale.result * (c.args.chance % 128 + 1) % 65536 ≡ part = rw (c.scale.ensures, w.prob) (omega arith) in
    let high_end = range - part in
    let end_is : (range + (65536 - c.scale.result * (c.args.chance % 128 + 1) % 65536)) % 65536 ≡ high_end = rw part_is (omega arith) in
    let symbol = nat_lt offset high_end in
    let one_is : c.less-one.result ≡ (if symbol then 65535 else 0) = rw end_is at c.less-one.ensures (omega arith) (omega arith) in
    let part_times : c.scale.result * (c.args.chance % 128 + 1) % 65536 * factor % 65536 ≡ part * factor = rw part_is (omega (arith, b.most)) in
    let range_left = c.chosen-range.result in
    let range_is : range_left ≡ (if symbol then high_end else (part * factor)) = rw (end_is, part_times) at c.chosen-range.ensures symbol one_is in
    let left = left_small symbol high_end part factor (omega arith) b.most in
    let due = nat_lt range_left 2048 in
    let due_is : c.less-due.result ≡ (if due then 65535 else 0) = c.less-due.ensures (omega arith) (omega arith) in
    let by = c.chosen-by.result in
    let by_is : by ≡ (if symbol then 1 else factor) = c.chosen-by.ensures symbol one_is in
    let by_small = by_below symbol factor b.few in
    let taken : c.chosen.result ≡ (if symbol then 0 else high_end) = rw end_is at c.chosen.ensures symbol one_is in
    let offset_left = (offset + (65536 - c.chosen.result)) % 65536 in
    let offset_is : offset_left ≡ offset - (if symbol then 0 else high_end) = offset_less symbol offset high_end c.chosen.result refl taken (omega arith) in
    let by_all_is : c.chosen-by-2.result ≡ (if due then (2 * by) else by) = c.chosen-by-2.ensures due due_is ∙ twice due by (omega arith) in
    let range_after : c.chosen-2.result ≡ (if due then (2 * range_left) else range_left) = c.chosen-2.ensures due due_is ∙ twice due range_left (omega arith) in
    let parted : IsParted symbol range part factor offset high_end range_left by offset_left = record {
      end_is = refl;
      symbol_is = refl;
      range_is = range_is;
      by_is = by_is;
      offset_is = offset_is;
    } in
    let steps = lane_steps p range offset c.args.r.high c.args.r.middle c.args.r.low c.args.chance symbol part high_end range_left by offset_left
    c.chosen-by-2.result
    c.chosen-2.result w r below (omega arith) (omega arith) (omega arith) refl parted by_all_is range_after in
    (symbol, c.chosen-3.ensures symbol one_is, rw (c.times.ensures, c.times-2.ensures, c.times-3.ensures) steps)
