-- Each number of a map fits its bits.
use Rattle.std.proofs.Common.{◌≡◌, ◌+◌, ◌<◌, ◌≤◌, ◌++◌, max, get_or, ap₂, ◌∙◌, arith}
use Rattle.dst_spec.specs.Bits.{low_bits}
use Rattle.dst_spec.specs.Map.{map_bits}
use Rattle.frame_header.proofs.SpelledMaps.{numbers_step, numbers_done}
use Rattle.frame_header.proofs.front.Front.put_numbers.Goals as goal
use Rattle.dst_spec.proofs.MapNumbers.{number-fits, numbers_on}

pub put-requires-clause-fits : goal.put-requires-clause-fits
put-requires-clause-fits c =
    let l = c.loop-element in
    let at = numbers_on c.args.elements.now l.element-index l.count c.loop-element-test.true l.invariant.numbers in
    let few : l.count < 8 = omega (arith, l.invariant.count, c.loop-element-test.true, c.requires.few) in
    rw (c.from.ensures, c.map_bits.ensures.bits) (number-fits l.count (get_or c.args.elements.now l.element-index 0) at.0 few)

pub loop-element-preserved : goal.loop-element-preserved
loop-element-preserved c =
    let l = c.loop-element in
    let es = c.args.elements.now in
    let e = get_or es l.element-index 0 in
    let at = numbers_on es l.element-index l.count c.loop-element-test.true l.invariant.numbers in
    let next : c.max-count.result ≡ max l.count (e + 1) = grind (arith, c.max-count.ensures, c.from-in-loop-element.ensures) in
    let put : c.put.new.self ≡ l.self ++ low_bits (map_bits l.count) e = c.put.ensures.bits
    ∙ ap₂ (λ n v. l.self ++ low_bits n v) c.map_bits.ensures.bits c.from.ensures in
    let first : e ≤ l.count = at.0 in
    rw next (record {
      numbers = at.1;
      count = omega (arith, first, l.invariant.count);
      whole = numbers_step c.args.self.now l.self c.put.new.self es l.element-index l.count c.loop-element-test.true put l.invariant.whole;
      long = omega (arith, c.put.ensures.length, c.map_bits.ensures.most, l.invariant.long);
    })

pub returns-clause-bits : goal.returns-clause-bits
returns-clause-bits c =
    let l = c.loop-element in
    numbers_done c.args.self.now l.self c.args.elements.now l.element-index l.count c.loop-element-test.false l.invariant.whole
