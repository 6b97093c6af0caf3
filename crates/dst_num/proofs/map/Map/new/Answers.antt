-- An element above the count breaks the rule; with any other the rest is judged by the count that follows.
use Rattle.std.proofs.Common.{◌≡◌, ◌+◌, ◌≤◌, get_or, max, refl, rules, arith}
use Rattle.dst_num.specs.Map.{IsChannelMap}
use Rattle.dst_num.proofs.MapRules.{numbers_back, numbers_end}
use Rattle.dst_num.proofs.map.Map.new.Goals as goal
use Rattle.dst_spec.proofs.MapNumbers.{numbers_on}

pub returns-then-from-count-clause-none : goal.returns-then-from-count-clause-none
returns-then-from-count-clause-none c h =
    let at = numbers_on c.args.elements.now c.loop-element.element-index c.loop-element.count (search rules) (c.loop-element.invariant.on h.2.1) in
    omega (arith, at.0, c.from.ensures, c.if-from-count.true)

pub loop-element-preserved : goal.loop-element-preserved
loop-element-preserved c =
    let xs = c.args.elements.now in
    let i = c.loop-element.element-index in
    let count = c.loop-element.count in
    let next : c.max-count.result ≡ max count (get_or xs i 0 + 1) = grind (arith, c.max-count.ensures, c.from-in-loop-element.ensures) in
    let small : get_or xs i 0 ≤ count = omega (arith, c.from.ensures, c.if-from-count.false) in
    rw next (record {
      on = λ h. (numbers_on xs i count (search rules) (c.loop-element.invariant.on h)).1;
      back = λ h. c.loop-element.invariant.back (numbers_back xs i count (search rules) small h);
    })

pub invariant_of-result : goal.invariant_of-result
invariant_of-result c =
    let xs = c.args.elements.now in
    let numbers = c.loop-element.invariant.back (numbers_end xs c.loop-element.element-index c.loop-element.count (search rules)) in
    let whole : IsChannelMap xs = (search rules, search rules, (refl, numbers)) in
    rw c.in-Ok.ensures.0 whole

pub returns-in-Ok-clause-map : goal.returns-in-Ok-clause-map
returns-in-Ok-clause-map c =
    let xs = c.args.elements.now in
    let numbers = c.loop-element.invariant.back (numbers_end xs c.loop-element.element-index c.loop-element.count (search rules)) in
    let whole : IsChannelMap xs = (search rules, search rules, (refl, numbers)) in
    rw c.in-Ok.ensures.0 whole
