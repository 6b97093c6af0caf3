-- The count of all elements is at most their number, by the rule of maps.
use Rattle.std.proofs.Common.{◌≡◌, ap, ◌∙◌, rules, arith}
use Rattle.std.proofs.lemmas.List.{take_all}
use Rattle.dst_spec.specs.Map.{element_count}
use Rattle.dst_num.proofs.MapRules.{count_most}
use Rattle.dst_num.proofs.map.Map.count.Goals as goal

pub returns-clause-most : goal.returns-clause-most
returns-clause-most c =
    let xs = c.as_slice-elements.result.now in
    let items = c.self.inside.elements.items in
    let count : c.loop-element.count ≡ element_count items =
    c.loop-element.invariant ∙ ap element_count (take_all c.loop-element.element-index xs (search rules))
    ∙ ap element_count c.as_slice-elements.ensures.value in
    let most = count_most items c.self.invariant.2.1 in
    rw (← c.self.view_is) (omega (arith, count, most))
