-- Two options set a level and workers in either order.
use Rattle.std.proofs.Common.{sym, ◌∙◌}
use Rattle.dst_words.proofs.Options.{level_first, workers_first}
use Rattle.dst_words.proofs.slots.read_two_options.Goals as goal

pub returns-in-text-text-clause-set : goal.returns-in-text-text-clause-set
returns-in-text-text-clause-set c =
    let first = sym c.as_str.ensures.value ∙ c.in-text-text.is-text-0 in
    let second = sym c.as_str-2.ensures.value ∙ c.in-text-text.is-text-2-1 in
    c.read_both.ensures.set ∙ sym (level_first _ _ _ _ first second)

pub returns-in-text-text-2-clause-set : goal.returns-in-text-text-2-clause-set
returns-in-text-text-2-clause-set c =
    let first = sym c.as_str.ensures.value ∙ c.in-text-text-2.is-text-2-0 in
    let second = sym c.as_str-2.ensures.value ∙ c.in-text-text-2.is-text-1 in
    c.read_both-in-text-text-2.ensures.set ∙ sym (workers_first _ _ _ _ first second)
