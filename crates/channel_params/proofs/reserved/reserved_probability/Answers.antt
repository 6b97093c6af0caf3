-- The low seven of the coefficient's nine bits, turned round, are the number to which the definition adds 1.
use Rattle.std.proofs.Common.{◌+◌, ap, sym, ◌∙◌, w16, SFits, rules}
use Rattle.std.proofs.lemmas.Int.{to_z-of_z}
use Rattle.dst_spec.specs.Bits.{signed_bits}
use Rattle.channel_params.proofs.Maps.{first-turned}
use Rattle.channel_params.proofs.reserved.reserved_probability.Goals as goal

pub returns : goal.returns
returns c =
    let coef = c.first_coef.result in
    let fits : SFits w16 coef = search rules in
    let bits = ap (signed_bits 9) (sym (to_z-of_z w16 coef fits)) ∙ c.nine_bits.ensures.bits in
    c.in-Some.ensures.value ∙ ap (λ n. n + 1) (c.from.ensures ∙ c.turned_round-low.ensures.value)
    ∙ first-turned c.args.params.now coef c.nine_bits.result (sym c.first_coef.ensures.value) bits
