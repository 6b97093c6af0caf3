-- Two filters are the same where their coefficients are, and else they aren't.
use Rattle.std.proofs.Common.{◌≡◌, true, ap, sym, ◌∙◌}
use Rattle.std.specs.Cmp.Rules.{signed_items}
use Rattle.frame_predictions.proofs.row.is_of.Goals as goal

pub returns-then-row-channel-clause-filter : goal.returns-then-row-channel-clause-filter
returns-then-row-channel-clause-filter c = λ is.
    sym c.coefs.ensures.coefs ∙ (signed_items c.coefs.result.now c.coefs-then-row-channel.result.now).0 (sym c.eq.ensures ∙ is)
    ∙ c.coefs-then-row-channel.ensures.coefs

pub returns-then-row-channel-clause-another : goal.returns-then-row-channel-clause-another
returns-then-row-channel-clause-another c = λ differs is.
    let same = c.coefs.ensures.coefs ∙ ap (λ p. p.filter) is ∙ sym c.coefs-then-row-channel.ensures.coefs in
    let t : c.eq.result ≡ true = c.eq.ensures ∙ (signed_items c.coefs.result.now c.coefs-then-row-channel.result.now).1 same in
    absurd cc
