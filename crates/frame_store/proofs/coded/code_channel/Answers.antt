-- The row is that of the channel's filter, and the steps and the early samples are by its parameters.
use Rattle.std.proofs.Common.{◌≡◌, false, pos, map, length, get_or, if◌then◌else◌, ap, sym, subst, ◌∙◌}
use Rattle.dst_spec.specs.Table.{prob_kind, IsTable}
use Rattle.dst_spec.specs.Guess.{filter_of}
use Rattle.frame_store.specs.Coded.{AreCodeSteps}
use Rattle.frame_store.proofs.coded.code_channel.Goals as goal
use Rattle.frame_store.proofs.coded.code_channel.Goals.{then-channel_half_prob, else-channel_half_prob}

pub returns-clause-coded : goal.returns-clause-coded
returns-clause-coded c =
    let P = c.args.params.now in
    let place = c.args.c in
    let filter = c.channel_filter-filter.ensures in
    let probs = c.entries.ensures.entries ∙ c.channel_probs.ensures in
    let early : c.if-channel_half_prob.early ≡ (if get_or P.half_prob place false then length (filter_of P place) else 0) =
    elim c.if-channel_half_prob.branch [
      | then-channel_half_prob w ↦ w.early-is ∙ ap length (w.coefs.ensures.coefs ∙ filter)
          ∙ sym (ap (λ b. if b then length (filter_of P place) else 0) (sym c.channel_half_prob.ensures ∙ w.if-channel_half_prob.true))
      | else-channel_half_prob w ↦ w.early-is ∙ sym
          (ap (λ b. if b then length (filter_of P place) else 0) (sym c.channel_half_prob.ensures ∙ w.if-channel_half_prob.false))
    ] in
    record {
      inside = c.row-row.ensures.inside;
      is = λ other. c.row-row.ensures.is other ∙ ap (λ filter. record { channel = place; filter = filter }) filter;
      table = subst (λ xs. IsTable prob_kind (map pos xs)) c.channel_probs.ensures c.entries.ensures.table;
      early_is = early;
      steps = subst (λ xs. AreCodeSteps xs c.steps_of_codes-later.result) probs c.steps_of_codes-later.ensures;
    }

pub returns-clause-stay : goal.returns-clause-stay
returns-clause-stay c = record { more = c.row-row.ensures.more c.requires.room; same = c.row-row.ensures.stay c.requires.room }
