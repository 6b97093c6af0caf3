-- The filter doesn't give the greatest of all sums, so the entry lies in the table, and the chance holds all of it.
use Rattle.std.proofs.Common.{◌≡◌, ◌+◌, ◌%◌, ◌<◌, ap, arith, sym, subst, ◌∙◌}
use Rattle.byte_predictor.specs.Samples.{signed_sum}
use Rattle.byte_predictor.specs.Upward.{upward_sum, size_sum}
use Rattle.byte_predictor.specs.SumsAhead.{IsAhead}
use Rattle.byte_predictor.specs.Eight.{ahead_at}
use Rattle.dst_frames.specs.Tables.{IsEntry}
use Rattle.dst_frames.specs.Eight.{entry_in}
use Rattle.dst_frames.specs.Entries.{entry_for}
use Rattle.byte_predictor.proofs.Upward.{upward_sum-size}
use Rattle.dst_frames.proofs.OneOfEight.{chance_of_itself, chance_of_entry}
use Rattle.dst_frames.proofs.eight.EightStates.chance_at.Goals as goal

pub returns-clause-entry : goal.returns-clause-entry
returns-clause-entry c = λ filter probs samples half_prob built ahead.
    let tables = c.args.tables.now in
    let place = c.args.place in
    let own = ahead_at c.args.self.now.ahead c.args.n in
    let before : IsAhead tables.filter place samples own = subst (λ coefs. IsAhead coefs place samples own) (sym built.filter_is) ahead in
    let up : c.upward-upward.result ≡ upward_sum filter samples = rw built.filter_is at (c.upward-upward.ensures samples before) in
    let narrow : size_sum filter < 32768 = rw built.filter_is at c.requires.narrow in
    let inside = c.narrow_entry.ensures (omega (arith, up, upward_sum-size filter samples, narrow)) in
    let whole : c.narrow_entry.result ≡ entry_in c.chance.result =
    sym (chance_of_entry c.narrow_entry.result c.chance.result c.chance.ensures.prob c.chance.ensures.mark) in
    subst (IsEntry (signed_sum filter samples) probs) (ap (entry_for tables.entries) (sym up) ∙ sym inside ∙ whole) (built.entries samples ahead.long)

pub returns-clause-chance : goal.returns-clause-chance
returns-clause-chance c = chance_of_itself (c.narrow_entry.result % 128 + 1) c.chance.result c.chance.ensures.prob
