-- The sums ahead are those before the first sample of a frame, and the entry is that of their sum.
use Rattle.std.proofs.Common.{replicate, ap, sym, subst, ◌∙◌}
use Rattle.byte_predictor.specs.Samples.{samples_of, signed_sum}
use Rattle.byte_predictor.specs.Upward.{upward_sum}
use Rattle.byte_predictor.specs.SumsAhead.{IsAhead}
use Rattle.dst_frames.specs.Tables.{IsEntry}
use Rattle.dst_frames.specs.Entries.{entry_for}
use Rattle.dst_frames.proofs.state.ChannelState.fresh.Goals as goal

pub returns : goal.returns
returns c = λ filter probs half_prob built.
    let samples = samples_of (replicate 16 170) in
    let fresh = c.fresh-ahead.ensures in
    let sum = sym (c.upward-upward.ensures samples fresh ∙ ap (λ coefs. upward_sum coefs samples) built.filter_is) in
    let entry = built.entries samples fresh.long in
    record {
      ahead = subst (λ coefs. IsAhead coefs 0 samples c.fresh-ahead.result) built.filter_is fresh;
      next = subst (IsEntry (signed_sum filter samples) probs) (ap (entry_for c.args.tables.now.entries) sum ∙ sym c.entry.ensures) entry;
    }
