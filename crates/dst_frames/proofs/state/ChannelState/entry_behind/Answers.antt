-- The sum is that of the samples with this one in front, so its entry is that of the next sample.
use Rattle.std.proofs.Common.{refl, sym, subst}
use Rattle.byte_predictor.specs.SumsAhead.{IsAhead}
use Rattle.dst_frames.proofs.Symbols.{entry_behind}
use Rattle.dst_frames.proofs.state.ChannelState.entry_behind.Goals as goal

pub returns : goal.returns
returns c = λ filter probs samples half_prob built ready.
    let tables = c.args.tables.now in
    let ahead = c.args.self.now.ahead in
    let before : IsAhead tables.filter c.args.place samples ahead =
    subst (λ coefs. IsAhead coefs c.args.place samples ahead) (sym built.filter_is) ready.ahead in
    let upward = c.upward_after-behind.result in
    entry_behind filter probs samples half_prob c.args.sample c.args.sample tables upward c.entry.result built ready.ahead.long
    (c.upward_after-behind.ensures samples before) c.entry.ensures refl
