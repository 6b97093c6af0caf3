-- The low byte of a frame's newest samples has the newest eight.
use Rattle.std.proofs.Common.{◌%◌, get_or, sym, ap, ◌∙◌}
use Rattle.std.proofs.lemmas.List.{get_or-take}
use Rattle.byte_predictor.proofs.Bits.{rising_bits-at}
use Rattle.byte_predictor.proofs.Late.{newest-eight}
use Rattle.byte_predictor.proofs.eight.EightAhead.newest.Goals as goal

pub returns-clause-each : goal.returns-clause-each
returns-clause-each c = λ coefs place samples ahead k h.
    let newest = get_or c.args.self.now.newest c.args.n 0 in
    sym (rising_bits-at 8 (newest % 256) k h) ∙ ap (λ t. get_or t k 0) (newest-eight newest samples ahead.newest) ∙ get_or-take 8 samples k 0 h
