-- The low byte of the sixteen newest samples has the newest eight.
use Rattle.std.proofs.Common.{◌%◌, get_or, sym, ap, ◌∙◌}
use Rattle.std.proofs.lemmas.List.{get_or-take}
use Rattle.byte_predictor.proofs.Bits.{rising_bits-at}
use Rattle.byte_predictor.proofs.Late.{newest-eight}
use Rattle.byte_predictor.proofs.ahead.Ahead.newest.Goals as goal

pub returns : goal.returns
returns c =
    let newest = c.self.inside.newest in
    record {
      eight = λ coefs place samples ahead. newest-eight newest samples (rw (ap (λ a. a.newest) c.self.view_is) ahead.newest);
      each = λ coefs place samples ahead k h.
          sym (rising_bits-at 8 (newest % 256) k h)
          ∙ ap (λ t. get_or t k 0) (newest-eight newest samples (rw (ap (λ a. a.newest) c.self.view_is) ahead.newest))
          ∙ get_or-take 8 samples k 0 h;
    }
