-- The frame's sums ahead are fresh and its chance is that of the first sample; the other frames are untouched.
use Rattle.std.proofs.Common.{◌<◌, length, get_or-set_same, get_or-set_other, replicate, ap₂, sym, subst, arith}
use Rattle.byte_predictor.specs.Samples.{samples_of, signed_sum}
use Rattle.byte_predictor.specs.SumsAhead.{IsAhead}
use Rattle.byte_predictor.specs.Eight.{ahead_at}
use Rattle.dst_frames.specs.Tables.{IsEntry}
use Rattle.dst_frames.specs.Batch.{IsChanceOf}
use Rattle.dst_frames.specs.Eight.{entry_in}
use Rattle.dst_frames.proofs.eight.EightStates.begin.Goals as goal

pub returns-clause-fresh : goal.returns-clause-fresh
returns-clause-fresh c = λ filter probs half_prob built.
    let n = c.args.n in
    let samples = samples_of (replicate 16 170) in
    let chances = c.args.self.now.chances in
    let next = c.chance_at-next.result in
    let lt : n < length chances = omega (arith, c.requires.frame) in
    let ahead : IsAhead filter 0 samples (ahead_at c.begin.new.self n) =
    subst (λ coefs. IsAhead coefs 0 samples (ahead_at c.begin.new.self n)) built.filter_is c.begin.ensures.fresh in
    record {
      ahead = ahead;
      next = subst (λ w. IsEntry (signed_sum filter samples) probs (entry_in w)) (sym (get_or-set_same chances n next 0 lt))
          (c.chance_at-next.ensures.entry filter probs samples half_prob built ahead);
    }

pub returns-clause-chance : goal.returns-clause-chance
returns-clause-chance c =
    let n = c.args.n in
    let chances = c.args.self.now.chances in
    let next = c.chance_at-next.result in
    let lt : n < length chances = omega (arith, c.requires.frame) in
    subst (λ w. IsChanceOf (entry_in w) w) (sym (get_or-set_same chances n next 0 lt)) c.chance_at-next.ensures.chance

pub returns-clause-others : goal.returns-clause-others
returns-clause-others c = λ m ne.
    ap₂ (λ a w. record { ahead = a; next = entry_in w }) (c.begin.ensures.others m ne)
    (get_or-set_other c.args.self.now.chances c.args.n m c.chance_at-next.result 0 ne)

pub returns-clause-chances : goal.returns-clause-chances
returns-clause-chances c = λ m ne. get_or-set_other c.args.self.now.chances c.args.n m c.chance_at-next.result 0 ne
