-- The bytes of one channel more are its symbols, as codes tell the guess and the probability of each sample.
use Rattle.std.proofs.Common.{◌≡◌, ◌+◌, ◌*◌, nat_lt, false, pos, map, length, get_or, if◌then◌else◌, ap, ap₂, sym, subst, ◌∙◌, arith}
use Rattle.std.proofs.lemmas.List.{length-map}
use Rattle.dst_spec.specs.Table.{prob_kind, IsTable}
use Rattle.dst_spec.specs.Sample.{samples}
use Rattle.dst_spec.specs.Guess.{filter_of, probs_of}
use Rattle.channel_params.proofs.Early.{at_the_start}
use Rattle.frame_predictions.specs.Codes.{code_at, codes}
use Rattle.frame_predictions.specs.Predicting.{nothing}
use Rattle.frame_store.specs.Pairs.{pair_of, symbol_byte}
use Rattle.frame_store.proofs.Placed.{ArePlaced, Tells, byte-is, placed-more, all-placed}
use Rattle.frame_store.proofs.lay_out.lay_out.Goals as goal
use Rattle.frame_store.proofs.lay_out.lay_out.Goals.{then-channel_half_prob, else-channel_half_prob}

pub loop-c-preserved : goal.loop-c-preserved
loop-c-preserved c =
    let f = c.args.predictions.now.channels in
    let P = c.args.params.now in
    let sound = c.args.predictions.now.sound in
    let done = c.loop-c.c in
    let n = c.count-channels.result in
    let v = c.loop-c.invariant in
    let count : n ≡ f.channels = c.count-channels.ensures.count ∙ ap (λ g. g.channels) c.channels.ensures in
    let filter = c.channel_filter-filter.ensures in
    let probs : c.entries-probs.result.now ≡ probs_of P done = c.entries-probs.ensures.entries ∙ c.channel_probs.ensures in
    let table : IsTable prob_kind (map pos (probs_of P done)) =
    subst (λ xs. IsTable prob_kind (map pos xs)) c.channel_probs.ensures c.entries-probs.ensures.table in
    let early : c.if-channel_half_prob.early ≡ (if get_or P.half_prob done false then length (filter_of P done) else 0) =
    elim c.if-channel_half_prob.branch [
      | then-channel_half_prob w ↦ w.early-is ∙ ap length (w.coefs.ensures.coefs ∙ filter)
          ∙ sym (ap (λ b. if b then length (filter_of P done) else 0) (sym c.channel_half_prob.ensures ∙ w.if-channel_half_prob.true))
      | else-channel_half_prob w ↦ w.early-is ∙ sym
          (ap (λ b. if b then length (filter_of P done) else 0) (sym c.channel_half_prob.ensures ∙ w.if-channel_half_prob.false))
    ] in
    let shape : c.row-row.new.self.channels ≡ f = c.row-row.ensures.channels ∙ v.channels in
    let heard : c.row-row.new.self.sound ≡ sound = c.row-row.ensures.sound ∙ v.sound in
    let row = c.row-row.ensures.is nothing in
    let whole : c.codes.result.now ≡ codes f sound done (filter_of P done) =
    c.codes.ensures.codes ∙ ap₂ (λ g s. codes g s (get_or c.row-row.new.self.rows c.row-row.result nothing).channel
    (get_or c.row-row.new.self.rows c.row-row.result nothing).filter) shape heard
    ∙ ap (λ r. codes f sound r.channel r.filter) row ∙ ap (codes f sound done) filter in
    let long : length c.codes.result.now ≡ samples f = ap length whole ∙ c.row_of_codes.ensures.long f sound done (filter_of P done) in
    let new = c.spread.new.symbols in
    record {
      many = c.spread.ensures.long ∙ v.many;
      sound = heard;
      channels = shape;
      placed = placed-more f P sound c.loop-c.symbols new done (omega arith) v.placed
          (λ t lt.
          let code = code_at f sound done (filter_of P done) t in
          let at = ap (λ xs. get_or xs t 0) whole ∙ c.row_of_codes.ensures.each f sound done (filter_of P done) t lt in
          let tells : Tells f P sound done t code = record {
            guess = c.code_tells.ensures.guess f P sound done t;
            probability_is = c.code_tells.ensures.probability f P sound done t (omega (arith, table.least, length-map (probs_of P done) (λ x. pos x)))
                (omega (arith, table.most, length-map (probs_of P done) (λ x. pos x)));
          } in
          let byte = ap (λ m. get_or new (t * m + done) 0) (sym count) ∙ c.spread.ensures.here t (omega arith)
          ∙ ap₂ (λ xs k. symbol_byte xs (nat_lt t c.if-channel_half_prob.early) k) probs at in
          ap pair_of byte ∙ byte-is f P sound done t code (nat_lt t c.if-channel_half_prob.early) table tells
          (at_the_start (get_or P.half_prob done false) t c.if-channel_half_prob.early (length (filter_of P done)) early))
          (λ t d lt h ne.
          ap (λ m. get_or new (t * m + d) 0) (sym count) ∙ c.spread.ensures.others t d (omega arith) (omega arith) ne
          ∙ ap (λ m. get_or c.loop-c.symbols (t * m + d) 0) count);
    }

pub returns-clause-symbols : goal.returns-clause-symbols
returns-clause-symbols c =
    let f = c.args.predictions.now.channels in
    let v = c.loop-c.invariant in
    let count : c.count-channels.result ≡ f.channels = c.count-channels.ensures.count ∙ ap (λ g. g.channels) c.channels.ensures in
    let all : c.loop-c.c ≡ f.channels = omega arith in
    all-placed f c.args.params.now c.args.predictions.now.sound c.loop-c.symbols (omega (arith, v.many, c.requires.many))
    (subst (ArePlaced f c.args.params.now c.args.predictions.now.sound c.loop-c.symbols) all v.placed)
