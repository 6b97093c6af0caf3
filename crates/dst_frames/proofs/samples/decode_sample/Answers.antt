-- The symbol says whether the guess was right, and the next entry is that of the sample found, whichever it is.
use Rattle.std.proofs.Common.{◌≡◌, ◌+◌, ◌%◌, [], ◌∷◌, ◌++◌, if◌then◌else◌, ap, sym, subst, subst₂, ◌∙◌}
use lib.Dec.{leb}
use mathlib.Core.Bool.{beq}
use Rattle.dst_spec.specs.Header.{bit_of}
use Rattle.byte_predictor.specs.Samples.{signed_sum}
use Rattle.byte_predictor.specs.SumsAhead.{IsAhead}
use Rattle.arith_decoder.specs.Decoding.{StandsFor}
use Rattle.dst_frames.specs.Tables.{IsEntry}
use Rattle.dst_frames.proofs.Symbols.{symbol_is}
use Rattle.dst_frames.proofs.samples.decode_sample.Goals as goal
use Rattle.dst_frames.proofs.samples.decode_sample.Goals.{then-early, else-early, in-Some+then-sample, in-Some+else-sample, in-None}

pub returns-clause-next : goal.returns-clause-next
returns-clause-next c =
    let e = c.args.state.now.next in
    let s = c.decode-symbol.result in
    let sample = beq s (leb 128 e) in
    record {
      ready = λ filter probs samples half_prob built ready.
          let coefs = c.args.tables.now.filter in
          let ahead = c.args.state.now.ahead in
          let before : IsAhead coefs c.args.place samples ahead = subst (λ a. IsAhead a c.args.place samples ahead) (sym built.filter_is) ready.ahead in
          let pushed = c.push.ensures coefs c.args.place samples c.requires.place before in
          let next : IsEntry (signed_sum filter (bit_of sample ∷ samples)) probs c.match-ahead.state =
          elim c.match-ahead.branch [
            | in-Some+then-sample w ↦
                let both = w.in-Some.ensures filter probs samples half_prob built ready in
                subst₂ (λ b n. IsEntry (signed_sum filter (bit_of b ∷ samples)) probs n) (sym w.if-sample.true) (sym w.state-is) both.1
            | in-Some+else-sample w ↦
                let both = w.in-Some.ensures filter probs samples half_prob built ready in
                subst₂ (λ b n. IsEntry (signed_sum filter (bit_of b ∷ samples)) probs n) (sym w.if-sample.false) (sym w.state-is) both.0
            | in-None w ↦
                let one = w.entry_behind-state.ensures filter probs samples half_prob built ready in
                subst (IsEntry (signed_sum filter (bit_of sample ∷ samples)) probs) (sym w.state-is) one
          ] in
          record { ahead = subst (λ a. IsAhead a (c.args.place + 1) (bit_of sample ∷ samples) c.push.new.self) built.filter_is pushed; next = next };
      symbol = λ filter probs samples pairs ready stands.
          let low_is : c.if-early.low ≡ (if c.args.early then 127 else e % 128) =
          elim c.if-early.branch [
            | then-early w ↦ w.low-is ∙ sym (ap (λ b. if b then 127 else e % 128) w.if-early.true)
            | else-early w ↦ w.low-is ∙ sym (ap (λ b. if b then 127 else e % 128) w.if-early.false)
          ] in
          let pair = symbol_is filter probs samples c.args.early s e c.if-early.low c.prob_above.result ready.next low_is c.prob_above.ensures in
          subst (λ q. StandsFor c.decode-symbol.new.self (pairs ++ q ∷ [])) pair (c.decode-symbol.ensures.stands pairs stands);
    }
