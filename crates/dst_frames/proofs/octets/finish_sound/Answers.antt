-- The bytes go to their place and those in front stay, so the sound is decoded one byte further.
use Rattle.std.proofs.Common.{◌≡◌, ◌+◌, ◌-◌, ◌*◌, ◌≤◌, [], length, get_or, ap, sym, subst, ◌∙◌, arith}
use borrow.Rule.Slice.PartMut.{put_mid}
use Rattle.dst_spec.specs.Guess.{filter_of, probs_of}
use Rattle.dst_frames.specs.Ready.{IsReady}
use Rattle.dst_frames.specs.Eight.{no_tables, states_at, tables_at}
use Rattle.dst_frames.specs.declared.state.ChannelState.{ChannelState}
use Rattle.dst_frames.proofs.Bytes.{byte_ends, put_mid-below, put_mid-at}
use Rattle.dst_frames.proofs.OneOfEight.{length-states}
use Rattle.dst_frames.proofs.octets.finish_sound.Goals as goal

pub returns-clause-finishes : goal.returns-clause-finishes
returns-clause-finishes c =
    let m = c.args.byte in
    let n = c.args.n in
    let channels = length c.args.rows.now in
    let tables = tables_at c.args.tables.now c.args.numbers.now n in
    let states = states_at c.args.rows.now n in
    let before = c.args.sound.now in
    let new = states_at c.finish_rows.new.rows n in
    let bytes = c.finish_rows.new.out in
    let first = m * channels in
    let part = first + channels - first in
    let inside : first + channels ≤ length before = omega (arith, c.requires.inside) in
    let state : ChannelState = record { ahead = record { lanes = []; newest = 0; late = 0 }; next = 0 } in
    let after = put_mid first part before bytes in
    record {
      wide = length-states c.finish_rows.new.rows n ∙ omega arith ∙ sym (length-states c.args.rows.now n);
      long = omega arith;
      decoded = λ f P reserved later decoder count built u behind.
          let same_first : m * f.channels ≡ first = ap (λ k. m * k) count in
          byte_ends f P reserved m before after bytes later decoder states new u behind
          (λ k h. put_mid-below first part k before bytes (omega arith) (omega arith))
          (λ j h. ap (λ k. get_or after (k + j) 0) same_first ∙ put_mid-at first part j before bytes (omega arith) (omega arith))
          (λ j h k l. c.finish_rows.ensures.newest j state (filter_of P j) (probs_of P j) (later j) 8 (omega arith) (u.ready j state h) k l)
          (λ j other h.
          let is = (built j no_tables h).filter_is in
          let old : IsReady (get_or tables j no_tables).filter (probs_of P j) 8 (later j) (get_or states j other) =
          subst (λ coefs. IsReady coefs (probs_of P j) 8 (later j) (get_or states j other)) (sym is) (u.ready j other h) in
          subst (λ coefs. IsReady coefs (probs_of P j) 0 (later j) (get_or new j other)) is
          (c.finish_rows.ensures.added j no_tables other (probs_of P j) (later j) (omega arith) old));
    }
