-- One sample more is the next of its channel, place by place, and the eight of each are its next byte.
use Rattle.std.proofs.Common.{◌≡◌, ℕ, ◌+◌, ◌-◌, ◌*◌, ◌<◌, ◌≤◌, false, [], length, get_or, drop, refl, ap, sym, subst, ◌∙◌, arith}
use Rattle.dst_spec.specs.Guess.{filter_of, probs_of}
use Rattle.dst_frames.specs.Ready.{IsReady}
use Rattle.dst_frames.specs.Tables.{IsBuilt}
use Rattle.dst_frames.specs.declared.state.ChannelState.{ChannelState}
use Rattle.dst_frames.specs.declared.tables.ChannelTables.{ChannelTables}
use Rattle.dst_frames.specs.Underway.{earlier, IsUnderway}
use borrow.Rule.Slice.PartMut.{put_mid}
use Rattle.dst_frames.proofs.Bytes.{one_more_dropped, byte_ends, put_mid-below, put_mid-at, bytes_inside}
use Rattle.dst_frames.proofs.Early.{early_is}
use Rattle.dst_frames.proofs.Further.{no_further, further}
use Rattle.dst_frames.proofs.History.{Predicts}
use Rattle.dst_frames.proofs.Rows.{row_begins, row_goes_on, row_ends}
use Rattle.dst_frames.proofs.samples.decode_byte.Goals as goal

pub loop-place-init : goal.loop-place-init
loop-place-init c = record {
  code = no_further c.args.decoder.now;
  samples = λ f P reserved samples count built u.
      let none : 8 * c.args.byte ≡ 8 * c.args.byte + 0 = omega arith in
      (samples, λ j h. refl, subst (λ t. IsUnderway f P reserved t 0 samples c.args.decoder.now c.args.states.now) none u);
}

pub loop-c-init : goal.loop-c-init
loop-c-init c = record {
  code = no_further c.loop-place.decoder;
  row = λ f P reserved samples count built u.
      row_begins f P reserved (8 * c.args.byte + c.loop-place.place) c.loop-place.place samples c.loop-place.decoder c.loop-place.states u;
}

pub loop-c-preserved : goal.loop-c-preserved
loop-c-preserved c =
    let law : Predicts = record {
      frame = c.samples_before.ensures.frame;
      next = c.samples_before.ensures.next;
      predicts = c.samples_before.ensures.predicts;
    } in
    let place = c.loop-place.place in
    let t = 8 * c.args.byte + place in
    let done = c.loop-c.c in
    let next = c.decode_sample.ensures.next in
    record {
      code = further c.loop-place.decoder c.loop-c.decoder c.decode_sample.new.decoder (8 * done) 8 (8 * (done + 1)) c.loop-c.invariant.code
          c.decode_sample.ensures.code (omega arith);
      row = λ f P reserved samples count built u.
          let lt : done < f.channels = omega arith in
          let table = c.index-tables-c.result in
          let half_prob = get_or P.half_prob done false in
          let here : IsBuilt (filter_of P done) (probs_of P done) half_prob table =
          subst (IsBuilt (filter_of P done) (probs_of P done) half_prob) (sym c.index-tables-c.is) (built done table lt) in
          let early = c.is_early-early.ensures ∙ early_is half_prob c.args.start c.args.byte place table.early (length (filter_of P done))
          here.early here.short c.requires.start in
          let row = c.loop-c.invariant.row f P reserved samples count built u in
          let old = row.before done c.index-states-c.result (omega arith) lt in
          row_goes_on law f P reserved t place samples done c.loop-c.decoder c.decode_sample.new.decoder c.loop-c.states c.decode_sample.new.state
          c.is_early-early.result c.decode_sample.result row lt (omega arith) early here.short
          (next.ready (filter_of P done) (probs_of P done) (samples done) half_prob here old)
          (λ pairs stands. next.symbol (filter_of P done) (probs_of P done) (samples done) pairs old stands);
    }

pub loop-place-preserved : goal.loop-place-preserved
loop-place-preserved c =
    let place = c.loop-place.place in
    record {
      code = further c.args.decoder.now c.loop-place.decoder c.loop-c.decoder (48 * place) (8 * c.loop-c.c) (48 * (place + 1)) c.loop-place.invariant.code
          c.loop-c.invariant.code (omega arith);
      samples = λ f P reserved samples count built u.
          let t = 8 * c.args.byte + place in
          let s = c.loop-place.invariant.samples f P reserved samples count built u in
          let all : c.loop-c.c ≡ f.channels = omega arith in
          let e = row_ends f P reserved t place s.0 c.loop-c.c c.loop-c.decoder c.loop-c.states all (c.loop-c.invariant.row f P reserved s.0 count built s.2) in
          let more : 8 * c.args.byte + place + 1 ≡ 8 * c.args.byte + (place + 1) = omega arith in
          let one_more : 1 + place ≡ place + 1 = omega arith in (
            e.0,
            λ j h. one_more_dropped place (e.0 j) (s.0 j) (samples j) (e.1 j h) (s.1 j h),
            subst (λ n. IsUnderway f P reserved n (place + 1) e.0 c.loop-c.decoder c.loop-c.states) more e.2,
          );
    }

pub returns-clause-sound : goal.returns-clause-sound
returns-clause-sound c = λ f P reserved count built start.
    let m = c.args.byte in
    let tables = c.args.tables.now in
    let states = c.loop-place.states in
    let new = c.finish_byte.new.states in
    let before = c.args.out.now in
    let bytes = c.finish_byte.new.out in
    let channels = c.args.channels in
    let are = c.requires.channels in
    let first = m * channels in
    let inside : first + channels ≤ length before = bytes_inside m channels (length tables) (length before) are c.requires.inside in
    let after = put_mid first (first + channels - first) before bytes in
    let same_first : m * f.channels ≡ first = ap (λ n. m * n) (count ∙ sym are) in
    let state : ChannelState = record { ahead = record { lanes = []; newest = 0; late = 0 }; next = 0 } in
    let s = c.loop-place.invariant.samples f P reserved (λ j. earlier f before j (8 * m)) count built start in
    let later = s.0 in
    let all : c.loop-place.place ≡ 8 = omega arith in
    let u : IsUnderway f P reserved (8 * m + 8) 8 later c.loop-place.decoder states =
    subst (λ n. IsUnderway f P reserved (8 * m + n) n later c.loop-place.decoder states) all s.2 in
    let behind : (j : ℕ) → j < f.channels → drop 8 (later j) ≡ earlier f before j (8 * m) = λ j h. ap (λ n. drop n (later j)) (sym all) ∙ s.1 j h in
    byte_ends f P reserved m before after bytes later c.loop-place.decoder states new u behind
    (λ k h. put_mid-below first (first + channels - first) k before bytes (omega arith) (omega arith))
    (λ j h. ap (λ n. get_or after (n + j) 0) same_first ∙ put_mid-at first (first + channels - first) j before bytes (omega arith) (omega arith))
    (λ j h k l. c.finish_byte.ensures.newest j state (filter_of P j) (probs_of P j) (later j) 8 (omega arith) (u.ready j state h) k l)
    (λ j other h.
    let table : ChannelTables = record { filter = []; entries = []; early = 0 } in
    let is = (built j table h).filter_is in
    let old : IsReady (get_or tables j table).filter (probs_of P j) 8 (later j) (get_or states j other) =
    subst (λ coefs. IsReady coefs (probs_of P j) 8 (later j) (get_or states j other)) (sym is) (u.ready j other h) in
    subst (λ coefs. IsReady coefs (probs_of P j) 0 (later j) (get_or new j other)) is
    (c.finish_byte.ensures.added j table other (probs_of P j) (later j) (omega arith) old))
