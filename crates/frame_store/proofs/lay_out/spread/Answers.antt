-- The byte of a sample is that of its code, early or not, and its place is no other sample's or channel's.
use Rattle.std.proofs.Common.{◌≡◌, ◌≢◌, ◌+◌, ◌*◌, ◌<◌, nat_lt, length, get_or, ap, sym, ◌∙◌, arith, below_more, get_or-set_same, get_or-set_other}
use Rattle.std.proofs.Common.{length-set, lt-ltb, le-ltb}
use Rattle.dst_spec.proofs.Lists.{place-below}
use Rattle.frame_store.specs.Pairs.{symbol_byte}
use Rattle.frame_store.proofs.Placed.{place-other_sample, place-other_channel}
use Rattle.frame_store.proofs.lay_out.spread.Goals as goal
use Rattle.frame_store.proofs.lay_out.spread.Goals.{then-t-early, else-t-early}

pub loop-t-preserved : goal.loop-t-preserved
loop-t-preserved c =
    let t = c.loop-t.t in
    let channel = c.args.c in
    let channels = c.args.channels in
    let old = c.loop-t.symbols in
    let byte = c.if-t-early.symbols in
    let code = get_or c.args.codes.now t 0 in
    let small = c.requires.codes t 0 c.loop-t-test.true in
    let is : byte ≡ symbol_byte c.args.probs.now (nat_lt t c.args.early) code =
    elim c.if-t-early.branch [
      | then-t-early w ↦ w.symbols-is ∙ c.tables.ensures.first code small
          ∙ ap (λ b. symbol_byte c.args.probs.now b code) (sym (lt-ltb t c.args.early w.if-t-early.true))
      | else-t-early w ↦ w.symbols-is ∙ c.tables.ensures.later code small
          ∙ ap (λ b. symbol_byte c.args.probs.now b code) (sym (le-ltb t c.args.early w.if-t-early.false))
    ] in
    let place = t * channels + channel in
    let inside : place < length old = omega (arith, place-below t channel channels (length c.args.codes.now) c.requires.channel c.loop-t-test.true) in
    record {
      long = length-set old place byte ∙ c.loop-t.invariant.long;
      here = below_more _ _
          (λ u lt.
          let other : u ≢ t = omega arith in
          get_or-set_other old place (u * channels + channel) byte 0
          (place-other_sample u t channel channel channels c.requires.channel c.requires.channel other) ∙ c.loop-t.invariant.here u lt)
          (get_or-set_same old place byte 0 inside ∙ is);
      others = λ u d lt ne. get_or-set_other old place (u * channels + d) byte 0 (place-other_channel u t d channel channels lt c.requires.channel ne)
          ∙ c.loop-t.invariant.others u d lt ne;
    }
