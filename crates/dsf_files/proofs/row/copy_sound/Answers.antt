-- Behind the last channel comes the next octet, so that both are the remainder and the quotient of the place.
use Rattle.std.proofs.Common.{◌≡◌, ◌≢◌, ◌+◌, ◌*◌, ◌<◌, length, get_or, sym, ap, ap₂, ◌∙◌, arith, below_more, get_or-set_other, get_or-set_same}
use Rattle.dsf_files.proofs.RowBytes.{place_of_byte}
use Rattle.dsf_files.proofs.row.copy_sound.Goals as goal
use Rattle.dsf_files.proofs.row.copy_sound.Goals.{then-channel-channels, else-channel-channels}

pub loop-byte-preserved : goal.loop-byte-preserved
loop-byte-preserved c =
    let i = c.loop-byte.byte-index in
    let there = place_of_byte c.loop-byte.octet c.args.channels c.loop-byte.channel (c.args.place + i) c.loop-byte.invariant.next c.loop-byte.invariant.below in
    record {
      next = elim c.if-channel-channels.branch [
        | then-channel-channels w ↦
            let more : c.if-channel-channels.octet * c.args.channels ≡ c.loop-byte.octet * c.args.channels + c.args.channels =
            ap (λ o. o * c.args.channels) w.octet-is ∙ omega arith in
            omega (arith, more, w.channel-is, w.if-channel-channels.true, c.loop-byte.invariant.next)
        | else-channel-channels w ↦
            let same : c.if-channel-channels.octet * c.args.channels ≡ c.loop-byte.octet * c.args.channels = ap (λ o. o * c.args.channels) w.octet-is in
            omega (arith, same, w.channel-is, c.loop-byte.invariant.next)
      ];
      below = elim c.if-channel-channels.branch [
        | then-channel-channels w ↦ omega (arith, w.channel-is, c.requires.channels)
        | else-channel-channels w ↦ omega (arith, w.channel-is, w.if-channel-channels.false, c.loop-byte.invariant.below)
      ];
      sound = below_more _ _
          (λ k h. let ne : k ≢ i = omega arith in rw get_or-set_other (c.loop-byte.invariant.sound k h))
          (let lt : i < length c.loop-byte.out = omega arith in
          rw get_or-set_same (ap₂ (λ a b. get_or c.args.row.now (4096 * a + b) 0) (sym there.0) (sym there.1)));
    }
