-- Sample by sample the bits of the stretches are those of the channel.
use Rattle.std.proofs.Common.{◌≡◌, ◌+◌, ◌-◌, ◌*◌, ◌/◌, ◌%◌, ◌^◌, get_or, ap, sym, ◌∙◌, arith}
use Rattle.filter_analyser.proofs.stretches.pack.Goals as goal

pub returns : goal.returns
returns c = λ f channels octets.
    record {
      long = omega (arith, octets);
      each = λ t h.
          let w = t / 64 in
          let i = t % 64 in
          let row : 8 * w + i / 8 ≡ t / 8 = omega arith in
          let place : i % 8 ≡ t % 8 = omega arith in
          c.loop-place.invariant w i (omega arith) (omega arith)
          ∙ ap (λ q. get_or c.args.sound.now (q * c.args.channels + c.args.channel) 0 / 2 ^ (7 - i % 8) % 2) row
          ∙ ap (λ r. get_or c.args.sound.now (t / 8 * c.args.channels + c.args.channel) 0 / 2 ^ (7 - r) % 2) place
          ∙ ap (λ n. get_or c.args.sound.now (t / 8 * n + c.args.channel) 0 / 2 ^ (7 - t % 8) % 2) (sym channels);
    }
