-- The room over the channels is one sample at least, and so many samples have room.
use Rattle.std.proofs.Common.{arith}
use Rattle.std.proofs.lemmas.Nat.{le-div}
use Rattle.std.proofs.Math.Nat.{le-div_iff_mul-le}
use Rattle.frame_store.proofs.lanes.part_samples.Goals as goal

pub returns : goal.returns
returns c =
    let room = c.args.room in
    let channels = c.args.channels in
    let one = le-div 1 room channels c.requires.least (omega (arith, c.requires.room)) in
    record {
      some = omega (arith, one, c.min.ensures, c.requires.some);
      inside = omega (arith, c.min.ensures);
      room = (le-div_iff_mul-le {k = channels} {x = c.min.result} {y = room} c.requires.least).0 (omega (arith, c.min.ensures));
    }
