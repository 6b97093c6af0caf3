-- The code begins in the lane where the frame's header ends, with tables and rows that are built for the frame.
use Rattle.std.proofs.Common.{◌≡◌, get_or, subst, arith}
use Rattle.dst_spec.specs.Bits.{bits}
use Rattle.arith_lanes.specs.Lanes.{Begins}
use Rattle.dst_frames.specs.Running.{IsPool}
use Rattle.dst_frames.proofs.batch.begin_lane.Goals as goal

pub build_all_in-requires-clause-eight : goal.build_all_in-requires-clause-eight
build_all_in-requires-clause-eight c = subst (IsPool c.args.eight.now) (omega (arith, c.requires.rows)) c.requires.eight

pub returns-in-Ok-clause-begun : goal.returns-in-Ok-clause-begun
returns-in-Ok-clause-begun c =
    let f = c.args.channels in
    let place = c.in-Ok-Coded.code.first in
    let bytes = rw c.in-Ok-Coded.field-0-is at c.in-Ok-Coded.ensures-1.bytes in
    let inside = rw c.in-Ok-Coded.field-0-is at c.in-Ok-Coded.ensures-1.inside in
    let header = rw c.in-Ok-Coded.field-0-is at c.in-Ok-Coded.ensures-1.header in
    record {
      params = c.in-Ok-Coded.params;
      place = place;
      begins = subst (λ bs. Begins c.begin.new.self c.args.n bs place) bytes c.in-Ok.ensures.begun;
      inside = inside;
      header = header;
      first_bit = subst (λ bs. get_or (bits bs) place 0 ≡ 0) bytes c.in-Ok.ensures.first_bit;
      reserved = c.reserved_chance.ensures;
      built = c.build_all_in.ensures.built f (omega (arith, c.requires.rows));
      fresh = λ j other h. c.build_all_in.ensures.fresh j other (omega (arith, c.requires.rows));
    }

pub returns-in-Ok-clause-eight : goal.returns-in-Ok-clause-eight
returns-in-Ok-clause-eight c = subst (IsPool c.build_all_in.new.eight) (omega (arith, c.requires.rows)) c.build_all_in.ensures.eight
