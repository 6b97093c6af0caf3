-- A byte more is decoded behind those before, in the first loop or the second, up to the last one.
use Rattle.std.proofs.Common.{◌≡◌, ◌+◌, ◌*◌, get_or, ◌∙◌, subst, arith}
use Rattle.dst_frames.specs.Eight.{states_at, tables_at}
use Rattle.dst_frames.specs.Batch.{code_at}
use Rattle.dst_frames.specs.Running.{LaneDecoded}
use Rattle.dst_frames.proofs.Running.{lane_more, lane_decoded_on}
use Rattle.dst_frames.proofs.octets.decode_octets.Goals as goal

pub loop-byte-preserved : goal.loop-byte-preserved
loop-byte-preserved c =
    let inv = c.loop-byte.invariant in
    let m = c.loop-byte.byte in
    let d = c.decode_octet in
    let old = c.args.lanes.now in
    record {
      lanes = λ n h. lane_more old c.loop-byte.lanes d.new.lanes n (code_at c.args.frames.now n) (384 * m) 384 (384 * (m + 1)) (inv.lanes n h)
          (d.ensures.lanes n h) (omega arith);
      chances = d.ensures.chances;
      long = λ n frame h. d.ensures.long n frame (omega arith) ∙ inv.long n frame h;
      sound = λ n frame h. lane_decoded_on n m (code_at c.args.frames.now n) old c.loop-byte.lanes d.new.lanes
          (tables_at c.args.tables.now c.args.numbers.now n) (states_at c.args.rows.now n) (states_at c.loop-byte.rows n) (states_at d.new.rows n)
          (get_or c.args.heard.now n frame).sound.items
          (get_or c.loop-byte.heard n frame).sound.items (get_or d.new.heard n frame).sound.items (inv.sound n frame h) (d.ensures.sound n frame h);
    }

pub loop-byte-2-preserved : goal.loop-byte-2-preserved
loop-byte-2-preserved c =
    let inv = c.loop-byte-2.invariant in
    let m = c.loop-byte-2.byte in
    let d = c.decode_octet-in-loop-byte-2 in
    let old = c.args.lanes.now in
    record {
      lanes = λ n h. lane_more old c.loop-byte-2.lanes d.new.lanes n (code_at c.args.frames.now n) (384 * m) 384 (384 * (m + 1)) (inv.lanes n h)
          (d.ensures.lanes n h) (omega arith);
      chances = d.ensures.chances;
      long = λ n frame h. d.ensures.long n frame (omega arith) ∙ inv.long n frame h;
      sound = λ n frame h. lane_decoded_on n m (code_at c.args.frames.now n) old c.loop-byte-2.lanes d.new.lanes
          (tables_at c.args.tables.now c.args.numbers.now n) (states_at c.args.rows.now n) (states_at c.loop-byte-2.rows n) (states_at d.new.rows n)
          (get_or c.args.heard.now n frame).sound.items
          (get_or c.loop-byte-2.heard n frame).sound.items (get_or d.new.heard n frame).sound.items (inv.sound n frame h) (d.ensures.sound n frame h);
    }

pub returns-clause-sound : goal.returns-clause-sound
returns-clause-sound c n frame h =
    let all : c.loop-byte-2.byte ≡ c.args.octets = omega arith in
    subst (λ k. LaneDecoded n 0 k (code_at c.args.frames.now n) c.args.lanes.now c.loop-byte-2.lanes (tables_at c.args.tables.now c.args.numbers.now n)
    (states_at c.args.rows.now n) (states_at c.loop-byte-2.rows n) (get_or c.args.heard.now n frame).sound.items
    (get_or c.loop-byte-2.heard n frame).sound.items) all (c.loop-byte-2.invariant.sound n frame h)
