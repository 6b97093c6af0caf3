-- A lane that is refilled has enough bits ahead, and decodes what it did; the others are untouched.
use Rattle.std.proofs.Common.{◌≢◌, ℕ, ◌<◌, ◌∙◌, arith, below_more}
use Rattle.dst_frames.specs.Batch.{HasEnough, code_at}
use Rattle.dst_frames.proofs.Running.{unchanged_none, unchanged_more, enough_still, used_still}
use Rattle.dst_frames.proofs.octets.refill_all.Goals as goal

pub loop-n-init : goal.loop-n-init
loop-n-init c = record { done = λ m h. absurd (omega arith); left = λ m h. unchanged_none c.args.lanes.now m }

pub refill-requires-clause-code : goal.refill-requires-clause-code
refill-requires-clause-code c =
    rw c.code_bytes-bytes.ensures ((c.loop-n.invariant.left c.loop-n.n (omega arith)).lane (code_at c.args.frames.now c.loop-n.n)
    (c.requires.lanes.lane c.loop-n.n (omega arith)))

pub refill-requires-clause-early : goal.refill-requires-clause-early
refill-requires-clause-early c =
    let same = (c.loop-n.invariant.left c.loop-n.n (omega arith)).same (code_at c.args.frames.now c.loop-n.n) in
    let used = used_still c.args.lanes.now c.loop-n.lanes c.loop-n.n (code_at c.args.frames.now c.loop-n.n) same in
    omega (arith, used, c.requires.lanes.used c.loop-n.n (omega arith))

pub loop-n-preserved : goal.loop-n-preserved
loop-n-preserved c =
    let i = c.loop-n.n in
    let old = c.args.lanes.now in
    let lanes = c.loop-n.lanes in
    let new = c.refill.new.self in
    let inv = c.loop-n.invariant in
    let P : ℕ → Type 0 = λ m. HasEnough old new m (code_at c.args.frames.now m) in
    let below : (m : ℕ) → m < i → P m = λ m h.
    let ne : m ≢ i = omega arith in
    enough_still old lanes new m (code_at c.args.frames.now m) (inv.done m h) (c.refill.ensures.others m ne) in
    let f = rw c.code_bytes-bytes.ensures at c.refill.ensures.filled in
    let here : P i = record {
      lane = f.lane;
      same = f.same ∙ (inv.left i (omega arith)).same (code_at c.args.frames.now i);
      ahead = rw f.ahead (omega arith);
    } in
    record {
      done = λ m h. below_more P i below here m h;
      left = λ m h.
          let ne : m ≢ i = omega arith in
          unchanged_more old lanes new m (inv.left m (omega arith)) (c.refill.ensures.others m ne);
    }
