-- A frame is decoded into its own sound, and nothing of those before or behind changes.
use Rattle.std.proofs.Common.{◌≡◌, ◌≢◌, ℕ, ◌+◌, ◌<◌, ◌≤◌, length, get_or, set, get_or-set_same, get_or-set_other, below_more, subst, ◌∙◌, arith}
use Rattle.std.proofs.lemmas.List.{get_or_default}
use Rattle.dst_spec.specs.Sample.{sound_bytes}
use Rattle.dst_frames.specs.Batch.{IsDecoded, stored_in}
use Rattle.dst_frames.specs.declared.stored.StoredFrame.{StoredFrame}
use Rattle.dst_frames.specs.declared.stored.DecodedFrame.{DecodedFrame}
use Rattle.dst_frames.proofs.Begun.{long_set}
use Rattle.dst_frames.proofs.batch.decode_apart.Goals as goal

pub decode_one-requires-clause-sound : goal.decode_one-requires-clause-sound
decode_one-requires-clause-sound c =
    rw (c.loop-n.invariant.left c.loop-n.n c.index-heard-n.result (omega arith)) (c.requires.sounds c.loop-n.n c.index-heard-n.result (omega arith))

pub loop-n-preserved : goal.loop-n-preserved
loop-n-preserved c =
    let f = c.args.channels in
    let i = c.loop-n.n in
    let inv = c.loop-n.invariant in
    let frames = c.args.frames.now in
    let heard = c.loop-n.heard in
    let x = c.decode_one.new.heard in
    let lt : i < length frames = omega arith in
    let lt_heard : i < length heard = omega (arith, c.requires.same) in
    let P : ℕ → Type 0 = λ m. (frame : StoredFrame) (other : DecodedFrame) → IsDecoded f (stored_in (get_or frames m frame))
    (get_or (set heard i x) m other).sound.items (get_or (set heard i x) m other).answer in
    let below : (m : ℕ) → m < i → P m = λ m h frame other.
    let ne : m ≢ i = omega arith in
    rw (get_or-set_other heard i m x other ne) (inv.done m frame other h) in
    let left : (m : ℕ) (other : DecodedFrame) → i + 1 ≤ m → get_or (set heard i x) m other ≡ get_or c.args.heard.now m other = λ m other h.
    let ne : m ≢ i = omega arith in
    get_or-set_other heard i m x other ne ∙ inv.left m other (omega arith) in
    let here : P i = λ frame other.
    let same : c.index-frames-n.result ≡ get_or frames i frame = c.index-frames-n.is ∙ get_or_default frames i c.index-frames-n.result frame lt in
    rw (get_or-set_same heard i x other lt_heard)
    (subst (λ (q : StoredFrame). IsDecoded f (stored_in q) x.sound.items x.answer) same c.decode_one.ensures.decoded) in
    record {
      done = λ m frame other h. below_more P i below here m h frame other;
      long = λ m other h. long_set heard i m (sound_bytes f) x other lt_heard (c.decode_one.ensures.long ∙ inv.long i c.index-heard-n.result lt)
          (inv.long m other h);
      left = left;
    }
