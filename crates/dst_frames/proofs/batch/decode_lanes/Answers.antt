-- The bits that a lane has used are the code of its frame's sound, and behind their end lies the frame's tail.
use Rattle.std.proofs.Common.{◌≡◌, ◌≢◌, ℕ, ◌+◌, ◌*◌, ◌<◌, ◌≤◌, length, get_or, set, get_or-set_same, get_or-set_other, below_more}
use Rattle.std.proofs.Common.{ap, sym, subst, ◌∙◌, arith}
use Rattle.std.proofs.lemmas.List.{get_or_default}
use Rattle.dst_spec.specs.Sample.{sound_bytes}
use Rattle.dst_spec.specs.Means.{MeansWithTail}
use Rattle.arith_lanes.specs.Lanes.{first_at, used_at}
use Rattle.dst_frames.specs.Eight.{states_at, tables_at}
use Rattle.dst_frames.specs.Running.{AreEight}
use Rattle.dst_frames.specs.Batch.{IsDecoded, stored_in, code_at}
use Rattle.dst_frames.specs.declared.stored.StoredFrame.{StoredFrame}
use Rattle.dst_frames.specs.declared.stored.DecodedFrame.{DecodedFrame}
use Rattle.dst_frames.proofs.Begun.{begun_lanes, code_in_lane, answered, long_set}
use Rattle.dst_frames.proofs.OneOfEight.{length-tables}
use Rattle.dst_frames.proofs.Running.{code_of}
use Rattle.dst_frames.proofs.batch.decode_lanes.Goals as goal

pub decode_all-requires-clause-eight : goal.decode_all-requires-clause-eight
decode_all-requires-clause-eight c = subst (AreEight c.args.tables.now c.args.numbers.now) (omega (arith, c.requires.rows)) c.requires.eight

pub decode_all-requires-clause-lanes : goal.decode_all-requires-clause-lanes
decode_all-requires-clause-lanes c =
    begun_lanes c.args.channels c.args.lanes.now c.decode.new.self c.args.frames.now c.args.tables.now c.args.numbers.now c.args.rows.now c.args.reserved.now
    c.decode.result c.requires.few c.requires.begun c.requires.empty c.decode.ensures

pub end-end-requires-clause-code : goal.end-end-requires-clause-code
end-end-requires-clause-code c =
    (code_at c.args.frames.now c.loop-n.n, (c.decode_all.ensures.lanes c.loop-n.n (omega (arith, c.requires.few))).lane)

pub loop-n-preserved : goal.loop-n-preserved
loop-n-preserved c =
    let f = c.args.channels in
    let i = c.loop-n.n in
    let inv = c.loop-n.invariant in
    let frames = c.args.frames.now in
    let s = c.args.lanes.now in
    let t = c.decode.new.self in
    let u = c.decode_all.new.lanes in
    let sounds = c.args.heard.now in
    let first_heard = c.decode_all.new.heard in
    let heard = c.loop-n.heard in
    let x = c.settle.new.heard in
    let eight : i < 8 = omega (arith, c.requires.few) in
    let lt : i < length frames = omega arith in
    let lt_heard : i < length heard = omega (arith, c.requires.heard) in
    let was : get_or heard i c.index-heard-n.result ≡ get_or first_heard i c.index-heard-n.result = inv.left i c.index-heard-n.result (omega arith) in
    let P : ℕ → Type 0 = λ m. (frame : StoredFrame) (other : DecodedFrame) → IsDecoded f (stored_in (get_or frames m frame))
    (get_or (set heard i x) m other).sound.items (get_or (set heard i x) m other).answer in
    let below : (m : ℕ) → m < i → P m = λ m h frame other.
    let ne : m ≢ i = omega arith in
    rw (get_or-set_other heard i m x other ne) (inv.done m frame other h) in
    let left : (m : ℕ) (other : DecodedFrame) → i + 1 ≤ m → get_or (set heard i x) m other ≡ get_or first_heard m other = λ m other h.
    let ne : m ≢ i = omega arith in
    get_or-set_other heard i m x other ne ∙ inv.left m other (omega arith) in
    let x_long : length x.sound.items ≡ sound_bytes f = ap (λ v. length v.items) c.settle.ensures.sound
    ∙ inv.long i c.index-heard-n.result lt in
    let long : (m : ℕ) (other : DecodedFrame) → m < length frames → length (get_or (set heard i x) m other).sound.items ≡ sound_bytes f = λ m other h.
    long_set heard i m (sound_bytes f) x other lt_heard x_long (inv.long m other h) in
    let here : P i = λ frame other.
    let bytes = stored_in (get_or frames i frame) in
    let code : bytes ≡ code_at frames i = code_of frames i frame lt in
    let b = c.requires.begun i frame lt in
    let k = c.decode.ensures i _ bytes eight b.begins.lane b.reserved (omega (arith, b.begins.ahead)) (omega (arith, b.begins.used_is)) in
    let hd = get_or first_heard i c.index-heard-n.result in
    let decoded = rw (← code) at (c.decode_all.ensures.sound i c.index-heard-n.result lt) in
    let further = c.decode_all.ensures.lanes i eight in
    let is_code = code_in_lane c.decoded_code.ensures f s t u i bytes (tables_at c.args.tables.now c.args.numbers.now i) (states_at c.args.rows.now i)
    (states_at c.decode_all.new.rows i)
    (get_or c.args.reserved.now i 0) (4704 * c.multiple-octets.result) k.0 (get_or sounds i c.index-heard-n.result).sound.items hd.sound.items b k.2
    (sym (length-tables c.args.tables.now c.args.numbers.now i ∙ c.requires.eight.count)) c.multiple-octets.ensures.multiple decoded further.first in
    let lt_first : i < length sounds = omega (arith, c.requires.heard) in
    let long : length hd.sound.items ≡ sound_bytes f = c.decode_all.ensures.long i c.index-heard-n.result lt_first
    ∙ c.requires.sounds i c.index-heard-n.result lt in
    let place_is : first_at u i ≡ b.place = further.first ∙ k.2.first ∙ b.begins.first_is in
    let end_is : c.end-end.result ≡ b.place + used_at u i = c.end-end.ensures ∙ ap (λ n. n + used_at u i) place_is in
    let fr_same : c.index-frames-n.result ≡ get_or frames i frame = c.index-frames-n.is ∙ get_or_default frames i c.index-frames-n.result frame lt in
    let settled = rw (fr_same, was) at c.settle.ensures.tail in
    let sound_is : x.sound ≡ hd.sound = c.settle.ensures.sound ∙ ap (λ (q : DecodedFrame). q.sound) was in
    let means = settled.2 f b.params b.place (used_at u i) long b.inside b.header b.first_bit is_code end_is in
    rw (get_or-set_same heard i x other lt_heard)
    (answered f bytes x.sound.items x.answer settled.0 c.multiple-octets.ensures.shape settled.1
    (subst (λ q. MeansWithTail f bytes q.items settled.0) (sym sound_is) means)) in
    record {
      done = λ m frame other h. below_more P i below here m h frame other;
      long = long;
      left = left;
    }
