-- A frame that begins in its lane leaves the lanes, tables and rows of those before as they are.
use Rattle.std.proofs.Common.{◌≡◌, ◌≢◌, ℕ, ◌<◌, [], length, get_or, set, get_or-set_same, get_or-set_other, length-set, below_more, refl, ap, sym, subst}
use Rattle.std.proofs.Common.{◌∙◌, arith}
use Rattle.std.proofs.lemmas.List.{get_or_default, length-take-le}
use Rattle.arith_lanes.proofs.Beginning.{alike}
use Rattle.dst_frames.specs.Eight.{states_at, tables_in}
use Rattle.dst_frames.specs.Batch.{HasBegun, stored_in}
use Rattle.dst_frames.specs.Running.{AreChances}
use Rattle.dst_frames.specs.declared.stored.StoredFrame.{StoredFrame}
use Rattle.dst_frames.proofs.Begun.{begins_still, begun_still}
use Rattle.dst_frames.proofs.batch.begin_all.Goals as goal

pub loop-n-init : goal.loop-n-init
loop-n-init c = record {
  many = refl;
  begun = λ m frame h. absurd (omega arith);
  empty = λ m a h. (c.requires.empty m h, rw (alike c.chance-chances.result m h) c.chance-chances.ensures.prob);
  eight = record { are = c.requires.eight.are; room = c.requires.eight.room };
  taken = record {
    frame = λ m d other h k. absurd (omega arith);
    channel = λ d other h. absurd (omega arith);
    few = omega arith;
    inside = omega arith;
  };
  chances = record {
    some = λ m d row h k. (1, c.requires.fresh d row k m h);
    next = λ m d row h k. absurd (omega arith);
  };
}

pub begin_lane-requires-clause-frame : goal.begin_lane-requires-clause-frame
begin_lane-requires-clause-frame c =
    let other = c.index-frames-n.result in
    let frames = c.args.frames.now in
    let size = c.requires.frames c.loop-n.n other (omega arith) in
    let inside = c.requires.stored c.loop-n.n other (omega arith) in
    let long = length-take-le (get_or frames c.loop-n.n other).size (get_or frames c.loop-n.n other).bytes.items inside in
    let same : length c.stored.result.now ≡ length (stored_in (get_or frames c.loop-n.n other)) = ap length (c.stored.ensures.bytes
    ∙ ap (λ (q : StoredFrame). stored_in q) c.index-frames-n.is) in
    omega arith

pub loop-n-preserved : goal.loop-n-preserved
loop-n-preserved c =
    let f = c.args.channels in
    let i = c.loop-n.n in
    let inv = c.loop-n.invariant in
    let frames = c.args.frames.now in
    let lanes = c.loop-n.lanes in
    let new = c.begin_lane.new.lanes in
    let eight = c.begin_lane.new.eight in
    let rows = c.begin_lane.new.rows in
    let chances = c.loop-n.chances in
    let x = c.in-Some.reserved in
    let lt_frames : i < length frames = omega arith in
    let lt_chances : i < length chances = omega (arith, inv.many, c.requires.few) in
    let P : ℕ → Type 0 = λ m. (frame : StoredFrame) → HasBegun f new m (stored_in (get_or frames m frame)) (tables_in eight m) (states_at rows m)
    (get_or (set chances i x) m 0) in
    let below : (m : ℕ) → m < i → P m = λ m h frame.
    let ne : m ≢ i = omega arith in
    rw (c.begin_lane.ensures.tables m h, c.begin_lane.ensures.states m ne, get_or-set_other chances i m x 0 ne)
    (begun_still f lanes new m (stored_in (get_or frames m frame)) (tables_in c.loop-n.eight m) (states_at c.loop-n.rows m) (get_or chances m 0)
    (inv.begun m frame h) (c.begin_lane.ensures.others m ne)) in
    let bytes : (frame : StoredFrame) → c.stored.result.now ≡ stored_in (get_or frames i frame) = λ frame.
    c.stored.ensures.bytes ∙ ap (λ (q : StoredFrame). stored_in q) (c.index-frames-n.is ∙ get_or_default frames i c.index-frames-n.result frame lt_frames) in
    let here : P i = λ frame.
    subst (λ w. HasBegun f new i (stored_in (get_or frames i frame)) (tables_in eight i) (states_at rows i) w) (sym (get_or-set_same chances i x 0 lt_chances))
    (subst (λ bs. HasBegun f new i bs (tables_in eight i) (states_at rows i) x) (bytes frame) c.in-Some.ensures.begun) in
    record {
      many = simp length-set inv.many;
      begun = λ m frame h. below_more P i below here m h frame;
      empty = λ m a h.
          let ne : m ≢ i = omega arith in
          let was = inv.empty m (omega arith) h in
          (begins_still lanes new m [] 0 was.0 (c.begin_lane.ensures.others m ne), rw (get_or-set_other chances i m x 0 ne) was.1);
      eight = c.begin_lane.ensures.eight;
      taken = c.in-Some.ensures.taken;
      chances = c.in-Some.ensures.chances;
    }

pub returns-clause-chances : goal.returns-clause-chances
returns-clause-chances c =
    let all : c.loop-n.n ≡ length c.args.frames.now = omega arith in
    subst (AreChances c.loop-n.rows) all c.loop-n.invariant.chances
