-- Giving out the byte of one frame leaves the states and sounds of the others as they are.
use Rattle.std.proofs.Common.{◌≡◌, ◌≢◌, ℕ, ◌<◌, List, length, get_or, set, get_or-set_same, get_or-set_other, below_more, sym, subst, ◌∙◌}
use Rattle.std.proofs.Common.{subst₂, arith}
use Rattle.std.proofs.lemmas.List.{get_or_default}
use Rattle.dst_frames.specs.Eight.{states_at, tables_at}
use Rattle.dst_frames.specs.Running.{FinishesSound}
use Rattle.dst_frames.specs.declared.state.ChannelState.{ChannelState}
use Rattle.dst_frames.specs.declared.stored.DecodedFrame.{DecodedFrame}
use Rattle.dst_frames.proofs.octets.finish_all.Goals as goal

pub finish_heard-requires-clause-inside : goal.finish_heard-requires-clause-inside
finish_heard-requires-clause-inside c =
    let i = c.loop-n.n in
    let d = c.index-heard-n.result in
    let h = c.requires.inside i d (omega (arith, c.requires.same)) in
    let same : length c.loop-n.rows ≡ length c.args.rows.now = omega arith in
    rw (c.loop-n.invariant.heard_left i d (omega arith), same) h

pub loop-n-preserved : goal.loop-n-preserved
loop-n-preserved c =
    let i = c.loop-n.n in
    let inv = c.loop-n.invariant in
    let rows = c.loop-n.rows in
    let heard = c.loop-n.heard in
    let old = c.args.rows.now in
    let sounds = c.args.heard.now in
    let new = c.finish_heard.new.rows in
    let frame_new = c.finish_heard.new.heard in
    let lt : i < length heard = omega (arith, c.requires.same) in
    let channels : length rows ≡ length old = omega arith in
    let h_here : (frame : DecodedFrame) → get_or heard i c.index-heard-n.result ≡ get_or sounds i frame = λ frame.
    inv.heard_left i c.index-heard-n.result (omega arith) ∙ get_or_default sounds i c.index-heard-n.result frame (omega (arith, c.requires.same)) in
    let F : ℕ → List ChannelState → List ChannelState → DecodedFrame → DecodedFrame → Type 0 = λ m before after x y.
    FinishesSound c.args.byte (length old) (tables_at c.args.tables.now c.args.numbers.now m) before after x.sound.items y.sound.items in
    let P : ℕ → Type 0 = λ m. (frame : DecodedFrame) → F m (states_at old m) (states_at new m) (get_or sounds m frame)
    (get_or (set heard i frame_new) m frame) in
    let below : (m : ℕ) → m < i → P m = λ m h frame.
    let ne : m ≢ i = omega arith in
    subst₂ (λ a (b : DecodedFrame). F m (states_at old m) a (get_or sounds m frame) b) (sym (c.finish_heard.ensures.others m ne))
    (sym (get_or-set_other heard i m frame_new frame ne)) (inv.done m frame h) in
    let e : F i (states_at rows i) (states_at new i) (get_or heard i c.index-heard-n.result) frame_new =
    subst (λ k. FinishesSound c.args.byte k (tables_at c.args.tables.now c.args.numbers.now i) (states_at rows i) (states_at new i)
    (get_or heard i c.index-heard-n.result).sound.items frame_new.sound.items) channels c.finish_heard.ensures.finishes in
    let here : P i = λ frame.
    subst (λ (b : DecodedFrame). F i (states_at old i) (states_at new i) (get_or sounds i frame) b) (sym (get_or-set_same heard i frame_new frame lt))
    (subst₂ (λ a (b : DecodedFrame). F i a (states_at new i) b frame_new) (inv.rows_left i (omega arith)) (h_here frame) e) in
    record {
      done = λ m frame h. below_more P i below here m h frame;
      rows_left = λ m h.
          let ne : m ≢ i = omega arith in
          c.finish_heard.ensures.others m ne ∙ inv.rows_left m (omega arith);
      heard_left = λ m frame h.
          let ne : m ≢ i = omega arith in
          get_or-set_other heard i m frame_new frame ne ∙ inv.heard_left m frame (omega arith);
      chances = λ k row. c.finish_heard.ensures.chances k row ∙ inv.chances k row;
    }

pub returns-clause-finishes : goal.returns-clause-finishes
returns-clause-finishes c = λ n frame h. c.loop-n.invariant.done n frame (omega arith)
