-- One frame more takes its sample, and no other one's samples change.
use Rattle.std.proofs.Common.{◌≡◌, ◌≢◌, ℕ, ◌+◌, ◌*◌, ◌%◌, ◌<◌, length, get_or, set, get_or-set_same, get_or-set_other, length-set, below_more, ◌∙◌, arith}
use Rattle.byte_predictor.proofs.eight.push_each.Goals as goal

pub loop-n-preserved : goal.loop-n-preserved
loop-n-preserved c =
    let i = c.loop-n.n in
    let inv = c.loop-n.invariant in
    let newest = c.loop-n.newest in
    let old = c.args.newest.now in
    let given = c.args.given.now in
    let x = c.pushed-more.result in
    let lt : i < length newest = omega (arith, inv.many) in
    let D : ℕ → Type 0 = λ m. get_or (set newest i x) m 0 ≡ get_or old m 0 % 32768 * 2 + get_or given m 0 % 2 in
    let below : (m : ℕ) → m < i → D m = λ m h.
    let ne : m ≢ i = omega arith in
    rw (get_or-set_other newest i m x 0 ne) (inv.done m h) in
    let here : D i = rw (get_or-set_same newest i x 0 lt, ← inv.left i (omega arith)) c.pushed-more.ensures in
    record {
      many = simp length-set inv.many;
      done = λ m h. below_more D i below here m h;
      left = λ m h.
          let ne : m ≢ i = omega arith in
          get_or-set_other newest i m x 0 ne ∙ inv.left m (omega arith);
    }
