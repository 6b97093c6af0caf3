-- A chance gets the probability 128 where the sample is early, and keeps how its symbol is given.
use Rattle.std.proofs.Common.{◌≡◌, ◌≢◌, ℕ, ◌/◌, ◌%◌, ◌<◌, nat_lt, if◌then◌else◌, length, get_or, set, get_or-set_same, get_or-set_other}
use Rattle.std.proofs.Common.{length-set, below_more, ◌∙◌, arith}
use Rattle.arith_lanes.specs.Chances.{IsChance}
use Rattle.dst_frames.specs.Eight.{table_at}
use Rattle.dst_frames.proofs.eight.early_chances.Goals as goal

pub loop-n-preserved : goal.loop-n-preserved
loop-n-preserved c =
    let i = c.loop-n.n in
    let inv = c.loop-n.invariant in
    let table = table_at c.args.tables.now c.args.from.now in
    let chances = c.args.chances.now in
    let x = c.early_chance.result in
    let lt_early : i < length c.loop-n.early = omega (arith, inv.many, c.requires.few) in
    let E : ℕ → Type 0 = λ m. (p : ℕ) → IsChance p (get_or chances m 0) →
    IsChance (if nat_lt c.args.t (table m).early then 128 else p) (get_or (set c.loop-n.early i x) m 0) in
    let M : ℕ → Type 0 = λ m. get_or (set c.loop-n.early i x) m 0 / 128 % 2 ≡ get_or chances m 0 / 128 % 2 in
    let e_below : (m : ℕ) → m < i → E m = λ m h p w.
    let ne : m ≢ i = omega arith in
    rw (get_or-set_other c.loop-n.early i m x 0 ne) (inv.early m p h w) in
    let e_here : E i = λ p w. rw (get_or-set_same c.loop-n.early i x 0 lt_early, ← c.table_of.ensures.is) (c.early_chance.ensures.prob p w) in
    let m_below : (m : ℕ) → m < i → M m = λ m h.
    let ne : m ≢ i = omega arith in
    rw (get_or-set_other c.loop-n.early i m x 0 ne) (inv.mark m h) in
    let m_here : M i = rw (get_or-set_same c.loop-n.early i x 0 lt_early) c.early_chance.ensures.mark in
    record {
      many = simp length-set inv.many;
      early = λ m p h. below_more E i e_below e_here m h p;
      mark = λ m h. below_more M i m_below m_here m h;
      left = λ m h.
          let ne : m ≢ i = omega arith in
          get_or-set_other c.loop-n.early i m x 0 ne ∙ inv.left m (omega arith);
    }
