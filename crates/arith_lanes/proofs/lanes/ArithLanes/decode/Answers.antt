-- One lane more makes its step; in the end each has taken the symbol that it gives.
use Rattle.std.proofs.Common.{◌≢◌, ℕ, ◌<◌, length, get_or, set, get_or-set_same, get_or-set_other, length-set, below_more, sym, ◌∙◌, subst, subst₂, arith}
use Rattle.arith_lanes.specs.Lanes.{StepsBy, registers_at, range_at}
use Rattle.arith_lanes.proofs.Eight.{with_registers, eight_with, registers_same, registers_other}
use Rattle.arith_lanes.proofs.Taking.{takes}
use Rattle.arith_lanes.proofs.lanes.ArithLanes.decode.Goals as goal

pub loop-n-preserved : goal.loop-n-preserved
loop-n-preserved c =
    let i = c.loop-n.n in
    let s = c.loop-n.self in
    let old = c.args.self.now in
    let chances = c.args.chances.now in
    let inv = c.loop-n.invariant in
    let r = c.lane-symbol.result.0 in
    let symbol = c.lane-symbol.result.1 in
    let new = with_registers s i r in
    let symbols = set c.loop-n.symbols i symbol in
    let few : i < 8 = omega arith in
    let room : i < length c.loop-n.symbols = omega (arith, inv.many) in
    let P : ℕ → Type 0 = λ m. StepsBy (registers_at old m) (get_or chances m 0) (registers_at new m) (get_or symbols m 0) in
    let below : (m : ℕ) → m < i → P m = λ m h.
    let ne : m ≢ i = omega arith in
    subst₂ (λ a b. StepsBy (registers_at old m) (get_or chances m 0) a b) (sym (registers_other s i m r ne))
    (sym (get_or-set_other c.loop-n.symbols i m symbol 0 ne)) (inv.stepped m h) in
    let now : StepsBy (registers_at old i) (get_or chances i 0) r symbol =
    subst (λ a. StepsBy a (get_or chances i 0) r symbol) (inv.left i (omega arith)) c.lane-symbol.ensures in
    let here : P i =
    subst₂ (λ a b. StepsBy (registers_at old i) (get_or chances i 0) a b) (sym (registers_same s i r inv.eight few))
    (sym (get_or-set_same c.loop-n.symbols i symbol 0 room)) now in
    record {
      eight = eight_with s i r inv.eight;
      many = simp length-set inv.many;
      stepped = λ m h. below_more P i below here m h;
      left = λ m h.
          let ne : m ≢ i = omega arith in
          registers_other s i m r ne ∙ inv.left m (omega arith);
      first = inv.first;
      place = inv.place;
    }

pub returns : goal.returns
unfolding range_at
returns c = λ n p bytes lt lane chance enough few.
    let inv = c.loop-n.invariant in
    let r = lane.registers in
    let s = inv.stepped n (omega arith) p chance r.in_range r.below in
    (s.0, s.1, takes c.args.self.now c.loop-n.self n bytes p s.0 inv.first inv.place lane enough few s.2)
