-- All take a sample, the frame whose number is the place by its own filter; then each looks up its next chance.
use Rattle.std.proofs.Common.{◌≡◌, ◌≢◌, ℕ, ◌+◌, ◌%◌, ◌<◌, ◌∷◌, nat_eq, length, get_or, set, get_or-set_same, get_or-set_other, length-set, below_more}
use Rattle.std.proofs.Common.{ap, sym, subst, ◌∙◌, arith}
use Rattle.dst_spec.specs.Header.{bit_of}
use Rattle.byte_predictor.specs.Eight.{ahead_at}
use Rattle.byte_predictor.specs.declared.eight.EightAhead.{EightAhead}
use Rattle.byte_predictor.specs.SumsAhead.{IsAhead}
use Rattle.dst_frames.specs.Batch.{IsChanceOf}
use Rattle.dst_frames.specs.Eight.{entry_in, table_at}
use Rattle.dst_frames.specs.declared.tables.ChannelTables.{ChannelTables}
use Rattle.dst_frames.proofs.OneOfEight.{TellsNext, own_or_other}
use Rattle.dst_frames.proofs.eight.EightStates.take.Goals as goal

pub loop-n-preserved : goal.loop-n-preserved
loop-n-preserved c =
    let i = c.loop-n.n in
    let inv = c.loop-n.invariant in
    let chances = c.loop-n.self.chances in
    let x = c.chance_at-next.result in
    let table = table_at c.args.tables.now c.args.from.now in
    let pushed = c.push.new.self in
    let place = c.args.place + 1 in
    let lt : i < length chances = omega (arith, inv.many, c.requires.few) in
    let T : ℕ → Type 0 = λ m. TellsNext place (table m) (ahead_at pushed m) (get_or (set chances i x) m 0) in
    let W : ℕ → Type 0 = λ m. IsChanceOf (entry_in (get_or (set chances i x) m 0)) (get_or (set chances i x) m 0) in
    let t_below : (m : ℕ) → m < i → T m = λ m h.
    let ne : m ≢ i = omega arith in
    subst (TellsNext place (table m) (ahead_at pushed m)) (sym (get_or-set_other chances i m x 0 ne)) (inv.tells m h) in
    let t_here : T i =
    let e : TellsNext place c.table_of-table.result.now (ahead_at c.loop-n.self.ahead i) x = c.chance_at-next.ensures.entry in
    let f : TellsNext place (table i) (ahead_at c.loop-n.self.ahead i) x =
    subst (λ (t : ChannelTables). TellsNext place t (ahead_at c.loop-n.self.ahead i) x) c.table_of-table.ensures.is e in
    let g : TellsNext place (table i) (ahead_at pushed i) x = subst (λ (a : EightAhead). TellsNext place (table i) (ahead_at a i) x) inv.ahead f in
    subst (TellsNext place (table i) (ahead_at pushed i)) (sym (get_or-set_same chances i x 0 lt)) g in
    let w_below : (m : ℕ) → m < i → W m = λ m h.
    let ne : m ≢ i = omega arith in
    subst (λ w. IsChanceOf (entry_in w) w) (sym (get_or-set_other chances i m x 0 ne)) (inv.chance m h) in
    let w_here : W i = subst (λ w. IsChanceOf (entry_in w) w) (sym (get_or-set_same chances i x 0 lt)) c.chance_at-next.ensures.chance in
    record {
      many = simp length-set inv.many;
      ahead = inv.ahead;
      tells = λ m h. below_more T i t_below t_here m h;
      chance = λ m h. below_more W i w_below w_here m h;
      left = λ m h.
          let ne : m ≢ i = omega arith in
          get_or-set_other chances i m x 0 ne ∙ inv.left m (omega arith);
    }

pub returns-clause-taken : goal.returns-clause-taken
returns-clause-taken c = λ n h.
    let inv = c.loop-n.invariant in
    let lt : n < c.loop-n.n = omega arith in
    let eight : n < 8 = omega (arith, c.requires.few) in
    let place = c.args.place in
    let bit = bit_of (nat_eq (get_or c.args.given.now n 0 % 2) 1) in
    record {
      takes = λ filter probs samples half_prob built ready.
          let pushed : IsAhead filter (place + 1) (bit ∷ samples) (ahead_at c.push.new.self n) =
          own_or_other n place (IsAhead filter (place + 1) (bit ∷ samples) (ahead_at c.push.new.self n))
          (λ e.
          let here : c.table_of-own.result.now.filter ≡ filter = ap (λ (t : ChannelTables). t.filter)
          (c.table_of-own.ensures.is ∙ ap (λ m. table_at c.args.tables.now c.args.from.now m) (sym e)) ∙ built.filter_is in
          let before : IsAhead filter place samples (ahead_at c.args.self.now.ahead place) =
          subst (λ m. IsAhead filter place samples (ahead_at c.args.self.now.ahead m)) e ready.ahead in
          let after = c.push.ensures.own samples (subst (λ coefs. IsAhead coefs place samples (ahead_at c.args.self.now.ahead place)) (sym here) before) in
          subst (λ m. IsAhead filter (place + 1) (bit_of (nat_eq (get_or c.args.given.now m 0 % 2) 1) ∷ samples) (ahead_at c.push.new.self m)) (sym e)
          (subst (λ coefs. IsAhead coefs (place + 1) (bit_of (nat_eq (get_or c.args.given.now place 0 % 2) 1) ∷ samples) (ahead_at c.push.new.self place))
          here after))
          (λ ne. c.push.ensures.others n filter samples eight ne ready.ahead) in
          record {
            ahead = subst (λ (a : EightAhead). IsAhead filter (place + 1) (bit ∷ samples) (ahead_at a n)) (sym inv.ahead) pushed;
            next = inv.tells n lt filter probs (bit ∷ samples) half_prob built pushed;
          };
      next_chance = inv.chance n lt;
    }

pub returns-clause-others : goal.returns-clause-others
returns-clause-others c = λ n h. c.loop-n.invariant.left n (omega arith)
