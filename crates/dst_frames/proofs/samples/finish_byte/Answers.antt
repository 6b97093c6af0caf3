-- One channel more gives out its newest samples, added to its sums ahead, and its next entry stays.
use Rattle.std.proofs.lemmas.Bool.{eqb-true, eqb-false}
use Rattle.std.proofs.Common.{◌≡◌, ◌≢◌, ℕ, ◌/◌, ◌%◌, ◌^◌, ◌<◌, Bool, true, false, nat_eq, ℤ, List, length, get_or, set, refl, ap, sym, subst}
use Rattle.std.proofs.Common.{subst₂, ◌∙◌, arith, below_more}
use Rattle.std.proofs.Common.{get_or-set_same, get_or-set_other}
use Rattle.dst_frames.specs.Ready.{IsReady}
use Rattle.dst_frames.specs.declared.state.ChannelState.{ChannelState}
use Rattle.dst_frames.specs.declared.tables.ChannelTables.{ChannelTables}
use Rattle.std.proofs.lemmas.List.{get_or_default}
use Rattle.dst_frames.proofs.samples.finish_byte.Goals as goal

-- what a state with the same next entry keeps
next_still : (states : List ChannelState) (i j : ℕ) (was new other : ChannelState) → i < length states → new.next ≡ (get_or states i was).next →
    (get_or (set states i new) j other).next ≡ (get_or states j other).next
next_still states i j was new other lt same = go (nat_eq j i) refl
  where
    go : (e : Bool) → nat_eq j i ≡ e → (get_or (set states i new) j other).next ≡ (get_or states j other).next
    go true e =
        let is = eqb-true j i e in
        let at : get_or states i was ≡ get_or states i other = get_or_default states i was other lt in
        rw (is, get_or-set_same states i new other lt) (same ∙ ap (λ (x : ChannelState). x.next) at)
    go false e = rw (get_or-set_other states i j new other (eqb-false j i e)) refl

pub loop-c-preserved : goal.loop-c-preserved
loop-c-preserved c =
    let i = c.loop-c.c in
    let states = c.loop-c.states in
    let out = c.loop-c.out in
    let inv = c.loop-c.invariant in
    let was = c.index-states-c.result in
    let new : ChannelState = record { ahead = c.take_byte.new.self; next = (get_or states i was).next } in
    let lt : i < length c.args.states.now = omega arith in
    let lt_states : i < length states = omega arith in
    let lt_out : i < length out = omega arith in
    let lt_tables : i < length c.args.tables.now = omega arith in
    let here : (other : ChannelState) → get_or c.args.states.now i other ≡ get_or states i was = λ other. get_or_default c.args.states.now i other was lt
    ∙ sym (inv.left i was (omega arith)) in
    let N : ℕ → Type 0 = λ j. (other : ChannelState) (filter : List ℤ) (probs samples : List ℕ) (place : ℕ) →
    IsReady filter probs place samples (get_or c.args.states.now j other) → (k : ℕ) → k < 8 →
    get_or (set out i c.newest.result) j 0 / 2 ^ k % 2 ≡ get_or samples k 0 in
    let A : ℕ → Type 0 = λ j. (table : ChannelTables) (other : ChannelState) (probs samples : List ℕ) →
    IsReady (get_or c.args.tables.now j table).filter probs 8 samples (get_or c.args.states.now j other) →
    IsReady (get_or c.args.tables.now j table).filter probs 0 samples (get_or (set states i new) j other) in
    let n_below : (j : ℕ) → j < i → N j = λ j h other filter probs samples place a k l.
    let ne : j ≢ i = omega arith in
    ap (λ x. x / 2 ^ k % 2) (get_or-set_other out i j c.newest.result 0 ne) ∙ inv.newest j other filter probs samples place h a k l in
    let n_here : N i = λ other filter probs samples place a k l.
    ap (λ x. x / 2 ^ k % 2) (get_or-set_same out i c.newest.result 0 lt_out)
    ∙ c.newest.ensures.each filter place samples (subst (IsReady filter probs place samples) (here other) a).ahead k l in
    let a_below : (j : ℕ) → j < i → A j = λ j h table other probs samples a.
    let ne : j ≢ i = omega arith in
    subst (IsReady (get_or c.args.tables.now j table).filter probs 0 samples) (sym (get_or-set_other states i j new other ne))
    (inv.added j table other probs samples h a) in
    let a_here : A i = λ table other probs samples a.
    let at = get_or_default c.args.tables.now i table c.index-tables-c.result lt_tables in
    let old : IsReady (get_or c.args.tables.now i c.index-tables-c.result).filter probs 8 samples (get_or states i was) =
    subst₂ (λ t x. IsReady t.filter probs 8 samples x) at (here other) a in
    let later : IsReady (get_or c.args.tables.now i c.index-tables-c.result).filter probs 0 samples new =
    record { ahead = c.take_byte.ensures samples old.ahead; next = old.next } in
    subst₂ (λ t x. IsReady t.filter probs 0 samples x) (sym at) (sym (get_or-set_same states i new other lt_states)) later in
    record {
      newest = λ j other filter probs samples place h. below_more N i n_below n_here j h other filter probs samples place;
      added = λ j table other probs samples h. below_more A i a_below a_here j h table other probs samples;
      next = λ j other. next_still states i j was new other lt_states refl ∙ inv.next j other;
      left = λ j other h.
          let ne : j ≢ i = omega arith in
          get_or-set_other states i j new other ne ∙ inv.left j other (omega arith);
    }

pub returns-clause-newest : goal.returns-clause-newest
returns-clause-newest c = λ j other filter probs samples place h. c.loop-c.invariant.newest j other filter probs samples place (omega arith)

pub returns-clause-added : goal.returns-clause-added
returns-clause-added c = λ j table other probs samples h. c.loop-c.invariant.added j table other probs samples (omega arith)
