-- One channel more gives out its newest samples, added to its sums ahead; no other channel or frame changes.
use Rattle.std.proofs.Common.{◌≡◌, ◌≢◌, ℕ, ◌/◌, ◌%◌, ◌^◌, ◌<◌, Bool, true, false, nat_eq, ℤ, List, length, get_or, set, refl, ap, sym, subst, subst₂}
use Rattle.std.proofs.Common.{◌∙◌, arith, below_more, get_or-set_same, get_or-set_other, length-set}
use Rattle.std.proofs.lemmas.Bool.{eqb-true, eqb-false}
use Rattle.std.proofs.lemmas.List.{get_or_default}
use Rattle.dst_frames.specs.Ready.{IsReady}
use Rattle.dst_frames.specs.Eight.{state_in, states_at, tables_at}
use Rattle.dst_frames.specs.declared.state.ChannelState.{ChannelState}
use Rattle.dst_frames.specs.declared.tables.ChannelTables.{ChannelTables}
use Rattle.dst_frames.specs.declared.eight.EightStates.{EightStates}
use Rattle.dst_frames.proofs.OneOfEight.{no_row, no_numbers, get_or-states, states_same, get_or-tables}
use Rattle.dst_frames.proofs.octets.finish_rows.Goals as goal

-- what a row with the same chances keeps
chances_stay : (rows : List EightStates) (i j : ℕ) (new was other : EightStates) → i < length rows → new.chances ≡ (get_or rows i was).chances →
    (get_or (set rows i new) j other).chances ≡ (get_or rows j other).chances
chances_stay rows i j new was other lt same = go (nat_eq j i) refl
  where
    go : (e : Bool) → nat_eq j i ≡ e → (get_or (set rows i new) j other).chances ≡ (get_or rows j other).chances
    go true e =
        let is = eqb-true j i e in
        let at : get_or rows i was ≡ get_or rows i other = get_or_default rows i was other lt in
        rw (is, get_or-set_same rows i new other lt) (same ∙ ap (λ (x : EightStates). x.chances) at)
    go false e = rw (get_or-set_other rows i j new other (eqb-false j i e)) refl

pub table_of-own-requires-clause-from : goal.table_of-own-requires-clause-from
table_of-own-requires-clause-from c =
    c.requires.eight.inside c.args.n c.loop-c.c no_numbers c.requires.frame (omega arith)

pub loop-c-preserved : goal.loop-c-preserved
loop-c-preserved c =
    let i = c.loop-c.c in
    let n = c.args.n in
    let inv = c.loop-c.invariant in
    let rows = c.loop-c.rows in
    let out = c.loop-c.out in
    let old = c.args.rows.now in
    let tables = c.args.tables.now in
    let numbers = c.args.numbers.now in
    let row = c.finish-newest.new.self in
    let x = c.finish-newest.result in
    let d = no_row in
    let was = get_or rows i d in
    let lt : i < length rows = omega arith in
    let lt_old : i < length old = omega arith in
    let lt_out : i < length out = omega arith in
    let lt_eight : i < length numbers = omega (arith, c.requires.eight.count) in
    let one = no_numbers in
    let table = c.table_of-own.result.now in
    let table_is : (other : ChannelTables) → get_or (tables_at tables numbers n) i other ≡ table = λ other.
    get_or-tables tables numbers n i other one lt_eight ∙ sym c.table_of-own.ensures.is in
    let before : (other : ChannelState) → get_or (states_at old n) i other ≡ state_in was n = λ other.
    get_or-states old n i other d lt_old ∙ ap (λ (q : EightStates). state_in q n) (sym (inv.left i d (omega arith))) in
    let after : (other : ChannelState) → get_or (states_at (set rows i row) n) i other ≡ state_in row n = λ other.
    get_or-states (set rows i row) n i other d (omega (arith, length-set rows i row))
    ∙ ap (λ (q : EightStates). state_in q n) (get_or-set_same rows i row d lt) in
    let apart : (j : ℕ) (other : ChannelState) → j < i → get_or (states_at (set rows i row) n) j other ≡ get_or (states_at rows n) j other = λ j other h.
    let ne : j ≢ i = omega arith in
    get_or-states (set rows i row) n j other d (omega (arith, length-set rows i row))
    ∙ ap (λ (q : EightStates). state_in q n) (get_or-set_other rows i j row d ne)
    ∙ sym (get_or-states rows n j other d (omega arith)) in
    let N : ℕ → Type 0 = λ j. (other : ChannelState) (filter : List ℤ) (probs samples : List ℕ) (place : ℕ) →
    IsReady filter probs place samples (get_or (states_at old n) j other) → (k : ℕ) → k < 8 → get_or (set out i x) j 0 / 2 ^ k % 2 ≡ get_or samples k 0 in
    let A : ℕ → Type 0 = λ j. (other_table : ChannelTables) (other : ChannelState) (probs samples : List ℕ) →
    IsReady (get_or (tables_at tables numbers n) j other_table).filter probs 8 samples (get_or (states_at old n) j other) →
    IsReady (get_or (tables_at tables numbers n) j other_table).filter probs 0 samples (get_or (states_at (set rows i row) n) j other) in
    let n_below : (j : ℕ) → j < i → N j = λ j h other filter probs samples place a k l.
    let ne : j ≢ i = omega arith in
    ap (λ y. y / 2 ^ k % 2) (get_or-set_other out i j x 0 ne) ∙ inv.newest j other filter probs samples place h a k l in
    let n_here : N i = λ other filter probs samples place a k l.
    ap (λ y. y / 2 ^ k % 2) (get_or-set_same out i x 0 lt_out)
    ∙ c.finish-newest.ensures.newest filter probs samples place (subst (IsReady filter probs place samples) (before other) a) k l in
    let a_below : (j : ℕ) → j < i → A j = λ j h other_table other probs samples a.
    subst (IsReady (get_or (tables_at tables numbers n) j other_table).filter probs 0 samples) (sym (apart j other h))
    (inv.added j other_table other probs samples h a) in
    let a_here : A i = λ other_table other probs samples a.
    let start : IsReady table.filter probs 8 samples (state_in was n) =
    subst₂ (λ (t : ChannelTables) (s : ChannelState). IsReady t.filter probs 8 samples s) (table_is other_table) (before other) a in
    subst₂ (λ (t : ChannelTables) (s : ChannelState). IsReady t.filter probs 0 samples s) (sym (table_is other_table)) (sym (after other))
    (c.finish-newest.ensures.added probs samples start) in
    record {
      newest = λ j other filter probs samples place h. below_more N i n_below n_here j h other filter probs samples place;
      added = λ j other_table other probs samples h. below_more A i a_below a_here j h other_table other probs samples;
      left = λ j other h.
          let ne : j ≢ i = omega arith in
          get_or-set_other rows i j row other ne ∙ inv.left j other (omega arith);
      others = λ m ne. states_same rows m i d row lt (c.finish-newest.ensures.others m ne) ∙ inv.others m ne;
      chances = λ j other. chances_stay rows i j row d other lt c.finish-newest.ensures.chances ∙ inv.chances j other;
    }

pub returns-clause-newest : goal.returns-clause-newest
returns-clause-newest c = λ j other filter probs samples place h. c.loop-c.invariant.newest j other filter probs samples place (omega arith)

pub returns-clause-added : goal.returns-clause-added
returns-clause-added c = λ j table other probs samples h. c.loop-c.invariant.added j table other probs samples (omega arith)
