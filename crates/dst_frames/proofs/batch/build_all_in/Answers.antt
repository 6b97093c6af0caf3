-- One channel more has its table, built or shared, and its first chance; the frames before stay as they are.
use Rattle.std.proofs.Common.{◌≡◌, ◌≢◌, ℕ, ◌+◌, ◌<◌, Bool, true, false, nat_eq, length, get_or, set, replicate, get_or-set_same, get_or-set_other}
use Rattle.std.proofs.Common.{List, below_more, refl, ap₂, sym, subst, ◌∙◌, arith}
use Rattle.std.proofs.lemmas.Bool.{eqb-true, eqb-false}
use Rattle.dst_spec.specs.Guess.{filter_of, probs_of}
use Rattle.byte_predictor.specs.Samples.{samples_of}
use Rattle.dst_frames.specs.Ready.{IsReady}
use Rattle.dst_frames.specs.Eight.{state_in, states_at, table_at}
use Rattle.dst_frames.specs.Batch.{IsChanceOf}
use Rattle.dst_frames.specs.Running.{IsPool}
use Rattle.dst_frames.specs.declared.state.ChannelState.{ChannelState}
use Rattle.dst_frames.specs.declared.eight.EightStates.{EightStates}
use Rattle.dst_frames.specs.declared.eight.TableNumbers.{TableNumbers}
use Rattle.dst_frames.proofs.OneOfEight.{no_row, no_numbers, length-states, states-set, states_same, get_or-tables}
use Rattle.dst_frames.proofs.Beginning.{chances_begun}
use Rattle.dst_frames.proofs.Sharing.{IsFor, taken_on}
use Rattle.dst_frames.proofs.batch.build_all_in.Goals as goal

pub share_or_build-requires-clause-eight : goal.share_or_build-requires-clause-eight
share_or_build-requires-clause-eight c = subst (IsPool c.loop-c.eight) (sym c.loop-c.invariant.eight.are.count) c.loop-c.invariant.eight

pub table_of-own-requires-clause-from : goal.table_of-own-requires-clause-from
table_of-own-requires-clause-from c =
    let new = c.share_or_build.new.eight in
    let inside = c.share_or_build.ensures.eight.are.inside c.args.n c.loop-c.c no_numbers c.requires.lane
    (omega (arith, c.loop-c.invariant.eight.are.count)) in
    rw (c.as_slice.ensures.value, c.as_slice-numbers.ensures.value) inside

pub table_of-own-requires-clause-narrow : goal.table_of-own-requires-clause-narrow
table_of-own-requires-clause-narrow c = rw c.as_slice.ensures.value c.share_or_build.ensures.eight.are.narrow

pub loop-c-preserved : goal.loop-c-preserved
loop-c-preserved c =
    let i = c.loop-c.c in
    let n = c.args.n in
    let P = c.args.params.now in
    let inv = c.loop-c.invariant in
    let rows = c.loop-c.rows in
    let row = c.begin.new.self in
    let was = no_row in
    let shared = c.share_or_build.ensures in
    let e = c.begin.ensures in
    let new = c.share_or_build.new.eight in
    let own_is : c.table_of-own.result.now ≡ table_at new.tables.items (get_or new.numbers.items i no_numbers).of n = c.table_of-own.ensures.is
    ∙ ap₂ (λ tables (numbers : List TableNumbers). table_at tables (get_or numbers i no_numbers).of n) c.as_slice.ensures.value
    c.as_slice-numbers.ensures.value in
    let built = subst (IsFor P i) (sym own_is) (shared.built i no_numbers (omega arith)) in
    let fresh = e.fresh (filter_of P i) (probs_of P i) (get_or P.half_prob i false) built in
    let lt : i < length rows = omega arith in
    let lt_states : i < length (states_at rows n) = omega (arith, length-states rows n) in
    let F : ℕ → Type 0 = λ d. (other : ChannelState) →
    IsReady (filter_of P d) (probs_of P d) 0 (samples_of (replicate 16 170)) (get_or (set (states_at rows n) i (state_in row n)) d other) in
    let W : ℕ → Type 0 = λ d. (other : EightStates) →
    IsChanceOf (state_in (get_or (set rows i row) d other) n).next (get_or (get_or (set rows i row) d other).chances n 0) in
    let f_below : (d : ℕ) → d < i → F d = λ d h other.
    let ne : d ≢ i = omega arith in
    rw (get_or-set_other (states_at rows n) i d (state_in row n) other ne) (inv.fresh d other h) in
    let f_here : F i = λ other. rw (get_or-set_same (states_at rows n) i (state_in row n) other lt_states) fresh in
    let w_below : (d : ℕ) → d < i → W d = λ d h other.
    let ne : d ≢ i = omega arith in
    rw (get_or-set_other rows i d row other ne) (inv.chance d other h) in
    let w_here : W i = λ other. rw (get_or-set_same rows i row other lt) e.chance in
    record {
      built = λ d other h. shared.built d other h;
      fresh = λ d other h. rw (states-set rows n i row) (below_more F i f_below f_here d h other);
      chance = λ d other h. below_more W i w_below w_here d h other;
      chances = chances_begun n i was rows row lt inv.chances e.chance e.others e.chances;
      tables = λ m ne. shared.tables m ne ∙ inv.tables m ne;
      states = λ m ne. states_same rows m i was row lt (e.others m ne) ∙ inv.states m ne;
      eight = subst (IsPool new) inv.eight.are.count shared.eight;
      taken = shared.taken;
    }

pub returns-clause-built : goal.returns-clause-built
returns-clause-built c = λ f count d other h.
    let tables = c.loop-c.eight.tables.items in
    let numbers = c.loop-c.eight.numbers.items in
    let inside : d < length numbers = omega (arith, c.loop-c.invariant.eight.are.count) in
    rw (get_or-tables tables numbers c.args.n d other no_numbers inside) (c.loop-c.invariant.built d no_numbers (omega arith))

pub returns-clause-fresh : goal.returns-clause-fresh
returns-clause-fresh c = λ d other h. c.loop-c.invariant.fresh d other (omega arith)

pub returns-clause-chances : goal.returns-clause-chances
returns-clause-chances c =
    let inv = c.loop-c.invariant in
    record {
      some = inv.chances.some;
      next = λ m d row h k. next_at m d row h k (nat_eq m c.args.n) refl;
    }
  where
    next_at : (m d : ℕ) (row : EightStates) → m < c.args.n + 1 → d < length c.loop-c.rows → (b : Bool) → nat_eq m c.args.n ≡ b →
        IsChanceOf (state_in (get_or c.loop-c.rows d row) m).next (get_or (get_or c.loop-c.rows d row).chances m 0)
    next_at m d row h k true e =
        let is = eqb-true m c.args.n e in
        rw is (c.loop-c.invariant.chance d row (omega arith))
    next_at m d row h k false e =
        let ne = eqb-false m c.args.n e in
        c.loop-c.invariant.chances.next m d row (omega (arith, ne)) k

pub returns-clause-taken : goal.returns-clause-taken
returns-clause-taken c =
    taken_on c.loop-c.eight c.args.n c.loop-c.c (omega (arith, c.loop-c.invariant.eight.are.count)) c.loop-c.invariant.taken
