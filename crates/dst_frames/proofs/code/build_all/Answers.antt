-- One channel more has its tables and a state fresh by them, and those of the channels before stay.
use Rattle.std.proofs.Common.{◌≢◌, ℕ, ◌<◌, false, length, get_or, set, replicate, sym, subst, arith, below_more, get_or-set_same, get_or-set_other}
use Rattle.dst_spec.specs.Guess.{filter_of, probs_of}
use Rattle.byte_predictor.specs.Samples.{samples_of}
use Rattle.dst_frames.specs.Ready.{IsReady}
use Rattle.dst_frames.specs.declared.state.ChannelState.{ChannelState}
use Rattle.dst_frames.specs.Tables.{IsBuilt}
use Rattle.dst_frames.specs.declared.tables.ChannelTables.{ChannelTables}
use Rattle.dst_frames.proofs.code.build_all.Goals as goal

pub loop-c-preserved : goal.loop-c-preserved
loop-c-preserved c =
    let i = c.loop-c.c in
    let P = c.args.params.now in
    let tables = c.loop-c.tables in
    let states = c.loop-c.states in
    let new_table = c.build.new.self in
    let new_state = c.fresh.result in
    let lt_tables : i < length tables = omega arith in
    let lt_states : i < length states = omega arith in
    let begin = samples_of (replicate 16 170) in
    let B : ℕ → Type 0 = λ j. (other : ChannelTables) → IsBuilt (filter_of P j) (probs_of P j) (get_or P.half_prob j false)
    (get_or (set tables i new_table) j other) in
    let F : ℕ → Type 0 = λ j. (other : ChannelState) → IsReady (filter_of P j) (probs_of P j) 0 begin (get_or (set states i new_state) j other) in
    let b_below : (j : ℕ) → j < i → B j = λ j h other.
    let ne : j ≢ i = omega arith in
    subst (IsBuilt (filter_of P j) (probs_of P j) (get_or P.half_prob j false)) (sym (get_or-set_other tables i j new_table other ne))
    (c.loop-c.invariant.built j other h) in
    let b_here : B i = λ other.
    subst (IsBuilt (filter_of P i) (probs_of P i) (get_or P.half_prob i false)) (sym (get_or-set_same tables i new_table other lt_tables)) c.build.ensures in
    let f_below : (j : ℕ) → j < i → F j = λ j h other.
    let ne : j ≢ i = omega arith in
    subst (IsReady (filter_of P j) (probs_of P j) 0 begin) (sym (get_or-set_other states i j new_state other ne)) (c.loop-c.invariant.fresh j other h) in
    let f_here : F i = λ other.
    let new = c.fresh.ensures (filter_of P i) (probs_of P i) (get_or P.half_prob i false) c.build.ensures in
    subst (IsReady (filter_of P i) (probs_of P i) 0 begin) (sym (get_or-set_same states i new_state other lt_states)) new in
    record {
      built = λ j other h. below_more B i b_below b_here j h other;
      fresh = λ j other h. below_more F i f_below f_here j h other;
    }
