-- The samples of one place in time of a frame that is decoded in a lane.
use Rattle.std.proofs.Common.{◌≡◌, ℕ, ◌+◌, ◌*◌, ◌<◌, ◌≤◌, ◌&&◌, nat_lt, Bool, false, List, length, get_or, set, sym, subst, arith}
use Rattle.dst_spec.specs.Sample.{Shape}
use Rattle.dst_spec.specs.Header.{Params}
use Rattle.dst_spec.specs.Guess.{filter_of, probs_of}
use Rattle.arith_decoder.specs.Decoding.{Decoding, StandsFor}
use Rattle.dst_frames.specs.Tables.{IsBuilt}
use Rattle.dst_frames.specs.Ready.{IsReady}
use Rattle.dst_frames.specs.Batch.{LaneSteps}
use Rattle.dst_frames.specs.declared.tables.ChannelTables.{ChannelTables}
use Rattle.dst_frames.specs.declared.state.ChannelState.{ChannelState}
use Rattle.dst_frames.proofs.Early.{early_is}
use Rattle.dst_frames.proofs.History.{Predicts}
use Rattle.dst_frames.proofs.Rows.{IsRow, row_goes_on}

pub row_on : Predicts → (f : Shape) (P : Params) (reserved : Bool) (byte place i : ℕ) (start : Bool) (samples : ℕ → List ℕ) (old mid new : Decoding)
    (table : ChannelTables) (states : List ChannelState) (was after : ChannelState) (chance : ℕ) →
    IsBuilt (filter_of P i) (probs_of P i) (get_or P.half_prob i false) table →
    LaneSteps place (start && nat_lt (8 * byte + place) table.early) table was after mid new chance → mid ≡ old →
    ((other : ChannelState) → get_or states i other ≡ was) →
    IsRow f P reserved (8 * byte + place) place samples i old states → i < f.channels → i < length states →
    (start ≡ false → 16 ≤ byte) → IsRow f P reserved (8 * byte + place) place samples (i + 1) new (set states i after)
row_on law f P reserved byte place i start samples old mid new table states was after chance built step alike here row lt inside at_start =
    let half_prob = get_or P.half_prob i false in
    let early = early_is half_prob start byte place table.early (length (filter_of P i)) built.early built.short at_start in
    let ready = subst (λ s. IsReady (filter_of P i) (probs_of P i) place (samples i) s) (here was) (row.before i was (omega arith) lt) in
    row_goes_on law f P reserved (8 * byte + place) place samples i old new states after
    (start && nat_lt (8 * byte + place) table.early) step.sample row lt inside early built.short
    (step.next.ready (filter_of P i) (probs_of P i) (samples i) half_prob built ready)
    (λ pairs stands. step.next.symbol (filter_of P i) (probs_of P i) (samples i) pairs ready (subst (λ d. StandsFor d pairs) (sym alike) stands))
