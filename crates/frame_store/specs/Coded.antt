-- Candidates by the codes of their predictions.
use Rattle.std.specs.Prelude.{◌≡◌, ℕ, ◌-◌, ◌%◌, ◌<◌, ◌≤◌, nat_lt, min, false, if◌then◌else◌, pos, List, length, map, get_or}
use Rattle.dst_spec.specs.Table.{prob_kind, IsTable}
use Rattle.dst_spec.specs.Sample.{Shape}
use Rattle.dst_spec.specs.Header.{Params}
use Rattle.dst_spec.specs.Guess.{filter_of, probs_of}
use Rattle.arith_encoder.specs.Lanes.{IsStep}
use Rattle.frame_predictions.specs.Codes.{codes}
use Rattle.frame_predictions.specs.Predicting.{Predicted, nothing}
use Rattle.frame_store.specs.declared.coded.ChannelSteps.{ChannelSteps}

-- what each code takes of a range with these probabilities: a code below 64 is of a symbol 1
abbrev pub AreCodeSteps : List ℕ → List ℕ → Type 0
AreCodeSteps probs steps =
    (code : ℕ) → code < 128 → IsStep (nat_lt code 64) (get_or probs (min (code % 64) (length probs - 1)) 0) (get_or steps code 0)

-- these are the steps of a channel by parameters, and the row of its codes
pub record IsCoded (P : Params) (rows : List Predicted) (c : ℕ) (coded : ChannelSteps) : Type 0 where
  pub inside : coded.row < length rows
  pub is : (other : Predicted) → get_or rows coded.row other ≡ record { channel = c; filter = filter_of P c }
  pub table : IsTable prob_kind (map pos (probs_of P c))
  pub early_is : coded.early ≡ (if get_or P.half_prob c false then length (filter_of P c) else 0)
  pub steps : AreCodeSteps (probs_of P c) coded.later

-- those of the first n channels
pub record AreCoded (P : Params) (rows : List Predicted) (coded : List ChannelSteps) (n : ℕ) : Type 0 where
  pub each : (c : ℕ) (other : ChannelSteps) → c < n → IsCoded P rows c (get_or coded c other)

-- rows stay where they are, and others may come behind them
pub record Stay (old new : List Predicted) : Type 0 where
  pub more : length old ≤ length new
  pub same : (k : ℕ) (other : Predicted) → k < length old → get_or new k other ≡ get_or old k other

-- the step of a sample of a channel: by the first table where it is early
abbrev pub step_at : Shape → List ℕ → List Predicted → List ℕ → ChannelSteps → ℕ → ℕ
step_at f sound rows first coded t =
    let row = get_or rows coded.row nothing in
    get_or (if nat_lt t coded.early then first else coded.later) (get_or (codes f sound row.channel row.filter) t 0) 0
