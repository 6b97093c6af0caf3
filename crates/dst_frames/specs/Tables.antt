-- What the samples of a channel are decoded by: its filter, and an entry for each sum that the filter can give.
use Rattle.std.specs.Prelude.{◌≡◌, ℕ, ◌+◌, ◌-◌, ◌/◌, ◌%◌, ◌<◌, ◌≤◌, min, ℤ, nat_abs, Bool, false, not, nat_lt, if◌then◌else◌, List, length, get_or}
use Rattle.std.specs.Int.{is_negative}
use Rattle.dst_spec.specs.Sample.{Shape}
use Rattle.dst_spec.specs.Header.{Params}
use Rattle.dst_spec.specs.Guess.{filter_of, probs_of}
use Rattle.byte_predictor.specs.Samples.{signed_sum}
use Rattle.byte_predictor.specs.Upward.{upward_sum}
use Rattle.dst_frames.specs.Entries.{entry_for}
use Rattle.dst_frames.specs.declared.tables.ChannelTables.{ChannelTables}

-- the probability that a sample is as predicted, by the size of the prediction
abbrev pub prob_at : List ℕ → ℤ → ℕ
prob_at probs prediction = get_or probs (min (nat_abs prediction / 8) (length probs - 1)) 0

-- An entry has the probability less 1 in its low seven bits, and above them a 1 where the prediction is 0 or greater.
pub record IsEntry (prediction : ℤ) (probs : List ℕ) (entry : ℕ) : Type 0 where
  pub prob : entry % 128 + 1 ≡ prob_at probs prediction
  pub guess : nat_lt entry 128 ≡ is_negative prediction

-- The tables are those of a filter and a probability table; the first samples that have no other probability than 128 are as
-- many as the filter is long where the half bit is 1, else none.
pub record IsBuilt (filter : List ℤ) (probs : List ℕ) (half_prob : Bool) (tables : ChannelTables) : Type 0 where
  pub filter_is : tables.filter ≡ filter
  pub short : length filter ≤ 128
  pub entries : (samples : List ℕ) → 128 ≤ length samples → IsEntry (signed_sum filter samples) probs (entry_for tables.entries (upward_sum filter samples))
  pub early : tables.early ≡ (if half_prob then length filter else 0)

-- each channel has its tables
abbrev pub AreBuilt : Shape → Params → List ChannelTables → Type 0
AreBuilt f P all =
    (c : ℕ) (other : ChannelTables) → c < f.channels → IsBuilt (filter_of P c) (probs_of P c) (get_or P.half_prob c false) (get_or all c other)

-- the symbol of a sample that follows others, with its probability
abbrev pub symbol_after : List ℤ → List ℕ → Bool → List ℕ → Bool → Bool × ℕ
symbol_after filter probs early samples sample =
    ((if is_negative (signed_sum filter samples) then not sample else sample), (if early then 128 else prob_at probs (signed_sum filter samples)))
