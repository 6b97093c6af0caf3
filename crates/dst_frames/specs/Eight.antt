-- One channel of eight frames between two samples, and all channels of one of the frames.
use Rattle.std.specs.Prelude.{ℕ, ◌%◌, List, [], map, get_or}
use Rattle.byte_predictor.specs.Eight.{ahead_at}
use Rattle.dst_frames.specs.declared.tables.ChannelTables.{ChannelTables}
use Rattle.dst_frames.specs.declared.state.ChannelState.{ChannelState}
use Rattle.dst_frames.specs.declared.eight.TableNumbers.{TableNumbers}
use Rattle.dst_frames.specs.declared.eight.EightTables.{EightTables}
use Rattle.dst_frames.specs.declared.eight.EightStates.{EightStates}

-- the entry that has the probability and the guess of a chance
abbrev pub entry_in : ℕ → ℕ
entry_in chance = chance % 256

-- the channel in one of the frames
abbrev pub state_in : EightStates → ℕ → ChannelState
state_in row n = record { ahead = ahead_at row.ahead n; next = entry_in (get_or row.chances n 0) }

-- all channels of frame n, and their tables
unfoldable pub states_at : List EightStates → ℕ → List ChannelState
states_at rows n = map (λ row. state_in row n) rows

abbrev pub no_tables : ChannelTables
no_tables = record { filter = []; entries = []; early = 0 }

-- the table of the number that a channel has for frame n
unfoldable pub table_at : List ChannelTables → List ℕ → ℕ → ChannelTables
table_at tables from n = get_or tables (get_or from n 0) no_tables

-- those by which each channel of frame n is decoded
unfoldable pub tables_at : List ChannelTables → List TableNumbers → ℕ → List ChannelTables
tables_at tables numbers n = map (λ (own : TableNumbers). table_at tables own.of n) numbers

abbrev pub tables_in : EightTables → ℕ → List ChannelTables
tables_in eight n = tables_at eight.tables.items eight.numbers.items n
