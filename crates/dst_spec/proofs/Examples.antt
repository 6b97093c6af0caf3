-- What the worked examples are about: shapes, parameters, and the definitions that they compute with, named once.
use Rattle.std.specs.Prelude.{ℕ, ℤ, pos, negsuc, true, false, List, [], ◌∷◌, ⊤}
use Rattle.dst_spec.specs.Bits.{low_bits, bits, number_from, octets}
use Rattle.dst_spec.specs.Sample.{Shape}
use Rattle.dst_spec.specs.Table.{plain_values, weighted, later_values, table_bits}
use Rattle.dst_spec.specs.Map.{map_numbers}
use Rattle.dst_spec.specs.Header.{Params}
use Rattle.dst_spec.specs.Guess.{sum_before}
use Rattle.dst_spec.specs.Symbols.{reserved_probability, symbols}
use Rattle.dst_spec.specs.Interval.{doubled, interval_from}
use Rattle.dst_spec.specs.Fields.{read}
use Rattle.dst_spec.specs.Offends.{times, segment_fields, map_number_fields, map_fields, both_segments, both_maps, later_fields, table_fields}
use Rattle.dst_spec.specs.Offends.{header_fields, plain_frame_fields, coded_frame_fields, frame_fields}
use Rattle.dst_spec.specs.Spell.{shortest, header_spelling, code_spelling, spell}
use Rattle.dst_spec.specs.declared.faults.FrameFault.{FrameFault}
use Rattle.dst_spec.specs.declared.faults.Reason.{Reason}

-- frames of one channel, of any length, and of several channels at 64 times 44.1 kHz
abbrev pub mono : ℕ → Shape
mono n = record { channels = 1; octets = n }

abbrev pub channels_of : ℕ → Shape
channels_of n = record { channels = n; octets = 4704 }

-- two channels of eight samples
abbrev pub pair : Shape
pair = record { channels = 2; octets = 1 }

-- one filter and one table of probabilities, no half bit
abbrev pub params_of : List ℤ → List ℕ → Params
params_of filter probs = record { filter_map = 0 ∷ []; prob_map = 0 ∷ []; half_prob = false ∷ []; filters = filter ∷ []; probs = probs ∷ [] }

-- two channels with one filter, a table of probabilities each, and a half bit of the second
abbrev pub shared_filter : Params
shared_filter = record {
  filter_map = 0 ∷ 0 ∷ [];
  prob_map = 0 ∷ 1 ∷ [];
  half_prob = false ∷ true ∷ [];
  filters = (pos 20 ∷ negsuc 7 ∷ []) ∷ [];
  probs = (5 ∷ 6 ∷ 7 ∷ []) ∷ (128 ∷ []) ∷ [];
}

-- two channels with a filter each, one table of probabilities, and a half bit of the first
abbrev pub shared_probs : Params
shared_probs = record {
  filter_map = 0 ∷ 1 ∷ [];
  prob_map = 0 ∷ 0 ∷ [];
  half_prob = true ∷ false ∷ [];
  filters = (pos 1 ∷ negsuc 1 ∷ []) ∷ (pos 3 ∷ []) ∷ [];
  probs = (5 ∷ 6 ∷ []) ∷ [];
}

abbrev pub at : Reason → ℕ → FrameFault
at reason bit = record { reason = reason; bit = bit }

-- what reading computes with
unfoldable pub fields_open : ⊤
unfolding low_bits bits number_from weighted read times segment_fields map_number_fields map_fields both_segments both_maps later_fields table_fields
    header_fields plain_frame_fields coded_frame_fields frame_fields
fields_open = tt

-- what spelling computes with
unfoldable pub tables_open : ⊤
unfolding low_bits plain_values weighted later_values table_bits shortest
tables_open = tt

unfoldable pub symbols_open : ⊤
unfolding low_bits number_from sum_before reserved_probability symbols
symbols_open = tt

unfoldable pub spelling_open : ⊤
unfolding low_bits number_from octets plain_values weighted later_values table_bits shortest map_numbers header_spelling sum_before reserved_probability
    symbols doubled interval_from code_spelling spell
spelling_open = tt
