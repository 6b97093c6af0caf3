-- The parameters that an encoder tries for a frame's sound, by its level.
use Rattle.std.specs.Prelude.{ℕ, zero, suc, ◌+◌, ℤ, true, List, [], ◌∷◌, ◌++◌, map, replicate}
use Rattle.std.specs.List.{range_with_len}
use Rattle.dst_spec.specs.Sample.{Shape}
use Rattle.dst_spec.specs.Header.{Params}
use Rattle.level_spec.specs.Correlation.{correlations}
use Rattle.level_spec.specs.Recursion.{solution}
use Rattle.level_spec.specs.Scale.{quantised}
use Rattle.level_spec.specs.Counts.{total, wrong, table_of, counted}
use Rattle.level_spec.specs.Size.{shortened}
use Rattle.level_spec.specs.Refining.{Refined, short_table, refined_from, first_filter}

abbrev pub channels_of : Shape → List ℕ
channels_of f = range_with_len 0 f.channels

-- the filter of an order for channels together
unfoldable pub filter_for : Shape → List ℕ → ℕ → List ℕ → List ℤ
filter_for f sound order channels = quantised (solution (correlations f sound channels) order)

-- for each channel a filter and a table of its own; all half bits are 1
unfoldable pub per_channel : Shape → List ℕ → ℕ → Params
per_channel f sound order = record {
  filter_map = channels_of f;
  prob_map = channels_of f;
  half_prob = replicate f.channels true;
  filters = map (λ c. filter_for f sound order (c ∷ [])) (channels_of f);
  probs = map (λ c. counted f sound (c ∷ []) (filter_for f sound order (c ∷ []))) (channels_of f);
}

-- for all channels one filter and one table; all half bits are 1
unfoldable pub shared : Shape → List ℕ → ℕ → Params
shared f sound order = record {
  filter_map = replicate f.channels 0;
  prob_map = replicate f.channels 0;
  half_prob = replicate f.channels true;
  filters = filter_for f sound order (channels_of f) ∷ [];
  probs = counted f sound (channels_of f) (filter_for f sound order (channels_of f)) ∷ [];
}

abbrev pub orders : List ℕ
orders = 16 ∷ 32 ∷ 64 ∷ 128 ∷ []

-- the filters of all channels together, refined by ten steps
unfoldable pub refined_together : Shape → List ℕ → Refined
refined_together f sound = refined_from f sound (channels_of f) 10 (first_filter f sound (channels_of f))

-- the filter of a channel alone, refined by six steps from the last one of all channels together
unfoldable pub refined_alone : Shape → List ℕ → ℕ → List ℤ
refined_alone f sound c = (refined_from f sound (c ∷ []) 6 (refined_together f sound).last).best

-- for all channels one refined filter and one table
unfoldable pub refined_shared : Shape → List ℕ → Params
refined_shared f sound = record {
  filter_map = replicate f.channels 0;
  prob_map = replicate f.channels 0;
  half_prob = replicate f.channels true;
  filters = (refined_together f sound).best ∷ [];
  probs = short_table f sound (channels_of f) (refined_together f sound).best ∷ [];
}

-- for each channel a refined filter and a table of its own
unfoldable pub refined_own : Shape → List ℕ → Params
refined_own f sound = record {
  filter_map = channels_of f;
  prob_map = channels_of f;
  half_prob = replicate f.channels true;
  filters = map (refined_alone f sound) (channels_of f);
  probs = map (λ c. short_table f sound (c ∷ []) (refined_alone f sound c)) (channels_of f);
}

-- the counts of channels, each with a filter of its own
unfoldable pub sum_of : (ℕ → ℕ → ℕ) → List ℕ → ℕ → ℕ
sum_of counts [] p = 0
sum_of counts (c ∷ channels) p = counts c p + sum_of counts channels p

-- the table of those counts
unfoldable pub one_table : Shape → List ℕ → (ℕ → List ℤ) → List ℕ
one_table f sound filters =
    shortened (table_of (sum_of (λ c. total f sound (c ∷ []) (filters c)) (channels_of f)) (sum_of (λ c. wrong f sound (c ∷ []) (filters c)) (channels_of f)))

-- for each channel a refined filter of its own, and one table for all
unfoldable pub refined_own_with_one_table : Shape → List ℕ → Params
refined_own_with_one_table f sound = record {
  filter_map = channels_of f;
  prob_map = replicate f.channels 0;
  half_prob = replicate f.channels true;
  filters = map (refined_alone f sound) (channels_of f);
  probs = one_table f sound (refined_alone f sound) ∷ [];
}

-- none at level 0, those of order 32 at level 1, all orders for each channel and then shared at level 2; at level 3 those of
-- level 2, and then refined ones; there is no level above
unfoldable pub level_picks : ℕ → List ℕ → Shape → List Params
level_picks zero sound f = []
level_picks (suc zero) sound f = per_channel f sound 32 ∷ []
level_picks (suc (suc zero)) sound f = map (per_channel f sound) orders ++ map (shared f sound) orders
level_picks (suc (suc (suc zero))) sound f =
    (map (per_channel f sound) orders ++ map (shared f sound) orders)
    ++ refined_shared f sound ∷ refined_own f sound ∷ refined_own_with_one_table f sound ∷ []
level_picks (suc (suc (suc (suc level)))) sound f = []
