-- The picks of a level are lawful parameters.
use Rattle.std.proofs.Common.{◌≡◌, ℕ, zero, suc, ◌≤◌, ℤ, pos, true, List, [], ◌∷◌, ◌++◌, length, map}
use Rattle.std.proofs.Common.{lit≤, arith}
use Rattle.std.proofs.lemmas.List.{length-replicate}
use Rattle.std.proofs.lemmas.List.FromFn.{length-range_with_len, length-map-range_with_len}
use Rattle.std.specs.List.{AllByRecursion, range_with_len}
use Rattle.dst_spec.specs.Sample.{Shape, IsShape}
use Rattle.dst_spec.specs.Table.{filter_kind, prob_kind, IsTable}
use Rattle.dst_spec.specs.Header.{IsParams}
use Rattle.dst_spec.proofs.Lists.{all_map, all_range, all_append}
use Rattle.level_spec.specs.Correlation.{correlations}
use Rattle.level_spec.specs.Recursion.{solution}
use Rattle.level_spec.specs.Counts.{counted}
use Rattle.level_spec.specs.Picks.{channels_of, filter_for, per_channel, shared, orders, refined_shared, refined_own, refined_own_with_one_table, level_picks}
use Rattle.level_spec.proofs.Maps.{numbered, numbered-count, zeros, one_number}
use Rattle.level_spec.proofs.RefinedPicks.{IsParams-refined_shared, IsParams-refined_own, IsParams-refined_own_with_one_table}
use Rattle.level_spec.proofs.Tables.{length-solution, IsTable-quantised, IsTable-counted}

pub IsTable-filter_for : (f : Shape) (sound : List ℕ) (order : ℕ) (channels : List ℕ) → 1 ≤ order → order ≤ 128 →
    IsTable filter_kind (filter_for f sound order channels)
unfolding filter_for
IsTable-filter_for f sound order channels least most =
    let long = length-solution (correlations f sound channels) order in
    IsTable-quantised (solution (correlations f sound channels) order) (omega arith) (omega arith)

pub IsParams-per_channel : (f : Shape) (sound : List ℕ) (order : ℕ) → 1 ≤ order → order ≤ 128 → IsParams f.channels (per_channel f sound order)
unfolding per_channel
IsParams-per_channel f sound order least most =
    let C = f.channels in
    let long : length (range_with_len 0 C) ≡ C = length-range_with_len 0 C in
    let count = numbered-count 0 C in
    let filter : ℕ → List ℤ = λ c. filter_for f sound order (c ∷ []) in
    let probs : ℕ → List ℕ = λ c. counted f sound (c ∷ []) (filter c) in
    let filters : length (map filter (range_with_len 0 C)) ≡ C = length-map-range_with_len filter 0 C in
    let tables : length (map probs (range_with_len 0 C)) ≡ C = length-map-range_with_len probs 0 C in
    record {
      filter_map = (long, numbered 0 C);
      prob_map = (long, numbered 0 C);
      half_prob = length-replicate C true;
      filter_count = omega (arith, filters, count);
      prob_count = omega (arith, tables, count);
      filters = all_map (IsTable filter_kind) filter (range_with_len 0 C)
          (all_range (λ c. IsTable filter_kind (filter c)) 0 C (λ c h. IsTable-filter_for f sound order (c ∷ []) least most));
      probs = all_map (λ entries. IsTable prob_kind (map pos entries)) probs (range_with_len 0 C)
          (all_range (λ c. IsTable prob_kind (map pos (probs c))) 0 C (λ c h. IsTable-counted f sound (c ∷ []) (filter c)));
    }

pub IsParams-shared : (f : Shape) (sound : List ℕ) (order : ℕ) → 1 ≤ f.channels → 1 ≤ order → order ≤ 128 → IsParams f.channels (shared f sound order)
unfolding shared
IsParams-shared f sound order some least most =
    let C = f.channels in
    record {
      filter_map = (length-replicate C 0, zeros 0 C);
      prob_map = (length-replicate C 0, zeros 0 C);
      half_prob = length-replicate C true;
      filter_count = one_number C some;
      prob_count = one_number C some;
      filters = (IsTable-filter_for f sound order (channels_of f) least most, tt);
      probs = (IsTable-counted f sound (channels_of f) (filter_for f sound order (channels_of f)), tt);
    }

pub all_orders_lawful : (sound : List ℕ) (f : Shape) → IsShape f →
    AllByRecursion (IsParams f.channels) (map (per_channel f sound) orders ++ map (shared f sound) orders)
all_orders_lawful sound f h =
    let own : (order : ℕ) → 1 ≤ order → order ≤ 128 → IsParams f.channels (per_channel f sound order) = IsParams-per_channel f sound in
    let together : (order : ℕ) → 1 ≤ order → order ≤ 128 → IsParams f.channels (shared f sound order) =
    λ order least most. IsParams-shared f sound order h.least least most in (
      own 16 (lit≤ tt) (lit≤ tt),
      (
        own 32 (lit≤ tt) (lit≤ tt),
        (
          own 64 (lit≤ tt) (lit≤ tt),
          (
            own 128 (lit≤ tt) (lit≤ tt),
            (together 16 (lit≤ tt) (lit≤ tt), (together 32 (lit≤ tt) (lit≤ tt), (together 64 (lit≤ tt) (lit≤ tt), (together 128 (lit≤ tt) (lit≤ tt), tt)))),
          ),
        ),
      ),
    )

pub picks_are_lawful : (level : ℕ) (sound : List ℕ) (f : Shape) → IsShape f →
    (length (level_picks level sound f) ≤ 11) × AllByRecursion (IsParams f.channels) (level_picks level sound f)
unfolding level_picks
picks_are_lawful zero sound f h = (omega arith, tt)
picks_are_lawful (suc zero) sound f h = (omega arith, (IsParams-per_channel f sound 32 (omega arith) (omega arith), tt))
picks_are_lawful (suc (suc zero)) sound f h = (omega arith, all_orders_lawful sound f h)
picks_are_lawful (suc (suc (suc zero))) sound f h = (
  omega arith,
  all_append (IsParams f.channels) (map (per_channel f sound) orders ++ map (shared f sound) orders)
      (refined_shared f sound ∷ refined_own f sound ∷ refined_own_with_one_table f sound ∷ []) (all_orders_lawful sound f h)
      (IsParams-refined_shared f sound h.least, (IsParams-refined_own f sound, (IsParams-refined_own_with_one_table f sound h.least, tt))),
)
picks_are_lawful (suc (suc (suc (suc level)))) sound f h = (omega arith, tt)
