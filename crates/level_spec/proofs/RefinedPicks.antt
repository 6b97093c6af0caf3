-- The refined picks are lawful parameters.
use Rattle.std.proofs.Common.{◌≡◌, ℕ, ◌≤◌, ℤ, pos, true, List, [], ◌∷◌, length, map, arith}
use Rattle.std.proofs.lemmas.List.{length-replicate}
use Rattle.std.proofs.lemmas.List.FromFn.{length-range_with_len, length-map-range_with_len}
use Rattle.std.specs.List.{range_with_len}
use Rattle.dst_spec.specs.Sample.{Shape}
use Rattle.dst_spec.specs.Table.{filter_kind, prob_kind, IsTable}
use Rattle.dst_spec.specs.Header.{IsParams}
use Rattle.dst_spec.proofs.Lists.{all_map, all_range}
use Rattle.level_spec.specs.Counts.{total, wrong}
use Rattle.level_spec.specs.Refining.{short_table, first_filter}
use Rattle.level_spec.specs.Picks.{channels_of, refined_together, refined_alone, refined_shared, refined_own, sum_of, one_table, refined_own_with_one_table}
use Rattle.level_spec.proofs.Maps.{numbered, numbered-count, zeros, one_number}
use Rattle.level_spec.proofs.Refined.{AreTables, AreTables-refined_from, IsTable-first_filter, IsTable-short_table, IsTable-short_table_of}

pub AreTables-together : (f : Shape) (sound : List ℕ) → AreTables (refined_together f sound)
unfolding refined_together
AreTables-together f sound = AreTables-refined_from f sound (channels_of f) 10 (first_filter f sound (channels_of f)) (IsTable-first_filter f sound
    (channels_of f))

pub IsTable-alone : (f : Shape) (sound : List ℕ) (c : ℕ) → IsTable filter_kind (refined_alone f sound c)
unfolding refined_alone
IsTable-alone f sound c = (AreTables-refined_from f sound (c ∷ []) 6 (refined_together f sound).last (AreTables-together f sound).1).0

pub IsParams-refined_shared : (f : Shape) (sound : List ℕ) → 1 ≤ f.channels → IsParams f.channels (refined_shared f sound)
unfolding refined_shared
IsParams-refined_shared f sound some =
    let C = f.channels in
    record {
      filter_map = (length-replicate C 0, zeros 0 C);
      prob_map = (length-replicate C 0, zeros 0 C);
      half_prob = length-replicate C true;
      filter_count = one_number C some;
      prob_count = one_number C some;
      filters = ((AreTables-together f sound).0, tt);
      probs = (IsTable-short_table f sound (channels_of f) (refined_together f sound).best, tt);
    }

pub IsParams-refined_own : (f : Shape) (sound : List ℕ) → IsParams f.channels (refined_own f sound)
unfolding refined_own
IsParams-refined_own f sound =
    let C = f.channels in
    let long : length (range_with_len 0 C) ≡ C = length-range_with_len 0 C in
    let count = numbered-count 0 C in
    let filter : ℕ → List ℤ = refined_alone f sound in
    let probs : ℕ → List ℕ = λ c. short_table f sound (c ∷ []) (filter c) in
    let filters : length (map filter (range_with_len 0 C)) ≡ C = length-map-range_with_len filter 0 C in
    let tables : length (map probs (range_with_len 0 C)) ≡ C = length-map-range_with_len probs 0 C in
    record {
      filter_map = (long, numbered 0 C);
      prob_map = (long, numbered 0 C);
      half_prob = length-replicate C true;
      filter_count = omega (arith, filters, count);
      prob_count = omega (arith, tables, count);
      filters = all_map (IsTable filter_kind) filter (range_with_len 0 C)
          (all_range (λ c. IsTable filter_kind (filter c)) 0 C (λ c h. IsTable-alone f sound c));
      probs = all_map (λ entries. IsTable prob_kind (map pos entries)) probs (range_with_len 0 C)
          (all_range (λ c. IsTable prob_kind (map pos (probs c))) 0 C (λ c h. IsTable-short_table f sound (c ∷ []) (filter c)));
    }

IsTable-one_table : (f : Shape) (sound : List ℕ) (filters : ℕ → List ℤ) → IsTable prob_kind (map pos (one_table f sound filters))
unfolding one_table
IsTable-one_table f sound filters =
    IsTable-short_table_of (sum_of (λ c. total f sound (c ∷ []) (filters c)) (channels_of f)) (sum_of (λ c. wrong f sound (c ∷ []) (filters c)) (channels_of f))

pub IsParams-refined_own_with_one_table : (f : Shape) (sound : List ℕ) → 1 ≤ f.channels → IsParams f.channels (refined_own_with_one_table f sound)
unfolding refined_own_with_one_table
IsParams-refined_own_with_one_table f sound some =
    let C = f.channels in
    let long : length (range_with_len 0 C) ≡ C = length-range_with_len 0 C in
    let count = numbered-count 0 C in
    let filter : ℕ → List ℤ = refined_alone f sound in
    let filters : length (map filter (range_with_len 0 C)) ≡ C = length-map-range_with_len filter 0 C in
    record {
      filter_map = (long, numbered 0 C);
      prob_map = (length-replicate C 0, zeros 0 C);
      half_prob = length-replicate C true;
      filter_count = omega (arith, filters, count);
      prob_count = one_number C some;
      filters = all_map (IsTable filter_kind) filter (range_with_len 0 C)
          (all_range (λ c. IsTable filter_kind (filter c)) 0 C (λ c h. IsTable-alone f sound c));
      probs = (IsTable-one_table f sound filter, tt);
    }
