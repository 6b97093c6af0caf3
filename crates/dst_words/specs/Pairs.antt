-- Pairs of numbers in an array of sixteen, those that aren't there being 0.
use Rattle.std.specs.Prelude.{◌≡◌, ℕ, ◌-◌, ◌≤◌, List, ◌++◌, length, take, replicate}
use Rattle.std.proofs.Common.{ap, ◌∙◌}
use Rattle.dst_words.specs.declared.pairs.Pairs.TheInside.{Inside}

abbrev pub pairs_seen : Inside → List (ℕ × ℕ)
pairs_seen p = take p.count p.pairs

-- pairs, and zeros behind them
abbrev pub filled_up : List (ℕ × ℕ) → List (ℕ × ℕ)
filled_up pairs = pairs ++ replicate (16 - length pairs) (0, 0)

pub record IsFilledUp (p : Inside) : Type 0 where
  pub most : p.count ≤ 16
  pub count : length (pairs_seen p) ≡ p.count
  pub filled : filled_up (pairs_seen p) ≡ p.pairs

abbrev pub with_pairs : List (ℕ × ℕ) → Inside
with_pairs pairs = record { count = length pairs; pairs = filled_up pairs }

pub gives_back : (p : Inside) → IsFilledUp p → with_pairs (pairs_seen p) ≡ p
gives_back p i = ap (λ n. record { count = n; pairs = filled_up (pairs_seen p) }) i.count ∙ ap (λ l. record { count = p.count; pairs = l }) i.filled
