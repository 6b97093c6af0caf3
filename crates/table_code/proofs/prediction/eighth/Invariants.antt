-- The sum so far and the terms that are left make the whole weighted sum.
use Rattle.std.proofs.Common.{◌≡◌, ◌+ℤ◌, drop, reverse}
use Rattle.dst_spec.specs.Table.{weighted}
use Rattle.table_code.proofs.prediction.eighth.Given as goal

abbrev pub invariant-loop-k : goal.invariant-loop-k
invariant-loop-k g l =
    l.sum +ℤ weighted (drop l.k (g.K.TableKind.kind.weights l.method)) (drop l.k (reverse l.values)) ≡ weighted (g.K.TableKind.kind.weights l.method)
    (reverse l.values)
