-- Entries of a table, and sums of what places come to.
use Rattle.std.proofs.Common.{◌≡◌, ℕ, zero, suc, ◌+◌, ◌<◌, ◌≤◌, pos, List, [], ◌∷◌, length, map, get_or, ap, sym, subst, arith}
use Rattle.std.proofs.lemmas.Int.{ints}
use Rattle.std.proofs.lemmas.List.{length-map}
use Rattle.std.specs.List.{AllByRecursion}
use Rattle.dst_spec.specs.Table.{prob_kind, InRange, IsTable}
use Rattle.level_spec.specs.Size.{sum_below}

in-range : (entries : List ℕ) (p : ℕ) → p < length entries → AllByRecursion (InRange prob_kind) (map pos entries) →
    (1 ≤ get_or entries p 0) × (get_or entries p 0 ≤ 128)
in-range [] p h each = absurd (omega arith)
in-range (e ∷ entries) zero h each = let a = each.0.0 in let b = each.0.1 in (omega (arith, ints), omega (arith, ints))
in-range (e ∷ entries) (suc p) h each = in-range entries p (omega arith) each.1

pub entries-within : (table entries : List ℕ) → entries ≡ table → IsTable prob_kind (map pos table) →
    (1 ≤ length entries) × ((p : ℕ) → p < length entries → (1 ≤ get_or entries p 0) × (get_or entries p 0 ≤ 128))
entries-within table entries e h =
    let least : 1 ≤ length (map pos table) = h.least in
    let long = length-map table pos in (
      omega (arith, ap length e),
      λ p inside. subst (λ t. (1 ≤ get_or t p 0) × (get_or t p 0 ≤ 128)) (sym e) (in-range table p (omega (
        arith,
        ap
            length e,
      )) h.each),
    )

pub below-next : (F : ℕ → ℕ) (n : ℕ) → sum_below F (n + 1) ≡ sum_below F n + F n
unfolding sum_below
below-next F n = let e : n + 1 ≡ suc n = omega arith in ap (sum_below F) e
