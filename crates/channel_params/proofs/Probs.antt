-- The probabilities of a table are from 1 to 128.
use Rattle.std.proofs.Common.{ℕ, ◌<◌, ◌≤◌, pos, List, length, map, get_or, subst, arith}
use Rattle.std.proofs.lemmas.Int.{ints}
use Rattle.std.proofs.lemmas.List.{length-map, get_or-map}
use Rattle.dst_spec.specs.Table.{prob_kind, InRange, IsTable}
use Rattle.dst_spec.proofs.Lists.{get_all}

pub prob_in_range : (probs : List ℕ) (i : ℕ) → IsTable prob_kind (map pos probs) → i < length probs → (1 ≤ get_or probs i 0) × (get_or probs i 0 ≤ 128)
prob_in_range probs i table lt =
    let long = length-map probs (λ x. pos x) in
    let there : i < length (map pos probs) = omega arith in
    let one : InRange prob_kind (get_or (map pos probs) i (pos 0)) = get_all (InRange prob_kind) (map pos probs) i (pos 0) table.each there in
    let at : InRange prob_kind (pos (get_or probs i 0)) = subst (InRange prob_kind) (get_or-map (λ x. pos x) probs i 0 (pos 0) lt) one in
    (omega (arith, ints, at.0), omega (arith, ints, at.1))
