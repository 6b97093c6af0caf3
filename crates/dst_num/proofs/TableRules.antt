-- The rules of tables, from the length and from each value.
use Rattle.std.proofs.Common.{◌≡◌, ℕ, ◌<◌, ◌≤◌, ℤ, pos, List, [], ◌∷◌, length, get_or, take, map, All, ap, subst, arith, refl}
use Rattle.std.proofs.lemmas.List.{length-map, get_or-map, take_all}
use Rattle.std.proofs.lemmas.List.Elements.{All-map, All-from_recursion, recursion_from_All}
use Rattle.dst_spec.specs.Table.{filter_kind, prob_kind, InRange, IsTable}

pub all_of_front : {A : Type 0} (P : A → Type 0) (xs : List A) (n : ℕ) → length xs ≤ n → All P (take n xs) → All P xs
all_of_front P xs n h all = subst (All P) (take_all n xs h) all

pub is_filter : (xs : List ℤ) → 1 ≤ length xs → length xs ≤ 128 → All (InRange filter_kind) xs → IsTable filter_kind xs
is_filter xs h k each = record {
  least = h;
  most = k;
  each = recursion_from_All (InRange filter_kind) xs each;
  alone = λ lone. absurd cc;
}

-- an entry is 1 to 128
abbrev pub IsEntry : ℕ → Type 0
IsEntry e = (1 ≤ e) × (e ≤ 128)

pub is_prob : (xs : List ℕ) → 1 ≤ length xs → length xs ≤ 64 → (length xs ≡ 1 → get_or xs 0 0 ≡ 128) → All IsEntry xs → IsTable prob_kind (map pos xs)
is_prob xs h k lone each =
    let long = length-map xs pos in
    record {
      least = omega arith;
      most = omega arith;
      each = recursion_from_All (InRange prob_kind) (map pos xs) (All-map (InRange prob_kind) pos xs (λ i d lt. grind (arith, each i d lt)));
      alone = λ _ one. ap (map pos) (one_value xs (omega arith) lone);
    }
  where
    one_value : (ys : List ℕ) → length ys ≡ 1 → (length ys ≡ 1 → get_or ys 0 0 ≡ 128) → ys ≡ 128 ∷ []
    one_value [] e f = absurd (omega arith)
    one_value (y ∷ []) e f = ap (λ z. z ∷ []) (f e)
    one_value (y ∷ z ∷ ys) e f = absurd (omega arith)

pub entry_of_prob : (xs : List ℕ) (i : ℕ) → IsTable prob_kind (map pos xs) → i < length xs → IsEntry (get_or xs i 0)
entry_of_prob xs i table lt =
    let inside : i < length (map pos xs) = omega (arith, length-map xs pos) in
    let at = All-from_recursion (InRange prob_kind) (map pos xs) table.each i (pos 0) inside in
    let e = get_or-map pos xs i 0 (pos 0) lt in
    let p : InRange prob_kind (pos (get_or xs i 0)) = subst (InRange prob_kind) e at in
    grind (arith, p)

pub lone_of_prob : (xs : List ℕ) → IsTable prob_kind (map pos xs) → length xs ≡ 1 → get_or xs 0 0 ≡ 128
lone_of_prob [] table e = absurd (omega arith)
lone_of_prob (x ∷ xs) table e =
    let p = table.alone refl (omega (arith, length-map (x ∷ xs) pos)) in
    cc
