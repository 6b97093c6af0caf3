-- Maps and half bits in their spelling, element by element.
use Rattle.std.proofs.Common.{◌≡◌, ℕ, ◌+◌, ◌-◌, ◌<◌, ◌≤◌, ◌==◌, max, Bool, true, false, cond, List, [], ◌∷◌, ◌++◌, length, map, take, drop, get_or}
use Rattle.std.proofs.Common.{refl, ap, ap₂, sym, subst, ◌∙◌, arith, append_assoc, append-nil}
use Rattle.std.proofs.lemmas.List.{drop_more, drop_all, take_all}
use Rattle.std.specs.List.{list_all}
use Rattle.dst_spec.specs.Bits.{low_bits}
use Rattle.dst_spec.specs.Map.{Numbers, map_bits, map_numbers}
use Rattle.dst_spec.specs.Header.{bit_of}
use Rattle.dst_spec.specs.Spell.{map_spelling}
use Rattle.dst_num.specs.Map.{IsChannelMap}

-- ---- half bits
one_bit : (b : Bool) → low_bits 1 (bit_of b) ≡ bit_of b ∷ []
unfolding low_bits
one_bit true = refl
one_bit false = refl

pub half_step : (old now next : List ℕ) (half_prob : List Bool) (i : ℕ) (b : Bool) → i < length half_prob → b ≡ get_or half_prob i false →
    next ≡ now ++ low_bits 1 (bit_of b) →
    now ++ map bit_of (drop i half_prob) ≡ old ++ map bit_of half_prob → next ++ map bit_of (drop (i + 1) half_prob) ≡ old ++ map bit_of half_prob
half_step old now next half_prob i b lt is put whole =
    let rest : drop i half_prob ≡ b ∷ drop (i + 1) half_prob = drop_more half_prob i false lt ∙ ap (λ x. x ∷ drop (i + 1) half_prob) (sym is) in
    let front : next ≡ now ++ bit_of b ∷ [] = put ∙ ap (λ xs. now ++ xs) (one_bit b) in
    ap (λ xs. xs ++ map bit_of (drop (i + 1) half_prob)) front ∙ append_assoc now (bit_of b ∷ []) (map bit_of (drop (i + 1) half_prob))
    ∙ sym (ap (λ xs. now ++ map bit_of xs) rest) ∙ whole

-- ---- numbers behind the first element
pub numbers_step : (old now next : List ℕ) (es : List ℕ) (i count : ℕ) → i < length es → next ≡ now ++ low_bits (map_bits count) (get_or es i 0) →
    now ++ map_numbers count (drop i es) ≡ old ++ map_numbers 1 es →
    next ++ map_numbers (max count (get_or es i 0 + 1)) (drop (i + 1) es) ≡ old ++ map_numbers 1 es
unfolding map_numbers
numbers_step old now next es i count lt put whole =
    let e = get_or es i 0 in
    let behind = map_numbers (max count (e + 1)) (drop (i + 1) es) in
    ap (λ xs. xs ++ behind) put ∙ append_assoc now (low_bits (map_bits count) e) behind
    ∙ sym (ap (λ xs. now ++ map_numbers count xs) (drop_more es i 0 lt)) ∙ whole

pub numbers_done : (old now : List ℕ) (es : List ℕ) (i count : ℕ) → length es ≤ i → now ++ map_numbers count (drop i es) ≡ old ++ map_numbers 1 es →
    now ≡ old ++ map_numbers 1 es
unfolding map_numbers
numbers_done old now es i count le whole =
    sym (append-nil now) ∙ sym (ap (λ xs. now ++ map_numbers count xs) (drop_all i es le)) ∙ whole

-- ---- one map
behind_first : (es : List ℕ) → take (length es - 1) (drop 1 es) ≡ drop 1 es
behind_first [] = refl
behind_first (e ∷ es) = take_all (length (e ∷ es) - 1) es (omega arith)

pub later_numbers : (es : List ℕ) → IsChannelMap es → Numbers 1 (take (length es - 1) (drop 1 es))
unfolding Numbers
later_numbers [] h = absurd (omega (arith, h.0))
later_numbers (e ∷ es) h =
    let first : e ≡ 0 = omega (arith, h.2.1.0) in
    let count : max 0 (e + 1) ≡ 1 = omega (arith, first) in
    subst (Numbers 1) (sym (behind_first (e ∷ es))) (subst (λ n. Numbers n es) count h.2.1.1)

pub one_bit_map : (old next es : List ℕ) → list_all (λ e. e == 0) es ≡ true → next ≡ old ++ low_bits 1 1 → next ≡ old ++ map_spelling es
unfolding low_bits
one_bit_map old next es all put = put ∙ ap (λ b. old ++ cond b (1 ∷ []) (0 ∷ map_numbers 1 (drop 1 es))) (sym all)

pub numbered_map : (old mid next es : List ℕ) → list_all (λ e. e == 0) es ≡ false → mid ≡ old ++ low_bits 1 0 →
    next ≡ mid ++ map_numbers 1 (take (length es - 1) (drop 1 es)) → next ≡ old ++ map_spelling es
unfolding low_bits
numbered_map old mid next es some first put =
    put
    ∙ ap₂ (λ xs ys. xs ++ map_numbers 1 ys) first (behind_first es)
    ∙ append_assoc old (0 ∷ []) (map_numbers 1 (drop 1 es))
    ∙ ap (λ b. old ++ cond b (1 ∷ []) (0 ∷ map_numbers 1 (drop 1 es))) (sym some)
