-- The fields of segmentations and maps that were read are what they gave.
use Rattle.std.proofs.Common.{◌≡◌, inl, inr, ℕ, zero, suc, ◌+◌, ◌-◌, ◌<◌, ◌==◌, max, if◌then◌else◌, List, [], ◌∷◌, ◌++◌, length, replicate, refl, ap}
use Rattle.std.proofs.Common.{ap₂, sym, subst, ◌∙◌, arith, None}
use Rattle.std.proofs.lemmas.List.{length-replicate}
use Rattle.dst_spec.specs.Bits.{low_bits}
use Rattle.dst_spec.specs.Map.{Numbers, IsMap, map_bits, map_numbers, HasMap}
use Rattle.dst_spec.specs.Header.{IsSegmentation, HasSegments, HasMaps}
use Rattle.dst_spec.specs.Fields.{Fields, gives, field, ◌>>=◌}
use Rattle.dst_spec.specs.Offends.{times, end_rule, segment_fields, number_rule, map_number_fields, map_fields, both_segments, both_maps}
use Rattle.dst_spec.proofs.Taking.{Takes, Takes-gives, Takes-bind, Takes-field, Takes-last, Takes-weaker, Takes-bit}
use Rattle.dst_spec.proofs.MapNumbers.{within-count}

-- the same field n times, with a relation for each
abbrev pub EachIs : {A : Type 0} → (List ℕ → A → Type 0) → List ℕ → List A → Type 0
EachIs R w [] = w ≡ []
EachIs R w (x ∷ xs) = (s t : List ℕ) × R s x × EachIs R t xs × (w ≡ s ++ t)

pub Takes-times : {A : Type 0} (n : ℕ) (m : Fields A) (R : List ℕ → A → Type 0) → Takes m R → Takes (times n m) (λ w xs. (length xs ≡ n) × EachIs R w xs)
unfolding times
Takes-times zero m R h = Takes-gives [] (λ w xs. (length xs ≡ 0) × EachIs R w xs) (refl, refl)
Takes-times (suc n) m R h =
    Takes-bind m (λ x. times n m >>= (λ xs. gives (x ∷ xs))) R (λ x w ys. (length ys ≡ suc n) × ((xs : _) × (ys ≡ x ∷ xs) × EachIs R w xs))
    (λ w xs. (length xs ≡ suc n) × EachIs R w xs) h
    (λ x. Takes-last (times n m) (λ xs. x ∷ xs) (λ w xs. (length xs ≡ n) × EachIs R w xs) (λ w ys. (length ys ≡ suc n)
    × ((xs : _) × (ys ≡ x ∷ xs) × EachIs R w xs)) (Takes-times n m R h) (λ w xs k. (ap suc k.0, (xs, refl, k.1))))
    (λ u v x ys a b. (b.0, subst (EachIs R (u ++ v)) (sym b.1.1) (u, v, a, b.1.2, refl)))

-- ends of segments
end-one : (v : ℕ) → v < 2 → end_rule v ≡ None → v ≡ 1
end-one zero h k = absurd cc
end-one (suc zero) h k = refl
end-one (suc (suc v)) h k = absurd (omega arith)

ends_are_ones : (w xs : List ℕ) → EachIs (λ s x. s ≡ 1 ∷ []) w xs → w ≡ replicate (length xs) 1
ends_are_ones w [] h = h
ends_are_ones w (x ∷ xs) h = h.4 ∙ ap₂ (λ s t. s ++ t) h.2 (ends_are_ones h.1 xs h.3)

Takes-ends : (n : ℕ) → Takes (times n (field 1 end_rule gives)) (λ w xs. w ≡ replicate n 1)
unfolding low_bits
Takes-ends n =
    let one : Takes (field 1 end_rule gives) (λ s x. s ≡ 1 ∷ []) =
    Takes-field 1 end_rule gives (λ s x. s ≡ 1 ∷ []) (λ v h k. Takes-gives v (λ w x. low_bits 1 v ++ w ≡ 1 ∷ []) (ap (λ z. low_bits 1 z) (end-one v h k))) in
    Takes-weaker (times n (field 1 end_rule gives)) (λ w xs. (length xs ≡ n) × EachIs (λ s x. s ≡ 1 ∷ []) w xs) (λ w xs. w ≡ replicate n 1)
    (Takes-times n (field 1 end_rule gives) (λ s x. s ≡ 1 ∷ []) one) (λ w xs h. ends_are_ones w xs h.1 ∙ ap (λ k. replicate k 1) h.0)

Takes-segments : (channels : ℕ) → Takes (segment_fields channels) (λ w x. IsSegmentation channels w)
unfolding segment_fields
Takes-segments channels =
    Takes-bit (λ same. times (if same == 1 then 1 else channels) (field 1 end_rule gives)) (λ w x. IsSegmentation channels w)
    (Takes-weaker (times channels (field 1 end_rule gives)) (λ w x. w ≡ replicate channels 1) (λ w x. IsSegmentation channels (0 ∷ w)) (Takes-ends channels)
    (λ w x h. inr (ap (λ zs. 0 ∷ zs) h)))
    (Takes-weaker (times 1 (field 1 end_rule gives)) (λ w x. w ≡ replicate 1 1) (λ w x. IsSegmentation channels (1 ∷ w)) (Takes-ends 1)
    (λ w x h. inl (ap (λ zs. 1 ∷ zs) h)))

pub Takes-both_segments : (channels : ℕ) → Takes (both_segments channels) (λ w x. HasSegments channels w)
unfolding both_segments
Takes-both_segments channels =
    Takes-bit (λ same. segment_fields channels >>= (λ x. if same == 1 then gives x else segment_fields channels)) (λ w x. HasSegments channels w)
    (Takes-bind (segment_fields channels) (λ x. segment_fields channels) (λ w x. IsSegmentation channels w) (λ x w y. IsSegmentation channels w)
    (λ w x. HasSegments channels (0 ∷ w))
    (Takes-segments channels) (λ x. Takes-segments channels) (λ u v x y a b. inr (u, v, a, b, refl)))
    (Takes-last (segment_fields channels) (λ x. x) (λ w x. IsSegmentation channels w) (λ w x. HasSegments channels (1 ∷ w)) (Takes-segments channels)
    (λ w x a. inl (w, a, refl)))

-- maps
Takes-numbers : (n count : ℕ) → Takes (map_number_fields n count) (λ w es. (length es ≡ n) × Numbers count es × (w ≡ map_numbers count es))
unfolding map_number_fields Numbers map_numbers
Takes-numbers zero count = Takes-gives [] (λ w es. (length es ≡ 0) × Numbers count es × (w ≡ map_numbers count es)) (refl, tt, refl)
Takes-numbers (suc n) count =
    Takes-field (map_bits count) (number_rule count) (λ e. map_number_fields n (max count (e + 1)) >>= (λ es. gives (e ∷ es))) (λ w es. (length es ≡ suc n)
    × Numbers count es × (w ≡ map_numbers count es))
    (λ e h k. Takes-last (map_number_fields n (max count (e + 1))) (λ es. e ∷ es) (λ w es. (length es ≡ n) × Numbers (max count (e + 1)) es
    × (w ≡ map_numbers (max count (e + 1)) es))
    (λ w es. (length es ≡ suc n) × Numbers count es × (low_bits (map_bits count) e ++ w ≡ map_numbers count es)) (Takes-numbers n (max count (e + 1)))
    (λ w es a. (ap suc a.0, (within-count count e k, a.1), ap (λ zs. low_bits (map_bits count) e ++ zs) a.2)))

zeros_are_map : (n : ℕ) → Numbers 1 (replicate n 0)
unfolding Numbers
zeros_are_map zero = tt
zeros_are_map (suc n) = (omega arith, zeros_are_map n)

one_channel_more : (n : ℕ) → Numbers 0 (replicate (suc n) 0)
unfolding Numbers
one_channel_more n = (omega arith, zeros_are_map n)

behind_zero : (es : List ℕ) → Numbers 1 es → Numbers 0 (0 ∷ es)
unfolding Numbers
behind_zero es h = (omega arith, h)

Takes-map : (n : ℕ) → Takes (map_fields (suc n)) (λ w m. IsMap (suc n) m × HasMap m w)
unfolding map_fields
Takes-map n =
    Takes-bit (λ x. if x == 1 then gives (replicate (suc n) 0) else (map_number_fields (suc n - 1) 1 >>= (λ es. gives (0 ∷ es)))) (λ w m. IsMap (suc n) m
    × HasMap m w)
    (Takes-last (map_number_fields (suc n - 1) 1) (λ es. 0 ∷ es) (λ w es. (length es ≡ suc n - 1) × Numbers 1 es × (w ≡ map_numbers 1 es))
    (λ w m. IsMap (suc n) m × HasMap m (0 ∷ w))
    (Takes-numbers (suc n - 1) 1) (λ w es a. ((omega (arith, a.0), behind_zero es a.1), inr (es, refl, ap (λ zs. 0 ∷ zs) a.2))))
    (Takes-gives (replicate (suc n) 0) (λ w m. IsMap (suc n) m × HasMap m (1 ∷ w)) (
      (ap suc (length-replicate {A = ℕ} n 0), one_channel_more n),
      inl (ap (λ k. replicate k 0) (sym (ap suc (length-replicate {A = ℕ} n 0))), refl),
    ))

pub Takes-both_maps : (n : ℕ) → Takes (both_maps (suc n)) (λ w p. IsMap (suc n) p.0 × IsMap (suc n) p.1 × HasMaps p.0 p.1 w)
unfolding both_maps
Takes-both_maps n =
    let Q : List ℕ → List ℕ × List ℕ → Type 0 = λ w p. IsMap (suc n) p.0 × IsMap (suc n) p.1 × HasMaps p.0 p.1 w in
    let M : List ℕ → List ℕ → Type 0 = λ w m. IsMap (suc n) m × HasMap m w in
    Takes-bit (λ same. map_fields (suc n) >>= (λ m. (if same == 1 then gives m else map_fields (suc n)) >>= (λ k. gives (m, k)))) Q
    (Takes-bind (map_fields (suc n)) (λ m. map_fields (suc n) >>= (λ k. gives (m, k))) M (λ m w p. (k : List ℕ) × M w k × (p ≡ (m, k))) (λ w p. Q (0 ∷ w) p)
    (Takes-map n)
    (λ m. Takes-last (map_fields (suc n)) (λ k. (m, k)) M (λ w p. (k : List ℕ) × M w k × (p ≡ (m, k))) (Takes-map n) (λ w k a. (k, a, refl)))
    (λ u v m p a b. subst (λ q. Q (0 ∷ u ++ v) q) (sym b.2) (a.0, b.1.0, inr (u, v, a.1, b.1.1, refl))))
    (Takes-last (map_fields (suc n)) (λ m. (m, m)) M (λ w p. Q (1 ∷ w) p) (Takes-map n) (λ w m a. (a.0, a.0, inl (w, a.1, refl, refl))))
