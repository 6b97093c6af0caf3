-- Lists appended one after the other, and the room that is left.
use Rattle.std.proofs.Common.{◌≡◌, true, false, ℕ, zero, suc, ◌+◌, ◌-◌, ◌<◌, ◌≤◌, List, [], ◌∷◌, ◌++◌, length, get_or, take, refl, ap, sym, ◌∙◌}
use Rattle.std.proofs.Common.{arith, append_assoc, append-nil, length-append, ℤ, ◌+ℤ◌}
use Rattle.std.proofs.lemmas.List.Folds.{length-flat_map-take}
use Rattle.std.specs.List.{flat_map}
use Rattle.dst_spec.specs.Bits.{low_bits}
use Rattle.dst_spec.specs.Rice.{rice}
use Rattle.dst_spec.specs.Table.{Kind, Spelling, is_alone, plain_value, plain_values, eighth, later_values, body, table_bits}
use Rattle.table_code.specs.Choices.{residuals}
use Rattle.dst_spec.proofs.Lists.{flat_map-next}

-- one part behind another
pub joined : (a b c u v : List ℕ) → b ≡ a ++ u → c ≡ b ++ v → c ≡ a ++ (u ++ v)
joined a b c u v e f = f ∙ ap (λ xs. xs ++ v) e ∙ append_assoc a u v

pub next_bits : {X : Type 0} (f : X → List ℕ) (xs : List X) (i : ℕ) (d : X) (a b c : List ℕ) → i < length xs → b ≡ a ++ flat_map f (take i xs) →
    c ≡ b ++ f (get_or xs i d) → c ≡ a ++ flat_map f (take (i + 1) xs)
next_bits f xs i d a b c h e g = joined a b c (flat_map f (take i xs)) (f (get_or xs i d)) e g ∙ ap (λ zs. a ++ zs) (sym (flat_map-next f xs i d h))

pub next_room : {X : Type 0} (f : X → List ℕ) (xs : List X) (i : ℕ) (d : X) (p q r : ℕ) → i < length xs → q + length (flat_map f (take i xs)) ≡ p →
    r + length (f (get_or xs i d)) ≡ q → r + length (flat_map f (take (i + 1) xs)) ≡ p
next_room f xs i d p q r h e g = omega (arith, ap length (flat_map-next f xs i d h), length-append (flat_map f (take i xs)) (f (get_or xs i d)))

pub still_room : {X : Type 0} (f : X → List ℕ) (xs : List X) (i : ℕ) (d : X) (p q : ℕ) → i < length xs → length (flat_map f xs) ≤ p →
    q + length (flat_map f (take i xs)) ≡ p → length (f (get_or xs i d)) ≤ q
still_room f xs i d p q h k e = omega (arith, length-flat_map-take f xs i d h)

-- values plain, and residuals, one by one
pub plain_values-flat_map : (K : Kind) (vs : List ℤ) → flat_map (plain_value K) vs ≡ plain_values K vs
unfolding plain_values
plain_values-flat_map K [] = refl
plain_values-flat_map K (v ∷ vs) = ap (λ xs. plain_value K v ++ xs) (plain_values-flat_map K vs)

pub later-flat_map : (ws : List ℤ) (m : ℕ) (earlier vs : List ℤ) → flat_map (λ r. rice r m) (residuals ws earlier vs) ≡ later_values ws m earlier vs
unfolding later_values
later-flat_map ws m earlier [] = refl
later-flat_map ws m earlier (v ∷ vs) = ap (λ xs. rice (v +ℤ eighth ws earlier) m ++ xs) (later-flat_map ws m (v ∷ earlier) vs)

-- the bit that says that a table is coded, with its method
pub coded_method : (method : ℕ) → method < 3 → low_bits 3 (4 + method) ≡ 1 ∷ low_bits 2 method
unfolding low_bits
coded_method zero h = refl
coded_method (suc zero) h = refl
coded_method (suc (suc zero)) h = refl
coded_method (suc (suc (suc n))) h = absurd (omega arith)

-- four parts
pub four : (a b c d e u v w x : List ℕ) → b ≡ a ++ u → c ≡ b ++ v → d ≡ c ++ w → e ≡ d ++ x → e ≡ a ++ (u ++ v ++ w ++ x)
four a b c d e u v w x p q r s =
    joined a d e (u ++ v ++ w) x (joined a c d (u ++ v) w (joined a b c u v p q) r) s

-- a table is its length, or its length and what follows it
pub bits_alone : (K : Kind) (vs : List ℤ) (s : Spelling) → is_alone K (length vs) ≡ true → table_bits K vs s ≡ low_bits K.length_bits (length vs - 1)
unfolding table_bits
bits_alone K vs s alone = rw alone (append-nil (low_bits K.length_bits (length vs - 1)))

pub bits_together : (K : Kind) (vs : List ℤ) (s : Spelling) → is_alone K (length vs) ≡ false →
    table_bits K vs s ≡ low_bits K.length_bits (length vs - 1) ++ body K vs s
unfolding table_bits
bits_together K vs s together = rw together refl
