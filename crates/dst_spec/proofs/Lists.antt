-- Lists of bits, of bytes and of others: what several crates need of them.
use Rattle.std.proofs.Common.{◌≡◌, ℕ, zero, suc, ◌+◌, ◌*◌, ◌<◌, Bool, true, false, cond, ◌&&◌, List, [], ◌∷◌, ◌++◌, length, get_or, take, drop}
use Rattle.std.proofs.Common.{replicate, map, flat_map, Result, Err, Fits, w8, refl, ap, ◌∙◌, arith, append-nil}
use Rattle.std.proofs.lemmas.Grind.{flat_map-append}
use Rattle.std.proofs.lemmas.List.{take_more}
use Rattle.std.specs.List.{AllByRecursion, range_with_len}
use Rattle.dst_spec.specs.Bits.{AreBits, AreBytes}

pub get_all : {A : Type 0} (P : A → Type 0) (xs : List A) (i : ℕ) (d : A) → AllByRecursion P xs → i < length xs → P (get_or xs i d)
get_all P [] i d h k = absurd (omega arith)
get_all P (x ∷ xs) zero d h k = h.0
get_all P (x ∷ xs) (suc i) d h k = get_all P xs i d h.1 (omega arith)

pub all_map : {A B : Type 0} (P : B → Type 0) (f : A → B) (xs : List A) → AllByRecursion (λ x. P (f x)) xs → AllByRecursion P (map f xs)
all_map P f [] h = tt
all_map P f (x ∷ xs) h = (h.0, all_map P f xs h.1)

pub all_append : {A : Type 0} (P : A → Type 0) (xs ys : List A) → AllByRecursion P xs → AllByRecursion P ys → AllByRecursion P (xs ++ ys)
all_append P [] ys h k = k
all_append P (x ∷ xs) ys h k = (h.0, all_append P xs ys h.1 k)

pub all_flat_map : {A B : Type 0} (P : B → Type 0) (f : A → List B) (xs : List A) → AllByRecursion (λ x. AllByRecursion P (f x)) xs →
    AllByRecursion P (flat_map f xs)
all_flat_map P f [] h = tt
all_flat_map P f (x ∷ xs) h = all_append P (f x) (flat_map f xs) h.0 (all_flat_map P f xs h.1)

pub all_range : (P : ℕ → Type 0) (a n : ℕ) → ((k : ℕ) → k < a + n → P k) → AllByRecursion P (range_with_len a n)
all_range P a zero h = tt
all_range P a (suc n) h = (h a (omega arith), all_range P (a + 1) n (λ k lt. h k (omega arith)))

pub all_take : {A : Type 0} (P : A → Type 0) (n : ℕ) (xs : List A) → AllByRecursion P xs → AllByRecursion P (take n xs)
all_take P zero xs h = tt
all_take P (suc n) [] h = tt
all_take P (suc n) (x ∷ xs) h = (h.0, all_take P n xs h.1)

pub all_drop : {A : Type 0} (P : A → Type 0) (n : ℕ) (xs : List A) → AllByRecursion P xs → AllByRecursion P (drop n xs)
all_drop P zero xs h = h
all_drop P (suc n) [] h = tt
all_drop P (suc n) (x ∷ xs) h = all_drop P n xs h.1

-- ---- bits and bytes
pub AreBits-take : (n : ℕ) (xs : List ℕ) → AreBits xs → AreBits (take n xs)
AreBits-take n xs h = all_take (λ b. b < 2) n xs h

pub AreBits-drop : (n : ℕ) (xs : List ℕ) → AreBits xs → AreBits (drop n xs)
AreBits-drop n xs h = all_drop (λ b. b < 2) n xs h

pub AreBytes-take : (n : ℕ) (xs : List ℕ) → AreBytes xs → AreBytes (take n xs)
AreBytes-take n xs h = all_take (λ b. b < 256) n xs h

pub AreBytes-drop : (n : ℕ) (xs : List ℕ) → AreBytes xs → AreBytes (drop n xs)
AreBytes-drop n xs h = all_drop (λ b. b < 256) n xs h

-- so many times one byte
pub AreBytes-same : (n b : ℕ) → b < 256 → AreBytes (replicate n b)
AreBytes-same zero b h = tt
AreBytes-same (suc n) b h = (h, AreBytes-same n b h)

-- what fits in eight bits at every place
pub are_bytes : (xs : List ℕ) → ((i : ℕ) → Fits w8 (get_or xs i 0)) → AreBytes xs
are_bytes [] h = tt
are_bytes (x ∷ xs) h = let fits = h 0 in (omega (arith, fits), are_bytes xs (λ i. h (suc i)))

-- ---- places
-- zeros, also past their end
pub get_or-zeros : (n i : ℕ) → ◌≡◌ {A = ℕ} (get_or (replicate n 0) i 0) 0
get_or-zeros zero i = refl
get_or-zeros (suc n) zero = refl
get_or-zeros (suc n) (suc i) = get_or-zeros n i

-- place c of row t lies in the first n rows of w places
pub place-below : (t c w n : ℕ) → c < w → t < n → t * w + c < n * w
place-below t c w n h k = grind arith

-- the part of one element more
pub flat_map-next : {X : Type 0} (f : X → List ℕ) (xs : List X) (i : ℕ) (d : X) → i < length xs →
    flat_map f (take (i + 1) xs) ≡ flat_map f (take i xs) ++ f (get_or xs i d)
flat_map-next f xs i d h =
    ap (flat_map f) (take_more xs i d h)
    ∙ flat_map-append f (take i xs) (get_or xs i d ∷ [])
    ∙ ap (λ zs. flat_map f (take i xs) ++ zs) (append-nil (f (get_or xs i d)))

-- ---- choices
pub either_way : {A : Type 0} (b : Bool) (x : A) → cond b x x ≡ x
either_way true x = refl
either_way false x = refl

pub both_true : (a b : Bool) → (a && b) ≡ true → (a ≡ true) × (b ≡ true)
both_true true b e = (refl, e)
both_true false b e = absurd cc

pub same_err : {A E : Type 0} (a b : E) → ◌≡◌ {A = Result A E} (Err a) (Err b) → a ≡ b
same_err a b e = cc
