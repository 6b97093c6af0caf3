-- Pairs of numbers, read two words at a time.
use Rattle.std.proofs.Common.{◌≡◌, ℕ, suc, ◌+◌, ◌*◌, ◌<◌, List, [], ◌∷◌, ◌++◌, length, map, drop, get_or, refl, ap, sym, ◌∙◌, arith, append_assoc, drop-cons}
use Rattle.std.proofs.Common.{Option, Some, None}
use Rattle.std.proofs.lemmas.List.{append-nil, drop_all, get_or-map, length-map}
use Rattle.std.specs.Prelude.{option_map}
use Rattle.dsdiff_spec.specs.Words.{Word}
use Rattle.words_spec.specs.Slots.{number_word}
use Rattle.dst_words.specs.RowWords.{number_pairs}

-- a word at its place reads as the number there
number_at : {S : Type 0} (f : S → Word) (words : List S) (i : ℕ) (x : S) → i < length words → x ≡ get_or words i x →
    number_word (f x) ≡ number_word (get_or (map f words) i [])
number_at f words i x h e = ap (λ y. number_word (f y)) e ∙ ap number_word (sym (get_or-map f words i x [] h))

-- those of the first words, and the words behind them
abbrev pub AreReadSoFar : List Word → ℕ → List (ℕ × ℕ) → Type 0
AreReadSoFar words k pairs = number_pairs words ≡ option_map (λ ps. pairs ++ ps) (number_pairs (drop (2 * k) words))

pub none_yet : (words : List Word) → AreReadSoFar words 0 []
none_yet words = go (number_pairs words)
  where
    go : (o : Option (List (ℕ × ℕ))) → o ≡ option_map (λ ps. [] ++ ps) o
    go None = refl
    go (Some ps) = refl

abbrev pair_behind : Option ℕ → Option ℕ → Option (List (ℕ × ℕ)) → Option (List (ℕ × ℕ))
pair_behind a b o = elim a [ None ↦ None | Some a ↦ elim b [ None ↦ None | Some b ↦ option_map (λ ps. (a, b) ∷ ps) o ] ]

two_words : (words : List Word) (k : ℕ) → 2 * k + 1 < length words → number_pairs (drop (2 * k) words)
    ≡ pair_behind (number_word (get_or words (2 * k) [])) (number_word (get_or words (2 * k + 1) [])) (number_pairs (drop (2 * (k + 1)) words))
two_words words k h =
    ap number_pairs (drop-cons words (2 * k) [] (omega arith) ∙ ap (λ ws. get_or words (2 * k) [] ∷ ws) (second ∙ drop-cons words (2 * k + 1) [] h))
    ∙ ap (λ n. pair_behind (number_word (get_or words (2 * k) [])) (number_word (get_or words (2 * k + 1) [])) (number_pairs (drop n words))) third
  where
    second : drop (suc (2 * k)) words ≡ drop (2 * k + 1) words
    second = let e : suc (2 * k) ≡ 2 * k + 1 = omega arith in ap (λ n. drop n words) e

    third : suc (2 * k + 1) ≡ 2 * (k + 1)
    third = omega arith

behind_more : (pairs : List (ℕ × ℕ)) (a b : ℕ) (o : Option (List (ℕ × ℕ))) →
    option_map (λ ps. pairs ++ ps) (pair_behind (Some a) (Some b) o) ≡ option_map (λ ps. (pairs ++ (a, b) ∷ []) ++ ps) o
behind_more pairs a b None = refl
behind_more pairs a b (Some ps) = ap Some (sym (append_assoc pairs ((a, b) ∷ []) ps))

-- the two words behind those are a pair more
pub one_more_read : {S : Type 0} (f : S → Word) (words : List S) (k a b : ℕ) (pairs : List (ℕ × ℕ)) (x y : S) → 2 * k + 1 < length words →
    AreReadSoFar (map f words) k pairs → x ≡ get_or words (2 * k) x → y ≡ get_or words (2 * k + 1) y → Some a ≡ number_word (f x) →
    Some b ≡ number_word (f y) → AreReadSoFar (map f words) (k + 1) (pairs ++ (a, b) ∷ [])
one_more_read f words k a b pairs x y h so_far x_is y_is first second =
    so_far
    ∙ ap (option_map (λ ps. pairs ++ ps))
    (two_words (map f words) k (omega (arith, h, length-map words f))
    ∙ ap (λ o. pair_behind o (number_word (get_or (map f words) (2 * k + 1) [])) (number_pairs (drop (2 * (k + 1)) (map f words))))
    (sym (first ∙ number_at f words (2 * k) x (omega (arith, h)) x_is))
    ∙ ap (λ o. pair_behind (Some a) o (number_pairs (drop (2 * (k + 1)) (map f words)))) (sym (second ∙ number_at f words (2 * k + 1) y h y_is)))
    ∙ behind_more pairs a b (number_pairs (drop (2 * (k + 1)) (map f words)))

no_second : (a : Option ℕ) (o : Option (List (ℕ × ℕ))) → pair_behind a None o ≡ None
no_second None o = refl
no_second (Some a) o = refl

-- the first or the second of them is no number, so the words are no pairs
pub first_is_none : {S : Type 0} (f : S → Word) (words : List S) (k : ℕ) (pairs : List (ℕ × ℕ)) (x : S) → 2 * k + 1 < length words →
    AreReadSoFar (map f words) k pairs → x ≡ get_or words (2 * k) x → None ≡ number_word (f x) → number_pairs (map f words) ≡ None
first_is_none f words k pairs x h so_far x_is first =
    so_far
    ∙ ap (option_map (λ ps. pairs ++ ps))
    (two_words (map f words) k (omega (arith, h, length-map words f))
    ∙ ap (λ o. pair_behind o (number_word (get_or (map f words) (2 * k + 1) [])) (number_pairs (drop (2 * (k + 1)) (map f words))))
    (sym (first ∙ number_at f words (2 * k) x (omega (arith, h)) x_is)))

pub second_is_none : {S : Type 0} (f : S → Word) (words : List S) (k : ℕ) (pairs : List (ℕ × ℕ)) (y : S) → 2 * k + 1 < length words →
    AreReadSoFar (map f words) k pairs → y ≡ get_or words (2 * k + 1) y → None ≡ number_word (f y) → number_pairs (map f words) ≡ None
second_is_none f words k pairs y h so_far y_is second =
    so_far
    ∙ ap (option_map (λ ps. pairs ++ ps))
    (two_words (map f words) k (omega (arith, h, length-map words f))
    ∙ ap (λ o. pair_behind (number_word (get_or (map f words) (2 * k) [])) o (number_pairs (drop (2 * (k + 1)) (map f words))))
    (sym (second ∙ number_at f words (2 * k + 1) y h y_is))
    ∙ no_second (number_word (get_or (map f words) (2 * k) [])) (number_pairs (drop (2 * (k + 1)) (map f words))))

pub all_are_read : (words : List Word) (k : ℕ) (pairs : List (ℕ × ℕ)) → length words ≡ 2 * k → AreReadSoFar words k pairs → number_pairs words ≡ Some pairs
all_are_read words k pairs e so_far =
    so_far
    ∙ ap (λ ws. option_map (λ ps. pairs ++ ps) (number_pairs ws)) (drop_all (2 * k) words (omega arith))
    ∙ ap Some (append-nil pairs)
