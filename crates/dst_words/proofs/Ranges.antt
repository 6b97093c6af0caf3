-- The row of parts of the sound: of its sixteen forms the one that has as many numbers reads the words.
use Rattle.std.proofs.Common.{◌≡◌, ◌≢◌, ◌⊎◌, inl, inr, ℕ, zero, suc, ◌+◌, ◌*◌, ◌/◌, ◌%◌, ◌<◌, ◌≤◌, ◌==◌, Bool, true, false, if◌then◌else◌, List, [], ◌∷◌}
use Rattle.std.proofs.Common.{length, map, replicate, refl, ap, sym, ◌∙◌, arith, ltb-true, ltb-false, eqb-true, Option, Some, None}
use Rattle.std.specs.Prelude.{codes, nat_lt, option_map, ◌&&◌, ◌||◌}
use Rattle.std.specs.List.{range_with_len}
use Rattle.std.proofs.lemmas.Bool.{le-ltb, eqb-false}
use Rattle.dsdiff_spec.specs.Faults.{first_some}
use Rattle.dsdiff_spec.specs.Words.{Word, Task, range}
use Rattle.words_spec.specs.Slots.{is_file_word, number_word, number, read_slots}
use Rattle.words_spec.specs.Rows.{range_row, row_task, task_behind, pairs_of, task_of}
use Rattle.dst_words.proofs.Making.{then_slot, no_number, a_number}
use Rattle.dst_words.specs.RowWords.{alone, number_pairs, pairs_in, parts_task, range_words}

-- ---- numbers that are all words
abbrev numbers_in : List Word → Option (List ℕ)
numbers_in [] = Some []
numbers_in (w ∷ ws) = elim (number_word w) [ None ↦ None | Some n ↦ option_map (λ ns. n ∷ ns) (numbers_in ws) ]

-- what is made of numbers behind which no word stands
abbrev at_end : (List ℕ → Option Task) → List ℕ → List Word → Option Task
at_end f numbers [] = f numbers
at_end f numbers (w ∷ ws) = None

abbrev of_numbers : (List ℕ → Option Task) → Option (List ℕ) → Option Task
of_numbers f o = elim o [ None ↦ None | Some numbers ↦ f numbers ]

abbrev of_read : (List ℕ → Option Task) → Option (List ℕ × List Word) → Option Task
of_read f o = elim o [ None ↦ None | Some read ↦ at_end f read.0 read.1 ]

one_read : (f : List ℕ → Option Task) (n : ℕ) (r : Option (List ℕ × List Word)) → of_read f (then_slot (a_number (Some n)) r) ≡ of_read (λ ns. f (n ∷ ns)) r
one_read f n None = refl
one_read f n (Some read) = go read.1
  where
    go : (ws : List Word) → at_end f (n ∷ read.0) ws ≡ at_end (λ ns. f (n ∷ ns)) read.0 ws
    go [] = refl
    go (w ∷ ws) = refl

one_number : (f : List ℕ → Option Task) (n : ℕ) (o : Option (List ℕ)) → of_numbers (λ ns. f (n ∷ ns)) o ≡ of_numbers f (option_map (λ ns. n ∷ ns) o)
one_number f n None = refl
one_number f n (Some ns) = refl

-- as many numbers as words
all_read : (f : List ℕ → Option Task) (m : ℕ) (words : List Word) → length words ≡ m →
    of_read f (read_slots (replicate m number) words) ≡ of_numbers f (numbers_in words)
all_read f zero [] e = refl
all_read f zero (w ∷ ws) e = absurd (omega arith)
all_read f (suc m) [] e = absurd (omega arith)
all_read f (suc m) (w ∷ ws) e = go (number_word w) (λ n. all_read (λ ns. f (n ∷ ns)) m ws (omega arith))
  where
    go : (o : Option ℕ) → ((n : ℕ) → of_read (λ ns. f (n ∷ ns)) (read_slots (replicate m number) ws) ≡ of_numbers (λ ns. f (n ∷ ns)) (numbers_in ws)) →
        of_read f (then_slot (a_number o) (read_slots (replicate m number) ws))
        ≡ of_numbers f (elim o [ None ↦ None | Some n ↦ option_map (λ ns. n ∷ ns) (numbers_in ws) ])
    go None more = refl
    go (Some n) more = one_read f n (read_slots (replicate m number) ws) ∙ more n ∙ one_number f n (numbers_in ws)

-- more words, or fewer
none_read : (f : List ℕ → Option Task) (m : ℕ) (words : List Word) → length words ≢ m → of_read f (read_slots (replicate m number) words) ≡ None
none_read f zero [] e = absurd (e refl)
none_read f zero (w ∷ ws) e = refl
none_read f (suc m) [] e = refl
none_read f (suc m) (w ∷ ws) e = go (number_word w) (λ n. none_read (λ ns. f (n ∷ ns)) m ws (λ same. e (ap suc same)))
  where
    go : (o : Option ℕ) → ((n : ℕ) → of_read (λ ns. f (n ∷ ns)) (read_slots (replicate m number) ws) ≡ None) →
        of_read f (then_slot (a_number o) (read_slots (replicate m number) ws)) ≡ None
    go None more = refl
    go (Some n) more = one_read f n (read_slots (replicate m number) ws) ∙ more n

-- ---- numbers in pairs
abbrev paired : Option (List ℕ) → Option (List (ℕ × ℕ))
paired o = option_map pairs_of o

in_pairs : (n : ℕ) (words : List Word) → length words ≡ n + n → paired (numbers_in words) ≡ number_pairs words
in_pairs n [] e = refl
in_pairs n (v ∷ []) e = absurd (omega arith)
in_pairs zero (v ∷ w ∷ ws) e = absurd (omega arith)
in_pairs (suc n) (v ∷ w ∷ ws) e = go (number_word v) (number_word w) (numbers_in ws) (in_pairs n ws (omega arith))
  where
    go : (a b : Option ℕ) (o : Option (List ℕ)) → paired o ≡ number_pairs ws →
        ◌≡◌ {A = Option (List (ℕ × ℕ))}
        (paired (elim a [ None ↦ None | Some a ↦ option_map (λ ns. a ∷ ns) (elim b [ None ↦ None | Some b ↦ option_map (λ ns. b ∷ ns) o ]) ]))
        (elim a [ None ↦ None | Some a ↦ elim b [ None ↦ None | Some b ↦ option_map (λ ps. (a, b) ∷ ps) (number_pairs ws) ] ])
    go None b o more = refl
    go (Some a) None o more = refl
    go (Some a) (Some b) None more = ap (option_map (λ ps. (a, b) ∷ ps)) more
    go (Some a) (Some b) (Some ns) more = ap (option_map (λ ps. (a, b) ∷ ps)) more

-- of an odd number of words one is left
odd_is_none : (n : ℕ) (words : List Word) → length words ≡ n + n + 1 → number_pairs words ≡ None
odd_is_none n [] e = absurd (omega arith)
odd_is_none n (v ∷ []) e = refl
odd_is_none zero (v ∷ w ∷ ws) e = absurd (omega arith)
odd_is_none (suc n) (v ∷ w ∷ ws) e = go (number_word v) (number_word w) (odd_is_none n ws (omega arith))
  where
    go : (a b : Option ℕ) → number_pairs ws ≡ None →
        ◌≡◌ {A = Option (List (ℕ × ℕ))}
        (elim a [ None ↦ None | Some a ↦ elim b [ None ↦ None | Some b ↦ option_map (λ ps. (a, b) ∷ ps) (number_pairs ws) ] ]) None
    go None b none = refl
    go (Some a) None none = refl
    go (Some a) (Some b) none = ap (option_map (λ ps. (a, b) ∷ ps)) none

-- ---- one of the sixteen forms
abbrev parts : List ℕ → Option Task
parts numbers = Some (alone (range (pairs_of numbers)))

abbrev of_files : Bool → Bool → Option Task → Option Task
of_files i o t = if i && o then t else None

at_no_option : (numbers : List ℕ) (words : List Word) → task_behind (range_row 0) (numbers, words) ≡ at_end parts numbers words
at_no_option numbers [] = refl
at_no_option numbers (w ∷ ws) = refl

abbrev behind_slots : Option (List ℕ × List Word) → Option Task
behind_slots r = elim r [ None ↦ None | Some read ↦ task_behind (range_row 0) read ]

files_read : (i o : Bool) (r : Option (List ℕ × List Word)) →
    behind_slots (then_slot (no_number i) (then_slot (no_number o) r)) ≡ of_files i o (of_read parts r)
files_read false o r = refl
files_read true false r = refl
files_read true true None = refl
files_read true true (Some read) = at_no_option read.0 read.1

form_read : (n : ℕ) (i o : Word) (words : List Word) →
    row_task (codes "range" ∷ i ∷ o ∷ words) (range_row n)
    ≡ of_files (is_file_word i) (is_file_word o) (of_read parts (read_slots (replicate (2 * n) number) words))
form_read n i o words = files_read (is_file_word i) (is_file_word o) (read_slots (replicate (2 * n) number) words)

no_files : (i o : Bool) → of_files i o None ≡ None
no_files true true = refl
no_files true false = refl
no_files false o = refl

other_form : (n : ℕ) (i o : Word) (words : List Word) → length words ≢ 2 * n → row_task (codes "range" ∷ i ∷ o ∷ words) (range_row n) ≡ None
other_form n i o words e =
    form_read n i o words ∙ ap (of_files (is_file_word i) (is_file_word o)) (none_read parts (2 * n) words e) ∙ no_files (is_file_word i) (is_file_word o)

paired_parts : (o : Option (List ℕ)) → of_numbers parts o ≡ option_map parts_task (paired o)
paired_parts None = refl
paired_parts (Some ns) = refl

own_form : (n : ℕ) (i o : Word) (words : List Word) → length words ≡ 2 * n →
    row_task (codes "range" ∷ i ∷ o ∷ words) (range_row n) ≡ of_files (is_file_word i) (is_file_word o) (option_map parts_task (number_pairs words))
own_form n i o words e =
    form_read n i o words
    ∙ ap (of_files (is_file_word i) (is_file_word o))
    (all_read parts (2 * n) words e ∙ paired_parts (numbers_in words) ∙ ap (option_map parts_task) (in_pairs n words (omega arith)))

few_words : (n : ℕ) (i : Word) → row_task (codes "range" ∷ i ∷ []) (range_row n) ≡ None
few_words n i = go (is_file_word i)
  where
    go : (b : Bool) → behind_slots (then_slot (no_number b) None) ≡ None
    go true = refl
    go false = refl

-- ---- the first form that reads the words
abbrev first_form : List Word → ℕ → ℕ → Option Task
first_form words k n = first_some (row_task words) (map range_row (range_with_len k n))

no_form : (words : List Word) (k n : ℕ) → ((j : ℕ) → k ≤ j → j < k + n → row_task words (range_row j) ≡ None) → first_form words k n ≡ None
no_form words k zero h = refl
no_form words k (suc n) h =
    ap (λ t. elim t [ Some y ↦ Some y | None ↦ first_form words (k + 1) n ]) (h k (omega arith) (omega arith))
    ∙ no_form words (k + 1) n (λ j least most. h j (omega arith) (omega arith))

one_form : (words : List Word) (k n j : ℕ) (t : Option Task) → k ≤ j → j < k + n → row_task words (range_row j) ≡ t →
    ((i : ℕ) → i ≢ j → row_task words (range_row i) ≡ None) → first_form words k n ≡ t
one_form words k zero j t least most own others = absurd (omega arith)
one_form words k (suc n) j t least most own others = go (k == j) refl (λ isnt. one_form words (k + 1) n j t (omega arith) (omega arith) own others)
  where
    behind : (t : Option Task) → first_form words (k + 1) n ≡ None → elim t [ Some y ↦ Some y | None ↦ first_form words (k + 1) n ] ≡ t
    behind None none = none
    behind (Some t) none = refl

    go : (b : Bool) → (k == j) ≡ b → (k ≢ j → first_form words (k + 1) n ≡ t) → first_form words k (suc n) ≡ t
    go true same later =
        let here : k ≡ j = eqb-true k j same in
        ap (λ t. elim t [ Some y ↦ Some y | None ↦ first_form words (k + 1) n ]) (ap (λ i. row_task words (range_row i)) here ∙ own)
        ∙ behind t (no_form words (k + 1) n (λ i from below. others i (omega arith)))
    go false other later =
        let isnt : k ≢ j = eqb-false k j other in
        ap (λ t. elim t [ Some y ↦ Some y | None ↦ first_form words (k + 1) n ]) (others k isnt) ∙ later isnt

-- ---- how many words pairs are
abbrev pub ArePairs : List Word → ℕ → Type 0
ArePairs words n = (1 ≤ n) × (n ≤ 16) × (length words ≡ 2 * n)

abbrev NoPairs : List Word → Type 0
NoPairs words = (n : ℕ) → 1 ≤ n → n ≤ 16 → length words ≢ 2 * n

pairs_or_none : (words : List Word) → ((n : ℕ) × ArePairs words n) ⊎ NoPairs words
pairs_or_none words = go (nat_lt (length words) 2) (nat_lt 32 (length words)) (length words % 2 == 0) refl refl refl
  where
    go : (a b c : Bool) → nat_lt (length words) 2 ≡ a → nat_lt 32 (length words) ≡ b → (length words % 2 == 0) ≡ c →
        ((n : ℕ) × ArePairs words n) ⊎ NoPairs words
    go true b c few many even = let h = ltb-true (length words) 2 few in inr (λ n least most same. omega arith)
    go false true c few many even = let h = ltb-true 32 (length words) many in inr (λ n least most same. omega arith)
    go false false true few many even =
        let least = ltb-false (length words) 2 few in
        let most = ltb-false 32 (length words) many in
        let half : length words % 2 ≡ 0 = eqb-true (length words % 2) 0 even in
        inl (length words / 2, (omega arith, omega arith, omega arith))
    go false false false few many even =
        let odd : length words % 2 ≢ 0 = eqb-false (length words % 2) 0 even in
        inr (λ n least most same. odd (omega arith))

pub are_pairs : (words : List Word) (n : ℕ) → ArePairs words n → pairs_in words ≡ number_pairs words
unfolding pairs_in
are_pairs words n h = rw (le-ltb (length words) 1 (omega arith), le-ltb 32 (length words) (omega arith)) refl

pub are_no_pairs : (words : List Word) → NoPairs words → pairs_in words ≡ None
unfolding pairs_in
are_no_pairs words none = go (nat_lt (length words) 1) (nat_lt 32 (length words)) (length words % 2 == 0) refl refl refl
  where
    go : (a b c : Bool) → nat_lt (length words) 1 ≡ a → nat_lt 32 (length words) ≡ b → (length words % 2 == 0) ≡ c →
        (if a || b then None else number_pairs words) ≡ None
    go true b c few many even = refl
    go false true c few many even = refl
    go false false true few many even =
        let least = ltb-false (length words) 1 few in
        let most = ltb-false 32 (length words) many in
        let half : length words % 2 ≡ 0 = eqb-true (length words % 2) 0 even in
        absurd (none (length words / 2) (omega arith) (omega arith) (omega arith))
    go false false false few many even =
        let odd : length words % 2 ≢ 0 = eqb-false (length words % 2) 0 even in
        odd_is_none (length words / 2) words (omega arith)

-- ---- the words of parts of the sound
pub range_row_read : (words : List Word) → task_of (codes "range" ∷ words) ≡ range_words words
unfolding task_of
range_row_read [] = refl
range_row_read (i ∷ []) = no_form (codes "range" ∷ i ∷ []) 1 16 (λ j least most. few_words j i)
range_row_read (i ∷ o ∷ words) = go (pairs_or_none words)
  where
    go : ((n : ℕ) × ArePairs words n) ⊎ NoPairs words → first_form (codes "range" ∷ i ∷ o ∷ words) 1 16 ≡ range_words (i ∷ o ∷ words)
    go (inl p) =
        let n = p.0 in
        one_form (codes "range" ∷ i ∷ o ∷ words) 1 16 n _ (omega arith) (omega arith) (own_form n i o words p.1.2)
        (λ m other. other_form m i o words (λ same. other (omega arith)))
        ∙ ap (λ t. of_files (is_file_word i) (is_file_word o) (option_map parts_task t)) (sym (are_pairs words n p.1))
    go (inr none) =
        no_form (codes "range" ∷ i ∷ o ∷ words) 1 16 (λ n least most. other_form n i o words (none n least (omega arith)))
        ∙ sym (ap (λ t. of_files (is_file_word i) (is_file_word o) (option_map parts_task t)) (are_no_pairs words none)
        ∙ no_files (is_file_word i) (is_file_word o))
