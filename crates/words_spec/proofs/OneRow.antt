-- No words have two rows.
use Rattle.std.proofs.Common.{◌≡◌, ℕ, zero, suc, ◌+◌, ◌==◌, Bool, true, false, if◌then◌else◌, List, [], ◌∷◌, ◌++◌, length, refl, ap, sym, ◌∙◌, arith, Option}
use Rattle.std.proofs.Common.{Some, None}
use Rattle.std.proofs.lemmas.Bool.Decides.{Decides-eqb}
use Rattle.std.proofs.lemmas.Slice.Eq.{bytes_eq-Decides}
use Rattle.std.specs.Option.{option_map}
use Rattle.std.specs.Prelude.{not, ◌&&◌, ◌||◌, bytes_eq, codes}
use Rattle.dsdiff_spec.specs.Words.{Word, Task}
use Rattle.words_spec.specs.Slots.{is_file_word, Slot, file, number, within, fixed, slot_numbers, read_slots, Setting, read_settings}
use Rattle.words_spec.specs.Rows.{Row, rows, task_with, task_behind, row_task}
use Rattle.words_spec.specs.Laws.{OneRowLaw}
use Rattle.dst_spec.proofs.Lists.{both_true}
use Prim.Native.String.{String}

no_truth : false ≡ true → ⊥
no_truth e = absurd cc

-- two slots that no word has: of a file, and of a text that names none
abbrev is_no_file : String → Bool
is_no_file text = not (is_file_word (codes text))

abbrev other_slots : Slot → Slot → Bool
other_slots file (fixed text) = is_no_file text
other_slots (fixed text) file = is_no_file text
other_slots s t = false

abbrev other_words : List Slot → List Slot → Bool
other_words (s ∷ ss) (t ∷ ts) = other_slots s t || other_words ss ts
other_words ss ts = false

-- two rows that no words have: of different names, with two such slots in one place, or without options and of different numbers
-- of words
abbrev has_none : List Setting → Bool
has_none [] = true
has_none (s ∷ ss) = false

abbrev apart : Row → Row → Bool
apart r s =
    not (bytes_eq (codes r.name) (codes s.name))
    || other_words r.slots s.slots
    || (has_none r.settings && has_none s.settings && not (length r.slots == length s.slots))

abbrev apart_from_all : Row → List Row → Bool
apart_from_all r [] = true
apart_from_all r (s ∷ ss) = apart r s && apart_from_all r ss

abbrev all_apart : List Row → Bool
all_apart [] = true
all_apart (r ∷ rs) = apart_from_all r rs && all_apart rs

rows_are_apart : all_apart rows ≡ true
rows_are_apart = refl

one_is_apart : (r s : Row) (between behind : List Row) → apart_from_all r (between ++ s ∷ behind) ≡ true → apart r s ≡ true
one_is_apart r s [] behind e = (both_true _ _ e).0
one_is_apart r s (b ∷ between) behind e = one_is_apart r s between behind (both_true _ _ e).1

two_are_apart : (before between behind : List Row) (r s : Row) → all_apart (before ++ r ∷ between ++ s ∷ behind) ≡ true → apart r s ≡ true
two_are_apart [] between behind r s e = one_is_apart r s between behind (both_true _ _ e).0
two_are_apart (b ∷ before) between behind r s e = two_are_apart before between behind r s (both_true _ _ e).1

-- slots take as many words as they are; the others are behind them
as_many : (slots : List Slot) (words : List Word) (read : List ℕ × List Word) → read_slots slots words ≡ Some read → length words ≡ length slots + length read.1
as_many [] words read e =
    let same : words ≡ read.1 = cc in
    omega (arith, ap length same)
as_many (s ∷ ss) [] read e = absurd cc
as_many (s ∷ ss) (w ∷ ws) read e = numbers (λ r is. as_many ss ws r is) (slot_numbers s w) e
  where
    behind : ((r : List ℕ × List Word) → read_slots ss ws ≡ Some r → length ws ≡ length ss + length r.1) → (ns : List ℕ) (r : Option (List ℕ × List Word)) →
        read_slots ss ws ≡ r →
        option_map (λ r. (ns ++ r.0, r.1)) r ≡ Some read → length (w ∷ ws) ≡ length (s ∷ ss) + length read.1
    behind more ns None is h = absurd cc
    behind more ns (Some r) is h =
        let same : r.1 ≡ read.1 = cc in
        omega (arith, more r is, ap length same)

    numbers : ((r : List ℕ × List Word) → read_slots ss ws ≡ Some r → length ws ≡ length ss + length r.1) → (o : Option (List ℕ)) →
        elim o [ None ↦ None | Some ns ↦ option_map (λ r. (ns ++ r.0, r.1)) (read_slots ss ws) ] ≡ Some read → length (w ∷ ws) ≡ length (s ∷ ss) + length read.1
    numbers more None h = absurd cc
    numbers more (Some ns) h = behind more ns (read_slots ss ws) refl h

-- where a row has no options, nothing stands behind its slots
none_behind : (n : ℕ) (settings : List Setting) (words : List Word) (found : List (Word × ℕ)) → n ≡ 0 → read_settings n settings words ≡ Some found →
    length words ≡ 0
none_behind n settings [] found z e = refl
none_behind zero settings (w ∷ ws) found z e = absurd cc
none_behind (suc n) settings (w ∷ ws) found z e = absurd (omega arith)

behind_slots : (r : Row) (read : List ℕ × List Word) (c : Task) → task_behind r read ≡ Some c → length r.settings ≡ 0 → length read.1 ≡ 0
behind_slots r read c e none = go (read_settings (length r.settings) r.settings read.1) refl e
  where
    go : (o : Option (List (Word × ℕ))) → read_settings (length r.settings) r.settings read.1 ≡ o →
        elim o [ None ↦ None | Some found ↦ option_map (task_with found) (r.command read.0 found) ] ≡ Some c → length read.1 ≡ 0
    go None is h = absurd cc
    go (Some found) is h = none_behind (length r.settings) r.settings read.1 found none is

-- words that two lists of slots have, so that at no place one is a file's and the other a text that names none
file_and_text : (text : String) (w : Word) (m n : List ℕ) → slot_numbers file w ≡ Some m → slot_numbers (fixed text) w ≡ Some n → is_no_file text ≡ false
file_and_text text w m n e f = go (is_file_word w) (bytes_eq w (codes text)) refl refl e f
  where
    go : (b c : Bool) → is_file_word w ≡ b → bytes_eq w (codes text) ≡ c → (if b then Some [] else None) ≡ Some m → (if c then Some [] else None) ≡ Some n →
        is_no_file text ≡ false
    go true true names same h i =
        let word : w ≡ codes text = (bytes_eq-Decides w (codes text)).0 same in
        ap not (sym (ap is_file_word word) ∙ names)
    go false c names same h i = absurd cc
    go true false names same h i = absurd cc

one_slot : (s t : Slot) (w : Word) (m n : List ℕ) → slot_numbers s w ≡ Some m → slot_numbers t w ≡ Some n → other_slots s t ≡ false
one_slot file (fixed text) w m n e f = file_and_text text w m n e f
one_slot (fixed text) file w m n e f = file_and_text text w n m f e
one_slot file file w m n e f = refl
one_slot file number w m n e f = refl
one_slot file (within a b) w m n e f = refl
one_slot number t w m n e f = refl
one_slot (within a b) t w m n e f = refl
one_slot (fixed text) number w m n e f = refl
one_slot (fixed text) (within a b) w m n e f = refl
one_slot (fixed text) (fixed other) w m n e f = refl

-- the first word's numbers, and what the others give
slots_behind : (s : Slot) (ss : List Slot) (w : Word) (ws : List Word) (read : List ℕ × List Word) → read_slots (s ∷ ss) (w ∷ ws) ≡ Some read →
    ((ns : List ℕ) × (slot_numbers s w ≡ Some ns)) × ((more : List ℕ × List Word) × (read_slots ss ws ≡ Some more))
slots_behind s ss w ws read e = go (slot_numbers s w) (read_slots ss ws) refl refl e
  where
    go : (o : Option (List ℕ)) (r : Option (List ℕ × List Word)) → slot_numbers s w ≡ o → read_slots ss ws ≡ r →
        elim o [ None ↦ None | Some ns ↦ option_map (λ r. (ns ++ r.0, r.1)) r ] ≡ Some read →
        ((ns : List ℕ) × (slot_numbers s w ≡ Some ns)) × ((more : List ℕ × List Word) × (read_slots ss ws ≡ Some more))
    go None r is are h = absurd cc
    go (Some ns) None is are h = absurd cc
    go (Some ns) (Some more) is are h = ((ns, is), (more, are))

both_false : (a b : Bool) → a ≡ false → b ≡ false → (a || b) ≡ false
both_false a b e f = ap (λ a. a || b) e ∙ f

one_list_of_slots : (ss ts : List Slot) (words : List Word) (m n : List ℕ × List Word) → read_slots ss words ≡ Some m → read_slots ts words ≡ Some n →
    other_words ss ts ≡ false
one_list_of_slots [] ts words m n e f = refl
one_list_of_slots (s ∷ ss) [] words m n e f = refl
one_list_of_slots (s ∷ ss) (t ∷ ts) [] m n e f = absurd cc
one_list_of_slots (s ∷ ss) (t ∷ ts) (w ∷ ws) m n e f =
    let a = slots_behind s ss w ws m e in
    let b = slots_behind t ts w ws n f in
    both_false (other_slots s t) (other_words ss ts) (one_slot s t w a.0.0 b.0.0 a.0.1 b.0.1) (one_list_of_slots ss ts ws a.1.0 b.1.0 a.1.1 b.1.1)

abbrev IsRead : List Word → Row → Type 0
IsRead words r =
    ((read : List ℕ × List Word) × (read_slots r.slots words ≡ Some read)) × (length r.settings ≡ 0 → length words ≡ length r.slots)

-- words of a row have its name and are read by its slots, and without options they are as many as the slots
suits_row : (name : Word) (words : List Word) (r : Row) (c : Task) → row_task (name ∷ words) r ≡ Some c →
    (name ≡ codes r.name) × IsRead words r
suits_row name words r c e = named (bytes_eq name (codes r.name)) refl e
  where
    counted : (o : Option (List ℕ × List Word)) → read_slots r.slots words ≡ o → elim o [ None ↦ None | Some read ↦ task_behind r read ] ≡ Some c →
        IsRead words r
    counted None is h = absurd cc
    counted (Some read) is h = (
      (read, is),
      λ none.
          let all = as_many r.slots words read is in
          let rest = behind_slots r read c h none in
          omega (arith, all, rest),
    )

    named : (b : Bool) → bytes_eq name (codes r.name) ≡ b →
        (if b then elim (read_slots r.slots words) [ None ↦ None | Some read ↦ task_behind r read ] else None) ≡ Some c →
        (name ≡ codes r.name) × IsRead words r
    named true is h = ((bytes_eq-Decides name (codes r.name)).0 is, counted (read_slots r.slots words) refl h)
    named false is h = absurd cc

pub one_row : OneRowLaw
one_row [] before between behind r s c d all e f = absurd cc
one_row (name ∷ words) before between behind r s c d all e f =
    let a = suits_row name words r c e in
    let b = suits_row name words s d f in
    let different = two_are_apart before between behind r s (ap all_apart (sym all) ∙ rows_are_apart) in
    let same_name : bytes_eq (codes r.name) (codes s.name) ≡ true = (bytes_eq-Decides (codes r.name) (codes s.name)).1 (sym a.0 ∙ b.0) in
    neither r.settings s.settings _ _ _ same_name (one_list_of_slots r.slots s.slots words a.1.0.0 b.1.0.0 a.1.0.1 b.1.0.1)
    (λ p q. (Decides-eqb (length r.slots) (length s.slots)).1 (sym (a.1.1 p) ∙ b.1.1 q)) different
  where
    neither : (m n : List Setting) (p o q : Bool) → p ≡ true → o ≡ false → (length m ≡ 0 → length n ≡ 0 → q ≡ true) →
        (not p || o || (has_none m && has_none n && not q)) ≡ true → ⊥
    neither [] [] true false true h k i j = no_truth j
    neither [] [] true false false h k i j = no_truth (i refl refl)
    neither (x ∷ m) n true false q h k i j = no_truth j
    neither [] (x ∷ n) true false q h k i j = no_truth j
    neither m n false o q h k i j = no_truth h
    neither m n true true q h k i j = no_truth (sym k)
