-- What the words behind a row's name ask for.
use Rattle.std.specs.Prelude.{ℕ, ◌≤◌, Bool, ◌&&◌, if◌then◌else◌, List, [], ◌∷◌, length, Option, Some, None, option_map}
use Rattle.dsdiff_spec.specs.Bytes.{◌is◌, ◌above◌}
use Rattle.dsdiff_spec.specs.Origin.{outside}
use Rattle.dsdiff_spec.specs.Words.{Word, Command, Task, show, index, encode, decode, cut, check, make, make_run, encode_dsf, decode_dsf, range}
use Rattle.words_spec.specs.Slots.{Slot, file, number, is_file_word, number_word}
use Rattle.words_spec.specs.Slots.{number_within, read_slots, Setting, level, workers, allowed_value, by_index, rate, read_settings}
use Rattle.words_spec.specs.Rows.{level_of, workers_of, multiple_of, is_set, frame_of, show_frame_of, task_with}

-- the numbers in the slots, and what is made of them and of the words behind
abbrev pub of_slots : List Slot → (List ℕ → List Word → Option Task) → List Word → Option Task
of_slots slots f words = elim (read_slots slots words) [ None ↦ None | Some read ↦ f read.0 read.1 ]

abbrev pub of_settings : List Setting → (List (Word × ℕ) → Option Command) → List Word → Option Task
of_settings settings f words = elim (read_settings (length settings) settings words) [ None ↦ None | Some o ↦ option_map (task_with o) (f o) ]

-- the value of the one option of a row
abbrev pub workers_in : List Word → Option ℕ
workers_in words = option_map workers_of (read_settings 1 (workers ∷ []) words)

-- the values of two of a row
unfoldable pub level_and_workers_in : List Word → Option (ℕ × ℕ)
level_and_workers_in words = option_map (λ o. (level_of o, workers_of o)) (read_settings 2 (level ∷ workers ∷ []) words)

-- a level and a number of workers, each in a word
unfoldable pub level_and_workers : Word → Word → Option (ℕ × ℕ)
level_and_workers l w = elim (allowed_value level l) [ None ↦ None | Some n ↦ option_map (λ m. (n, m)) (allowed_value workers w) ]

-- a level, 0 to 3, and a number of workers, 1 to 16
abbrev pub AreAllowed : ℕ × ℕ → Type 0
AreAllowed set = (set.0 ≤ 3) × (1 ≤ set.1) × (set.1 ≤ 16)

abbrev pub by_index_in : List Word → Option Bool
by_index_in words = option_map (is_set "--by-index") (read_settings 1 (by_index ∷ []) words)

abbrev pub multiple_in : List Word → Option ℕ
multiple_in words = option_map multiple_of (read_settings 1 (rate ∷ []) words)

-- two numbers of which the first isn't above the second
unfoldable pub span_in : Word → Word → Option (ℕ × ℕ)
span_in first last = elim (number_word first) [
  | None ↦ None
  | Some a ↦ elim (number_word last) [ None ↦ None | Some b ↦ if a above b then None else Some (a, b) ]
]

-- channels, and their rate in multiples of 64 times 44.1 kHz
unfoldable pub channels_in : Word → List Word → Option (ℕ × ℕ)
channels_in count options = elim (number_within 1 6 count) [ None ↦ None | Some n ↦ option_map (λ m. (n, m)) (multiple_in options) ]

-- pairs of numbers, 1 to 16 of them
abbrev pub number_pairs : List Word → Option (List (ℕ × ℕ))
number_pairs [] = Some []
number_pairs (from ∷ []) = None
number_pairs (from ∷ count ∷ words) = elim (number_word from) [
  | None ↦ None
  | Some a ↦ elim (number_word count) [ None ↦ None | Some n ↦ option_map (λ pairs. (a, n) ∷ pairs) (number_pairs words) ]
]

unfoldable pub pairs_in : List Word → Option (List (ℕ × ℕ))
pairs_in words = if outside 1 32 (length words) then None else number_pairs words

-- a command at which one works
abbrev pub alone : Command → Task
alone c = record { command = c; workers = 1 }

-- the words of each row; `show` and `make` have two
abbrev pub coding_task : (ℕ → Command) → ℕ × ℕ → Task
coding_task at set = record { command = at set.0; workers = set.1 }

abbrev pub coding_words : (ℕ → Command) → List Word → Option Task
coding_words at = of_slots (file ∷ file ∷ []) (λ n words. option_map (coding_task at) (level_and_workers_in words))

abbrev pub encode_words : List Word → Option Task
encode_words = coding_words encode

abbrev pub encode_dsf_words : List Word → Option Task
encode_dsf_words = coding_words encode_dsf

abbrev pub cutting_task : ℕ × ℕ → Task
cutting_task span = alone (cut span.0 span.1)

abbrev pub cut_words : List Word → Option Task
cut_words (input ∷ output ∷ first ∷ last ∷ []) =
    if is_file_word input && is_file_word output then option_map cutting_task (span_in first last) else None
cut_words words = None

abbrev pub parts_task : List (ℕ × ℕ) → Task
parts_task pairs = alone (range pairs)

abbrev pub range_words : List Word → Option Task
range_words (input ∷ output ∷ numbers) = if is_file_word input && is_file_word output then option_map parts_task (pairs_in numbers) else None
range_words words = None

abbrev pub decode_words : List Word → Option Task
decode_words = of_slots (file ∷ file ∷ []) (λ n. of_settings (workers ∷ []) (λ o. Some decode))

abbrev pub decode_dsf_words : List Word → Option Task
decode_dsf_words = of_slots (file ∷ file ∷ []) (λ n. of_settings (workers ∷ []) (λ o. Some decode_dsf))

abbrev pub frame_words : List Word → Option Task
frame_words = of_slots (file ∷ file ∷ number ∷ []) (λ n. of_settings (by_index ∷ []) (λ o. frame_of (is_set "--by-index" o) n))

abbrev pub check_words : List Word → Option Task
check_words = of_slots (file ∷ []) (λ n. of_settings (workers ∷ []) (λ o. Some check))

abbrev pub show_words : List Word → Option Task
show_words words = elim (of_slots (file ∷ []) (λ n. of_settings [] (λ o. Some show)) words) [
  | Some t ↦ Some t
  | None ↦ of_slots (file ∷ number ∷ []) (λ n. of_settings [] (λ o. show_frame_of n)) words
]

abbrev pub index_words : List Word → Option Task
index_words = of_slots (file ∷ []) (λ n. of_settings [] (λ o. Some index))

abbrev pub making_task : ℕ → ℕ × ℕ → ℕ → Task
making_task start channels frames = alone (make start frames channels.0 channels.1)

abbrev pub running_task : ℕ → ℕ × ℕ → ℕ → Task
running_task start channels frames = alone (make_run start frames channels.0 channels.1)

-- made sound in a place, in so many frames
abbrev pub made_words : ℕ → ℕ × ℕ → Word → Word → Option Task
made_words start channels place frames =
    if place is "--run" then option_map (running_task start channels) (number_within 0 100 frames)
    else (if is_file_word place then option_map (making_task start channels) (number_within 0 1000 frames) else None)

abbrev pub make_words : List Word → Option Task
make_words (start ∷ place ∷ frames ∷ count ∷ options) = elim (number_word start) [
  | None ↦ None
  | Some s ↦ elim (channels_in count options) [ None ↦ None | Some channels ↦ made_words s channels place frames ]
]
make_words words = None
