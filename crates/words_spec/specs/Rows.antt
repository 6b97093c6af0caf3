-- The rows of commands: name, words, options, and the command of their numbers and settings. How many work at a command is an option of
-- its row, and one does else.
use Rattle.std.specs.Prelude.{ℕ, ◌*◌, ◌/◌, Bool, ◌==◌, if◌then◌else◌, List, [], ◌∷◌, length, map, replicate, Option, Some, None, option_map}
use Rattle.std.specs.List.{range_with_len}
use Rattle.dsdiff_spec.specs.Bytes.{◌is◌, ◌above◌}
use Rattle.dsdiff_spec.specs.Faults.{first_some}
use Rattle.dsdiff_spec.specs.Words.{Word, Command, Task, encode, decode, cut, frame, check, show, show_frame, index, make, make_run, encode_dsf}
use Rattle.dsdiff_spec.specs.Words.{decode_dsf, range}
use Rattle.words_spec.specs.Slots.{Slot, file, number}
use Rattle.words_spec.specs.Slots.{within, fixed, read_slots, Setting, level, workers, by_index, rate, read_settings, set_or}
use Prim.Native.String.{String}

pub record Row : Type 0 where
  pub name : String
  pub slots : List Slot
  pub settings : List Setting
  pub command : List ℕ → List (Word × ℕ) → Option Command

abbrev pub workers_of : List (Word × ℕ) → ℕ
workers_of o = set_or "--workers" 1 o

abbrev pub level_of : List (Word × ℕ) → ℕ
level_of o = set_or "--level" 1 o

abbrev pub is_set : String → List (Word × ℕ) → Bool
is_set name o = set_or name 0 o == 1

-- rates are multiples of 64 times 44.1 kHz
abbrev pub multiple_of : List (Word × ℕ) → ℕ
multiple_of o = set_or "--rate" 64 o / 64

-- commands of the numbers in a row
abbrev pub frame_of : Bool → List ℕ → Option Command
frame_of b (k ∷ []) = Some (frame k b)
frame_of b numbers = None

abbrev pub show_frame_of : List ℕ → Option Command
show_frame_of (k ∷ []) = Some (show_frame k)
show_frame_of numbers = None

abbrev pub cut_of : List ℕ → Option Command
cut_of (first ∷ last ∷ []) = if first above last then None else Some (cut first last)
cut_of numbers = None

abbrev pub make_of : ℕ → List ℕ → Option Command
make_of multiple (start ∷ frames ∷ channels ∷ []) = Some (make start frames channels multiple)
make_of multiple numbers = None

abbrev pub make_run_of : ℕ → List ℕ → Option Command
make_run_of multiple (start ∷ frames ∷ channels ∷ []) = Some (make_run start frames channels multiple)
make_run_of multiple numbers = None

-- numbers in pairs
abbrev pub pairs_of : List ℕ → List (ℕ × ℕ)
pairs_of (from ∷ count ∷ numbers) = (from, count) ∷ pairs_of numbers
pairs_of numbers = []

-- the rows: name, words behind it, options, and the command of the numbers and settings that stand in them
abbrev row : String → List Slot → List Setting → (List ℕ → List (Word × ℕ) → Option Command) → Row
row name slots settings command = record { name = name; slots = slots; settings = settings; command = command }

-- parts of the sound, which are so many pairs of numbers
abbrev pub range_row : ℕ → Row
range_row pairs = row "range" (file ∷ file ∷ replicate (2 * pairs) number) [] (λ n o. Some (range (pairs_of n)))

abbrev pub rows : List Row
rows =
    row "encode" (file ∷ file ∷ []) (level ∷ workers ∷ []) (λ n o. Some (encode (level_of o)))
    ∷ row "decode" (file ∷ file ∷ []) (workers ∷ []) (λ n o. Some decode)
    ∷ row "cut" (file ∷ file ∷ number ∷ number ∷ []) [] (λ n o. cut_of n)
    ∷ row "frame" (file ∷ file ∷ number ∷ []) (by_index ∷ []) (λ n o. frame_of (is_set "--by-index" o) n)
    ∷ row "check" (file ∷ []) (workers ∷ []) (λ n o. Some check)
    ∷ row "show" (file ∷ []) [] (λ n o. Some show)
    ∷ row "show" (file ∷ number ∷ []) [] (λ n o. show_frame_of n)
    ∷ row "index" (file ∷ []) [] (λ n o. Some index)
    ∷ row "make" (number ∷ file ∷ within 0 1000 ∷ within 1 6 ∷ []) (rate ∷ []) (λ n o. make_of (multiple_of o) n)
    ∷ row "make" (number ∷ fixed "--run" ∷ within 0 100 ∷ within 1 6 ∷ []) (rate ∷ []) (λ n o. make_run_of (multiple_of o) n)
    ∷ row "encode-dsf" (file ∷ file ∷ []) (level ∷ workers ∷ []) (λ n o. Some (encode_dsf (level_of o)))
    ∷ row "decode-dsf" (file ∷ file ∷ []) (workers ∷ []) (λ n o. Some decode_dsf)
    ∷ map range_row (range_with_len 1 16)

-- the task of words that are a row
abbrev pub task_with : List (Word × ℕ) → Command → Task
task_with o c = record { command = c; workers = workers_of o }

abbrev pub task_behind : Row → List ℕ × List Word → Option Task
task_behind row read = elim (read_settings (length row.settings) row.settings read.1) [
  | None ↦ None
  | Some o ↦ option_map (task_with o) (row.command read.0 o)
]

abbrev pub row_task : List Word → Row → Option Task
row_task [] row = None
row_task (name ∷ words) row =
    if name is row.name then elim (read_slots row.slots words) [ None ↦ None | Some read ↦ task_behind row read ] else None

-- the task of the row that has these words, and its command; no two rows have the same words
unfoldable pub task_of : List Word → Option Task
task_of words = first_some (row_task words) rows

abbrev pub command_of : List Word → Option Command
command_of words = option_map (λ t. t.command) (task_of words)
