-- The words of a command line: which are of a kind, and what they set.
use Rattle.std.specs.Prelude.{ℕ, zero, suc, ◌+◌, ◌-◌, ◌*◌, Bool, true, false, not, ◌&&◌, ◌||◌, ◌==◌, if◌then◌else◌, List, [], ◌∷◌, ◌++◌, length, fold, filter}
use Rattle.std.specs.Prelude.{find, Option, Some, None, option_map}
use Rattle.std.specs.List.{list_all}
use Rattle.dsdiff_spec.specs.Bytes.{◌is◌, ◌above◌}
use Rattle.dsdiff_spec.specs.Origin.{outside}
use Rattle.dsdiff_spec.specs.Words.{Word}
use Prim.Native.String.{String}

-- ---- words of a kind
abbrev pub is_digit : ℕ → Bool
is_digit c = not (outside 48 57 c)

-- `0`, or a digit 1 to 9 followed by any number of digits, at most 4,294,967,295
abbrev pub is_numeral : Word → Bool
is_numeral [] = false
is_numeral (c ∷ cs) = (c == 48 && length cs == 0) || (not (outside 49 57 c) && list_all is_digit cs)

abbrev pub numeral_value : Word → ℕ
numeral_value w = fold (λ n c. 10 * n + (c - 48)) 0 w

abbrev pub number_word : Word → Option ℕ
number_word w = if is_numeral w && not (numeral_value w above 4294967295) then Some (numeral_value w) else None

abbrev pub number_within : ℕ → ℕ → Word → Option ℕ
number_within least most w = elim (number_word w) [ None ↦ None | Some n ↦ if outside least most n then None else Some n ]

-- not empty, and doesn't begin with `-`
abbrev pub is_file_word : Word → Bool
is_file_word [] = false
is_file_word (c ∷ cs) = not (c == 45)

-- ---- the words of a row behind its name, in order: what each may be, and the numbers that they give
pub data Slot : Type 0 where
  file : Slot
  number : Slot
  within : (least most : ℕ) → Slot
  fixed : (text : String) → Slot

abbrev pub slot_numbers : Slot → Word → Option (List ℕ)
slot_numbers file w = if is_file_word w then Some [] else None
slot_numbers number w = option_map (λ n. n ∷ []) (number_word w)
slot_numbers (within least most) w = option_map (λ n. n ∷ []) (number_within least most w)
slot_numbers (fixed text) w = if w is text then Some [] else None

-- the numbers of the slots' words, and the words behind them
abbrev pub read_slots : List Slot → List Word → Option (List ℕ × List Word)
read_slots [] words = Some ([], words)
read_slots (s ∷ ss) [] = None
read_slots (s ∷ ss) (w ∷ ws) = elim (slot_numbers s w) [
  | None ↦ None
  | Some ns ↦ option_map (λ r. (ns ++ r.0, r.1)) (read_slots ss ws)
]

-- ---- options, which stand behind all other words, in any order, each at most once
-- an option has the values that it allows in the word behind it, or no value
pub record Setting : Type 0 where
  pub name : String
  pub has_value : Bool
  pub allows : ℕ → Bool

abbrev pub workers : Setting
workers = record { name = "--workers"; has_value = true; allows = λ n. not (outside 1 16 n) }

abbrev pub level : Setting
level = record { name = "--level"; has_value = true; allows = λ n. not (n above 3) }

abbrev pub by_index : Setting
by_index = record { name = "--by-index"; has_value = false; allows = λ n. false }

abbrev pub rate : Setting
rate = record { name = "--rate"; has_value = true; allows = λ n. n == 64 || n == 128 || n == 256 }

-- an option's value, and the words behind it
abbrev pub allowed_value : Setting → Word → Option ℕ
allowed_value s w = elim (number_word w) [ None ↦ None | Some n ↦ if s.allows n then Some n else None ]

abbrev pub setting_value : Setting → List Word → Option (ℕ × List Word)
setting_value s words = if s.has_value then value_word words else Some (1, words)
  where
    value_word : List Word → Option (ℕ × List Word)
    value_word [] = None
    value_word (w ∷ ws) = option_map (λ n. (n, ws)) (allowed_value s w)

-- what the words set by options of a list, at most n of them
abbrev pub read_settings : ℕ → List Setting → List Word → Option (List (Word × ℕ))
read_settings n settings [] = Some []
read_settings zero settings (w ∷ ws) = None
read_settings (suc n) settings (w ∷ ws) = elim (find (λ s. w is s.name) settings) [
  | None ↦ None
  | Some s ↦ elim (setting_value s ws) [
    | None ↦ None
    | Some r ↦ option_map (λ found. (w, r.0) ∷ found) (read_settings n (filter (λ t. not (w is t.name)) settings) r.1)
  ]
]

-- the value that is set, or else another
abbrev pub set_or : String → ℕ → List (Word × ℕ) → ℕ
set_or name n [] = n
set_or name n (s ∷ found) = if s.0 is name then s.1 else set_or name n found
