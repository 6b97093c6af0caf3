-- What a sink holds while a coded file isn't finished. Its two size fields are written last, that of `DST ` first and then that of
-- `FRM8`; until then each is 0.
use Rattle.std.specs.Prelude.{◌≡◌, ◌⊎◌, ℕ, ◌+◌, ◌≤◌, List, [], ◌++◌, length, take, drop, replicate, Option, Some, None, Result, Ok, Err}
use Rattle.std.specs.List.{concat}
use Rattle.byteorder.specs.Endian.{big_bytes}
use Rattle.dst_streams.specs.Told.{written_over, IsOpenIn, IsSameOutside}
use Rattle.dsdiff_spec.specs.Form.{Form}
use Rattle.dsdiff_spec.specs.Coded.{coded_before}

-- a sink that tells what it holds, and holds nothing
abbrev pub HoldsNothing : Option (List ℕ) → Type 0
HoldsNothing None = Unit {0}
HoldsNothing (Some bytes) = bytes ≡ []

-- the places of the two size fields: behind the form's id, and behind that of `DST `, in front of which the chunks before the sound stand
abbrev pub form_size_place : ℕ
form_size_place = 4

abbrev pub sound_size_place : List ℕ → Form → ℕ
sound_size_place file form = 16 + length (concat (coded_before file form)) + 4

-- a size field that isn't written yet
abbrev pub zero_at : ℕ → List ℕ → List ℕ
zero_at place out = take place out ++ replicate 8 0 ++ drop (place + 8) out

-- The output up to some place with both fields 0; or whole, while the size of `DST ` is written and that of the form is 0; or whole, while
-- that of the form is written. A field that is being written may hold anything.
abbrev pub IsUnfinished : ℕ → List ℕ → List ℕ → Type 0
IsUnfinished place out held =
    ((taken : ℕ) × (taken ≤ length out) × (held ≡ take taken (zero_at form_size_place (zero_at place out))))
    ⊎ IsSameOutside place 8 (zero_at form_size_place out) held
    ⊎ IsSameOutside form_size_place 8 out held

-- where the sink tells what it holds
abbrev pub HoldsUnfinished : ℕ → List ℕ → Option (List ℕ) → Type 0
HoldsUnfinished place out None = Unit {0}
HoldsUnfinished place out (Some held) = IsUnfinished place out held

-- ---- the two sizes, written over their zeros: first that of the sound, then that of the form; one of the two fields is open where the sink fails
abbrev pub sized : ℕ → ℕ → ℕ → Option (List ℕ) → Option (List ℕ)
sized place sound form old = written_over (written_over old place (big_bytes 8 sound)) form_size_place (big_bytes 8 form)

abbrev pub SizesEnd : {T E : Type 0} → Result T E → (place sound form : ℕ) → (old new : Option (List ℕ)) → Type 0
SizesEnd (Ok u) place sound form old new = new ≡ sized place sound form old
SizesEnd (Err fault) place sound form old new =
    IsOpenIn place 8 old new ⊎ IsOpenIn form_size_place 8 (written_over old place (big_bytes 8 sound)) new
