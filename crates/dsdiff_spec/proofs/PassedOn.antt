-- Chunks that decoding passes on, one after the other: what is written of the first j chunks of a form.
use Rattle.std.proofs.Common.{◌≡◌, ℕ, ◌+◌, ◌<◌, Bool, true, false, if◌then◌else◌, List, [], ◌∷◌, ◌++◌, length, take, drop, get_or, map, filter, refl, ap, sym}
use Rattle.std.proofs.Common.{◌∙◌, append-nil, take-append-drop}
use Rattle.std.specs.Prelude.{not, ◌&&◌, ◌||◌}
use Rattle.std.specs.List.{concat}
use Rattle.std.proofs.lemmas.List.{take_more, map-append}
use Rattle.std.proofs.lemmas.List.Elements.{filter-append}
use Rattle.std.proofs.lemmas.List.Folds.{concat-append}
use Rattle.dsdiff_spec.specs.Bytes.{◌is◌, ◌below◌, ◌above◌}
use Rattle.dsdiff_spec.specs.Chunks.{Head}
use Rattle.dsdiff_spec.specs.Form.{Form, whole_chunk}
use Rattle.dsdiff_spec.specs.Written.{prop_with}
use Rattle.dsdiff_spec.specs.Decoded.{decoded_before, plain_cmpr}
use Rattle.dsdiff_spec.specs.Pieces.{decoded_behind}

-- what is written of chunks, each of which may be left out
abbrev pub passed : (Head → Bool) → (Head → List ℕ) → List Head → List ℕ
passed goes bytes heads = concat (map bytes (filter goes heads))

-- the chunks that are passed on, before the sound and behind it, and what is written of each
abbrev pub goes_before : Form → Head → Bool
goes_before form h = h.place below form.sound.place && not (h.id is "DSTI" || h.id is "KEPT")

abbrev pub goes_behind : Form → Head → Bool
goes_behind form h = h.place above form.sound.place && not (h.id is "DSTI" || h.id is "KEPT")

abbrev pub passed_chunk : List ℕ → Form → Head → List ℕ
passed_chunk file form h = if h.id is "PROP" then prop_with form.prop (plain_cmpr form.origin) else whole_chunk file form h

pub before_is_passed : (file : List ℕ) (form : Form) → concat (decoded_before file form) ≡ passed (goes_before form) (passed_chunk file form) form.chunks
before_is_passed file form = refl

pub behind_is_passed : (file : List ℕ) (form : Form) → concat (decoded_behind file form) ≡ passed (goes_behind form) (passed_chunk file form) form.chunks
behind_is_passed file form = refl

-- of two parts of the chunks, and of one chunk
pub passed_of_parts : (goes : Head → Bool) (bytes : Head → List ℕ) (a b : List Head) → passed goes bytes (a ++ b) ≡ passed goes bytes a ++ passed goes bytes b
passed_of_parts goes bytes a b =
    ap (λ hs. concat (map bytes hs)) (filter-append goes a b)
    ∙ ap concat (map-append bytes (filter goes a) (filter goes b))
    ∙ concat-append (map bytes (filter goes a)) (map bytes (filter goes b))

passed_alone : (goes : Head → Bool) (bytes : Head → List ℕ) (h : Head) → passed goes bytes (h ∷ []) ≡ (if goes h then bytes h else [])
passed_alone goes bytes h = go (goes h)
  where
    go : (b : Bool) → concat (map bytes (if b then h ∷ [] else [])) ≡ (if b then bytes h else [])
    go true = append-nil (bytes h)
    go false = refl

-- of the first j chunks, and of one more
pub passed_in_front : (goes : Head → Bool) (bytes : Head → List ℕ) (heads : List Head) (j : ℕ) →
    passed goes bytes heads ≡ passed goes bytes (take j heads) ++ passed goes bytes (drop j heads)
passed_in_front goes bytes heads j = ap (passed goes bytes) (sym (take-append-drop j heads)) ∙ passed_of_parts goes bytes (take j heads) (drop j heads)

pub passed_more : (goes : Head → Bool) (bytes : Head → List ℕ) (heads : List Head) (j : ℕ) (d : Head) → j < length heads →
    passed goes bytes (take (j + 1) heads) ≡ passed goes bytes (take j heads) ++ (if goes (get_or heads j d) then bytes (get_or heads j d) else [])
passed_more goes bytes heads j d l =
    let h = get_or heads j d in
    ap (passed goes bytes) (take_more heads j d l)
    ∙ passed_of_parts goes bytes (take j heads) (h ∷ [])
    ∙ ap (λ w. passed goes bytes (take j heads) ++ w) (passed_alone goes bytes h)
