-- Parts of a sound: what is written in front of the first refused frame, and of all parts, is one list of bytes, since the form has one sound.
use Rattle.std.proofs.Common.{◌≡◌, ◌⊎◌, inl, inr, ℕ, List, [], ◌∷◌, length, map, refl, ap, ◌∙◌}
use Rattle.dsdiff_spec.specs.Form.{Form, shape}
use Rattle.dsdiff_spec.specs.Ranges.{Sound, Want, wants, range_of, range_before, place_of}
use Rattle.dsdiff_spec.specs.Words.{range}
use Rattle.dsdiff_spec.specs.Lines.{range_line}
use Rattle.dsdiff_spec.specs.Outcome.{done, nth_frame, Does}
use Rattle.dsdiff_spec.proofs.Settling.{OffendsOnce, OffendsNever, offends_or_not}
use Rattle.dsdiff_spec.proofs.Stopping.{One, IsSettled, AreSettled, WritesOne}

pub parts_are_settled : (pairs : List (ℕ × ℕ)) (file : List ℕ) (form : Form) (ws : List Want) →
    AreSettled (range pairs) form (map (λ w. (w.frame, nth_frame file form w.frame)) ws)
parts_are_settled pairs file form [] = tt
parts_are_settled pairs file form (w ∷ ws) =
    (one (offends_or_not (shape form) (nth_frame file form w.frame)), parts_are_settled pairs file form ws)
  where
    one : OffendsOnce (shape form) (nth_frame file form w.frame) ⊎ OffendsNever (shape form) (nth_frame file form w.frame) →
        IsSettled (range pairs) (shape form) (nth_frame file form w.frame)
    one (inl (fault, o, only)) = inl (record { fault = fault; refuses = o; only = only })
    one (inr none) = inr none

abbrev pub HasOneSound : List ℕ → Form → Type 0
HasOneSound file form = (sound : List ℕ) × Sound file form sound × ((other : List ℕ) → Sound file form other → other ≡ sound)

pub part_before : (pairs : List (ℕ × ℕ)) (file : List ℕ) (form : Form) → HasOneSound file form → WritesOne (range pairs) file form
part_before pairs file form one s =
    let before = λ (sound : List ℕ). range_before form pairs sound (place_of s.stop.0 (wants form pairs)) in
    (before one.0, (one.0, one.1, refl), λ other w. w.2 ∙ ap before (one.2 w.0 w.1))

pub all_parts : (pairs : List (ℕ × ℕ)) (file : List ℕ) (form : Form) → HasOneSound file form → One (Does (range pairs) file form)
all_parts pairs file form one =
    let answer = λ (sound : List ℕ). done (range_of form pairs sound) (range_line (length (range_of form pairs sound)) ∷ []) in
    (answer one.0, (one.0, one.1, refl), λ other d. d.2 ∙ ap answer (one.2 d.0 d.1))
