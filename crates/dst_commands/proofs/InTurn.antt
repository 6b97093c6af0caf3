-- The parts of a list that are written in turn.
use Rattle.std.proofs.Common.{◌≡◌, ℕ, ◌+◌, ◌<◌, ◌≤◌, List, [], ◌∷◌, ◌++◌, length, take, drop, get_or, Option, ap, sym, subst, ◌∙◌, append-nil, take-append-drop}
use Rattle.std.specs.Prelude.{flat_map}
use Rattle.std.proofs.lemmas.Grind.{flat_map-append}
use Rattle.std.proofs.lemmas.List.{take_more, take_all}
use Rattle.dsdiff_spec.proofs.Progress.{BeginsWith}
use Rattle.dst_commands.specs.Writing.{Adds, Stops}
use Rattle.dst_commands.proofs.Writing.{adds_same, adds_then, stops_then, stops_in}

-- ---- the parts of each element
abbrev pub Parts : Type 0 → Type 0
Parts X = X → List ℕ

more_parts : {X : Type 0} (part : Parts X) (xs : List X) (k : ℕ) (d : X) (piece : List ℕ) → k < length xs → piece ≡ part (get_or xs k d) →
    flat_map part (take k xs) ++ piece ≡ flat_map part (take (k + 1) xs)
more_parts part xs k d piece l is =
    ap (λ w. flat_map part (take k xs) ++ w) (is ∙ sym (append-nil (part (get_or xs k d))))
    ∙ sym (flat_map-append part (take k xs) (get_or xs k d ∷ []))
    ∙ ap (flat_map part) (sym (take_more xs k d l))

pub begins_with_parts : {X : Type 0} (part : Parts X) (xs : List X) (k : ℕ) → BeginsWith (flat_map part xs) (flat_map part (take k xs))
begins_with_parts part xs k = record {
  rest = flat_map part (drop k xs);
  is = ap (flat_map part) (sym (take-append-drop k xs)) ∙ flat_map-append part (take k xs) (drop k xs);
}

-- ---- so many are written
pub one_more_part : {X : Type 0} (part : Parts X) (xs : List X) (k : ℕ) (d : X) (piece : List ℕ) (old mid new : Option (List ℕ)) (room half left : Option ℕ) →
    k < length xs → piece ≡ part (get_or xs k d) →
    Adds (flat_map part (take k xs)) old mid room half → Adds piece mid new half left → Adds (flat_map part (take (k + 1) xs)) old new room left
one_more_part part xs k d piece old mid new room half left l is before part_of =
    adds_same (flat_map part (take k xs) ++ piece) (flat_map part (take (k + 1) xs)) old new room left (more_parts part xs k d piece l is)
    (adds_then (flat_map part (take k xs)) piece old mid new room half left before part_of)

pub stops_in_part : {X : Type 0} (P : Type 0) (part : Parts X) (xs : List X) (k : ℕ) (d : X) (piece : List ℕ) (old mid new : Option (List ℕ))
    (room half : Option ℕ) → k < length xs → piece ≡ part (get_or xs k d) →
    Adds (flat_map part (take k xs)) old mid room half → Stops P piece mid new half → Stops P (flat_map part xs) old new room
stops_in_part P part xs k d piece old mid new room half l is before s =
    stops_in P (flat_map part xs) (flat_map part (take (k + 1) xs)) old new room (begins_with_parts part xs (k + 1))
    (subst (λ w. Stops P w old new room) (more_parts part xs k d piece l is) (stops_then P (flat_map part (take k xs)) piece old mid new room half before s))

pub all_parts : {X : Type 0} (part : Parts X) (xs : List X) (k : ℕ) (old new : Option (List ℕ)) (room left : Option ℕ) → length xs ≤ k →
    Adds (flat_map part (take k xs)) old new room left → Adds (flat_map part xs) old new room left
all_parts part xs k old new room left l h = adds_same (flat_map part (take k xs)) (flat_map part xs) old new room left (ap (flat_map part) (take_all k xs l)) h
