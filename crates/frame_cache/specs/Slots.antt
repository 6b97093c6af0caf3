-- Slots for the sounds of frames, in the order of their use, the last used first.
use Rattle.std.specs.Prelude.{◌≡◌, ℕ, Bool, false, ◌==◌, if◌then◌else◌, List, [], ◌∷◌, length, map, option_map, Option, Some, None}
use Rattle.std.specs.List.{AllByRecursion, filter_map}
use Rattle.frame_cache.specs.declared.slots.Slot.{Slot}

-- a frame and its sound
pub record HeldSound : Type 0 where
  pub frame : ℕ
  pub sound : List ℕ

abbrev pub held : ℕ → List ℕ → HeldSound
held k sound = record { frame = k; sound = sound }

-- the frames that are held
abbrev pub frames_in : List HeldSound → List ℕ
frames_in ks = map (λ k. k.frame) ks

-- what is held of a frame, and the others
abbrev pub found : List HeldSound → ℕ → Option HeldSound
found [] k = None
found (x ∷ xs) k = if x.frame == k then Some x else found xs k

abbrev pub others : List HeldSound → ℕ → List HeldSound
others [] k = []
others (x ∷ xs) k = if x.frame == k then xs else x ∷ others xs k

-- a frame that is held moves to the front
abbrev pub in_front : Option HeldSound → List HeldSound → ℕ → List HeldSound
in_front None ks k = ks
in_front (Some x) ks k = x ∷ others ks k

abbrev pub moved : List HeldSound → ℕ → List HeldSound
moved ks k = in_front (found ks k) ks k

-- ---- what slots hold, in their order
abbrev pub held_of : ℕ × Slot → Option HeldSound
held_of e = option_map (λ k. held k e.1.sound.items) e.1.frame

abbrev pub held_in : List (ℕ × Slot) → List HeldSound
held_in es = filter_map held_of es

-- behind a slot that holds no frame none holds one
abbrev pub NoneBehind : Option ℕ → List HeldSound → Type 0
NoneBehind None ks = ks ≡ []
NoneBehind (Some k) ks = Unit {0}

abbrev pub AreFilledFirst : List (ℕ × Slot) → Type 0
AreFilledFirst [] = Unit {0}
AreFilledFirst (e ∷ es) = NoneBehind e.1.frame (held_in es) × AreFilledFirst es

-- so many slots, each with room for so many bytes
pub record AreSlots (count bytes : ℕ) (es : List (ℕ × Slot)) : Type 0 where
  pub count_is : length es ≡ count
  pub long : AllByRecursion (λ e. length e.1.sound.items ≡ bytes) es
  pub filled : AreFilledFirst es

-- the number of the first slot that holds a frame
abbrev pub holds : ℕ × Slot → ℕ → Bool
holds e k = elim e.1.frame [ None ↦ false | Some j ↦ j == k ]

abbrev pub slot_of : List (ℕ × Slot) → ℕ → Option ℕ
slot_of [] k = None
slot_of (e ∷ es) k = if holds e k then Some e.0 else slot_of es k
