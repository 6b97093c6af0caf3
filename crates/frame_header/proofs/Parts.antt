-- Segmentations and maps, from their parts.
use Rattle.std.proofs.Common.{◌≡◌, ℕ, ◌==◌, false, cond, if◌then◌else◌, List, replicate, ap, ◌∙◌}
use Rattle.std.proofs.lemmas.Bool.{ne_eqb}
use Rattle.dst_spec.specs.Fields.{Fields, gives, field, ◌>>=◌, number, read}
use Rattle.dst_spec.specs.Offends.{times, end_rule, segment_fields, map_fields, both_segments, both_maps}
use Rattle.dst_spec.specs.declared.faults.FrameFault.{FrameFault}
use Rattle.bit_io.specs.Reading.{Reading, left, HasRead, HasPassed, IsAtFault}
use Rattle.frame_header.specs.Steps.{element_fields}
use Rattle.frame_header.proofs.Stepping.{onto, failed_within}

not_one : (v : ℕ) → (v ≡ 1 → ⊥) → (v == 1) ≡ false
not_one v h = ne_eqb v 1 h

-- ---- one segmentation
abbrev pub end_bit : Fields ℕ
end_bit = field 1 end_rule gives

abbrev pub ends_for : ℕ → ℕ → Fields (List ℕ)
ends_for channels same = times (if same == 1 then 1 else channels) end_bit

pub segments_cut : (channels : ℕ) (old : Reading) (fault : FrameFault) → IsAtFault (number 1) old fault → IsAtFault (segment_fields channels) old fault
unfolding segment_fields
segments_cut channels old fault h = failed_within (number 1) (ends_for channels) old fault h

pub segments_passed : (channels same : ℕ) (old mid new : Reading) → HasRead (number 1) old same mid → HasPassed (ends_for channels same) mid new →
    HasPassed (segment_fields channels) old new
unfolding segment_fields
segments_passed channels same old mid new g h = (h.0, onto (number 1) (ends_for channels) old mid same g ∙ h.1)

pub segments_failed : (channels same : ℕ) (old mid : Reading) (fault : FrameFault) → HasRead (number 1) old same mid →
    IsAtFault (ends_for channels same) mid fault → IsAtFault (segment_fields channels) old fault
unfolding segment_fields
segments_failed channels same old mid fault g h = onto (number 1) (ends_for channels) old mid same g ∙ h

-- ---- both segmentations
abbrev second_segments : ℕ → ℕ → List ℕ → Fields (List ℕ)
second_segments channels same segments = if same == 1 then gives segments else segment_fields channels

abbrev segments_for : ℕ → ℕ → Fields (List ℕ)
segments_for channels same = segment_fields channels >>= second_segments channels same

pub both_segments_cut : (channels : ℕ) (old : Reading) (fault : FrameFault) → IsAtFault (number 1) old fault → IsAtFault (both_segments channels) old fault
unfolding both_segments
both_segments_cut channels old fault h = failed_within (number 1) (segments_for channels) old fault h

pub first_segments_failed : (channels same : ℕ) (old mid : Reading) (fault : FrameFault) → HasRead (number 1) old same mid →
    IsAtFault (segment_fields channels) mid fault →
    IsAtFault (both_segments channels) old fault
unfolding both_segments
first_segments_failed channels same old mid fault g h =
    onto (number 1) (segments_for channels) old mid same g ∙ failed_within (segment_fields channels) (second_segments channels same) mid fault h

to_second : (channels same : ℕ) (old mid next : Reading) (xs : List ℕ) → HasRead (number 1) old same mid → HasRead (segment_fields channels) mid xs next →
    read (both_segments channels) (left old) old.place ≡ read (second_segments channels same xs) (left next) next.place
unfolding both_segments
to_second channels same old mid next xs g h =
    onto (number 1) (segments_for channels) old mid same g ∙ onto (segment_fields channels) (second_segments channels same) mid next xs h

pub second_segments_failed : (channels same : ℕ) (old mid next : Reading) (fault : FrameFault) → HasRead (number 1) old same mid →
    HasPassed (segment_fields channels) mid next → (same ≡ 1 → ⊥) →
    IsAtFault (segment_fields channels) next fault → IsAtFault (both_segments channels) old fault
second_segments_failed channels same old mid next fault g h ne k =
    to_second channels same old mid next h.0 g h.1
    ∙ ap (λ b. read (cond b (gives h.0) (segment_fields channels)) (left next) next.place) (not_one same ne) ∙ k

pub same_segments_passed : (channels same : ℕ) (old mid next : Reading) → HasRead (number 1) old same mid → HasPassed (segment_fields channels) mid next →
    same ≡ 1 → HasPassed (both_segments channels) old next
unfolding read
same_segments_passed channels same old mid next g h one = (
  h.0,
  to_second channels same old mid next h.0 g h.1 ∙ ap (λ s. read (second_segments channels s h.0) (left next) next.place) one,
)

pub both_segments_passed : (channels same : ℕ) (old mid next new : Reading) → HasRead (number 1) old same mid →
    HasPassed (segment_fields channels) mid next → (same ≡ 1 → ⊥) →
    HasPassed (segment_fields channels) next new → HasPassed (both_segments channels) old new
both_segments_passed channels same old mid next new g h ne k = (
  k.0,
  to_second channels same old mid next h.0 g h.1
      ∙ ap (λ b. read (cond b (gives h.0) (segment_fields channels)) (left next) next.place) (not_one same ne) ∙ k.1,
)

-- ---- one map
abbrev elements_for : ℕ → ℕ → Fields (List ℕ)
elements_for channels same = if same == 1 then gives (replicate channels 0) else element_fields channels

pub map_cut : (channels : ℕ) (old : Reading) (fault : FrameFault) → IsAtFault (number 1) old fault → IsAtFault (map_fields channels) old fault
unfolding map_fields
map_cut channels old fault h = failed_within (number 1) (elements_for channels) old fault h

to_elements : (channels same : ℕ) (old mid : Reading) → HasRead (number 1) old same mid →
    read (map_fields channels) (left old) old.place ≡ read (elements_for channels same) (left mid) mid.place
unfolding map_fields
to_elements channels same old mid g = onto (number 1) (elements_for channels) old mid same g

pub zeros_gave : (channels same : ℕ) (old mid : Reading) → HasRead (number 1) old same mid → same ≡ 1 →
    HasRead (map_fields channels) old (replicate channels 0) mid
unfolding read
zeros_gave channels same old mid g one = to_elements channels same old mid g ∙ ap (λ s. read (elements_for channels s) (left mid) mid.place) one

pub elements_gave : (channels same : ℕ) (old mid new : Reading) (es : List ℕ) → HasRead (number 1) old same mid → (same ≡ 1 → ⊥) →
    HasRead (element_fields channels) mid es new → HasRead (map_fields channels) old es new
elements_gave channels same old mid new es g ne h =
    to_elements channels same old mid g ∙ ap (λ b. read (cond b (gives (replicate channels 0)) (element_fields channels)) (left mid) mid.place)
    (not_one same ne) ∙ h

pub elements_failed : (channels same : ℕ) (old mid : Reading) (fault : FrameFault) → HasRead (number 1) old same mid → (same ≡ 1 → ⊥) →
    IsAtFault (element_fields channels) mid fault → IsAtFault (map_fields channels) old fault
elements_failed channels same old mid fault g ne h =
    to_elements channels same old mid g ∙ ap (λ b. read (cond b (gives (replicate channels 0)) (element_fields channels)) (left mid) mid.place)
    (not_one same ne) ∙ h

-- ---- both maps
abbrev with_first : List ℕ → List ℕ → Fields (List ℕ × List ℕ)
with_first m k = gives (m, k)

abbrev second_map : ℕ → ℕ → List ℕ → Fields (List ℕ)
second_map channels same m = if same == 1 then gives m else map_fields channels

abbrev maps_for : ℕ → ℕ → Fields (List ℕ × List ℕ)
maps_for channels same = map_fields channels >>= (λ m. second_map channels same m >>= with_first m)

pub both_maps_cut : (channels : ℕ) (old : Reading) (fault : FrameFault) → IsAtFault (number 1) old fault → IsAtFault (both_maps channels) old fault
unfolding both_maps
both_maps_cut channels old fault h = failed_within (number 1) (maps_for channels) old fault h

pub first_map_failed : (channels same : ℕ) (old mid : Reading) (fault : FrameFault) → HasRead (number 1) old same mid →
    IsAtFault (map_fields channels) mid fault → IsAtFault (both_maps channels) old fault
unfolding both_maps
first_map_failed channels same old mid fault g h =
    onto (number 1) (maps_for channels) old mid same g ∙ failed_within (map_fields channels) (λ m. second_map channels same m >>= with_first m) mid fault h

to_second_map : (channels same : ℕ) (old mid next : Reading) (m : List ℕ) → HasRead (number 1) old same mid → HasRead (map_fields channels) mid m next →
    read (both_maps channels) (left old) old.place ≡ read (second_map channels same m >>= with_first m) (left next) next.place
unfolding both_maps
to_second_map channels same old mid next m g h =
    onto (number 1) (maps_for channels) old mid same g ∙ onto (map_fields channels) (λ k. second_map channels same k >>= with_first k) mid next m h

own_map : (channels same : ℕ) (next : Reading) (m : List ℕ) → (same ≡ 1 → ⊥) →
    read (second_map channels same m >>= with_first m) (left next) next.place ≡ read (map_fields channels >>= with_first m) (left next) next.place
own_map channels same next m ne = ap (λ b. read (cond b (gives m) (map_fields channels) >>= with_first m) (left next) next.place) (not_one same ne)

pub second_map_failed : (channels same : ℕ) (old mid next : Reading) (m : List ℕ) (fault : FrameFault) → HasRead (number 1) old same mid →
    HasRead (map_fields channels) mid m next → (same ≡ 1 → ⊥) →
    IsAtFault (map_fields channels) next fault → IsAtFault (both_maps channels) old fault
second_map_failed channels same old mid next m fault g h ne k =
    to_second_map channels same old mid next m g h ∙ own_map channels same next m ne ∙ failed_within (map_fields channels) (with_first m) next fault k

pub same_map_gave : (channels same : ℕ) (old mid next : Reading) (m : List ℕ) → HasRead (number 1) old same mid → HasRead (map_fields channels) mid m next →
    same ≡ 1 → HasRead (both_maps channels) old (m, m) next
unfolding read
same_map_gave channels same old mid next m g h one =
    to_second_map channels same old mid next m g h ∙ ap (λ s. read (second_map channels s m >>= with_first m) (left next) next.place) one

pub both_maps_gave : (channels same : ℕ) (old mid next new : Reading) (m k : List ℕ) → HasRead (number 1) old same mid →
    HasRead (map_fields channels) mid m next → (same ≡ 1 → ⊥) →
    HasRead (map_fields channels) next k new → HasRead (both_maps channels) old (m, k) new
unfolding read
both_maps_gave channels same old mid next new m k g h ne i =
    to_second_map channels same old mid next m g h ∙ own_map channels same next m ne ∙ onto (map_fields channels) (with_first m) next new k i
