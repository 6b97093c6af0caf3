-- What the steps of opening a form keep of the source, and what they refuse.
use Rattle.std.specs.Prelude.{◌≡◌, ℕ, ◌+◌, ◌-◌, ◌%◌, ◌^◌, ◌≤◌, Bool, true, false, not, ◌||◌, ◌==◌, List, [], ◌∷◌, length, filter, bytes_eq, Option, Some}
use Rattle.dst_streams.specs.Causes.{Rose}
use Rattle.dsdiff_spec.specs.Bytes.{bytes_at, number_at, ◌is◌, ◌below◌, ◌above◌}
use Rattle.dsdiff_spec.specs.Faults.{◌when◌, ◌otherwise◌}
use Rattle.dsdiff_spec.specs.Chunks.{Head, the_first, body_place, body_of}
use Rattle.dsdiff_spec.specs.Form.{frames_for}
use Rattle.dsdiff_spec.specs.Origin.{is_bad_origin}
use Rattle.dsdiff_spec.specs.Parts.{form_size, form_end}
use Rattle.dsdiff_spec.specs.Rules.{is_version, is_frte, room_fault}
use Rattle.dst_streams.specs.Told.{Loan}
use Rattle.dsdiff_spec.specs.declared.faults.FileFault.{FileFault}
use Rattle.dsdiff_spec.specs.declared.faults.FileFault.TheVariants.{NotForm, FormType, FormTooLarge, Overrun, SoundMissing, SoundTwice, SoundUneven, Version}
use Rattle.dsdiff_spec.specs.declared.faults.FileFault.TheVariants.{Compression, PropMissing, PropTwice, PropTooLong, FrameRate, TooManyFrames, CodedChunk}
use Rattle.dsdiff_spec.specs.declared.faults.FileFault.TheVariants.{TailTooLong}
use Rattle.dsdiff_chunks.specs.declared.open.OpenFault.{OpenFault}
use Rattle.dsdiff_chunks.specs.declared.open.OpenFault.TheVariants.{Read, Memory, File}

-- A call reads a source: bytes, size and loan stay, the count of faults doesn't fall, and at most so many bytes are given.
pub record Reads {S : Type 0} (bytes : S → Option (List ℕ)) (known : S → Option ℕ) (loan : S → Loan) (faults given : S → ℕ) (old new : S) (most : ℕ) :
    Type 0 where
  pub same_bytes : bytes new ≡ bytes old
  pub same_size : known new ≡ known old
  pub same_loan : loan new ≡ loan old
  pub later : faults old ≤ faults new
  pub given_most : given new ≤ given old + most

-- Why a step of opening fails: the source failed, memory was refused, or told bytes break the step's rules.
abbrev pub HasOpenCause : (List ℕ → Option FileFault) → Option (List ℕ) → ℕ → ℕ → OpenFault → Type 0
HasOpenCause rules bytes before now Read = Rose before now
HasOpenCause rules bytes before now (Memory refused) = Unit {0}
HasOpenCause rules bytes before now (File fault) = (xs : List ℕ) → bytes ≡ Some xs → rules xs ≡ Some fault

-- the chunks of a form whose last pad byte may be missing
abbrev pub may_lack_pad : List ℕ → Bool
may_lack_pad id = not (id is "DSD ")

abbrev pub is_sound : Head → Bool
is_sound h = h.id is "DSD " || h.id is "DST "

abbrev pub is_of_coded : Head → Bool
is_of_coded h = h.id is "DSTI" || h.id is "KEPT"

-- ---- the rules, by what a step has read and found
-- on a file's size and its first sixteen bytes
abbrev pub head_fault : ℕ → List ℕ → Option FileFault
head_fault size head =
    NotForm when not (bytes_at head 0 4 is "FRM8") || form_size head below 4
    otherwise FormTooLarge when form_size head above 2 ^ 50
    otherwise FormType when not (bytes_at head 12 4 is "DSD ")
    otherwise Overrun 0 when form_end head above size

-- on the first chunk
abbrev pub first_fault : List ℕ → Head → Option FileFault
first_fault file h = Version when not (is_version file h)

-- on the chunks `PROP`
abbrev pub props_fault : List Head → Option FileFault
props_fault props =
    PropMissing when length props == 0
    otherwise PropTwice when length props above 1
    otherwise PropTooLong when (the_first props).size above 65536

-- on the sound chunks, the place of `PROP` and the type in it
abbrev pub sounds_fault : List Head → ℕ → List ℕ → Option FileFault
sounds_fault sounds prop_place type =
    SoundMissing when length sounds == 0
    otherwise SoundTwice when length sounds above 1
    otherwise Compression when not (bytes_eq type (the_first sounds).id)
    otherwise PropMissing when prop_place above (the_first sounds).place

-- on the size of a plain sound
abbrev pub count_fault : ℕ → ℕ → ℕ → Option FileFault
count_fault channels bytes sound_size =
    SoundUneven when not (sound_size % channels == 0)
    otherwise TooManyFrames when frames_for bytes sound_size above 1000000

-- on the room that a plain form in a file of some size leaves
abbrev pub space_fault : ℕ → ℕ → List Head → ℕ → Option FileFault
space_fault size end heads prop_size =
    CodedChunk (the_first (filter is_of_coded heads)).place when not (length (filter is_of_coded heads) == 0)
    otherwise room_fault (length heads) prop_size (end - 12)
    otherwise TailTooLong (size - end) when size - end above 65536

-- on a plain form
abbrev pub plain_parts_fault : ℕ → ℕ → List Head → ℕ → ℕ → ℕ → ℕ → Option FileFault
plain_parts_fault size end heads prop_size sound_size channels bytes =
    count_fault channels bytes sound_size otherwise space_fault size end heads prop_size

-- on the first eighteen bytes of a coded sound
abbrev pub frte_fault : List ℕ → Option FileFault
frte_fault frte =
    FrameRate when not (is_frte frte 0) || not (number_at frte 16 2 == 75)
    otherwise TooManyFrames when number_at frte 12 4 above 1000000

-- on a coded sound in a file
abbrev pub coded_sound_fault : List ℕ → Head → Option FileFault
coded_sound_fault file sound =
    FrameRate when
    sound.size below 18 || not (is_frte file (body_place sound)) || not (number_at file (body_place sound + 16) 2 == 75)
    otherwise TooManyFrames when number_at file (body_place sound + 12) 4 above 1000000

-- on the chunks `KEPT` of a file
abbrev pub are_bad_origins : ℕ → ℕ → ℕ → List ℕ → List Head → Bool
are_bad_origins channels bytes count file kepts = elim kepts [
  | [] ↦ false
  | h ∷ [] ↦ is_bad_origin channels bytes count (body_of file h)
  | h ∷ i ∷ hs ↦ true
]
