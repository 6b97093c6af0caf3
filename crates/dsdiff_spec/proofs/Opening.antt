-- Rules of the form on its first bytes, its chunks, and what stands in `PROP`: files that each of them refuses, and
-- files that it just accepts.
use Rattle.std.proofs.Common.{◌≡◌, ℕ, ◌++◌, List, [], ◌∷◌, take, drop, map, replicate, refl, Some, None, Option}
use Rattle.std.specs.Prelude.{codes}
use Rattle.dsdiff_spec.specs.Form.{sound_bytes_of}
use Rattle.dsdiff_spec.specs.Rules.{form_fault, accepted}
use Rattle.dsdiff_spec.specs.declared.faults.FileFault.{FileFault}
use Rattle.dsdiff_spec.specs.declared.faults.FileFault.TheVariants.{NotForm, FormTooLarge, FormType, Overrun, Version, PropMissing, PropTwice, PropType, Rate}
use Rattle.dsdiff_spec.specs.declared.faults.FileFault.TheVariants.{Channels, Compression, SoundMissing, SoundTwice}
use Rattle.dsdiff_spec.proofs.Built.{piece, file_of, version, prop_of, rate, channels, cmpr, prop, dsd, dst, mono_plain}
use Rattle.dsdiff_spec.proofs.Files.{empty}
use Rattle.dsdiff_spec.proofs.Forms.{forms_open, but}

-- the faults of files, and of files of some chunks
abbrev pub faults : List (List ℕ) → List (Option FileFault)
faults files = map form_fault files

abbrev pub faults_of : List (List (List ℕ)) → List (Option FileFault)
faults_of files = map (λ pieces. form_fault (file_of pieces)) files

-- ---- the first sixteen bytes, which alone are a form without chunks
pub head_of_a_form :
    faults (take 15 (file_of []) ∷ but 3 55 empty ∷ but 11 3 empty ∷ but 14 0 empty ∷ file_of [] ∷ [])
    ≡ Some NotForm ∷ Some NotForm ∷ Some NotForm ∷ Some FormType ∷ Some Version ∷ []
unfolding forms_open
head_of_a_form = refl

abbrev of_size : List ℕ → List ℕ
of_size size = codes "FRM8" ++ size ++ drop 12 empty

pub greatest_form : faults (of_size (0 ∷ 4 ∷ replicate 6 0) ∷ of_size (0 ∷ 4 ∷ replicate 5 0 ++ 1 ∷ []) ∷ of_size (replicate 8 255) ∷ [])
    ≡ Some (Overrun 0) ∷ Some FormTooLarge ∷ Some FormTooLarge ∷ []
unfolding forms_open
greatest_form = refl

-- ---- chunks of the form: one needs its twelve bytes, its body, and its pad byte unless it is the last and no sound
pub chunks_of_a_form :
    faults (file_of (version ∷ replicate 11 0 ∷ []) ∷ but 27 5 (file_of (version ∷ [])) ∷ file_of (version ∷ piece "ID3 " (1 ∷ []) ∷ []) ∷ mono_plain 1 ∷ [])
    ≡ Some (Overrun 32) ∷ Some (Overrun 16) ∷ Some PropMissing ∷ Some (Overrun 98) ∷ []
unfolding forms_open
chunks_of_a_form = refl

pub first_chunk_is_a_version :
    faults_of (
    (piece "FVER" (1 ∷ 5 ∷ 0 ∷ []) ∷ []) ∷ (piece "FVER" (1 ∷ 5 ∷ 0 ∷ 0 ∷ 0 ∷ []) ∷ []) ∷ (piece "FVER" (0 ∷ 5 ∷ 0 ∷ 0 ∷ []) ∷ [])
    ∷ (piece "FVEr" (1 ∷ 5 ∷ 0 ∷ 0 ∷ []) ∷ []) ∷ (piece "ID3 " [] ∷ version ∷ []) ∷ (piece "FVER" (1 ∷ 9 ∷ 9 ∷ 9 ∷ []) ∷ []) ∷ [])
    ≡ Some Version ∷ Some Version ∷ Some Version ∷ Some Version ∷ Some Version ∷ Some PropMissing ∷ []
unfolding forms_open
first_chunk_is_a_version = refl

pub one_prop_before_the_sound :
    faults_of (
    (version ∷ dsd 0 ∷ []) ∷ (version ∷ prop 1 2822400 "DSD " ∷ prop 1 2822400 "DSD " ∷ dsd 0 ∷ [])
    ∷ (version ∷ dsd 0 ∷ prop 1 2822400 "DSD " ∷ []) ∷ (version ∷ prop 1 2822400 "DSD " ∷ dsd 0 ∷ []) ∷ [])
    ≡ Some PropMissing ∷ Some PropTwice ∷ Some PropMissing ∷ None ∷ []
unfolding forms_open
one_prop_before_the_sound = refl

-- ---- in `PROP`
pub type_of_prop :
    faults_of (
    (version ∷ piece "PROP" (codes "SND") ∷ []) ∷ (version ∷ piece "PROP" (codes "SNDx") ∷ []) ∷ (version ∷ piece "PROP" (codes "SND ") ∷ []) ∷ [])
    ≡ Some PropType ∷ Some PropType ∷ Some Rate ∷ []
unfolding forms_open
type_of_prop = refl

-- each chunk in it has its pad byte, also the last
pub chunks_of_prop :
    faults_of (
    (version ∷ prop_of (replicate 11 0 ∷ []) ∷ []) ∷ (version ∷ prop_of (rate 2822400 ∷ piece "ID3 " (1 ∷ []) ∷ []) ∷ [])
    ∷ (version ∷ prop_of (rate 2822400 ∷ piece "ID3 " (1 ∷ []) ∷ (0 ∷ []) ∷ []) ∷ []) ∷ [])
    ≡ Some (Overrun 48) ∷ Some (Overrun 64) ∷ Some Channels ∷ []
unfolding forms_open
chunks_of_prop = refl

-- ---- chunks in `PROP`, in front of a sound without a byte
abbrev of_rate : List (List ℕ) → List (List ℕ)
of_rate rates = version ∷ prop_of (channels 1 ∷ cmpr "DSD " ∷ rates) ∷ dsd 0 ∷ []

pub rates :
    faults_of (
    of_rate [] ∷ of_rate (rate 2822400 ∷ rate 2822400 ∷ []) ∷ of_rate (piece "FS  " (43 ∷ 17 ∷ 0 ∷ 0 ∷ []) ∷ [])
    ∷ of_rate (piece "FS  " (0 ∷ 43 ∷ 17 ∷ 0 ∷ 0 ∷ 0 ∷ []) ∷ []) ∷ of_rate (rate 3072000 ∷ []) ∷ of_rate (rate 2822401 ∷ [])
    ∷ of_rate (rate 2822400 ∷ []) ∷ of_rate (rate 5644800 ∷ []) ∷ of_rate (rate 11289600 ∷ []) ∷ of_rate (rate 8467200 ∷ []) ∷ [])
    ≡ Some Rate ∷ Some Rate ∷ Some Rate ∷ Some Rate ∷ Some Rate ∷ Some Rate ∷ None ∷ None ∷ None ∷ Some Rate ∷ []
unfolding forms_open
rates = refl

abbrev of_channels : List (List ℕ) → List (List ℕ)
of_channels counts = version ∷ prop_of (rate 2822400 ∷ cmpr "DSD " ∷ counts) ∷ dsd 0 ∷ []

pub channel_counts :
    faults_of (
    of_channels [] ∷ of_channels (channels 1 ∷ channels 1 ∷ []) ∷ of_channels (piece "CHNL" [] ∷ []) ∷ of_channels (channels 0 ∷ [])
    ∷ of_channels (channels 7 ∷ []) ∷ of_channels (piece "CHNL" (0 ∷ 2 ∷ replicate 6 67) ∷ [])
    ∷ of_channels (piece "CHNL" (0 ∷ 1 ∷ replicate 3 67) ∷ (0 ∷ []) ∷ []) ∷ of_channels (channels 1 ∷ []) ∷ of_channels (channels 6 ∷ []) ∷ of_channels
    (piece "CHNL" (0 ∷ 2 ∷ replicate 10 67) ∷ []) ∷ [])
    ≡ Some Channels ∷ Some Channels ∷ Some Channels ∷ Some Channels ∷ Some Channels ∷ Some Channels ∷ Some Channels ∷ None ∷ None ∷ None ∷ []
unfolding forms_open
channel_counts = refl

abbrev of_compression : List (List ℕ) → List (List ℕ)
of_compression types = version ∷ prop_of (rate 2822400 ∷ channels 1 ∷ types) ∷ dsd 0 ∷ []

pub compressions :
    faults_of (
    of_compression [] ∷ of_compression (piece "CMPR" (codes "DSD") ∷ codes " " ∷ []) ∷ of_compression (cmpr "DSD " ∷ cmpr "DSD " ∷ []) ∷ of_compression
    (piece "CMPR" (codes "DS") ∷ [])
    ∷ of_compression (cmpr "DSDx" ∷ []) ∷ of_compression (cmpr "DST " ∷ []) ∷ of_compression (cmpr "DSD " ∷ []) ∷ [])
    ≡ Some Compression ∷ Some Compression ∷ Some Compression ∷ Some Compression ∷ Some Compression ∷ Some Compression ∷ None ∷ []
unfolding forms_open
compressions = refl

-- a type of neither sound is refused before the sound is looked for
pub sound_chunks :
    faults_of (
    (version ∷ prop 1 2822400 "DSDx" ∷ []) ∷ (version ∷ prop 1 2822400 "DST " ∷ []) ∷ (version ∷ prop 1 2822400 "DSD " ∷ dsd 0 ∷ dsd 0 ∷ [])
    ∷ (version ∷ prop 1 2822400 "DST " ∷ dst 0 [] ∷ dsd 0 ∷ []) ∷ (version ∷ prop 1 2822400 "DSD " ∷ dst 0 [] ∷ [])
    ∷ (version ∷ dst 0 [] ∷ prop 1 2822400 "DST " ∷ []) ∷ (version ∷ prop 1 2822400 "DST " ∷ dst 0 [] ∷ []) ∷ [])
    ≡ Some Compression ∷ Some SoundMissing ∷ Some SoundTwice ∷ Some SoundTwice ∷ Some Compression ∷ Some PropMissing ∷ None ∷ []
unfolding forms_open
sound_chunks = refl

-- ---- bytes of a frame's sound at each rate, in one and in six channels
pub bytes_of_frames :
    map (λ n. sound_bytes_of (accepted (file_of (version ∷ prop 1 n "DSD " ∷ dsd 0 ∷ [])))) (2822400 ∷ 5644800 ∷ 11289600 ∷ [])
    ++ map (λ n. sound_bytes_of (accepted (file_of (version ∷ prop 6 n "DST " ∷ dst 0 [] ∷ [])))) (2822400 ∷ 5644800 ∷ 11289600 ∷ [])
    ≡ 4704 ∷ 9408 ∷ 18816 ∷ 28224 ∷ 56448 ∷ 112896 ∷ []
unfolding forms_open
bytes_of_frames = refl
