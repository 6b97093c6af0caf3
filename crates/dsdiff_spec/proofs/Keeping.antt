-- What a chunk `KEPT` keeps, and which ones are refused.
use Rattle.std.proofs.Common.{◌≡◌, ℕ, ◌++◌, List, [], ◌∷◌, take, drop, map, replicate, refl, true, false, Some, None, Err}
use Rattle.std.specs.Prelude.{codes}
use Rattle.byteorder.specs.Endian.{big_bytes}
use Rattle.dsdiff_spec.specs.Origin.{origin_of, is_bad_origin}
use Rattle.dsdiff_spec.specs.Rules.{form}
use Rattle.dsdiff_spec.specs.Written.{cmpr_plain}
use Rattle.dsdiff_spec.proofs.Files.{three_behind_coded}
use Rattle.dsdiff_spec.proofs.OddFiles.{kept_one}
use Rattle.dsdiff_spec.proofs.Forms.{forms_open, but}
use Rattle.dsdiff_spec.proofs.Built.{piece, file_of, version, cmpr, prop, dst, mono_coded}
use Rattle.dsdiff_spec.proofs.Opening.{faults}
use Rattle.dsdiff_spec.specs.declared.faults.FileFault.TheVariants.{KeptBad}

pub version_1_is_read : origin_of (take 41 (drop 164 kept_one)) ≡ record { sound = 0; pad = 0; cmpr = cmpr_plain; kept = [] }
version_1_is_read = refl

pub version_2_is_read : origin_of (take 49 (drop 164 three_behind_coded)) ≡ record { sound = 0; pad = 0; cmpr = cmpr_plain; kept = 1 ∷ 2 ∷ 3 ∷ [] }
version_2_is_read = refl

pub even_sound_has_no_pad_byte : form (but 173 1 three_behind_coded) ≡ Err KeptBad
unfolding forms_open
even_sound_has_no_pad_byte = refl

pub version_3_is_refused : form (but 164 3 three_behind_coded) ≡ Err KeptBad
unfolding forms_open
version_3_is_refused = refl

pub four_kept_bytes_are_not_there : form (but 177 4 three_behind_coded) ≡ Err KeptBad
unfolding forms_open
four_kept_bytes_are_not_there = refl

pub sound_of_one_byte_needs_a_frame : form (but 172 1 three_behind_coded) ≡ Err KeptBad
unfolding forms_open
sound_of_one_byte_needs_a_frame = refl

pub kept_compression_is_of_plain_sound : form (but 192 84 three_behind_coded) ≡ Err KeptBad
unfolding forms_open
kept_compression_is_of_plain_sound = refl

-- ---- bodies that are just refused, and just accepted, in a form of one channel without frames
abbrev one : List ℕ → List ℕ
one rest = 1 ∷ replicate 8 0 ++ rest

abbrev two : List ℕ → List ℕ → List ℕ
two kept_length rest = 2 ∷ replicate 9 0 ++ kept_length ++ rest

pub versions : map (is_bad_origin 1 4704 0)
    ([] ∷ (0 ∷ replicate 8 0 ++ cmpr "DSD ") ∷ one (cmpr "DSD ") ∷ two (replicate 4 0) (cmpr "DSD ") ∷ (3 ∷ replicate 13 0 ++ cmpr "DSD ") ∷ [])
    ≡ true ∷ true ∷ false ∷ false ∷ true ∷ []
versions = refl

-- a whole chunk `CMPR` of plain sound, with its pad byte and nothing behind it
pub compression_of_version_1 :
    map (λ rest. is_bad_origin 1 4704 0 (one rest)) (
    [] ∷ (piece "CMPR" (codes "DSD") ++ 0 ∷ []) ∷ piece "CMPr" (codes "DSD ") ∷ cmpr "DST " ∷ (cmpr "DSD " ++ 0 ∷ [])
    ∷ piece "CMPR" (codes "DSD x") ∷ (piece "CMPR" (codes "DSD x") ++ 0 ∷ []) ∷ [])
    ≡ true ∷ true ∷ true ∷ true ∷ true ∷ true ∷ false ∷ []
compression_of_version_1 = refl

-- in version 2 as many kept bytes as it says stand behind it
pub kept_bytes_of_version_2 :
    is_bad_origin 1 4704 0 (two (0 ∷ 0 ∷ 0 ∷ 1 ∷ []) (cmpr "DSD "))
    ∷ is_bad_origin 1 4704 0 (two (0 ∷ 0 ∷ 0 ∷ 1 ∷ []) (cmpr "DSD " ++ 9 ∷ []))
    ∷ is_bad_origin 1 4704 0 (two (0 ∷ 0 ∷ 0 ∷ 1 ∷ []) (cmpr "DSD " ++ 9 ∷ 9 ∷ []))
    ∷ is_bad_origin 1 4704 0 (two (0 ∷ 1 ∷ 0 ∷ 0 ∷ []) (cmpr "DSD " ++ replicate 65536 9))
    ∷ is_bad_origin 1 4704 0 (two (0 ∷ 1 ∷ 0 ∷ 1 ∷ []) (cmpr "DSD " ++ replicate 65537 9)) ∷ []
    ≡ true ∷ false ∷ true ∷ false ∷ true ∷ []
kept_bytes_of_version_2 = refl

-- a chunk `CMPR` of so many bytes behind its type
abbrev long : ℕ → List ℕ
long n = piece "CMPR" (codes "DSD " ++ replicate n 0)

pub longest_compression :
    map (is_bad_origin 1 4704 0) (
    one (long 65520) ∷ one (long 65522) ∷ two (replicate 4 0) (long 65520) ∷ two (replicate 4 0) (long 65522)
    ∷ two (0 ∷ 1 ∷ 0 ∷ 0 ∷ []) (long 65520 ++ replicate 65536 9) ∷ two (0 ∷ 0 ∷ 0 ∷ 2 ∷ []) (long 65522 ++ replicate 2 9) ∷ [])
    ≡ false ∷ true ∷ false ∷ true ∷ false ∷ true ∷ []
longest_compression = refl

-- ---- sizes of the sound, each in a form of some channels and frames
abbrev of_sound : ℕ → ℕ → List ℕ
of_sound size pad = 2 ∷ big_bytes 8 size ++ pad ∷ replicate 4 0 ++ cmpr "DSD "

pub pad_bytes_of_sound : map (is_bad_origin 1 4704 1) (of_sound 1 7 ∷ of_sound 2 0 ∷ of_sound 2 7 ∷ []) ≡ false ∷ false ∷ true ∷ []
pad_bytes_of_sound = refl

pub groups_of_sound : map (is_bad_origin 6 28224 1) (of_sound 6 0 ∷ of_sound 8 0 ∷ []) ≡ false ∷ true ∷ []
groups_of_sound = refl

pub frames_of_sound :
    is_bad_origin 1 4704 0 (of_sound 0 0) ∷ is_bad_origin 1 4704 1 (of_sound 0 0) ∷ is_bad_origin 1 4704 0 (of_sound 1 0)
    ∷ is_bad_origin 1 4704 1 (of_sound 4704 0) ∷ is_bad_origin 1 4704 1 (of_sound 4705 0) ∷ is_bad_origin 1 4704 2 (of_sound 4705 0)
    ∷ is_bad_origin 1 4704 2 (of_sound 4704 0) ∷ []
    ≡ false ∷ true ∷ true ∷ false ∷ true ∷ false ∷ true ∷ []
frames_of_sound = refl

-- ---- one chunk `KEPT`, wherever it stands
abbrev kept : List ℕ
kept = piece "KEPT" (of_sound 0 0)

pub one_is_kept :
    faults (
    mono_coded (kept ∷ []) ∷ mono_coded (kept ∷ kept ∷ []) ∷ mono_coded (piece "KEPT" [] ∷ [])
    ∷ file_of (version ∷ kept ∷ prop 1 2822400 "DST " ∷ dst 0 [] ∷ []) ∷ [])
    ≡ None ∷ Some KeptBad ∷ Some KeptBad ∷ None ∷ []
unfolding forms_open
one_is_kept = refl
