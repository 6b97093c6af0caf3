-- What cutting writes, of small files and by their bytes, and the chunks that it refuses to write.
use Rattle.std.proofs.Common.{◌≡◌, ℕ, ◌+◌, ◌^◌, ◌++◌, List, [], ◌∷◌, length, replicate, refl, ap, ◌∙◌, append-nil, Some, None}
use Rattle.std.specs.Prelude.{codes}
use Rattle.dsdiff_spec.specs.Faults.{◌when◌}
use Rattle.dsdiff_spec.specs.Bytes.{◌above◌}
use Rattle.dsdiff_spec.specs.Form.{Form}
use Rattle.dsdiff_spec.specs.Rules.{accepted}
use Rattle.dsdiff_spec.specs.Cut.{cut, cut_chunks}
use Rattle.dsdiff_spec.specs.Refusal.{no_frame, not_walked, cut_fault, command_fault, refusal}
use Rattle.dsdiff_spec.specs.Words as words
use Rattle.dsdiff_spec.specs.declared.faults.FileFault.TheVariants.{Range, TooManyChunks, FormTooLarge}
use Rattle.dsdiff_spec.proofs.Restoring.{written_open}

-- chunks of all of them: `FVER`, and `PROP` of one channel at the lowest rate
abbrev version : List ℕ
version =
    codes "FVER" ++ (0 ∷ 0 ∷ 0 ∷ 0 ∷ 0 ∷ 0 ∷ 0 ∷ 4 ∷ 1 ∷ 5 ∷ 0 ∷ 0 ∷ [])

abbrev mono : List ℕ
mono =
    codes "PROP" ++ (0 ∷ 0 ∷ 0 ∷ 0 ∷ 0 ∷ 0 ∷ 0 ∷ 56 ∷ 83 ∷ 78 ∷ 68 ∷ 32 ∷ [])
    ++ codes "FS  " ++ (0 ∷ 0 ∷ 0 ∷ 0 ∷ 0 ∷ 0 ∷ 0 ∷ 4 ∷ 0 ∷ 43 ∷ 17 ∷ 0 ∷ [])
    ++ codes "CHNL" ++ (0 ∷ 0 ∷ 0 ∷ 0 ∷ 0 ∷ 0 ∷ 0 ∷ 6 ∷ 0 ∷ 1 ∷ 67 ∷ 48 ∷ 48 ∷ 48 ∷ [])
    ++ codes "CMPR" ++ (0 ∷ 0 ∷ 0 ∷ 0 ∷ 0 ∷ 0 ∷ 0 ∷ 5 ∷ 68 ∷ 83 ∷ 84 ∷ 32 ∷ 0 ∷ 8 ∷ [])

-- frames, the first and the last of odd size, and checksums, the last without its pad byte
abbrev frame_0 : List ℕ
frame_0 =
    codes "DSTF" ++ (0 ∷ 0 ∷ 0 ∷ 0 ∷ 0 ∷ 0 ∷ 0 ∷ 1 ∷ 11 ∷ 99 ∷ [])

abbrev frame_1 : List ℕ
frame_1 =
    codes "DSTF" ++ (0 ∷ 0 ∷ 0 ∷ 0 ∷ 0 ∷ 0 ∷ 0 ∷ 2 ∷ 21 ∷ 22 ∷ [])

abbrev frame_2 : List ℕ
frame_2 =
    codes "DSTF" ++ (0 ∷ 0 ∷ 0 ∷ 0 ∷ 0 ∷ 0 ∷ 0 ∷ 1 ∷ 31 ∷ 98 ∷ [])

abbrev checksum_0 : List ℕ
checksum_0 =
    codes "DSTC" ++ (0 ∷ 0 ∷ 0 ∷ 0 ∷ 0 ∷ 0 ∷ 0 ∷ 4 ∷ 1 ∷ 2 ∷ 3 ∷ 4 ∷ [])

abbrev checksum_1 : List ℕ
checksum_1 =
    codes "DSTC" ++ (0 ∷ 0 ∷ 0 ∷ 0 ∷ 0 ∷ 0 ∷ 0 ∷ 4 ∷ 5 ∷ 6 ∷ 7 ∷ 8 ∷ [])

abbrev checksum_2 : List ℕ
checksum_2 =
    codes "DSTC" ++ (0 ∷ 0 ∷ 0 ∷ 0 ∷ 0 ∷ 0 ∷ 0 ∷ 3 ∷ 9 ∷ 9 ∷ 9 ∷ [])

-- the `CMPR` of plain sound; a chunk that is passed on; and one at the end, without its pad byte
abbrev kept_cmpr : List ℕ
kept_cmpr =
    codes "CMPR" ++ (0 ∷ 0 ∷ 0 ∷ 0 ∷ 0 ∷ 0 ∷ 0 ∷ 5 ∷ 68 ∷ 83 ∷ 68 ∷ 32 ∷ 0 ∷ 6 ∷ [])

abbrev other : List ℕ
other =
    codes "ABCD" ++ (0 ∷ 0 ∷ 0 ∷ 0 ∷ 0 ∷ 0 ∷ 0 ∷ 1 ∷ 1 ∷ 9 ∷ [])

abbrev last_one : List ℕ
last_one =
    codes "EFGH" ++ (0 ∷ 0 ∷ 0 ∷ 0 ∷ 0 ∷ 0 ∷ 0 ∷ 3 ∷ 1 ∷ 2 ∷ 3 ∷ [])

-- three frames of one channel, with a checksum before the first and one behind each; `KEPT` and a `DSTI` before the sound, another `DSTI` behind it
abbrev pub three : List ℕ
three =
    codes "FRM8" ++ (0 ∷ 0 ∷ 0 ∷ 0 ∷ 0 ∷ 0 ∷ 1 ∷ 81 ∷ []) ++ codes "DSD "
    ++ version
    ++ codes "DSTI" ++ (0 ∷ 0 ∷ 0 ∷ 0 ∷ 0 ∷ 0 ∷ 0 ∷ 1 ∷ 7 ∷ 5 ∷ [])
    ++ mono
    ++ codes "KEPT" ++ (0 ∷ 0 ∷ 0 ∷ 0 ∷ 0 ∷ 0 ∷ 0 ∷ 35 ∷ 2 ∷ 0 ∷ 0 ∷ 0 ∷ 0 ∷ 0 ∷ 0 ∷ 36 ∷ 195 ∷ 7 ∷ 0 ∷ 0 ∷ 0 ∷ 3 ∷ [])
    ++ kept_cmpr
    ++ (1 ∷ 2 ∷ 3 ∷ 5 ∷ [])
    ++ other
    ++ codes "DST " ++ (0 ∷ 0 ∷ 0 ∷ 0 ∷ 0 ∷ 0 ∷ 0 ∷ 121 ∷ [])
    ++ codes "FRTE" ++ (0 ∷ 0 ∷ 0 ∷ 0 ∷ 0 ∷ 0 ∷ 0 ∷ 6 ∷ 0 ∷ 0 ∷ 0 ∷ 3 ∷ 0 ∷ 75 ∷ [])
    ++ codes "DSTC" ++ (0 ∷ 0 ∷ 0 ∷ 0 ∷ 0 ∷ 0 ∷ 0 ∷ 2 ∷ 0 ∷ 0 ∷ [])
    ++ frame_0
    ++ checksum_0
    ++ frame_1
    ++ checksum_1
    ++ frame_2
    ++ checksum_2
    ++ (77 ∷ [])
    ++ codes "DSTI" ++ (0 ∷ 0 ∷ 0 ∷ 0 ∷ 0 ∷ 0 ∷ 0 ∷ 12 ∷ 0 ∷ 0 ∷ 0 ∷ 0 ∷ 0 ∷ 0 ∷ 0 ∷ 0 ∷ 0 ∷ 0 ∷ 0 ∷ 0 ∷ [])
    ++ last_one

-- its first two frames
abbrev pub first_two : List ℕ
first_two =
    codes "FRM8" ++ (0 ∷ 0 ∷ 0 ∷ 0 ∷ 0 ∷ 0 ∷ 1 ∷ 31 ∷ []) ++ codes "DSD "
    ++ version
    ++ mono
    ++ other
    ++ codes "DST " ++ (0 ∷ 0 ∷ 0 ∷ 0 ∷ 0 ∷ 0 ∷ 0 ∷ 78 ∷ [])
    ++ codes "FRTE" ++ (0 ∷ 0 ∷ 0 ∷ 0 ∷ 0 ∷ 0 ∷ 0 ∷ 6 ∷ 0 ∷ 0 ∷ 0 ∷ 2 ∷ 0 ∷ 75 ∷ [])
    ++ frame_0
    ++ checksum_0
    ++ frame_1
    ++ checksum_1
    ++ codes "DSTI" ++ (0 ∷ 0 ∷ 0 ∷ 0 ∷ 0 ∷ 0 ∷ 0 ∷ 24 ∷ [])
    ++ (0 ∷ 0 ∷ 0 ∷ 0 ∷ 0 ∷ 0 ∷ 0 ∷ 156 ∷ 0 ∷ 0 ∷ 0 ∷ 1 ∷ [])
    ++ (0 ∷ 0 ∷ 0 ∷ 0 ∷ 0 ∷ 0 ∷ 0 ∷ 186 ∷ 0 ∷ 0 ∷ 0 ∷ 2 ∷ [])
    ++ codes "KEPT" ++ (0 ∷ 0 ∷ 0 ∷ 0 ∷ 0 ∷ 0 ∷ 0 ∷ 32 ∷ 2 ∷ 0 ∷ 0 ∷ 0 ∷ 0 ∷ 0 ∷ 0 ∷ 36 ∷ 192 ∷ 0 ∷ 0 ∷ 0 ∷ 0 ∷ 0 ∷ [])
    ++ kept_cmpr
    ++ last_one

-- its second frame
abbrev pub second_alone : List ℕ
second_alone =
    codes "FRM8" ++ (0 ∷ 0 ∷ 0 ∷ 0 ∷ 0 ∷ 0 ∷ 0 ∷ 245 ∷ []) ++ codes "DSD "
    ++ version
    ++ mono
    ++ other
    ++ codes "DST " ++ (0 ∷ 0 ∷ 0 ∷ 0 ∷ 0 ∷ 0 ∷ 0 ∷ 48 ∷ [])
    ++ codes "FRTE" ++ (0 ∷ 0 ∷ 0 ∷ 0 ∷ 0 ∷ 0 ∷ 0 ∷ 6 ∷ 0 ∷ 0 ∷ 0 ∷ 1 ∷ 0 ∷ 75 ∷ [])
    ++ frame_1
    ++ checksum_1
    ++ codes "DSTI" ++ (0 ∷ 0 ∷ 0 ∷ 0 ∷ 0 ∷ 0 ∷ 0 ∷ 12 ∷ [])
    ++ (0 ∷ 0 ∷ 0 ∷ 0 ∷ 0 ∷ 0 ∷ 0 ∷ 156 ∷ 0 ∷ 0 ∷ 0 ∷ 2 ∷ [])
    ++ codes "KEPT" ++ (0 ∷ 0 ∷ 0 ∷ 0 ∷ 0 ∷ 0 ∷ 0 ∷ 32 ∷ 2 ∷ 0 ∷ 0 ∷ 0 ∷ 0 ∷ 0 ∷ 0 ∷ 18 ∷ 96 ∷ 0 ∷ 0 ∷ 0 ∷ 0 ∷ 0 ∷ [])
    ++ kept_cmpr
    ++ last_one

-- its last two frames: the sound ends where it ended
abbrev pub last_two : List ℕ
last_two =
    codes "FRM8" ++ (0 ∷ 0 ∷ 0 ∷ 0 ∷ 0 ∷ 0 ∷ 1 ∷ 31 ∷ []) ++ codes "DSD "
    ++ version
    ++ mono
    ++ other
    ++ codes "DST " ++ (0 ∷ 0 ∷ 0 ∷ 0 ∷ 0 ∷ 0 ∷ 0 ∷ 77 ∷ [])
    ++ codes "FRTE" ++ (0 ∷ 0 ∷ 0 ∷ 0 ∷ 0 ∷ 0 ∷ 0 ∷ 6 ∷ 0 ∷ 0 ∷ 0 ∷ 2 ∷ 0 ∷ 75 ∷ [])
    ++ frame_1
    ++ checksum_1
    ++ frame_2
    ++ checksum_2
    ++ (0 ∷ [])
    ++ codes "DSTI" ++ (0 ∷ 0 ∷ 0 ∷ 0 ∷ 0 ∷ 0 ∷ 0 ∷ 24 ∷ [])
    ++ (0 ∷ 0 ∷ 0 ∷ 0 ∷ 0 ∷ 0 ∷ 0 ∷ 156 ∷ 0 ∷ 0 ∷ 0 ∷ 2 ∷ [])
    ++ (0 ∷ 0 ∷ 0 ∷ 0 ∷ 0 ∷ 0 ∷ 0 ∷ 186 ∷ 0 ∷ 0 ∷ 0 ∷ 1 ∷ [])
    ++ codes "KEPT" ++ (0 ∷ 0 ∷ 0 ∷ 0 ∷ 0 ∷ 0 ∷ 0 ∷ 32 ∷ 2 ∷ 0 ∷ 0 ∷ 0 ∷ 0 ∷ 0 ∷ 0 ∷ 18 ∷ 99 ∷ 7 ∷ 0 ∷ 0 ∷ 0 ∷ 0 ∷ [])
    ++ kept_cmpr
    ++ last_one

-- all three of them
abbrev pub all_three : List ℕ
all_three =
    codes "FRM8" ++ (0 ∷ 0 ∷ 0 ∷ 0 ∷ 0 ∷ 0 ∷ 1 ∷ 73 ∷ []) ++ codes "DSD "
    ++ version
    ++ mono
    ++ other
    ++ codes "DST " ++ (0 ∷ 0 ∷ 0 ∷ 0 ∷ 0 ∷ 0 ∷ 0 ∷ 107 ∷ [])
    ++ codes "FRTE" ++ (0 ∷ 0 ∷ 0 ∷ 0 ∷ 0 ∷ 0 ∷ 0 ∷ 6 ∷ 0 ∷ 0 ∷ 0 ∷ 3 ∷ 0 ∷ 75 ∷ [])
    ++ frame_0
    ++ checksum_0
    ++ frame_1
    ++ checksum_1
    ++ frame_2
    ++ checksum_2
    ++ (0 ∷ [])
    ++ codes "DSTI" ++ (0 ∷ 0 ∷ 0 ∷ 0 ∷ 0 ∷ 0 ∷ 0 ∷ 36 ∷ [])
    ++ (0 ∷ 0 ∷ 0 ∷ 0 ∷ 0 ∷ 0 ∷ 0 ∷ 156 ∷ 0 ∷ 0 ∷ 0 ∷ 1 ∷ [])
    ++ (0 ∷ 0 ∷ 0 ∷ 0 ∷ 0 ∷ 0 ∷ 0 ∷ 186 ∷ 0 ∷ 0 ∷ 0 ∷ 2 ∷ [])
    ++ (0 ∷ 0 ∷ 0 ∷ 0 ∷ 0 ∷ 0 ∷ 0 ∷ 216 ∷ 0 ∷ 0 ∷ 0 ∷ 1 ∷ [])
    ++ codes "KEPT" ++ (0 ∷ 0 ∷ 0 ∷ 0 ∷ 0 ∷ 0 ∷ 0 ∷ 32 ∷ 2 ∷ 0 ∷ 0 ∷ 0 ∷ 0 ∷ 0 ∷ 0 ∷ 36 ∷ 195 ∷ 7 ∷ 0 ∷ 0 ∷ 0 ∷ 0 ∷ [])
    ++ kept_cmpr
    ++ last_one

-- three frames without `KEPT` and `DSTI`
abbrev pub unkept : List ℕ
unkept =
    codes "FRM8" ++ (0 ∷ 0 ∷ 0 ∷ 0 ∷ 0 ∷ 0 ∷ 0 ∷ 160 ∷ []) ++ codes "DSD "
    ++ version
    ++ mono
    ++ codes "DST " ++ (0 ∷ 0 ∷ 0 ∷ 0 ∷ 0 ∷ 0 ∷ 0 ∷ 60 ∷ [])
    ++ codes "FRTE" ++ (0 ∷ 0 ∷ 0 ∷ 0 ∷ 0 ∷ 0 ∷ 0 ∷ 6 ∷ 0 ∷ 0 ∷ 0 ∷ 3 ∷ 0 ∷ 75 ∷ [])
    ++ frame_0
    ++ frame_1
    ++ frame_2

-- its last two frames
abbrev pub unkept_last_two : List ℕ
unkept_last_two =
    codes "FRM8" ++ (0 ∷ 0 ∷ 0 ∷ 0 ∷ 0 ∷ 0 ∷ 0 ∷ 182 ∷ []) ++ codes "DSD "
    ++ version
    ++ mono
    ++ codes "DST " ++ (0 ∷ 0 ∷ 0 ∷ 0 ∷ 0 ∷ 0 ∷ 0 ∷ 46 ∷ [])
    ++ codes "FRTE" ++ (0 ∷ 0 ∷ 0 ∷ 0 ∷ 0 ∷ 0 ∷ 0 ∷ 6 ∷ 0 ∷ 0 ∷ 0 ∷ 2 ∷ 0 ∷ 75 ∷ [])
    ++ frame_1
    ++ frame_2
    ++ codes "DSTI" ++ (0 ∷ 0 ∷ 0 ∷ 0 ∷ 0 ∷ 0 ∷ 0 ∷ 24 ∷ [])
    ++ (0 ∷ 0 ∷ 0 ∷ 0 ∷ 0 ∷ 0 ∷ 0 ∷ 142 ∷ 0 ∷ 0 ∷ 0 ∷ 2 ∷ [])
    ++ (0 ∷ 0 ∷ 0 ∷ 0 ∷ 0 ∷ 0 ∷ 0 ∷ 156 ∷ 0 ∷ 0 ∷ 0 ∷ 1 ∷ [])

-- its second frame
abbrev pub unkept_second : List ℕ
unkept_second =
    codes "FRM8" ++ (0 ∷ 0 ∷ 0 ∷ 0 ∷ 0 ∷ 0 ∷ 0 ∷ 156 ∷ []) ++ codes "DSD "
    ++ version
    ++ mono
    ++ codes "DST " ++ (0 ∷ 0 ∷ 0 ∷ 0 ∷ 0 ∷ 0 ∷ 0 ∷ 32 ∷ [])
    ++ codes "FRTE" ++ (0 ∷ 0 ∷ 0 ∷ 0 ∷ 0 ∷ 0 ∷ 0 ∷ 6 ∷ 0 ∷ 0 ∷ 0 ∷ 1 ∷ 0 ∷ 75 ∷ [])
    ++ frame_1
    ++ codes "DSTI" ++ (0 ∷ 0 ∷ 0 ∷ 0 ∷ 0 ∷ 0 ∷ 0 ∷ 12 ∷ [])
    ++ (0 ∷ 0 ∷ 0 ∷ 0 ∷ 0 ∷ 0 ∷ 0 ∷ 142 ∷ 0 ∷ 0 ∷ 0 ∷ 2 ∷ [])

-- with a `KEPT` of version 1
abbrev pub of_version_1 : List ℕ
of_version_1 =
    codes "FRM8" ++ (0 ∷ 0 ∷ 0 ∷ 0 ∷ 0 ∷ 0 ∷ 0 ∷ 200 ∷ []) ++ codes "DSD "
    ++ version
    ++ mono
    ++ codes "DST " ++ (0 ∷ 0 ∷ 0 ∷ 0 ∷ 0 ∷ 0 ∷ 0 ∷ 60 ∷ [])
    ++ codes "FRTE" ++ (0 ∷ 0 ∷ 0 ∷ 0 ∷ 0 ∷ 0 ∷ 0 ∷ 6 ∷ 0 ∷ 0 ∷ 0 ∷ 3 ∷ 0 ∷ 75 ∷ [])
    ++ frame_0
    ++ frame_1
    ++ frame_2
    ++ codes "KEPT" ++ (0 ∷ 0 ∷ 0 ∷ 0 ∷ 0 ∷ 0 ∷ 0 ∷ 27 ∷ 1 ∷ 0 ∷ 0 ∷ 0 ∷ 0 ∷ 0 ∷ 0 ∷ 36 ∷ 195 ∷ [])
    ++ kept_cmpr
    ++ (4 ∷ [])

-- its last frame, with a `KEPT` of version 2
abbrev pub last_of_version_1 : List ℕ
last_of_version_1 =
    codes "FRM8" ++ (0 ∷ 0 ∷ 0 ∷ 0 ∷ 0 ∷ 0 ∷ 0 ∷ 200 ∷ []) ++ codes "DSD "
    ++ version
    ++ mono
    ++ codes "DST " ++ (0 ∷ 0 ∷ 0 ∷ 0 ∷ 0 ∷ 0 ∷ 0 ∷ 32 ∷ [])
    ++ codes "FRTE" ++ (0 ∷ 0 ∷ 0 ∷ 0 ∷ 0 ∷ 0 ∷ 0 ∷ 6 ∷ 0 ∷ 0 ∷ 0 ∷ 1 ∷ 0 ∷ 75 ∷ [])
    ++ frame_2
    ++ codes "DSTI" ++ (0 ∷ 0 ∷ 0 ∷ 0 ∷ 0 ∷ 0 ∷ 0 ∷ 12 ∷ [])
    ++ (0 ∷ 0 ∷ 0 ∷ 0 ∷ 0 ∷ 0 ∷ 0 ∷ 142 ∷ 0 ∷ 0 ∷ 0 ∷ 1 ∷ [])
    ++ codes "KEPT" ++ (0 ∷ 0 ∷ 0 ∷ 0 ∷ 0 ∷ 0 ∷ 0 ∷ 32 ∷ 2 ∷ 0 ∷ 0 ∷ 0 ∷ 0 ∷ 0 ∷ 0 ∷ 0 ∷ 3 ∷ 0 ∷ 0 ∷ 0 ∷ 0 ∷ 0 ∷ [])
    ++ kept_cmpr

-- ---- cut
pub first_two_of_three : cut three (accepted three) 0 1 ≡ first_two
unfolding written_open
first_two_of_three = refl

pub second_of_three : cut three (accepted three) 1 1 ≡ second_alone
unfolding written_open
second_of_three = refl

pub last_two_of_three : cut three (accepted three) 1 2 ≡ last_two
unfolding written_open
last_two_of_three = refl

pub all_of_three : cut three (accepted three) 0 2 ≡ all_three
unfolding written_open
all_of_three = refl

pub second_without_a_kept_size : cut unkept (accepted unkept) 1 1 ≡ unkept_second
unfolding written_open
second_without_a_kept_size = refl

pub last_two_without_a_kept_size : cut unkept (accepted unkept) 1 2 ≡ unkept_last_two
unfolding written_open
last_two_without_a_kept_size = refl

pub last_of_version_1_is_cut : cut of_version_1 (accepted of_version_1) 2 2 ≡ last_of_version_1
unfolding written_open
last_of_version_1_is_cut = refl

-- ---- what isn't written: more than 1,024 chunks, and a form of more than 2^50 bytes behind its size
pub most_chunks : cut_fault (replicate 1024 []) ∷ cut_fault (replicate 1025 []) ∷ [] ≡ None ∷ Some TooManyChunks ∷ []
most_chunks = refl

one_chunk : (w : List ℕ) → cut_fault (w ∷ []) ≡ (FormTooLarge when 4 + length w above 2 ^ 50)
one_chunk w = ap (λ v. FormTooLarge when 4 + length v above 2 ^ 50) (append-nil w)

pub largest_form : (w : List ℕ) → 4 + length w ≡ 2 ^ 50 → cut_fault (w ∷ []) ≡ None
largest_form w e = one_chunk w ∙ ap (λ n. FormTooLarge when n above 2 ^ 50) e

pub larger_form : (w : List ℕ) → 4 + length w ≡ 2 ^ 50 + 1 → cut_fault (w ∷ []) ≡ Some FormTooLarge
larger_form w e = one_chunk w ∙ ap (λ n. FormTooLarge when n above 2 ^ 50) e

-- ---- a file that is cut, by its last frame
pub three_are_cut : refusal (words.cut 0 2) three ≡ None
unfolding written_open refusal
three_are_cut = refl

pub a_fourth_is_not_there : refusal (words.cut 0 3) three ≡ Some (Range 3 3)
unfolding written_open refusal
a_fourth_is_not_there = refl

-- where the walk finds the frames and the last is there, the chunks that would be written are asked
pub its_chunks_are_asked : (file : List ℕ) (form : Form) (first last : ℕ) → not_walked file form ≡ None → no_frame last form.frames ≡ None →
    command_fault (words.cut first last) file form ≡ cut_fault (cut_chunks file form first last)
its_chunks_are_asked file form first last walked there = rw (walked, there) refl
