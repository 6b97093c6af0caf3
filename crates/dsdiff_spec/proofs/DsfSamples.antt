-- Samples of DSF files, the form that stands for one, and what a coded form says of a DSF file.
use Rattle.std.proofs.Common.{◌≡◌, ℕ, ◌+◌, ◌++◌, List, [], ◌∷◌, map, replicate, refl, ap, ◌∙◌, Option, Some, None}
use Rattle.std.specs.Prelude.{codes, ⊤, ◌*◌, ◌==◌, if◌then◌else◌, length, take, drop}
use Rattle.std.specs.Fmt.{digits}
use Rattle.byteorder.specs.Endian.{big_bytes}
use Rattle.dst_spec.specs.Bits.{number_from}
use Rattle.dsdiff_spec.specs.Chunks.{Head}
use Rattle.dsdiff_spec.specs.Form.{Form, coded}
use Rattle.dsdiff_spec.specs.Made.{plain_form}
use Rattle.dsdiff_spec.specs.Samples.{sound_of, sample_in}
use Rattle.dsdiff_spec.specs.Rules.{accepted}
use Rattle.dsdiff_spec.specs.Dsf.{Dsf, dsf_of, dsf_sample, rows, bytes_of_blocks, octets, dsdiff, dsf_in, dsfk_fault}
use Rattle.dsdiff_spec.specs.Dsf.{dsf_header, dsf_byte, dsf_row, ToDsf, DsfBefore}
use Rattle.dsdiff_spec.specs.declared.faults.FileFault.{FileFault}
use Rattle.dsdiff_spec.specs.declared.faults.FileFault.TheVariants.{DsfKeptBad}
use Rattle.dsdiff_spec.proofs.Files.{two_coded}
use Rattle.dsdiff_spec.proofs.OddFiles.{dsf}
use Rattle.dsdiff_spec.proofs.Forms.{but, forms_open}
use Rattle.dsdiff_spec.proofs.DsfLengths.{length-dsf_with}

unfoldable dsf_samples_open : ⊤
unfolding forms_open plain_form sound_of number_from digits
dsf_samples_open = tt

-- ---- what a header says
pub what_the_header_says : dsf_of dsf ≡ record { channels = 1; multiple = 1; samples = 12; type = 1; bits = 1 }
what_the_header_says = refl

-- each number by all of its bytes, the least first; 202,050,057 samples a second are more than 71 multiples and less than 72
pub numbers_of_the_head :
    dsf_of (replicate 48 99 ++ (1 ∷ 2 ∷ 3 ∷ 4 ∷ 5 ∷ 6 ∷ 7 ∷ 8 ∷ 9 ∷ 10 ∷ 11 ∷ 12 ∷ 13 ∷ 14 ∷ 15 ∷ 16 ∷ 17 ∷ 18 ∷ 19 ∷ 20 ∷ 21 ∷ 22 ∷ 23 ∷ 24 ∷ 99 ∷ []))
    ≡ record { channels = 134678021; multiple = 71; samples = 1735880461161533969; type = 67305985; bits = 269422093 }
numbers_of_the_head = refl

-- 2,822,400 a second are one multiple, and a sample less is none
pub multiples_of_rates :
    map (λ f. (dsf_of f).multiple) (but 56 255 (but 57 16 dsf) ∷ dsf ∷ but 56 255 (but 57 33 (but 58 86 dsf)) ∷ but 57 34 (but 58 86 dsf) ∷ [])
    ≡ 0 ∷ 1 ∷ 1 ∷ 2 ∷ []
multiples_of_rates = refl

abbrev of_channels_and_samples : ℕ → ℕ → Dsf
of_channels_and_samples channels samples = record { channels = channels; multiple = 1; samples = samples; type = 1; bits = 1 }

pub rows_of_blocks :
    map (λ n. rows (of_channels_and_samples 1 n)) (0 ∷ 1 ∷ 32768 ∷ 32769 ∷ 65536 ∷ 65537 ∷ []) ≡ 0 ∷ 1 ∷ 1 ∷ 2 ∷ 2 ∷ 3 ∷ []
rows_of_blocks = refl

pub bytes_of_each_channel : map (λ n. octets (of_channels_and_samples 1 n)) (0 ∷ 1 ∷ 8 ∷ 9 ∷ 16 ∷ 17 ∷ []) ≡ 0 ∷ 1 ∷ 1 ∷ 2 ∷ 2 ∷ 3 ∷ []
bytes_of_each_channel = refl

pub bytes_in_blocks : bytes_of_blocks (of_channels_and_samples 5 32769) ≡ 40960
bytes_in_blocks = refl

-- ---- samples: 53 is 00110101, and 255 behind it
pub earliest_in_the_least_bit :
    map (dsf_sample dsf 0) (0 ∷ 1 ∷ 2 ∷ 3 ∷ 4 ∷ 5 ∷ 6 ∷ 7 ∷ 8 ∷ 11 ∷ 12 ∷ 15 ∷ []) ≡ 1 ∷ 0 ∷ 1 ∷ 0 ∷ 1 ∷ 1 ∷ 0 ∷ 0 ∷ 1 ∷ 1 ∷ 0 ∷ 0 ∷ []
earliest_in_the_least_bit = refl

pub earliest_in_the_most_bit :
    map (dsf_sample (but 60 8 dsf) 0) (0 ∷ 1 ∷ 2 ∷ 3 ∷ 4 ∷ 5 ∷ 6 ∷ 7 ∷ 8 ∷ 11 ∷ 12 ∷ 15 ∷ []) ≡ 0 ∷ 0 ∷ 1 ∷ 1 ∷ 0 ∷ 1 ∷ 0 ∷ 1 ∷ 1 ∷ 1 ∷ 0 ∷ 0 ∷ []
earliest_in_the_most_bit = refl

-- two channels with two rows of blocks, in each of which the last bytes are 1 and all others 0 or 255
abbrev block : ℕ → ℕ → List ℕ
block first last = first ∷ replicate 4094 0 ++ last ∷ []

abbrev two_rows : List ℕ
two_rows = but 52 2 (but 64 255 (but 65 255 (take 92 dsf))) ++ block 1 128 ++ block 2 0 ++ block 4 64 ++ block 8 0

-- the first byte of each block, and the last one of a first block
pub blocks_stand_in_turn :
    map (dsf_sample two_rows 0) (0 ∷ 1 ∷ 2 ∷ 32766 ∷ 32767 ∷ 32768 ∷ 32770 ∷ 65534 ∷ []) ≡ 1 ∷ 0 ∷ 0 ∷ 0 ∷ 1 ∷ 0 ∷ 1 ∷ 1 ∷ []
blocks_stand_in_turn = refl

pub blocks_of_the_other_channel :
    map (dsf_sample two_rows 1) (0 ∷ 1 ∷ 2 ∷ 32766 ∷ 32767 ∷ 32768 ∷ 32771 ∷ 65534 ∷ []) ≡ 0 ∷ 1 ∷ 0 ∷ 0 ∷ 0 ∷ 0 ∷ 1 ∷ 0 ∷ []
blocks_of_the_other_channel = refl

-- ---- the form that stands for a file has 154 bytes
abbrev dsf_plain : List ℕ
dsf_plain =
    codes "FRM8" ++ (0 ∷ 0 ∷ 0 ∷ 0 ∷ 0 ∷ 0 ∷ 0 ∷ 142 ∷ []) ++ codes "DSD "
    ++ codes "FVER" ++ (0 ∷ 0 ∷ 0 ∷ 0 ∷ 0 ∷ 0 ∷ 0 ∷ 4 ∷ 1 ∷ 5 ∷ 0 ∷ 0 ∷ [])
    ++ codes "PROP" ++ (0 ∷ 0 ∷ 0 ∷ 0 ∷ 0 ∷ 0 ∷ 0 ∷ 70 ∷ []) ++ codes "SND "
    ++ codes "FS  " ++ (0 ∷ 0 ∷ 0 ∷ 0 ∷ 0 ∷ 0 ∷ 0 ∷ 4 ∷ 0 ∷ 43 ∷ 17 ∷ 0 ∷ [])
    ++ codes "CHNL" ++ (0 ∷ 0 ∷ 0 ∷ 0 ∷ 0 ∷ 0 ∷ 0 ∷ 6 ∷ 0 ∷ 1 ∷ []) ++ codes "C000"
    ++ codes "CMPR" ++ (0 ∷ 0 ∷ 0 ∷ 0 ∷ 0 ∷ 0 ∷ 0 ∷ 19 ∷ []) ++ codes "DSD " ++ (14 ∷ []) ++ codes "not compressed" ++ (0 ∷ [])
    ++ codes "DSD " ++ (0 ∷ 0 ∷ 0 ∷ 0 ∷ 0 ∷ 0 ∷ 0 ∷ 2 ∷ 172 ∷ 240 ∷ [])
    ++ codes "DSFK" ++ (0 ∷ 0 ∷ 0 ∷ 0 ∷ 0 ∷ 0 ∷ 0 ∷ 14 ∷ 1 ∷ 0 ∷ 0 ∷ 0 ∷ 0 ∷ 0 ∷ 0 ∷ 0 ∷ 12 ∷ 0 ∷ 0 ∷ 0 ∷ 1 ∷ 1 ∷ [])

pub form_of_a_dsf_file : dsdiff dsf ≡ dsf_plain
unfolding dsf_samples_open
form_of_a_dsf_file = refl

pub size_of_that_form : length dsf_plain ≡ 154
size_of_that_form = refl

-- with 8 bits per sample the bytes of the blocks are those of the sound, but for what stands behind the last sample
pub form_with_eight_bits : dsdiff (but 60 8 (but 92 172 (but 93 255 dsf))) ≡ but 153 8 dsf_plain
unfolding dsf_samples_open
form_with_eight_bits = refl

-- an odd sound has a pad byte 0; channel type and number of samples are passed on
pub form_of_an_odd_sound :
    dsdiff (but 48 200 (but 64 3 dsf)) ≡
    but 125 1 (take 126 dsf_plain) ++ (160 ∷ 0 ∷ []) ++ codes "DSFK"
    ++ (0 ∷ 0 ∷ 0 ∷ 0 ∷ 0 ∷ 0 ∷ 0 ∷ 14 ∷ 1 ∷ 0 ∷ 0 ∷ 0 ∷ 0 ∷ 0 ∷ 0 ∷ 0 ∷ 3 ∷ 0 ∷ 0 ∷ 0 ∷ 200 ∷ 1 ∷ [])
unfolding dsf_samples_open
form_of_an_odd_sound = refl

-- ---- `DSFK` in a coded form, here by its head and the file's bytes alone
abbrev of_sound : ℕ → ℕ → List Head → Form
of_sound channels size heads = record {
  kind = coded;
  channels = channels;
  multiple = 2;
  end = 0;
  chunks = heads;
  prop = [];
  sound = record { id = codes "DST "; place = 0; size = 0 };
  frames = 1;
  origin = Some (record { sound = size; pad = 0; cmpr = []; kept = [] });
  pad = 0;
  behind = [];
}

abbrev at : ℕ → ℕ → Head
at place size = record { id = codes "DSFK"; place = place; size = size }

abbrev dsfk_of : ℕ → ℕ → ℕ → ℕ → List ℕ
dsfk_of version samples type order = replicate 12 0 ++ version ∷ big_bytes 8 samples ++ big_bytes 4 type ++ order ∷ []

pub dsfk_is_read :
    dsf_in (dsfk_of 1 17 70000 8) (of_sound 5 15 (at 0 14 ∷ [])) ≡ record { channels = 5; multiple = 2; samples = 17; type = 70000; bits = 8 }
dsfk_is_read = refl

pub without_dsfk : map (λ c. dsf_in [] (of_sound c (3 * c) [])) (1 ∷ 2 ∷ 3 ∷ 4 ∷ 5 ∷ 6 ∷ [])
    ≡ record { channels = 1; multiple = 2; samples = 24; type = 1; bits = 1 }
    ∷ record { channels = 2; multiple = 2; samples = 24; type = 2; bits = 1 }
    ∷ record { channels = 3; multiple = 2; samples = 24; type = 3; bits = 1 }
    ∷ record { channels = 4; multiple = 2; samples = 24; type = 4; bits = 1 }
    ∷ record { channels = 5; multiple = 2; samples = 24; type = 6; bits = 1 }
    ∷ record { channels = 6; multiple = 2; samples = 24; type = 7; bits = 1 } ∷ []
without_dsfk = refl

-- a chunk with this version, samples and bits per sample, in a form of two channels with six bytes of sound
abbrev of_dsfk : ℕ → ℕ → ℕ → Option FileFault
of_dsfk version samples order = dsfk_fault (dsfk_of version samples 0 order) (of_sound 2 6 (at 0 14 ∷ []))

pub lawful_dsfk : of_dsfk 1 17 1 ∷ of_dsfk 1 24 8 ∷ dsfk_fault [] (of_sound 2 6 []) ∷ [] ≡ None ∷ None ∷ None ∷ []
lawful_dsfk = refl

pub unlawful_dsfk :
    of_dsfk 0 17 1 ∷ of_dsfk 2 17 1 ∷ of_dsfk 1 16 1 ∷ of_dsfk 1 25 1 ∷ of_dsfk 1 17 0 ∷ of_dsfk 1 17 2 ∷ of_dsfk 1 17 7 ∷ of_dsfk 1 17 9 ∷ []
    ≡ Some DsfKeptBad ∷ Some DsfKeptBad ∷ Some DsfKeptBad ∷ Some DsfKeptBad ∷ Some DsfKeptBad ∷ Some DsfKeptBad ∷ Some DsfKeptBad ∷ Some DsfKeptBad ∷ []
unlawful_dsfk = refl

pub dsfk_of_another_size_or_twice :
    map (λ heads. dsfk_fault (dsfk_of 1 17 0 1) (of_sound 2 6 heads)) ((at 0 13 ∷ []) ∷ (at 0 15 ∷ []) ∷ (at 0 14 ∷ at 0 14 ∷ []) ∷ [])
    ≡ Some DsfKeptBad ∷ Some DsfKeptBad ∷ Some DsfKeptBad ∷ []
dsfk_of_another_size_or_twice = refl

-- ---- what is written: a header, and a block of each channel in turn
pub header_of_a_dsf_file :
    dsf_header (record { channels = 5; multiple = 4; samples = 32769; type = 200; bits = 8 }) ≡
    codes "DSD " ++ (28 ∷ 0 ∷ 0 ∷ 0 ∷ 0 ∷ 0 ∷ 0 ∷ 0 ∷ 92 ∷ 160 ∷ 0 ∷ 0 ∷ 0 ∷ 0 ∷ 0 ∷ 0 ∷ 0 ∷ 0 ∷ 0 ∷ 0 ∷ 0 ∷ 0 ∷ 0 ∷ 0 ∷ [])
    ++ codes "fmt " ++ (52 ∷ 0 ∷ 0 ∷ 0 ∷ 0 ∷ 0 ∷ 0 ∷ 0 ∷ 1 ∷ 0 ∷ 0 ∷ 0 ∷ 0 ∷ 0 ∷ 0 ∷ 0 ∷ 200 ∷ 0 ∷ 0 ∷ 0 ∷ 5 ∷ 0 ∷ 0 ∷ 0 ∷ 0 ∷ 68 ∷ 172 ∷ 0 ∷ [])
    ++ (8 ∷ 0 ∷ 0 ∷ 0 ∷ 1 ∷ 128 ∷ 0 ∷ 0 ∷ 0 ∷ 0 ∷ 0 ∷ 0 ∷ 0 ∷ 16 ∷ 0 ∷ 0 ∷ 0 ∷ 0 ∷ 0 ∷ 0 ∷ [])
    ++ codes "data" ++ (12 ∷ 160 ∷ 0 ∷ 0 ∷ 0 ∷ 0 ∷ 0 ∷ 0 ∷ [])
header_of_a_dsf_file = refl

-- 172 is 10101100, and turned round 00110101
pub bytes_of_samples :
    map (λ bits. dsf_byte (record { channels = 2; multiple = 1; samples = 0; type = 2; bits = bits }) (sample_in (240 ∷ 1 ∷ 2 ∷ 172 ∷ []) 2) 1 1)
    (1 ∷ 8 ∷ []) ≡ 53 ∷ 172 ∷ []
unfolding number_from
bytes_of_samples = refl

-- the second row of blocks begins with byte 4,096 of each channel, here with sample 32,768 of one and sample 32,775 of the other alone
abbrev one_sample_each : ℕ → ℕ → ℕ
one_sample_each c t = if t == 32768 + 7 * c then 1 else 0

abbrev second_row : List ℕ
second_row = dsf_row (record { channels = 2; multiple = 1; samples = 0; type = 2; bits = 8 }) one_sample_each 1

pub second_row_of_blocks : take 2 second_row ++ take 2 (drop 4095 second_row) ≡ 128 ∷ 0 ∷ 0 ∷ 1 ∷ []
unfolding number_from
second_row_of_blocks = refl

-- In front of the second of two frames the sound of 4,704 bytes fills one row of 4,096 bytes whole, and in front of the first none.
pub one_row_in_front_of_the_second_frame : (out : List ℕ) → DsfBefore two_coded (accepted two_coded) 1 out → length out ≡ 92 + 4096
unfolding forms_open
one_row_in_front_of_the_second_frame out before = ap length before.written ∙ length-dsf_with _ _ 1

pub no_row_in_front_of_the_first_frame : (out : List ℕ) → DsfBefore two_coded (accepted two_coded) 0 out → length out ≡ 92
unfolding forms_open
no_row_in_front_of_the_first_frame out before = ap length before.written ∙ length-dsf_with _ _ 0

-- all of it has two rows
pub two_rows_of_both_frames : (out : List ℕ) → ToDsf two_coded (accepted two_coded) out → length out ≡ 92 + 8192
unfolding forms_open
two_rows_of_both_frames out all = ap length all.written ∙ length-dsf_with _ _ 2

-- At twice the lowest rate a frame has 9,408 bytes: 64 frames fill 147 rows to the last byte, and 37 frames, 64 bytes less than 85 rows, fill 84.
pub rows_in_front_of_frame_64 : (file out : List ℕ) → DsfBefore file (of_sound 1 602112 []) 64 out → length out ≡ 92 + 147 * 4096
rows_in_front_of_frame_64 file out before = ap length before.written ∙ length-dsf_with _ _ 147

pub rows_in_front_of_frame_37 : (file out : List ℕ) → DsfBefore file (of_sound 1 602112 []) 37 out → length out ≡ 92 + 84 * 4096
rows_in_front_of_frame_37 file out before = ap length before.written ∙ length-dsf_with _ _ 84
