-- Faults of DSF files: for each number of the layout a file that is just accepted, and one that is refused.
use Rattle.std.proofs.Common.{◌≡◌, ℕ, ◌++◌, List, [], ◌∷◌, map, take, refl, Option, Some, None}
use Rattle.std.specs.Prelude.{codes, ⊤}
use Rattle.dsdiff_spec.specs.Refusal.{refusal}
use Rattle.dsdiff_spec.specs.Words.{encode_dsf}
use Rattle.dsdiff_spec.specs.declared.faults.FileFault.{FileFault}
use Rattle.dsdiff_spec.specs.declared.faults.FileFault.TheVariants.{Channels, Rate, TooManyFrames, Overrun, DsfForm, DsfFormat, DsfCount}
use Rattle.dsdiff_spec.specs.Dsf.{dsf_fault}
use Rattle.dsdiff_spec.proofs.OddFiles.{dsf}
use Rattle.dsdiff_spec.proofs.Forms.{but}

unfoldable dsf_faults_open : ⊤
unfolding dsf_fault refusal
dsf_faults_open = tt

-- a header of 92 bytes by its channel type, channels, rate, bits per sample, samples and the size of its blocks; file size, place of
-- metadata and the reserved field are 7, 8 and 9
abbrev headed : List ℕ → List ℕ → List ℕ → List ℕ → List ℕ → List ℕ → List ℕ
headed type channels rate order samples size =
    codes "DSD " ++ (28 ∷ 0 ∷ 0 ∷ 0 ∷ 0 ∷ 0 ∷ 0 ∷ 0 ∷ 7 ∷ 0 ∷ 0 ∷ 0 ∷ 0 ∷ 0 ∷ 0 ∷ 0 ∷ 8 ∷ 0 ∷ 0 ∷ 0 ∷ 0 ∷ 0 ∷ 0 ∷ 0 ∷ [])
    ++ codes "fmt " ++ (52 ∷ 0 ∷ 0 ∷ 0 ∷ 0 ∷ 0 ∷ 0 ∷ 0 ∷ 1 ∷ 0 ∷ 0 ∷ 0 ∷ 0 ∷ 0 ∷ 0 ∷ 0 ∷ [])
    ++ type ++ channels ++ rate ++ order ++ samples ++ (0 ∷ 16 ∷ 0 ∷ 0 ∷ 9 ∷ 0 ∷ 0 ∷ 0 ∷ []) ++ codes "data" ++ size

abbrev four : ℕ → List ℕ
four n = n ∷ 0 ∷ 0 ∷ 0 ∷ []

abbrev eight : ℕ → List ℕ
eight n = n ∷ 0 ∷ 0 ∷ 0 ∷ 0 ∷ 0 ∷ 0 ∷ 0 ∷ []

abbrev rate_of_64 : List ℕ
rate_of_64 = 0 ∷ 17 ∷ 43 ∷ 0 ∷ []

-- without samples, so that there are no blocks
abbrev silent : List ℕ
silent = headed (four 1) (four 1) rate_of_64 (four 1) (eight 0) (eight 12)

abbrev silent_but : ℕ → ℕ → Option FileFault
silent_but place byte = dsf_fault (but place byte silent)

abbrev is_refused_so : FileFault → List (Option FileFault) → Type 0
is_refused_so fault faults = faults ≡ map (λ _. Some fault) faults

abbrev are_accepted : List (Option FileFault) → Type 0
are_accepted faults = faults ≡ map (λ _. None) faults

pub header_alone_is_a_file : dsf_fault silent ≡ None
unfolding dsf_faults_open
header_alone_is_a_file = refl

pub a_dsf_file_is_accepted : refusal (encode_dsf 0) dsf ≡ None
unfolding dsf_faults_open
a_dsf_file_is_accepted = refl

pub shorter_than_its_header : dsf_fault (take 91 silent) ∷ dsf_fault [] ∷ [] ≡ Some DsfForm ∷ Some DsfForm ∷ []
unfolding dsf_faults_open
shorter_than_its_header = refl

-- ids and sizes, each at its first and last byte
pub another_id_or_size :
    is_refused_so DsfForm (
    silent_but 0 100 ∷ silent_but 3 0 ∷ silent_but 4 27 ∷ silent_but 11 1 ∷ silent_but 28 70 ∷ silent_but 31 0 ∷ silent_but 32 53 ∷ silent_but 39 1
    ∷ silent_but 80 68 ∷ silent_but 83 0 ∷ [])
unfolding dsf_faults_open
another_id_or_size = refl

-- version, format, bits per sample and the size of blocks
pub another_format :
    is_refused_so DsfFormat (
    silent_but 40 2 ∷ silent_but 43 1 ∷ silent_but 44 1 ∷ silent_but 47 1 ∷ silent_but 60 0 ∷ silent_but 60 2 ∷ silent_but 60 7 ∷ silent_but 60 9
    ∷ silent_but 63 1 ∷ silent_but 72 1 ∷ silent_but 73 0 ∷ silent_but 73 32 ∷ silent_but 75 1 ∷ [])
unfolding dsf_faults_open
another_format = refl

pub one_bit_or_eight : are_accepted (silent_but 60 1 ∷ silent_but 60 8 ∷ [])
unfolding dsf_faults_open
one_bit_or_eight = refl

pub one_channel_to_six :
    are_accepted (silent_but 52 1 ∷ silent_but 52 2 ∷ silent_but 52 3 ∷ silent_but 52 4 ∷ silent_but 52 5 ∷ silent_but 52 6 ∷ [])
unfolding dsf_faults_open
one_channel_to_six = refl

pub no_channel_or_seven : is_refused_so Channels (silent_but 52 0 ∷ silent_but 52 7 ∷ silent_but 55 1 ∷ [])
unfolding dsf_faults_open
no_channel_or_seven = refl

abbrev at_rate : List ℕ → Option FileFault
at_rate rate = dsf_fault (headed (four 1) (four 1) rate (four 1) (eight 0) (eight 12))

pub three_rates : are_accepted (at_rate (0 ∷ 17 ∷ 43 ∷ 0 ∷ []) ∷ at_rate (0 ∷ 34 ∷ 86 ∷ 0 ∷ []) ∷ at_rate (0 ∷ 68 ∷ 172 ∷ 0 ∷ []) ∷ [])
unfolding dsf_faults_open
three_rates = refl

pub other_rates :
    is_refused_so Rate (
    at_rate (four 0) ∷ at_rate (1 ∷ 17 ∷ 43 ∷ 0 ∷ []) ∷ at_rate (0 ∷ 17 ∷ 43 ∷ 1 ∷ []) ∷ at_rate (0 ∷ 51 ∷ 129 ∷ 0 ∷ []) ∷ at_rate (0 ∷ 136 ∷ 88 ∷ 1 ∷ []) ∷ [])
unfolding dsf_faults_open
other_rates = refl

-- what isn't looked at: file size, place of metadata, channel type, the reserved field, what is more in the size of the blocks
pub fields_that_are_not_looked_at :
    are_accepted (
    silent_but 12 0 ∷ silent_but 19 1 ∷ silent_but 20 0 ∷ silent_but 27 1 ∷ silent_but 48 0 ∷ silent_but 48 200 ∷ silent_but 51 1 ∷ silent_but 76 0
    ∷ silent_but 79 1 ∷ silent_but 84 13 ∷ silent_but 91 1 ∷ [])
unfolding dsf_faults_open
fields_that_are_not_looked_at = refl

-- ---- a million frames are 37,632,000,000 samples at 64 times 44.1 kHz, and two or four times as many at higher rates
abbrev of_samples : List ℕ → List ℕ → Option FileFault
of_samples rate samples = dsf_fault (headed (four 1) (four 1) rate (four 1) samples (eight 12))

pub a_million_frames :
    of_samples (0 ∷ 17 ∷ 43 ∷ 0 ∷ []) (0 ∷ 192 ∷ 10 ∷ 195 ∷ 8 ∷ 0 ∷ 0 ∷ 0 ∷ [])
    ∷ of_samples (0 ∷ 34 ∷ 86 ∷ 0 ∷ []) (0 ∷ 128 ∷ 21 ∷ 134 ∷ 17 ∷ 0 ∷ 0 ∷ 0 ∷ [])
    ∷ of_samples (0 ∷ 68 ∷ 172 ∷ 0 ∷ []) (0 ∷ 0 ∷ 43 ∷ 12 ∷ 35 ∷ 0 ∷ 0 ∷ 0 ∷ []) ∷ []
    ≡ Some (DsfCount 37632000000 12) ∷ Some (DsfCount 75264000000 12) ∷ Some (DsfCount 150528000000 12) ∷ []
unfolding dsf_faults_open
a_million_frames = refl

pub one_sample_more :
    is_refused_so TooManyFrames (
    of_samples (0 ∷ 17 ∷ 43 ∷ 0 ∷ []) (1 ∷ 192 ∷ 10 ∷ 195 ∷ 8 ∷ 0 ∷ 0 ∷ 0 ∷ [])
    ∷ of_samples (0 ∷ 34 ∷ 86 ∷ 0 ∷ []) (1 ∷ 128 ∷ 21 ∷ 134 ∷ 17 ∷ 0 ∷ 0 ∷ 0 ∷ [])
    ∷ of_samples (0 ∷ 68 ∷ 172 ∷ 0 ∷ []) (1 ∷ 0 ∷ 43 ∷ 12 ∷ 35 ∷ 0 ∷ 0 ∷ 0 ∷ [])
    ∷ of_samples rate_of_64 (0 ∷ 0 ∷ 0 ∷ 0 ∷ 0 ∷ 0 ∷ 0 ∷ 1 ∷ []) ∷ [])
unfolding dsf_faults_open
one_sample_more = refl

-- ---- blocks: a row for each 32,768 samples begun, with 4,096 bytes of each channel
-- by the number of channels, samples, and the size of the blocks with its twelve bytes of head
abbrev of_size : ℕ → List ℕ → List ℕ → Option FileFault
of_size channels samples size = dsf_fault (headed (four 1) (four channels) rate_of_64 (four 1) samples size)

-- one sample is in a row of 4,096 bytes, and so are 32,768; with one more there are two
pub sizes_of_blocks :
    of_size 1 (eight 1) (12 ∷ 16 ∷ 0 ∷ 0 ∷ 0 ∷ 0 ∷ 0 ∷ 0 ∷ [])
    ∷ of_size 1 (0 ∷ 128 ∷ 0 ∷ 0 ∷ 0 ∷ 0 ∷ 0 ∷ 0 ∷ []) (12 ∷ 16 ∷ 0 ∷ 0 ∷ 0 ∷ 0 ∷ 0 ∷ 0 ∷ [])
    ∷ of_size 1 (1 ∷ 128 ∷ 0 ∷ 0 ∷ 0 ∷ 0 ∷ 0 ∷ 0 ∷ []) (12 ∷ 32 ∷ 0 ∷ 0 ∷ 0 ∷ 0 ∷ 0 ∷ 0 ∷ [])
    ∷ of_size 6 (eight 1) (12 ∷ 96 ∷ 0 ∷ 0 ∷ 0 ∷ 0 ∷ 0 ∷ 0 ∷ [])
    ∷ of_size 1 (0 ∷ 192 ∷ 10 ∷ 195 ∷ 8 ∷ 0 ∷ 0 ∷ 0 ∷ []) (12 ∷ 96 ∷ 97 ∷ 24 ∷ 1 ∷ 0 ∷ 0 ∷ 0 ∷ []) ∷ []
    ≡ Some (Overrun 80) ∷ Some (Overrun 80) ∷ Some (Overrun 80) ∷ Some (Overrun 80) ∷ Some (Overrun 80) ∷ []
unfolding dsf_faults_open
sizes_of_blocks = refl

pub one_byte_less :
    of_size 1 (eight 0) (eight 11)
    ∷ of_size 1 (eight 1) (11 ∷ 16 ∷ 0 ∷ 0 ∷ 0 ∷ 0 ∷ 0 ∷ 0 ∷ [])
    ∷ of_size 1 (0 ∷ 128 ∷ 0 ∷ 0 ∷ 0 ∷ 0 ∷ 0 ∷ 0 ∷ []) (11 ∷ 16 ∷ 0 ∷ 0 ∷ 0 ∷ 0 ∷ 0 ∷ 0 ∷ [])
    ∷ of_size 1 (1 ∷ 128 ∷ 0 ∷ 0 ∷ 0 ∷ 0 ∷ 0 ∷ 0 ∷ []) (11 ∷ 32 ∷ 0 ∷ 0 ∷ 0 ∷ 0 ∷ 0 ∷ 0 ∷ [])
    ∷ of_size 6 (eight 1) (11 ∷ 96 ∷ 0 ∷ 0 ∷ 0 ∷ 0 ∷ 0 ∷ 0 ∷ [])
    ∷ of_size 1 (0 ∷ 192 ∷ 10 ∷ 195 ∷ 8 ∷ 0 ∷ 0 ∷ 0 ∷ []) (11 ∷ 96 ∷ 97 ∷ 24 ∷ 1 ∷ 0 ∷ 0 ∷ 0 ∷ []) ∷ []
    ≡ Some (DsfCount 0 11) ∷ Some (DsfCount 1 4107) ∷ Some (DsfCount 32768 4107) ∷ Some (DsfCount 32769 8203) ∷ Some (DsfCount 1 24587)
    ∷ Some (DsfCount 37632000000 4704002059) ∷ []
unfolding dsf_faults_open
one_byte_less = refl

-- the file has one byte less than its blocks need, or 12
pub blocks_pass_the_file : is_refused_so (Overrun 80) (dsf_fault (take 4187 dsf) ∷ dsf_fault (take 4176 dsf) ∷ [])
unfolding dsf_faults_open
blocks_pass_the_file = refl

-- the size of the blocks stands in eight bytes: 2 ^ 56 is enough
pub size_in_the_last_byte : are_accepted (dsf_fault (but 84 0 (but 91 1 silent)) ∷ dsf_fault (but 84 0 (but 85 0 (but 91 1 dsf))) ∷ [])
unfolding dsf_faults_open
size_in_the_last_byte = refl

pub size_too_small : dsf_fault (but 84 11 dsf) ≡ Some (DsfCount 12 4107)
unfolding dsf_faults_open
size_too_small = refl

-- ---- of two faults the earlier in their order is answered
pub faults_in_order :
    dsf_fault (but 40 2 (take 91 silent))
    ∷ dsf_fault (but 40 2 (but 52 7 silent))
    ∷ dsf_fault (but 52 7 (but 59 1 silent))
    ∷ dsf_fault (but 59 1 (but 71 1 silent))
    ∷ dsf_fault (but 71 1 silent)
    ∷ dsf_fault (but 84 11 (take 4187 dsf)) ∷ []
    ≡ Some DsfForm ∷ Some DsfFormat ∷ Some Channels ∷ Some Rate ∷ Some TooManyFrames ∷ Some (DsfCount 12 4107) ∷ []
unfolding dsf_faults_open
faults_in_order = refl
