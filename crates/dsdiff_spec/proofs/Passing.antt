-- Chunks that are passed on from one form to another.
use Rattle.std.proofs.Common.{◌≡◌, ℕ, ◌++◌, List, [], ◌∷◌, replicate, refl}
use Rattle.std.specs.Prelude.{codes}
use Rattle.dsdiff_spec.specs.Rules.{accepted}
use Rattle.dsdiff_spec.specs.Coded as encoding
use Rattle.dsdiff_spec.specs.Decoded.{Plain}
use Rattle.dsdiff_spec.proofs.Built.{piece, file_of, version, prop_of, rate, channels, cmpr, not_compressed, dsd, dst}
use Rattle.dsdiff_spec.proofs.Restoring.{written_open, no_picks}

-- `PROP` of six channels at four times the lowest rate, with further chunks around a `CMPR`
abbrev prop_with_more : List (List ℕ) → List ℕ
prop_with_more compression =
    prop_of (piece "ABSS" (1 ∷ 2 ∷ []) ∷ rate 11289600 ∷ compression ++ channels 6 ∷ piece "LSCO" (3 ∷ []) ∷ (9 ∷ []) ∷ [])

abbrev dst_encoded : List ℕ
dst_encoded = piece "CMPR" (codes "DST " ++ 11 ∷ codes "DST Encoded")

-- chunks before and behind the sound, one with a pad byte that isn't 0, and a last one without its pad byte
abbrev before : List (List ℕ)
before = piece "COMT" (4 ∷ []) ∷ (8 ∷ []) ∷ []

abbrev behind : List (List ℕ)
behind = piece "DIIN" (5 ∷ 6 ∷ []) ∷ piece "ID3 " (7 ∷ []) ∷ []

abbrev plain_file : List ℕ
plain_file = file_of (version ∷ prop_with_more (not_compressed ∷ (0 ∷ []) ∷ []) ∷ before ++ dsd 0 ∷ behind)

abbrev index_and_kept : List (List ℕ)
index_and_kept = piece "DSTI" [] ∷ piece "KEPT" (2 ∷ replicate 8 0 ++ 0 ∷ replicate 4 0 ++ not_compressed ++ 0 ∷ []) ∷ []

abbrev coded_file : List ℕ
coded_file = file_of (version ∷ prop_with_more (dst_encoded ∷ []) ∷ before ++ dst 0 [] ∷ index_and_kept ++ behind)

pub chunks_pass_encoding : encoding.coded no_picks plain_file (accepted plain_file) ≡ coded_file
unfolding written_open
chunks_pass_encoding = refl

pub chunks_come_back : Plain coded_file (accepted coded_file) plain_file
unfolding written_open
chunks_come_back = record { sounds = []; each = tt; written = refl }

-- without a `KEPT` the form's `CMPR` says that sound isn't compressed; each `DSTI` is left out, also before the sound
abbrev with_indexes : List ℕ
with_indexes = file_of (version ∷ piece "DSTI" (1 ∷ 2 ∷ []) ∷ prop_with_more (cmpr "DST " ∷ []) ∷ before ++ dst 0 [] ∷ piece "DSTI" [] ∷ behind)

pub indexes_are_left_out : Plain with_indexes (accepted with_indexes) plain_file
unfolding written_open
indexes_are_left_out = record { sounds = []; each = tt; written = refl }
