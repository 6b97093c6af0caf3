-- Short frames spelled and stored, worked out.
use Rattle.std.proofs.Common.{◌≡◌, ℕ, pos, [], ◌∷◌, replicate, refl}
use Rattle.dst_spec.specs.Header.{Params}
use Rattle.dst_spec.specs.Spell.{spell, stored}
use Rattle.dst_spec.proofs.Examples.{mono, pair, params_of, shared_filter, shared_probs, spelling_open}

-- a filter 0 and two probabilities, and sounds FF, all of whose symbols are 1 but the reserved one
abbrev by_probability : ℕ → Params
by_probability p = params_of (pos 0 ∷ []) (p ∷ p ∷ [])

pub spelling_of_two_bytes : spell (mono 2) (by_probability 1) (255 ∷ 255 ∷ []) ≡ 252 ∷ 0 ∷ 0 ∷ 6 ∷ 0 ∷ 23 ∷ 248 ∷ 0 ∷ 0 ∷ []
unfolding spelling_open
spelling_of_two_bytes = refl

-- two channels: 67 bits of header, the bit 0 and 45 bits of code; 74, 1 and 50
pub spelling_by_a_shared_filter : spell pair shared_filter (156 ∷ 53 ∷ []) ≡ 245 ∷ 64 ∷ 130 ∷ 159 ∷ 128 ∷ 160 ∷ 64 ∷ 144 ∷ 15 ∷ 251 ∷ 49 ∷ 139 ∷ 35 ∷ 37
    ∷ 0 ∷ []
unfolding spelling_open
spelling_by_a_shared_filter = refl

pub spelling_by_shared_probabilities : spell pair shared_probs (156 ∷ 53 ∷ [])
    ≡ 243 ∷ 128 ∷ 128 ∷ 63 ∷ 224 ∷ 0 ∷ 24 ∷ 32 ∷ 129 ∷ 95 ∷ 215 ∷ 253 ∷ 255 ∷ 235 ∷ 76 ∷ 0 ∷ []
unfolding spelling_open
spelling_by_shared_probabilities = refl

-- ---- nine bytes of spelling: the plain form of eight bytes is as short, and comes first; that of nine is longer
pub plain_form_comes_first : stored (mono 8) (replicate 8 255) (by_probability 1 ∷ []) ≡ 0 ∷ replicate 8 255
unfolding spelling_open
plain_form_comes_first = refl

pub spelling_is_shorter : stored (mono 9) (replicate 9 255) (by_probability 1 ∷ []) ≡ 252 ∷ 0 ∷ 0 ∷ 6 ∷ 0 ∷ 23 ∷ 248 ∷ 0 ∷ 0 ∷ []
unfolding spelling_open
spelling_is_shorter = refl

-- of two spellings of one length the first, of two of different lengths the shorter
pub first_of_two : stored (mono 9) (replicate 9 255) (by_probability 2 ∷ by_probability 1 ∷ []) ≡ 252 ∷ 0 ∷ 0 ∷ 6 ∷ 1 ∷ 23 ∷ 248 ∷ 0 ∷ 0 ∷ []
unfolding spelling_open
first_of_two = refl

pub shorter_of_two : stored (mono 16) (replicate 16 255) (by_probability 128 ∷ by_probability 1 ∷ []) ≡ 252 ∷ 0 ∷ 0 ∷ 6 ∷ 0 ∷ 23 ∷ 248 ∷ 0 ∷ 0 ∷ []
unfolding spelling_open
shorter_of_two = refl

pub plain_form_of_no_list : stored (mono 1) (7 ∷ []) [] ≡ 0 ∷ 7 ∷ []
plain_form_of_no_list = refl
