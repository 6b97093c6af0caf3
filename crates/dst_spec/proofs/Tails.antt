-- Short frames and their tails, worked out.
use Rattle.std.proofs.Common.{ℕ, inl, inr, true, pos, List, [], ◌∷◌, refl, arith}
use Rattle.dst_spec.specs.Bits.{bits}
use Rattle.dst_spec.specs.Sample.{IsSound}
use Rattle.dst_spec.specs.Means.{IsPlain, MeansWithTail}
use Rattle.dst_spec.proofs.Examples.{mono, params_of, spelling_open}
use Rattle.dst_spec.proofs.Beginnings.{header_to_45, header_of_two_maps, header_of_method_2}

-- ---- plain frames of two bytes
pub plain_frame_of_two_bytes : MeansWithTail (mono 2) (0 ∷ 7 ∷ 8 ∷ []) (7 ∷ 8 ∷ []) 0
unfolding bits spelling_open
plain_frame_of_two_bytes = (
  record { long = refl; bytes = (omega arith, (omega arith, tt)) },
  inl (record { coded = refl; stuffing = refl; long = omega arith; is_sound = refl }, refl),
)

pub reserved_bit_and_three_bytes_more : MeansWithTail (mono 2) (64 ∷ 7 ∷ 8 ∷ 1 ∷ 2 ∷ 3 ∷ []) (7 ∷ 8 ∷ []) 3
unfolding bits spelling_open
reserved_bit_and_three_bytes_more = (
  record { long = refl; bytes = (omega arith, (omega arith, tt)) },
  inl (record { coded = refl; stuffing = refl; long = omega arith; is_sound = refl }, refl),
)

pub first_bit_1_is_not_plain : (sound : List ℕ) → IsPlain (mono 2) (128 ∷ 7 ∷ 8 ∷ []) sound → ⊥
unfolding bits spelling_open
first_bit_1_is_not_plain sound h = omega (arith, h.coded)

pub first_stuffing_bit_1_is_not_plain : (sound : List ℕ) → IsPlain (mono 2) (32 ∷ 7 ∷ 8 ∷ []) sound → ⊥
unfolding bits spelling_open
first_stuffing_bit_1_is_not_plain sound h = let e = h.stuffing in absurd cc

pub last_stuffing_bit_1_is_not_plain : (sound : List ℕ) → IsPlain (mono 2) (1 ∷ 7 ∷ 8 ∷ []) sound → ⊥
unfolding bits spelling_open
last_stuffing_bit_1_is_not_plain sound h = let e = h.stuffing in absurd cc

pub one_byte_is_too_short : (sound : List ℕ) → IsPlain (mono 2) (0 ∷ 7 ∷ []) sound → ⊥
one_byte_is_too_short sound h = omega (arith, h.long)

-- ---- coded frames of eight samples
byte_255 : IsSound (mono 1) (255 ∷ [])
byte_255 = record { long = refl; bytes = (omega arith, tt) }

-- 45 bits of header, 13 and 7 doublings are 65 bits, which touch 9 of 10 bytes
pub sixty_five_bits_are_taken : MeansWithTail (mono 1) (252 ∷ 0 ∷ 0 ∷ 5 ∷ 255 ∷ 248 ∷ 0 ∷ 0 ∷ 0 ∷ 1 ∷ []) (255 ∷ []) 1
unfolding bits spelling_open
sixty_five_bits_are_taken = (
  byte_255,
  inr (
    record {
      params = params_of (pos 0 ∷ []) (128 ∷ 128 ∷ []);
      place = 45;
      inside = omega arith;
      header = header_to_45;
      first_bit = refl;
      reserved = true;
      code = record { above = omega arith; below = omega arith };
    },
    refl,
  ),
)

-- 68 bits of header, 13 and 7 are 88, which touch 11 of 12 bytes
pub eighty_eight_bits_are_taken : MeansWithTail (mono 1) (252 ∷ 11 ∷ 0 ∷ 0 ∷ 0 ∷ 0 ∷ 11 ∷ 255 ∷ 240 ∷ 0 ∷ 0 ∷ 1 ∷ []) (255 ∷ []) 1
unfolding bits spelling_open
eighty_eight_bits_are_taken = (
  byte_255,
  inr (
    record {
      params = params_of (pos 0 ∷ pos 0 ∷ pos 0 ∷ []) (128 ∷ 128 ∷ []);
      place = 68;
      inside = omega arith;
      header = header_of_method_2;
      first_bit = refl;
      reserved = true;
      code = record { above = omega arith; below = omega arith };
    },
    refl,
  ),
)

-- 48 bits of header are the whole frame: the first code bit and all behind it are past the end, and 0
pub code_past_the_end : MeansWithTail (mono 1) (148 ∷ 0 ∷ 0 ∷ 0 ∷ 191 ∷ 255 ∷ []) (255 ∷ []) 0
unfolding bits spelling_open
code_past_the_end = (
  byte_255,
  inr (
    record {
      params = params_of (pos 0 ∷ []) (128 ∷ 128 ∷ []);
      place = 48;
      inside = omega arith;
      header = header_of_two_maps;
      first_bit = refl;
      reserved = true;
      code = record { above = omega arith; below = omega arith };
    },
    refl,
  ),
)
