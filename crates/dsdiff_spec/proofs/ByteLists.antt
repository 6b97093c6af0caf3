-- Lists of bytes, joined and by place, and how long the bytes of an index are.
use Rattle.std.proofs.Common.{◌≡◌, ℕ, zero, suc, ◌*◌, ◌<◌, List, [], ◌∷◌, ◌++◌, length, flat_map, get_or, refl, arith, length-append}
use Rattle.byteorder.specs.Endian.{big_bytes}
use Rattle.byteorder.specs.Numbers.{length-bytes_high_first}
use Rattle.dst_spec.specs.Bits.{AreBytes}
use Rattle.dst_spec.proofs.Lists.{all_append}
use Rattle.dsdiff_spec.specs.Walk.{Entry}

pub bytes_joined : (xs ys : List ℕ) → AreBytes xs → AreBytes ys → AreBytes (xs ++ ys)
bytes_joined xs ys a b = all_append (λ b. b < 256) xs ys a b

pub byte_at_place : (w : List ℕ) (i : ℕ) → AreBytes w → get_or w i 0 < 256
byte_at_place [] i all = omega arith
byte_at_place (x ∷ w) zero all = all.0
byte_at_place (x ∷ w) (suc i) all = byte_at_place w i all.1

-- ---- an index
abbrev pub entry_bytes : Entry → List ℕ
entry_bytes e = big_bytes 8 e.offset ++ big_bytes 4 e.size

pub length-index : (es : List Entry) → length (flat_map entry_bytes es) ≡ 12 * length es
length-index [] = refl
length-index (e ∷ es) =
    omega (
      arith,
      length-append (entry_bytes e) (flat_map entry_bytes es),
      length-append (big_bytes 8 e.offset) (big_bytes 4 e.size),
      length-bytes_high_first 8 e.offset,
      length-bytes_high_first 4 e.size,
      length-index es,
    )
