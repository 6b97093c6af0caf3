-- Whole bytes and the bits behind them, as bits are put.
use Rattle.std.proofs.Common.{◌≡◌, ℕ, ◌+◌, ◌-◌, ◌*◌, ◌/◌, ◌%◌, ◌^◌, ◌<◌, ◌≤◌, List, [], ◌∷◌, ◌++◌, length, replicate, ap, sym, ◌∙◌, arith}
use Rattle.std.proofs.Common.{length-append, append_assoc, append-nil}
use Rattle.std.proofs.lemmas.List.{length-replicate}
use Rattle.dst_spec.specs.Bits.{low_bits, bits}
use Rattle.dst_spec.proofs.Numbers.{length-low_bits, length-bits, bits-append}
use Rattle.bit_io.specs.Writing.{to_byte_end}
use Rattle.dst_spec.proofs.LowBits.{low_bits-split, low_bits-join, low_bits-mod, low_bits-zero}

pub length-buffer : (bytes : List ℕ) (count pending : ℕ) → length (bits bytes ++ low_bits count pending) ≡ 8 * length bytes + count
length-buffer bytes count pending =
    omega (arith, length-append (bits bytes) (low_bits count pending), length-bits bytes, length-low_bits count pending)

bits_of_one : (byte : ℕ) → bits (byte ∷ []) ≡ low_bits 8 byte
unfolding bits
bits_of_one byte = append-nil (low_bits 8 byte)

-- a byte of the number goes to the bytes
pub byte_pushed : (bytes all : List ℕ) (rest window : ℕ) → 8 ≤ rest → bits bytes ++ low_bits rest window ≡ all →
    bits (bytes ++ (window / 2 ^ (rest - 8) % 256) ∷ []) ++ low_bits (rest - 8) window ≡ all
byte_pushed bytes all rest window h e =
    let k = rest - 8 in
    let count : rest ≡ 8 + k = omega arith in
    let front : low_bits 8 (window / 2 ^ k % 256) ≡ low_bits 8 (window / 2 ^ k) = low_bits-mod 8 (window / 2 ^ k) in
    let whole : low_bits rest window ≡ low_bits 8 (window / 2 ^ k) ++ low_bits k window = ap (λ n. low_bits n window) count ∙ low_bits-split 8 k window in
    let more = bits-append bytes ((window / 2 ^ k % 256) ∷ []) in
    rw (more, bits_of_one (window / 2 ^ k % 256), front)
    (append_assoc (bits bytes) (low_bits 8 (window / 2 ^ k)) (low_bits k window) ∙ ap (λ xs. bits bytes ++ xs) (sym whole) ∙ e)

-- a number is put behind the pending bits
pub bits_put : (old new : List ℕ) (count pending n value window rest : ℕ) → value < 2 ^ n → window ≡ pending * 2 ^ n + value →
    bits new ++ low_bits rest window ≡ bits old ++ low_bits (count + n) window →
    bits new ++ low_bits rest (window % 2 ^ rest) ≡ bits old ++ low_bits count pending ++ low_bits n value
bits_put old new count pending n value window rest fits is e =
    let joined : low_bits (count + n) window ≡ low_bits count pending ++ low_bits n value = ap (low_bits (count + n)) is
    ∙ low_bits-join count n pending value fits in
    rw (low_bits-mod rest window) (e ∙ ap (λ xs. bits old ++ xs) joined ∙ sym (append_assoc (bits old) (low_bits count pending) (low_bits n value)))

-- where the bits are whole bytes, none is pending
pub no_pending : (bytes : List ℕ) (count pending : ℕ) → count < 8 → length (bits bytes ++ low_bits count pending) % 8 ≡ 0 →
    bits bytes ≡ bits bytes ++ low_bits count pending
unfolding low_bits
no_pending bytes count pending few whole =
    let none : count ≡ 0 = omega (arith, length-buffer bytes count pending) in
    rw none (sym (append-nil (bits bytes)))

-- zero bits up to the byte's end
pub zeros_put : (old new : List ℕ) (len count : ℕ) → length old ≡ 8 * len + count → 0 < count → count < 8 →
    new ≡ old ++ low_bits (8 - count) 0 → new ≡ old ++ replicate (to_byte_end (length old)) 0
zeros_put old new len count long some few e =
    let same : to_byte_end (length old) ≡ 8 - count = omega (arith, long) in
    rw same (e ∙ ap (λ xs. old ++ xs) (low_bits-zero (8 - count)))

pub length-to_byte_end : (xs : List ℕ) → length (xs ++ replicate (to_byte_end (length xs)) 0) ≡ length xs + to_byte_end (length xs)
length-to_byte_end xs =
    length-append xs (replicate (to_byte_end (length xs)) 0) ∙ ap (λ n. length xs + n) (length-replicate (to_byte_end (length xs)) 0)
