-- What is read of a chunk from its place on, in the words of the definitions.
use Rattle.std.proofs.Common.{◌≡◌, ℕ, zero, suc, ◌+◌, ◌-◌, ◌%◌, ◌<◌, ◌≤◌, List, [], ◌∷◌, length, take, drop, get_or, refl, sym, ap, ◌∙◌, arith, add-zero}
use Rattle.std.proofs.lemmas.List.{take_all, length-drop, drop-drop, get_or-drop}
use Rattle.byteorder.specs.Endian.{big_from}
use Rattle.dsdiff_spec.specs.Chunks.{head_at, next_place, body_of, body_end}
use Rattle.dsdiff_spec.specs.Bytes.{bytes_at}
use Rattle.chunk_view.specs.Placed.{PlacedChunk}

pub big_from-drop : (k i n : ℕ) (xs : List ℕ) → big_from i n (drop k xs) ≡ big_from (k + i) n xs
big_from-drop k i zero xs = refl
big_from-drop k i (suc n) xs =
    let byte = get_or-drop k xs i 0 in
    let next : k + suc i ≡ suc (k + i) = omega arith in
    let rest = big_from-drop k (suc i) n xs in
    rw (byte, rest, next) refl

-- the bytes from a place on, as a slice of them is
abbrev pub from_place : List ℕ → ℕ → List ℕ
from_place bytes place = take (length bytes - place) (drop place bytes)

pub from_place_is : (bytes : List ℕ) (place : ℕ) → from_place bytes place ≡ drop place bytes
from_place_is bytes place = take_all (length bytes - place) (drop place bytes) (omega (arith, length-drop place bytes))

pub from_place_twice : (bytes : List ℕ) (place n : ℕ) → from_place (from_place bytes place) n ≡ drop (place + n) bytes
from_place_twice bytes place n =
    from_place_is (from_place bytes place) n ∙ ap (drop n) (from_place_is bytes place) ∙ drop-drop n place bytes

-- its size
pub size_here : (bytes : List ℕ) (place size : ℕ) → size ≡ big_from 0 8 (from_place (from_place bytes place) 4) →
    size ≡ (head_at bytes place).size
size_here bytes place size e =
    e ∙ ap (λ w. big_from 0 8 w) (from_place_twice bytes place 4) ∙ big_from-drop (place + 4) 0 8 bytes ∙ ap (λ n. big_from n 8 bytes) (add-zero (place + 4))

-- the end cuts it
pub is_cut_by_size : (bytes : List ℕ) (place size : ℕ) → length (from_place bytes place) - 12 < size → place ≤ length bytes →
    size ≡ (head_at bytes place).size → length bytes < next_place (head_at bytes place)
is_cut_by_size bytes place size h le e =
    cut (length bytes) place (head_at bytes place).size (omega (arith, h, e, ap length (from_place_is bytes place), length-drop place bytes))
  where
    cut : (n place size : ℕ) → n - place - 12 < size → n < place + 12 + size + size % 2
    cut n place size h = omega arith

pub is_cut_by_pad : (bytes : List ℕ) (place size : ℕ) (behind : List ℕ) → behind ≡ drop size (from_place (from_place bytes place) 12) →
    length behind ≤ 0 → (size % 2 ≡ 0 → ⊥) → size ≡ (head_at bytes place).size → length bytes < next_place (head_at bytes place)
is_cut_by_pad bytes place size behind b h odd e =
    cut (length bytes) place (head_at bytes place).size
    (omega (
      arith,
      h,
      e,
      ap length b,
      ap (λ w. length (drop size w)) (from_place_twice bytes place 12),
      ap length (drop-drop size (place + 12) bytes),
      length-drop (place + 12 + size) bytes,
    )) (λ even. odd (ap (λ n. n % 2) e ∙ even))
  where
    cut : (n place size : ℕ) → n ≤ place + 12 + size → (size % 2 ≡ 0 → ⊥) → n < place + 12 + size + size % 2
    cut n place size h odd = omega arith

abbrev pub placed_by : ℕ → List ℕ → List ℕ → List ℕ → PlacedChunk
placed_by place id body pad = record { place = place; chunk = record { id = id; body = body; pad = pad } }

-- its id
first_four : (xs : List ℕ) → 4 ≤ length xs → get_or xs 0 0 ∷ get_or xs 1 0 ∷ get_or xs 2 0 ∷ get_or xs 3 0 ∷ [] ≡ take 4 xs
first_four [] h = absurd (omega (arith, h))
first_four (a ∷ []) h = absurd (omega (arith, h))
first_four (a ∷ b ∷ []) h = absurd (omega (arith, h))
first_four (a ∷ b ∷ c ∷ []) h = absurd (omega (arith, h))
first_four (a ∷ b ∷ c ∷ d ∷ xs) h = refl

abbrev pub four_of : List ℕ → List ℕ
four_of xs = get_or xs 0 0 ∷ get_or xs 1 0 ∷ get_or xs 2 0 ∷ get_or xs 3 0 ∷ []

pub id_here : (bytes : List ℕ) (place : ℕ) → 12 ≤ length (from_place bytes place) → four_of (from_place bytes place) ≡ bytes_at bytes place 4
id_here bytes place h = first_four (from_place bytes place) (omega arith) ∙ ap (take 4) (from_place_is bytes place)

-- its body and its pad byte
pub body_here : (bytes : List ℕ) (place size : ℕ) (body : List ℕ) → body ≡ take size (from_place (from_place bytes place) 12) →
    size ≡ (head_at bytes place).size → body ≡ body_of bytes (head_at bytes place)
body_here bytes place size body b e = b ∙ ap (take size) (from_place_twice bytes place 12) ∙ ap (λ n. take n (drop (place + 12) bytes)) e

no_byte : (n : ℕ) (w : List ℕ) → n % 2 ≡ 0 → take (n % 2) w ≡ []
no_byte n w e = ap (λ k. take k w) e

pub no_pad_here : (bytes : List ℕ) (place size : ℕ) → size % 2 ≡ 0 → size ≡ (head_at bytes place).size →
    [] ≡ bytes_at bytes (body_end (head_at bytes place)) ((head_at bytes place).size % 2)
no_pad_here bytes place size even e =
    sym (no_byte (head_at bytes place).size (drop (body_end (head_at bytes place)) bytes) (sym (ap (λ n. n % 2) e) ∙ even))

first_byte : (xs : List ℕ) (b : ℕ) → 0 < length xs → b ≡ get_or xs 0 b → b ∷ [] ≡ take 1 xs
first_byte [] b h e = absurd (omega (arith, h))
first_byte (x ∷ xs) b h e = ap (λ y. y ∷ []) e

one_byte : (n : ℕ) (w : List ℕ) → (n % 2 ≡ 0 → ⊥) → take 1 w ≡ take (n % 2) w
one_byte n w odd = let one : 1 ≡ n % 2 = omega arith in ap (λ k. take k w) one

pub pad_here : (bytes : List ℕ) (place size : ℕ) (behind : List ℕ) (b : ℕ) → behind ≡ drop size (from_place (from_place bytes place) 12) →
    (size % 2 ≡ 0 → ⊥) → size ≡ (head_at bytes place).size → 0 < length behind → b ≡ get_or behind 0 b →
    b ∷ [] ≡ bytes_at bytes (body_end (head_at bytes place)) ((head_at bytes place).size % 2)
pad_here bytes place size behind b from odd e some is =
    first_byte behind b some is
    ∙ ap (take 1) (from ∙ ap (drop size) (from_place_twice bytes place 12) ∙ drop-drop size (place + 12) bytes ∙ ap (λ n. drop (place + 12 + n) bytes) e)
    ∙ one_byte (head_at bytes place).size (drop (body_end (head_at bytes place)) bytes) (λ even. odd (ap (λ n. n % 2) e ∙ even))

pub same_parts : (place : ℕ) (id id' body body' pad pad' : List ℕ) → id ≡ id' → body ≡ body' → pad ≡ pad' →
    placed_by place id body pad ≡ placed_by place id' body' pad'
same_parts place id id' body body' pad pad' p q r = rw (p, q, r) refl
