-- How many bytes a chunk has, with its head and its pad byte.
use Rattle.std.proofs.Common.{◌≡◌, ℕ, ◌+◌, ◌*◌, ◌%◌, ◌==◌, false, if◌then◌else◌, List, [], ◌∷◌, ◌++◌, length, refl, ap, ◌∙◌, arith, length-append, append-nil}
use Rattle.std.specs.Prelude.{codes}
use Rattle.byteorder.specs.Endian.{big_bytes}
use Rattle.byteorder.specs.Numbers.{length-bytes_high_first}
use Rattle.dsdiff_spec.proofs.Pieces.{pad_is_long}
use Rattle.dsdiff_spec.specs.Written.{padded_chunk, chunk, frte}
use Prim.Native.String.{String}

pub length-padded : (name : String) (body : List ℕ) (pad : ℕ) → length (codes name) ≡ 4 →
    length (padded_chunk name body pad) ≡ 12 + length body + length body % 2
length-padded name body pad four =
    let padding : List ℕ = if length body % 2 == 1 then pad ∷ [] else [] in
    omega (
      arith,
      four,
      length-append (codes name ++ big_bytes 8 (length body) ++ body) padding,
      length-append (codes name ++ big_bytes 8 (length body)) body,
      length-append (codes name) (big_bytes 8 (length body)),
      length-bytes_high_first 8 (length body),
      pad_is_long (length body) pad,
    )

-- behind a body of even size there is no pad byte
pub even_chunk : (name : String) (body : List ℕ) (half : ℕ) → length body ≡ 2 * half → chunk name body ≡ codes name ++ big_bytes 8 (length body) ++ body
even_chunk name body half e =
    let none : (length body % 2 == 1) ≡ false = ap (λ n. n == 1) (let zero : length body % 2 ≡ 0 = omega arith in zero) in
    ap (λ b. codes name ++ big_bytes 8 (length body) ++ body ++ (if b then 0 ∷ [] else [])) none
    ∙ append-nil (codes name ++ big_bytes 8 (length body) ++ body)

pub length-frte : (n : ℕ) → length (frte n) ≡ 18
length-frte n =
    let body : length (big_bytes 4 n ++ big_bytes 2 75) ≡ 6 =
    omega (arith, length-append (big_bytes 4 n) (big_bytes 2 75), length-bytes_high_first 4 n, length-bytes_high_first 2 75) in
    let six = ap (λ k. k % 2) body in
    omega (arith, length-padded "FRTE" (big_bytes 4 n ++ big_bytes 2 75) 0 refl, body, six)
