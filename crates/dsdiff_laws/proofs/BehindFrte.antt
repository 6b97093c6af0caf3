-- What stands behind `FRTE` in the `DST ` of a form of chunks: where it begins and where it ends.
use Rattle.std.proofs.Common.{◌≡◌, ℕ, ◌+◌, List, [], ◌∷◌, ◌++◌, length, refl, sym, ap, ◌∙◌, arith, length-append, append_assoc}
use Rattle.std.specs.Prelude.{codes}
use Rattle.byteorder.specs.Endian.{big_bytes}
use Rattle.byteorder.specs.Numbers.{length-bytes_high_first}
use Rattle.dsdiff_spec.specs.Chunks.{Chunk, bytes_of_chunk, body_place, body_end}
use Rattle.dsdiff_spec.specs.Written.{frte}
use Rattle.dsdiff_laws.proofs.Filed.{IsFile, body_bytes, opening_bytes}
use Rattle.dsdiff_laws.proofs.Props.{chunk_of}
use Rattle.dsdiff_laws.proofs.Places.{head_behind}
use Rattle.dsdiff_laws.proofs.CodedFile.{length-frte}

-- `DST ` of so many frames, with these bytes behind `FRTE`
abbrev pub sound_chunk : ℕ → List ℕ → Chunk
sound_chunk n w = chunk_of "DST " (frte n ++ w) 0

pub record BehindFrte (g : List ℕ) (place end : ℕ) (w : List ℕ) : Type 0 where
  pub front : List ℕ
  pub rest : List ℕ
  pub bytes : g ≡ front ++ w ++ rest
  pub at_place : length front ≡ place
  pub ends : end ≡ place + length w

body_split : (pre : List Chunk) (c : Chunk) (post : List Chunk) → body_bytes (pre ++ c ∷ post) ≡ body_bytes pre ++ (bytes_of_chunk c ++ body_bytes post)
body_split [] c post = refl
body_split (d ∷ pre) c post = ap (λ w. bytes_of_chunk d ++ w) (body_split pre c post)
    ∙ sym (append_assoc (bytes_of_chunk d) (body_bytes pre) (bytes_of_chunk c ++ body_bytes post))

regroup : (o b d s f w p l : List ℕ) → o ++ (b ++ ((d ++ s ++ (f ++ w) ++ p) ++ l)) ++ [] ≡ (o ++ b ++ d ++ s ++ f) ++ w ++ (p ++ l ++ [])
regroup o b d s f w p l = simp append_assoc refl

pub behind_frte : (g : List ℕ) (pre post : List Chunk) (n : ℕ) (w : List ℕ) → IsFile g (pre ++ sound_chunk n w ∷ post) [] →
    BehindFrte g (body_place (head_behind pre (sound_chunk n w)) + 18) (body_end (head_behind pre (sound_chunk n w))) w
behind_frte g pre post n w made =
    let cs = pre ++ sound_chunk n w ∷ post in
    let dst = sound_chunk n w in
    let size = big_bytes 8 (length (frte n ++ w)) in
    let front = opening_bytes cs ++ body_bytes pre ++ codes "DST " ++ size ++ frte n in
    let all = 4 + length (body_bytes cs) in
    let opening : length (opening_bytes cs) ≡ 16 = omega (
      arith,
      length-append (codes "FRM8" ++ big_bytes 8 all) (codes "DSD "),
      length-append (codes "FRM8") (big_bytes 8 all),
      length-bytes_high_first 8 all,
    ) in
    record {
      front = front;
      rest = dst.pad ++ body_bytes post ++ [];
      bytes = made.bytes ∙ ap (λ v. opening_bytes cs ++ v ++ []) (body_split pre dst post)
          ∙ regroup (opening_bytes cs) (body_bytes pre) (codes "DST ") size (frte n) w dst.pad (body_bytes post);
      at_place = omega (
        arith,
        opening,
        length-append (opening_bytes cs ++ body_bytes pre ++ codes "DST " ++ size) (frte n),
        length-append (opening_bytes cs ++ body_bytes pre ++ codes "DST ") size,
        length-append (opening_bytes cs ++ body_bytes pre) (codes "DST "),
        length-append (opening_bytes cs) (body_bytes pre),
        length-bytes_high_first 8 (length (frte n ++ w)),
        length-frte n,
      );
      ends = omega (arith, length-append (frte n) w, length-frte n);
    }
