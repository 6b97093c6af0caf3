-- The first chunk decides the rule on the version.
use Rattle.std.proofs.Common.{◌≡◌, ℕ, ◌+◌, ◌<◌, ◌≤◌, List, [], ◌∷◌, length, get_or, drop, map, true, refl, sym, ap, ◌∙◌, arith}
use Rattle.std.specs.Prelude.{◌==◌, ◌&&◌, not}
use Rattle.std.proofs.lemmas.Bool.{eq-eqb}
use Rattle.std.proofs.lemmas.List.{get_or-drop, get_or-take}
use Rattle.dsdiff_spec.specs.Bytes.{bytes_at, ◌is◌}
use Rattle.dsdiff_spec.specs.Chunks.{Head, the_first, body_place, body_end}
use Rattle.dsdiff_spec.specs.Faults.{◌when◌}
use Rattle.dsdiff_spec.specs.declared.faults.FileFault.TheVariants.{Version}
use Rattle.dsdiff_chunks.specs.declared.lists.ChunkHead.{ChunkHead}
use Rattle.dsdiff_chunks.specs.Lawful.{TileTo}
use Rattle.dsdiff_chunks.specs.Opening.{first_fault}
use Rattle.dsdiff_chunks.specs.Seen.{head_seen}

pub the_first_seen : (heads : List ChunkHead) (d : ChunkHead) → 0 < length heads → the_first (map head_seen heads) ≡ head_seen (get_or heads 0 d)
the_first_seen [] d lt = absurd (omega arith)
the_first_seen (h ∷ hs) d lt = refl

pub the_first_within : (end : ℕ) (heads : List ChunkHead) (d : ChunkHead) → 0 < length heads → TileTo end 16 (map head_seen heads) →
    body_end (head_seen (get_or heads 0 d)) ≤ end
the_first_within end [] d lt tiled = absurd (omega arith)
the_first_within end (h ∷ hs) d lt tiled = tiled.1

-- one byte of a file is read
pub byte_in_part : (xs v : List ℕ) (place : ℕ) → v ≡ bytes_at xs place 1 → get_or xs place 0 ≡ get_or v 0 0
byte_in_part xs v place e =
    let there : place + 0 ≡ place = omega arith in
    sym (ap (λ w. get_or w 0 0) e ∙ get_or-take 1 (drop place xs) 0 0 (omega arith) ∙ get_or-drop place xs 0 0 ∙ ap (λ i. get_or xs i 0) there)

by_parts : (id : List ℕ) (size byte : ℕ) → (id is "FVER") ≡ true → size ≡ 4 → (id is "FVER" && size == 4 && byte == 1) ≡ (byte == 1)
by_parts id size byte p q = let e = eq-eqb size 4 q in rw (p, e) refl

pub first_by_byte : (xs v : List ℕ) (h : Head) → (h.id is "FVER") ≡ true → h.size ≡ 4 → v ≡ bytes_at xs (body_place h) 1 →
    first_fault xs h ≡ (Version when not (get_or v 0 0 == 1))
first_by_byte xs v h id size read =
    ap (λ b. Version when not b) (by_parts h.id h.size (get_or xs (body_place h) 0) id size)
    ∙ ap (λ n. Version when not (n == 1)) (byte_in_part xs v (body_place h) read)
