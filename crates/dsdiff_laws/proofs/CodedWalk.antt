-- The walk of what encoding writes finds the stored frames, in order, and `DSTI` is that walk.
use Rattle.std.proofs.Common.{◌≡◌, ℕ, ◌+◌, ◌^◌, ◌<◌, ◌≤◌, true, List, [], ◌∷◌, ◌++◌, length, flat_map, map}
use Rattle.std.proofs.Common.{None, refl, sym, ap, subst, ◌∙◌, arith, append-nil}
use Rattle.std.specs.Prelude.{codes}
use Rattle.std.specs.List.{AllByRecursion}
use Rattle.std.proofs.lemmas.List.{length-map}
use Rattle.dsdiff_spec.specs.Chunks.{Chunk, IsChunk, body_place, body_end, named}
use Rattle.dsdiff_spec.specs.Form.{Form, longest_frame}
use Rattle.dsdiff_spec.specs.Walk.{entry_of, frame_heads, walk_fault, entries}
use Rattle.dsdiff_spec.specs.Decoded.{frames_of}
use Rattle.dsdiff_spec.specs.Written.{dstf, entries_from}
use Rattle.dsdiff_spec.proofs.Tiling.{heads_from, head_of}
use Rattle.dsdiff_laws.proofs.Composed.{AreChunks}
use Rattle.dsdiff_laws.proofs.Filed.{body_bytes}
use Rattle.dsdiff_laws.proofs.ChunkWalk.{frames_among, bodies_of, entries_among, AreShortBodies, HasChunks, frames_are_found}
use Rattle.dsdiff_laws.proofs.CodedChunks.{frame_chunk}
use Rattle.dsdiff_laws.proofs.CodedIndex.{AreNumbers, entries_among_are_numbers}
use Rattle.dsdiff_laws.proofs.CodedFile.{is_whole, are_joined, AreShort}

-- ---- frames one after the other
abbrev pub frame_chunks : List (List ℕ) → List Chunk
frame_chunks frames = map frame_chunk frames

pub frames_are_chunks : (frames : List (List ℕ)) → flat_map dstf frames ≡ body_bytes (frame_chunks frames)
frames_are_chunks [] = refl
frames_are_chunks (w ∷ ws) = ap (λ v. dstf w ++ v) (frames_are_chunks ws)

frames_whole : (n : ℕ) (frames : List (List ℕ)) → n < 2 ^ 64 → AreShort n frames → AllByRecursion IsChunk (frame_chunks frames)
frames_whole n [] small all = tt
frames_whole n (w ∷ ws) small all = let here = all.0 in (is_whole "DSTF" w 0 refl (omega (arith, here, small)), frames_whole n ws small all.1)

named_frames : (place : ℕ) (frames : List (List ℕ)) → named "DSTF" (heads_from place (frame_chunks frames)) ≡ heads_from place (frame_chunks frames)
named_frames place [] = refl
named_frames place (w ∷ ws) = ap (λ hs. head_of (codes "DSTF") place (length w) ∷ hs) (named_frames (place + length (dstf w)) ws)

entries_of_heads : (place : ℕ) (frames : List (List ℕ)) → map entry_of (heads_from place (frame_chunks frames)) ≡ entries_from place frames
entries_of_heads place [] = refl
entries_of_heads place (w ∷ ws) = ap (λ es. record { offset = place + 12; size = length w } ∷ es) (entries_of_heads (place + length (dstf w)) ws)

frames_among_frames : (frames : List (List ℕ)) → frames_among (frame_chunks frames) ≡ frame_chunks frames
frames_among_frames [] = refl
frames_among_frames (w ∷ ws) = ap (λ cs. frame_chunk w ∷ cs) (frames_among_frames ws)

bodies_of_frames : (frames : List (List ℕ)) → bodies_of (frame_chunks frames) ≡ frames
bodies_of_frames [] = refl
bodies_of_frames (w ∷ ws) = ap (λ vs. w ∷ vs) (bodies_of_frames ws)

short_bodies : (n : ℕ) (frames : List (List ℕ)) → AreShort n frames → AreShortBodies n (frame_chunks frames)
short_bodies n [] all = tt
short_bodies n (w ∷ ws) all = (all.0, short_bodies n ws all.1)

-- a part of a file that is such chunks, from a place on to an end
pub record Walked (g : List ℕ) (end place : ℕ) (frames : List (List ℕ)) : Type 0 where
  pub front : List ℕ
  pub rest : List ℕ
  pub bytes : g ≡ front ++ flat_map dstf frames ++ rest
  pub at_place : length front ≡ place
  pub ends : end ≡ place + length (flat_map dstf frames)
  pub few : length frames ≤ 1000000

chunks_are : (n : ℕ) (frames : List (List ℕ)) → n < 2 ^ 64 → AreShort n frames → AreChunks (λ id. true) (frame_chunks frames)
chunks_are n frames small short =
    subst (AreChunks (λ id. true)) (append-nil (frame_chunks frames)) (are_joined (λ id. true) (frame_chunks frames) [] (frames_whole n frames small short) tt)

has_chunks : (g : List ℕ) (end place n : ℕ) (frames : List (List ℕ)) → n < 2 ^ 64 → AreShort n frames → Walked g end place frames →
    HasChunks g end place (frame_chunks frames)
has_chunks g end place n frames small short w = record {
  front = w.front;
  rest = w.rest;
  are = chunks_are n frames small short;
  few = omega (arith, w.few, length-map frames frame_chunk);
  bytes = w.bytes ∙ ap (λ v. w.front ++ v ++ w.rest) (frames_are_chunks frames);
  at_place = w.at_place;
  ends = w.ends ∙ ap (λ v. place + length v) (frames_are_chunks frames);
}

-- ---- the walk of a form
pub record IsWalk (g : List ℕ) (form : Form) (frames : List (List ℕ)) : Type 0 where
  pub none : walk_fault g form ≡ None
  pub entries : entries g form ≡ entries_from (body_place form.sound + 18) frames
  pub stored : frames_of g form ≡ frames
  pub heads : length (frame_heads g form) ≡ form.frames

pub walk_is : (g : List ℕ) (form : Form) (frames : List (List ℕ)) (n : ℕ) → n < 2 ^ 64 → AreShort n frames → n ≤ longest_frame form →
    length frames ≡ form.frames →
    Walked g (body_end form.sound) (body_place form.sound + 18) frames → IsWalk g form frames
walk_is g form frames n small short fits count w =
    let place = body_place form.sound + 18 in
    let cs = frame_chunks frames in
    let among = frames_among_frames frames in
    let many : length (frames_among cs) ≡ length frames = ap length among ∙ length-map frames frame_chunk in
    let found = frames_are_found g form cs n (subst (AreShortBodies n) (sym among) (short_bodies n frames short)) fits (many ∙ count)
    (omega (arith, count, w.few)) (has_chunks g (body_end form.sound) place n frames small short w) in
    record {
      none = found.none;
      entries = found.entries ∙ ap (map entry_of) (named_frames place frames) ∙ entries_of_heads place frames;
      stored = found.stored ∙ ap bodies_of among ∙ bodies_of_frames frames;
      heads = found.heads;
    }

-- ---- the entries are numbers of eight and of four bytes
pub entries_are_numbers : (place most n : ℕ) (frames : List (List ℕ)) → n < 2 ^ 32 → AreShort n frames → place + length (flat_map dstf frames) ≤ most →
    most < 2 ^ 63 → AreNumbers (entries_from place frames)
entries_are_numbers place most n frames small short p q =
    let cs = frame_chunks frames in
    let among : entries_among place cs ≡ entries_from place frames = ap (map entry_of) (named_frames place frames) ∙ entries_of_heads place frames in
    subst AreNumbers among
    (entries_among_are_numbers place most n cs (chunks_are n frames (omega (arith, small)) short)
    (subst (AreShortBodies n) (sym (frames_among_frames frames)) (short_bodies n frames short)) small
    (omega (arith, p, ap length (frames_are_chunks frames))) q)
