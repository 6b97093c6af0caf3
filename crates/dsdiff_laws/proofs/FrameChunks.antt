-- The chunks in `DST ` of a coded form whose walk has no fault: they fill its body behind `FRTE`, and its frames are those among them.
use Rattle.std.proofs.Common.{◌≡◌, ℕ, ◌+◌, ◌-◌, ◌≤◌, Bool, true, List, [], ◌∷◌, ◌++◌, length, take, drop, map, Option, Some, None, refl, sym, ap}
use Rattle.std.proofs.Common.{append_assoc, subst, ◌∙◌, arith, take-append-drop, ltb-false}
use Rattle.std.specs.Prelude.{not, ◌==◌}
use Rattle.std.specs.List.{AllByRecursion, AllZip, enumerate_from}
use Rattle.std.proofs.lemmas.List.{drop-drop, length-map, length-take}
use Rattle.dst_spec.specs.Bits.{AreBytes}
use Rattle.dsdiff_spec.specs.Bytes.{between, ◌above◌}
use Rattle.dsdiff_spec.specs.Faults.{◌when◌, ◌otherwise◌, first_some}
use Rattle.dsdiff_spec.specs.Chunks.{Chunk, Head, body_place, body_end, named}
use Rattle.dsdiff_spec.specs.Form.{Form, longest_frame}
use Rattle.dsdiff_spec.specs.Walk.{in_dst, frame_heads, frame_fault, walk_fault, entry_of, entries, frame_at}
use Rattle.dsdiff_spec.specs.Decoded.{frames_of}
use Rattle.dsdiff_spec.specs.declared.faults.FileFault.{FileFault}
use Rattle.dsdiff_spec.specs.declared.faults.FileFault.TheVariants.{FrameTooLong, TooManyFrames, CountDiffers}
use Rattle.dsdiff_spec.proofs.Lawful.{first_gives_none, later_gives_none, when_not, first_of}
use Rattle.dsdiff_spec.proofs.CodedFiles.{count_is_right}
use Rattle.dsdiff_spec.proofs.Finding.{found_follow, found_at_most, found_to_the_end}
use Rattle.dsdiff_spec.proofs.Tiling.{heads_from}
use Rattle.dsdiff_spec.proofs.Sizes.{length-bytes_at}
use Rattle.dsdiff_laws.proofs.Standing.{Holds, named_hold}
use Rattle.dsdiff_laws.proofs.Chunked.{chunk_at, chunks_of_heads, bytes_of_heads, heads_again}
use Rattle.dsdiff_laws.proofs.Filed.{body_bytes}
use Rattle.dsdiff_laws.proofs.ChunkWalk.{frames_among, bodies_of, entries_among, AreShortBodies, HasChunks, chunks_hold, bodies_read, length-held}

pub record IsWalked (file : List ℕ) (form : Form) : Type 0 where
  pub inner : List Chunk
  pub stands : HasChunks file (body_end form.sound) (body_place form.sound + 18) inner
  pub entries : entries file form ≡ entries_among (body_place form.sound + 18) inner
  pub frames : frames_of file form ≡ bodies_of (frames_among inner)
  pub short : AreShortBodies (longest_frame form) (frames_among inner)
  pub count : length (frames_among inner) ≡ form.frames

-- no frame that no rule refuses is too long
short_heads : (form : Form) (n : ℕ) (hs : List Head) → first_some (frame_fault form) (enumerate_from n hs) ≡ None →
    AllByRecursion (λ (h : Head). h.size ≤ longest_frame form) hs
short_heads form n [] none = tt
short_heads form n (h ∷ hs) none =
    let both = parts (frame_fault form (n, h)) none in
    let too_long = FrameTooLong n h.size when h.size above longest_frame form in (
      ltb-false (longest_frame form) h.size (when_not (FrameTooLong n h.size) _ (first_gives_none too_long (TooManyFrames when n above 999999) both.0)),
      short_heads form (n + 1) hs both.1,
    )
  where
    parts : (o : Option FileFault) → first_of o (first_some (frame_fault form) (enumerate_from (n + 1) hs)) ≡ None →
        (o ≡ None) × (first_some (frame_fault form) (enumerate_from (n + 1) hs) ≡ None)
    parts (Some y) e = absurd cc
    parts None e = (refl, e)

short_chunks : (g : List ℕ) (end n : ℕ) (hs : List Head) (cs : List Chunk) → AllZip (Holds g end) hs cs → AllByRecursion (λ (h : Head). h.size ≤ n) hs →
    AreShortBodies n cs
short_chunks g end n [] [] all short = tt
short_chunks g end n [] (c ∷ cs) all short = absurd all
short_chunks g end n (h ∷ hs) [] all short = absurd all
short_chunks g end n (h ∷ hs) (c ∷ cs) all short =
    let size = all.0.size in
    let here = short.0 in
    (omega (arith, size, here), short_chunks g end n hs cs all.1 short.1)

three_parts : (file : List ℕ) (place end : ℕ) → place ≤ end → file ≡ take place file ++ between file place end ++ drop end file
three_parts file place end le =
    let rest = drop place file in
    let all : place + (end - place) ≡ end = omega (arith, le) in
    let behind : drop (end - place) rest ≡ drop end file = drop-drop (end - place) place file ∙ ap (λ n. drop n file) all in
    sym (whole (take place file) (between file place end) (drop end file) rest
    (sym (ap (λ w. between file place end ++ w) (sym behind) ∙ take-append-drop (end - place) rest)) ∙ take-append-drop place file)
  where
    whole : (a b c r : List ℕ) → r ≡ b ++ c → a ++ b ++ c ≡ a ++ r
    whole a b c r e = grouped a b c ∙ ap (λ w. a ++ w) (sym e)
      where
        grouped : (a b c : List ℕ) → a ++ b ++ c ≡ a ++ (b ++ c)
        grouped a b c = simp append_assoc refl

pub walked_file : (file : List ℕ) (form : Form) → AreBytes file → walk_fault file form ≡ None → body_place form.sound + 18 ≤ body_end form.sound →
    body_end form.sound ≤ length file → IsWalked file form
unfolding walk_fault
walked_file file form bytes none fits within =
    let m : List ℕ → Bool = λ id. true in
    let end = body_end form.sound in
    let place = body_place form.sound + 18 in
    let hs = (in_dst file form).heads in
    let count = CountDiffers form.frames (length (frame_heads file form)) when not (length (frame_heads file form) == form.frames) in
    let frames = first_some (frame_fault form) (enumerate_from 0 (frame_heads file form)) in
    let whole : (in_dst file form).fault ≡ None =
    first_gives_none (in_dst file form).fault count (later_gives_none frames ((in_dst file form).fault otherwise count) none) in
    let rules : frames ≡ None = first_gives_none frames ((in_dst file form).fault otherwise count) none in
    let follow = found_follow m file end 4000000 place in
    let reached = found_to_the_end m file end 4000000 place whole in
    let cs = map (chunk_at file end) hs in
    let body : body_bytes cs ≡ between file place end = bytes_of_heads m file end place hs bytes within follow reached in
    let again : heads_from place cs ≡ hs = heads_again m file end place hs bytes within follow in
    let stands : HasChunks file end place cs = record {
      front = take place file;
      rest = drop end file;
      are = chunks_of_heads m file end place hs bytes within follow;
      few = omega (arith, found_at_most m file end 4000000 place, length-map hs (chunk_at file end));
      bytes = three_parts file place end fits ∙ ap (λ w. take place file ++ w ++ drop end file) (sym body);
      at_place = omega (arith, length-take place file, fits, within);
      ends = omega (arith, ap length body, long file place end fits within);
    } in
    let named_again : named "DSTF" (heads_from place cs) ≡ frame_heads file form = ap (named "DSTF") again in
    let hold = named_hold file end "DSTF" (heads_from place cs) cs (chunks_hold file end place cs stands) in
    record {
      inner = cs;
      stands = stands;
      entries = ap (map entry_of) (sym named_again);
      frames = ap (λ hs. map (frame_at file) (map entry_of hs)) (sym named_again)
          ∙ bodies_read file end (named "DSTF" (heads_from place cs)) (frames_among cs) hold;
      short = short_chunks file end (longest_frame form) (named "DSTF" (heads_from place cs)) (frames_among cs) hold
          (subst (AllByRecursion (λ (h : Head). h.size ≤ longest_frame form)) (sym named_again) (short_heads form 0 (frame_heads file form) rules));
      count = sym (length-held file end (named "DSTF" (heads_from place cs)) (frames_among cs) hold) ∙ ap length named_again
          ∙ count_is_right file form none;
    }
  where
    long : (file : List ℕ) (place end : ℕ) → place ≤ end → end ≤ length file → end ≡ place + length (between file place end)
    long file place end p q =
        omega (arith, p, q, length-bytes_at file place (end - place) (omega (arith, p, q)))
