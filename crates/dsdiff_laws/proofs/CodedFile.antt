-- The chunks that encoding writes are whole, are few enough, and have room in a form.
use Rattle.std.proofs.Common.{◌≡◌, ℕ, ◌+◌, ◌*◌, ◌%◌, ◌^◌, ◌<◌, ◌≤◌, Bool, List, [], ◌∷◌, ◌++◌, length, flat_map}
use Rattle.std.proofs.Common.{map, refl, sym, ap, subst, ◌∙◌, arith, length-append, append-nil}
use Rattle.std.specs.Prelude.{codes}
use Rattle.std.specs.List.{AllByRecursion}
use Rattle.std.proofs.lemmas.List.Concat.{flat_map-append}
use Rattle.byteorder.specs.Endian.{big_bytes}
use Rattle.byteorder.specs.Numbers.{length-bytes_high_first}
use Rattle.dsdiff_spec.specs.Chunks.{Chunk, bytes_of_chunk, IsChunk}
use Rattle.dsdiff_spec.specs.Form.{Form, plain}
use Rattle.dsdiff_spec.specs.Rules.{form_of_kind}
use Rattle.dsdiff_spec.specs.Written.{form_of, frte, dstf, entries_from}
use Rattle.dsdiff_spec.proofs.Tiling.{length_of_chunk}
use Rattle.dsdiff_spec.proofs.Pieces.{pad_is_long}
use Rattle.dsdiff_spec.proofs.ByteLists.{entry_bytes, length-index}
use Rattle.dsdiff_laws.proofs.Composed.{AreChunks, others_are, is_ending}
use Rattle.dsdiff_laws.proofs.Filed.{IsFile, may_lack, body_bytes, written_is_file, end_is}
use Rattle.dsdiff_laws.proofs.Props.{locals, replaced, chunk_of, body_with, length-replaced, length-prop, AroundOne, around_cmpr}
use Rattle.dsdiff_laws.proofs.PlainParts.{PlainParts}
use Rattle.dsdiff_laws.proofs.CodedChunks.{coded_cmpr, coded_prop, dst_body, dst_chunk, dsti_chunk, origin_body, coded_pre, plain_pre}
use Rattle.dsdiff_laws.proofs.CodedChunks.{entries_of, origin_of_parts, coded_chunks}
use Prim.Native.String.{String}

-- ---- chunks that are written are whole
pub is_whole : (name : String) (body : List ℕ) (pad : ℕ) → length (codes name) ≡ 4 → length body < 2 ^ 64 → IsChunk (chunk_of name body pad)
is_whole name body pad id size = record { id = id; size = size; pad = pad_is_long (length body) pad }

pub length_written : (name : String) (body : List ℕ) (pad : ℕ) → length (codes name) ≡ 4 → length body < 2 ^ 64 →
    length (bytes_of_chunk (chunk_of name body pad)) ≡ length body + 12 + length body % 2
length_written name body pad id size = length_of_chunk (chunk_of name body pad) (is_whole name body pad id size)

-- ---- chunks one after the other, taken apart and joined
pub whole_before : (m : List ℕ → Bool) (pre post : List Chunk) (x : Chunk) → AreChunks m (pre ++ x ∷ post) → AllByRecursion IsChunk pre × AreChunks m (x ∷ post)
whole_before m [] post x all = (tt, all)
whole_before m (c ∷ []) post x all = ((all.0, tt), all.1)
whole_before m (c ∷ d ∷ pre) post x all = let later = whole_before m (d ∷ pre) post x all.1 in ((all.0, later.0), later.1)

pub are_joined : (m : List ℕ → Bool) (pre post : List Chunk) → AllByRecursion IsChunk pre → AreChunks m post → AreChunks m (pre ++ post)
are_joined m [] post all are = are
are_joined m (c ∷ []) [] all are = is_ending m c all.0
are_joined m (c ∷ []) (d ∷ post) all are = (all.0, are)
are_joined m (c ∷ d ∷ pre) post all are = (all.0, are_joined m (d ∷ pre) post all.1 are)

pub split_whole : (cs ds : List Chunk) → AllByRecursion IsChunk (cs ++ ds) → AllByRecursion IsChunk cs × AllByRecursion IsChunk ds
split_whole [] ds all = (tt, all)
split_whole (c ∷ cs) ds all = let later = split_whole cs ds all.1 in ((all.0, later.0), later.1)

pub join_whole : (cs ds : List Chunk) → AllByRecursion IsChunk cs → AllByRecursion IsChunk ds → AllByRecursion IsChunk (cs ++ ds)
join_whole [] ds p q = q
join_whole (c ∷ cs) ds p q = (p.0, join_whole cs ds p.1 q)

-- ---- sizes
pub length-body : (cs ds : List Chunk) → length (body_bytes (cs ++ ds)) ≡ length (body_bytes cs) + length (body_bytes ds)
length-body cs ds = ap length (flat_map-append bytes_of_chunk cs ds) ∙ length-append (body_bytes cs) (body_bytes ds)

pub length-cons : (c : Chunk) (cs : List Chunk) → length (body_bytes (c ∷ cs)) ≡ length (bytes_of_chunk c) + length (body_bytes cs)
length-cons c cs = length-append (bytes_of_chunk c) (body_bytes cs)

abbrev pub AreShort : ℕ → List (List ℕ) → Type 0
AreShort n frames = AllByRecursion (λ w. length w ≤ n) frames

length_of_frames : (n : ℕ) (frames : List (List ℕ)) → n < 2 ^ 63 → AreShort n frames → length (flat_map dstf frames) ≤ length frames * (n + 13)
length_of_frames n [] small all = omega arith
length_of_frames n (w ∷ ws) small all =
    let here = all.0 in
    let long = length_written "DSTF" w 0 refl (omega (arith, here, small)) in
    omega (arith, here, long, length-append (dstf w) (flat_map dstf ws), length_of_frames n ws small all.1)

pub length-entries : (place : ℕ) (frames : List (List ℕ)) → length (entries_from place frames) ≡ length frames
length-entries place [] = refl
length-entries place (w ∷ ws) = omega (arith, length-entries (place + length (dstf w)) ws)

pub length-frte : (n : ℕ) → length (frte n) ≡ 18
length-frte n =
    let body : length (big_bytes 4 n ++ big_bytes 2 75) ≡ 6 =
    omega (arith, length-append (big_bytes 4 n) (big_bytes 2 75), length-bytes_high_first 4 n, length-bytes_high_first 2 75) in
    let six = ap (λ k. k % 2) body in
    omega (arith, length_written "FRTE" (big_bytes 4 n ++ big_bytes 2 75) 0 refl (omega (arith, body)), body, six)

pub length-origin : (sound pad : ℕ) (cmpr kept : List ℕ) → length (origin_body sound pad cmpr kept) ≡ 14 + length cmpr + length kept
length-origin sound pad cmpr kept =
    let a = 2 ∷ big_bytes 8 sound in
    let b = pad ∷ big_bytes 4 (length kept) in
    omega (
      arith,
      length-append (a ++ b ++ cmpr) kept,
      length-append (a ++ b) cmpr,
      length-append a b,
      length-bytes_high_first 8 sound,
      length-bytes_high_first 4 (length kept),
    )

-- ---- the `PROP` that is written
cmpr_of : {file : List ℕ} (p : PlainParts file) → AroundOne (locals p.parts.prop.body) p.parts.lawful.cmpr
cmpr_of p = around_cmpr (locals p.parts.prop.body) p.parts.lawful.cmpr p.parts.lawful.has.one_cmpr

pub length-parts : (c : Chunk) → length (bytes_of_chunk c) ≡ length c.id + 8 + length c.body + length c.pad
length-parts c =
    omega (
      arith,
      length-append (c.id ++ big_bytes 8 (length c.body) ++ c.body) c.pad,
      length-append (c.id ++ big_bytes 8 (length c.body)) c.body,
      length-append c.id (big_bytes 8 (length c.body)),
      length-bytes_high_first 8 (length c.body),
    )

pub cmpr_least : {file : List ℕ} (p : PlainParts file) → 16 ≤ length (bytes_of_chunk p.parts.lawful.cmpr)
cmpr_least p = omega (arith, length-parts p.parts.lawful.cmpr, ap length (cmpr_of p).name, p.parts.lawful.has.cmpr_least)

pub prop_size : {file : List ℕ} (p : PlainParts file) → length (coded_prop p).body ≤ length p.parts.prop.body + 12
prop_size p =
    let ls = locals p.parts.prop.body in
    let long = length-replaced coded_cmpr ls p.parts.lawful.cmpr p.parts.lawful.has.one_cmpr in
    let body : length (body_with coded_cmpr ls) ≡ 4 + length (body_bytes (replaced coded_cmpr ls)) =
    length-append (codes "SND ") (body_bytes (replaced coded_cmpr ls)) in
    let new : length (bytes_of_chunk coded_cmpr) ≡ 28 = refl in
    omega (arith, long, body, new, length-prop p.parts.prop.body ls p.parts.lawful.made, cmpr_least p)

pub cmpr_size : {file : List ℕ} (p : PlainParts file) → length (bytes_of_chunk p.parts.lawful.cmpr) ≤ length p.parts.prop.body
cmpr_size p =
    let a = cmpr_of p in
    let whole = ap (λ ls. length (body_bytes ls)) a.parts ∙ length-body a.before (p.parts.lawful.cmpr ∷ a.behind) in
    omega (arith, length-prop p.parts.prop.body (locals p.parts.prop.body) p.parts.lawful.made, whole, length-cons p.parts.lawful.cmpr a.behind)

pub record AreFrames (file : List ℕ) (p : PlainParts file) (form : Form) (frames : List (List ℕ)) : Type 0 where
  pub is_form : form ≡ form_of_kind plain file
  pub count : length frames ≤ 1000000
  pub short : AreShort 112897 frames

module _ (file : List ℕ) (p : PlainParts file) (form : Form) (frames : List (List ℕ)) (f : AreFrames file p form frames)
  where
    behind_size : length form.behind ≤ 65536
    behind_size = subst (λ w. length w ≤ 65536) (sym (ap (λ (g : Form). g.behind) f.is_form)) p.behind_most

    pub dst_size : length (dst_body frames) ≤ 18 + length frames * 112910
    dst_size =
        omega (
          arith,
          length-append (frte (length frames)) (flat_map dstf frames),
          length-frte (length frames),
          length_of_frames 112897 frames (omega arith) f.short,
        )

    pub index_size : length (flat_map entry_bytes (entries_of p frames)) ≡ 12 * length frames
    index_size = length-index (entries_of p frames) ∙ ap (λ n. 12 * n) (length-entries (16 + length (body_bytes (coded_pre p)) + 12 + 18) frames)

    pub origin_size : length (origin_of_parts p form).body ≡ 14 + length (bytes_of_chunk p.parts.lawful.cmpr) + length form.behind
    origin_size = length-origin (length p.parts.sound.body) form.pad (bytes_of_chunk p.parts.lawful.cmpr) form.behind

    plain_whole : AllByRecursion IsChunk (plain_pre p) × AreChunks may_lack (p.parts.sound ∷ p.parts.last)
    plain_whole = whole_before may_lack (plain_pre p) p.parts.last p.parts.sound p.parts.formed.are

    prop_whole : IsChunk (coded_prop p)
    prop_whole = is_whole "PROP" (coded_prop p).body 0 refl (omega (arith, prop_size p, p.prop_most))

    pub coded_are : AreChunks may_lack (coded_chunks p form frames)
    coded_are =
        let parts = split_whole (p.parts.version ∷ p.parts.front) (p.parts.prop ∷ p.parts.middle) plain_whole.0 in
        let pre = join_whole (p.parts.version ∷ p.parts.front) (coded_prop p ∷ p.parts.middle) parts.0 (prop_whole, parts.1.1) in
        let three : AllByRecursion IsChunk (dst_chunk frames ∷ dsti_chunk (entries_of p frames) ∷ origin_of_parts p form ∷ []) = (
          is_whole "DST " (dst_body frames) 0 refl (omega (arith, dst_size, f.count)),
          (
            is_whole "DSTI" (flat_map entry_bytes (entries_of p frames)) 0 refl (omega (arith, index_size, f.count)),
            (is_whole "KEPT" (origin_of_parts p form).body 0 refl (omega (arith, origin_size, cmpr_size p, p.prop_most, behind_size)), tt),
          ),
        ) in
        are_joined may_lack (coded_pre p) _ pre
        (are_joined may_lack (dst_chunk frames ∷ dsti_chunk (entries_of p frames) ∷ origin_of_parts p form ∷ []) p.parts.last three
        (others_are may_lack p.parts.sound p.parts.last plain_whole.1))

    -- they have room: the plain form has at most 2 ^ 49 bytes
    pub coded_size : 4 + length (body_bytes (coded_chunks p form frames)) ≤ 2 ^ 50
    coded_size =
        let plain = end_is file (plain_pre p ++ p.parts.sound ∷ p.parts.last) _ p.parts.formed in
        omega (
          arith,
          plain,
          p.size_most,
          f.count,
          length-body (plain_pre p) (p.parts.sound ∷ p.parts.last),
          length-cons p.parts.sound p.parts.last,
          length-body (p.parts.version ∷ p.parts.front) (p.parts.prop ∷ p.parts.middle),
          length-cons p.parts.prop p.parts.middle,
          length-parts p.parts.prop,
          ap length p.parts.is_prop,
          length-body (coded_pre p) (dst_chunk frames ∷ dsti_chunk (entries_of p frames) ∷ origin_of_parts p form ∷ p.parts.last),
          length-body (p.parts.version ∷ p.parts.front) (coded_prop p ∷ p.parts.middle),
          length-cons (coded_prop p) p.parts.middle,
          length_of_chunk (coded_prop p) prop_whole,
          prop_size p,
          p.prop_most,
          length-cons (dst_chunk frames) (dsti_chunk (entries_of p frames) ∷ origin_of_parts p form ∷ p.parts.last),
          length-cons (dsti_chunk (entries_of p frames)) (origin_of_parts p form ∷ p.parts.last),
          length-cons (origin_of_parts p form) p.parts.last,
          length_written "DST " (dst_body frames) 0 refl (omega (arith, dst_size, f.count)),
          dst_size,
          length_written "DSTI" (flat_map entry_bytes (entries_of p frames)) 0 refl (omega (arith, index_size, f.count)),
          index_size,
          length_written "KEPT" (origin_of_parts p form).body 0 refl (omega (arith, origin_size, cmpr_size p, p.prop_most, behind_size)),
          origin_size,
          cmpr_size p,
          behind_size,
        )

    -- how much longer than the plain form they are, where no frame has more than so many bytes
    pub coded_most : (n : ℕ) → n < 2 ^ 40 → AreShort n frames →
        length (body_bytes (coded_chunks p form frames)) + length p.parts.sound.body
        ≤ length (body_bytes (plain_pre p ++ p.parts.sound ∷ p.parts.last)) + length frames * (n + 25) + 90 + length p.parts.prop.body + length form.behind
    coded_most n small short =
        let long : length (dst_body frames) ≤ 18 + length frames * (n + 13) =
        omega (
          arith,
          length-append (frte (length frames)) (flat_map dstf frames),
          length-frte (length frames),
          length_of_frames n frames (omega (arith, small)) short,
        ) in
        omega (
          arith,
          long,
          length-body (plain_pre p) (p.parts.sound ∷ p.parts.last),
          length-cons p.parts.sound p.parts.last,
          length-parts p.parts.sound,
          ap length p.is_dsd,
          length-body (p.parts.version ∷ p.parts.front) (p.parts.prop ∷ p.parts.middle),
          length-cons p.parts.prop p.parts.middle,
          length-parts p.parts.prop,
          ap length p.parts.is_prop,
          length-body (coded_pre p) (dst_chunk frames ∷ dsti_chunk (entries_of p frames) ∷ origin_of_parts p form ∷ p.parts.last),
          length-body (p.parts.version ∷ p.parts.front) (coded_prop p ∷ p.parts.middle),
          length-cons (coded_prop p) p.parts.middle,
          length_of_chunk (coded_prop p) prop_whole,
          prop_size p,
          length-cons (dst_chunk frames) (dsti_chunk (entries_of p frames) ∷ origin_of_parts p form ∷ p.parts.last),
          length-cons (dsti_chunk (entries_of p frames)) (origin_of_parts p form ∷ p.parts.last),
          length-cons (origin_of_parts p form) p.parts.last,
          length_written "DST " (dst_body frames) 0 refl (omega (arith, dst_size, f.count)),
          length_written "DSTI" (flat_map entry_bytes (entries_of p frames)) 0 refl (omega (arith, index_size, f.count)),
          index_size,
          length_written "KEPT" (origin_of_parts p form).body 0 refl (omega (arith, origin_size, cmpr_size p, p.prop_most, behind_size)),
          origin_size,
          cmpr_size p,
        )

    pub coded_few : length (coded_chunks p form frames) ≤ 1024
    coded_few =
        omega (
          arith,
          p.few,
          length-append (plain_pre p) (p.parts.sound ∷ p.parts.last),
          length-append (p.parts.version ∷ p.parts.front) (p.parts.prop ∷ p.parts.middle),
          length-append (coded_pre p) (dst_chunk frames ∷ dsti_chunk (entries_of p frames) ∷ origin_of_parts p form ∷ p.parts.last),
          length-append (p.parts.version ∷ p.parts.front) (coded_prop p ∷ p.parts.middle),
        )

    -- so what is written is a form of them, with nothing behind
    pub coded_is_file : IsFile (form_of (map bytes_of_chunk (coded_chunks p form frames))) (coded_chunks p form frames) []
    coded_is_file =
        subst (λ w. IsFile w (coded_chunks p form frames) []) (append-nil (form_of (map bytes_of_chunk (coded_chunks p form frames))))
        (written_is_file (coded_chunks p form frames) [] coded_are coded_few coded_size)
