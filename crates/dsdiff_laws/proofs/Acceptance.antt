-- What encoding writes is accepted for decoding, its frames are the stored ones, and its index is its walk.
use Rattle.std.proofs.Common.{◌≡◌, ℕ, ◌+◌, ◌%◌, ◌^◌, ◌<◌, ◌≤◌, ◌==◌, Bool, true, false, if◌then◌else◌, List, [], ◌∷◌, ◌++◌, length}
use Rattle.std.proofs.Common.{drop, get_or, flat_map, None, refl, sym, ap, ap₂, subst, ◌∙◌, arith, length-append, append_assoc}
use Rattle.std.specs.Prelude.{codes}
use Rattle.byteorder.specs.Endian.{big_bytes}
use Rattle.dst_spec.specs.Bits.{AreBytes}
use Rattle.dst_spec.specs.Sample.{IsShape}
use Rattle.dst_spec.proofs.Lists.{AreBytes-take, AreBytes-drop, all_append}
use Rattle.dsdiff_spec.specs.Bytes.{◌is◌}
use Rattle.dsdiff_spec.specs.Chunks.{Chunk, bytes_of_chunk, Head, Found, body_place, body_end, body_of, named}
use Rattle.dsdiff_spec.specs.Form.{plain, coded, Form, shape, sound_bytes_of, frames_for}
use Rattle.dsdiff_spec.specs.Parts.{sound_head, form_end, pad_byte, sound_bytes_in}
use Rattle.dsdiff_spec.specs.Rules.{form_fault, form_of_kind, accepted}
use Rattle.dsdiff_spec.specs.Walk.{entries, compare_fault, index_heads}
use Rattle.dsdiff_spec.specs.Written.{frte, dstf, entries_from}
use Rattle.dsdiff_spec.specs.Coded.{Picks, pieces, stored_frames}
use Rattle.dsdiff_spec.specs.Laws.{IsPlainFile, ArePicks, coded_file, AcceptanceLaw}
use Rattle.dsdiff_spec.proofs.Lawful.{form_has_a_shape}
use Rattle.dsdiff_spec.proofs.CodedFiles.{longest_sound_of_frame}
use Rattle.dsdiff_spec.proofs.Tiling.{heads_from}
use Rattle.dsdiff_laws.proofs.Filed.{IsFile, body_bytes, found_is}
use Rattle.dsdiff_laws.proofs.Places.{either_lacks, Lacks, head_behind, stands_behind, one_named}
use Rattle.dsdiff_laws.proofs.PlainParts.{PlainParts, plain_parts, plain_rules, added_id}
use Rattle.dsdiff_laws.proofs.CodedChunks.{coded_prop, coded_pre, coded_chunks, dst_body, dst_chunk, dsti_chunk, entries_of, origin_of_parts, coded_is}
use Rattle.dsdiff_laws.proofs.CodedFile.{AreShort, AreFrames, coded_is_file, length-body, length-cons, length-entries}
use Rattle.dsdiff_laws.proofs.CodedRules.{AreExact, form_rules, kind_is, count_is, sound_head_is, same_sound_bytes}
use Rattle.dsdiff_laws.proofs.BehindFrte.{behind_frte}
use Rattle.dsdiff_laws.proofs.CodedWalk.{Walked, IsWalk, walk_is, entries_are_numbers}
use Rattle.dsdiff_laws.proofs.CodedIndex.{HasIndex, index_is_walk}
use Rattle.dsdiff_spec.proofs.SoundPieces.{length-pieces}
use Rattle.dsdiff_spec.proofs.ByteLists.{byte_at_place}
use Rattle.dsdiff_laws.proofs.StoredBytes.{AreStored, stored_are, pieces_are}
use Rattle.dsdiff_laws.proofs.Answered.{IsAnswered, decodes, checks, lists, writes}
use Rattle.dsdiff_laws.proofs.Accepting.{coded_is_bytes}

more_short : (m n : ℕ) (frames : List (List ℕ)) → m ≤ n → AreShort m frames → AreShort n frames
more_short m n [] le all = tt
more_short m n (w ∷ ws) le all = let here = all.0 in (omega (arith, here, le), more_short m n ws le all.1)

-- ---- the plain file and the frames that stand for it
pub record IsEncoded (file : List ℕ) (picks : Picks) : Type 0 where
  pub p : PlainParts file
  pub is_form : accepted file ≡ form_of_kind plain file
  pub shape : IsShape (shape (accepted file))
  pub stored : AreStored (Rattle.dsdiff_spec.specs.Form.shape (accepted file))
      (pieces (sound_bytes_of (accepted file)) (body_of file (accepted file).sound)) (stored_frames picks file (accepted file))
  pub frames : AreFrames file p (accepted file) (stored_frames picks file (accepted file))
  pub exact : AreExact file p (stored_frames picks file (accepted file))
  pub count : length (stored_frames picks file (accepted file)) ≡ (accepted file).frames
  pub made : IsFile (coded_file picks file) (coded_chunks p (accepted file) (stored_frames picks file (accepted file))) []

pub encoded_is : (file : List ℕ) (picks : Picks) → IsPlainFile file → ArePicks picks → IsEncoded file picks
unfolding stored_frames
encoded_is file picks plain_file are =
    let p = plain_parts 1 file plain_file.0 plain_file.1 in
    let rules = plain_rules 1 file plain_file.1 in
    let form = accepted file in
    let is_form : form ≡ form_of_kind plain file = ap (λ k. form_of_kind k file) rules.1 in
    let lawful = form_has_a_shape file rules.0 in
    let n = sound_bytes_of form in
    let same : n ≡ sound_bytes_in p.parts.prop.body = ap sound_bytes_in p.parts.prop_is in
    let sound = body_of file form.sound in
    let body : sound ≡ p.parts.sound.body = ap (body_of file) p.parts.sound_head_is ∙ p.parts.sound_holds.body in
    let bytes : AreBytes sound = AreBytes-take form.sound.size (drop (body_place form.sound) file) (AreBytes-drop (body_place form.sound) file plain_file.0) in
    let list = pieces n sound in
    let stored = stored_are (shape form) picks list lawful (λ s h. (are s (shape form) lawful h).1) (pieces_are n sound bytes) in
    let exact : length (stored_frames picks file form) ≡ frames_for (sound_bytes_in p.parts.prop.body) (length p.parts.sound.body) =
    stored.count ∙ length-pieces n sound ∙ ap₂ frames_for same (ap length body) in
    let size : form.sound.size ≡ length p.parts.sound.body = ap (λ (h : Head). h.size) p.parts.sound_head_is in
    let frames : form.frames ≡ frames_for (sound_bytes_in p.parts.prop.body) (length p.parts.sound.body) =
    ap (λ (f : Form). f.frames) is_form ∙ ap₂ frames_for (ap sound_bytes_in p.parts.prop_is) size in
    let few : AreFrames file p form (stored_frames picks file form) = record {
      is_form = is_form;
      count = omega (arith, exact, p.frames);
      short = more_short (1 + n) 112897 (stored_frames picks file form) (omega (arith, longest_sound_of_frame (shape form) lawful)) stored.short;
    } in
    let written = coded_is file p form is_form (stored_frames picks file form) in
    record {
      p = p;
      is_form = is_form;
      shape = lawful;
      stored = stored;
      frames = few;
      exact = record { exact = exact };
      count = exact ∙ sym frames;
      made = subst (λ w. IsFile w (coded_chunks p form (stored_frames picks file form)) []) (sym written)
          (coded_is_file file p form (stored_frames picks file form) few);
    }

-- ---- the walk and the index of what is written
module _ (file : List ℕ) (picks : Picks) (e : IsEncoded file picks)
  where
    abbrev g : List ℕ
    g = coded_file picks file

    abbrev stored : List (List ℕ)
    stored = stored_frames picks file (accepted file)

    pub coded_form : accepted g ≡ form_of_kind coded g
    coded_form = ap (λ k. form_of_kind k g) (kind_is file e.p (accepted file) stored e.frames e.exact g e.made)

    pub rules_hold : form_fault g ≡ None
    rules_hold = form_rules file e.p (accepted file) stored e.frames e.exact g e.made

    sound_is : (accepted g).sound ≡ head_behind (coded_pre e.p) (dst_chunk stored)
    sound_is = sound_head_is file e.p (accepted file) stored e.frames e.exact g e.made

    pub same_frames : (accepted g).frames ≡ (accepted file).frames
    same_frames = ap (λ (f : Form). f.frames) coded_form ∙ count_is file e.p (accepted file) stored e.frames e.exact g e.made ∙ e.count

    pub same_bytes : sound_bytes_of (accepted g) ≡ sound_bytes_of (accepted file)
    same_bytes = same_sound_bytes file e.p (accepted file) stored e.frames e.exact g e.made ∙ sym (ap sound_bytes_in e.p.parts.prop_is)

    pub walked : Walked g (body_end (accepted g).sound) (body_place (accepted g).sound + 18) stored
    walked =
        let b = behind_frte g (coded_pre e.p) (dsti_chunk (entries_of e.p stored) ∷ origin_of_parts e.p (accepted file) ∷ e.p.parts.last) (length stored)
        (flat_map dstf stored) e.made in
        let end = ap body_end sound_is in
        let place = ap body_place sound_is in
        record {
          front = b.front;
          rest = b.rest;
          bytes = b.bytes;
          at_place = omega (arith, b.at_place, place);
          ends = omega (arith, b.ends, end, place);
          few = e.frames.count;
        }

    pub walk_of_coded : IsWalk g (accepted g) stored
    walk_of_coded =
        walk_is g (accepted g) stored (1 + sound_bytes_of (accepted file))
        (omega (arith, longest_sound_of_frame (shape (accepted file)) e.shape)) e.stored.short
        (omega (arith, same_bytes)) (e.count ∙ sym same_frames) walked

    -- the index
    index_id : List ℕ → Bool
    index_id id = id is "DSTI"

    index_parts : coded_chunks e.p (accepted file) stored ≡ (coded_pre e.p ++ dst_chunk stored ∷ []) ++ dsti_chunk (entries_of e.p stored)
        ∷ origin_of_parts e.p (accepted file) ∷ e.p.parts.last
    index_parts = sym (append_assoc (coded_pre e.p) (dst_chunk stored ∷ [])
        (dsti_chunk (entries_of e.p stored) ∷ origin_of_parts e.p (accepted file) ∷ e.p.parts.last))

    pub has_index : HasIndex g (accepted g) (entries_of e.p stored)
    has_index =
        let p = e.p in
        let none : (cs : List Chunk) → Lacks added_id cs → Lacks (λ id. id is "DSTI") cs =
        λ cs l. (either_lacks (λ id. id is "DSTI") (λ id. id is "KEPT") cs l).0 in
        let pre : Lacks (λ id. id is "DSTI") (coded_pre p ++ dst_chunk stored ∷ []) =
        all_append (λ (d : Chunk). (d.id is "DSTI") ≡ false) (coded_pre p) (dst_chunk stored ∷ [])
        (all_append (λ (d : Chunk). (d.id is "DSTI") ≡ false) (p.parts.version ∷ p.parts.front) (coded_prop p ∷ p.parts.middle)
        (none (p.parts.version ∷ p.parts.front) p.added_front)
        (refl, none p.parts.middle p.added_middle))
        (refl, tt) in
        let heads = ap (λ (x : Found). x.heads) (found_is g (coded_chunks p (accepted file) stored) [] e.made) in
        let size = e.made.size in
        let long = length-body (coded_pre p) (dst_chunk stored ∷ dsti_chunk (entries_of p stored) ∷ origin_of_parts p (accepted file) ∷ p.parts.last) in
        let first = length-cons (dst_chunk stored) (dsti_chunk (entries_of p stored) ∷ origin_of_parts p (accepted file) ∷ p.parts.last) in
        let inside : length (dst_body stored) ≤ length (bytes_of_chunk (dst_chunk stored)) =
        omega (
          arith,
          length-append (codes "DST " ++ big_bytes 8 (length (dst_body stored)) ++ dst_body stored) (dst_chunk stored).pad,
          length-append (codes "DST " ++ big_bytes 8 (length (dst_body stored))) (dst_body stored),
        ) in
        let body = length-append (frte (length stored)) (flat_map dstf stored) in
        record {
          head = head_behind (coded_pre p ++ dst_chunk stored ∷ []) (dsti_chunk (entries_of p stored));
          end = form_end g;
          one = ap (λ (f : Form). named "DSTI" f.chunks) coded_form ∙ ap (named "DSTI") (heads ∙ ap (heads_from 16) index_parts)
              ∙ one_named (λ id. id is "DSTI") (coded_pre p ++ dst_chunk stored ∷ []) (origin_of_parts p (accepted file) ∷ p.parts.last)
              (dsti_chunk (entries_of p stored)) pre refl
              (refl, none p.parts.last p.added_last);
          holds = stands_behind g (coded_pre p ++ dst_chunk stored ∷ []) (origin_of_parts p (accepted file) ∷ p.parts.last)
              (dsti_chunk (entries_of p stored)) []
              (subst (λ cs. IsFile g cs []) index_parts e.made);
          numbers = entries_are_numbers (16 + length (body_bytes (coded_pre p)) + 12 + 18) (2 ^ 50 + 100) 112897 stored (omega arith) e.frames.short
              (omega (arith, size, long, first, inside, body)) (omega arith);
          count = length-entries (16 + length (body_bytes (coded_pre p)) + 12 + 18) stored ∙ e.count ∙ sym same_frames;
        }

    entries_are : entries g (accepted g) ≡ entries_of e.p stored
    entries_are = walk_of_coded.entries ∙ ap (λ n. entries_from (n + 18) stored) (ap body_place sound_is)

    pub compared : compare_fault g (accepted g) ≡ None
    compared = index_is_walk g (accepted g) (entries_of e.p stored) has_index entries_are

    one_index : length (index_heads (accepted g)) ≡ 1
    one_index = ap length has_index.one

    pub is_answered : IsAnswered g
    is_answered = record {
      rules = rules_hold;
      is_coded = kind_is file e.p (accepted file) stored e.frames e.exact g e.made;
      walked = walk_of_coded.none;
      found = walk_of_coded.heads;
      head = has_index.head;
      one = has_index.one;
      compared = compared;
    }

pub acceptance : AcceptanceLaw
acceptance file picks plain_file are =
    let e = encoded_is file picks plain_file are in
    let g = coded_file picks file in
    let pad : pad_byte file < 256 = pad_is_byte file plain_file.0 in
    let bytes = coded_is_bytes file e.p (accepted file) (stored_frames picks file (accepted file)) g
    (subst (λ (f : Form). f.pad < 256) (sym e.is_form) pad)
    (subst (λ (f : Form). AreBytes f.behind) (sym e.is_form) (AreBytes-drop (form_end file) file plain_file.0)) e.stored.bytes e.made.bytes in (
      (bytes, decodes g (is_answered file picks e)),
      (bytes, checks g (is_answered file picks e)),
      (bytes, lists g (is_answered file picks e)),
      (λ k l b. (bytes, writes g (is_answered file picks e) k (omega (arith, l, same_frames file picks e)) b)),
      (walk_of_coded file picks e).stored,
      e.stored.short,
      (ap length (has_index file picks e).one, compared file picks e),
    )
  where
    pad_is_byte : (file : List ℕ) → AreBytes file → pad_byte file < 256
    pad_is_byte file all = either ((sound_head file).size % 2 == 1)
      where
        either : (b : Bool) → (if b then get_or file (body_end (sound_head file)) 0 else 0) < 256
        either true = byte_at_place file (body_end (sound_head file)) all
        either false = omega arith
