-- A file that is a form of chunks, with bytes behind it: what opening finds in it; and a file that opening accepts is such a form.
use Rattle.std.proofs.Common.{◌≡◌, inr, ℕ, ◌+◌, ◌-◌, ◌^◌, ◌≤◌, Bool, true, false, List, [], ◌∷◌, ◌++◌, length, take, drop, flat_map, map, None, refl}
use Rattle.std.proofs.Common.{sym, ap, ap₂, subst, ◌∙◌, arith, length-append, length-drop, take_at, append_assoc, ltb-false}
use Rattle.std.specs.Prelude.{codes, not, ◌||◌, nat_lt}
use Rattle.std.proofs.lemmas.Slice.Eq.{bytes_eq-Decides}
use Rattle.std.specs.List.{AllZip, concat}
use Rattle.std.proofs.lemmas.Bool.{le-ltb, or_parts}
use Rattle.std.proofs.lemmas.List.{drop_at, length-map}
use Rattle.byteorder.specs.Endian.{big_from, big_bytes}
use Rattle.byteorder.specs.Numbers.{big_number-reads_back, length-bytes_high_first}
use Rattle.dst_spec.specs.Bits.{AreBytes}
use Rattle.dsdiff_spec.specs.Bytes.{bytes_at, between, ◌is◌, ◌below◌, ◌above◌}
use Rattle.dsdiff_spec.specs.Faults.{◌when◌}
use Rattle.dsdiff_spec.specs.Chunks.{Chunk, bytes_of_chunk, Found, chunks_from}
use Rattle.dsdiff_spec.specs.Parts.{form_size, form_end, top_level, behind_form}
use Rattle.dsdiff_spec.specs.Rules.{opening_fault}
use Rattle.dsdiff_spec.specs.Written.{form_of}
use Rattle.dsdiff_spec.specs.declared.faults.FileFault.TheVariants.{NotForm, FormTooLarge, FormType, Overrun}
use Rattle.dsdiff_spec.proofs.Lawful.{first_gives_none, later_gives_none, when_not}
use Rattle.dsdiff_spec.proofs.Finding.{found_follow, found_at_most, found_to_the_end}
use Rattle.dsdiff_spec.proofs.Tiling.{heads_from, big_from-behind}
use Rattle.dsdiff_spec.proofs.Sizes.{length-bytes_at, between-joined}
use Rattle.dsdiff_laws.proofs.Composed.{AreChunks, composed_is_found}
use Rattle.dsdiff_laws.proofs.Standing.{Holds, all_hold}
use Rattle.dsdiff_laws.proofs.Chunked.{chunk_at, chunks_of_heads, bytes_of_heads, heads_again, number_again}

-- all but a sound may lack a last pad byte
abbrev pub may_lack : List ℕ → Bool
may_lack id = not (id is "DSD ")

abbrev pub body_bytes : List Chunk → List ℕ
body_bytes cs = flat_map bytes_of_chunk cs

abbrev pub opening_bytes : List Chunk → List ℕ
opening_bytes cs = codes "FRM8" ++ big_bytes 8 (4 + length (body_bytes cs)) ++ codes "DSD "

pub record IsFile (file : List ℕ) (cs : List Chunk) (rest : List ℕ) : Type 0 where
  pub are : AreChunks may_lack cs
  pub few : length cs ≤ 1024
  pub size : 4 + length (body_bytes cs) ≤ 2 ^ 50
  pub bytes : file ≡ opening_bytes cs ++ body_bytes cs ++ rest

-- ---- what opening finds
length-opening : (cs : List Chunk) → length (opening_bytes cs) ≡ 16
length-opening cs =
    let n = 4 + length (body_bytes cs) in
    omega (arith, length-append (codes "FRM8" ++ big_bytes 8 n) (codes "DSD "), length-append (codes "FRM8") (big_bytes 8 n), length-bytes_high_first 8 n)

pub length-file : (file : List ℕ) (cs : List Chunk) (rest : List ℕ) → IsFile file cs rest → length file ≡ 16 + length (body_bytes cs) + length rest
length-file file cs rest h =
    omega (
      arith,
      ap length h.bytes,
      length-append (opening_bytes cs ++ body_bytes cs) rest,
      length-append (opening_bytes cs) (body_bytes cs),
      length-opening cs,
    )

pub size_is : (file : List ℕ) (cs : List Chunk) (rest : List ℕ) → IsFile file cs rest → form_size file ≡ 4 + length (body_bytes cs)
size_is file cs rest h =
    let n = 4 + length (body_bytes cs) in
    let w = codes "DSD " ++ (body_bytes cs ++ rest) in
    let four : 4 ≡ length (codes "FRM8") + 0 = refl in
    ap (big_from 4 8) (h.bytes ∙ regrouped (codes "FRM8") (big_bytes 8 n) (codes "DSD ") (body_bytes cs) rest)
    ∙ ap (λ i. big_from i 8 (codes "FRM8" ++ (big_bytes 8 n ++ w))) four
    ∙ big_from-behind 0 8 (codes "FRM8") (big_bytes 8 n ++ w)
    ∙ big_number-reads_back 8 n w (omega (arith, h.size))
  where
    regrouped : (a b c d e : List ℕ) → a ++ b ++ c ++ d ++ e ≡ a ++ (b ++ (c ++ (d ++ e)))
    regrouped a b c d e = simp append_assoc refl

pub end_is : (file : List ℕ) (cs : List Chunk) (rest : List ℕ) → IsFile file cs rest → form_end file ≡ 16 + length (body_bytes cs)
end_is file cs rest h = omega (arith, size_is file cs rest h)

pub found_is : (file : List ℕ) (cs : List Chunk) (rest : List ℕ) → IsFile file cs rest → top_level file ≡ record { heads = heads_from 16 cs; fault = None }
found_is file cs rest h =
    let long = length-opening cs in
    ap (chunks_from may_lack file (form_end file) 1024) (sym long)
    ∙ composed_is_found may_lack file (form_end file) cs (opening_bytes cs) rest 1024 h.are h.few h.bytes (omega (arith, end_is file cs rest h, long))
    ∙ ap (λ n. record { heads = heads_from n cs; fault = None }) long

pub file_holds : (file : List ℕ) (cs : List Chunk) (rest : List ℕ) → IsFile file cs rest → AllZip (Holds file (form_end file)) (heads_from 16 cs) cs
file_holds file cs rest h =
    let long = length-opening cs in
    subst (λ n. AllZip (Holds file (form_end file)) (heads_from n cs) cs) long
    (all_hold may_lack file (form_end file) cs (opening_bytes cs) rest h.are h.bytes (inr (omega (arith, end_is file cs rest h, long))))

pub opens : (file : List ℕ) (cs : List Chunk) (rest : List ℕ) → IsFile file cs rest → opening_fault file ≡ None
opens file cs rest h =
    let long = length-file file cs rest h in
    let size = size_is file cs rest h in
    let n = 4 + length (body_bytes cs) in
    let there : nat_lt (length file) 16 ≡ false = le-ltb (length file) 16 (omega (arith, long)) in
    let name : bytes_at file 0 4 ≡ codes "FRM8" =
    ap (take 4) (h.bytes ∙ first (codes "FRM8") (big_bytes 8 n) (codes "DSD ") (body_bytes cs) rest)
    ∙ take_at (codes "FRM8") (big_bytes 8 n ++ (codes "DSD " ++ (body_bytes cs ++ rest))) 4 refl in
    let least : nat_lt (form_size file) 4 ≡ false = le-ltb (form_size file) 4 (omega (arith, size)) in
    let most : nat_lt (2 ^ 50) (form_size file) ≡ false = le-ltb (2 ^ 50) (form_size file) (omega (arith, size, h.size)) in
    let twelve : length (codes "FRM8" ++ big_bytes 8 n) ≡ 12 = omega (arith, length-append (codes "FRM8") (big_bytes 8 n), length-bytes_high_first 8 n) in
    let type : bytes_at file 12 4 ≡ codes "DSD " =
    ap (λ w. take 4 (drop 12 w)) (h.bytes ∙ second (codes "FRM8" ++ big_bytes 8 n) (codes "DSD ") (body_bytes cs) rest)
    ∙ ap (take 4) (drop_at (codes "FRM8" ++ big_bytes 8 n) (codes "DSD " ++ (body_bytes cs ++ rest)) 12 twelve)
    ∙ take_at (codes "DSD ") (body_bytes cs ++ rest) 4 refl in
    let within : nat_lt (length file) (form_end file) ≡ false = le-ltb (length file) (form_end file) (omega (arith, long, end_is file cs rest h)) in
    let found = ap (λ (f : Found). f.fault) (found_is file cs rest h) in
    rw (there, name, least, most, type, within, found) refl
  where
    first : (a b c d e : List ℕ) → a ++ b ++ c ++ d ++ e ≡ a ++ (b ++ (c ++ (d ++ e)))
    first a b c d e = simp append_assoc refl

    second : (a b c d : List ℕ) → a ++ b ++ c ++ d ≡ a ++ (b ++ (c ++ d))
    second a b c d = simp append_assoc refl

pub behind_is : (file : List ℕ) (cs : List Chunk) (rest : List ℕ) → IsFile file cs rest → behind_form file ≡ rest
behind_is file cs rest h =
    ap (drop (form_end file)) h.bytes
    ∙ drop_at (opening_bytes cs ++ body_bytes cs) rest (form_end file)
    (omega (arith, end_is file cs rest h, length-append (opening_bytes cs) (body_bytes cs), length-opening cs))

-- ---- a form that is written of chunks
pub concat_bytes : (cs : List Chunk) → concat (map bytes_of_chunk cs) ≡ body_bytes cs
concat_bytes [] = refl
concat_bytes (c ∷ cs) = ap (λ w. bytes_of_chunk c ++ w) (concat_bytes cs)

pub written_is_file : (cs : List Chunk) (rest : List ℕ) → AreChunks may_lack cs → length cs ≤ 1024 → 4 + length (body_bytes cs) ≤ 2 ^ 50 →
    IsFile (form_of (map bytes_of_chunk cs) ++ rest) cs rest
written_is_file cs rest are few size = record {
  are = are;
  few = few;
  size = size;
  bytes = ap (λ w. codes "FRM8" ++ big_bytes 8 (4 + length w) ++ codes "DSD " ++ w ++ rest) (concat_bytes cs);
}

-- ---- a file that opening accepts
abbrev pub chunks_in : List ℕ → List Chunk
chunks_in file = map (chunk_at file (form_end file)) (top_level file).heads

pub not_false : (b : Bool) → not b ≡ false → b ≡ true
not_false true e = refl
not_false false e = absurd cc

pub no_less : (n : ℕ) → n - 0 ≡ n
no_less n = omega arith

pub take_whole : (w : List ℕ) → take (length w) w ≡ w
take_whole [] = refl
take_whole (x ∷ w) = ap (λ v. x ∷ v) (take_whole w)

-- what the rules on the opening say
pub record IsOpened (file : List ℕ) : Type 0 where
  pub long : 16 ≤ length file
  pub name : bytes_at file 0 4 ≡ codes "FRM8"
  pub least : 4 ≤ form_size file
  pub most : form_size file ≤ 2 ^ 50
  pub type : bytes_at file 12 4 ≡ codes "DSD "
  pub within : form_end file ≤ length file
  pub whole : (top_level file).fault ≡ None

pub is_opened : (file : List ℕ) → opening_fault file ≡ None → IsOpened file
is_opened file none =
    let r1 = when_not NotForm _ (first_gives_none _ _ none) in
    let n1 = later_gives_none (NotForm when length file below 16 || not (bytes_at file 0 4 is "FRM8") || form_size file below 4) _ none in
    let r2 = when_not FormTooLarge _ (first_gives_none _ _ n1) in
    let n2 = later_gives_none (FormTooLarge when form_size file above 2 ^ 50) _ n1 in
    let r3 = when_not FormType _ (first_gives_none _ _ n2) in
    let n3 = later_gives_none (FormType when not (bytes_at file 12 4 is "DSD ")) _ n2 in
    let r4 = when_not (Overrun 0) _ (first_gives_none _ _ n3) in
    let n4 = later_gives_none (Overrun 0 when form_end file above length file) _ n3 in
    let parts = or_parts _ _ r1 in
    let inner = or_parts _ _ parts.0 in
    record {
      long = ltb-false (length file) 16 inner.0;
      name = (bytes_eq-Decides (bytes_at file 0 4) (codes "FRM8")).0 (not_false _ inner.1);
      least = ltb-false (form_size file) 4 parts.1;
      most = ltb-false (2 ^ 50) (form_size file) r2;
      type = (bytes_eq-Decides (bytes_at file 12 4) (codes "DSD ")).0 (not_false _ r3);
      within = ltb-false (length file) (form_end file) r4;
      whole = n4;
    }

pub opened_is_file : (file : List ℕ) → AreBytes file → opening_fault file ≡ None → IsFile file (chunks_in file) (behind_form file)
opened_is_file file bytes none =
    let o = is_opened file none in
    let end = form_end file in
    let cs = chunks_in file in
    let follow = found_follow may_lack file end 1024 16 in
    let few = found_at_most may_lack file end 1024 16 in
    let reached = found_to_the_end may_lack file end 1024 16 o.whole in
    let body : body_bytes cs ≡ between file 16 end = bytes_of_heads may_lack file end 16 (top_level file).heads bytes o.within follow reached in
    let long : length (between file 16 end) ≡ end - 16 = length-bytes_at file 16 (end - 16) (omega (arith, o.within, o.least)) in
    let size : 4 + length (body_bytes cs) ≡ form_size file = omega (arith, ap length body, long, o.least) in
    let name : codes "FRM8" ≡ between file 0 4 = sym o.name in
    let number : big_bytes 8 (4 + length (body_bytes cs)) ≡ between file 4 12 = ap (big_bytes 8) size ∙ number_again file 4 8 bytes (omega (arith, o.long)) in
    let type : codes "DSD " ≡ between file 12 16 = sym o.type in
    let last : behind_form file ≡ between file end (length file) = sym (whole_rest file end o.within) in
    record {
      are = chunks_of_heads may_lack file end 16 (top_level file).heads bytes o.within follow;
      few = omega (arith, few, length-map (top_level file).heads (chunk_at file end));
      size = omega (arith, size, o.most);
      bytes = sym (ap₂ (λ (a b : List ℕ). a ++ b ++ codes "DSD " ++ body_bytes cs ++ behind_form file) name number
          ∙ ap₂ (λ (a b : List ℕ). between file 0 4 ++ between file 4 12 ++ a ++ b ++ behind_form file) type body
          ∙ ap (λ w. between file 0 4 ++ between file 4 12 ++ between file 12 16 ++ between file 16 end ++ w) last
          ∙ parts_join file end (omega (arith, o.least)) o.within);
    }
  where
    whole_rest : (file : List ℕ) (end : ℕ) → end ≤ length file → between file end (length file) ≡ drop end file
    whole_rest file end le =
        let n : length file - end ≡ length (drop end file) = omega (arith, length-drop end file) in
        ap (λ k. take k (drop end file)) n ∙ take_whole (drop end file)

    parts_join : (file : List ℕ) (end : ℕ) → 16 ≤ end → end ≤ length file →
        between file 0 4 ++ between file 4 12 ++ between file 12 16 ++ between file 16 end ++ between file end (length file) ≡ file
    parts_join file end p q =
        ap (λ w. w ++ between file 12 16 ++ between file 16 end ++ between file end (length file)) (between-joined file 0 4 12 (omega arith) (omega arith))
        ∙ ap (λ w. w ++ between file 16 end ++ between file end (length file)) (between-joined file 0 12 16 (omega arith) (omega arith))
        ∙ ap (λ w. w ++ between file end (length file)) (between-joined file 0 16 end (omega arith) p)
        ∙ between-joined file 0 end (length file) (omega arith) q
        ∙ ap (λ k. take k file) (no_less (length file)) ∙ take_whole file

pub opened_heads : (file : List ℕ) → AreBytes file → opening_fault file ≡ None → heads_from 16 (chunks_in file) ≡ (top_level file).heads
opened_heads file bytes none =
    heads_again may_lack file (form_end file) 16 (top_level file).heads bytes (is_opened file none).within (found_follow may_lack file (form_end file) 1024 16)
