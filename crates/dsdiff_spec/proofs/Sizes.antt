-- How large the plain file may be that a coded one is decoded to.
use Rattle.std.proofs.Common.{◌≡◌, ℕ, ◌+◌, ◌-◌, ◌*◌, ◌%◌, ◌^◌, ◌<◌, ◌≤◌, ◌==◌, Bool, true, false, if◌then◌else◌, List, [], ◌∷◌, ◌++◌, length, take, drop}
use Rattle.std.proofs.Common.{get_or, map, flat_map, filter, sym, ap, ◌∙◌, arith, length-append, length-drop, None, ltb-false}
use Rattle.std.specs.Prelude.{not, ◌&&◌, ◌||◌, min, codes}
use Rattle.std.specs.List.{concat, AllByRecursion}
use Rattle.std.proofs.lemmas.List.{length-take, drop-drop}
use Rattle.std.proofs.Math.Seq.{take-add}
use Rattle.byteorder.specs.Endian.{big_bytes}
use Rattle.byteorder.specs.Numbers.{length-bytes_high_first}
use Rattle.dsdiff_spec.specs.Faults.{◌when◌}
use Rattle.dsdiff_spec.specs.Bytes.{number_at, bytes_at, between, ◌is◌, ◌above◌}
use Rattle.dsdiff_spec.specs.Chunks.{Head, next_place, body_place, body_of}
use Rattle.dsdiff_spec.specs.Form.{Kind, plain, coded, Origin, Form, whole_chunk, size_of_sound}
use Rattle.dsdiff_spec.specs.Parts.{kind, form_size, form_end, all, prop_head, prop, in_prop, frame_count, channel_count, sound_bytes_in}
use Rattle.dsdiff_spec.specs.Origin.{origin_version, kept_length, origin_of, bad_version_1, bad_version_2, is_bad_origin}
use Rattle.dsdiff_spec.specs.Rules.{opening_fault, version_fault, prop_fault, prop_chunk_fault, kind_fault, form_fault, form_of_kind, accepted, origin_in}
use Rattle.dsdiff_spec.specs.Written.{part_of_prop, prop_with}
use Rattle.dsdiff_spec.specs.Decoded.{plain_cmpr}
use Rattle.dsdiff_spec.specs.Pieces.{decoded_size}
use Rattle.dsdiff_spec.specs.Words.{decode}
use Rattle.dsdiff_spec.specs.Refusal.{refusal}
use Rattle.dsdiff_spec.specs.declared.faults.FileFault.TheVariants.{FormTooLarge, PropTooLong}
use Rattle.dsdiff_spec.proofs.Lawful.{first_gives_none, later_gives_none, when_not, left_is_false, right_is_false}
use Rattle.dsdiff_spec.proofs.Finding.{found_at_most}
use Rattle.dsdiff_spec.proofs.CodedFiles.{is_decodable, no_rule_fails, kind_gives_none, bad_among, no_bad_origin, longest_sound}
use Rattle.dsdiff_spec.proofs.PassedOn.{passed, passed_chunk, goes_before, goes_behind}

-- ---- bytes between places of a list
pub length-between : (w : List ℕ) (place end : ℕ) → length (between w place end) ≤ end - place
length-between w place end = omega (arith, length-take (end - place) (drop place w))

pub length-bytes_at : (w : List ℕ) (place n : ℕ) → place + n ≤ length w → length (bytes_at w place n) ≡ n
length-bytes_at w place n le = omega (arith, le, length-take n (drop place w), length-drop place w)

-- from one place to a second, and from there to a third
pub between-joined : (w : List ℕ) (from mid to : ℕ) → from ≤ mid → mid ≤ to → between w from mid ++ between w mid to ≡ between w from to
between-joined w from mid to p q =
    let e : from + (mid - from) ≡ mid = omega arith in
    let n : mid - from + (to - mid) ≡ to - from = omega arith in
    ap (λ v. between w from mid ++ take (to - mid) v) (sym (drop-drop (mid - from) from w ∙ ap (λ n. drop n w) e))
    ∙ sym (take-add (mid - from) (to - mid) (drop from w))
    ∙ ap (λ k. take k (drop from w)) n

pub length-between_all : (w : List ℕ) (place end : ℕ) → length (between w place end) ≤ length w
length-between_all w place end = omega (arith, length-take (end - place) (drop place w), length-drop place w)

-- lists of at most so many bytes, joined
pub length-joined : (n : ℕ) (lists : List (List ℕ)) → AllByRecursion (λ w. length w ≤ n) lists → length (concat lists) ≤ length lists * n
length-joined n [] h = omega arith
length-joined n (w ∷ ws) h =
    let here = h.0 in
    let later = length-joined n ws h.1 in
    let whole = length-append w (concat ws) in
    omega arith

pub length-passed : (n : ℕ) (goes : Head → Bool) (bytes : Head → List ℕ) (heads : List Head) → ((h : Head) → length (bytes h) ≤ n) →
    length (passed goes bytes heads) ≤ length heads * n
length-passed n goes bytes [] each = omega arith
length-passed n goes bytes (h ∷ hs) each = go (goes h) (length-passed n goes bytes hs each)
  where
    go : (b : Bool) → length (passed goes bytes hs) ≤ length hs * n →
        length (concat (map bytes (if b then h ∷ filter goes hs else filter goes hs))) ≤ length (h ∷ hs) * n
    go true later =
        let here = each h in
        let whole = length-append (bytes h) (passed goes bytes hs) in
        omega arith
    go false later = omega arith

pub length-flat : {A : Type 0} (n : ℕ) (f : A → List ℕ) (xs : List A) → ((x : A) → length (f x) ≤ n) → length (flat_map f xs) ≤ length xs * n
length-flat n f [] each = omega arith
length-flat n f (x ∷ xs) each =
    let here = each x in
    let later = length-flat n f xs each in
    let whole = length-append (f x) (flat_map f xs) in
    omega arith

-- ---- the form, its `PROP`, and the `CMPR` that it keeps
form_ends : (file : List ℕ) → form_fault file ≡ None → form_end file ≤ 2 ^ 50 + 12
unfolding form_fault
form_ends file p =
    let opening = first_gives_none (opening_fault file) _ p in
    let size = when_not FormTooLarge (form_size file above 2 ^ 50)
    (first_gives_none (FormTooLarge when form_size file above 2 ^ 50) _ (later_gives_none _ _ opening)) in
    let most = ltb-false (2 ^ 50) (form_size file) size in
    omega arith

prop_is_short : (file : List ℕ) → form_fault file ≡ None → length (prop file) ≤ 65536
unfolding form_fault
prop_is_short file p =
    let rules = first_gives_none (prop_fault file) _ (later_gives_none (version_fault file) _ (later_gives_none (opening_fault file) _ p)) in
    let chunk = first_gives_none (prop_chunk_fault file) _ rules in
    let none : (PropTooLong when (prop_head file).size above 65536) ≡ None = later_gives_none _ _ (later_gives_none _ _ chunk) in
    let most = ltb-false 65536 (prop_head file).size (when_not PropTooLong ((prop_head file).size above 65536) none) in
    omega (arith, length-take (prop_head file).size (drop (body_place (prop_head file)) file))

either_is_short : (b : Bool) (x y : Origin) (n : ℕ) → length x.cmpr ≤ n → length y.cmpr ≤ n → length (if b then x else y).cmpr ≤ n
either_is_short true x y n p q = p
either_is_short false x y n p q = q

cmpr_in_body : (body : List ℕ) → length (origin_of body).cmpr ≤ length body
cmpr_in_body body =
    let end = length body - kept_length body in
    let one : length (drop 9 body) ≤ length body = omega (arith, length-drop 9 body) in
    either_is_short (origin_version body == 1)
    (record { sound = number_at body 1 8; pad = 0; cmpr = drop 9 body; kept = [] })
    (record { sound = number_at body 1 8; pad = get_or body 9 0; cmpr = between body 14 end; kept = drop end body })
    (length body) one (length-between_all body 14 end)

body_is_short : (one two : Bool) (body : List ℕ) → not (one || two) ≡ false → (one && bad_version_1 body) ≡ false → (two && bad_version_2 body) ≡ false →
    length body ≤ 131086
body_is_short true two body neither first second =
    let long = ltb-false 65545 (length body) (right_is_false _ _ first) in
    omega arith
body_is_short false true body neither first second =
    ltb-false 131086 (length body) (right_is_false _ _ (left_is_false _ _ (left_is_false _ _ (left_is_false _ _ second))))
body_is_short false false body neither first second = absurd cc

cmpr_is_short : (channels bytes frame_count : ℕ) (body : List ℕ) → is_bad_origin channels bytes frame_count body ≡ false → length (origin_of body).cmpr ≤ 131086
cmpr_is_short channels bytes frame_count body h =
    let three = left_is_false _ _ (left_is_false _ _ (left_is_false _ _ (left_is_false _ _ (left_is_false _ _ h)))) in
    let short = body_is_short (origin_version body == 1) (origin_version body == 2) body (left_is_false _ _ (left_is_false _ _ three))
    (right_is_false _ _ (left_is_false _ _ three)) (right_is_false _ _ three) in
    let inside = cmpr_in_body body in
    omega arith

cmpr_among : (file : List ℕ) (heads : List Head) → bad_among file heads ≡ false → length (plain_cmpr (origin_in file heads)) ≤ 131086
cmpr_among file [] h = omega arith
cmpr_among file (a ∷ []) h = cmpr_is_short (channel_count (prop file)) (sound_bytes_in (prop file)) (frame_count file) (body_of file a) h
cmpr_among file (a ∷ b ∷ hs) h = absurd cc

cmpr_of_kind : (k : Kind) (file : List ℕ) → k ≡ coded → kind_fault k file ≡ None → length (plain_cmpr (form_of_kind k file).origin) ≤ 131086
cmpr_of_kind plain file e h = absurd cc
cmpr_of_kind coded file e h = cmpr_among file (all "KEPT" file) (no_bad_origin file h)

-- ---- a chunk that is passed on, and all of them
length-prop_with : (w cmpr : List ℕ) → length w ≤ 65536 → length cmpr ≤ 131086 → length (prop_with w cmpr) ≤ 8590852113
length-prop_with w cmpr p c =
    let heads = (in_prop w).heads in
    let bytes : Head → List ℕ = λ h. if h.id is "CMPR" then cmpr else part_of_prop w h in
    let count : length heads ≤ 65536 = found_at_most (λ id. false) w (length w) 65536 4 in
    let all = length-flat 131086 bytes heads (λ h. either (h.id is "CMPR") h) in
    let body = codes "SND " ++ flat_map bytes heads in
    let pad : List ℕ = if length body % 2 == 1 then 0 ∷ [] else [] in
    omega (
      arith,
      length-append (codes "PROP" ++ big_bytes 8 (length body) ++ body) pad,
      length-append (codes "PROP" ++ big_bytes 8 (length body)) body,
      length-append (codes "PROP") (big_bytes 8 (length body)),
      length-bytes_high_first 8 (length body),
      length-append (codes "SND ") (flat_map bytes heads),
      pad_is_short (length body % 2 == 1),
    )
  where
    either : (b : Bool) (h : Head) → length (if b then cmpr else part_of_prop w h) ≤ 131086
    either true h = c
    either false h = omega (arith, length-between_all w h.place (next_place h))

    pad_is_short : (b : Bool) → length {A = ℕ} (if b then 0 ∷ [] else []) ≤ 1
    pad_is_short true = omega arith
    pad_is_short false = omega arith

passed_is_short : (file : List ℕ) (form : Form) → form.end ≤ 2 ^ 50 + 12 → length form.prop ≤ 65536 → length (plain_cmpr form.origin) ≤ 131086 → (h : Head) →
    length (passed_chunk file form h) ≤ 2 ^ 51
passed_is_short file form e p c h = either (h.id is "PROP")
  where
    either : (b : Bool) → length (if b then prop_with form.prop (plain_cmpr form.origin) else whole_chunk file form h) ≤ 2 ^ 51
    either true = omega (arith, length-prop_with form.prop (plain_cmpr form.origin) p c)
    either false = omega (arith, length-between file h.place (min (next_place h) form.end))

pub decoded_size_fits : (file : List ℕ) → refusal decode file ≡ None → decoded_size (size_of_sound (accepted file)) file (accepted file) < 2 ^ 63
decoded_size_fits file none =
    let form = accepted file in
    let rules = no_rule_fails file none in
    let d = is_decodable file none in
    let cmpr = cmpr_of_kind (kind file) file d.coded (kind_gives_none file rules.0) in
    let each = passed_is_short file form (form_ends file rules.0) (prop_is_short file rules.0) cmpr in
    let count : length form.chunks ≤ 1024 = found_at_most (λ id. not (id is "DSD ")) file (form_end file) 1024 16 in
    let before = length-passed (2 ^ 51) (goes_before form) (passed_chunk file form) form.chunks each in
    let behind = length-passed (2 ^ 51) (goes_behind form) (passed_chunk file form) form.chunks each in
    let sound = longest_sound file form d in
    sum (size_of_sound form) (length (passed (goes_before form) (passed_chunk file form) form.chunks))
    (length (passed (goes_behind form) (passed_chunk file form) form.chunks)) (length form.chunks) count before behind sound
  where
    sum : (n a b c : ℕ) → c ≤ 1024 → a ≤ c * 2 ^ 51 → b ≤ c * 2 ^ 51 → n ≤ 112896000000 → 4 + a + (12 + n + n % 2) + b < 2 ^ 63
    sum n a b c h p q r = omega arith
