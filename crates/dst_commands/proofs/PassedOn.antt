-- Chunks of a lawful form: where they lie, how long they are, and what is written of the first ones.
use Rattle.std.proofs.Common.{◌≡◌, ℕ, ◌+◌, ◌-◌, ◌*◌, ◌%◌, ◌<◌, ◌≤◌, Bool, true, false, if◌then◌else◌, List, [], ◌∷◌, ◌++◌, length, take}
use Rattle.std.proofs.Common.{drop, filter}
use Rattle.std.proofs.Common.{get_or, map, Option, Some, None, refl, ap, sym, subst, ◌∙◌, arith, length-append, length-drop, append-nil}
use Rattle.std.specs.Prelude.{min, bytes_eq, codes, OnOk, OnErr, MatchResult, Result, Ok, Err}
use Rattle.dst_streams.specs.Told.{and_then, IsCutShort}
use Rattle.dsdiff_spec.specs.Written.{prop_with}
use Rattle.dsdiff_chunks.specs.declared.copy.CopyFault.{CopyFault}
use Rattle.dsdiff_chunks.specs.declared.copy.CopyFault.TheVariants.{Read, Write}
use Rattle.dst_streams.proofs.Counts.{Rose-earlier}
use Rattle.dst_commands.specs.Writing.{Adds, Stops}
use Rattle.dst_commands.proofs.Writing.{adds_same, adds_then, copied, stops_in, stops_same, stops_then}
use Rattle.std.proofs.lemmas.List.{length-take, length-map, get_or-map, take_all, take_more}
use Rattle.std.proofs.lemmas.List.Elements.{filter-append}
use Rattle.std.proofs.Math.Nat.{mul-le-mul, mul-le-mul_right, div-add-mod}
use Rattle.byteorder.specs.Endian.{big_bytes}
use Rattle.dsdiff_spec.specs.Chunks.{Head, body_end, next_place}
use Rattle.dsdiff_spec.specs.Form.{Form, Origin, plain, coded, sound_bytes_of, frames_for, plain_size, size_of_sound, whole_chunk}
use Rattle.dsdiff_spec.specs.Origin.{is_one_chunk}
use Rattle.dsdiff_spec.specs.Decoded.{plain_cmpr}
use Rattle.dsdiff_spec.specs.Pieces.{decoded_size, opening}
use Rattle.dsdiff_spec.proofs.PassedOn.{passed, passed_more, passed_in_front}
use Rattle.dsdiff_spec.proofs.Progress.{BeginsWith}
use Rattle.dsdiff_chunks.specs.Lawful.{IsLawful, IsOriginIfAny}
use Rattle.dsdiff_chunks.specs.Forms.{coded_seen}
use Rattle.dsdiff_chunks.specs.Seen.{head_seen}
use Rattle.dsdiff_chunks.specs.declared.form.CodedForm.{CodedForm}
use Rattle.dsdiff_chunks.proofs.LawfulForms.{coded_parts}
use Rattle.dsdiff_chunks.specs.declared.lists.ChunkHead.{ChunkHead}
use Rattle.dst_commands.specs.declared.chunks.Side.{Side}
use Rattle.dst_commands.specs.declared.chunks.Side.TheVariants.{Before, Behind}
use Rattle.dst_commands.specs.declared.chunks.FormRef.{FormRef}
use Rattle.dst_commands.specs.declared.chunks.FormRef.TheVariants.{Plain, Coded}
use Rattle.dst_commands.specs.declared.chunks.Passed.{Passed}
use Rattle.dst_commands.specs.Passing.{form_of, bytes_of, all_of, cmpr_for, goes, passed_chunk, ref_seen, whole_end, FailedBy, IsCmpr, IsCmprIfAny}

-- ---- the chunk `CMPR` of the plain file, and the size of the sound
cmpr_if_any : (channels n count : ℕ) (origin : Option Origin) → IsOriginIfAny channels n count origin →
    (is_one_chunk "CMPR" (plain_cmpr origin) ≡ true) × (length (plain_cmpr origin) ≤ 65536)
cmpr_if_any channels n count None k = (refl, omega arith)
cmpr_if_any channels n count (Some origin) k = (k.cmpr, k.cmpr_most)

pub cmpr_is_chunk : (form : Form) → IsLawful form → form.kind ≡ coded →
    (is_one_chunk "CMPR" (plain_cmpr form.origin) ≡ true) × (length (plain_cmpr form.origin) ≤ 65536)
cmpr_is_chunk form lawful e = cmpr_if_any form.channels (sound_bytes_of form) form.frames form.origin (coded_parts form lawful e).origin

pub plain_cmpr_is_one : (form : Form) → IsLawful form → form.kind ≡ coded → (cmpr : List ℕ) → cmpr ≡ plain_cmpr form.origin → IsCmpr cmpr
plain_cmpr_is_one form lawful e cmpr is =
    let one = cmpr_is_chunk form lawful e in
    subst IsCmpr (sym is) (record { one = one.0; most = one.1 })

pub coded_size : (form : Form) → form.kind ≡ coded → size_of_sound form ≡ plain_size form.origin (form.frames * sound_bytes_of form)
coded_size form e = ap (λ k. elim k [ plain ↦ form.sound.size | coded ↦ plain_size form.origin (form.frames * sound_bytes_of form) ]) e

pub needed : (n size frames : ℕ) → 0 < n → frames_for n size ≡ frames → (size ≤ frames * n) × ((k : ℕ) → k < frames → k * n < size)
needed n size frames h e =
    let whole : n * frames + (size + n - 1) % n ≡ size + n - 1 = ap (λ m. n * m + (size + n - 1) % n) (sym e) ∙ div-add-mod (size + n - 1) n in
    (omega arith, λ k l. let more = mul-le-mul_right n l in omega arith)

needed_if_any : (channels n count : ℕ) (origin : Option Origin) → 0 < n → IsOriginIfAny channels n count origin →
    (plain_size origin (count * n) ≤ count * n) × ((k : ℕ) → k < count → k * n < plain_size origin (count * n))
needed_if_any channels n count None h k = (omega arith, λ k l. let more = mul-le-mul_right n l in omega arith)
needed_if_any channels n count (Some origin) h k = needed n origin.sound count h k.count

-- the sound needs all its frames: it ends in the last one
pub record IsNeeded (form : Form) : Type 0 where
  pub fits : size_of_sound form ≤ form.frames * sound_bytes_of form
  pub reached : (k : ℕ) → k < form.frames → k * sound_bytes_of form < size_of_sound form
  pub most : sound_bytes_of form ≤ 112896 → size_of_sound form ≤ 112896000000

pub sound_is_needed : (form : Form) → IsLawful form → form.kind ≡ coded → 0 < sound_bytes_of form → IsNeeded form
sound_is_needed form lawful e some =
    let n = needed_if_any form.channels (sound_bytes_of form) form.frames form.origin some (coded_parts form lawful e).origin in
    let size = coded_size form e in
    record {
      fits = omega (arith, n.0);
      reached = λ k l. let more = n.1 k l in omega arith;
      most = λ h.
          let product = mul-le-mul {n₁ = form.frames} {m₁ = sound_bytes_of form} {n₂ = 1000000} {m₂ = 112896} lawful.frames h in
          omega (arith, n.0);
    }

-- ---- what is written of a chunk
pub length-whole_chunk : (file : List ℕ) (form : Form) (h : Head) → form.end ≤ length file → body_end h ≤ form.end →
    length (whole_chunk file form h) ≡ whole_end form h - h.place
length-whole_chunk file form h fits inside = omega (arith, length-take (min (next_place h) form.end - h.place) (drop h.place file), length-drop h.place file)

-- ---- what is written of the first j chunks, on one side of the sound
abbrev pub passed_to : Side → List ℕ → Passed → ℕ → List ℕ
passed_to side file p j = passed (goes side (form_of p)) (bytes_of file p) (take j (form_of p).chunks)

pub all_passed : (side : Side) (file : List ℕ) (p : Passed) → passed (goes side (form_of p)) (bytes_of file p) (form_of p).chunks ≡ all_of side file p
all_passed Before file p = refl
all_passed Behind file p = refl

pub one_more : (side : Side) (file : List ℕ) (p : Passed) (xs : List ChunkHead) (j : ℕ) (d : ChunkHead) (b : Bool) → (form_of p).chunks ≡ map head_seen xs →
    j < length xs →
    goes side (form_of p) (head_seen (get_or xs j d)) ≡ b →
    passed_to side file p (j + 1) ≡ passed_to side file p j ++ (if b then bytes_of file p (head_seen (get_or xs j d)) else [])
one_more side file p xs j d b is l e =
    let form = form_of p in
    let long : length form.chunks ≡ length xs = ap length is ∙ length-map xs head_seen in
    let here : get_or form.chunks j (head_seen d) ≡ head_seen (get_or xs j d) = ap (λ hs. get_or hs j (head_seen d)) is
    ∙ get_or-map head_seen xs j d (head_seen d) l in
    passed_more (goes side form) (bytes_of file p) form.chunks j (head_seen d) (omega arith)
    ∙ ap (λ h. passed_to side file p j ++ (if goes side form h then bytes_of file p h else [])) here
    ∙ ap (λ b. passed_to side file p j ++ (if b then bytes_of file p (head_seen (get_or xs j d)) else [])) e

-- how many of the first j chunks pass
pub one_more_counted : (side : Side) (p : Passed) (xs : List ChunkHead) (j : ℕ) (d : ChunkHead) (b : Bool) → (form_of p).chunks ≡ map head_seen xs →
    j < length xs →
    goes side (form_of p) (head_seen (get_or xs j d)) ≡ b →
    length (filter (goes side (form_of p)) (take (j + 1) (form_of p).chunks))
    ≡ length (filter (goes side (form_of p)) (take j (form_of p).chunks)) + (if b then 1 else 0)
one_more_counted side p xs j d b is l e =
    let form = form_of p in
    let front = take j form.chunks in
    let next = get_or form.chunks j (head_seen d) in
    let long : length form.chunks ≡ length xs = ap length is ∙ length-map xs head_seen in
    let here : next ≡ head_seen (get_or xs j d) =
    ap (λ hs. get_or hs j (head_seen d)) is ∙ get_or-map head_seen xs j d (head_seen d) l in
    ap (λ hs. length (filter (goes side form) hs)) (take_more form.chunks j (head_seen d) (omega arith))
    ∙ ap length (filter-append (goes side form) front (next ∷ []))
    ∙ length-append (filter (goes side form) front) (filter (goes side form) (next ∷ []))
    ∙ ap (λ n. length (filter (goes side form) front) + n)
    (ap (λ h. length (filter (goes side form) (h ∷ []))) here
    ∙ alone (goes side form (head_seen (get_or xs j d))) b (head_seen (get_or xs j d)) e)
  where
    alone : (a b : Bool) (h : Head) → a ≡ b → length (if a then h ∷ [] else []) ≡ (if b then 1 else 0)
    alone true true h e = refl
    alone false false h e = refl
    alone true false h e = absurd cc
    alone false true h e = absurd cc

-- and of all
pub all_counted : (side : Side) (p : Passed) (xs : List ChunkHead) (n : ℕ) → (form_of p).chunks ≡ map head_seen xs → length xs ≤ n →
    length (filter (goes side (form_of p)) (take n (form_of p).chunks)) ≡ length (filter (goes side (form_of p)) (form_of p).chunks)
all_counted side p xs n is h =
    let long : length (form_of p).chunks ≡ length xs = ap length is ∙ length-map xs head_seen in
    ap (λ hs. length (filter (goes side (form_of p)) hs)) (take_all n (form_of p).chunks (omega arith))

one_more_passed : (side : Side) (file : List ℕ) (p : Passed) (xs : List ChunkHead) (j : ℕ) (d : ChunkHead) → (form_of p).chunks ≡ map head_seen xs →
    j < length xs →
    goes side (form_of p) (head_seen (get_or xs j d)) ≡ true →
    passed_to side file p j ++ bytes_of file p (head_seen (get_or xs j d)) ≡ passed_to side file p (j + 1)
one_more_passed side file p xs j d is l e = sym (one_more side file p xs j d true is l e)

pub one_more_left : (side : Side) (file : List ℕ) (p : Passed) (xs : List ChunkHead) (j : ℕ) (d : ChunkHead) → (form_of p).chunks ≡ map head_seen xs →
    j < length xs →
    goes side (form_of p) (head_seen (get_or xs j d)) ≡ false → passed_to side file p j ≡ passed_to side file p (j + 1)
one_more_left side file p xs j d is l e = sym (one_more side file p xs j d false is l e ∙ append-nil (passed_to side file p j))

-- and of all
pub passed_all : (side : Side) (file : List ℕ) (p : Passed) (n : ℕ) → length (form_of p).chunks ≤ n → passed_to side file p n ≡ all_of side file p
passed_all side file p n h = ap (passed (goes side (form_of p)) (bytes_of file p)) (take_all n (form_of p).chunks h) ∙ all_passed side file p

pub passed_all_of : (side : Side) (file : List ℕ) (p : Passed) (xs : List ChunkHead) (n : ℕ) → (form_of p).chunks ≡ map head_seen xs → length xs ≤ n →
    passed_to side file p n ≡ all_of side file p
passed_all_of side file p xs n is h =
    let long : length (form_of p).chunks ≡ length xs = ap length is ∙ length-map xs head_seen in
    passed_all side file p n (omega arith)

begins_with_some : (side : Side) (file : List ℕ) (p : Passed) (n : ℕ) → BeginsWith (all_of side file p) (passed_to side file p n)
begins_with_some side file p n = record {
  rest = passed (goes side (form_of p)) (bytes_of file p) (drop n (form_of p).chunks);
  is = sym (all_passed side file p) ∙ passed_in_front (goes side (form_of p)) (bytes_of file p) (form_of p).chunks n;
}

-- ---- a chunk that goes, behind what is written of those in front of it
module _ (side : Side) (file : List ℕ) (p : Passed) (xs : List ChunkHead) (j : ℕ) (d : ChunkHead) (is : (form_of p).chunks ≡ map head_seen xs)
    (l : j < length xs) (gone : goes side (form_of p) (head_seen (get_or xs j d)) ≡ true) where
  pub length_more : length (passed_to side file p (j + 1)) ≡ length (passed_to side file p j) + length (bytes_of file p (head_seen (get_or xs j d)))
  length_more =
      ap length (sym (one_more_passed side file p xs j d is l gone))
      ∙ length-append (passed_to side file p j) (bytes_of file p (head_seen (get_or xs j d)))

  pub adds_more : (old mid new : Option (List ℕ)) (room half left : Option ℕ) → Adds (passed_to side file p j) old mid room half →
      Adds (bytes_of file p (head_seen (get_or xs j d))) mid new half left → Adds (passed_to side file p (j + 1)) old new room left
  adds_more old mid new room half left before chunk =
      adds_same _ _ old new room left (one_more_passed side file p xs j d is l gone)
      (adds_then (passed_to side file p j) (bytes_of file p (head_seen (get_or xs j d))) old mid new room half left before chunk)

  pub stops_in_chunk : (P : Type 0) (old mid new : Option (List ℕ)) (room half : Option ℕ) → Adds (passed_to side file p j) old mid room half →
      Stops P (bytes_of file p (head_seen (get_or xs j d))) mid new half → Stops P (all_of side file p) old new room
  stops_in_chunk P old mid new room half before stops =
      stops_in P (all_of side file p) (passed_to side file p (j + 1)) old new room (begins_with_some side file p (j + 1))
      (stops_same P _ _ old new room (one_more_passed side file p xs j d is l gone)
      (stops_then P (passed_to side file p j) (bytes_of file p (head_seen (get_or xs j d))) old mid new room half before stops))

-- ---- the form that is lent is lawful
pub lent_is_lawful : (f : FormRef) → IsLawful (ref_seen f)
lent_is_lawful (Plain f) = f.now.lawful
lent_is_lawful (Coded f) = f.now.lawful

pub few_heads : (p : Passed) (xs : List ChunkHead) → map head_seen xs ≡ (form_of p).chunks → length xs ≤ 1024
few_heads p xs is =
    let long : length xs ≡ length (form_of p).chunks = sym (length-map xs head_seen) ∙ ap length is in
    omega (arith, (lent_is_lawful p.form).few)

-- ---- one chunk that is written
pub passed_prop : (file : List ℕ) (form : Form) (h : Head) (o : Option (List ℕ)) (prop cmpr : List ℕ) → Some cmpr ≡ cmpr_for o h → prop ≡ form.prop →
    prop_with prop cmpr ≡ passed_chunk o file form h
passed_prop file form h o prop cmpr e p = ap (λ w. prop_with w cmpr) p ∙ go o (bytes_eq h.id (codes "PROP")) refl e
  where
    go : (o : Option (List ℕ)) (b : Bool) → (bytes_eq h.id (codes "PROP")) ≡ b → Some cmpr ≡ (if b then o else None) →
        prop_with form.prop cmpr ≡ passed_chunk o file form h
    go o false is e = absurd cc
    go None true is e = absurd cc
    go (Some other) true is e =
        let same : cmpr ≡ other = cc in
        ap (prop_with form.prop) same ∙ sym (ap (λ b. if b then prop_with form.prop other else whole_chunk file form h) is)

pub passed_whole : (file : List ℕ) (form : Form) (h : Head) (o : Option (List ℕ)) → None ≡ cmpr_for o h → whole_chunk file form h ≡ passed_chunk o file form h
passed_whole file form h o e = go o (bytes_eq h.id (codes "PROP")) refl e
  where
    go : (o : Option (List ℕ)) (b : Bool) → (bytes_eq h.id (codes "PROP")) ≡ b → None ≡ (if b then o else None) →
        whole_chunk file form h ≡ passed_chunk o file form h
    go None b is e = refl
    go (Some other) true is e = absurd cc
    go (Some other) false is e = sym (ap (λ b. if b then prop_with form.prop other else whole_chunk file form h) is)

pub cmpr_is_one : (o : Option (List ℕ)) (h : Head) (cmpr : List ℕ) → Some cmpr ≡ cmpr_for o h → IsCmprIfAny o → IsCmpr cmpr
cmpr_is_one o h cmpr e is = go o (bytes_eq h.id (codes "PROP")) e is
  where
    go : (o : Option (List ℕ)) (b : Bool) → Some cmpr ≡ (if b then o else None) → IsCmprIfAny o → IsCmpr cmpr
    go o false e is = absurd cc
    go None true e is = absurd cc
    go (Some other) true e is = let same : other ≡ cmpr = cc in subst IsCmpr same is

pub length-passed : (file : List ℕ) (form : Form) (h : Head) (o : Option (List ℕ)) (to : ℕ) → to ≡ whole_end form h → form.end ≤ length file →
    body_end h ≤ form.end →
    None ≡ cmpr_for o h → to - h.place ≡ length (passed_chunk o file form h)
length-passed file form h o to is fits inside e =
    ap (λ to. to - h.place) is ∙ sym (length-whole_chunk file form h fits inside) ∙ ap length (passed_whole file form h o e)

pub of_ok : {T E : Type 0} (result : Result T E) (P Q : Type 0) → (P → Q) → OnOk result P → OnOk result Q
of_ok (Ok t) P Q f p = f p
of_ok (Err e) P Q f p = p

pub copied_chunk : {T : Type 0} (result : Result T CopyFault) (bytes : Option (List ℕ)) (file : List ℕ) (form : Form) (h : Head) (cmpr : Option (List ℕ))
    (to : ℕ) (old new : Option (List ℕ)) (room left : Option ℕ) →
    to ≡ whole_end form h → bytes ≡ Some file → form.end ≤ length file → body_end h ≤ form.end → None ≡ cmpr_for cmpr h →
    OnOk result ((xs : List ℕ) → bytes ≡ Some xs → new ≡ and_then old (take (to - h.place) (drop h.place xs))) →
    OnErr result ((xs : List ℕ) → bytes ≡ Some xs → IsCutShort old (take (to - h.place) (drop h.place xs)) new) →
    ((m : ℕ) → room ≡ Some m → to - h.place ≤ m → OnOk result (left ≡ Some (m - (to - h.place)))) →
    ((m : ℕ) → room ≡ Some m → to - h.place ≤ m → result ≡ Err CopyFault.Write → ⊥) →
    MatchResult result (λ _. Adds (passed_chunk cmpr file form h) old new room left)
    (λ fault. Stops (fault ≡ CopyFault.Write) (passed_chunk cmpr file form h) old new room)
copied_chunk result bytes file form h cmpr to old new room left is told fits inside other ok err sure taken =
    let part : List ℕ → List ℕ = λ xs. take (to - h.place) (drop h.place xs) in
    let whole : part file ≡ whole_chunk file form h = ap (λ e. take (e - h.place) (drop h.place file)) is in
    let long : length (part file) ≡ to - h.place = ap length whole ∙ length-whole_chunk file form h fits inside ∙ ap (λ e. e - h.place) (sym is) in
    subst (λ w. MatchResult result (λ _. Adds w old new room left) (λ fault. Stops (fault ≡ CopyFault.Write) w old new room))
    (whole ∙ passed_whole file form h cmpr other)
    (copied result bytes file part (to - h.place) old new room left told long ok err sure taken)

-- a device that failed since later on failed since before
pub failed_since : (fault : CopyFault) (source_first source_before source_now sink_first sink_before sink_now : ℕ) → source_first ≤ source_before →
    sink_first ≤ sink_before →
    FailedBy fault source_before source_now sink_before sink_now → FailedBy fault source_first source_now sink_first sink_now
failed_since Read a b c d e f le le' h = Rose-earlier a b c le h
failed_since Write a b c d e f le le' h = Rose-earlier d e f le' h

-- the head of a form of this size, of a file whose length is known
pub opening_by : {size n : ℕ} (sound : ℕ) (file : List ℕ) (form : CodedForm) → n ≡ length file → form.end ≤ n →
    ((file : List ℕ) → form.end ≤ length file → size ≡ decoded_size sound file (coded_seen form)) →
    codes "FRM8" ++ big_bytes 8 size ++ codes "DSD " ≡ opening sound file (coded_seen form)
opening_by sound file form known within size_is =
    let fits : form.end ≤ length file = omega arith in
    ap (λ n. codes "FRM8" ++ big_bytes 8 n ++ codes "DSD ") (size_is file fits)
