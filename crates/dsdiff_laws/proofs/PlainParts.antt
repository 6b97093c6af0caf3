-- The chunks of a plain file that encoding accepts: `FVER`, others, `PROP`, others, `DSD `, others.
use Rattle.std.proofs.Common.{◌≡◌, ℕ, ◌+◌, ◌%◌, ◌^◌, ◌≤◌, ◌==◌, Bool, true, false, if◌then◌else◌, List, [], ◌∷◌, ◌++◌}
use Rattle.std.proofs.Common.{length, take, filter, Option, Some, None, refl, sym, ap, ap₂, subst, ◌∙◌, arith, ltb-false}
use Rattle.std.proofs.Common.{eqb-true}
use Rattle.std.specs.Prelude.{codes, not, ◌||◌}
use Rattle.std.specs.List.{AllZip}
use Rattle.std.proofs.lemmas.Slice.Eq.{bytes_eq-Decides}
use Rattle.dst_spec.specs.Bits.{AreBytes}
use Rattle.dsdiff_spec.specs.Bytes.{◌is◌, ◌above◌}
use Rattle.dsdiff_spec.specs.Faults.{◌when◌, ◌otherwise◌}
use Rattle.dsdiff_spec.specs.Chunks.{Chunk, bytes_of_chunk, Head, the_first}
use Rattle.dsdiff_spec.specs.Form.{Kind, plain, coded, is_coded, frames_for}
use Rattle.dsdiff_spec.specs.Parts.{form_size, form_end, top_level, prop_head, prop, sound_head, kind, channel_count}
use Rattle.dsdiff_spec.specs.Parts.{sound_bytes_in, frames_needed, behind_form}
use Rattle.dsdiff_spec.specs.Rules.{opening_fault, version_fault, prop_fault, sound_fault, coded_chunks}
use Rattle.dsdiff_spec.specs.Rules.{room_fault, kind_fault, form_fault}
use Rattle.dsdiff_spec.specs.Words.{encode}
use Rattle.dsdiff_spec.specs.Refusal.{refusal}
use Rattle.dsdiff_spec.specs.declared.faults.FileFault.{FileFault}
use Rattle.dsdiff_spec.specs.declared.faults.FileFault.TheVariants.{PropTooLong}
use Rattle.dsdiff_spec.specs.declared.faults.FileFault.TheVariants.{SoundUneven, TooManyFrames, CodedChunk, TooManyChunks, FormTooLarge}
use Rattle.dsdiff_spec.specs.declared.faults.FileFault.TheVariants.{TailTooLong, NotPlain}
use Rattle.dsdiff_spec.proofs.Lawful.{first_gives_none, later_gives_none, when_not}
use Rattle.dsdiff_spec.proofs.CodedFiles.{form_by, refused_by}
use Rattle.dsdiff_spec.proofs.Tiling.{heads_from}
use Rattle.dsdiff_laws.proofs.Standing.{Holds, chosen_hold}
use Rattle.dsdiff_laws.proofs.Filed.{file_holds, not_false}
use Rattle.dsdiff_laws.proofs.Order.{none_chosen}
use Rattle.dsdiff_laws.proofs.Places.{Lacks, lacks_parts}
use Rattle.dsdiff_laws.proofs.FormParts.{FormParts, form_parts}

-- ---- the rules that the file keeps
pub plain_rules : (level : ℕ) (file : List ℕ) → refusal (encode level) file ≡ None → (form_fault file ≡ None) × (kind file ≡ plain)
unfolding refusal
plain_rules level file h = go (form_fault file) refl h
  where
    is_plain_kind : (k : Kind) → is_coded k ≡ false → k ≡ plain
    is_plain_kind plain e = refl
    is_plain_kind coded e = absurd cc

    go : (o : Option FileFault) → form_fault file ≡ o → refused_by (form_by o file) (encode level) file ≡ None → (form_fault file ≡ None) × (kind file ≡ plain)
    go (Some fault) e k = absurd cc
    go None e k = (e, is_plain_kind (kind file) (when_not NotPlain (is_coded (kind file)) k))

-- ---- ids
abbrev pub added_id : List ℕ → Bool
added_id id = id is "DSTI" || id is "KEPT"

pub record PlainParts (file : List ℕ) : Type 0 where
  pub parts : FormParts file
  pub is_dsd : parts.sound.id ≡ codes "DSD "
  pub added_front : Lacks added_id (parts.version ∷ parts.front)
  pub added_middle : Lacks added_id parts.middle
  pub added_last : Lacks added_id parts.last
  pub type : take 4 parts.lawful.cmpr.body ≡ codes "DSD "
  pub few : length ((parts.version ∷ parts.front ++ parts.prop ∷ parts.middle) ++ parts.sound ∷ parts.last) ≤ 1022
  pub prop_most : length parts.prop.body ≤ 65520
  pub size_most : form_size file ≤ 2 ^ 49
  pub even : length parts.sound.body % channel_count parts.prop.body ≡ 0
  pub frames : frames_for (sound_bytes_in parts.prop.body) (length parts.sound.body) ≤ 1000000
  pub behind_most : length (behind_form file) ≤ 65536

-- ---- its rules, one by one
record Rules (file : List ℕ) : Type 0 where
  even : (sound_head file).size % channel_count (prop file) ≡ 0
  frames : frames_needed file ≤ 1000000
  added : length (coded_chunks file) ≡ 0
  few : length (top_level file).heads ≤ 1022
  prop_most : (prop_head file).size ≤ 65520
  size_most : form_size file ≤ 2 ^ 49
  behind_most : length (behind_form file) ≤ 65536

rules_of : (file : List ℕ) → form_fault file ≡ None → kind file ≡ plain → Rules file
unfolding form_fault
rules_of file none is_plain =
    let r4 = kind_fault (kind file) file in
    let r3 = sound_fault file otherwise r4 in
    let r2 = prop_fault file otherwise r3 in
    let r1 = version_fault file otherwise r2 in
    let n1 = later_gives_none (opening_fault file) r1 none in
    let n2 = later_gives_none (version_fault file) r2 n1 in
    let n3 = later_gives_none (prop_fault file) r3 n2 in
    let n4 : kind_fault plain file ≡ None = subst (λ k. kind_fault k file ≡ None) is_plain (later_gives_none (sound_fault file) r4 n3) in
    let room = room_fault (length (top_level file).heads) (prop_head file).size (form_size file) in
    let long = TailTooLong (length (behind_form file)) when length (behind_form file) above 65536 in
    let p3 = room otherwise long in
    let p2 = CodedChunk (the_first (coded_chunks file)).place when not (length (coded_chunks file) == 0) otherwise p3 in
    let p1 = TooManyFrames when frames_needed file above 1000000 otherwise p2 in
    let q1 = later_gives_none (SoundUneven when not ((sound_head file).size % channel_count (prop file) == 0)) p1 n4 in
    let q2 = later_gives_none (TooManyFrames when frames_needed file above 1000000) p2 q1 in
    let q3 = later_gives_none (CodedChunk (the_first (coded_chunks file)).place when not (length (coded_chunks file) == 0)) p3 q2 in
    let rooms = first_gives_none room long q3 in
    let t2 = FormTooLarge when form_size file above 2 ^ 49 in
    let t1 = PropTooLong when (prop_head file).size above 65520 otherwise t2 in
    let u1 = later_gives_none (TooManyChunks when length (top_level file).heads above 1022) t1 rooms in
    record {
      even = eqb-true _ 0 (not_false _ (when_not SoundUneven _ (first_gives_none _ p1 n4)));
      frames = ltb-false 1000000 (frames_needed file) (when_not TooManyFrames _ (first_gives_none _ p2 q1));
      added = eqb-true _ 0 (not_false _ (when_not (CodedChunk (the_first (coded_chunks file)).place) _ (first_gives_none _ p3 q2)));
      few = ltb-false 1022 _ (when_not TooManyChunks _ (first_gives_none _ t1 rooms));
      prop_most = ltb-false 65520 _ (when_not PropTooLong _ (first_gives_none _ t2 u1));
      size_most = ltb-false (2 ^ 49) _ (when_not FormTooLarge _ (later_gives_none (PropTooLong when (prop_head file).size above 65520) t2 u1));
      behind_most = ltb-false 65536 _ (when_not (TailTooLong (length (behind_form file))) _ (later_gives_none room long q3));
    }

-- ---- the parts
plain_is_id : (b : Bool) → (if b then plain else coded) ≡ plain → b ≡ true
plain_is_id true e = refl
plain_is_id false e = absurd cc

zip_none : (P : Head → Chunk → Type 0) (hs : List Head) (cs : List Chunk) → AllZip P hs cs → length hs ≡ 0 → cs ≡ []
zip_none P [] [] zip e = refl
zip_none P [] (c ∷ cs) zip e = absurd zip
zip_none P (h ∷ hs) cs zip e = absurd (omega (arith, e))

length-heads : (n : ℕ) (cs : List Chunk) → length (heads_from n cs) ≡ length cs
length-heads n [] = refl
length-heads n (c ∷ cs) = omega (arith, length-heads (n + length (bytes_of_chunk c)) cs)

pub plain_parts : (level : ℕ) (file : List ℕ) → AreBytes file → refusal (encode level) file ≡ None → PlainParts file
plain_parts level file bytes accepts =
    let rules = plain_rules level file accepts in
    let r = rules_of file rules.0 rules.1 in
    let f = form_parts file bytes rules.0 in
    let pre = f.version ∷ f.front ++ f.prop ∷ f.middle in
    let cs = pre ++ f.sound ∷ f.last in
    let hold = subst (λ hs. AllZip (Holds file (form_end file)) hs cs) (sym f.heads) (file_holds file cs (behind_form file) f.formed) in
    let none = zip_none (Holds file (form_end file)) (coded_chunks file) (filter (λ c. added_id c.id) cs)
    (chosen_hold file (form_end file) (λ h. added_id h.id) (λ c. added_id c.id) (λ h c k. ap added_id k.id) (top_level file).heads cs hold) r.added in
    let outer = lacks_parts added_id pre (f.sound ∷ f.last) (none_chosen (λ c. added_id c.id) cs none) in
    let inner = lacks_parts added_id (f.version ∷ f.front) (f.prop ∷ f.middle) outer.0 in
    let is_dsd : f.sound.id ≡ codes "DSD " =
    f.is_sound ∙ (bytes_eq-Decides (sound_head file).id (codes "DSD ")).0 (plain_is_id ((sound_head file).id is "DSD ") rules.1) in
    let sound_size : (sound_head file).size ≡ length f.sound.body = ap (λ (h : Head). h.size) f.sound_head_is in
    record {
      parts = f;
      is_dsd = is_dsd;
      added_front = inner.0;
      added_middle = inner.1.1;
      added_last = outer.1.1;
      type = f.type ∙ is_dsd;
      few = omega (arith, ap length f.heads, length-heads 16 cs, r.few);
      prop_most = omega (arith, f.prop_head_size, r.prop_most);
      size_most = r.size_most;
      even = ap₂ (λ (n m : ℕ). n % m) (sym sound_size) (ap channel_count (sym f.prop_is)) ∙ r.even;
      frames = subst (λ n. n ≤ 1000000) (ap₂ frames_for (ap sound_bytes_in f.prop_is) sound_size) r.frames;
      behind_most = r.behind_most;
    }
