-- What encoding writes keeps all rules of a coded form.
use Rattle.std.proofs.Common.{◌≡◌, inr, ℕ, ◌%◌, ◌/◌, ◌≤◌, ◌==◌, Bool, true, false, List, [], ◌∷◌, ◌++◌}
use Rattle.std.proofs.Common.{length, flat_map, None, refl, sym, ap, ap₂, subst, ◌∙◌, arith, append_assoc}
use Rattle.std.specs.Prelude.{codes}
use Rattle.std.specs.List.{AllByRecursion}
use Rattle.std.proofs.lemmas.Bool.{ne_eqb}
use Rattle.dst_spec.specs.Sample.{sound_bytes}
use Rattle.dst_spec.proofs.Lists.{all_append}
use Rattle.dsdiff_spec.specs.Bytes.{◌is◌}
use Rattle.dsdiff_spec.specs.Chunks.{Chunk, IsChunk, Head, body_of, named}
use Rattle.dsdiff_spec.specs.Form.{coded, Form, shape_of, frames_for}
use Rattle.dsdiff_spec.specs.Parts.{top_level, all, prop, sound_head, kind, channel_count, multiple}
use Rattle.dsdiff_spec.specs.Parts.{sound_bytes_in, frame_count}
use Rattle.dsdiff_spec.specs.Rules.{has_bad_origin}
use Rattle.dsdiff_spec.specs.Rules.{form_fault}
use Rattle.dsdiff_spec.specs.Written.{dstf}
use Rattle.dsdiff_spec.proofs.Tiling.{heads_from}
use Rattle.dsdiff_laws.proofs.Filed.{IsFile, may_lack}
use Rattle.dsdiff_laws.proofs.Props.{IsProp, HasFields, AreRead, fields_are_read, locals, replaced, replaced_is_prop}
use Rattle.dsdiff_laws.proofs.Props.{replaced_has_fields, around_cmpr}
use Rattle.dsdiff_laws.proofs.Places.{either_lacks, Lacks, one_named, head_behind, stands_behind}
use Rattle.dsdiff_laws.proofs.PlainParts.{PlainParts}
use Rattle.dsdiff_laws.proofs.CodedChunks.{coded_cmpr, coded_prop, dst_chunk, dsti_chunk, coded_pre, plain_pre, entries_of, origin_of_parts}
use Rattle.dsdiff_laws.proofs.CodedChunks.{coded_chunks}
use Rattle.dsdiff_laws.proofs.CodedFile.{is_whole, whole_before, split_whole, AreFrames, prop_size, cmpr_size}
use Rattle.dsdiff_laws.proofs.Composed.{first_ends}
use Rattle.dsdiff_spec.specs.Origin.{is_bad_origin}
use Rattle.dsdiff_laws.proofs.CodedForm.{IsCodedForm, frte_stands, chunks_are, prop_read, sound_read, kind_read, count_read, all_rules}
use Rattle.dsdiff_laws.proofs.OriginRead.{IsPlainCmpr, IsOrigin, origin_is_lawful}

-- ---- the form
pub record AreExact (file : List ℕ) (p : PlainParts file) (frames : List (List ℕ)) : Type 0 where
  pub exact : length frames ≡ frames_for (sound_bytes_in p.parts.prop.body) (length p.parts.sound.body)

module _ (file : List ℕ) (p : PlainParts file) (form : Form) (frames : List (List ℕ)) (f : AreFrames file p form frames) (n : AreExact file p frames)
    (g : List ℕ) (made : IsFile g (coded_chunks p form frames) [])
  where
    -- its fields
    cmpr_whole : IsChunk coded_cmpr
    cmpr_whole = is_whole "CMPR" coded_cmpr.body 0 refl (omega arith)

    pub new_prop : IsProp (coded_prop p).body (replaced coded_cmpr (locals p.parts.prop.body))
    new_prop = replaced_is_prop coded_cmpr p.parts.prop.body (locals p.parts.prop.body) cmpr_whole p.parts.lawful.made

    pub new_fields : HasFields (replaced coded_cmpr (locals p.parts.prop.body)) p.parts.lawful.fs p.parts.lawful.chnl coded_cmpr
    new_fields =
        let l = p.parts.lawful in
        replaced_has_fields coded_cmpr (locals p.parts.prop.body) l.fs l.chnl l.cmpr l.has refl (omega arith) (inr refl)

    abbrev as_form : IsCodedForm g
    as_form = record {
      version = p.parts.version;
      front = p.parts.front;
      prop = coded_prop p;
      middle = p.parts.middle;
      sound = dst_chunk frames;
      last = dsti_chunk (entries_of p frames) ∷ origin_of_parts p form ∷ p.parts.last;
      made = made;
      version_id = p.parts.version_id;
      version_size = p.parts.version_size;
      version_byte = p.parts.version_byte;
      is_prop = refl;
      is_sound = refl;
      apart_front = p.parts.apart_front;
      apart_middle = p.parts.apart_middle;
      apart_last = record { props = (refl, (refl, p.parts.apart_last.props)); sounds = (refl, (refl, p.parts.apart_last.sounds)) };
      locals = replaced coded_cmpr (locals p.parts.prop.body);
      fs = p.parts.lawful.fs;
      chnl = p.parts.lawful.chnl;
      cmpr = coded_cmpr;
      lawful = new_prop;
      has = new_fields;
      type = refl;
      prop_most = omega (arith, prop_size p, p.prop_most);
      count = length frames;
      frte = frte_stands (length frames) (flat_map dstf frames) (omega (arith, f.count));
      few = f.count;
    }

    heads_are : (top_level g).heads ≡ heads_from 16 (coded_chunks p form frames)
    heads_are = chunks_are g as_form

    pub prop_is : prop g ≡ (coded_prop p).body
    prop_is = prop_read g as_form

    new_read : AreRead (coded_prop p).body p.parts.lawful.fs p.parts.lawful.chnl coded_cmpr
    new_read =
        fields_are_read (coded_prop p).body (replaced coded_cmpr (locals p.parts.prop.body)) p.parts.lawful.fs p.parts.lawful.chnl coded_cmpr
        new_prop new_fields

    old_read : AreRead p.parts.prop.body p.parts.lawful.fs p.parts.lawful.chnl p.parts.lawful.cmpr
    old_read =
        let l = p.parts.lawful in
        fields_are_read p.parts.prop.body (locals p.parts.prop.body) l.fs l.chnl l.cmpr l.made l.has

    pub same_count : channel_count (prop g) ≡ channel_count p.parts.prop.body
    same_count = ap channel_count prop_is ∙ new_read.count ∙ sym old_read.count

    pub same_multiple : multiple (prop g) ≡ multiple p.parts.prop.body
    same_multiple = ap multiple prop_is ∙ ap (λ (r : ℕ). r / 2822400) (new_read.rate ∙ sym old_read.rate)

    pub same_sound_bytes : sound_bytes_in (prop g) ≡ sound_bytes_in p.parts.prop.body
    same_sound_bytes = ap₂ (λ (c m : ℕ). sound_bytes (shape_of c m)) same_count same_multiple

    -- the sound chunk
    pub sound_head_is : sound_head g ≡ head_behind (coded_pre p) (dst_chunk frames)
    sound_head_is = sound_read g as_form

    pub kind_is : kind g ≡ coded
    kind_is = kind_read g as_form

    pub count_is : frame_count g ≡ length frames
    count_is = count_read g as_form

    -- what the plain file was
    cmpr_is : IsPlainCmpr p.parts.lawful.cmpr
    cmpr_is =
        let a = around_cmpr (locals p.parts.prop.body) p.parts.lawful.cmpr p.parts.lawful.has.one_cmpr in
        let whole = split_whole a.before (p.parts.lawful.cmpr ∷ a.behind) (subst (AllByRecursion IsChunk) a.parts p.parts.lawful.made.whole) in
        record { whole = whole.1.0; name = a.name; least = p.parts.lawful.has.cmpr_least; type = p.type }

    pad_is : length p.parts.sound.body % 2 ≡ 0 → form.pad ≡ 0
    pad_is e =
        let size : (sound_head file).size ≡ length p.parts.sound.body = ap (λ (h : Head). h.size) p.parts.sound_head_is in
        let even : ((sound_head file).size % 2 == 1) ≡ false =
        ne_eqb ((sound_head file).size % 2) 1 (λ o. absurd (omega (arith, o, e, ap (λ (k : ℕ). k % 2) size))) in
        ap (λ (i : Form). i.pad) f.is_form ∙ rw even refl

    pub origin_holds : IsOrigin (channel_count (prop g)) (sound_bytes_in (prop g)) (frame_count g) (length p.parts.sound.body)
        form.pad p.parts.lawful.cmpr form.behind
    origin_holds = record {
      cmpr = cmpr_is;
      cmpr_most = omega (arith, cmpr_size p, p.prop_most);
      kept_most = subst (λ w. length w ≤ 65536) (sym (ap (λ (i : Form). i.behind) f.is_form)) p.behind_most;
      sound_fits = (first_ends may_lack p.parts.sound p.parts.last (whole_before may_lack (plain_pre p) p.parts.last p.parts.sound p.parts.formed.are).1).size;
      pad_even = pad_is;
      even = ap (λ (k : ℕ). length p.parts.sound.body % k) same_count ∙ p.even;
      frames = ap (λ (k : ℕ). frames_for k (length p.parts.sound.body)) same_sound_bytes ∙ sym n.exact ∙ sym count_is;
    }

    -- ids that they lack
    pre_lacks : (q : List ℕ → Bool) → Lacks q (p.parts.version ∷ p.parts.front) → q (codes "PROP") ≡ false → Lacks q p.parts.middle → Lacks q (coded_pre p)
    pre_lacks q a b c = all_append (λ (d : Chunk). q d.id ≡ false) (p.parts.version ∷ p.parts.front) (coded_prop p ∷ p.parts.middle) a (b, c)

    origin_head : Head
    origin_head = head_behind (coded_pre p ++ dst_chunk frames ∷ dsti_chunk (entries_of p frames) ∷ []) (origin_of_parts p form)

    kept_id : List ℕ → Bool
    kept_id id = id is "KEPT"

    origin_parts : coded_chunks p form frames
        ≡ (coded_pre p ++ dst_chunk frames ∷ dsti_chunk (entries_of p frames) ∷ []) ++ origin_of_parts p form ∷ p.parts.last
    origin_parts = sym (append_assoc (coded_pre p) (dst_chunk frames ∷ dsti_chunk (entries_of p frames) ∷ []) (origin_of_parts p form ∷ p.parts.last))

    pub origin_only : all "KEPT" g ≡ head_behind (coded_pre p ++ dst_chunk frames ∷ dsti_chunk (entries_of p frames) ∷ []) (origin_of_parts p form) ∷ []
    origin_only =
        let a = either_lacks (λ id. id is "DSTI") (λ id. id is "KEPT") in
        let lacks = pre_lacks (λ id. id is "KEPT") (a (p.parts.version ∷ p.parts.front) p.added_front).1 refl (a p.parts.middle p.added_middle).1 in
        let more : Lacks (λ id. id is "KEPT") (coded_pre p ++ dst_chunk frames ∷ dsti_chunk (entries_of p frames) ∷ []) =
        all_append (λ (d : Chunk). (d.id is "KEPT") ≡ false) (coded_pre p) (dst_chunk frames ∷ dsti_chunk (entries_of p frames) ∷ []) lacks (
          refl,
          (refl, tt),
        ) in
        ap (named "KEPT") (heads_are ∙ ap (heads_from 16) origin_parts)
        ∙ one_named (λ id. id is "KEPT") (coded_pre p ++ dst_chunk frames ∷ dsti_chunk (entries_of p frames) ∷ []) p.parts.last
        (origin_of_parts p form) more refl
        (a p.parts.last p.added_last).1

    pub origin_body_is : body_of g (head_behind (coded_pre p ++ dst_chunk frames ∷ dsti_chunk (entries_of p frames) ∷ []) (origin_of_parts p form)) ≡
        (origin_of_parts p form).body
    origin_body_is =
        (stands_behind g (coded_pre p ++ dst_chunk frames ∷ dsti_chunk (entries_of p frames) ∷ []) p.parts.last (origin_of_parts p form) []
        (subst (λ cs. IsFile g cs []) origin_parts made)).body

    origin_rules : has_bad_origin g ≡ false
    origin_rules =
        ap (λ hs. elim hs [
          | [] ↦ false
          | h ∷ [] ↦ is_bad_origin (channel_count (prop g)) (sound_bytes_in (prop g)) (frame_count g) (body_of g h)
          | h ∷ i ∷ hs ↦ true
        ]) origin_only
        ∙ ap (is_bad_origin (channel_count (prop g)) (sound_bytes_in (prop g)) (frame_count g)) origin_body_is
        ∙ origin_is_lawful (channel_count (prop g)) (sound_bytes_in (prop g)) (frame_count g)
        (length p.parts.sound.body) form.pad p.parts.lawful.cmpr form.behind origin_holds

    pub form_rules : form_fault g ≡ None
    form_rules = all_rules g as_form origin_rules
