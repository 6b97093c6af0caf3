-- What cutting writes keeps all rules of a coded form, its `KEPT` says what sound is left, and it is walked.
use Rattle.std.proofs.Common.{◌≡◌, ◌⊎◌, inl, inr, ℕ, ◌+◌, ◌-◌, ◌*◌, ◌≤◌, ◌==◌, Bool, true, false, if◌then◌else◌, List, [], ◌∷◌, ◌++◌}
use Rattle.std.proofs.Common.{Option, Some, None, refl, sym, ap, ap₂, subst, ◌∙◌, arith, append_assoc, eqb-true}
use Rattle.std.specs.Prelude.{codes}
use Rattle.std.proofs.Math.Nat.{add-mul, mul_comm}
use Rattle.dst_spec.specs.Sample.{Shape, sound_bytes}
use Rattle.dst_spec.proofs.Lists.{all_append}
use Rattle.dsdiff_spec.specs.Bytes.{◌is◌}
use Rattle.dsdiff_spec.specs.Chunks.{Chunk, body_of, named}
use Rattle.dsdiff_spec.specs.Form.{Kind, plain, coded, Origin, Form, shape, shape_of, sound_bytes_of, plain_size, size_of_sound}
use Rattle.dsdiff_spec.specs.Parts.{all, prop, kind, frame_count, channel_count, multiple, sound_bytes_in}
use Rattle.dsdiff_spec.specs.Origin.{origin_of, is_bad_origin}
use Rattle.dsdiff_spec.specs.Rules.{has_bad_origin, form_fault, form_of_kind, accepted, origin_in}
use Rattle.dsdiff_spec.specs.Cut.{is_last}
use Rattle.dsdiff_spec.specs.Decoded.{plain_cmpr, plain_pad, kept_bytes}
use Rattle.dsdiff_spec.specs.Laws.{cut_file, cut_size, cut_pad}
use Rattle.dsdiff_spec.proofs.CodedFiles.{bad_among}
use Rattle.dsdiff_spec.proofs.Tiling.{heads_from}
use Rattle.dsdiff_laws.proofs.Filed.{IsFile, body_bytes}
use Rattle.dsdiff_laws.proofs.Places.{Lacks, none_named, one_named, either_lacks, head_behind, stands_behind}
use Rattle.dsdiff_laws.proofs.FormParts.{AreApart, prop_id, sound_id}
use Rattle.dsdiff_laws.proofs.PlainParts.{added_id}
use Rattle.dsdiff_laws.proofs.Props.{locals}
use Rattle.dsdiff_laws.proofs.CodedForm.{IsCodedForm, frte_stands, prop_read, sound_read, kind_read, count_read, all_rules}
use Rattle.dsdiff_laws.proofs.CodedForm as coded_form
use Rattle.dsdiff_laws.proofs.CodedChunks.{dsti_chunk, origin_piece, origin_body}
use Rattle.dsdiff_laws.proofs.OriginRead.{IsOrigin, origin_is_read, origin_is_lawful}
use Rattle.dsdiff_laws.proofs.CutOrigin.{IsOriginOf, size_left, pad_left, origin_of_cut}
use Rattle.dsdiff_laws.proofs.CutRules.{CutParts}
use Rattle.dsdiff_laws.proofs.Passed.{passed, all_passed, passed_lack}
use Rattle.dsdiff_laws.proofs.CutChunks.{origin_chunks, m, dst, es, origin_added, behind, made}

-- what `KEPT` says of the sound that is left
abbrev pub left : Bool → ℕ → ℕ → ℕ → Option Origin → Option Origin
left final n first last None = None
left final n first last (Some o) =
    Some (record { sound = size_left final n o first last; pad = pad_left final o; cmpr = o.cmpr; kept = [] })

kept_lacks : (f : List ℕ → Bool) (final : Bool) (n first last : ℕ) (o : Option Origin) → f (codes "KEPT") ≡ false → Lacks f (origin_chunks final n first last o)
kept_lacks f final n first last None e = tt
kept_lacks f final n first last (Some o) e = (e, tt)

apart_passed : (cs : List Chunk) → AreApart cs → AreApart (passed cs)
apart_passed cs a = record {
  props = all_passed (λ (d : Chunk). prop_id d.id ≡ false) cs a.props;
  sounds = all_passed (λ (d : Chunk). sound_id d.id ≡ false) cs a.sounds;
}

module _ (file : List ℕ) (first last : ℕ) (le : first ≤ last) (c : CutParts file first last)
  where
    abbrev form : Form
    form = accepted file

    abbrev g : List ℕ
    g = cut_file file first last

    abbrev pre' : List Chunk
    pre' = c.p.version ∷ passed c.p.front ++ c.p.prop ∷ passed c.p.middle

    abbrev final : Bool
    final = is_last (accepted file) last

    few : last + 1 - first ≤ 1000000
    few = omega (arith, c.rules.there, c.count, c.few)

    -- ids that they lack
    behind_lacks : (f : List ℕ → Bool) → f (codes "DSTI") ≡ false → f (codes "KEPT") ≡ false → Lacks f (passed c.p.last) → Lacks f (behind file first last le c)
    behind_lacks f a b l =
        all_append (λ (d : Chunk). f d.id ≡ false) (dsti_chunk (es file first last le c) ∷ origin_added file first last le c) (passed c.p.last)
        (a, kept_lacks f final (sound_bytes_of form) first last form.origin b) l

    last_apart : AreApart (passed c.p.last)
    last_apart = apart_passed c.p.last c.p.apart_last

    abbrev as_form : IsCodedForm (cut_file file first last)
    as_form = record {
      version = c.p.version;
      front = passed c.p.front;
      prop = c.p.prop;
      middle = passed c.p.middle;
      sound = dst file first last le c;
      last = behind file first last le c;
      made = made file first last le c;
      version_id = c.p.version_id;
      version_size = c.p.version_size;
      version_byte = c.p.version_byte;
      is_prop = c.p.is_prop;
      is_sound = refl;
      apart_front = record {
        props = (c.p.apart_front.props.0, all_passed (λ (d : Chunk). prop_id d.id ≡ false) c.p.front c.p.apart_front.props.1);
        sounds = (c.p.apart_front.sounds.0, all_passed (λ (d : Chunk). sound_id d.id ≡ false) c.p.front c.p.apart_front.sounds.1);
      };
      apart_middle = apart_passed c.p.middle c.p.apart_middle;
      apart_last = record { props = behind_lacks prop_id refl refl last_apart.props; sounds = behind_lacks sound_id refl refl last_apart.sounds };
      locals = locals c.p.prop.body;
      fs = c.p.lawful.fs;
      chnl = c.p.lawful.chnl;
      cmpr = c.p.lawful.cmpr;
      lawful = c.p.lawful.made;
      has = c.p.lawful.has;
      type = c.p.type ∙ c.is_dst;
      prop_most = c.p.prop_most;
      count = last + 1 - first;
      frte = frte_stands (last + 1 - first) (body_bytes (m file first last le c).mid) (omega (arith, few));
      few = few;
    }

    pub coded_is : accepted (cut_file file first last) ≡ form_of_kind coded (cut_file file first last)
    coded_is = ap (λ k. form_of_kind k g) (kind_read g as_form)

    -- the same shape
    same_prop : prop g ≡ prop file
    same_prop = prop_read g as_form ∙ sym c.p.prop_is

    same_count : channel_count (prop g) ≡ channel_count (prop file)
    same_count = ap channel_count same_prop

    pub same_shape : shape (accepted (cut_file file first last)) ≡ shape (accepted file)
    same_shape = ap₂ shape_of same_count (ap multiple same_prop)

    pub frames_is : (accepted (cut_file file first last)).frames ≡ last + 1 - first
    frames_is = ap (λ (f : Form). f.frames) coded_is ∙ count_read g as_form

    -- ---- `KEPT`
    kept_id : List ℕ → Bool
    kept_id id = id is "KEPT"

    no_added : (cs : List Chunk) → Lacks added_id cs → Lacks (λ id. id is "DSTI") cs × Lacks (λ id. id is "KEPT") cs
    no_added cs l = either_lacks (λ id. id is "DSTI") (λ id. id is "KEPT") cs l

    pre_lacks : Lacks added_id pre'
    pre_lacks =
        all_append (λ (d : Chunk). added_id d.id ≡ false) (c.p.version ∷ passed c.p.front) (c.p.prop ∷ passed c.p.middle)
        (ap added_id c.p.version_id, passed_lack c.p.front) (ap added_id c.p.is_prop, passed_lack c.p.middle)

    abbrev before_kept : List Chunk
    before_kept = pre' ++ dst file first last le c ∷ dsti_chunk (es file first last le c) ∷ []

    before_lacks : Lacks (λ id. id is "KEPT") before_kept
    before_lacks =
        all_append (λ (d : Chunk). (d.id is "KEPT") ≡ false) pre' (dst file first last le c ∷ dsti_chunk (es file first last le c) ∷ [])
        (no_added pre' pre_lacks).1 (refl, (refl, tt))

    regrouped : (ks : List Chunk) → pre' ++ dst file first last le c ∷ (dsti_chunk (es file first last le c) ∷ ks) ≡ before_kept ++ ks
    regrouped ks = sym (append_assoc pre' (dst file first last le c ∷ dsti_chunk (es file first last le c) ∷ []) ks)

    -- where there is none
    nothing_kept : form.origin ≡ None → all "KEPT" g ≡ []
    nothing_kept none =
        let whole : pre' ++ dst file first last le c ∷ behind file first last le c ≡ before_kept ++ passed c.p.last =
        ap (λ o. pre' ++ dst file first last le c ∷ (dsti_chunk (es file first last le c)
        ∷ origin_chunks final (sound_bytes_of form) first last o ++ passed c.p.last)) none ∙ regrouped (passed c.p.last) in
        ap (named "KEPT") (coded_form.chunks_are g as_form ∙ ap (heads_from 16) whole)
        ∙ none_named (λ id. id is "KEPT") 16 (before_kept ++ passed c.p.last)
        (all_append (λ (d : Chunk). (d.id is "KEPT") ≡ false) before_kept (passed c.p.last) before_lacks (no_added (passed c.p.last) (passed_lack c.p.last)).1)

    -- where there is one
    abbrev new_kept : Origin → Chunk
    new_kept o = origin_piece (size_left final (sound_bytes_of form) o first last) (pad_left final o) o.cmpr []

    with_kept : (o : Origin) → form.origin ≡ Some o →
        pre' ++ dst file first last le c ∷ behind file first last le c ≡ before_kept ++ new_kept o ∷ passed c.p.last
    with_kept o says =
        ap (λ k. pre' ++ dst file first last le c ∷ (dsti_chunk (es file first last le c)
        ∷ origin_chunks final (sound_bytes_of form) first last k ++ passed c.p.last)) says
        ∙ regrouped (new_kept o ∷ passed c.p.last)

    one_kept : (o : Origin) → form.origin ≡ Some o → all "KEPT" g ≡ head_behind before_kept (new_kept o) ∷ []
    one_kept o says =
        ap (named "KEPT") (coded_form.chunks_are g as_form ∙ ap (heads_from 16) (with_kept o says))
        ∙ one_named (λ id. id is "KEPT") before_kept (passed c.p.last) (new_kept o) before_lacks refl (no_added (passed c.p.last) (passed_lack c.p.last)).1

    kept_body : (o : Origin) → form.origin ≡ Some o → body_of g (head_behind before_kept (new_kept o)) ≡ (new_kept o).body
    kept_body o says =
        (stands_behind g before_kept (passed c.p.last) (new_kept o) [] (subst (λ cs. IsFile g cs []) (with_kept o says) (made file first last le c))).body

    lawful_kept : (o : Origin) (k : IsOriginOf (channel_count (prop file)) (sound_bytes_in (prop file)) (frame_count file) o) →
        IsOrigin (channel_count (prop file)) (sound_bytes_in (prop file)) (last + 1 - first) (size_left final (sound_bytes_of form) o first last)
        (pad_left final o) k.cmpr.chunk []
    lawful_kept o k =
        let there = c.rules.there in
        origin_of_cut (shape form) (frame_count file) first last o c.shape k le (omega (arith, there, c.count)) c.few final
        (ap (λ (n : ℕ). n == last + 1) (sym c.count))

    pub origin_left : (accepted (cut_file file first last)).origin
        ≡ left (is_last (accepted file) last) (sound_bytes_of (accepted file)) first last (accepted file).origin
    origin_left = ap (λ (f : Form). f.origin) coded_is ∙ by_kept c.kept
      where
        by_kept : (form.origin ≡ None) ⊎ ((k : Origin) × (form.origin ≡ Some k)
            × IsOriginOf (channel_count (prop file)) (sound_bytes_in (prop file)) (frame_count file) k) →
            origin_in g (all "KEPT" g) ≡ left final (sound_bytes_of form) first last form.origin
        by_kept (inl none) = ap (origin_in g) (nothing_kept none) ∙ sym (ap (left final (sound_bytes_of form) first last) none)
        by_kept (inr (o, says, k)) =
            let l = lawful_kept o k in
            ap (origin_in g) (one_kept o says)
            ∙ ap (λ w. Some (origin_of w)) (kept_body o says)
            ∙ ap Some (origin_is_read (size_left final (sound_bytes_of form) o first last) (pad_left final o) o.cmpr [] l.sound_fits l.kept_most)
            ∙ sym (ap (left final (sound_bytes_of form) first last) says)

    good_kept : has_bad_origin g ≡ false
    good_kept = by_kept c.kept
      where
        by_kept : (form.origin ≡ None) ⊎ ((k : Origin) × (form.origin ≡ Some k)
            × IsOriginOf (channel_count (prop file)) (sound_bytes_in (prop file)) (frame_count file) k) →
            bad_among g (all "KEPT" g) ≡ false
        by_kept (inl none) = ap (bad_among g) (nothing_kept none)
        by_kept (inr (o, says, k)) =
            let size = size_left final (sound_bytes_of form) o first last in
            let pad = pad_left final o in
            ap (bad_among g) (one_kept o says)
            ∙ ap (is_bad_origin (channel_count (prop g)) (sound_bytes_in (prop g)) (frame_count g)) (kept_body o says)
            ∙ ap₂ (λ (p : List ℕ) (n : ℕ). is_bad_origin (channel_count p) (sound_bytes_in p) n (origin_body size pad o.cmpr [])) same_prop
            (count_read g as_form)
            ∙ ap (λ w. is_bad_origin (channel_count (prop file)) (sound_bytes_in (prop file)) (last + 1 - first) (origin_body size pad w [])) (sym k.cmpr.bytes)
            ∙ origin_is_lawful (channel_count (prop file)) (sound_bytes_in (prop file)) (last + 1 - first) size pad k.cmpr.chunk [] (lawful_kept o k)

    -- ---- the sound chunk
    pub sound_is : (accepted (cut_file file first last)).sound
        ≡ head_behind (c.p.version ∷ passed c.p.front ++ c.p.prop ∷ passed c.p.middle) (dst file first last le c)
    sound_is = sound_read g as_form

    pub heads_are : (accepted (cut_file file first last)).chunks ≡ heads_from 16
        ((c.p.version ∷ passed c.p.front ++ c.p.prop ∷ passed c.p.middle) ++ dst file first last le c ∷ behind file first last le c)
    heads_are = coded_form.chunks_are g as_form

    pub rules_hold : form_fault (cut_file file first last) ≡ None
    rules_hold = all_rules g as_form good_kept

    pub is_coded : kind (cut_file file first last) ≡ coded
    is_coded = kind_read g as_form

    -- ---- the size and the pad byte of the sound
    size_of_coded : (i : Form) → i.kind ≡ coded → size_of_sound i ≡ plain_size i.origin (i.frames * sound_bytes_of i)
    size_of_coded i e = by_kind i.kind e
      where
        by_kind : (k : Kind) → k ≡ coded → (elim k [ plain ↦ i.sound.size | coded ↦ plain_size i.origin (i.frames * sound_bytes_of i) ])
            ≡ plain_size i.origin (i.frames * sound_bytes_of i)
        by_kind plain e = absurd cc
        by_kind coded e = refl

    whole_size : (n a b : ℕ) → a ≤ b → (count : ℕ) → (t : Bool) → (count == b + 1) ≡ t →
        (b + 1 - a) * n ≡ (if t then count * n - n * a else n * (b + 1 - a))
    whole_size n a b le count true e =
        let all : count ≡ b + 1 = eqb-true count (b + 1) e in
        let sum : count ≡ (b + 1 - a) + a = omega (arith, all, le) in
        let product : count * n ≡ (b + 1 - a) * n + a * n = ap (λ k. k * n) sum ∙ add-mul (b + 1 - a) a n in
        omega (arith, product, mul_comm a n)
    whole_size n a b le count false e = mul_comm (b + 1 - a) n

    pub size_is : size_of_sound (accepted (cut_file file first last)) ≡ cut_size (accepted file) first last
    size_is =
        let n = sound_bytes_of form in
        size_of_coded (accepted g) is_coded
        ∙ ap₂ (λ (o : Option Origin) (k : ℕ). plain_size o (k * sound_bytes_of (accepted g))) origin_left frames_is
        ∙ ap (λ (f : Shape). plain_size (left final n first last form.origin) ((last + 1 - first) * sound_bytes f)) same_shape
        ∙ by_origin form.origin
        ∙ ap (λ k. if final then k - n * first else n * (last + 1 - first)) (sym (size_of_coded form c.rules.is_coded))
      where
        by_origin : (o : Option Origin) → plain_size (left final (sound_bytes_of form) first last o) ((last + 1 - first) * sound_bytes_of form)
            ≡ (if final then plain_size o (form.frames * sound_bytes_of form) - sound_bytes_of form * first else sound_bytes_of form * (last + 1 - first))
        by_origin None = whole_size (sound_bytes_of form) first last le form.frames final refl
        by_origin (Some o) = refl

    pub pad_is : plain_pad (accepted (cut_file file first last)).origin ≡ cut_pad (accepted file) last
    pad_is = ap plain_pad origin_left ∙ by_origin form.origin final
      where
        by_origin : (o : Option Origin) (b : Bool) → plain_pad (left b (sound_bytes_of form) first last o) ≡ (if b then plain_pad o else 0)
        by_origin None true = refl
        by_origin None false = refl
        by_origin (Some o) true = refl
        by_origin (Some o) false = refl

    pub cmpr_is : plain_cmpr (accepted (cut_file file first last)).origin ≡ plain_cmpr (accepted file).origin
    cmpr_is = ap plain_cmpr origin_left ∙ by_origin form.origin
      where
        by_origin : (o : Option Origin) → plain_cmpr (left final (sound_bytes_of form) first last o) ≡ plain_cmpr o
        by_origin None = refl
        by_origin (Some o) = refl

    pub nothing_is_kept : kept_bytes (accepted (cut_file file first last)).origin ≡ []
    nothing_is_kept = ap kept_bytes origin_left ∙ by_origin form.origin
      where
        by_origin : (o : Option Origin) → kept_bytes (left final (sound_bytes_of form) first last o) ≡ []
        by_origin None = refl
        by_origin (Some o) = refl
