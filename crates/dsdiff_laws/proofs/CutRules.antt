-- What a file has that `cut` accepts: its chunks, those in its `DST `, and what its `KEPT` says.
use Rattle.std.proofs.Common.{◌≡◌, ◌⊎◌, inl, inr, ℕ, ◌+◌, ◌^◌, ◌<◌, ◌≤◌, ◌==◌, Bool, true, false, if◌then◌else◌, List, [], ◌∷◌}
use Rattle.std.proofs.Common.{length, drop, Option, Some, None, refl, sym, ap, subst, ◌∙◌, arith, length-drop, ltb-false, ltb-true}
use Rattle.std.specs.Prelude.{codes, not, ◌||◌}
use Rattle.std.specs.List.{concat}
use Rattle.std.proofs.lemmas.Slice.Eq.{bytes_eq-Decides}
use Rattle.std.proofs.lemmas.List.{length-take}
use Rattle.std.proofs.lemmas.Bool.{or_parts}
use Rattle.dst_spec.specs.Bits.{AreBytes}
use Rattle.dst_spec.specs.Sample.{IsShape}
use Rattle.dst_spec.proofs.Lists.{AreBytes-take, AreBytes-drop}
use Rattle.dsdiff_spec.specs.Bytes.{bytes_at, ◌is◌, ◌below◌, ◌above◌}
use Rattle.dsdiff_spec.specs.Faults.{◌when◌, ◌otherwise◌}
use Rattle.dsdiff_spec.specs.Chunks.{Head, body_place, body_end, body_of}
use Rattle.dsdiff_spec.specs.Form.{plain, coded, Origin, Form, shape}
use Rattle.dsdiff_spec.specs.Parts.{all, prop, sound_head, kind, frame_count, frame_rate, channel_count, sound_bytes_in}
use Rattle.dsdiff_spec.specs.Origin.{origin_of}
use Rattle.dsdiff_spec.specs.Rules.{is_frte, has_bad_origin, coded_fault, kind_fault, form_fault, form_of_kind, accepted, origin_in}
use Rattle.dsdiff_spec.specs.Walk.{walk_fault}
use Rattle.dsdiff_spec.specs.Words.{cut}
use Rattle.dsdiff_spec.specs.Cut.{cut_chunks}
use Rattle.dsdiff_spec.specs.Refusal.{no_frame, not_coded, not_walked, cut_fault, refusal}
use Rattle.dsdiff_spec.specs.declared.faults.FileFault.{FileFault}
use Rattle.dsdiff_spec.specs.declared.faults.FileFault.TheVariants.{NotCoded, Range, TooManyChunks, FormTooLarge, FrameRate, TooManyFrames, KeptBad}
use Rattle.dsdiff_spec.proofs.Lawful.{first_gives_none, later_gives_none, when_not, form_has_a_shape}
use Rattle.dsdiff_spec.proofs.CodedFiles.{form_by, refused_by, is_coded_kind, kind_gives_none, no_bad_origin, bad_among}
use Rattle.dsdiff_laws.proofs.Filed.{not_false}
use Rattle.dsdiff_laws.proofs.FormParts.{FormParts, form_parts, sound_id}
use Rattle.dsdiff_laws.proofs.FrameChunks.{IsWalked, walked_file}
use Rattle.dsdiff_laws.proofs.CutOrigin.{IsOriginOf, origin_says}

-- ---- the rules
pub record CutRules (file : List ℕ) (first last : ℕ) : Type 0 where
  pub rules : form_fault file ≡ None
  pub is_coded : kind file ≡ coded
  pub walked : walk_fault file (accepted file) ≡ None
  pub there : last < (accepted file).frames
  pub few : length (cut_chunks file (accepted file) first last) ≤ 1024
  pub size : 4 + length (concat (cut_chunks file (accepted file) first last)) ≤ 2 ^ 50

pub cut_rules : (file : List ℕ) (first last : ℕ) → refusal (cut first last) file ≡ None → CutRules file first last
unfolding refusal
cut_rules file first last h = go (form_fault file) refl h
  where
    go : (o : Option FileFault) → form_fault file ≡ o → refused_by (form_by o file) (cut first last) file ≡ None → CutRules file first last
    go (Some fault) e k = absurd cc
    go None e k =
        let form = accepted file in
        let chunks = cut_chunks file form first last in
        let r2 = no_frame last form.frames otherwise cut_fault chunks in
        let n1 = first_gives_none (not_walked file form) r2 k in
        let n2 = later_gives_none (not_walked file form) r2 k in
        let n3 = first_gives_none (no_frame last form.frames) (cut_fault chunks) n2 in
        let n4 = later_gives_none (no_frame last form.frames) (cut_fault chunks) n2 in
        let large = FormTooLarge when 4 + length (concat chunks) above 2 ^ 50 in
        let many = TooManyChunks when length chunks above 1024 in
        record {
          rules = e;
          is_coded = is_coded_kind (kind file) (when_not NotCoded _ (first_gives_none (not_coded form) (walk_fault file form) n1));
          walked = later_gives_none (not_coded form) (walk_fault file form) n1;
          there = ltb-true last form.frames (not_false _ (when_not (Range last form.frames) _ n3));
          few = ltb-false 1024 (length chunks) (when_not TooManyChunks _ (first_gives_none many large n4));
          size = ltb-false (2 ^ 50) (4 + length (concat chunks)) (when_not FormTooLarge _ (later_gives_none many large n4));
        }

-- ---- what `KEPT` says
abbrev pub KeptOf : (channels bytes count : ℕ) → Option Origin → Type 0
KeptOf channels bytes count o = (o ≡ None) ⊎ ((k : Origin) × (o ≡ Some k) × IsOriginOf channels bytes count k)

kept_among : (file : List ℕ) (hs : List Head) → AreBytes file → bad_among file hs ≡ false →
    KeptOf (channel_count (prop file)) (sound_bytes_in (prop file)) (frame_count file) (origin_in file hs)
kept_among file [] bytes good = inl refl
kept_among file (h ∷ []) bytes good =
    inr (
      origin_of (body_of file h),
      refl,
      origin_says (channel_count (prop file)) (sound_bytes_in (prop file)) (frame_count file) (body_of file h)
          (AreBytes-take h.size (drop (body_place h) file) (AreBytes-drop (body_place h) file bytes)) good,
    )
kept_among file (h ∷ i ∷ hs) bytes good = absurd cc

-- ---- all of it
pub record CutParts (file : List ℕ) (first last : ℕ) : Type 0 where
  pub rules : CutRules file first last
  pub bytes : AreBytes file
  pub p : FormParts file
  pub is_form : accepted file ≡ form_of_kind coded file
  pub is_dst : p.sound.id ≡ codes "DST "
  pub shape : IsShape (shape (accepted file))
  pub count : (accepted file).frames ≡ frame_count file
  pub few : frame_count file ≤ 1000000
  pub kept : KeptOf (channel_count (prop file)) (sound_bytes_in (prop file)) (frame_count file) (accepted file).origin
  pub walked : IsWalked file (accepted file)

dst_by : (w : List ℕ) → sound_id w ≡ true → (if w is "DSD " then plain else coded) ≡ coded → w ≡ codes "DST "
dst_by w s k = go (w is "DSD ") (w is "DST ") refl s k
  where
    go : (a b : Bool) → (w is "DST ") ≡ b → (a || b) ≡ true → (if a then plain else coded) ≡ coded → w ≡ codes "DST "
    go true b e s k = absurd cc
    go false true e s k = (bytes_eq-Decides w (codes "DST ")).0 e
    go false false e s k = absurd cc

pub cut_parts : (file : List ℕ) (first last : ℕ) → AreBytes file → refusal (cut first last) file ≡ None → CutParts file first last
cut_parts file first last bytes accepts =
    let r = cut_rules file first last accepts in
    let p = form_parts file bytes r.rules in
    let form = accepted file in
    let is_form : form ≡ form_of_kind coded file = ap (λ k. form_of_kind k file) r.is_coded in
    let rules : coded_fault file ≡ None = subst (λ k. kind_fault k file ≡ None) r.is_coded (kind_gives_none file r.rules) in
    let good = no_bad_origin file rules in
    let bad = KeptBad when has_bad_origin file in
    let many = TooManyFrames when frame_count file above 1000000 in
    let framed = (sound_head file).size below 18 || not (is_frte file (body_place (sound_head file))) || not (frame_rate file == 75) in
    let least = ltb-false (sound_head file).size 18 (or_parts _ _ (or_parts _ _ (when_not FrameRate framed
    (first_gives_none (FrameRate when framed) (many otherwise bad) rules))).0).0 in
    let most = ltb-false 1000000 (frame_count file) (when_not TooManyFrames _ (first_gives_none many bad
    (later_gives_none (FrameRate when framed) (many otherwise bad) rules))) in
    let h = sound_head file in
    let body : length (bytes_at file (body_place h) h.size) ≡ h.size =
    ap (λ (i : Head). length (body_of file i)) p.sound_head_is ∙ ap length p.sound_holds.body ∙ sym p.sound_holds.size
    ∙ sym (ap (λ (i : Head). i.size) p.sound_head_is) in
    let within : body_end h ≤ length file =
    omega (arith, least, body, length-take h.size (drop (body_place h) file), length-drop (body_place h) file) in
    record {
      rules = r;
      bytes = bytes;
      p = p;
      is_form = is_form;
      is_dst = dst_by p.sound.id p.sounds (ap (λ (w : List ℕ). if w is "DSD " then plain else coded) p.is_sound ∙ r.is_coded);
      shape = form_has_a_shape file r.rules;
      count = ap (λ (f : Form). f.frames) is_form;
      few = most;
      kept = subst (KeptOf (channel_count (prop file)) (sound_bytes_in (prop file)) (frame_count file)) (sym (ap (λ (f : Form). f.origin) is_form))
          (kept_among file (all "KEPT" file) bytes good);
      walked = walked_file file form bytes r.walked (omega (arith, least)) within;
    }
