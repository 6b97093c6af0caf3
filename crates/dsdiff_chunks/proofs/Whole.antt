-- A form is as its parts say, and the rules on its kind speak of them.
use Rattle.std.proofs.Common.{◌≡◌, ℕ, ◌+◌, ◌-◌, ◌/◌, ◌%◌, ◌≤◌, List, [], length, drop, Bool, true, false, Option, Some, None, Ok, refl, sym, ap, subst}
use Rattle.std.proofs.Common.{◌∙◌, arith, lit<}
use Rattle.std.specs.Prelude.{◌==◌, not, ◌||◌, filter, if◌then◌else◌, nat_le}
use Rattle.std.proofs.lemmas.List.{take_all, length-drop}
use Rattle.std.proofs.lemmas.List.Elements.{All-contains}
use Rattle.std.proofs.lemmas.Bool.{leb-true, and_parts}
use Rattle.std.proofs.Math.Nat.{mul-div_cancel_left}
use Rattle.dst_spec.specs.Sample.{Shape, sound_bytes}
use Rattle.dsdiff_spec.specs.Bytes.{bytes_at, number_at, ◌is◌, ◌below◌, ◌above◌}
use Rattle.dsdiff_spec.specs.Chunks.{Head, named, the_first, body_place, next_place, fits}
use Rattle.dsdiff_spec.specs.Faults.{◌when◌, ◌otherwise◌}
use Rattle.dsdiff_spec.specs.Form.{Form, Kind, Origin, plain, coded, shape_of, frames_for}
use Rattle.dsdiff_spec.specs.Parts.{form_size, form_end, top_level, prop_head, prop, sound_head, channel_count, multiple, sound_bytes_in, kind}
use Rattle.dsdiff_spec.specs.Parts.{frames_needed, behind_form, frame_count, frame_rate}
use Rattle.dsdiff_spec.specs.Rules.{room_fault, plain_fault, coded_fault, form, form_fault, form_of_kind, kind_fault, local_fault}
use Rattle.dsdiff_spec.specs.Rules.{is_frte, has_bad_origin}
use Rattle.dsdiff_spec.specs.declared.faults.FileFault.{FileFault}
use Rattle.dsdiff_spec.specs.declared.faults.FileFault.TheVariants.{SoundUneven, TooManyFrames, CodedChunk, TailTooLong, FrameRate, KeptBad}
use Rattle.dsdiff_spec.proofs.Lawful.{rules_at_0}
use Rattle.dsdiff_chunks.specs.declared.build.Parts.{Parts}
use Rattle.dsdiff_chunks.specs.declared.common.Kind as sounds
use Rattle.dsdiff_chunks.specs.Kinds.{kind_seen}
use Rattle.dsdiff_chunks.specs.Lawful.{IsLawful, IsOfKind, TileTo}
use Rattle.dsdiff_chunks.specs.Prepared.{AreParts, heads_of}
use Rattle.dsdiff_chunks.specs.Seen.{head_seen}
use Rattle.dsdiff_chunks.proofs.Chain.{form_is_accepted}
use Rattle.dsdiff_chunks.proofs.Only.{passed_is_there}
use Rattle.dsdiff_chunks.specs.Opening.{may_lack_pad, is_sound, plain_parts_fault, space_fault, is_of_coded, coded_sound_fault, are_bad_origins}

-- of parts whose sound is of this kind, only the rules on the kind are left
pub kind_left : {bytes : Option (List ℕ)} {known : Option ℕ} {p : Parts} {k : sounds.Kind} → AreParts bytes known p → p.sound.kind ≡ k →
    (xs : List ℕ) → bytes ≡ Some xs → (kind xs ≡ kind_seen k) × (form_fault xs ≡ kind_fault (kind_seen k) xs)
kind_left parts of_kind xs told =
    let has = parts.told xs told in
    let same = ap (λ (h : Head). if h.id is "DSD " then plain else coded) has.sound ∙ sym parts.sound.kind_is ∙ ap kind_seen of_kind in
    (same, has.left ∙ ap (λ k. kind_fault k xs) same)

-- ---- forms with equal parts are equal
abbrev made : Kind → ℕ → ℕ → ℕ → List Head → List ℕ → Head → ℕ → Option Origin → ℕ → List ℕ → Form
made k c m e hs p s n o b t = record {
  kind = k;
  channels = c;
  multiple = m;
  end = e;
  chunks = hs;
  prop = p;
  sound = s;
  frames = n;
  origin = o;
  pad = b;
  behind = t;
}

same_made : (k k' : Kind) (c c' m m' e e' : ℕ) (hs hs' : List Head) (p p' : List ℕ) (s s' : Head) (n n' : ℕ) (o o' : Option Origin) (b b' : ℕ) (t t' : List ℕ) →
    k ≡ k' → c ≡ c' → m ≡ m' → e ≡ e' → hs ≡ hs' → p ≡ p' → s ≡ s' → n ≡ n' → o ≡ o' → b ≡ b' → t ≡ t' →
    made k c m e hs p s n o b t ≡ made k' c' m' e' hs' p' s' n' o' b' t'
same_made k k' c c' m m' e e' hs hs' p p' s s' n n' o o' b b' t t' a1 a2 a3 a4 a5 a6 a7 a8 a9 a10 a11 =
    rw (a1, a2, a3, a4, a5, a6, a7, a8, a9, a10, a11) refl

same_form : (f g : Form) → f.kind ≡ g.kind → f.channels ≡ g.channels → f.multiple ≡ g.multiple → f.end ≡ g.end → f.chunks ≡ g.chunks →
    f.prop ≡ g.prop → f.sound ≡ g.sound → f.frames ≡ g.frames → f.origin ≡ g.origin → f.pad ≡ g.pad → f.behind ≡ g.behind → f ≡ g
same_form f g a1 a2 a3 a4 a5 a6 a7 a8 a9 a10 a11 =
    same_made f.kind g.kind f.channels g.channels f.multiple g.multiple f.end g.end f.chunks g.chunks f.prop g.prop f.sound g.sound
    f.frames g.frames f.origin g.origin f.pad g.pad f.behind g.behind a1 a2 a3 a4 a5 a6 a7 a8 a9 a10 a11

-- ---- the shape of a frame
multiple_back : (s : Shape) (c m : ℕ) → s ≡ shape_of c m → s.octets / 4704 ≡ m
multiple_back s c m e = ap (λ t. t.octets / 4704) e ∙ mul-div_cancel_left m {n = 4704} (lit< tt)

pub shape_back : (s : Shape) (c m : ℕ) → s ≡ shape_of c m → shape_of s.channels (s.octets / 4704) ≡ s
shape_back s c m e =
    ap (λ n. shape_of s.channels n) (multiple_back s c m e) ∙ ap (λ t. shape_of t.channels m) e ∙ sym e

pub sound_bytes_are : (xs body : List ℕ) (s : Shape) → prop xs ≡ body → s ≡ shape_of (channel_count body) (multiple body) →
    sound_bytes_in (prop xs) ≡ sound_bytes s
sound_bytes_are xs body s e is_shape = ap sound_bytes_in e ∙ sym (ap sound_bytes is_shape)

channels_of : (xs body : List ℕ) (s : Shape) → prop xs ≡ body → s ≡ shape_of (channel_count body) (multiple body) → channel_count (prop xs) ≡ s.channels
channels_of xs body s e is_shape = ap channel_count e ∙ sym (ap (λ t. t.channels) is_shape)

multiple_of : (xs body : List ℕ) (s : Shape) → prop xs ≡ body → s ≡ shape_of (channel_count body) (multiple body) → multiple (prop xs) ≡ s.octets / 4704
multiple_of xs body s e is_shape = ap multiple e ∙ sym (multiple_back s (channel_count body) (multiple body) is_shape)

-- ---- the kind
is_plain_id : (b : Bool) → plain ≡ (if b then plain else coded) → b ≡ true
is_plain_id true e = refl
is_plain_id false e = absurd cc

next_fits : (end : ℕ) (h : Head) → fits may_lack_pad end h ≡ true → (h.id is "DSD ") ≡ true → next_place h ≤ end
next_fits end h fit id = leb-true (next_place h) end (at (h.id is "DSD ") id (and_parts _ _ fit).1)
  where
    at : (b : Bool) → b ≡ true → nat_le (if not b then h.place + 12 + h.size else next_place h) end ≡ true → nat_le (next_place h) end ≡ true
    at true q e = e
    at false q e = absurd cc

-- ---- the rules on a plain form
abbrev plain_by : List Head → ℕ → ℕ → ℕ → ℕ → ℕ → ℕ → Option FileFault
plain_by heads prop_size sound_size channels bytes size length_behind =
    SoundUneven when not (sound_size % channels == 0)
    otherwise TooManyFrames when frames_for bytes sound_size above 1000000
    otherwise CodedChunk (the_first (filter is_of_coded heads)).place when not (length (filter is_of_coded heads) == 0)
    otherwise room_fault (length heads) prop_size size
    otherwise TailTooLong length_behind when length_behind above 65536

same_plain_by : (hs hs' : List Head) (a a' b b' c c' d d' e e' f f' : ℕ) → hs ≡ hs' → a ≡ a' → b ≡ b' → c ≡ c' → d ≡ d' → e ≡ e' → f ≡ f' →
    plain_by hs a b c d e f ≡ plain_by hs' a' b' c' d' e' f'
same_plain_by hs hs' a a' b b' c c' d d' e e' f f' p1 p2 p3 p4 p5 p6 p7 = rw (p1, p2, p3, p4, p5, p6, p7) refl

two_and_more : (a b r : Option FileFault) → (a otherwise b otherwise r) ≡ (a otherwise b) otherwise r
two_and_more (Some f) b r = refl
two_and_more None b r = refl

plain_by_parts : (xs body : List ℕ) (heads : List Head) (prop_is sound : Head) (s : Shape) (size end : ℕ) →
    length xs ≡ size → form_end xs ≡ end → (top_level xs).heads ≡ heads → prop_head xs ≡ prop_is → prop xs ≡ body → sound_head xs ≡ sound →
    s ≡ shape_of (channel_count body) (multiple body) →
    plain_fault xs ≡ plain_parts_fault size end heads prop_is.size sound.size s.channels (sound_bytes s)
plain_by_parts xs body heads prop_is sound s size end long ends top p b snd is_shape =
    let size_is : form_size xs ≡ end - 12 = omega (arith, ends) in
    let behind_is : length (behind_form xs) ≡ size - end = omega (arith, ends, long, length-drop (form_end xs) xs) in
    same_plain_by (top_level xs).heads heads (prop_head xs).size prop_is.size (sound_head xs).size sound.size (channel_count (prop xs)) s.channels
    (sound_bytes_in (prop xs)) (sound_bytes s) (form_size xs) (end - 12) (length (behind_form xs)) (size - end)
    top (ap (λ h. h.size) p) (ap (λ h. h.size) snd) (channels_of xs body s b is_shape) (sound_bytes_are xs body s b is_shape) size_is behind_is
    ∙ two_and_more (SoundUneven when not (sound.size % s.channels == 0)) (TooManyFrames when frames_for (sound_bytes s) sound.size above 1000000)
    (space_fault size end heads prop_is.size)

pub plain_frames : (xs body : List ℕ) (sound : Head) (s : Shape) → prop xs ≡ body → sound_head xs ≡ sound → s ≡ shape_of (channel_count body) (multiple body) →
    frames_needed xs ≡ frames_for (sound_bytes s) sound.size
plain_frames xs body sound s b snd is_shape =
    ap (λ n. frames_for n (sound_head xs).size) (sound_bytes_are xs body s b is_shape) ∙ ap (λ h. frames_for (sound_bytes s) h.size) snd

pub behind_by_parts : (xs : List ℕ) (size end : ℕ) → length xs ≡ size → form_end xs ≡ end → behind_form xs ≡ bytes_at xs end (size - end)
behind_by_parts xs size end long ends =
    ap (λ n. drop n xs) ends ∙ sym (take_all (size - end) (drop end xs) (omega (arith, long, length-drop end xs)))

-- of parts whose sound is plain, only the rules on these parts are left
pub plain_left : {bytes : Option (List ℕ)} {known : Option ℕ} {p : Parts} → AreParts bytes known p → p.sound.kind ≡ sounds.Kind.Plain →
    (xs : List ℕ) → bytes ≡ Some xs →
    form_fault xs ≡ plain_parts_fault p.chunks.size p.chunks.end (heads_of p) p.prop_head.size p.sound.head.size p.prop.fields.channels.channels
    (sound_bytes p.prop.fields.channels)
plain_left {p = p} parts of_kind xs told =
    let has = parts.told xs told in
    (kind_left parts of_kind xs told).1
    ∙ plain_by_parts xs p.prop.body.items (heads_of p) (head_seen p.prop_head) (head_seen p.sound.head) p.prop.fields.channels p.chunks.size p.chunks.end
    has.long has.ends has.chunks has.prop_is has.body has.sound parts.shape

-- the sound of a plain form has its pad byte in the form
pub plain_padded : {bytes : Option (List ℕ)} {known : Option ℕ} {p : Parts} → AreParts bytes known p → p.sound.kind ≡ sounds.Kind.Plain →
    next_place (head_seen p.sound.head) ≤ p.chunks.end
plain_padded {p = p} parts of_kind =
    let sound = head_seen p.sound.head in
    let there = passed_is_there is_sound (heads_of p) sound [] parts.sound.found in
    next_fits p.chunks.end sound (All-contains (λ h. fits may_lack_pad p.chunks.end h ≡ true) (heads_of p) sound parts.chunks.whole there)
    (is_plain_id (sound.id is "DSD ") (sym (ap kind_seen of_kind) ∙ parts.sound.kind_is))

-- ---- the rules on a coded form
abbrev kept_rule : List ℕ → List ℕ → ℕ → List Head → Option FileFault
kept_rule xs body n heads = KeptBad when are_bad_origins (channel_count body) (sound_bytes_in body) n xs (named "KEPT" heads)

coded_in_two : (xs : List ℕ) → coded_fault xs ≡ coded_sound_fault xs (sound_head xs) otherwise kept_rule xs (prop xs) (frame_count xs) (top_level xs).heads
coded_in_two xs =
    two_and_more
    (FrameRate when (sound_head xs).size below 18 || not (is_frte xs (body_place (sound_head xs))) || not (frame_rate xs == 75))
    (TooManyFrames when frame_count xs above 1000000)
    (KeptBad when has_bad_origin xs)

pub coded_at_sound : (xs : List ℕ) (sound : Head) (f : FileFault) → sound_head xs ≡ sound → coded_sound_fault xs sound ≡ Some f → coded_fault xs ≡ Some f
coded_at_sound xs sound f snd e =
    coded_in_two xs
    ∙ ap (λ h. coded_sound_fault xs h otherwise kept_rule xs (prop xs) (frame_count xs) (top_level xs).heads) snd
    ∙ ap (λ o. o otherwise kept_rule xs (prop xs) (frame_count xs) (top_level xs).heads) e

pub count_by_parts : (xs : List ℕ) (sound : Head) (n : ℕ) → sound_head xs ≡ sound → n ≡ number_at xs (sound.place + 12 + 12) 4 → frame_count xs ≡ n
count_by_parts xs sound n snd e = ap (λ h. number_at xs (h.place + 12 + 12) 4) snd ∙ sym e

coded_past_sound : (xs body : List ℕ) (heads : List Head) (sound : Head) (s : Shape) (n : ℕ) →
    (top_level xs).heads ≡ heads → prop xs ≡ body → sound_head xs ≡ sound → s ≡ shape_of (channel_count body) (multiple body) →
    n ≡ number_at xs (sound.place + 12 + 12) 4 → coded_sound_fault xs sound ≡ None →
    coded_fault xs ≡ (KeptBad when are_bad_origins s.channels (sound_bytes s) n xs (named "KEPT" heads))
coded_past_sound xs body heads sound s n top b snd is_shape is_count e =
    coded_in_two xs
    ∙ ap (λ h. coded_sound_fault xs h otherwise kept_rule xs (prop xs) (frame_count xs) (top_level xs).heads) snd
    ∙ ap (λ o. o otherwise kept_rule xs (prop xs) (frame_count xs) (top_level xs).heads) e
    ∙ ap (λ c. KeptBad when are_bad_origins c (sound_bytes_in (prop xs)) (frame_count xs) xs (named "KEPT" (top_level xs).heads))
    (channels_of xs body s b is_shape)
    ∙ ap (λ c. KeptBad when are_bad_origins s.channels c (frame_count xs) xs (named "KEPT" (top_level xs).heads)) (sound_bytes_are xs body s b is_shape)
    ∙ ap (λ m. KeptBad when are_bad_origins s.channels (sound_bytes s) m xs (named "KEPT" (top_level xs).heads)) (count_by_parts xs sound n snd is_count)
    ∙ ap (λ hs. KeptBad when are_bad_origins s.channels (sound_bytes s) n xs (named "KEPT" hs)) top

-- of parts whose coded sound is accepted, only the rule on the place in the original is left
pub coded_left : {bytes : Option (List ℕ)} {known : Option ℕ} {p : Parts} → AreParts bytes known p → p.sound.kind ≡ sounds.Kind.Coded →
    (xs : List ℕ) → bytes ≡ Some xs → (n : ℕ) → n ≡ number_at xs (p.sound.head.place + 12 + 12) 4 → coded_sound_fault xs (head_seen p.sound.head) ≡ None →
    form_fault xs ≡ (KeptBad when are_bad_origins p.prop.fields.channels.channels (sound_bytes p.prop.fields.channels) n xs (named "KEPT" (heads_of p)))
coded_left {p = p} parts of_kind xs told n is_count accepted =
    let has = parts.told xs told in
    (kind_left parts of_kind xs told).1
    ∙ coded_past_sound xs p.prop.body.items (heads_of p) (head_seen p.sound.head) p.prop.fields.channels n has.chunks has.body has.sound parts.shape
    is_count accepted

-- ---- the form of some parts, and what its kind adds: frames, place in the original, pad byte and what stands behind
abbrev pub form_of_parts : Parts → Kind → List Head → List ℕ → ℕ → Option Origin → ℕ → List ℕ → Form
form_of_parts p k heads body n o b t =
    made k p.prop.fields.channels.channels (p.prop.fields.channels.octets / 4704) p.chunks.end heads body (head_seen p.sound.head) n o b t

pub form_is : {bytes : Option (List ℕ)} {known : Option ℕ} {p : Parts} {k : sounds.Kind} → AreParts bytes known p → p.sound.kind ≡ k →
    (xs : List ℕ) → bytes ≡ Some xs → form_fault xs ≡ None → {heads : List Head} {body : List ℕ} {n : ℕ} {o : Option Origin} {b : ℕ} {t : List ℕ} →
    heads_of p ≡ heads → p.prop.body.items ≡ body →
    (form_of_kind (kind_seen k) xs).frames ≡ n → (form_of_kind (kind_seen k) xs).origin ≡ o →
    (form_of_kind (kind_seen k) xs).pad ≡ b → (form_of_kind (kind_seen k) xs).behind ≡ t →
    form xs ≡ Ok (form_of_parts p (kind_seen k) heads body n o b t)
form_is {p = p} {k = k} parts of_kind xs told accepted heads_are body_is frames origin pad behind =
    let has = parts.told xs told in
    form_is_accepted xs accepted
    ∙ ap Ok
    (ap (λ k. form_of_kind k xs) (kind_left parts of_kind xs told).0
    ∙ same_form (form_of_kind (kind_seen k) xs) _ refl (channels_of xs p.prop.body.items p.prop.fields.channels has.body parts.shape)
    (multiple_of xs p.prop.body.items p.prop.fields.channels has.body parts.shape) has.ends (has.chunks ∙ heads_are) (has.body ∙ body_is) has.sound
    frames origin pad behind)

-- it is lawful, where it is by what its kind adds
pub form_is_lawful : {bytes : Option (List ℕ)} {known : Option ℕ} {p : Parts} → AreParts bytes known p →
    {k : Kind} {heads : List Head} {body : List ℕ} {n : ℕ} {o : Option Origin} {b : ℕ} {t : List ℕ} →
    heads_of p ≡ heads → p.prop.body.items ≡ body → n ≤ 1000000 → IsOfKind k (form_of_parts p k heads body n o b t) →
    IsLawful (form_of_parts p k heads body n o b t)
form_is_lawful {p = p} parts heads_are body_is few of_kind = record {
  end = parts.chunks.most;
  few = subst (λ (hs : List Head). length hs ≤ 1024) heads_are parts.chunks.few;
  chunks = subst (λ (hs : List Head). TileTo p.chunks.end 16 hs) heads_are parts.chunks.tiled;
  sound = ap (filter is_sound) (sym heads_are) ∙ parts.sound.found;
  prop = record {
    most = subst (λ (b : List ℕ). length b ≤ 65536) body_is parts.most;
    rules = ap (λ b. local_fault 0 b) (sym body_is) ∙ rules_at_0 (p.prop_head.place + 12) p.prop.body.items parts.rules;
  };
  channels = ap (λ s. s.channels) parts.shape ∙ ap channel_count body_is;
  multiple = multiple_back p.prop.fields.channels (channel_count p.prop.body.items) (multiple p.prop.body.items) parts.shape ∙ ap multiple body_is;
  frames = few;
  of_kind = of_kind;
}
