-- What a lawful `KEPT` says, of either version; and the `KEPT` of the sound that cutting leaves is lawful.
use Rattle.std.proofs.Common.{◌≡◌, inl, inr, ℕ, ◌+◌, ◌-◌, ◌*◌, ◌/◌, ◌%◌, ◌^◌, ◌<◌, ◌≤◌, ◌==◌, Bool, true, false, if◌then◌else◌, List, [], ◌∷◌, length}
use Rattle.std.proofs.Common.{take, drop, get_or, refl, sym, ap, ◌∙◌, arith, append-nil, length-drop, ltb-false, eqb-true}
use Rattle.std.specs.Prelude.{codes, not, ◌||◌, ◌&&◌}
use Rattle.std.proofs.lemmas.Slice.Eq.{bytes_eq-Decides}
use Rattle.std.proofs.lemmas.Bool.{and_parts, eq-eqb, or_parts}
use Rattle.std.proofs.lemmas.List.{length-take}
use Rattle.std.proofs.lemmas.Nat.{div-mul-add}
use Rattle.std.proofs.Math.Nat.{mul-add-mod_self_left, add-mul-div_left, mul-mod_left, mul-le-mul, mul_comm, mul_assoc}
use Rattle.dst_spec.specs.Bits.{AreBytes}
use Rattle.dst_spec.specs.Sample.{Shape, IsShape, sound_bytes}
use Rattle.dst_spec.proofs.Lists.{AreBytes-take, AreBytes-drop}
use Rattle.dsdiff_spec.specs.Bytes.{bytes_at, between, number_at, ◌is◌, ◌below◌, ◌above◌}
use Rattle.dsdiff_spec.specs.Chunks.{Chunk, bytes_of_chunk, head_at, fits}
use Rattle.dsdiff_spec.specs.Form.{Origin, frames_for}
use Rattle.dsdiff_spec.specs.Origin.{origin_version, kept_length, origin_of, is_one_chunk, bad_version_1, bad_version_2, is_bad_origin}
use Rattle.dsdiff_spec.proofs.Steps.{fits_whole}
use Rattle.dsdiff_spec.proofs.Finding.{Follow}
use Rattle.dsdiff_spec.proofs.CodedFiles.{needed, some_bytes, longest_sound_of_frame}
use Rattle.dsdiff_spec.proofs.Sizes.{length-bytes_at}
use Rattle.dsdiff_spec.proofs.ByteLists.{byte_at_place}
use Rattle.dsdiff_laws.proofs.Chunked.{chunk_at, chunks_of_heads, bytes_of_heads, number_fits}
use Rattle.dsdiff_laws.proofs.Filed.{not_false, no_less, take_whole}
use Rattle.dsdiff_laws.proofs.Props.{all_whole, take_less}
use Rattle.dsdiff_laws.proofs.OriginRead.{IsPlainCmpr, IsOrigin}

-- ---- bytes that are one chunk
pub record IsOneChunk (w : List ℕ) : Type 0 where
  pub chunk : Chunk
  pub bytes : bytes_of_chunk chunk ≡ w
  pub plain : IsPlainCmpr chunk

pub one_chunk_is : (w : List ℕ) → AreBytes w → is_one_chunk "CMPR" w ≡ true → 4 ≤ number_at w 4 8 → bytes_at w 12 4 ≡ codes "DSD " → IsOneChunk w
one_chunk_is w bytes one least type =
    let m : List ℕ → Bool = λ id. false in
    let n = number_at w 4 8 in
    let h = head_at w 0 in
    let parts = and_parts (not (length w below 12) && bytes_at w 0 4 is "CMPR") (length w == 12 + n + n % 2) one in
    let opens = and_parts (not (length w below 12)) (bytes_at w 0 4 is "CMPR") parts.0 in
    let long : length w ≡ 12 + n + n % 2 = eqb-true (length w) (12 + n + n % 2) parts.1 in
    let fit : fits m (length w) h ≡ true = fits_whole m (length w) h (omega (arith, long)) in
    let follow : Follow m w (length w) 0 (h ∷ []) = (omega (arith, long), refl, fit, tt) in
    let c = chunk_at w (length w) h in
    let whole = (all_whole (c ∷ []) (chunks_of_heads m w (length w) 0 (h ∷ []) bytes (omega arith) follow)).0 in
    let all = bytes_of_heads m w (length w) 0 (h ∷ []) bytes (omega arith) follow (omega (arith, long)) in
    let body : length (bytes_at w 12 n) ≡ n = length-bytes_at w 12 n (omega (arith, long)) in
    record {
      chunk = c;
      bytes = sym (append-nil (bytes_of_chunk c)) ∙ all ∙ ap (λ k. take k w) (no_less (length w)) ∙ take_whole w;
      plain = record {
        whole = whole;
        name = (bytes_eq-Decides (bytes_at w 0 4) (codes "CMPR")).0 opens.1;
        least = omega (arith, body, least);
        type = take_less 4 n (drop 12 w) least ∙ type;
      };
    }

-- ---- what the rules on `KEPT` say
pub record IsOriginOf (channels bytes count : ℕ) (o : Origin) : Type 0 where
  pub cmpr : IsOneChunk o.cmpr
  pub cmpr_most : length o.cmpr ≤ 65536
  pub cmpr_bytes : AreBytes o.cmpr
  pub sound_fits : o.sound < 2 ^ 64
  pub pad_even : o.sound % 2 ≡ 0 → o.pad ≡ 0
  pub pad_byte : o.pad < 256
  pub even : o.sound % channels ≡ 0
  pub frames : frames_for bytes o.sound ≡ count

and_false : (a b : Bool) → (a && b) ≡ false → a ≡ true → b ≡ false
and_false true b e t = e
and_false false b e t = absurd cc

or_true : (a b : Bool) → (a || b) ≡ true → a ≡ false → b ≡ true
or_true true b e f = absurd cc
or_true false b e f = e

-- the fields by version
abbrev by_version : Bool → List ℕ → Origin
by_version b body =
    if b then record { sound = number_at body 1 8; pad = 0; cmpr = drop 9 body; kept = [] }
    else record {
      sound = number_at body 1 8;
      pad = get_or body 9 0;
      cmpr = between body 14 (length body - kept_length body);
      kept = drop (length body - kept_length body) body;
    }

record IsSaid (o : Origin) : Type 0 where
  cmpr_most : length o.cmpr ≤ 65536
  cmpr_bytes : AreBytes o.cmpr
  sound_fits : o.sound < 2 ^ 64
  pad_even : o.sound % 2 ≡ 0 → o.pad ≡ 0
  pad_byte : o.pad < 256

abbrev not_padded : Origin → Bool
not_padded o = o.sound % 2 == 0 && not (o.pad == 0)

said : (body : List ℕ) → AreBytes body → (b : Bool) → (b ≡ true → length body ≤ 65545) →
    (b ≡ false → (length body ≤ 65550 + kept_length body) × (not_padded (by_version b body) ≡ false)) → IsSaid (by_version b body)
said body bytes true one two =
    let most = one refl in
    record {
      cmpr_most = omega (arith, most, length-drop 9 body);
      cmpr_bytes = AreBytes-drop 9 body bytes;
      sound_fits = number_fits body 1 bytes;
      pad_even = λ e. refl;
      pad_byte = omega arith;
    }
said body bytes false one two =
    let rules = two refl in
    let n = length body - kept_length body - 14 in
    let most = rules.0 in
    record {
      cmpr_most = omega (arith, most, length-take n (drop 14 body));
      cmpr_bytes = AreBytes-take n (drop 14 body) (AreBytes-drop 14 body bytes);
      sound_fits = number_fits body 1 bytes;
      pad_even = λ e. eqb-true (get_or body 9 0) 0 (not_false _ (and_false (number_at body 1 8 % 2 == 0) _ rules.1 (eq-eqb (number_at body 1 8 % 2) 0 e)));
      pad_byte = byte_at_place body 9 bytes;
    }

pub origin_says : (channels bytes count : ℕ) (body : List ℕ) → AreBytes body → is_bad_origin channels bytes count body ≡ false →
    IsOriginOf channels bytes count (origin_of body)
origin_says channels bytes count body are good =
    let o = origin_of body in
    let v1 = origin_version body == 1 in
    let v2 = origin_version body == 2 in
    let a7 = or_parts _ (not (frames_for bytes o.sound == count)) good in
    let a6 = or_parts _ (not (o.sound % channels == 0)) a7.0 in
    let a5 = or_parts _ (not (bytes_at o.cmpr 12 4 is "DSD ")) a6.0 in
    let a4 = or_parts _ (number_at o.cmpr 4 8 below 4) a5.0 in
    let a3 = or_parts _ (not (is_one_chunk "CMPR" o.cmpr)) a4.0 in
    let a2 = or_parts _ (v2 && bad_version_2 body) a3.0 in
    let a1 = or_parts (not (v1 || v2)) (v1 && bad_version_1 body) a2.0 in
    let known : (v1 || v2) ≡ true = not_false _ a1.0 in
    let facts = said body are v1
    (λ e. let out = and_false v1 (bad_version_1 body) a1.1 e in ltb-false 65545 (length body) (or_parts (length body below 25) _ out).1)
    (λ e.
    let bad = and_false v2 (bad_version_2 body) a2.1 (or_true v1 v2 known e) in
    let b1 = or_parts _ (not_padded o) bad in
    let b2 = or_parts _ (length body above 65550 + kept_length body) b1.0 in
    (ltb-false (65550 + kept_length body) (length body) b2.1, b1.1)) in
    record {
      cmpr = one_chunk_is o.cmpr facts.cmpr_bytes (not_false _ a3.1) (ltb-false (number_at o.cmpr 4 8) 4 a4.1)
          ((bytes_eq-Decides (bytes_at o.cmpr 12 4) (codes "DSD ")).0 (not_false _ a5.1));
      cmpr_most = facts.cmpr_most;
      cmpr_bytes = facts.cmpr_bytes;
      sound_fits = facts.sound_fits;
      pad_even = facts.pad_even;
      pad_byte = facts.pad_byte;
      even = eqb-true (o.sound % channels) 0 (not_false _ a6.1);
      frames = eqb-true (frames_for bytes o.sound) count (not_false _ a7.1);
    }

-- ---- frames and sizes
whole_frames : (f n : ℕ) → 0 < f → frames_for f (f * n) ≡ n
whole_frames f n some =
    let sum : f * n + f - 1 ≡ n * f + (f - 1) = omega (arith, some, mul_comm f n) in
    ap (λ k. k / f) sum ∙ div-mul-add n f (f - 1) (omega (arith, some))

fewer_frames : (f n first : ℕ) → 0 < f → f * first ≤ n → frames_for f (n - f * first) + first ≡ frames_for f n
fewer_frames f n first some le =
    let sum : n - f * first + f - 1 + f * first ≡ n + f - 1 = omega (arith, some, le) in
    sym (add-mul-div_left (n - f * first + f - 1) first some) ∙ ap (λ k. k / f) sum

same_rest : (m k n f first : ℕ) → f ≡ m * k → f * first ≤ n → (n - f * first) % m ≡ n % m
same_rest m k n f first e le =
    let product : f * first ≡ m * (k * first) = ap (λ x. x * first) e ∙ mul_assoc m k first in
    let sum : m * (k * first) + (n - f * first) ≡ n = omega (arith, le, product) in
    sym (mul-add-mod_self_left m (k * first) (n - f * first)) ∙ ap (λ x. x % m) sum

half_of : (f : Shape) → IsShape f → (half : ℕ) × (sound_bytes f ≡ 2 * half)
half_of f s = elim s.rate [
  | inl e ↦ (2352 * f.channels, ap (λ n. n * f.channels) e ∙ (omega arith))
  | inr (inl e) ↦ (4704 * f.channels, ap (λ n. n * f.channels) e ∙ (omega arith))
  | inr (inr e) ↦ (9408 * f.channels, ap (λ n. n * f.channels) e ∙ (omega arith))
]

-- ---- the `KEPT` of the frames from first to last
abbrev pub size_left : Bool → ℕ → Origin → ℕ → ℕ → ℕ
size_left final f o first last = if final then o.sound - f * first else f * (last + 1 - first)

abbrev pub pad_left : Bool → Origin → ℕ
pad_left final o = if final then o.pad else 0

pub origin_of_cut : (f : Shape) (count first last : ℕ) (o : Origin) → IsShape f → (k : IsOriginOf f.channels (sound_bytes f) count o) → first ≤ last →
    last < count →
    count ≤ 1000000 → (final : Bool) → (count == last + 1) ≡ final →
    IsOrigin f.channels (sound_bytes f) (last + 1 - first) (size_left final (sound_bytes f) o first last) (pad_left final o) k.cmpr.chunk []
origin_of_cut f count first last o s k le there few true is_last =
    let n = sound_bytes f in
    let all : count ≡ last + 1 = eqb-true count (last + 1) is_last in
    let enough : first * n ≤ o.sound = (needed n o.sound count (some_bytes f s) k.frames).1 first (omega (arith, le, there)) in
    let reached : n * first ≤ o.sound = omega (arith, enough, mul_comm n first) in
    let half = half_of f s in
    record {
      cmpr = k.cmpr.plain;
      cmpr_most = omega (arith, ap length k.cmpr.bytes, k.cmpr_most);
      kept_most = omega arith;
      sound_fits = (let most = k.sound_fits in omega (arith, most));
      pad_even = λ e. k.pad_even (sym (same_rest 2 half.0 o.sound n first half.1 reached) ∙ e);
      even = same_rest f.channels f.octets o.sound n first (mul_comm f.octets f.channels) reached ∙ k.even;
      frames = omega (arith, fewer_frames n o.sound first (some_bytes f s) reached, k.frames, all);
    }
origin_of_cut f count first last o s k le there few false is_last =
    let n = sound_bytes f in
    let m = last + 1 - first in
    let long = mul-le-mul {n₁ = n} {m₁ = m} {n₂ = 112896} {m₂ = 1000000} (longest_sound_of_frame f s) (omega (arith, few, there)) in
    record {
      cmpr = k.cmpr.plain;
      cmpr_most = omega (arith, ap length k.cmpr.bytes, k.cmpr_most);
      kept_most = omega arith;
      sound_fits = omega (arith, long);
      pad_even = λ e. refl;
      even = ap (λ x. x % f.channels) (whole_groups f m) ∙ mul-mod_left (f.octets * m) f.channels;
      frames = whole_frames n m (some_bytes f s);
    }
  where
    whole_groups : (f : Shape) (m : ℕ) → sound_bytes f * m ≡ f.octets * m * f.channels
    whole_groups f m = mul_assoc f.octets f.channels m ∙ ap (λ x. f.octets * x) (mul_comm f.channels m) ∙ sym (mul_assoc f.octets m f.channels)
