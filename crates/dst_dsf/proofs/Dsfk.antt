-- What a coded form says of a DSF file, by its chunk `DSFK` or without one.
use Rattle.std.proofs.Common.{◌≡◌, ℕ, ◌+◌, ◌*◌, ◌/◌, ◌%◌, ◌≤◌, List, [], ◌∷◌, length, refl, sym, ap, ◌∙◌, arith, Option}
use Rattle.std.proofs.Common.{Some, None}
use Rattle.std.specs.Prelude.{not, ◌||◌, ◌==◌, option_map}
use Rattle.std.proofs.Math.Dec.{eqb-suc-zero}
use Rattle.std.proofs.Math.Nat.{mul-mod_left, div-add-mod}
use Rattle.dst_spec.specs.Sample.{sound_bytes}
use Rattle.dsdiff_spec.specs.Bytes.{bytes_at, number_at, ◌is◌}
use Rattle.dsdiff_spec.specs.Chunks.{Head, body_place}
use Rattle.dsdiff_spec.specs.Dsf.{Dsf, dsf_said, dsf_in, dsfk_heads, usual_type, is_bad_dsfk, dsfk_fault, octets}
use Rattle.dsdiff_spec.specs.Faults.{◌when◌}
use Rattle.dsdiff_spec.specs.Form.{Form, size_of_sound, plain_size}
use Rattle.dsdiff_spec.specs.declared.faults.FileFault.{FileFault}
use Rattle.dsdiff_spec.specs.declared.faults.FileFault.TheVariants.{DsfKeptBad}
use Rattle.chunk_view.proofs.InParts.{number_in_part}
use Rattle.dsdiff_chunks.specs.declared.form.CodedForm.{CodedForm}
use Rattle.dsdiff_chunks.specs.declared.lists.ChunkHead.{ChunkHead}
use Rattle.dsdiff_chunks.specs.declared.origin.Origin.{Origin}
use Rattle.dsdiff_chunks.specs.Forms.{coded_seen}
use Rattle.dsdiff_chunks.specs.Lawful.{IsOriginIfAny}
use Rattle.dsdiff_chunks.specs.Seen.{head_seen, origin_seen}
use Rattle.dsdiff_chunks.proofs.LawfulForms.{coded_parts}
use Rattle.dsdiff_chunks.proofs.Only.{only_within}
use Rattle.dst_dsf.specs.Said.{said_in, is_bad_body}

-- ---- where the one `DSFK` stands
pub dsfk_inside : (form : CodedForm) (h : ChunkHead) → dsfk_heads (coded_seen form) ≡ head_seen h ∷ [] → h.place + 12 + h.size ≤ form.end
dsfk_inside form h one = only_within (λ h. h.id is "DSFK") form.end (coded_seen form).chunks (head_seen h) one form.lawful.chunks

-- ---- what it says
said_so : (form : Form) (a b c a' b' c' : ℕ) → a ≡ a' → b ≡ b' → c ≡ c' → dsf_said form a b c ≡ dsf_said form a' b' c'
said_so form a b c a' b' c' p q r = rw (p, q, r) refl

pub dsfk_says : (file : List ℕ) (form : Form) (h : Head) (body : List ℕ) → dsfk_heads form ≡ h ∷ [] → body ≡ bytes_at file (h.place + 12) 14 →
    dsf_in file form ≡ said_in form body
dsfk_says file form h body one read =
    ap (λ hs. elim hs as (λ _. Dsf) [
      | [] ↦ dsf_said form (8 * (size_of_sound form / form.channels)) (usual_type form.channels) 1
      | h ∷ hs ↦ dsf_said form (number_at file (body_place h + 1) 8) (number_at file (body_place h + 9) 4) (number_at file (body_place h + 13) 1)
    ]) one
    ∙ said_so form _ _ _ _ _ _ (number 1 8 (omega arith)) (number 9 4 (omega arith)) (number 13 1 (omega arith))
  where
    number : (i n : ℕ) → i + n ≤ 14 → number_at file (h.place + 12 + i) n ≡ number_at body i n
    number i n within = sym (ap (λ w. number_at w i n) read ∙ number_in_part file (h.place + 12) 14 i n within)

pub dsfk_fault_is : (file : List ℕ) (form : Form) (h : Head) (body : List ℕ) → dsfk_heads form ≡ h ∷ [] → h.size ≡ 14 → body ≡ bytes_at file (h.place + 12) 14 →
    dsfk_fault file form ≡ (DsfKeptBad when is_bad_body form body)
dsfk_fault_is file form h body one size read =
    let first : number_at file (h.place + 12) 1 ≡ number_at body 0 1 =
    let same : h.place + 12 ≡ h.place + 12 + 0 = omega arith in
    ap (λ p. number_at file p 1) same ∙ sym (ap (λ w. number_at w 0 1) read ∙ number_in_part file (h.place + 12) 14 0 1 (omega arith)) in
    ap (λ hs. elim hs as (λ _. Option FileFault) [
      | [] ↦ None
      | h ∷ hs ↦ DsfKeptBad when not (length hs == 0) || is_bad_dsfk file form h
    ]) one
    ∙ ap (λ b. DsfKeptBad when b) (bad_so form h.size 14 _ _ _ _ size first (dsfk_says file form h body one read))
  where
    bad_so : (form : Form) (s s' t t' : ℕ) (d d' : Dsf) → s ≡ s' → t ≡ t' → d ≡ d' →
        (not (s == 14) || not (t == 1) || not (d.bits == 1 || d.bits == 8) || not (octets d * d.channels == size_of_sound form))
        ≡ (not (s' == 14) || not (t' == 1) || not (d'.bits == 1 || d'.bits == 8) || not (octets d' * d'.channels == size_of_sound form))
    bad_so form s s' t t' d d' p q r = rw (p, q, r) refl

-- ---- several of them
pub several_dsfk : (file : List ℕ) (form : Form) (h i : Head) (more : List Head) → dsfk_heads form ≡ h ∷ i ∷ more → dsfk_fault file form ≡ Some DsfKeptBad
several_dsfk file form h i more found =
    ap (λ hs. elim hs as (λ _. Option FileFault) [
      | [] ↦ None
      | h ∷ hs ↦ DsfKeptBad when not (length hs == 0) || is_bad_dsfk file form h
    ]) found
    ∙ ap (λ b. DsfKeptBad when not b || is_bad_dsfk file form h) (eqb-suc-zero (length more))

-- ---- the sound has as many bytes of each channel
pub whole_groups : (form : CodedForm) → size_of_sound (coded_seen form) % form.channels.channels ≡ 0
whole_groups form = go form.origin (coded_parts (coded_seen form) form.lawful refl).origin
  where
    go : (o : Option Origin) → IsOriginIfAny form.channels.channels
        (sound_bytes (record { channels = form.channels.channels; octets = 4704 * (form.channels.octets / 4704) })) form.frames (option_map origin_seen o) →
        plain_size (option_map origin_seen o) (form.frames * sound_bytes
        (record { channels = form.channels.channels; octets = 4704 * (form.channels.octets / 4704) })) % form.channels.channels ≡ 0
    go None h =
        let split : form.frames * (4704 * (form.channels.octets / 4704) * form.channels.channels)
        ≡ form.frames * (4704 * (form.channels.octets / 4704)) * form.channels.channels = omega arith in
        ap (λ n. n % form.channels.channels) split ∙ mul-mod_left (form.frames * (4704 * (form.channels.octets / 4704))) form.channels.channels
    go (Some o) h = h.whole

pub groups_times : (n c : ℕ) → n % c ≡ 0 → n ≡ (8 * (n / c) + 7) / 8 * c
groups_times n c none =
    let same : (8 * (n / c) + 7) / 8 ≡ n / c = omega arith in
    let turned : c * (n / c) ≡ n / c * c = omega arith in
    let whole = div-add-mod n c in
    omega (arith, whole, turned, none, ap (λ q. q * c) same)
