-- What encoding writes of a DSF file is decoded to that file again, and to no other.
use Rattle.std.proofs.Common.{◌≡◌, inl, inr, ℕ, ◌+◌, ◌-◌, ◌*◌, ◌/◌, ◌%◌, ◌<◌, ◌≤◌, List, [], ◌∷◌, ◌++◌, map, length, take, refl, sym, ap, ap₂, subst}
use Rattle.std.proofs.Common.{◌∙◌, arith, None}
use Rattle.std.specs.List.{AllByRecursion, AllZip, concat}
use Rattle.std.proofs.lemmas.Nat.{mul-le}
use Rattle.std.proofs.Math.Nat.{mul-mod_left, mul-le-mul_right, lt-div-mul-add}
use Rattle.byteorder.specs.Endian.{big_bytes}
use Rattle.byteorder.specs.Numbers.{big_number-reads_back}
use Rattle.dst_spec.specs.Bits.{AreBytes}
use Rattle.dst_spec.specs.Sample.{Shape, IsShape, sound_bytes}
use Rattle.dsdiff_spec.specs.Bytes.{number_at, ◌is◌}
use Rattle.dsdiff_spec.specs.Chunks.{Chunk, bytes_of_chunk, Found, body_place, body_of, named}
use Rattle.dsdiff_spec.specs.Form.{Form, shape, shape_of, frames_for, sound_bytes_of}
use Rattle.dsdiff_spec.specs.Parts.{form_end, top_level, behind_form}
use Rattle.dsdiff_spec.specs.Rules.{accepted}
use Rattle.dsdiff_spec.specs.Refusal.{refusal}
use Rattle.dsdiff_spec.specs.Words.{encode}
use Rattle.dsdiff_spec.specs.Made.{plain_form}
use Rattle.dsdiff_spec.specs.Written.{form_of}
use Rattle.dsdiff_spec.specs.Coded.{Picks, pieces, stored_frames}
use Rattle.dsdiff_spec.specs.Decoded.{frames_of}
use Rattle.dsdiff_spec.specs.Dsf.{Dsf, dsf_of, dsf_fault, octets, rows, dsf_sample, dsdiff, dsfk_heads, dsf_said, dsf_in, usual_type, dsf_with, bare}
use Rattle.dsdiff_spec.specs.Dsf.{sample_to, to_dsf, ToDsf}
use Rattle.dsdiff_spec.specs.Form.{size_of_sound}
use Rattle.dsdiff_spec.specs.Samples.{sample_in}
use Rattle.dsdiff_spec.specs.Laws.{ArePicks, IsPlainFile, coded_file, DsfLaw}
use Rattle.dsdiff_spec.proofs.CodedFiles.{some_bytes}
use Rattle.dsdiff_spec.proofs.Tiling.{heads_from}
use Rattle.dsdiff_spec.proofs.MadeLengths.{sound_is_long}
use Rattle.dsdiff_laws.proofs.Standing.{Holds}
use Rattle.dsdiff_laws.proofs.Filed.{IsFile, file_holds, found_is}
use Rattle.dsdiff_laws.proofs.Places.{one_named, head_behind, stands_behind, number_inside}
use Rattle.dsdiff_laws.proofs.CodedChunks.{coded_prop, coded_chunks, dst_chunk, dsti_chunk, entries_of, origin_of_parts}
use Rattle.dsdiff_laws.proofs.Acceptance.{IsEncoded, encoded_is, coded_form, walk_of_coded}
use Rattle.dsdiff_laws.proofs.Restoring.{same_shape, meant}
use Rattle.dsdiff_laws.proofs.Joined.{pieces_join, one_meaning}
use Rattle.dsdiff_laws.proofs.MadeFile.{IsMade, made_prop_body}
use Rattle.dsf_files.specs.Standing.{sound}
use Rattle.dsf_files.proofs.PlainBytes.{form_is_bytes}
use Rattle.dsf_files.proofs.Reading.{quotient_below}
use Rattle.dsf_laws.proofs.Accepted.{IsAcceptedDsf, accepted_dsf}
use Rattle.dsf_laws.proofs.Alike.{with_alike, samples_again}
use Rattle.dsf_laws.proofs.Chunks.{AreFour, same_keys, four}
use Rattle.dsf_laws.proofs.PlainForm.{dsf_chunks, is_file, is_accepted, its_channels, its_multiple, its_sound}

-- what `DSFK` says
abbrev pub dsfk_body : Dsf → List ℕ
dsfk_body d = 1 ∷ big_bytes 8 d.samples ++ big_bytes 4 d.type ++ d.bits ∷ []

form_is : (f : List ℕ) → dsdiff f ≡ form_of
    (map bytes_of_chunk (dsf_chunks (dsf_of f).channels (dsf_of f).multiple (sound f (dsf_of f)) (dsfk_body (dsf_of f))))
unfolding plain_form
form_is f = refl

-- frames by bytes of one channel are frames by bytes of all
same_frames_for : (n o c : ℕ) → 0 < n → 1 ≤ c → frames_for (n * c) (o * c) ≤ frames_for n o
same_frames_for n o c some least =
    let q = (o + n - 1) / n in
    let above = lt-div-mul-add {a = o + n - 1} {b = n} some in
    let few : o ≤ q * n = omega (arith, above) in
    let times : o * c ≤ q * n * c = mul-le-mul_right c few in
    let next : (q + 1) * (n * c) ≡ q * n * c + n * c = omega arith in
    let one : 1 ≤ n * c = mul-le 1 1 n c some least in
    let below = quotient_below (o * c + n * c - 1) (n * c) (q + 1) (omega (arith, times, next, one)) in
    omega (arith, below)

module _ (f : List ℕ) (picks : Picks) (bytes : AreBytes f) (a : IsAcceptedDsf f) (are : ArePicks picks)
  where
    abbrev d : Dsf
    d = dsf_of f

    abbrev g : List ℕ
    g = dsdiff f

    is_made : IsMade (dsf_of f).channels (dsf_of f).multiple
    is_made = record { least = a.least; most = a.most; rate = a.rate }

    small_order : (dsf_of f).bits < 256
    small_order = elim a.order [ inl e ↦ omega (arith, e) | inr e ↦ omega (arith, e) ]

    form_bytes : AreBytes (dsdiff f)
    form_bytes = form_is_bytes f a.least a.most small_order

    -- ---- the plain form
    abbrev s : List ℕ
    s = sound f (dsf_of f)

    s_long : length (sound f (dsf_of f)) ≡ octets (dsf_of f) * (dsf_of f).channels
    s_long = sound_is_long (dsf_sample f) (dsf_of f).channels (octets (dsf_of f))

    s_whole : length (sound f (dsf_of f)) % (dsf_of f).channels ≡ 0
    s_whole = ap (λ n. n % (dsf_of f).channels) s_long ∙ mul-mod_left (octets (dsf_of f)) (dsf_of f).channels

    s_few : frames_for (sound_bytes (shape_of (dsf_of f).channels (dsf_of f).multiple)) (length (sound f (dsf_of f))) ≤ 1000000
    s_few =
        let some : 0 < 4704 * (dsf_of f).multiple =
        elim a.rate [ inl e ↦ omega (arith, e) | inr (inl e) ↦ omega (arith, e) | inr (inr e) ↦ omega (arith, e) ] in
        let less = same_frames_for (4704 * (dsf_of f).multiple) (octets (dsf_of f)) (dsf_of f).channels some a.least in
        let same : frames_for (4704 * (dsf_of f).multiple * (dsf_of f).channels) (length (sound f (dsf_of f)))
        ≡ frames_for (4704 * (dsf_of f).multiple * (dsf_of f).channels) (octets (dsf_of f) * (dsf_of f).channels) =
        ap (frames_for (4704 * (dsf_of f).multiple * (dsf_of f).channels)) s_long in
        omega (arith, less, same, a.few)

    bytes_here : AreBytes (form_of (map bytes_of_chunk (dsf_chunks (dsf_of f).channels (dsf_of f).multiple (sound f (dsf_of f)) (dsfk_body (dsf_of f)))))
    bytes_here = subst AreBytes (form_is f) form_bytes

    pub accepts_at : (level : ℕ) → refusal (encode level) (dsdiff f) ≡ None
    accepts_at level =
        ap (refusal (encode level)) (form_is f)
        ∙ is_accepted (dsf_of f).channels (dsf_of f).multiple (sound f (dsf_of f)) (dsfk_body (dsf_of f)) is_made refl s_whole s_few bytes_here level

    accepts : refusal (encode 1) (dsdiff f) ≡ None
    accepts = accepts_at 1

    plain_file : IsPlainFile (dsdiff f)
    plain_file = (form_bytes, accepts)

    e : IsEncoded (dsdiff f) picks
    e = encoded_is (dsdiff f) picks plain_file are

    formed_here : IsFile (dsdiff f) (dsf_chunks (dsf_of f).channels (dsf_of f).multiple (sound f (dsf_of f)) (dsfk_body (dsf_of f))) []
    formed_here =
        subst (λ w. IsFile w (dsf_chunks (dsf_of f).channels (dsf_of f).multiple (sound f (dsf_of f)) (dsfk_body (dsf_of f))) []) (sym (form_is f))
        (is_file (dsf_of f).channels (dsf_of f).multiple (sound f (dsf_of f)) (dsfk_body (dsf_of f)) is_made refl s_whole s_few bytes_here)

    heads_here : (top_level (dsdiff f)).heads ≡ heads_from 16 (dsf_chunks (dsf_of f).channels (dsf_of f).multiple (sound f (dsf_of f)) (dsfk_body (dsf_of f)))
    heads_here = ap (λ (x : Found). x.heads) (found_is (dsdiff f) _ [] formed_here)

    -- its chunks are those four
    are_four : AreFour e.p.parts.front e.p.parts.middle e.p.parts.last (dsfk_body (dsf_of f))
    are_four =
        let p = e.p.parts in
        let cs = (p.version ∷ p.front ++ p.prop ∷ p.middle) ++ p.sound ∷ p.last in
        let ds = dsf_chunks (dsf_of f).channels (dsf_of f).multiple (sound f (dsf_of f)) (dsfk_body (dsf_of f)) in
        let theirs = subst (λ hs. AllZip (Holds (dsdiff f) (form_end (dsdiff f))) hs cs) (sym p.heads)
        (file_holds (dsdiff f) cs (behind_form (dsdiff f)) p.formed) in
        let ours = subst (λ hs. AllZip (Holds (dsdiff f) (form_end (dsdiff f))) hs ds) (sym heads_here) (file_holds (dsdiff f) ds [] formed_here) in
        four p.version p.prop p.sound p.front p.middle p.last _ (made_prop_body (dsf_of f).channels (dsf_of f).multiple) (sound f (dsf_of f))
        (dsfk_body (dsf_of f))
        p.apart_front.props p.apart_middle.sounds (same_keys (dsdiff f) (form_end (dsdiff f)) (top_level (dsdiff f)).heads cs ds theirs ours)

    -- ---- the coded form
    abbrev coded_one : List ℕ
    coded_one = coded_file picks (dsdiff f)

    abbrev form' : Form
    form' = accepted (coded_file picks (dsdiff f))

    abbrev stored : List (List ℕ)
    stored = stored_frames picks (dsdiff f) (accepted (dsdiff f))

    abbrev before : List Chunk
    before = e.p.parts.version ∷ coded_prop e.p ∷ dst_chunk stored ∷ dsti_chunk (entries_of e.p stored) ∷ origin_of_parts e.p (accepted (dsdiff f)) ∷ []

    in_order : coded_chunks e.p (accepted (dsdiff f)) stored ≡ before ++ are_four.dsfk ∷ []
    in_order =
        let rest = dst_chunk stored ∷ dsti_chunk (entries_of e.p stored) ∷ origin_of_parts e.p (accepted (dsdiff f)) ∷ [] in
        same_chunks e.p.parts.version (coded_prop e.p) rest e.p.parts.front e.p.parts.middle e.p.parts.last are_four.dsfk are_four.front_none
        are_four.middle_none are_four.last_one
      where
        same_chunks : (v p : Chunk) (rest front middle last : List Chunk) (k : Chunk) → front ≡ [] → middle ≡ [] → last ≡ k ∷ [] →
            (v ∷ front ++ p ∷ middle) ++ (rest ++ last) ≡ (v ∷ p ∷ rest) ++ k ∷ []
        same_chunks v p rest front middle last k x y z = rw (x, y, z) refl

    made : IsFile (coded_file picks (dsdiff f)) (before ++ are_four.dsfk ∷ []) []
    made = subst (λ cs. IsFile (coded_file picks (dsdiff f)) cs []) in_order e.made

    one_dsfk : dsfk_heads form' ≡ head_behind before are_four.dsfk ∷ []
    one_dsfk =
        ap (λ (x : Form). named "DSFK" x.chunks) (coded_form (dsdiff f) picks e)
        ∙ ap (λ (x : Found). named "DSFK" x.heads) (found_is (coded_file picks (dsdiff f)) (before ++ are_four.dsfk ∷ []) [] made)
        ∙ one_named (λ id. id is "DSFK") before [] are_four.dsfk
        (ap (λ id. id is "DSFK") e.p.parts.version_id, (refl, (refl, (refl, (refl, tt))))) (ap (λ id. id is "DSFK") are_four.id) tt

    held : Holds (coded_file picks (dsdiff f)) (form_end (coded_file picks (dsdiff f))) (head_behind before are_four.dsfk) are_four.dsfk
    held = stands_behind (coded_file picks (dsdiff f)) before [] are_four.dsfk [] made

    number_said : (i n : ℕ) → i + n ≤ 14 → number_at (coded_file picks (dsdiff f)) (body_place (head_behind before are_four.dsfk) + i) n ≡ number_at
        (dsfk_body (dsf_of f)) i n
    number_said i n within =
        number_inside (coded_file picks (dsdiff f)) (form_end (coded_file picks (dsdiff f))) (head_behind before are_four.dsfk) are_four.dsfk i n held
        (omega (arith, within, ap length are_four.body))
        ∙ ap (λ w. number_at w i n) are_four.body

    its_shape : shape form' ≡ shape_of (dsf_of f).channels (dsf_of f).multiple
    its_shape =
        same_shape (dsdiff f) picks e
        ∙ ap (λ w. shape (accepted w)) (form_is f)
        ∙ ap₂ shape_of (its_channels (dsf_of f).channels (dsf_of f).multiple (sound f (dsf_of f)) (dsfk_body (dsf_of f)) is_made refl s_whole s_few bytes_here)
        (its_multiple (dsf_of f).channels (dsf_of f).multiple (sound f (dsf_of f)) (dsfk_body (dsf_of f)) is_made refl s_whole s_few bytes_here)

    said_again : dsf_in (coded_file picks (dsdiff f)) form' ≡ dsf_of f
    said_again =
        let h = head_behind before are_four.dsfk in
        let file = coded_file picks (dsdiff f) in
        let channels : form'.channels ≡ (dsf_of f).channels = ap (λ (x : Shape). x.channels) its_shape in
        let octets_are : 4704 * form'.multiple ≡ 4704 * (dsf_of f).multiple = ap (λ (x : Shape). x.octets) its_shape in
        let multiple : form'.multiple ≡ (dsf_of f).multiple = omega (arith, octets_are) in
        let samples : number_at file (body_place h + 1) 8 ≡ (dsf_of f).samples =
        number_said 1 8 (omega arith) ∙ big_number-reads_back 8 (dsf_of f).samples [] (omega (arith, a.samples)) in
        let type : number_at file (body_place h + 9) 4 ≡ (dsf_of f).type =
        number_said 9 4 (omega arith) ∙ big_number-reads_back 4 (dsf_of f).type [] (omega (arith, a.type)) in
        let bits : number_at file (body_place h + 13) 1 ≡ (dsf_of f).bits = number_said 13 1 (omega arith) ∙ omega arith in
        ap (λ hs. elim hs as (λ _. Dsf) [
          | [] ↦ dsf_said form' (8 * (size_of_sound form' / form'.channels)) (usual_type form'.channels) 1
          | h ∷ hs ↦ dsf_said form' (number_at file (body_place h + 1) 8) (number_at file (body_place h + 9) 4) (number_at file (body_place h + 13) 1)
        ]) one_dsfk
        ∙ same_said form'.channels form'.multiple _ _ _ (dsf_of f).channels (dsf_of f).multiple _ _ _ channels multiple samples type bits
      where
        same_said : (p q r t u p' q' r' t' u' : ℕ) → p ≡ p' → q ≡ q' → r ≡ r' → t ≡ t' → u ≡ u' →
            ◌≡◌ {A = Dsf} (record { channels = p; multiple = q; samples = r; type = t; bits = u })
            (record { channels = p'; multiple = q'; samples = r'; type = t'; bits = u' })
        same_said p q r t u p' q' r' t' u' v w x y z = rw (v, w, x, y, z) refl

    -- ---- the sounds of its frames, joined, begin with the sound
    abbrev list : List (List ℕ)
    list = pieces (sound_bytes_of (accepted (dsdiff f))) (body_of (dsdiff f) (accepted (dsdiff f)).sound)

    body_here : body_of (dsdiff f) (accepted (dsdiff f)).sound ≡ sound f (dsf_of f)
    body_here =
        ap (λ w. body_of w (accepted w).sound) (form_is f)
        ∙ its_sound (dsf_of f).channels (dsf_of f).multiple (sound f (dsf_of f)) (dsfk_body (dsf_of f)) is_made refl s_whole s_few bytes_here

    begins : take (octets (dsf_of f) * (dsf_of f).channels) (concat list) ≡ sound f (dsf_of f)
    begins =
        ap (λ n. take n (concat list)) (sym s_long ∙ ap length (sym body_here))
        ∙ pieces_join (sound_bytes_of (accepted (dsdiff f))) (body_of (dsdiff f) (accepted (dsdiff f)).sound) (some_bytes (shape (accepted (dsdiff f))) e.shape)
        ∙ body_here

    is_bare : to_dsf list (coded_file picks (dsdiff f)) form' (rows (dsf_in (coded_file picks (dsdiff f)) form')) ≡ bare f
    is_bare =
        ap (λ (x : Dsf). dsf_with x (sample_to x.samples (sample_in (concat list) x.channels)) (rows x)) said_again
        ∙ with_alike (dsf_of f) (sample_to (dsf_of f).samples (sample_in (concat list) (dsf_of f).channels)) (dsf_sample f) (rows (dsf_of f))
        (λ c t below. samples_again f (concat list) c t below begins)

    pub comes_back : ToDsf (coded_file picks (dsdiff f)) form' (bare f)
    comes_back = record { sounds = list; each = meant (dsdiff f) picks e; written = sym is_bare }

    pub alone : (other : List ℕ) → ToDsf (coded_file picks (dsdiff f)) form' other → other ≡ bare f
    alone other o =
        let bytes_of_frames = subst (AllByRecursion AreBytes) (sym (walk_of_coded (dsdiff f) picks e).stored) e.stored.bytes in
        let same = one_meaning (shape form') (frames_of (coded_file picks (dsdiff f)) form') o.sounds list
        (subst IsShape (sym (same_shape (dsdiff f) picks e)) e.shape) bytes_of_frames o.each (meant (dsdiff f) picks e) in
        o.written
        ∙ ap (λ ss. to_dsf ss (coded_file picks (dsdiff f)) form' (rows (dsf_in (coded_file picks (dsdiff f)) form'))) same
        ∙ is_bare

pub samples_come_back : DsfLaw
samples_come_back f picks bytes none are =
    let a = accepted_dsf f bytes none in
    (comes_back f picks bytes a are, alone f picks bytes a are)

-- picks of no parameters at all are enough to tell that the plain form is accepted
pub plain_form_accepted : (f : List ℕ) → AreBytes f → dsf_fault f ≡ None → (level : ℕ) → refusal (encode level) (dsdiff f) ≡ None
plain_form_accepted f bytes none level =
    accepts_at f (λ sound shape. []) bytes (accepted_dsf f bytes none) (λ sound shape lawful sounded. (omega arith, tt)) level
