-- The body of `PROP` by the chunks in it: its fields, what its rules ask of them, and the body with another `CMPR`.
use Rattle.std.proofs.Common.{◌≡◌, ◌⊎◌, inl, inr, ℕ, zero, suc, ◌+◌, ◌-◌, ◌*◌, ◌%◌, ◌≤◌, ◌==◌, min, Bool, true, false, if◌then◌else◌, List, [], ◌∷◌}
use Rattle.std.proofs.Common.{◌++◌, length, take, drop, flat_map, map, None, refl, sym, ap, ap₂, subst, ◌∙◌, arith, length-append}
use Rattle.std.proofs.Common.{length-drop, take_at, append-nil, ltb-false, eqb-true}
use Rattle.std.specs.Prelude.{codes, not, ◌||◌, nat_lt}
use Rattle.std.proofs.lemmas.Slice.Eq.{bytes_eq-Decides}
use Rattle.std.specs.List.{AllZip, AllByRecursion}
use Rattle.std.proofs.lemmas.Bool.{le-ltb, eq-eqb, cases_lt, or_parts}
use Rattle.std.proofs.lemmas.List.{length-map, length-take, take_all}
use Rattle.byteorder.specs.Endian.{big_from}
use Rattle.byteorder.specs.Numbers.{big_from-take}
use Rattle.dst_spec.specs.Bits.{AreBytes}
use Rattle.dsdiff_spec.specs.Bytes.{bytes_at, number_at, between, ◌is◌, ◌below◌, ◌above◌}
use Rattle.dsdiff_spec.specs.Faults.{◌otherwise◌}
use Rattle.dsdiff_spec.specs.Chunks.{Chunk, bytes_of_chunk, IsChunk, Head, Found, body_place, next_place, the_first}
use Rattle.dsdiff_spec.specs.Parts.{in_prop, local, rate_head, channels_head, cmpr_head, rate, channel_count, compression}
use Rattle.dsdiff_spec.specs.Origin.{outside}
use Rattle.dsdiff_spec.specs.Rules.{moved, type_fault, rate_fault, channels_fault, compression_fault, local_fault, is_rate}
use Rattle.dsdiff_spec.specs.Written.{part_of_prop, cmpr_in, prop_with, chunk, padded_chunk}
use Rattle.dsdiff_spec.specs.declared.faults.FileFault.TheVariants.{PropType, Rate, Channels, Compression}
use Rattle.dsdiff_spec.proofs.Lawful.{first_gives_none, later_gives_none, when_not, moved_none}
use Rattle.dsdiff_spec.proofs.Finding.{found_follow, found_at_most, found_to_the_end}
use Rattle.dsdiff_spec.proofs.Tiling.{heads_from}
use Rattle.dsdiff_spec.proofs.Sizes.{between-joined}
use Rattle.dsdiff_laws.proofs.Composed.{AreChunks, composed_is_found}
use Rattle.dsdiff_laws.proofs.Standing.{Holds, all_hold, chunks_named, named_hold}
use Rattle.dsdiff_laws.proofs.Chunked.{chunk_at, chunks_of_heads, bytes_of_heads, number_of_drop}
use Rattle.dsdiff_laws.proofs.Order.{one_among, none_chosen, chosen_is}
use Rattle.std.proofs.lemmas.List.Concat.{flat_map-append}
use Rattle.std.proofs.lemmas.List.{map-append}
use Rattle.dsdiff_laws.proofs.Filed.{body_bytes, not_false, take_whole, no_less}
use Prim.Native.String.{String}

-- ---- a body that is `SND ` and whole chunks
pub record IsProp (body : List ℕ) (ls : List Chunk) : Type 0 where
  pub whole : AllByRecursion IsChunk ls
  pub few : length ls ≤ 65536
  pub bytes : body ≡ codes "SND " ++ body_bytes ls

never : List ℕ → Bool
never id = false

whole_are : (ls : List Chunk) → AllByRecursion IsChunk ls → AreChunks (λ id. false) ls
whole_are [] all = tt
whole_are (c ∷ []) all = record { id = all.0.id; size = all.0.size; pad = inl all.0.pad }
whole_are (c ∷ d ∷ cs) all = (all.0, whole_are (d ∷ cs) all.1)

pub length-prop : (body : List ℕ) (ls : List Chunk) → IsProp body ls → length body ≡ 4 + length (body_bytes ls)
length-prop body ls h = omega (arith, ap length h.bytes, length-append (codes "SND ") (body_bytes ls))

no_rest : (w : List ℕ) → w ≡ w ++ []
no_rest w = sym (append-nil w)

pub prop_is_found : (body : List ℕ) (ls : List Chunk) → IsProp body ls → in_prop body ≡ record { heads = heads_from 4 ls; fault = None }
prop_is_found body ls h =
    composed_is_found (λ id. false) body (length body) ls (codes "SND ") [] 65536 (whole_are ls h.whole) h.few (h.bytes
    ∙ no_rest (codes "SND " ++ body_bytes ls))
    (length-prop body ls h)

pub prop_holds : (body : List ℕ) (ls : List Chunk) → IsProp body ls → AllZip (Holds body (length body)) (in_prop body).heads ls
prop_holds body ls h =
    subst (λ (f : Found). AllZip (Holds body (length body)) f.heads ls) (sym (prop_is_found body ls h))
    (all_hold (λ id. false) body (length body) ls (codes "SND ") [] (whole_are ls h.whole) (h.bytes
    ∙ no_rest (codes "SND " ++ body_bytes ls)) (inr (length-prop body ls h)))

-- ---- one chunk of a name
pub record IsOne (file : List ℕ) (end : ℕ) (hs : List Head) (c : Chunk) : Type 0 where
  pub head : Head
  pub only : hs ≡ head ∷ []
  pub holds : Holds file end head c

pub one_of : (file : List ℕ) (end : ℕ) (hs : List Head) (cs : List Chunk) (c : Chunk) → AllZip (Holds file end) hs cs → cs ≡ c ∷ [] → IsOne file end hs c
one_of file end hs cs c all e = go hs (subst (λ ds. AllZip (Holds file end) hs ds) e all)
  where
    go : (hs : List Head) → AllZip (Holds file end) hs (c ∷ []) → IsOne file end hs c
    go [] all = absurd all
    go (h ∷ []) all = record { head = h; only = refl; holds = all.0 }
    go (h ∷ i ∷ hs) all = absurd all.1

-- the other way round
pub one_chunk : (file : List ℕ) (end : ℕ) (hs : List Head) (cs : List Chunk) → AllZip (Holds file end) hs cs → length hs ≡ 1 → (c : Chunk) × (cs ≡ c ∷ [])
one_chunk file end [] cs all e = absurd (omega (arith, e))
one_chunk file end (h ∷ []) [] all e = absurd all
one_chunk file end (h ∷ []) (c ∷ []) all e = (c, refl)
one_chunk file end (h ∷ []) (c ∷ d ∷ cs) all e = absurd all.1
one_chunk file end (h ∷ i ∷ hs) cs all e = absurd (omega (arith, e))

-- numbers and bytes in its body
pub number_in_body : (file : List ℕ) (end : ℕ) (h : Head) (c : Chunk) (n : ℕ) → Holds file end h c → n ≤ length c.body →
    number_at file (body_place h) n ≡ number_at c.body 0 n
number_in_body file end h c n k le =
    let w = drop (body_place h) file in
    let size : n ≤ h.size = omega (arith, le, k.size) in
    number_there file (body_place h) n (inside w (omega (arith, le, ap length k.body, length-take h.size w)))
    ∙ sym (big_from-take 0 n h.size w (omega (arith, size)))
    ∙ ap (big_from 0 n) k.body
  where
    inside : (w : List ℕ) → n ≤ length w → n ≤ length w
    inside w le = le

    number_there : (file : List ℕ) (place n : ℕ) → n ≤ length (drop place file) → number_at file place n ≡ big_from 0 n (drop place file)
    number_there file place zero le = refl
    number_there file place (suc n) le = number_of_drop file place (suc n) (omega (arith, le, length-drop place file))

pub take_less : (n m : ℕ) (w : List ℕ) → n ≤ m → take n (take m w) ≡ take n w
take_less zero m w le = refl
take_less (suc n) zero w le = absurd (omega (arith, le))
take_less (suc n) (suc m) [] le = refl
take_less (suc n) (suc m) (x ∷ w) le = ap (λ v. x ∷ v) (take_less n m w (omega (arith, le)))

pub bytes_in_body : (file : List ℕ) (end : ℕ) (h : Head) (c : Chunk) (n : ℕ) → Holds file end h c → n ≤ length c.body →
    bytes_at file (body_place h) n ≡ take n c.body
bytes_in_body file end h c n k le =
    let w = drop (body_place h) file in
    let least : min n h.size ≡ n = omega (arith, le, k.size) in
    sym (ap (take n) (sym k.body) ∙ take_less n h.size w (omega (arith, le, k.size)))

-- ---- the fields that the rules ask for
pub record HasFields (ls : List Chunk) (fs chnl cmpr : Chunk) : Type 0 where
  pub one_fs : chunks_named "FS  " ls ≡ fs ∷ []
  pub one_chnl : chunks_named "CHNL" ls ≡ chnl ∷ []
  pub one_cmpr : chunks_named "CMPR" ls ≡ cmpr ∷ []
  pub fs_size : length fs.body ≡ 4
  pub rate : is_rate (number_at fs.body 0 4) ≡ true
  pub chnl_least : 2 ≤ length chnl.body
  pub count_least : 1 ≤ number_at chnl.body 0 2
  pub count_most : number_at chnl.body 0 2 ≤ 6
  pub chnl_ids : 2 + 4 * number_at chnl.body 0 2 ≤ length chnl.body
  pub cmpr_least : 4 ≤ length cmpr.body
  pub type : (take 4 cmpr.body ≡ codes "DSD ") ⊎ (take 4 cmpr.body ≡ codes "DST ")

-- what is read of them
pub record AreRead (body : List ℕ) (fs chnl cmpr : Chunk) : Type 0 where
  pub rate : rate body ≡ number_at fs.body 0 4
  pub count : channel_count body ≡ number_at chnl.body 0 2
  pub type : compression body ≡ take 4 cmpr.body
  pub part : cmpr_in body ≡ bytes_of_chunk cmpr

past_end : (w : List ℕ) (place next : ℕ) → between w place next ≡ between w place (min next (length w))
past_end w place next = elim (cases_lt (length w) next) [
  | inl l ↦
      let least : min next (length w) ≡ length w = omega (arith, l) in
      let short : length (drop place w) ≤ next - place = omega (arith, l, length-drop place w) in
      let all : length (drop place w) ≤ length w - place = omega (arith, length-drop place w) in
      take_all (next - place) (drop place w) short ∙ sym (ap (between w place) least ∙ take_all (length w - place) (drop place w) all)
  | inr le ↦ let least : min next (length w) ≡ next = omega (arith, le) in sym (ap (between w place) least)
]

local_is : (body : List ℕ) (ls : List Chunk) (name : String) (c : Chunk) → IsProp body ls → chunks_named name ls ≡ c ∷ [] →
    IsOne body (length body) (local name body) c
local_is body ls name c h e = one_of body (length body) (local name body) (chunks_named name ls) c
    (named_hold body (length body) name (in_prop body).heads ls (prop_holds body ls h)) e

pub fields_are_read : (body : List ℕ) (ls : List Chunk) (fs chnl cmpr : Chunk) → IsProp body ls → HasFields ls fs chnl cmpr → AreRead body fs chnl cmpr
fields_are_read body ls fs chnl cmpr h f =
    let end = length body in
    let a = local_is body ls "FS  " fs h f.one_fs in
    let b = local_is body ls "CHNL" chnl h f.one_chnl in
    let c = local_is body ls "CMPR" cmpr h f.one_cmpr in
    record {
      rate = ap (λ hs. number_at body (body_place (the_first hs)) 4) a.only ∙ number_in_body body end a.head fs 4 a.holds (omega (arith, f.fs_size));
      count = ap (λ hs. number_at body (body_place (the_first hs)) 2) b.only ∙ number_in_body body end b.head chnl 2 b.holds f.chnl_least;
      type = ap (λ hs. bytes_at body (body_place (the_first hs)) 4) c.only ∙ bytes_in_body body end c.head cmpr 4 c.holds f.cmpr_least;
      part = ap (λ hs. part_of_prop body (the_first hs)) c.only ∙ past_end body c.head.place (next_place c.head) ∙ c.holds.bytes;
    }

-- ---- no rule refuses it
type_is : (w : List ℕ) → (w ≡ codes "DSD ") ⊎ (w ≡ codes "DST ") → (not (w is "DSD " || w is "DST ")) ≡ false
type_is w (inl e) = rw e refl
type_is w (inr e) = rw e refl

begins : (body : List ℕ) (ls : List Chunk) → IsProp body ls → type_fault body ≡ None
begins body ls h =
    let long : nat_lt (length body) 4 ≡ false = le-ltb (length body) 4 (omega (arith, length-prop body ls h)) in
    let name : bytes_at body 0 4 ≡ codes "SND " = ap (take 4) h.bytes ∙ take_at (codes "SND ") (body_bytes ls) 4 refl in
    rw (long, name) refl

pub lawful_prop : (start : ℕ) (body : List ℕ) (ls : List Chunk) (fs chnl cmpr : Chunk) → IsProp body ls → HasFields ls fs chnl cmpr →
    local_fault start body ≡ None
lawful_prop start body ls fs chnl cmpr h f =
    let end = length body in
    let r = fields_are_read body ls fs chnl cmpr h f in
    let a = local_is body ls "FS  " fs h f.one_fs in
    let b = local_is body ls "CHNL" chnl h f.one_chnl in
    let c = local_is body ls "CMPR" cmpr h f.one_cmpr in
    let found = ap (λ (x : Found). moved start x.fault) (prop_is_found body ls h) in
    let one_a : (length (local "FS  " body) == 1) ≡ true = ap (λ hs. length hs == 1) a.only in
    let size_a : ((rate_head body).size == 4) ≡ true = ap (λ hs. (the_first hs).size == 4) a.only ∙ eq-eqb a.head.size 4 (a.holds.size ∙ f.fs_size) in
    let rated : is_rate (rate body) ≡ true = ap is_rate r.rate ∙ f.rate in
    let one_b : (length (local "CHNL" body) == 1) ≡ true = ap (λ hs. length hs == 1) b.only in
    let size_b : (channels_head body).size ≡ length chnl.body = ap (λ hs. (the_first hs).size) b.only ∙ b.holds.size in
    let least_b : nat_lt (channels_head body).size 2 ≡ false = le-ltb (channels_head body).size 2 (omega (arith, size_b, f.chnl_least)) in
    let least_n : nat_lt (channel_count body) 1 ≡ false = le-ltb (channel_count body) 1 (omega (arith, r.count, f.count_least)) in
    let most_n : nat_lt 6 (channel_count body) ≡ false = le-ltb 6 (channel_count body) (omega (arith, r.count, f.count_most)) in
    let ids_b : nat_lt (channels_head body).size (2 + 4 * channel_count body) ≡ false =
    le-ltb (channels_head body).size (2 + 4 * channel_count body) (omega (arith, r.count, size_b, f.chnl_ids)) in
    let one_c : (length (local "CMPR" body) == 1) ≡ true = ap (λ hs. length hs == 1) c.only in
    let size_c : (cmpr_head body).size ≡ length cmpr.body = ap (λ hs. (the_first hs).size) c.only ∙ c.holds.size in
    let least_c : nat_lt (cmpr_head body).size 4 ≡ false = le-ltb (cmpr_head body).size 4 (omega (arith, size_c, f.cmpr_least)) in
    let typed : not (compression body is "DSD " || compression body is "DST ") ≡ false =
    ap (λ w. not (w is "DSD " || w is "DST ")) r.type ∙ type_is (take 4 cmpr.body) f.type in
    let fields : rate_fault body otherwise channels_fault body otherwise compression_fault body ≡ None =
    rw (one_a, size_a, rated, one_b, least_b, least_n, most_n, ids_b, one_c, least_c, typed) refl in
    rw (begins body ls h, found) fields

-- ---- a body that no rule refuses
abbrev pub locals : List ℕ → List Chunk
locals body = map (chunk_at body (length body)) (in_prop body).heads

pub all_whole : (ls : List Chunk) → AreChunks (λ id. false) ls → AllByRecursion IsChunk ls
all_whole [] h = tt
all_whole (c ∷ []) h = (whole_by h.pad, tt)
  where
    whole_by : (length c.pad ≡ length c.body % 2) ⊎ ((length c.pad ≡ 0) × (false ≡ true)) → IsChunk c
    whole_by (inl pad) = record { id = h.id; size = h.size; pad = pad }
    whole_by (inr (none, may)) = absurd cc
all_whole (c ∷ d ∷ cs) h = (h.0, all_whole (d ∷ cs) h.1)

record ChannelsSaid (body : List ℕ) : Type 0 where
  one : length (local "CHNL" body) ≡ 1
  least : 2 ≤ (channels_head body).size
  some : 1 ≤ channel_count body
  most : channel_count body ≤ 6
  ids : 2 + 4 * channel_count body ≤ (channels_head body).size

channels_said : (body : List ℕ) → channels_fault body ≡ None → ChannelsSaid body
channels_said body none =
    let a : Bool = not (length (local "CHNL" body) == 1) in
    let b : Bool = (channels_head body).size below 2 in
    let c : Bool = outside 1 6 (channel_count body) in
    let d : Bool = (channels_head body).size below 2 + 4 * channel_count body in
    let all : (a || b || c || d) ≡ false = when_not Channels (a || b || c || d) none in
    let first = or_parts (a || b || c) d all in
    let second = or_parts (a || b) c first.0 in
    let third = or_parts a b second.0 in
    let counts = or_parts (channel_count body below 1) (channel_count body above 6) second.1 in
    record {
      one = eqb-true (length (local "CHNL" body)) 1 (not_false _ third.0);
      least = ltb-false (channels_head body).size 2 third.1;
      some = ltb-false (channel_count body) 1 counts.0;
      most = ltb-false 6 (channel_count body) counts.1;
      ids = ltb-false (channels_head body).size (2 + 4 * channel_count body) first.1;
    }

pub record IsAcceptedProp (body : List ℕ) : Type 0 where
  pub fs : Chunk
  pub chnl : Chunk
  pub cmpr : Chunk
  pub made : IsProp body (locals body)
  pub has : HasFields (locals body) fs chnl cmpr

pub accepted_prop : (start : ℕ) (body : List ℕ) → AreBytes body → local_fault start body ≡ None → IsAcceptedProp body
accepted_prop start body bytes none =
    let end = length body in
    let after_type = moved start (in_prop body).fault otherwise rate_fault body otherwise channels_fault body otherwise compression_fault body in
    let fields = rate_fault body otherwise channels_fault body otherwise compression_fault body in
    let typed = or_parts _ _ (when_not PropType _ (first_gives_none (type_fault body) after_type none)) in
    let long = ltb-false end 4 typed.0 in
    let name = (bytes_eq-Decides (bytes_at body 0 4) (codes "SND ")).0 (not_false _ typed.1) in
    let found = moved_none start (in_prop body).fault (first_gives_none _ fields (later_gives_none (type_fault body) after_type none)) in
    let all = later_gives_none (moved start (in_prop body).fault) fields (later_gives_none (type_fault body) after_type none) in
    let follow = found_follow (λ id. false) body end 65536 4 in
    let reached = found_to_the_end (λ id. false) body end 65536 4 found in
    let are = chunks_of_heads (λ id. false) body end 4 (in_prop body).heads bytes (omega arith) follow in
    let inside : body_bytes (locals body) ≡ between body 4 end =
    bytes_of_heads (λ id. false) body end 4 (in_prop body).heads bytes (omega arith) follow reached in
    let made : IsProp body (locals body) = record {
      whole = all_whole (locals body) are;
      few = omega (arith, found_at_most (λ id. false) body end 65536 4, length-map (in_prop body).heads (chunk_at body end));
      bytes = sym (ap₂ (λ (a b : List ℕ). a ++ b) (sym name) inside ∙ between-joined body 0 4 end (omega arith) (omega (arith, long))
          ∙ ap (λ k. take k body) (no_less end) ∙ take_whole body);
    } in
    let hold = prop_holds body (locals body) made in
    let behind_rate = channels_fault body otherwise compression_fault body in
    let r = or_parts _ _ (when_not Rate _ (first_gives_none (rate_fault body) behind_rate all)) in
    let r1 = or_parts _ _ r.0 in
    let one_a = one_chunk body end (local "FS  " body) (chunks_named "FS  " (locals body))
    (named_hold body end "FS  " (in_prop body).heads (locals body) hold) (eqb-true _ _ (not_false _ r1.0)) in
    let h = channels_said body (first_gives_none (channels_fault body) (compression_fault body) (later_gives_none (rate_fault body) behind_rate all)) in
    let one_b = one_chunk body end (local "CHNL" body) (chunks_named "CHNL" (locals body))
    (named_hold body end "CHNL" (in_prop body).heads (locals body) hold) h.one in
    let c = or_parts _ _ (when_not Compression _ (later_gives_none (channels_fault body) (compression_fault body)
    (later_gives_none (rate_fault body) behind_rate all))) in
    let c1 = or_parts _ _ c.0 in
    let one_c = one_chunk body end (local "CMPR" body) (chunks_named "CMPR" (locals body))
    (named_hold body end "CMPR" (in_prop body).heads (locals body) hold) (eqb-true _ _ (not_false _ c1.0)) in
    let a = local_is body (locals body) "FS  " one_a.0 made one_a.1 in
    let b = local_is body (locals body) "CHNL" one_b.0 made one_b.1 in
    let d = local_is body (locals body) "CMPR" one_c.0 made one_c.1 in
    let size_a : length one_a.0.body ≡ 4 = sym a.holds.size ∙ ap (λ hs. (the_first hs).size) (sym a.only)
    ∙ eqb-true (rate_head body).size 4 (not_false _ r1.1) in
    let size_b : (channels_head body).size ≡ length one_b.0.body = ap (λ hs. (the_first hs).size) b.only ∙ b.holds.size in
    let size_c : (cmpr_head body).size ≡ length one_c.0.body = ap (λ hs. (the_first hs).size) d.only ∙ d.holds.size in
    let least_b : 2 ≤ length one_b.0.body = omega (arith, size_b, h.least) in
    let least_c : 4 ≤ length one_c.0.body = omega (arith, size_c, ltb-false (cmpr_head body).size 4 c1.1) in
    let rate_is : rate body ≡ number_at one_a.0.body 0 4 =
    ap (λ hs. number_at body (body_place (the_first hs)) 4) a.only ∙ number_in_body body end a.head one_a.0 4 a.holds (omega (arith, size_a)) in
    let count_is : channel_count body ≡ number_at one_b.0.body 0 2 =
    ap (λ hs. number_at body (body_place (the_first hs)) 2) b.only ∙ number_in_body body end b.head one_b.0 2 b.holds least_b in
    let type_of : compression body ≡ take 4 one_c.0.body =
    ap (λ hs. bytes_at body (body_place (the_first hs)) 4) d.only ∙ bytes_in_body body end d.head one_c.0 4 d.holds least_c in
    record {
      fs = one_a.0;
      chnl = one_b.0;
      cmpr = one_c.0;
      made = made;
      has = record {
        one_fs = one_a.1;
        one_chnl = one_b.1;
        one_cmpr = one_c.1;
        fs_size = size_a;
        rate = sym (ap is_rate rate_is) ∙ not_false _ r.1;
        chnl_least = least_b;
        count_least = omega (arith, count_is, h.some);
        count_most = omega (arith, count_is, h.most);
        chnl_ids = omega (arith, count_is, size_b, h.ids);
        cmpr_least = least_c;
        type = one_type (compression body is "DSD ") (compression body is "DST ") refl refl c.1 (sym type_of);
      };
    }
  where
    one_type : {w : List ℕ} (a b : Bool) → (compression body is "DSD ") ≡ a → (compression body is "DST ") ≡ b → not (a || b) ≡ false → w ≡ compression body →
        (w ≡ codes "DSD ") ⊎ (w ≡ codes "DST ")
    one_type true b p q none e = inl (e ∙ (bytes_eq-Decides (compression body) (codes "DSD ")).0 p)
    one_type false true p q none e = inr (e ∙ (bytes_eq-Decides (compression body) (codes "DST ")).0 q)
    one_type false false p q none e = absurd cc

-- ---- the body with another `CMPR`
abbrev pub replaced : Chunk → List Chunk → List Chunk
replaced c ls = map (λ l. if l.id is "CMPR" then c else l) ls

-- a chunk that is written
abbrev pub chunk_of : String → List ℕ → ℕ → Chunk
chunk_of name body pad = record { id = codes name; body = body; pad = if length body % 2 == 1 then pad ∷ [] else [] }

pub chunk_of_bytes : (name : String) (body : List ℕ) (pad : ℕ) → bytes_of_chunk (chunk_of name body pad) ≡ padded_chunk name body pad
chunk_of_bytes name body pad = refl

replaced_bytes : (c : Chunk) (body : List ℕ) (hs : List Head) (ls : List Chunk) → AllZip (Holds body (length body)) hs ls →
    flat_map (λ h. if h.id is "CMPR" then bytes_of_chunk c else part_of_prop body h) hs ≡ body_bytes (replaced c ls)
replaced_bytes c body [] [] all = refl
replaced_bytes c body [] (l ∷ ls) all = absurd all
replaced_bytes c body (h ∷ hs) [] all = absurd all
replaced_bytes c body (h ∷ hs) (l ∷ ls) all =
    ap₂ (λ (a b : List ℕ). a ++ b) (go (h.id is "CMPR") (l.id is "CMPR") (ap (λ w. w is "CMPR") all.0.id)) (replaced_bytes c body hs ls all.1)
  where
    go : (a b : Bool) → a ≡ b → (if a then bytes_of_chunk c else part_of_prop body h) ≡ bytes_of_chunk (if b then c else l)
    go true true e = refl
    go true false e = absurd cc
    go false true e = absurd cc
    go false false e = past_end body h.place (next_place h) ∙ all.0.bytes

-- what is written as `PROP` is a chunk of such a body
abbrev pub body_with : Chunk → List Chunk → List ℕ
body_with c ls = codes "SND " ++ body_bytes (replaced c ls)

pub prop_with_is : (c : Chunk) (body : List ℕ) (ls : List Chunk) → IsProp body ls →
    prop_with body (bytes_of_chunk c) ≡ bytes_of_chunk (chunk_of "PROP" (body_with c ls) 0)
prop_with_is c body ls h = ap (λ w. chunk "PROP" (codes "SND " ++ w)) (replaced_bytes c body (in_prop body).heads ls (prop_holds body ls h))

-- its chunks and its fields
replaced_whole : (c : Chunk) (ls : List Chunk) → IsChunk c → AllByRecursion IsChunk ls → AllByRecursion IsChunk (replaced c ls)
replaced_whole c [] k all = tt
replaced_whole c (l ∷ ls) k all = (go (l.id is "CMPR"), replaced_whole c ls k all.1)
  where
    go : (b : Bool) → IsChunk (if b then c else l)
    go true = k
    go false = all.0

pub replaced_is_prop : (c : Chunk) (body : List ℕ) (ls : List Chunk) → IsChunk c → IsProp body ls → IsProp (body_with c ls) (replaced c ls)
replaced_is_prop c body ls k h = record {
  whole = replaced_whole c ls k h.whole;
  few = omega (arith, h.few, length-map ls (λ l. if l.id is "CMPR" then c else l));
  bytes = refl;
}

-- chunks of another name stay
other_named : (c : Chunk) (name : String) (ls : List Chunk) → c.id ≡ codes "CMPR" → (codes "CMPR" is name) ≡ false →
    chunks_named name (replaced c ls) ≡ chunks_named name ls
other_named c name [] e n = refl
other_named c name (l ∷ ls) e n = go (l.id is "CMPR") refl (other_named c name ls e n)
  where
    go : (b : Bool) → (l.id is "CMPR") ≡ b → chunks_named name (replaced c ls) ≡ chunks_named name ls →
        chunks_named name ((if b then c else l) ∷ replaced c ls) ≡ chunks_named name (l ∷ ls)
    go true q later =
        let here : (c.id is name) ≡ false = ap (λ w. w is name) e ∙ n in
        let there : (l.id is name) ≡ false = ap (λ w. w is name) ((bytes_eq-Decides l.id (codes "CMPR")).0 q) ∙ n in
        rw (here, there) later
    go false q later = ap (λ ds. if l.id is name then l ∷ ds else ds) later

-- the one `CMPR` is the other one
cmpr_named : (c : Chunk) (ls : List Chunk) → c.id ≡ codes "CMPR" → chunks_named "CMPR" (replaced c ls) ≡ map (λ l. c) (chunks_named "CMPR" ls)
cmpr_named c [] e = refl
cmpr_named c (l ∷ ls) e = go (l.id is "CMPR") refl (cmpr_named c ls e)
  where
    go : (b : Bool) → (l.id is "CMPR") ≡ b → chunks_named "CMPR" (replaced c ls) ≡ map (λ l. c) (chunks_named "CMPR" ls) →
        chunks_named "CMPR" ((if b then c else l) ∷ replaced c ls) ≡ map (λ l. c) (if b then (l ∷ chunks_named "CMPR" ls) else chunks_named "CMPR" ls)
    go true q later = let here : (c.id is "CMPR") ≡ true = ap (λ w. w is "CMPR") e in rw here (ap (λ ds. c ∷ ds) later)
    go false q later = rw q later

pub replaced_has_fields : (c : Chunk) (ls : List Chunk) (fs chnl cmpr : Chunk) → HasFields ls fs chnl cmpr → c.id ≡ codes "CMPR" → 4 ≤ length c.body →
    (take 4 c.body ≡ codes "DSD ") ⊎ (take 4 c.body ≡ codes "DST ") → HasFields (replaced c ls) fs chnl c
replaced_has_fields c ls fs chnl cmpr f e least type = record {
  one_fs = other_named c "FS  " ls e refl ∙ f.one_fs;
  one_chnl = other_named c "CHNL" ls e refl ∙ f.one_chnl;
  one_cmpr = cmpr_named c ls e ∙ ap (map (λ l. c)) f.one_cmpr;
  fs_size = f.fs_size;
  rate = f.rate;
  chnl_least = f.chnl_least;
  count_least = f.count_least;
  count_most = f.count_most;
  chnl_ids = f.chnl_ids;
  cmpr_least = least;
  type = type;
}

-- where it has one `CMPR`, the chunks around it stay
replaced_others : (c : Chunk) (ls : List Chunk) → AllByRecursion (λ l. (l.id is "CMPR") ≡ false) ls → replaced c ls ≡ ls
replaced_others c [] all = refl
replaced_others c (l ∷ ls) all = let here = all.0 in rw here (ap (λ ds. l ∷ ds) (replaced_others c ls all.1))

pub record AroundOne (ls : List Chunk) (cmpr : Chunk) : Type 0 where
  pub before : List Chunk
  pub behind : List Chunk
  pub parts : ls ≡ before ++ cmpr ∷ behind
  pub name : cmpr.id ≡ codes "CMPR"
  pub others_before : AllByRecursion (λ l. (l.id is "CMPR") ≡ false) before
  pub others_behind : AllByRecursion (λ l. (l.id is "CMPR") ≡ false) behind

pub around_cmpr : (ls : List Chunk) (cmpr : Chunk) → chunks_named "CMPR" ls ≡ cmpr ∷ [] → AroundOne ls cmpr
around_cmpr ls cmpr e =
    let o = one_among (λ c. c.id is "CMPR") ls cmpr e in
    record {
      before = o.before;
      behind = o.behind;
      parts = o.parts;
      name = (bytes_eq-Decides cmpr.id (codes "CMPR")).0 (chosen_is (λ c. c.id is "CMPR") ls cmpr o e);
      others_before = none_chosen (λ c. c.id is "CMPR") o.before o.none_before;
      others_behind = none_chosen (λ c. c.id is "CMPR") o.behind o.none_behind;
    }

pub replaced_is : (c : Chunk) (ls : List Chunk) (cmpr : Chunk) (a : AroundOne ls cmpr) → replaced c ls ≡ a.before ++ c ∷ a.behind
replaced_is c ls cmpr a =
    let here : (cmpr.id is "CMPR") ≡ true = ap (λ w. w is "CMPR") a.name in
    ap (replaced c) a.parts
    ∙ map-append (λ l. if l.id is "CMPR" then c else l) a.before (cmpr ∷ a.behind)
    ∙ ap₂ (λ (x y : List Chunk). x ++ y) (replaced_others c a.before a.others_before)
    (rw here (ap (λ ds. c ∷ ds) (replaced_others c a.behind a.others_behind)))

pub replaced_back : (c : Chunk) (ls : List Chunk) (cmpr : Chunk) → chunks_named "CMPR" ls ≡ cmpr ∷ [] → c.id ≡ codes "CMPR" → replaced cmpr (replaced c ls) ≡ ls
replaced_back c ls cmpr e name =
    let a = around_cmpr ls cmpr e in
    let is_c : (c.id is "CMPR") ≡ true = ap (λ w. w is "CMPR") name in
    ap (replaced cmpr) (replaced_is c ls cmpr a)
    ∙ map-append (λ l. if l.id is "CMPR" then cmpr else l) a.before (c ∷ a.behind)
    ∙ ap₂ (λ (x y : List Chunk). x ++ y) (replaced_others cmpr a.before a.others_before)
    (rw is_c (ap (λ ds. cmpr ∷ ds) (replaced_others cmpr a.behind a.others_behind)))
    ∙ sym a.parts

pub length-replaced : (c : Chunk) (ls : List Chunk) (cmpr : Chunk) → chunks_named "CMPR" ls ≡ cmpr ∷ [] →
    length (body_bytes (replaced c ls)) + length (bytes_of_chunk cmpr) ≡ length (body_bytes ls) + length (bytes_of_chunk c)
length-replaced c ls cmpr e =
    let a = around_cmpr ls cmpr e in
    let new = ap length (ap body_bytes (replaced_is c ls cmpr a) ∙ flat_map-append bytes_of_chunk a.before (c ∷ a.behind)) in
    let old = ap length (ap body_bytes a.parts ∙ flat_map-append bytes_of_chunk a.before (cmpr ∷ a.behind)) in
    omega (
      arith,
      new,
      old,
      length-append (body_bytes a.before) (bytes_of_chunk c ++ body_bytes a.behind),
      length-append (bytes_of_chunk c) (body_bytes a.behind),
      length-append (body_bytes a.before) (bytes_of_chunk cmpr ++ body_bytes a.behind),
      length-append (bytes_of_chunk cmpr) (body_bytes a.behind),
    )
