-- A form of chunks that keeps all rules of a coded form but those of `KEPT`, and what is read in it.
use Rattle.std.proofs.Common.{◌≡◌, ℕ, ◌+◌, ◌<◌, ◌≤◌, ◌^◌, ◌==◌, true, false, if◌then◌else◌, List, [], ◌∷◌, ◌++◌, length, take, get_or, filter, None, refl}
use Rattle.std.proofs.Common.{ap, ap₂, subst, ◌∙◌, arith, length-append, append_assoc}
use Rattle.std.specs.Prelude.{codes, not, nat_lt, bytes_eq}
use Rattle.std.proofs.lemmas.Bool.{le-ltb, eq-eqb}
use Rattle.byteorder.specs.Endian.{big_from, big_bytes}
use Rattle.byteorder.specs.Numbers.{big_number-reads_back}
use Rattle.dst_spec.proofs.Lists.{all_append}
use Rattle.dsdiff_spec.specs.Bytes.{bytes_at, number_at, ◌is◌}
use Rattle.dsdiff_spec.specs.Faults.{◌when◌}
use Rattle.dsdiff_spec.specs.Chunks.{Chunk, Head, Found, body_place, body_of, named, the_first}
use Rattle.dsdiff_spec.specs.Form.{plain, coded}
use Rattle.dsdiff_spec.specs.Parts.{form_end, top_level, all, prop_head, prop, sounds, sound_head, kind, compression, frame_count, frame_rate}
use Rattle.dsdiff_spec.specs.Rules.{opening_fault, is_version, version_fault, local_fault, prop_fault, sound_fault, has_bad_origin, coded_fault}
use Rattle.dsdiff_spec.specs.Rules.{kind_fault, form_fault}
use Rattle.dsdiff_spec.specs.Written.{frte}
use Rattle.dsdiff_spec.specs.declared.faults.FileFault.TheVariants.{Version}
use Rattle.dsdiff_spec.proofs.Tiling.{heads_from, head_of, big_from-behind}
use Rattle.dsdiff_laws.proofs.Standing.{Holds}
use Rattle.dsdiff_laws.proofs.Filed.{IsFile, body_bytes, found_is, opens}
use Rattle.dsdiff_laws.proofs.Props.{IsProp, HasFields, AreRead, fields_are_read, lawful_prop, bytes_in_body}
use Rattle.dsdiff_laws.proofs.Places.{Lacks, one_named, head_behind, stands_behind, byte_in_body, number_inside}
use Rattle.dsdiff_laws.proofs.FormParts.{prop_id, sound_id, AreApart}
use Rattle.dsdiff_laws.proofs.CodedFile.{length-body, length-frte}

-- ---- the body of `DST `
frte_count : (n : ℕ) (rest : List ℕ) → n < 2 ^ 32 → number_at (frte n ++ rest) 12 4 ≡ n
frte_count n rest small =
    let front = codes "FRTE" ++ big_bytes 8 6 in
    let twelve : length front + 0 ≡ 12 = refl in
    ap (λ w. big_from 12 4 w) (regroup n rest)
    ∙ big_from-behind 0 4 front (big_bytes 4 n ++ (big_bytes 2 75 ++ rest))
    ∙ big_number-reads_back 4 n (big_bytes 2 75 ++ rest) small
  where
    regroup : (n : ℕ) (rest : List ℕ) → frte n ++ rest ≡ (codes "FRTE" ++ big_bytes 8 6) ++ (big_bytes 4 n ++ (big_bytes 2 75 ++ rest))
    regroup n rest = refl

pub record HasFrte (body : List ℕ) (n : ℕ) : Type 0 where
  pub name : take 4 body ≡ codes "FRTE"
  pub size : number_at body 4 8 ≡ 6
  pub count : number_at body 12 4 ≡ n
  pub rate : number_at body 16 2 ≡ 75
  pub long : 18 ≤ length body

pub frte_stands : (n : ℕ) (rest : List ℕ) → n < 2 ^ 32 → HasFrte (frte n ++ rest) n
frte_stands n rest small = record {
  name = refl;
  size = refl;
  count = frte_count n rest small;
  rate = refl;
  long = omega (arith, length-append (frte n) rest, length-frte n);
}

-- ---- the chunks of the form
pub record IsCodedForm (g : List ℕ) : Type 0 where
  pub version : Chunk
  pub front : List Chunk
  pub prop : Chunk
  pub middle : List Chunk
  pub sound : Chunk
  pub last : List Chunk
  pub made : IsFile g ((version ∷ front ++ prop ∷ middle) ++ sound ∷ last) []
  pub version_id : version.id ≡ codes "FVER"
  pub version_size : length version.body ≡ 4
  pub version_byte : get_or version.body 0 0 ≡ 1
  pub is_prop : prop.id ≡ codes "PROP"
  pub is_sound : sound.id ≡ codes "DST "
  pub apart_front : AreApart (version ∷ front)
  pub apart_middle : AreApart middle
  pub apart_last : AreApart last
  pub locals : List Chunk
  pub fs : Chunk
  pub chnl : Chunk
  pub cmpr : Chunk
  pub lawful : IsProp prop.body locals
  pub has : HasFields locals fs chnl cmpr
  pub type : take 4 cmpr.body ≡ codes "DST "
  pub prop_most : length prop.body ≤ 65536
  pub count : ℕ
  pub frte : HasFrte sound.body count
  pub few : count ≤ 1000000

module _ (g : List ℕ) (f : IsCodedForm g)
  where
    abbrev pre : List Chunk
    pre = f.version ∷ f.front ++ f.prop ∷ f.middle

    heads_are : (top_level g).heads ≡ heads_from 16 (pre ++ f.sound ∷ f.last)
    heads_are = ap (λ (x : Found). x.heads) (found_is g (pre ++ f.sound ∷ f.last) [] f.made)

    pub chunks_are : (top_level g).heads ≡ heads_from 16 ((f.version ∷ f.front ++ f.prop ∷ f.middle) ++ f.sound ∷ f.last)
    chunks_are = heads_are

    -- `PROP`
    abbrev behind_prop : List Chunk
    behind_prop = f.middle ++ f.sound ∷ f.last

    regrouped : pre ++ f.sound ∷ f.last ≡ f.version ∷ f.front ++ f.prop ∷ behind_prop
    regrouped = append_assoc (f.version ∷ f.front) (f.prop ∷ f.middle) (f.sound ∷ f.last)

    prop_named : all "PROP" g ≡ head_behind (f.version ∷ f.front) f.prop ∷ []
    prop_named =
        let lacks : Lacks prop_id behind_prop =
        all_append (λ (d : Chunk). prop_id d.id ≡ false) f.middle (f.sound ∷ f.last) f.apart_middle.props (ap prop_id f.is_sound, f.apart_last.props) in
        ap (named "PROP") (heads_are ∙ ap (heads_from 16) regrouped)
        ∙ one_named prop_id (f.version ∷ f.front) behind_prop f.prop f.apart_front.props (ap prop_id f.is_prop) lacks

    prop_head_is : prop_head g ≡ head_behind (f.version ∷ f.front) f.prop
    prop_head_is = ap the_first prop_named

    prop_holds : Holds g (form_end g) (head_behind (f.version ∷ f.front) f.prop) f.prop
    prop_holds = stands_behind g (f.version ∷ f.front) behind_prop f.prop [] (subst (λ cs. IsFile g cs []) regrouped f.made)

    pub prop_read : prop g ≡ f.prop.body
    prop_read = ap (body_of g) prop_head_is ∙ prop_holds.body

    are_read : AreRead f.prop.body f.fs f.chnl f.cmpr
    are_read = fields_are_read f.prop.body f.locals f.fs f.chnl f.cmpr f.lawful f.has

    -- the sound chunk
    pre_lacks_sounds : Lacks sound_id pre
    pre_lacks_sounds =
        all_append (λ (d : Chunk). sound_id d.id ≡ false) (f.version ∷ f.front) (f.prop ∷ f.middle) f.apart_front.sounds
        (ap sound_id f.is_prop, f.apart_middle.sounds)

    sound_named : sounds g ≡ head_behind pre f.sound ∷ []
    sound_named =
        ap (filter (λ (h : Head). sound_id h.id)) heads_are
        ∙ one_named sound_id pre f.last f.sound pre_lacks_sounds (ap sound_id f.is_sound) f.apart_last.sounds

    pub sound_read : sound_head g ≡ head_behind (f.version ∷ f.front ++ f.prop ∷ f.middle) f.sound
    sound_read = ap the_first sound_named

    pub sound_stands : Holds g (form_end g) (head_behind (f.version ∷ f.front ++ f.prop ∷ f.middle) f.sound) f.sound
    sound_stands = stands_behind g pre f.last f.sound [] f.made

    pub kind_read : kind g ≡ coded
    kind_read = ap (λ (h : Head). if h.id is "DSD " then plain else coded) sound_read ∙ ap (λ (w : List ℕ). if w is "DSD " then plain else coded) f.is_sound

    -- ---- rule by rule
    version_rules : version_fault g ≡ None
    version_rules =
        let h = head_of f.version.id 16 (length f.version.body) in
        let first : the_first (top_level g).heads ≡ h = ap the_first heads_are in
        let holds = stands_behind g [] ((f.front ++ f.prop ∷ f.middle) ++ f.sound ∷ f.last) f.version [] f.made in
        let byte : get_or g 28 0 ≡ 1 = byte_in_body g (form_end g) h f.version 0 holds (omega (arith, f.version_size)) ∙ f.version_byte in
        let name = f.version_id in
        let size : (length f.version.body == 4) ≡ true = eq-eqb (length f.version.body) 4 f.version_size in
        let is_right : is_version g h ≡ true = rw (name, size, byte) refl in
        ap (λ (i : Head). Version when not (is_version g i)) first ∙ rw is_right refl

    prop_rules : prop_fault g ≡ None
    prop_rules =
        let some : (length (all "PROP" g) == 0) ≡ false = ap (λ hs. length hs == 0) prop_named in
        let once : nat_lt 1 (length (all "PROP" g)) ≡ false = ap (λ hs. nat_lt 1 (length hs)) prop_named in
        let size : (prop_head g).size ≡ length f.prop.body = ap (λ (h : Head). h.size) prop_head_is in
        let most : nat_lt 65536 (prop_head g).size ≡ false = le-ltb 65536 (prop_head g).size (omega (arith, size, f.prop_most)) in
        let fields = lawful_prop (body_place (prop_head g)) f.prop.body f.locals f.fs f.chnl f.cmpr f.lawful f.has in
        let local : local_fault (body_place (prop_head g)) (prop g) ≡ None = ap (local_fault (body_place (prop_head g))) prop_read ∙ fields in
        rw (some, once, most) local

    sound_rules : sound_fault g ≡ None
    sound_rules =
        let some : (length (sounds g) == 0) ≡ false = ap (λ hs. length hs == 0) sound_named in
        let once : nat_lt 1 (length (sounds g)) ≡ false = ap (λ hs. nat_lt 1 (length hs)) sound_named in
        let type : compression (prop g) ≡ codes "DST " = ap compression prop_read ∙ are_read.type ∙ f.type in
        let name : (sound_head g).id ≡ codes "DST " = ap (λ (h : Head). h.id) sound_read ∙ f.is_sound in
        let same : bytes_eq (compression (prop g)) (sound_head g).id ≡ true = ap₂ bytes_eq type name in
        let there : (prop_head g).place ≡ 16 + length (body_bytes (f.version ∷ f.front)) = ap (λ (h : Head). h.place) prop_head_is in
        let here : (sound_head g).place ≡ 16 + length (body_bytes pre) = ap (λ (h : Head). h.place) sound_read in
        let ordered : nat_lt (sound_head g).place (prop_head g).place ≡ false =
        le-ltb (sound_head g).place (prop_head g).place (omega (arith, there, here, length-body (f.version ∷ f.front) (f.prop ∷ f.middle))) in
        rw (some, once, same, ordered) refl

    -- ---- the frames
    sound_place : body_place (sound_head g) ≡ body_place (head_behind pre f.sound)
    sound_place = ap body_place sound_read

    pub count_read : frame_count g ≡ f.count
    count_read =
        ap (λ (i : ℕ). number_at g (i + 12) 4) sound_place
        ∙ number_inside g (form_end g) (head_behind pre f.sound) f.sound 12 4 sound_stands (omega (arith, f.frte.long))
        ∙ f.frte.count

    rate_read : frame_rate g ≡ 75
    rate_read =
        ap (λ (i : ℕ). number_at g (i + 16) 2) sound_place
        ∙ number_inside g (form_end g) (head_behind pre f.sound) f.sound 16 2 sound_stands (omega (arith, f.frte.long))
        ∙ f.frte.rate

    frte_name : bytes_at g (body_place (sound_head g)) 4 ≡ codes "FRTE"
    frte_name =
        ap (λ (i : ℕ). bytes_at g i 4) sound_place
        ∙ bytes_in_body g (form_end g) (head_behind pre f.sound) f.sound 4 sound_stands (omega (arith, f.frte.long))
        ∙ f.frte.name

    frte_size : number_at g (body_place (sound_head g) + 4) 8 ≡ 6
    frte_size =
        ap (λ (i : ℕ). number_at g (i + 4) 8) sound_place
        ∙ number_inside g (form_end g) (head_behind pre f.sound) f.sound 4 8 sound_stands (omega (arith, f.frte.long))
        ∙ f.frte.size

    coded_rules : has_bad_origin g ≡ false → coded_fault g ≡ None
    coded_rules origin =
        let size : (sound_head g).size ≡ length f.sound.body = ap (λ (h : Head). h.size) sound_read in
        let long : nat_lt (sound_head g).size 18 ≡ false = le-ltb (sound_head g).size 18 (omega (arith, size, f.frte.long)) in
        let name = frte_name in
        let six = frte_size in
        let rate = rate_read in
        let few : nat_lt 1000000 (frame_count g) ≡ false = le-ltb 1000000 (frame_count g) (omega (arith, count_read, f.few)) in
        rw (long, name, six, rate, few, origin) refl

    pub all_rules : has_bad_origin g ≡ false → form_fault g ≡ None
    unfolding form_fault
    all_rules origin =
        let opening : opening_fault g ≡ None = opens g (pre ++ f.sound ∷ f.last) [] f.made in
        rw (opening, version_rules, prop_rules, sound_rules) (ap (λ k. kind_fault k g) kind_read ∙ coded_rules origin)
