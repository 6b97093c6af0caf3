-- The chunks of a file that keeps all rules of a form: `FVER`, others, `PROP`, others, the sound, others.
use Rattle.std.proofs.Common.{◌≡◌, ◌⊎◌, inl, inr, ℕ, zero, suc, ◌+◌, ◌≤◌, ◌==◌, Bool, true, false, if◌then◌else◌, List, [], ◌∷◌, ◌++◌}
use Rattle.std.proofs.Common.{length, take, drop, get_or, filter, None, refl, sym, ap, subst, ◌∙◌, arith, append_assoc, ltb-false}
use Rattle.std.proofs.Common.{eqb-true}
use Rattle.std.specs.Prelude.{codes, not, ◌||◌, bytes_eq}
use Rattle.std.specs.List.{AllByRecursion, AllZip}
use Rattle.std.proofs.lemmas.Slice.Eq.{bytes_eq-Decides}
use Rattle.std.proofs.lemmas.Bool.{and_parts}
use Rattle.std.proofs.lemmas.List.Elements.{filter-append}
use Rattle.dst_spec.specs.Bits.{AreBytes}
use Rattle.dst_spec.proofs.Lists.{all_append, AreBytes-take, AreBytes-drop}
use Rattle.dsdiff_spec.specs.Bytes.{◌is◌, ◌above◌}
use Rattle.dsdiff_spec.specs.Faults.{◌when◌, ◌otherwise◌}
use Rattle.dsdiff_spec.specs.Chunks.{Chunk, bytes_of_chunk, Head, body_place, body_of, named, the_first}
use Rattle.dsdiff_spec.specs.Parts.{form_end, top_level, all, prop_head, prop, sounds, sound_head, kind, compression, behind_form}
use Rattle.dsdiff_spec.specs.Rules.{opening_fault, is_version, version_fault, prop_chunk_fault, local_fault, prop_fault, sound_fault}
use Rattle.dsdiff_spec.specs.Rules.{kind_fault, form_fault}
use Rattle.dsdiff_spec.specs.declared.faults.FileFault.TheVariants.{Version, PropMissing, PropTwice, PropTooLong, Compression, SoundMissing}
use Rattle.dsdiff_spec.specs.declared.faults.FileFault.TheVariants.{SoundTwice}
use Rattle.dsdiff_spec.proofs.Lawful.{first_gives_none, later_gives_none, when_not}
use Rattle.dsdiff_spec.proofs.Tiling.{heads_from, head_of}
use Rattle.dsdiff_laws.proofs.Composed.{AreChunks, first_ends, others_are, length_of_ending}
use Rattle.dsdiff_laws.proofs.Standing.{Holds, chosen_hold}
use Rattle.dsdiff_laws.proofs.Filed.{IsFile, may_lack, body_bytes, chunks_in, opened_is_file, opened_heads, file_holds, not_false}
use Rattle.dsdiff_laws.proofs.Props.{IsAcceptedProp, accepted_prop, one_chunk, fields_are_read, locals}
use Rattle.dsdiff_laws.proofs.Order.{OneOf, chosen_is, one_among, none_chosen, chosen_none, Lies, heads_lie, heads-append, parts_are}
use Rattle.dsdiff_laws.proofs.Places.{Lacks, none_named, one_named, head_behind, stands_behind, byte_in_body}

-- ---- ids
abbrev pub prop_id : List ℕ → Bool
prop_id id = id is "PROP"

abbrev pub sound_id : List ℕ → Bool
sound_id id = id is "DSD " || id is "DST "

-- chunks that are neither
pub record AreApart (cs : List Chunk) : Type 0 where
  pub props : Lacks prop_id cs
  pub sounds : Lacks sound_id cs

abbrev pub prop_body : List ℕ → List ℕ
prop_body file = prop file

pub record FormParts (file : List ℕ) : Type 0 where
  pub version : Chunk
  pub front : List Chunk
  pub prop : Chunk
  pub middle : List Chunk
  pub sound : Chunk
  pub last : List Chunk
  pub formed : IsFile file ((version ∷ front ++ prop ∷ middle) ++ sound ∷ last) (behind_form file)
  pub bytes : AreBytes file
  pub version_id : version.id ≡ codes "FVER"
  pub version_size : length version.body ≡ 4
  pub version_byte : get_or version.body 0 0 ≡ 1
  pub is_prop : prop.id ≡ codes "PROP"
  pub is_sound : sound.id ≡ (sound_head file).id
  pub sounds : sound_id sound.id ≡ true
  pub apart_front : AreApart (version ∷ front)
  pub apart_middle : AreApart middle
  pub apart_last : AreApart last
  pub lawful : IsAcceptedProp prop.body
  pub type : take 4 lawful.cmpr.body ≡ sound.id
  pub prop_most : length prop.body ≤ 65536
  pub heads : (top_level file).heads ≡ heads_from 16 ((version ∷ front ++ prop ∷ middle) ++ sound ∷ last)
  pub prop_head_size : (prop_head file).size ≡ length prop.body
  pub sound_head_is : sound_head file ≡ head_behind (version ∷ front ++ prop ∷ middle) sound
  pub sound_holds : Holds file (form_end file) (head_behind (version ∷ front ++ prop ∷ middle) sound) sound
  pub prop_is : prop_body file ≡ prop.body

-- ---- lists of one
one_of_two : {A : Type 0} (xs ys : List A) (x : A) → xs ++ ys ≡ x ∷ [] → ((xs ≡ x ∷ []) × (ys ≡ [])) ⊎ ((xs ≡ []) × (ys ≡ x ∷ []))
one_of_two [] ys x e = inr (refl, e)
one_of_two (y ∷ []) [] x e = inl (e, refl)
one_of_two (y ∷ []) (z ∷ ys) x e = absurd cc
one_of_two (y ∷ z ∷ xs) ys x e = absurd cc

-- ---- one chunk of the sound
sound_is_one : (file : List ℕ) → sound_fault file ≡ None → length (sounds file) ≡ 1
sound_is_one file none =
    let later = PropMissing when (prop_head file).place above (sound_head file).place in
    let third = Compression when not (bytes_eq (compression (prop file)) (sound_head file).id) otherwise later in
    let second = SoundTwice when length (sounds file) above 1 otherwise third in
    let a = when_not SoundMissing (length (sounds file) == 0) (first_gives_none _ second none) in
    let b = when_not SoundTwice (length (sounds file) above 1) (first_gives_none _ third (later_gives_none _ second none)) in
    one (length (sounds file)) a (ltb-false 1 (length (sounds file)) b)
  where
    one : (n : ℕ) → (n == 0) ≡ false → n ≤ 1 → n ≡ 1
    one zero e le = absurd cc
    one (suc zero) e le = refl
    one (suc (suc n)) e le = absurd (omega (arith, le))

sound_at : (file : List ℕ) → AreBytes file → opening_fault file ≡ None → sound_fault file ≡ None →
    (x : Chunk) × (sound_id x.id ≡ true) × OneOf (λ c. sound_id c.id) (chunks_in file) x
sound_at file bytes opened none =
    let cs = chunks_in file in
    let f = opened_is_file file bytes opened in
    let hold = subst (λ hs. AllZip (Holds file (form_end file)) hs cs) (opened_heads file bytes opened) (file_holds file cs (behind_form file) f) in
    let those = chosen_hold file (form_end file) (λ h. sound_id h.id) (λ c. sound_id c.id) (λ h c k. ap sound_id k.id) (top_level file).heads cs hold in
    let one = one_chunk file (form_end file) (sounds file) (filter (λ c. sound_id c.id) cs) those (sound_is_one file none) in
    let o = one_among (λ c. sound_id c.id) cs one.0 one.1 in
    (one.0, chosen_is (λ c. sound_id c.id) cs one.0 o one.1, o)

-- ---- one `PROP`, and it stands before the sound
prop_is_one : (file : List ℕ) → prop_chunk_fault file ≡ None → (length (all "PROP" file) ≡ 1) × ((prop_head file).size ≤ 65536)
prop_is_one file none =
    let third = PropTooLong when (prop_head file).size above 65536 in
    let second = PropTwice when length (all "PROP" file) above 1 otherwise third in
    let a = when_not PropMissing (length (all "PROP" file) == 0) (first_gives_none _ second none) in
    let n = later_gives_none _ second none in
    let b = when_not PropTwice (length (all "PROP" file) above 1) (first_gives_none _ third n) in
    let c = when_not PropTooLong ((prop_head file).size above 65536) (later_gives_none _ third n) in
    (one (length (all "PROP" file)) a (ltb-false 1 (length (all "PROP" file)) b), ltb-false 65536 (prop_head file).size c)
  where
    one : (n : ℕ) → (n == 0) ≡ false → n ≤ 1 → n ≡ 1
    one zero e le = absurd cc
    one (suc zero) e le = refl
    one (suc (suc n)) e le = absurd (omega (arith, le))

sound_is_no_prop : (w : List ℕ) → sound_id w ≡ true → prop_id w ≡ false
sound_is_no_prop w e = go (w is "DSD ") refl (w is "DST ") refl e
  where
    go : (a : Bool) → (w is "DSD ") ≡ a → (b : Bool) → (w is "DST ") ≡ b → (a || b) ≡ true → prop_id w ≡ false
    go true p b q h = ap prop_id ((bytes_eq-Decides w (codes "DSD ")).0 p)
    go false p true q h = ap prop_id ((bytes_eq-Decides w (codes "DST ")).0 q)
    go false p false q h = absurd cc

-- `PROP` is among the chunks before the sound
prop_at : (file : List ℕ) (before behind : List Chunk) (x : Chunk) → AreBytes file → opening_fault file ≡ None → chunks_in file ≡ before ++ x ∷ behind →
    sound_id x.id ≡ true → Lacks sound_id before → Lacks sound_id behind → length (all "PROP" file) ≡ 1 →
    ((prop_head file).place above (sound_head file).place) ≡ false →
    (p : Chunk) × (filter (λ c. prop_id c.id) before ≡ p ∷ []) × (filter (λ c. prop_id c.id) behind ≡ [])
prop_at file before behind x bytes opened parts sounds_x lacks lacked one order =
    let cs = chunks_in file in
    let f = opened_is_file file bytes opened in
    let heads : (top_level file).heads ≡ heads_from 16 (before ++ x ∷ behind) = sym (opened_heads file bytes opened) ∙ ap (heads_from 16) parts in
    let hold = subst (λ hs. AllZip (Holds file (form_end file)) hs cs) (opened_heads file bytes opened) (file_holds file cs (behind_form file) f) in
    let those = chosen_hold file (form_end file) (λ h. prop_id h.id) (λ c. prop_id c.id) (λ h c k. ap prop_id k.id) (top_level file).heads cs hold in
    let a = one_chunk file (form_end file) (all "PROP" file) (filter (λ c. prop_id c.id) cs) those one in
    let not_x : prop_id x.id ≡ false = sound_is_no_prop x.id sounds_x in
    let q : Chunk → Bool = λ c. prop_id c.id in
    let split : filter q before ++ filter q behind ≡ a.0 ∷ [] =
    sym (ap (filter q) parts ∙ filter-append q before (x ∷ behind)
    ∙ ap (λ (b : Bool). filter q before ++ (if b then x ∷ filter q behind else filter q behind)) not_x) ∙ a.1 in
    either (one_of_two (filter q before) (filter q behind) a.0 split) heads (subst (AreChunks may_lack) parts f.are)
  where
    n : ℕ
    n = 16 + length (body_bytes before)

    next : ℕ
    next = n + length (bytes_of_chunk x)

    sound_place : (top_level file).heads ≡ heads_from 16 (before ++ x ∷ behind) → (sound_head file).place ≡ n
    sound_place heads = ap (λ hs. (the_first (filter (λ (h : Head). sound_id h.id) hs)).place) heads
        ∙ ap (λ hs. (the_first hs).place) (one_named sound_id before behind x lacks sounds_x lacked)

    first_lies : (hs : List Head) (most : ℕ) → length hs ≡ 1 → AllByRecursion (Lies next most) hs → next ≤ (the_first hs).place
    first_lies [] most e all = absurd (omega (arith, e))
    first_lies (h ∷ hs) most e all = all.0.0

    kept_lie : (f : Head → Bool) (least most : ℕ) (hs : List Head) → AllByRecursion (Lies least most) hs → AllByRecursion (Lies least most) (filter f hs)
    kept_lie f least most [] all = tt
    kept_lie f least most (h ∷ hs) all = go (f h) (kept_lie f least most hs all.1)
      where
        go : (b : Bool) → AllByRecursion (Lies least most) (filter f hs) → AllByRecursion (Lies least most) (if b then h ∷ filter f hs else filter f hs)
        go true later = (all.0, later)
        go false later = later

    either : {p : Chunk} → ((filter (λ c. prop_id c.id) before ≡ p ∷ []) × (filter (λ c. prop_id c.id) behind ≡ []))
        ⊎ ((filter (λ c. prop_id c.id) before ≡ []) × (filter (λ c. prop_id c.id) behind ≡ p ∷ [])) →
        (top_level file).heads ≡ heads_from 16 (before ++ x ∷ behind) → AreChunks may_lack (before ++ x ∷ behind) →
        (p : Chunk) × (filter (λ c. prop_id c.id) before ≡ p ∷ []) × (filter (λ c. prop_id c.id) behind ≡ [])
    either {p = p} (inl h) heads are = (p, h.0, h.1)
    either (inr h) heads are = absurd (
        let behind_are = (parts_are may_lack before behind x are).1 in
        let long = length_of_ending may_lack x (first_ends may_lack x behind behind_are) in
        let not_x : prop_id x.id ≡ false = sound_is_no_prop x.id sounds_x in
        let g : Head → Bool = λ i. prop_id i.id in
        let those : all "PROP" file ≡ filter g (heads_from next behind) =
        ap (filter g) (heads ∙ heads-append 16 before (x ∷ behind)) ∙ filter-append g (heads_from 16 before) (heads_from n (x ∷ behind))
        ∙ ap (λ hs. hs ++ filter g (heads_from n (x ∷ behind))) (none_named prop_id 16 before (none_chosen (λ c. prop_id c.id) before h.0))
        ∙ ap (λ (b : Bool). if b then head_of x.id n (length x.body) ∷ filter g (heads_from next behind) else filter g (heads_from next behind)) not_x in
        let lie = kept_lie g next (next + length (body_bytes behind)) (heads_from next behind)
        (heads_lie may_lack next next (next + length (body_bytes behind)) behind (others_are may_lack x behind behind_are) (omega arith) (omega arith)) in
        let least : next ≤ (prop_head file).place =
        subst (λ hs. next ≤ (the_first hs).place) (sym those) (first_lies (filter g (heads_from next behind)) (next + length (body_bytes behind))
        (sym (ap length those) ∙ one) lie) in
        let most = ltb-false (sound_head file).place (prop_head file).place order in
        omega (arith, long, least, most, sound_place heads)
        )

apart_by : (cs : List Chunk) → filter (λ c. prop_id c.id) cs ≡ [] → filter (λ c. sound_id c.id) cs ≡ [] → AreApart cs
apart_by cs p q = record { props = none_chosen (λ c. prop_id c.id) cs p; sounds = none_chosen (λ c. sound_id c.id) cs q }

-- what is chosen of none of two lists is chosen of neither
none_of_parts : {A : Type 0} (p : A → Bool) (xs ys : List A) → filter p (xs ++ ys) ≡ [] → (filter p xs ≡ []) × (filter p ys ≡ [])
none_of_parts p xs ys e = go (filter p xs) (filter p ys) (sym (filter-append p xs ys) ∙ e)
  where
    go : {A : Type 0} (us vs : List A) → us ++ vs ≡ [] → (us ≡ []) × (vs ≡ [])
    go [] vs e = (refl, e)
    go (u ∷ us) vs e = absurd cc

-- ---- all rules but those of a kind, one by one
pub record FormRules (file : List ℕ) : Type 0 where
  pub opened : opening_fault file ≡ None
  pub version : is_version file (the_first (top_level file).heads) ≡ true
  pub one_prop : length (all "PROP" file) ≡ 1
  pub prop_most : (prop_head file).size ≤ 65536
  pub local : local_fault (body_place (prop_head file)) (prop file) ≡ None
  pub sounded : sound_fault file ≡ None
  pub compressed : compression (prop file) ≡ (sound_head file).id
  pub ordered : ((prop_head file).place above (sound_head file).place) ≡ false

pub form_rules_of : (file : List ℕ) → form_fault file ≡ None → FormRules file
unfolding form_fault
form_rules_of file none =
    let r4 = kind_fault (kind file) file in
    let r3 = sound_fault file otherwise r4 in
    let r2 = prop_fault file otherwise r3 in
    let r1 = version_fault file otherwise r2 in
    let n1 = later_gives_none (opening_fault file) r1 none in
    let n2 = later_gives_none (version_fault file) r2 n1 in
    let n3 = later_gives_none (prop_fault file) r3 n2 in
    let prop_rules = first_gives_none (prop_fault file) r3 n2 in
    let sound_rules = first_gives_none (sound_fault file) r4 n3 in
    let s3 = PropMissing when (prop_head file).place above (sound_head file).place in
    let s2 = Compression when not (bytes_eq (compression (prop file)) (sound_head file).id) otherwise s3 in
    let s1 = SoundTwice when length (sounds file) above 1 otherwise s2 in
    let m1 = later_gives_none (SoundMissing when length (sounds file) == 0) s1 sound_rules in
    let m2 = later_gives_none (SoundTwice when length (sounds file) above 1) s2 m1 in
    let one = prop_is_one file (first_gives_none (prop_chunk_fault file) (local_fault (body_place (prop_head file)) (prop file)) prop_rules) in
    record {
      opened = first_gives_none (opening_fault file) r1 none;
      version = not_false _ (when_not Version _ (first_gives_none (version_fault file) r2 n1));
      one_prop = one.0;
      prop_most = one.1;
      local = later_gives_none (prop_chunk_fault file) (local_fault (body_place (prop_head file)) (prop file)) prop_rules;
      sounded = sound_rules;
      compressed = (bytes_eq-Decides (compression (prop file)) (sound_head file).id).0 (not_false _ (when_not Compression _ (first_gives_none _ s3 m2)));
      ordered = when_not PropMissing _ (later_gives_none (Compression when not (bytes_eq (compression (prop file)) (sound_head file).id)) s3 m2);
    }

-- ---- the parts
-- what stands where
record IsSplit (file : List ℕ) (v : Chunk) (front : List Chunk) (p : Chunk) (middle : List Chunk) (x : Chunk) (last : List Chunk) : Type 0 where
  formed : IsFile file ((v ∷ front ++ p ∷ middle) ++ x ∷ last) (behind_form file)
  heads : (top_level file).heads ≡ heads_from 16 ((v ∷ front ++ p ∷ middle) ++ x ∷ last)
  sound : sound_id x.id ≡ true
  prop : p.id ≡ codes "PROP"
  front_apart : AreApart (v ∷ front)
  middle_apart : AreApart middle
  last_apart : AreApart last

made_of : (file : List ℕ) (v : Chunk) (front : List Chunk) (p : Chunk) (middle : List Chunk) (x : Chunk) (last : List Chunk) →
    AreBytes file → FormRules file → IsSplit file v front p middle x last → FormParts file
made_of file v front p middle x last bytes r s =
    let pre = v ∷ front ++ p ∷ middle in
    let end = form_end file in
    let lacks : Lacks sound_id pre =
    all_append (λ (c : Chunk). sound_id c.id ≡ false) (v ∷ front) (p ∷ middle) s.front_apart.sounds (ap sound_id s.prop, s.middle_apart.sounds) in
    let sound_head_is : sound_head file ≡ head_behind pre x =
    ap (λ hs. the_first (filter (λ (h : Head). sound_id h.id) hs)) s.heads ∙ ap the_first (one_named sound_id pre last x lacks s.sound s.last_apart.sounds) in
    let sound_holds = stands_behind file pre last x (behind_form file) s.formed in
    let assoc : (v ∷ front ++ p ∷ middle) ++ x ∷ last ≡ v ∷ front ++ p ∷ (middle ++ x ∷ last) = append_assoc (v ∷ front) (p ∷ middle) (x ∷ last) in
    let formed = subst (λ cs. IsFile file cs (behind_form file)) assoc s.formed in
    let not_prop : prop_id x.id ≡ false = sound_is_no_prop x.id s.sound in
    let lacks_prop : Lacks prop_id (middle ++ x ∷ last) = all_append (λ (c : Chunk). prop_id c.id ≡ false) middle (x ∷ last) s.middle_apart.props
    (not_prop, s.last_apart.props) in
    let prop_head_is : prop_head file ≡ head_behind (v ∷ front) p =
    ap (λ hs. the_first (named "PROP" hs)) (s.heads ∙ ap (heads_from 16) assoc)
    ∙ ap the_first (one_named prop_id (v ∷ front) (middle ++ x ∷ last) p s.front_apart.props (ap prop_id s.prop) lacks_prop) in
    let prop_holds = stands_behind file (v ∷ front) (middle ++ x ∷ last) p (behind_form file) formed in
    let prop_is : prop file ≡ p.body = ap (body_of file) prop_head_is ∙ prop_holds.body in
    let prop_bytes : AreBytes p.body = subst AreBytes prop_is
    (AreBytes-take (prop_head file).size (drop (body_place (prop_head file)) file) (AreBytes-drop (body_place (prop_head file)) file bytes)) in
    let lawful = accepted_prop (body_place (prop_head file)) p.body prop_bytes
    (subst (λ w. local_fault (body_place (prop_head file)) w ≡ None) prop_is r.local) in
    let are_read = fields_are_read p.body (locals p.body) lawful.fs lawful.chnl lawful.cmpr lawful.made lawful.has in
    let type : take 4 lawful.cmpr.body ≡ x.id =
    sym are_read.type ∙ ap compression (sym prop_is) ∙ r.compressed ∙ ap (λ (h : Head). h.id) sound_head_is in
    let first_holds = stands_behind file [] ((front ++ p ∷ middle) ++ x ∷ last) v (behind_form file) s.formed in
    let first_is : is_version file (head_of v.id 16 (length v.body)) ≡ true = sym (ap (λ hs. is_version file (the_first hs)) s.heads) ∙ r.version in
    let tests = and_parts _ _ first_is in
    let test = and_parts _ _ tests.0 in
    let size : length v.body ≡ 4 = eqb-true (length v.body) 4 test.1 in
    record {
      version = v;
      front = front;
      prop = p;
      middle = middle;
      sound = x;
      last = last;
      formed = s.formed;
      bytes = bytes;
      version_id = (bytes_eq-Decides v.id (codes "FVER")).0 test.0;
      version_size = size;
      version_byte = sym (byte_in_body file end (head_of v.id 16 (length v.body)) v 0 first_holds (omega (arith, size))) ∙ eqb-true _ 1 tests.1;
      is_prop = s.prop;
      is_sound = sym (ap (λ (h : Head). h.id) sound_head_is);
      sounds = s.sound;
      apart_front = s.front_apart;
      apart_middle = s.middle_apart;
      apart_last = s.last_apart;
      lawful = lawful;
      type = type;
      prop_most = omega (arith, ap (λ (h : Head). h.size) prop_head_is, r.prop_most);
      prop_head_size = ap (λ (h : Head). h.size) prop_head_is;
      heads = s.heads;
      sound_head_is = sound_head_is;
      sound_holds = sound_holds;
      prop_is = prop_is;
    }

pub form_parts : (file : List ℕ) → AreBytes file → form_fault file ≡ None → FormParts file
form_parts file bytes none =
    let r = form_rules_of file none in
    let x = sound_at file bytes r.opened r.sounded in
    let o = x.2 in
    let cs = chunks_in file in
    let f = opened_is_file file bytes r.opened in
    let again = opened_heads file bytes r.opened in
    let lacks = none_chosen (λ c. sound_id c.id) o.before o.none_before in
    let lacked = none_chosen (λ c. sound_id c.id) o.behind o.none_behind in
    let pr = prop_at file o.before o.behind x.0 bytes r.opened o.parts x.1 lacks lacked r.one_prop r.ordered in
    let op = one_among (λ c. prop_id c.id) o.before pr.0 pr.1 in
    let is_prop = chosen_is (λ c. prop_id c.id) o.before pr.0 op pr.1 in
    let whole : cs ≡ (op.before ++ pr.0 ∷ op.behind) ++ x.0 ∷ o.behind = o.parts ∙ ap (λ ds. ds ++ x.0 ∷ o.behind) op.parts in
    let sounds = none_of_parts (λ c. sound_id c.id) op.before (pr.0 ∷ op.behind) (ap (filter (λ (c : Chunk). sound_id c.id)) (sym op.parts) ∙ o.none_before) in
    by_front r op.before op.behind pr.0 x.0 o.behind (subst (λ ds. IsFile file ds (behind_form file)) whole f) (sym again
    ∙ ap (heads_from 16) whole) x.1
    ((bytes_eq-Decides pr.0.id (codes "PROP")).0 is_prop)
    (apart_by op.before op.none_before sounds.0)
    (apart_by op.behind op.none_behind (rest_none (λ c. sound_id c.id) pr.0 op.behind sounds.1))
    (apart_by o.behind pr.2 o.none_behind)
  where
    rest_none : (q : Chunk → Bool) (y : Chunk) (ys : List Chunk) → filter q (y ∷ ys) ≡ [] → filter q ys ≡ []
    rest_none q y ys e = chosen_none q ys (none_chosen q (y ∷ ys) e).1

    by_front : FormRules file → (pf middle : List Chunk) (p x : Chunk) (last : List Chunk) →
        IsFile file ((pf ++ p ∷ middle) ++ x ∷ last) (behind_form file) →
        (top_level file).heads ≡ heads_from 16 ((pf ++ p ∷ middle) ++ x ∷ last) → sound_id x.id ≡ true → p.id ≡ codes "PROP" →
        AreApart pf → AreApart middle → AreApart last → FormParts file
    by_front r [] middle p x last f heads sx px a b c = absurd (
        let first : is_version file (head_of p.id 16 (length p.body)) ≡ true = sym (ap (λ hs. is_version file (the_first hs)) heads) ∙ r.version in
        let fver : (p.id is "FVER") ≡ true = (and_parts _ _ (and_parts _ _ first).0).0 in
        let no : false ≡ true = sym (ap (λ w. w is "FVER") px) ∙ fver in
        cc
        )
    by_front r (v ∷ front) middle p x last f heads sx px a b c =
        made_of file v front p middle x last bytes r
        (record { formed = f; heads = heads; sound = sx; prop = px; front_apart = a; middle_apart = b; last_apart = c })
