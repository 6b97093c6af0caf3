-- Where the index of a file is its walk, a frame is the same by both.
use Rattle.std.proofs.Common.{◌≡◌, ◌⊎◌, inl, inr, ◌↔◌, ℕ, zero, suc, ◌+◌, ◌-◌, ◌<◌, ◌≤◌, ◌==◌, nat_lt, if◌then◌else◌, Bool, true, false, List, [], ◌∷◌, length}
use Rattle.std.proofs.Common.{get_or, refl, ap, ap₂, sym, subst, ◌∙◌, arith, Option, Some, None, eqb-true, ltb-true}
use Rattle.std.specs.Prelude.{not, ◌&&◌}
use Rattle.std.specs.List.{AllByRecursion, enumerate_from}
use Rattle.std.proofs.lemmas.Bool.{le-ltb, ne_eqb}
use Rattle.std.proofs.lemmas.Bool.Decides.{Decides-eqb}
use Rattle.std.proofs.lemmas.List.{length-map, get_or-map}
use Rattle.std.proofs.lemmas.List.FromFn.{length-enumerate_from, get_or-enumerate_from}
use Rattle.dsdiff_spec.specs.Bytes.{bytes_at, number_at, ◌is◌, ◌above◌}
use Rattle.dsdiff_spec.specs.Faults.{◌when◌, ◌otherwise◌, first_some}
use Rattle.dsdiff_spec.specs.Chunks.{Head, named, body_place, body_end}
use Rattle.dsdiff_spec.specs.Form.{Form, longest_frame}
use Rattle.dsdiff_spec.specs.Rules.{form_fault, accepted}
use Rattle.dsdiff_spec.specs.Walk.{in_dst, frame_heads, frame_fault, walk_fault, Entry, entry_of, entries, entry, index_heads, indexed, has_index_of}
use Rattle.dsdiff_spec.specs.Walk.{names_frame, by_index_fault, same_entry, compare_fault, frame_at}
use Rattle.dsdiff_spec.specs.Words.{Command, frame}
use Rattle.dsdiff_spec.specs.Refusal.{no_frame, not_coded, not_walked, command_fault, form_refusal, refusal}
use Rattle.dsdiff_spec.specs.Outcome.{Answer, NoneRefused, nth_frame, indexed_frame, run, IsStopped, WritesSound, Does, IsDone, OfCommand}
use Rattle.dsdiff_spec.specs.Laws.{SameByIndexLaw}
use Rattle.dsdiff_spec.specs.declared.faults.FileFault.{FileFault}
use Rattle.dsdiff_spec.specs.declared.faults.FileFault.TheVariants.{IndexBad, Range}
use Rattle.dsdiff_spec.proofs.Finding.{Stands, found_stand}
use Rattle.dsdiff_spec.proofs.Lawful.{first_gives_none, later_gives_none, when_not}
use Rattle.dsdiff_spec.proofs.CodedFiles.{no_rule_fails, count_is_right, form_by, refused_by}

-- ---- a rule that fails for none of a list
of_both : {B : Type 0} (o later : Option B) → ◌≡◌ {A = Option B} (elim o [ Some y ↦ Some y | None ↦ later ]) None → (o ≡ None) × (later ≡ None)
of_both (Some y) later e = absurd cc
of_both None later e = (refl, e)

none_of_all : {A B : Type 0} (rule : A → Option B) (xs : List A) (i : ℕ) (d : A) → i < length xs → first_some rule xs ≡ None → rule (get_or xs i d) ≡ None
none_of_all rule [] i d l e = absurd (omega arith)
none_of_all rule (x ∷ xs) zero d l e = (of_both (rule x) (first_some rule xs) e).0
none_of_all rule (x ∷ xs) (suc i) d l e = none_of_all rule xs i d (omega arith) (of_both (rule x) (first_some rule xs) e).1

-- ---- the frames of a walk
frames_among : (P : Head → Type 0) (hs : List Head) → AllByRecursion P hs → AllByRecursion (λ h. P h × ((h.id is "DSTF") ≡ true)) (named "DSTF" hs)
frames_among P [] all = tt
frames_among P (h ∷ hs) all = go (h.id is "DSTF") refl (frames_among P hs all.1)
  where
    go : (b : Bool) → (h.id is "DSTF") ≡ b → AllByRecursion (λ h. P h × ((h.id is "DSTF") ≡ true)) (named "DSTF" hs) →
        AllByRecursion (λ h. P h × ((h.id is "DSTF") ≡ true)) (if b then (h ∷ named "DSTF" hs) else named "DSTF" hs)
    go true e rest = ((all.0, e), rest)
    go false e rest = rest

one_of_all : {A : Type 0} (P : A → Type 0) (xs : List A) (i : ℕ) (d : A) → i < length xs → AllByRecursion P xs → P (get_or xs i d)
one_of_all P [] i d l all = absurd (omega arith)
one_of_all P (x ∷ xs) zero d l all = all.0
one_of_all P (x ∷ xs) (suc i) d l all = one_of_all P xs i d (omega arith) all.1

abbrev IsFrame : List ℕ → Form → Head → Type 0
IsFrame file form h = Stands file (body_end form.sound) (body_place form.sound + 18) h × ((h.id is "DSTF") ≡ true)

frame_stands : (file : List ℕ) (form : Form) (k : ℕ) (d : Head) → k < length (frame_heads file form) → IsFrame file form (get_or (frame_heads file form) k d)
frame_stands file form k d l =
    let end = body_end form.sound in
    let place = body_place form.sound + 18 in
    one_of_all (IsFrame file form) (frame_heads file form) k d l
    (frames_among (Stands file end place) (in_dst file form).heads (found_stand (λ id. true) file end 4000000 place))

-- such a frame is named by its entry
frame_is_named : (file : List ℕ) (form : Form) (h : Head) → IsFrame file form h → names_frame file form (entry_of h) ≡ true
frame_is_named file form h (stands, name) =
    let e = entry_of h in
    let least = stands.1 in
    let most = stands.2 in
    let behind : nat_lt (e.offset) (body_place form.sound + 18 + 12) ≡ false = le-ltb e.offset (body_place form.sound + 18 + 12) (omega (arith, least)) in
    let before : nat_lt (body_end form.sound) (e.offset + e.size) ≡ false = le-ltb (body_end form.sound) (e.offset + e.size) (omega (arith, most)) in
    let at_head : e.offset - 12 ≡ h.place = omega arith in
    let at_size : e.offset - 8 ≡ h.place + 4 = omega arith in
    let id : bytes_at file h.place 4 ≡ h.id = sym (ap (λ (h : Head). h.id) stands.0) in
    let size : number_at file (h.place + 4) 8 ≡ h.size = sym (ap (λ (h : Head). h.size) stands.0) in
    let named : (bytes_at file (e.offset - 12) 4 is "DSTF") ≡ true = ap (λ n. bytes_at file n 4 is "DSTF") at_head ∙ ap (λ w. w is "DSTF") id ∙ name in
    let sized : (number_at file (e.offset - 8) 8 == e.size) ≡ true =
    (Decides-eqb (number_at file (e.offset - 8) 8) e.size).1 (ap (λ n. number_at file n 8) at_size ∙ size) in
    rw (behind, before, named, sized) refl

-- and isn't too long
frame_is_short : (file : List ℕ) (form : Form) (k : ℕ) (d : Head) → k < length (frame_heads file form) → walk_fault file form ≡ None →
    ((get_or (frame_heads file form) k d).size above longest_frame form) ≡ false
unfolding walk_fault
frame_is_short file form k d l none =
    let all = first_gives_none (first_some (frame_fault form) (enumerate_from 0 (frame_heads file form))) _ none in
    let here = none_of_all (frame_fault form) (enumerate_from 0 (frame_heads file form)) k (0, d)
    (omega (arith, l, length-enumerate_from 0 (frame_heads file form))) all in
    let there : get_or (enumerate_from 0 (frame_heads file form)) k (0, d) ≡ (0 + k, get_or (frame_heads file form) k d) =
    get_or-enumerate_from 0 (frame_heads file form) k (0, d) l in
    let moved = subst (λ (p : ℕ × Head). frame_fault form p ≡ None) there here in
    when_not _ _ (first_gives_none _ _ moved)

-- ---- the index
same_is_equal : (a b : Entry) → same_entry a b ≡ true → a ≡ b
same_is_equal a b e = go (a.offset == b.offset) (a.size == b.size) refl refl e
  where
    go : (p q : Bool) → (a.offset == b.offset) ≡ p → (a.size == b.size) ≡ q → (p && q) ≡ true → a ≡ b
    go true true p q h =
        let offset : a.offset ≡ b.offset = eqb-true a.offset b.offset p in
        let size : a.size ≡ b.size = eqb-true a.size b.size q in
        ap₂ {A = ℕ} {B = ℕ} {C = Entry} (λ m n. record { offset = m; size = n }) offset size
    go true false p q h = absurd cc
    go false q p r h = absurd cc

not_is_false : (b : Bool) → not b ≡ false → b ≡ true
not_is_false true e = refl
not_is_false false e = absurd cc

index_has_size : (file : List ℕ) (form : Form) → compare_fault file form ≡ None → has_index_of form form.frames ≡ true
index_has_size file form none = not_is_false (has_index_of form form.frames)
    (when_not _ _ (first_gives_none (IndexBad form.frames when not (has_index_of form form.frames)) _ none))

index_is_walk : (file : List ℕ) (form : Form) (k : ℕ) → k < length (entries file form) → compare_fault file form ≡ None →
    indexed file form k ≡ entry (entries file form) k
index_is_walk file form k l none =
    let d : Entry = record { offset = 0; size = 0 } in
    let rule : ℕ × Entry → Option FileFault = λ e. IndexBad e.0 when not (same_entry (indexed file form e.0) e.1) in
    let all = later_gives_none (IndexBad form.frames when not (has_index_of form form.frames)) _ none in
    let here = none_of_all rule (enumerate_from 0 (entries file form)) k (0, d) (omega (arith, l, length-enumerate_from 0 (entries file form))) all in
    let there : get_or (enumerate_from 0 (entries file form)) k (0, d) ≡ (0 + k, entry (entries file form) k) =
    get_or-enumerate_from 0 (entries file form) k (0, d) l in
    let moved : rule (k, entry (entries file form) k) ≡ None =
    subst (λ (p : ℕ × Entry). rule p ≡ None) (there ∙ ap {B = ℕ × Entry} (λ n. (n, entry (entries file form) k)) (omega arith)) here in
    same_is_equal (indexed file form k) (entry (entries file form) k) (not_is_false _ (when_not _ _ moved))

-- ---- so a frame that is there is found by the index without a fault
pub found_by_index : (file : List ℕ) (form : Form) (k : ℕ) → walk_fault file form ≡ None → compare_fault file form ≡ None → 1 ≤ length (index_heads form) →
    length (frame_heads file form) ≡ form.frames → k < form.frames → by_index_fault file form k ≡ None
found_by_index file form k walked compared some count l =
    let d : Head = record { id = []; place = 0; size = 0 } in
    let within : k < length (frame_heads file form) = omega (arith, count, l) in
    let long : k < length (entries file form) = omega (arith, within, length-map (frame_heads file form) entry_of) in
    let h = get_or (frame_heads file form) k d in
    let e : indexed file form k ≡ entry_of h = index_is_walk file form k long compared
    ∙ get_or-map entry_of (frame_heads file form) k d (record { offset = 0; size = 0 }) within in
    let missing : (length (index_heads form) == 0) ≡ false = ne_eqb (length (index_heads form)) 0 (λ z. absurd (omega arith)) in
    let named : names_frame file form (indexed file form k) ≡ true = ap (names_frame file form) e
    ∙ frame_is_named file form h (frame_stands file form k d within) in
    let short : ((indexed file form k).size above longest_frame form) ≡ false = ap (λ (e : Entry). e.size above longest_frame form) e
    ∙ frame_is_short file form k d within walked in
    let sized = index_has_size file form compared in
    rw (missing, sized, named, short) refl

-- ---- both commands refuse the same files
refused_by_form : (file : List ℕ) (c : Command) → form_fault file ≡ None → form_refusal c file ≡ command_fault c file (accepted file)
refused_by_form file c none = go (form_fault file) refl none
  where
    go : (o : Option FileFault) → form_fault file ≡ o → o ≡ None → refused_by (form_by o file) c file ≡ command_fault c file (accepted file)
    go (Some fault) e h = absurd cc
    go None e h = refl

no_other : (later : Option FileFault) → None otherwise later ≡ later
no_other later = refl

by_walk : (file : List ℕ) (k : ℕ) → form_fault file ≡ None → not_walked file (accepted file) ≡ None →
    refusal (frame k false) file ≡ no_frame k (accepted file).frames
unfolding refusal
by_walk file k none walked = refused_by_form file (frame k false) none ∙ ap (λ o. o otherwise no_frame k (accepted file).frames) walked

by_index : (file : List ℕ) (k : ℕ) → form_fault file ≡ None → not_coded (accepted file) ≡ None →
    refusal (frame k true) file ≡ no_frame k (accepted file).frames otherwise by_index_fault file (accepted file) k
unfolding refusal
by_index file k none is_coded = refused_by_form file (frame k true) none
    ∙ ap (λ o. o otherwise no_frame k (accepted file).frames otherwise by_index_fault file (accepted file) k) is_coded

-- ---- the law
is_there : (k n : ℕ) → (no_frame k n ≡ None) ⊎ (no_frame k n ≡ Some (Range k n)) → (no_frame k n ≡ None → k < n)
is_there k n h e = ltb-true k n (not_is_false (nat_lt k n) (when_not (Range k n) (not (nat_lt k n)) e))

either_way : (k n : ℕ) → (no_frame k n ≡ None) ⊎ (no_frame k n ≡ Some (Range k n))
either_way k n = go (nat_lt k n)
  where
    go : (b : Bool) → ((Range k n when not b) ≡ None) ⊎ ((Range k n when not b) ≡ Some (Range k n))
    go true = inl refl
    go false = inr refl

same_sound : (form : Form) (k : ℕ) (v w : List ℕ) (o : Answer) → v ≡ w → WritesSound form k v o → WritesSound form k w o
same_sound form k v w o e h = subst (λ w. WritesSound form k w o) e h

abbrev FrameEnds : Bool → ℕ → List ℕ → Answer → Type 0
FrameEnds b k file o = IsStopped (frame k b) file (accepted file) o ⊎ IsDone (frame k b) file (accepted file) o

abbrev read_frame : Bool → List ℕ → Form → ℕ → List ℕ
read_frame true file form k = indexed_frame file form k
read_frame false file form k = nth_frame file form k

run_is : (b : Bool) (file : List ℕ) (form : Form) (k : ℕ) → run (frame k b) file form ≡ (k, read_frame b file form k) ∷ []
run_is true file form k = refl
run_is false file form k = refl

does_sound : (b : Bool) (file : List ℕ) (form : Form) (k : ℕ) (o : Answer) → Does (frame k b) file form o → WritesSound form k (read_frame b file form k) o
does_sound true file form k o h = h
does_sound false file form k o h = h

sound_does : (b : Bool) (file : List ℕ) (form : Form) (k : ℕ) (o : Answer) → WritesSound form k (read_frame b file form k) o → Does (frame k b) file form o
sound_does true file form k o h = h
sound_does false file form k o h = h

same_ends : (a b : Bool) (k : ℕ) (file : List ℕ) (o : Answer) → read_frame a file (accepted file) k ≡ read_frame b file (accepted file) k →
    FrameEnds a k file o → FrameEnds b k file o
same_ends a b k file o e (inl s) =
    let form = accepted file in
    let runs : run (frame k a) file form ≡ run (frame k b) file form = run_is a file form k ∙ ap {B = List (ℕ × List ℕ)} (λ w. (k, w) ∷ []) e
    ∙ sym (run_is b file form k) in
    inl (record {
      before = s.before;
      stop = s.stop;
      behind = s.behind;
      is_run = sym runs ∙ s.is_run;
      fault = s.fault;
      refuses = s.refuses;
      first = s.first;
      out = s.out;
      written = s.written;
      answer = s.answer;
    })
same_ends a b k file o e (inr h) =
    let form = accepted file in
    let runs : run (frame k a) file form ≡ run (frame k b) file form = run_is a file form k ∙ ap {B = List (ℕ × List ℕ)} (λ w. (k, w) ∷ []) e
    ∙ sym (run_is b file form k) in
    inr (
      subst (NoneRefused (frame k b) form) runs h.0,
      sound_does b file form k o (same_sound form k (read_frame a file form k) (read_frame b file form k) o e (does_sound a file form k o h.1)),
    )

pub same_by_index : SameByIndexLaw
same_by_index k file coded indexes o =
    let form = accepted file in
    let rules = no_rule_fails file coded.1 in
    let is_coded = first_gives_none (not_coded form) (walk_fault file form) rules.1 in
    let walked = later_gives_none (not_coded form) (walk_fault file form) rules.1 in
    let count = count_is_right file form walked in
    go (either_way k form.frames) (by_walk file k rules.0 rules.1) (by_index file k rules.0 is_coded)
  where
    there : k < (accepted file).frames → by_index_fault file (accepted file) k ≡ None
    there l =
        let rules = no_rule_fails file coded.1 in
        let walked = later_gives_none (not_coded (accepted file)) (walk_fault file (accepted file)) rules.1 in
        found_by_index file (accepted file) k walked indexes.1 indexes.0 (count_is_right file (accepted file) walked) l

    same_frame : k < (accepted file).frames → indexed_frame file (accepted file) k ≡ nth_frame file (accepted file) k
    same_frame l =
        let rules = no_rule_fails file coded.1 in
        let walked = later_gives_none (not_coded (accepted file)) (walk_fault file (accepted file)) rules.1 in
        let long : k < length (entries file (accepted file)) =
        omega (arith, l, count_is_right file (accepted file) walked, length-map (frame_heads file (accepted file)) entry_of) in
        ap (frame_at file) (index_is_walk file (accepted file) k long indexes.1)

    go : (no_frame k (accepted file).frames ≡ None) ⊎ (no_frame k (accepted file).frames ≡ Some (Range k (accepted file).frames)) →
        refusal (frame k false) file ≡ no_frame k (accepted file).frames →
        refusal (frame k true) file ≡ no_frame k (accepted file).frames otherwise by_index_fault file (accepted file) k →
        OfCommand (frame k true) file (refusal (frame k true) file) o ↔ OfCommand (frame k false) file (refusal (frame k false) file) o
    go (inr out) walk by =
        let t = by ∙ ap (λ q. q otherwise by_index_fault file (accepted file) k) out in
        let f = walk ∙ out in (
          (λ h. subst (λ r. OfCommand (frame k false) file r o) (sym f) (subst (λ r. OfCommand (frame k true) file r o) t h)),
          (λ h. subst (λ r. OfCommand (frame k true) file r o) (sym t) (subst (λ r. OfCommand (frame k false) file r o) f h)),
        )
    go (inl within) walk by =
        let l = is_there k (accepted file).frames (inl within) within in
        let t = by ∙ ap (λ q. q otherwise by_index_fault file (accepted file) k) within ∙ there l in
        let f = walk ∙ within in
        let e = same_frame l in (
          (λ h. subst (λ r. OfCommand (frame k false) file r o) (sym f) (same_ends true false k file o e (subst (λ r. OfCommand (frame k true) file r o) t h))),
          (λ h. subst (λ r. OfCommand (frame k true) file r o) (sym t)
              (same_ends false true k file o (sym e) (subst (λ r. OfCommand (frame k false) file r o) f h))),
        )
