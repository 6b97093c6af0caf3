-- The index of a form, and a frame that is found by it.
use Rattle.std.proofs.Common.{◌≡◌, ℕ, ◌+◌, ◌-◌, ◌*◌, ◌<◌, ◌≤◌, Bool, true, false, List, [], ◌∷◌, length, Option, Some, None, refl, sym, ap, ◌∙◌}
use Rattle.std.proofs.Common.{add-zero, arith}
use Rattle.std.specs.Prelude.{◌==◌, ◌&&◌, ◌||◌, not, if◌then◌else◌}
use Rattle.std.proofs.lemmas.Bool.{and_parts, le-ltb, lt-ltb, ltb-false, not-true}
use Rattle.dsdiff_spec.specs.Bytes.{bytes_at, number_at, ◌is◌, ◌above◌}
use Rattle.dsdiff_spec.specs.Chunks.{Head, head_at, named, body_place, body_end, next_place}
use Rattle.dsdiff_spec.specs.Faults.{◌when◌, ◌otherwise◌}
use Rattle.dsdiff_spec.specs.Form.{Form, longest_frame}
use Rattle.dsdiff_spec.specs.Walk.{Entry, index_heads, index_head, indexed, has_index_of, names_frame, by_index_fault}
use Rattle.dsdiff_spec.specs.declared.faults.FileFault.{FileFault}
use Rattle.dsdiff_spec.specs.declared.faults.FileFault.TheVariants.{FrameTooLong, IndexMissing, IndexBad}
use Rattle.dsdiff_chunks.specs.Lawful.{TileTo}
use Rattle.frame_index.specs.Entries.{entries_in, entry_at}
use Rattle.frame_index.specs.Fitting.{IsInside}
use Rattle.frame_index.specs.Lookup.{IsRead, index_fault, lies_inside}
use Rattle.frame_index.proofs.Entries.{length-entries_in, entry-entries_in}
use Rattle.chunk_view.proofs.InParts.{number_in_part}

-- ---- the first chunk of a name lies in the form, as all do
one_more : (b : Bool) (end : ℕ) (i h : Head) (more later : List Head) → (if b then i ∷ more else more) ≡ h ∷ later → body_end i ≤ end →
    (more ≡ h ∷ later → body_end h ≤ end) → body_end h ≤ end
one_more true end i h more later e here behind = let same : i ≡ h = cc in rw (← same) here
one_more false end i h more later e here behind = behind e

pub first_within : (end place : ℕ) (heads : List Head) (h : Head) (later : List Head) → TileTo end place heads →
    named "DSTI" heads ≡ h ∷ later → body_end h ≤ end
first_within end place [] h later t e = absurd cc
first_within end place (i ∷ more) h later t e =
    one_more (i.id is "DSTI") end i h (named "DSTI" more) later e t.1 (λ p. first_within end (next_place i) more h later t.2 p)

-- ---- entries from bytes that were read
abbrev pub entry_from : List ℕ → ℕ → Entry
entry_from xs place = record { offset = number_at xs place 8; size = number_at xs (place + 8) 4 }

same_entries : (a b m n : ℕ) → a ≡ b → m ≡ n → ◌≡◌ {A = Entry} (record { offset = a; size = m }) (record { offset = b; size = n })
same_entries a b m n p q = rw (p, q) refl

entry_in_part : (xs w : List ℕ) (place n k : ℕ) → w ≡ bytes_at xs place n → 12 * k + 12 ≤ n → entry_at w k ≡ entry_from xs (place + 12 * k)
entry_in_part xs w place n k reads le =
    let behind : place + (12 * k + 8) ≡ place + 12 * k + 8 = omega arith in
    ap (λ v. entry_at v k) reads
    ∙ same_entries _ _ _ _ (number_in_part xs place n (12 * k) 8 (omega (arith, le)))
    (number_in_part xs place n (12 * k + 8) 4 (omega (arith, le)) ∙ ap (λ i. number_at xs i 4) behind)

pub entry_alone : (xs w : List ℕ) (place : ℕ) → w ≡ bytes_at xs place 12 → entry_at w 0 ≡ entry_from xs place
entry_alone xs w place reads = entry_in_part xs w place 12 0 reads (omega arith) ∙ ap (entry_from xs) (add-zero place)

pub all_read : (xs bytes : List ℕ) (form : Form) (h : Head) → length bytes ≡ 12 * form.frames → index_head form ≡ h →
    bytes ≡ bytes_at xs (body_place h) (12 * form.frames) → IsRead xs form (entries_in bytes)
all_read xs bytes form h long first reads = record {
  count = length-entries_in bytes form.frames long;
  entries = λ k lt.
      entry-entries_in bytes form.frames k long lt
      ∙ entry_in_part xs bytes (body_place h) (12 * form.frames) k reads (omega (arith, lt))
      ∙ ap (λ i. entry_from xs (body_place i + 12 * k)) (sym first);
}

-- ---- an entry that names a frame
pub behind_head : (form : Form) (e : Entry) → lies_inside form e ≡ true → body_place form.sound + 18 + 12 ≤ e.offset
behind_head form e p = ltb-false e.offset (body_place form.sound + 18 + 12) (not-true _ ((and_parts _ _ p).0))

pub before_end : (form : Form) (e : Entry) → lies_inside form e ≡ true → e.offset + e.size ≤ body_end form.sound
before_end form e p = ltb-false (body_end form.sound) (e.offset + e.size) (not-true _ ((and_parts _ _ p).1))

pub frame_is_named : (xs : List ℕ) (form : Form) (e : Entry) (h : Head) → lies_inside form e ≡ true → head_at xs (e.offset - 12) ≡ h →
    (h.id is "DSTF" && h.size == e.size) ≡ names_frame xs form e
frame_is_named xs form e h inside reads =
    let at = e.offset - 12 in
    let size_place : at + 4 ≡ e.offset - 8 = let behind = behind_head form e inside in omega (arith, behind) in
    ap (λ i. i.id is "DSTF" && i.size == e.size) (sym reads)
    ∙ ap (λ i. bytes_at xs at 4 is "DSTF" && number_at xs i 8 == e.size) size_place
    ∙ ap (λ b. b && bytes_at xs at 4 is "DSTF" && number_at xs (e.offset - 8) 8 == e.size) (sym inside)

-- the entry that was read at its place in the index
pub entry_read : (xs : List ℕ) (form : Form) (h : Head) (e : Entry) (k n : ℕ) → index_head form ≡ h → n ≡ k → e ≡ entry_from xs (body_place h + 12 * n) →
    indexed xs form k ≡ e
entry_read xs form h e k n first same reads =
    ap (λ i. entry_from xs (body_place i + 12 * k)) first ∙ ap (λ m. entry_from xs (body_place h + 12 * m)) (sym same) ∙ sym reads

-- ---- the fault of a look-up
missing_or_bad : (missing has names : Bool) (k : ℕ) (later : Option FileFault) (fault : FileFault) →
    (IndexMissing when missing otherwise IndexBad k when not has) ≡ Some fault →
    (IndexMissing when missing otherwise IndexBad k when not has || not names otherwise later) ≡ Some fault
missing_or_bad true has names k later fault p = p
missing_or_bad false true names k later fault p = absurd cc
missing_or_bad false false names k later fault p = p

pub no_index : (xs : List ℕ) (form : Form) (k : ℕ) (fault : FileFault) → index_fault form k ≡ Some fault → by_index_fault xs form k ≡ Some fault
no_index xs form k fault p =
    missing_or_bad (length (index_heads form) == 0) (has_index_of form form.frames) (names_frame xs form (indexed xs form k)) k _ fault p

not_named : (missing has names : Bool) (k : ℕ) (later : Option FileFault) → (IndexMissing when missing otherwise IndexBad k when not has) ≡ None →
    names ≡ false → (IndexMissing when missing otherwise IndexBad k when not has || not names otherwise later) ≡ Some (IndexBad k)
not_named true has names k later e n = absurd cc
not_named false false names k later e n = absurd cc
not_named false true names k later e n = rw n refl

pub names_none : (xs : List ℕ) (form : Form) (k : ℕ) (e : Entry) → index_fault form k ≡ None → indexed xs form k ≡ e → names_frame xs form e ≡ false →
    by_index_fault xs form k ≡ Some (IndexBad k)
names_none xs form k e accepted here names =
    not_named (length (index_heads form) == 0) (has_index_of form form.frames) (names_frame xs form (indexed xs form k)) k _ accepted
    (ap (names_frame xs form) here ∙ names)

-- ---- a frame that is found
only_length : (missing has names : Bool) (k : ℕ) (later : Option FileFault) → (IndexMissing when missing otherwise IndexBad k when not has) ≡ None →
    names ≡ true → (IndexMissing when missing otherwise IndexBad k when not has || not names otherwise later) ≡ later
only_length true has names k later e n = absurd cc
only_length false false names k later e n = absurd cc
only_length false true names k later e n = rw n refl

-- only the rule on its length is left of a frame that its entry names
length_left : (xs : List ℕ) (form : Form) (k : ℕ) (e : Entry) → index_fault form k ≡ None → indexed xs form k ≡ e → names_frame xs form e ≡ true →
    by_index_fault xs form k ≡ (FrameTooLong k e.size when e.size above longest_frame form)
length_left xs form k e accepted here names =
    only_length (length (index_heads form) == 0) (has_index_of form form.frames) (names_frame xs form (indexed xs form k)) k _ accepted
    (ap (names_frame xs form) here ∙ names)
    ∙ ap (λ i. FrameTooLong k i.size when i.size above longest_frame form) here

pub found_too_long : (xs : List ℕ) (form : Form) (k : ℕ) (e : Entry) → index_fault form k ≡ None → indexed xs form k ≡ e → names_frame xs form e ≡ true →
    longest_frame form < e.size → by_index_fault xs form k ≡ Some (FrameTooLong k e.size)
found_too_long xs form k e accepted here names long =
    length_left xs form k e accepted here names ∙ ap (λ b. FrameTooLong k e.size when b) (lt-ltb (longest_frame form) e.size long)

pub found_by_index : (xs : List ℕ) (form : Form) (k : ℕ) (e : Entry) → index_fault form k ≡ None → indexed xs form k ≡ e →
    names_frame xs form e ≡ true → e.size ≤ longest_frame form → by_index_fault xs form k ≡ None
found_by_index xs form k e accepted here names short =
    length_left xs form k e accepted here names ∙ ap (λ b. FrameTooLong k e.size when b) (le-ltb (longest_frame form) e.size short)

pub frame_inside : (form : Form) (e : Entry) → lies_inside form e ≡ true → e.size ≤ longest_frame form → IsInside form e
frame_inside form e inside short = record { behind = behind_head form e inside; before = before_end form e inside; short = short }
