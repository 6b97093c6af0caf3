-- The index of a file beside its walk.
use Rattle.std.proofs.Common.{◌≡◌, ℕ, zero, suc, ◌+◌, ◌<◌, Bool, true, false, List, [], ◌∷◌, length, Option, Some, None, Result, Ok, Err, refl, sym, ap, ◌∙◌}
use Rattle.std.proofs.Common.{arith, add-zero}
use Rattle.std.specs.Prelude.{◌==◌, not}
use Rattle.std.specs.List.{enumerate_from}
use Rattle.std.proofs.lemmas.Bool.{eq-eqb, ne_eqb, and_from}
use Rattle.std.proofs.lemmas.List.{length-map}
use Rattle.dsdiff_spec.specs.Chunks.{Head}
use Rattle.dsdiff_spec.specs.Faults.{◌when◌, ◌otherwise◌, first_some}
use Rattle.dsdiff_spec.specs.Form.{Form}
use Rattle.dsdiff_spec.specs.Walk.{Entry, entry, entry_of, entries, frame_heads, walk, walk_fault, index_heads, has_index_of, indexed}
use Rattle.dsdiff_spec.specs.Walk.{same_entry, check_index_fault}
use Rattle.dsdiff_spec.specs.declared.faults.FileFault.{FileFault}
use Rattle.dsdiff_spec.specs.declared.faults.FileFault.TheVariants.{IndexMissing, IndexBad}
use Rattle.dsdiff_spec.proofs.CodedFiles.{count_is_right}
use Rattle.frame_index.specs.Lookup.{IsRead, DifferFirstAt, index_fault}

-- ---- a walk without a fault has found the frames of the definitions
found_are : (o : Option FileFault) (es found : List Entry) → elim o as (λ _. Result (List Entry) FileFault) [ Some f ↦ Err f | None ↦ Ok es ] ≡ Ok found →
    (o ≡ None) × (es ≡ found)
found_are (Some f) es found p = absurd cc
found_are None es found p = (refl, cc)

-- ---- entry by entry
abbrev differs_at : (ℕ → Entry) → ℕ × Entry → Option FileFault
differs_at at e = IndexBad e.0 when not (same_entry (at e.0) e.1)

same_itself : (e : Entry) → same_entry e e ≡ true
same_itself e = and_from _ _ (eq-eqb e.offset e.offset refl) (eq-eqb e.size e.size refl)

abbrev or_later : Option FileFault → (ℕ → Entry) → ℕ → List Entry → Option FileFault
or_later first at n es = elim first [ Some y ↦ Some y | None ↦ first_some (differs_at at) (enumerate_from (n + 1) es) ]

no_fault_here : (at : ℕ → Entry) (n : ℕ) (e : Entry) → at n ≡ e → differs_at at (n, e) ≡ None
no_fault_here at n e same = ap (λ i. IndexBad n when not (same_entry i e)) same ∙ ap (λ b. IndexBad n when not b) (same_itself e)

none_differs : (at : ℕ → Entry) (n : ℕ) (es : List Entry) → ((k : ℕ) → k < length es → at (n + k) ≡ entry es k) →
    first_some (differs_at at) (enumerate_from n es) ≡ None
none_differs at n [] same = refl
none_differs at n (e ∷ es) same =
    let here : at n ≡ e = ap at (sym (add-zero n)) ∙ same 0 (omega arith) in
    ap (λ o. or_later o at n es) (no_fault_here at n e here)
    ∙ none_differs at (n + 1) es (λ k lt. let next : n + 1 + k ≡ n + suc k = omega arith in ap at next ∙ same (suc k) (omega (arith, lt)))

first_differs : (at : ℕ → Entry) (n k : ℕ) (es : List Entry) → k < length es → same_entry (at (n + k)) (entry es k) ≡ false →
    ((j : ℕ) → j < k → at (n + j) ≡ entry es j) → first_some (differs_at at) (enumerate_from n es) ≡ Some (IndexBad (n + k))
first_differs at n k [] lt differs before = absurd (omega (arith, lt))
first_differs at n zero (e ∷ es) lt differs before =
    let here : n + 0 ≡ n = add-zero n in
    ap (λ o. or_later o at n es)
    (ap (λ i. IndexBad n when not (same_entry (at i) e)) (sym here) ∙ ap (λ b. IndexBad n when not b) differs)
    ∙ ap (λ i. Some (IndexBad i)) (sym here)
first_differs at n (suc k) (e ∷ es) lt differs before =
    let here : at n ≡ e = ap at (sym (add-zero n)) ∙ before 0 (omega arith) in
    let next : (j : ℕ) → n + 1 + j ≡ n + suc j = λ j. omega arith in
    ap (λ o. or_later o at n es) (no_fault_here at n e here)
    ∙ first_differs at (n + 1) k es (omega (arith, lt))
    (ap (λ i. same_entry (at i) (entry es k)) (next k) ∙ differs)
    (λ j l. ap at (next j) ∙ before (suc j) (omega (arith, l)))
    ∙ ap (λ i. Some (IndexBad i)) (next k)

-- ---- where there is an index of the right size
size_is : (has : Bool) (count : ℕ) (rest : Option FileFault) → (IndexBad count when not has) ≡ None → (IndexBad count when not has otherwise rest) ≡ rest
size_is true count rest p = refl
size_is false count rest p = absurd cc

has_size : (hs : List Head) (has : Bool) (count : ℕ) (rest : Option FileFault) →
    (IndexMissing when length hs == 0 otherwise IndexBad count when not has) ≡ None →
    elim hs as (λ _. Option FileFault) [ [] ↦ None | h ∷ more ↦ (IndexBad count when not has otherwise rest) ] ≡ rest
has_size [] has count rest p = absurd cc
has_size (h ∷ hs) has count rest p =
    let some = ne_eqb (length (h ∷ hs)) 0 (λ e. omega arith) in
    size_is has count rest (sym (ap (λ b. IndexMissing when b otherwise IndexBad count when not has) some) ∙ p)

pub same_passes : (file : List ℕ) (form : Form) (found : List Entry) → index_fault form form.frames ≡ None → IsRead file form found →
    walk file form ≡ Ok found → check_index_fault file form ≡ None
same_passes file form found none read ok =
    let is = (found_are (walk_fault file form) (entries file form) found ok).1 in
    has_size (index_heads form) (has_index_of form form.frames) form.frames _ none
    ∙ ap (λ es. first_some (differs_at (indexed file form)) (enumerate_from 0 es)) is
    ∙ none_differs (indexed file form) 0 found
    (λ k lt. let at : 0 + k ≡ k = omega arith in ap (indexed file form) at ∙ sym (read.entries k (omega (arith, lt, read.count))))

pub first_is_refused : (file : List ℕ) (form : Form) (index found : List Entry) (k : ℕ) → index_fault form form.frames ≡ None → IsRead file form index →
    walk file form ≡ Ok found → DifferFirstAt k index found → check_index_fault file form ≡ Some (IndexBad k)
first_is_refused file form index found k none read ok first =
    let walked = found_are (walk_fault file form) (entries file form) found ok in
    let count : length found ≡ form.frames =
    ap length (sym walked.1) ∙ length-map (frame_heads file form) entry_of ∙ count_is_right file form walked.0 in
    let at : (j : ℕ) → 0 + j ≡ j = λ j. omega arith in
    let within : k < form.frames = omega (arith, first.within, read.count) in
    has_size (index_heads form) (has_index_of form form.frames) form.frames _ none
    ∙ ap (λ es. first_some (differs_at (indexed file form)) (enumerate_from 0 es)) walked.1
    ∙ first_differs (indexed file form) 0 k found (omega (arith, within, count))
    (ap (λ i. same_entry (indexed file form i) (entry found k)) (at k)
    ∙ ap (λ e. same_entry e (entry found k)) (sym (read.entries k within))
    ∙ first.differs)
    (λ j lt. ap (indexed file form) (at j) ∙ sym (read.entries j (omega (arith, lt, within))) ∙ first.before j lt)
    ∙ ap (λ i. Some (IndexBad i)) (at k)
