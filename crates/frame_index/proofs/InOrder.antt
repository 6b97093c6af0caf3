-- Entries that stand one behind the other, up to a place.
use Rattle.std.proofs.Common.{◌≡◌, ℕ, ◌+◌, ◌<◌, ◌≤◌, Bool, true, false, List, [], ◌∷◌, ◌++◌, length, refl, sym, subst, arith, inl, inr, length-append}
use Rattle.std.specs.Prelude.{if◌then◌else◌}
use Rattle.std.proofs.Math.Seq.{get_or-append_seam}
use Rattle.std.proofs.lemmas.Bool.{cases_lt}
use Rattle.std.proofs.lemmas.List.{get_or_append_left}
use Rattle.dsdiff_spec.specs.Bytes.{◌is◌}
use Rattle.dsdiff_spec.specs.Chunks.{Head, body_end}
use Rattle.dsdiff_spec.specs.Form.{Form}
use Rattle.dsdiff_spec.specs.Walk.{Entry, entry, entry_of}
use Rattle.frame_index.specs.Fitting.{IsInside, IsIndexOf}
use Rattle.frame_index.specs.Finding.{found_with}

pub record AreInOrder (form : Form) (place : ℕ) (es : List Entry) : Type 0 where
  pub inside : (k : ℕ) → k < length es → IsInside form (entry es k)
  pub order : (k : ℕ) → k + 1 < length es → (entry es k).offset + (entry es k).size + 12 ≤ (entry es (k + 1)).offset
  pub before : (k : ℕ) → k < length es → (entry es k).offset + (entry es k).size ≤ place

abbrev none : Entry
none = record { offset = 0; size = 0 }

pub none_in_order : (form : Form) (place : ℕ) → AreInOrder form place []
none_in_order form place = record {
  inside = λ k lt. absurd (omega (arith, lt));
  order = λ k lt. absurd (omega (arith, lt));
  before = λ k lt. absurd (omega (arith, lt));
}

farther : (form : Form) (place next : ℕ) (es : List Entry) → place ≤ next → AreInOrder form place es → AreInOrder form next es
farther form place next es le p = record {
  inside = p.inside;
  order = p.order;
  before = λ k lt. omega (arith, p.before k lt, le);
}

-- ---- one entry more
still : (es : List Entry) (e : Entry) (k : ℕ) → k < length es → entry (es ++ e ∷ []) k ≡ entry es k
still es e k lt = get_or_append_left es (e ∷ []) none k lt

last : (es : List Entry) (e : Entry) (k : ℕ) → k ≡ length es → entry (es ++ e ∷ []) k ≡ e
last es e k there = subst (λ i. entry (es ++ e ∷ []) i ≡ e) (sym there) (get_or-append_seam es e [] none)

each_more : (P : Entry → Type 0) (es : List Entry) (e : Entry) → ((k : ℕ) → k < length es → P (entry es k)) → P e →
    (k : ℕ) → k < length (es ++ e ∷ []) → P (entry (es ++ e ∷ []) k)
each_more P es e each new k lt = elim (cases_lt k (length es)) [
  | inl before ↦ subst P (sym (still es e k before)) (each k before)
  | inr behind ↦ subst P (sym (last es e k (omega (arith, length-append es (e ∷ []), lt, behind)))) new
]

abbrev Behind : Entry → Entry → Type 0
Behind a b = a.offset + a.size + 12 ≤ b.offset

same_behind : (a b c d : Entry) → a ≡ b → c ≡ d → Behind b d → Behind a c
same_behind a b c d p q h = subst (λ x. Behind x c) (sym p) (subst (λ x. Behind b x) (sym q) h)

one_in_order : (form : Form) (place next : ℕ) (es : List Entry) (e : Entry) → AreInOrder form place es → IsInside form e →
    place + 12 ≤ e.offset → e.offset + e.size ≤ next → place ≤ next → AreInOrder form next (es ++ e ∷ [])
one_in_order form place next es e p new behind within le = record {
  inside = each_more (IsInside form) es e p.inside new;
  order = λ k lt. elim (cases_lt (k + 1) (length es)) [
    | inl before ↦ same_behind _ _ _ _ (still es e k (omega (arith, before))) (still es e (k + 1) before) (p.order k before)
    | inr past ↦
        let here : k < length es = omega (arith, length-append es (e ∷ []), lt) in
        let there : k + 1 ≡ length es = omega (arith, here, past) in
        same_behind _ _ _ _ (still es e k here) (last es e (k + 1) there) (omega (arith, p.before k here, behind))
  ];
  before = each_more (λ x. x.offset + x.size ≤ next) es e (λ k lt. omega (arith, p.before k lt, le)) within;
}

either_in_order : (b : Bool) (form : Form) (place next : ℕ) (found : List Entry) (e : Entry) → AreInOrder form place found →
    (b ≡ true → IsInside form e) → place + 12 ≤ e.offset → e.offset + e.size ≤ next → place ≤ next →
    AreInOrder form next (if b then found ++ e ∷ [] else found)
either_in_order true form place next found e p new behind within le = one_in_order form place next found e p (new refl) behind within le
either_in_order false form place next found e p new behind within le = farther form place next found le p

-- a chunk more, of which a frame's entry is inside
pub found_in_order : (form : Form) (place next : ℕ) (found : List Entry) (h : Head) → AreInOrder form place found →
    ((h.id is "DSTF") ≡ true → IsInside form (entry_of h)) → h.place ≡ place → body_end h ≤ next →
    AreInOrder form next (found_with h found)
found_in_order form place next found h p new at within =
    either_in_order (h.id is "DSTF") form place next found (entry_of h) p new (omega (arith, at)) within (omega (arith, at, within))

pub index_of : (form : Form) (place : ℕ) (es : List Entry) → length es ≡ form.frames → AreInOrder form place es → IsIndexOf form es
index_of form place es count p = record { count = count; inside = p.inside; order = p.order }
