-- The chunks that are found wherever the bytes stand in a file.
use Rattle.std.proofs.Common.{◌≡◌, ℕ, zero, suc, ◌+◌, ◌-◌, ◌*◌, ◌%◌, ◌<◌, ◌≤◌, List, length, take, drop, map, Option, Some, None, refl, sym, ap, ◌∙◌, arith}
use Rattle.std.proofs.Common.{inl, inr, subst}
use Rattle.std.specs.List.{AllByRecursion}
use Rattle.std.proofs.lemmas.List.{drop-drop, drop-take, take-take}
use Rattle.std.proofs.lemmas.Bool.{cases_lt}
use Rattle.byteorder.specs.Endian.{big_from}
use Rattle.byteorder.specs.Numbers.{big_from-take}
use Rattle.dsdiff_spec.specs.declared.faults.FileFault.{FileFault}
use Rattle.dsdiff_spec.specs.declared.faults.FileFault.TheVariants.{Overrun}
use Rattle.dsdiff_spec.specs.Bytes.{bytes_at}
use Rattle.dsdiff_spec.specs.Rules.{moved}
use Rattle.dsdiff_spec.specs.Chunks.{Head, Found, head_at, body_of, next_place}
use Rattle.dsdiff_spec.proofs.Sizes.{length-bytes_at}
use Rattle.chunk_view.specs.Placed.{placed_at, placed_in, head_behind, heads_behind, StandsIn, AreFoundWherever, OverrunsWherever}
use Rattle.chunk_view.proofs.Reading.{big_from-drop}
use Rattle.chunk_view.proofs.Walking.{whole_from, all_from, with_head, stops, cuts, goes, three_ways, room, plenty}

-- ---- the same bytes and numbers are read there
abbrev IsIn : List ℕ → List ℕ → ℕ → Type 0
IsIn bytes file start = bytes_at file start (length bytes) ≡ bytes

bytes_in : (bytes file : List ℕ) (start k n : ℕ) → IsIn bytes file start → k + n ≤ length bytes →
    bytes_at bytes k n ≡ bytes_at file (start + k) n
bytes_in bytes file start k n same le =
    let m = length bytes - k in
    ap (λ w. take n (drop k w)) (sym same ∙ ap (λ i. take i (drop start file)) (parts (length bytes) k n le))
    ∙ ap (take n) (drop-take k m (drop start file))
    ∙ take-take n m (drop k (drop start file)) (omega (arith, le))
    ∙ ap (take n) (drop-drop k start file)
  where
    parts : (i k n : ℕ) → k + n ≤ i → i ≡ k + (i - k)
    parts i k n le = omega arith

number_in : (bytes file : List ℕ) (start k n : ℕ) → IsIn bytes file start → k + n ≤ length bytes →
    big_from k n bytes ≡ big_from (start + k) n file
number_in bytes file start k n same le =
    ap (big_from k n) (sym same) ∙ big_from-take k n (length bytes) (drop start file) le ∙ big_from-drop start k n file

add_assoc_of : (a b c : ℕ) → a + (b + c) ≡ a + b + c
add_assoc_of a b c = omega arith

abbrev head_by : List ℕ → ℕ → ℕ → Head
head_by id place size = record { id = id; place = place; size = size }

same_head : (id id' : List ℕ) (place size size' : ℕ) → id ≡ id' → size ≡ size' → head_by id place size ≡ head_by id' place size'
same_head id id' place size size' p q = rw (p, q) refl

head_in : (bytes file : List ℕ) (start place : ℕ) → IsIn bytes file start → place + 12 ≤ length bytes →
    head_by (bytes_at bytes place 4) (start + place) (big_from (place + 4) 8 bytes) ≡ head_at file (start + place)
head_in bytes file start place same le =
    same_head (bytes_at bytes place 4) (bytes_at file (start + place) 4) (start + place) (big_from (place + 4) 8 bytes) (big_from (start + place + 4) 8 file)
    (bytes_in bytes file start place 4 same (omega (arith, le)))
    (number_in bytes file start (place + 4) 8 same (omega (arith, le)) ∙ ap (λ n. big_from n 8 file) (add_assoc_of start place 4))

-- ---- what is found of the bytes, moved to where they stand
abbrev moved_found : List ℕ → ℕ → Found → Found
moved_found bytes start f = record { heads = heads_behind start (map (placed_at bytes) f.heads); fault = moved start f.fault }

abbrev moved_head : List ℕ → ℕ → Head → Head
moved_head bytes start h = head_behind start (placed_at bytes h)

moved_head_is : (bytes file : List ℕ) (start place : ℕ) → IsIn bytes file start → next_place (head_at bytes place) ≤ length bytes →
    moved_head bytes start (head_at bytes place) ≡ head_at file (start + place)
moved_head_is bytes file start place same le = by_size (head_at bytes place).size le refl
  where
    by_size : (size : ℕ) → place + 12 + size + size % 2 ≤ length bytes → size ≡ (head_at bytes place).size →
        head_by (bytes_at bytes place 4) (start + place) (length (bytes_at bytes (place + 12) size)) ≡ head_at file (start + place)
    by_size size le e =
        same_head (bytes_at bytes place 4) (bytes_at bytes place 4) (start + place) (length (bytes_at bytes (place + 12) size))
        (big_from (place + 4) 8 bytes) refl
        (length-bytes_at bytes (place + 12) size (omega (arith, le)) ∙ e)
        ∙ head_in bytes file start place same (omega (arith, le))

-- a chunk that passes the end passes it there too
passes_in : (bytes file : List ℕ) (start place : ℕ) → IsIn bytes file start → length bytes < next_place (head_at bytes place) →
    start + length bytes < next_place (head_at file (start + place))
passes_in bytes file start place same past = elim (cases_lt (length bytes) (place + 12)) [
  | inl lt ↦ cut_head start place (head_at file (start + place)).size (length bytes) lt
  | inr le ↦
      let sizes : (head_at bytes place).size ≡ (head_at file (start + place)).size = ap (λ h. h.size) (head_in bytes file start place same le) in
      cut_body start place (head_at bytes place).size (head_at file (start + place)).size (length bytes) past sizes
]
  where
    cut_head : (start place size n : ℕ) → n < place + 12 → start + n < start + place + 12 + size + size % 2
    cut_head start place size n lt = omega arith

    cut_body : (start place size size' n : ℕ) → n < place + 12 + size + size % 2 → size ≡ size' → start + n < start + place + 12 + size' + size' % 2
    cut_body start place size size' n lt e = rw (← e) (omega arith)

next_in : (start place size : ℕ) → start + (place + 12 + size + size % 2) ≡ start + place + 12 + size + size % 2
next_in start place size = omega arith

found_at_end : (bytes file : List ℕ) (start a b place : ℕ) → length bytes ≤ place →
    whole_from file (start + length bytes) b (start + place) ≡ moved_found bytes start (whole_from bytes (length bytes) a place)
found_at_end bytes file start a b place le =
    stops file (start + length bytes) b (start + place) (omega arith)
    ∙ ap (moved_found bytes start) (sym (stops bytes (length bytes) a place le))

found_in : (bytes file : List ℕ) (start : ℕ) → IsIn bytes file start → (a b place : ℕ) →
    length bytes ≤ place + 12 * a → length bytes ≤ place + 12 * b →
    whole_from file (start + length bytes) b (start + place) ≡ moved_found bytes start (whole_from bytes (length bytes) a place)
found_in bytes file start same zero b place p q = found_at_end bytes file start zero b place (omega arith)
found_in bytes file start same (suc a) zero place p q = found_at_end bytes file start (suc a) zero place (omega arith)
found_in bytes file start same (suc a) (suc b) place p q =
    let next = next_place (head_at bytes place) in
    elim (three_ways (length bytes) place next) [
      | inl le ↦ found_at_end bytes file start (suc a) (suc b) place le
      | inr w ↦ elim w [
        | inl cut ↦
            cuts file (start + length bytes) b (start + place) (omega (arith, cut.0)) (passes_in bytes file start place same cut.1)
            ∙ ap (moved_found bytes start) (sym (cuts bytes (length bytes) a place cut.0 cut.1))
        | inr le ↦
            let head = moved_head_is bytes file start place same le in
            let size : (head_at file (start + place)).size ≡ (head_at bytes place).size =
            sym (ap (λ h. h.size) (head_in bytes file start place same (head_before (length bytes) place (head_at bytes place).size le))) in
            let behind : next_place (head_at file (start + place)) ≡ start + next = ap (λ n. start + place + 12 + n + n % 2) size
            ∙ sym (next_in start place (head_at bytes place).size) in
            goes file (start + length bytes) b (start + place) (fits_in start (length bytes) next (next_place (head_at file (start + place))) behind le)
            ∙ ap (λ h. with_head h (whole_from file (start + length bytes) b (next_place (head_at file (start + place))))) (sym head)
            ∙ ap (λ n. with_head (moved_head bytes start (head_at bytes place)) (whole_from file (start + length bytes) b n)) behind
            ∙ ap (with_head (moved_head bytes start (head_at bytes place)))
            (found_in bytes file start same a b next (room (length bytes) place a (head_at bytes place).size p)
            (room (length bytes) place b (head_at bytes place).size q))
            ∙ ap (moved_found bytes start) (sym (goes bytes (length bytes) a place le))
      ]
    ]
  where
    head_before : (end place size : ℕ) → place + 12 + size + size % 2 ≤ end → place + 12 ≤ end
    head_before end place size le = omega arith

    fits_in : (start end next next' : ℕ) → next' ≡ start + next → next ≤ end → next' ≤ start + end
    fits_in start end next next' e le = omega arith

-- ---- the bodies
abbrev BodiesIn : List ℕ → List ℕ → ℕ → Found → Type 0
BodiesIn bytes file start f = AllByRecursion (λ p. body_of file (head_behind start p) ≡ p.chunk.body) (map (placed_at bytes) f.heads)

body_in : (bytes file : List ℕ) (start place : ℕ) → IsIn bytes file start → next_place (head_at bytes place) ≤ length bytes →
    body_of file (moved_head bytes start (head_at bytes place)) ≡ body_of bytes (head_at bytes place)
body_in bytes file start place same le = by_size (head_at bytes place).size le
  where
    by_size : (size : ℕ) → place + 12 + size + size % 2 ≤ length bytes →
        bytes_at file (start + place + 12) (length (bytes_at bytes (place + 12) size)) ≡ bytes_at bytes (place + 12) size
    by_size size le =
        ap (λ n. bytes_at file (start + place + 12) n) (length-bytes_at bytes (place + 12) size (omega (arith, le)))
        ∙ ap (λ n. bytes_at file n size) (sym (add_assoc_of start place 12))
        ∙ sym (bytes_in bytes file start (place + 12) size same (omega (arith, le)))

bodies_in : (bytes file : List ℕ) (start : ℕ) → IsIn bytes file start → (most place : ℕ) → length bytes ≤ place + 12 * most →
    BodiesIn bytes file start (whole_from bytes (length bytes) most place)
bodies_in bytes file start same zero place p =
    subst (BodiesIn bytes file start) (sym (stops bytes (length bytes) zero place (omega arith))) tt
bodies_in bytes file start same (suc most) place p =
    let next = next_place (head_at bytes place) in
    elim (three_ways (length bytes) place next) [
      | inl le ↦ subst (BodiesIn bytes file start) (sym (stops bytes (length bytes) (suc most) place le)) tt
      | inr w ↦ elim w [
        | inl cut ↦ subst (BodiesIn bytes file start) (sym (cuts bytes (length bytes) most place cut.0 cut.1)) tt
        | inr le ↦
            subst (BodiesIn bytes file start) (sym (goes bytes (length bytes) most place le))
            (body_in bytes file start place same le, bodies_in bytes file start same most next (room (length bytes) place most (head_at bytes place).size p))
      ]
    ]

-- ---- wherever the bytes stand
moved_there : (bytes file : List ℕ) (start end most : ℕ) → StandsIn bytes file start end most →
    whole_from file end most start ≡ moved_found bytes start (all_from bytes 0)
moved_there bytes file start end most s =
    ap (λ n. whole_from file end most n) (plus_zero start)
    ∙ ap (λ n. whole_from file n most (start + 0)) s.ends
    ∙ found_in bytes file start s.same (length bytes) most 0 (plenty (length bytes) 0) (omega (arith, s.enough))
  where
    plus_zero : (n : ℕ) → n ≡ n + 0
    plus_zero n = omega arith

abbrev found_with : List Head → Option FileFault → Found
found_with heads fault = record { heads = heads; fault = fault }

pub whole_is_found : (bytes : List ℕ) → (all_from bytes 0).fault ≡ None → AreFoundWherever bytes (placed_in bytes 0)
whole_is_found bytes e = λ file start end most s. record {
  heads = moved_there bytes file start end most s ∙ ap (λ fault. found_with (heads_behind start (placed_in bytes 0)) (moved start fault)) e;
  bodies = bodies_in bytes file start s.same (length bytes) 0 (plenty (length bytes) 0);
}

pub overruns_there : (bytes : List ℕ) (cut : ℕ) → (all_from bytes 0).fault ≡ Some (Overrun cut) → OverrunsWherever bytes cut
overruns_there bytes cut e = λ file start end most s.
    ap (λ f. f.fault) (moved_there bytes file start end most s) ∙ ap (moved start) e
