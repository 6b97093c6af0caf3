-- Wanted frames: those of parts that are read aren't refused, and how far the output has come in front of the first one that is.
use Rattle.std.proofs.Common.{◌≡◌, ℕ, ◌+◌, ◌<◌, List, [], ◌∷◌, ◌++◌, length, map, take, sym, ap, subst, ◌∙◌, arith, eq-eqb}
use Rattle.std.specs.Prelude.{sum, if◌then◌else◌}
use Rattle.std.specs.List.{AllByRecursion}
use Rattle.std.proofs.Math.Seq.{take-append-add}
use Rattle.std.proofs.lemmas.Bool.{ne_eqb}
use Rattle.std.proofs.lemmas.List.{map-append, length-map}
use Rattle.std.proofs.lemmas.List.Sums.{sum_by-cons}
use Rattle.dst_spec.specs.Sample.{IsShape}
use Rattle.dst_spec.specs.Means.{Means}
use Rattle.dst_spec.specs.Offends.{Offends}
use Rattle.dst_spec.specs.declared.faults.FrameFault.{FrameFault}
use Rattle.dst_spec.proofs.Meaning.{meaning_is_no_fault}
use Rattle.dsdiff_spec.specs.Form.{Form, shape, sound_bytes_of}
use Rattle.dsdiff_spec.specs.Words.{range}
use Rattle.dsdiff_spec.specs.Outcome.{nth_frame, NoneRefused}
use Rattle.dsdiff_spec.specs.Ranges.{Want, wants, range_of, range_before, place_of}
use Rattle.dst_ranges.specs.Parts.{Part, parts_of, counts_of, bytes_of}
use Rattle.dst_ranges.specs.Reading.{AreRead}
use Rattle.dst_ranges.proofs.Geometry.{counts_first}
use Rattle.dst_ranges.proofs.Asking.{want_of, wants_are, range_is, bytes_append}

-- the parts of pairs in a form
abbrev pub all_parts : Form → List (ℕ × ℕ) → List Part
all_parts form pairs = parts_of (sound_bytes_of form) form.channels pairs

-- ---- a wanted frame with its bytes
abbrev pub with_frame : List ℕ → Form → Want → ℕ × List ℕ
with_frame file form w = (w.frame, nth_frame file form w.frame)

pub none_refused : (file : List ℕ) (form : Form) (pairs : List (ℕ × ℕ)) (parts : List Part) → IsShape (shape form) →
    AllByRecursion (λ p. (s : List ℕ) × Means (shape form) (nth_frame file form p.frame) s) parts →
    NoneRefused (range pairs) form (map (with_frame file form) (map want_of parts))
none_refused file form pairs [] lawful h = tt
none_refused file form pairs (p ∷ ps) lawful h = (
  λ fault o. meaning_is_no_fault (shape form) (nth_frame file form p.frame) h.0.0 fault lawful h.0.1 o,
  none_refused file form pairs ps lawful h.1,
)

pub frame_of_want : (file : List ℕ) (form : Form) (ws : List Want) (before behind : List (ℕ × List ℕ)) (x : ℕ × List ℕ) →
    map (with_frame file form) ws ≡ before ++ x ∷ behind → nth_frame file form x.0 ≡ x.1
frame_of_want file form [] [] behind x e = absurd cc
frame_of_want file form [] (b ∷ bs) behind x e = absurd cc
frame_of_want file form (w ∷ ws) [] behind x e =
    let same : with_frame file form w ≡ x = cc in
    sym (ap (λ (y : ℕ × List ℕ). nth_frame file form y.0) same) ∙ ap (λ (y : ℕ × List ℕ). y.1) same
frame_of_want file form (w ∷ ws) (b ∷ bs) behind x e =
    let rest : map (with_frame file form) ws ≡ bs ++ x ∷ behind = cc in
    frame_of_want file form ws bs behind x rest

-- ---- the place of a frame that is refused lies behind those that are read
pub place_behind : (file : List ℕ) (form : Form) (k : ℕ) (fault : FrameFault) (xs : List Part) (ws : List Want) → IsShape (shape form) →
    AllByRecursion (λ p. (s : List ℕ) × Means (shape form) (nth_frame file form p.frame) s) xs →
    Offends (shape form) (nth_frame file form k) fault → place_of k (map want_of xs ++ ws) ≡ length xs + place_of k ws
place_behind file form k fault [] ws lawful h o = omega arith
place_behind file form k fault (x ∷ xs) ws lawful h o =
    let other : x.frame ≡ k → ⊥ = λ e.
    meaning_is_no_fault (shape form) (nth_frame file form k) h.0.0 fault lawful (subst (λ j. Means (shape form) (nth_frame file form j) h.0.0) e h.0.1) o in
    let rest = place_behind file form k fault xs ws lawful h.1 o in
    ap (λ b. if b then 0 else 1 + place_of k (map want_of xs ++ ws)) (ne_eqb x.frame k other) ∙ omega (arith, rest)

pub place_first : (k : ℕ) (w : Want) (ws : List Want) → w.frame ≡ k → place_of k (w ∷ ws) ≡ 0
place_first k w ws e = ap (λ b. if b then 0 else 1 + place_of k ws) (eq-eqb w.frame k e)

-- ---- the output in front of a want behind some parts that are read
sum_of_wants : (xs : List Part) (ws : List Want) →
    sum (map (λ (w : Want). w.bytes) (map want_of xs ++ ws)) ≡ counts_of xs + sum (map (λ (w : Want). w.bytes) ws)
sum_of_wants [] ws = omega arith
sum_of_wants (x ∷ xs) ws =
    let here : sum (map (λ (w : Want). w.bytes) (map want_of (x ∷ xs) ++ ws)) ≡ x.count + sum (map (λ (w : Want). w.bytes) (map want_of xs ++ ws)) =
    sum_by-cons (λ (n : ℕ). n) x.count (map (λ (w : Want). w.bytes) (map want_of xs ++ ws)) in
    omega (arith, sum_of_wants xs ws, here, counts_first x xs)

abbrev pub counts_in : ℕ → List Part → ℕ
counts_in j ys = sum (map (λ (w : Want). w.bytes) (take j (map want_of ys)))

pub written_before : (file : List ℕ) (form : Form) (pairs : List (ℕ × ℕ)) (sound : List ℕ) (xs ys : List Part) (j : ℕ) → 0 < sound_bytes_of form →
    all_parts form pairs ≡ xs ++ ys → AreRead file form sound xs →
    range_before form pairs sound (length xs + j) ≡ bytes_of sound xs ++ take (counts_in j ys) (bytes_of sound ys)
written_before file form pairs sound xs ys j some split read =
    let wants_is : wants form pairs ≡ map want_of xs ++ map want_of ys = sym (wants_are form pairs) ∙ ap (map want_of) split ∙ map-append want_of xs ys in
    let long : length (map want_of xs) ≡ length xs = length-map xs want_of in
    let taken : take (length xs + j) (wants form pairs) ≡ map want_of xs ++ take j (map want_of ys) =
    ap (take (length xs + j)) wants_is ∙ ap (λ n. take (n + j) (map want_of xs ++ map want_of ys)) (sym long)
    ∙ take-append-add (map want_of xs) (map want_of ys) j in
    let total : sum (map (λ (w : Want). w.bytes) (take (length xs + j) (wants form pairs))) ≡ length (bytes_of sound xs) + counts_in j ys =
    ap (λ ws. sum (map (λ (w : Want). w.bytes) ws)) taken ∙ sum_of_wants xs (take j (map want_of ys)) ∙ ap (λ n. n + counts_in j ys) (sym read.whole) in
    let whole : range_of form pairs sound ≡ bytes_of sound xs ++ bytes_of sound ys = sym (range_is form pairs sound some) ∙ ap (bytes_of sound) split
    ∙ bytes_append sound xs ys in
    ap (λ n. take n (range_of form pairs sound)) total ∙ ap (take (length (bytes_of sound xs) + counts_in j ys)) whole
    ∙ take-append-add (bytes_of sound xs) (bytes_of sound ys) (counts_in j ys)
