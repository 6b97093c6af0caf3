-- What counts as appended grows by whole lines, one for each call that succeeds.
use Rattle.std.proofs.Common.{◌≡◌, ℕ, ◌+◌, ◌<◌, ◌≤◌, List, [], ◌∷◌, ◌++◌, length, map, take, get_or, Result, Ok, Err, refl, ap, sym, ◌∙◌, arith}
use Rattle.std.proofs.Common.{length-append, append-nil}
use Rattle.std.specs.Prelude.{flat_map, MatchResult}
use Rattle.std.proofs.lemmas.Grind.{flat_map-append}
use Rattle.std.proofs.lemmas.List.{length-map, take-map, take_all, take-append-le}
use Rattle.std.proofs.lemmas.List.Folds.{flat_map-map}
use Rattle.std.proofs.Math.Seq.{take-append-add}
use Rattle.dst_spec.proofs.Lists.{flat_map-next}
use Rattle.dst_streams.specs.declared.source.Failed.{Failed}
use Rattle.dsdiff_spec.specs.Lines.{Line, report}
use Rattle.dst_commands.proofs.InTurn.{Parts}
use Rattle.dst_show.specs.LineByLine.{AddsLines, StopsAtALine, GoesByLines, fed}

-- ---- one line more
pub one_more_line : {X : Type 0} (part : Parts X) (xs : List X) (k : ℕ) (d : X) (piece : List ℕ) (before mid now : ℕ) → k < length xs →
    piece ≡ part (get_or xs k d) → mid ≡ before + length (flat_map part (take k xs)) → now ≡ mid + length piece →
    now ≡ before + length (flat_map part (take (k + 1) xs))
one_more_line part xs k d piece before mid now l is first more =
    let joined = ap length (flat_map-next part xs k d l) ∙ length-append (flat_map part (take k xs)) (part (get_or xs k d)) in
    let long = ap length is in
    omega (arith, first, more, joined, long)

-- ---- lines that hold these, each with its line feed
pub bytes_of_some : {X : Type 0} (part : Parts X) (xs : List X) (reported : List Line) (n : ℕ) → map part xs ≡ fed reported →
    flat_map part (take n xs) ≡ report (take n reported)
bytes_of_some part xs reported n e =
    sym (flat_map-map (λ (w : List ℕ). w) part (take n xs))
    ∙ ap (flat_map (λ (w : List ℕ). w)) (sym (take-map part n xs) ∙ ap (take n) e ∙ take-map (λ (line : Line). line ++ 10 ∷ []) n reported)
    ∙ flat_map-map (λ (w : List ℕ). w) (λ (line : Line). line ++ 10 ∷ []) (take n reported)

pub bytes_of_lines : {X : Type 0} (part : Parts X) (xs : List X) (reported : List Line) → map part xs ≡ fed reported → flat_map part xs ≡ report reported
bytes_of_lines part xs reported e =
    sym (flat_map-map (λ (w : List ℕ). w) part xs)
    ∙ ap (flat_map (λ (w : List ℕ). w)) e
    ∙ flat_map-map (λ (w : List ℕ). w) (λ (line : Line). line ++ 10 ∷ []) reported

pub as_many_lines : {X : Type 0} (part : Parts X) (xs : List X) (reported : List Line) → map part xs ≡ fed reported → length xs ≡ length reported
as_many_lines part xs reported e = sym (length-map xs part) ∙ ap length e ∙ length-map reported (λ (line : Line). line ++ 10 ∷ [])

-- ---- pieces that are one line each
fed_next : (line : Line) (piece : List ℕ) (pieces : List (List ℕ)) (lines : List Line) → piece ≡ report (line ∷ []) → pieces ≡ fed lines →
    piece ∷ pieces ≡ fed (line ∷ lines)
fed_next line piece pieces lines is rest = let whole = is ∙ append-nil (line ++ 10 ∷ []) in cc

pub fed_three : (x y z : Line) {a b c : List ℕ} → a ≡ report (x ∷ []) → b ≡ report (y ∷ []) → c ≡ report (z ∷ []) →
    a ∷ b ∷ c ∷ [] ≡ fed (x ∷ y ∷ z ∷ [])
fed_three x y z p q r = fed_next x _ _ (y ∷ z ∷ []) p (fed_next y _ _ (z ∷ []) q (fed_next z _ _ [] r refl))

pub fed_five : (v w x y z : Line) {a b c d e : List ℕ} → a ≡ report (v ∷ []) → b ≡ report (w ∷ []) → c ≡ report (x ∷ []) → d ≡ report (y ∷ []) →
    e ≡ report (z ∷ []) → a ∷ b ∷ c ∷ d ∷ e ∷ [] ≡ fed (v ∷ w ∷ x ∷ y ∷ z ∷ [])
fed_five v w x y z p q r s t = fed_next v _ _ (w ∷ x ∷ y ∷ z ∷ []) p (fed_next w _ _ (x ∷ y ∷ z ∷ []) q (fed_three x y z r s t))

-- ---- the call for line k failed, or all lines were appended
pub stops_at_line : {X : Type 0} (part : Parts X) (xs : List X) (reported : List Line) (k before mid now : ℕ) → map part xs ≡ fed reported → k < length xs →
    mid ≡ before + length (flat_map part (take k xs)) → now ≡ mid → StopsAtALine reported before now
stops_at_line part xs reported k before mid now e l first still =
    let many = as_many_lines part xs reported e in
    (k, omega (arith, l, many), still ∙ first ∙ ap (λ (w : List ℕ). before + length w) (bytes_of_some part xs reported k e))

pub adds_lines : {X : Type 0} (part : Parts X) (xs : List X) (reported : List Line) (k before now : ℕ) → map part xs ≡ fed reported → length xs ≤ k →
    now ≡ before + length (flat_map part (take k xs)) → AddsLines reported before now
adds_lines part xs reported k before now e l all =
    all ∙ ap (λ (ys : List _). before + length (flat_map part ys)) (take_all k xs l)
    ∙ ap (λ (w : List ℕ). before + length w) (bytes_of_lines part xs reported e)

-- ---- one call for one line
pub none_of_one : (line : Line) (before now : ℕ) → now ≡ before → StopsAtALine (line ∷ []) before now
none_of_one line before now still =
    let one : length (line ∷ []) ≡ 1 = refl in
    let none : length (report (take 0 (line ∷ []))) ≡ 0 = refl in
    (0, omega (arith, one), omega (arith, still, none))

pub goes_by_one : {A : Type 0} (r : Result A Failed) (line : Line) (piece : List ℕ) (before now : ℕ) → piece ≡ report (line ∷ []) →
    MatchResult r (λ _. now ≡ before + length piece) (λ _. now ≡ before) → GoesByLines r (line ∷ []) before now
goes_by_one (Ok u) line piece before now is h = h ∙ ap (λ (w : List ℕ). before + length w) is
goes_by_one (Err failed) line piece before now is h = none_of_one line before now h

-- ---- lines behind others
pub adds_before : (a b : List Line) (before mid now : ℕ) → AddsLines a before mid → AddsLines b mid now → AddsLines (a ++ b) before now
adds_before a b before mid now p q =
    let both = ap length (flat_map-append (λ (line : Line). line ++ 10 ∷ []) a b) ∙ length-append (report a) (report b) in
    omega (arith, p, q, both)

pub stops_among_first : (a b : List Line) (before now : ℕ) → StopsAtALine a before now → StopsAtALine (a ++ b) before now
stops_among_first a b before now (n, l, is) =
    let many = length-append a b in
    let within : n ≤ length a = omega (arith, l) in
    (n, omega (arith, l, many), is ∙ ap (λ (ls : List Line). before + length (report ls)) (sym (take-append-le n a b within)))

pub stops_behind_first : (a b : List Line) (before mid now : ℕ) → AddsLines a before mid → StopsAtALine b mid now → StopsAtALine (a ++ b) before now
stops_behind_first a b before mid now p (n, l, is) =
    let many = length-append a b in
    let both = ap length (flat_map-append (λ (line : Line). line ++ 10 ∷ []) a (take n b)) ∙ length-append (report a) (report (take n b)) in
    let joined : now ≡ before + length (report (a ++ take n b)) = omega (arith, p, is, both) in
    (length a + n, omega (arith, l, many), joined ∙ ap (λ (ls : List Line). before + length (report ls)) (sym (take-append-add a b n)))

pub then_by_lines : {A : Type 0} (r : Result A Failed) (a b : List Line) (before mid now : ℕ) → AddsLines a before mid → GoesByLines r b mid now →
    GoesByLines r (a ++ b) before now
then_by_lines (Ok u) a b before mid now p h = adds_before a b before mid now p h
then_by_lines (Err failed) a b before mid now p h = stops_behind_first a b before mid now p h
