-- The spelling of laid out symbols, and the first of the shortest.
use Rattle.std.proofs.Common.{◌≡◌, ℕ, ◌+◌, ◌/◌, ◌<◌, ◌≤◌, false, List, [], ◌∷◌, ◌++◌, length, get_or, set, ◌-◌, map, fold, take, if◌then◌else◌}
use Rattle.std.proofs.Common.{Option, Some, None, refl, ap, sym, ◌∙◌, arith, lt-ltb, le-ltb}
use Rattle.std.proofs.lemmas.List.{take_more, map-append, get_or_default, drop_all, append-nil}
use borrow.Rule.Slice.PartMut.{put_mid}
use Rattle.dst_spec.specs.Bits.{octets}
use Rattle.dst_spec.specs.Sample.{Shape}
use Rattle.dst_spec.specs.Header.{Params}
use Rattle.dst_spec.specs.Symbols.{symbols}
use Rattle.dst_spec.specs.Spell.{code_spelling, header_spelling, spell, shorter, stored}
use Rattle.dst_spec.proofs.CodeLengths.{spelling_bytes, code_bits}
use Rattle.frame_store.specs.Pairs.{all_pairs}
use Rattle.frame_store.specs.Choosing.{IsFirst, IsChosen}

pub spelled-bytes : (f : Shape) (P : Params) (sound xs : List ℕ) → all_pairs P xs ≡ symbols f P sound false →
    octets (header_spelling P ++ code_spelling (all_pairs P xs)) ≡ spell f P sound
unfolding spell
spelled-bytes f P sound xs is = ap (λ pairs. octets (header_spelling P ++ code_spelling pairs)) is

pub symbols-length : (f : Shape) (P : Params) (sound : List ℕ) →
    length (spell f P sound) ≡ (length (header_spelling P) + length (code_spelling (symbols f P sound false)) + 7) / 8
symbols-length f P sound = spelling_bytes f P sound ∙ ap (λ n. (length (header_spelling P) + n + 7) / 8) (sym (code_bits (symbols f P sound false)))

pub spelled-length : (f : Shape) (P : Params) (sound xs : List ℕ) → all_pairs P xs ≡ symbols f P sound false →
    length (spell f P sound) ≡ (length (header_spelling P) + length (code_spelling (all_pairs P xs)) + 7) / 8
spelled-length f P sound xs is =
    symbols-length f P sound ∙ ap (λ pairs. (length (header_spelling P) + length (code_spelling pairs) + 7) / 8) (sym is)

-- ---- one candidate after the other
fold-more : (a : List ℕ) (xs : List (List ℕ)) (x : List ℕ) → fold shorter a (xs ++ x ∷ []) ≡ shorter (fold shorter a xs) x
fold-more a [] x = refl
fold-more a (y ∷ xs) x = fold-more (shorter a y) xs x

pub stored-more : (f : Shape) (sound : List ℕ) (found : List Params) (n : ℕ) (P : Params) → n < length found →
    stored f sound (take (n + 1) found) ≡ shorter (stored f sound (take n found)) (spell f (get_or found n P) sound)
stored-more f sound found n P lt =
    ap (fold shorter (0 ∷ sound)) (ap (map (λ Q. spell f Q sound)) (take_more found n P lt)
    ∙ map-append (λ Q. spell f Q sound) (take n found) (get_or found n P ∷ []))
    ∙ fold-more (0 ∷ sound) (map (λ Q. spell f Q sound) (take n found)) (spell f (get_or found n P) sound)

pub none-chosen : (f : Shape) (sound : List ℕ) (found : List Params) (least : ℕ) → least ≡ 1 + length sound → IsChosen f sound found 0 None least
none-chosen f sound found least is = record { first = refl; least_is = omega (arith, is) }

pub chosen-new : (f : Shape) (sound : List ℕ) (found : List Params) (n : ℕ) (P : Params) (best : Option ℕ) (least long : ℕ) → n < length found →
    P ≡ get_or found n P →
    IsChosen f sound found n best least → long ≡ length (spell f P sound) → long < least → IsChosen f sound found (n + 1) (Some n) long
chosen-new f sound found n P best least long inside at h is lt =
    let old = stored f sound (take n found) in
    let old_is = h.least_is in
    let here = ap (λ Q. spell f Q sound) (sym at) in
    let shorter_is : length (spell f (get_or found n P) sound) < length old = omega (arith, ap length here) in
    let more = stored-more f sound found n P inside
    ∙ ap (λ b. if b then spell f (get_or found n P) sound else old) (lt-ltb (length (spell f (get_or found n P) sound)) (length old) shorter_is) in
    record {
      first = (omega arith, λ other. more ∙ ap (λ Q. spell f Q sound) (get_or_default found n P other inside));
      least_is = is ∙ ap length (sym (more ∙ here));
    }

pub chosen-old : (f : Shape) (sound : List ℕ) (found : List Params) (n : ℕ) (P : Params) (best : Option ℕ) (least long : ℕ) → n < length found →
    P ≡ get_or found n P →
    IsChosen f sound found n best least → long ≡ length (spell f P sound) → least ≤ long → IsChosen f sound found (n + 1) best least
chosen-old f sound found n P best least long inside at h is le =
    let old = stored f sound (take n found) in
    let old_is = h.least_is in
    let here = ap (λ Q. spell f Q sound) (sym at) in
    let longer : length old ≤ length (spell f (get_or found n P) sound) = omega (arith, ap length here) in
    let more = stored-more f sound found n P inside
    ∙ ap (λ b. if b then spell f (get_or found n P) sound else old) (le-ltb (length (spell f (get_or found n P) sound)) (length old) longer) in
    record { first = later best more h.first; least_is = h.least_is ∙ ap length (sym more) }
  where
    later : (b : Option ℕ) → stored f sound (take (n + 1) found) ≡ stored f sound (take n found) → IsFirst f sound found n b → IsFirst f sound found (n + 1) b
    later None more first = more ∙ first
    later (Some k) more first = (omega (arith, first.0), λ other. more ∙ first.1 other)

-- ---- one candidate alone
pub alone-shorter : (f : Shape) (sound : List ℕ) (found : List Params) (P : Params) → length found ≡ 1 → P ≡ get_or found 0 P →
    length (spell f P sound) ≤ length sound → stored f sound found ≡ spell f P sound
alone-shorter f sound [] P one at le = absurd (omega arith)
alone-shorter f sound (Q ∷ []) P one at le =
    let short : length (spell f Q sound) < length (0 ∷ sound) = omega (arith, ap (λ R. length (spell f R sound)) at) in
    ap (λ b. if b then spell f Q sound else 0 ∷ sound) (lt-ltb (length (spell f Q sound)) (length (0 ∷ sound)) short) ∙ ap (λ R. spell f R sound) (sym at)
alone-shorter f sound (Q ∷ R ∷ more) P one at le = absurd (omega arith)

pub alone-longer : (f : Shape) (sound : List ℕ) (found : List Params) (P : Params) → length found ≡ 1 → P ≡ get_or found 0 P →
    length sound < length (spell f P sound) → stored f sound found ≡ 0 ∷ sound
alone-longer f sound [] P one at lt = absurd (omega arith)
alone-longer f sound (Q ∷ []) P one at lt =
    let long : length (0 ∷ sound) ≤ length (spell f Q sound) = omega (arith, ap (λ R. length (spell f R sound)) at) in
    ap (λ b. if b then spell f Q sound else 0 ∷ sound) (le-ltb (length (spell f Q sound)) (length (0 ∷ sound)) long)
alone-longer f sound (Q ∷ R ∷ more) P one at lt = absurd (omega arith)

-- a byte 0 and the sound written behind it
pub plain-is : (old sound : List ℕ) → length old ≡ 1 + length sound → put_mid 1 (length (set old 0 0) - 1) (set old 0 0) sound ≡ 0 ∷ sound
plain-is [] sound long = absurd (omega arith)
plain-is (byte ∷ rest) sound long =
    let behind : length (0 ∷ rest) - 1 ≡ length rest = omega arith in
    ap (λ k. put_mid 1 k (0 ∷ rest) sound) behind ∙ ap (λ xs. 0 ∷ sound ++ xs) (drop_all (length rest) rest (omega arith))
    ∙ ap (λ xs. 0 ∷ xs) (append-nil sound)
