-- A frame means one sound at most, with one tail.
use Rattle.std.proofs.Common.{◌≡◌, ◌⊎◌, inl, inr, ℕ, zero, suc, ◌+◌, ◌-◌, ◌*◌, ◌/◌, ◌%◌, ◌^◌, ◌<◌, ◌≤◌, Bool, List, [], ◌∷◌, ◌++◌, length, take, drop}
use Rattle.std.proofs.Common.{get_or, refl, ap, ap₂, sym, subst, ◌∙◌, arith, pos, take-append-drop, length-take-le, ext_get_or, div-add-mod'}
use Rattle.std.proofs.lemmas.Nat.{div_below, mod-mul-add, div-mul-add}
use Rattle.std.proofs.lemmas.Nat.Bits.{same_from_bits_below}
use Rattle.dst_spec.specs.Bits.{bits, AreBits, AreBytes}
use Rattle.dst_spec.specs.Sample.{Shape, IsShape, IsSound, sample, samples}
use Rattle.dst_spec.specs.Header.{Params, IsParams}
use Rattle.dst_spec.specs.Symbols.{reserved_probability, symbols}
use Rattle.dst_spec.specs.Interval.{whole, narrowed, interval_from, interval, IsWithin, IsCodeOf}
use Rattle.dst_spec.specs.Means.{Means, IsPlain, IsCoded, plain_tail, coded_tail, MeansWithTail}
use Rattle.dst_spec.specs.Laws.{TailLaw}
use Rattle.dst_spec.proofs.Numbers.{AreBits-bits}
use Rattle.dst_spec.proofs.Intervals.{IsNormal-whole, IsNormal-narrowed, one_part}
use Rattle.dst_spec.proofs.Probabilities.{reserved_probability-least, reserved_probability-most}
use Rattle.dst_spec.proofs.Headers.{Reads-header, header_law}
use Rattle.dst_spec.proofs.Decoding.{pairs_from, sample_at, symbols-by_place, same_samples, first_symbol, lawful_from}
use Rattle.dst_spec.proofs.Lists.{place-below}

-- ---- sounds with the same samples are the same
get_byte : (xs : List ℕ) (i : ℕ) → AreBytes xs → get_or xs i 0 < 2 ^ 8
get_byte [] i h = omega arith
get_byte (x ∷ xs) zero h = h.0
get_byte (x ∷ xs) (suc i) h = get_byte xs i h.1

sample_of_byte : (f : Shape) (sound : List ℕ) (i j : ℕ) → 0 < f.channels → j < 8 →
    sample_at f sound ((8 * (i / f.channels) + j) * f.channels + i % f.channels) ≡ get_or sound i 0 / 2 ^ (7 - j) % 2
sample_of_byte f sound i j h k =
    let w = f.channels in
    let t = 8 * (i / w) + j in
    let c : i % w < w = omega arith in
    let left = mod-mul-add t w (i % w) c in
    let down = div-mul-add t w (i % w) c in
    let eighth : t / 8 ≡ i / w = omega arith in
    let bit : t % 8 ≡ j = omega arith in
    let byte : i / w * w + i % w ≡ i = div-add-mod' i w in
    ap₂ (λ x y. sample f sound x (pos y)) left down
    ∙ ap₂ (λ x y. get_or sound (x * w + i % w) 0 / 2 ^ (7 - y) % 2) eighth bit
    ∙ ap (λ x. get_or sound x 0 / 2 ^ (7 - j) % 2) byte

place_inside : (w n i j : ℕ) → 0 < w → i < n * w → j < 8 → (8 * (i / w) + j) * w + i % w < 8 * n * w
place_inside w n i j h k l =
    let q : i / w < n = div_below i w n h k in
    let c : i % w < w = omega arith in
    place-below (8 * (i / w) + j) (i % w) w (8 * n) c (omega arith)

pub same_sound : (f : Shape) (a b : List ℕ) → 0 < f.channels → IsSound f a → IsSound f b →
    ((m : ℕ) → m < samples f * f.channels → sample_at f a m ≡ sample_at f b m) → a ≡ b
same_sound f a b h u v same =
    ext_get_or 0 a b (u.long ∙ sym v.long)
    (λ i l. same_from_bits_below 8 (get_or a i 0) (get_or b i 0) (get_byte a i u.bytes) (get_byte b i v.bytes)
    (λ k lt.
    let j = 7 - k in
    let place = (8 * (i / f.channels) + j) * f.channels + i % f.channels in
    let back : 7 - j ≡ k = omega arith in
    let inside : place < samples f * f.channels = place_inside f.channels f.octets i j h (omega (arith, u.long)) (omega arith) in
    ap (λ z. get_or a i 0 / 2 ^ z % 2) (sym back) ∙ sym (sample_of_byte f a i j h (omega arith)) ∙ same place inside
    ∙ sample_of_byte f b i j h (omega arith) ∙ ap (λ z. get_or b i 0 / 2 ^ z % 2) back))

-- ---- the interval of a sound's symbols, from the reserved one on
code_by_place : (f : Shape) (P : Params) (xs : List ℕ) (i : ℕ) (sound : List ℕ) (e : Bool) → IsCodeOf xs i (symbols f P sound e) →
    IsWithin xs i (interval_from whole ((e, reserved_probability P) ∷ pairs_from f P sound 0 (samples f * f.channels)))
code_by_place f P xs i sound e w = subst (λ ps. IsWithin xs i (interval_from whole ps)) (symbols-by_place f P sound e) w

behind_first : (xs : List ℕ) (i : ℕ) (pair : Bool × ℕ) (rest : List (Bool × ℕ)) → IsWithin xs i (interval_from whole (pair ∷ rest)) →
    IsWithin xs i (interval_from (narrowed whole pair) rest)
unfolding interval_from
behind_first xs i pair rest w = w

-- two sounds whose symbols the code has are one, with one reserved symbol
one_reading_of_code : (f : Shape) (P : Params) (xs : List ℕ) (i : ℕ) (a b : List ℕ) (d e : Bool) → IsParams f.channels P → 0 < f.channels → AreBits xs →
    IsSound f a → IsSound f b →
    IsCodeOf xs i (symbols f P a d) → IsCodeOf xs i (symbols f P b e) → (d ≡ e) × (a ≡ b)
one_reading_of_code f P xs i a b d e params h bits sa sb u v =
    let p = reserved_probability P in
    let n = samples f * f.channels in
    let law : (1 ≤ p) × (p ≤ 128) = (reserved_probability-least P, reserved_probability-most P) in
    let at_a = code_by_place f P xs i a d u in
    let at_b = code_by_place f P xs i b e v in
    let first_a = first_symbol xs i whole (d, p) (pairs_from f P a 0 n) bits IsNormal-whole law (lawful_from f P a 0 n params h) at_a in
    let first_b = first_symbol xs i whole (e, p) (pairs_from f P b 0 n) bits IsNormal-whole law (lawful_from f P b 0 n params h) at_b in
    let one = one_part xs i whole p law.0 law.1 IsNormal-whole first_a.1 in
    let same_reserved : e ≡ d = one.2 e first_b.0 ∙ sym (one.2 d first_a.0) in
    let normal = IsNormal-narrowed whole d p law.0 law.1 IsNormal-whole in
    let rest_a = behind_first xs i (d, p) (pairs_from f P a 0 n) at_a in
    let rest_b = subst (λ z. IsWithin xs i (interval_from (narrowed whole (z, p)) (pairs_from f P b 0 n))) same_reserved
    (behind_first xs i (e, p) (pairs_from f P b 0 n) at_b) in
    (sym same_reserved, same_sound f a b h sa sb (same_samples f P xs i a b (narrowed whole (d, p)) n params h bits normal rest_a rest_b n (omega arith)))

-- ---- two readings of one coded frame are one
record IsSameReading (f : Shape) (frame a b : List ℕ) (d : IsCoded f frame a) (e : IsCoded f frame b) : Type 0 where
  place : d.place ≡ e.place
  params : d.params ≡ e.params
  reserved : d.reserved ≡ e.reserved
  sound : a ≡ b

same_coded : (f : Shape) (frame a b : List ℕ) → IsShape f → IsSound f a → IsSound f b → (d : IsCoded f frame a) (e : IsCoded f frame b) →
    IsSameReading f frame a b d e
same_coded f frame a b shape sa sb d e =
    let xs = bits frame in
    let wholes : take d.place xs ++ drop d.place xs ≡ take e.place xs ++ drop e.place xs = take-append-drop d.place xs ∙ sym (take-append-drop e.place xs) in
    let law = header_law f.channels d.params e.params (take d.place xs) (take e.place xs) (drop d.place xs)
    (drop e.place xs) shape.most d.header e.header wholes in
    let place : d.place ≡ e.place = sym (length-take-le d.place xs d.inside) ∙ ap length law.0 ∙ length-take-le e.place xs e.inside in
    let code : IsCodeOf xs d.place (symbols f d.params b e.reserved) =
    subst (λ P. IsCodeOf xs d.place (symbols f P b e.reserved)) (sym law.1) (subst (λ i. IsCodeOf xs i (symbols f e.params b e.reserved)) (sym place) e.code) in
    let one = one_reading_of_code f d.params xs d.place a b d.reserved e.reserved d.header.params shape.least (AreBits-bits frame) sa sb d.code code in
    record { place = place; params = law.1; reserved = one.0; sound = one.1 }

same_tail : (f : Shape) (frame a b : List ℕ) (d : IsCoded f frame a) (e : IsCoded f frame b) → IsSameReading f frame a b d e →
    coded_tail f frame a d ≡ coded_tail f frame b e
same_tail f frame a b d e s =
    let pairs : symbols f d.params a d.reserved ≡ symbols f e.params b e.reserved =
    ap (λ P. symbols f P a d.reserved) s.params ∙ ap₂ (λ sound r. symbols f e.params sound r) s.sound s.reserved in
    ap₂ (λ place ps. length frame - (place + 13 + (interval ps).doublings + 7) / 8) s.place pairs

-- a plain frame isn't coded
plain_or_coded : (f : Shape) (frame a b : List ℕ) → IsShape f → IsPlain f frame a → IsCoded f frame b → ⊥
plain_or_coded f frame a b shape p d =
    let xs = bits frame in
    let h = Reads-header f.channels d.params (take d.place xs) shape.most d.header in
    let split : xs ≡ 1 ∷ (h.0 ++ drop d.place xs) = sym (take-append-drop d.place xs) ∙ ap (λ zs. zs ++ drop d.place xs) h.1 in
    let one : get_or xs 0 0 ≡ 1 = ap (λ zs. get_or zs 0 0) split in
    absurd (omega (arith, one, p.coded))

-- what a frame means it means with one tail
pub one_tail : (f : Shape) (frame a b : List ℕ) (m n : ℕ) → IsShape f → MeansWithTail f frame a m → MeansWithTail f frame b n → (a ≡ b) × (m ≡ n)
one_tail f frame a b m n shape u v = go u.1 v.1
  where
    go : (IsPlain f frame a × (m ≡ plain_tail f frame)) ⊎ ((d : IsCoded f frame a) × (m ≡ coded_tail f frame a d)) →
        (IsPlain f frame b × (n ≡ plain_tail f frame)) ⊎ ((e : IsCoded f frame b) × (n ≡ coded_tail f frame b e)) → (a ≡ b) × (m ≡ n)
    go (inl p) (inl q) = (p.0.is_sound ∙ sym q.0.is_sound, p.1 ∙ sym q.1)
    go (inl p) (inr e) = absurd (plain_or_coded f frame a b shape p.0 e.0)
    go (inr d) (inl q) = absurd (plain_or_coded f frame b a shape q.0 d.0)
    go (inr d) (inr e) =
        let s = same_coded f frame a b shape u.0 v.0 d.0 e.0 in
        (s.sound, d.1 ∙ same_tail f frame a b d.0 e.0 s ∙ sym e.1)

pub tail_of_meaning : (f : Shape) (frame sound : List ℕ) → Means f frame sound → (tail : ℕ) × MeansWithTail f frame sound tail
tail_of_meaning f frame sound m = go m.1
  where
    go : IsPlain f frame sound ⊎ IsCoded f frame sound → (tail : ℕ) × MeansWithTail f frame sound tail
    go (inl p) = (plain_tail f frame, (m.0, inl (p, refl)))
    go (inr d) = (coded_tail f frame sound d, (m.0, inr (d, refl)))

pub meaning_of_tail : (f : Shape) (frame sound : List ℕ) (tail : ℕ) → MeansWithTail f frame sound tail → Means f frame sound
meaning_of_tail f frame sound tail m = go m.1
  where
    go : (IsPlain f frame sound × (tail ≡ plain_tail f frame)) ⊎ ((d : IsCoded f frame sound) × (tail ≡ coded_tail f frame sound d)) → Means f frame sound
    go (inl p) = (m.0, inl p.0)
    go (inr d) = (m.0, inr d.0)

pub tail_law : TailLaw
tail_law f frame shape = (
  λ a b m n u v. one_tail f frame a b m n shape u v,
  λ sound m. tail_of_meaning f frame sound m,
  λ sound tail m. meaning_of_tail f frame sound tail m,
)

pub one_meaning : (f : Shape) (frame a b : List ℕ) → IsShape f → Means f frame a → Means f frame b → a ≡ b
one_meaning f frame a b shape m n =
    let u = tail_of_meaning f frame a m in
    let v = tail_of_meaning f frame b n in
    (one_tail f frame a b u.0 v.0 shape u.1 v.1).0
