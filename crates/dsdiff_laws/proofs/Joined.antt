-- A sound that was cut into pieces and filled up, joined and cut to its size, is the sound.
use Rattle.std.proofs.Common.{◌≡◌, ◌⊎◌, inl, inr, ℕ, zero, suc, ◌+◌, ◌-◌, ◌*◌, ◌/◌, ◌<◌, ◌≤◌, List, [], ◌∷◌, ◌++◌, length, take, drop, map, replicate}
use Rattle.std.proofs.Common.{refl, sym, ap, ap₂, ◌∙◌, arith, length-drop, take-append-drop, take_at, append-nil, append_assoc}
use Rattle.std.specs.List.{range_with_len, concat, AllZip, AllByRecursion}
use Rattle.std.proofs.lemmas.Bool.{cases_lt}
use Rattle.std.proofs.lemmas.List.{drop-drop, take_all, length-take}
use Rattle.std.proofs.Math.Seq.{take-append-add}
use Rattle.std.proofs.Math.Nat.{div-add-mod, add-mul, mod-lt, mul_comm}
use Rattle.dst_spec.specs.Bits.{AreBytes}
use Rattle.dst_spec.specs.Sample.{Shape, IsShape}
use Rattle.dst_spec.specs.Means.{Means}
use Rattle.dst_spec.specs.Laws.{IsRefused, IsUnderstood}
use Rattle.dst_spec.proofs.Understood.{decoding_law}
use Rattle.dsdiff_spec.specs.Bytes.{bytes_at}
use Rattle.dsdiff_spec.specs.Form.{frames_for}
use Rattle.dsdiff_spec.specs.Coded.{filled, pieces}

take_nothing : (k : ℕ) → ◌≡◌ {A = List ℕ} (take k []) []
take_nothing zero = refl
take_nothing (suc k) = refl

-- pieces from one on, joined, begin with what is left of the sound there
joined_from : (n : ℕ) (w : List ℕ) (m a : ℕ) → length w ≤ (a + m) * n →
    take (length w - a * n) (concat (map (λ k. filled n (bytes_at w (k * n) n)) (range_with_len a m))) ≡ drop (a * n) w
joined_from n w zero a le =
    let none : length w - a * n ≡ 0 = omega (arith, le, ap (λ k. k * n) (no_more a)) in
    let all : length (drop (a * n) w) ≡ 0 = omega (arith, length-drop (a * n) w, none) in
    empty (drop (a * n) w) all
  where
    no_more : (a : ℕ) → a + 0 ≡ a
    no_more a = omega arith

    empty : (v : List ℕ) → length v ≡ 0 → take (length w - a * n) [] ≡ v
    empty [] e = take_nothing (length w - a * n)
    empty (x ∷ v) e = absurd (omega (arith, e))
joined_from n w (suc m) a le =
    let first = bytes_at w (a * n) n in
    let later = concat (map (λ k. filled n (bytes_at w (k * n) n)) (range_with_len (a + 1) m)) in
    let next : (a + 1) * n ≡ a * n + n = add-mul a 1 n ∙ ap (λ k. a * n + k) (once n) in
    let rest = joined_from n w m (a + 1) (omega (arith, le, ap (λ k. k * n) (moved a m))) in
    elim (cases_lt (length w - a * n) n) [
      | inl short ↦
          let all : first ≡ drop (a * n) w = take_all n (drop (a * n) w) (omega (arith, length-drop (a * n) w, short)) in
          let long : length first ≡ length w - a * n = ap length all ∙ length-drop (a * n) w in
          ap (take (length w - a * n)) (append_assoc first (replicate (n - length first) 0x69) later)
          ∙ take_at first (replicate (n - length first) 0x69 ++ later) (length w - a * n) long
          ∙ all
      | inr fits ↦
          let long : length first ≡ n = omega (arith, length-take n (drop (a * n) w), length-drop (a * n) w, fits) in
          let none : n - length first ≡ 0 = omega (arith, long) in
          let whole : filled n first ≡ first = ap (λ k. first ++ replicate k 0x69) none ∙ append-nil first in
          let split : length w - a * n ≡ length first + (length w - (a + 1) * n) = omega (arith, long, fits, next) in
          ap (λ v. take (length w - a * n) (v ++ later)) whole
          ∙ ap (λ k. take k (first ++ later)) split
          ∙ take-append-add first later (length w - (a + 1) * n)
          ∙ ap (λ v. first ++ v) (rest ∙ ap (λ k. drop k w) next ∙ sym (drop-drop n (a * n) w ∙ ap (λ k. drop k w) (comm n (a * n))))
          ∙ take-append-drop n (drop (a * n) w)
    ]
  where
    once : (n : ℕ) → 1 * n ≡ n
    once n = omega arith

    moved : (a m : ℕ) → a + suc m ≡ a + 1 + m
    moved a m = omega arith

    comm : (x y : ℕ) → y + x ≡ y + x
    comm x y = refl

pub pieces_join : (n : ℕ) (w : List ℕ) → 0 < n → take (length w) (concat (pieces n w)) ≡ w
unfolding pieces
pieces_join n w some =
    let m = frames_for n (length w) in
    let all : length w ≡ length w - 0 * n = omega arith in
    let none : 0 * n ≡ 0 = omega arith in
    ap (λ k. take k (concat (map (λ i. filled n (bytes_at w (i * n) n)) (range_with_len 0 m)))) all
    ∙ joined_from n w m 0 (enough (length w) n m some (covers (length w) n some))
    ∙ ap (λ k. drop k w) none
  where
    covers : (s n : ℕ) → 0 < n → s ≤ frames_for n s * n
    covers s n some =
        let whole = div-add-mod (s + n - 1) n in
        let small = mod-lt (s + n - 1) some in
        omega (arith, whole, small, mul_comm n ((s + n - 1) / n))

    enough : (s n m : ℕ) → 0 < n → s ≤ m * n → s ≤ (0 + m) * n
    enough s n m some le = omega (arith, le, ap (λ k. k * n) (zero_more m))
      where
        zero_more : (m : ℕ) → 0 + m ≡ m
        zero_more m = omega arith

-- ---- what frames mean they mean alone
pub one_meaning : (f : Shape) (frames list other : List (List ℕ)) → IsShape f → AllByRecursion AreBytes frames → AllZip (Means f) frames list →
    AllZip (Means f) frames other → list ≡ other
one_meaning f [] [] [] shape bytes a b = refl
one_meaning f [] [] (y ∷ ys) shape bytes a b = absurd b
one_meaning f [] (x ∷ xs) ys shape bytes a b = absurd a
one_meaning f (w ∷ ws) [] ys shape bytes a b = absurd a
one_meaning f (w ∷ ws) (x ∷ xs) [] shape bytes a b = absurd b
one_meaning f (w ∷ ws) (x ∷ xs) (y ∷ ys) shape bytes a b =
    ap₂ (λ (s : List ℕ) (ss : List (List ℕ)). s ∷ ss) (same (decoding_law f w shape bytes.0)) (one_meaning f ws xs ys shape bytes.1 a.1 b.1)
  where
    same : IsRefused f w ⊎ IsUnderstood f w → x ≡ y
    same (inl refused) = absurd (refused.3 x a.0)
    same (inr understood) = understood.2 x a.0 ∙ sym (understood.2 y b.0)
