-- The order of the frames that are held: after one is brought to the front, and after several were wanted in turn.
use Rattle.std.proofs.Common.{◌≡◌, ℕ, zero, suc, ◌+◌, ◌==◌, Bool, true, false, if◌then◌else◌, List, [], ◌∷◌, ◌++◌, length, take, map, Option, Some}
use Rattle.std.proofs.Common.{None, is_some, refl, sym, ap, subst, ◌∙◌, arith, eqb-true, append_assoc}
use Rattle.std.specs.Prelude.{sum, ◌≤◌, ◌<◌}
use Rattle.std.specs.List.{AllByRecursion, range_with_len}
use Rattle.std.proofs.lemmas.List.{take-map, map-append}
use Rattle.std.proofs.lemmas.List.Sums.{sum_by-append}
use Rattle.dsdiff_spec.specs.Ranges.{is_held, without, keys, keys_after, decoded_of}
use Rattle.frame_cache.specs.Slots.{HeldSound, held, frames_in, found, others, in_front, moved}

-- ---- one frame that is wanted
pub held_is_found : (ks : List HeldSound) (k : ℕ) → is_held (frames_in ks) k ≡ is_some (found ks k)
held_is_found [] k = refl
held_is_found (x ∷ xs) k = go (x.frame == k) refl (held_is_found xs k)
  where
    go : (b : Bool) → (x.frame == k) ≡ b → is_held (frames_in xs) k ≡ is_some (found xs k) → is_held (frames_in (x ∷ xs)) k ≡ is_some (found (x ∷ xs) k)
    go true is more = rw is refl
    go false is more = rw is more

frames-others : (ks : List HeldSound) (k : ℕ) → frames_in (others ks k) ≡ without (frames_in ks) k
frames-others [] k = refl
frames-others (x ∷ xs) k = go (x.frame == k) refl (frames-others xs k)
  where
    go : (b : Bool) → (x.frame == k) ≡ b → frames_in (others xs k) ≡ without (frames_in xs) k → frames_in (others (x ∷ xs) k) ≡ without (frames_in (x ∷ xs)) k
    go true is more = rw is refl
    go false is more = rw is (ap (λ l. x.frame ∷ l) more)

pub frame-found : (ks : List HeldSound) (k : ℕ) (x : HeldSound) → found ks k ≡ Some x → x.frame ≡ k
frame-found [] k x h = absurd cc
frame-found (y ∷ ys) k x h = go (y.frame == k) refl (frame-found ys k x)
  where
    go : (b : Bool) → (y.frame == k) ≡ b → (found ys k ≡ Some x → x.frame ≡ k) → x.frame ≡ k
    go true is more =
        let h' = rw is at h in
        let same : y ≡ x = cc in
        sym (ap (λ z. z.frame) same) ∙ eqb-true y.frame k is
    go false is more = more (rw is at h)

pub order-moved : (ks : List HeldSound) (k n : ℕ) → is_some (found ks k) ≡ true → frames_in (moved ks k) ≡ keys (frames_in ks) k n
order-moved ks k n there = go (found ks k) refl
  where
    go : (o : Option HeldSound) → found ks k ≡ o → frames_in (moved ks k) ≡ keys (frames_in ks) k n
    go None is = let none = rw is at there in absurd cc
    go (Some x) is =
        let one : is_held (frames_in ks) k ≡ true = held_is_found ks k ∙ there in
        rw (one, is) (ap (λ j. j ∷ frames_in (others ks k)) (frame-found ks k x is) ∙ ap (λ l. k ∷ l) (frames-others ks k))

pub order-taken : (ks : List HeldSound) (k n : ℕ) (sound : List ℕ) → is_some (found ks k) ≡ false →
    frames_in (take n (held k sound ∷ ks)) ≡ keys (frames_in ks) k n
order-taken ks k n sound none =
    let not_there : is_held (frames_in ks) k ≡ false = held_is_found ks k ∙ none in
    rw not_there (sym (take-map (λ (x : HeldSound). x.frame) n (held k sound ∷ ks)))

-- what holds of all that is held
pub all-found : (P : HeldSound → Type 0) (ks : List HeldSound) (k : ℕ) (x : HeldSound) → found ks k ≡ Some x → AllByRecursion P ks →
    P x × AllByRecursion P (others ks k)
all-found P [] k x h all = absurd cc
all-found P (y ∷ ys) k x h all = go (y.frame == k) refl (all-found P ys k x)
  where
    go : (b : Bool) → (y.frame == k) ≡ b → (found ys k ≡ Some x → AllByRecursion P ys → P x × AllByRecursion P (others ys k)) →
        P x × AllByRecursion P (others (y ∷ ys) k)
    go true is more =
        let h' = rw is at h in
        let same : y ≡ x = cc in
        rw is (subst P same all.0, all.1)
    go false is more =
        let later = more (rw is at h) all.1 in
        rw is (later.0, (all.0, later.1))

pub all-moved : (P : HeldSound → Type 0) (ks : List HeldSound) (k : ℕ) → AllByRecursion P ks → AllByRecursion P (moved ks k)
all-moved P ks k all = go (found ks k) refl
  where
    go : (o : Option HeldSound) → found ks k ≡ o → AllByRecursion P (in_front o ks k)
    go None is = all
    go (Some x) is = all-found P ks k x is all

-- ---- several frames in turn, and one more
pub keys_after-append : (order ks js : List ℕ) (n : ℕ) → keys_after order (ks ++ js) n ≡ keys_after (keys_after order ks n) js n
keys_after-append order [] js n = refl
keys_after-append order (k ∷ ks) js n = keys_after-append (keys order k n) ks js n

pub decoded_of-append : (order ks js : List ℕ) (n : ℕ) → decoded_of order (ks ++ js) n ≡ decoded_of order ks n ++ decoded_of (keys_after order ks n) js n
decoded_of-append order [] js n = refl
decoded_of-append order (k ∷ ks) js n =
    let here = if is_held order k then [] else k ∷ [] in
    let next = keys order k n in
    ap (λ l. here ++ l) (decoded_of-append next ks js n) ∙ sym (append_assoc here (decoded_of next ks n) (decoded_of (keys_after next ks n) js n))

pub few_decoded : (order ks : List ℕ) (n : ℕ) → length (decoded_of order ks n) ≤ length ks
few_decoded order [] n = omega arith
few_decoded order (k ∷ ks) n = go (is_held order k) (few_decoded (keys order k n) ks n)
  where
    go : (b : Bool) → length (decoded_of (keys order k n) ks n) ≤ length ks → length ((if b then [] else k ∷ []) ++ decoded_of (keys order k n) ks n) ≤ length
        (k ∷ ks)
    go true more = omega arith
    go false more = omega arith

-- the frame that was wanted last stands in front
pub record HasInFront (ks : List HeldSound) (k : ℕ) : Type 0 where
  pub first : HeldSound
  pub rest : List HeldSound
  pub parts : ks ≡ first ∷ rest
  pub frame_is : first.frame ≡ k

pub in_front_of : (ks : List HeldSound) (order : List ℕ) (k n : ℕ) → frames_in ks ≡ keys order k n → 0 < n → HasInFront ks k
in_front_of ks order k zero is some = absurd (omega arith)
in_front_of ks order k (suc n) is some = go (is_held order k) is
  where
    first_of : (ks : List HeldSound) (rest : List ℕ) → frames_in ks ≡ k ∷ rest → HasInFront ks k
    first_of [] rest is = absurd cc
    first_of (x ∷ xs) rest is = record { first = x; rest = xs; parts = refl; frame_is = cc }

    go : (b : Bool) → frames_in ks ≡ (if b then k ∷ without order k else take (suc n) (k ∷ order)) → HasInFront ks k
    go true is = first_of ks (without order k) is
    go false is = first_of ks (take n order) is

pub range-parts : (a m j : ℕ) → range_with_len a (m + suc j) ≡ range_with_len a m ++ (a + m) ∷ range_with_len (a + m + 1) j
range-parts a zero j =
    let same : zero + suc j ≡ suc j = omega arith in
    let here : a ≡ a + zero = omega arith in
    ap (range_with_len a) same ∙ ap (λ k. k ∷ range_with_len (k + 1) j) here
range-parts a (suc m) j =
    let next : suc m + suc j ≡ suc (m + suc j) = omega arith in
    let there : a + 1 + m ≡ a + suc m = omega arith in
    ap (range_with_len a) next
    ∙ ap (λ l. a ∷ l) (range-parts (a + 1) m j ∙ ap (λ k. range_with_len (a + 1) m ++ k ∷ range_with_len (k + 1) j) there)

pub sum_of-append : (f : ℕ → ℕ) (xs ys : List ℕ) → sum (map f (xs ++ ys)) ≡ sum (map f xs) + sum (map f ys)
sum_of-append f xs ys = ap sum (map-append f xs ys) ∙ sum_by-append (λ (x : ℕ). x) (map f xs) (map f ys)
