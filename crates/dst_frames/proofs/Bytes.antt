-- The eight samples of a byte, and sounds whose first bytes are the same.
use Rattle.std.proofs.Common.{◌≡◌, ℕ, zero, suc, ◌+◌, ◌-◌, ◌*◌, ◌/◌, ◌%◌, ◌^◌, ◌<◌, ◌≤◌, pos, Bool, List, [], ◌∷◌, ◌++◌, length, get_or, take, drop, drop-drop}
use Rattle.std.proofs.Common.{refl, ap, ap₂, sym, subst, ◌∙◌, arith, drop-cons}
use Rattle.std.proofs.lemmas.List.{get_or_append_left, get_or-append-add, get_or-take, length-take-le}
use borrow.Rule.Slice.PartMut.{put_mid, post_of}
use Rattle.dst_spec.specs.Sample.{Shape, sample}
use Rattle.dst_spec.specs.Header.{Params}
use Rattle.dst_spec.specs.Guess.{filter_of, probs_of}
use Rattle.dst_spec.proofs.SymbolsBefore.{byte_sample}
use Rattle.arith_decoder.specs.Decoding.{Decoding}
use Rattle.dst_frames.specs.Ready.{IsReady}
use Rattle.dst_frames.specs.declared.state.ChannelState.{ChannelState}
use Rattle.dst_frames.specs.Underway.{earlier, IsUnderway, IsDecodedTo}
use Rattle.dst_frames.proofs.History.{earlier-suc}
use Rattle.dst_spec.proofs.Lists.{place-below}
use Rattle.std.proofs.Math.Nat.{mul-le-mul_right}

-- the byte of a sample stands before those of byte m
same_sample : (f : Shape) (a b : List ℕ) (m c t : ℕ) → c < f.channels → ((k : ℕ) → k < m * f.channels → get_or a k 0 ≡ get_or b k 0) → t < 8 * m →
    sample f a c (pos t) ≡ sample f b c (pos t)
same_sample f a b m c t h same lt =
    let inside = place-below (t / 8) c f.channels m h (omega arith) in
    ap (λ x. x / 2 ^ (7 - t % 8) % 2) (same (t / 8 * f.channels + c) inside)

same_up_to : (f : Shape) (a b : List ℕ) (m c : ℕ) → c < f.channels → ((k : ℕ) → k < m * f.channels → get_or a k 0 ≡ get_or b k 0) → (t : ℕ) → t ≤ 8 * m →
    earlier f a c t ≡ earlier f b c t
unfolding earlier
same_up_to f a b m c h same zero le = refl
same_up_to f a b m c h same (suc t) le = ap₂ (λ x xs. x ∷ xs) (same_sample f a b m c t h same (omega arith)) (same_up_to f a b m c h same t (omega arith))

pub same_earlier : (f : Shape) (a b : List ℕ) (m c : ℕ) → c < f.channels → ((k : ℕ) → k < m * f.channels → get_or a k 0 ≡ get_or b k 0) →
    earlier f a c (8 * m) ≡ earlier f b c (8 * m)
same_earlier f a b m c h same = same_up_to f a b m c h same (8 * m) (omega arith)

-- a byte's samples, the newest first, and behind them what came before
pub byte_samples : (f : Shape) (sound samples : List ℕ) (m c byte : ℕ) → get_or sound (m * f.channels + c) 0 ≡ byte → 8 ≤ length samples →
    ((k : ℕ) → k < 8 → byte / 2 ^ k % 2 ≡ get_or samples k 0) → earlier f sound c (8 * m) ≡ drop 8 samples → (i j : ℕ) → i + j ≡ 8 →
    earlier f sound c (8 * m + i) ≡ drop j samples
byte_samples f sound samples m c byte at long bits before zero j whole =
    let none : 8 * m + zero ≡ 8 * m = omega arith in
    let all : 8 ≡ j = omega arith in
    ap (earlier f sound c) none ∙ before ∙ ap (λ n. drop n samples) all
byte_samples f sound samples m c byte at long bits before (suc i) j whole =
    let next : 8 * m + suc i ≡ 8 * m + i + 1 = omega arith in
    let here = byte_sample f sound m c i j byte (omega arith) at ∙ bits j (omega arith) in
    let rest = byte_samples f sound samples m c byte at long bits before i (suc j) (omega arith) in
    ap (earlier f sound c) next ∙ earlier-suc f sound c (8 * m + i) ∙ ap₂ (λ x xs. x ∷ xs) here rest ∙ sym (drop-cons samples j 0 (omega arith))

-- samples that are known to be those of a sound
pub renamed : (f : Shape) (P : Params) (reserved : Bool) (t place : ℕ) (samples others : ℕ → List ℕ) (decoder : Decoding) (states : List ChannelState) →
    ((c : ℕ) → c < f.channels → samples c ≡ others c) →
    IsUnderway f P reserved t place samples decoder states → IsUnderway f P reserved t place others decoder states
renamed f P reserved t place samples others decoder states same u = record {
  ready = λ c other h. subst (λ xs. IsReady (filter_of P c) (probs_of P c) place xs (get_or states c other)) (same c h) (u.ready c other h);
  code = λ sound given. u.code sound (λ c h. given c h ∙ sym (same c h));
}

-- one sample more in front of those of the byte
pub one_more_dropped : (place : ℕ) (xs ys zs : List ℕ) → drop 1 xs ≡ ys → drop place ys ≡ zs → drop (place + 1) xs ≡ zs
one_more_dropped place xs ys zs e g =
    let same : place + 1 ≡ 1 + place = omega arith in
    ap (λ n. drop n xs) same ∙ sym (drop-drop place 1 xs) ∙ ap (drop place) e ∙ g

-- the byte is finished
pub byte_ends : (f : Shape) (P : Params) (reserved : Bool) (m : ℕ) (before after bytes : List ℕ) (later : ℕ → List ℕ)
    (decoder : Decoding) (states new : List ChannelState) →
    IsUnderway f P reserved (8 * m + 8) 8 later decoder states → ((c : ℕ) → c < f.channels → drop 8 (later c) ≡ earlier f before c (8 * m)) →
    ((k : ℕ) → k < m * f.channels → get_or after k 0 ≡ get_or before k 0) →
    ((c : ℕ) → c < f.channels → get_or after (m * f.channels + c) 0 ≡ get_or bytes c 0) →
    ((c : ℕ) → c < f.channels → (k : ℕ) → k < 8 → get_or bytes c 0 / 2 ^ k % 2 ≡ get_or (later c) k 0) →
    ((c : ℕ) (other : ChannelState) → c < f.channels → IsReady (filter_of P c) (probs_of P c) 0 (later c) (get_or new c other)) →
    IsDecodedTo f P reserved (m + 1) after decoder new
byte_ends f P reserved m before after bytes later decoder states new u behind same given bits added =
    let next : 8 * m + 8 ≡ 8 * (m + 1) = omega arith in
    let samples_are : (c : ℕ) → c < f.channels → later c ≡ earlier f after c (8 * (m + 1)) = λ c h.
    let long = (u.ready c (record { ahead = record { lanes = []; newest = 0; late = 0 }; next = 0 }) h).ahead.long in
    let front = same_earlier f after before m c h same ∙ sym (behind c h) in
    sym (byte_samples f after (later c) m c (get_or bytes c 0) (given c h) (omega (arith, long)) (bits c h) front 8 0 (omega arith))
    ∙ ap (earlier f after c) next in
    let v : IsUnderway f P reserved (8 * m + 8) 0 later decoder new = record { ready = added; code = u.code } in
    subst (λ t. IsUnderway f P reserved t 0 (λ c. earlier f after c (8 * (m + 1))) decoder new) next
    (renamed f P reserved (8 * m + 8) 0 later (λ c. earlier f after c (8 * (m + 1))) decoder new samples_are v)

-- bytes written in the midst of others
pub put_mid-below : (a k n : ℕ) (xs ys : List ℕ) → n < a → a ≤ length xs → get_or (put_mid a k xs ys) n 0 ≡ get_or xs n 0
put_mid-below a k n xs ys h le =
    let long = length-take-le a xs le in
    get_or_append_left (take a xs) (ys ++ post_of a k xs) 0 n (omega (arith, long)) ∙ get_or-take a xs n 0 h

pub put_mid-at : (a k j : ℕ) (xs ys : List ℕ) → j < length ys → a ≤ length xs → get_or (put_mid a k xs ys) (a + j) 0 ≡ get_or ys j 0
put_mid-at a k j xs ys h le =
    let long = length-take-le a xs le in
    ap (λ n. get_or (put_mid a k xs ys) (n + j) 0) (sym long) ∙ get_or-append-add (take a xs) (ys ++ post_of a k xs) j 0
    ∙ get_or_append_left ys (post_of a k xs) 0 j h

-- byte m of each channel lies inside
pub bytes_inside : (m channels count n : ℕ) → channels ≡ count → (m + 1) * count ≤ n → m * channels + channels ≤ n
bytes_inside m channels count n same h = rw same (omega (arith, h))

-- also where more bytes of each lie inside
pub row_inside : (m count octets n : ℕ) → m < octets → octets * count ≤ n → (m + 1) * count ≤ n
row_inside m count octets n h k =
    let le : m + 1 ≤ octets = omega arith in
    omega (arith, mul-le-mul_right count le, k)
