-- A range of a list that is written over, as Rattle's slices do it.
use Rattle.std.proofs.Common.{refl, ◌≡◌, ℕ, ◌+◌, ◌≤◌, List, ◌++◌, length, take, drop, ap, sym, ◌∙◌, append_assoc, arith}
use Rattle.std.proofs.lemmas.List.{drop-append-le, length-append, length-drop, length-take, take-append-drop, take-append-le, take_at}
use Rattle.std.proofs.lemmas.List.Edits.{paste_all}
use Rattle.std.proofs.lemmas.Slice.{put_mid-paste}
use borrow.Rule.Slice.PartMut.{put_mid}

-- a part of a list that is a piece now, as the piece written over it
pub put_mid-written : (xs ys piece : List ℕ) (place len : ℕ) → ys ≡ piece → length piece ≡ len →
    put_mid place len xs ys ≡ take place xs ++ piece ++ drop (place + length piece) xs
put_mid-written xs ys piece place len is size =
    put_mid-paste place len xs ys piece (length piece) is size refl
    ∙ paste_all xs place piece (length piece) refl
    ∙ sym (append_assoc (take place xs) piece (drop (place + length piece) xs))

-- a range within the front of a list is written over in the front alone
pub written_over-front : (xs piece : List ℕ) (place room : ℕ) → place + length piece ≤ room → room ≤ length xs →
    take room (take place xs ++ piece ++ drop (place + length piece) xs)
    ≡ take place (take room xs) ++ piece ++ drop (place + length piece) (take room xs)
written_over-front xs piece place room fits within =
    let ys : List ℕ = take room xs in
    let zs : List ℕ = drop room xs in
    let size : length ys ≡ room = omega (arith, length-take room xs) in
    let split : ys ++ zs ≡ xs = take-append-drop room xs in
    let front : take place xs ≡ take place ys = ap (take place) (sym split) ∙ take-append-le place ys zs (omega arith) in
    let back : drop (place + length piece) xs ≡ drop (place + length piece) ys ++ zs =
    ap (drop (place + length piece)) (sym split) ∙ drop-append-le (place + length piece) ys zs (omega arith) in
    let before : List ℕ = take place ys ++ piece in
    let after : List ℕ = drop (place + length piece) ys in
    let long : length (before ++ after) ≡ room =
    omega (arith, length-append before after, length-append (take place ys) piece, length-take place ys, length-drop (place + length piece) ys) in
    rw (front, back, sym (append_assoc before after zs)) (take_at (before ++ after) zs room long)
