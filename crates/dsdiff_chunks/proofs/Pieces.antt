-- What a list holds after a part of it was written.
use Rattle.std.proofs.Common.{◌≡◌, ℕ, ◌+◌, ◌-◌, ◌<◌, ◌≤◌, List, [], ◌++◌, length, take, drop, get_or, flat_map, Option, Some, Result, IsOk, refl, ap, sym}
use Rattle.std.proofs.Common.{◌∙◌, arith}
use Rattle.std.proofs.lemmas.Grind.{flat_map-append}
use Rattle.std.proofs.lemmas.List.{append-nil, drop_all, drop_at, drop_more, length-append, length-take, take_at, take-append-drop, take-append-le}
use Rattle.std.proofs.lemmas.List.Folds.{length-flat_map-take}
use Rattle.std.proofs.Math.Seq.{take-add}
use Rattle.dst_spec.proofs.Lists.{flat_map-next}
use Rattle.dst_streams.proofs.Told.{and_then-twice}
use Rattle.dst_streams.specs.Told.{IsCutShort, IsSure, and_then}
use borrow.Rule.Slice.PartMut.{put_mid}

-- the part behind a front, written to its end
pub put_behind : (front rest new : List ℕ) (n k : ℕ) → length front ≡ n → length rest ≡ k →
    put_mid n k (front ++ rest) new ≡ front ++ new
put_behind front rest new n k is all =
    let none : drop k rest ≡ [] = drop_all k rest (omega arith) in
    rw (take_at front rest n is, drop_at front rest n is, none, append-nil new) refl

-- the front of what is read grows by the bytes that are read next
pub front_more : (out new xs : List ℕ) (place count k : ℕ) → place ≤ length out → count ≤ length new →
    take place out ≡ take place xs → take count new ≡ take count (drop place xs) →
    take (place + count) (put_mid place k out new) ≡ take (place + count) xs
front_more out new xs place count k inside within front more =
    let long : length (take place out) ≡ place = omega (arith, length-take place out) in
    take-add place count (put_mid place k out new)
    ∙ rw (
      take_at (take place out) (new ++ drop k (drop place out)) place long,
      drop_at (take place out) (new ++ drop k (drop place out)) place long,
      take-append-le count new (drop k (drop place out)) within,
      front,
      more,
    ) (sym (take-add place count xs))

-- ---- pieces that are appended one after the other
-- all pieces, as those before one, that one, and those behind it
pieces_at : {X : Type 0} (f : X → List ℕ) (xs : List X) (i : ℕ) (d : X) → i < length xs →
    flat_map f xs ≡ flat_map f (take i xs) ++ (f (get_or xs i d) ++ flat_map f (drop (i + 1) xs))
pieces_at f xs i d h =
    ap (flat_map f) (sym (take-append-drop i xs))
    ∙ flat_map-append f (take i xs) (drop i xs)
    ∙ ap (λ w. flat_map f (take i xs) ++ flat_map f w) (drop_more xs i d h)

-- a piece behind others that is cut short
cut_behind : (old mid new : Option (List ℕ)) (done piece rest all : List ℕ) → all ≡ done ++ (piece ++ rest) →
    mid ≡ and_then old done → IsCutShort mid piece new → IsCutShort old all new
cut_behind old mid new done piece rest all e is cut =
    let within : cut.taken ≤ length piece = cut.within in
    let long : length all ≡ length done + (length piece + length rest) =
    ap length e ∙ omega (arith, length-append done (piece ++ rest), length-append piece rest) in
    let front : take (length done + cut.taken) all ≡ done ++ take cut.taken piece =
    ap (take (length done + cut.taken)) e
    ∙ take-add (length done) cut.taken (done ++ (piece ++ rest))
    ∙ rw (take_at done (piece ++ rest) (length done) refl, drop_at done (piece ++ rest) (length done) refl, take-append-le cut.taken piece rest within) refl in
    record {
      taken = length done + cut.taken;
      within = omega arith;
      written =
          cut.written
          ∙ ap (λ o. and_then o (take cut.taken piece)) is
          ∙ and_then-twice old done (take cut.taken piece)
          ∙ ap (and_then old) (sym front);
    }

-- the room that is left of what is sure falls piece by piece
room_behind : {T E : Type 0} (old mid new : Option ℕ) (done len : ℕ) (r : Result T E) →
    ((room : ℕ) → old ≡ Some room → done ≤ room → mid ≡ Some (room - done)) → IsSure mid new len r →
    (room : ℕ) → old ≡ Some room → done + len ≤ room → new ≡ Some (room - (done + len))
room_behind old mid new done len r sure next room is fits =
    let before : done ≤ room = omega arith in
    let now : len ≤ room - done = omega arith in
    let left : room - done - len ≡ room - (done + len) = omega arith in
    next.lowered (room - done) (sure room is before) now ∙ ap Some left

taken_behind : {T E : Type 0} (old mid new : Option ℕ) (done len all : ℕ) (r : Result T E) → done + len ≤ all →
    ((room : ℕ) → old ≡ Some room → done ≤ room → mid ≡ Some (room - done)) → IsSure mid new len r →
    (room : ℕ) → old ≡ Some room → all ≤ room → IsOk r
taken_behind old mid new done len all r part sure next room is fits =
    let before : done ≤ room = omega arith in
    let now : len ≤ room - done = omega arith in
    next.taken (room - done) (sure room is before) now

-- ---- the pieces up to one, and that one
module _ {X : Type 0} (f : X → List ℕ) (xs : List X) (i : ℕ) (d : X) (below : i < length xs) where
  pub one_piece_longer : length (flat_map f (take (i + 1) xs)) ≡ length (flat_map f (take i xs)) + length (f (get_or xs i d))
  one_piece_longer = ap length (flat_map-next f xs i d below) ∙ length-append (flat_map f (take i xs)) (f (get_or xs i d))

  pub one_piece_more : (old mid new : Option (List ℕ)) → mid ≡ and_then old (flat_map f (take i xs)) → new ≡ and_then mid (f (get_or xs i d)) →
      new ≡ and_then old (flat_map f (take (i + 1) xs))
  one_piece_more old mid new before now =
      now
      ∙ ap (λ o. and_then o (f (get_or xs i d))) before
      ∙ and_then-twice old (flat_map f (take i xs)) (f (get_or xs i d))
      ∙ ap (and_then old) (sym (flat_map-next f xs i d below))

  pub cut_in_piece : (old mid new : Option (List ℕ)) → mid ≡ and_then old (flat_map f (take i xs)) → IsCutShort mid (f (get_or xs i d)) new →
      IsCutShort old (flat_map f xs) new
  cut_in_piece old mid new =
      cut_behind old mid new (flat_map f (take i xs)) (f (get_or xs i d)) (flat_map f (drop (i + 1) xs)) (flat_map f xs) (pieces_at f xs i d below)

  pub room_for_more : {T E : Type 0} (old mid new : Option ℕ) (r : Result T E) →
      ((room : ℕ) → old ≡ Some room → length (flat_map f (take i xs)) ≤ room → mid ≡ Some (room - length (flat_map f (take i xs)))) →
      IsSure mid new (length (f (get_or xs i d))) r → (room : ℕ) → old ≡ Some room → length (flat_map f (take (i + 1) xs)) ≤ room →
      new ≡ Some (room - length (flat_map f (take (i + 1) xs)))
  room_for_more old mid new r sure next =
      rw one_piece_longer (room_behind old mid new (length (flat_map f (take i xs))) (length (f (get_or xs i d))) r sure next)

  pub room_for_all : {T E : Type 0} (old mid new : Option ℕ) (r : Result T E) →
      ((room : ℕ) → old ≡ Some room → length (flat_map f (take i xs)) ≤ room → mid ≡ Some (room - length (flat_map f (take i xs)))) →
      IsSure mid new (length (f (get_or xs i d))) r → (room : ℕ) → old ≡ Some room → length (flat_map f xs) ≤ room → IsOk r
  room_for_all old mid new r =
      taken_behind old mid new (length (flat_map f (take i xs))) (length (f (get_or xs i d))) (length (flat_map f xs)) r
      (length-flat_map-take f xs i d below)
