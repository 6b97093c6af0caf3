-- What is told after several pieces.
use Rattle.std.proofs.Common.{◌≡◌, ℕ, ◌+◌, ◌-◌, ◌≤◌, List, ◌++◌, length, take, drop, Option, Some, None, refl, ap, sym, ◌∙◌, append_assoc, arith, subst}
use Rattle.std.proofs.lemmas.List.{drop_at, drop-drop, length-take, take-append-drop, take-take, take_all, take_at}
use Rattle.std.proofs.Math.Seq.{take-add}
use Rattle.dst_streams.specs.Told.{after_piece, and_then, IsCutShort, HoldsFrom}

pub and_then-twice : (old : Option (List ℕ)) (a b : List ℕ) → and_then (and_then old a) b ≡ and_then old (a ++ b)
and_then-twice None a b = refl
and_then-twice (Some w) a b = ap Some (append_assoc w a b)

-- so many bytes of a range, and then a piece of what follows them
pub and_then-more : (old : Option (List ℕ)) (xs : List ℕ) (done more : ℕ) →
    and_then (and_then old (take done xs)) (take more (drop done xs)) ≡ and_then old (take (done + more) xs)
and_then-more old xs done more =
    and_then-twice old (take done xs) (take more (drop done xs)) ∙ ap (and_then old) (sym (take-add done more xs))

-- a piece that is cut short, after so many bytes
pub cut_later : (old mid new : Option (List ℕ)) (xs : List ℕ) (done more all : ℕ) → done + more ≤ all → all ≤ length xs →
    mid ≡ and_then old (take done xs) → IsCutShort mid (take more (drop done xs)) new → IsCutShort old (take all xs) new
cut_later old mid new xs done more all le fits is cut =
    let short : cut.taken ≤ more = omega (arith, cut.within, length-take more (drop done xs)) in
    let same : done + cut.taken ≤ all = omega arith in
    record {
      taken = done + cut.taken;
      within = omega (arith, length-take all xs);
      written =
          cut.written
          ∙ rw (take-take cut.taken more (drop done xs) short) (rw is (and_then-more old xs done cut.taken))
          ∙ ap (and_then old) (sym (take-take (done + cut.taken) all xs same));
    }

-- so many bytes of a range, and no more
pub cut_there : (old new : Option (List ℕ)) (xs : List ℕ) (done all : ℕ) → done ≤ all → all ≤ length xs →
    new ≡ and_then old (take done xs) → IsCutShort old (take all xs) new
cut_there old new xs done all le fits is = record {
  taken = done;
  within = omega (arith, length-take all xs);
  written = is ∙ ap (and_then old) (sym (take-take done all xs le));
}

-- what a read of count bytes at place gave, as a part of what follows from
pub HoldsFrom-later : (bytes : Option (List ℕ)) (xs out : List ℕ) (from place count : ℕ) → from ≤ place → bytes ≡ Some xs →
    HoldsFrom bytes place count out → take count out ≡ take count (drop (place - from) (drop from xs))
HoldsFrom-later bytes xs out from place count le is holds =
    let P : Option (List ℕ) → Type 0 = λ o. HoldsFrom o place count out in
    let there : take count out ≡ take count (drop place xs) = subst P is holds in
    let e : from + (place - from) ≡ place = omega arith in
    rw (drop-drop (place - from) from xs, e) there

-- what was moved from the front of what is left, and the rest
pub after_piece-moved : (bytes out piece : List ℕ) (place count : ℕ) → length piece ≡ count → piece ≡ take count (drop place bytes) →
    drop place bytes ≡ take count (piece ++ drop count out) ++ drop (place + count) bytes
after_piece-moved bytes out piece place count len is =
    let front : take count (piece ++ drop count out) ≡ piece = take_at piece (drop count out) count len in
    rw (front, is, sym (drop-drop count place bytes)) (sym (take-append-drop count (drop place bytes)))

-- two pieces that were moved, one after the other
pub after_piece-twice : (a b : List ℕ) (left : Option (List ℕ)) → after_piece a (after_piece b left) ≡ after_piece (a ++ b) left
after_piece-twice a b None = refl
after_piece-twice a b (Some rest) = ap Some (sym (append_assoc a b rest))

-- two reads in a row, the second from where the first ended
pub HoldsFrom-joined : (bytes : Option (List ℕ)) (front more : List ℕ) (place count : ℕ) →
    HoldsFrom bytes place (length front) front → HoldsFrom bytes (place + length front) count more →
    HoldsFrom bytes place (length front + count) (front ++ more)
HoldsFrom-joined None front more place count first second = tt {0}
HoldsFrom-joined (Some xs) front more place count first second =
    let len : ℕ = length front in
    let joined : take (len + count) (front ++ more) ≡ front ++ take count more =
    take-add len count (front ++ more)
    ∙ ap (λ l. l ++ take count (drop len (front ++ more))) (take_at front more len refl)
    ∙ ap (λ l. front ++ take count l) (drop_at front more len refl) in
    let there : take (len + count) (drop place xs) ≡ front ++ take count more =
    take-add len count (drop place xs)
    ∙ ap (λ l. l ++ take count (drop len (drop place xs))) (sym first ∙ take_all len front (omega arith))
    ∙ ap (λ l. front ++ take count l) (drop-drop len place xs)
    ∙ ap (λ l. front ++ l) (sym second) in
    joined ∙ sym there
