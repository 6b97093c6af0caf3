-- Pieces that are written one after the other, up to the one at which it stops.
use Rattle.std.proofs.Common.{◌≡◌, ℕ, ◌+◌, ◌-◌, ◌≤◌, false, true, List, [], ◌++◌, length, take, Option, Some, None, Result, Ok, Err, refl, ap, sym, subst, ◌∙◌}
use Rattle.std.proofs.Common.{arith, length-append, append-nil}
use Rattle.std.specs.Prelude.{IsOk, OnOk, OnErr, MatchResult}
use Rattle.std.proofs.lemmas.List.{take-append-le, take_all}
use Rattle.std.proofs.Math.Seq.{take-append-add}
use Rattle.dst_streams.specs.Told.{and_then, IsCutShort, IsSure}
use Rattle.dst_streams.proofs.Told.{and_then-twice}
use Rattle.dsdiff_spec.proofs.Progress.{BeginsWith}
use Rattle.dsdiff_chunks.specs.declared.copy.CopyFault.{CopyFault}
use Rattle.dst_commands.specs.Writing.{Adds, Stops}

-- ---- nothing
pub and_then-nothing : (w : Option (List ℕ)) → and_then w [] ≡ w
and_then-nothing None = refl
and_then-nothing (Some xs) = ap Some (append-nil xs)

pub adds_nothing : (w : Option (List ℕ)) (room : Option ℕ) → Adds [] w w room room
adds_nothing w room = record {
  written = sym (and_then-nothing w);
  lowered = λ n e fits. let same : n ≡ n - 0 = omega arith in e ∙ ap Some same;
}

pub stops_at_once : (P : Type 0) (piece : List ℕ) (w : Option (List ℕ)) (room : Option ℕ) → (P → ⊥) → Stops P piece w w room
stops_at_once P piece w room not = record {
  cut = record { taken = 0; within = omega arith; written = sym (and_then-nothing w) };
  lacks = λ p. absurd (not p);
}

-- ---- one call of a sink
pub added : {T E : Type 0} (result : Result T E) (piece : List ℕ) (old new : Option (List ℕ)) (room left : Option ℕ) → IsSure room left (length piece) result →
    new ≡ and_then old piece → Adds piece old new room left
added result piece old new room left s w = record { written = w; lowered = s.lowered }

pub cut_off : {T E : Type 0} (fault : E) (piece : List ℕ) (old new : Option (List ℕ)) (room left : Option ℕ) →
    IsSure {T = T} {E = E} room left (length piece) (Err fault) → IsCutShort old piece new → Stops (Unit {0}) piece old new room
cut_off fault piece old new room left s w = record { cut = w; lacks = λ p n is fits. let never : false ≡ true = s.taken n is fits in cc }

-- a piece by another name
pub adds_same : (a b : List ℕ) (old new : Option (List ℕ)) (room left : Option ℕ) → a ≡ b → Adds a old new room left → Adds b old new room left
adds_same a b old new room left e h = subst (λ w. Adds w old new room left) e h

pub stops_same : (P : Type 0) (a b : List ℕ) (old new : Option (List ℕ)) (room : Option ℕ) → a ≡ b → Stops P a old new room → Stops P b old new room
stops_same P a b old new room e h = subst (λ w. Stops P w old new room) e h

pub stops_for : (P Q : Type 0) (piece : List ℕ) (old new : Option (List ℕ)) (room : Option ℕ) → (Q → P) → Stops P piece old new room →
    Stops Q piece old new room
stops_for P Q piece old new room f h = record { cut = h.cut; lacks = λ q. h.lacks (f q) }

-- behind a whole piece
pub stops_behind : (P : Type 0) (piece : List ℕ) (old new : Option (List ℕ)) (room left : Option ℕ) → (P → ⊥) → Adds piece old new room left →
    Stops P piece old new room
stops_behind P piece old new room left not h = record {
  cut = record { taken = length piece; within = omega arith; written = h.written ∙ ap (and_then old) (sym (take_all (length piece) piece (omega arith))) };
  lacks = λ p. absurd (not p);
}

-- the piece is there whole, and the sink can't settle it: a call that succeeds where there is a sure room failed
pub stops_unsettled : (piece : List ℕ) (old mid new : Option (List ℕ)) (room left : Option ℕ) → Adds piece old mid room left → new ≡ mid →
    ((n : ℕ) → left ≡ Some n → false ≡ true) → Stops (Unit {0}) piece old new room
stops_unsettled piece old mid new room left h same sure = record {
  cut = record {
    taken = length piece;
    within = omega arith;
    written = same ∙ h.written
        ∙ ap (and_then old) (sym (take_all (length piece) piece (omega arith)));
  };
  lacks = λ p n is fits. let never : false ≡ true = sure (n - length piece) (h.lowered n is fits) in cc;
}

pub then_settled : {T E : Type 0} (result : Result T E) (piece : List ℕ) (old mid new : Option (List ℕ)) (room left : Option ℕ) →
    Adds piece old mid room left → new ≡ mid →
    ((n : ℕ) → left ≡ Some n → IsOk result) → MatchResult result (λ _. new ≡ and_then old piece) (λ _. Stops (Unit {0}) piece old new room)
then_settled (Ok u) piece old mid new room left h same sure = same ∙ h.written
then_settled (Err fault) piece old mid new room left h same sure = stops_unsettled piece old mid new room left h same sure

-- ---- one piece behind another
pub adds_then : (a b : List ℕ) (old mid new : Option (List ℕ)) (room half left : Option ℕ) →
    Adds a old mid room half → Adds b mid new half left → Adds (a ++ b) old new room left
adds_then a b old mid new room half left p q = record {
  written = q.written ∙ ap (λ w. and_then w b) p.written ∙ and_then-twice old a b;
  lowered = λ n e fits.
      let both = length-append a b in
      let first = p.lowered n e (omega arith) in
      let second = q.lowered (n - length a) first (omega arith) in
      let same : n - length a - length b ≡ n - length (a ++ b) = omega arith in
      second ∙ ap Some same;
}

-- it stops in the first one, or in the second
pub stops_first : (P : Type 0) (a b : List ℕ) (old new : Option (List ℕ)) (room : Option ℕ) → Stops P a old new room → Stops P (a ++ b) old new room
stops_first P a b old new room h =
    let both = length-append a b in
    let taken = h.cut.taken in
    let within : taken ≤ length a = h.cut.within in
    record {
      cut = record { taken = taken; within = omega arith; written = h.cut.written ∙ ap (and_then old) (sym (take-append-le taken a b within)) };
      lacks = λ p n e fits. h.lacks p n e (omega arith);
    }

pub stops_then : (P : Type 0) (a b : List ℕ) (old mid new : Option (List ℕ)) (room half : Option ℕ) →
    Adds a old mid room half → Stops P b mid new half → Stops P (a ++ b) old new room
stops_then P a b old mid new room half p h =
    let both = length-append a b in
    let taken = h.cut.taken in
    let within : taken ≤ length b = h.cut.within in
    record {
      cut = record {
        taken = length a + taken;
        within = omega arith;
        written =
            h.cut.written
            ∙ ap (λ w. and_then w (take taken b)) p.written
            ∙ and_then-twice old a (take taken b)
            ∙ ap (and_then old) (sym (take-append-add a b taken));
      };
      lacks = λ q n e fits.
          let first = p.lowered n e (omega arith) in
          h.lacks q (n - length a) first (omega arith);
    }

-- a call behind a piece
pub then_appended : {T E : Type 0} (result : Result T E) (a b : List ℕ) (old mid new : Option (List ℕ)) (room half left : Option ℕ) → Adds a old mid room half →
    MatchResult result (λ _. new ≡ and_then mid b) (λ _. IsCutShort mid b new) → IsSure half left (length b) result →
    MatchResult result (λ _. Adds (a ++ b) old new room left) (λ _. Stops (Unit {0}) (a ++ b) old new room)
then_appended (Ok u) a b old mid new room half left p w s = adds_then a b old mid new room half left p (added (Ok u) b mid new half left s w)
then_appended (Err fault) a b old mid new room half left p w s = stops_then (Unit {0}) a b old mid new room half p (cut_off fault b mid new half left s w)

-- it stops in bytes that begin with the piece
pub stops_in : (P : Type 0) (whole piece : List ℕ) (old new : Option (List ℕ)) (room : Option ℕ) → BeginsWith whole piece → Stops P piece old new room →
    Stops P whole old new room
stops_in P whole piece old new room b h = stops_same P (piece ++ b.rest) whole old new room (sym b.is) (stops_first P piece b.rest old new room h)

-- ---- a range that is copied
pub copied : {T : Type 0} (result : Result T CopyFault) (bytes : Option (List ℕ)) (file : List ℕ) (part : List ℕ → List ℕ) (n : ℕ) (old new : Option (List ℕ))
    (room left : Option ℕ) →
    bytes ≡ Some file → length (part file) ≡ n →
    OnOk result ((xs : List ℕ) → bytes ≡ Some xs → new ≡ and_then old (part xs)) →
    OnErr result ((xs : List ℕ) → bytes ≡ Some xs → IsCutShort old (part xs) new) →
    ((m : ℕ) → room ≡ Some m → n ≤ m → OnOk result (left ≡ Some (m - n))) →
    ((m : ℕ) → room ≡ Some m → n ≤ m → result ≡ Err CopyFault.Write → ⊥) →
    MatchResult result (λ _. Adds (part file) old new room left) (λ fault. Stops (fault ≡ CopyFault.Write) (part file) old new room)
copied (Ok u) bytes file part n old new room left told long w c s t = record {
  written = w file told;
  lowered = λ m e fits.
      let same : m - n ≡ m - length (part file) = omega arith in
      s m e (omega arith) ∙ ap Some same;
}
copied (Err fault) bytes file part n old new room left told long w c s t = record {
  cut = c file told;
  lacks = λ is m e fits. t m e (omega arith) (ap Err is);
}
