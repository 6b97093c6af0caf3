-- The length of a header's spelling, and the parts of which it is written.
use Rattle.std.proofs.Common.{◌≡◌, ℕ, ◌+◌, List, ◌++◌, length, map, ℤ, pos, refl, ap, sym, ◌∙◌, arith, append_assoc, length-append}
use Rattle.dst_spec.specs.Table.{filter_kind, prob_kind}
use Rattle.dst_spec.specs.Header.{Params}
use Rattle.dst_spec.specs.Spell.{header_spelling}
use Rattle.bit_io.specs.Writing.{Writing}
use Rattle.frame_header.specs.Written.{front_spelling, tables_spelling, Wrote}

abbrev pub filters_spelling : List (List ℤ) → List ℕ
filters_spelling filters = tables_spelling filter_kind (λ t. t) filters

abbrev pub probs_spelling : List (List ℕ) → List ℕ
probs_spelling probs = tables_spelling prob_kind (λ t. map pos t) probs

pub header_parts : (P : Params) → header_spelling P ≡ front_spelling P ++ filters_spelling P.filters ++ probs_spelling P.probs
unfolding header_spelling
header_parts P = refl

header_long : (P : Params) → length (header_spelling P) ≡ length (front_spelling P) + length (filters_spelling P.filters) + length (probs_spelling P.probs)
header_long P =
    ap length (header_parts P) ∙ length-append (front_spelling P ++ filters_spelling P.filters) (probs_spelling P.probs)
    ∙ ap (λ n. n + length (probs_spelling P.probs)) (length-append (front_spelling P) (filters_spelling P.filters))

-- what the parts are made of
pub record AreParts (P : Params) (front : List ℕ) (filters : List (List ℤ)) (probs : List (List ℕ)) : Type 0 where
  pub front_is : front ≡ front_spelling P
  pub filters_are : filters ≡ P.filters
  pub probs_are : probs ≡ P.probs

pub parts_long : (P : Params) (front : List ℕ) (filters : List (List ℤ)) (probs : List (List ℕ)) → AreParts P front filters probs →
    length (header_spelling P) ≡ length front + length (filters_spelling filters) + length (probs_spelling probs)
parts_long P front filters probs d = rw (d.front_is, d.filters_are, d.probs_are) (header_long P)

pub wrote_header : (P : Params) (front : List ℕ) (filters : List (List ℤ)) (probs : List (List ℕ)) (a b c d : Writing) → AreParts P front filters probs →
    Wrote a front b → Wrote b (filters_spelling filters) c → Wrote c (probs_spelling probs) d → Wrote a (header_spelling P) d
wrote_header P front filters probs a b c d parts h k i =
    let fs = filters_spelling filters in
    let ps = probs_spelling probs in
    let all : front ++ fs ++ ps ≡ header_spelling P = rw (parts.front_is, parts.filters_are, parts.probs_are) (sym (header_parts P)) in
    record {
      bits =
          i.bits ∙ ap (λ xs. xs ++ ps) (k.bits ∙ ap (λ xs. xs ++ fs) h.bits ∙ append_assoc a.bits front fs) ∙ append_assoc a.bits (front ++ fs) ps
          ∙ ap (λ xs. a.bits ++ xs) all;
      room = omega (arith, parts_long P front filters probs parts, h.room, k.room, i.room);
    }
