-- The lines of a report as parts that are written in turn.
use Rattle.std.proofs.Common.{◌≡◌, ℕ, ◌+◌, ◌<◌, List, [], ◌∷◌, ◌++◌, length, get_or, decimal, codes, ap, sym, ◌∙◌, arith, append-nil}
use Rattle.std.specs.List.{enumerate_from}
use Rattle.std.proofs.lemmas.List.{length-map, get_or-map}
use Rattle.std.proofs.lemmas.List.FromFn.{length-enumerate_from, get_or-enumerate_from}
use Rattle.dsdiff_spec.specs.Walk.{Entry, entry}
use Rattle.dsdiff_spec.specs.Lines.{Line, report, index_lines}
use Rattle.dst_commands.proofs.InTurn.{Parts}

-- ---- a line of the index, with its line feed
abbrev pub with_feed : Parts Line
with_feed line = line ++ 10 ∷ []

pub length-index_lines : (es : List Entry) → length (index_lines es) ≡ length es
length-index_lines es =
    length-map (enumerate_from 0 es) (λ (e : ℕ × Entry). decimal e.0 ++ codes " " ++ decimal e.1.offset ++ codes " " ++ decimal e.1.size)
    ∙ length-enumerate_from 0 es

line_of_entry : (es : List Entry) (k offset size : ℕ) (piece : List ℕ) → k < length es → record { offset = offset; size = size } ≡ entry es k →
    piece ≡ report ((decimal k ++ codes " " ++ decimal offset ++ codes " " ++ decimal size) ∷ []) → piece ≡ with_feed (get_or (index_lines es) k [])
line_of_entry es k offset size piece l e is =
    let line : ℕ × Entry → Line = λ e. decimal e.0 ++ codes " " ++ decimal e.1.offset ++ codes " " ++ decimal e.1.size in
    let none : Entry = record { offset = 0; size = 0 } in
    let long = length-enumerate_from 0 es in
    let same_number : 0 + k ≡ k = omega arith in
    let there : get_or (index_lines es) k [] ≡ line (k, entry es k) =
    get_or-map line (enumerate_from 0 es) k (0, none) [] (omega arith)
    ∙ ap line (get_or-enumerate_from 0 es k (0, none) l)
    ∙ ap (λ i. line (i, entry es k)) same_number in
    let same : line (k, record { offset = offset; size = size }) ≡ get_or (index_lines es) k [] = ap (λ (e : Entry). line (k, e)) e ∙ sym there in
    is ∙ append-nil (with_feed (line (k, record { offset = offset; size = size }))) ∙ ap with_feed same

-- entry k has a line, and this is it
pub record IsLineOf (es : List Entry) (k : ℕ) (piece : List ℕ) : Type 0 where
  pub among : k < length (index_lines es)
  pub is : piece ≡ with_feed (get_or (index_lines es) k [])

pub is_line_of : (es : List Entry) (k offset size : ℕ) (piece : List ℕ) → k < length es → record { offset = offset; size = size } ≡ entry es k →
    piece ≡ report ((decimal k ++ codes " " ++ decimal offset ++ codes " " ++ decimal size) ∷ []) → IsLineOf es k piece
is_line_of es k offset size piece l e is = record {
  among = omega (arith, l, length-index_lines es);
  is = line_of_entry es k offset size piece l e is;
}
