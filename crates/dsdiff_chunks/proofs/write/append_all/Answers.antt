-- The loop keeps that the pieces so far are written.
use Rattle.std.proofs.Common.{rules, ◌≡◌, ℕ, List, [], true, false, arith, Bor}
use Rattle.std.proofs.lemmas.Result.{MatchResult-from_err}
use Rattle.dsdiff_chunks.proofs.Pieces.{cut_in_piece, one_piece_longer, one_piece_more, room_for_all, room_for_more}
use Rattle.dsdiff_chunks.proofs.write.append_all.Goals as goal

abbrev none : Bor (List ℕ)
none = record { ref_ptr = (0, 0); now = [] }

abbrev bytes_of : Bor (List ℕ) → List ℕ
bytes_of piece = piece.now

pub returns-in_err-append-clause-written : goal.returns-in_err-append-clause-written
returns-in_err-append-clause-written g c =
    let cut = cut_in_piece bytes_of c.args.pieces.now c.loop-piece.piece-index none c.loop-piece-test.true _ _ _ c.loop-piece.invariant.written
    c.in_err-append.ensures.written in
    MatchResult-from_err c.from_residual.result _ _ c.from_residual.ensures.0 (λ _. cut)

pub returns-in_err-append-clause-sure : goal.returns-in_err-append-clause-sure
returns-in_err-append-clause-sure g c =
    let never = room_for_all bytes_of c.args.pieces.now c.loop-piece.piece-index none c.loop-piece-test.true _ _ _ _ c.loop-piece.invariant.sure
    c.in_err-append.ensures.sure in
    record {
      taken = λ room is fits. absurd (let no : false ≡ true = never room is fits in cc);
      lowered = λ room is fits. absurd (let no : false ≡ true = never room is fits in cc);
    }

pub loop-piece-preserved : goal.loop-piece-preserved
loop-piece-preserved g c = record {
  written = one_piece_more bytes_of c.args.pieces.now c.loop-piece.piece-index none c.loop-piece-test.true _ _ _ c.loop-piece.invariant.written
      c.in_ok-append.ensures.written;
  appended = omega (
    arith,
    c.loop-piece.invariant.appended,
    c.in_ok-append.ensures.appended,
    one_piece_longer bytes_of c.args.pieces.now c.loop-piece.piece-index none c.loop-piece-test.true,
  );
  sure = room_for_more bytes_of c.args.pieces.now c.loop-piece.piece-index none c.loop-piece-test.true _ _ _ _ c.loop-piece.invariant.sure
      c.in_ok-append.ensures.sure;
  faults = search rules;
}
