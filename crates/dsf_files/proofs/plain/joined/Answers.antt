-- There is room for the next piece.
use Rattle.std.proofs.Common.{◌≡◌, ◌+◌, ◌≤◌, ℕ, List, [], length, get_or, ap, refl, arith, Bor, Result, Ok, Err}
use Rattle.std.specs.Prelude.{IsOk}
use Rattle.std.proofs.lemmas.List.Folds.{length-flat_map-take}
use Rattle.dsf_files.proofs.plain.joined.Goals as goal

abbrev none : Bor (List ℕ)
none = record { ref_ptr = (0, 0); now = [] }

abbrev bytes_of : Bor (List ℕ) → List ℕ
bytes_of piece = piece.now

no_error : {E : Type 0} {r : Result (Unit {0}) E} → IsOk r → ((x : Unit {0}) → r ≡ Ok x → ⊥) → ⊥
no_error {r = Ok x} ok never = never x refl
no_error {r = Err e} ok never = absurd cc

pub unreachable-requires : goal.unreachable-requires
unreachable-requires c =
    let i = c.loop-piece.piece-index in
    let pieces = c.args.pieces.now in
    let within = length-flat_map-take bytes_of pieces i none c.loop-piece-test.true in
    let now = ap length c.loop-piece.invariant in
    let fits : length c.loop-piece.bytes.items + length (get_or pieces i none).now ≤ 146 = omega (arith, within, now, c.requires) in
    no_error (c.try_extend_from_slice.ensures.variant.1 fits) c.in_default.not-Ok
