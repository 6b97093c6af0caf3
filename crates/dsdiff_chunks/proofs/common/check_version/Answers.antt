-- Where there are chunks, the first of them lies before the end and decides the rule on the version.
use Rattle.std.proofs.Common.{◌≡◌, ℕ, List, length, sym, arith, subst, Some, None}
use Rattle.std.specs.Prelude.{OnOk, IfErr}
use Rattle.std.proofs.lemmas.Bool.{eqb-false}
use Rattle.dsdiff_spec.specs.Chunks.{Head}
use Rattle.dsdiff_chunks.specs.Opening.{HasOpenCause, first_fault}
use Rattle.dsdiff_chunks.proofs.Versions.{the_first_seen, the_first_within}
use Rattle.dsdiff_chunks.proofs.common.check_version.Goals as goal

pub check_first-requires-clause-within : goal.check_first-requires-clause-within
check_first-requires-clause-within g c =
    let some = eqb-false (length c.args.heads.now) 0 (sym c.if-is_empty.ensures) in
    the_first_within c.args.end c.args.heads.now _ (omega (arith, some)) c.requires.tiled

pub returns-clause-accepted : goal.returns-clause-accepted
returns-clause-accepted g c =
    let some = eqb-false (length c.args.heads.now) 0 (sym c.if-is_empty.ensures) in
    subst
    (λ (h : Head). OnOk c.check_first.result ((xs : List ℕ) → g.S.Source.bytes c.args.source.now ≡ Some xs → first_fault xs h ≡ None))
    (sym (the_first_seen c.args.heads.now _ (omega (arith, some)))) c.check_first.ensures.accepted

pub returns-clause-stops : goal.returns-clause-stops
returns-clause-stops g c =
    let some = eqb-false (length c.args.heads.now) 0 (sym c.if-is_empty.ensures) in
    subst
    (λ (h : Head). IfErr c.check_first.result
    (HasOpenCause (λ xs. first_fault xs h) (g.S.Source.bytes c.args.source.now) (g.S.Source.faults c.args.source.now)
    (g.S.Source.faults c.check_first.new.source)))
    (sym (the_first_seen c.args.heads.now _ (omega (arith, some)))) c.check_first.ensures.stops
