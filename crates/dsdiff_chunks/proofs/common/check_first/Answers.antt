-- Where id and size are those of `FVER`, the one byte that is read decides the version.
use Rattle.std.proofs.Common.{not, sym, ap, ◌∙◌}
use Rattle.std.proofs.lemmas.Bool.{eq-eqb, ne_eqb, not-false}
use Rattle.dsdiff_spec.specs.Faults.{◌when◌}
use Rattle.dsdiff_spec.specs.declared.faults.FileFault.TheVariants.{Version}
use Rattle.dsdiff_chunks.specs.Seen.{head_seen}
use Rattle.dsdiff_chunks.proofs.Versions.{first_by_byte}
use Rattle.dsdiff_chunks.proofs.common.check_first.Goals as goal

pub returns-then-version-ne1-clause-stops : goal.returns-then-version-ne1-clause-stops
returns-then-version-ne1-clause-stops g c xs told =
    first_by_byte xs _ (head_seen c.args.head) (not-false _ (sym c.if-ne.ensures)) c.if-head-ne4.false (c.in-Ok.ensures.read xs told)
    ∙ ap (λ b. Version when not b) (ne_eqb _ 1 c.if-version-ne1.true)

pub returns-clause-accepted : goal.returns-clause-accepted
returns-clause-accepted g c xs told =
    first_by_byte xs _ (head_seen c.args.head) (not-false _ (sym c.if-ne.ensures)) c.if-head-ne4.false (c.in-Ok.ensures.read xs told)
    ∙ ap (λ b. Version when not b) (eq-eqb _ 1 c.if-version-ne1.false)
