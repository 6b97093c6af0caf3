-- By the walk, or by the index.
use Rattle.std.proofs.Common.{◌≡◌, List, ℕ, Some, true, ◌∙◌, ap, sym, subst, arith}
use Rattle.std.specs.Prelude.{IfOk}
use Rattle.std.proofs.lemmas.Result.{IfOk-weaker, IfErr-weaker}
use Rattle.dsdiff_spec.specs.Refusal.{form_refusal, refusal}
use Rattle.dsdiff_spec.specs.Words.{frame, show_frame}
use Rattle.dst_commands.specs.Opened.{IsFound}
use Rattle.dst_commands.proofs.InOrder.{rules_by_index, rules_by_walk, stops_as}
use Rattle.dst_show.proofs.frame.open_frame.Goals as goal

pub returns-then-by_index-clause-accepted : goal.returns-then-by_index-clause-accepted
returns-then-by_index-clause-accepted g c =
    IfOk-weaker c.open_file.result _ _ (λ f h file told. ap (λ b. refusal (frame c.args.number b) file) c.if-by_index.true ∙ rules_by_index c.args.number file
    ∙ h file told) c.open_file.ensures.accepted

pub returns-then-by_index-clause-stops : goal.returns-then-by_index-clause-stops
returns-then-by_index-clause-stops g c =
    IfErr-weaker c.open_file.result _ _
    (λ fault. stops_as (form_refusal (frame c.args.number true)) (refusal (frame c.args.number c.args.by_index)) fault _ _ _
    (λ file. ap (λ b. refusal (frame c.args.number b) file) c.if-by_index.true ∙ rules_by_index c.args.number file))
    c.open_file.ensures.stops

pub returns-else-by_index-clause-accepted : goal.returns-else-by_index-clause-accepted
returns-else-by_index-clause-accepted g c =
    IfOk-weaker c.open_file-else-by_index.result _ _
    (λ f h file told. ap (λ b. refusal (frame c.args.number b) file) c.if-by_index.false ∙ rules_by_walk c.args.number file
    ∙ h file told) c.open_file-else-by_index.ensures.accepted

pub returns-else-by_index-clause-stops : goal.returns-else-by_index-clause-stops
returns-else-by_index-clause-stops g c =
    IfErr-weaker c.open_file-else-by_index.result _ _
    (λ fault. stops_as (form_refusal (show_frame c.args.number)) (refusal (frame c.args.number c.args.by_index)) fault _ _ _
    (λ file. ap (λ b. refusal (frame c.args.number b) file) c.if-by_index.false ∙ rules_by_walk c.args.number file))
    c.open_file-else-by_index.ensures.stops

-- ---- the frame is found by the one or the other, and so much is read
pub returns-then-by_index-clause-found : goal.returns-then-by_index-clause-found
returns-then-by_index-clause-found g c =
    subst (λ b. IfOk c.open_file.result (λ f. (file : List ℕ) → g.S.Source.bytes c.args.source.now ≡ Some file → IsFound b file c.args.number f))
    (sym c.if-by_index.true) c.open_file.ensures.opened

pub returns-else-by_index-clause-found : goal.returns-else-by_index-clause-found
returns-else-by_index-clause-found g c =
    subst (λ b. IfOk c.open_file-else-by_index.result (λ f. (file : List ℕ) → g.S.Source.bytes c.args.source.now ≡ Some file → IsFound b file c.args.number f))
    (sym c.if-by_index.false) c.open_file-else-by_index.ensures.opened

pub returns-then-by_index-clause-given : goal.returns-then-by_index-clause-given
returns-then-by_index-clause-given g c by = omega (arith, c.open_file.ensures.given)

pub returns-then-by_index-clause-given_walk : goal.returns-then-by_index-clause-given_walk
returns-then-by_index-clause-given_walk g c = omega (arith, c.open_file.ensures.given)
