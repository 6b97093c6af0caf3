-- The first bit says whether one end bit follows or one for each channel, and passing those passes all.
use Rattle.std.proofs.Common.{◌≡◌, ◌==◌, if◌then◌else◌, sym, subst, ap, ◌∙◌}
use Rattle.std.proofs.lemmas.Bool.{ne_eqb}
use Rattle.std.proofs.lemmas.Result.{IfOk-weaker, IfErr-weaker}
use Rattle.dst_spec.specs.Offends.{times, segment_fields}
use Rattle.frame_header.proofs.Stepping.{handed_on}
use Rattle.frame_header.proofs.Parts.{end_bit, segments_cut, segments_passed, segments_failed}
use Rattle.frame_header.proofs.segments.read_segments.Goals as goal
use Rattle.frame_header.proofs.segments.read_segments.Goals.{then-same-eq1, else-same-eq1}
use Rattle.bit_io.specs.Reading.{HasPassed, IsAtFault}

pub returns-in_err-same-clause-fault : goal.returns-in_err-same-clause-fault
returns-in_err-same-clause-fault c =
    let fault = c.in_err-same.field-0.0 in
    let old = c.args.reader.now in
    handed_on c.from_residual.result fault (IsAtFault (segment_fields c.args.channels) old) c.from_residual.ensures.1
    (segments_cut c.args.channels old fault c.in_err-same.ensures.fault)

how_many : (c : goal.After-read_ends) → c.if-same-eq1.ends ≡ (if c.in_ok-same.same == 1 then 1 else c.args.channels)
how_many c = elim c.if-same-eq1.branch [
  | then-same-eq1 w ↦ w.ends-is ∙ ap (λ s. if s == 1 then 1 else c.args.channels) (sym w.if-same-eq1.true)
  | else-same-eq1 w ↦ w.ends-is ∙ ap (λ b. if b then 1 else c.args.channels) (sym (ne_eqb c.in_ok-same.same 1 w.if-same-eq1.false))
]

pub returns-clause-read : goal.returns-clause-read
returns-clause-read c =
    let old = c.args.reader.now in
    let mid = c.read_number.new.reader in
    let new = c.read_ends.new.reader in
    let same = c.in_ok-same.same in
    IfOk-weaker c.read_ends.result (λ _. HasPassed (times c.if-same-eq1.ends end_bit) mid new) (λ _. HasPassed (segment_fields c.args.channels) old new)
    (λ _ p. segments_passed c.args.channels same old mid new c.in_ok-same.ensures.read (subst (λ n. HasPassed (times n end_bit) mid new) (how_many c) p))
    c.read_ends.ensures.read

pub returns-clause-fault : goal.returns-clause-fault
returns-clause-fault c =
    let old = c.args.reader.now in
    let mid = c.read_number.new.reader in
    let same = c.in_ok-same.same in
    IfErr-weaker c.read_ends.result (IsAtFault (times c.if-same-eq1.ends end_bit) mid) (IsAtFault (segment_fields c.args.channels) old)
    (λ fault p. segments_failed c.args.channels same old mid fault c.in_ok-same.ensures.read
    (subst (λ n. IsAtFault (times n end_bit) mid fault) (how_many c) p)) c.read_ends.ensures.fault
