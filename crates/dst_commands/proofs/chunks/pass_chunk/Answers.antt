-- `PROP` is written with another `CMPR`, any other chunk is copied.
use Rattle.std.proofs.Common.{◌≡◌, ◌+◌, ◌≤◌, length, ap, sym, subst, ◌∙◌, arith}
use Rattle.dsdiff_spec.specs.Written.{prop_with}
use Rattle.dsdiff_chunks.specs.Lawful.{IsPropBody}
use Rattle.dsdiff_chunks.specs.Seen.{head_seen}
use Rattle.dsdiff_chunks.specs.declared.copy.CopyFault.{CopyFault}
use Rattle.dst_commands.specs.Passing.{form_of, bytes_of, cmpr_of}
use Rattle.dst_commands.proofs.Writing.{added, cut_off, adds_same, stops_same, stops_for}
use Rattle.dst_commands.proofs.PassedOn.{cmpr_is_one, lent_is_lawful, length-passed, passed_prop, copied_chunk, of_ok}
use Rattle.dst_commands.proofs.chunks.pass_chunk.Goals as goal

pub write_prop-requires : goal.write_prop-requires
write_prop-requires g c =
    let one = cmpr_is_one (cmpr_of c.args.passed.now) (head_seen c.args.head.now) c.in-Some.cmpr.now c.in-Some.ensures c.requires.cmpr in
    record {
      prop = subst IsPropBody (sym c.prop.ensures) (lent_is_lawful c.args.passed.now.form).prop;
      cmpr = one.one;
      short = one.most;
    }

pub returns-in-Ok-clause-appended : goal.returns-in-Ok-clause-appended
returns-in-Ok-clause-appended g c file fits =
    let is = passed_prop file (form_of c.args.passed.now) (head_seen c.args.head.now) _ _ _ c.in-Some.ensures c.prop.ensures in
    let more = ap length is in
    omega (arith, c.in-Ok.ensures.appended, more)

pub returns-in-Ok-clause-written : goal.returns-in-Ok-clause-written
returns-in-Ok-clause-written g c file told =
    let is = passed_prop file (form_of c.args.passed.now) (head_seen c.args.head.now) _ _ _ c.in-Some.ensures c.prop.ensures in
    adds_same (prop_with c.prop.result.now c.in-Some.cmpr.now) (bytes_of file c.args.passed.now (head_seen c.args.head.now)) _ _ _ _ is
    (added _ (prop_with c.prop.result.now c.in-Some.cmpr.now) _ _ _ _ c.in-Ok.ensures.sure c.in-Ok.ensures.written)

pub returns-in-Err-clause-written : goal.returns-in-Err-clause-written
returns-in-Err-clause-written g c file told =
    let is = passed_prop file (form_of c.args.passed.now) (head_seen c.args.head.now) _ _ _ c.in-Some.ensures c.prop.ensures in
    stops_same (CopyFault.Write ≡ CopyFault.Write) (prop_with c.prop.result.now c.in-Some.cmpr.now)
    (bytes_of file c.args.passed.now (head_seen c.args.head.now)) _ _ _ is
    (stops_for (Unit {0}) (CopyFault.Write ≡ CopyFault.Write) _ _ _ _ (λ e. tt {0})
    (cut_off _ (prop_with c.prop.result.now c.in-Some.cmpr.now) _ _ _ _ c.in-Err.ensures.sure c.in-Err.ensures.written))

pub returns-in-None-clause-appended : goal.returns-in-None-clause-appended
returns-in-None-clause-appended g c =
    of_ok c.copy_range.result _ _
    (λ e file fits.
    e
    ∙ ap (λ n. g.K.Sink.appended c.args.sink.now + n)
    (length-passed file (form_of c.args.passed.now) (head_seen c.args.head.now)
    (cmpr_of c.args.passed.now) c.end_of.result c.end_of.ensures fits c.requires.within c.in-None.ensures))
    c.copy_range.ensures.appended

pub returns-in-None-clause-written : goal.returns-in-None-clause-written
returns-in-None-clause-written g c file told =
    let size = g.met.S.Source.size_is_length c.args.source.now file c.requires.size.0 told c.requires.size.1 in
    let end = c.requires.size.2 in
    let fits : (form_of c.args.passed.now).end ≤ length file = omega arith in
    copied_chunk _ _ file (form_of c.args.passed.now) (head_seen c.args.head.now)
    (cmpr_of c.args.passed.now) c.end_of.result _ _ _ _ c.end_of.ensures told fits c.requires.within c.in-None.ensures
    c.copy_range.ensures.copied c.copy_range.ensures.cut_short c.copy_range.ensures.sure c.copy_range.ensures.taken
