-- Of `PROP` with another `CMPR`, or of the chunk as it stands.
use Rattle.std.proofs.Common.{length, ap, sym, subst, ◌∙◌}
use Rattle.dsdiff_chunks.specs.Lawful.{IsPropBody}
use Rattle.dsdiff_chunks.specs.Seen.{head_seen}
use Rattle.dst_commands.specs.Passing.{form_of, cmpr_of}
use Rattle.dst_commands.proofs.PassedOn.{cmpr_is_one, lent_is_lawful, length-passed, passed_prop}
use Rattle.dst_commands.proofs.chunks.chunk_length.Goals as goal

pub prop_length-requires : goal.prop_length-requires
prop_length-requires c =
    let one = cmpr_is_one (cmpr_of c.args.passed.now) (head_seen c.args.head.now) c.in-Some.cmpr.now c.in-Some.ensures c.requires.cmpr in
    record {
      prop = subst IsPropBody (sym c.prop.ensures) (lent_is_lawful c.args.passed.now.form).prop;
      cmpr = one.one;
      short = one.most;
    }

pub returns-in-Some-clause-length : goal.returns-in-Some-clause-length
returns-in-Some-clause-length c file fits =
    c.prop_length.ensures.length
    ∙ ap length (passed_prop file (form_of c.args.passed.now) (head_seen c.args.head.now)
    (cmpr_of c.args.passed.now) c.prop.result.now c.in-Some.cmpr.now c.in-Some.ensures c.prop.ensures)

pub returns-in-None-clause-length : goal.returns-in-None-clause-length
returns-in-None-clause-length c file fits =
    length-passed file (form_of c.args.passed.now) (head_seen c.args.head.now)
    (cmpr_of c.args.passed.now) c.end_of.result c.end_of.ensures fits c.requires.within c.in-None.ensures
