-- The chunks have the plain file's `CMPR`.
use Rattle.std.proofs.Common.{length, ap, ◌∙◌, arith, Some, refl}
use Rattle.dsdiff_chunks.specs.Forms.{coded_seen}
use Rattle.dst_commands.specs.Passing.{chunks_on}
use Rattle.dst_commands.specs.declared.chunks.Side.TheVariants.{Before, Behind}
use Rattle.dst_commands.proofs.PassedOn.{plain_cmpr_is_one}
use Rattle.dst_commands.proofs.sizes.form_size.Goals as goal

pub chunks_length-before-requires : goal.chunks_length-before-requires
chunks_length-before-requires c = record {
  cmpr =
      plain_cmpr_is_one (coded_seen c.args.form.now) c.args.form.now.lawful refl c.cmpr_of-cmpr.result.now c.cmpr_of-cmpr.ensures;
}

pub chunks_length-behind-requires : goal.chunks_length-behind-requires
chunks_length-behind-requires c = record {
  cmpr =
      plain_cmpr_is_one (coded_seen c.args.form.now) c.args.form.now.lawful refl c.cmpr_of-cmpr.result.now c.cmpr_of-cmpr.ensures;
}

pub returns : goal.returns
returns c file fits =
    let form = coded_seen c.args.form.now in
    let before = c.chunks_length-before.ensures.length file fits ∙ ap (λ w. length (chunks_on Before (Some w) file form)) c.cmpr_of-cmpr.ensures in
    let behind = c.chunks_length-behind.ensures.length file fits ∙ ap (λ w. length (chunks_on Behind (Some w) file form)) c.cmpr_of-cmpr.ensures in
    omega (arith, before, behind)
