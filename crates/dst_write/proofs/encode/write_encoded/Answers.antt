-- All but the two sizes is written, and then these are.
use Rattle.std.proofs.Common.{Ok, Err, ap, ◌∙◌, arith}
use Rattle.std.specs.Prelude.{sum}
use Rattle.dst_commands.proofs.OneCall.{some_file}
use Rattle.dst_write.proofs.Parts.{is_unsized, written_whole, stopped_in_sizes}
use Rattle.dst_write.proofs.encode.write_encoded.Goals as goal

pub write_sizes-requires-clause-appended : goal.write_sizes-requires-clause-appended
write_sizes-requires-clause-appended g c =
    some_file c.args.form.now.end _ (λ file fits. omega (arith, c.side_length-before.ensures.length file fits, c.in_default.ensures.appended file fits))

pub returns-in-Ok-clause-written : goal.returns-in-Ok-clause-written
returns-in-Ok-clause-written g c file told =
    let known = g.met.S.Source.size_is_length c.args.source.now file c.requires.size.0 told c.requires.size.1 in
    let all = c.in_default.ensures.written file told in
    let sizes = c.as_slice-sizes.ensures.value ∙ all.1 in
    record {
      bytes = c.stored_size.ensures ∙ ap sum sizes;
      written = written_whole (g.P.Picker.picks c.args.picker.now) file c.args.form.now c.requires.size.0 c.requires.size.2 known
          (is_unsized (g.P.Picker.picks c.args.picker.now) file c.args.form.now c.requires.size.0 c.requires.size.2 known (Ok (tt {0})) _ _ _ _ all.0 sizes
          c.side_length-before.ensures.length c.sound_size.ensures.size c.form_size.ensures c.in-Ok.ensures.written);
    }

pub returns-in-Err-write_sizes-clause-written : goal.returns-in-Err-write_sizes-clause-written
returns-in-Err-write_sizes-clause-written g c file told =
    let known = g.met.S.Source.size_is_length c.args.source.now file c.requires.size.0 told c.requires.size.1 in
    let all = c.in_default.ensures.written file told in
    let fault = c.in-Err-write_sizes.field-0 in
    stopped_in_sizes (g.P.Picker.picks c.args.picker.now) file c.args.form.now c.requires.size.0 c.requires.size.2 known fault
    (is_unsized (g.P.Picker.picks c.args.picker.now) file c.args.form.now c.requires.size.0 c.requires.size.2 known (Err fault) _ _ _ _ all.0
    (c.as_slice-sizes.ensures.value ∙ all.1) c.side_length-before.ensures.length c.sound_size.ensures.size c.form_size.ensures
    c.in-Err-write_sizes.ensures.written) c.in-Err-write_sizes.ensures.sure
