-- Rule by rule on the fields of version 2.
use Rattle.std.proofs.Common.{get_or, ◌∙◌, arith}
use Rattle.dsdiff_chunks.proofs.Fields.{number_behind}
use Rattle.dsdiff_chunks.proofs.Refused.{bad_length, lawful_second, long_cmpr, many_behind, needless_pad, pad_of_even, parts_are}
use Rattle.dsdiff_chunks.proofs.origin.parts_of_second.Goals as goal
use Rattle.dsdiff_chunks.proofs.origin.parts_of_second.Goals.{then-count-gt65536-via-then-count-gt65536}
use Rattle.dsdiff_chunks.proofs.origin.parts_of_second.Goals.{then-count-gt65536-via-else-count-gt65536+then-body-count}

pub returns-clause-some : goal.returns-clause-some
returns-clause-some c =
    let body = c.args.body.now in
    let kept = c.read_u32-count.ensures ∙ number_behind body 10 4 in
    let sound = c.read_u64-sound.ensures ∙ number_behind body 1 8 in
    lawful_second body c.requires c.if-body-lt30.false c.if-body-gt131086.false (omega (arith, kept, c.if-count-gt65536.false))
    (omega (arith, kept, c.if-body-count.false)) (rw sound at c.else-sound-eq0.either)

pub returns-clause-parts : goal.returns-clause-parts
returns-clause-parts c =
    let body = c.args.body.now in
    parts_are body c.read_u64-sound.result c.read_u32-count.result c.saturating_sub-end.result c.min.result c.requires
    (c.read_u64-sound.ensures ∙ number_behind body 1 8)
    (c.read_u32-count.ensures ∙ number_behind body 10 4)
    c.saturating_sub-end.ensures
    c.min.ensures

pub returns-then-body-lt30-clause-none : goal.returns-then-body-lt30-clause-none
returns-then-body-lt30-clause-none c = bad_length c.args.body.now c.requires c.then-body-lt30.either

pub returns-then-count-gt65536-clause-none : goal.returns-then-count-gt65536-clause-none
returns-then-count-gt65536-clause-none c =
    let body = c.args.body.now in
    let kept = c.read_u32-count.ensures ∙ number_behind body 10 4 in
    elim c.then-count-gt65536.branch [
      | then-count-gt65536-via-then-count-gt65536 w ↦ many_behind body c.requires (omega (arith, kept, w.if-count-gt65536.true))
      | then-count-gt65536-via-else-count-gt65536+then-body-count w ↦ long_cmpr body c.requires (omega (arith, kept, w.if-body-count.true))
    ]

pub returns-then-pad-ne0-clause-none : goal.returns-then-pad-ne0-clause-none
returns-then-pad-ne0-clause-none c =
    let sound = c.read_u64-sound.ensures ∙ number_behind c.args.body.now 1 8 in
    needless_pad c.args.body.now c.requires (rw sound at c.if-sound-eq0.true) c.if-pad-ne0.true

pub returns-clause-padded : goal.returns-clause-padded
returns-clause-padded c = pad_of_even c.read_u64-sound.result (get_or c.args.body.now 9 0) c.else-sound-eq0.either
