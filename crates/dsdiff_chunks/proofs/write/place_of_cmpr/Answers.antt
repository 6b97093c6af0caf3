-- One of the chunks of an accepted body is `CMPR`.
use Rattle.std.proofs.Common.{sym, ap, arith}
use Rattle.dsdiff_spec.specs.Chunks.{Head, next_place}
use Rattle.dsdiff_chunks.proofs.Accepted.{is_whole}
use Rattle.dsdiff_chunks.proofs.Views.{cmpr_is, cmpr_inside}
use Rattle.dsdiff_chunks.proofs.write.place_of_cmpr.Goals as goal

pub local-requires : goal.local-requires
local-requires c =
    let whole = is_whole 0 c.args.prop.now c.requires.rules in
    record { long = whole.short; short = c.requires.most; whole = whole.found }

pub unreachable-requires : goal.unreachable-requires
unreachable-requires c = c.in_default.ensures.none (is_whole 0 c.args.prop.now c.requires.rules).one

pub overflow_add-place : goal.overflow_add-place
overflow_add-place c =
    let inside = cmpr_inside c.args.prop.now c.in-Some.cmpr c.requires c.in-Some.ensures.one in
    omega (arith, c.requires.most, inside)

pub overflow_add-result : goal.overflow_add-result
overflow_add-result c =
    let inside = cmpr_inside c.args.prop.now c.in-Some.cmpr c.requires c.in-Some.ensures.one in
    omega (arith, c.requires.most, inside)

pub overflow_add-result-2 : goal.overflow_add-result-2
overflow_add-result-2 c =
    let inside = cmpr_inside c.args.prop.now c.in-Some.cmpr c.requires c.in-Some.ensures.one in
    omega (arith, c.requires.most, inside)

pub overflow_add-result-3 : goal.overflow_add-result-3
overflow_add-result-3 c =
    let inside = cmpr_inside c.args.prop.now c.in-Some.cmpr c.requires c.in-Some.ensures.one in
    omega (arith, c.requires.most, inside)

pub returns-clause-place : goal.returns-clause-place
returns-clause-place c = sym (ap (λ (h : Head). h.place) (cmpr_is c.args.prop.now c.in-Some.cmpr c.in-Some.ensures.one))

pub returns-clause-end : goal.returns-clause-end
returns-clause-end c = sym (ap next_place (cmpr_is c.args.prop.now c.in-Some.cmpr c.in-Some.ensures.one))

pub returns-clause-inside : goal.returns-clause-inside
returns-clause-inside c = cmpr_inside c.args.prop.now c.in-Some.cmpr c.requires c.in-Some.ensures.one
