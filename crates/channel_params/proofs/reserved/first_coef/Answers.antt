-- A frame with a channel has a filter, as the map says, so there is a first one.
use Rattle.std.proofs.Common.{◌≡◌, ◌<◌, ℤ, pos, [], List, length, get_or, ap, ◌∙◌, w16, SFits, rules, arith}
use Rattle.std.proofs.lemmas.Int.{to_z-of_z}
use Rattle.std.proofs.lemmas.List.{get_or_default}
use Rattle.dst_spec.specs.Map.{element_count}
use Rattle.dst_spec.specs.Header.{Params}
use Rattle.dst_num.specs.Map.{params_of}
use Rattle.channel_params.proofs.Maps.{element-below}
use Rattle.channel_params.proofs.reserved.first_coef.Goals as goal

some_filter : (P Q : Params) (tables : List (List ℤ)) → Q ≡ P → 0 < length P.half_prob → length Q.filter_map ≡ length Q.half_prob →
    length Q.filters ≡ element_count Q.filter_map → tables ≡ Q.filters → 0 < length tables
some_filter P Q tables view some long count same =
    let halves = ap (λ (R : Params). length R.half_prob) view in
    let below = element-below Q.filter_map 0 (omega (arith, halves)) in
    omega (arith, below, ap length same)

pub bounds-filters-0 : goal.bounds-filters-0
bounds-filters-0 c =
    let p = c.params.inside in
    let inv = c.params.invariant in
    some_filter c.args.params.now (params_of p.filter_map p.prob_map p.half_prob.items p.filters.items p.probs.items) c.as_slice-filters.result.now
    c.params.view_is c.requires inv.filter_map.0 inv.filter_count c.as_slice-filters.ensures.value

pub returns-clause-value : goal.returns-clause-value
returns-clause-value c =
    let p = c.params.inside in
    let inv = c.params.invariant in
    let filters = c.as_slice-filters.result.now in
    let some = some_filter c.args.params.now (params_of p.filter_map p.prob_map p.half_prob.items p.filters.items p.probs.items)
    c.as_slice-filters.result.now c.params.view_is c.requires inv.filter_map.0 inv.filter_count c.as_slice-filters.ensures.value in
    let coef = get_or c.coefs.result.now 0 (pos 0) in
    let fits : SFits w16 coef = search rules in
    to_z-of_z w16 coef fits ∙ ap (λ f. get_or f 0 (pos 0)) (c.coefs.ensures.coefs ∙ c.index-filters-0.is
    ∙ get_or_default filters 0 c.index-filters-0.result [] some)
    ∙ ap (λ fs. get_or (get_or fs 0 []) 0 (pos 0)) c.as_slice-filters.ensures.value
    ∙ ap (λ (P : Params). get_or (get_or P.filters 0 []) 0 (pos 0)) c.params.view_is
