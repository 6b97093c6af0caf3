-- The map numbers as many filters as there are, so the number that it has for the channel is one of them.
use Rattle.std.proofs.Common.{◌≡◌, [], length, subst}
use Rattle.dst_spec.specs.Header.{Params}
use Rattle.dst_spec.specs.Guess.{filter_of}
use Rattle.dst_num.specs.Map.{params_of}
use Rattle.channel_params.proofs.Maps.{channel-inside, chosen-inside, chosen-is}
use Rattle.channel_params.proofs.channel.channel_filter.Goals as goal

pub bounds-filters-number : goal.bounds-filters-number
bounds-filters-number c =
    let p = c.params.inside in
    let inside = channel-inside c.args.params.now (params_of p.filter_map p.prob_map p.half_prob.items p.filters.items p.probs.items) c.args.c
    c.params.view_is c.requires in
    chosen-inside p.filter_map c.elements.result.now p.filters.items c.as_slice-filters.result.now (length p.half_prob.items) c.args.c
    c.elements.ensures.elements
    c.as_slice-filters.ensures.value c.params.invariant.filter_map.0 c.params.invariant.filter_count inside

pub returns : goal.returns
returns c =
    let p = c.params.inside in
    let Q = params_of p.filter_map p.prob_map p.half_prob.items p.filters.items p.probs.items in
    let inside = channel-inside c.args.params.now Q c.args.c c.params.view_is c.requires in
    let lt = chosen-inside p.filter_map c.elements.result.now p.filters.items c.as_slice-filters.result.now (length p.half_prob.items) c.args.c
    c.elements.ensures.elements
    c.as_slice-filters.ensures.value c.params.invariant.filter_map.0 c.params.invariant.filter_count inside in
    let is = chosen-is p.filter_map c.elements.result.now p.filters.items c.as_slice-filters.result.now c.args.c c.index-filters-number.result []
    c.elements.ensures.elements
    c.as_slice-filters.ensures.value c.index-filters-number.is lt in
    subst (λ (P : Params). c.index-filters-number.result ≡ filter_of P c.args.c) c.params.view_is is
