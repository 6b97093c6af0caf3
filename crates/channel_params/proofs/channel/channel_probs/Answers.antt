-- The map numbers as many probability tables as there are, so the channel's number is one of them.
use Rattle.std.proofs.Common.{◌≡◌, [], length, subst}
use Rattle.dst_spec.specs.Header.{Params}
use Rattle.dst_spec.specs.Guess.{probs_of}
use Rattle.dst_num.specs.Map.{params_of}
use Rattle.channel_params.proofs.Maps.{channel-inside, chosen-inside, chosen-is}
use Rattle.channel_params.proofs.channel.channel_probs.Goals as goal

pub bounds-probs-number : goal.bounds-probs-number
bounds-probs-number c =
    let p = c.params.inside in
    let inside = channel-inside c.args.params.now (params_of p.filter_map p.prob_map p.half_prob.items p.filters.items p.probs.items) c.args.c
    c.params.view_is c.requires in
    chosen-inside p.prob_map c.elements.result.now p.probs.items c.as_slice-probs.result.now (length p.half_prob.items) c.args.c c.elements.ensures.elements
    c.as_slice-probs.ensures.value c.params.invariant.prob_map.0 c.params.invariant.prob_count inside

pub returns : goal.returns
returns c =
    let p = c.params.inside in
    let Q = params_of p.filter_map p.prob_map p.half_prob.items p.filters.items p.probs.items in
    let inside = channel-inside c.args.params.now Q c.args.c c.params.view_is c.requires in
    let lt = chosen-inside p.prob_map c.elements.result.now p.probs.items c.as_slice-probs.result.now (length p.half_prob.items) c.args.c
    c.elements.ensures.elements
    c.as_slice-probs.ensures.value c.params.invariant.prob_map.0 c.params.invariant.prob_count inside in
    let is = chosen-is p.prob_map c.elements.result.now p.probs.items c.as_slice-probs.result.now c.args.c c.index-probs-number.result []
    c.elements.ensures.elements
    c.as_slice-probs.ensures.value c.index-probs-number.is lt in
    subst (λ (P : Params). c.index-probs-number.result ≡ probs_of P c.args.c) c.params.view_is is
