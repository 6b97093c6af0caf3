-- The chunks of the views are those that the definitions find.
use Rattle.std.proofs.Common.{Option, Some, None, IfNone}
use Rattle.std.proofs.lemmas.Option.{IfSome_then}
use Rattle.dsdiff_chunks.proofs.Views.{not_one, one_view, body_is_there}
use Rattle.dsdiff_chunks.proofs.prop.local.Goals as goal

none_then : {X P Q : Type 0} (o : Option X) → IfNone o P → (P → Q) → IfNone o Q
none_then None p f = f p
none_then (Some x) p f = tt

pub returns-clause-none : goal.returns-clause-none
returns-clause-none c =
    none_then c.only.result c.only.ensures.none
    (λ none. not_one c.args.id c.args.body.now c.in-Ok.chunks c.requires.long c.requires.short c.in-Ok.ensures.found none)

pub returns-clause-one : goal.returns-clause-one
returns-clause-one c =
    IfSome_then c.only.result c.only.ensures.one
    (λ view one. one_view c.args.id c.args.body.now c.in-Ok.chunks view c.requires.long c.requires.short c.in-Ok.ensures.found one)

pub returns-clause-body : goal.returns-clause-body
returns-clause-body c =
    IfSome_then c.only.result c.only.ensures.one
    (λ view one. body_is_there c.args.id c.args.body.now c.in-Ok.chunks view c.requires.long c.requires.short c.in-Ok.ensures.found one)
