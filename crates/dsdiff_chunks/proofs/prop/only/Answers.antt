-- The chunk that was found is the only one with its id, until a second one shows that it isn't.
use Rattle.std.proofs.Common.{rules, ◌≡◌, ◌∷◌, [], ℕ, ◌++◌, length, bytes_eq, map, option_to_list, cond, Bool, true, false, List, Option, Some, None}
use Rattle.std.proofs.Common.{is_some, IfNone, IfSome, ap, sym, ◌∙◌, arith}
use Rattle.chunk_view.specs.Placed.{PlacedChunk}
use Rattle.chunk_view.specs.Seen.{seen}
use Rattle.chunk_view.specs.declared.view.ChunkView.{ChunkView}
use Rattle.dsdiff_chunks.proofs.prop.only.Goals as goal
use Rattle.dsdiff_chunks.proofs.Views.{called}

abbrev shown : Option ChunkView → List PlacedChunk
shown found = map seen (option_to_list found)

passed : (id : List ℕ) (all left next : List PlacedChunk) (found : Option ChunkView) (view : ChunkView) (b : Bool) →
    called id all ≡ shown found ++ called id left → left ≡ seen view ∷ next → bytes_eq view.id id ≡ b →
    called id all ≡ shown found ++ cond b (seen view ∷ called id next) (called id next)
passed id all left next found view b e step is =
    e ∙ ap (λ w. shown found ++ called id w) step ∙ ap (λ x. shown found ++ cond x (seen view ∷ called id next) (called id next)) is

first_found : (id : List ℕ) (all next : List PlacedChunk) (found : Option ChunkView) (view : ChunkView) →
    called id all ≡ shown found ++ (seen view ∷ called id next) → is_some found ≡ false → called id all ≡ seen view ∷ called id next
first_found id all next None view e none = e
first_found id all next (Some x) view e none = absurd cc

second_found : (id : List ℕ) (all next : List PlacedChunk) (found : Option ChunkView) (view : ChunkView) →
    called id all ≡ shown found ++ (seen view ∷ called id next) → is_some found ≡ true → length (called id all) ≡ 1 → ⊥
second_found id all next None view e some one = absurd cc
second_found id all next (Some x) view e some one = absurd (omega (arith, ap length e, one))

none_found : (id : List ℕ) (all : List PlacedChunk) (found : Option ChunkView) → called id all ≡ shown found ++ [] →
    IfNone found (length (called id all) ≡ 1 → ⊥)
none_found id all None e = λ one. absurd (omega (arith, ap length e, one))
none_found id all (Some x) e = tt

one_found : (id : List ℕ) (all : List PlacedChunk) (found : Option ChunkView) → called id all ≡ shown found ++ [] →
    IfSome found (λ view. called id all ≡ seen view ∷ [])
one_found id all None e = tt
one_found id all (Some x) e = e

pub returns-then-is_some-clause-none : goal.returns-then-is_some-clause-none
returns-then-is_some-clause-none c =
    let step : c.loop-view.view-iterator ≡ seen c.in-Some.view ∷ c.next.new.self = search rules in
    let is : bytes_eq c.in-Some.view.id c.args.id ≡ true = sym c.if-eq.ensures in
    second_found c.args.id c.args.chunks c.next.new.self c.loop-view.found c.in-Some.view
    (passed c.args.id c.args.chunks c.loop-view.view-iterator c.next.new.self c.loop-view.found c.in-Some.view true c.loop-view.invariant step is)
    (sym c.if-is_some.ensures)

pub loop-view-preserved-then-eq : goal.loop-view-preserved-then-eq
loop-view-preserved-then-eq c =
    let step : c.loop-view.view-iterator ≡ seen c.in-Some.view ∷ c.next.new.self = search rules in
    let is : bytes_eq c.in-Some.view.id c.args.id ≡ true = sym c.if-eq.ensures in
    first_found c.args.id c.args.chunks c.next.new.self c.loop-view.found c.in-Some.view
    (passed c.args.id c.args.chunks c.loop-view.view-iterator c.next.new.self c.loop-view.found c.in-Some.view true c.loop-view.invariant step is)
    (sym c.if-is_some.ensures)

pub loop-view-preserved : goal.loop-view-preserved
loop-view-preserved c =
    let step : c.loop-view.view-iterator ≡ seen c.in-Some.view ∷ c.next.new.self = search rules in
    let is : bytes_eq c.in-Some.view.id c.args.id ≡ false = sym c.if-eq.ensures in
    passed c.args.id c.args.chunks c.loop-view.view-iterator c.next.new.self c.loop-view.found c.in-Some.view false c.loop-view.invariant step is

pub returns-clause-none : goal.returns-clause-none
returns-clause-none c =
    let end : c.loop-view.view-iterator ≡ [] = search rules in
    none_found c.args.id c.args.chunks c.loop-view.found (c.loop-view.invariant ∙ ap (λ w. shown c.loop-view.found ++ called c.args.id w) end)

pub returns-clause-one : goal.returns-clause-one
returns-clause-one c =
    let end : c.loop-view.view-iterator ≡ [] = search rules in
    one_found c.args.id c.args.chunks c.loop-view.found (c.loop-view.invariant ∙ ap (λ w. shown c.loop-view.found ++ called c.args.id w) end)
