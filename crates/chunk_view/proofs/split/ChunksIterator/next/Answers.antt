-- The next chunk is the first of those that are left.
use Rattle.std.proofs.Common.{◌≡◌, ◌<◌, ◌∷◌, List, length, map, ap, sym, ◌∙◌, arith}
use Rattle.dsdiff_spec.specs.Chunks.{head_at, next_place}
use Rattle.chunk_view.specs.Placed.{PlacedChunk, placed_at, placed_in}
use Rattle.chunk_view.specs.Seen.{seen}
use Rattle.chunk_view.proofs.Walking.{all_goes, all_stops, whole_goes, whole_after, within}
use Rattle.chunk_view.proofs.split.ChunksIterator.next.Goals as goal

pub returns-then-self-clause-steps : goal.returns-then-self-clause-steps
returns-then-self-clause-steps c =
    let none = sym c.self.view_is ∙ ap (λ f. map (placed_at c.self.inside.bytes.now) f.heads)
    (all_stops c.self.inside.bytes.now c.self.inside.place (omega arith)) in
    (none, none)

pub returns-in_err-view-clause-steps : goal.returns-in_err-view-clause-steps
returns-in_err-view-clause-steps c =
    absurd (whole_goes c.self.inside.bytes.now c.self.inside.place c.self.invariant.whole (omega arith) c.in_err-view.ensures.passes)

pub invariant_of-self : goal.invariant_of-self
invariant_of-self c =
    record {
      within = c.in_ok-view.ensures.inside;
      whole =
          whole_after c.self.inside.bytes.now c.self.inside.place c.in_ok-view.next c.self.invariant.whole c.in_ok-view.ensures.next
          c.in_ok-view.ensures.inside;
    }

pub returns-clause-steps : goal.returns-clause-steps
returns-clause-steps c =
    let bytes = c.self.inside.bytes.now in
    let place = c.self.inside.place in
    let is = c.in_ok-view.ensures.next in
    sym c.self.view_is
    ∙ ap (λ f. map (placed_at bytes) f.heads)
    (all_goes bytes place (within c.in_ok-view.next (length bytes) (head_at bytes place) is c.in_ok-view.ensures.inside))
    ∙ ap (λ p. p ∷ placed_in bytes (next_place (head_at bytes place))) (sym c.in_ok-view.ensures.view)
    ∙ ap (λ n. seen c.in_ok-view.view ∷ placed_in bytes n) (sym is)

shorter : (x : PlacedChunk) (xs ys : List PlacedChunk) → xs ≡ x ∷ ys → length ys < length xs
shorter x xs ys e = omega (arith, ap length e)

pub returns-clause-goes : goal.returns-clause-goes
returns-clause-goes c = record {
  on = λ _. (tt, tt, shorter _ _ _ (returns-clause-steps c));
  keeps = tt;
  rests = λ _. tt;
}
