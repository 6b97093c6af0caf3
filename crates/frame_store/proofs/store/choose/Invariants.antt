-- The choice is the first of the shortest up to this lane, and its length hasn't grown.
use Rattle.std.proofs.Common.{◌≡◌, ℕ, ◌+◌, ◌<◌, ◌≤◌, List, length, get_or}
use Rattle.dst_spec.specs.Sample.{Shape}
use Rattle.dst_spec.specs.Header.{Params}
use Rattle.dst_spec.specs.Spell.{spell}
use Rattle.frame_store.specs.Choosing.{IsChosen}
use Rattle.frame_store.proofs.store.choose.Given as goal

abbrev pub invariant-loop-lane : goal.invariant-loop-lane
invariant-loop-lane l = record {
  fits : l.choice.least ≤ l.initial.choice.least;
  chosen : (f : Shape) (sound : List ℕ) (found : List Params) → l.first + l.count ≤ length found
      → ((lane : ℕ) (other : Params) → lane < l.count → get_or l.lengths lane 0 ≡ length (spell f (get_or found (l.first + lane) other) sound))
      → IsChosen f sound found l.first l.initial.choice.best l.initial.choice.least → IsChosen f sound found (l.first + l.lane) l.choice.best l.choice.least;
}
