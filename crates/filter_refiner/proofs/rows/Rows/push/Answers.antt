-- One more row stands behind the others, and is held as they are.
use Rattle.std.proofs.Common.{◌≡◌, ◌≢◌, ◌+◌, ◌<◌, ℤ, pos, List, [], ◌∷◌, ◌++◌, length, get_or, take, set, to_z, of_z, get_or-set_other, get_or-set_same}
use Rattle.std.proofs.Common.{ℕ, refl, ap, sym, ◌∙◌, subst, arith}
use mir.Syntax.{w64}
use Rattle.std.proofs.lemmas.Int.{ints}
use Rattle.filter_refiner.specs.SideBySide.{states, AreNthRows}
use Rattle.filter_refiner.proofs.Numbers.{same_64}
use Rattle.filter_refiner.proofs.Keeping.{length-states, states-push, AreNthRows-push}
use Rattle.filter_refiner.proofs.rows.Rows.push.Goals as goal

-- the arrays with one more row
more : (errors : List ℤ) (values : List (List ℤ)) (n : ℕ) (error : ℤ) (held : ℤ) (to row : List ℤ) → length errors ≡ 128 → length values ≡ 128 → n < 128 →
    held ≡ error → take (length row) to ≡ row → length row ≡ n →
    states (set errors n held) (set values n to) (n + 1) ≡ states errors values n ++ record { error = error; values = row } ∷ []
more errors values n error held to row a b few e t long =
    let inside : n < length errors = omega arith in
    let within : n < length values = omega arith in
    let here : get_or (set errors n held) n (pos 0) ≡ error = rw get_or-set_same e in
    let there : get_or (set values n to) n [] ≡ to = rw get_or-set_same refl in
    let cut : take n to ≡ row = ap (λ k. take k to) (sym long) ∙ t in
    states-push errors (set errors n held) values (set values n to) n row
    (λ k h. let ne : k ≢ n = omega arith in rw get_or-set_other refl)
    (λ k h. let ne : k ≢ n = omega arith in rw get_or-set_other refl)
    (ap (take n) there ∙ cut)
    ∙ ap (λ e. states errors values n ++ record { error = e; values = row } ∷ []) here

pub returns : goal.returns
returns c =
    let r = c.self.inside in
    let same : length c.args.self.now ≡ r.count = sym (ap length c.self.view_is) ∙ length-states r.errors r.values r.count in
    let few : r.count < 128 = omega (arith, c.requires.room) in
    let held = same_64 c.args.error (omega (arith, ints, c.requires.least, c.requires.most)) in
    more r.errors r.values r.count c.args.error (to_z w64 (of_z w64 c.args.error)) c.copy_front.new.to c.args.values.now c.self.told.0 c.self.told.1 few held
    c.copy_front.ensures (c.requires.long ∙ same)
    ∙ ap (λ xs. xs ++ record { error = c.args.error; values = c.args.values.now } ∷ []) c.self.view_is

pub invariant_of-self : goal.invariant_of-self
invariant_of-self c =
    let same = length-states c.self.inside.errors c.self.inside.values c.self.inside.count in (
      omega (arith, ap length c.self.view_is, c.requires.room),
      subst AreNthRows (sym (returns c)) (AreNthRows-push c.args.self.now (record { error = c.args.error; values = c.args.values.now })
          (subst AreNthRows c.self.view_is c.self.invariant.1)
          (record { long = c.requires.long; small = c.requires.small; least = c.requires.least; most = c.requires.most })),
    )
