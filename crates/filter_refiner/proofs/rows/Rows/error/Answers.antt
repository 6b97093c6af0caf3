-- The error is that of the row, and in its bounds.
use Rattle.std.proofs.Common.{pos, get_or, ap, sym, ◌∙◌, arith}
use Rattle.std.proofs.lemmas.Int.{ints}
use Rattle.filter_refiner.proofs.Numbers.{same_64}
use Rattle.filter_refiner.proofs.Keeping.{row-of}
use Rattle.filter_refiner.proofs.rows.Rows.error.Goals as goal

pub returns : goal.returns
returns c =
    let row = row-of c.self.inside.errors c.self.inside.values c.self.view_is c.self.invariant.1 c.requires.inside in
    let least = row.2.least in
    let most = row.2.most in
    record {
      error = same_64 (get_or c.self.inside.errors c.args.place (pos 0)) (omega (arith, ints)) ∙ sym (ap (λ s. s.error) row.1);
      least = omega (arith, ints);
      most = omega (arith, ints);
    }
