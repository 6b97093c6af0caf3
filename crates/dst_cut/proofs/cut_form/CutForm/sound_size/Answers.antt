-- What is cut out begins before it ends.
use Rattle.std.proofs.Common.{arith}
use Rattle.dst_cut.proofs.CutPlaces.{cut_out}
use Rattle.dst_cut.proofs.cut_form.CutForm.sound_size.Goals as goal

pub overflow_sub-result : goal.overflow_sub-result
overflow_sub-result c =
    omega (arith, c.begins.ensures, c.ends.ensures, (cut_out c.args.self.now).order)

pub returns-clause-most : goal.returns-clause-most
returns-clause-most c =
    let a = cut_out c.args.self.now in
    omega (arith, c.begins.ensures, c.ends.ensures, a.inside, a.most)
