-- The pieces are the front.
use Rattle.std.proofs.Common.{◌≡◌, ◌/◌, ℕ, List, length, ap, ◌∙◌, arith}
use Rattle.dsf_files.specs.Forms.{dsf_seen}
use Rattle.dsf_files.proofs.Whole.{front_is, length-front}
use Rattle.dsf_files.proofs.plain.front_of.Goals as goal

pub returns-clause-front : goal.returns-clause-front
returns-clause-front c =
    let times : c.multiple-multiple.result ≡ c.args.form.now.channels.octets / 4704 = omega (arith, c.multiple-multiple.ensures.multiple) in
    c.joined.ensures
    ∙ front_is (dsf_seen c.args.form.now) c.count-count.result c.multiple-multiple.result c.sound_size-size.result _ _ _ _ _ _
    c.count-count.ensures.shape.least c.count-count.ensures.shape.most c.count-count.ensures.count times c.sound_size-size.ensures.size
    c.to_be_bytes.ensures c.to_be_bytes-2.ensures c.to_be_bytes-3.ensures c.to_be_bytes-4.ensures c.to_be_bytes-5.ensures c.to_be_bytes-6.ensures

pub returns-clause-long : goal.returns-clause-long
returns-clause-long c =
    ap (λ (w : List ℕ). length w) (returns-clause-front c)
    ∙ length-front (dsf_seen c.args.form.now) c.count-count.ensures.shape.least c.count-count.ensures.shape.most
