-- The pieces are the back.
use Rattle.std.proofs.Common.{ℕ, ◌%◌, List, [], ◌∷◌, length, take, ap, refl, ◌∙◌}
use Rattle.dsf_files.specs.Standing.{sound_size}
use Rattle.dsf_files.proofs.Reading.{pad_by_size}
use Rattle.dsf_files.specs.Forms.{dsf_seen}
use Rattle.dsf_files.proofs.Whole.{back_is, length-back}
use Rattle.dsf_files.proofs.plain.back_of.Goals as goal

pub returns-clause-back : goal.returns-clause-back
returns-clause-back c =
    c.joined.ensures
    ∙ back_is (dsf_seen c.args.form.now) _ _ _ _ (ap (λ n. take (n % 2) (0 ∷ [])) c.sound_size.ensures.size
    ∙ pad_by_size (sound_size (dsf_seen c.args.form.now)))
    c.to_be_bytes.ensures c.to_be_bytes-2.ensures refl

pub returns-clause-long : goal.returns-clause-long
returns-clause-long c = ap (λ (w : List ℕ). length w) (returns-clause-back c) ∙ length-back (dsf_seen c.args.form.now)
