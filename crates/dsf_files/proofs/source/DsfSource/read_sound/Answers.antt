-- The row that is held has the sound.
use Rattle.std.proofs.Common.{◌≡◌, ◌+◌, ◌*◌, ◌/◌, ◌%◌, ◌<◌, ◌≤◌, Option, List, ℕ, Some, refl, subst, ◌∙◌, ap, arith}
use Rattle.std.proofs.lemmas.List.{length-take}
use Rattle.std.proofs.Math.Nat.{mod-lt}
use Rattle.dsf_files.specs.Forms.{dsf_seen}
use Rattle.dsf_files.specs.Rows.{HoldsRow}
use Rattle.dsf_files.specs.Standing.{sound_size}
use Rattle.dsf_files.proofs.Reading.{row_there, holds_sound}
use Rattle.dsf_files.proofs.source.DsfSource.read_sound.Goals as goal

pub hold_row-requires : goal.hold_row-requires
hold_row-requires g c = row_there (dsf_seen c.args.self.now.form) c.args.place c.count-channels.result c.count-channels.ensures.count c.requires.inside

pub returns-clause-read : goal.returns-clause-read
returns-clause-read g c =
    let n = c.count-channels.result in
    let row = c.hold_row.new.self.row in
    let held = subst (λ (h : Option ℕ). HoldsRow h (g.S.Source.bytes c.hold_row.new.self.source.now) row) c.in-Ok.ensures.held c.hold_row.new.self.holds in
    let told = subst (λ (t : Option (List ℕ)). HoldsRow (Some (c.args.place / (4096 * n))) t row) c.hold_row.ensures.bytes held in
    let size : c.sound_size.result ≡ sound_size (dsf_seen c.args.self.now.form) =
    c.sound_size.ensures.size ∙ ap (λ x. sound_size (dsf_seen x)) c.hold_row.ensures.form in
    let some : 1 ≤ n = omega (arith, c.count-channels.ensures.count, c.count-channels.ensures.shape.least) in
    let begins : c.args.place % (4096 * n) < 4096 * n = let pos : 0 < 4096 * n = omega arith in mod-lt c.args.place pos in
    let inside : c.args.place % (4096 * n) + c.min-count.result ≤ 4096 * n = omega (arith, c.min.ensures, c.min-count.ensures) in
    holds_sound (g.S.Source.bytes c.args.self.now.source.now) c.args.self.now.form row c.copy_sound.new.out _ c.args.place (c.args.place / (4096 * n))
    (c.args.place % (4096 * n)) c.min-count.result n c.args.self.now.says c.count-channels.ensures.shape c.count-channels.ensures.count refl refl inside
    (omega (arith, c.min-count.ensures, size, c.requires.inside)) told
    (omega (arith, c.copy_sound.ensures.long, length-take {A = ℕ}, c.min.ensures, c.min-count.ensures))
    (λ k l. c.copy_sound.ensures.sound k (omega (arith, c.copy_sound.ensures.long, length-take {A = ℕ}, c.min.ensures, c.min-count.ensures)))
