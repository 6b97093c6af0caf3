-- What is cleared and put in order is a row of the file.
use Rattle.std.proofs.Common.{rules, ◌∙◌, sym, ap, arith, get_or}
use Rattle.std.specs.Prelude.{if◌then◌else◌}
use Rattle.std.proofs.lemmas.Bool.{eq-eqb, ne_eqb}
use Rattle.dsf_files.specs.Forms.{dsf_seen}
use Rattle.dsf_files.specs.Rows.{turned}
use Rattle.dst_dsf.proofs.RowBytes.{is_row}
use Rattle.dst_dsf.proofs.row.order_row.Goals as goal

pub returns-then-form-eq1-clause-row : goal.returns-then-form-eq1-clause-row
returns-then-form-eq1-clause-row c sound few has =
    is_row (dsf_seen c.args.form.now) sound c.args.number c.args.row.now c.clear_row.new.row c.turn_bytes.new.bytes (record {
      few = few;
      small = λ k. search rules;
      has = has;
      cleared = c.clear_row.ensures.cleared;
      long = omega (arith, c.turn_bytes.ensures.long, c.clear_row.ensures.long, c.requires.long);
      ordered = λ k l.
          c.turn_bytes.ensures.turned k (omega (arith, l, c.clear_row.ensures.long, c.requires.long))
          ∙ ap (λ b. if b then turned (get_or c.clear_row.new.row k 0) else (get_or c.clear_row.new.row k 0))
          (sym (eq-eqb c.args.form.now.bits 1 c.if-form-eq1.true));
    })

pub returns-else-form-eq1-clause-row : goal.returns-else-form-eq1-clause-row
returns-else-form-eq1-clause-row c sound few has =
    is_row (dsf_seen c.args.form.now) sound c.args.number c.args.row.now c.clear_row.new.row c.clear_row.new.row (record {
      few = few;
      small = λ k. search rules;
      has = has;
      cleared = c.clear_row.ensures.cleared;
      long = omega (arith, c.clear_row.ensures.long, c.requires.long);
      ordered = λ k l.
          ap (λ b. if b then turned (get_or c.clear_row.new.row k 0) else (get_or c.clear_row.new.row k 0))
          (sym (ne_eqb c.args.form.now.bits 1 c.if-form-eq1.false));
    })
