-- Where no row is held nothing is said of the array, and then it has the row that was read.
use Rattle.std.proofs.Common.{◌≡◌, Option, List, ℕ, true, sym, subst, ◌∙◌}
use Rattle.dsf_files.specs.Forms.{has_blocks, IsFormOfTold}
use Rattle.dsf_files.specs.Laws.{IsPlainOfTold}
use Rattle.dsf_files.proofs.Reading.{holds_read}
use Rattle.dsf_files.proofs.source.DsfSource.hold_row.Goals as goal

pub invariant_of-self : goal.invariant_of-self
invariant_of-self g c =
    let form = c.args.self.now.form in
    record {
      blocks = subst (λ (k : Option ℕ). has_blocks k form ≡ true) (sym c.fill_row.ensures.stays) c.args.self.now.blocks;
      order = c.args.self.now.order;
      says = subst (λ (told : Option (List ℕ)). IsFormOfTold told form) (sym c.fill_row.ensures.bytes) c.args.self.now.says;
      plain = subst (λ (told : Option (List ℕ)). IsPlainOfTold told form) (sym c.fill_row.ensures.bytes) c.args.self.now.plain;
      holds = tt;
    }

pub invariant_of-self-2 : goal.invariant_of-self-2
invariant_of-self-2 g c =
    let form = c.args.self.now.form in
    let says = subst (λ (told : Option (List ℕ)). IsFormOfTold told form) (sym c.fill_row.ensures.bytes) c.args.self.now.says in
    record {
      blocks = subst (λ (k : Option ℕ). has_blocks k form ≡ true) (sym c.fill_row.ensures.stays) c.args.self.now.blocks;
      order = c.args.self.now.order;
      says = says;
      plain = subst (λ (told : Option (List ℕ)). IsPlainOfTold told form) (sym c.fill_row.ensures.bytes) c.args.self.now.plain;
      holds = holds_read (g.S.Source.bytes c.fill_row.new.source) form c.args.number c.fill_row.new.row says
          (λ f told d. c.in-Ok.ensures.row f (sym c.fill_row.ensures.bytes ∙ told) d);
    }
