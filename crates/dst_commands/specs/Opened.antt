-- What commands have of a file that keeps their rules, as the definitions find it.
use Rattle.std.specs.Prelude.{◌≡◌, ℕ, Bool, true, false, List}
use Rattle.dsdiff_spec.specs.Form.{Form}
use Rattle.dsdiff_spec.specs.Rules.{accepted}
use Rattle.dsdiff_spec.specs.Walk.{Entry, entry, entries, indexed}
use Rattle.dsdiff_chunks.specs.Forms.{coded_seen, plain_seen}
use Rattle.frame_index.specs.Entries.{entry_seen}
use Rattle.dst_commands.specs.declared.opened.AnyForm.{AnyForm}
use Rattle.dst_commands.specs.declared.opened.AnyForm.TheVariants.{Plain, Coded}
use Rattle.dst_commands.specs.declared.opened.FoundFrame.{FoundFrame}
use Rattle.dst_commands.specs.declared.opened.WalkedForm.{WalkedForm}

-- a form of a file, and the places of its frames
pub record IsWalked (file : List ℕ) (w : WalkedForm) : Type 0 where
  pub form_is : accepted file ≡ coded_seen w.form
  pub entries_are : entries file (coded_seen w.form) ≡ w.index

-- the entry by which frame k is found: that of the index, or that of the walk
abbrev pub named_entry : Bool → List ℕ → Form → ℕ → Entry
named_entry true file form k = indexed file form k
named_entry false file form k = entry (entries file form) k

-- a form of a file, and the place of frame k
pub record IsFound (by_index : Bool) (file : List ℕ) (k : ℕ) (f : FoundFrame) : Type 0 where
  pub form_is : accepted file ≡ coded_seen f.form
  pub entry_is : named_entry by_index file (coded_seen f.form) k ≡ entry_seen f.entry

abbrev pub IsAny : List ℕ → AnyForm → Type 0
IsAny file (Plain f) = accepted file ≡ plain_seen f
IsAny file (Coded w) = IsWalked file w

abbrev pub end_of_any : AnyForm → ℕ
end_of_any (Plain f) = f.end
end_of_any (Coded w) = w.form.end
