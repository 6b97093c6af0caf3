-- What the forms of this crate are in the definitions of DSF files.
use Rattle.std.specs.Prelude.{◌≡◌, ℕ, ◌+◌, ◌/◌, Bool, false, ◌||◌, ◌==◌, nat_le, List, Option, Some, None}
use Rattle.std.specs.Coded.{Unit-prop}
use Rattle.std.proofs.Props.{props}
use Rattle.dsdiff_spec.specs.Dsf.{Dsf, dsf_of, dsf_fault, bytes_of_blocks}
use Rattle.dsf_files.specs.declared.form.DsfForm.{DsfForm}

abbrev pub dsf_seen : DsfForm → Dsf
dsf_seen f = record {
  channels = f.channels.channels;
  multiple = f.channels.octets / 4704;
  samples = f.samples;
  type = f.kind;
  bits =
      f.bits;
}

-- a size that is known has room for the header and the blocks
abbrev pub has_blocks : Option ℕ → DsfForm → Bool
has_blocks None form = false
has_blocks (Some size) form = nat_le (92 + bytes_of_blocks (dsf_seen form)) size

-- one of the two orders of bits
abbrev pub is_order : ℕ → Bool
is_order bits = bits == 1 || bits == 8

-- the form is that of the bytes, where they are told
pub record IsFormOf (f : List ℕ) (form : DsfForm) : Type 0 where
  pub accepted : dsf_fault f ≡ None
  pub says : dsf_of f ≡ dsf_seen form

abbrev pub IsFormOfTold : Option (List ℕ) → DsfForm → Type 0
IsFormOfTold None form = Unit {0}
IsFormOfTold (Some f) form = IsFormOf f form

-- which has one proof at most
pub IsFormOfTold-prop : (told : Option (List ℕ)) (form : DsfForm) → IsProp (IsFormOfTold told form)
IsFormOfTold-prop None form = Unit-prop
IsFormOfTold-prop (Some f) form = Prim.hlevel props
