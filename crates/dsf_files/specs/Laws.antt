-- What holds of each source of the form that stands for a DSF file.
use Rattle.std.specs.Prelude.{◌≡◌, ℕ, ◌<◌, List, length, Option, Some, None}
use Rattle.std.specs.List.{All, AllByRecursion}
use Rattle.std.specs.Coded.{Unit-prop}
use Rattle.std.proofs.Props.{props}
use Rattle.std.proofs.lemmas.List.Elements.{recursion_from_All}
use Rattle.dsdiff_spec.specs.Dsf.{dsdiff}
use Rattle.dsf_files.specs.declared.form.DsfForm.{DsfForm}
use Rattle.dsf_files.specs.Forms.{dsf_seen}
use Rattle.dsf_files.specs.Standing.{plain_of, whole_size}

-- the form has the size that follows from the header, and is bytes
pub record IsPlainOf (f : List ℕ) (form : DsfForm) : Type 0 where
  pub long : length (dsdiff f) ≡ whole_size (dsf_seen form)
  pub bytes : All (λ b. b < 256) (dsdiff f)

abbrev pub IsPlainOfTold : Option (List ℕ) → DsfForm → Type 0
IsPlainOfTold None form = Unit {0}
IsPlainOfTold (Some f) form = IsPlainOf f form

-- which has one proof at most
pub IsPlainOfTold-prop : (told : Option (List ℕ)) (form : DsfForm) → IsProp (IsPlainOfTold told form)
IsPlainOfTold-prop None form = Unit-prop
IsPlainOfTold-prop (Some f) form = Prim.hlevel props

-- so the size that is known is the number of bytes that are told, which are bytes
pub size_is_whole : (told : Option (List ℕ)) (form : DsfForm) (xs : List ℕ) (n : ℕ) → IsPlainOfTold told form → plain_of told ≡ Some xs →
    ◌≡◌ {A = Option ℕ} (Some (whole_size (dsf_seen form))) (Some n) → n ≡ length xs
size_is_whole None form xs n h told known = cc
size_is_whole (Some f) form xs n h told known =
    let same : dsdiff f ≡ xs = cc in
    let size : whole_size (dsf_seen form) ≡ n = cc in
    let long = rw same at h.long in
    cc

pub form_is_told : (told : Option (List ℕ)) (form : DsfForm) (xs : List ℕ) → IsPlainOfTold told form → plain_of told ≡ Some xs →
    AllByRecursion (λ b. b < 256) xs
form_is_told None form xs h told = absurd cc
form_is_told (Some f) form xs h told =
    let same : dsdiff f ≡ xs = cc in
    recursion_from_All (λ b. b < 256) xs (rw same at h.bytes)
