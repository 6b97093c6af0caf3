-- The answer of a command is known from its faults in the words of the report.
use Rattle.std.proofs.Common.{◌≡◌, ◌≢◌, ℕ, Result, Ok, Err, IfOk, OnOk, refl, ap, sym, ◌∙◌}
use Rattle.std.specs.declared.alloc.AllocError.{AllocError}
use Rattle.dst_spec.specs.declared.faults.FrameFault.{FrameFault}
use Rattle.dsdiff_chunks.specs.declared.open.OpenFault.{OpenFault}
use Rattle.dsdiff_chunks.specs.declared.open.OpenFault.TheVariants as opening
use Rattle.dst_read.specs.declared.faults.DecodeFault.{DecodeFault}
use Rattle.dst_read.specs.declared.faults.DecodeFault.TheVariants as decoding
use Rattle.dst_read.specs.declared.faults.CheckFault.{CheckFault}
use Rattle.dst_read.specs.declared.faults.CheckFault.TheVariants as checking
use Rattle.dst_show.specs.declared.faults.ShowFault.{ShowFault}
use Rattle.dst_show.specs.declared.faults.ShowFault.TheVariants as showing
use Rattle.dst_show.specs.declared.faults.ListFault.{ListFault}
use Rattle.dst_show.specs.declared.faults.ListFault.TheVariants as listing
use Rattle.dst_write.specs.declared.faults.EncodeFault.{EncodeFault}
use Rattle.dst_write.specs.declared.faults.EncodeFault.TheVariants as encoding
use Rattle.dst_cut.specs.declared.cut.CutFault.{CutFault}
use Rattle.dst_cut.specs.declared.cut.CutFault.TheVariants as cutting
use Rattle.dst_make.specs.declared.make.MakeFault.{MakeFault}
use Rattle.dst_make.specs.declared.make.MakeFault.TheVariants as making
use Rattle.dst_tool.specs.declared.making.RunFault.{RunFault}
use Rattle.dst_tool.specs.declared.making.RunFault.TheVariants as running
use Rattle.dst_tool.specs.declared.answers.Numbers.{Numbers}
use Rattle.dst_tool.specs.declared.answers.Fault.{Fault}
use Rattle.dst_tool.specs.declared.answers.Fault.TheVariants.{Read, Write, Memory, Report, File, Frame}
use Rattle.dst_tool.specs.Answers.{answered, of_check, of_cut, of_decode, of_encode, of_list, of_make, of_run, of_show, of_source}

-- what is done is so in these words too
pub if_answered : {A E : Type 0} (f : A → Numbers) (h : E → Fault) (r : Result A E) (P : Numbers → Type 0) → IfOk r (λ a. P (f a)) → IfOk (answered f h r) P
if_answered f h (Ok a) P is = is
if_answered f h (Err e) P is = tt {0}

-- so is what holds of a command that is done
pub if_done : {A E P : Type 0} (f : A → Numbers) (h : E → Fault) (r : Result A E) (s : Numbers) → answered f h r ≡ Ok s → OnOk r P → P
if_done f h (Ok a) s e is = is
if_done f h (Err x) s e is = absurd cc

-- a fault is the one that it came from
same_fault : (a b : Fault) → ◌≡◌ {A = Result Numbers Fault} (Err a) (Err b) → a ≡ b
same_fault a b e = cc

-- ---- what a command answered, in its own words and in those of the report
pub record IsAnsweredAs {A E : Type 0} (f : A → Numbers) (h : E → Fault) (back : Fault → E) (d : Result A E) (r : Result Numbers Fault) : Type 0 where
  pub is : r ≡ answered f h d
  pub again : (e : E) → back (h e) ≡ e

-- a fault of the report comes from that of the command
came_from : {A E : Type 0} (f : A → Numbers) (h : E → Fault) (back : Fault → E) → ((e : E) → back (h e) ≡ e) → (d : Result A E) (fault : Fault) →
    answered f h d ≡ Err fault → (d ≡ Err (back fault)) × (h (back fault) ≡ fault)
came_from f h back again (Ok a) fault e = absurd cc
came_from f h back again (Err x) fault e =
    let same = same_fault (h x) fault e in
    let from : x ≡ back fault = sym (again x) ∙ ap back same in
    (ap Err from, ap h (sym from) ∙ same)

pub own_fault : {A E : Type 0} {f : A → Numbers} {h : E → Fault} {back : Fault → E} {d : Result A E} {r : Result Numbers Fault} →
    IsAnsweredAs f h back d r → (fault : Fault) → r ≡ Err fault → d ≡ Err (back fault)
own_fault {A} {E} {f} {h} {back} {d} {r} t fault e = (came_from f h back t.again d fault (sym t.is ∙ e)).0

pub answered_again : {A E : Type 0} {f : A → Numbers} {h : E → Fault} {back : Fault → E} {d : Result A E} {r : Result Numbers Fault} →
    IsAnsweredAs f h back d r → (fault : Fault) → r ≡ Err fault → h (back fault) ≡ fault
answered_again {A} {E} {f} {h} {back} {d} {r} t fault e = (came_from f h back t.again d fault (sym t.is ∙ e)).1

-- what no fault of the command is answered as isn't answered
pub never_answered : {A E : Type 0} {f : A → Numbers} {h : E → Fault} {back : Fault → E} {d : Result A E} {r : Result Numbers Fault} →
    IsAnsweredAs f h back d r → (fault : Fault) → (h (back fault) ≢ fault) → r ≡ Err fault → ⊥
never_answered t fault other e = other (answered_again t fault e)

-- another fault is answered of another one
pub own_other : {A E : Type 0} {f : A → Numbers} {h : E → Fault} {back : Fault → E} {d : Result A E} {r : Result Numbers Fault} →
    IsAnsweredAs f h back d r → (x : E) (fault : Fault) → r ≡ Err fault → (fault ≢ h x) → back fault ≢ x
own_other {A} {E} {f} {h} {back} {d} {r} t x fault e other = λ same. other (sym (answered_again t fault e) ∙ ap h same)

-- ---- each command's own fault for one of the report
abbrev pub from_fault : {E : Type 0} → (OpenFault → E) → (ℕ → FrameFault → E) → E → Fault → E
from_fault source frame other Read = source opening.Read
from_fault source frame other (Memory refused) = source (opening.Memory refused)
from_fault source frame other (File fault) = source (opening.File fault)
from_fault source frame other (Frame k fault) = frame k fault
from_fault source frame other Write = other
from_fault source frame other Report = other

source_again : {E : Type 0} (source : OpenFault → E) (frame : ℕ → FrameFault → E) (other : E) (s : OpenFault) →
    from_fault source frame other (of_source s) ≡ source s
source_again source frame other opening.Read = refl
source_again source frame other (opening.Memory refused) = refl
source_again source frame other (opening.File fault) = refl

abbrev pub to_encode : Fault → EncodeFault
to_encode fault = from_fault encoding.Source (λ k refused. encoding.Write) encoding.Write fault

pub encode_again : (e : EncodeFault) → to_encode (of_encode e) ≡ e
encode_again (encoding.Source s) = source_again encoding.Source (λ k refused. encoding.Write) encoding.Write s
encode_again encoding.Write = refl

abbrev pub to_decode : Fault → DecodeFault
to_decode fault = from_fault decoding.Source (λ k refused. decoding.Frame k refused) decoding.Write fault

pub decode_again : (e : DecodeFault) → to_decode (of_decode e) ≡ e
decode_again (decoding.Source s) = source_again decoding.Source (λ k refused. decoding.Frame k refused) decoding.Write s
decode_again decoding.Write = refl
decode_again (decoding.Frame k fault) = refl

abbrev pub to_check : Fault → CheckFault
to_check fault = from_fault checking.Source (λ k refused. checking.Frame k refused) (checking.Source opening.Read) fault

pub check_again : (e : CheckFault) → to_check (of_check e) ≡ e
check_again (checking.Source s) = source_again checking.Source (λ k refused. checking.Frame k refused) (checking.Source opening.Read) s
check_again (checking.Frame k fault) = refl

abbrev pub to_show : Fault → ShowFault
to_show fault = from_fault showing.Source (λ k refused. showing.Frame k refused) showing.Report fault

pub show_again : (e : ShowFault) → to_show (of_show e) ≡ e
show_again (showing.Source s) = source_again showing.Source (λ k refused. showing.Frame k refused) showing.Report s
show_again showing.Report = refl
show_again (showing.Frame k fault) = refl

abbrev pub to_list : Fault → ListFault
to_list fault = from_fault listing.Source (λ k refused. listing.Report) listing.Report fault

pub list_again : (e : ListFault) → to_list (of_list e) ≡ e
list_again (listing.Source s) = source_again listing.Source (λ k refused. listing.Report) listing.Report s
list_again listing.Report = refl

abbrev pub to_cut : Fault → CutFault
to_cut fault = from_fault cutting.Source (λ k refused. cutting.Write) cutting.Write fault

pub cut_again : (e : CutFault) → to_cut (of_cut e) ≡ e
cut_again (cutting.Source s) = source_again cutting.Source (λ k refused. cutting.Write) cutting.Write s
cut_again cutting.Write = refl

-- making fails by its sink, or memory is refused
abbrev pub to_make : Fault → MakeFault
to_make (Memory refused) = making.Memory refused
to_make fault = making.Write

pub make_again : (e : MakeFault) → to_make (of_make e) ≡ e
make_again (making.Memory refused) = refl
make_again making.Write = refl

-- a run in memory fails by want of memory alone
pub ran_no_other : {A : Type 0} (f : A → Numbers) (r : Result A RunFault) (fault : Fault) → ((refused : AllocError) → fault ≢ Memory refused) →
    answered f of_run r ≡ Err fault → ⊥
ran_no_other f (Ok a) fault h e = absurd cc
ran_no_other f (Err (running.Memory refused)) fault h e = h refused (sym (same_fault (Memory refused) fault e))
