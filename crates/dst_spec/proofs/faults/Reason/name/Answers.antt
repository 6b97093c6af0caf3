-- Each name is that of its reason.
use Rattle.std.proofs.Common.{◌≡◌, ap, sym}
use Rattle.std.specs.Prelude.{codes}
use Rattle.dst_spec.specs.Reasons.{reason_name}
use Rattle.dst_spec.specs.declared.faults.Reason.{Reason}
use Rattle.dst_spec.proofs.faults.Reason.name.Goals as goal

same_name : {a b : Reason} → a ≡ b → codes (reason_name b) ≡ codes (reason_name a)
same_name e = ap (λ a. codes (reason_name a)) (sym e)

pub returns-in-Truncated-clause-name : goal.returns-in-Truncated-clause-name
returns-in-Truncated-clause-name c = same_name c.in-Truncated.is

pub returns-in-PlainStuffing-clause-name : goal.returns-in-PlainStuffing-clause-name
returns-in-PlainStuffing-clause-name c = same_name c.in-PlainStuffing.is

pub returns-in-MultiSegment-clause-name : goal.returns-in-MultiSegment-clause-name
returns-in-MultiSegment-clause-name c = same_name c.in-MultiSegment.is

pub returns-in-MapSkips-clause-name : goal.returns-in-MapSkips-clause-name
returns-in-MapSkips-clause-name c = same_name c.in-MapSkips.is

pub returns-in-MethodReserved-clause-name : goal.returns-in-MethodReserved-clause-name
returns-in-MethodReserved-clause-name c = same_name c.in-MethodReserved.is

pub returns-in-TableTooShort-clause-name : goal.returns-in-TableTooShort-clause-name
returns-in-TableTooShort-clause-name c = same_name c.in-TableTooShort.is

pub returns-in-CoefRange-clause-name : goal.returns-in-CoefRange-clause-name
returns-in-CoefRange-clause-name c = same_name c.in-CoefRange.is

pub returns-in-ProbRange-clause-name : goal.returns-in-ProbRange-clause-name
returns-in-ProbRange-clause-name c = same_name c.in-ProbRange.is

pub returns-in-FirstCodeBit-clause-name : goal.returns-in-FirstCodeBit-clause-name
returns-in-FirstCodeBit-clause-name c = same_name c.in-FirstCodeBit.is

pub returns-in-CodeRange-clause-name : goal.returns-in-CodeRange-clause-name
returns-in-CodeRange-clause-name c = same_name c.in-CodeRange.is
