-- The symbol of a sample, from the entry of its prediction.
use Rattle.std.proofs.Common.{◌≡◌, ℕ, ◌+◌, ◌%◌, ◌≤◌, ℤ, Bool, true, false, not, if◌then◌else◌, nat_lt, List, ◌∷◌, length, subst₂, refl, ap, ap₂}
use Rattle.std.proofs.Common.{sym, ◌∙◌, arith}
use Rattle.std.proofs.lemmas.Bool.Decides.{nat_tests}
use Rattle.std.specs.Int.{is_negative}
use lib.Dec.{leb}
use mathlib.Core.Bool.{beq}
use Rattle.dst_spec.specs.Header.{bit_of}
use Rattle.byte_predictor.specs.Samples.{signed_sum}
use Rattle.byte_predictor.specs.Upward.{upward_sum}
use Rattle.dst_frames.specs.Tables.{prob_at, IsEntry, IsBuilt, symbol_after}
use Rattle.dst_frames.specs.Entries.{entry_for}
use Rattle.dst_frames.specs.declared.tables.ChannelTables.{ChannelTables}

pub high_is : (e : ℕ) → leb 128 e ≡ not (nat_lt e 128)
high_is e = grind (arith, nat_tests)

turned_back : (s negative : Bool) → s ≡ (if negative then not (beq s (not negative)) else beq s (not negative))
turned_back true true = refl
turned_back true false = refl
turned_back false true = refl
turned_back false false = refl

prob_of_entry : (early : Bool) (e low prob : ℕ) → low ≡ (if early then 127 else e % 128) → e % 128 + 1 ≡ prob → low + 1 ≡ (if early then 128 else prob)
prob_of_entry true e low prob is as_entered = ap (λ n. n + 1) is
prob_of_entry false e low prob is as_entered = ap (λ n. n + 1) is ∙ as_entered

pub symbol_is : (filter : List ℤ) (probs samples : List ℕ) (early s : Bool) (e low p : ℕ) → IsEntry (signed_sum filter samples) probs e →
    low ≡ (if early then 127 else e % 128) → p ≡ low + 1 →
    ◌≡◌ {A = Bool × ℕ} (s, p) (symbol_after filter probs early samples (beq s (leb 128 e)))
symbol_is filter probs samples early s e low p entry low_is p_is =
    let negative = is_negative (signed_sum filter samples) in
    let high : leb 128 e ≡ not negative = high_is e ∙ ap not entry.guess in
    let as_entered : p ≡ (if early then 128 else prob_at probs (signed_sum filter samples)) = p_is
    ∙ prob_of_entry early e low (prob_at probs (signed_sum filter samples)) low_is entry.prob in
    ap₂ (λ x y. (x, y)) (turned_back s negative ∙ ap (λ h. if negative then not (beq s h) else beq s h) (sym high)) as_entered

-- an entry that was looked up for one value of the sample before it
pub entry_behind : (filter : List ℤ) (probs samples : List ℕ) (half_prob b s : Bool) (tables : ChannelTables) (upward next : ℕ) →
    IsBuilt filter probs half_prob tables → 128 ≤ length samples →
    upward ≡ upward_sum tables.filter (bit_of b ∷ samples) → next ≡ entry_for tables.entries upward → s ≡ b →
    IsEntry (signed_sum filter (bit_of s ∷ samples)) probs next
entry_behind filter probs samples half_prob b s tables upward next built long sum is same =
    let whole = sum ∙ ap (λ coefs. upward_sum coefs (bit_of b ∷ samples)) built.filter_is in
    let entry = built.entries (bit_of b ∷ samples) (omega arith) in
    subst₂ (λ x e. IsEntry (signed_sum filter (bit_of x ∷ samples)) probs e) (sym same) (ap (entry_for tables.entries) (sym whole) ∙ sym is) entry
