-- The run is read four times on its way, at each order with the values of that order.
use Rattle.std.proofs.Common.{◌≡◌, ℤ, List, [], ◌∷◌, lit≤, ap, ◌∙◌}
use Rattle.filter_analyser.specs.Run.{padded}
use Rattle.filter_analyser.proofs.Padding.{padded-solution, begun}
use Rattle.filter_analyser.proofs.recursion.solve_all.Goals as goal

pub advance-requires-clause-at : goal.advance-requires-clause-at
advance-requires-clause-at c = c.begin-run.ensures ∙ begun c.args.lags.now

four : (a b c d e f g h : List ℤ) → a ≡ e → b ≡ f → c ≡ g → d ≡ h → a ∷ b ∷ c ∷ d ∷ [] ≡ e ∷ f ∷ g ∷ h ∷ []
four a b c d e f g h p q r s = cc

pub returns : goal.returns
returns c =
    let lags = c.args.lags.now in
    four _ _ _ _ _ _ _ _
    (c.padded.ensures ∙ ap (λ s. padded s.values) c.advance.ensures ∙ padded-solution lags 16 (lit≤ tt))
    (c.padded-2.ensures ∙ ap (λ s. padded s.values) c.advance-2.ensures ∙ padded-solution lags 32 (lit≤ tt))
    (c.padded-3.ensures ∙ ap (λ s. padded s.values) c.advance-3.ensures ∙ padded-solution lags 64 (lit≤ tt))
    (c.padded-4.ensures ∙ ap (λ s. padded s.values) c.advance-4.ensures ∙ padded-solution lags 128 (lit≤ tt))
